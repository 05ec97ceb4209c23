-- Reading a recipe from its text's end on: what was read and what is left stay the whole.
use Rattle.std.proofs.Common.{◌≡◌, ℕ, Bool, true, false, List, [], ◌∷◌, ◌++◌, Option, Some, None, refl, ap, sym, ◌∙◌, length, drop, append_assoc, if◌then◌else◌}
use Rattle.std.proofs.lemmas.List.{append-nil}
use Rattle.std.proofs.Math.Seq.{drop-append_seam}
use Rattle.dps_terms.specs.Tree.{Tree}
use Rattle.dps_signature.specs.Signature.{Signature}
use Rattle.dps_trace.specs.Told.{told}
use Rattle.dps_trace.specs.Scanning.{Reading, Scan, start, scanned, with_byte, with_word, with_sign, between, is_sign, finished, read_whole, recipe_read}
use Rattle.dps_trace.proofs.Scanned.{scanned-append, no_sign}

-- what scanning begins with
abbrev pub begun : Option Scan
begun = Some (record { word = []; reading = start })

-- the bytes behind what is unread, up to the last sign, are a word's end; behind that sign all was read
pub record IsRead (S : Signature) (text front unread : List ℕ) (reading : Reading) : Type 0 where
  pub word : List ℕ
  pub front_is : front ≡ unread ++ word
  pub same : scanned S unread (Some (record { word = word; reading = reading })) ≡ scanned S text begun

pub none_read : (S : Signature) (text : List ℕ) (reading : Reading) → reading ≡ start → IsRead S text text text reading
none_read S text reading e = record { word = []; front_is = sym (append-nil text); same = ap (λ r. scanned S text (Some (record { word = []; reading = r }))) e }

-- a byte of a word
pub letter_read :
    (S : Signature) (text front unread before : List ℕ) (reading : Reading) (b : ℕ) → IsRead S text front unread reading → unread ≡ before ++ (b ∷ [])
    → is_sign b ≡ false → IsRead S text front before reading
letter_read S text front unread before reading b h e not_so =
    record {
      word = b ∷ h.word;
      front_is = h.front_is ∙ ap (λ u. u ++ h.word) e ∙ append_assoc before (b ∷ []) h.word;
      same =
          ap (scanned S before) (sym (no_sign S b h.word reading not_so))
          ∙ sym (scanned-append S before (b ∷ []) (Some (record { word = h.word; reading = reading })))
          ∙ ap (λ u. scanned S u (Some (record { word = h.word; reading = reading }))) (sym e)
          ∙ h.same;
    }

-- the word behind what is unread
pub word_behind : (S : Signature) (text front unread : List ℕ) (reading : Reading) (h : IsRead S text front unread reading) → drop (length unread) front ≡ h.word
word_behind S text front unread reading h = ap (drop (length unread)) h.front_is ∙ drop-append_seam unread h.word

at_sign : (S : Signature) (b : ℕ) (w : List ℕ) (r : Reading) → is_sign b ≡ true → with_byte S b (Some (record { word = w; reading = r })) ≡ between (with_sign S b w r)
at_sign S b w r e = ap (λ t. if t then between (with_sign S b w r) else Some (record { word = b ∷ w; reading = r })) e

before_sign :
    (S : Signature) (text front unread before : List ℕ) (reading : Reading) (b : ℕ) (h : IsRead S text front unread reading) → unread ≡ before ++ (b ∷ [])
    → is_sign b ≡ true → scanned S before (between (with_sign S b (drop (length unread) front) reading)) ≡ scanned S text begun
before_sign S text front unread before reading b h e is_so =
    ap (λ w. scanned S before (between (with_sign S b w reading))) (word_behind S text front unread reading h)
    ∙ ap (scanned S before) (sym (at_sign S b h.word reading is_so))
    ∙ sym (scanned-append S before (b ∷ []) (Some (record { word = h.word; reading = reading })))
    ∙ ap (λ u. scanned S u (Some (record { word = h.word; reading = reading }))) (sym e)
    ∙ h.same

told_yes : (c : Bool) (next : Reading) (x : Option Reading) → c ≡ true → told c next ≡ x → Some next ≡ x
told_yes c next x is_so e = ap (λ d. told d next) (sym is_so) ∙ e

told_no : (c : Bool) (next : Reading) (x : Option Reading) → c ≡ false → told c next ≡ x → None ≡ x
told_no c next x not_so e = ap (λ d. told d next) (sym not_so) ∙ e

-- a sign
pub sign_read :
    (S : Signature) (text front unread before word : List ℕ) (reading next : Reading) (b : ℕ) (c : Bool) → IsRead S text front unread reading → unread ≡ before ++ (b ∷ [])
    → is_sign b ≡ true → word ≡ drop (length unread) front → told c next ≡ with_sign S b word reading → c ≡ true → IsRead S text before before next
sign_read S text front unread before word reading next b c h e is_so w told_is is_true =
    let n : Some next ≡ with_sign S b word reading = told_yes c next (with_sign S b word reading) is_true told_is in
    record {
      word = [];
      front_is = sym (append-nil before);
      same = ap (λ x. scanned S before (between x)) (n ∙ ap (λ v. with_sign S b v reading) w) ∙ before_sign S text front unread before reading b h e is_so;
    }

none_scanned : (S : Signature) (bytes : List ℕ) → scanned S bytes None ≡ None
none_scanned S [] = refl
none_scanned S (b ∷ bytes) = ap (with_byte S b) (none_scanned S bytes)

-- a sign that may not stand there
pub sign_refused :
    (S : Signature) (text front unread before word : List ℕ) (reading next : Reading) (b : ℕ) (c : Bool) → IsRead S text front unread reading → unread ≡ before ++ (b ∷ [])
    → is_sign b ≡ true → word ≡ drop (length unread) front → told c next ≡ with_sign S b word reading → c ≡ false → None ≡ recipe_read S text
sign_refused S text front unread before word reading next b c h e is_so w told_is is_false =
    let n : None ≡ with_sign S b word reading = told_no c next (with_sign S b word reading) is_false told_is in
    ap (read_whole S)
    (sym (none_scanned S before) ∙ ap (λ x. scanned S before (between x)) (n ∙ ap (λ v. with_sign S b v reading) w) ∙ before_sign S text front unread before reading b h e is_so)

-- nothing is unread
pub whole_read : (S : Signature) (text front unread : List ℕ) (reading : Reading) → IsRead S text front unread reading → unread ≡ [] → recipe_read S text ≡ finished (with_word S front reading)
whole_read S text front unread reading h e =
    sym (ap (read_whole S) (sym (ap (λ u. scanned S u (Some (record { word = h.word; reading = reading }))) e) ∙ h.same))
    ∙ ap (λ w. finished (with_word S w reading)) (sym (h.front_is ∙ ap (λ u. u ++ h.word) e))

-- the last word
pub last_read :
    (S : Signature) (text front unread : List ℕ) (reading next : Reading) (c : Bool) (found : Option Tree) → IsRead S text front unread reading → unread ≡ []
    → told c next ≡ with_word S front reading → c ≡ true → found ≡ finished (Some next) → found ≡ recipe_read S text
last_read S text front unread reading next c found h e told_is is_true f =
    f ∙ ap finished (told_yes c next (with_word S front reading) is_true told_is) ∙ sym (whole_read S text front unread reading h e)

pub last_refused :
    (S : Signature) (text front unread : List ℕ) (reading next : Reading) (c : Bool) → IsRead S text front unread reading → unread ≡ []
    → told c next ≡ with_word S front reading → c ≡ false → None ≡ recipe_read S text
last_refused S text front unread reading next c h e told_is is_false =
    ap finished (told_no c next (with_word S front reading) is_false told_is) ∙ sym (whole_read S text front unread reading h e)

pub ruleset for_recipe_read = (none_read, letter_read, sign_read, sign_refused, last_read, last_refused)
