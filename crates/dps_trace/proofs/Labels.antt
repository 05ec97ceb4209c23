-- What a label's line is made of.
use Rattle.std.proofs.Common.{◌≡◌, ℕ, ◌<◌, ◌≤◌, ◌^◌, List, [], ◌∷◌, ◌++◌, Some, None, refl, ap, sym, subst, ◌∙◌, arith, get_or, drop, length, length-append}
use Rattle.std.specs.Fmt.{decimal}
use Rattle.std.specs.List.{IsLastAndRest}
use Rattle.std.proofs.lemmas.Option.{none-some}
use Rattle.dps_terms.specs.Tree.{Tree}
use Rattle.dps_signature.specs.Signature.{Signature, IsPublic}
use Rattle.dps_signature.specs.Text.{name_text, term_text}
use Rattle.dps_trace.specs.Cut.{IsCut, IsWithout}
use Rattle.dps_signature.specs.Spelled.{IsSpelled}
use Rattle.dps_trace.specs.Written.{IsWrittenLeaf, IsWrittenSymbol, IsWrittenRecipe}
use Rattle.dps_trace.specs.Scanning.{public_named, handle_read, handle_of, recipe_read}
use Rattle.dps_trace.proofs.Cuts.{one_cut, stands_there, unsigned_without}
use Rattle.dps_trace.proofs.Digits.{numeral-decimal}
use Rattle.dps_trace.proofs.Scanned.{recipe_scanned}
use Rattle.dps_trace.proofs.Sound.{named_over}
use Rattle.dps_trace.proofs.Spelling.{word_bytes}
use Rattle.dps_trace.proofs.WordsRead.{name_is, identifier, public_read, in_range, all_read}

-- a recipe is read from its text
pub text_read : (S : Signature) (spelled : IsSpelled S) (r : Tree) → IsWrittenRecipe S r → recipe_read S (term_text S r) ≡ Some r
text_read S spelled r h = recipe_scanned S (IsWrittenLeaf S) (IsWrittenSymbol S) (all_read S spelled) r h

-- a handle is read from its text
pub handle_is : (S : Signature) (spelled : IsSpelled S) (j : ℕ) → 1 ≤ j → j < 2 ^ 32 → handle_read (97 ∷ 120 ∷ decimal j) ≡ Some j
handle_is S spelled j low high = ap handle_of (numeral-decimal j (omega arith)) ∙ in_range S spelled j low high

pub name_without : (S : Signature) (spelled : IsSpelled S) (c : ℕ) → IsPublic S c → IsWithout 44 (name_text S c)
name_without S spelled c h = subst (IsWithout 44) (sym (name_is S spelled c h)) (unsigned_without h.0 (word_bytes h.0 (identifier S spelled c h).word).0)

-- the channel is what stands before the first comma
pub channel_is :
    (S : Signature) (spelled : IsSpelled S) (c : ℕ) (rest text front behind : List ℕ) → IsPublic S c → text ≡ name_text S c ++ (44 ∷ rest) → IsCut 44 text front behind
    → (public_named S front ≡ Some c) × (behind ≡ rest)
channel_is S spelled c rest text front behind h e cut =
    let k = one_cut 44 front (name_text S c) behind rest cut.without (name_without S spelled c h) (sym cut.whole ∙ e) in
    (ap (public_named S) (k.0 ∙ name_is S spelled c h) ∙ public_read S spelled c h, k.1)

pub comma_there : (S : Signature) (c : ℕ) (rest text : List ℕ) → text ≡ name_text S c ++ (44 ∷ rest) → IsWithout 44 text → ⊥
comma_there S c rest text e h = stands_there 44 (name_text S c) rest (subst (IsWithout 44) e h)

-- what is behind that comma, without its last byte
pub inside_is :
    (S : Signature) (spelled : IsSpelled S) (c : ℕ) (within text front behind rest : List ℕ) (last : ℕ) → IsPublic S c → text ≡ name_text S c ++ (44 ∷ within ++ 41 ∷ [])
    → IsCut 44 text front behind → behind ≡ rest ++ (last ∷ []) → (public_named S front ≡ Some c) × (rest ≡ within)
inside_is S spelled c within text front behind rest last h e cut l =
    let k = channel_is S spelled c (within ++ 41 ∷ []) text front behind h e cut in
    (k.0, last_two rest within last 41 (sym l ∙ k.1))
  where
    last_two : (r s : List ℕ) (x y : ℕ) → r ++ (x ∷ []) ≡ s ++ (y ∷ []) → r ≡ s
    last_two [] [] x y f = refl
    last_two [] (b ∷ []) x y f = cc
    last_two [] (b ∷ d ∷ s) x y f = cc
    last_two (a ∷ r) (b ∷ s) x y f = ap (λ z. z ∷ r) (ap (λ xs. get_or xs 0 0) f) ∙ ap (λ zs. b ∷ zs) (last_two r s x y (ap (drop 1) f))
    last_two (a ∷ []) [] x y f = cc
    last_two (a ∷ d ∷ r) [] x y f = cc

-- what the parts of a label's text give

pub channel_public : (S : Signature) (front : List ℕ) (n : ℕ) → Some n ≡ public_named S front → IsPublic S n
channel_public S front n e = named_over S front n (sym e)

-- no comma
pub no_channel :
    (S : Signature) (c : ℕ) (within text : List ℕ) → IsWithout 44 text → text ≡ name_text S c ++ (44 ∷ within ++ 41 ∷ []) → ⊥
no_channel S c within text h e = comma_there S c (within ++ 41 ∷ []) text e h

-- what is before the comma is no public channel
pub unknown_channel :
    (S : Signature) (spelled : IsSpelled S) (c : ℕ) (within text front behind : List ℕ) → IsCut 44 text front behind → None ≡ public_named S front → IsPublic S c
    → text ≡ name_text S c ++ (44 ∷ within ++ 41 ∷ []) → ⊥
unknown_channel S spelled c within text front behind cut none h e =
    none-some c (none ∙ (channel_is S spelled c (within ++ 41 ∷ []) text front behind h e cut).0)

-- nothing is behind the comma
pub nothing_behind :
    (S : Signature) (spelled : IsSpelled S) (c : ℕ) (within text front behind : List ℕ) → IsCut 44 text front behind → length behind ≡ 0 → IsPublic S c
    → text ≡ name_text S c ++ (44 ∷ within ++ 41 ∷ []) → ⊥
nothing_behind S spelled c within text front behind cut none h e =
    let f = (channel_is S spelled c (within ++ 41 ∷ []) text front behind h e cut).1 in
    omega (arith, none, ap length f, length-append within (41 ∷ []))

-- the channel, and what is behind the comma without its last byte
pub both_parts :
    (S : Signature) (spelled : IsSpelled S) (c n : ℕ) (within text front behind rest : List ℕ) (last : ℕ) → IsCut 44 text front behind → Some n ≡ public_named S front
    → IsLastAndRest behind last rest → IsPublic S c → text ≡ name_text S c ++ (44 ∷ within ++ 41 ∷ []) → (n ≡ c) × (rest ≡ within)
both_parts S spelled c n within text front behind rest last cut some l h e =
    let k = inside_is S spelled c within text front behind rest last h e cut l.0 in
    let same : Some n ≡ Some c = some ∙ k.0 in
    (unsome n c same, k.1)
  where
    unsome : (x y : ℕ) → Some x ≡ Some y → x ≡ y
    unsome x y f = cc

pub ruleset for_split_channel = (channel_public, no_channel, unknown_channel, nothing_behind, both_parts)
