-- The text of a recipe is scanned as this recipe, where its words are.
use Rattle.std.proofs.Common.{◌≡◌, ℕ, suc, ◌+◌, ◌<◌, ◌≤◌, false, List, [], ◌∷◌, ◌++◌, Option, Some, None, refl, ap, ◌∙◌, arith, append_assoc, length-append, length, take, drop, codes}
use Rattle.std.specs.Prelude.{⊤, if◌then◌else◌}
use Rattle.std.proofs.lemmas.Bool.Decides.{nat_tests}
use Rattle.std.proofs.lemmas.List.{append-nil}
use Rattle.dps_terms.specs.declared.Sym.{Sym}
use Rattle.dps_terms.specs.Tree.{Leaf, Tree, Trees, leaf, app, none, more, count, list_of, trees}
use Rattle.dps_signature.specs.Signature.{Signature}
use Rattle.dps_signature.specs.Text.{after_commas, texts_with, leaf_text, root_text, term_text}
use Rattle.dps_terms.specs.Kinds.{IsBuiltOf, AreBuiltOf}
use Rattle.dps_trace.specs.Scanning.{Reading, Scan, scanned, with_byte, with_word, with_sign, behind_word, between, is_sign, finished, read_whole, recipe_read}

pub scanned-append : (S : Signature) (xs ys : List ℕ) (st : Option Scan) → scanned S (xs ++ ys) st ≡ scanned S xs (scanned S ys st)
scanned-append S [] ys st = refl
scanned-append S (x ∷ xs) ys st = ap (with_byte S x) (scanned-append S xs ys st)

-- no sign stands in it
abbrev pub IsUnsigned : List ℕ → Type 0
IsUnsigned [] = ⊤
IsUnsigned (b ∷ bs) = (is_sign b ≡ false) × IsUnsigned bs

pub no_sign : (S : Signature) (b : ℕ) (w : List ℕ) (r : Reading) → is_sign b ≡ false → with_byte S b (Some (record { word = w; reading = r })) ≡ Some (record { word = b ∷ w; reading = r })
no_sign S b w r e = ap (λ t. if t then between (with_sign S b w r) else Some (record { word = b ∷ w; reading = r })) e

pub word_scanned : (S : Signature) (w v : List ℕ) (r : Reading) → IsUnsigned w → scanned S w (Some (record { word = v; reading = r })) ≡ Some (record { word = w ++ v; reading = r })
word_scanned S [] v r h = refl
word_scanned S (b ∷ bs) v r h = ap (with_byte S b) (word_scanned S bs v r h.1) ∙ no_sign S b (bs ++ v) r h.0

-- the reading once the word in front was read
abbrev pub flushed : Signature → Option Scan → Option Reading
flushed S None = None
flushed S (Some scan) = with_word S scan.word scan.reading

at_comma : (S : Signature) (x : Option Scan) → with_byte S 44 x ≡ between (behind_word 44 (flushed S x))
at_comma S None = refl
at_comma S (Some scan) = refl

at_opening : (S : Signature) (x : Option Scan) → with_byte S 40 x ≡ between (behind_word 40 (flushed S x))
at_opening S None = refl
at_opening S (Some scan) = refl

-- no word has begun, and no bracket comes behind it
abbrev pub fresh : List ℕ → List Tree → Option Scan
fresh ks ts = Some (record { word = []; reading = record { brackets = ks; arity = 0; terms = ts } })

abbrev pub settled : List ℕ → List Tree → Option Reading
settled ks ts = Some (record { brackets = ks; arity = 0; terms = ts })

one_on : (n : ℕ) → 1 + n ≡ suc n
one_on n = omega arith

trees-list_of : (ts : Trees) → trees (list_of ts) ≡ ts
trees-list_of none = refl
trees-list_of (more t ts) = ap (more t) (trees-list_of ts)

length-list_of : (ts : Trees) → length (list_of ts) ≡ count ts
length-list_of none = refl
length-list_of (more t ts) = omega (arith, length-list_of ts)

taken : (ts : Trees) (us : List Tree) → take (count ts) (list_of ts ++ us) ≡ list_of ts
taken none us = refl
taken (more t ts) us = ap (λ k. take k (t ∷ (list_of ts ++ us))) (one_on (count ts)) ∙ ap (λ xs. t ∷ xs) (taken ts us)

dropped : (ts : Trees) (us : List Tree) → drop (count ts) (list_of ts ++ us) ≡ us
dropped none us = refl
dropped (more t ts) us = ap (λ k. drop k (t ∷ (list_of ts ++ us))) (one_on (count ts)) ∙ dropped ts us

one_more : (k : ℕ) (ks : List ℕ) (us : List Tree) → k < 8 → between (behind_word 44 (settled (k ∷ ks) us)) ≡ fresh ((1 + k) ∷ ks) us
one_more k ks us low = grind (arith, nat_tests)

module _ (S : Signature) (L : Leaf → Type 0) (F : Sym → ℕ → Type 0) where
  -- what is asked of words: a leaf's text is read as it, and a root's as it
  pub record AreRead : Type 0 where
    pub leaf_unsigned : (x : Leaf) → L x → IsUnsigned (leaf_text S x)
    pub leaf_is : (x : Leaf) (ks : List ℕ) (us : List Tree) → L x → with_word S (leaf_text S x) (record { brackets = ks; arity = 0; terms = us }) ≡ settled ks (leaf x ∷ us)
    pub root_unsigned : (f : Sym) (n : ℕ) → F f n → IsUnsigned (root_text S f)
    pub root_few : (f : Sym) (n : ℕ) → F f n → n ≤ 8
    pub root_is :
        (f : Sym) (n : ℕ) (ks : List ℕ) (us : List Tree) → F f n → n ≤ length us
        → with_word S (root_text S f) (record { brackets = ks; arity = n; terms = us }) ≡ settled ks (app f (trees (take n us)) ∷ drop n us)

  module _ (read : AreRead) where
    -- the symbol over terms that were read
    root_scanned :
        (f : Sym) (ts : Trees) (ks : List ℕ) (us : List Tree) (n : ℕ) → n ≡ count ts → F f n
        → flushed S (scanned S (root_text S f) (Some (record { word = []; reading = record { brackets = ks; arity = n; terms = list_of ts ++ us } }))) ≡ settled ks (app f ts ∷ us)
    root_scanned f ts ks us n e h =
        ap (flushed S) (word_scanned S (root_text S f) [] (record { brackets = ks; arity = n; terms = list_of ts ++ us }) (read.root_unsigned f n h))
        ∙ ap (λ w. with_word S w (record { brackets = ks; arity = n; terms = list_of ts ++ us })) (append-nil (root_text S f))
        ∙ read.root_is f n ks (list_of ts ++ us) h (omega (arith, e, length-list_of ts, length-appended))
        ∙ ap (λ k. settled ks (app f (trees (take k (list_of ts ++ us))) ∷ drop k (list_of ts ++ us))) e
        ∙ ap (λ xs. settled ks (app f (trees xs) ∷ drop (count ts) (list_of ts ++ us))) (taken ts us)
        ∙ ap (λ xs. settled ks (app f (trees (list_of ts)) ∷ xs)) (dropped ts us)
        ∙ ap (λ xs. settled ks (app f xs ∷ us)) (trees-list_of ts)
      where
        length-appended : length (list_of ts ++ us) ≡ length (list_of ts) + length us
        length-appended = length-append (list_of ts) us

    mutual
      pub tree_scanned : (t : Tree) (ks : List ℕ) (us : List Tree) → IsBuiltOf L F t → flushed S (scanned S (term_text S t) (fresh ks us)) ≡ settled ks (t ∷ us)
      tree_scanned (leaf x) ks us h =
          ap (flushed S) (word_scanned S (leaf_text S x) [] (record { brackets = ks; arity = 0; terms = us }) (read.leaf_unsigned x h))
          ∙ ap (λ w. with_word S w (record { brackets = ks; arity = 0; terms = us })) (append-nil (leaf_text S x))
          ∙ read.leaf_is x ks us h
      tree_scanned (app f none) ks us h =
          ap (λ w. flushed S (scanned S w (fresh ks us))) (append-nil (root_text S f))
          ∙ root_scanned f none ks us 0 refl h.0
      tree_scanned (app f (more t ts)) ks us h =
          ap (flushed S) (scanned-append S (root_text S f) (codes "(" ++ (term_text S t ++ (after_commas (texts_with (leaf_text S) S ts) ++ codes ")"))) (fresh ks us))
          ∙ ap (λ x. flushed S (scanned S (root_text S f) x))
          (at_opening S (scanned S (term_text S t ++ (after_commas (texts_with (leaf_text S) S ts) ++ codes ")")) (fresh ks us))
          ∙ ap (λ x. between (behind_word 40 x))
          (ap (flushed S) (scanned-append S (term_text S t) (after_commas (texts_with (leaf_text S) S ts) ++ codes ")") (fresh ks us))
          ∙ ap (λ x. flushed S (scanned S (term_text S t) x)) (rest_scanned ts ks us few h.1.1)
          ∙ tree_scanned t ((1 + count ts) ∷ ks) (list_of ts ++ us) h.1.0))
          ∙ root_scanned f (more t ts) ks us (1 + count ts) refl h.0
        where
          few : (1 + count ts) ≤ 8
          few = read.root_few f (1 + count ts) h.0

      -- the terms behind the first one, from the closing bracket on
      rest_scanned :
          (ts : Trees) (ks : List ℕ) (us : List Tree) → (1 + count ts) ≤ 8 → AreBuiltOf L F ts
          → scanned S (after_commas (texts_with (leaf_text S) S ts) ++ codes ")") (fresh ks us) ≡ fresh ((1 + count ts) ∷ ks) (list_of ts ++ us)
      rest_scanned none ks us few h = refl
      rest_scanned (more t ts) ks us few h =
          ap (λ w. scanned S (44 ∷ w) (fresh ks us)) (append_assoc (term_text S t) (after_commas (texts_with (leaf_text S) S ts)) (codes ")"))
          ∙ at_comma S (scanned S (term_text S t ++ (after_commas (texts_with (leaf_text S) S ts) ++ codes ")")) (fresh ks us))
          ∙ ap (λ x. between (behind_word 44 x))
          (ap (flushed S) (scanned-append S (term_text S t) (after_commas (texts_with (leaf_text S) S ts) ++ codes ")") (fresh ks us))
          ∙ ap (λ x. flushed S (scanned S (term_text S t) x)) (rest_scanned ts ks us (omega (arith, few)) h.1)
          ∙ tree_scanned t ((1 + count ts) ∷ ks) (list_of ts ++ us) h.0)
          ∙ one_more (1 + count ts) ks (t ∷ (list_of ts ++ us)) (omega (arith, few))

    -- the whole text
    pub recipe_scanned : (t : Tree) → IsBuiltOf L F t → recipe_read S (term_text S t) ≡ Some t
    recipe_scanned t h = whole (scanned S (term_text S t) (fresh [] [])) ∙ ap finished (tree_scanned t [] [] h)
      where
        whole : (x : Option Scan) → read_whole S x ≡ finished (flushed S x)
        whole None = refl
        whole (Some scan) = refl
