-- No newline stands in the text of a label.
use Rattle.std.proofs.Common.{◌≡◌, ◌≢◌, ℕ, ◌+◌, ◌<◌, ◌^◌, true, inl, inr, List, [], ◌∷◌, ◌++◌, Some, sym, subst, codes, arith, slice_get}
use Rattle.std.specs.List.{list_all}
use Rattle.std.specs.Fmt.{decimal}
use Rattle.std.proofs.lemmas.Bool.Decides.{nat_tests}
use Rattle.std.proofs.lemmas.List.Sums.{list_all-from_AllPass}
use Rattle.dps_terms.specs.declared.Sym.{Sym}
use Rattle.dps_terms.specs.declared.PublicName.TheVariants.{Declared, At}
use Rattle.dps_terms.specs.Tree.{Leaf, public, private, var, ax, entry, rigid, Tree, Trees, leaf, app, none, more, count}
use Rattle.dps_terms.specs.Kinds.{AreBuiltOf}
use Rattle.dps_signature.specs.Signature.{Symbol, Signature, IsPublic}
use Rattle.dps_signature.specs.Names.{is_letter, is_name_byte, IsWord, IsSymbolText}
use Rattle.dps_signature.specs.Spelled.{IsSpelled}
use Rattle.dps_signature.specs.Text.{after_commas, texts_with, leaf_text, root_text, name_text, term_text}
use Rattle.dps_process.specs.Steps.{Label, inputs, outputs, overhears}
use Rattle.dps_trace.specs.Cut.{IsWithout}
use Rattle.dps_trace.specs.Text.{label_text}
use Rattle.dps_trace.specs.Written.{IsWrittenLeaf, IsWrittenSymbol, IsWrittenRecipe, IsWrittenLabel}
use Rattle.dps_trace.proofs.Digits.{AreDigits, decimal_digits}
use Rattle.dps_trace.proofs.WordsRead.{name_is, identifier, symbol_there, root_of, tuple_root}

pub without-append : (x : ℕ) (xs ys : List ℕ) → IsWithout x xs → IsWithout x ys → IsWithout x (xs ++ ys)
without-append x [] ys h k = k
without-append x (b ∷ xs) ys h k = (h.0, without-append x xs ys h.1 k)

name_byte : (b : ℕ) → is_name_byte b ≡ true → b ≢ 10
name_byte b h e = let f : is_name_byte 10 ≡ true = subst (λ x. is_name_byte x ≡ true) e h in cc

letter_byte : (b : ℕ) → is_letter b ≡ true → b ≢ 10
letter_byte b h e = let f : is_letter 10 ≡ true = subst (λ x. is_letter x ≡ true) e h in cc

name_bytes : (bs : List ℕ) → list_all is_name_byte bs ≡ true → IsWithout 10 bs
name_bytes [] h = tt
name_bytes (b ∷ bs) h =
    let both : (is_name_byte b ≡ true) × (list_all is_name_byte bs ≡ true) = grind (arith, nat_tests) in
    (name_byte b both.0, name_bytes bs both.1)

word_unbroken : (text : List ℕ) → IsWord text → IsWithout 10 text
word_unbroken [] h = absurd h
word_unbroken (b ∷ bs) h = (letter_byte b h.0, name_bytes bs (list_all-from_AllPass is_name_byte bs h.1))

digits_unbroken : (bs : List ℕ) → AreDigits bs → IsWithout 10 bs
digits_unbroken [] h = tt
digits_unbroken (b ∷ bs) h = ((λ e. omega (arith, e, h.0)), digits_unbroken bs h.2)

decimal_unbroken : (n : ℕ) → n < 2 ^ 64 → IsWithout 10 (decimal n)
decimal_unbroken n small = digits_unbroken (decimal n) (decimal_digits n small)

module _ (S : Signature) (spelled : IsSpelled S) where
  name_unbroken : (n : ℕ) → IsPublic S n → IsWithout 10 (name_text S n)
  name_unbroken n h = subst (IsWithout 10) (sym (name_is S spelled n h)) (word_unbroken h.0 (identifier S spelled n h).word)

  leaf_unbroken : (x : Leaf) → IsWrittenLeaf S x → IsWithout 10 (leaf_text S x)
  leaf_unbroken (public (Declared n)) h = name_unbroken n h
  leaf_unbroken (public (At k)) h = ((λ e. omega (arith, e)), decimal_unbroken k h)
  leaf_unbroken (private n) h = absurd h
  leaf_unbroken (var n) h = absurd h
  leaf_unbroken (ax j) h = ((λ e. omega (arith, e)), ((λ e. omega (arith, e)), decimal_unbroken j (omega (arith, h.1))))
  leaf_unbroken (entry n) h = absurd h
  leaf_unbroken (rigid n) h = absurd h

  root_unbroken : (f : Sym) (n : ℕ) → IsWrittenSymbol S f n → IsWithout 10 (root_text S f)
  root_unbroken f n h = by_text there.0 there.1.0 (spelled.symbol_texts f.number there.0 there.1.0)
    where
      there : (s : Symbol) × ((slice_get S.symbols f.number ≡ Some s) × (s.arity ≡ n))
      there = symbol_there S spelled f n h.0

      by_text : (s : Symbol) → slice_get S.symbols f.number ≡ Some s → IsSymbolText s.name s.kind s.arity → IsWithout 10 (root_text S f)
      by_text s e (inl i) = subst (IsWithout 10) (sym (root_of S spelled f s e i)) (word_unbroken s.name i.word)
      by_text s e (inr t) = subst (IsWithout 10) (sym (tuple_root S spelled f s s.arity e t.named)) tt

  mutual
    recipe_unbroken : (t : Tree) → IsWrittenRecipe S t → IsWithout 10 (term_text S t)
    recipe_unbroken (leaf x) h = leaf_unbroken x h
    recipe_unbroken (app f none) h = without-append 10 (root_text S f) [] (root_unbroken f 0 h.0) tt
    recipe_unbroken (app f (more t ts)) h =
        without-append 10 (root_text S f) (40 ∷ (term_text S t ++ (after_commas (texts_with (leaf_text S) S ts) ++ 41 ∷ [])))
        (root_unbroken f (1 + count ts) h.0) (
          (λ e. omega (arith, e)),
          without-append 10 (term_text S t) (after_commas (texts_with (leaf_text S) S ts) ++ 41 ∷ []) (recipe_unbroken t h.1.0)
              (without-append 10 (after_commas (texts_with (leaf_text S) S ts)) (41 ∷ []) (recipes_unbroken ts h.1.1) ((λ e. omega (arith, e)), tt)),
        )

    recipes_unbroken : (ts : Trees) → AreBuiltOf (IsWrittenLeaf S) (IsWrittenSymbol S) ts → IsWithout 10 (after_commas (texts_with (leaf_text S) S ts))
    recipes_unbroken none h = tt
    recipes_unbroken (more t ts) h =
        ((λ e. omega (arith, e)), without-append 10 (term_text S t) (after_commas (texts_with (leaf_text S) S ts)) (recipe_unbroken t h.0) (recipes_unbroken ts h.1))

  pub label_unbroken : (a : Label) → IsWrittenLabel S a → IsWithout 10 (label_text S a)
  label_unbroken (inputs c r) h =
      without-append 10 (codes "in(") (name_text S c ++ (44 ∷ (term_text S r ++ 41 ∷ []))) opening
      (without-append 10 (name_text S c) (44 ∷ (term_text S r ++ 41 ∷ [])) (name_unbroken c h.0)
      ((λ e. omega (arith, e)), without-append 10 (term_text S r) (41 ∷ []) (recipe_unbroken r h.1) ((λ e. omega (arith, e)), tt)))
    where
      opening : IsWithout 10 (codes "in(")
      opening = ((λ e. omega (arith, e)), ((λ e. omega (arith, e)), ((λ e. omega (arith, e)), tt)))
  label_unbroken (outputs c j) h =
      without-append 10 (codes "out(") (name_text S c ++ (codes ",ax" ++ (decimal j ++ 41 ∷ []))) opening
      (without-append 10 (name_text S c) (codes ",ax" ++ (decimal j ++ 41 ∷ [])) (name_unbroken c h.0)
      (without-append 10 (codes ",ax") (decimal j ++ 41 ∷ []) handle
      (without-append 10 (decimal j) (41 ∷ []) (decimal_unbroken j (omega (arith, h.2))) ((λ e. omega (arith, e)), tt))))
    where
      opening : IsWithout 10 (codes "out(")
      opening = ((λ e. omega (arith, e)), ((λ e. omega (arith, e)), ((λ e. omega (arith, e)), ((λ e. omega (arith, e)), tt))))

      handle : IsWithout 10 (codes ",ax")
      handle = ((λ e. omega (arith, e)), ((λ e. omega (arith, e)), ((λ e. omega (arith, e)), tt)))
  label_unbroken (overhears c j) h = absurd h
