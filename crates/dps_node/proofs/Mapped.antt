-- Lists that are mapped element by element.
use Rattle.std.proofs.Common.{◌≡◌, ℕ, zero, suc, ◌+◌, ◌<◌, List, [], ◌∷◌, ◌++◌, length, get_or, take, map, refl, ap, sym, subst, ◌∙◌, arith}
use Rattle.std.specs.Prelude.{All}
use Rattle.std.specs.List.{range_with_len, AllZip}
use Rattle.std.proofs.lemmas.List.{map-append, map-id}
use Rattle.std.proofs.lemmas.List.FromFn.{map-range_with_len_more}
use Rattle.std.proofs.lemmas.List.Elements.{filter_map-append, AllZip-push, All-head, All-tail}
use Rattle.dps_terms.specs.Tree.{Tree}
use Rattle.dps_renewal.specs.Putting.{changes}
use Rattle.dps_renewal.proofs.EachOnce.{one_more}

pub mapped_more :
    {A B : Type 0} (f : A → B) (xs : List A) (i : ℕ) (d : A) (old new : List B) (v : B) → i < length xs → new ≡ old ++ v ∷ []
    → v ≡ f (get_or xs i d) → old ≡ map f (take i xs) → new ≡ map f (take (i + 1) xs)
mapped_more f xs i d old new v l e w o =
    e ∙ ((λ k. o k ++ w k ∷ []) ∙ sym (ap (map f) (one_more xs i d l) ∙ map-append f (take i xs) (get_or xs i d ∷ [])))

-- the changes of one variable more
pub changes_more :
    (by : List (ℕ × Tree)) (xs : List ℕ) (i : ℕ) (old new : List (Tree × Tree)) → i < length xs
    → new ≡ old ++ changes by (get_or xs i 0 ∷ []) → old ≡ changes by (take i xs) → new ≡ changes by (take (i + 1) xs)
changes_more by xs i old new l e o =
    e ∙ (ap (λ ps. ps ++ changes by (get_or xs i 0 ∷ [])) o ∙ sym (ap (changes by) (one_more xs i 0 l) ∙ filter_map-append _ (take i xs) (get_or xs i 0 ∷ [])))

-- one number more
pub counted_more : (a n k : ℕ) (old new : List ℕ) → k ≡ a + n → new ≡ old ++ k ∷ [] → old ≡ range_with_len a n → new ≡ range_with_len a (n + 1)
counted_more a n k old new s e o =
    e
    ∙ ((λ j. o j ++ s j ∷ [])
    ∙ sym (sym (map-id (range_with_len a (n + 1))) ∙ (map-range_with_len_more (λ x. x) a n (a + n) refl ∙ ap (λ xs. xs ++ (a + n) ∷ []) (map-id (range_with_len a n)))))

-- two lists that go together, with one element more
pub zipped_more : {A B C : Type 0} (R : C → C → Type 0) (f : A → C) (g : B → C) (xs : List A) (i : ℕ) (x : A) (old new : List B) (y : B) → i < length xs → x ≡ get_or xs i x → new ≡ old ++ y ∷ []
    → R (f x) (g y) → AllZip R (map f (take i xs)) (map g old) → AllZip R (map f (take (i + 1) xs)) (map g new)
zipped_more R f g xs i x old new y l at e r h =
    subst (λ ys. AllZip R (map f (take (i + 1) xs)) (map g ys)) (sym e)
    (subst (λ zs. AllZip R (map f (take (i + 1) xs)) zs) (sym (map-append g old (y ∷ [])))
    (subst (λ zs. AllZip R zs (map g old ++ g y ∷ [])) (sym (ap (map f) (one_more xs i x l ∙ ap (λ z. take i xs ++ z ∷ []) (sym at)) ∙ map-append f (take i xs) (x ∷ [])))
    (AllZip-push R (map f (take i xs)) (map g old) (f x) (g y) h r)))

-- what holds of all holds of the one at a place
pub mapped_at : {A C : Type 0} (P : C → Type 0) (f : A → C) (xs : List A) (i : ℕ) (x : A) → i < length xs → x ≡ get_or xs i x → All P (map f xs) → P (f x)
mapped_at {A = A} P f xs i x l e h = subst (λ y. P (f y)) (sym e) (there xs i l h)
  where
    there : (ys : List A) (k : ℕ) → k < length ys → All P (map f ys) → P (f (get_or ys k x))
    there [] k l h = absurd (omega (arith, l))
    there (y ∷ ys) zero l h = All-head P (f y) (map f ys) h
    there (y ∷ ys) (suc k) l h = there ys k (omega (arith, l)) (All-tail P (f y) (map f ys) h)
