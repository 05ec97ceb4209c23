-- What is mapped and joined, one by one.
use Rattle.std.proofs.Common.{◌≡◌, ℕ, zero, suc, ◌<◌, take, drop, length, get_or, arith, List, [], ◌∷◌, ◌++◌, map, refl, sym, ◌∙◌, ap, append_assoc}
use Rattle.std.specs.Prelude.{All, reverse}
use Rattle.std.specs.List.{flat_map}
use Rattle.std.proofs.Math.ListN.{set}
use Rattle.std.proofs.lemmas.List.{map-append, length-reverse, length-map}
use Rattle.std.proofs.Math.Seq.{take-append_seam}
use Rattle.std.proofs.lemmas.List.Elements.{All-nil, All-cons, All-head, All-tail, All-append}

pub joined_append : {A B : Type 0} (f : A → List B) (xs ys : List A) → flat_map f (xs ++ ys) ≡ flat_map f xs ++ flat_map f ys
joined_append f [] ys = refl
joined_append f (x ∷ xs) ys = ap (λ zs. f x ++ zs) (joined_append f xs ys) ∙ sym (append_assoc (f x) (flat_map f xs) (flat_map f ys))

pub joined_in_turn : {A B C : Type 0} (g : B → List C) (f : A → List B) (xs : List A) → flat_map g (flat_map f xs) ≡ flat_map (λ x. flat_map g (f x)) xs
joined_in_turn g f [] = refl
joined_in_turn g f (x ∷ xs) = joined_append g (f x) (flat_map f xs) ∙ ap (λ zs. flat_map g (f x) ++ zs) (joined_in_turn g f xs)

pub joined_mapped : {A B C : Type 0} (g : B → List C) (f : A → B) (xs : List A) → flat_map g (map f xs) ≡ flat_map (λ x. g (f x)) xs
joined_mapped g f [] = refl
joined_mapped g f (x ∷ xs) = ap (λ zs. g (f x) ++ zs) (joined_mapped g f xs)

pub mapped_joined : {A B C : Type 0} (g : B → C) (f : A → List B) (xs : List A) → map g (flat_map f xs) ≡ flat_map (λ x. map g (f x)) xs
mapped_joined g f [] = refl
mapped_joined g f (x ∷ xs) = map-append g (f x) (flat_map f xs) ∙ ap (λ zs. map g (f x) ++ zs) (mapped_joined g f xs)

pub mapped_in_turn : {A B C : Type 0} (g : B → C) (f : A → B) (xs : List A) → map g (map f xs) ≡ map (λ x. g (f x)) xs
mapped_in_turn g f [] = refl
mapped_in_turn g f (x ∷ xs) = ap (λ zs. g (f x) ∷ zs) (mapped_in_turn g f xs)

pub mapped_alike : {A B : Type 0} (g f : A → B) (xs : List A) → ((x : A) → g x ≡ f x) → map g xs ≡ map f xs
mapped_alike g f [] h = refl
mapped_alike g f (x ∷ xs) h =
    let e = h x in
    let d = mapped_alike g f xs h in
    λ i. e i ∷ d i

pub joined_alike : {A B : Type 0} (g f : A → List B) (xs : List A) → ((x : A) → g x ≡ f x) → flat_map g xs ≡ flat_map f xs
joined_alike g f [] h = refl
joined_alike g f (x ∷ xs) h =
    let e = h x in
    let d = joined_alike g f xs h in
    λ i. e i ++ d i

pub joined_within : {A B : Type 0} (g f : A → List B) (P : A → Type 0) (xs : List A) → All P xs → ((x : A) → P x → g x ≡ f x) → flat_map g xs ≡ flat_map f xs
joined_within g f P [] k h = refl
joined_within g f P (x ∷ xs) k h =
    let e = h x (All-head P x xs k) in
    let d = joined_within g f P xs (All-tail P x xs k) h in
    λ i. e i ++ d i

pub joined_single : {A B : Type 0} (g : A → List B) (f : A → B) (xs : List A) → ((x : A) → g x ≡ f x ∷ []) → flat_map g xs ≡ map f xs
joined_single g f [] h = refl
joined_single g f (x ∷ xs) h =
    let e = h x in
    let d = joined_single g f xs h in
    λ i. e i ++ d i

pub joined_same : {A : Type 0} (g : A → List A) (xs : List A) → ((x : A) → g x ≡ x ∷ []) → flat_map g xs ≡ xs
joined_same g [] h = refl
joined_same g (x ∷ xs) h =
    let e = h x in
    let d = joined_same g xs h in
    λ i. e i ++ d i

pub all_mapped : {A B : Type 0} (P : B → Type 0) (f : A → B) (xs : List A) → ((x : A) → P (f x)) → All P (map f xs)
all_mapped P f [] h = All-nil P
all_mapped P f (x ∷ xs) h = All-cons P (f x) (map f xs) (h x) (all_mapped P f xs h)

pub all_mapped_within : {A B : Type 0} (Q : A → Type 0) (P : B → Type 0) (f : A → B) (xs : List A) → All Q xs → ((x : A) → Q x → P (f x)) → All P (map f xs)
all_mapped_within Q P f [] k h = All-nil P
all_mapped_within Q P f (x ∷ xs) k h = All-cons P (f x) (map f xs) (h x (All-head Q x xs k)) (all_mapped_within Q P f xs (All-tail Q x xs k) h)

pub all_joined : {A B : Type 0} (Q : A → Type 0) (P : B → Type 0) (f : A → List B) (xs : List A) → All Q xs → ((x : A) → Q x → All P (f x)) → All P (flat_map f xs)
all_joined Q P f [] k h = All-nil P
all_joined Q P f (x ∷ xs) k h =
    All-append P (f x) (flat_map f xs) (h x (All-head Q x xs k)) (all_joined Q P f xs (All-tail Q x xs k) h)

-- a list that is mapped in place
mapped_at :
    {A : Type 0} (f : A → A) (xs : List A) (i : ℕ) (v d : A) → i < length xs
    → v ≡ f (get_or (map f (take i xs) ++ drop i xs) i d)
    → set (map f (take i xs) ++ drop i xs) i v ≡ map f (take (suc i) xs) ++ drop (suc i) xs
mapped_at f [] i v d l e = absurd (omega (arith, l))
mapped_at f (x ∷ xs) zero v d l e = ap (λ w. w ∷ xs) e
mapped_at f (x ∷ xs) (suc i) v d l e = ap (λ ws. f x ∷ ws) (mapped_at f xs i v d (omega (arith, l)) e)

pub mapped_next :
    {A : Type 0} (f : A → A) (xs ys : List A) (i j : ℕ) (v d : A) → ys ≡ map f (take i xs) ++ drop i xs → i < length xs
    → v ≡ f (get_or ys i d) → j ≡ suc i → set ys i v ≡ map f (take j xs) ++ drop j xs
mapped_next f xs ys i j v d e l w s =
    let there : v ≡ f (get_or (map f (take i xs) ++ drop i xs) i d) = w ∙ ap (λ zs. f (get_or zs i d)) e in
    ap (λ zs. set zs i v) e ∙ (mapped_at f xs i v d l there ∙ ap (λ k. map f (take k xs) ++ drop k xs) (sym s))

-- a list that is written back whole
pub written_back : {A : Type 0} (xs ys : List A) (n : ℕ) → n ≡ length xs → length ys ≡ length xs → take n (ys ++ drop (length ys) xs) ≡ ys
written_back xs ys n e h = ap (λ m. take m (ys ++ drop (length ys) xs)) (e ∙ sym h) ∙ take-append_seam ys (drop (length ys) xs)

pub mapped_back : {A : Type 0} (f : A → A) (xs ys : List A) (n : ℕ) → n ≡ length xs → ys ≡ map f xs → take n (ys ++ drop (length ys) xs) ≡ map f xs
mapped_back f xs ys n e h = written_back xs ys n e (ap length h ∙ length-map xs f) ∙ h

pub reversed_back : {A : Type 0} (xs ys : List A) (n : ℕ) → n ≡ length xs → ys ≡ reverse xs → take n (ys ++ drop (length ys) xs) ≡ reverse xs
reversed_back xs ys n e h = written_back xs ys n e (ap length h ∙ length-reverse xs) ∙ h
