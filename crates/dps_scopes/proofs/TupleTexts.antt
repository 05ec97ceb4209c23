-- The texts of tuples and projections, which differ from one another and from those that a declaration may have.
use Rattle.std.proofs.Common.{◌≡◌, ◌≤◌, ◌<◌, ℕ, zero, suc, ◌+◌, ◌-◌, Bool, true, false, cond, List, [], ◌∷◌, ◌++◌, Option, Some, None, refl, sym, ap, ◌∙◌, subst, inl}
use Rattle.std.proofs.Common.{inr, arith, unwrap_or, option_map, bytes_eq, position}
use Rattle.std.specs.Prelude.{slice_get}
use Rattle.std.specs.Str.{byte}
use Rattle.std.proofs.lemmas.Bool.{cases_Bool}
use Rattle.std.proofs.lemmas.Slice.Eq.{bytes_eq-Decides}
use Rattle.dps_signature.specs.declared.SymKind.TheVariants.{Constructor, Destructor}
use Rattle.dps_signature.specs.Signature.{Symbol}
use Rattle.dps_signature.specs.Names.{IsWord, tuple_name, projection_name}
use Rattle.dps_scopes.specs.Scopes.{is_reserved, projections_from, tuple_symbols}
use Rattle.dps_scopes.proofs.Identifiers.{unreserved}
use Rattle.dps_scopes.proofs.FirstPlaces.{position-cons}

pub different : (x y : List ℕ) → ¬ (x ≡ y) → bytes_eq x y ≡ false
different x y h = elim (cases_Bool (bytes_eq x y)) [ inl e ↦ absurd (h ((bytes_eq-Decides x y).0 e)) | inr e ↦ e ]

pub same : (x : List ℕ) → bytes_eq x x ≡ true
same x = (bytes_eq-Decides x x).1 refl

abbrev byte_at : List ℕ → ℕ → ℕ
byte_at text i = unwrap_or (slice_get text i) 0

pub one_length : (n m : ℕ) → tuple_name n ≡ tuple_name m → n ≡ m
one_length n m e = let d : byte "0" + n ≡ byte "0" + m = ap (λ t. byte_at t 1) e in omega (arith, d)

pub one_projection : (i n j m : ℕ) → projection_name i n ≡ projection_name j m → (i ≡ j) × (n ≡ m)
one_projection i n j m e =
    let c : byte "0" + i ≡ byte "0" + j = ap (λ t. byte_at t 5) e in
    let d : byte "0" + n ≡ byte "0" + m = ap (λ t. byte_at t 7) e in
    (omega (arith, c), omega (arith, d))

pub no_tuple : (n i m : ℕ) → ¬ (tuple_name n ≡ projection_name i m)
no_tuple n i m e = let d : byte "(" ≡ byte "p" = ap (λ t. byte_at t 0) e in omega (arith, d)

-- a text that may be declared is none of a tuple
pub free_of_tuples : (text : List ℕ) (n : ℕ) → is_reserved text ≡ false → bytes_eq (tuple_name n) text ≡ false
free_of_tuples text n free = different (tuple_name n) text (λ e. let h = (subst IsWord (sym e) (unreserved text free).word).0 in cc)

pub free_of_projections : (text : List ℕ) (i n : ℕ) → is_reserved text ≡ false → bytes_eq (projection_name i n) text ≡ false
free_of_projections text i n free = different (projection_name i n) text (λ e. let h : is_reserved (projection_name i n) ≡ false = ap is_reserved e ∙ free in cc)

-- the symbols of the tuples of one length

abbrev pub projection_symbol : ℕ → ℕ → Symbol
projection_symbol n i = record { name = projection_name i n; kind = Destructor; arity = 1 }

pub projection_at : (n from left j : ℕ) → j < left → slice_get (projections_from n from left) j ≡ Some (projection_symbol n (from + j))
projection_at n from zero j h = absurd (omega arith)
projection_at n from (suc left) zero h = let e : from ≡ from + 0 = omega arith in ap (λ i. Some (projection_symbol n i)) e
projection_at n from (suc left) (suc j) h =
    let e : from + 1 + j ≡ from + suc j = omega arith in
    projection_at n (from + 1) left j (omega arith) ∙ ap (λ i. Some (projection_symbol n i)) e

pub projection_found : (n i from left j : ℕ) → j < left → i ≡ from + j → position (λ (x : Symbol). bytes_eq (projection_name i n) x.name) (projections_from n from left) ≡ Some j
projection_found n i from zero j h e = absurd (omega arith)
projection_found n i from (suc left) zero h e =
    let d : i ≡ from = omega (arith, e) in
    position-cons (λ (x : Symbol). bytes_eq (projection_name i n) x.name) (projection_symbol n from) (projections_from n (from + 1) left)
    ∙ ap (λ b. cond b (Some 0) (option_map suc (position (λ (x : Symbol). bytes_eq (projection_name i n) x.name) (projections_from n (from + 1) left))))
    ((bytes_eq-Decides (projection_name i n) (projection_name from n)).1 (ap (λ k. projection_name k n) d))
projection_found n i from (suc left) (suc j) h e =
    let other : bytes_eq (projection_name i n) (projection_name from n) ≡ false = different (projection_name i n) (projection_name from n)
    (λ d. let k = (one_projection i n from n d).0 in omega (arith, e, k)) in
    position-cons (λ (x : Symbol). bytes_eq (projection_name i n) x.name) (projection_symbol n from) (projections_from n (from + 1) left)
    ∙ (ap (λ b. cond b (Some 0) (option_map suc (position (λ (x : Symbol). bytes_eq (projection_name i n) x.name) (projections_from n (from + 1) left)))) other
    ∙ ap (option_map suc) (projection_found n i (from + 1) left j (omega arith) (omega (arith, e))))

-- a text that no projection of this length has
pub projection_missing : (text : List ℕ) (n : ℕ) → ((i : ℕ) → ¬ (text ≡ projection_name i n)) → (from left : ℕ) → position (λ (x : Symbol). bytes_eq text x.name) (projections_from n from left) ≡ None
projection_missing text n h from zero = refl
projection_missing text n h from (suc left) =
    position-cons (λ (x : Symbol). bytes_eq text x.name) (projection_symbol n from) (projections_from n (from + 1) left)
    ∙ (ap (λ b. cond b (Some 0) (option_map suc (position (λ (x : Symbol). bytes_eq text x.name) (projections_from n (from + 1) left)))) (different text (projection_name from n) (h from))
    ∙ ap (option_map suc) (projection_missing text n h (from + 1) left))

pub symbol_missing : (text : List ℕ) (n : ℕ) → ¬ (text ≡ tuple_name n) → ((i : ℕ) → ¬ (text ≡ projection_name i n)) → position (λ (x : Symbol). bytes_eq text x.name) (tuple_symbols n) ≡ None
symbol_missing text n t h =
    position-cons (λ (x : Symbol). bytes_eq text x.name) (record { name = tuple_name n; kind = Constructor; arity = n }) (projections_from n 1 n)
    ∙ (ap (λ b. cond b (Some 0) (option_map suc (position (λ (x : Symbol). bytes_eq text x.name) (projections_from n 1 n)))) (different text (tuple_name n) t)
    ∙ ap (option_map suc) (projection_missing text n h 1 n))
