-- Private names, counted as they are added.
use Rattle.std.proofs.Common.{◌≡◌, ℕ, zero, suc, ◌+◌, ◌≤◌, Bool, true, false, List, [], ◌∷◌, ◌++◌, length, map, take, refl, ap, arith, if◌then◌else◌, string_bytes, slice_get, Some}
use mir.Val.{bool_byte}
use Rattle.std.specs.List.{AllZip}
use Rattle.std.proofs.lemmas.Option.{none-some}
use Rattle.std.specs.declared.string.String.{String}
use Rattle.dps_signature.specs.declared.signature.NameShape.{NameShape}
use Rattle.dps_signature.specs.Signature.{Name, privates_in}
use Rattle.dps_signature.specs.declared.signature.SymbolShape.{SymbolShape}
use Rattle.dps_signature.specs.Counted.{symbol_of, name_of, AreCountedFrom}

pub one_or_none : (b : Bool) → (if b then 1 else 0) ≤ 1
one_or_none true = omega arith
one_or_none false = omega arith

pub byte_of : (b : Bool) → bool_byte b ≡ (if b then 1 else 0)
byte_of true = refl
byte_of false = refl

pub privates-le : (ns : List Name) → privates_in ns ≤ length ns
privates-le [] = omega arith
privates-le (n ∷ ns) = omega (arith, privates-le ns, one_or_none n.is_private)

pub privates-last : (ns : List Name) (n : Name) → privates_in (ns ++ n ∷ []) ≡ privates_in ns + (if n.is_private then 1 else 0)
privates-last [] n = omega arith
privates-last (m ∷ ns) n = omega (arith, privates-last ns n)

module _ {A : Type 0} where
  -- one more name
  pub counted_last : (n : ℕ) (es : List (String A × NameShape)) (e : String A × NameShape) → AreCountedFrom n es → e.1.private_before ≡ n + privates_in (map name_of es)
      → AreCountedFrom n (es ++ e ∷ [])
  counted_last n [] e h k = (omega (arith, k), tt)
  counted_last n (d ∷ es) e h k = (h.0, counted_last (n + (if d.1.private then 1 else 0)) es e h.1 (omega (arith, k)))

  -- how many come before a name
  pub before_at : (n : ℕ) (es : List (String A × NameShape)) (i : ℕ) (e : String A × NameShape) → AreCountedFrom n es → slice_get es i ≡ Some e
      → e.1.private_before ≡ n + privates_in (take i (map name_of es))
  before_at n [] i e h g = absurd (none-some e g)
  before_at n (d ∷ es) zero e h g = let m : d ≡ e = cc in omega (arith, ap (λ x. x.1.private_before) m, h.0)
  before_at n (d ∷ es) (suc i) e h g = omega (arith, before_at (n + (if d.1.private then 1 else 0)) es i e h.1 g)

  -- copied names
  pub counted_copies : (n : ℕ) (es fs : List (String A × NameShape)) → AllZip (λ p q. (string_bytes q.0 ≡ string_bytes p.0) × (q.1 ≡ p.1)) es fs → AreCountedFrom n es → AreCountedFrom n fs
  counted_copies n [] [] z h = tt
  counted_copies n [] (f ∷ fs) z h = absurd z
  counted_copies n (e ∷ es) [] z h = absurd z
  counted_copies n (e ∷ es) (f ∷ fs) z h =
      rw z.0.1 (h.0, counted_copies (n + (if e.1.private then 1 else 0)) es fs z.1 h.1)

-- copies are seen as the same
pub same_copies : {A V X : Type 0} (of : String A × V → X) → ((p q : String A × V) → string_bytes q.0 ≡ string_bytes p.0 → q.1 ≡ p.1 → of q ≡ of p) → (es fs : List (String A × V))
    → AllZip (λ p q. (string_bytes q.0 ≡ string_bytes p.0) × (q.1 ≡ p.1)) es fs → (map of fs ≡ map of es) × (length fs ≡ length es)
same_copies of same [] [] z = (refl, refl)
same_copies of same [] (f ∷ fs) z = absurd z
same_copies of same (e ∷ es) [] z = absurd z
same_copies of same (e ∷ es) (f ∷ fs) z =
    let r = same_copies of same es fs z.1 in
    (λ i. same e f z.0.0 z.0.1 i ∷ r.0 i, ap suc r.1)

pub same_symbol : {A : Type 0} (p q : String A × SymbolShape) → string_bytes q.0 ≡ string_bytes p.0 → q.1 ≡ p.1 → symbol_of q ≡ symbol_of p
same_symbol p q e f = λ i. record { name = e i; kind = (f i).kind; arity = (f i).arity }

pub same_name : {A : Type 0} (p q : String A × NameShape) → string_bytes q.0 ≡ string_bytes p.0 → q.1 ≡ p.1 → name_of q ≡ name_of p
same_name p q e f = λ i. record { name = e i; is_private = (f i).private }
