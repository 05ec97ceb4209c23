-- One use of a rule, by a match of its left side.
use Rattle.std.proofs.Common.{◌≡◌, ℕ, zero, suc, ◌<◌, List, [], ◌∷◌, length, get_or, nat_eq, if◌then◌else◌, refl, sym, ◌∙◌, arith, inl, inr}
use Rattle.std.specs.Prelude.{◌⊎◌, Contains}
use Rattle.std.proofs.lemmas.Bool.{cases_Bool, eqb-true, eq-eqb}
use Rattle.dps_terms.specs.Tree.{Leaf, public, private, var, ax, entry, rigid, Tree, leaf, StandsIn}
use Rattle.dps_terms.specs.Replace.{substitute, variables_to}
use Rattle.dps_terms.specs.Variables.{variables}
use Rattle.dps_terms.specs.Bindings.{image}
use Rattle.dps_terms.proofs.Replacing.{replace_agrees}
use Rattle.dps_terms.proofs.Listing.{variables_are_those}
use Rattle.dps_unify.specs.Matching.{IsMatch, HasNoMatch}
use Rattle.dps_theory.specs.Theory.{Rule}
use Rattle.dps_recipes.specs.Reduction.{IsInstance, DoesNotFit}

-- the substitution on the listed variables alone
abbrev pub restricted : List ℕ → (ℕ → Tree) → ℕ → Tree
restricted [] by n = leaf (var n)
restricted (m ∷ ms) by n = if nat_eq m n then by n else restricted ms by n

restricted_in : (ns : List ℕ) (by : ℕ → Tree) (n k : ℕ) → k < length ns → get_or ns k n ≡ n → restricted ns by n ≡ by n
restricted_in [] by n k h e = absurd (omega arith)
restricted_in (m ∷ ms) by n zero h e = rw (eq-eqb m n e) refl
restricted_in (m ∷ ms) by n (suc k) h e =
    elim (cases_Bool (nat_eq m n)) [
      | inl b ↦ rw b refl
      | inr b ↦ rw b (restricted_in ms by n k (omega arith) e)
    ]

restricted_out : (ns : List ℕ) (by : ℕ → Tree) (n : ℕ) → ¬ Contains ns n → restricted ns by n ≡ leaf (var n)
restricted_out [] by n out = refl
restricted_out (m ∷ ms) by n out =
    elim (cases_Bool (nat_eq m n)) [
      | inl b ↦ absurd (out (0, omega arith, eqb-true m n b))
      | inr b ↦ rw b (restricted_out ms by n (λ c. let l = c.1 in out (suc c.0, omega arith, c.2)))
    ]

pub restricted_at : (ns : List ℕ) (by : ℕ → Tree) (n : ℕ) → Contains ns n → restricted ns by n ≡ by n
restricted_at ns by n c = restricted_in ns by n c.0 c.1 c.2

-- a variable is listed and stays as it was, or it is left
pub restricted_cases : (ns : List ℕ) (by : ℕ → Tree) (n : ℕ) → (Contains ns n × (restricted ns by n ≡ by n)) ⊎ (restricted ns by n ≡ leaf (var n))
restricted_cases [] by n = inr refl
restricted_cases (m ∷ ms) by n =
    elim (cases_Bool (nat_eq m n)) [
      | inl b ↦ inl ((0, omega arith, eqb-true m n b), rw b refl)
      | inr b ↦ elim (restricted_cases ms by n) [
        | inl c ↦ inl ((suc c.0.0, (let l = c.0.1 in omega arith), c.0.2), rw b c.1)
        | inr e ↦ inr (rw b e)
      ]
    ]

-- on the variables of the term alone, a substitution does the same
restricted_agrees : (by : ℕ → Tree) (t : Tree) (x : Leaf) → StandsIn x t → variables_to (restricted (variables t) by) x ≡ variables_to by x
restricted_agrees by t (var n) k = restricted_at (variables t) by n ((variables_are_those t n).1 k)
restricted_agrees by t (public n) k = refl
restricted_agrees by t (private n) k = refl
restricted_agrees by t (ax n) k = refl
restricted_agrees by t (entry n) k = refl
restricted_agrees by t (rigid n) k = refl

pub restricted_instance : (by : ℕ → Tree) (t : Tree) → substitute (restricted (variables t) by) t ≡ substitute by t
restricted_instance by t = replace_agrees (variables_to (restricted (variables t) by)) (variables_to by) t (restricted_agrees by t)

module _ (rule : Rule) (t : Tree) where
  pub no_match_fits : HasNoMatch rule.left (variables rule.left) t → DoesNotFit rule t
  no_match_fits h by e =
      h (restricted (variables rule.left) by) (λ n out. restricted_out (variables rule.left) by n out)
      (restricted_instance by rule.left ∙ e)

  pub match_fits : (free : List ℕ) (s : List (ℕ × Tree)) (v : Tree) → IsMatch rule.left free t s → v ≡ substitute (image s) rule.right → IsInstance rule t v
  match_fits free s v m e = record { by = image s; left = m.matches; right = sym e }
