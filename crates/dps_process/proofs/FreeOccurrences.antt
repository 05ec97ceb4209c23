-- Free variables, by the terms and the binders of a process.
use Rattle.std.proofs.Common.{ℕ, inl, inr}
use Rattle.std.specs.Prelude.{◌≢◌, ◌⊎◌}
use Rattle.dps_terms.specs.Tree.{var, Tree, StandsIn}
use Rattle.dps_process.specs.Process.{Process, nil, parallel, choice, conditional, bind, input, output, IsFree, EachTerm, EachBinder}

neither : {A B : Type 0} → (¬ A) → (¬ B) → ¬ (A ⊎ B)
neither h k = elim [ inl a ↦ h a | inr b ↦ k b ]

pub free_stands : (x : ℕ) (p : Process) → EachTerm (λ u. ¬ StandsIn (var x) u) p → ¬ IsFree x p
free_stands x nil e = λ f. f
free_stands x (parallel p q) e = neither (free_stands x p e.0) (free_stands x q e.1)
free_stands x (choice p q) e = neither (free_stands x p e.0) (free_stands x q e.1)
free_stands x (conditional u v p q) e = neither (neither e.0 e.1) (neither (free_stands x p e.2) (free_stands x q e.3))
free_stands x (bind y u p q) e = neither e.0 (neither (λ f. free_stands x p e.1 f.1) (free_stands x q e.2))
free_stands x (input c y p) e = λ f. free_stands x p e f.1
free_stands x (output c u p) e = neither e.0 (free_stands x p e.1)

pub unbound_is_free : (x : ℕ) (p : Process) → EachBinder (λ y. x ≢ y) p → (¬ IsFree x p) → EachTerm (λ u. ¬ StandsIn (var x) u) p
unbound_is_free x nil b n = tt
unbound_is_free x (parallel p q) b n = (unbound_is_free x p b.0 (λ f. n (inl f)), unbound_is_free x q b.1 (λ f. n (inr f)))
unbound_is_free x (choice p q) b n = (unbound_is_free x p b.0 (λ f. n (inl f)), unbound_is_free x q b.1 (λ f. n (inr f)))
unbound_is_free x (conditional u v p q) b n =
    (λ s. n (inl (inl s)), λ s. n (inl (inr s)), unbound_is_free x p b.0 (λ f. n (inr (inl f))), unbound_is_free x q b.1 (λ f. n (inr (inr f))))
unbound_is_free x (bind y u p q) b n =
    (λ s. n (inl s), unbound_is_free x p b.1 (λ f. n (inr (inl (b.0, f)))), unbound_is_free x q b.2 (λ f. n (inr (inr f))))
unbound_is_free x (input c y p) b n = unbound_is_free x p b.1 (λ f. n (b.0, f))
unbound_is_free x (output c u p) b n = (λ s. n (inl s), unbound_is_free x p b (λ f. n (inr f)))
