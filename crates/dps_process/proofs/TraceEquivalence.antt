-- Trace equivalence is an equivalence, and attacks are what refutes it.
use Rattle.std.proofs.Common.{List, inl, inr}
use Rattle.std.specs.Prelude.{◌↔◌}
use Rattle.dps_branch.specs.declared.Side.{Side}
use Rattle.dps_branch.specs.declared.Side.TheVariants.{Left, Right}
use Rattle.dps_branch.specs.Sides.{opposite}
use Rattle.dps_terms.specs.Tree.{Tree}
use Rattle.dps_signature.specs.Signature.{Signature}
use Rattle.dps_theory.specs.Theory.{Theory}
use Rattle.dps_theory.proofs.Equivalence.{reflexive, transitive}
use Rattle.dps_process.specs.Models.{Model}
use Rattle.dps_process.specs.Process.{Process}
use Rattle.dps_process.specs.Problem.{Problem, side_of}
use Rattle.dps_process.specs.Steps.{Label}
use Rattle.dps_process.specs.Traces.{IsTrace, Matches, IsIncluded, AreTraceEquivalent, IsEquivalent, IsTraceOf, IsAttack}
use Rattle.dps_process.specs.Laws.{IsDecided}

module _ (model : Model) (signature : Signature) (theory : Theory) where
  -- a process that has the traces of another
  pub same_traces :
      (p q : Process)
      → ((word : List Label) (frame : List Tree) → IsTrace model signature theory p word frame → IsTrace model signature theory q word frame)
      → IsIncluded model signature theory p q
  same_traces p q h = record { matched = λ word frame t. record { other = frame; trace = h word frame t; equivalent = reflexive signature theory frame } }

  pub included_refl : (p : Process) → IsIncluded model signature theory p p
  included_refl p = same_traces p p (λ word frame t. t)

  pub included_trans : (p q r : Process) → IsIncluded model signature theory p q → IsIncluded model signature theory q r → IsIncluded model signature theory p r
  included_trans p q r h k = record { matched = λ word frame t. joined word frame (h.matched word frame t) }
    where
      joined : (word : List Label) (frame : List Tree) → Matches model signature theory q word frame → Matches model signature theory r word frame
      joined word frame m =
          let n = k.matched word m.other m.trace in
          record { other = n.other; trace = n.trace; equivalent = transitive signature theory frame m.other n.other m.equivalent n.equivalent }

  pub traces_refl : (p : Process) → AreTraceEquivalent model signature theory p p
  traces_refl p = record { forth = included_refl p; back = included_refl p }

  pub two_inclusions : (p q : Process) → AreTraceEquivalent model signature theory p q ↔ (IsIncluded model signature theory p q × IsIncluded model signature theory q p)
  two_inclusions p q = (λ e. (e.forth, e.back), λ k. record { forth = k.0; back = k.1 })

  pub traces_sym : (p q : Process) → AreTraceEquivalent model signature theory p q → AreTraceEquivalent model signature theory q p
  traces_sym p q e = record { forth = e.back; back = e.forth }

  pub traces_trans : (p q r : Process) → AreTraceEquivalent model signature theory p q → AreTraceEquivalent model signature theory q r → AreTraceEquivalent model signature theory p r
  traces_trans p q r d e = record { forth = included_trans p q r d.forth e.forth; back = included_trans r q p e.back d.back }

pub attack_refutes : (problem : Problem) (side : Side) (word : List Label) → IsAttack problem side word → ¬ IsEquivalent problem
attack_refutes problem Left word a e = a.unmatched (e.forth.matched word a.frame a.trace)
attack_refutes problem Right word a e = a.unmatched (e.back.matched word a.frame a.trace)

module _ (problem : Problem) (decided : IsDecided problem) (none : (side : Side) (word : List Label) → ¬ IsAttack problem side word) where
  side_matched :
      (side : Side) (word : List Label) (frame : List Tree) → IsTraceOf problem side word frame
      → Matches problem.model problem.signature problem.theory (side_of problem (opposite side)) word frame
  side_matched side word frame t =
      elim (decided side word frame t) [ inl m ↦ m | inr n ↦ absurd (none side word (record { frame = frame; trace = t; unmatched = n })) ]

  pub no_attack : IsEquivalent problem
  no_attack = record {
    forth = record { matched = side_matched Left };
    back = record { matched = side_matched Right };
  }

pub none_unmatched : (problem : Problem)
    → ((side : Side) (word : List Label) → ¬ IsAttack problem side word)
    ↔ ((side : Side) (word : List Label) (frame : List Tree) → IsTraceOf problem side word frame → ¬
    (¬ Matches problem.model problem.signature problem.theory (side_of problem (opposite side)) word frame))
none_unmatched problem = (λ none side word frame t m. none side word (record { frame = frame; trace = t; unmatched = m }), λ h side word a. h side word a.frame a.trace a.unmatched)
