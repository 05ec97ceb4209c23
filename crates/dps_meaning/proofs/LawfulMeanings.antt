-- Each problem that a text means is lawful.
use Rattle.std.proofs.Common.{◌≡◌, ◌≤◌, ◌^◌, ℕ, List, ◌++◌, length, refl, sym, subst}
use Rattle.std.proofs.lemmas.List.Elements.{Contains-append_right}
use Rattle.dps_signature.specs.Signature.{shapes, Shape}
use Rattle.dps_theory.specs.Theory.{Rule, Theory, IsAccepted}
use Rattle.dps_theory.specs.Projections.{projections}
use Rattle.dps_theory.specs.Laws.{AcceptedRulesJoinProjections}
use Rattle.dps_process.specs.Process.{Process}
use Rattle.dps_process.specs.Problem.{Problem, IsLawfulTheory, IsLawful, HasHighBinders}
use Rattle.dps_names.specs.Program.{Program}
use Rattle.dps_names.specs.Laws.{RulesAreCheckable, ProgramsAreWellFormed}
use Rattle.dps_rules.specs.Rules.{rules_of, theory_of}
use Rattle.dps_elab.specs.Laws.{SidesAreLawful, BindersAreHigh}
use Rattle.dps_meaning.specs.Meaning.{Says, Means}
use Rattle.dps_meaning.specs.Laws.{MeaningsAreLawful}
use Rattle.dps_meaning.proofs.OneMeaning.{says_of}

-- the last of some accepted rules are accepted
last_accepted : (known : List Shape) (others rules : List Rule) → IsAccepted (record { shapes = known; rules = others ++ rules }) → IsAccepted (record { shapes = known; rules = rules })
last_accepted known others rules h = record {
  root = λ r k. h.root r (Contains-append_right others rules r k);
  arguments = λ r k. h.arguments r (Contains-append_right others rules r k);
  constructed = λ r k. h.constructed r (Contains-append_right others rules r k);
  bounded = λ r k. h.bounded r (Contains-append_right others rules r k);
  agreeing = λ r q k l. h.agreeing r q (Contains-append_right others rules r k) (Contains-append_right others rules q l);
}

lawful_theory :
    RulesAreCheckable → AcceptedRulesJoinProjections → (bytes : List ℕ) (program : Program) → length bytes ≤ 1048576 → Says bytes program
    → IsAccepted (theory_of program) → IsLawfulTheory program.signature (theory_of program)
lawful_theory checkable join bytes program short said accepted =
    let ready = checkable bytes said.decls program short said.text.tree said.named in
    let own = last_accepted (shapes program.signature) (projections program.signature) (rules_of program) accepted in
    let all = join program.signature (rules_of program) ready own in
    record { same_symbols = refl; accepted = all.accepted; rules_over = all.over; rules_plain = all.plain }

pub meanings_are_lawful : ProgramsAreWellFormed → RulesAreCheckable → AcceptedRulesJoinProjections → SidesAreLawful → BindersAreHigh → MeaningsAreLawful
meanings_are_lawful formed checkable join lawful high bytes problem short m =
    let p = m.problem_of in
    let program = p.program in
    let said = says_of bytes problem m in
    let theory = lawful_theory checkable join bytes program short said (subst IsAccepted p.theory p.accepted) in
    let both = lawful program problem.left problem.right (formed m.decls program p.named) p.written in
    let binders = high program problem.left problem.right p.written in
    let meant : Problem = record { signature = program.signature; theory = theory_of program; model = problem.model; left = problem.left; right = problem.right } in
    let same : problem ≡ meant = λ i. record { signature = p.signature i; theory = p.theory i; model = problem.model; left = problem.left; right = problem.right } in
    subst (λ p. IsLawful p × HasHighBinders p) (sym same)
    (record { theory = theory; left = both.0; right = both.1 }, record { left = binders.0; right = binders.1 })
