-- The bound variables of a side that is written out are numbered from 2^63 on.
use Rattle.std.proofs.Common.{ℕ, zero, suc, ◌-◌, ◌≤◌, ◌^◌, List, [], ◌∷◌, ◌++◌, arith}
use Rattle.dps_terms.specs.Tree.{app, trees, var, private}
use Rattle.dps_process.specs.Process as process
use Rattle.dps_process.specs.Process.{Process, EachBinder}
use Rattle.dps_scopes.specs.declared.body.Step.{Step}
use Rattle.dps_scopes.specs.declared.body.Step.TheVariants.{Project, Test}
use Rattle.dps_names.specs.Program.{Body, Bodies, nil, parallel, choice, copies, fresh, input, output, conditional, bind, call, none, more, Definition, Program}
use Rattle.dps_elab.specs.Expansion.{Value, Numbers, Expansion, Expanding, nothing, made, value_at, values_of, one_name, beside, and_copies}
use Rattle.dps_elab.specs.Expansion.{one_variable, taken_apart, called, expand, chain, chain_behind, meanings, left_expansion, right_expansion, private_names, first_numbers}

abbrev IsHigh : ℕ → Type 0
IsHigh x = 2 ^ 63 ≤ x

-- the expansion binds high variables alone, and goes on with them
pub record HasHigh (e : Expansion) : Type 0 where
  pub binders : EachBinder IsHigh e.process
  pub on : IsHigh e.next.variable

abbrev KeepsHigh : Expanding → Type 0
KeepsHigh p = (next : Numbers) → IsHigh next.variable → HasHigh (p next)

beside_high :
    (join : Process → Process → Process) (first : Expansion) (second : Expanding)
    → ((p q : Process) → EachBinder IsHigh p → EachBinder IsHigh q → EachBinder IsHigh (join p q)) → HasHigh first → KeepsHigh second
    → HasHigh (beside join first second)
beside_high join first second joins h k =
    let last = k first.next h.on in
    record { binders = joins first.process (second first.next).process h.binders last.binders; on = last.on }

taken_high :
    (names : List ℕ) (steps : List Step) (locals : List Value) (fits : List Value → Expanding) (otherwise : Expanding)
    → ((ls : List Value) → KeepsHigh (fits ls)) → KeepsHigh otherwise → KeepsHigh (taken_apart names steps locals fits otherwise)
taken_high names [] locals fits otherwise f o next h = f locals next h
taken_high names (Project g i ∷ steps) locals fits otherwise f o next h =
    beside_high (process.bind next.variable (app g (trees ((value_at locals i).tree ∷ []))))
    (taken_apart names steps (locals ++ made (var next.variable) ∷ []) fits otherwise (one_variable next)) otherwise
    (λ p q a b. (h, a, b))
    (taken_high names steps (locals ++ made (var next.variable) ∷ []) fits otherwise f o (one_variable next) (omega arith)) o
taken_high names (Test i w ∷ steps) locals fits otherwise f o next h =
    let k = taken_high names steps locals fits otherwise f o next h in
    let last = o (taken_apart names steps locals fits otherwise next).next k.on in
    record { binders = (k.binders, last.binders); on = last.on }

copies_high : (n : ℕ) (p : Expanding) → KeepsHigh p → KeepsHigh (and_copies n p)
copies_high zero p h next k = h next k
copies_high (suc n) p h next k = beside_high process.parallel (p next) (and_copies n p) (λ p q a b. (a, b)) (h next k) (copies_high n p h)

nothing_high : KeepsHigh nothing
nothing_high next h = record { binders = tt; on = h }

-- what definitions mean keeps to high variables
pub record AllKeep (names : List ℕ) (ms : List (List Value → Expanding)) : Type 0 where
  pub each : (k : ℕ) (arguments : List Value) → KeepsHigh (called names ms k arguments)

module _ (names : List ℕ) (ms : List (List Value → Expanding)) (keep : AllKeep names ms) where
  mutual
    pub expand_high : (p : Body) (locals : List Value) → KeepsHigh (expand names ms p locals)
    expand_high nil locals next h = nothing_high next h
    expand_high (parallel ps) locals next h = chain_high process.parallel (λ p q a b. (a, b)) ps locals next h
    expand_high (choice ps) locals next h = chain_high process.choice (λ p q a b. (a, b)) ps locals next h
    expand_high (copies n p) locals next h = copies_high (n - 1) (expand names ms p locals) (expand_high p locals) next h
    expand_high (fresh p) locals next h = expand_high p (locals ++ made (private next.name) ∷ []) (one_name next) h
    expand_high (input c steps p) locals next h =
        let k = taken_high names steps (locals ++ made (var next.variable) ∷ []) (expand names ms p) nothing (expand_high p) nothing_high (one_variable next) (omega arith) in
        record { binders = (h, k.binders); on = k.on }
    expand_high (output c u p) locals next h = let k = expand_high p locals next h in record { binders = k.binders; on = k.on }
    expand_high (conditional u v p q) locals next h =
        let k = expand_high p locals next h in
        let last = expand_high q locals (expand names ms p locals next).next k.on in
        record { binders = (k.binders, last.binders); on = last.on }
    expand_high (bind u steps p q) locals next h =
        let k = taken_high names steps (locals ++ made (var next.variable) ∷ []) (expand names ms p) (expand names ms q locals) (expand_high p) (expand_high q locals) (one_variable next)
        (omega arith) in
        let last = expand_high q locals _ k.on in
        record { binders = (h, k.binders, last.binders); on = last.on }
    expand_high (call n arguments) locals next h = keep.each n (values_of locals arguments) next h

    chain_high :
        (join : Process → Process → Process) → ((p q : Process) → EachBinder IsHigh p → EachBinder IsHigh q → EachBinder IsHigh (join p q))
        → (ps : Bodies) (locals : List Value) → KeepsHigh (chain names ms join ps locals)
    chain_high join joins none locals next h = nothing_high next h
    chain_high join joins (more p ps) locals next h = behind_high join joins (expand names ms p locals) (expand_high p locals) ps locals next h

    behind_high :
        (join : Process → Process → Process) → ((p q : Process) → EachBinder IsHigh p → EachBinder IsHigh q → EachBinder IsHigh (join p q)) → (p : Expanding)
        → KeepsHigh p → (ps : Bodies) (locals : List Value) → KeepsHigh (chain_behind names ms join p ps locals)
    behind_high join joins p k none locals next h = k next h
    behind_high join joins p k (more q qs) locals next h =
        beside_high join (p next) (chain_behind names ms join (expand names ms q locals) qs locals) joins (k next h)
        (behind_high join joins (expand names ms q locals) (expand_high q locals) qs locals)

keep_none : (names : List ℕ) → AllKeep names []
keep_none names = record { each = λ k arguments. nothing_high }

keep_more :
    (names : List ℕ) (ms : List (List Value → Expanding)) (m : List Value → Expanding) → ((arguments : List Value) → KeepsHigh (m arguments)) → AllKeep names ms
    → (k : ℕ) (arguments : List Value) → KeepsHigh (called names (ms ++ m ∷ []) k arguments)
keep_more names [] m h keep zero arguments = h arguments
keep_more names [] m h keep (suc k) arguments = nothing_high
keep_more names (x ∷ ms) m h keep zero arguments = keep.each 0 arguments
keep_more names (x ∷ ms) m h keep (suc k) arguments = keep_more names ms m h (record { each = λ j. keep.each (suc j) }) k arguments

keep_all : (names : List ℕ) (earlier : List (List Value → Expanding)) (ds : List Definition) → AllKeep names earlier → AllKeep names (meanings names earlier ds)
keep_all names earlier [] keep = keep
keep_all names earlier (d ∷ ds) keep =
    let m : List Value → Expanding = λ arguments. expand names earlier d.body arguments in
    keep_all names (earlier ++ m ∷ []) ds (record { each = keep_more names earlier m (λ arguments. expand_high names earlier keep d.body arguments) keep })

all_keep : (program : Program) → AllKeep (private_names program) (meanings (private_names program) [] program.definitions)
all_keep program = keep_all (private_names program) [] program.definitions (keep_none (private_names program))

left_high : (program : Program) → HasHigh (left_expansion program)
left_high program = expand_high (private_names program) (meanings (private_names program) [] program.definitions) (all_keep program) program.left.body [] (first_numbers program) (omega arith)

right_high : (program : Program) → HasHigh (right_expansion program)
right_high program =
    expand_high (private_names program) (meanings (private_names program) [] program.definitions) (all_keep program) program.right.body [] (left_expansion program).next (left_high program).on

pub sides_high : (program : Program) → EachBinder (λ x. 2 ^ 63 ≤ x) (left_expansion program).process × EachBinder (λ x. 2 ^ 63 ≤ x) (right_expansion program).process
sides_high program = ((left_high program).binders, (right_high program).binders)
