-- Processes of `0`, `|`, copies, `new`, outputs and calls, written out: `0`, `|` and outputs alone.
use Rattle.std.proofs.Common.{◌≡◌, ℕ, zero, suc, ◌-◌, ◌<◌, Bool, true, false, if◌then◌else◌, List, [], ◌∷◌, ◌++◌, Option, Some, None, length, slice_get, unwrap_or, sym, ap, subst, ◌∙◌, arith}
use Rattle.std.specs.List.{All}
use Rattle.std.proofs.lemmas.List.Elements.{All-head, All-tail, All-weaker}
use Rattle.dps_lex.specs.declared.vocabulary.Place.{Place}
use Rattle.dps_signature.specs.declared.SymKind.TheVariants.{Constructor}
use Rattle.dps_signature.specs.Signature.{Name, Signature}
use Rattle.dps_process.specs.Process as process
use Rattle.dps_process.specs.Process.{Process, EachChannel}
use Rattle.dps_process.specs.Problem.{Problem, IsLawfulSide, IsLawful}
use Rattle.dps_tree.specs.Plain.{HasOutputsAlone, IsPlain}
use Rattle.dps_scopes.specs.Body.{none, more}
use Rattle.dps_names.specs.Program.{Program, Definition, Body, Bodies, nil, parallel, choice, copies, fresh, input, output, conditional, bind, call}
use Rattle.dps_elab.specs.declared.found.PrivateUse.{PrivateUse}
use Rattle.dps_elab.specs.declared.found.ChannelUse.{ChannelUse}
use Rattle.dps_elab.specs.declared.fault.ExpansionCause.{ExpansionCause}
use Rattle.dps_elab.specs.Expansion.{Value, Expanding, nothing, and_copies, one_name, values_of}
use Rattle.dps_elab.specs.Expansion.{expand, chain, chain_behind, meanings, private_names, expansion, left_expansion, right_expansion}
use Rattle.dps_elab.specs.Limits.{is_too_large}
use Rattle.dps_elab.specs.Meaning.{Expanded, sides, refused, first_such, is_no_channel, is_channel, checked_privates, checked_channels, expanded}
use Rattle.dps_judge.proofs.PlainBodies.{IsPlainBody, ArePlainBodies}
use Rattle.dps_judge.proofs.PlainPrograms.{HasPlainBody, IsPublicName, IsPlainSymbol, IsPlainProgram}
use Rattle.dps_judge.proofs.PlainTheories.{unruled}
use Rattle.dps_rules.specs.Rules.{theory_of}

-- `0`, `|` and outputs
abbrev HasOutputs : Process → Type 0
HasOutputs process.nil = Unit {0}
HasOutputs (process.parallel p q) = HasOutputs p × HasOutputs q
HasOutputs (process.choice p q) = ⊥
HasOutputs (process.conditional u v p q) = ⊥
HasOutputs (process.bind x u p q) = ⊥
HasOutputs (process.input c x p) = ⊥
HasOutputs (process.output c u p) = HasOutputs p

record Outputs (e : Expanding) : Type 0 where
  pub alone : (next : _) → HasOutputs (e next).process

abbrev PutsOut : (List Value → Expanding) → Type 0
PutsOut meaning = (arguments : List Value) → Outputs (meaning arguments)

abbrev AllPutOut : List (List Value → Expanding) → Type 0
AllPutOut [] = Unit {0}
AllPutOut (m ∷ ms) = PutsOut m × AllPutOut ms

put_out_more : (ms : List (List Value → Expanding)) (m : List Value → Expanding) → AllPutOut ms → PutsOut m → AllPutOut (ms ++ m ∷ [])
put_out_more [] m h k = (k, tt)
put_out_more (x ∷ ms) m h k = (h.0, put_out_more ms m h.1 k)

called_puts_out : (ms : List (List Value → Expanding)) (n : ℕ) → AllPutOut ms → PutsOut (unwrap_or (slice_get ms n) (λ values. nothing))
called_puts_out [] n h arguments = record { alone = λ next. tt }
called_puts_out (m ∷ ms) zero h arguments = h.0 arguments
called_puts_out (m ∷ ms) (suc n) h arguments = called_puts_out ms n h.1 arguments

copies_put_out : (k : ℕ) (e : Expanding) → Outputs e → (next : _) → HasOutputs (and_copies k e next).process
copies_put_out zero e h next = h.alone next
copies_put_out (suc k) e h next = (h.alone next, copies_put_out k e h (e next).next)

module _ (privates : List ℕ) (definitions : List (List Value → Expanding)) (all : AllPutOut definitions) where
  mutual
    expand_puts_out : (p : Body) (locals : List Value) → IsPlainBody p → (next : _) → HasOutputs (expand privates definitions p locals next).process
    expand_puts_out nil locals h next = tt
    expand_puts_out (parallel ps) locals h next = chain_puts_out ps locals h next
    expand_puts_out (choice ps) locals h next = absurd h
    expand_puts_out (copies n p) locals h next = copies_put_out (n - 1) (expand privates definitions p locals) (record { alone = λ after. expand_puts_out p locals h after }) next
    expand_puts_out (fresh p) locals h next = expand_puts_out p _ h (one_name next)
    expand_puts_out (input c steps p) locals h next = absurd h
    expand_puts_out (output c u p) locals h next = expand_puts_out p locals h next
    expand_puts_out (conditional u v p q) locals h next = absurd h
    expand_puts_out (bind u steps p q) locals h next = absurd h
    expand_puts_out (call n arguments) locals h next = (called_puts_out definitions n all (values_of locals arguments)).alone next

    chain_puts_out : (ps : Bodies) (locals : List Value) → ArePlainBodies ps → (next : _) → HasOutputs (chain privates definitions process.parallel ps locals next).process
    chain_puts_out none locals h next = tt
    chain_puts_out (more p ps) locals h next = behind_puts_out ps (expand privates definitions p locals) locals (record { alone = λ after. expand_puts_out p locals h.0 after }) h.1 next

    behind_puts_out :
        (ps : Bodies) (e : Expanding) (locals : List Value) → Outputs e → ArePlainBodies ps → (next : _)
        → HasOutputs (chain_behind privates definitions process.parallel e ps locals next).process
    behind_puts_out none e locals k h next = k.alone next
    behind_puts_out (more q qs) e locals k h next =
        (k.alone next, behind_puts_out qs (expand privates definitions q locals) locals (record { alone = λ after. expand_puts_out q locals h.0 after }) h.1 (e next).next)

meanings_put_out :
    (privates : List ℕ) (definitions : List Definition) (earlier : List (List Value → Expanding)) → AllPutOut earlier → All HasPlainBody definitions
    → AllPutOut (meanings privates earlier definitions)
meanings_put_out privates [] earlier all h = all
meanings_put_out privates (d ∷ definitions) earlier all h =
    meanings_put_out privates definitions (earlier ++ (λ arguments. expand privates earlier d.body arguments) ∷ [])
    (put_out_more earlier (λ arguments. expand privates earlier d.body arguments) all
    (λ arguments. record { alone = λ next. expand_puts_out privates earlier all d.body arguments (All-head HasPlainBody d definitions h) next }))
    (All-tail HasPlainBody d definitions h)

side_puts_out : (program : Program) (p : Body) → IsPlainProgram program → IsPlainBody p → (next : _) → HasOutputs (expansion program p next).process
side_puts_out program p plain h next =
    expand_puts_out (private_names program) (meanings (private_names program) [] program.definitions) (meanings_put_out (private_names program) program.definitions [] tt plain.definitions) p [] h next

-- the sides are the processes that were written out

if_sides : (b : Bool) (place : Place) (why : ExpansionCause) (rest : Expanded) (x y : Process) → (if b then refused place why else rest) ≡ sides x y → rest ≡ sides x y
if_sides true place why rest x y e = cc
if_sides false place why rest x y e = e

privates_sides : (l r x y : Process) (o : Option PrivateUse) → checked_privates l r o ≡ sides x y → (l ≡ x) × (r ≡ y)
privates_sides l r x y (Some u) e = cc
privates_sides l r x y None e =
    let first : l ≡ x = cc in
    let second : r ≡ y = cc in
    (first, second)

channels_sides : (l r x y : Process) (channels : List ChannelUse) (privates : List PrivateUse) (o : Option ChannelUse) → checked_channels l r channels privates o ≡ sides x y → (l ≡ x) × (r ≡ y)
channels_sides l r x y channels privates (Some c) e = cc
channels_sides l r x y channels privates None e = privates_sides l r x y (first_such (λ u. is_channel channels u.name) privates) e

expanded_sides : (program : Program) (x y : Process) → expanded program ≡ sides x y → ((left_expansion program).process ≡ x) × ((right_expansion program).process ≡ y)
expanded_sides program x y e =
    let l = left_expansion program in
    let r = right_expansion program in
    channels_sides l.process r.process x y (l.channels ++ r.channels) (l.privates ++ r.privates) (first_such is_no_channel (l.channels ++ r.channels))
    (if_sides (is_too_large r.process) _ _ _ x y (if_sides (is_too_large l.process) _ _ _ x y e))

-- each channel is public

public_at : (names : List Name) (n : ℕ) → n < length names → All IsPublicName names → (bytes : List ℕ) × (slice_get names n ≡ Some (record { name = bytes; is_private = false }))
public_at [] n h all = absurd (omega arith)
public_at (x ∷ names) zero h all = let e : x.is_private ≡ false = All-head IsPublicName x names all in (x.name, λ i. Some (record { name = x.name; is_private = e i }))
public_at (x ∷ names) (suc n) h all = public_at names n (omega arith) (All-tail IsPublicName x names all)

outputs_alone : (signature : Signature) (p : Process) → All IsPublicName signature.names → EachChannel (λ c. c < length signature.names) p → HasOutputs p → HasOutputsAlone signature p
outputs_alone signature process.nil all c h = tt
outputs_alone signature (process.parallel p q) all c h = (outputs_alone signature p all c.0 h.0, outputs_alone signature q all c.1 h.1)
outputs_alone signature (process.choice p q) all c h = absurd h
outputs_alone signature (process.conditional u v p q) all c h = absurd h
outputs_alone signature (process.bind x u p q) all c h = absurd h
outputs_alone signature (process.input d x p) all c h = absurd h
outputs_alone signature (process.output d u p) all c h = (public_at signature.names d c.0 all, outputs_alone signature p all c.1 h)

pub record AreOutputs (signature : Signature) (x y : Process) : Type 0 where
  pub first : HasOutputsAlone signature x
  pub second : HasOutputsAlone signature y

pub sides_put_out :
    (program : Program) (x y : Process) → IsPlainProgram program → expanded program ≡ sides x y
    → EachChannel (λ c. c < length program.signature.names) x → EachChannel (λ c. c < length program.signature.names) y → AreOutputs program.signature x y
sides_put_out program x y plain e c d =
    let s = expanded_sides program x y e in
    record {
      first = outputs_alone program.signature x plain.names c (subst HasOutputs s.0 (side_puts_out program program.left.body plain plain.left _));
      second = outputs_alone program.signature y plain.names d (subst HasOutputs s.1 (side_puts_out program program.right.body plain plain.right _));
    }

-- so the problem is one of outputs alone
pub plain_problem :
    (problem : Problem) (program : Program) → IsPlainProgram program → problem.signature ≡ program.signature → problem.theory ≡ theory_of program
    → expanded program ≡ sides problem.left problem.right → IsLawful problem → IsPlain problem
plain_problem problem program plain signature theory e lawful =
    let channels : Process → Type 0 = λ p. EachChannel (λ c. c < length program.signature.names) p in
    let same : (p : Process) → IsLawfulSide problem.signature p → channels p = λ p l. subst (λ (s : Signature). EachChannel (λ c. c < length s.names) p) signature l.channels in
    let outputs = sides_put_out program problem.left problem.right plain e (same problem.left lawful.left) (same problem.right lawful.right) in
    record {
      constructors =
          subst
          (λ (s : Signature). All (λ f. f.kind ≡ Constructor) s.symbols)
          (sym signature)
          (All-weaker IsPlainSymbol (λ f. f.kind ≡ Constructor) (λ f h. h.kind) program.signature.symbols plain.symbols);
      no_rules = ap (λ t. t.rules) (theory ∙ unruled program plain);
      left = subst (λ (s : Signature). HasOutputsAlone s problem.left) (sym signature) outputs.first;
      right = subst (λ (s : Signature). HasOutputsAlone s problem.right) (sym signature) outputs.second;
    }
