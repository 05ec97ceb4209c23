-- Processes of `0`, `|`, copies, `new`, outputs and calls.
use Rattle.std.proofs.Common.{List, [], ◌∷◌}
use Rattle.dps_scopes.specs.Body.{none, more}
use Rattle.dps_names.specs.Program.{Body, Bodies, nil, parallel, choice, copies, fresh, input, output, conditional, bind, call, bodies}
use Rattle.dps_names.specs.Processes.{joined}

abbrev mutual
  pub IsPlainBody : Body → Type 0
  IsPlainBody nil = Unit {0}
  IsPlainBody (parallel ps) = ArePlainBodies ps
  IsPlainBody (choice ps) = ⊥
  IsPlainBody (copies n p) = IsPlainBody p
  IsPlainBody (fresh p) = IsPlainBody p
  IsPlainBody (input c steps p) = ⊥
  IsPlainBody (output c u p) = IsPlainBody p
  IsPlainBody (conditional u v p q) = ⊥
  IsPlainBody (bind u steps p q) = ⊥
  IsPlainBody (call n arguments) = Unit {0}

  pub ArePlainBodies : Bodies → Type 0
  ArePlainBodies none = Unit {0}
  ArePlainBodies (more p ps) = IsPlainBody p × ArePlainBodies ps

-- each process of a list
abbrev pub EachIsPlain : List Body → Type 0
EachIsPlain [] = Unit {0}
EachIsPlain (p ∷ ps) = IsPlainBody p × EachIsPlain ps

plain_bodies : (ps : List Body) → EachIsPlain ps → ArePlainBodies (bodies ps)
plain_bodies [] h = tt
plain_bodies (p ∷ ps) h = (h.0, plain_bodies ps h.1)

pub joined_plain : (ps : List Body) → EachIsPlain ps → IsPlainBody (joined parallel ps)
joined_plain [] h = tt
joined_plain (p ∷ []) h = h.0
joined_plain (p ∷ q ∷ ps) h = plain_bodies (p ∷ q ∷ ps) h
