-- Parts of outputs alone, whose messages are frame messages over the signature.
use Rattle.std.proofs.Common.{List, [], ◌∷◌, ◌++◌}
use Rattle.std.specs.Prelude.{⊤}
use Rattle.dps_signature.specs.Signature.{Signature, IsPublic}
use Rattle.dps_process.specs.Process.{Process, nil, parallel, choice, conditional, bind, input, output}
use Rattle.dps_process.specs.Steps.{Removes, here, there}
use Rattle.dps_process.proofs.Values.{IsMessageOver}
use Rattle.dps_tree.specs.Playing.{settled}

module _ (signature : Signature) where
  abbrev pub IsPlainPart : Process → Type 0
  IsPlainPart nil = ⊤
  IsPlainPart (parallel p q) = IsPlainPart p × IsPlainPart q
  IsPlainPart (choice p q) = ⊥
  IsPlainPart (conditional u v p q) = ⊥
  IsPlainPart (bind x u p q) = ⊥
  IsPlainPart (input c x p) = ⊥
  IsPlainPart (output c u p) = IsPublic signature c × IsMessageOver signature u × IsPlainPart p

  abbrev pub ArePlain : List Process → Type 0
  ArePlain [] = ⊤
  ArePlain (p ∷ ps) = IsPlainPart p × ArePlain ps

  pub plain_taken : {p : Process} {ps rest : List Process} → Removes p ps rest → ArePlain ps → IsPlainPart p × ArePlain rest
  plain_taken here h = h
  plain_taken (there t) h = let k = plain_taken t h.1 in (k.0, (h.0, k.1))

  pub plain_append : (ps qs : List Process) → ArePlain ps → ArePlain qs → ArePlain (ps ++ qs)
  plain_append [] qs h k = k
  plain_append (p ∷ ps) qs h k = (h.0, plain_append ps qs h.1 k)

  pub plain_settled : (p : Process) → IsPlainPart p → ArePlain (settled p)
  plain_settled nil h = tt
  plain_settled (parallel p q) h = plain_append (settled p) (settled q) (plain_settled p h.0) (plain_settled q h.1)
  plain_settled (choice p q) h = (h, tt)
  plain_settled (conditional u v p q) h = (h, tt)
  plain_settled (bind x u p q) h = (h, tt)
  plain_settled (input c x p) h = (h, tt)
  plain_settled (output c u p) h = (h, tt)
