-- Rule 4: what two parts communicate unseen.
use Rattle.std.specs.Prelude.{◌≡◌, ◌↔◌, ℕ, Bool, true, false, IsTrue, ◌&&◌, nat_eq, if◌then◌else◌, List, [], ◌∷◌, ◌++◌, Option, Some, None, map, filter_map, slice_get, All, Any}
use Rattle.std.specs.List.{flat_map}
use Rattle.dps_signature.specs.Signature.{Name, Signature}
use Rattle.dps_process.specs.Models.{Model, Private, Classic, Eavesdrop, MayMeet}
use Rattle.dps_process.specs.Process.{Process, input, output, put}
use Rattle.dps_node.specs.Node.{SymbolicConfig, Node, with_configs}
use Rattle.dps_node.specs.Outcome.{Outcome, changed}

-- whether two parts may communicate unseen on the channel: the test of `MayMeet`
abbrev pub is_private_name : Option Name → Bool
is_private_name (Some name) = name.is_private
is_private_name None = false

abbrev pub may_meet : Model → Signature → ℕ → Bool
may_meet Private signature d = is_private_name (slice_get signature.names d)
may_meet Classic signature d = true
may_meet Eavesdrop signature d = is_private_name (slice_get signature.names d)

abbrev pub MeetingsAreThose : Type 0
MeetingsAreThose = (model : Model) (signature : Signature) (d : ℕ) → IsTrue (may_meet model signature d) ↔ MayMeet model signature d

-- each element, in order, with the others
abbrev pub picks : {A : Type 0} → List A → List (A × List A)
picks [] = []
picks (x ∷ xs) = (x, xs) ∷ map (λ p. (p.0, x ∷ p.1)) (picks xs)

-- the parts without the two, and what sender and receiver become
abbrev pub meeting : Model → Signature → Process → Process → List Process → Option (List Process)
meeting model signature (output d u p) (input c x q) rest =
    if may_meet model signature d && nat_eq c d then Some (rest ++ (p ∷ put x u q ∷ [])) else None
meeting model signature p q rest = None

-- what the parts become by one communication: for each sender in order, for each receiver in order
abbrev pub meetings : Model → Signature → List Process → List (List Process)
meetings model signature parts =
    flat_map
    (λ (sender : Process × List Process). filter_map (λ (receiver : Process × List Process). meeting model signature sender.0 receiver.0 receiver.1) (picks sender.1))
    (picks parts)

abbrev pub unmixed : SymbolicConfig → SymbolicConfig
unmixed c = record c { mixed = false }

-- configurations come to the end of a list, but for those of which an equal one, the mark left out, stands there
pub data AddsEach : List SymbolicConfig → List SymbolicConfig → List SymbolicConfig → Type 0 where
  none_left : {have : List SymbolicConfig} → AddsEach have [] have
  stands :
      {have cs all : List SymbolicConfig} {c : SymbolicConfig}
      → Any (λ d. unmixed d ≡ unmixed c) have → AddsEach have cs all → AddsEach have (c ∷ cs) all
  adds :
      {have longer cs all : List SymbolicConfig} {c : SymbolicConfig}
      → ¬ Any (λ d. unmixed d ≡ unmixed c) have → longer ≡ have ++ c ∷ [] → AddsEach longer cs all → AddsEach have (c ∷ cs) all

abbrev pub AreMixed : Node → Type 0
AreMixed node = All (λ (c : SymbolicConfig). c.mixed ≡ true) node.configs

-- The first configuration without the mark gets it, and its communications are added.
pub data Mixes (model : Model) (signature : Signature) (node : Node) : Outcome → Type 0 where
  mixes :
      {all : List SymbolicConfig} {outcome : Outcome} (before after : List SymbolicConfig) (c : SymbolicConfig)
      → node.configs ≡ before ++ (c ∷ after)
      → All (λ (d : SymbolicConfig). d.mixed ≡ true) before
      → c.mixed ≡ false
      → AddsEach (before ++ (record c { mixed = true } ∷ after)) (map (λ ps. record c { parts = ps; mixed = false }) (meetings model signature c.parts)) all
      → outcome ≡ changed (with_configs node all)
      → Mixes model signature node outcome
