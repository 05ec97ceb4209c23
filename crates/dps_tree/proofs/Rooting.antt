-- What a bag stands for puts out what all else puts out for which the bag stands.
use Rattle.std.proofs.Common.{◌≡◌, ℕ, ◌+◌, List, [], ◌∷◌, ◌++◌, refl, sym, ◌∙◌, ap, subst, take, drop}
use Rattle.dps_terms.specs.Tree.{Tree}
use Rattle.dps_process.specs.Process.{Process, output}
use Rattle.dps_process.specs.Steps.{Config, Removes, IsReordered}
use Rattle.dps_process.proofs.Bags.{reordered_refl, reordered_sym}
use Rattle.dps_tree.specs.Playing.{settled}
use Rattle.dps_process.specs.Problem.{Problem}
use Rattle.dps_tree.specs.Plain.{IsPlain}
use Rattle.dps_tree.specs.Table.{StandFor, StandForBag, IsBagOf}
use Rattle.dps_tree.specs.Groups.{StandForSome}
use Rattle.dps_tree.specs.Nodes.{AreStarts}
use Rattle.dps_tree.specs.declared.table.Output.{Output}
use Rattle.dps_tree.specs.declared.table.Table.{Table}
use Rattle.dps_tree.proofs.Plays.{Plays, stops, plays, plays_reordered}
use Rattle.dps_tree.proofs.Continuing.{Continues}
use Rattle.dps_tree.proofs.OutputNumbers.{bag_grown, stands_for, stand_around, stand_at, stand_append, reordered_append}

played_alike : (table : Table) (cs : List ℕ) (ms : List Tree) (ns : List ℕ) (ps qs : List Process) → Plays ps cs ms → StandFor table ns ps → StandFor table ns qs → Plays qs cs ms
played_alike table [] ms ns ps qs stops h k = stops
played_alike table (c ∷ cs) ms ns ps qs (plays {u = u} {q} {rest = rest} {ms = later} t r) h k =
    let a = stand_around t h in
    let b = stand_at ns a.place a.number qs a.there k in
    let s = stands_for a.one in
    let z = stands_for b.one in
    let o : s.output_of ≡ z.output_of = cc (s.there, z.there) in
    let message : s.message ≡ z.message = cc (s.named, z.named, ap (λ (x : Output). x.message) o) in
    let then : s.then ≡ q = cc (s.same) in
    let taken : b.part ≡ output c u z.then = z.same ∙ cc (s.same, message, ap (λ (x : Output). x.channel) o) in
    let others = take a.place ns ++ drop (a.place + 1) ns in
    let order : IsReordered (settled q ++ rest) (s.parts ++ rest) = reordered_append (settled q) s.parts (reordered_sym (subst (λ (p : Process). IsReordered s.parts (settled p)) then s.order))
    (reordered_refl rest) in
    let below : StandFor table s.output_of.then.items z.parts = subst (λ (x : Output). StandFor table x.then.items z.parts) (sym o) z.below in
    let alike = played_alike table cs later (s.output_of.then.items ++ others) (s.parts ++ rest) (z.parts ++ b.rest) (plays_reordered r order) (stand_append s.below a.others)
    (stand_append below b.others) in
    let back = plays_reordered alike (reordered_append z.parts (settled z.then) z.order (reordered_refl b.rest)) in
    plays (subst (λ (p : Process). Removes p qs b.rest) taken b.taken) back

bag_alike : (table : Table) (cs : List ℕ) (ms : List Tree) (bag : List ℕ) (ps qs : List Process) → Plays ps cs ms → StandForBag table bag ps → StandForBag table bag qs → Plays qs cs ms
bag_alike table cs ms bag ps qs r h k =
    plays_reordered (played_alike table cs ms bag h.0 k.0 (plays_reordered r (reordered_sym h.2)) h.1 k.1) k.2

pub root_continues : (table : Table) (bag : List ℕ) (p : Process) (configs : Config → Type 0) → StandForBag table bag (settled p) → AreStarts table bag configs → Continues (settled p) [] configs
root_continues table bag p configs b h = record {
  sound = λ k c ds ms r. (let s = (h k).0 c in
      subst (λ (f : List Tree). Plays (settled p) ds (f ++ ms)) (sym s.1) (bag_alike table ds ms bag k.parts (settled p) r s.0 b));
  complete = λ ds frame r. (let k : Config = record { parts = settled p; frame = [] } in (k, (h k).1 (b, refl), (frame, r, refl)));
}

-- the bags of both sides, once the table is made
pub record HasBags (problem : Problem) (table : Table) (left right : List ℕ) : Type 0 where
  pub on_left : StandForBag table left (settled problem.left)
  pub on_right : StandForBag table right (settled problem.right)

pub both_bags :
    (problem : Problem) (first second third : Table) (left right : List ℕ) → IsPlain problem → IsBagOf problem.left first second left
    → IsBagOf problem.right second third right → HasBags problem third left right
both_bags problem first second third left right plain l r = record {
  on_left = bag_grown r.grown (l.parts problem.signature plain.left);
  on_right = r.parts problem.signature plain.right;
}

pub stand_for_some : (table : Table) (bag : List ℕ) (ps : List Process) → StandForBag table bag ps → StandForSome table bag
stand_for_some table bag ps b = (b.0, b.1)
