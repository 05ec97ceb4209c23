-- What bags of numbers do is what the configurations do that they stand for.
use Rattle.std.proofs.Common.{◌≡◌, ℕ, ◌+◌, List, [], ◌∷◌, ◌++◌, refl, sym, ◌∙◌, ap, subst, inl, inr, take, drop, Some, Option, append_assoc}
use Rattle.std.specs.Prelude.{Contains, slice_get}
use Rattle.std.proofs.lemmas.List.{append-nil}
use Rattle.std.proofs.lemmas.List.Sorted.{IsPermutation-refl, IsPermutation-sym}
use Rattle.dps_terms.specs.Tree.{Tree}
use Rattle.dps_process.specs.Process.{Process, output}
use Rattle.dps_process.specs.Steps.{Config, Removes, IsReordered}
use Rattle.dps_process.proofs.Bags.{reordered_refl, reordered_trans, reordered_sym, taken_reordered}
use Rattle.dps_tree.specs.Playing.{settled}
use Rattle.dps_tree.specs.Table.{StandFor, a_part, no_parts, StandForBag, messages_of, listed, frame_of}
use Rattle.dps_tree.specs.Groups.{IsIn, Holds, AreNamed}
use Rattle.dps_tree.specs.Following.{FollowsOne, AreFollowing, GoesOnAt, GroupGoesOn, GroupsGoOn, AreMore}
use Rattle.dps_tree.specs.declared.table.Output.{Output}
use Rattle.dps_tree.specs.declared.table.Table.{Table}
use Rattle.dps_tree.specs.declared.group.Group.{Group}
use Rattle.dps_tree.proofs.Holding.{contains_none}
use Rattle.dps_tree.proofs.Plays.{exchanged_lists}
use Rattle.dps_tree.proofs.OutputNumbers.{StandsForOne, stand_append, stand_apart, stand_permuted, bag_permuted, bag_reordered, bag_append}
use Rattle.dps_tree.proofs.OutputNumbers.{StandsForOutput, stands_for, stand_around, StandAt, stand_at, stand_put, side_by_side, settled_beside}

module _ (table : Table) where
  pub frame_append : (ns ms : List ℕ) → frame_of table (ns ++ ms) ≡ frame_of table ns ++ frame_of table ms
  frame_append [] ms = refl
  frame_append (n ∷ ns) ms =
      ap (λ fs. listed (slice_get (messages_of table) n) ++ fs) (frame_append ns ms) ∙ sym (append_assoc (listed (slice_get (messages_of table) n)) (frame_of table ns) (frame_of table ms))

  pub frame_more : (ns : List ℕ) (m : ℕ) (u : Tree) → slice_get (messages_of table) m ≡ Some u → frame_of table (ns ++ m ∷ []) ≡ frame_of table ns ++ u ∷ []
  frame_more ns m u e = frame_append ns (m ∷ []) ∙ ap (λ (o : Option Tree). frame_of table ns ++ (listed o ++ [])) e

  behind : (xs ys : List Process) → IsReordered (xs ++ ys) (ys ++ xs)
  behind xs ys =
      subst (λ (zs : List Process). IsReordered (xs ++ zs) (ys ++ xs)) (append-nil ys)
      (subst (λ (zs : List Process). IsReordered (xs ++ (ys ++ [])) (ys ++ zs)) (append-nil xs) (exchanged_lists xs ys []))

  -- what the output of a bag is, where the bag stands for parts
  pub output_of :
      (bag : List ℕ) (c i m : ℕ) (next : List ℕ) (ps : List Process) → StandFor table bag ps → (g : GoesOnAt table bag c i m next)
      → (a : StandAt table i g.there.0 bag ps) × ((s : StandsForOutput table g.there.0 a.part) × (s.output_of ≡ g.output))
  output_of bag c i m next ps h g =
      let a = stand_at bag i g.there.0 ps g.there.1 h in
      let s = stands_for a.one in
      (a, (s, cc (s.there, g.there.2)))

  -- a bag that goes on stands for parts
  pub next_named : (bag : List ℕ) (c i m : ℕ) (next : List ℕ) (ps : List Process) → StandFor table bag ps → GoesOnAt table bag c i m next → (qs : List Process) × StandFor table next qs
  next_named bag c i m next ps h g =
      let o = output_of bag c i m next ps h g in
      let below = subst (λ (x : Output). StandFor table x.then.items o.1.0.parts) o.1.1 o.1.0.below in
      let k = stand_permuted ((take i bag ++ drop (i + 1) bag) ++ g.output.then.items) next (o.0.rest ++ o.1.0.parts) g.after (stand_append o.0.others below) in
      (k.0, k.1)

  -- what stands for the parts of a bag that went on follows
  next_follows :
      (group : Group) (bag : List ℕ) (c i m : ℕ) (next : List ℕ) (ps : List Process) (k : Config) → Contains group.bags bag → StandFor table bag ps
      → GoesOnAt table bag c i m next → StandForBag table next k.parts → k.frame ≡ frame_of table (group.frame.items ++ m ∷ [])
      → FollowsOne (IsIn table group) c k
  next_follows group bag c i m next ps k there h g b f =
      let o = output_of bag c i m next ps h g in
      let rest = take i bag ++ drop (i + 1) bag in
      let z = bag_permuted next (rest ++ g.output.then.items) k.parts (IsPermutation-sym _ next g.after) b in
      let apart = stand_apart rest g.output.then.items z.0 z.1 in
      let q = side_by_side apart.back in
      let settles : settled q ≡ apart.back = settled_beside apart.second in
      let u = o.1.0.message in
      let named : slice_get (messages_of table) g.output.message ≡ Some u = subst (λ (x : Output). slice_get (messages_of table) x.message ≡ Some u) o.1.1 o.1.0.named in
      let one : StandsForOne table g.there.0 (output g.output.channel u q) = a_part g.there.2 named apart.second
      (subst (λ (qs : List Process). IsReordered apart.back qs) (sym settles) (reordered_refl apart.back)) no_parts in
      let put = stand_put bag i g.there.0 (output g.output.channel u q) apart.front g.there.1 one apart.first in
      let j : Config = record { parts = put.0; frame = frame_of table group.frame.items } in
      let after : Config = record { parts = settled q ++ apart.front; frame = j.frame ++ u ∷ [] } in
      let order : IsReordered (settled q ++ apart.front) k.parts = subst (λ (qs : List Process). IsReordered (qs ++ apart.front) k.parts) (sym settles)
      (reordered_trans (behind apart.back apart.front) (subst (λ (qs : List Process). IsReordered qs k.parts) apart.same z.2)) in
      let frames : after.frame ≡ k.frame = sym (f ∙ frame_more group.frame.items m u (subst (λ (n : ℕ). slice_get (messages_of table) n ≡ Some u) g.message named)) in (
        j,
        record { bag = bag; there = there; parts = (put.0, put.1, reordered_refl put.0); frame = refl },
        (after, (u, q, apart.front, subst (λ (d : ℕ). Removes (output d u q) put.0 apart.front) g.channel put.2, refl), record { parts = order; frame = frames }),
      )

  -- and what follows is what the bag goes on in stands for
  pub record IsNext (group : Group) (c : ℕ) (k : Config) : Type 0 where
    pub message : ℕ
    pub next : List ℕ
    pub goes : GroupGoesOn table group c group.frame.items message next
    pub parts : StandForBag table next k.parts
    pub frame : k.frame ≡ frame_of table (group.frame.items ++ message ∷ [])

  follows_next : (group : Group) (c : ℕ) (k : Config) → FollowsOne (IsIn table group) c k → IsNext group c k
  follows_next group c k f =
      let j = f.0 in
      let inside = f.1 in
      let next = f.2.0 in
      let u = f.2.1.0 in
      let q = f.2.1.1 in
      let rest = f.2.1.2 in
      let bag = inside.bag in
      let t = taken_reordered f.2.1.3 (reordered_sym inside.parts.2) in
      let a = stand_around t.1 inside.parts.1 in
      let s = stands_for a.one in
      let o = s.output_of in
      let channel : o.channel ≡ c = cc (s.same) in
      let message : s.message ≡ u = cc (s.same) in
      let then : s.then ≡ q = cc (s.same) in
      let others = take a.place bag ++ drop (a.place + 1) bag in
      let below : StandForBag table o.then.items (settled q) = (s.parts, s.below, subst (λ (p : Process). IsReordered s.parts (settled p)) then s.order) in
      let both = bag_append others o.then.items rest (settled q) (t.0, a.others, reordered_sym t.2) below in
      let ordered = bag_reordered (others ++ o.then.items) (rest ++ settled q) (settled q ++ rest) both (behind rest (settled q)) in
      let parts : IsReordered (settled q ++ rest) k.parts = subst (λ (ps : List Process). IsReordered ps k.parts) (ap (λ (x : Config). x.parts) f.2.1.4) f.2.2.parts in
      let named : slice_get (messages_of table) o.message ≡ Some u = s.named ∙ ap Some message in
      record {
        message = o.message;
        next = others ++ o.then.items;
        goes =
            (refl, (bag, inside.there, (a.place, record { output = o; there = (a.number, a.there, s.there); channel = channel; message = refl; after = IsPermutation-refl (others ++ o.then.items) })));
        parts = bag_reordered (others ++ o.then.items) (settled q ++ rest) k.parts ordered parts;
        frame = sym f.2.2.frame ∙ (ap (λ (x : Config). x.frame) f.2.1.4 ∙ (ap (λ fs. fs ++ u ∷ []) inside.frame ∙ sym (frame_more group.frame.items o.message u named)));
      }

  module _ (groups found : List Group) (c : ℕ) (named : AreNamed table groups) (more : AreMore (GroupsGoOn table groups c) [] found) where
    pub found_named : AreNamed table found
    found_named g there bag inside =
        elim (more.sound g there) [
          | inl none ↦ absurd (contains_none g none)
          | inr p ↦ (let q = p.3 bag inside in next_named q.2.1.0 c q.2.1.2.0 p.1 bag _ (named q.0 q.1 q.2.1.0 q.2.1.1).1 q.2.1.2.1)
        ]

    found_follows : (k : Config) → Holds table found k → FollowsOne (Holds table groups) c k
    found_follows k h =
        elim (more.sound h.0 h.1) [
          | inl none ↦ absurd (contains_none h.0 none)
          | inr p ↦ (let q = p.3 h.2.bag h.2.there in
              let frame : k.frame ≡ frame_of table (q.0.frame.items ++ p.1 ∷ []) = h.2.frame ∙ ap (frame_of table) (p.2 ∙ ap (λ fs. fs ++ p.1 ∷ []) q.2.0) in
              let f = next_follows q.0 q.2.1.0 c q.2.1.2.0 p.1 h.2.bag _ k q.2.1.1 (named q.0 q.1 q.2.1.0 q.2.1.1).1 q.2.1.2.1 h.2.parts frame in
              (f.0, (q.0, q.1, f.1), f.2))
        ]

    follows_found : (k : Config) → FollowsOne (Holds table groups) c k → Holds table found k
    follows_found k f =
        let n = follows_next f.1.0 c k (f.0, f.1.2, f.2) in
        let a = more.added f.1.0.frame.items n.message n.next (f.1.0, f.1.1, n.goes) in
        (a.2.0, a.2.1, record { bag = a.0; there = a.2.3; parts = bag_permuted n.next a.0 k.parts a.1 n.parts; frame = n.frame ∙ ap (frame_of table) (sym a.2.2) })

    pub found_following : AreFollowing (Holds table groups) c (Holds table found)
    found_following k = (found_follows k, follows_found k)
