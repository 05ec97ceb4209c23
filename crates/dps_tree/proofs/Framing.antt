-- The frames of groups are those of their configurations.
use Rattle.std.proofs.Common.{◌≡◌, ◌∙◌, ℕ, ◌<◌, List, [], ◌∷◌, length, refl, sym, ap, subst, inl, inr, arith}
use Rattle.std.specs.Prelude.{◌⊎◌, ◌↔◌, Contains}
use Rattle.dps_terms.specs.Tree.{Tree}
use Rattle.dps_process.specs.Steps.{Config}
use Rattle.dps_process.proofs.Bags.{reordered_refl}
use Rattle.dps_tree.specs.Table.{StandForBag, frame_of}
use Rattle.dps_tree.specs.Groups.{IsIn, IsStartGroup, Holds, StandForSome, AreNamed, HoldsFrame}
use Rattle.dps_tree.specs.Nodes.{IsStart, AreStarts, IsRoot}
use Rattle.dps_tree.specs.declared.node.Node.{Node}
use Rattle.dps_tree.specs.declared.group.Group.{Group}
use Rattle.dps_tree.specs.declared.table.Table.{Table}
use Rattle.dps_tree.proofs.Holding.{contains_none, contains_one, contains_first}

pub contains_some : {A : Type 0} (xs : List A) → 0 < length xs → (x : A) × Contains xs x
contains_some [] h = absurd (omega (arith, h))
contains_some (x ∷ xs) h = (x, contains_first x xs)

pub some_contained : {A : Type 0} (xs : List A) (x : A) → Contains xs x → 0 < length xs
some_contained xs x h = omega (arith, h.1)

pub frame_held : (table : Table) (groups : List Group) (f : List Tree) → AreNamed table groups → HoldsFrame table groups f → (k : Config) × Holds table groups k × (f ≡ k.frame)
frame_held table groups f named h =
    let b = contains_some h.0.bags h.2 in
    let p = named h.0 h.1 b.0 b.1 in
    let k : Config = record { parts = p.0; frame = frame_of table h.0.frame.items } in
    (k, (h.0, h.1, record { bag = b.0; there = b.1; parts = (p.0, p.1, reordered_refl p.0); frame = refl }), h.3)

pub held_frame : (table : Table) (groups : List Group) (k : Config) → Holds table groups k → HoldsFrame table groups k.frame
held_frame table groups k h = (h.0, h.1, some_contained h.0.bags h.2.bag h.2.there, h.2.frame)

pub start_group : (bag : List ℕ) (g : Group) (old : List (List ℕ)) → old ≡ [] → g.frame.items ≡ [] → ((b : List ℕ) → Contains g.bags b ↔ (Contains old b ⊎ (b ≡ bag))) → IsStartGroup bag g
start_group bag g old e f h = record {
  frame = f;
  bags = λ b. (
    λ c. elim ((h b).0 c) [ inl d ↦ absurd (contains_none b (subst (λ (bs : List (List ℕ)). Contains bs b) e d)) | inr s ↦ s ],
    λ s. (h b).1 (inr s),
  );
}

-- a group of one start
module _ (table : Table) (bag : List ℕ) (g : Group) (start : IsStartGroup bag g) where
  start_in : (k : Config) (x : Group) → x ≡ g → IsIn table x k → IsStart table bag k
  start_in k x e h =
      let s : IsIn table g k = subst (λ (y : Group). IsIn table y k) e h in
      (subst (λ (b : List ℕ). StandForBag table b k.parts) ((start.bags s.bag).0 s.there) s.parts, s.frame ∙ ap (frame_of table) start.frame)

  pub start_holds : AreStarts table bag (Holds table (g ∷ []))
  start_holds k = (
    λ h. start_in k h.0 (contains_one g h.0 h.1) h.2,
    λ s. (g, contains_first g [], record { bag = bag; there = (start.bags bag).1 refl; parts = s.0; frame = s.1 ∙ ap (frame_of table) (sym start.frame) }),
  )

  pub start_named : StandForSome table bag → AreNamed table (g ∷ [])
  start_named some x c b d =
      let e : x ≡ g = contains_one g x c in
      let here : Contains g.bags b = subst (λ (y : Group). Contains y.bags b) e d in
      subst (StandForSome table) (sym ((start.bags b).0 here)) some

pub root_node :
    (table : Table) (left right : List ℕ) (first second : Group) (node : Node) → node.channels.items ≡ [] → node.left.items ≡ first ∷ []
    → node.right.items ≡ second ∷ [] → IsStartGroup left first → IsStartGroup right second → StandForSome table left → StandForSome table right
    → IsRoot table left right node
root_node table left right first second node c l r s t a b = record {
  channels = c;
  on_left = subst (λ (gs : List Group). AreStarts table left (Holds table gs)) (sym l) (start_holds table left first s);
  on_right = subst (λ (gs : List Group). AreStarts table right (Holds table gs)) (sym r) (start_holds table right second t);
  named = record {
    left = subst (AreNamed table) (sym l) (start_named table left first s a);
    right = subst (AreNamed table) (sym r) (start_named table right second t b);
  };
}
