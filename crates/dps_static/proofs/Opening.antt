-- Open ways, and ways without rigid names: new names of the attacker stand for the rigid ones.
use Rattle.std.proofs.Common.{◌≡◌, ℕ, ◌+◌, ◌-◌, List, refl, arith, false}
use Rattle.std.specs.Prelude.{cond}
use Rattle.std.proofs.Math.Dec.{ltb}
use Rattle.std.proofs.lemmas.Bool.{lt-ltb, ltb-true, false_from_ne_true}
use Rattle.dps_signature.specs.declared.SymKind.TheVariants.{Constructor}
use Rattle.dps_terms.specs.declared.PublicName.{PublicName}
use Rattle.dps_terms.specs.declared.PublicName.TheVariants.{Declared, At}
use Rattle.dps_terms.specs.Tree.{Leaf, public, private, var, ax, entry, rigid, Tree, Trees, leaf, app, none, more}
use Rattle.dps_terms.specs.Replace.{replace, rigid_names_to, put_entries}
use Rattle.dps_signature.specs.Signature.{Shape, HasShape}
use Rattle.dps_terms.specs.Kinds.{AreBuiltOf, AnySymbol, IsNoVariable, IsKnowledgeLeaf, IsKnowledgeTree, NoRigidName, IsFrameLeaf}
use Rattle.dps_signature.specs.Kinds.{IsFrameMessage}
use Rattle.dps_terms.proofs.Building.{built_weaker}
use Rattle.dps_theory.proofs.FreshNames.{LeafBelow}
use Rattle.dps_static.specs.Ways.{AnyName, AnyRigid, IsWay, IsOpenWay}
use Rattle.dps_static.specs.Generic.{IsNoRigidLeaf, HasNoRigidName, filled, all_filled}
use Rattle.dps_static.proofs.Ways.{AreWays, AreOpenWays, put_all}

-- names of the attacker from a number on
abbrev pub newly : ℕ → ℕ → Tree
newly b k = leaf (public (At (b + k)))

abbrev pub name_back : ℕ → PublicName → Tree
name_back b (Declared n) = leaf (public (Declared n))
name_back b (At k) = cond (ltb k b) (leaf (public (At k))) (leaf (rigid (k - b)))

abbrev pub back : ℕ → Leaf → Tree
back b (public a) = name_back b a
back b x = leaf x

not_below : (b k : ℕ) → ltb (b + k) b ≡ false
not_below b k = false_from_ne_true _ (λ e. let h = ltb-true (b + k) b e in absurd (omega (arith, h)))

pub undone : (b : ℕ) (x : Leaf) → LeafBelow b x → replace (back b) (rigid_names_to (newly b) x) ≡ leaf x
undone b (public (Declared n)) h = refl
undone b (public (At k)) h = rw (lt-ltb k b h) refl
undone b (private n) h = refl
undone b (var n) h = refl
undone b (ax n) h = refl
undone b (entry n) h = refl
undone b (rigid k) h =
    let same : b + k - b ≡ k = omega arith in
    rw (not_below b k, same) refl

-- open ways become ways without rigid names
module _ (n b : ℕ) where
  leaf_way : (x : Leaf) → IsOpenWay n (leaf x) → IsWay n (rigid_names_to (newly b) x)
  leaf_way (rigid k) h = (tt, tt)
  leaf_way (public a) h = (h.1, h.0)
  leaf_way (private k) h = absurd h.0
  leaf_way (var k) h = absurd h.1
  leaf_way (ax k) h = absurd h.0
  leaf_way (entry k) h = (h.1, h.0)

  mutual
    pub way_of : (w : Tree) → IsOpenWay n w → IsWay n (filled (newly b) w)
    way_of (leaf x) h = leaf_way x h
    way_of (app f ws) h = let k = ways_of ws h.0.1 h.1.1 in ((tt, k.0), (tt, k.1))

    pub ways_of :
        (ws : Trees) → AreBuiltOf (IsKnowledgeLeaf AnyName AnyRigid n) AnySymbol ws → AreBuiltOf IsNoVariable AnySymbol ws
        → AreBuiltOf IsNoVariable AnySymbol (all_filled (newly b) ws) × AreBuiltOf (IsKnowledgeLeaf AnyName NoRigidName n) AnySymbol (all_filled (newly b) ws)
    ways_of none h k = (tt, tt)
    ways_of (more w ws) h k =
        let a = way_of w (h.0, k.0) in
        let c = ways_of ws h.1 k.1 in ((a.0, c.0), (a.1, c.1))

-- a way that builds a tree without rigid names has none itself
module _ (kept : List Tree) (n : ℕ) where
  leaf_closed : (x : Leaf) → IsOpenWay n (leaf x) → HasNoRigidName (put_entries kept (leaf x)) → IsWay n (leaf x)
  leaf_closed (rigid k) h c = absurd c
  leaf_closed (public a) h c = (tt, tt)
  leaf_closed (private k) h c = absurd h.0
  leaf_closed (var k) h c = absurd h.1
  leaf_closed (ax k) h c = absurd h.0
  leaf_closed (entry k) h c = (h.1, h.0)

  mutual
    pub way_closed : (w : Tree) → IsOpenWay n w → HasNoRigidName (put_entries kept w) → IsWay n w
    way_closed (leaf x) h c = leaf_closed x h c
    way_closed (app f ws) h c = let k = ways_closed ws (record { known = h.0.1; closed = h.1.1 }) c.1 in ((tt, k.closed), (tt, k.known))

    pub ways_closed : (ws : Trees) → AreOpenWays n ws → AreBuiltOf IsNoRigidLeaf AnySymbol (put_all kept ws) → AreWays n ws
    ways_closed none h c = record { closed = tt; known = tt }
    ways_closed (more w ws) h c =
        let one = way_closed w (h.known.0, h.closed.0) c.0 in
        let rest = ways_closed ws (record { known = h.known.1; closed = h.closed.1 }) c.1 in
        record { closed = (one.0, rest.closed); known = (one.1, rest.known) }

-- ways without rigid names are open ways
pub way_opened : (n : ℕ) (w : Tree) → IsWay n w → IsOpenWay n w
way_opened n w h = (go w h.1, h.0)
  where
    go_leaf : (x : Leaf) → IsKnowledgeLeaf AnyName NoRigidName n x → IsKnowledgeLeaf AnyName AnyRigid n x
    go_leaf (rigid k) h = absurd h
    go_leaf (public a) h = tt
    go_leaf (private k) h = h
    go_leaf (var k) h = tt
    go_leaf (ax k) h = h
    go_leaf (entry k) h = h

    go : (w : Tree) → IsKnowledgeTree AnyName NoRigidName AnySymbol n w → IsKnowledgeTree AnyName AnyRigid AnySymbol n w
    go w h = built_weaker (IsKnowledgeLeaf AnyName NoRigidName n) AnySymbol (IsKnowledgeLeaf AnyName AnyRigid n) w h go_leaf

-- messages of a frame hold no rigid name
message_leaf : (x : Leaf) → IsFrameLeaf x → IsNoRigidLeaf x
message_leaf (rigid k) h = absurd h
message_leaf (public a) h = tt
message_leaf (private n) h = tt
message_leaf (var n) h = tt
message_leaf (ax j) h = tt
message_leaf (entry i) h = tt

mutual
  pub message_low : (known : List Shape) (t : Tree) → IsFrameMessage known t → HasNoRigidName t
  message_low known (leaf x) h = message_leaf x h
  message_low known (app f ts) h = (tt, messages_low known ts h.1)

  messages_low : (known : List Shape) (ts : Trees) → AreBuiltOf IsFrameLeaf (HasShape known Constructor) ts → AreBuiltOf IsNoRigidLeaf AnySymbol ts
  messages_low known none h = tt
  messages_low known (more t ts) h = (message_low known t h.0, messages_low known ts h.1)
