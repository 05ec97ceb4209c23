-- Trees of a node are trees of the first kid of a split, with the bindings put in; and its levels.
use Rattle.std.proofs.Common.{◌≡◌, ℕ, ◌+◌, ◌-◌, ◌≤◌, List, [], ◌∷◌, ◌++◌, map, length, refl, sym, ◌∙◌, ap, subst, arith, Some}
use Rattle.std.specs.Prelude.{All, if◌then◌else◌}
use Rattle.std.proofs.lemmas.List.Elements.{All-weaker, All-map}
use Rattle.dps_terms.specs.Tree.{Leaf, public, private, var, ax, entry, rigid, Tree}
use Rattle.dps_terms.specs.Replace.{substitute, variables_to}
use Rattle.dps_terms.specs.Kinds.{AnySymbol, NoRigidName}
use Rattle.dps_signature.specs.Signature.{HasShape, shapes}
use Rattle.dps_signature.specs.declared.SymKind.TheVariants.{Constructor}
use Rattle.dps_signature.specs.Kinds.{IsLeafOver}
use Rattle.dps_terms.proofs.Building.{built_weaker, built_instance}
use Rattle.dps_process.specs.Problem.{Problem}
use Rattle.dps_process.specs.Steps.{Label, inputs, outputs, overhears}
use Rattle.dps_know.specs.Know.{Knowledge, entry_at, entry_under, know_under}
use Rattle.dps_know.specs.declared.know.Entry.{Entry}
use Rattle.dps_know.proofs.Listing.{all_of}
use Rattle.dps_solver.specs.Levels.{IsLeafUpTo, IsTreeUpTo}
use Rattle.dps_solver.specs.Scene.{Ask}
use Rattle.dps_solver.specs.Search.{GeneralSolution}
use Rattle.dps_directions.specs.Shapes.{IsListedFor}
use Rattle.dps_directions.proofs.Valuations.{tree_above}
use Rattle.dps_node.specs.Node.{SymbolicConfig, Node, label_under, variables_of, scene_of}
use Rattle.dps_node.specs.Splits.{binding, Applies}
use Rattle.dps_node.specs.Meaning.{IsTreeOver}
use Rattle.dps_node.specs.Invariant.{known_level, messages_in, BringsMessage, IsNoOwnName, HasNoOwnName, IsNodeTree, HasLevels, IsSound}
use Rattle.dps_node.proofs.Truth.{level_meets}
use Rattle.dps_faithful.specs.Laws.{HasLowNumbers, BindsTrees}
use Rattle.dps_faithful.proofs.Levels.{listed_level}
use Rattle.dps_faithful.proofs.Kid.{lowest}
use Rattle.dps_faithful.proofs.Solved.{entry_at_under}
use Rattle.dps_faithful.proofs.KidValues.{entry_at_back}
use Rattle.dps_faithful.proofs.Inheriting.{put_level, put_over}
use Rattle.dps_faithful.proofs.OtherKid.{put_own}

-- knowledge with trees put in keeps its levels
tree_under : (m : ℕ) (z : ℕ → Tree) (know : Knowledge) (levels : List (ℕ × ℕ)) (l : ℕ) (t : Tree) → IsTreeUpTo NoRigidName m know levels l t → IsTreeUpTo NoRigidName m (know_under z know) levels l t
tree_under m z know levels l t up = built_weaker (IsLeafUpTo NoRigidName m know levels l) AnySymbol (IsLeafUpTo NoRigidName m (know_under z know) levels l) t up at
  where
    at : (x : Leaf) → IsLeafUpTo NoRigidName m know levels l x → IsLeafUpTo NoRigidName m (know_under z know) levels l x
    at (public n) h = tt
    at (private n) h = h
    at (ax n) h = h
    at (var n) h = h
    at (rigid n) h = h
    at (entry n) h = (entry_under z h.0, entry_at_under z know n h.0 h.1, h.2)

-- labels that are replaced: where their parts come from
pub record SplitsAt (f : Tree → Tree) (ls : List Label) (before : List Label) (c : ℕ) (t : Tree) : Type 0 where
  pub front : List Label
  pub tree : Tree
  pub back : List Label
  pub at : ls ≡ front ++ (inputs c tree ∷ back)
  pub before_is : before ≡ map (label_under f) front
  pub tree_is : t ≡ f tree

later_split : (f : Tree → Tree) (l b : Label) (ls bs : List Label) (c : ℕ) (t : Tree) → label_under f l ≡ b → SplitsAt f ls bs c t → SplitsAt f (l ∷ ls) (b ∷ bs) c t
later_split f l b ls bs c t e h = record {
  front = l ∷ h.front;
  tree = h.tree;
  back = h.back;
  at = ap (λ (xs : List Label). l ∷ xs) h.at;
  before_is = λ i. sym e i ∷ h.before_is i;
  tree_is = h.tree_is;
}

first_split : (f : Tree → Tree) (l : Label) (ls : List Label) (c : ℕ) (t : Tree) → label_under f l ≡ inputs c t → SplitsAt f (l ∷ ls) [] c t
first_split f (inputs d u) ls c t e =
    let channel : d ≡ c = cc in
    let tree : f u ≡ t = cc in
    record { front = []; tree = u; back = ls; at = ap (λ n. inputs n u ∷ ls) channel; before_is = refl; tree_is = sym tree }
first_split f (outputs d j) ls c t e = cc
first_split f (overhears d j) ls c t e = cc

pub split_labels : (f : Tree → Tree) (ls before after : List Label) (c : ℕ) (t : Tree) → map (label_under f) ls ≡ before ++ (inputs c t ∷ after) → SplitsAt f ls before c t
split_labels f [] [] after c t e = cc
split_labels f [] (b ∷ bs) after c t e = cc
split_labels f (l ∷ ls) [] after c t e = let one : label_under f l ≡ inputs c t = cc in first_split f l ls c t one
split_labels f (l ∷ ls) (b ∷ bs) after c t e =
    let one : label_under f l ≡ b = cc in
    let rest : map (label_under f) ls ≡ bs ++ (inputs c t ∷ after) = cc in
    later_split f l b ls bs c t one (split_labels f ls bs after c t rest)

pub messages_under : (f : Tree → Tree) (ls : List Label) → messages_in (map (label_under f) ls) ≡ messages_in ls
messages_under f [] = refl
messages_under f (inputs c t ∷ ls) = messages_under f ls
messages_under f (outputs c j ∷ ls) = ap (λ n. 1 + n) (messages_under f ls)
messages_under f (overhears c j ∷ ls) = ap (λ n. 1 + n) (messages_under f ls)

brings_under : (f : Tree → Tree) (l : Label) → BringsMessage l → BringsMessage (label_under f l)
brings_under f (inputs c t) h = absurd h
brings_under f (outputs c j) h = tt
brings_under f (overhears c j) h = tt

map_append : {X Y : Type 0} (f : X → Y) (xs ys : List X) → map f (xs ++ ys) ≡ map f xs ++ map f ys
map_append f [] ys = refl
map_append {X} {Y} f (x ∷ xs) ys = ap (λ (zs : List Y). f x ∷ zs) (map_append f xs ys)

module _ (problem : Problem) (node : Node) (sound : IsSound problem node) (c : SymbolicConfig) (ask : Ask) (solution : GeneralSolution)
    (found : IsListedFor NoRigidName (scene_of node c) ask solution) (kid : Node) (applies : Applies node solution.bindings kid)
    (binds : BindsTrees problem.signature solution) (low : HasLowNumbers kid) where
  abbrev put : ℕ → Tree
  put = binding node solution.bindings

  up_know : (l : ℕ) (u : Tree) → IsTreeUpTo NoRigidName node.m node.know (variables_of kid) l u → IsTreeUpTo NoRigidName kid.m kid.know (variables_of kid) l u
  up_know l u h =
      subst (λ (q : Knowledge). IsTreeUpTo NoRigidName kid.m q (variables_of kid) l u) (sym applies.know)
      (subst (λ m. IsTreeUpTo NoRigidName m (know_under put node.know) (variables_of kid) l u) (sym applies.m) (tree_under node.m put node.know (variables_of kid) l u h))

  leaf_put : (l : ℕ) (z : Leaf) → IsLeafUpTo NoRigidName node.m node.know (variables_of node) l z → IsTreeUpTo NoRigidName node.m node.know (variables_of kid) l (variables_to put z)
  leaf_put l (public n) h = tt
  leaf_put l (private n) h = absurd h
  leaf_put l (ax n) h = absurd h
  leaf_put l (entry n) h = h
  leaf_put l (rigid n) h = absurd h.0
  leaf_put l (var n) h = tree_above NoRigidName node.m node.know (variables_of kid) h.0 l (put n) h.2 (put_level problem node sound c ask solution found kid applies binds low n h.0 h.1)

  pub leaf_in_kid : (l : ℕ) (z : Leaf) → IsLeafUpTo NoRigidName node.m node.know (variables_of node) l z → IsTreeUpTo NoRigidName kid.m kid.know (variables_of kid) l (variables_to put z)
  leaf_in_kid l z h = up_know l (variables_to put z) (leaf_put l z h)

  over_leaf : (z : Leaf) → IsLeafOver problem.signature z → IsTreeOver problem.signature (variables_to put z)
  over_leaf (public n) h = h
  over_leaf (private n) h = tt
  over_leaf (ax n) h = tt
  over_leaf (entry n) h = tt
  over_leaf (rigid n) h = tt
  over_leaf (var n) h = put_over problem node sound c ask solution found kid applies binds low n

  own_leaf : (z : Leaf) → IsNoOwnName z → HasNoOwnName (variables_to put z)
  own_leaf (public n) h = h
  own_leaf (private n) h = tt
  own_leaf (ax n) h = tt
  own_leaf (entry n) h = tt
  own_leaf (rigid n) h = tt
  own_leaf (var n) h = put_own problem node sound c ask solution found binds kid applies low n

  pub over_put : (u : Tree) → IsTreeOver problem.signature u → IsTreeOver problem.signature (substitute put u)
  over_put u h = built_instance (IsLeafOver problem.signature) (HasShape (shapes problem.signature) Constructor) (IsLeafOver problem.signature) (variables_to put) u h (λ z st k. over_leaf z k)

  pub own_put : (u : Tree) → HasNoOwnName u → HasNoOwnName (substitute put u)
  own_put u h = built_instance IsNoOwnName AnySymbol IsNoOwnName (variables_to put) u h (λ z st k. own_leaf z k)

  pub tree_put : (l : ℕ) (u : Tree) → IsNodeTree problem.signature node l u → IsNodeTree problem.signature kid l (substitute put u)
  tree_put l u h = record {
    over = over_put u h.over;
    declared_names = own_put u h.declared_names;
    level = up_know l (substitute put u)
        (built_instance (IsLeafUpTo NoRigidName node.m node.know (variables_of node) l) AnySymbol (IsLeafUpTo NoRigidName node.m node.know (variables_of kid) l) (variables_to put) u h.level (λ z st k. leaf_put l z k));
  }

  pub same_known_level : known_level kid ≡ known_level node
  same_known_level = λ i. if applies.closed i then applies.m i else applies.m i - 1

  pub entry_was : (i : ℕ) (e : Entry) → entry_at kid.know i ≡ Some e → (d : Entry) × (entry_at node.know i ≡ Some d) × (e ≡ entry_under put d)
  entry_was i e h = entry_at_back put node.know i e (ap (λ (q : Knowledge). entry_at q i) (sym applies.know) ∙ h)

  same_level_of : (e d : Entry) → e ≡ entry_under put d → e.level ≡ d.level
  same_level_of e d h = ap (λ (x : Entry). x.level) h

  pub kid_has_levels : HasLevels problem.signature kid
  kid_has_levels = record {
    length = applies.m ∙ sound.levels.length ∙ sym (messages_under (substitute put) node.labels) ∙ sym (ap messages_in applies.labels);
    rising = λ i j e f at there le.
        let d = entry_was i e at in
        let g = entry_was j f there in
        let up = sound.levels.rising i j d.0 g.0 d.1 g.1 le in
        omega (arith, up, same_level_of e d.0 d.2, same_level_of f g.0 g.2);
    entries = subst (λ (q : Knowledge). All (λ (e : Entry). e.level ≤ kid.m) q.entries) (sym applies.know)
        (All-map (λ (e : Entry). e.level ≤ kid.m) (entry_under put) node.know.entries
        (All-weaker (λ (e : Entry). e.level ≤ node.m) (λ (e : Entry). e.level ≤ kid.m) (λ e h. omega (arith, h, applies.m)) node.know.entries sound.levels.entries));
    variables = all_of (λ (p : ℕ × ℕ). p.1 ≤ known_level kid) (variables_of kid) (λ p h.
        let x = lowest problem node sound c ask solution found kid applies p.0 p.1 (listed_level kid p h) in
        let up = level_meets (λ (p : ℕ × ℕ). p.1 ≤ known_level node) (variables_of node) x.x p.1 sound.levels.variables x.level in
        omega (arith, up, same_known_level));
    labels = λ before after d t e.
        let s = split_labels (substitute put) node.labels before after d t (sym applies.labels ∙ e) in
        let is = tree_put (messages_in s.front) s.tree (sound.levels.labels s.front s.back d s.tree s.at) in
        let n : messages_in s.front ≡ messages_in before = sym (messages_under (substitute put) s.front) ∙ sym (ap messages_in s.before_is) in
        subst (λ l. IsNodeTree problem.signature kid l t) n (subst (λ (u : Tree). IsNodeTree problem.signature kid (messages_in s.front) u) (sym s.tree_is) is);
    in_work = λ open'.
        let last = sound.levels.in_work (sym applies.closed ∙ open') in (
          map (label_under (substitute put)) last.0,
          label_under (substitute put) last.1,
          applies.labels ∙ ap (map (label_under (substitute put))) last.2 ∙ map_append (label_under (substitute put)) last.0 (last.1 ∷ []),
          brings_under (substitute put) last.1 last.3,
        );
  }
