-- A composition that is recorded leaves the solutions of a node as they are.
use Rattle.std.proofs.Common.{◌≡◌, ℕ, zero, suc, ◌+◌, ◌-◌, ◌<◌, ◌≤◌, List, [], ◌∷◌, ◌++◌, map, length, refl, sym, ◌∙◌, ap, subst, inl, inr, arith, Bool, false, Option, Some, None}
use Rattle.std.specs.Prelude.{◌⊎◌, ◌↔◌, Contains, All, slice_get, filter_map, if◌then◌else◌, ⊤}
use Rattle.std.specs.List.{cons_option}
use Rattle.std.proofs.lemmas.Bool.{cases_lt}
use Rattle.std.proofs.lemmas.List.{length-append, length-map}
use Rattle.std.proofs.lemmas.Option.{slice_get_within}
use Rattle.std.proofs.lemmas.List.Elements.{All-contains, All-weaker}
use Rattle.dps_terms.specs.Tree.{Leaf, public, private, var, ax, entry, rigid, Tree, Trees, leaf, app, none, more, StandsIn, IsAmong, IsSubterm, itself, below, in_first, in_rest}
use Rattle.dps_terms.specs.Replace.{substitute, variables_to, put_entries}
use Rattle.dps_terms.specs.Kinds.{IsBuiltOf, AreBuiltOf, AnySymbol, IsNoVariable, IsKnowledgeLeaf, NoRigidName}
use Rattle.dps_terms.proofs.Building.{leaf_meets, built_weaker}
use Rattle.dps_terms.proofs.Replacing.{keeps_subterms}
use Rattle.dps_terms.proofs.Subterms.{nested}
use Rattle.dps_process.specs.Problem.{Problem}
use Rattle.dps_process.specs.Steps.{Label, inputs, outputs, overhears}
use Rattle.dps_unify.specs.Order.{level_of}
use Rattle.dps_know.specs.Know.{entry_at, compositions}
use Rattle.dps_know.specs.declared.know.Entry.{Entry}
use Rattle.dps_know.proofs.Listing.{all_of}
use Rattle.dps_solver.specs.Levels.{IsLeafUpTo, IsTreeUpTo, IsGroundUpTo, AnyRigidName}
use Rattle.dps_solver.specs.Scene.{Disequation}
use Rattle.dps_solver.specs.Solutions.{IsNormalUnder, IsSolution, valued, IsValuation}
use Rattle.dps_symeval.proofs.Listed.{contains_first, contains_later, contains_cases, mapped, from_mapped}
use Rattle.dps_directions.specs.Fresh.{HasNamesBelow, AreNamesBelow, own_names}
use Rattle.dps_directions.specs.Valid.{IsComposed}
use Rattle.dps_directions.proofs.Directed.{own_names as own_names_solve}
use Rattle.dps_directions.proofs.Valuations.{level_of_instance, valuations_are_one}
use Rattle.dps_node.specs.Node.{SymbolicConfig, Node, label_trees, variables_of, system_of, scene_of}
use Rattle.dps_node.specs.Splits.{IsConfigUnder}
use Rattle.dps_node.specs.Knowing.{record_at, with_composition}
use Rattle.dps_node.specs.Meaning.{IsTreeOver}
use Rattle.dps_node.specs.Invariant.{known_level, messages_in, BringsMessage, IsNoOwnName, HasNoOwnName, IsNodeTree, IsPatternLeafOf, IsSound}
use Rattle.dps_node.proofs.Truth.{level_meets}
use Rattle.dps_faithful.specs.Laws.{HasLowNumbers}
use Rattle.dps_faithful.proofs.Lists.{at_place}
use Rattle.dps_faithful.proofs.Validity.{config_under, becomes, label_place, label_tree_is, disequation_at, scene_is_valid}

abbrev composed_of : List Entry → List Tree
composed_of es = filter_map (λ (e : Entry). e.composition) es

later_one : (o : Option Tree) (rest : List Tree) (r : Tree) → Contains rest r → Contains (cons_option o rest) r
later_one None rest r h = h
later_one (Some t) rest r h = contains_later t rest r h

either_one : (o : Option Tree) (rest : List Tree) (r : Tree) → Contains (cons_option o rest) r → (o ≡ Some r) ⊎ Contains rest r
either_one None rest r h = inr h
either_one (Some t) rest r h = elim (contains_cases t rest r h) [ inl e ↦ inl (ap Some (sym e)) | inr k ↦ inr k ]

this_one : (o : Option Tree) (rest : List Tree) (r : Tree) → o ≡ Some r → Contains (cons_option o rest) r
this_one None rest r e = cc
this_one (Some t) rest r e = let same : t ≡ r = cc in subst (λ u. Contains (t ∷ rest) u) same (contains_first t rest)

-- what is recorded after: what was, and the tree
pub recorded_after : (i : ℕ) (t : Tree) (es : List Entry) (r : Tree) → Contains (composed_of (record_at i t es)) r → Contains (composed_of es) r ⊎ (r ≡ t)
recorded_after i t [] r h = inl h
recorded_after zero t (e ∷ es) r h = inl h
recorded_after (suc zero) t (e ∷ es) r h = elim (contains_cases t (composed_of es) r h) [ inl d ↦ inr d | inr k ↦ inl (later_one e.composition (composed_of es) r k) ]
recorded_after (suc (suc i)) t (e ∷ es) r h = elim (either_one e.composition (composed_of (record_at (suc i) t es)) r h) [
  | inl d ↦ inl (this_one e.composition (composed_of es) r d)
  | inr k ↦ elim (recorded_after (suc i) t es r k) [ inl d ↦ inl (later_one e.composition (composed_of es) r d) | inr d ↦ inr d ]
]

-- nothing that was recorded is lost, where the entry had none
pub recorded_before : (i : ℕ) (t : Tree) (es : List Entry) (r : Tree) → ((e : Entry) → slice_get es i ≡ Some e → e.composition ≡ None)
    → Contains (composed_of es) r → Contains (composed_of (record_at (suc i) t es)) r
recorded_before i t [] r free h = h
recorded_before zero t (e ∷ es) r free h = elim (either_one e.composition (composed_of es) r h) [
  | inl d ↦ let q : None ≡ Some r = sym (free e refl) ∙ d in cc
  | inr k ↦ contains_later t (composed_of es) r k
]
recorded_before (suc i) t (e ∷ es) r free h = elim (either_one e.composition (composed_of es) r h) [
  | inl d ↦ this_one e.composition (composed_of (record_at (suc i) t es)) r d
  | inr k ↦ later_one e.composition (composed_of (record_at (suc i) t es)) r (recorded_before i t es r free k)
]

-- the entries keep their levels
entry_after : (i : ℕ) (t : Tree) (es : List Entry) (j : ℕ) (e : Entry) → slice_get es j ≡ Some e → (d : Entry) × (slice_get (record_at i t es) j ≡ Some d) × (d.level ≡ e.level)
entry_after i t [] j e h = cc
entry_after zero t (x ∷ es) j e h = (e, h, refl)
entry_after (suc zero) t (x ∷ es) zero e h =
    let same : x ≡ e = cc in (record { recipe = x.recipe; level = x.level; composition = Some t }, refl, ap (λ (q : Entry). q.level) same)
entry_after (suc zero) t (x ∷ es) (suc j) e h = (e, h, refl)
entry_after (suc (suc i)) t (x ∷ es) zero e h = (e, h, refl)
entry_after (suc (suc i)) t (x ∷ es) (suc j) e h = entry_after (suc i) t es j e h

entry_before : (i : ℕ) (t : Tree) (es : List Entry) (j : ℕ) (e : Entry) → slice_get (record_at i t es) j ≡ Some e → (d : Entry) × (slice_get es j ≡ Some d) × (d.level ≡ e.level)
entry_before i t [] j e h = cc
entry_before zero t (x ∷ es) j e h = (e, h, refl)
entry_before (suc zero) t (x ∷ es) zero e h = (x, refl, level x e h)
  where
    level : (x e : Entry) → Some (record { recipe = x.recipe; level = x.level; composition = Some t }) ≡ Some e → x.level ≡ e.level
    level x e h = let same : record { recipe = x.recipe; level = x.level; composition = Some t } ≡ e = cc in ap (λ (q : Entry). q.level) same
entry_before (suc zero) t (x ∷ es) (suc j) e h = (e, h, refl)
entry_before (suc (suc i)) t (x ∷ es) zero e h = (e, h, refl)
entry_before (suc (suc i)) t (x ∷ es) (suc j) e h = entry_before (suc i) t es j e h

-- messages of the labels before an input
some_message : (bs : List Label) (last : Label) → BringsMessage last → 1 ≤ messages_in (bs ++ last ∷ [])
some_message [] (inputs c t) h = absurd h
some_message [] (outputs c j) h = omega arith
some_message [] (overhears c j) h = omega arith
some_message (inputs c t ∷ bs) last h = some_message bs last h
some_message (outputs c j ∷ bs) last h = omega arith
some_message (overhears c j ∷ bs) last h = omega arith

fewer_before : (before after bs : List Label) (c : ℕ) (t : Tree) (last : Label) → before ++ (inputs c t ∷ after) ≡ bs ++ last ∷ [] → BringsMessage last
    → messages_in before < messages_in (bs ++ last ∷ [])
fewer_before [] after bs c t last e h = let some = some_message bs last h in omega (arith, some)
fewer_before (x ∷ xs) after [] c t last e h = absurd (omega (arith, ap length e, length-append xs (inputs c t ∷ after)))
fewer_before (inputs d u ∷ xs) after (b ∷ bs) c t last e h =
    let first : b ≡ inputs d u = cc in
    let rest : xs ++ (inputs c t ∷ after) ≡ bs ++ last ∷ [] = cc in
    let low = fewer_before xs after bs c t last rest h in
    subst (λ (l : Label). messages_in (inputs d u ∷ xs) < messages_in (l ∷ bs ++ last ∷ [])) (sym first) low
fewer_before (outputs d j ∷ xs) after (b ∷ bs) c t last e h =
    let first : b ≡ outputs d j = cc in
    let rest : xs ++ (inputs c t ∷ after) ≡ bs ++ last ∷ [] = cc in
    let low = fewer_before xs after bs c t last rest h in
    subst (λ (l : Label). messages_in (outputs d j ∷ xs) < messages_in (l ∷ bs ++ last ∷ [])) (sym first) (omega (arith, low))
fewer_before (overhears d j ∷ xs) after (b ∷ bs) c t last e h =
    let first : b ≡ overhears d j = cc in
    let rest : xs ++ (inputs c t ∷ after) ≡ bs ++ last ∷ [] = cc in
    let low = fewer_before xs after bs c t last rest h in
    subst (λ (l : Label). messages_in (overhears d j ∷ xs) < messages_in (l ∷ bs ++ last ∷ [])) (sym first) (omega (arith, low))

module _ (problem : Problem) (node : Node) (sound : IsSound problem node) (work : node.closed ≡ false) where
  level_now : known_level node ≡ node.m - 1
  level_now = ap (λ (b : Bool). if b then node.m else node.m - 1) work

  some_messages : 1 ≤ node.m
  some_messages =
      let last = sound.levels.in_work work in
      let some = some_message last.0 last.1 last.3 in
      omega (arith, sound.levels.length, ap messages_in last.2, some)

  -- labels were built before the last message
  label_low : (u : Tree) → Contains (label_trees node) u → (l : ℕ) × (l < node.m) × IsTreeUpTo NoRigidName node.m node.know (variables_of node) l u
  label_low u h =
      let place = label_place node.labels u h in
      let last = sound.levels.in_work work in
      let low = fewer_before place.before place.after last.0 place.channel u last.1 (sym place.at ∙ last.2) last.3 in
      (messages_in place.before, omega (arith, low, sound.levels.length, ap messages_in last.2), (sound.levels.labels place.before place.after place.channel u place.at).level)

  pub variable_low : (x l : ℕ) → level_of (variables_of node) x ≡ Some l → l < node.m
  variable_low x l e =
      let low = level_meets (λ (p : ℕ × ℕ). p.1 ≤ known_level node) (variables_of node) x l sound.levels.variables e in
      omega (arith, low, level_now, some_messages)

  -- an entry of the frame's own level stands in a tree, or the tree is of a known level
  pub record HoldsLast (t : Tree) : Type 0 where
    pub i : ℕ
    pub stands : StandsIn (entry i) t
    pub old : (l : ℕ) (e : Entry) → entry_at node.know i ≡ Some e → e.level ≤ l → node.m ≤ l

  abbrev IsLow : Tree → Type 0
  IsLow t = IsTreeUpTo NoRigidName node.m node.know (variables_of node) (node.m - 1) t

  abbrev IsUp : Tree → Type 0
  IsUp t = IsTreeUpTo NoRigidName node.m node.know (variables_of node) node.m t

  last_leaf : (x : Leaf) → IsLeafUpTo NoRigidName node.m node.know (variables_of node) node.m x → HoldsLast (leaf x) ⊎ IsLow (leaf x)
  last_leaf (public n) h = inr tt
  last_leaf (private n) h = absurd h
  last_leaf (ax n) h = absurd h
  last_leaf (rigid n) h = absurd h.0
  last_leaf (var n) h = let low = variable_low n h.0 h.1 in inr (h.0, h.1, omega (arith, low))
  last_leaf (entry n) h = elim (cases_lt h.0.level node.m) [
    | inl low ↦ inr (h.0, h.1, omega (arith, low))
    | inr high ↦ inl (record {
      i = n;
      stands = itself;
      old = λ l e at up. let same : h.0 ≡ e = one h.0 e (sym h.1 ∙ at) in let level = ap (λ (q : Entry). q.level) same in omega (arith, high, up, level);
    })
  ]
    where
      one : (d e : Entry) → Some d ≡ Some e → d ≡ e
      one d e q = cc

  mutual
    find_last : (t : Tree) → IsUp t → HoldsLast t ⊎ IsLow t
    find_last (leaf x) h = last_leaf x h
    find_last (app f ts) h = elim (find_among ts h.1) [
      | inl k ↦ inl (record { i = k.0; stands = below k.1; old = k.2 })
      | inr k ↦ inr (tt, k)
    ]

    find_among : (ts : Trees) → AreBuiltOf (IsLeafUpTo NoRigidName node.m node.know (variables_of node) node.m) AnySymbol ts
        → ((i : ℕ) × IsAmong (leaf (entry i)) ts × ((l : ℕ) (e : Entry) → entry_at node.know i ≡ Some e → e.level ≤ l → node.m ≤ l))
        ⊎ AreBuiltOf (IsLeafUpTo NoRigidName node.m node.know (variables_of node) (node.m - 1)) AnySymbol ts
    find_among none h = inr tt
    find_among (more t ts) h = elim (find_last t h.0) [
      | inl k ↦ inl (k.i, in_first k.stands, k.old)
      | inr k ↦ elim (find_among ts h.1) [
        | inl d ↦ inl (d.0, in_rest d.1, d.2)
        | inr d ↦ inr (k, d)
      ]
    ]

  -- the attacker's own names solve the node, as none stands in it
  names_below : (t : Tree) → HasNoOwnName t → HasNamesBelow 0 t
  names_below t h k st = absurd (leaf_meets IsNoOwnName AnySymbol h st)

  system_names : AreNamesBelow 0 (system_of node)
  system_names = record {
    labels = all_of (HasNamesBelow 0) (label_trees node) (λ u h. names_below u (label_tree_is problem node sound u h).declared_names);
    recorded = All-weaker (λ t. IsComposed t × IsNodeTree problem.signature node node.m t) (HasNamesBelow 0) (λ t h. names_below t h.1.declared_names) (compositions node.know) sound.older.recorded;
    disequations = all_of (λ (d : Disequation). All (λ (p : Tree × Tree). HasNamesBelow 0 p.0 × HasNamesBelow 0 p.1) d.pairs) node.disequations (λ d h.
        all_of (λ (p : Tree × Tree). HasNamesBelow 0 p.0 × HasNamesBelow 0 p.1) d.pairs (λ p k. (
          names_below p.0 (All-contains (λ (q : Tree × Tree). IsNodeTree problem.signature node node.m q.0) d.pairs p (disequation_at problem node sound d h).trees k).declared_names,
          names_below p.1 (All-contains (λ (q : Tree × Tree). IsTreeOver problem.signature q.1 × HasNoOwnName q.1 × IsBuiltOf (IsPatternLeafOf node d.free) AnySymbol q.1) d.pairs p (disequation_at problem node sound d h).patterns k).1,
        )));
  }

  pub own : ℕ → Tree
  own = own_names 0 (system_of node)

  module _ (low : HasLowNumbers node) (c : SymbolicConfig) (listed : Contains node.configs c) (e : ℕ) (at : Entry) (there : slice_get node.know.entries e ≡ Some at) (free : at.composition ≡ None)
      (t : Tree) (is : IsNodeTree problem.signature node node.m t) (composed : IsComposed t)
      (value : (s : ℕ → Tree) (k l : SymbolicConfig) → IsSolution NoRigidName (system_of node) s → Contains node.configs k → IsConfigUnder node s k l
      → (v : Tree) → slice_get l.values e ≡ Some v → put_entries l.values (substitute s t) ≡ v) where
    fresh : IsSolution NoRigidName (system_of node) own
    unfolding own
    fresh = own_names_solve.narrow (scene_of node c) 0 (scene_is_valid problem node sound c listed low) system_names

    still_composed : (z : ℕ → Tree) (u : Tree) → IsComposed u → IsComposed (substitute z u)
    still_composed z (leaf x) h = absurd h
    still_composed z (app f ts) h = tt

    closed_leaf : (l : ℕ) (x : Leaf) → IsLeafUpTo NoRigidName node.m node.know [] l x → IsNoVariable x
    closed_leaf l (public n) h = tt
    closed_leaf l (private n) h = tt
    closed_leaf l (ax n) h = tt
    closed_leaf l (entry n) h = tt
    closed_leaf l (rigid n) h = tt
    closed_leaf l (var n) h = let q : None ≡ Some h.0 = h.1 in cc

    known_leaf : (node.m ≤ at.level) → (x : Leaf) → IsLeafUpTo NoRigidName node.m node.know [] (node.m - 1) x → IsKnowledgeLeaf (λ a. ⊤) AnyRigidName e x
    known_leaf up (public n) h = tt
    known_leaf up (private n) h = absurd h
    known_leaf up (ax n) h = absurd h
    known_leaf up (rigid n) h = tt
    known_leaf up (var n) h = tt
    known_leaf up (entry zero) h = let q : None ≡ Some h.0 = h.1 in cc
    known_leaf up (entry (suc n)) h = elim (cases_lt n e) [
      | inl less ↦ (omega arith, omega (arith, less))
      | inr above ↦ absurd (
          let rises = sound.levels.rising (suc e) (suc n) at h.0 there h.1 (omega (arith, above)) in
          omega (arith, rises, up, h.2, some_messages))
    ]

    -- so the tree holds an entry of the frame's level
    never_low : ¬ IsLow t
    never_low down =
        let g = valuations_are_one NoRigidName (scene_of node c) [] own (record {
          older = λ i e v there at x h. (sound.older.values c i e v listed there at).1 x h;
          each_value = All-contains (λ (q : SymbolicConfig). length q.values ≡ length node.know.entries) node.configs c sound.older.each_value listed;
        }) (record { trees = fresh.choice.trees }) in
        let under = becomes node own g.0 c g.1 in
        let facts = sound.facts own c (config_under own g.0 c) fresh listed under in
        let ground : IsGroundUpTo NoRigidName node.m node.know (node.m - 1) (substitute own t) =
        level_of_instance NoRigidName node.m node.know (variables_of node) own (node.m - 1) fresh.choice.trees t down in
        let v = value_there g.0 g.1 in
        let same = value own c (config_under own g.0 c) fresh listed under v.0 v.1 in
        elim (cases_lt at.level node.m) [
          | inl old ↦ facts.simple e at v.0 (substitute own t) there free (omega (arith, old, level_now)) v.1 (still_composed own t composed)
              (subst (λ k. IsGroundUpTo NoRigidName node.m node.know k (substitute own t)) (sym level_now) ground) same
          | inr last ↦ facts.new e v.0 (substitute own t) v.1
              (built_weaker (IsLeafUpTo NoRigidName node.m node.know [] (node.m - 1)) AnySymbol IsNoVariable (substitute own t) ground (closed_leaf (node.m - 1)))
              (built_weaker (IsLeafUpTo NoRigidName node.m node.know [] (node.m - 1)) AnySymbol (IsKnowledgeLeaf (λ a. ⊤) AnyRigidName e) (substitute own t) ground (known_leaf last)) same
        ]
      where
        value_there : (g : List Tree) → IsValuation (scene_of node c) own g → (v : Tree) × (slice_get g e ≡ Some v)
        value_there g h =
            let long = All-contains (λ (q : SymbolicConfig). length q.values ≡ length node.know.entries) node.configs c sound.older.each_value listed in
            let within = slice_get_within node.know.entries e at there in
            at_place g e (omega (arith, within, long, ap length h, length-map c.values (substitute (valued g own))))

    holds_last : HoldsLast t
    holds_last = elim (find_last t is.level) [ inl h ↦ h | inr h ↦ absurd (never_low h) ]

    abbrev after : Node
    after = with_composition node (suc e) t

    -- it stands in no tree of a smaller level
    nowhere : (s : ℕ → Tree) (l : ℕ) (u : Tree) → l < node.m → IsGroundUpTo NoRigidName node.m node.know l u → ¬ IsSubterm (substitute s t) u
    nowhere s l u low ground inside =
        let stands : StandsIn (entry holds_last.i) (substitute s t) = keeps_subterms (variables_to s) holds_last.stands in
        let up = leaf_meets (IsLeafUpTo NoRigidName node.m node.know [] l) AnySymbol ground (nested stands inside) in
        let high = holds_last.old l up.0 up.1 up.2 in omega (arith, high, low)

    ground_after : (l : ℕ) (u : Tree) → IsGroundUpTo NoRigidName node.m node.know l u → IsGroundUpTo NoRigidName node.m after.know l u
    ground_after l u up = built_weaker (IsLeafUpTo NoRigidName node.m node.know [] l) AnySymbol (IsLeafUpTo NoRigidName node.m after.know [] l) u up leaf_after
      where
        leaf_after : (x : Leaf) → IsLeafUpTo NoRigidName node.m node.know [] l x → IsLeafUpTo NoRigidName node.m after.know [] l x
        leaf_after (public n) h = h
        leaf_after (private n) h = h
        leaf_after (ax n) h = h
        leaf_after (rigid n) h = h
        leaf_after (var n) h = h
        leaf_after (entry zero) h = h
        leaf_after (entry (suc n)) h = let d = entry_after (suc e) t node.know.entries n h.0 h.1 in (d.0, d.1, omega (arith, d.2, h.2))

    ground_before : (l : ℕ) (u : Tree) → IsGroundUpTo NoRigidName node.m after.know l u → IsGroundUpTo NoRigidName node.m node.know l u
    ground_before l u up = built_weaker (IsLeafUpTo NoRigidName node.m after.know [] l) AnySymbol (IsLeafUpTo NoRigidName node.m node.know [] l) u up leaf_before
      where
        leaf_before : (x : Leaf) → IsLeafUpTo NoRigidName node.m after.know [] l x → IsLeafUpTo NoRigidName node.m node.know [] l x
        leaf_before (public n) h = h
        leaf_before (private n) h = h
        leaf_before (ax n) h = h
        leaf_before (rigid n) h = h
        leaf_before (var n) h = h
        leaf_before (entry zero) h = h
        leaf_before (entry (suc n)) h = let d = entry_before (suc e) t node.know.entries n h.0 h.1 in (d.0, d.1, omega (arith, d.2, h.2))

    normal_after : (s : ℕ → Tree) (l : ℕ) (u : Tree) → l < node.m → IsGroundUpTo NoRigidName node.m node.know l u → IsNormalUnder s (system_of node) u → IsNormalUnder s (system_of after) u
    normal_after s l u low ground normal r h inside =
        let o = from_mapped (substitute s) (compositions after.know) r h in
        elim (recorded_after (suc e) t node.know.entries o.0 o.1) [
          | inl k ↦ normal r (subst (λ w. Contains (map (substitute s) (compositions node.know)) w) (sym o.2) (mapped (substitute s) (compositions node.know) o.0 k)) inside
          | inr k ↦ nowhere s l u low ground (subst (λ w. IsSubterm w u) (o.2 ∙ ap (substitute s) k) inside)
        ]

    normal_before : (s : ℕ → Tree) (u : Tree) → IsNormalUnder s (system_of after) u → IsNormalUnder s (system_of node) u
    normal_before s u normal r h inside =
        let o = from_mapped (substitute s) (compositions node.know) r h in
        normal r (subst (λ w. Contains (map (substitute s) (compositions after.know)) w) (sym o.2) (mapped (substitute s) (compositions after.know) o.0
        (recorded_before e t node.know.entries o.0 (λ d k. let same : at ≡ d = one at d (sym there ∙ k) in ap (λ (q : Entry). q.composition) (sym same) ∙ free) o.1))) inside
      where
        one : (d e : Entry) → Some d ≡ Some e → d ≡ e
        one d e q = cc

    pub same_solutions : (s : ℕ → Tree) → IsSolution NoRigidName (system_of node) s ↔ IsSolution NoRigidName (system_of after) s
    same_solutions s = (
      λ h. record {
        choice = record { trees = λ x l e. ground_after l (s x) (h.choice.trees x l e); others = h.choice.others };
        normal = λ x l e. normal_after s l (s x) (variable_low x l e) (h.choice.trees x l e) (h.normal x l e);
        respects = record {
          labels = all_of (λ u. IsNormalUnder s (system_of after) (substitute s u)) (label_trees node) (λ u k.
              let level = label_low u k in
              normal_after s level.0 (substitute s u) level.1 (level_of_instance NoRigidName node.m node.know (variables_of node) s level.0 h.choice.trees u level.2)
              (All-contains (λ u. IsNormalUnder s (system_of node) (substitute s u)) (label_trees node) u h.respects.labels k));
          disequations = h.respects.disequations;
        };
      },
      λ h. record {
        choice = record { trees = λ x l e. ground_before l (s x) (h.choice.trees x l e); others = h.choice.others };
        normal = λ x l e. normal_before s (s x) (h.normal x l e);
        respects = record {
          labels =
              All-weaker (λ u. IsNormalUnder s (system_of after) (substitute s u))
              (λ u. IsNormalUnder s (system_of node) (substitute s u)) (λ u k. normal_before s (substitute s u) k)
              (label_trees node) h.respects.labels;
          disequations = h.respects.disequations;
        };
      },
    )
