-- The values of the entries under a choice of trees: they exist, are unique, and go along with bindings.
use Rattle.std.proofs.Common.{◌≡◌, ℕ, zero, suc, ◌+◌, ◌<◌, ◌≤◌, List, [], ◌∷◌, length, map, inl, inr, Option, Some, None, refl, sym, ◌∙◌, ap, arith, subst}
use Rattle.std.specs.Prelude.{slice_get, unwrap_or}
use Rattle.std.specs.Option.{option_map}
use Rattle.std.proofs.lemmas.Option.{slice_get-map, slice_get_past, slice_get_cases, none-some}
use Rattle.std.proofs.lemmas.List.{length-map}
use Rattle.dps_terms.specs.Tree.{Leaf, public, private, var, ax, entry, rigid, Tree, leaf, StandsIn}
use Rattle.dps_terms.specs.Replace.{replace, substitute, variables_to, entries_to, put_entries, numbered}
use Rattle.dps_terms.specs.Kinds.{IsBuiltOf, AnySymbol}
use Rattle.dps_terms.proofs.Replacing.{replace_in_turn, replace_agrees}
use Rattle.dps_terms.proofs.Building.{leaf_meets, built_instance, built_weaker}
use Rattle.dps_unify.specs.Order.{level_of}
use Rattle.dps_unify.proofs.Trees.{substitute_in_turn, substitute_agrees}
use Rattle.dps_know.specs.Know.{Knowledge, entry_at}
use Rattle.dps_know.specs.declared.know.Entry.{Entry}
use Rattle.dps_solver.specs.Levels.{IsEntryUpTo, IsLeafUpTo, IsTreeUpTo, IsGroundUpTo}
use Rattle.dps_solver.specs.Scene.{System, Scene, value_at}
use Rattle.dps_solver.specs.Solutions.{IsChoice, valued, IsValuation}
use Rattle.dps_directions.specs.Values.{HaveOlderValues, AreTreesOver, ValuationsAreOne, BindingsCommute}

-- lists with the same elements
pub same_elements : {X : Type 0} (xs ys : List X) → ((j : ℕ) → slice_get xs j ≡ slice_get ys j) → xs ≡ ys
same_elements [] [] h = refl
same_elements [] (y ∷ ys) h = let e = h 0 in cc
same_elements (x ∷ xs) [] h = let e = h 0 in cc
same_elements (x ∷ xs) (y ∷ ys) h =
    let e : Some x ≡ Some y = h 0 in
    let first : x ≡ y = cc in
    let rest = same_elements xs ys (λ j. h (suc j)) in
    λ i. first i ∷ rest i

-- the greatest level
abbrev top : List Entry → ℕ
top [] = 0
top (e ∷ es) = e.level + top es

below_top : (es : List Entry) (j : ℕ) (e : Entry) → slice_get es j ≡ Some e → e.level ≤ top es
below_top [] j e h = absurd (none-some e h)
below_top (d ∷ es) zero e h = let k : d ≡ e = cc in omega (arith, ap (λ (x : Entry). x.level) k)
below_top (d ∷ es) (suc j) e h = omega (arith, below_top es j e h)

-- one round: the values with those of the round before put into their variables
abbrev pub next_values : Scene → (ℕ → Tree) → List Tree → List Tree
next_values scene s g = map (substitute (valued g s)) scene.values

abbrev rounds : Scene → (ℕ → Tree) → ℕ → List Tree
rounds scene s zero = scene.values
rounds scene s (suc k) = next_values scene s (rounds scene s k)

-- the two agree on entries of level below k
abbrev Agree : Knowledge → ℕ → List Tree → List Tree → Type 0
Agree know k g h = (j : ℕ) (e : Entry) → slice_get know.entries j ≡ Some e → e.level < k → slice_get g j ≡ slice_get h j

module _ (names : ℕ → Type 0) (scene : Scene) (levels : List (ℕ × ℕ)) (s : ℕ → Tree) (older : HaveOlderValues scene) (over : AreTreesOver names scene.system levels s) where
  numbered_agree : (g h : List Tree) (k l i : ℕ) → Agree scene.system.know k g h → l < k → IsEntryUpTo scene.system.know l i → numbered g i (leaf (entry i)) ≡ numbered h i (leaf (entry i))
  numbered_agree g h k l zero a less there = refl
  numbered_agree g h k l (suc j) a less there = ap (λ o. unwrap_or o (leaf (entry (suc j)))) (a j there.0 there.1 (omega (arith, less, there.2)))

  leaf_agrees : (g h : List Tree) (k l : ℕ) (t : Tree) → Agree scene.system.know k g h → l < k
      → IsTreeUpTo names scene.system.m scene.system.know levels l t → (x : Leaf) → StandsIn x t → entries_to g x ≡ entries_to h x
  leaf_agrees g h k l t a less up (public n) c = refl
  leaf_agrees g h k l t a less up (private n) c = refl
  leaf_agrees g h k l t a less up (var n) c = refl
  leaf_agrees g h k l t a less up (ax n) c = refl
  leaf_agrees g h k l t a less up (rigid n) c = refl
  leaf_agrees g h k l t a less up (entry i) c =
      numbered_agree g h k l i a less (leaf_meets (IsLeafUpTo names scene.system.m scene.system.know levels l) AnySymbol up c)

  -- trees of a level below k have one value
  pub value_agrees : (g h : List Tree) (k l : ℕ) (t : Tree) → Agree scene.system.know k g h → l < k
      → IsTreeUpTo names scene.system.m scene.system.know levels l t → put_entries g t ≡ put_entries h t
  value_agrees g h k l t a less up = replace_agrees (entries_to g) (entries_to h) t (leaf_agrees g h k l t a less up)

  variable_agrees : (g h : List Tree) (k i : ℕ) (e : Entry) (v : Tree) → Agree scene.system.know k g h → entry_at scene.system.know i ≡ Some e
      → value_at scene i ≡ Some v → e.level ≤ k → (x : ℕ) → StandsIn (var x) v → valued g s x ≡ valued h s x
  variable_agrees g h k i e v a there at low x c =
      let o = older.older i e v there at x c in
      value_agrees g h k o.0 (s x) a (omega (arith, low, o.2)) (over.trees x o.0 o.1)

  step_at : (g h : List Tree) (k j : ℕ) (e : Entry) (o : Option Tree) → Agree scene.system.know k g h
      → slice_get scene.system.know.entries j ≡ Some e → slice_get scene.values j ≡ o → e.level ≤ k → option_map (substitute (valued g s)) o ≡ option_map (substitute (valued h s)) o
  step_at g h k j e None a there at low = refl
  step_at g h k j e (Some v) a there at low =
      ap Some (substitute_agrees (valued g s) (valued h s) v (variable_agrees g h k (suc j) e v a there at low))

  agree_next : (g h : List Tree) (k : ℕ) → Agree scene.system.know k g h → Agree scene.system.know (suc k) (next_values scene s g) (next_values scene s h)
  agree_next g h k a j e there low =
      slice_get-map (substitute (valued g s)) scene.values j
      ∙ step_at g h k j e (slice_get scene.values j) a there refl (omega (arith, low))
      ∙ sym (slice_get-map (substitute (valued h s)) scene.values j)

  -- lists over the values that agree everywhere
  past : (f : Tree → Tree) (j : ℕ) → slice_get scene.system.know.entries j ≡ None → slice_get (map f scene.values) j ≡ None
  past f j h =
      elim (slice_get_cases scene.system.know.entries j).1 [
        | inl c ↦ absurd (none-some c.0 (sym h ∙ c.2))
        | inr c ↦ slice_get_past (map f scene.values) j (omega (arith, c.0, older.each_value, length-map scene.values f))
      ]

  at_all : (f g : Tree → Tree) (k : ℕ) → Agree scene.system.know k (map f scene.values) (map g scene.values) → top scene.system.know.entries < k
      → (j : ℕ) → slice_get (map f scene.values) j ≡ slice_get (map g scene.values) j
  at_all f g k a high j =
      elim (slice_get_cases scene.system.know.entries j).1 [
        | inl c ↦ a j c.0 c.2 (omega (arith, high, below_top scene.system.know.entries j c.0 c.2))
        | inr c ↦ past f j c.1 ∙ sym (past g j c.1)
      ]

  rounds_agree : (k : ℕ) → Agree scene.system.know k (rounds scene s k) (rounds scene s (suc k))
  rounds_agree zero = λ j e there low. absurd (omega (arith, low))
  rounds_agree (suc k) = agree_next (rounds scene s k) (rounds scene s (suc k)) k (rounds_agree k)

  -- there is a valuation
  abbrev pub valuation : List Tree
  valuation = rounds scene s (suc (suc (top scene.system.know.entries)))

  pub is_valuation : IsValuation scene s valuation
  is_valuation =
      let n = suc (top scene.system.know.entries) in
      same_elements (rounds scene s (suc n)) (rounds scene s (suc (suc n)))
      (at_all (substitute (valued (rounds scene s n) s)) (substitute (valued (rounds scene s (suc n)) s)) (suc n) (rounds_agree (suc n)) (omega arith))

  -- and one alone
  both_agree : (g h : List Tree) → IsValuation scene s g → IsValuation scene s h → (k : ℕ) → Agree scene.system.know k g h
  both_agree g h a b zero j e there low = absurd (omega (arith, low))
  both_agree g h a b (suc k) j e there low =
      ap (λ (l : List Tree). slice_get l j) a ∙ agree_next g h k (both_agree g h a b k) j e there low ∙ ap (λ (l : List Tree). slice_get l j) (sym b)

  pub valuation_is_one : (g h : List Tree) → IsValuation scene s g → IsValuation scene s h → g ≡ h
  valuation_is_one g h a b =
      let k = suc (top scene.system.know.entries) in
      let same : Agree scene.system.know (suc k) (next_values scene s g) (next_values scene s h) = agree_next g h k (both_agree g h a b k) in
      a ∙ same_elements (next_values scene s g) (next_values scene s h) (at_all (substitute (valued g s)) (substitute (valued h s)) (suc k) same (omega arith)) ∙ sym b

-- numbers of a mapped list
pub numbered-map : (f : Tree → Tree) (vs : List Tree) (i : ℕ) → ((k : ℕ) → f (leaf (entry k)) ≡ leaf (entry k)) → f (numbered vs i (leaf (entry i))) ≡ numbered (map f vs) i (leaf (entry i))
numbered-map f vs zero h = h zero
numbered-map f vs (suc k) h = at (slice_get vs k) ∙ ap (λ o. unwrap_or o (leaf (entry (suc k)))) (sym (slice_get-map f vs k))
  where
    at : (o : Option Tree) → f (unwrap_or o (leaf (entry (suc k)))) ≡ unwrap_or (option_map f o) (leaf (entry (suc k)))
    at None = h (suc k)
    at (Some v) = refl

module _ (z : ℕ → Tree) (v : List Tree) where
  at_leaf : (a : ℕ → Tree) (g : List Tree) → ((x : ℕ) → z x ≡ put_entries g (a x)) → g ≡ map (substitute z) v → (x : Leaf)
      → replace (variables_to z) (entries_to v x) ≡ replace (entries_to g) (variables_to a x)
  at_leaf a g h e (public n) = refl
  at_leaf a g h e (private n) = refl
  at_leaf a g h e (var n) = h n
  at_leaf a g h e (ax n) = refl
  at_leaf a g h e (rigid n) = refl
  at_leaf a g h e (entry i) = numbered-map (substitute z) v i (λ k. refl) ∙ ap (λ l. numbered l i (leaf (entry i))) (sym e)

  -- values put in before and after the variables
  pub entries_first : (a : ℕ → Tree) (g : List Tree) → ((x : ℕ) → z x ≡ put_entries g (a x)) → g ≡ map (substitute z) v → (t : Tree)
      → substitute z (put_entries v t) ≡ put_entries g (substitute a t)
  entries_first a g h e t =
      replace_in_turn (entries_to v) (variables_to z) t
      ∙ replace_agrees (λ x. replace (variables_to z) (entries_to v x)) (λ x. replace (entries_to g) (variables_to a x)) t (λ x k. at_leaf a g h e x)
      ∙ sym (replace_in_turn (variables_to a) (entries_to g) t)

-- a tree of a level is one of a greater level
leaf_above : (names : ℕ → Type 0) (m : ℕ) (know : Knowledge) (levels : List (ℕ × ℕ)) (k l : ℕ) → k ≤ l → (x : Leaf) → IsLeafUpTo names m know levels k x → IsLeafUpTo names m know levels l x
leaf_above names m know levels k l low (public n) h = tt
leaf_above names m know levels k l low (private n) h = h
leaf_above names m know levels k l low (ax n) h = h
leaf_above names m know levels k l low (var n) h = (h.0, h.1, omega (arith, low, h.2))
leaf_above names m know levels k l low (entry n) h = (h.0, h.1, omega (arith, low, h.2))
leaf_above names m know levels k l low (rigid n) h = (h.0, omega (arith, low, h.1))

pub tree_above : (names : ℕ → Type 0) (m : ℕ) (know : Knowledge) (levels : List (ℕ × ℕ)) (k l : ℕ) (t : Tree) → k ≤ l → IsTreeUpTo names m know levels k t → IsTreeUpTo names m know levels l t
tree_above names m know levels k l t low up = built_weaker (IsLeafUpTo names m know levels k) AnySymbol (IsLeafUpTo names m know levels l) t up (leaf_above names m know levels k l low)

pub ground_above : (names : ℕ → Type 0) (m : ℕ) (know : Knowledge) (k l : ℕ) (t : Tree) → k ≤ l → IsGroundUpTo names m know k t → IsGroundUpTo names m know l t
ground_above names m know k l t low up = tree_above names m know [] k l t low up

-- a tree of a level with ground trees of the variables' levels put in
level_leaf : (names : ℕ → Type 0) (m : ℕ) (know : Knowledge) (levels : List (ℕ × ℕ)) (a : ℕ → Tree) (l : ℕ)
    → ((y k : ℕ) → level_of levels y ≡ Some k → IsGroundUpTo names m know k (a y)) → (x : Leaf) → IsLeafUpTo names m know levels l x
    → IsBuiltOf (IsLeafUpTo names m know [] l) AnySymbol (variables_to a x)
level_leaf names m know levels a l h (public n) k = tt
level_leaf names m know levels a l h (private n) k = absurd k
level_leaf names m know levels a l h (ax n) k = absurd k
level_leaf names m know levels a l h (entry i) k = k
level_leaf names m know levels a l h (rigid n) k = k
level_leaf names m know levels a l h (var y) k = ground_above names m know k.0 l (a y) k.2 (h y k.0 k.1)

pub level_of_instance : (names : ℕ → Type 0) (m : ℕ) (know : Knowledge) (levels : List (ℕ × ℕ)) (a : ℕ → Tree) (l : ℕ)
    → ((y k : ℕ) → level_of levels y ≡ Some k → IsGroundUpTo names m know k (a y)) → (t : Tree) → IsTreeUpTo names m know levels l t → IsGroundUpTo names m know l (substitute a t)
level_of_instance names m know levels a l h t up =
    built_instance (IsLeafUpTo names m know levels l) AnySymbol (IsLeafUpTo names m know [] l) (variables_to a) t up (λ x c k. level_leaf names m know levels a l h x k)

-- bindings b of the scene's variables, the values v that they leave, and a choice a of what is left
module _ (scene : Scene) (b : ℕ → Tree) (v : List Tree) (older : HaveOlderValues scene) (is : IsValuation scene b v) where
  module _ (a s : ℕ → Tree) (g : List Tree) (becomes : (x l : ℕ) → level_of scene.system.levels x ≡ Some l → s x ≡ substitute a (b x)) (after : g ≡ map (substitute (valued g a)) v) where
    -- the value of a tree of the first scene is that of what it becomes
    pub value_commutes : (t : Tree) → substitute (valued g a) (put_entries v t) ≡ put_entries g (substitute a t)
    value_commutes t = entries_first (valued g a) v a g (λ x. refl) after t

    variable_commutes : (x l : ℕ) → level_of scene.system.levels x ≡ Some l → substitute (valued g a) (valued v b x) ≡ valued g s x
    variable_commutes x l e = value_commutes (b x) ∙ ap (put_entries g) (sym (becomes x l e))

    -- and the value of a term of its variables is that of the term with their values put in
    pub term_commutes : (t : Tree) → ((x : ℕ) → StandsIn (var x) t → (l : ℕ) × (level_of scene.system.levels x ≡ Some l))
        → substitute (valued g a) (substitute (valued v b) t) ≡ substitute (valued g s) t
    term_commutes t h =
        substitute_in_turn (valued g a) (valued v b) t
        ∙ substitute_agrees (λ x. substitute (valued g a) (valued v b x)) (valued g s) t (λ x k. let l = h x k in variable_commutes x l.0 l.1)

    entry_commutes : (j : ℕ) (e : Option Entry) (t : Option Tree) → slice_get scene.system.know.entries j ≡ e → slice_get scene.values j ≡ t
        → option_map (substitute (valued g a)) (option_map (substitute (valued v b)) t) ≡ option_map (substitute (valued g s)) t
    entry_commutes j e None there at = refl
    entry_commutes j None (Some t) there at =
        absurd (none-some t (sym (slice_get_past scene.values j (omega (arith, past j there, older.each_value))) ∙ at))
      where
        past : (i : ℕ) → slice_get scene.system.know.entries i ≡ None → length scene.system.know.entries ≤ i
        past i h = elim (slice_get_cases scene.system.know.entries i).1 [
          | inl c ↦ absurd (none-some c.0 (sym h ∙ c.2))
          | inr c ↦ c.0
        ]
    entry_commutes j (Some e) (Some t) there at = ap Some (term_commutes t (λ x k. let o = older.older (suc j) e t there at x k in (o.0, o.1)))

    -- the valuation after is the valuation of the first scene
    pub valuation_commutes : IsValuation scene s g
    valuation_commutes = same_elements g (map (substitute (valued g s)) scene.values) at
      where
        at : (j : ℕ) → slice_get g j ≡ slice_get (map (substitute (valued g s)) scene.values) j
        at j =
            ap (λ (l : List Tree). slice_get l j) after
            ∙ slice_get-map (substitute (valued g a)) v j
            ∙ ap (option_map (substitute (valued g a))) (ap (λ (l : List Tree). slice_get l j) is ∙ slice_get-map (substitute (valued v b)) scene.values j)
            ∙ entry_commutes j (slice_get scene.system.know.entries j) (slice_get scene.values j) refl refl
            ∙ sym (slice_get-map (substitute (valued g s)) scene.values j)

-- what bindings become under a choice is a choice
pub choice_commutes : (names : ℕ → Type 0) (system : System) (levels : List (ℕ × ℕ)) (b a s : ℕ → Tree)
    → AreTreesOver names system levels b
    → ((y k : ℕ) → level_of levels y ≡ Some k → IsGroundUpTo names system.m system.know k (a y))
    → ((x l : ℕ) → level_of system.levels x ≡ Some l → s x ≡ substitute a (b x))
    → ((x : ℕ) → level_of system.levels x ≡ None → s x ≡ leaf (var x))
    → IsChoice names system s
choice_commutes names system levels b a s over ground becomes others = record {
  trees = λ x l e. subst (IsGroundUpTo names system.m system.know l) (sym (becomes x l e)) (level_of_instance names system.m system.know levels a l ground (b x) (over.trees x l e));
  others = others;
}

pub valuations_are_one : (names : ℕ → Type 0) (scene : Scene) → ValuationsAreOne names scene
valuations_are_one names scene = λ levels s older over. (
  valuation names scene levels s older over,
  is_valuation names scene levels s older over,
  λ h k. valuation_is_one names scene levels s older over
      (valuation names scene levels s older over) h (is_valuation names scene levels s older over) k,
)

pub bindings_commute : (names : ℕ → Type 0) (scene : Scene) → BindingsCommute names scene
bindings_commute names scene = λ levels b a s v g older over is ground after c. (
  choice_commutes names scene.system levels b a s over ground c.variables c.others,
  valuation_commutes scene b v older is a s g c.variables after,
  value_commutes scene b v older is a s g c.variables after,
  term_commutes scene b v older is a s g c.variables after,
)
