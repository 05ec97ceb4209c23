-- What true and false questions say of each solution.
use Rattle.std.proofs.Common.{◌≡◌, ℕ, ◌+◌, ◌<◌, ◌≤◌, List, [], ◌∷◌, map, length, refl, sym, ◌∙◌, ap, subst, inl, inr, arith, cond, nat_eq, Option, Some, None}
use Rattle.std.specs.Prelude.{◌⊎◌, Contains, All, Any}
use Rattle.std.specs.List.{AllZip, flat_map}
use Rattle.std.proofs.lemmas.Bool.{cases_Bool, eqb-true}
use Rattle.std.proofs.lemmas.List.Elements.{All-nil, All-cons, All-head, All-tail, All-filter, Contains-append_left, Contains-append_right, Contains-append_cases}
use Rattle.dps_terms.specs.declared.PublicName.TheVariants.{At}
use Rattle.dps_terms.specs.Tree.{Leaf, public, private, var, ax, entry, rigid, Tree, leaf, StandsIn}
use Rattle.dps_terms.specs.Replace.{substitute, put_entries}
use Rattle.dps_terms.specs.Kinds.{AnySymbol}
use Rattle.dps_terms.specs.Variables.{occurrences}
use Rattle.dps_terms.proofs.Building.{built_weaker}
use Rattle.dps_unify.specs.Order.{level_of}
use Rattle.dps_unify.proofs.Trees.{in_leaf}
use Rattle.dps_solver.specs.Levels.{IsLeafUpTo, IsGroundUpTo, AnyRigidName}
use Rattle.dps_solver.specs.Scene.{Scene}
use Rattle.dps_solver.specs.declared.scene.Target.{Target}
use Rattle.dps_solver.specs.Solutions.{valued, MeetsBy, Meets}
use Rattle.dps_solver.specs.Search.{GeneralSolution, IsPlain, Finds}
use Rattle.dps_directions.specs.Directions.{StandsInBinding, IsAssignment, IsInstance, HoldsRigidNamesOf}
use Rattle.dps_symeval.proofs.Listed.{contains_none, contains_first, contains_later, contains_cases, mapped, from_mapped}
use Rattle.dps_node.specs.Node.{SymbolicConfig, Node, numbered_from, label_trees, variables_of, scene_of}
use Rattle.dps_renewal.specs.Numbering.{is_among}
use Rattle.dps_node.specs.Questions.{Query, Question, Found, first_free, FindsAll, no_ask, an_ask, Answer, decided, undecided}
use Rattle.dps_node.specs.Questions.{IsPlainlyFound, Answers, holds, fails, open_at, AnswersWhole, holds_by_all, fails_by_all, open_in}
use Rattle.dps_node.specs.Questions.{Asks}
use Rattle.dps_node.specs.Truth.{HoldsUnder, IsDecided, IsUnder}

-- levels of variables
pub level_meets : (P : ℕ × ℕ → Type 0) (levels : List (ℕ × ℕ)) (x l : ℕ) → All P levels → level_of levels x ≡ Some l → P (x, l)
level_meets P [] x l h e = cc
level_meets P (p ∷ ps) x l h e =
    elim (cases_Bool (nat_eq p.0 x)) [
      | inl d ↦
          let q : Some p.1 ≡ Some l = ap (λ b. cond b (Some p.1) (level_of ps x)) (sym d) ∙ e in
          let same : p.1 ≡ l = cc in
          let first : p.0 ≡ x = eqb-true p.0 x d in
          subst P (λ i. (first i, same i)) (All-head P p ps h)
      | inr d ↦ level_meets P ps x l (All-tail P p ps h) (ap (λ b. cond b (Some p.1) (level_of ps x)) (sym d) ∙ e)
    ]

pub option_cases : (o : Option ℕ) → (o ≡ None) ⊎ ((l : ℕ) × (o ≡ Some l))
option_cases None = inl refl
option_cases (Some l) = inr (l, refl)

numbered_below : (k n : ℕ) (ls : List ℕ) → n + length ls ≤ k → All (λ (p : ℕ × ℕ). p.0 < k) (numbered_from n ls)
numbered_below k n [] h = All-nil (λ (p : ℕ × ℕ). p.0 < k)
numbered_below k n (l ∷ ls) h =
    All-cons (λ (p : ℕ × ℕ). p.0 < k) (n, l) (numbered_from (n + 1) ls) (omega (arith, h)) (numbered_below k (n + 1) ls (omega (arith, h)))

pub is_before_new : (node : Node) (x l : ℕ) → level_of (variables_of node) x ≡ Some l → x < first_free node
is_before_new node x l e =
    let P : ℕ × ℕ → Type 0 = λ p. p.0 < first_free node in
    level_meets P (variables_of node) x l
    (All-filter (λ (p : ℕ × ℕ). is_among p.0 (flat_map occurrences (label_trees node))) P (numbered_from 1 node.levels) (numbered_below (first_free node) 1 node.levels (omega arith))) e

-- ground trees
wider_leaf : (names : ℕ → Type 0) (m l : ℕ) (scene : Scene) → l ≤ m → (x : Leaf) → IsLeafUpTo names m scene.system.know [] l x → IsLeafUpTo AnyRigidName m scene.system.know [] m x
wider_leaf names m l scene h (public n) b = tt
wider_leaf names m l scene h (private n) b = b
wider_leaf names m l scene h (var n) b = (b.0, b.1, omega (arith, b.2, h))
wider_leaf names m l scene h (ax n) b = b
wider_leaf names m l scene h (entry n) b = (b.0, b.1, omega (arith, b.2, h))
wider_leaf names m l scene h (rigid n) b = (tt, omega arith)

-- where a thing that was found comes from
pub record IsFoundAt (scene : Scene) (question : Question) (f : Found) : Type 0 where
  pub asked : Contains question f.0
  pub list : List GeneralSolution
  pub moves : ℕ
  pub finds : Finds scene f.0.ask list moves
  pub listed : Contains list f.1

later_asked : (scene : Scene) (q : Query) (qs : Question) (f : Found) → IsFoundAt scene qs f → IsFoundAt scene (q ∷ qs) f
later_asked scene q qs f h = record { asked = contains_later q qs f.0 h.asked; list = h.list; moves = h.moves; finds = h.finds; listed = h.listed }

pub found_at : (scene : Scene) {question : Question} {found : List Found} {moves : ℕ} (f : Found) → FindsAll scene question found moves → Contains found f → IsFoundAt scene question f
found_at scene f no_ask h = absurd (contains_none f h)
found_at scene f (an_ask {q = q} {qs = qs} {here = here} {others = others} {first = first} a t l n) h =
    elim (Contains-append_cases (map (λ (s : GeneralSolution). (q, s)) here) others f (subst (λ (fs : List Found). Contains fs f) l h)) [
      | inl k ↦
          let d = from_mapped (λ (s : GeneralSolution). (q, s)) here f k in
          subst (λ (x : Found). IsFoundAt scene (q ∷ qs) x) (sym d.2)
          (let x : IsFoundAt scene (q ∷ qs) (q, d.0) = record { asked = contains_first q qs; list = here; moves = first; finds = a; listed = d.1 } in x)
      | inr k ↦ later_asked scene q qs f (found_at scene f t k)
    ]

-- what an ask of the question finds
pub record IsSearched (scene : Scene) (q : Query) (found : List Found) : Type 0 where
  pub list : List GeneralSolution
  pub moves : ℕ
  pub finds : Finds scene q.ask list moves
  pub all : (s : GeneralSolution) → Contains list s → Contains found (q, s)

pub searched : (scene : Scene) {question : Question} {found : List Found} {moves : ℕ} (q : Query) → FindsAll scene question found moves → Contains question q → IsSearched scene q found
searched scene q no_ask h = absurd (contains_none q h)
searched scene p (an_ask {q = q} {qs = qs} {here = here} {others = others} {found = found} {first = first} a t l n) h =
    elim (contains_cases q qs p h) [
      | inl e ↦
          subst (λ (x : Query). IsSearched scene x found) (sym e)
          (record {
            list = here;
            moves = first;
            finds = a;
            all =
                λ s k.
                subst (λ (fs : List Found). Contains fs (q, s)) (sym l)
                (Contains-append_left (map (λ (s : GeneralSolution). (q, s)) here) others (q, s) (mapped (λ (s : GeneralSolution). (q, s)) here s k));
          })
      | inr k ↦
          let d = searched scene p t k in
          record {
            list = d.list;
            moves = d.moves;
            finds = d.finds;
            all = λ s c. subst (λ (fs : List Found). Contains fs (p, s)) (sym l) (Contains-append_right (map (λ (s : GeneralSolution). (q, s)) here) others (p, s) (d.all s c));
          }
    ]

-- what is read
used_found : {found : List Found} {answer : Answer} (used : Found) → answer ≡ decided (Some used) → Answers found answer → Contains found used × IsPlainlyFound used
used_found used e (holds before after f l a p d) =
    let k : decided (Some used) ≡ decided (Some f) = sym e ∙ d in
    let same : f ≡ used = cc in
    (subst (λ (fs : List Found). Contains fs used) (sym l) (Contains-append_right before (f ∷ after) used (subst (λ (x : Found). Contains (f ∷ after) x) same (contains_first f after))), subst IsPlainlyFound same p)
used_found used e (fails d) = let k : decided (Some used) ≡ decided None = sym e ∙ d in cc
used_found used e (open_at {f = f} a d) = let k : decided (Some used) ≡ undecided f.1 = sym e ∙ d in cc

used_whole : {found : List Found} {answer : Answer} (used : Found) → answer ≡ decided (Some used) → AnswersWhole found answer → Contains found used × IsPlainlyFound used
used_whole used e (holds_by_all {found = found} {f = f} a d) =
    let k : decided (Some used) ≡ decided (Some f) = sym e ∙ d in
    let same : f ≡ used = cc in
    (subst (λ (x : Found). Contains (f ∷ found) x) same (contains_first f found), subst IsPlainlyFound same (All-head IsPlainlyFound f found a))
used_whole used e (fails_by_all d) = let k : decided (Some used) ≡ decided None = sym e ∙ d in cc
used_whole used e (open_in before after f l a n d) = let k : decided (Some used) ≡ undecided f.1 = sym e ∙ d in cc

none_found : {found : List Found} {answer : Answer} → answer ≡ decided None → Answers found answer → found ≡ []
none_found e (holds before after f l a p d) = let k : decided None ≡ decided (Some f) = sym e ∙ d in cc
none_found e (fails d) = refl
none_found e (open_at {f = f} a d) = let k : decided None ≡ undecided f.1 = sym e ∙ d in cc

none_whole : {found : List Found} {answer : Answer} → answer ≡ decided None → AnswersWhole found answer → found ≡ []
none_whole e (holds_by_all {f = f} a d) = let k : decided None ≡ decided (Some f) = sym e ∙ d in cc
none_whole e (fails_by_all d) = refl
none_whole e (open_in before after f l a n d) = let k : decided None ≡ undecided f.1 = sym e ∙ d in cc

not_plain : {found : List Found} {answer : Answer} (s : GeneralSolution) → answer ≡ undecided s → Answers found answer → ¬ IsPlain s
not_plain s e (holds before after f l a p d) = let k : undecided s ≡ decided (Some f) = sym e ∙ d in cc
not_plain s e (fails d) = let k : undecided s ≡ decided None = sym e ∙ d in cc
not_plain s e (open_at {found = found} {f = f} a d) =
    let k : undecided s ≡ undecided f.1 = sym e ∙ d in
    let same : f.1 ≡ s = cc in
    λ p. All-head (λ g. ¬ IsPlainlyFound g) f found a (subst IsPlain (sym same) p)

not_plain_whole : {found : List Found} {answer : Answer} (s : GeneralSolution) → answer ≡ undecided s → AnswersWhole found answer → ¬ IsPlain s
not_plain_whole s e (holds_by_all {f = f} a d) = let k : undecided s ≡ decided (Some f) = sym e ∙ d in cc
not_plain_whole s e (fails_by_all d) = let k : undecided s ≡ decided None = sym e ∙ d in cc
not_plain_whole s e (open_in before after f l a n d) =
    let k : undecided s ≡ undecided f.1 = sym e ∙ d in
    let same : f.1 ≡ s = cc in
    λ p. n (subst IsPlain (sym same) p)

pub open_is_not_plain :
    (node : Node) (c : SymbolicConfig) (question : Question) (s : GeneralSolution) (steps : ℕ)
    → Asks Answers node c question (undecided s) steps ⊎ Asks AnswersWhole node c question (undecided s) steps → ¬ IsPlain s
open_is_not_plain node c question s steps h p =
    elim h [ inl k ↦ not_plain s refl k.answers p | inr k ↦ not_plain_whole s refl k.answers p ]

pub record IsUsed (scene : Scene) (question : Question) (used : Found) : Type 0 where
  pub at : IsFoundAt scene question used
  pub plain : IsPlain used.1

pub is_used : (node : Node) (c : SymbolicConfig) (question : Question) (used : Found) → IsDecided node c question (Some used) → IsUsed (scene_of node c) question used
is_used node c question used h =
    elim h.asks [
      | inl k ↦ let d = used_found used refl k.answers in record { at = found_at (scene_of node c) used k.finds d.0; plain = d.1 }
      | inr k ↦ let d = used_whole used refl k.answers in record { at = found_at (scene_of node c) used k.finds d.0; plain = d.1 }
    ]

module _ (names : ℕ → Type 0) (node : Node) (c : SymbolicConfig) (question : Question) (s : ℕ → Tree) (g : List Tree) (under : IsUnder names node c question s g) where
  empty_fails : {found : List Found} {moves : ℕ} → FindsAll (scene_of node c) question found moves → found ≡ [] → ¬ HoldsUnder (scene_of node c) question s g
  empty_fails f e h =
      let d = searched (scene_of node c) h.query f h.asked in
      let meets : Meets (scene_of node c) h.query.ask s = record { values = g; valuation = under.valuation; eta = h.eta; trees = h.trees; meets = h.meets } in
      let l = under.solved.listed h.query h.asked d.list d.moves s under.solved.valid (under.solved.fits h.query h.asked) d.finds under.solution meets in
      contains_none (h.query, l.solution) (subst (λ (fs : List Found). Contains fs (h.query, l.solution)) e (d.all l.solution l.listed))

  pub false_holds_never : IsDecided node c question None → ¬ HoldsUnder (scene_of node c) question s g
  false_holds_never d h =
      elim d.asks [
        | inl k ↦ empty_fails k.finds (none_found refl k.answers) h
        | inr k ↦ empty_fails k.finds (none_whole refl k.answers) h
      ]

  -- the solution's trees for the node's variables, and a name for each other
  pub pick : ℕ → Option ℕ → Tree → Tree
  pick n (Some l) t = t
  pick n None t = leaf (public (At n))

  pub filling : ℕ → ℕ → Tree
  filling n x = pick n (level_of (variables_of node) x) (s x)

  pub filling_here : (n x l : ℕ) → level_of (variables_of node) x ≡ Some l → filling n x ≡ s x
  unfolding filling pick
  filling_here n x l e = ap (λ o. pick n o (s x)) e

  pub filling_other : (n x : ℕ) → level_of (variables_of node) x ≡ None → filling n x ≡ leaf (public (At n))
  unfolding filling pick
  filling_other n x e = ap (λ o. pick n o (s x)) e

  pub filling_ground : (n y : ℕ) → IsGroundUpTo AnyRigidName node.m node.know node.m (filling n y)
  unfolding filling pick
  filling_ground n y =
      elim (option_cases (level_of (variables_of node) y)) [
        | inl e ↦ subst (λ o. IsGroundUpTo AnyRigidName node.m node.know node.m (pick n o (s y))) (sym e) tt
        | inr d ↦
            subst (λ t. IsGroundUpTo AnyRigidName node.m node.know node.m t) (sym (filling_here n y d.0 d.1))
            (built_weaker (IsLeafUpTo names node.m node.know [] d.0) AnySymbol (IsLeafUpTo AnyRigidName node.m node.know [] node.m) (s y) (under.solution.choice.trees y d.0 d.1)
            (λ x b. wider_leaf names node.m d.0 (scene_of node c) (level_meets (λ (p : ℕ × ℕ). p.1 ≤ node.m) (variables_of node) y d.0 under.solved.valid.variables d.1) x b))
      ]

  pub filled : ℕ → Tree
  filled x = filling 0 x

  filled_here : (x l : ℕ) → level_of (variables_of node) x ≡ Some l → filled x ≡ s x
  unfolding filled
  filled_here x l e = filling_here 0 x l e

  filled_ground : (y : ℕ) → IsGroundUpTo AnyRigidName node.m node.know node.m (filled y)
  unfolding filled
  filled_ground y = filling_ground 0 y

  module _ (used : Found) (is : IsUsed (scene_of node c) question used) (a : ℕ → Tree) (a_here : (x l : ℕ) → level_of (variables_of node) x ≡ Some l → a x ≡ s x) (a_ground : (y : ℕ) → IsGroundUpTo AnyRigidName node.m node.know node.m (a y)) where
    stands_plain : (x y : ℕ) → StandsIn (var y) (used.1.bindings x) → y ≡ x
    stands_plain x y k =
        let e : leaf (var y) ≡ leaf (var x) = in_leaf (var x) (leaf (var y)) (subst (λ t. StandsIn (var y) t) (is.plain x) k) in cc

    no_rigid : HoldsRigidNamesOf names (scene_of node c) used.1
    no_rigid x l k e h =
        let d : leaf (rigid k) ≡ leaf (var x) = in_leaf (var x) (leaf (rigid k)) (subst (λ t. StandsIn (rigid k) t) (is.plain x) h) in cc

    assigned : IsAssignment names (scene_of node c) used.1 a
    assigned = record {
      bound = λ x l y e k. subst (λ t. IsGroundUpTo names node.m node.know l t) (sym (ap a (stands_plain x y k) ∙ a_here x l e)) (under.solution.choice.trees x l e);
      asked = λ t y h k. a_ground y;
    }

    instance : IsInstance (scene_of node c) used.1 a s
    instance = record {
      variables = λ x l e. sym (ap (substitute a) (is.plain x) ∙ a_here x l e);
      others = under.solution.choice.others;
    }

    pub meets_by :
        (base : ℕ → Tree)
        → ((y : ℕ) → StandsInBinding (scene_of node c) used.1 y ⊎ Any (λ t. StandsIn (var y) t) used.1.answers → base y ≡ valued g a y)
        → MeetsBy (scene_of node c) used.0.ask s g (λ x. substitute base (used.1.theta x)) (map (substitute a) used.1.answers)
    meets_by base h =
        (under.solved.meet used.0 is.at.asked is.at.list is.at.moves used.1 a s base g under.solved.valid (under.solved.fits used.0 is.at.asked) is.at.finds is.at.listed no_rigid assigned instance under.valuation h).1

    pub holds_for : (h : HoldsUnder (scene_of node c) question s g) × (h.query ≡ used.0)
    holds_for = (
      record {
        query = used.0;
        asked = is.at.asked;
        eta = λ x. substitute (valued g a) (used.1.theta x);
        trees = map (substitute a) used.1.answers;
        meets = meets_by (valued g a) (λ y k. refl);
      },
      refl,
    )

    no_trees : (R : Target → Tree → Type 0) (zs : List Target) (ts : List Tree) → zs ≡ [] → AllZip R zs (map (substitute a) ts) → ts ≡ []
    no_trees R [] [] e h = refl
    no_trees R [] (t ∷ ts) e h = absurd h
    no_trees R (z ∷ zs) ts e h = cc

    -- without targets theta alone gives the values
    pub meets_for : used.0.ask.targets ≡ [] → MeetsBy (scene_of node c) used.0.ask s g (λ x. substitute (valued g s) (used.1.theta x)) (map (substitute a) used.1.answers)
    meets_for none =
        let empty : used.1.answers ≡ [] = no_trees _ used.0.ask.targets used.1.answers none (meets_by (valued g a) (λ y k. refl)).targets in
        meets_by (valued g s) (λ y. elim [
          | inl k ↦ let e : y ≡ k.0 = stands_plain k.0 y k.3 in ap (put_entries g) (sym (ap a e ∙ (a_here k.0 k.1 k.2 ∙ ap s (sym e))))
          | inr k ↦ absurd (omega (arith, k.2, ap length empty))
        ])

  pub used_holds : (used : Found) → IsUsed (scene_of node c) question used → (h : HoldsUnder (scene_of node c) question s g) × (h.query ≡ used.0)
  used_holds used is = holds_for used is filled filled_here filled_ground

  pub meets_here :
      (used : Found) → IsUsed (scene_of node c) question used → used.0.ask.targets ≡ []
      → MeetsBy (scene_of node c) used.0.ask s g (λ x. substitute (valued g s) (used.1.theta x)) (map (substitute filled) used.1.answers)
  meets_here used is none = meets_for used is filled filled_here filled_ground none
