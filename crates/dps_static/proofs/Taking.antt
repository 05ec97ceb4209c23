-- Steps by which ways are put on a stack.
use Rattle.std.proofs.Common.{◌≡◌, ℕ, suc, ◌+◌, ◌*◌, ◌-◌, ◌<◌, ◌≤◌, List, [], ◌∷◌, ◌++◌, length, take, drop, refl, ap, sym, ◌∙◌, subst, inl, inr, arith, append_assoc, length-append}
use Rattle.std.specs.Prelude.{◌⊎◌, reverse, Bool, true, false, MatchBool}
use Rattle.std.proofs.lemmas.List.{map-append, reverse-append, length-drop}
use Rattle.dps_terms.specs.declared.Sym.{Sym}
use Rattle.dps_terms.specs.declared.borrowed.TermRef.{TermRef}
use Rattle.dps_terms.specs.declared.borrowed.TermView.TheVariants.{App}
use Rattle.dps_terms.specs.Tree.{Leaf, Tree, Trees, leaf, app, none, more, list_of, trees, node_count, node_counts}
use Rattle.dps_terms.specs.Views.{view_of, arguments}
use Rattle.dps_terms.specs.Replace.{put_entries}
use Rattle.dps_terms.specs.Seen.{seen}
use Rattle.dps_terms.specs.Kinds.{IsBuiltOf, AreBuiltOf}
use Rattle.dps_static.specs.declared.build.Step.{Step}
use Rattle.dps_static.specs.declared.build.Step.TheVariants.{Build, Apply}
use Rattle.dps_static.specs.Ways.{Builds, IsNotBuilt, Composes, IsNotComposed, IsNotKept}
use Rattle.dps_static.specs.Steps.{CanTake, AreTaken, HasNoWay, work, Leads}
use Rattle.dps_static.proofs.Ways.{ArePutWays, AreOpenWays, put_all, composed_put, composed_app, no_app_leaf, entry_or_composed}

-- one step more, which is taken first
pub one_first : (steps : List Step) (s : Step) → reverse (steps ++ s ∷ []) ≡ s ∷ reverse steps
one_first steps s = reverse-append steps (s ∷ [])

-- the tree stands in the list
abbrev pub Among : Tree → List Tree → Type 0
Among u [] = ⊥
Among u (t ∷ ts) = (t ≡ u) ⊎ Among u ts

among_front : (u : Tree) (ts us : List Tree) → Among u ts → Among u (ts ++ us)
among_front u [] us k = absurd k
among_front u (t ∷ ts) us k = elim k [ inl e ↦ inl e | inr o ↦ inr (among_front u ts us o) ]

among_last : (u : Tree) (ts : List Tree) → Among u (ts ++ u ∷ [])
among_last u [] = inl refl
among_last u (t ∷ ts) = inr (among_last u ts)

-- where an argument is built in no way, the tree is composed in none
way_among : (kept : List Tree) (ts ways : Trees) (u : Tree) → AreOpenWays (length kept) ways → put_all kept ways ≡ ts → Among u (list_of ts) → (way : Tree) × Builds kept u way
way_among kept none ways u a e k = absurd k
way_among kept (more t ts) none u a e k = absurd (let z = e in cc)
way_among kept (more t ts) (more w ws) u a e k =
    let first : put_entries kept w ≡ t = cc in
    let rest : put_all kept ws ≡ ts = cc in
    elim k [
      | inl m ↦ (w, record { is_way = (a.known.0, a.closed.0); gives = first ∙ m })
      | inr o ↦ way_among kept ts ws u (record { known = a.known.1; closed = a.closed.1 }) rest o
    ]

pub among_not_built : (kept : List Tree) (tree u : Tree) → Among u (arguments tree) → IsNotBuilt kept u → IsNotComposed kept tree
among_not_built kept (leaf x) u k nothing way c = absurd k
among_not_built kept (app f ts) u k nothing way c =
    let p = composed_app kept f ts way c in
    let w = way_among kept ts p.arguments u p.are_ways p.give k in nothing w.0 w.1

-- the nodes of the trees
abbrev pub sizes : List Tree → ℕ
sizes [] = 0
sizes (t ∷ ts) = sizes ts + node_count t

sizes_push : (ts : List Tree) (u : Tree) → sizes (ts ++ u ∷ []) ≡ sizes ts + node_count u
sizes_push [] u = refl
sizes_push (t ∷ ts) u = omega (arith, sizes_push ts u)

sizes_of : (ts : Trees) → sizes (list_of ts) ≡ node_counts ts
sizes_of none = refl
sizes_of (more t ts) = omega (arith, sizes_of ts)

-- a way more, which was put in front before the others
built_push : (P : Leaf → Type 0) (S : Sym → ℕ → Type 0) (ways : List Tree) (w : Tree) → AreBuiltOf P S (trees ways) → IsBuiltOf P S w → AreBuiltOf P S (trees (ways ++ w ∷ []))
built_push P S [] w a b = (b, tt)
built_push P S (v ∷ ways) w a b = (a.0, built_push P S ways w a.1 b)

put_before : (kept ts old new : List Tree) (t w : Tree) → Builds kept t w → ArePutWays kept ts (w ∷ old) new → ArePutWays kept (ts ++ t ∷ []) old new
put_before kept ts old new t w b p = record {
  ways = p.ways ++ w ∷ [];
  listed = record { known = built_push _ _ p.ways w p.listed.known b.is_way.0; closed = built_push _ _ p.ways w p.listed.closed b.is_way.1 };
  give = map-append (put_entries kept) p.ways (w ∷ []) ∙ (λ j. p.give j ++ b.gives j ∷ []);
  put = p.put ∙ sym (append_assoc p.ways (w ∷ []) old);
}

-- Those of a symbol over some trees are taken before the steps.
pub record IsOpening (steps : List Step) (f : Sym) (arity : ℕ) (ts : List Tree) (later : List Step) : Type 0 where
  pub ready : (n : ℕ) → arity ≤ 8 → arity ≤ n + length ts → CanTake (reverse steps) (suc (n + length ts - arity)) → CanTake later n
  pub way : (kept old end : List Tree) → AreTaken kept later old end → (mid : List Tree) × ArePutWays kept ts old mid × AreTaken kept (Apply f arity ∷ reverse steps) mid end
  pub none : (kept : List Tree) → HasNoWay kept later → ((u : Tree) × Among u ts × IsNotBuilt kept u) ⊎ HasNoWay kept (reverse steps)
  pub all : work later ≡ suc (work (reverse steps)) + 2 * sizes ts

pub opened : (steps : List Step) (f : Sym) (arity : ℕ) → IsOpening steps f arity [] (reverse (steps ++ Apply f arity ∷ []))
opened steps f arity =
    subst (IsOpening steps f arity []) (sym (one_first steps (Apply f arity))) (record {
      ready = λ n few there c. (few, omega (arith, there), subst (λ m. CanTake (reverse steps) (suc (m - arity))) (let z : n + 0 ≡ n = omega arith in z) c);
      way = λ kept old end k. (old, record { ways = []; listed = record { known = tt; closed = tt }; give = refl; put = refl }, k);
      none = λ kept k. inr k;
      all = omega arith;
    })

pub opened_further : (steps now : List Step) (f : Sym) (arity : ℕ) (ts : List Tree) (t : TermRef) → IsOpening steps f arity ts (reverse now) → IsOpening steps f arity (ts ++ seen t ∷ []) (reverse (now ++ Build t ∷ []))
opened_further steps now f arity ts t h =
    let many : length (ts ++ seen t ∷ []) ≡ length ts + 1 = length-append ts (seen t ∷ []) in
    subst (IsOpening steps f arity (ts ++ seen t ∷ [])) (sym (one_first now (Build t))) (record {
      ready = λ n few there c.
          let same : n + length (ts ++ seen t ∷ []) ≡ suc n + length ts = omega (arith, many) in
          h.ready (suc n) few (omega (arith, there, many)) (subst (λ m. CanTake (reverse steps) (suc (m - arity))) same c);
      way = λ kept old end k.
          let r = h.way kept (k.0 ∷ old) end k.2 in
          (r.0, put_before kept ts old r.0 (seen t) k.0 k.1 r.1, r.2);
      none = λ kept k.
          elim k [
            | inl o ↦ inl (seen t, among_last (seen t) ts, o)
            | inr o ↦ elim (h.none kept o) [ inl s ↦ inl (s.0, among_front s.0 ts (seen t ∷ []) s.1, s.2) | inr s ↦ inr s ]
          ];
      all = omega (arith, h.all, sizes_push ts (seen t));
    })

sizes_below : (t : Tree) (f : Sym) → App f ≡ view_of t → node_count t ≡ suc (sizes (arguments t))
sizes_below (leaf x) f v = absurd (no_app_leaf x f v)
sizes_below (app g ts) f v = omega (arith, sizes_of ts)

pub all_opened :
    (kept : List Tree) (steps now : List Step) (f : Sym) (arity : ℕ) (t : Tree) (old : List Tree) → App f ≡ view_of t → arity ≡ length (arguments t) → arity ≤ 8
    → IsOpening steps f arity (arguments t) (reverse now) → Leads (Composes kept t) kept (node_count t) steps old now old
all_opened kept steps now f arity t old v many few h = record {
  ready = λ c.
      let same : length old + length (arguments t) - arity ≡ length old = omega (arith, many) in
      h.ready (length old) few (omega (arith, many)) (rw same c);
  way = λ end k.
      let r = h.way kept old end k in
      let c = composed_put kept old r.0 (app f (trees (take arity r.0)) ∷ drop arity r.0) f t arity v many r.1 refl in
      (c.way, c.composes, subst (λ s. AreTaken kept (reverse steps) s end) c.put r.2);
  none = λ k. elim (h.none kept k) [ inl o ↦ inl (among_not_built kept t o.0 o.1 o.2) | inr o ↦ inr o ];
  less = omega (arith, h.all, sizes_below t f v);
}

-- the way is there, and the steps are those before
pub leads_at_once :
    (IsSuch : Tree → Type 0) (kept : List Tree) (size : ℕ) (steps : List Step) (old new : List Tree) (w : Tree) → 0 < size → IsSuch w → new ≡ w ∷ old
    → Leads IsSuch kept size steps old steps new
leads_at_once IsSuch kept size steps old new w some b e = record {
  ready = λ c. rw e c;
  way = λ end k. (w, b, subst (λ s. AreTaken kept (reverse steps) s end) e k);
  none = λ k. inr k;
  less = omega (arith, some);
}

-- what is not kept is built where it is composed
pub leads_on :
    (kept : List Tree) (t : Tree) (size : ℕ) (steps later : List Step) (old new : List Tree) → IsNotKept kept t
    → Leads (Composes kept t) kept size steps old later new → Leads (Builds kept t) kept size steps old later new
leads_on kept t size steps later old new never h = record {
  ready = h.ready;
  way = λ end k. let r = h.way end k in (r.0, r.1.builds, r.2);
  none = λ k. elim (h.none k) [ inl o ↦ inl (not_built o) | inr o ↦ inr o ];
  less = h.less;
}
  where
    not_built : IsNotComposed kept t → IsNotBuilt kept t
    not_built o way b = elim (entry_or_composed kept t way b) [ inl e ↦ never e.place e.there | inr d ↦ o way d ]

pub built_or_not :
    (kept : List Tree) (t : Tree) (size : ℕ) (steps later : List Step) (old new : List Tree) (found : Bool) → IsNotKept kept t
    → MatchBool found (Leads (Composes kept t) kept size steps old later new) (IsNotComposed kept t)
    → MatchBool found (Leads (Builds kept t) kept size steps old later new) (IsNotBuilt kept t)
built_or_not kept t size steps later old new true never h = leads_on kept t size steps later old new never h
built_or_not kept t size steps later old new false never h = λ way b. elim (entry_or_composed kept t way b) [ inl e ↦ never e.place e.there | inr d ↦ h way d ]

-- Some of the steps were taken: what those that are left make of the stack, all make of the old one.
pub record IsTaking (kept : List Tree) (all : List Step) (old : List Tree) (left : List Step) (stack : List Tree) : Type 0 where
  pub ready : CanTake (reverse left) (length stack)
  pub taken : (end : List Tree) → AreTaken kept (reverse left) stack end → AreTaken kept (reverse all) old end
  pub none : HasNoWay kept (reverse left) → HasNoWay kept (reverse all)

pub begun : (kept : List Tree) (all : List Step) (old : List Tree) → CanTake (reverse all) (length old) → IsTaking kept all old all old
begun kept all old ready = record { ready = ready; taken = λ end k. k; none = λ k. k }

module _ (kept : List Tree) (all left : List Step) (old stack : List Tree) where
  -- the next step
  next : (popped : List Step) (s : Step) → popped ≡ left ++ s ∷ [] → reverse popped ≡ s ∷ reverse left
  next popped s e = ap reverse e ∙ one_first left s

  pub tree_taken :
      (popped : List Step) (t : TermRef) (size : ℕ) (later : List Step) (new : List Tree) → popped ≡ left ++ Build t ∷ [] → IsTaking kept all old popped stack
      → Leads (Builds kept (seen t)) kept size left stack later new → IsTaking kept all old later new
  tree_taken popped t size later new e h lead =
      let is = next popped (Build t) e in
      record {
        ready = lead.ready (rw is at h.ready);
        taken = λ end k. let r = lead.way end k in h.taken end (rw is (r.0, r.1, r.2));
        none = λ k. h.none (rw is (lead.none k));
      }

  pub tree_not_built : (popped : List Step) (t : TermRef) → popped ≡ left ++ Build t ∷ [] → IsTaking kept all old popped stack → IsNotBuilt kept (seen t) → HasNoWay kept (reverse all)
  tree_not_built popped t e h never = h.none (rw (next popped (Build t) e) (inl never))

  pub can_apply : (popped : List Step) (f : Sym) (arity : ℕ) → popped ≡ left ++ Apply f arity ∷ [] → IsTaking kept all old popped stack → (arity ≤ 8) × (arity ≤ length stack)
  can_apply popped f arity e h = let r : CanTake (Apply f arity ∷ reverse left) (length stack) = rw (next popped (Apply f arity) e) at h.ready in (r.0, r.1)

  pub symbol_taken :
      (popped : List Step) (f : Sym) (arity : ℕ) (new : List Tree) → popped ≡ left ++ Apply f arity ∷ [] → IsTaking kept all old popped stack
      → new ≡ app f (trees (take arity stack)) ∷ drop arity stack → IsTaking kept all old left new
  symbol_taken popped f arity new e h put =
      let is = next popped (Apply f arity) e in
      let r : CanTake (Apply f arity ∷ reverse left) (length stack) = rw is at h.ready in
      let many : length new ≡ suc (length stack - arity) = ap length put ∙ ap suc (length-drop arity stack) in
      record {
        ready = rw many r.2;
        taken = λ end k. h.taken end (rw is (subst (λ s. AreTaken kept (reverse left) s end) put k));
        none = λ k. h.none (rw is k);
      }

-- less is left
pub tree_is_work : (left popped : List Step) (t : TermRef) → popped ≡ left ++ Build t ∷ [] → work (reverse popped) ≡ work (reverse left) + 2 * node_count (seen t)
tree_is_work left popped t e = ap (λ ss. work (reverse ss)) e ∙ ap work (one_first left (Build t))

pub symbol_is_work : (left popped : List Step) (f : Sym) (arity : ℕ) → popped ≡ left ++ Apply f arity ∷ [] → work (reverse popped) ≡ suc (work (reverse left))
symbol_is_work left popped f arity e = ap (λ ss. work (reverse ss)) e ∙ ap work (one_first left (Apply f arity))

-- one tree to build
pub one_way : (kept : List Tree) (IsSuch : Tree → Type 0) (size : ℕ) (later : List Step) (new end : List Tree) (way : Tree)
    → Leads IsSuch kept size [] [] later new → AreTaken kept (reverse later) new end → end ≡ way ∷ [] → IsSuch way
one_way kept IsSuch size later new end way lead k e =
    let r = lead.way end k in
    let m : way ∷ [] ≡ r.0 ∷ [] = sym e ∙ r.2 in
    let same : r.0 ≡ way = cc in subst IsSuch same r.1

pub one_there : (kept : List Tree) (IsSuch : Tree → Type 0) (size : ℕ) (later : List Step) (new end : List Tree) → Leads IsSuch kept size [] [] later new → AreTaken kept (reverse later) new end → length end ≡ 1
one_there kept IsSuch size later new end lead k = let r = lead.way end k in ap length r.2

pub no_way : (kept : List Tree) (IsSuch : Tree → Type 0) (size : ℕ) (later : List Step) (new : List Tree) → Leads IsSuch kept size [] [] later new → HasNoWay kept (reverse later) → (way : Tree) → ¬ IsSuch way
no_way kept IsSuch size later new lead k = elim (lead.none k) [ inl o ↦ o | inr o ↦ absurd o ]
