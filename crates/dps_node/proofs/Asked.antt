-- What is found by the queries of a question one after another.
use Rattle.std.proofs.Common.{◌≡◌, ℕ, zero, suc, ◌+◌, ◌<◌, List, [], ◌∷◌, ◌++◌, None, length, get_or, take, map, refl, ap, sym, subst, ◌∙◌, arith, append_assoc}
use Rattle.std.specs.Prelude.{All, reverse}
use Rattle.std.proofs.lemmas.List.{map-append, append-nil, reverse-append}
use Rattle.std.proofs.lemmas.List.Elements.{All-nil, All-cons, All-append}
use Rattle.dps_terms.specs.Tree.{var, leaf}
use Rattle.dps_unify.specs.Order.{level_of}
use Rattle.dps_solver.specs.Scene.{Scene, Ask}
use Rattle.dps_solver.specs.Search.{GeneralSolution, Branch, Way, Lists, gives, drops, goes_on, ListsBy, no_way, leads, ends, Finds, unsolvable, starts, solution_of, IsSpentWithin}
use Rattle.dps_solver.specs.declared.scene.Target.{Target}
use Rattle.dps_solver.proofs.Once.{finds_once}
use Rattle.dps_directions.proofs.Outcomes.{bindings_else}
use Rattle.dps_search.specs.Code.{solution_seen}
use Rattle.dps_search.specs.declared.scene.Mgs.{Mgs}
use Rattle.dps_symeval.proofs.Mapping.{all_mapped_within}
use Rattle.dps_node.specs.declared.asking.Found.{Found as CodeFound}
use Rattle.dps_node.specs.Questions.{Query, Question, Found, FindsAll, no_ask, an_ask}
use Rattle.dps_node.specs.Asking.{found_at, found_in, no_query}
use Rattle.dps_renewal.proofs.EachOnce.{one_more}

-- solutions leave all but the scene's variables
abbrev pub HasOwn : Scene → GeneralSolution → Type 0
HasOwn scene s = (x : ℕ) → level_of scene.system.levels x ≡ None → s.bindings x ≡ leaf (var x)

mutual
  lists_own : (scene : Scene) (ask : Ask) {b : Branch} {list : List GeneralSolution} {moves : ℕ} → Lists scene ask b list moves → All (HasOwn scene) list
  lists_own scene ask (gives {b = b} t r e m) = subst (All (HasOwn scene)) (sym e) (All-cons (HasOwn scene) (solution_of scene ask b) [] (bindings_else scene b) (All-nil (HasOwn scene)))
  lists_own scene ask (drops t r e m) = subst (All (HasOwn scene)) (sym e) (All-nil (HasOwn scene))
  lists_own scene ask (goes_on t h) = ways_own scene ask h

  ways_own :
      (scene : Scene) (ask : Ask) {b : Branch} {z : Target} {rest : List Target} {ws : List Way} {list : List GeneralSolution} {moves : ℕ}
      → ListsBy scene ask b z rest ws list moves → All (HasOwn scene) list
  ways_own scene ask no_way = All-nil (HasOwn scene)
  ways_own scene ask (leads {here = here} {others = others} l h t e m) = subst (All (HasOwn scene)) (sym e) (All-append (HasOwn scene) here others (lists_own scene ask h) (ways_own scene ask t))
  ways_own scene ask (ends n t m) = ways_own scene ask t

finds_own : (scene : Scene) (ask : Ask) {list : List GeneralSolution} {moves : ℕ} → Finds scene ask list moves → All (HasOwn scene) list
finds_own scene ask (unsolvable n m) = All-nil (HasOwn scene)
finds_own scene ask (starts u t n b l) = lists_own scene ask l

pub all_own : (scene : Scene) {qs : Question} {found : List Found} {moves : ℕ} → FindsAll scene qs found moves → All (λ (f : Found). HasOwn scene f.1) found
all_own scene no_ask = All-nil (λ (f : Found). HasOwn scene f.1)
all_own scene (an_ask {q = q} {here = here} {others = others} h t l n) =
    subst (All (λ (f : Found). HasOwn scene f.1)) (sym l)
    (All-append (λ (f : Found). HasOwn scene f.1) (map (λ (s : GeneralSolution). (q, s)) here) others
    (all_mapped_within (HasOwn scene) (λ (f : Found). HasOwn scene f.1) (λ (s : GeneralSolution). (q, s)) here (finds_own scene q.ask h) (λ s k. k)) (all_own scene t))

-- one query more
finds_behind :
    (scene : Scene) (q : Query) {here : List GeneralSolution} {m : ℕ} {qs : Question} {list : List Found} {n : ℕ}
    → FindsAll scene qs list n → Finds scene q.ask here m
    → FindsAll scene (qs ++ q ∷ []) (list ++ map (λ (s : GeneralSolution). (q, s)) here) (n + m)
finds_behind scene q {here = here} no_ask h = an_ask h no_ask (sym (append-nil (map (λ (s : GeneralSolution). (q, s)) here))) (omega arith)
finds_behind scene q {here = here} {m = m} (an_ask {q = p} {here = first} {others = others} {first = k} {after = r} f t l n) h =
    an_ask f (finds_behind scene q t h)
    (ap (λ xs. xs ++ map (λ (s : GeneralSolution). (q, s)) here) l ∙ append_assoc (map (λ (s : GeneralSolution). (p, s)) first) others (map (λ (s : GeneralSolution). (q, s)) here))
    (omega (arith, n))

pub finds_next :
    (scene : Scene) (qs : Question) (i : ℕ) (q : Query) (list : List Found) (here : List GeneralSolution) (n m : ℕ)
    → i < length qs → q ≡ get_or qs i q → FindsAll scene (take i qs) list n → Finds scene q.ask here m
    → FindsAll scene (take (i + 1) qs) (list ++ map (λ (s : GeneralSolution). (q, s)) here) (n + m)
finds_next scene qs i q list here n m l e t h =
    subst (λ xs. FindsAll scene xs (list ++ map (λ (s : GeneralSolution). (q, s)) here) (n + m)) (ap (λ p. take i qs ++ p ∷ []) e ∙ sym (one_more qs i q l)) (finds_behind scene q t h)

-- what the front of a question takes, with one query more, is no more than what all takes
pub front_takes :
    (scene : Scene) (qs : Question) (i : ℕ) (q : Query) (front list : List Found) (n moves left : ℕ) → i < length qs
    → q ≡ get_or qs i q → FindsAll scene (take i qs) front n → IsSpentWithin scene q.ask left → FindsAll scene qs list moves
    → left + n < moves
front_takes scene [] i q front list n moves left l e t spent all = absurd (omega (arith, l))
front_takes scene (p ∷ qs) zero q front list n moves left l e no_ask spent (an_ask {here = here} {first = first} {after = after} f r k m) =
    let s : left < first = spent here first (subst (λ (x : Query). Finds scene x.ask here first) (sym e) f) in
    omega (arith, s, m)
front_takes scene (p ∷ qs) (suc i) q front list n moves left l e (an_ask {here = h} {others = o} {first = a} {after = b} f t k m) spent (an_ask {others = u} {first = c} {after = d} g r k' m') =
    let same = finds_once scene p.ask f g in
    let rest : left + b < d = front_takes scene qs i q o u b d left (omega (arith, l)) e t spent r in
    omega (arith, same.1, rest, m, m')

-- solutions one by one
pub next_put :
    {A B : Type 0} (f : A → B) (all found after : List B) (cs popped : List A) (c : A) (v : B) → cs ≡ popped ++ c ∷ [] → v ≡ f c
    → after ≡ found ++ v ∷ [] → found ++ map f (reverse cs) ≡ all → after ++ map f (reverse popped) ≡ all
next_put f all found after cs popped c v e s a h =
    ap (λ xs. xs ++ map f (reverse popped)) a
    ∙ (append_assoc found (v ∷ []) (map f (reverse popped))
    ∙ (ap (λ x. found ++ (x ∷ map f (reverse popped))) s
    ∙ (sym (ap (λ xs. found ++ map f xs) (ap reverse e ∙ reverse-append popped (c ∷ []))) ∙ h)))

pub all_put : {A B : Type 0} (f : A → B) (all found : List B) (cs : List A) → length cs ≡ 0 → found ++ map f (reverse cs) ≡ all → found ≡ all
all_put f all found [] e h = sym (append-nil found) ∙ h
all_put f all found (c ∷ cs) e h = absurd (omega (arith, e))

-- what is found in a question, with the solutions of one query more
pub found_more : (qs : Question) (k : ℕ) (old new : List CodeFound) (sols : List Mgs) → new ≡ old ++ map (found_at k) sols
    → map (found_in qs) new ≡ map (found_in qs) old ++ map (λ (s : GeneralSolution). (get_or qs k no_query, s)) (map solution_seen sols)
found_more qs k old new sols e =
    ap (map (found_in qs)) e ∙ (map-append (found_in qs) old (map (found_at k) sols) ∙ ap (λ xs. map (found_in qs) old ++ xs) (each sols))
  where
    each : (ss : List Mgs) → map (found_in qs) (map (found_at k) ss) ≡ map (λ (s : GeneralSolution). (get_or qs k no_query, s)) (map solution_seen ss)
    each [] = refl
    each (s ∷ ss) = ap (λ xs. (get_or qs k no_query, solution_seen s) ∷ xs) (each ss)

pub places_more :
    (P : ℕ → Type 0) (k : ℕ) (old new : List CodeFound) (sols : List Mgs) → new ≡ old ++ map (found_at k) sols → P k
    → All (λ (f : CodeFound). P f.place) old → All (λ (f : CodeFound). P f.place) new
places_more P k old new sols e p h =
    subst (All (λ (f : CodeFound). P f.place)) (sym e) (All-append (λ (f : CodeFound). P f.place) old (map (found_at k) sols) h (each sols))
  where
    each : (ss : List Mgs) → All (λ (f : CodeFound). P f.place) (map (found_at k) ss)
    each [] = All-nil (λ (f : CodeFound). P f.place)
    each (s ∷ ss) = All-cons (λ (f : CodeFound). P f.place) (found_at k s) (map (found_at k) ss) p (each ss)

pub none_found : (scene : Scene) (list : List Found) (n : ℕ) → list ≡ [] → n ≡ 0 → FindsAll scene [] list n
none_found scene list n e z = subst (λ xs. FindsAll scene [] xs n) (sym e) (subst (λ k. FindsAll scene [] [] k) (sym z) no_ask)

pub finds_moved : (scene : Scene) (qs : Question) (list other : List Found) (n m : ℕ) → other ≡ list → m ≡ n → FindsAll scene qs list n → FindsAll scene qs other m
finds_moved scene qs list other n m e d h = subst (λ xs. FindsAll scene qs xs m) (sym e) (subst (λ k. FindsAll scene qs list k) (sym d) h)
