-- What an agenda lists, turn by turn.
use Rattle.std.proofs.Common.{◌≡◌, ℕ, ◌+◌, ◌<◌, ◌≤◌, List, [], ◌∷◌, ◌++◌, map, Option, Some, None, refl, sym, ◌∙◌, ap, subst, subst₂, arith, append_assoc}
use Rattle.std.specs.Prelude.{◌↔◌, reverse}
use Rattle.std.proofs.lemmas.List.{map-append, reverse-append}
use Rattle.dps_terms.specs.Tree.{Tree}
use Rattle.dps_terms.specs.Bindings.{image}
use Rattle.dps_unify.specs.Unifier.{IsNotUnifiable}
use Rattle.dps_solver.specs.Scene.{Scene, Ask}
use Rattle.dps_solver.specs.Solutions.{identity}
use Rattle.dps_solver.specs.Search.{GeneralSolution, Branch, with_bound, unbound, Lists, Finds, unsolvable, starts}
use Rattle.dps_solver.proofs.Once.{after_unifier}
use Rattle.dps_search.specs.declared.scene.Mgs.{Mgs}
use Rattle.dps_search.specs.declared.branch.Branch.{Branch as CodeBranch}
use Rattle.dps_search.specs.declared.task.Task.{Task}
use Rattle.dps_search.specs.Code.{branch_of, solution_seen}
use Rattle.dps_bindings.specs.Putting.{IsUnifiedBy}
use Rattle.dps_search.specs.Tasks.{TaskLists, solutions, AreJoined, IsLater}
use Rattle.dps_search.specs.Agenda.{AgendaLists, nothing, first, IsLeft, IsBegin, IsAdvance, TakesMove}
use Rattle.dps_search.proofs.Turning.{begins}

module _ (scene : Scene) (ask : Ask) where
  -- the start
  begun : (b : Branch) (theta : ℕ → Tree) (bound : List (ℕ × ℕ)) (list : List GeneralSolution) (moves : ℕ)
      → IsUnifiedBy scene.system.levels ask.equations identity theta bound → b ≡ with_bound bound (record (unbound scene ask) { theta = theta })
      → Finds scene ask list moves → Lists scene ask b list moves
  begun b theta bound list moves n e (unsolvable u m) = absurd (u (image n.unifier) n.is.unifies)
  begun b theta bound list moves n e (starts {u = u} {theta = other} {bound = others} {b = c} h f m g t) =
      let same : c ≡ b =
      g ∙ after_unifier scene.system.levels ask.equations identity (λ z. record (unbound scene ask) { theta = z }) u n.unifier other theta others bound h n.is f n.becomes m n.newly ∙ sym e
      in subst (λ x. Lists scene ask x list moves) same t

  pub start_on : (b : Branch) (theta : ℕ → Tree) (bound : List (ℕ × ℕ))
      → IsUnifiedBy scene.system.levels ask.equations identity theta bound → b ≡ with_bound bound (record (unbound scene ask) { theta = theta })
      → (list : List GeneralSolution) (moves : ℕ) → Finds scene ask list moves ↔ Lists scene ask b list moves
  start_on b theta bound n e list moves = (begun b theta bound list moves n e, λ h. starts n.is n.becomes n.newly e h)

  nothing_found : (list : List GeneralSolution) (moves : ℕ) → IsNotUnifiable ask.equations → Finds scene ask list moves → (list ≡ []) × (moves ≡ 0)
  nothing_found list moves u (unsolvable v m) = (refl, m)
  nothing_found list moves u (starts {u = s} h f m g t) = absurd (u (image s) h.unifies)

  pub no_start : IsNotUnifiable ask.equations → (list : List GeneralSolution) (moves : ℕ) → Finds scene ask list moves ↔ ((list ≡ []) × (moves ≡ 0))
  no_start u list moves = (nothing_found list moves u, λ e. subst (λ l. Finds scene ask l moves) (sym e.0) (unsolvable u e.1))

  -- an agenda of one task, and of none
  alone : (xs : List GeneralSolution) → xs ++ [] ≡ xs
  alone [] = refl
  alone (x ∷ xs) = ap (λ ys. x ∷ ys) (alone xs)

  ended : (list : List GeneralSolution) (moves : ℕ) → AgendaLists scene ask [] list moves → (list ≡ []) × (moves ≡ 0)
  ended list moves (nothing e f) = (e, f)

  only : (t : Task) (list : List GeneralSolution) (moves : ℕ) → AgendaLists scene ask (t ∷ []) list moves → TaskLists scene ask t list moves
  only t list moves (first {others = others} {after = after} here before h k l n) =
      let e = ended others after k in
      let same : here ≡ list = sym (l ∙ ap (λ xs. here ++ xs) e.0 ∙ alone here) in
      let count : before ≡ moves = omega (arith, n, e.1) in
      subst₂ (λ xs m. TaskLists scene ask t xs m) same count h

  pub one_task : (t : Task) (list : List GeneralSolution) (moves : ℕ) → AgendaLists scene ask (t ∷ []) list moves ↔ TaskLists scene ask t list moves
  one_task t list moves = (only t list moves, λ h. first {moves = moves} list moves h (nothing refl refl) (sym (alone list)) (omega arith))

  pub begin_none : ((list : List GeneralSolution) (moves : ℕ) → Finds scene ask list moves ↔ ((list ≡ []) × (moves ≡ 0))) → IsBegin scene ask []
  begin_none h list moves = (
    λ f. let e = (h list moves).0 f in nothing e.0 e.1,
    λ a. (h list moves).1 (ended list moves a),
  )

  pub begin_one : (b : CodeBranch) → ((list : List GeneralSolution) (moves : ℕ) → Finds scene ask list moves ↔ Lists scene ask (branch_of b) list moves)
      → IsBegin scene ask ((let t : Task = record { branch = b; passed = 0 } in t) ∷ [])
  begin_one b h list moves = (
    λ f. (one_task (record { branch = b; passed = 0 }) list moves).1 ((begins scene ask (branch_of b) list moves).0 ((h list moves).0 f)),
    λ a. (h list moves).1 ((begins scene ask (branch_of b) list moves).1 ((one_task (record { branch = b; passed = 0 }) list moves).0 a)),
  )

  -- one turn
  abbrev listed_of : Option Mgs → List Mgs
  listed_of None = []
  listed_of (Some g) = g ∷ []

  same_listed : (o : Option Mgs) → map solution_seen (listed_of o) ≡ solutions o
  same_listed None = refl
  same_listed (Some g) = refl

  module _ (t : Task) (ts : List Task) (found : List Mgs) where
    end_to : (o : Option Mgs) → ((list : List GeneralSolution) (moves : ℕ) → TaskLists scene ask t list moves ↔ ((list ≡ solutions o) × (moves ≡ 0)))
        → (list : List GeneralSolution) (moves : ℕ) → AgendaLists scene ask (t ∷ ts) list moves → IsLeft scene ask ts (map solution_seen (listed_of o)) 0 list moves
    end_to o h list moves (first {others = others} {after = after} here before g k l n) =
        let e = (h here before).0 g in
        record {
          rest = others;
          after = after;
          lists = k;
          list_is = l ∙ ap (λ xs. xs ++ others) (e.0 ∙ sym (same_listed o));
          moves_are = omega (arith, n, e.1);
        }

    ended_turn : (o : Option Mgs) (now : List Mgs) → now ≡ found ++ listed_of o
        → ((list : List GeneralSolution) (moves : ℕ) → TaskLists scene ask t list moves ↔ ((list ≡ solutions o) × (moves ≡ 0)))
        → IsAdvance scene ask (t ∷ ts) found ts now 0
    ended_turn o now e h = record {
      more = listed_of o;
      now_is = e;
      lists = λ list moves. (
        end_to o h list moves,
        λ j. first (solutions o) 0 ((h (solutions o) 0).1 (refl, refl)) j.lists (j.list_is ∙ ap (λ xs. xs ++ j.rest) (same_listed o)) j.moves_are,
      );
    }

    nothing_more : (xs : List Mgs) → xs ≡ xs ++ []
    nothing_more [] = refl
    nothing_more (x ∷ xs) = ap (λ ys. x ∷ ys) (nothing_more xs)

    pub none_turn : ((list : List GeneralSolution) (moves : ℕ) → TaskLists scene ask t list moves ↔ ((list ≡ solutions None) × (moves ≡ 0)))
        → IsAdvance scene ask (t ∷ ts) found ts found 0
    none_turn h = ended_turn None found (nothing_more found) h

    pub some_turn : (g : Mgs) (now : List Mgs) → now ≡ found ++ g ∷ []
        → ((list : List GeneralSolution) (moves : ℕ) → TaskLists scene ask t list moves ↔ ((list ≡ solutions (Some g)) × (moves ≡ 0)))
        → IsAdvance scene ask (t ∷ ts) found ts now 0
    some_turn g now e h = ended_turn (Some g) now e h

    module _ (u : Task) where
      moved_to : (k : ℕ) → ((list : List GeneralSolution) (moves : ℕ) → TaskLists scene ask t list moves ↔ IsLater k (TaskLists scene ask u) list moves)
          → (list : List GeneralSolution) (moves : ℕ) → AgendaLists scene ask (t ∷ ts) list moves → IsLeft scene ask (u ∷ ts) [] k list moves
      moved_to k h list moves (first {after = after} here before g a l n) =
          let j = (h here before).0 g in
          record {
            rest = list;
            after = j.left + after;
            lists = first here j.left j.lists_left a l refl;
            list_is = refl;
            moves_are = omega (arith, n, j.moves_are);
          }

      moved_from : (k : ℕ) → ((list : List GeneralSolution) (moves : ℕ) → TaskLists scene ask t list moves ↔ IsLater k (TaskLists scene ask u) list moves)
          → (list rest : List GeneralSolution) (moves after : ℕ) → AgendaLists scene ask (u ∷ ts) rest after → list ≡ rest → moves ≡ k + after
          → AgendaLists scene ask (t ∷ ts) list moves
      moved_from k h list rest moves after (first here before g a l n) e m =
          first {moves = moves} here (k + before) ((h here (k + before)).1 (record { left = before; lists_left = g; moves_are = refl })) a (e ∙ l) (omega (arith, m, n))

      pub moved_turn : (k : ℕ) → ((list : List GeneralSolution) (moves : ℕ) → TaskLists scene ask t list moves ↔ IsLater k (TaskLists scene ask u) list moves)
          → IsAdvance scene ask (t ∷ ts) found (u ∷ ts) found k
      moved_turn k h = record {
        more = [];
        now_is = nothing_more found;
        lists = λ list moves. (moved_to k h list moves, λ j. moved_from k h list j.rest moves j.after j.lists j.list_is j.moves_are);
      }

      module _ (b : CodeBranch)
          (h : (list : List GeneralSolution) (moves : ℕ) → TaskLists scene ask t list moves ↔ AreJoined (Lists scene ask (branch_of b)) (TaskLists scene ask u) list moves) where
        abbrev fresh : Task
        fresh = record { branch = b; passed = 0 }

        branched_to : (list : List GeneralSolution) (moves : ℕ) → AgendaLists scene ask (t ∷ ts) list moves → IsLeft scene ask (fresh ∷ (u ∷ ts)) [] 1 list moves
        branched_to list moves (first {others = others} {after = after} here before g k l n) =
            let j = (h here before).0 g in
            record {
              rest = list;
              after = j.before + (j.after + after);
              lists = first j.here j.before ((begins scene ask (branch_of b) j.here j.before).0 j.lists_first) (first j.others j.after j.lists_second k refl refl)
                  (l ∙ ap (λ xs. xs ++ others) j.list_is ∙ append_assoc j.here j.others others) refl;
              list_is = refl;
              moves_are = omega (arith, n, j.moves_are);
            }

        second_from : (list rest here : List GeneralSolution) (moves before after : ℕ) → Lists scene ask (branch_of b) here before → AgendaLists scene ask (u ∷ ts) rest after
            → list ≡ here ++ rest → moves ≡ 1 + before + after → AgendaLists scene ask (t ∷ ts) list moves
        second_from list rest here moves before after g (first {others = others} {after = a} mid m p k l n) e f =
            first {moves = moves} (here ++ mid) (1 + before + m)
            ((h (here ++ mid) (1 + before + m)).1 (record { here = here; others = mid; before = before; after = m; lists_first = g; lists_second = p; list_is = refl; moves_are = refl }))
            k
            (e ∙ ap (λ xs. here ++ xs) l ∙ sym (append_assoc here mid others)) (omega (arith, f, n))

        branched_from : (list rest : List GeneralSolution) (moves after : ℕ) → AgendaLists scene ask (fresh ∷ (u ∷ ts)) rest after → list ≡ rest → moves ≡ 1 + after
            → AgendaLists scene ask (t ∷ ts) list moves
        branched_from list rest moves after (first {others = others} {after = a} here before g k l n) e m =
            second_from list others here moves before a ((begins scene ask (branch_of b) here before).1 g) k (e ∙ l) (omega (arith, m, n))

        pub branched_turn : IsAdvance scene ask (t ∷ ts) found (fresh ∷ (u ∷ ts)) found 1
        branched_turn = record {
          more = [];
          now_is = nothing_more found;
          lists = λ list moves. (branched_to list moves, λ j. branched_from list j.rest moves j.after j.lists j.list_is j.moves_are);
        }

  -- turn after turn
  abbrev pub IsListing : List Task → List Mgs → ℕ → Type 0
  IsListing tasks found moved = (list : List GeneralSolution) (moves : ℕ) → Finds scene ask list moves ↔ IsLeft scene ask tasks (map solution_seen found) moved list moves

  pub listing_begins : (tasks : List Task) (found : List Mgs) (moved : ℕ) → found ≡ [] → moved ≡ 0 → IsBegin scene ask tasks → IsListing tasks found moved
  listing_begins tasks found moved e f h list moves = (
    λ k. record {
      rest = list;
      after = moves;
      lists = (h list moves).0 k;
      list_is = ap (λ gs. map solution_seen gs ++ list) (sym e);
      moves_are = omega (arith, f);
    },
    λ j. (h list moves).1 (subst₂ (λ l m. AgendaLists scene ask tasks l m) (sym (j.list_is ∙ ap (λ gs. map solution_seen gs ++ j.rest) e))
        (let m : j.after ≡ moves = omega (arith, j.moves_are, f) in m) j.lists),
  )

  pub listing_goes_on : (old new : List Task) (found now : List Mgs) (moved k total : ℕ) → IsListing old found moved → IsAdvance scene ask old found new now k → total ≡ moved + k
      → IsListing new now total
  listing_goes_on old new found now moved k total h a e list moves = (
    λ f. let j = (h list moves).0 f in
        let r = (a.lists j.rest j.after).0 j.lists in
        record {
          rest = r.rest;
          after = r.after;
          lists = r.lists;
          list_is = j.list_is ∙ ap (λ xs. map solution_seen found ++ xs) r.list_is ∙ sym (both r.rest);
          moves_are = omega (arith, e, j.moves_are, r.moves_are);
        },
    λ r. (h list moves).1 (record {
      rest = map solution_seen a.more ++ r.rest;
      after = k + r.after;
      lists = (a.lists (map solution_seen a.more ++ r.rest) (k + r.after)).1 (record { rest = r.rest; after = r.after; lists = r.lists; list_is = refl; moves_are = refl });
      list_is = r.list_is ∙ both r.rest;
      moves_are = omega (arith, e, r.moves_are);
    }),
  )
    where
      both : (rest : List GeneralSolution) → map solution_seen now ++ rest ≡ map solution_seen found ++ (map solution_seen a.more ++ rest)
      both rest =
          ap (λ gs. map solution_seen gs ++ rest) a.now_is ∙ ap (λ xs. xs ++ rest) (map-append solution_seen found a.more)
          ∙ append_assoc (map solution_seen found) (map solution_seen a.more) rest

  pub all_listed : (found : List Mgs) (moved : ℕ) → IsListing [] found moved → Finds scene ask (map solution_seen found) moved
  all_listed found moved h = (h (map solution_seen found) moved).1 (record {
    rest = [];
    after = 0;
    lists = nothing refl refl;
    list_is = sym (alone (map solution_seen found));
    moves_are = omega arith;
  })

  takes_more : (t : Task) (ts : List Task) (list : List GeneralSolution) (moves : ℕ) → TakesMove scene ask t → AgendaLists scene ask (t ∷ ts) list moves → 1 ≤ moves
  takes_more t ts list moves h (first here before g k l n) = omega (arith, h here before g, n)

  pub all_spent : (t : Task) (ts : List Task) (found : List Mgs) (moved left : ℕ) → IsListing (t ∷ ts) found moved → TakesMove scene ask t → left ≡ moved
      → (list : List GeneralSolution) (moves : ℕ) → Finds scene ask list moves → left < moves
  all_spent t ts found moved left h m e list moves f =
      let j = (h list moves).0 f in omega (arith, e, j.moves_are, takes_more t ts j.rest j.after m j.lists)

-- an agenda kept backwards
pub last_first : (old new : List Task) (t : Task) → new ≡ old ++ t ∷ [] → reverse new ≡ t ∷ reverse old
last_first old new t e = ap reverse e ∙ reverse-append old (t ∷ [])
