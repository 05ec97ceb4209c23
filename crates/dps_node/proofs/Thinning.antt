-- Asks that nothing solves change no answer and no count.
use Rattle.std.proofs.Common.{◌≡◌, ℕ, List, [], ◌++◌, map, refl, sym, ◌∙◌, ap, subst, arith}
use Rattle.std.specs.Prelude.{◌↔◌}
use Rattle.dps_terms.specs.Bindings.{image}
use Rattle.dps_unify.specs.Unifier.{IsNotUnifiable}
use Rattle.dps_solver.specs.Scene.{Scene, Ask}
use Rattle.dps_solver.specs.Search.{GeneralSolution, Finds, unsolvable, starts}
use Rattle.dps_symeval.specs.Cases.{Case, IsPruned, all_seen, keeps, leaves_out}
use Rattle.dps_node.specs.Node.{SymbolicConfig, Node, scene_of}
use Rattle.dps_node.specs.Questions.{Question, of_case, Found, FindsAll, an_ask, Answer, decided, undecided, Answers, AnswersWhole, Asks, Replies, AsksEach, one_decided, one_open}
use Rattle.dps_node.specs.Pruning.{IsThinned, all_asked, asks, passes, AreThinned, none_asked, next_asked, HaveSameAnswers}

pub pruned_is_thinned : {all kept : List Case} → IsPruned all kept → IsThinned (map of_case all) (map of_case kept)
pruned_is_thinned all_seen = all_asked
pruned_is_thinned (keeps p) = asks (pruned_is_thinned p)
pruned_is_thinned (leaves_out n p) = passes n (pruned_is_thinned p)

-- nothing is found
pub finds_nothing : (scene : Scene) (ask : Ask) (list : List GeneralSolution) (moves : ℕ) → IsNotUnifiable ask.equations → Finds scene ask list moves → (list ≡ []) × (moves ≡ 0)
finds_nothing scene ask list moves n (unsolvable u m) = (refl, m)
finds_nothing scene ask list moves n (starts {u = u} h e b s l) = absurd (n (image u) h.unifies)

pub thinned_finds : (scene : Scene) {all kept : Question} {found : List Found} {moves : ℕ} → IsThinned all kept → FindsAll scene all found moves → FindsAll scene kept found moves
thinned_finds scene all_asked h = h
thinned_finds scene (asks p) (an_ask f t l n) = an_ask f (thinned_finds scene p t) l n
thinned_finds scene (passes {q = q} {kept = kept} n p) (an_ask {here = here} {others = others} {found = found} {first = first} {after = after} {moves = moves} f t l m) =
    let e = finds_nothing scene q.ask here first n f in
    let same : found ≡ others = l ∙ ap (λ (xs : List GeneralSolution). map (λ (s : GeneralSolution). (q, s)) xs ++ others) e.0 in
    let count : moves ≡ after = omega (arith, m, e.1) in
    subst (λ k. FindsAll scene kept found k) (sym count) (subst (λ (fs : List Found). FindsAll scene kept fs after) (sym same) (thinned_finds scene p t))

pub finds_thinned : (scene : Scene) {all kept : Question} {found : List Found} {moves : ℕ} → IsThinned all kept → FindsAll scene kept found moves → FindsAll scene all found moves
finds_thinned scene all_asked h = h
finds_thinned scene (asks p) (an_ask f t l n) = an_ask f (finds_thinned scene p t) l n
finds_thinned scene (passes n p) h = an_ask (unsolvable n refl) (finds_thinned scene p h) refl (omega arith)

module _ (reads : List Found → Answer → Type 0) (node : Node) where
  pub thinned_asks : (all kept : Question) (c : SymbolicConfig) (answer : Answer) (steps : ℕ) → IsThinned all kept → Asks reads node c all answer steps ↔ Asks reads node c kept answer steps
  thinned_asks all kept c answer steps p = (
    λ h. record { found = h.found; moves = h.moves; finds = thinned_finds (scene_of node c) p h.finds; answers = h.answers; counted = h.counted },
    λ h. record { found = h.found; moves = h.moves; finds = finds_thinned (scene_of node c) p h.finds; answers = h.answers; counted = h.counted },
  )

  thinned_replies : {all kept : List (SymbolicConfig × Question)} {replies : Replies} {steps : ℕ} → AreThinned all kept → AsksEach reads node all replies steps → AsksEach reads node kept replies steps
  thinned_replies none_asked h = h
  thinned_replies (next_asked {c = c} {all = all} {kept = kept} p ps) (one_decided {o = o} {first = first} a t r n) =
      one_decided ((thinned_asks all kept c (decided o) first p).0 a) (thinned_replies ps t) r n
  thinned_replies (next_asked {c = c} {all = all} {kept = kept} p ps) (one_open {s = s} {steps = steps} a) =
      one_open ((thinned_asks all kept c (undecided s) steps p).0 a)

  replies_thinned : {all kept : List (SymbolicConfig × Question)} {replies : Replies} {steps : ℕ} → AreThinned all kept → AsksEach reads node kept replies steps → AsksEach reads node all replies steps
  replies_thinned none_asked h = h
  replies_thinned (next_asked {c = c} {all = all} {kept = kept} p ps) (one_decided {o = o} {first = first} a t r n) =
      one_decided ((thinned_asks all kept c (decided o) first p).1 a) (replies_thinned ps t) r n
  replies_thinned (next_asked {c = c} {all = all} {kept = kept} p ps) (one_open {s = s} {steps = steps} a) =
      one_open ((thinned_asks all kept c (undecided s) steps p).1 a)

  pub thinned_reply_alike :
      {all kept : List (SymbolicConfig × Question)} (replies : Replies) (steps : ℕ) → AreThinned all kept
      → AsksEach reads node all replies steps ↔ AsksEach reads node kept replies steps
  thinned_reply_alike replies steps p = (λ h. thinned_replies p h, λ h. replies_thinned p h)

pub thinned_alike : (node : Node) (all kept : Question) → IsThinned all kept → HaveSameAnswers node all kept
thinned_alike node all kept p = λ c answer steps. (thinned_asks Answers node all kept c answer steps p, thinned_asks AnswersWhole node all kept c answer steps p)
