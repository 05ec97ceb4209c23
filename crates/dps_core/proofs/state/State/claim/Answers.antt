use Rattle.std.proofs.Common.{◌≡◌, ℕ, List, ap, ◌∙◌, sym, subst, true, false}
use Rattle.dps_core.specs.declared.event.Event.TheVariants as event
use Rattle.dps_core.specs.declared.rows.Row.{Row}
use Rattle.dps_core.specs.contracts.state.State.{the_view}
use Rattle.dps_core.specs.Answers.{HasAtHand}
use Rattle.dps_core.specs.Pool.{Pool, Step, without}
use Rattle.dps_core.proofs.Claiming.{claim-halted, claim-live, claim-dead}
use Rattle.std.specs.Prelude.{slice_set}
use Rattle.std.proofs.lemmas.Option.{get_or_from_slice_get}
use Rattle.dps_core.specs.declared.event.Mark.TheVariants.{Open, Held}
use Rattle.dps_core.specs.Book.{with_mark}
use Rattle.dps_core.proofs.Books.{book_of}
use Rattle.dps_core.proofs.Pools.{pool_of}
use Rattle.dps_core.proofs.state.State.claim.Goals as goal

false_of : true ≡ false → ⊥
false_of e = cc

pub returns-then-self : goal.returns-then-self
returns-then-self c =
    let p = c.is_at_hand.ensures.0 c.if-not-is_at_hand.false in
    let q : HasAtHand c.self.inside.rows.items c.self.inside.hands.items c.args.worker c.args.ticket = subst (λ (x : List Row). HasAtHand x c.self.inside.hands.items c.args.worker c.args.ticket)
    c.deref.ensures.value (subst (λ (x : List (List ℕ)). HasAtHand c.deref.result.now x c.args.worker c.args.ticket) c.deref-2.ensures.value p) in
    subst (λ (s : Pool). Step s (event.Claim c.args.worker c.args.ticket) s) c.self.view_is
    (claim-halted (the_view c.self.inside) c.args.worker c.args.ticket q.0 q.1 (q.2, q.3, q.4, q.5) c.if-self.true)

pub returns-then-is_waiting : goal.returns-then-is_waiting
returns-then-is_waiting c =
    let p = c.is_at_hand.ensures.0 c.if-not-is_at_hand.false in
    let q : HasAtHand c.self.inside.rows.items c.self.inside.hands.items c.args.worker c.args.ticket = subst (λ (x : List Row). HasAtHand x c.self.inside.hands.items c.args.worker c.args.ticket)
    c.deref.ensures.value (subst (λ (x : List (List ℕ)). HasAtHand c.deref.result.now x c.args.worker c.args.ticket) c.deref-2.ensures.value p) in
    let y : c.index_mut.result.now ≡ q.1 = c.index_mut.ensures.value ∙ get_or_from_slice_get c.self.inside.rows.items c.args.ticket q.1 c.index_mut.result.now q.4 in
    let z : c.index.result.now ≡ q.1 = c.index.ensures ∙ get_or_from_slice_get c.self.inside.rows.items c.args.ticket q.1 c.index.result.now q.4 in
    let o : q.1.mark ≡ Open = ap (λ (x : Row). x.mark) (sym z) ∙ c.is_waiting.ensures.0 c.if-is_waiting.true in
    subst (λ (x : Row). Step c.args.self.now (event.Claim c.args.worker c.args.ticket)
    (pool_of (book_of (with_mark c.self.inside.rows.items c.args.ticket x.path (Held c.args.worker)) c.self.inside.best c.self.inside.halted) c.self.inside.decks.items
    c.self.inside.hands.items)) (sym y)
    (subst (λ (s : Pool). Step s (event.Claim c.args.worker c.args.ticket)
    (pool_of (book_of (with_mark c.self.inside.rows.items c.args.ticket q.1.path (Held c.args.worker)) c.self.inside.best c.self.inside.halted) c.self.inside.decks.items
    c.self.inside.hands.items)) c.self.view_is
    (claim-live (the_view c.self.inside) c.args.worker c.args.ticket q.0 q.1 (q.2, q.3, q.4, q.5) c.if-self.false o))

pub returns-else-is_waiting : goal.returns-else-is_waiting
returns-else-is_waiting c =
    let p = c.is_at_hand.ensures.0 c.if-not-is_at_hand.false in
    let q : HasAtHand c.self.inside.rows.items c.self.inside.hands.items c.args.worker c.args.ticket = subst (λ (x : List Row). HasAtHand x c.self.inside.hands.items c.args.worker c.args.ticket)
    c.deref.ensures.value (subst (λ (x : List (List ℕ)). HasAtHand c.deref.result.now x c.args.worker c.args.ticket) c.deref-2.ensures.value p) in
    let z : c.index.result.now ≡ q.1 = c.index.ensures ∙ get_or_from_slice_get c.self.inside.rows.items c.args.ticket q.1 c.index.result.now q.4 in
    let o = λ (h : q.1.mark ≡ Open). let t : c.is_waiting.result ≡ true = c.is_waiting.ensures.1 (ap (λ (x : Row). x.mark) z ∙ h) in let f : c.is_waiting.result ≡ false = c.if-is_waiting.false
    in let n : true ≡ false = sym t ∙ f in false_of n in
    let y : c.index_mut-else-is_waiting.result.now ≡ q.0 = c.index_mut-else-is_waiting.ensures.value
    ∙ get_or_from_slice_get c.self.inside.hands.items c.args.worker q.0 c.index_mut-else-is_waiting.result.now q.2 in
    let h : c.take_out.new.self ≡ without c.args.ticket q.0 = c.take_out.ensures ∙ ap (without c.args.ticket) y in
    subst (λ (x : List ℕ). Step c.args.self.now (event.Claim c.args.worker c.args.ticket)
    (pool_of (book_of c.self.inside.rows.items c.self.inside.best c.self.inside.halted) c.self.inside.decks.items (slice_set c.self.inside.hands.items c.args.worker x))) (sym h)
    (subst (λ (s : Pool). Step s (event.Claim c.args.worker c.args.ticket)
    (pool_of (book_of c.self.inside.rows.items c.self.inside.best c.self.inside.halted) c.self.inside.decks.items
    (slice_set c.self.inside.hands.items c.args.worker (without c.args.ticket q.0)))) c.self.view_is
    (claim-dead (the_view c.self.inside) c.args.worker c.args.ticket q.0 q.1 (q.2, q.3, q.4, q.5) c.if-self.false o))
