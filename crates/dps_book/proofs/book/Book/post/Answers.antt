use Rattle.std.proofs.Common.{◌≡◌, ℕ, List, Option, Some, true, false, ap, ◌∙◌, sym, subst, arith}
use Rattle.std.specs.Prelude.{slice_get}
use Rattle.std.proofs.lemmas.Option.{get_or_from_slice_get, slice_get_within}
use Rattle.dps_core.specs.declared.event.Mark.{Mark}
use Rattle.dps_core.specs.declared.event.Mark.TheVariants.{Held, DroppedHeld}
use Rattle.dps_core.specs.declared.event.Post.{Post}
use Rattle.dps_core.specs.declared.event.Posted.TheVariants as answer
use Rattle.dps_core.specs.declared.rows.Row.{Row}
use Rattle.dps_core.specs.Book.{row}
use Rattle.dps_book.specs.contracts.book.Book.{the_view}
use Rattle.dps_book.specs.Ledger.{Ledger, Holds, HasMark, IsPost}
use Rattle.dps_book.proofs.Ledgers.{held-open, held-as, holds-place}
use Rattle.dps_book.proofs.book.Book.post.Goals as goal

pub unreachable-requires : goal.unreachable-requires
unreachable-requires c =
    let w = c.args.worker in
    let h = subst (λ (x : Ledger). (ticket : ℕ) × (path : List ℕ) × Holds x w ticket path) (sym c.self.view_is) c.requires in
    let e : slice_get c.self.inside.holds.items w ≡ Some (Some h.0) = holds-place (the_view c.self.inside) c.self.inside.holds.items w h.0 h.1 c.self.invariant.0.holding h.2 in
    let f : c.held_by.result ≡ Some h.0 = (c.held_by.ensures h.0).1 (ap (λ (x : List (Option ℕ)). slice_get x w) c.deref.ensures.value ∙ e) in
    cc

pub index-requires : goal.index-requires
index-requires c =
    let w = c.args.worker in
    let t = c.in-Some.ticket in
    let mine : slice_get c.self.inside.holds.items w ≡ Some (Some t) = ap (λ (x : List (Option ℕ)). slice_get x w) (sym c.deref.ensures.value) ∙ (c.held_by.ensures t).0 c.in-Some.is in
    let m = c.self.invariant.0.holding.marked w t mine in
    omega (arith, slice_get_within c.self.inside.rows.items t m.0 m.1, c.self.inside.rows.ok)

pub post_late-requires : goal.post_late-requires
post_late-requires c =
    let t = c.in-Some.ticket in
    let w = c.args.worker in
    let mine : slice_get c.self.inside.holds.items w ≡ Some (Some t) = ap (λ (x : List (Option ℕ)). slice_get x w) (sym c.deref.ensures.value) ∙ (c.held_by.ensures t).0 c.in-Some.is in
    let m = c.self.invariant.0.holding.marked w t mine in
    let same : c.index.result.now ≡ m.0 = c.index.ensures ∙ get_or_from_slice_get c.self.inside.rows.items t m.0 c.index.result.now m.1 in
    let mark : m.0.mark ≡ DroppedHeld w = ap (λ (r : Row). r.mark) (sym same) ∙ c.is_dropped_held_by.ensures.0 c.if-is_dropped_held_by.true in
    subst (λ (x : Ledger). HasMark x t (DroppedHeld w)) c.self.view_is (m.0.path, m.1 ∙ ap (λ (x : Mark). Some (row m.0.path x)) mark)

pub returns-then-is_dropped_held_by-clause-done : goal.returns-then-is_dropped_held_by-clause-done
returns-then-is_dropped_held_by-clause-done c = λ ticket path h.
    let t = c.in-Some.ticket in
    let w = c.args.worker in
    let holds = c.self.inside.holds.items in
    let k = c.self.invariant.0.holding in
    let mine : slice_get holds w ≡ Some (Some t) = ap (λ (x : List (Option ℕ)). slice_get x w) (sym c.deref.ensures.value) ∙ (c.held_by.ensures t).0 c.in-Some.is in
    let m = k.marked w t mine in
    let same : c.index.result.now ≡ m.0 = c.index.ensures ∙ get_or_from_slice_get c.self.inside.rows.items t m.0 c.index.result.now m.1 in
    let mark : m.0.mark ≡ DroppedHeld w = ap (λ (r : Row). r.mark) (sym same) ∙ c.is_dropped_held_by.ensures.0 c.if-is_dropped_held_by.true in
    let f = held-as (the_view c.self.inside) holds w t ticket path m.0 (DroppedHeld w) k mine m.1 mark (subst (λ (x : Ledger). Holds x w ticket path) (sym c.self.view_is) h) in
    let e : slice_get c.args.self.now.book.rows t ≡ Some (row path (DroppedHeld w)) = ap (λ (x : Ledger). slice_get x.book.rows t) (sym c.self.view_is) ∙ f.1 in
    subst (λ (u : ℕ). IsPost c.args.self.now w u path c.args.found answer.Dropped c.post_late.new.self) f.0
    (c.post_late.ensures path e)

pub post_kids-requires : goal.post_kids-requires
post_kids-requires c =
    let t = c.in-Some.ticket in
    let w = c.args.worker in
    let mine : slice_get c.self.inside.holds.items w ≡ Some (Some t) = ap (λ (x : List (Option ℕ)). slice_get x w) (sym c.deref.ensures.value) ∙ (c.held_by.ensures t).0 c.in-Some.is in
    let m = c.self.invariant.0.holding.marked w t mine in
    let same : c.index.result.now ≡ m.0 = c.index.ensures ∙ get_or_from_slice_get c.self.inside.rows.items t m.0 c.index.result.now m.1 in
    let other = λ (e : m.0.mark ≡ DroppedHeld w). let clash : true ≡ false = sym (c.is_dropped_held_by.ensures.1 (ap (λ (r : Row). r.mark) same ∙ e))
    ∙ c.if-is_dropped_held_by.false in let none : ⊥ = cc in none in
    subst (λ (x : Ledger). HasMark x t (Held w)) c.self.view_is (m.0.path, m.1 ∙ ap (λ (x : Mark). Some (row m.0.path x)) (held-open m.0.mark w m.2 other))

pub post_stop-requires : goal.post_stop-requires
post_stop-requires c =
    let t = c.in-Some.ticket in
    let w = c.args.worker in
    let mine : slice_get c.self.inside.holds.items w ≡ Some (Some t) = ap (λ (x : List (Option ℕ)). slice_get x w) (sym c.deref.ensures.value) ∙ (c.held_by.ensures t).0 c.in-Some.is in
    let m = c.self.invariant.0.holding.marked w t mine in
    let same : c.index.result.now ≡ m.0 = c.index.ensures ∙ get_or_from_slice_get c.self.inside.rows.items t m.0 c.index.result.now m.1 in
    let other = λ (e : m.0.mark ≡ DroppedHeld w). let clash : true ≡ false = sym (c.is_dropped_held_by.ensures.1 (ap (λ (r : Row). r.mark) same ∙ e))
    ∙ c.if-is_dropped_held_by.false in let none : ⊥ = cc in none in
    subst (λ (x : Ledger). HasMark x t (Held w)) c.self.view_is (m.0.path, m.1 ∙ ap (λ (x : Mark). Some (row m.0.path x)) (held-open m.0.mark w m.2 other))

pub returns-in_ok-first-in-Kids-clause-done : goal.returns-in_ok-first-in-Kids-clause-done
returns-in_ok-first-in-Kids-clause-done c = λ ticket path h.
    let t = c.in-Some.ticket in
    let w = c.args.worker in
    let holds = c.self.inside.holds.items in
    let k = c.self.invariant.0.holding in
    let mine : slice_get holds w ≡ Some (Some t) = ap (λ (x : List (Option ℕ)). slice_get x w) (sym c.deref.ensures.value) ∙ (c.held_by.ensures t).0 c.in-Some.is in
    let m = k.marked w t mine in
    let same : c.index.result.now ≡ m.0 = c.index.ensures ∙ get_or_from_slice_get c.self.inside.rows.items t m.0 c.index.result.now m.1 in
    let other = λ (e : m.0.mark ≡ DroppedHeld w). let clash : true ≡ false = sym (c.is_dropped_held_by.ensures.1 (ap (λ (r : Row). r.mark) same ∙ e))
    ∙ c.if-is_dropped_held_by.false in let none : ⊥ = cc in none in
    let mark : m.0.mark ≡ Held w = held-open m.0.mark w m.2 other in
    let f = held-as (the_view c.self.inside) holds w t ticket path m.0 (Held w) k mine m.1 mark (subst (λ (x : Ledger). Holds x w ticket path) (sym c.self.view_is) h) in
    let e : slice_get c.args.self.now.book.rows t ≡ Some (row path (Held w)) = ap (λ (x : Ledger). slice_get x.book.rows t) (sym c.self.view_is) ∙ f.1 in
    subst (λ (u : ℕ). IsPost c.args.self.now w u path c.args.found (answer.Kids c.in_ok-first-in-Kids.first) c.post_kids.new.self) f.0
    (subst (λ (x : Post). IsPost c.args.self.now w t path x (answer.Kids c.in_ok-first-in-Kids.first) c.post_kids.new.self) (sym c.in-Kids.is) (c.in_ok-first-in-Kids.ensures.done path e))

pub returns-in-Stop-clause-done : goal.returns-in-Stop-clause-done
returns-in-Stop-clause-done c = λ ticket path h.
    let t = c.in-Some.ticket in
    let w = c.args.worker in
    let holds = c.self.inside.holds.items in
    let k = c.self.invariant.0.holding in
    let mine : slice_get holds w ≡ Some (Some t) = ap (λ (x : List (Option ℕ)). slice_get x w) (sym c.deref.ensures.value) ∙ (c.held_by.ensures t).0 c.in-Some.is in
    let m = k.marked w t mine in
    let same : c.index.result.now ≡ m.0 = c.index.ensures ∙ get_or_from_slice_get c.self.inside.rows.items t m.0 c.index.result.now m.1 in
    let other = λ (e : m.0.mark ≡ DroppedHeld w). let clash : true ≡ false = sym (c.is_dropped_held_by.ensures.1 (ap (λ (r : Row). r.mark) same ∙ e))
    ∙ c.if-is_dropped_held_by.false in let none : ⊥ = cc in none in
    let mark : m.0.mark ≡ Held w = held-open m.0.mark w m.2 other in
    let f = held-as (the_view c.self.inside) holds w t ticket path m.0 (Held w) k mine m.1 mark (subst (λ (x : Ledger). Holds x w ticket path) (sym c.self.view_is) h) in
    let e : slice_get c.args.self.now.book.rows t ≡ Some (row path (Held w)) = ap (λ (x : Ledger). slice_get x.book.rows t) (sym c.self.view_is) ∙ f.1 in
    subst (λ (u : ℕ). IsPost c.args.self.now w u path c.args.found answer.Best c.post_stop.new.self) f.0
    (subst (λ (x : Post). IsPost c.args.self.now w t path x answer.Best c.post_stop.new.self) (sym c.in-Stop.is) (c.post_stop.ensures path e))
