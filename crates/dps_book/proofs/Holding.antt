-- What workers hold is marked so, through each change of a book.
use Rattle.std.proofs.Common.{◌≡◌, ℕ, ◌+◌, List, ◌++◌, length, map, Option, Some, None, Bool, true, false, cond, refl, ap, ◌∙◌, sym, ◌⊎◌, inl, inr}
use Rattle.std.specs.Prelude.{slice_get, slice_set}
use Rattle.std.proofs.lemmas.Option.{same_Some, none-some}
use Rattle.dps_path.specs.Order.{before}
use Rattle.dps_core.specs.declared.event.Mark.{Mark}
use Rattle.dps_core.specs.declared.event.Mark.TheVariants.{Open, Held, Posted, Dropped, DroppedHeld}
use Rattle.dps_core.specs.declared.rows.Row.{Row}
use Rattle.dps_core.specs.Book.{row, drop_mark, dropped_after, kids, with_mark}
use Rattle.dps_core.proofs.Lists.{set-cases, set-at, set-other, append-left, append-cases, map-cases, map-at, kids-get}
use Rattle.dps_book.specs.Ledger.{holder}
use Rattle.dps_book.specs.Right.{AreHeld}

same : (rows : List Row) (t : ℕ) (r q : Row) → slice_get rows t ≡ Some r → slice_get rows t ≡ Some q → r ≡ q
same rows t r q e f = same_Some r q (sym e ∙ f)

-- a row that this worker holds is not one that nobody or another worker holds
apart : (rows : List Row) (t u w : ℕ) (r q : Row) → slice_get rows t ≡ Some r → slice_get rows u ≡ Some q → holder q.mark ≡ Some w → (holder r.mark ≡ Some w → ⊥) → u ≡ t → ⊥
apart rows t u w r q e f h n z = n (ap (λ (a : Row). holder a.mark) (same rows t r q e (ap (slice_get rows) (sym z) ∙ f)) ∙ h)

claim_marked : (rows : List Row) (holds : List (Option ℕ)) (t w : ℕ) (p : List ℕ) (v u : ℕ) → AreHeld rows holds → slice_get rows t ≡ Some (row p Open)
    → ((v ≡ w) × (Some u ≡ Some t)) ⊎ ((v ≡ w → ⊥) × (slice_get holds v ≡ Some (Some u))) → (r : Row) × (slice_get (with_mark rows t p (Held w)) u ≡ Some r) × (holder r.mark ≡ Some v)
claim_marked rows holds t w p v u k e (inl h) =
    let z : u ≡ t = same_Some u t h.1 in
    (row p (Held w), ap (slice_get (with_mark rows t p (Held w))) z ∙ set-at rows t (row p Open) (row p (Held w)) e, ap (λ (x : ℕ). Some x) (sym h.0))
claim_marked rows holds t w p v u k e (inr h) =
    let m = k.marked v u h.1 in
    (m.0, set-other rows t (row p (Held w)) u (apart rows t u v (row p Open) m.0 e m.1 m.2 (λ z. none-some v z)) ∙ m.1, m.2)

claim_held : (rows : List Row) (holds : List (Option ℕ)) (t w : ℕ) (p : List ℕ) (u v : ℕ) (r : Row) → AreHeld rows holds → slice_get holds w ≡ Some None → holder r.mark ≡ Some v
    → ((u ≡ t) × (r ≡ row p (Held w))) ⊎ ((u ≡ t → ⊥) × (slice_get rows u ≡ Some r)) → slice_get (slice_set holds w (Some t)) v ≡ Some (Some u)
claim_held rows holds t w p u v r k free m (inl h) =
    let z : v ≡ w = sym (same_Some w v (ap (λ (a : Row). holder a.mark) (sym h.1) ∙ m)) in
    ap (slice_get (slice_set holds w (Some t))) z ∙ set-at holds w None (Some t) free ∙ ap (λ (x : ℕ). Some (Some x)) (sym h.0)
claim_held rows holds t w p u v r k free m (inr h) =
    let old = k.held u v r h.1 m in
    set-other holds w (Some t) v (λ z. none-some u (same_Some None (Some u) (sym free ∙ ap (slice_get holds) (sym z) ∙ old))) ∙ old

pub held-claim : (rows : List Row) (holds : List (Option ℕ)) (t w : ℕ) (p : List ℕ) → AreHeld rows holds → slice_get rows t ≡ Some (row p Open) → slice_get holds w ≡ Some None
    → AreHeld (with_mark rows t p (Held w)) (slice_set holds w (Some t))
held-claim rows holds t w p k e free = record {
  marked = λ v u h. claim_marked rows holds t w p v u k e (set-cases holds w (Some t) v (Some u) h);
  held = λ u v r f m. claim_held rows holds t w p u v r k free m (set-cases rows t (row p (Held w)) u r f);
}

post_marked : (rows : List Row) (holds : List (Option ℕ)) (t w : ℕ) (p : List ℕ) (m n : Mark) (v u : ℕ) → AreHeld rows holds → slice_get rows t ≡ Some (row p m) → holder m ≡ Some w
    → ((v ≡ w) × (Some u ≡ None)) ⊎ ((v ≡ w → ⊥) × (slice_get holds v ≡ Some (Some u))) → (r : Row) × (slice_get (with_mark rows t p n) u ≡ Some r) × (holder r.mark ≡ Some v)
post_marked rows holds t w p m n v u k e h (inl g) = absurd (none-some u (sym g.1))
post_marked rows holds t w p m n v u k e h (inr g) =
    let x = k.marked v u g.1 in
    (x.0, set-other rows t (row p n) u (apart rows t u v (row p m) x.0 e x.1 x.2 (λ z. g.0 (sym (same_Some w v (sym h ∙ z))))) ∙ x.1, x.2)

post_held : (rows : List Row) (holds : List (Option ℕ)) (t w : ℕ) (p : List ℕ) (n : Mark) (u v : ℕ) (r : Row) → AreHeld rows holds → slice_get holds w ≡ Some (Some t) → holder n ≡ None
    → holder r.mark ≡ Some v → ((u ≡ t) × (r ≡ row p n)) ⊎ ((u ≡ t → ⊥) × (slice_get rows u ≡ Some r)) → slice_get (slice_set holds w None) v ≡ Some (Some u)
post_held rows holds t w p n u v r k mine none m (inl h) = absurd (none-some v (sym none ∙ ap (λ (a : Row). holder a.mark) (sym h.1) ∙ m))
post_held rows holds t w p n u v r k mine none m (inr h) =
    let old = k.held u v r h.1 m in
    set-other holds w None v (λ z. h.0 (same_Some u t (same_Some (Some u) (Some t) (sym old ∙ ap (slice_get holds) z ∙ mine)))) ∙ old

pub held-post : (rows : List Row) (holds : List (Option ℕ)) (t w : ℕ) (p : List ℕ) (m n : Mark) → AreHeld rows holds → slice_get rows t ≡ Some (row p m) → slice_get holds w ≡ Some (Some t)
    → holder m ≡ Some w → holder n ≡ None → AreHeld (with_mark rows t p n) (slice_set holds w None)
held-post rows holds t w p m n k e mine h none = record {
  marked = λ v u g. post_marked rows holds t w p m n v u k e h (set-cases holds w None v (Some u) g);
  held = λ u v r f g. post_held rows holds t w p n u v r k mine none g (set-cases rows t (row p n) u r f);
}

kid_held : (rows : List Row) (holds : List (Option ℕ)) (p : List ℕ) (n u v : ℕ) (r : Row) → AreHeld rows holds → holder r.mark ≡ Some v
    → (slice_get rows u ≡ Some r) ⊎ ((j : ℕ) × (u ≡ length rows + j) × (slice_get (kids p 0 n) j ≡ Some r)) → slice_get holds v ≡ Some (Some u)
kid_held rows holds p n u v r k m (inl h) = k.held u v r h m
kid_held rows holds p n u v r k m (inr h) =
    let g = kids-get p 0 n h.0 r h.2 in
    absurd (none-some v (ap (λ (a : Row). holder a.mark) (sym g.1) ∙ m))

pub held-kids : (rows : List Row) (holds : List (Option ℕ)) (p : List ℕ) (n : ℕ) → AreHeld rows holds → AreHeld (rows ++ kids p 0 n) holds
held-kids rows holds p n k = record {
  marked = λ v u h. let m = k.marked v u h in (m.0, append-left rows (kids p 0 n) u m.0 m.1, m.2);
  held = λ u v r f m. kid_held rows holds p n u v r k m (append-cases rows (kids p 0 n) u r f);
}

holder_drop : (b : Bool) (m : Mark) → holder (cond b (drop_mark m) m) ≡ holder m
holder_drop true Open = refl
holder_drop true (Held w) = refl
holder_drop true Posted = refl
holder_drop true Dropped = refl
holder_drop true (DroppedHeld w) = refl
holder_drop false m = refl

pub held-drop : (rows : List Row) (holds : List (Option ℕ)) (p : List ℕ) → AreHeld rows holds → AreHeld (map (dropped_after p) rows) holds
held-drop rows holds p k = record {
  marked = λ v u h. let m = k.marked v u h in (dropped_after p m.0, map-at (dropped_after p) rows u m.0 m.1, holder_drop (before p m.0.path) m.0.mark ∙ m.2);
  held = λ u v r f m.
      let x = map-cases (dropped_after p) rows u r f in
      k.held u v x.0 x.1 (sym (holder_drop (before p x.0.path) x.0.mark) ∙ ap (λ (a : Row). holder a.mark) (sym x.2) ∙ m);
}
