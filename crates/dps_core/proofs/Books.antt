-- What each step of the book keeps.
use Rattle.std.proofs.Common.{◌≡◌, ℕ, zero, suc, ◌+◌, ◌<◌, ◌≤◌, List, [], ◌∷◌, ◌++◌, length, map, Option, Some, None, Bool, true, false, cond, refl, ap, ◌∙◌, sym, subst, ◌⊎◌, inl, inr, arith}
use Rattle.std.specs.Prelude.{slice_get, slice_set}
use Rattle.std.proofs.lemmas.Option.{same_Some, none-some}
use Rattle.dps_branch.specs.declared.kind.StopKind.{StopKind}
use Rattle.dps_path.specs.Order.{before, is_prefix}
use Rattle.dps_path.proofs.Orders.{before-self, before-trans, before-total, before-child, prefix-self, prefix-longer, prefix-parent, prefix-of_child, prefix-siblings}
use Rattle.dps_core.specs.declared.event.Mark.{Mark}
use Rattle.dps_core.specs.declared.event.Mark.TheVariants.{Open, Held, Posted, Dropped, DroppedHeld}
use Rattle.dps_core.specs.declared.rows.Row.{Row}
use Rattle.dps_core.specs.Book.{row, Book, is_open, is_dropped, drop_mark, dropped_after, kids, with_mark}
use Rattle.dps_core.specs.Facts.{IsBest, IsAfterBest}
use Rattle.dps_core.proofs.Lists.{set-cases, set-at, set-other, append-left, append-cases, map-cases, map-at, kids-get}

pub record IsKept (b : Book) : Type 0 where
  pub after : (t : ℕ) (r : Row) → slice_get b.rows t ≡ Some r → is_dropped r.mark ≡ true → IsAfterBest b r.path
  pub ahead : (t : ℕ) (r : Row) → slice_get b.rows t ≡ Some r → is_open r.mark ≡ true → (u : ℕ) (q : Row) → IsBest b u → slice_get b.rows u ≡ Some q → before r.path q.path ≡ true
  pub apart : (t u : ℕ) (r q : Row) → slice_get b.rows t ≡ Some r → slice_get b.rows u ≡ Some q → is_open r.mark ≡ true → is_open q.mark ≡ true → (t ≡ u → ⊥) → is_prefix r.path q.path ≡ false
  pub apart_best : (t u : ℕ) (r q : Row) → slice_get b.rows t ≡ Some r → slice_get b.rows u ≡ Some q → is_open r.mark ≡ true → IsBest b u
      → (is_prefix r.path q.path ≡ false) × (is_prefix q.path r.path ≡ false)
  pub best_row : (u : ℕ) → IsBest b u → (q : Row) × (slice_get b.rows u ≡ Some q) × (q.mark ≡ Posted)

-- the new rows are old ones that are closed or claimed meanwhile
pub record IsLater (old new : List Row) : Type 0 where
  pub back : (u : ℕ) (r : Row) → slice_get new u ≡ Some r
      → (q : Row) × (slice_get old u ≡ Some q) × (r.path ≡ q.path) × (is_open r.mark ≡ true → is_open q.mark ≡ true) × (is_dropped r.mark ≡ true → is_dropped q.mark ≡ true)
  pub posted_stay : (u : ℕ) (q : Row) → slice_get old u ≡ Some q → q.mark ≡ Posted → slice_get new u ≡ Some q

abbrev pub book_of : List Row → Option (ℕ × StopKind) → Bool → Book
book_of rows best halted = record { rows = rows; best = best; halted = halted }

same_row : (xs : List Row) (u : ℕ) (r q : Row) → slice_get xs u ≡ Some r → slice_get xs u ≡ Some q → r ≡ q
same_row xs u r q e f = same_Some r q (sym e ∙ f)

not_posted_open : (r : Row) → r.mark ≡ Posted → is_open r.mark ≡ true → ⊥
not_posted_open r e f = cc

pub later-keeps : (old new : List Row) (best : Option (ℕ × StopKind)) (halted h : Bool) → IsLater old new → IsKept (book_of old best halted) → IsKept (book_of new best h)
later-keeps old new best halted h l k = record {
  after = λ t r e d.
      let x = l.back t r e in
      let y = k.after t x.0 x.1 (x.4 d) in
      let z = k.best_row y.0 y.2 in
      let same : y.1 ≡ z.0 = same_row old y.0 y.1 z.0 y.3 z.1 in
      let posted : y.1.mark ≡ Posted = ap (λ (a : Row). a.mark) same ∙ z.2 in
      (y.0, y.1, y.2, l.posted_stay y.0 y.1 y.3 posted, ap (before y.1.path) x.2 ∙ y.4);
  ahead = λ t r e o u q b f.
      let x = l.back t r e in
      let y = l.back u q f in
      ap (λ (a : List ℕ). before a q.path) x.2 ∙ ap (before x.0.path) y.2 ∙ k.ahead t x.0 x.1 (x.3 o) u y.0 b y.1;
  apart = λ t u r q e f o p n.
      let x = l.back t r e in
      let y = l.back u q f in
      ap (λ (a : List ℕ). is_prefix a q.path) x.2 ∙ ap (is_prefix x.0.path) y.2 ∙ k.apart t u x.0 y.0 x.1 y.1 (x.3 o) (y.3 p) n;
  apart_best = λ t u r q e f o b.
      let x = l.back t r e in
      let y = l.back u q f in
      let z = k.apart_best t u x.0 y.0 x.1 y.1 (x.3 o) b in
      (ap (λ (a : List ℕ). is_prefix a q.path) x.2 ∙ ap (is_prefix x.0.path) y.2 ∙ z.0, ap (λ (a : List ℕ). is_prefix a r.path) y.2 ∙ ap (is_prefix y.0.path) x.2 ∙ z.1);
  best_row = λ u b.
      let z = k.best_row u b in
      (z.0, l.posted_stay u z.0 z.1 z.2, z.2);
}

-- the same rows
pub later-same : (rows : List Row) → IsLater rows rows
later-same rows = record {
  back = λ u r e. (r, e, refl, (λ h. h), (λ h. h));
  posted_stay = λ u q e f. e;
}

later_back : (rows : List Row) (t : ℕ) (p : List ℕ) (m n : Mark) (u : ℕ) (r : Row) → slice_get rows t ≡ Some (row p m) → (is_open n ≡ true → is_open m ≡ true)
    → (is_dropped n ≡ true → is_dropped m ≡ true) → ((u ≡ t) × (r ≡ row p n)) ⊎ ((u ≡ t → ⊥) × (slice_get rows u ≡ Some r))
    → (q : Row) × (slice_get rows u ≡ Some q) × (r.path ≡ q.path) × (is_open r.mark ≡ true → is_open q.mark ≡ true) × (is_dropped r.mark ≡ true → is_dropped q.mark ≡ true)
later_back rows t p m n u r e o d (inl h) =
    (row p m, ap (slice_get rows) h.0 ∙ e, ap (λ (a : Row). a.path) h.1, (λ g. o (sym (ap (λ (a : Row). is_open a.mark) h.1) ∙ g)), (λ g. d (sym (ap (λ (a : Row). is_dropped a.mark) h.1) ∙ g)))
later_back rows t p m n u r e o d (inr h) = (r, h.1, refl, (λ g. g), (λ g. g))

-- one row has another mark
pub later-mark : (rows : List Row) (t : ℕ) (p : List ℕ) (m n : Mark) → slice_get rows t ≡ Some (row p m) → (m ≡ Posted → ⊥) → (is_open n ≡ true → is_open m ≡ true)
    → (is_dropped n ≡ true → is_dropped m ≡ true) → IsLater rows (with_mark rows t p n)
later-mark rows t p m n e c o d = record {
  back = λ u r f. later_back rows t p m n u r e o d (set-cases rows t (row p n) u r f);
  posted_stay = λ u q f g.
      set-other rows t (row p n) u (λ h. c (ap (λ (a : Row). a.mark) (same_row rows t (row p m) q e (ap (slice_get rows) (sym h) ∙ f)) ∙ g)) ∙ f;
}

-- a claim keeps the book
pub claim-keeps : (b : Book) (t w : ℕ) (p : List ℕ) → slice_get b.rows t ≡ Some (row p Open) → IsKept b → IsKept (book_of (with_mark b.rows t p (Held w)) b.best b.halted)
claim-keeps b t w p e k = later-keeps b.rows (with_mark b.rows t p (Held w)) b.best b.halted b.halted (later-mark b.rows t p Open (Held w) e (λ h. cc) (λ h. refl) (λ h. cc)) k

pub dropped-keeps : (b : Book) (t w : ℕ) (p : List ℕ) → slice_get b.rows t ≡ Some (row p (DroppedHeld w)) → IsKept b → IsKept (book_of (with_mark b.rows t p Dropped) b.best b.halted)
dropped-keeps b t w p e k = later-keeps b.rows (with_mark b.rows t p Dropped) b.best b.halted b.halted (later-mark b.rows t p (DroppedHeld w) Dropped e (λ h. cc) (λ h. cc) (λ h. refl)) k

pub halt-keeps : (b : Book) → IsKept b → IsKept (book_of b.rows b.best true)
halt-keeps b k = later-keeps b.rows b.rows b.best b.halted true (later-same b.rows) k

-- a path that no open path and no best stop shares a branch with, and that is before the best stop
pub record IsFree (b : Book) (p : List ℕ) : Type 0 where
  pub from_open : (u : ℕ) (q : Row) → slice_get b.rows u ≡ Some q → is_open q.mark ≡ true → (is_prefix p q.path ≡ false) × (is_prefix q.path p ≡ false)
  pub from_best : (u : ℕ) (q : Row) → IsBest b u → slice_get b.rows u ≡ Some q → (before p q.path ≡ true) × (is_prefix p q.path ≡ false) × (is_prefix q.path p ≡ false)

-- a row of the longer list is an old one, or a kid
pub data Grown : List Row → List ℕ → ℕ → Row → Type 0 where
  old_row : {rows : List Row} {p : List ℕ} {u : ℕ} {r : Row} → slice_get rows u ≡ Some r → Grown rows p u r
  new_row : {rows : List Row} {p : List ℕ} {u : ℕ} {r : Row} (j : ℕ) → u ≡ length rows + j → r ≡ row (p ++ j ∷ []) Open → Grown rows p u r

grown_of : (rows : List Row) (p : List ℕ) (n u : ℕ) (r : Row) → (slice_get rows u ≡ Some r) ⊎ ((j : ℕ) × (u ≡ length rows + j) × (slice_get (kids p 0 n) j ≡ Some r)) → Grown rows p u r
grown_of rows p n u r (inl h) = old_row h
grown_of rows p n u r (inr h) =
    let g = kids-get p 0 n h.0 r h.2 in
    let z : 0 + h.0 ≡ h.0 = omega arith in
    new_row h.0 h.1 (g.1 ∙ ap (λ (k : ℕ). row (p ++ k ∷ []) Open) z)

pub grown : (rows : List Row) (p : List ℕ) (n u : ℕ) (r : Row) → slice_get (rows ++ kids p 0 n) u ≡ Some r → Grown rows p u r
grown rows p n u r e = grown_of rows p n u r (append-cases rows (kids p 0 n) u r e)

path_of : (r : Row) (p : List ℕ) (m : Mark) → r ≡ row p m → r.path ≡ p
path_of r p m e = ap (λ (a : Row). a.path) e

mark_of : (r : Row) (p : List ℕ) (m : Mark) → r ≡ row p m → r.mark ≡ m
mark_of r p m e = ap (λ (a : Row). a.mark) e

-- the best stop's row is an old one
best_old : (b : Book) (p : List ℕ) (n u : ℕ) (q : Row) → IsKept b → IsBest b u → slice_get (b.rows ++ kids p 0 n) u ≡ Some q → slice_get b.rows u ≡ Some q
best_old b p n u q k best e =
    let z = k.best_row u best in
    let same : z.0 ≡ q = same_row (b.rows ++ kids p 0 n) u z.0 q (append-left b.rows (kids p 0 n) u z.0 z.1) e in
    z.1 ∙ ap (λ (a : Row). Some a) same

grown_after : (b : Book) (p : List ℕ) (n u : ℕ) (r : Row) → IsKept b → Grown b.rows p u r → is_dropped r.mark ≡ true → IsAfterBest (book_of (b.rows ++ kids p 0 n) b.best b.halted) r.path
grown_after b p n u r k (old_row e) d =
    let y = k.after u r e d in
    (y.0, y.1, y.2, append-left b.rows (kids p 0 n) y.0 y.1 y.3, y.4)
grown_after b p n u r k (new_row j e f) d =
    let m : r.mark ≡ Open = mark_of r (p ++ j ∷ []) Open f in cc

grown_ahead : (b : Book) (p : List ℕ) (t u : ℕ) (r q : Row) → IsKept b → IsFree b p → Grown b.rows p t r → is_open r.mark ≡ true → IsBest b u → slice_get b.rows u ≡ Some q
    → before r.path q.path ≡ true
grown_ahead b p t u r q k f (old_row e) o best g = k.ahead t r e o u q best g
grown_ahead b p t u r q k f (new_row j e h) o best g =
    let x = f.from_best u q best g in
    ap (λ (a : List ℕ). before a q.path) (path_of r (p ++ j ∷ []) Open h) ∙ before-child p q.path j x.0 x.1

grown_apart : (b : Book) (p : List ℕ) (t u : ℕ) (r q : Row) → IsKept b → IsFree b p → Grown b.rows p t r → Grown b.rows p u q → is_open r.mark ≡ true → is_open q.mark ≡ true → (t ≡ u → ⊥)
    → is_prefix r.path q.path ≡ false
grown_apart b p t u r q k f (old_row e) (old_row g) o v n = k.apart t u r q e g o v n
grown_apart b p t u r q k f (old_row e) (new_row j g h) o v n =
    let x = f.from_open t r e o in
    ap (is_prefix r.path) (path_of q (p ++ j ∷ []) Open h) ∙ prefix-of_child r.path p j x.1 x.0
grown_apart b p t u r q k f (new_row j g h) (old_row e) o v n =
    let x = f.from_open u q e v in
    ap (λ (a : List ℕ). is_prefix a q.path) (path_of r (p ++ j ∷ []) Open h) ∙ prefix-parent p q.path j x.0
grown_apart b p t u r q k f (new_row i g h) (new_row j e l) o v n =
    let differ = λ (z : i ≡ j). n (g ∙ ap (λ (a : ℕ). length b.rows + a) z ∙ sym e) in
    ap (λ (a : List ℕ). is_prefix a q.path) (path_of r (p ++ i ∷ []) Open h) ∙ ap (is_prefix (p ++ i ∷ [])) (path_of q (p ++ j ∷ []) Open l) ∙ prefix-siblings p i j differ

grown_apart_best : (b : Book) (p : List ℕ) (t u : ℕ) (r q : Row) → IsKept b → IsFree b p → Grown b.rows p t r → slice_get b.rows u ≡ Some q → is_open r.mark ≡ true → IsBest b u
    → (is_prefix r.path q.path ≡ false) × (is_prefix q.path r.path ≡ false)
grown_apart_best b p t u r q k f (old_row e) g o best = k.apart_best t u r q e g o best
grown_apart_best b p t u r q k f (new_row j e h) g o best =
    let x = f.from_best u q best g in
    let same = path_of r (p ++ j ∷ []) Open h in
    (ap (λ (a : List ℕ). is_prefix a q.path) same ∙ prefix-parent p q.path j x.1, ap (is_prefix q.path) same ∙ prefix-of_child q.path p j x.2 x.1)

pub grown-keeps : (b : Book) (p : List ℕ) (n : ℕ) → IsKept b → IsFree b p → IsKept (book_of (b.rows ++ kids p 0 n) b.best b.halted)
grown-keeps b p n k f = record {
  after = λ t r e d. grown_after b p n t r k (grown b.rows p n t r e) d;
  ahead = λ t r e o u q best g. grown_ahead b p t u r q k f (grown b.rows p n t r e) o best (best_old b p n u q k best g);
  apart = λ t u r q e g o v m. grown_apart b p t u r q k f (grown b.rows p n t r e) (grown b.rows p n u q g) o v m;
  apart_best = λ t u r q e g o best. grown_apart_best b p t u r q k f (grown b.rows p n t r e) (best_old b p n u q k best g) o best;
  best_row = λ u best.
      let z = k.best_row u best in
      (z.0, append-left b.rows (kids p 0 n) u z.0 z.1, z.2);
}

free_from_open : (b : Book) (t w : ℕ) (p : List ℕ) (u : ℕ) (q : Row) → slice_get b.rows t ≡ Some (row p (Held w)) → IsKept b → is_open q.mark ≡ true
    → ((u ≡ t) × (q ≡ row p Posted)) ⊎ ((u ≡ t → ⊥) × (slice_get b.rows u ≡ Some q)) → (is_prefix p q.path ≡ false) × (is_prefix q.path p ≡ false)
free_from_open b t w p u q e k o (inl h) = absurd (not_posted_open q (mark_of q p Posted h.1) o)
free_from_open b t w p u q e k o (inr h) =
    (k.apart t u (row p (Held w)) q e h.1 refl o (λ z. h.0 (sym z)), k.apart u t q (row p (Held w)) h.1 e o refl h.0)

best_elsewhere : (b : Book) (t w : ℕ) (p : List ℕ) (u : ℕ) (q : Row) → slice_get b.rows t ≡ Some (row p (Held w)) → IsKept b → IsBest b u
    → ((u ≡ t) × (q ≡ row p Posted)) ⊎ ((u ≡ t → ⊥) × (slice_get b.rows u ≡ Some q)) → slice_get b.rows u ≡ Some q
best_elsewhere b t w p u q e k best (inl h) =
    let z = k.best_row u best in
    let same : row p (Held w) ≡ z.0 = same_row b.rows t (row p (Held w)) z.0 e (ap (slice_get b.rows) (sym h.0) ∙ z.1) in
    let clash : Held w ≡ Posted = ap (λ (a : Row). a.mark) same ∙ z.2 in cc
best_elsewhere b t w p u q e k best (inr h) = h.1

free_after_post : (b : Book) (t w : ℕ) (p : List ℕ) → slice_get b.rows t ≡ Some (row p (Held w)) → IsKept b → IsFree (book_of (with_mark b.rows t p Posted) b.best b.halted) p
free_after_post b t w p e k = record {
  from_open = λ u q f o. free_from_open b t w p u q e k o (set-cases b.rows t (row p Posted) u q f);
  from_best = λ u q best f.
      let g = best_elsewhere b t w p u q e k best (set-cases b.rows t (row p Posted) u q f) in
      let x = k.apart_best t u (row p (Held w)) q e g refl best in
      (k.ahead t (row p (Held w)) e refl u q best g, x.0, x.1);
}

pub kids-keeps : (b : Book) (t w : ℕ) (p : List ℕ) (n : ℕ) → slice_get b.rows t ≡ Some (row p (Held w)) → IsKept b → IsKept (book_of (with_mark b.rows t p Posted ++ kids p 0 n) b.best b.halted)
kids-keeps b t w p n e k =
    grown-keeps (book_of (with_mark b.rows t p Posted) b.best b.halted) p n
    (later-keeps b.rows (with_mark b.rows t p Posted) b.best b.halted b.halted (later-mark b.rows t p (Held w) Posted e (λ h. cc) (λ h. refl) (λ h. cc)) k)
    (free_after_post b t w p e k)

-- a row after a stop was posted: the stop's own, or an old one that may be dropped
pub data Stopped : List Row → ℕ → List ℕ → ℕ → Row → Type 0 where
  the_stop : {rows : List Row} {t : ℕ} {p : List ℕ} {u : ℕ} {r : Row} → u ≡ t → r.path ≡ p → r.mark ≡ Posted → Stopped rows t p u r
  another : {rows : List Row} {t : ℕ} {p : List ℕ} {u : ℕ} {r : Row} (x : Row) → (u ≡ t → ⊥) → slice_get rows u ≡ Some x → r.path ≡ x.path
      → r.mark ≡ cond (before p x.path) (drop_mark x.mark) x.mark → Stopped rows t p u r

abbrev stop_rows : List Row → ℕ → List ℕ → List Row
stop_rows rows t p = map (dropped_after p) (with_mark rows t p Posted)

posted_same : (c : Bool) → cond c (drop_mark Posted) Posted ≡ Posted
posted_same true = refl
posted_same false = refl

stopped_of : (rows : List Row) (t : ℕ) (p : List ℕ) (u : ℕ) (r x : Row) → r ≡ dropped_after p x → ((u ≡ t) × (x ≡ row p Posted)) ⊎ ((u ≡ t → ⊥) × (slice_get rows u ≡ Some x)) → Stopped rows t p u r
stopped_of rows t p u r x e (inl h) =
    the_stop h.0 (ap (λ (a : Row). a.path) e ∙ ap (λ (a : Row). a.path) h.1) (ap (λ (a : Row). a.mark) e ∙ ap (λ (a : Row). (dropped_after p a).mark) h.1 ∙ posted_same (before p p))
stopped_of rows t p u r x e (inr h) = another x h.0 h.1 (ap (λ (a : Row). a.path) e) (ap (λ (a : Row). a.mark) e)

pub stopped : (rows : List Row) (t : ℕ) (p : List ℕ) (u : ℕ) (r : Row) → slice_get (stop_rows rows t p) u ≡ Some r → Stopped rows t p u r
stopped rows t p u r e =
    let x = map-cases (dropped_after p) (with_mark rows t p Posted) u r e in
    stopped_of rows t p u r x.0 x.2 (set-cases rows t (row p Posted) u x.0 x.1)

drop_not_open : (m : Mark) → is_open (drop_mark m) ≡ false
drop_not_open Open = refl
drop_not_open (Held w) = refl
drop_not_open Posted = refl
drop_not_open Dropped = refl
drop_not_open (DroppedHeld w) = refl

-- what is still open was open, and is not after the stop
still_open : (c : Bool) (m n : Mark) → n ≡ cond c (drop_mark m) m → is_open n ≡ true → (c ≡ false) × (is_open m ≡ true)
still_open true m n e o = let h = drop_not_open m in let g : is_open (drop_mark m) ≡ true = ap is_open (sym e) ∙ o in cc
still_open false m n e o = (refl, ap is_open (sym e) ∙ o)

-- what is dropped is after the stop, or was dropped before
dropped_why : (c : Bool) (m n : Mark) → n ≡ cond c (drop_mark m) m → is_dropped n ≡ true → (c ≡ true) ⊎ (is_dropped m ≡ true)
dropped_why true m n e d = inl refl
dropped_why false m n e d = inr (ap is_dropped (sym e) ∙ d)

after_stop : (b : Book) (t w : ℕ) (p : List ℕ) (u : ℕ) (x : Row) → slice_get b.rows t ≡ Some (row p (Held w)) → IsKept b → slice_get b.rows u ≡ Some x
    → (before p x.path ≡ true) ⊎ (is_dropped x.mark ≡ true) → before p x.path ≡ true
after_stop b t w p u x e k f (inl h) = h
after_stop b t w p u x e k f (inr h) =
    let y = k.after u x f h in
    before-trans p y.1.path x.path (k.ahead t (row p (Held w)) e refl y.0 y.1 y.2 y.3) y.4

stop_row : (b : Book) (t w : ℕ) (p : List ℕ) → slice_get b.rows t ≡ Some (row p (Held w)) → slice_get (stop_rows b.rows t p) t ≡ Some (row p Posted)
stop_row b t w p e =
    map-at (dropped_after p) (with_mark b.rows t p Posted) t (row p Posted) (set-at b.rows t (row p (Held w)) (row p Posted) e)
    ∙ ap (λ (m : Mark). Some (row p m)) (posted_same (before p p))

dropped_by_stop : (b : Book) (t w : ℕ) (p : List ℕ) (kind : StopKind) (u : ℕ) (r : Row) → slice_get b.rows t ≡ Some (row p (Held w)) → IsKept b → Stopped b.rows t p u r → is_dropped r.mark ≡ true
    → IsAfterBest (book_of (stop_rows b.rows t p) (Some (t, kind)) b.halted) r.path
dropped_by_stop b t w p kind u r e k (the_stop f g h) d = absurd (let z : is_dropped Posted ≡ true = ap is_dropped (sym h) ∙ d in cc)
dropped_by_stop b t w p kind u r e k (another x f g h m) d =
    (t, row p Posted, (kind, refl), stop_row b t w p e, ap (before p) h ∙ after_stop b t w p u x e k g (dropped_why (before p x.path) x.mark r.mark m d))

-- an open path that is left, as it stood before
pub left_open : (rows : List Row) (t : ℕ) (p : List ℕ) (u : ℕ) (r : Row) → Stopped rows t p u r → is_open r.mark ≡ true
    → (x : Row) × (u ≡ t → ⊥) × (slice_get rows u ≡ Some x) × (r.path ≡ x.path) × (before p x.path ≡ false) × (is_open x.mark ≡ true)
left_open rows t p u r (the_stop f g h) o = absurd (not_posted_open r h o)
left_open rows t p u r (another x f g h m) o =
    let y = still_open (before p x.path) x.mark r.mark m o in
    (x, f, g, h, y.0, y.1)

ahead_of_stop : (p q : List ℕ) → is_prefix p q ≡ false → (p ≡ q) ⊎ (before q p ≡ true) → before q p ≡ true
ahead_of_stop p q n (inl h) = absurd (let z : is_prefix p q ≡ true = ap (is_prefix p) (sym h) ∙ prefix-self p in cc)
ahead_of_stop p q n (inr h) = h

-- the best stop is this one
the_best : (rows : List Row) (t : ℕ) (kind : StopKind) (halted : Bool) (u : ℕ) → IsBest (book_of rows (Some (t, kind)) halted) u → u ≡ t
the_best rows t kind halted u best = ap (λ (a : ℕ × StopKind). a.0) (sym (same_Some (t, kind) (u, best.0) best.1))

stop_path : (b : Book) (t w : ℕ) (p : List ℕ) (kind : StopKind) (u : ℕ) (q : Row) → slice_get b.rows t ≡ Some (row p (Held w))
    → IsBest (book_of (stop_rows b.rows t p) (Some (t, kind)) b.halted) u → slice_get (stop_rows b.rows t p) u ≡ Some q → q.path ≡ p
stop_path b t w p kind u q e best f =
    let z = the_best (stop_rows b.rows t p) t kind b.halted u best in
    path_of q p Posted (same_row (stop_rows b.rows t p) t q (row p Posted) (ap (slice_get (stop_rows b.rows t p)) (sym z) ∙ f) (stop_row b t w p e))

pub stop-keeps : (b : Book) (t w : ℕ) (p : List ℕ) (kind : StopKind) → slice_get b.rows t ≡ Some (row p (Held w)) → IsKept b → IsKept (book_of (stop_rows b.rows t p) (Some (t, kind)) b.halted)
stop-keeps b t w p kind e k = record {
  after = λ u r f d. dropped_by_stop b t w p kind u r e k (stopped b.rows t p u r f) d;
  ahead = λ u r f o v q best g.
      let x = left_open b.rows t p u r (stopped b.rows t p u r f) o in
      let n = k.apart t u (row p (Held w)) x.0 e x.2 refl x.5 (λ z. x.1 (sym z)) in
      ap (λ (a : List ℕ). before a q.path) x.3 ∙ ap (before x.0.path) (stop_path b t w p kind v q e best g) ∙ ahead_of_stop p x.0.path n (before-total p x.0.path x.4);
  apart = λ u v r q f g o l n.
      let x = left_open b.rows t p u r (stopped b.rows t p u r f) o in
      let y = left_open b.rows t p v q (stopped b.rows t p v q g) l in
      ap (λ (a : List ℕ). is_prefix a q.path) x.3 ∙ ap (is_prefix x.0.path) y.3 ∙ k.apart u v x.0 y.0 x.2 y.2 x.5 y.5 n;
  apart_best = λ u v r q f g o best.
      let x = left_open b.rows t p u r (stopped b.rows t p u r f) o in
      let y = stop_path b t w p kind v q e best g in (
        ap (λ (a : List ℕ). is_prefix a q.path) x.3 ∙ ap (is_prefix x.0.path) y ∙ k.apart u t x.0 (row p (Held w)) x.2 e x.5 refl x.1,
        ap (λ (a : List ℕ). is_prefix a r.path) y ∙ ap (is_prefix p) x.3 ∙ k.apart t u (row p (Held w)) x.0 e x.2 refl x.5 (λ z. x.1 (sym z)),
      );
  best_row = λ u best.
      let z = the_best (stop_rows b.rows t p) t kind b.halted u best in
      (row p Posted, ap (slice_get (stop_rows b.rows t p)) z ∙ stop_row b t w p e, refl);
}
