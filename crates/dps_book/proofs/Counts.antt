-- Counts over the rows and the journal of a book.
use Rattle.std.proofs.Common.{◌≡◌, ℕ, zero, suc, ◌+◌, ◌*◌, ◌<◌, ◌≤◌, List, [], ◌∷◌, ◌++◌, length, map, Some, Bool, true, false, cond, refl, ap, ◌∙◌, sym, subst, arith}
use Rattle.std.specs.Prelude.{slice_get, slice_set}
use Rattle.std.proofs.lemmas.Bool.Decides.{nat_tests}
use Rattle.std.proofs.lemmas.Option.{same_Some, none-some}
use Rattle.dps_path.specs.Order.{before}
use Rattle.dps_core.specs.declared.event.Mark.{Mark}
use Rattle.dps_core.specs.declared.event.Mark.TheVariants.{Open, Held, Posted, Dropped, DroppedHeld}
use Rattle.dps_core.specs.declared.rows.Row.{Row}
use Rattle.dps_core.specs.Book.{Book, is_open, drop_mark, dropped_after, kids}
use Rattle.dps_book.specs.declared.entry.Entry.{Entry}
use Rattle.dps_book.specs.declared.entry.Entry.TheVariants as entry
use Rattle.dps_book.specs.Journal.{Happens, IsReplay, claim_by, claims_by, claim_in, claims_in, claims_of_all, IsKnown, AreKnown}
use Rattle.dps_book.specs.Right.{opens, owed_by, owed}

pub opens-set : (rows : List Row) (t : ℕ) (r q : Row) → slice_get rows t ≡ Some r → opens (slice_set rows t q) + cond (is_open r.mark) 1 0 ≡ opens rows + cond (is_open q.mark) 1 0
opens-set [] t r q e = absurd (none-some r e)
opens-set (x ∷ rows) zero r q e = omega (arith, ap {B = ℕ} (λ (a : Row). cond (is_open a.mark) 1 0) (same_Some x r e))
opens-set (x ∷ rows) (suc t) r q e = omega (arith, opens-set rows t r q e)

pub owed-set : (rows : List Row) (t : ℕ) (r q : Row) → slice_get rows t ≡ Some r → owed (slice_set rows t q) + owed_by r.mark ≡ owed rows + owed_by q.mark
owed-set [] t r q e = absurd (none-some r e)
owed-set (x ∷ rows) zero r q e = omega (arith, ap (λ (a : Row). owed_by a.mark) (same_Some x r e))
owed-set (x ∷ rows) (suc t) r q e = omega (arith, owed-set rows t r q e)

pub opens-append : (xs ys : List Row) → opens (xs ++ ys) ≡ opens xs + opens ys
opens-append [] ys = omega arith
opens-append (x ∷ xs) ys = omega (arith, opens-append xs ys)

pub owed-append : (xs ys : List Row) → owed (xs ++ ys) ≡ owed xs + owed ys
owed-append [] ys = omega arith
owed-append (x ∷ xs) ys = omega (arith, owed-append xs ys)

pub opens-kids : (p : List ℕ) (i n : ℕ) → opens (kids p i n) ≡ n
opens-kids p i zero = refl
opens-kids p i (suc n) = omega (arith, opens-kids p (suc i) n)

pub owed-kids : (p : List ℕ) (i n : ℕ) → owed (kids p i n) ≡ 2 * n
owed-kids p i zero = omega arith
owed-kids p i (suc n) = omega (arith, owed-kids p (suc i) n)

owed_drop_mark : (b : Bool) (m : Mark) → owed_by (cond b (drop_mark m) m) ≤ owed_by m
owed_drop_mark true Open = omega arith
owed_drop_mark true (Held w) = omega arith
owed_drop_mark true Posted = omega arith
owed_drop_mark true Dropped = omega arith
owed_drop_mark true (DroppedHeld w) = omega arith
owed_drop_mark false m = omega arith

pub owed-drop : (p : List ℕ) (rows : List Row) → owed (map (dropped_after p) rows) ≤ owed rows
owed-drop p [] = omega arith
owed-drop p (r ∷ rows) = omega (arith, owed_drop_mark (before p r.path) r.mark, owed-drop p rows)

open_first : (b : Bool) (n : ℕ) → cond b 1 0 + n ≡ 0 → b ≡ false
open_first true n e = absurd (omega (arith, e))
open_first false n e = refl

-- none is open where the count is 0
pub none-open : (rows : List Row) (t : ℕ) (r : Row) → opens rows ≡ 0 → slice_get rows t ≡ Some r → is_open r.mark ≡ false
none-open [] t r z e = absurd (none-some r e)
none-open (x ∷ rows) zero r z e = ap (λ (a : Row). is_open a.mark) (sym (same_Some x r e)) ∙ open_first (is_open x.mark) (opens rows) z
none-open (x ∷ rows) (suc t) r z e = none-open rows t r (omega (arith, z)) e

one_more : (b : Bool) (n : ℕ) → b ≡ false → n ≡ 0 → cond b 1 0 + n ≡ 0
one_more true n e z = cc
one_more false n e z = omega (arith, z)

pub all-closed : (rows : List Row) → ((t : ℕ) (r : Row) → slice_get rows t ≡ Some r → is_open r.mark ≡ false) → opens rows ≡ 0
all-closed [] h = refl
all-closed (r ∷ rows) h = one_more (is_open r.mark) (opens rows) (h 0 r refl) (all-closed rows (λ t q e. h (suc t) q e))

pub replay-append : (journal : List Entry) (e : Entry) (a b c : Book) → IsReplay a journal b → Happens b e c → IsReplay a (journal ++ e ∷ []) c
replay-append [] e a b c r h = (c, subst (λ (x : Book). Happens x e c) r h, refl)
replay-append (x ∷ journal) e a b c r h = (r.0, r.1, replay-append journal e r.0 b c r.2 h)

pub claims_by-append : (w : ℕ) (journal : List Entry) (e : Entry) → claims_by w (journal ++ e ∷ []) ≡ claims_by w journal + claim_by w e
claims_by-append w [] e = omega arith
claims_by-append w (x ∷ journal) e = omega (arith, claims_by-append w journal e)

pub known-append : (workers : ℕ) (journal : List Entry) (e : Entry) → AreKnown workers journal → IsKnown workers e → AreKnown workers (journal ++ e ∷ [])
known-append workers [] e k h = (h, tt)
known-append workers (x ∷ journal) e k h = (k.0, known-append workers journal e k.1 h)

by_le : (w : ℕ) (e : Entry) → claim_by w e ≤ 1
by_le w (entry.Claimed v t) = grind (arith, nat_tests)
by_le w (entry.Posted v t found) = omega arith
by_le w (entry.Halted v) = omega arith

pub claims_by-le : (w : ℕ) (journal : List Entry) → claims_by w journal ≤ length journal
claims_by-le w [] = omega arith
claims_by-le w (e ∷ journal) = omega (arith, by_le w e, claims_by-le w journal)

le_one : (b : Bool) → cond b 1 0 ≤ 1
le_one true = omega arith
le_one false = omega arith

pub opens-le : (rows : List Row) → opens rows ≤ length rows
opens-le [] = omega arith
opens-le (r ∷ rows) = omega (arith, le_one (is_open r.mark), opens-le rows)

unknown_by : (workers w : ℕ) (e : Entry) → workers ≤ w → IsKnown workers e → claim_by w e ≡ 0
unknown_by workers w (entry.Claimed v t) l k = grind (arith, nat_tests, k, l)
unknown_by workers w (entry.Posted v t found) l k = refl
unknown_by workers w (entry.Halted v) l k = refl

-- nobody claims who is no worker
pub unknown-claims : (workers w : ℕ) (journal : List Entry) → workers ≤ w → AreKnown workers journal → claims_by w journal ≡ 0
unknown-claims workers w [] l k = refl
unknown-claims workers w (e ∷ journal) l k = omega (arith, unknown_by workers w e l k.0, unknown-claims workers w journal l k.1)

all_nothing : (workers : ℕ) → claims_of_all workers [] ≡ 0
all_nothing zero = refl
all_nothing (suc w) = omega (arith, all_nothing w)

-- one entry's claims over all workers
abbrev by_all : ℕ → Entry → ℕ
by_all zero e = 0
by_all (suc w) e = by_all w e + claim_by w e

all_cons : (workers : ℕ) (e : Entry) (journal : List Entry) → claims_of_all workers (e ∷ journal) ≡ by_all workers e + claims_of_all workers journal
all_cons zero e journal = refl
all_cons (suc w) e journal = omega (arith, all_cons w e journal)

by_past : (workers v t : ℕ) → workers ≤ v → by_all workers (entry.Claimed v t) ≡ 0
by_past zero v t l = refl
by_past (suc w) v t l = grind (arith, nat_tests, by_past w v t, l)

by_one : (workers v t : ℕ) → v < workers → by_all workers (entry.Claimed v t) ≡ 1
by_one zero v t l = absurd (omega (arith, l))
by_one (suc w) v t l = grind (arith, nat_tests, by_one w v t, by_past w v t, l)

by_none : (workers : ℕ) (e : Entry) → ((w : ℕ) → claim_by w e ≡ 0) → by_all workers e ≡ 0
by_none zero e h = refl
by_none (suc w) e h = omega (arith, by_none w e h, h w)

one_entry : (workers : ℕ) (e : Entry) → IsKnown workers e → by_all workers e ≡ claim_in e
one_entry workers (entry.Claimed v t) k = by_one workers v t k
one_entry workers (entry.Posted v t found) k = by_none workers (entry.Posted v t found) (λ w. refl)
one_entry workers (entry.Halted v) k = by_none workers (entry.Halted v) (λ w. refl)

pub claims-sum : (workers : ℕ) (journal : List Entry) → AreKnown workers journal → claims_of_all workers journal ≡ claims_in journal
claims-sum workers [] k = all_nothing workers
claims-sum workers (e ∷ journal) k = omega (arith, all_cons workers e journal, one_entry workers e k.0, claims-sum workers journal k.1)
