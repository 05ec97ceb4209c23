-- What a book keeps of its parts, at the start.
use Rattle.std.proofs.Common.{◌≡◌, ℕ, zero, suc, ◌≤◌, List, [], ◌∷◌, replicate, Option, Some, None, false, refl, ap, ◌∙◌, sym, arith}
use Rattle.std.specs.Prelude.{slice_get}
use Rattle.std.proofs.lemmas.List.{length-replicate}
use Rattle.std.proofs.lemmas.Option.{same_Some, none-some}
use Rattle.dps_core.specs.declared.event.Mark.TheVariants.{Open}
use Rattle.dps_core.specs.declared.rows.Row.{Row}
use Rattle.dps_core.specs.Book.{row}
use Rattle.dps_book.specs.declared.entry.Entry.{Entry}
use Rattle.dps_book.specs.Ledger.{holder}
use Rattle.dps_book.specs.Right.{AreHeld, IsRight}

abbrev root_alone : List Row
root_alone = row [] Open ∷ []

every_place : {A : Type 0} (n i : ℕ) (a x : A) → slice_get (replicate n a) i ≡ Some x → x ≡ a
every_place zero i a x e = absurd (none-some x e)
every_place (suc n) zero a x e = sym (same_Some a x e)
every_place (suc n) (suc i) a x e = every_place n i a x e

-- nobody holds the root
nobody : {P : Type 0} (t w : ℕ) (r : Row) → slice_get root_alone t ≡ Some r → holder r.mark ≡ Some w → P
nobody zero w r e h = absurd (none-some w (ap (λ (a : Row). holder a.mark) (same_Some (row [] Open) r e) ∙ h))
nobody (suc t) w r e h = absurd (none-some r e)

held_none : (n : ℕ) → AreHeld root_alone (replicate n None)
held_none n = record {
  marked = λ w t e. absurd (none-some t (sym (every_place n w None (Some t) e)));
  held = λ t w r e h. nobody t w r e h;
}

right_start : (n room : ℕ) → 3 ≤ room → IsRight root_alone None false 1 (replicate n None) (replicate n 0) [] room
right_start n room l = record {
  replay = refl;
  counted = refl;
  holding = held_none n;
  same_workers = length-replicate n 0 ∙ sym (length-replicate n None);
  claimed = λ w k e. every_place n w 0 k e;
  known = tt;
  owing = omega arith;
  enough = omega (arith, l);
}

pub right-new : (rows : List Row) (n : ℕ) (holds : List (Option ℕ)) (claims : List ℕ) (journal : List Entry) (room : ℕ) → rows ≡ row [] Open ∷ [] → holds ≡ replicate n None
    → claims ≡ replicate n 0 → journal ≡ [] → 3 ≤ room → IsRight rows None false 1 holds claims journal room
right-new rows n holds claims journal room r h c j l = rw (r, h, c, j) (right_start n room l)
