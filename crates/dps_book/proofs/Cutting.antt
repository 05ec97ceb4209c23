-- What is behind a ticket, dropped one after another.
use Rattle.std.proofs.Common.{◌≡◌, ℕ, zero, suc, ◌+◌, ◌≤◌, List, [], ◌∷◌, ◌++◌, length, Option, Some, None, Bool, false, cond, refl, ap, ◌∙◌, sym, subst, ◌⊎◌, inl, inr, arith, append_assoc}
use Rattle.std.specs.Prelude.{slice_get, slice_set}
use Rattle.std.proofs.Math.ListN.{length-set}
use Rattle.std.proofs.lemmas.List.{append-nil}
use Rattle.std.proofs.lemmas.Bool.{cases_eq}
use Rattle.std.proofs.lemmas.Option.{same_Some, none-some}
use Rattle.dps_core.specs.declared.event.Mark.{Mark}
use Rattle.dps_core.specs.declared.event.Mark.TheVariants.{Open, Held, Posted, Dropped, DroppedHeld}
use Rattle.dps_core.specs.declared.rows.Row.{Row}
use Rattle.dps_core.specs.Book.{row, is_open, drop_mark}
use Rattle.dps_core.specs.Pool.{times}
use Rattle.dps_core.proofs.Lists.{set-at, set-other, times-append}
use Rattle.dps_book.specs.Right.{opens}
use Rattle.dps_book.specs.InOrder.{first_of, Leads, AreOnce, dropped_at, dropped_all, IsCut}
use Rattle.dps_book.proofs.Chains.{times-here, times-there, times-more, times-split, once-behind, leads-keep, first-none, first-some, differs}

pub at-here : (rows : List Row) (t : ℕ) (r : Row) → slice_get rows t ≡ Some r → slice_get (dropped_at rows t) t ≡ Some (row r.path (drop_mark r.mark))
at-here [] t r e = absurd (none-some r e)
at-here (x ∷ rows) zero r e = ap (λ (a : Row). Some (row a.path (drop_mark a.mark))) (same_Some x r e)
at-here (x ∷ rows) (suc t) r e = at-here rows t r e

pub at-other : (rows : List Row) (t u : ℕ) → (t ≡ u → ⊥) → slice_get (dropped_at rows t) u ≡ slice_get rows u
at-other [] t u n = refl
at-other (x ∷ rows) zero zero n = absurd (n refl)
at-other (x ∷ rows) zero (suc u) n = refl
at-other (x ∷ rows) (suc t) zero n = refl
at-other (x ∷ rows) (suc t) (suc u) n = at-other rows t u (λ e. n (ap suc e))

pub length-dropped_at : (rows : List Row) (t : ℕ) → length (dropped_at rows t) ≡ length rows
length-dropped_at [] t = refl
length-dropped_at (x ∷ rows) zero = refl
length-dropped_at (x ∷ rows) (suc t) = ap suc (length-dropped_at rows t)

pub dropped-set : (rows : List Row) (t : ℕ) (r : Row) → slice_get rows t ≡ Some r → slice_set rows t (row r.path (drop_mark r.mark)) ≡ dropped_at rows t
dropped-set [] t r e = absurd (none-some r e)
dropped-set (x ∷ rows) zero r e = ap (λ (a : Row). row a.path (drop_mark a.mark) ∷ rows) (sym (same_Some x r e))
dropped-set (x ∷ rows) (suc t) r e = ap (λ (a : List Row). x ∷ a) (dropped-set rows t r e)

closed_mark : (m : Mark) → is_open (drop_mark m) ≡ false
closed_mark Open = refl
closed_mark (Held w) = refl
closed_mark Posted = refl
closed_mark Dropped = refl
closed_mark (DroppedHeld w) = refl

-- what is dropped is counted
pub opens-dropped_at : (rows : List Row) (t : ℕ) (r : Row) → slice_get rows t ≡ Some r → opens (dropped_at rows t) + cond (is_open r.mark) 1 0 ≡ opens rows
opens-dropped_at [] t r e = absurd (none-some r e)
opens-dropped_at (x ∷ rows) zero r e =
    let closed = ap {B = ℕ} (λ (b : Bool). cond b 1 0) (closed_mark x.mark) in
    let same = ap {B = ℕ} (λ (a : Row). cond (is_open a.mark) 1 0) (same_Some x r e) in
    omega (arith, closed, same)
opens-dropped_at (x ∷ rows) (suc t) r e = omega (arith, opens-dropped_at rows t r e)

pub dropped_all-more : (rows : List Row) (ts : List ℕ) (t : ℕ) → dropped_at (dropped_all rows ts) t ≡ dropped_all rows (ts ++ t ∷ [])
dropped_all-more rows [] t = refl
dropped_all-more rows (x ∷ ts) t = dropped_all-more (dropped_at rows x) ts t

pub dropped-out : (rows : List Row) (ts : List ℕ) (u : ℕ) → times u ts ≡ 0 → slice_get (dropped_all rows ts) u ≡ slice_get rows u
dropped-out rows [] u z = refl
dropped-out rows (t ∷ ts) u z =
    dropped-out (dropped_at rows t) ts u (omega (arith, z, times-more t u ts))
    ∙ at-other rows t u (λ e. omega (arith, z, times-here t ts, ap (λ (k : ℕ). times k (t ∷ ts)) e))

dropped_or : (rows : List Row) (t : ℕ) (ts : List ℕ) (u : ℕ) (r : Row)
    → (1 ≤ times u ts → times u ts ≤ 1 → slice_get (dropped_at rows t) u ≡ Some r → slice_get (dropped_all (dropped_at rows t) ts) u ≡ Some (row r.path (drop_mark r.mark)))
    → 1 ≤ times u (t ∷ ts) → times u (t ∷ ts) ≤ 1 → slice_get rows u ≡ Some r → (t ≡ u) ⊎ (t ≡ u → ⊥) → slice_get (dropped_all rows (t ∷ ts)) u ≡ Some (row r.path (drop_mark r.mark))
dropped_or rows t ts u r more h o e (inl same) =
    let z : times u ts ≡ 0 = omega (arith, o, times-here u ts, ap (λ (k : ℕ). times u (k ∷ ts)) same) in
    dropped-out (dropped_at rows t) ts u z ∙ ap (λ (k : ℕ). slice_get (dropped_at rows k) u) same ∙ at-here rows u r e
dropped_or rows t ts u r more h o e (inr n) = more (omega (arith, h, times-there t u ts n)) (omega (arith, o, times-there t u ts n)) (at-other rows t u n ∙ e)

pub dropped-in : (rows : List Row) (ts : List ℕ) (u : ℕ) (r : Row) → 1 ≤ times u ts → times u ts ≤ 1 → slice_get rows u ≡ Some r
    → slice_get (dropped_all rows ts) u ≡ Some (row r.path (drop_mark r.mark))
dropped-in rows [] u r h o e = absurd (omega (arith, h))
dropped-in rows (t ∷ ts) u r h o e = dropped_or rows t ts u r (λ a b c. dropped-in (dropped_at rows t) ts u r a b c) h o e (cases_eq t u)

-- up to the place everything behind the ticket is dropped and cut off
pub record IsCutting (rows : List Row) (next : List (Option ℕ)) (t : ℕ) (new : List Row) (cut : List (Option ℕ)) (place : Option ℕ) (count : ℕ) : Type 0 where
  pub done : List ℕ
  pub rest : List ℕ
  pub leads : Leads next (t ∷ (done ++ rest))
  pub once : AreOnce (t ∷ (done ++ rest))
  pub here : place ≡ first_of rest
  pub left : Leads cut rest
  pub drops : new ≡ dropped_all rows done
  pub last : slice_get cut t ≡ Some None
  pub others : (u : ℕ) → times u (t ∷ done) ≡ 0 → slice_get cut u ≡ slice_get next u
  pub each : length cut ≡ length next
  pub same : length new ≡ length rows
  pub counts : count + opens new ≡ opens rows

pub cutting-none : (rows : List Row) (next : List (Option ℕ)) (t : ℕ) (place : Option ℕ) (rest : List ℕ) → Leads next (t ∷ rest) → AreOnce (t ∷ rest) → slice_get next t ≡ Some place
    → IsCutting rows next t rows (slice_set next t None) place 0
cutting-none rows next t place rest l o e = record {
  done = [];
  rest = rest;
  leads = l;
  once = o;
  here = same_Some place (first_of rest) (sym e ∙ l.0);
  left = leads-keep next (slice_set next t None) rest (λ u h. set-other next t None u (differs u t rest h (once-behind t [] rest o))) l.1;
  drops = refl;
  last = set-at next t place None e;
  others = λ u z. set-other next t None u (λ e. omega (arith, z, times-here t [], ap (λ (k : ℕ). times k (t ∷ [])) e));
  each = length-set next t None;
  same = refl;
  counts = omega arith;
}

cutting_step : (rows : List Row) (next : List (Option ℕ)) (t : ℕ) (new new' : List Row) (cut : List (Option ℕ)) (u : ℕ) (link : Option ℕ) (count count' : ℕ) (done rest behind : List ℕ)
    → rest ≡ u ∷ behind → Leads next (t ∷ (done ++ u ∷ behind)) → AreOnce (t ∷ (done ++ u ∷ behind)) → Leads cut (u ∷ behind) → new ≡ dropped_all rows done → slice_get cut t ≡ Some None
    → ((v : ℕ) → times v (t ∷ done) ≡ 0 → slice_get cut v ≡ slice_get next v) → length cut ≡ length next → length new ≡ length rows → count' + opens new' ≡ opens rows
    → new' ≡ dropped_at new u → slice_get cut u ≡ Some link → IsCutting rows next t new' (slice_set cut u None) link count'
cutting_step rows next t new new' cut u link count count' done rest behind is l o left drops last others each same counts drop e =
    let regrouped : (done ++ u ∷ []) ++ behind ≡ done ++ u ∷ behind = append_assoc done (u ∷ []) behind in
    let apart : times u behind ≡ 0 = once-behind u (t ∷ done) behind o in
    let not_t : t ≡ u → ⊥ = λ z. omega (arith, o t, times-here t (done ++ u ∷ behind), times-split t u done behind, times-here u behind, ap (λ (k : ℕ). times k (u ∷ behind)) z) in
    record {
      done = done ++ u ∷ [];
      rest = behind;
      leads = subst (λ (r : List ℕ). Leads next (t ∷ r)) (sym regrouped) l;
      once = subst (λ (r : List ℕ). AreOnce (t ∷ r)) (sym regrouped) o;
      here = same_Some link (first_of behind) (sym e ∙ left.0);
      left = leads-keep cut (slice_set cut u None) behind (λ v h. set-other cut u None v (differs v u behind h apart)) left.1;
      drops = drop ∙ ap (λ (r : List Row). dropped_at r u) drops ∙ dropped_all-more rows done u;
      last = set-other cut u None t not_t ∙ last;
      others = λ v z.
          let parts : times v (t ∷ (done ++ u ∷ [])) ≡ times v (t ∷ done) + times v (u ∷ []) = times-append v (t ∷ done) (u ∷ []) in
          set-other cut u None v (λ w. omega (arith, z, parts, times-here u [], ap (λ (k : ℕ). times k (u ∷ [])) w)) ∙ others v (omega (arith, z, parts));
      each = length-set cut u None ∙ each;
      same = ap length drop ∙ length-dropped_at new u ∙ same;
      counts = counts;
    }

pub cutting-next : (rows : List Row) (next : List (Option ℕ)) (t : ℕ) (new new' : List Row) (cut : List (Option ℕ)) (u : ℕ) (place link : Option ℕ) (count count' : ℕ) → place ≡ Some u
    → new' ≡ dropped_at new u → slice_get cut u ≡ Some link → count' + opens new' ≡ count + opens new → IsCutting rows next t new cut place count
    → IsCutting rows next t new' (slice_set cut u None) link count'
cutting-next rows next t new new' cut u place link count count' at drop e counts k =
    let f = first-some k.rest u (sym k.here ∙ at) in
    cutting_step rows next t new new' cut u link count count' k.done k.rest f.0 f.1 (subst (λ (r : List ℕ). Leads next (t ∷ (k.done ++ r))) f.1 k.leads)
    (subst (λ (r : List ℕ). AreOnce (t ∷ (k.done ++ r))) f.1 k.once) (subst (Leads cut) f.1 k.left) k.drops k.last k.others k.each k.same (counts ∙ k.counts) drop e

-- the place has a link
pub cutting-link : (rows : List Row) (next : List (Option ℕ)) (t : ℕ) (new : List Row) (cut : List (Option ℕ)) (u : ℕ) (place : Option ℕ) (count : ℕ) → place ≡ Some u
    → IsCutting rows next t new cut place count → (link : Option ℕ) × (slice_get cut u ≡ Some link)
cutting-link rows next t new cut u place count at k =
    let f = first-some k.rest u (sym k.here ∙ at) in
    (first_of f.0, (subst (Leads cut) f.1 k.left).0)

pub cutting-ends : (rows : List Row) (next : List (Option ℕ)) (t : ℕ) (new : List Row) (cut : List (Option ℕ)) (place : Option ℕ) (count : ℕ) → place ≡ None
    → IsCutting rows next t new cut place count → IsCut rows next t new cut count
cutting-ends rows next t new cut place count at k =
    let end : k.rest ≡ [] = first-none k.rest (sym k.here ∙ at) in
    let all : k.done ++ k.rest ≡ k.done = ap (λ (r : List ℕ). k.done ++ r) end ∙ append-nil k.done in
    record {
      rest = k.done;
      leads = subst (λ (r : List ℕ). Leads next (t ∷ r)) all k.leads;
      drops = k.drops;
      last = k.last;
      others = k.others;
      each = k.each;
      counts = k.counts;
    }

-- 1 where there is a place, else 0
abbrev pub waits : Option ℕ → ℕ
waits None = 0
waits (Some t) = 1

-- how many tickets lead on
abbrev pub links : List (Option ℕ) → ℕ
links [] = 0
links (o ∷ next) = waits o + links next

pub links-cut : (next : List (Option ℕ)) (u : ℕ) (link : Option ℕ) → slice_get next u ≡ Some link → links (slice_set next u None) + waits link ≡ links next
links-cut [] u link e = absurd (none-some link e)
links-cut (o ∷ next) zero link e = omega (arith, ap waits (same_Some o link e))
links-cut (o ∷ next) (suc u) link e = omega (arith, links-cut next u link e)
