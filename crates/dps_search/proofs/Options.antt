-- The next way, entry by entry.
use Rattle.std.proofs.Common.{◌≡◌, ℕ, zero, suc, ◌+◌, ◌<◌, ◌≤◌, false, List, [], ◌∷◌, ◌++◌, length, slice_get, get_or, drop, Option, Some}
use Rattle.std.proofs.Common.{None, refl, sym, ◌∙◌, ap, arith, add-one, drop-cons, cond, inl, inr}
use Rattle.std.specs.Prelude.{nat_le, option_map, is_some}
use Rattle.std.proofs.lemmas.Bool.{le-leb, leb-true, cases_Bool}
use Rattle.std.proofs.lemmas.List.{drop_all}
use Rattle.std.proofs.lemmas.Option.{slice_get_within, get_or_from_slice_get}
use Rattle.dps_terms.specs.declared.borrowed.TermView.TheVariants.{Var}
use Rattle.dps_terms.specs.Tree.{public, private, var, ax, entry, rigid, Tree, leaf, app}
use Rattle.dps_terms.specs.Views.{view_of}
use Rattle.dps_know.specs.Know.{Knowledge, entry_at, IsThere}
use Rattle.dps_know.specs.declared.know.Entry.{Entry}
use Rattle.dps_solver.specs.Scene.{System}
use Rattle.dps_solver.specs.Search.{Way, use_entry, entry_ways}
use Rattle.dps_search.specs.Ways.{composing, ways_behind, IsNextEntry}

-- the ways for a term that is no variable
pub no_variable_ways : (system : System) (l : ℕ) (t : Tree) (passed : ℕ) → ((w : ℕ) → view_of t ≡ Var w → ⊥)
    → ways_behind system l t passed ≡ entry_ways l (passed + 1) (drop passed system.know.entries) ++ composing system.m l t
no_variable_ways system l (leaf (var w)) passed h = absurd (h w refl)
no_variable_ways system l (leaf (public n)) passed h = refl
no_variable_ways system l (leaf (private n)) passed h = refl
no_variable_ways system l (leaf (ax j)) passed h = refl
no_variable_ways system l (leaf (entry i)) passed h = refl
no_variable_ways system l (leaf (rigid k)) passed h = refl
no_variable_ways system l (app f ts) passed h = refl

module _ (es : List Entry) (l place : ℕ) (e : Entry) (there : slice_get es place ≡ Some e) where
  split : drop place es ≡ e ∷ drop (place + 1) es
  split =
      drop-cons es place e (slice_get_within es place e there)
      ∙ (λ i. get_or_from_slice_get es place e e there i ∷ drop (suc place) es)
      ∙ ap (λ n. e ∷ drop n es) (sym (add-one place))

  pub next_used : e.level ≤ l → entry_ways l (place + 1) (drop place es) ≡ use_entry (place + 1) ∷ entry_ways l ((place + 1) + 1) (drop (place + 1) es)
  next_used h =
      ap (entry_ways l (place + 1)) split
      ∙ ap (λ b. cond b (use_entry (place + 1) ∷ entry_ways l ((place + 1) + 1) (drop (place + 1) es)) (entry_ways l ((place + 1) + 1) (drop (place + 1) es)))
      (le-leb e.level l h)

  above_not : l < e.level → nat_le e.level l ≡ false
  above_not h = elim (cases_Bool (nat_le e.level l)) [
    | inl d ↦ absurd (omega (arith, h, leb-true e.level l d))
    | inr d ↦ d
  ]

  pub next_skipped : l < e.level → entry_ways l (place + 1) (drop place es) ≡ entry_ways l ((place + 1) + 1) (drop (place + 1) es)
  next_skipped h =
      ap (entry_ways l (place + 1)) split
      ∙ ap (λ b. cond b (use_entry (place + 1) ∷ entry_ways l ((place + 1) + 1) (drop (place + 1) es)) (entry_ways l ((place + 1) + 1) (drop (place + 1) es))) (above_not h)

pub none_behind : (es : List Entry) (l place : ℕ) → length es ≤ place → entry_ways l (place + 1) (drop place es) ≡ []
none_behind es l place h = ap (entry_ways l (place + 1)) (drop_all place es h)

-- an entry by its place
pub entry_placed : (know : Knowledge) (place : ℕ) → entry_at know (place + 1) ≡ slice_get know.entries place
entry_placed know place = ap (entry_at know) (add-one place)

pub placed_at : (know : Knowledge) (place : ℕ) (e : Entry) → entry_at know (place + 1) ≡ Some e → e ≡ get_or know.entries place e
placed_at know place e h = sym (get_or_from_slice_get know.entries place e e (sym (entry_placed know place) ∙ h))

found_at : {X : Type 0} (xs : List X) (i : ℕ) → i < length xs → (x : X) × (slice_get xs i ≡ Some x)
found_at [] i h = absurd (omega (arith, h))
found_at (x ∷ xs) zero h = (x, refl)
found_at (x ∷ xs) (suc i) h = found_at xs i (omega (arith, h))

pub is_there : (know : Knowledge) (place : ℕ) → place < length know.entries → IsThere know (place + 1)
is_there know place h =
    let at = found_at know.entries place h in ap (λ (o : Option Entry). is_some o) (entry_placed know place ∙ at.1)

pub level_at : (know : Knowledge) (place l : ℕ) → option_map (λ (e : Entry). e.level) (entry_at know (place + 1)) ≡ Some l
    → (e : Entry) × (slice_get know.entries place ≡ Some e) × (e.level ≡ l)
level_at know place l h = of (slice_get know.entries place) refl (sym (ap (option_map (λ (e : Entry). e.level)) (entry_placed know place)) ∙ h)
  where
    of : (o : Option Entry) → slice_get know.entries place ≡ o → option_map (λ (e : Entry). e.level) o ≡ Some l
        → (e : Entry) × (slice_get know.entries place ≡ Some e) × (e.level ≡ l)
    of None s k = let d : None ≡ Some l = k in cc
    of (Some e) s k = (e, s, let d : Some e.level ≡ Some l = k in cc)

-- the next step for a term that is no variable
module _ (system : System) (l : ℕ) (t : Tree) (passed place : ℕ) (h : (w : ℕ) → view_of t ≡ Var w → ⊥) (next : IsNextEntry system.know l passed place) where
  passing : ways_behind system l t passed ≡ entry_ways l (place + 1) (drop place system.know.entries) ++ composing system.m l t
  passing = no_variable_ways system l t passed h ∙ ap (λ ws. ws ++ composing system.m l t) next.ways

  pub used_is_next : place < length system.know.entries → ways_behind system l t passed ≡ use_entry (place + 1) ∷ ways_behind system l t (place + 1)
  used_is_next within =
      let e = next.level within in
      passing ∙ ap (λ ws. ws ++ composing system.m l t) (next_used system.know.entries l place e.0 e.1 e.2)
      ∙ ap (λ ws. use_entry (place + 1) ∷ ws) (sym (no_variable_ways system l t (place + 1) h))

  pub composing_is_next : (ws : List Way) → length system.know.entries ≤ place → composing system.m l t ≡ ws → ways_behind system l t passed ≡ ws
  composing_is_next ws beyond c =
      passing ∙ ap (λ vs. vs ++ composing system.m l t) (none_behind system.know.entries l place beyond) ∙ c
