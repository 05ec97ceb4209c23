-- The least level, found pair by pair.
use Rattle.std.proofs.Common.{◌≡◌, ℕ, ◌<◌, ◌≤◌, ◌+◌, Bool, true, false, cond, List, [], ◌∷◌, Option, Some, None, length, get_or, drop}
use Rattle.std.proofs.Common.{filter, map, min, refl, ap, sym, ◌∙◌, add-one, drop-cons, unwrap_or, arith}
use Rattle.std.proofs.lemmas.List.{drop_all}
use Rattle.dps_renewal.specs.Numbering.{least}
use Rattle.dps_renewal.specs.Putting.{least_with}

-- the least of the numbers of a list, after what was found before
abbrev pub folded : Option ℕ → List ℕ → Option ℕ
folded now [] = now
folded now (l ∷ ls) = folded (Some (least_with now l)) ls

least_first : (n l : ℕ) (ls : List ℕ) → least (min n l ∷ ls) ≡ min n (least (l ∷ ls))
least_first n l [] = refl
least_first n l (k ∷ ks) = min_of_three n l (least (k ∷ ks))
  where
    min_of_three : (a b c : ℕ) → min (min a b) c ≡ min a (min b c)
    min_of_three a b c = omega arith

folded_some : (n : ℕ) (ls : List ℕ) → folded (Some n) ls ≡ Some (least (n ∷ ls))
folded_some n [] = refl
folded_some n (l ∷ ls) = folded_some (min n l) ls ∙ ap Some (least_first n l ls)

-- what is found in the end
pub folded_least : (ls : List ℕ) → unwrap_or (folded None ls) 0 ≡ least ls
folded_least [] = refl
folded_least (l ∷ ls) = ap (λ o. unwrap_or o 0) (folded_some l ls)

abbrev levels_where : (ℕ × ℕ → Bool) → List (ℕ × ℕ) → List ℕ
levels_where P ps = map (λ (p : ℕ × ℕ). p.1) (filter P ps)

first_pair : (P : ℕ × ℕ → Bool) (ps : List (ℕ × ℕ)) (i : ℕ) (d : ℕ × ℕ) → i < length ps → levels_where P (drop i ps) ≡ levels_where P (get_or ps i d ∷ drop (i + 1) ps)
first_pair P ps i d h = ap (levels_where P) (drop-cons ps i d h ∙ ap (λ n. get_or ps i d ∷ drop n ps) (sym (add-one i)))

-- a pair that counts
pub pair_counts : (P : ℕ × ℕ → Bool) (ps : List (ℕ × ℕ)) (i : ℕ) (d : ℕ × ℕ) (now whole : Option ℕ) (level : ℕ) → i < length ps
    → P (get_or ps i d) ≡ true → level ≡ least_with now ((get_or ps i d).1)
    → folded now (levels_where P (drop i ps)) ≡ whole
    → folded (Some level) (levels_where P (drop (i + 1) ps)) ≡ whole
pair_counts P ps i d now whole level h t e f =
    ap (λ n. folded (Some n) (levels_where P (drop (i + 1) ps))) e
    ∙ sym (ap (folded now) (first_pair P ps i d h ∙ ap (λ b. map (λ (p : ℕ × ℕ). p.1) (cond b (get_or ps i d ∷ filter P (drop (i + 1) ps)) (filter P (drop (i + 1) ps)))) t))
    ∙ f

-- and one that does not
pub pair_passes : (P : ℕ × ℕ → Bool) (ps : List (ℕ × ℕ)) (i : ℕ) (d : ℕ × ℕ) (now whole : Option ℕ) → i < length ps
    → P (get_or ps i d) ≡ false
    → folded now (levels_where P (drop i ps)) ≡ whole
    → folded now (levels_where P (drop (i + 1) ps)) ≡ whole
pair_passes P ps i d now whole h t f =
    sym (ap (folded now) (first_pair P ps i d h ∙ ap (λ b. map (λ (p : ℕ × ℕ). p.1) (cond b (get_or ps i d ∷ filter P (drop (i + 1) ps)) (filter P (drop (i + 1) ps)))) t))
    ∙ f

-- what is found where no pair is left
pub all_folded : (P : ℕ × ℕ → Bool) (ps : List (ℕ × ℕ)) (i : ℕ) (now : Option ℕ) → length ps ≤ i
    → folded now (levels_where P (drop i ps)) ≡ folded None (levels_where P ps)
    → unwrap_or now 0 ≡ least (levels_where P ps)
all_folded P ps i now h f = ap (λ o. unwrap_or o 0) (sym (ap (λ qs. folded now (levels_where P qs)) (drop_all i ps h)) ∙ f) ∙ folded_least (levels_where P ps)
