-- What becomes of a node's variables in a split, as the code finds it.
use Rattle.std.proofs.Common.{◌≡◌, ℕ, ◌+◌, Bool, true, false, cond, not, ◌||◌, nat_eq, List, [], ◌∷◌, ◌++◌, Some, None, length, map}
use Rattle.std.proofs.Common.{filter, option_map, unwrap_or, refl, ap, sym, subst, ◌∙◌, inl, inr, eq-eqb}
use Rattle.std.specs.Prelude.{◌≢◌, ◌⊎◌, All, Contains}
use Rattle.std.specs.List.{cons_option, range_with_len, AllZip}
use Rattle.std.proofs.Math.Dec.{eqb}
use Rattle.std.proofs.lemmas.Bool.Decides.{eqb_tells}
use Rattle.std.proofs.lemmas.List.Folds.{list_any-append}
use Rattle.dps_terms.specs.Tree.{var, Tree, leaf, StandsIn}
use Rattle.dps_terms.specs.Bindings.{bound, image}
use Rattle.dps_terms.specs.Replace.{substitute, put_entries}
use Rattle.dps_terms.specs.Same.{same}
use Rattle.dps_process.specs.Process.{Process, EachBinder}
use Rattle.dps_process.specs.Binders.{CapturesNone}
use Rattle.dps_unify.specs.Order.{level_of}
use Rattle.dps_know.specs.Know.{know_under}
use Rattle.dps_solver.specs.Scene.{Disequation}
use Rattle.dps_solver.specs.Solutions.{valued}
use Rattle.dps_node.specs.Node.{Node, SymbolicConfig, label_under, variables_of}
use Rattle.dps_renewal.specs.Numbering.{is_among, counted_as, as_variable}
use Rattle.dps_renewal.specs.declared.renewal.Renewal.{Renewal}
use Rattle.dps_node.specs.Code.{IsRenewal}
use Rattle.dps_node.specs.Splits.{binding, new_variables, new_levels, disequation_under, HasOlderEntries, BindsNoneOf, CanSplit, IsConfigUnder, Applies, exclusion}
use Rattle.dps_renewal.specs.Putting.{change, PutsFor, PutsNothing, changes, numbers_in}
use Rattle.dps_renewal.proofs.Puts.{among_bound, put_image, puts_nothing, nothing_put}

neither : (a b : Bool) → (a || b) ≡ false → (a ≡ false) × (b ≡ false)
neither true b e = cc
neither false b e = (refl, e)

among_neither : (x : ℕ) (xs ys : List ℕ) → is_among x (xs ++ ys) ≡ false → (is_among x xs ≡ false) × (is_among x ys ≡ false)
among_neither x xs ys e = neither (is_among x xs) (is_among x ys) (sym (list_any-append (nat_eq x) xs ys) ∙ e)

among_first : (x : ℕ) (xs ys : List ℕ) → is_among x xs ≡ true → is_among x (xs ++ ys) ≡ true
among_first x xs ys e = list_any-append (nat_eq x) xs ys ∙ ap (λ b. b || is_among x ys) e

-- a number that is not listed is counted as itself
counted_out : (s : ℕ → Tree) (n : ℕ) (xs : List ℕ) (y : ℕ) → is_among y xs ≡ false → counted_as s n xs y ≡ leaf (var y)
counted_out s n [] y e = refl
counted_out s n (x ∷ xs) y e =
    let h = neither (nat_eq y x) (is_among y xs) e in
    ap (λ b. cond b (s n) (counted_as s (n + 1) xs y)) (h.0) ∙ counted_out s (n + 1) xs y (h.1)

-- nor has it a level
no_level : (ps : List (ℕ × ℕ)) (x : ℕ) → is_among x (numbers_in ps) ≡ false → level_of ps x ≡ None
no_level [] x e = refl
no_level (p ∷ ps) x e =
    let h = neither (nat_eq x (p.0)) (is_among x (numbers_in ps)) e in
    ap (λ b. cond b (Some (p.1)) (level_of ps x)) (turned (eqb_tells (p.0) x) (h.0)) ∙ no_level ps x (h.1)
  where
    turned : ((eqb (p.0) x ≡ true) × (p.0 ≡ x)) ⊎ ((eqb (p.0) x ≡ false) × (p.0 ≢ x)) → nat_eq x (p.0) ≡ false → nat_eq (p.0) x ≡ false
    turned (inl k) f = let d : true ≡ false = sym (eq-eqb x (p.0) (sym k.1)) ∙ f in cc
    turned (inr k) f = k.0

-- what the code puts is the binding
pub binding_image : (node : Node) (b : ℕ → Tree) (by : List (ℕ × Tree)) → ((x : ℕ) → level_of (variables_of node) x ≡ None → b x ≡ leaf (var x))
    → PutsFor (binding node b) (numbers_in (variables_of node) ++ new_variables node b) by
    → image by ≡ binding node b
binding_image node b by own h = put_image (binding node b) (numbers_in (variables_of node) ++ new_variables node b) by h others
  where
    others : (x : ℕ) → is_among x (numbers_in (variables_of node) ++ new_variables node b) ≡ false → binding node b x ≡ leaf (var x)
    others x e =
        let n = among_neither x (numbers_in (variables_of node)) (new_variables node b) e in
        ap (substitute (counted_as as_variable (length node.levels + 1) (new_variables node b))) (own x (no_level (variables_of node) x (n.0)))
        ∙ counted_out as_variable (length node.levels + 1) (new_variables node b) x (n.1)

-- values put for variables
pub valued_image : (by puts : List (ℕ × Tree)) (xs : List ℕ) (g : List Tree) → PutsFor (valued g (image by)) xs puts → PutsNothing xs by → image puts ≡ valued g (image by)
valued_image by puts xs g h none = put_image (valued g (image by)) xs puts h (λ x e. ap (λ o. put_entries g (unwrap_or o (leaf (var x)))) (none x e))

pub puts_both : (z : ℕ → Tree) (g first_g second_g : List Tree) (first second own fresh : List ℕ) (empty one two : List (ℕ × Tree))
    → first_g ≡ g → second_g ≡ g → first ≡ own → second ≡ fresh → empty ≡ []
    → ((xs : List ℕ) → PutsFor (valued first_g z) xs empty → PutsFor (valued first_g z) (xs ++ first) one)
    → ((xs : List ℕ) → PutsFor (valued second_g z) xs one → PutsFor (valued second_g z) (xs ++ second) two)
    → PutsFor (valued g z) (own ++ fresh) two
puts_both z g first_g second_g first second own fresh empty one two fg sg f s e h k =
    let none : PutsFor (valued first_g z) [] empty = subst (PutsFor (valued first_g z) []) (sym e) (nothing_put (valued first_g z)) in
    let after : PutsFor (valued second_g z) first one = subst (λ w. PutsFor (valued w z) first one) (fg ∙ sym sg) (h [] none) in
    let both : PutsFor (valued g z) (first ++ second) two = subst (λ w. PutsFor (valued w z) (first ++ second) two) sg (k first after) in
    subst (λ xs. PutsFor (valued g z) xs two) (λ i. f i ++ s i) both

pub captures_none : (by puts : List (ℕ × Tree)) (xs : List ℕ) (g : List Tree) (c : SymbolicConfig) (p : Process)
    → PutsFor (valued g (image by)) xs puts → BindsNoneOf (image by) c → g ≡ map (substitute (valued g (image by))) c.values → Contains c.parts p
    → CapturesNone puts p
captures_none by puts xs g c p h apart e there x u at =
    let b = among_bound (valued g (image by)) xs x u puts h at in
    subst (λ t. EachBinder (λ y. ¬ StandsIn (var y) t) p) (sym b.1) (apart g p x e there (λ k. b.2 (ap (put_entries g) k)))

-- the kid with what is put
pub applies : (node kid : Node) (b z : ℕ → Tree) → z ≡ binding node b
    → kid.labels ≡ map (label_under (substitute z)) node.labels
    → kid.levels ≡ node.levels ++ new_levels node b
    → kid.know ≡ know_under z node.know
    → kid.disequations ≡ map (disequation_under z) node.disequations
    → AllZip (IsConfigUnder node z) node.configs kid.configs
    → kid.m ≡ node.m → kid.closed ≡ node.closed → kid.examine ≡ node.examine → kid.count ≡ node.count
    → Applies node b kid
applies node kid b z e l levels know ds cs m closed examine count =
    record {
      labels = l ∙ ap (λ w. map (label_under (substitute w)) node.labels) e;
      levels = levels;
      know = know ∙ ap (λ w. know_under w node.know) e;
      disequations = ds ∙ ap (λ w. map (disequation_under w) node.disequations) e;
      configs = subst (λ w. AllZip (IsConfigUnder node w) node.configs kid.configs) e cs;
      m = m;
      closed = closed;
      examine = examine;
      count = count;
    }

-- the pairs of the variables that are bound
changes_by : (z : ℕ → Tree) (by : List (ℕ × Tree)) (ps : List (ℕ × ℕ)) → ((x : ℕ) → is_among x (numbers_in ps) ≡ true → bound by x ≡ change z x)
    → changes by (numbers_in ps) ≡ map (λ (p : ℕ × ℕ). (leaf (var p.0), z p.0)) (filter (λ (p : ℕ × ℕ). not (same (z p.0) (leaf (var p.0)))) ps)
changes_by z by [] h = refl
changes_by z by (p ∷ ps) h =
    let rest = changes_by z by ps (λ x e. h x (later x e)) in
    let one = h (p.0) (ap (λ b. b || is_among (p.0) (numbers_in ps)) (eq-eqb (p.0) (p.0) refl)) in
    ap (λ o. cons_option (option_map (λ t. (leaf (var (p.0)), t)) o) (changes by (numbers_in ps))) one ∙ step (same (z (p.0)) (leaf (var (p.0)))) refl rest
  where
    later : (x : ℕ) → is_among x (numbers_in ps) ≡ true → is_among x (numbers_in (p ∷ ps)) ≡ true
    later x e = ap (λ b. nat_eq x (p.0) || b) e ∙ or_true (nat_eq x (p.0))
      where
        or_true : (b : Bool) → (b || true) ≡ true
        or_true true = refl
        or_true false = refl

    step : (b : Bool) → same (z (p.0)) (leaf (var (p.0))) ≡ b
        → changes by (numbers_in ps) ≡ map (λ (q : ℕ × ℕ). (leaf (var q.0), z q.0)) (filter (λ (q : ℕ × ℕ). not (same (z q.0) (leaf (var q.0)))) ps)
        → cons_option (option_map (λ t. (leaf (var (p.0)), t)) (cond b None (Some (z (p.0))))) (changes by (numbers_in ps))
        ≡ map (λ (q : ℕ × ℕ). (leaf (var q.0), z q.0)) (cond (not b) (p ∷ filter (λ (q : ℕ × ℕ). not (same (z q.0) (leaf (var q.0)))) ps) (filter (λ (q : ℕ × ℕ). not (same (z q.0) (leaf (var q.0)))) ps))
    step true e r = r
    step false e r = ap (λ qs. (leaf (var (p.0)), z (p.0)) ∷ qs) r

pub changes_are : (node : Node) (b : ℕ → Tree) (by : List (ℕ × Tree)) → PutsFor (binding node b) (numbers_in (variables_of node) ++ new_variables node b) by
    → changes by (numbers_in (variables_of node)) ≡ map (λ (p : ℕ × ℕ). (leaf (var p.0), binding node b p.0)) (filter (λ (p : ℕ × ℕ). not (same (binding node b p.0) (leaf (var p.0)))) (variables_of node))
changes_are node b by h =
    changes_by (binding node b) by (variables_of node)
    (λ x e. h x ∙ ap (λ c. cond c (change (binding node b) x) None) (among_first x (numbers_in (variables_of node)) (new_variables node b) e))

-- what the bindings of a split may be put into
module _ (node : Node) (b : ℕ → Tree) (r : Renewal) (can : CanSplit node b) (h : IsRenewal node b r) where
  pub renewal_image : image r.by ≡ binding node b
  renewal_image = binding_image node b r.by can.own h.put

  pub older_put : All (λ (c : SymbolicConfig). HasOlderEntries (image r.by) c.values) node.configs
  older_put = subst (λ z. All (λ (c : SymbolicConfig). HasOlderEntries z c.values) node.configs) (sym renewal_image) can.older

  pub apart_put : All (BindsNoneOf (image r.by)) node.configs
  apart_put = subst (λ z. All (BindsNoneOf z) node.configs) (sym renewal_image) can.apart

pub only_put : (node : Node) (b : ℕ → Tree) (r : Renewal) → IsRenewal node b r → PutsNothing (r.own.items ++ r.fresh.keys) r.by
only_put node b r h =
    subst (λ xs. PutsNothing xs r.by) (λ i. (sym h.own) i ++ (sym h.fresh) i)
    (puts_nothing (binding node b) (numbers_in (variables_of node) ++ new_variables node b) r.by h.put)

-- the disequation of a split, by its parts
pub exclusion_is : (node : Node) (b : ℕ → Tree) (r : Renewal) (d : Disequation) (first count : ℕ) (own : List ℕ) → IsRenewal node b r
    → first ≡ length node.levels + 1 → count ≡ length r.fresh.keys → own ≡ r.own.items
    → d.free ≡ range_with_len first count → d.pairs ≡ changes r.by own → d ≡ exclusion node b
exclusion_is node b r d first count own h f n o free pairs =
    let free_is : d.free ≡ range_with_len (length node.levels + 1) (length (new_variables node b)) =
    free ∙ (λ i. range_with_len (f i) ((n ∙ ap length h.fresh) i)) in
    let pairs_is = pairs ∙ (ap (changes r.by) (o ∙ h.own) ∙ changes_are node b r.by h.put) in
    λ i. record { free = free_is i; pairs = pairs_is i }
