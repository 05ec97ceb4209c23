-- What covers a pattern, leaf by leaf and argument by argument, as far as it was asked.
use Rattle.std.proofs.Common.{◌≡◌, ℕ, zero, suc, ◌+◌, ◌<◌, ◌≤◌, List, [], ◌∷◌, ◌++◌, length, slice_get, Some, refl, sym, ◌∙◌, ap, subst, arith, inl, inr}
use Rattle.std.specs.Prelude.{◌⊎◌, Contains}
use Rattle.std.proofs.lemmas.Bool.{cases_lt}
use Rattle.std.proofs.lemmas.List.Elements.{Contains-append_left, Contains-append_right}
use Rattle.std.proofs.lemmas.Option.{none-some, slice_get_within, slice_get-get_or}
use Rattle.dps_terms.specs.declared.Sym.{Sym}
use Rattle.dps_terms.specs.declared.borrowed.TermView.TheVariants.{App}
use Rattle.dps_terms.specs.Tree.{Tree, Trees, leaf, app, none, more, list_of, trees}
use Rattle.dps_terms.specs.Replace.{substitute, substitute_all}
use Rattle.dps_terms.specs.Views.{view_of, arguments}
use Rattle.dps_unify.specs.Matching.{Agrees}
use Rattle.dps_static.specs.Binding.{CoversLeft}
use Rattle.dps_static.specs.Generic.{IsBuilt, AreBuilt, IsSettled, AreSettled, IsFound}
use Rattle.dps_static.specs.Saturation.{StartsWith}
use Rattle.dps_static.specs.Cuts.{IsKeptWithin, IsCut, AreCut, AreCutWithin, AreAllCut, AreAllSettled, CoversEntries}
use Rattle.dps_static.specs.Cuts.{Covers, CoversArguments, CoversAround, CoversNew, CoversNewArguments, CoversNewLeft, CoversBefore}
use Rattle.dps_static.proofs.Ways.{no_app_leaf}
use Rattle.dps_static.proofs.Covering.{kept_or_built, kept_built, found_now, extends_in_turn, settled_leaf, settled_root, settled_entry, settled_later}

-- lists of patterns as trees and as lists
module _ (IsEntry : Tree → Type 0) (kept : List Tree) (z : ℕ → Tree) where
  cut_at : (ps : Trees) → AreCut IsEntry kept z ps → AreAllCut IsEntry kept z (list_of ps)
  cut_at none h j q e = absurd (none-some q e)
  cut_at (more p ps) h zero q e = let m : p ≡ q = cc in subst (IsCut IsEntry kept z) m h.0
  cut_at (more p ps) h (suc j) q e = cut_at ps h.1 j q e

  all_cut : (ps : Trees) → AreAllCut IsEntry kept z (list_of ps) → AreCut IsEntry kept z ps
  all_cut none h = tt
  all_cut (more p ps) h = (h 0 p refl, all_cut ps (λ j q e. h (suc j) q e))

module _ (kept : List Tree) (z : ℕ → Tree) (s : List (ℕ × Tree)) where
  all_settled : (ps : Trees) → AreAllSettled kept z s (list_of ps) → AreSettled kept z s ps
  all_settled none h = tt
  all_settled (more p ps) h = (h 0 p refl, all_settled ps (λ j q e. h (suc j) q e))

  listed_settled : (ps : List Tree) → AreAllSettled kept z s ps → AreSettled kept z s (trees ps)
  listed_settled [] h = tt
  listed_settled (p ∷ ps) h = (h 0 p refl, listed_settled ps (λ j q e. h (suc j) q e))

-- more may be an entry
module _ (IsEntry IsOther : Tree → Type 0) (weaker : (t : Tree) → IsEntry t → IsOther t) (kept : List Tree) (z : ℕ → Tree) where
  mutual
    cut_weaker : (p : Tree) → IsCut IsEntry kept z p → IsCut IsOther kept z p
    cut_weaker (leaf x) h = h
    cut_weaker (app f ps) h = elim h [ inl e ↦ inl (weaker (substitute z (app f ps)) e) | inr k ↦ inr (cuts_weaker ps k) ]

    cuts_weaker : (ps : Trees) → AreCut IsEntry kept z ps → AreCut IsOther kept z ps
    cuts_weaker none h = tt
    cuts_weaker (more p ps) h = (cut_weaker p h.0, cuts_weaker ps h.1)

-- what is built is cut at the kept trees
module _ (kept : List Tree) (z : ℕ → Tree) where
  abbrev IsKept : Tree → Type 0
  IsKept t = IsKeptWithin kept 0 (length kept) t

  mutual
    built_cut : (p : Tree) → IsBuilt kept (substitute z p) → IsCut IsKept kept z p
    built_cut (leaf x) b = b
    built_cut (app f ps) b =
        elim (kept_or_built kept f (substitute_all z ps) b) [
          | inl at ↦ inl (record { place = at.0; behind = omega arith; before = slice_get_within kept at.0 (app f (substitute_all z ps)) at.1; there = at.1 })
          | inr h ↦ inr (built_cuts ps h)
        ]

    built_cuts : (ps : Trees) → AreBuilt kept (substitute_all z ps) → AreCut IsKept kept z ps
    built_cuts none h = tt
    built_cuts (more p ps) h = (built_cut p h.0, built_cuts ps h.1)

  listed_cuts : (ps : List Tree) → AreBuilt kept (substitute_all z (trees ps)) → AreAllCut IsKept kept z ps
  listed_cuts [] h j q e = absurd (none-some q e)
  listed_cuts (p ∷ ps) h zero q e = let m : p ≡ q = cc in subst (IsCut IsKept kept z) m (built_cut p h.0)
  listed_cuts (p ∷ ps) h (suc j) q e = listed_cuts ps h.1 j q e

-- what is cut at no entry is settled by whatever binds nothing of it
module _ (IsEntry : Tree → Type 0) (nothing : (t : Tree) → ¬ IsEntry t) (kept : List Tree) (z : ℕ → Tree) (s : List (ℕ × Tree)) where
  mutual
    settled_alone : (p : Tree) → IsCut IsEntry kept z p → IsSettled kept z s p
    settled_alone (leaf x) h = settled_leaf kept z s x h
    settled_alone (app f ps) h =
        elim h [
          | inl e ↦ absurd (nothing (substitute z (app f ps)) e)
          | inr k ↦ settled_root kept z s f ps (all_settled_alone ps k)
        ]

    all_settled_alone : (ps : Trees) → AreCut IsEntry kept z ps → AreSettled kept z s ps
    all_settled_alone none h = tt
    all_settled_alone (more p ps) h = (settled_alone p h.0, all_settled_alone ps h.1)

pub covers_nothing : (kept : List Tree) (n : ℕ) (left : Tree) → n ≡ 0 → CoversBefore kept n left ([] ∷ [])
covers_nothing kept n left m = record {
  covers = λ later starts z cut. record {
    by = [];
    listed = (0, omega arith, refl);
    extends = record { keeps = λ i t e. e };
    agrees = λ i t e. cc;
    wanted = λ j p e. settled_alone (IsKeptWithin kept 0 n) (λ t h. let l = h.before in omega (arith, l, m)) later z [] p (cut j p e);
  };
}

-- an entry settles the pattern, also where more is kept later
module _ (kept later : List Tree) (starts : StartsWith later kept) (z : ℕ → Tree) (start end : ℕ) where
  by_entry :
      (p : Tree) (s : List (ℕ × Tree)) (begun found : List (List (ℕ × Tree))) → CoversEntries kept start end p begun found → Contains begun s → Agrees z s
      → IsKeptWithin kept start end (substitute z p) → IsFound z s found (λ q. IsSettled later z q p)
  by_entry p s begun found one h a e =
      let d = one.covers z s h a e in
      record {
        by = d.by;
        listed = d.listed;
        extends = d.extends;
        agrees = d.agrees;
        wanted = settled_entry later z d.by p (kept_built later e.place (substitute z p) (starts e.place (substitute z p) e.there)) d.wanted;
      }

-- what was found is found among more
found_left : (z : ℕ → Tree) (s : List (ℕ × Tree)) (found others : List (List (ℕ × Tree))) (Wanted : List (ℕ × Tree) → Type 0) → IsFound z s found Wanted → IsFound z s (found ++ others) Wanted
found_left z s found others Wanted d = record { by = d.by; listed = Contains-append_left found others d.by d.listed; extends = d.extends; agrees = d.agrees; wanted = d.wanted }

found_right : (z : ℕ → Tree) (s : List (ℕ × Tree)) (found others : List (List (ℕ × Tree))) (Wanted : List (ℕ × Tree) → Type 0) → IsFound z s others Wanted → IsFound z s (found ++ others) Wanted
found_right z s found others Wanted d = record { by = d.by; listed = Contains-append_right found others d.by d.listed; extends = d.extends; agrees = d.agrees; wanted = d.wanted }

module _ (kept : List Tree) (n : ℕ) where
  pub covers_leaf : (p : Tree) (begun : List (List (ℕ × Tree))) → ((f : Sym) → view_of p ≡ App f → ⊥) → Covers kept n p begun begun
  covers_leaf (app f ps) begun h = absurd (h f refl)
  covers_leaf (leaf x) begun h = record { covers = λ later starts z s c a b. found_now z s begun (λ q. IsSettled later z q (leaf x)) c a (settled_leaf later z s x b) }

  covers_app :
      (f : Sym) (ps : Trees) (begun entries rest : List (List (ℕ × Tree))) → CoversEntries kept 0 n (app f ps) begun entries
      → CoversArguments kept n (list_of ps) 0 (length (list_of ps)) begun rest → Covers kept n (app f ps) begun (entries ++ rest)
  covers_app f ps begun entries rest one all = record {
    covers = λ later starts z s c a b.
        elim b [
          | inl e ↦ found_left z s entries rest (λ q. IsSettled later z q (app f ps)) (by_entry kept later starts z 0 n (app f ps) s begun entries one c a e)
          | inr k ↦
              let d = all.covers later starts z s c a (λ j p h l e. cut_at (IsKeptWithin kept 0 n) later z ps k j p e) in
              record {
                by = d.by;
                listed = Contains-append_right entries rest d.by d.listed;
                extends = d.extends;
                agrees = d.agrees;
                wanted = settled_root later z d.by f ps (all_settled later z d.by ps (λ j p e. d.wanted j p (omega arith) (slice_get_within (list_of ps) j p e) e));
              }
        ];
  }

  pub covers_root :
      (p : Tree) (begun entries rest : List (List (ℕ × Tree))) (f : Sym) → App f ≡ view_of p → CoversEntries kept 0 n p begun entries
      → CoversArguments kept n (arguments p) 0 (length (arguments p)) begun rest → Covers kept n p begun (entries ++ rest)
  covers_root (leaf x) begun entries rest f e one all = absurd (no_app_leaf x f e)
  covers_root (app g ps) begun entries rest f e one all = covers_app g ps begun entries rest one all

  -- argument by argument
  pub covers_none : (ps : List Tree) (start end : ℕ) (begun : List (List (ℕ × Tree))) → end ≤ start → CoversArguments kept n ps start end begun begun
  covers_none ps start end begun m = record {
    covers =
        λ later starts z s c a b. found_now z s begun (λ q. (j : ℕ) (p : Tree) → start ≤ j → j < end → slice_get ps j ≡ Some p → IsSettled later z q p) c a
        (λ j p h l e. absurd (omega (arith, m, h, l)));
  }

  pub covers_next :
      (ps : List Tree) (start i : ℕ) (p : Tree) (begun middle found : List (List (ℕ × Tree))) → start ≤ i → slice_get ps i ≡ Some p
      → CoversArguments kept n ps start i begun middle → Covers kept n p middle found → CoversArguments kept n ps start (i + 1) begun found
  covers_next ps start i p begun middle found m at all one = record {
    covers = λ later starts z s c a b.
        let d = all.covers later starts z s c a (λ j q h l e. b j q h (omega (arith, l)) e) in
        let k = one.covers later starts z d.by d.listed d.agrees (b i p m (omega arith) at) in
        record {
          by = k.by;
          listed = k.listed;
          extends = extends_in_turn s d.by k.by d.extends k.extends;
          agrees = k.agrees;
          wanted = λ j q h l e.
              elim (cases_lt j i) [
                | inl x ↦ settled_later later z d.by k.by q k.extends (d.wanted j q h x e)
                | inr x ↦ settled_here later z k.by ps i j p q (omega (arith, x, l)) at e k.wanted
              ];
        };
  }
    where
      settled_here :
          (later : List Tree) (z : ℕ → Tree) (s : List (ℕ × Tree)) (qs : List Tree) (k j : ℕ) (q r : Tree) → k ≡ j → slice_get qs k ≡ Some q
          → slice_get qs j ≡ Some r → IsSettled later z s q → IsSettled later z s r
      settled_here later z s qs k j q r x d e h = let y : Some q ≡ Some r = sym d ∙ (ap (slice_get qs) x ∙ e) in let same : q ≡ r = cc in subst (IsSettled later z s) same h

  pub covers_around :
      (ps : List Tree) (pivot : ℕ) (begun middle found : List (List (ℕ × Tree))) → CoversArguments kept n ps 0 pivot begun middle
      → CoversArguments kept (length kept) ps (pivot + 1) (length ps) middle found → CoversAround kept n ps pivot begun found
  covers_around ps pivot begun middle found one rest = record {
    covers = λ later starts z s c a b f.
        let d = one.covers later starts z s c a b in
        let k = rest.covers later starts z d.by d.listed d.agrees f in
        record {
          by = k.by;
          listed = k.listed;
          extends = extends_in_turn s d.by k.by d.extends k.extends;
          agrees = k.agrees;
          wanted = ((λ j q h l e. settled_later later z d.by k.by q k.extends (d.wanted j q h l e)), k.wanted);
        };
  }

  pub around_nothing : (ps : List Tree) (pivot : ℕ) (begun : List (List (ℕ × Tree))) → length begun ≡ 0 → CoversAround kept n ps pivot begun begun
  around_nothing ps pivot begun m = record { covers = λ later starts z s c a b f. absurd (let l = c.1 in omega (arith, l, m)) }

  -- what chooses a new tree
  pub new_leaf : (p : Tree) (begun found : List (List (ℕ × Tree))) → ((f : Sym) → view_of p ≡ App f → ⊥) → CoversNew kept n p begun found
  new_leaf (app f ps) begun found h = absurd (h f refl)
  new_leaf (leaf x) begun found h = record { covers = λ later starts z s c a b. inl b }

  new_entry : (t : Tree) → IsKeptWithin kept 0 (length kept) t → IsKeptWithin kept 0 n t ⊎ IsKeptWithin kept n (length kept) t
  new_entry t e =
      elim (cases_lt e.place n) [
        | inl l ↦ inl (record { place = e.place; behind = e.behind; before = l; there = e.there })
        | inr l ↦ inr (record { place = e.place; behind = l; before = e.before; there = e.there })
      ]

  new_app :
      (f : Sym) (ps : Trees) (begun entries rest : List (List (ℕ × Tree))) → CoversEntries kept n (length kept) (app f ps) begun entries
      → CoversNewArguments kept n (list_of ps) begun rest → CoversNew kept n (app f ps) begun (entries ++ rest)
  new_app f ps begun entries rest one all = record {
    covers = λ later starts z s c a b.
        elim b [
          | inl e ↦
              elim (new_entry (substitute z (app f ps)) e) [
                | inl o ↦ inl (inl o)
                | inr d ↦ inr (found_left z s entries rest (λ q. IsSettled later z q (app f ps)) (by_entry kept later starts z n (length kept) (app f ps) s begun entries one c a d))
              ]
          | inr k ↦
              elim (all.covers later starts z s c a (cut_at (IsKeptWithin kept 0 (length kept)) later z ps k)) [
                | inl o ↦ inl (inr (all_cut (IsKeptWithin kept 0 n) later z ps o))
                | inr d ↦ inr (record {
                  by = d.by;
                  listed = Contains-append_right entries rest d.by d.listed;
                  extends = d.extends;
                  agrees = d.agrees;
                  wanted = settled_root later z d.by f ps (all_settled later z d.by ps d.wanted);
                })
              ]
        ];
  }

  pub new_root :
      (p : Tree) (begun entries rest : List (List (ℕ × Tree))) (f : Sym) → App f ≡ view_of p → CoversEntries kept n (length kept) p begun entries
      → CoversNewArguments kept n (arguments p) begun rest → CoversNew kept n p begun (entries ++ rest)
  new_root (leaf x) begun entries rest f e one all = absurd (no_app_leaf x f e)
  new_root (app g ps) begun entries rest f e one all = new_app g ps begun entries rest one all

  -- pivot by pivot: no argument before the i-th chooses a new tree, or a substitution was found
  pub record CoversPivots (ps : List Tree) (i : ℕ) (begun found : List (List (ℕ × Tree))) : Type 0 where
    pub covers :
        (later : List Tree) → StartsWith later kept
        → (z : ℕ → Tree) (s : List (ℕ × Tree)) → Contains begun s → Agrees z s
        → AreAllCut (IsKeptWithin kept 0 (length kept)) later z ps
        → AreCutWithin (IsKeptWithin kept 0 n) later z ps 0 i ⊎ IsFound z s found (λ q. AreAllSettled later z q ps)

  pub pivots_none : (ps : List Tree) (begun found : List (List (ℕ × Tree))) → CoversPivots ps 0 begun found
  pivots_none ps begun found = record { covers = λ later starts z s c a b. inl (λ j p h l e. absurd (omega (arith, l))) }

  module _ (ps : List Tree) (i : ℕ) (p : Tree) (at : slice_get ps i ≡ Some p) where
    abbrev same : (j : ℕ) (q : Tree) → i ≡ j → slice_get ps j ≡ Some q → Some p ≡ Some q
    same j q x e = sym at ∙ (ap (slice_get ps) x ∙ e)

    pivot_cut :
        (later : List Tree) (z : ℕ → Tree) → AreCutWithin (IsKeptWithin kept 0 n) later z ps 0 i → IsCut (IsKeptWithin kept 0 n) later z p
        → AreCutWithin (IsKeptWithin kept 0 n) later z ps 0 (i + 1)
    pivot_cut later z before here j q h l e =
        elim (cases_lt j i) [
          | inl x ↦ before j q h x e
          | inr x ↦ (let m : Some p ≡ Some q = same j q (omega (arith, x, l)) e in let is : p ≡ q = cc in subst (IsCut (IsKeptWithin kept 0 n) later z) is here)
        ]

    pivot_settled :
        (later : List Tree) (z : ℕ → Tree) (s : List (ℕ × Tree)) → ((j : ℕ) (q : Tree) → 0 ≤ j → j < i → slice_get ps j ≡ Some q → IsSettled later z s q)
        → IsSettled later z s p → ((j : ℕ) (q : Tree) → i + 1 ≤ j → j < length ps → slice_get ps j ≡ Some q → IsSettled later z s q)
        → AreAllSettled later z s ps
    pivot_settled later z s before here behind j q e =
        elim (cases_lt j i) [
          | inl x ↦ before j q (omega arith) x e
          | inr x ↦
              elim (cases_lt i j) [
                | inl y ↦ behind j q (omega (arith, y)) (slice_get_within ps j q e) e
                | inr y ↦ (let m : Some p ≡ Some q = same j q (omega (arith, x, y)) e in let is : p ≡ q = cc in subst (IsSettled later z s) is here)
              ]
        ]

    pub pivots_next :
        (begun found by_pivot whole : List (List (ℕ × Tree))) → CoversPivots ps i begun found → CoversNew kept n p begun by_pivot
        → CoversAround kept n ps i by_pivot whole → CoversPivots ps (i + 1) begun (found ++ whole)
    pivots_next begun found by_pivot whole first pivot around = record {
      covers = λ later starts z s c a b.
          elim (first.covers later starts z s c a b) [
            | inl before ↦
                elim (pivot.covers later starts z s c a (b i p at)) [
                  | inl o ↦ inl (pivot_cut later z before o)
                  | inr d ↦
                      let k = around.covers later starts z d.by d.listed d.agrees before (λ j q h l e. b j q e) in
                      inr (record {
                        by = k.by;
                        listed = Contains-append_right found whole k.by k.listed;
                        extends = extends_in_turn s d.by k.by d.extends k.extends;
                        agrees = k.agrees;
                        wanted = pivot_settled later z k.by k.wanted.0 (settled_later later z d.by k.by p k.extends d.wanted) k.wanted.1;
                      })
                ]
            | inr d ↦ inr (found_left z s found whole (λ q. AreAllSettled later z q ps) d)
          ];
    }

  pub pivots_done : (ps : List Tree) (i : ℕ) (begun found : List (List (ℕ × Tree))) → length ps ≤ i → CoversPivots ps i begun found → CoversNewArguments kept n ps begun found
  pivots_done ps i begun found m first = record {
    covers = λ later starts z s c a b.
        elim (first.covers later starts z s c a b) [
          | inl before ↦ inl (λ j p e. let l = slice_get_within ps j p e in before j p (omega arith) (omega (arith, l, m)) e)
          | inr d ↦ inr d
        ];
  }

  -- the ways of old trees and those that choose a new one are all
  pub covers_further : (left : Tree) (old new : List (List (ℕ × Tree))) → CoversBefore kept n left old → CoversNewLeft kept n left new → CoversBefore kept (length kept) left (new ++ old)
  covers_further left old new before fresh = record {
    covers = λ later starts z cut.
        elim (fresh.covers later starts z [] (0, omega arith, refl) (λ i t e. cc) cut) [
          | inl o ↦ found_right z [] new old (λ q. AreAllSettled later z q (arguments left)) (before.covers later starts z o)
          | inr d ↦ found_left z [] new old (λ q. AreAllSettled later z q (arguments left)) d
        ];
  }

  -- and stay so where more is kept
  kept_before : (longer : List Tree) → StartsWith longer kept → n ≤ length kept → (t : Tree) → IsKeptWithin longer 0 n t → IsKeptWithin kept 0 n t
  kept_before longer starts within t e =
      let l = e.before in
      let here = slice_get-get_or kept e.place t (omega (arith, l, within)) in
      let m = sym e.there ∙ starts e.place _ here in
      record { place = e.place; behind = e.behind; before = e.before; there = here ∙ sym m }

  pub covers_still : (longer : List Tree) (left : Tree) (found : List (List (ℕ × Tree))) → StartsWith longer kept → n ≤ length kept → CoversBefore kept n left found → CoversBefore longer n left found
  covers_still longer left found starts within before = record {
    covers = λ later still z cut.
        before.covers later (λ k t e. still k t (starts k t e)) z
        (λ j p e. cut_weaker (IsKeptWithin longer 0 n) (IsKeptWithin kept 0 n) (kept_before longer starts within) later z p (cut j p e));
  }

-- where a rule was asked of all kept trees, its left side is covered
nothing_bound : (s : List (ℕ × Tree)) → Contains ([] ∷ []) s → [] ≡ s
nothing_bound s (zero, l, e) = e
nothing_bound s (suc k, l, e) = absurd (omega (arith, l))

pub covers_left : (kept : List Tree) (n : ℕ) (left : Tree) (found : List (List (ℕ × Tree))) → n ≡ length kept → CoversBefore kept n left found → CoversLeft kept left found
covers_left kept n left found m before = record {
  covers = λ z s c a b.
      let d = before.covers kept (λ k t e. e) z (subst (λ i. AreAllCut (IsKeptWithin kept 0 i) kept z (arguments left)) (sym m) (listed_cuts kept z (arguments left) b)) in
      subst (λ q. IsFound z q found (λ r. AreSettled kept z r (trees (arguments left)))) (nothing_bound s c) (record {
        by = d.by;
        listed = d.listed;
        extends = d.extends;
        agrees = d.agrees;
        wanted = listed_settled kept z d.by (arguments left) d.wanted;
      });
}
