-- The bags that go on, part by part and one after another.
use Rattle.std.proofs.Common.{◌≡◌, ℕ, zero, suc, ◌<◌, ◌≤◌, ◌+◌, List, [], ◌∷◌, ◌++◌, length, refl, sym, ◌∙◌, ap, subst, inl, inr, arith, take, drop, Option, Some, None, false}
use Rattle.std.specs.Prelude.{◌⊎◌, ◌↔◌, Contains, slice_get}
use Rattle.std.specs.List.Sorted.{IsPermutation}
use Rattle.std.proofs.lemmas.List.Sorted.{IsPermutation-refl, IsPermutation-sym, IsPermutation-trans}
use Rattle.std.specs.Ordering.{nat_cmp, is_eq}
use Rattle.std.specs.declared.cmp.Ordering.{Ordering}
use Rattle.std.specs.declared.cmp.Ordering.TheVariants.{Less, Equal, Greater}
use Rattle.std.specs.Cmp.{nat_cmp_total}
use Rattle.std.specs.BTreeMap.{get, IsOrdered}
use Rattle.std.proofs.lemmas.Bool.Decides.{eqb_tells}
use Rattle.std.proofs.lemmas.Map.Lookups.{exact_unsigned}
use Rattle.std.proofs.lemmas.Map.Views.{btree_map_get_iff}
use Rattle.std.proofs.lemmas.Option.{slice_get_within, none-some}
use Rattle.dps_tree.specs.Following.{IsAfter, GoesOnAt, GoesOn, OneGoesOn, StandsAt, IsMore, IsJust, IsRepeated, IsOutputAt, AreMore, GroupGoesOn, GroupsGoOn, LeadsOn, IsTaken, AreSameBut}
use Rattle.dps_tree.specs.declared.table.Output.{Output}
use Rattle.dps_tree.specs.declared.table.Table.{Table}
use Rattle.dps_tree.specs.declared.group.Group.{Group}
use Rattle.dps_tree.specs.declared.next.Next.{Next}
use Rattle.dps_tree.proofs.Holding.{contains_none, contains_pushed}

module _ {P : ℕ → List ℕ → Type 0} where
  pub more_none : (next : Next) → ((m : ℕ) (bag : List ℕ) → ¬ P m bag) → IsMore P next next
  more_none next h = record { kept = λ m bag s. s; added = λ m bag p. absurd (h m bag p); sound = λ m bag s. inl s }

  module _ {Q : ℕ → List ℕ → Type 0} where
    -- two additions, and the same addition in other words
    pub more_both : (old mid new : Next) → IsMore P old mid → IsMore Q mid new → IsMore (λ m bag. P m bag ⊎ Q m bag) old new
    more_both old mid new h g = record {
      kept = λ m bag s. g.kept m bag (h.kept m bag s);
      added = λ m bag e. elim e [ inl p ↦ (let k = h.added m bag p in (k.0, k.1, g.kept m k.0 k.2)) | inr q ↦ g.added m bag q ];
      sound = λ m bag s. elim (g.sound m bag s) [ inl a ↦ elim (h.sound m bag a) [ inl b ↦ inl b | inr p ↦ inr (inl p) ] | inr q ↦ inr (inr q) ];
    }

    pub more_same : (old new : Next) → ((m : ℕ) (bag : List ℕ) → P m bag → Q m bag) → ((m : ℕ) (bag : List ℕ) → Q m bag → P m bag) → IsMore P old new → IsMore Q old new
    more_same old new to from h = record {
      kept = h.kept;
      added = λ m bag q. h.added m bag (from m bag q);
      sound = λ m bag s. elim (h.sound m bag s) [ inl a ↦ inl a | inr p ↦ inr (to m bag p) ];
    }

    pub just_more : (mid new : Next) → IsJust P mid → IsMore Q mid new → IsJust (λ m bag. P m bag ⊎ Q m bag) new
    just_more mid new h g = record {
      complete = λ m bag e. elim e [ inl p ↦ (let k = h.complete m bag p in (k.0, k.1, g.kept m k.0 k.2)) | inr q ↦ g.added m bag q ];
      sound = λ m bag s. elim (g.sound m bag s) [ inl a ↦ inl (h.sound m bag a) | inr q ↦ inr q ];
    }

    pub just_same : (next : Next) → ((m : ℕ) (bag : List ℕ) → P m bag → Q m bag) → ((m : ℕ) (bag : List ℕ) → Q m bag → P m bag) → IsJust P next → IsJust Q next
    just_same next to from h = record { complete = λ m bag q. h.complete m bag (from m bag q); sound = λ m bag s. to m bag (h.sound m bag s) }

  pub just_none : (next : Next) → ((m : ℕ) (bag : List ℕ) → ¬ StandsAt next m bag) → ((m : ℕ) (bag : List ℕ) → ¬ P m bag) → IsJust P next
  just_none next e h = record { complete = λ m bag p. absurd (h m bag p); sound = λ m bag s. absurd (e m bag s) }

split_below : (j i : ℕ) → j < i + 1 → (j < i) ⊎ (j ≡ i)
split_below j i l = grind arith

module _ (table : Table) (bag : List ℕ) (c : ℕ) where
  -- what goes on after one of the first outputs
  abbrev pub GoesOnBelow : ℕ → ℕ → List ℕ → Type 0
  GoesOnBelow i m next = (j : ℕ) × (j < i) × GoesOnAt table bag c j m next

  pub below_none : (next : Next) → IsMore (GoesOnBelow 0) next next
  below_none next = more_none {P = GoesOnBelow 0} next (λ m b h. omega (arith, h.1))

  pub below_more : (i : ℕ) (old mid new : Next) → IsMore (GoesOnBelow i) old mid → IsMore (GoesOnAt table bag c i) mid new → IsMore (GoesOnBelow (i + 1)) old new
  below_more i old mid new h g =
      more_same {P = λ m next. GoesOnBelow i m next ⊎ GoesOnAt table bag c i m next} {Q = GoesOnBelow (i + 1)} old new
      (λ m b e. elim e [ inl p ↦ (p.0, omega (arith, p.1), p.2) | inr q ↦ (i, omega arith, q) ])
      (λ m b p. elim (split_below p.0 i p.1) [ inl l ↦ inl (p.0, l, p.2) | inr e ↦ inr (subst (λ (j : ℕ). GoesOnAt table bag c j m b) e p.2) ])
      (more_both {P = GoesOnBelow i} {Q = GoesOnAt table bag c i} old mid new h g)

  shifted : (x : ℕ) (xs : List ℕ) (j : ℕ) → drop (suc j + 1) (x ∷ xs) ≡ drop (j + 1) xs
  shifted x xs j = let n : suc j + 1 ≡ suc (j + 1) = omega arith in ap (λ m. drop m (x ∷ xs)) n

  without_repeated : (xs : List ℕ) (j n : ℕ) → slice_get xs j ≡ Some n → slice_get xs (suc j) ≡ Some n → take (suc j) xs ++ drop (suc j + 1) xs ≡ take j xs ++ drop (j + 1) xs
  without_repeated [] j n e f = absurd (none-some n e)
  without_repeated (x ∷ []) zero n e f = absurd (none-some n f)
  without_repeated (x ∷ y ∷ xs) zero n e f =
      let first : x ≡ n = cc in
      let second : y ≡ n = cc in
      ap (λ z. z ∷ xs) (first ∙ sym second)
  without_repeated (x ∷ xs) (suc j) n e f =
      ap (λ ys. x ∷ (take (suc j) xs ++ ys)) (shifted x xs (suc j)) ∙ (ap (λ ys. x ∷ ys) (without_repeated xs j n e f) ∙ sym (ap (λ ys. x ∷ (take j xs ++ ys)) (shifted x xs j)))

  -- a number that is repeated adds nothing
  at_earlier : (i m : ℕ) (next : List ℕ) (r : IsRepeated bag i) → GoesOnAt table bag c i m next → GoesOnAt table bag c r.0 m next
  at_earlier i m next r g =
      let same : take i bag ++ drop (i + 1) bag ≡ take r.0 bag ++ drop (r.0 + 1) bag = ap (λ n. take n bag ++ drop (n + 1) bag) r.2
      ∙ without_repeated bag r.0 r.1 r.3 (ap (slice_get bag) (sym r.2) ∙ r.4) in
      record {
        output = g.output;
        there = (g.there.0, r.3 ∙ (sym r.4 ∙ g.there.1), g.there.2);
        channel = g.channel;
        message = g.message;
        after = subst (λ (ns : List ℕ). IsPermutation (ns ++ g.output.then.items) next) same g.after;
      }

  pub below_repeated : (i : ℕ) (old new : Next) → IsRepeated bag i → IsMore (GoesOnBelow i) old new → IsMore (GoesOnBelow (i + 1)) old new
  below_repeated i old new r h =
      more_same {P = GoesOnBelow i} {Q = GoesOnBelow (i + 1)} old new
      (λ m b p. (p.0, omega (arith, p.1), p.2))
      (λ m b p. elim (split_below p.0 i p.1) [
        | inl l ↦ (p.0, l, p.2)
        | inr e ↦ (r.0, omega (arith, r.2), at_earlier i m b r (subst (λ (j : ℕ). GoesOnAt table bag c j m b) e p.2))
      ])
      h

  pub below_all : (i : ℕ) (old new : Next) → length bag ≤ i → IsMore (GoesOnBelow i) old new → IsMore (GoesOn table bag c) old new
  below_all i old new l h =
      more_same {P = GoesOnBelow i} {Q = GoesOn table bag c} old new
      (λ m b p. (p.0, p.2))
      (λ m b p. (p.0, omega (arith, l, slice_get_within bag p.0 p.1.there.0 p.1.there.1), p.1))
      h

  -- one part
  pub part_more :
      (i : ℕ) (o : Output) (next : List ℕ) (old new : Next) → IsOutputAt table bag i o → o.channel ≡ c → IsAfter bag i o.then.items next
      → IsMore (λ m b. (m ≡ o.message) × (b ≡ next)) old new → IsMore (GoesOnAt table bag c i) old new
  part_more i o next old new t e a h = record {
    kept = h.kept;
    added = λ m b g. (let k = h.added o.message next (refl, refl) in
        let same = one g in (
          k.0,
          IsPermutation-trans b next k.0
              (IsPermutation-trans b ((take i bag ++ drop (i + 1) bag) ++ o.then.items) next
              (IsPermutation-sym _ b (subst (λ (p : Output). IsPermutation ((take i bag ++ drop (i + 1) bag) ++ p.then.items) b) same g.after)) a) k.1,
          subst (λ (n : ℕ). StandsAt new n k.0) (ap (λ (p : Output). p.message) (sym same) ∙ g.message) k.2,
        ));
    sound = λ m b s. elim (h.sound m b s) [
      | inl p ↦ inl p
      | inr q ↦ inr (record { output = o; there = t; channel = e; message = sym q.0; after = subst (λ (ns : List ℕ). IsAfter bag i o.then.items ns) (sym q.1) a })
    ];
  }
    where
      one : {m : ℕ} {b : List ℕ} → (g : GoesOnAt table bag c i m b) → g.output ≡ o
      one g =
          let n : g.there.0 ≡ t.0 = cc (g.there.1, t.1) in
          let there : slice_get table.outputs.items t.0 ≡ Some g.output = ap (slice_get table.outputs.items) (sym n) ∙ g.there.2 in
          cc (there, t.2)

  pub part_not : (i : ℕ) (next : Next) → ((o : Output) → IsOutputAt table bag i o → ¬ (o.channel ≡ c)) → IsMore (GoesOnAt table bag c i) next next
  part_not i next h = more_none {P = GoesOnAt table bag c i} next (λ m b g. h g.output g.there g.channel)

  pub part_other : (i n : ℕ) (o : Output) (next : Next) → slice_get bag i ≡ Some n → slice_get table.outputs.items n ≡ Some o → ¬ (o.channel ≡ c) → IsMore (GoesOnAt table bag c i) next next
  part_other i n o next e f h = part_not i next (λ x t s. h (ap (λ (y : Output). y.channel) (same x t) ∙ s))
    where
      same : (x : Output) → IsOutputAt table bag i x → o ≡ x
      same x t =
          let m : n ≡ t.0 = cc (e, t.1) in
          let there : slice_get table.outputs.items n ≡ Some x = ap (slice_get table.outputs.items) m ∙ t.2 in
          cc (f, there)

  pub part_none : (i n : ℕ) (next : Next) → slice_get bag i ≡ Some n → slice_get table.outputs.items n ≡ None → IsMore (GoesOnAt table bag c i) next next
  part_none i n next e f = part_not i next (λ x t s. none_there x t)
    where
      none_there : (x : Output) → IsOutputAt table bag i x → ⊥
      none_there x t =
          let m : n ≡ t.0 = cc (e, t.1) in
          none-some x (sym f ∙ (ap (slice_get table.outputs.items) m ∙ t.2))

-- bag after bag
pub one_none : (table : Table) (c : ℕ) (next : Next) → ((m : ℕ) (bag : List ℕ) → ¬ StandsAt next m bag) → IsJust (OneGoesOn table [] c) next
one_none table c next e = just_none {P = OneGoesOn table [] c} next e (λ m b p. contains_none p.0 p.1)

pub one_more :
    (table : Table) (c : ℕ) (bags : List (List ℕ)) (bag : List ℕ) (mid new : Next) → IsJust (OneGoesOn table bags c) mid → IsMore (GoesOn table bag c) mid new
    → IsJust (OneGoesOn table (bags ++ bag ∷ []) c) new
one_more table c bags bag mid new h g =
    just_same {P = λ m next. OneGoesOn table bags c m next ⊎ GoesOn table bag c m next} {Q = OneGoesOn table (bags ++ bag ∷ []) c} new
    (λ m b e. elim e [ inl p ↦ (p.0, (contains_pushed bags bag p.0).1 (inl p.1), p.2) | inr q ↦ (bag, (contains_pushed bags bag bag).1 (inr refl), q) ])
    (λ m b p. elim ((contains_pushed bags bag p.0).0 p.1) [ inl d ↦ inl (p.0, d, p.2) | inr e ↦ inr (subst (λ (ns : List ℕ). GoesOn table ns c m b) e p.2) ])
    (just_more {P = OneGoesOn table bags c} {Q = GoesOn table bag c} mid new h g)

-- groups after groups
module _ {P : List ℕ → ℕ → List ℕ → Type 0} where
  pub groups_none : (groups : List Group) → ((frame : List ℕ) (m : ℕ) (bag : List ℕ) → ¬ P frame m bag) → AreMore P groups groups
  groups_none groups h = record { kept = λ g c. c; added = λ frame m bag p. absurd (h frame m bag p); sound = λ g c. inl c }

  module _ {Q : List ℕ → ℕ → List ℕ → Type 0} where
    pub groups_both : (old mid new : List Group) → AreMore P old mid → AreMore Q mid new → AreMore (λ frame m bag. P frame m bag ⊎ Q frame m bag) old new
    groups_both old mid new h g = record {
      kept = λ x c. g.kept x (h.kept x c);
      added = λ frame m bag e. elim e [
        | inl p ↦ (let k = h.added frame m bag p in (k.0, k.1, (k.2.0, g.kept k.2.0 k.2.1, k.2.2, k.2.3)))
        | inr q ↦ g.added frame m bag q
      ];
      sound = λ x c. elim (g.sound x c) [
        | inl a ↦ elim (h.sound x a) [ inl b ↦ inl b | inr p ↦ inr (p.0, p.1, p.2, λ bag d. inl (p.3 bag d)) ]
        | inr q ↦ inr (q.0, q.1, q.2, λ bag d. inr (q.3 bag d))
      ];
    }

    pub groups_same :
        (old new : List Group) → ((frame : List ℕ) (m : ℕ) (bag : List ℕ) → P frame m bag → Q frame m bag)
        → ((frame : List ℕ) (m : ℕ) (bag : List ℕ) → Q frame m bag → P frame m bag) → AreMore P old new → AreMore Q old new
    groups_same old new to from h = record {
      kept = h.kept;
      added = λ frame m bag q. h.added frame m bag (from frame m bag q);
      sound = λ g c. elim (h.sound g c) [ inl a ↦ inl a | inr p ↦ inr (p.0, p.1, p.2, λ bag d. to p.0 p.1 bag (p.3 bag d)) ];
    }

pub group_none : (table : Table) (c : ℕ) → AreMore (GroupsGoOn table [] c) [] []
group_none table c = groups_none {P = GroupsGoOn table [] c} [] (λ frame m b p. contains_none p.0 p.1)

pub group_more :
    (table : Table) (c : ℕ) (groups : List Group) (g : Group) (mid new : List Group) → AreMore (GroupsGoOn table groups c) [] mid
    → AreMore (GroupGoesOn table g c) mid new → AreMore (GroupsGoOn table (groups ++ g ∷ []) c) [] new
group_more table c groups g mid new h k =
    groups_same {P = λ frame m next. GroupsGoOn table groups c frame m next ⊎ GroupGoesOn table g c frame m next} {Q = GroupsGoOn table (groups ++ g ∷ []) c} [] new
    (λ frame m b e. elim e [ inl p ↦ (p.0, (contains_pushed groups g p.0).1 (inl p.1), p.2) | inr q ↦ (g, (contains_pushed groups g g).1 (inr refl), q) ])
    (λ frame m b p. elim ((contains_pushed groups g p.0).0 p.1) [ inl d ↦ inl (p.0, d, p.2) | inr e ↦ inr (subst (λ (x : Group). GroupGoesOn table x c frame m b) e p.2) ])
    (groups_both {P = GroupsGoOn table groups c} {Q = GroupGoesOn table g c} [] mid new h k)

-- the bags that were found become groups
pub groups_of_next :
    (table : Table) (c : ℕ) (group : Group) (next : Next) (old new : List Group) → IsJust (OneGoesOn table group.bags c) next
    → AreMore (LeadsOn group.frame.items next) old new → AreMore (GroupGoesOn table group c) old new
groups_of_next table c group next old new j h = record {
  kept = h.kept;
  added = λ frame m bag p. (let k = j.complete m bag p.1 in
      let l = h.added frame m k.0 (p.0, k.2) in (l.0, IsPermutation-trans bag k.0 l.0 k.1 l.1, l.2));
  sound = λ g c. elim (h.sound g c) [ inl a ↦ inl a | inr p ↦ inr (p.0, p.1, p.2, λ bag d. (let q = p.3 bag d in (q.0, j.sound p.1 bag q.1))) ];
}

-- the groups of the first entries of a map of bags
abbrev pub LeadsBy : List ℕ → List (ℕ × List (List ℕ)) → List ℕ → ℕ → List ℕ → Type 0
LeadsBy last entries frame m bag = (frame ≡ last) × ((bags : List (List ℕ)) × Contains entries (m, bags) × Contains bags bag)

pub entries_none : (last : List ℕ) (groups : List Group) → AreMore (LeadsBy last []) groups groups
entries_none last groups = groups_none {P = LeadsBy last []} groups (λ frame m b p. contains_none _ p.1.1)

pub entries_more :
    (last : List ℕ) (done : List (ℕ × List (List ℕ))) (m : ℕ) (bags : List (List ℕ)) (g : Group) (old mid : List Group) → AreMore (LeadsBy last done) old mid
    → g.frame.items ≡ last ++ m ∷ [] → g.bags ≡ bags → AreMore (LeadsBy last (done ++ (m, bags) ∷ [])) old (mid ++ g ∷ [])
entries_more last done m bags g old mid h f e = record {
  kept = λ x c. (contains_pushed mid g x).1 (inl (h.kept x c));
  added = λ frame n bag p. elim ((contains_pushed done (m, bags) (n, p.1.0)).0 p.1.1) [
    | inl d ↦ (let k = h.added frame n bag (p.0, (p.1.0, d, p.1.2)) in (k.0, k.1, (k.2.0, (contains_pushed mid g k.2.0).1 (inl k.2.1), k.2.2, k.2.3)))
    | inr s ↦ (
      bag,
      IsPermutation-refl bag,
      (
        g,
        (contains_pushed mid g g).1 (inr refl),
        f ∙ (ap (λ ls. ls ++ m ∷ []) (sym p.0) ∙ ap (λ (z : ℕ × List (List ℕ)). frame ++ z.0 ∷ []) (sym s)),
        subst
            (λ (bs : List (List ℕ)). Contains bs bag) (ap (λ (z : ℕ × List (List ℕ)). z.1) s ∙ sym e) p.1.2,
      ),
    )
  ];
  sound = λ x c. elim ((contains_pushed mid g x).0 c) [
    | inl d ↦ elim (h.sound x d) [ inl a ↦ inl a | inr p ↦ inr (p.0, p.1, p.2, λ bag k. (let q = p.3 bag k in (q.0, (q.1.0, (contains_pushed done (m, bags) (p.1, q.1.0)).1 (inl q.1.1), q.1.2)))) ]
    | inr s ↦ inr (
      last,
      m,
      ap (λ (y : Group). y.frame.items) s ∙ f,
      λ bag k.
          (refl, (bags, (contains_pushed done (m, bags) (m, bags)).1 (inr refl), subst (λ (bs : List (List ℕ)). Contains bs bag) (ap (λ (y : Group). y.bags) s ∙ e) k)),
    )
  ];
}

-- one more bag at a message
module _ (message : ℕ) (bag : List ℕ) (old new : Next) (start grown : List (List ℕ)) (taken : IsTaken (get nat_cmp old.bags message) start)
    (added : (b : List ℕ) → Contains grown b ↔ (Contains start b ⊎ (b ≡ bag))) (there : get nat_cmp new.bags message ≡ Some grown) (others : AreSameBut message old new) where
  start_there : (b : List ℕ) (o : Option (List (List ℕ))) → get nat_cmp old.bags message ≡ o → IsTaken o start → Contains start b → StandsAt old message b
  start_there b None e t c = absurd (contains_none b (subst (λ (bs : List (List ℕ)). Contains bs b) t c))
  start_there b (Some bs) e t c = (bs, e, subst (λ (x : List (List ℕ)). Contains x b) t c)

  in_start : (b : List ℕ) (bs : List (List ℕ)) (o : Option (List (List ℕ))) → o ≡ Some bs → IsTaken o start → Contains bs b → Contains start b
  in_start b bs None e t c = absurd (none-some bs e)
  in_start b bs (Some ds) e t c = let s : bs ≡ ds = cc in subst (λ (x : List (List ℕ)). Contains x b) (s ∙ sym t) c

  pub bag_more : IsMore (λ m b. (m ≡ message) × (b ≡ bag)) old new
  bag_more = record {
    kept = λ m b s. elim (eqb_tells m message) [
      | inl e ↦ (
        grown,
        ap (get nat_cmp new.bags) e.1 ∙ there,
        (added b).1 (inl (in_start b s.0 (get nat_cmp old.bags message) (ap (get nat_cmp old.bags) (sym e.1) ∙ s.1) taken s.2)),
      )
      | inr n ↦ (s.0, others m n.1 ∙ s.1, s.2)
    ];
    added = λ m b p. (bag, subst (λ (x : List ℕ). IsPermutation x bag) (sym p.1) (IsPermutation-refl bag), (grown, ap (get nat_cmp new.bags) p.0 ∙ there, (added bag).1 (inr refl)));
    sound = λ m b s. elim (eqb_tells m message) [
      | inl e ↦ at_message m b s.0 e.1 s.1 s.2
      | inr n ↦ inl (s.0, sym (others m n.1) ∙ s.1, s.2)
    ];
  }
    where
      at_message : (m : ℕ) (b : List ℕ) (bs : List (List ℕ)) → m ≡ message → get nat_cmp new.bags m ≡ Some bs → Contains bs b → StandsAt old m b ⊎ ((m ≡ message) × (b ≡ bag))
      at_message m b bs e f c =
          let s : bs ≡ grown = cc (e, f, there) in
          elim ((added b).0 (subst (λ (x : List (List ℕ)). Contains x b) s c)) [
            | inl d ↦ inl (subst (λ (n : ℕ). StandsAt old n b) (sym e) (start_there b (get nat_cmp old.bags message) refl taken d))
            | inr d ↦ inr (e, d)
          ]

-- the groups of all entries
pub entries_all : (last : List ℕ) (next : Next) (old new : List Group) → IsOrdered nat_cmp next.bags → AreMore (LeadsBy last next.bags.entries) old new → AreMore (LeadsOn last next) old new
entries_all last next old new o h =
    groups_same {P = LeadsBy last next.bags.entries} {Q = LeadsOn last next} old new
    (λ frame m b p. (p.0, (p.1.0, (btree_map_get_iff nat_cmp_total exact_unsigned next.bags o m p.1.0).1 p.1.1, p.1.2)))
    (λ frame m b q. (q.0, (q.1.0, (btree_map_get_iff nat_cmp_total exact_unsigned next.bags o m q.1.0).0 q.1.1, q.1.2)))
    h

pub at_apart : (m q : ℕ) → ¬ (q ≡ m) → is_eq (nat_cmp m q) ≡ false
at_apart m q h = told (nat_cmp m q) refl
  where
    told : (o : Ordering) → nat_cmp m q ≡ o → is_eq o ≡ false
    told Less e = refl
    told Equal e = absurd (h (sym (exact_unsigned m q e)))
    told Greater e = refl
