-- The channels of numbers, and of what they stand for.
use Rattle.std.proofs.Common.{◌≡◌, ℕ, List, [], ◌∷◌, ◌++◌, length, refl, sym, ◌∙◌, ap, subst, inl, inr, Some, None}
use Rattle.std.specs.Prelude.{◌⊎◌, ◌↔◌, Contains, slice_get}
use Rattle.std.proofs.lemmas.Option.{slice_get_read}
use Rattle.dps_process.specs.Process.{Process, output}
use Rattle.dps_process.specs.Steps.{Config, Removes}
use Rattle.dps_process.proofs.Bags.{reordered_refl, reordered_sym, taken_reordered}
use Rattle.dps_tree.specs.Table.{frame_of}
use Rattle.dps_tree.specs.Groups.{Holds, AreNamed}
use Rattle.dps_tree.specs.Following.{OneOffers, NumberOffers, GroupsOffer, AddsOffers}
use Rattle.dps_tree.specs.declared.table.Output.{Output}
use Rattle.dps_tree.specs.declared.table.Table.{Table}
use Rattle.dps_tree.specs.declared.group.Group.{Group}
use Rattle.dps_tree.proofs.Holding.{contains_none, contains_pushed, contains_at}
use Rattle.dps_tree.proofs.OutputNumbers.{stands_for, stand_around, stand_at}

module _ {P : ℕ → Type 0} where
  pub offers_none : (old : List ℕ) → ((c : ℕ) → ¬ P c) → AddsOffers P old old
  offers_none old h c = (λ a. inl a, elim [ inl a ↦ a | inr p ↦ absurd (h c p) ])

  module _ {Q : ℕ → Type 0} where
    pub offers_both : (old mid new : List ℕ) → AddsOffers P old mid → AddsOffers Q mid new → AddsOffers (λ c. P c ⊎ Q c) old new
    offers_both old mid new h g c = (
      λ a. elim ((g c).0 a) [ inl b ↦ elim ((h c).0 b) [ inl d ↦ inl d | inr p ↦ inr (inl p) ] | inr q ↦ inr (inr q) ],
      elim [ inl a ↦ (g c).1 (inl ((h c).1 (inl a))) | inr e ↦ elim e [ inl p ↦ (g c).1 (inl ((h c).1 (inr p))) | inr q ↦ (g c).1 (inr q) ] ],
    )

    pub offers_same : (old new : List ℕ) → ((c : ℕ) → P c → Q c) → ((c : ℕ) → Q c → P c) → AddsOffers P old new → AddsOffers Q old new
    offers_same old new to from h c = (
      λ a. elim ((h c).0 a) [ inl b ↦ inl b | inr p ↦ inr (to c p) ],
      elim [ inl a ↦ (h c).1 (inl a) | inr q ↦ (h c).1 (inr (from c q)) ],
    )

-- what some of a list offer, item after item
module _ {A : Type 0} (P : A → ℕ → Type 0) where
  abbrev pub OneIs : List A → ℕ → Type 0
  OneIs xs c = (x : A) × Contains xs x × P x c

  pub one_is_none : (old : List ℕ) → AddsOffers (OneIs []) old old
  one_is_none old = offers_none {P = OneIs []} old (λ c p. contains_none p.0 p.1)

  pub one_is_more : (xs : List A) (x : A) (old mid new : List ℕ) → AddsOffers (OneIs xs) old mid → AddsOffers (P x) mid new → AddsOffers (OneIs (xs ++ x ∷ [])) old new
  one_is_more xs x old mid new h g =
      offers_same {P = λ c. OneIs xs c ⊎ P x c} {Q = OneIs (xs ++ x ∷ [])} old new
      (λ c e. elim e [ inl p ↦ (p.0, (contains_pushed xs x p.0).1 (inl p.1), p.2) | inr q ↦ (x, (contains_pushed xs x x).1 (inr refl), q) ])
      (λ c p. elim ((contains_pushed xs x p.0).0 p.1) [ inl d ↦ inl (p.0, d, p.2) | inr e ↦ inr (subst (λ (y : A). P y c) e p.2) ])
      (offers_both {P = OneIs xs} {Q = P x} old mid new h g)

-- one number
pub number_added :
    (table : Table) (n : ℕ) (o : Output) (old new : List ℕ) → slice_get table.outputs.items n ≡ Some o
    → ((c : ℕ) → Contains new c ↔ (Contains old c ⊎ (c ≡ o.channel))) → AddsOffers (NumberOffers table n) old new
number_added table n o old new e h c = (
  λ a. elim ((h c).0 a) [ inl b ↦ inl b | inr s ↦ inr (o, e, sym s) ],
  elim [ inl a ↦ (h c).1 (inl a) | inr p ↦ (h c).1 (inr (sym p.2 ∙ ap (λ (x : Output). x.channel) (one p.0 p.1))) ],
)
  where
    one : (x : Output) → slice_get table.outputs.items n ≡ Some x → x ≡ o
    one x g = cc (e, g)

pub number_left : (table : Table) (n : ℕ) (old : List ℕ) → slice_get table.outputs.items n ≡ None → AddsOffers (NumberOffers table n) old old
number_left table n old e = offers_none {P = NumberOffers table n} old (λ c p. cc (e, p.1))

pub groups_offered : (table : Table) (groups : List Group) (c : ℕ) → AreNamed table groups → GroupsOffer table groups c → OneOffers (Holds table groups) c
groups_offered table groups c named h =
    let g = h.0 in
    let bag = h.2.0 in
    let number = h.2.2.0 in
    let place = h.2.2.1.0 in
    let there = slice_get_read bag (length bag) place number refl h.2.2.1.1 (sym h.2.2.1.2) in
    let p = named g h.1 bag h.2.1 in
    let a = stand_at bag place number p.0 there p.1 in
    let s = stands_for a.one in
    let o : s.output_of ≡ h.2.2.2.0 = cc (s.there, h.2.2.2.1) in
    let channel : s.output_of.channel ≡ c = ap (λ (x : Output). x.channel) o ∙ h.2.2.2.2 in
    let part : a.part ≡ output c s.message s.then = s.same ∙ ap (λ n. output n s.message s.then) channel in
    let k : Config = record { parts = p.0; frame = frame_of table g.frame.items } in
    (k, (g, h.1, record { bag = bag; there = h.2.1; parts = (p.0, p.1, reordered_refl p.0); frame = refl }), (s.message, s.then, a.rest, subst (λ (x : Process). Removes x p.0 a.rest) part a.taken))

pub offered_groups : (table : Table) (groups : List Group) (c : ℕ) → OneOffers (Holds table groups) c → GroupsOffer table groups c
offered_groups table groups c h =
    let g = h.1.0 in
    let inside = h.1.2 in
    let t = taken_reordered h.2.3 (reordered_sym inside.parts.2) in
    let a = stand_around t.1 inside.parts.1 in
    let s = stands_for a.one in
    let channel : s.output_of.channel ≡ c = cc (s.same) in
    (g, h.1.1, (inside.bag, inside.there, (a.number, contains_at inside.bag a.place a.number a.there, (s.output_of, s.there, channel))))
