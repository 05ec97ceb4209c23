-- A program has at most one flaw.
use Rattle.std.proofs.Common.{◌≡◌, ◌⊎◌, ℕ, ◌<◌, List, [], ◌∷◌, Option, Some, None, refl, sym, ◌∙◌, ap, subst, inl, inr, arith}
use Rattle.dps_lex.specs.declared.vocabulary.Place.{Place}
use Rattle.dps_terms.specs.Tree.{Tree, leaf, var}
use Rattle.dps_signature.specs.Signature.{Signature, shapes}
use Rattle.dps_terms.specs.Bindings.{bound, image}
use Rattle.dps_unify.specs.Unifier.{IsMgu}
use Rattle.dps_unify.specs.Order.{level_of, ComesBefore}
use Rattle.dps_theory.specs.Theory.{Rule}
use Rattle.dps_theory.specs.Overlaps.{room, apart, overlap_levels}
use Rattle.dps_theory.specs.Checking.{numbered_rule}
use Rattle.dps_theory.specs.LawsOfFaults.{NoRulesHaveTwoFaults}
use Rattle.dps_names.specs.Program.{WrittenRule, Program}
use Rattle.dps_rules.specs.Bindings.{both_variables, and_binding, binding_texts, listed_text, bindings_text}
use Rattle.dps_rules.specs.Rules.{rules_of, written_rule, flawed_number, Flaw, form, overlap, IsOverlapOf, IsFlawed}
use Rattle.dps_unify.specs.OneUnifier.{MguIsOne}
use Rattle.dps_rules.specs.LawsOfFlaws.{NoProgramHasTwoFlaws}

-- one rule of a number

some_same : {X : Type 0} (x y : X) → Some x ≡ Some y → x ≡ y
some_same x y e = cc

one_written : (rules : List WrittenRule) (m n : ℕ) (r q : WrittenRule) → m ≡ n → written_rule rules m ≡ Some r → written_rule rules n ≡ Some q → r ≡ q
one_written rules m n r q s e f = some_same r q (sym e ∙ (ap (written_rule rules) s ∙ f))

one_rule : (rules : List Rule) (m n : ℕ) (r q : Rule) → m ≡ n → numbered_rule rules m ≡ Some r → numbered_rule rules n ≡ Some q → r ≡ q
one_rule rules m n r q s e f = some_same r q (sym e ∙ (ap (numbered_rule rules) s ∙ f))

-- one list of bindings

never_before : (o : Option ℕ) (n : ℕ) → ComesBefore o o n n → ⊥
never_before None n b = omega (arith, b)
never_before (Some i) n (inl b) = omega (arith, b)
never_before (Some i) n (inr b) = omega (arith, b.1)

module _ (levels : List (ℕ × ℕ)) (pairs : List (Tree × Tree)) where
  not_itself : (u : List (ℕ × Tree)) → IsMgu levels pairs u → (n : ℕ) → bound u n ≡ Some (leaf (var n)) → ⊥
  not_itself u m n e = never_before (level_of levels n) n (m.least n n e)

  image_of : (u : List (ℕ × Tree)) (n : ℕ) (t : Tree) → bound u n ≡ Some t → image u n ≡ t
  image_of u n t e = rw e refl

  image_none : (u : List (ℕ × Tree)) (n : ℕ) → bound u n ≡ None → image u n ≡ leaf (var n)
  image_none u n e = rw e refl

  same_bound : (u w : List (ℕ × Tree)) → IsMgu levels pairs u → IsMgu levels pairs w → image u ≡ image w → (n : ℕ) (o p : Option Tree) → bound u n ≡ o → bound w n ≡ p → bound u n ≡ bound w n
  same_bound u w a b s n None None e f = e ∙ sym f
  same_bound u w a b s n (Some t) (Some v) e f =
      e ∙ (ap Some (sym (image_of u n t e) ∙ (ap (λ i. i n) s ∙ image_of w n v f)) ∙ sym f)
  same_bound u w a b s n None (Some v) e f =
      absurd (not_itself w b n (f ∙ ap Some (sym (image_of w n v f) ∙ (sym (ap (λ i. i n) s) ∙ image_none u n e))))
  same_bound u w a b s n (Some t) None e f =
      absurd (not_itself u a n (e ∙ ap Some (sym (image_of u n t e) ∙ (ap (λ i. i n) s ∙ image_none w n f))))

module _ (u w : List (ℕ × Tree)) (same : (n : ℕ) → bound u n ≡ bound w n) (by : ℕ) (first second : WrittenRule) (signature : Signature) where
  same_texts : (ns : List ℕ) → binding_texts by first second signature u ns ≡ binding_texts by first second signature w ns
  same_texts [] = refl
  same_texts (n ∷ ns) =
      ap (λ o. and_binding by first second signature n o (binding_texts by first second signature u ns)) (same n)
      ∙ ap (λ texts. and_binding by first second signature n (bound w n) texts) (same_texts ns)

same_bindings :
    (signature : Signature) (first second : WrittenRule) (u w : List (ℕ × Tree)) → ((n : ℕ) → bound u n ≡ bound w n)
    → bindings_text signature first second u ≡ bindings_text signature first second w
same_bindings signature first second u w same = ap listed_text (same_texts u w same (room first.rule) first second signature (both_variables (room first.rule) first second))

-- one flaw

module _ (faults : NoRulesHaveTwoFaults) (mgus : MguIsOne) (program : Program) where
  one_overlap : (k m l n : ℕ) (bs cs : List ℕ) → k ≡ l → m ≡ n → IsOverlapOf program k m bs → IsOverlapOf program l n cs → bs ≡ cs
  one_overlap k m l n bs cs d e f g =
      let earlier : f.earlier ≡ g.earlier = one_written program.rules k l f.earlier g.earlier d f.is_earlier g.is_earlier in
      let rule : f.rule ≡ g.rule = one_written program.rules m n f.rule g.rule e f.is g.is in
      let r : f.overlaps.earlier ≡ g.overlaps.earlier = one_rule (rules_of program) k l f.overlaps.earlier g.overlaps.earlier d f.overlaps.is_earlier g.overlaps.is_earlier in
      let q : f.overlaps.rule ≡ g.overlaps.rule = one_rule (rules_of program) m n f.overlaps.rule g.overlaps.rule e f.overlaps.is g.overlaps.is in
      let levels = overlap_levels f.overlaps.earlier f.overlaps.rule in
      let pairs = (f.overlaps.earlier.left, apart f.overlaps.earlier f.overlaps.rule) ∷ [] in
      let other : IsMgu levels pairs g.unifier = subst (λ (x : Rule). IsMgu (overlap_levels x f.overlaps.rule) ((x.left, apart x f.overlaps.rule) ∷ []) g.unifier) (sym r)
      (subst (λ (y : Rule). IsMgu (overlap_levels g.overlaps.earlier y) ((g.overlaps.earlier.left, apart g.overlaps.earlier y) ∷ []) g.unifier) (sym q) g.overlaps.overlap.most_general) in
      let own : IsMgu levels pairs f.unifier = f.overlaps.overlap.most_general in
      let images = mgus levels pairs f.unifier g.unifier own other in
      let bounds : (x : ℕ) → bound f.unifier x ≡ bound g.unifier x = λ x. same_bound levels pairs f.unifier g.unifier own other images x (bound f.unifier x) (bound g.unifier x) refl refl in
      f.same
      ∙ same_bindings program.signature f.earlier f.rule f.unifier g.unifier bounds
      ∙ (λ i. bindings_text program.signature (earlier i) (rule i) g.unifier)
      ∙ sym g.same

  same_flaw : (p q : Place) (f g : Flaw) → IsFlawed program p f → IsFlawed program q g → f ≡ g
  same_flaw p q (form m a) (form n b) f g =
      let e = faults.forms (shapes program.signature) (rules_of program) m n a b f.first g.first in
      λ i. form (e.0 i) (e.1 i)
  same_flaw p q (form m a) (overlap l n cs) f g = absurd (faults.form_or_overlap (shapes program.signature) (rules_of program) m l n a g.first.unifier f.first g.first.overlaps)
  same_flaw p q (overlap k m bs) (form n b) f g = absurd (faults.form_or_overlap (shapes program.signature) (rules_of program) n k m b f.first.unifier g.first f.first.overlaps)
  same_flaw p q (overlap k m bs) (overlap l n cs) f g =
      let e = faults.overlaps (shapes program.signature) (rules_of program) k m l n f.first.unifier g.first.unifier f.first.overlaps g.first.overlaps in
      let texts : bs ≡ cs = one_overlap k m l n bs cs e.0 e.1 f.first g.first in
      λ i. overlap (e.0 i) (e.1 i) (texts i)

  same_place : (p q : Place) (f g : Flaw) (a : IsFlawed program p f) (b : IsFlawed program q g) → f ≡ g → p ≡ q
  same_place p q f g a b e = a.stands ∙ (ap (λ r. r.place) (one_written program.rules (flawed_number f) (flawed_number g) a.rule b.rule (ap flawed_number e) a.is b.is) ∙ sym b.stands)

pub one_flaw : NoRulesHaveTwoFaults → MguIsOne → NoProgramHasTwoFlaws
one_flaw faults mgus program p q f g a b =
    let e = same_flaw faults mgus program p q f g a b in
    (same_place faults mgus program p q f g a b e, e)
