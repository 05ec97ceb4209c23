-- The sides that a well formed program is written out to are lawful.
use Rattle.std.proofs.Common.{◌≡◌, ◌≤◌, ◌^◌, Bool, true, false, cond, List, [], ◌++◌, refl, subst, arith}
use Rattle.std.specs.Prelude.{Option, Some, None, slice_get, ◌||◌, nat_lt}
use Rattle.std.proofs.lemmas.Bool.{ltb-false}
use Rattle.dps_lex.specs.declared.vocabulary.Place.{Place}
use Rattle.dps_signature.specs.declared.SymKind.{SymKind}
use Rattle.dps_signature.specs.declared.SymKind.TheVariants.{Constructor, Destructor}
use Rattle.dps_terms.specs.Tree.{Tree, Trees, leaf, app, none, more, node_count, node_counts}
use Rattle.dps_signature.specs.Signature.{Shape, Signature, shapes}
use Rattle.dps_process.specs.Process.{Process, nil, parallel, choice, conditional, bind, input, output, size, term_sum, EachBinder}
use Rattle.dps_process.specs.Problem.{IsLawfulSide, shape_destructor, destructors, destructors_of}
use Rattle.dps_names.specs.Program.{Program}
use Rattle.dps_names.specs.WellFormed.{IsWellFormed}
use Rattle.dps_elab.specs.Expansion.{Expansion, left_expansion, right_expansion, first_numbers}
use Rattle.dps_elab.specs.Limits.{is_too_large, process_height}
use Rattle.dps_elab.specs.Meaning.{Expanded, sides, refused, first_such, is_no_channel, is_channel, checked_privates, checked_channels, checked, expanded}
use Rattle.dps_elab.specs.declared.fault.ExpansionCause.TheVariants.{TooLarge}
use Rattle.dps_elab.specs.declared.found.PrivateUse.{PrivateUse}
use Rattle.dps_elab.specs.declared.found.ChannelUse.{ChannelUse}
use Rattle.dps_elab.proofs.HighBinders.{sides_high}
use Rattle.dps_elab.proofs.LawfulChannels.{AreNamed, all_named, named_first, named_last}
use Rattle.dps_elab.proofs.LawfulExpansion.{IsGood, side_good}

-- a term has at most as many destructors as nodes
at_most_one : (o : Option Shape) → shape_destructor o ≤ 1
at_most_one None = omega arith
at_most_one (Some s) = of_kind s.kind
  where
    of_kind : (kind : SymKind) → shape_destructor (Some (record { kind = kind; arity = s.arity })) ≤ 1
    of_kind Destructor = omega arith
    of_kind Constructor = omega arith

module _ (known : List Shape) where
  mutual
    few_in_term : (t : Tree) → destructors known t ≤ node_count t
    few_in_term (leaf x) = omega arith
    few_in_term (app f ts) = omega (arith, at_most_one (slice_get known f.number), few_in_terms ts)

    few_in_terms : (ts : Trees) → destructors_of known ts ≤ node_counts ts
    few_in_terms none = omega arith
    few_in_terms (more t ts) = omega (arith, few_in_term t, few_in_terms ts)

  few_in_process : (p : Process) → term_sum (destructors known) p ≤ term_sum node_count p
  few_in_process nil = omega arith
  few_in_process (parallel p q) = omega (arith, few_in_process p, few_in_process q)
  few_in_process (choice p q) = omega (arith, few_in_process p, few_in_process q)
  few_in_process (conditional u v p q) = omega (arith, few_in_term u, few_in_term v, few_in_process p, few_in_process q)
  few_in_process (bind x u p q) = omega (arith, few_in_term u, few_in_process p, few_in_process q)
  few_in_process (input c x p) = few_in_process p
  few_in_process (output c u p) = omega (arith, few_in_term u, few_in_process p)

-- a side that is not too large
first_of_both : (a b : Bool) → (a || b) ≡ false → a ≡ false
first_of_both true b e = absurd (cc)
first_of_both false b e = refl

small_side : (p : Process) → is_too_large p ≡ false → size p ≤ 65536
small_side p e = ltb-false 65536 (size p) (first_of_both (nat_lt 65536 (size p)) (nat_lt 1000 (process_height p)) e)

good_side : (signature : Signature) (e : Expansion) → IsGood signature [] e → AreNamed e.channels → is_too_large e.process ≡ false → IsLawfulSide signature e.process
good_side signature e g c s =
    let small = small_side e.process s in
    record {
      closed = g.scoped.free;
      channels = g.channels c;
      terms = g.scoped.terms;
      small = omega arith;
      few_destructors = omega (arith, few_in_process (shapes signature) e.process);
    }

-- what holds where both sides are written
record AreWritten (p q left right : Process) (cs : List ChannelUse) : Type 0 where
  left_fits : is_too_large p ≡ false
  right_fits : is_too_large q ≡ false
  named : AreNamed cs
  left_is : p ≡ left
  right_is : q ≡ right

of_privates : (p q left right : Process) (o : Option PrivateUse) → checked_privates p q o ≡ sides left right → (p ≡ left) × (q ≡ right)
of_privates p q left right (Some u) e = absurd (cc)
of_privates p q left right None e = (cc, cc)

of_channels : (p q left right : Process) (cs : List ChannelUse) (us : List PrivateUse) (o : Option ChannelUse) → checked_channels p q cs us o ≡ sides left right → (o ≡ None) × (p ≡ left) × (q ≡ right)
of_channels p q left right cs us (Some c) e = absurd (cc)
of_channels p q left right cs us None e =
    let k = of_privates p q left right (first_such (λ u. is_channel cs u.name) us) e in (refl, k.0, k.1)

of_limits :
    (b c : Bool) (at_left at_right : Place) (x : Expanded) (left right : Process)
    → cond b (refused at_left TooLarge) (cond c (refused at_right TooLarge) x) ≡ sides left right → (b ≡ false) × (c ≡ false) × (x ≡ sides left right)
of_limits true c at_left at_right x left right e = absurd (cc)
of_limits false true at_left at_right x left right e = absurd (cc)
of_limits false false at_left at_right x left right e = (refl, refl, e)

written :
    (program : Program) (left right : Process) → expanded program ≡ sides left right
    → AreWritten (left_expansion program).process (right_expansion program).process left right ((left_expansion program).channels ++ (right_expansion program).channels)
written program left right e =
    let a : Expansion = left_expansion program in
    let b : Expansion = right_expansion program in
    let cs : List ChannelUse = a.channels ++ b.channels in
    let us : List PrivateUse = a.privates ++ b.privates in
    let k = of_limits (is_too_large a.process) (is_too_large b.process) program.left.place program.right.place (checked a.process b.process cs us) left right e in
    let l = of_channels a.process b.process left right cs us (first_such is_no_channel cs) k.2 in
    record { left_fits = k.0; right_fits = k.1; named = all_named cs l.0; left_is = l.1; right_is = l.2 }

pub sides_are_lawful :
    (program : Program) (left right : Process) → IsWellFormed program → expanded program ≡ sides left right
    → IsLawfulSide program.signature left × IsLawfulSide program.signature right
sides_are_lawful program left right w e =
    let a : Expansion = left_expansion program in
    let b : Expansion = right_expansion program in
    let k = written program left right e in
    let l : IsGood program.signature [] a = side_good program.signature program.definitions program.left.body w.definitions w.left (first_numbers program) in
    let r : IsGood program.signature [] b = side_good program.signature program.definitions program.right.body w.definitions w.right a.next in (
      subst (IsLawfulSide program.signature) k.left_is (good_side program.signature a l (named_first a.channels b.channels k.named) k.left_fits),
      subst (IsLawfulSide program.signature) k.right_is (good_side program.signature b r (named_last a.channels b.channels k.named) k.right_fits),
    )

pub binders_are_high : (program : Program) (left right : Process) → expanded program ≡ sides left right → EachBinder (λ x. 2 ^ 63 ≤ x) left × EachBinder (λ x. 2 ^ 63 ≤ x) right
binders_are_high program left right e =
    let k = written program left right e in
    let h = sides_high program in (subst (EachBinder (λ x. 2 ^ 63 ≤ x)) k.left_is h.0, subst (EachBinder (λ x. 2 ^ 63 ≤ x)) k.right_is h.1)
