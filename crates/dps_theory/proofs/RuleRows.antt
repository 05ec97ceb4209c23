-- Small rule lists, each with what is right or wrong with it, and what two of them compute.
use Rattle.std.proofs.Common.{◌≡◌, ℕ, zero, suc, ◌<◌, List, [], ◌∷◌, Option, Some, None, refl, sym, ap, subst, inl, inr, arith, ◌⊎◌}
use Rattle.std.specs.Prelude.{slice_get}
use Rattle.std.proofs.lemmas.Option.{none-some}
use Rattle.dps_signature.specs.declared.SymKind.TheVariants.{Constructor, Destructor}
use Rattle.dps_terms.specs.Tree.{Tree, Trees, leaf, app, none, more, IsStrictSubterm, IsAmong, IsSubterm, itself, in_first, in_rest, below, strictly}
use Rattle.dps_terms.specs.Replace.{substitute}
use Rattle.dps_signature.specs.Signature.{Shape}
use Rattle.dps_terms.proofs.Subterms.{strict_lt}
use Rattle.dps_theory.specs.Theory.{Rule, Theory, HasRule, Agree, IsAccepted}
use Rattle.dps_theory.specs.Checking.{HasForm}
use Rattle.dps_theory.specs.Evaluation.{Evaluates, Reduces, named, constructed, reduced, no_terms, a_term}
use Rattle.dps_theory.specs.Examples.{senc, sdec, signature, over, x, y, a, b, decryption, theory, alone, two_rules}
use Rattle.dps_theory.proofs.Accepting.{judged_all}
use Rattle.dps_theory.proofs.Encryption.{decryption_accepted, opened, reduces}
use Rattle.dps_theory.proofs.Evaluating.{plain_evaluates, one_kind}

-- the one rule of a list
listed : (left right : Tree) → HasRule (alone left right) (record { left = left; right = right })
listed left right = (0, omega arith, refl)

-- `sdec(a,y) -> b`
abbrev second : Rule
second = record { left = over sdec a y; right = b }

decryption_form : HasForm theory.shapes decryption
decryption_form =
    let r : HasRule theory decryption = (0, omega arith, refl) in
    record {
      root = decryption_accepted.root decryption r;
      arguments = decryption_accepted.arguments decryption r;
      constructed = decryption_accepted.constructed decryption r;
      bounded = decryption_accepted.bounded decryption r;
    }

second_form : HasForm theory.shapes second
second_form = record { root = refl; arguments = (tt, (tt, tt)); constructed = tt; bounded = inr tt }

never_both : Agree decryption second
never_both z w e = cc

two_forms : (k : ℕ) (r : Rule) → slice_get two_rules.rules k ≡ Some r → HasForm theory.shapes r
two_forms zero r e = let d : decryption ≡ r = cc in subst (HasForm theory.shapes) d decryption_form
two_forms (suc zero) r e = let d : second ≡ r = cc in subst (HasForm theory.shapes) d second_form
two_forms (suc (suc k)) r e = absurd (none-some r e)

two_agree : (j k : ℕ) (r q : Rule) → j < k → k < 2 → slice_get two_rules.rules j ≡ Some r → slice_get two_rules.rules k ≡ Some q → Agree r q
two_agree zero (suc zero) r q l m e d =
    let f : decryption ≡ r = cc in
    let g : second ≡ q = cc in subst (Agree r) g (subst (λ s. Agree s second) f never_both)
two_agree zero zero r q l m e d = absurd (omega arith)
two_agree zero (suc (suc k)) r q l m e d = absurd (omega arith)
two_agree (suc j) zero r q l m e d = absurd (omega arith)
two_agree (suc j) (suc zero) r q l m e d = absurd (omega arith)
two_agree (suc j) (suc (suc k)) r q l m e d = absurd (omega arith)

pub two_rules_accepted : IsAccepted two_rules
two_rules_accepted =
    judged_all theory.shapes two_rules.rules 2 (record { forms = λ k r l e. two_forms k r e; agreeing = two_agree }) (omega arith)

ground_form : HasForm theory.shapes (record { left = over sdec x y; right = a })
ground_form = record { root = refl; arguments = (tt, (tt, tt)); constructed = tt; bounded = inr tt }

ground_only : (k : ℕ) (r : Rule) → slice_get (alone (over sdec x y) a).rules k ≡ Some r → HasForm theory.shapes r
ground_only zero r e =
    let q : Rule = record { left = over sdec x y; right = a } in
    let d : q ≡ r = cc in subst (HasForm theory.shapes) d ground_form
ground_only (suc k) r e = absurd (none-some r e)

pub ground_right : IsAccepted (alone (over sdec x y) a)
ground_right =
    judged_all theory.shapes (alone (over sdec x y) a).rules 1
    (record { forms = λ k r l e. ground_only k r e; agreeing = λ j k r q l m e d. absurd (omega arith) })
    (omega arith)

-- neither a strict subterm nor ground
pub larger_right : ¬ IsAccepted (alone (over sdec x y) (over senc x y))
larger_right h =
    elim (h.bounded (record { left = over sdec x y; right = over senc x y }) (listed (over sdec x y) (over senc x y))) [
      | inl s ↦ omega (arith, strict_lt s)
      | inr c ↦ c.1.0
    ]

-- the arity of a symbol that is there
abbrev arity_of : Option Shape → ℕ
arity_of (Some shape) = shape.arity
arity_of None = 0

pub constructor_root : ¬ IsAccepted (alone (over senc x y) x)
constructor_root h =
    one_kind theory.shapes senc 2 2 refl (h.root (record { left = over senc x y; right = x }) (listed (over senc x y) x))

pub root_arity : ¬ IsAccepted (alone (app sdec (more x none)) x)
root_arity h =
    let e : ◌≡◌ {A = ℕ} 2 1 = ap arity_of (h.root (record { left = app sdec (more x none); right = x }) (listed (app sdec (more x none)) x)) in
    omega (arith, e)

pub inner_destructor : ¬ IsAccepted (alone (over sdec (over sdec x y) y) x)
inner_destructor h =
    let d = h.arguments (record { left = over sdec (over sdec x y) y; right = x }) (listed (over sdec (over sdec x y) y) x) in
    one_kind theory.shapes sdec 2 2 d.0.0 refl

pub right_destructor : ¬ IsAccepted (alone (over sdec x y) (over sdec a b))
right_destructor h =
    let d = h.constructed (record { left = over sdec x y; right = over sdec a b }) (listed (over sdec x y) (over sdec a b)) in
    one_kind theory.shapes sdec 2 2 d.0 refl

-- the key is itself computed
pub nested_key : Evaluates theory (over sdec (over senc a (over sdec (over senc b a) a)) b) a
nested_key =
    reduced (more (over senc a b) (more b none)) refl
    (a_term (constructed refl (a_term (named tt) (a_term (opened b a tt tt) no_terms))) (a_term (named tt) no_terms))
    (reduces a b)

-- the second rule computes what the first does not
pub second_rule : Evaluates two_rules (over sdec a b) b
second_rule =
    reduced (more a (more b none)) refl (a_term (named tt) (a_term (named tt) no_terms)) (record {
      rule = second;
      listed = (1, omega arith, refl);
      patterns = more a (more y none);
      left = refl;
      by = λ n. b;
      matched = refl;
      right = refl;
    })
