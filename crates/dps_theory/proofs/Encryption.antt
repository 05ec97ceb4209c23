-- Symmetric encryption in the small: what the one rule computes, and what a kept key hides.
use Rattle.std.proofs.Common.{◌≡◌, ℕ, zero, suc, ◌<◌, [], ◌∷◌, refl, sym, ◌∙◌, ap, subst, inl, inr, arith}
use Rattle.std.specs.Prelude.{codes}
use Rattle.std.specs.List.{slice_index_or}
use Rattle.dps_terms.specs.declared.Sym.{Sym}
use Rattle.dps_signature.specs.declared.SymKind.TheVariants.{Constructor, Destructor}
use Rattle.dps_terms.specs.declared.PublicName.TheVariants.{Declared}
use Rattle.dps_terms.specs.Tree.{private, ax, Tree, Trees, leaf, app, none, more, count, IsStrictSubterm, itself, below, in_first, strictly}
use Rattle.dps_terms.specs.Replace.{substitute, substitute_all}
use Rattle.dps_signature.specs.Signature.{HasShape}
use Rattle.dps_terms.specs.Kinds.{IsBuiltOf, AreBuiltOf, AnySymbol, IsName}
use Rattle.dps_signature.specs.Kinds.{IsPlain, IsOver}
use Rattle.dps_theory.specs.Theory.{Rule, Theory, HasRule, IsAccepted, HasDestructorRoot, HasConstructorArguments, HasPlainRules, IsRuleLeaf}
use Rattle.dps_theory.specs.Evaluation.{Evaluates, EvaluateAll, Reduces, named, constructed, reduced, no_terms, a_term, IsMessage, AreEqual}
use Rattle.dps_theory.specs.Frames.{succeeds, equal, AreToldApart}
use Rattle.dps_theory.specs.Examples.{senc, sdec, signature, over, decryption, theory, overlapping, a, b, k, n, m, x, y, told_key}
use Rattle.dps_theory.proofs.Evaluating.{plain_evaluates, plain_alone, plain_all_alone, one_kind}
use Rattle.dps_theory.proofs.FormsOfTerms.{leaf_value}

-- the one element of a list
at_one : {A : Type 0} (r q : A) (i : ℕ) → i < 1 → slice_index_or (r ∷ []) i q ≡ q → r ≡ q
at_one r q zero l e = e
at_one r q (suc i) l e = absurd (omega arith)

pub one_rule : (q : Rule) → HasRule theory q → decryption ≡ q
one_rule q h = at_one decryption q h.0 h.1 h.2

accepted_root : (q : Rule) → decryption ≡ q → HasDestructorRoot theory.shapes q.left
accepted_root q e = subst (λ (r : Rule). HasDestructorRoot theory.shapes r.left) e refl

decryption_agrees : (z w : ℕ → Tree) → substitute z decryption.left ≡ substitute w decryption.left → z 1 ≡ w 1
decryption_agrees z w e = cc

agreed : (r q : Rule) → decryption ≡ r → decryption ≡ q → (z w : ℕ → Tree) → substitute z r.left ≡ substitute w q.left → substitute z r.right ≡ substitute w q.right
agreed r q d e z w same =
    let P : Rule → Rule → Type 0 = λ r q. substitute z r.left ≡ substitute w q.left → substitute z r.right ≡ substitute w q.right in
    let one : P decryption q = subst (P decryption) e (decryption_agrees z w) in
    subst (λ (r : Rule). P r q) d one same

pub decryption_accepted : IsAccepted theory
decryption_accepted = record {
  root = λ q h. accepted_root q (one_rule q h);
  arguments = λ q h. subst (λ (r : Rule). HasConstructorArguments theory.shapes r.left) (one_rule q h) ((refl, (tt, (tt, tt))), (tt, tt));
  constructed = λ q h. subst (λ (r : Rule). IsBuiltOf (λ l. Unit {0}) (HasShape theory.shapes Constructor) r.right) (one_rule q h) tt;
  bounded = λ q h. inl (subst (λ (r : Rule). IsStrictSubterm r.right r.left) (one_rule q h) (strictly (in_first (below (in_first itself)))));
  agreeing = λ r q h i z w e. agreed r q (one_rule r h) (one_rule q i) z w e;
}

-- it is written with variables alone, over the symbols of the signature
pub decryption_plain : HasPlainRules theory
decryption_plain = record {
  left = λ q h. subst (λ (r : Rule). IsBuiltOf IsRuleLeaf AnySymbol r.left) (one_rule q h) (tt, ((tt, (tt, (tt, tt))), (tt, tt)));
  right = λ q h. subst (λ (r : Rule). IsBuiltOf IsRuleLeaf AnySymbol r.right) (one_rule q h) tt;
}

pub decryption_over : (q : Rule) → HasRule theory q → IsOver signature q.left × IsOver signature q.right
decryption_over q h =
    subst (λ (r : Rule). IsOver signature r.left × IsOver signature r.right) (one_rule q h) (((Destructor, refl), (((Constructor, refl), (tt, (tt, tt))), (tt, tt))), tt)

-- what one use of the rule does
abbrev pub Decrypts : Sym → Trees → Tree → Type 0
Decrypts g vs v = (key : Tree) × (g ≡ sdec) × (vs ≡ more (over senc v key) (more key none))

decrypts_by : (q : Rule) → decryption ≡ q → (g : Sym) (ps vs : Trees) (v : Tree) (by : ℕ → Tree) → q.left ≡ app g ps → substitute_all by ps ≡ vs → substitute by q.right ≡ v → Decrypts g vs v
decrypts_by q e g ps vs v by left matched right =
    let shape : app sdec (more (over senc x y) (more y none)) ≡ app g ps = ap (λ (r : Rule). r.left) e ∙ left in
    let same : more (over senc x y) (more y none) ≡ ps = cc in
    let one : more (over senc (by 1) (by 2)) (more (by 2) none) ≡ vs = ap (substitute_all by) same ∙ matched in
    let value : by 1 ≡ v = ap (λ (r : Rule). substitute by r.right) e ∙ right in
    (by 2, (cc), sym one ∙ ap (λ t. more (over senc t (by 2)) (more (by 2) none)) value)

pub decrypts : (g : Sym) (vs : Trees) (v : Tree) → Reduces theory g vs v → Decrypts g vs v
decrypts g vs v r = decrypts_by r.rule (one_rule r.rule r.listed) g r.patterns vs v r.by r.left r.matched r.right

bound : Tree → Tree → ℕ → Tree
bound t u (suc zero) = t
bound t u _ = u

pub reduces : (t key : Tree) → Reduces theory sdec (more (over senc t key) (more key none)) t
unfolding bound
reduces t key = record {
  rule = decryption;
  listed = (0, omega arith, refl);
  patterns = more (over senc x y) (more y none);
  left = refl;
  by = bound t key;
  matched = refl;
  right = refl;
}

pub opened : (t key : Tree) → IsPlain theory.shapes t → IsPlain theory.shapes key → Evaluates theory (over sdec (over senc t key) key) t
opened t key p q =
    reduced (more (over senc t key) (more key none)) refl (a_term (plain_evaluates theory (over senc t key) (refl, (p, (q, tt)))) (a_term (plain_evaluates theory key q) no_terms)) (reduces t key)

pub opens : Evaluates theory (over sdec (over senc a b) b) a
opens = opened a b tt tt

pub different_results : a ≡ b → ⊥
different_results e = let f : Declared 0 ≡ Declared 1 = cc in let g : ◌≡◌ {A = ℕ} 0 1 = cc in omega arith

first_fails : (t u : Tree) (ts vs : Trees) → ts ≡ more t (more u none) → ((w : Tree) → Evaluates theory t w → ⊥) → EvaluateAll theory ts vs → ⊥
first_fails t u ts vs e h no_terms = cc
first_fails t u ts vs e h (a_term {t = s} {v} r q) =
    let f : s ≡ t = (cc) in h v (subst (λ z. Evaluates theory z v) f r)

-- a decryption of plain terms is a message only where the first is a ciphertext under the second
pub opened_only : (c key v : Tree) (t : Tree) → IsPlain theory.shapes c → IsPlain theory.shapes key → t ≡ over sdec c key → Evaluates theory t v → c ≡ over senc v key
opened_only c key v t p q e (named h) = absurd (cc)
opened_only c key v t p q e (constructed {f} {ts} h r) =
    let same : app f ts ≡ over sdec c key = e in
    let g : f ≡ sdec = (cc) in
    absurd (one_kind theory.shapes sdec (count ts) 2 (subst (λ (s : Sym). HasShape theory.shapes Constructor s (count ts)) g h) refl)
opened_only c key v t p q e (reduced {g} {ts} vs h r z) =
    let same : app g ts ≡ over sdec c key = e in
    let f : g ≡ sdec = (cc) in
    let us : ts ≡ more c (more key none) = (cc) in
    let all : vs ≡ ts = plain_all_alone theory r (subst (AreBuiltOf IsName (HasShape theory.shapes Constructor)) (sym us) (p, (q, tt))) in
    let d = decrypts sdec vs v (subst (λ (s : Sym). Reduces theory s vs v) f z) in
    let parts : more c (more key none) ≡ more (over senc v d.0) (more d.0 none) = sym us ∙ (sym all ∙ d.2) in
    let k' : key ≡ d.0 = (cc) in
    let c' : c ≡ over senc v d.0 = (cc) in
    c' ∙ ap (over senc v) (sym k')

pub no_ciphertext : ¬ IsMessage theory (over sdec a b)
no_ciphertext m = let e = opened_only a b m.0 (over sdec a b) tt tt refl m.1 in cc

pub wrong_key : ¬ IsMessage theory (over sdec (over senc a b) a)
wrong_key m =
    let e : over senc a b ≡ over senc m.0 a = opened_only (over senc a b) a m.0 (over sdec (over senc a b) a) (refl, (tt, (tt, tt))) tt refl m.1 in
    let f : b ≡ a = (cc) in
    different_results (sym f)

first_evaluates : (t u v : Tree) (f : Sym) (s : Tree) → s ≡ over f t u → ((w : Tree) → Evaluates theory t w → ⊥) → Evaluates theory s v → ⊥
first_evaluates t u v f s e h (named i) = cc
first_evaluates t u v f s e h (constructed {ts = ts} {vs} i r) = first_fails t u ts vs (cc) h r
first_evaluates t u v f s e h (reduced {ts = ts} vs i r z) = first_fails t u ts vs (cc) h r

pub below_constructor : ¬ IsMessage theory (over senc (over sdec a b) b)
below_constructor m = first_evaluates (over sdec a b) b m.0 senc (over senc (over sdec a b) b) refl (λ w e. no_ciphertext (w, e)) m.1

-- two plain terms are equal in a frame only where they are one term
pub plain_equal : (th : Theory) (t u : Tree) → IsPlain th.shapes t → IsPlain th.shapes u → AreEqual th t u → t ≡ u
plain_equal th t u p q e = sym (plain_alone th e.left p) ∙ plain_alone th e.right q

different_names : k ≡ n → ⊥
different_names e = let f : private 0 ≡ private 1 = cc in let g : ◌≡◌ {A = ℕ} 0 1 = cc in omega arith

pub repetition_told : AreToldApart signature theory (k ∷ k ∷ []) (k ∷ n ∷ [])
repetition_told = (
  equal (leaf (ax 1)) (leaf (ax 2)),
  inl (record {
    over = ((omega arith, omega arith), (omega arith, omega arith));
    holds = record { value = k; left = named tt; right = named tt };
    fails = λ e. different_names (plain_equal theory k n tt tt e);
  }),
)

different_ciphertexts : over senc b k ≡ over senc a k → ⊥
different_ciphertexts e = let f : Declared 1 ≡ Declared 0 = cc in let g : ◌≡◌ {A = ℕ} 1 0 = cc in omega arith

pub cipher_plain : (c : Tree) → IsPlain theory.shapes c → IsPlain theory.shapes (over senc c k)
cipher_plain c p = (refl, (p, (tt, tt)))

pub key_told : AreToldApart signature theory (told_key a) (told_key b)
key_told = (
  equal (leaf (ax 1)) (over senc a (leaf (ax 2))),
  inl (record {
    over = ((omega arith, omega arith), ((Constructor, refl), ((codes "a", refl), ((omega arith, omega arith), tt))));
    holds = record { value = over senc a k; left = plain_evaluates theory (over senc a k) (cipher_plain a tt); right = plain_evaluates theory (over senc a k) (cipher_plain a tt) };
    fails = λ e. different_ciphertexts (plain_equal theory (over senc b k) (over senc a k) (cipher_plain b tt) (cipher_plain a tt) e);
  }),
)

-- only the first is opened by the key
pub ciphertext_told : AreToldApart signature theory (told_key n) (m ∷ k ∷ [])
ciphertext_told = (
  succeeds (over sdec (leaf (ax 1)) (leaf (ax 2))),
  inl (record {
    over = ((Destructor, refl), ((omega arith, omega arith), ((omega arith, omega arith), tt)));
    holds = (n, opened n k tt tt);
    fails = λ e. let f : m ≡ over senc e.0 k = opened_only m k e.0 (over sdec m k) tt tt refl e.1 in cc;
  }),
)

-- only the second has a first message
pub one_more_told : AreToldApart signature theory [] (k ∷ [])
one_more_told = (
  succeeds (leaf (ax 1)),
  inr (record {
    over = (omega arith, omega arith);
    holds = (k, named tt);
    fails = λ e. leaf_value theory (ax 1) e.0 e.1;
  }),
)

-- the two rules of which a name is an instance of both left sides
overlap_first : HasRule overlapping (record { left = over sdec x y; right = x })
overlap_first = (0, omega arith, refl)

overlap_second : HasRule overlapping (record { left = over sdec a y; right = b })
overlap_second = (1, omega arith, refl)

pub overlap_refused : ¬ IsAccepted overlapping
unfolding bound
overlap_refused h =
    different_results (h.agreeing (record { left = over sdec x y; right = x }) (record { left = over sdec a y; right = b }) overlap_first overlap_second (bound a a) (bound a a) refl)
