-- One use of a rule over ways to build from the kept trees, carried over to the counterparts.
use Rattle.std.proofs.Common.{◌≡◌, ℕ, List, length, unwrap_or, Some, None, refl, sym, ◌∙◌, ap, subst, inl, inr}
use Rattle.std.specs.Prelude.{Option}
use Rattle.dps_terms.specs.declared.Sym.{Sym}
use Rattle.dps_terms.specs.Tree.{var, rigid, Tree, Trees, leaf, app, StandsIn, IsAmong, below}
use Rattle.dps_terms.specs.Replace.{replace_all, substitute, substitute_all, rigid_names_to, entries_to, put_entries}
use Rattle.dps_terms.specs.Bindings.{bound}
use Rattle.dps_terms.specs.Variables.{variables}
use Rattle.dps_terms.specs.Kinds.{AnySymbol, IsNoVariable}
use Rattle.dps_terms.proofs.Subterms.{nested, strict_is_subterm}
use Rattle.dps_terms.proofs.Building.{leaf_meets}
use Rattle.dps_terms.proofs.Listing.{variables_are_those}
use Rattle.dps_unify.specs.Matching.{Agrees}
use Rattle.dps_theory.specs.Theory.{Rule, Theory, HasRule, IsAccepted, IsBounded, HasPlainRules}
use Rattle.dps_theory.specs.Evaluation.{Reduces}
use Rattle.dps_theory.specs.Laws.{KeepsRules}
use Rattle.dps_theory.proofs.Renaming.{replace-substitute, replaced_reduct, plain_rules_kept}
use Rattle.dps_static.specs.Ways.{IsOpenWay}
use Rattle.dps_static.specs.Follows.{Follows}
use Rattle.dps_static.specs.Generic.{AreBuilt, HasNoRigidName, HaveNoRigidName, generic, filled, all_filled, AreSettled}
use Rattle.dps_static.proofs.Covering.{filled_stays, same_instances, HasOpenWays, built_ways, ways_built, settled_built, parts_variables}
use Rattle.dps_static.proofs.Ways.{AreOpenWays}
use Rattle.dps_static.proofs.Stepping.{put_filled, put_all_filled, filled_way, filled_ways, Fills, fills}

abbrev pub put_all : List Tree → Trees → Trees
put_all kept ways = replace_all (entries_to kept) ways

-- a way builds v from the kept trees, and from the counterparts what the destructor makes of the ways there
pub record Moves (theory : Theory) (kept counterparts : List Tree) (g : Sym) (ways : Trees) (v : Tree) : Type 0 where
  pub way : Tree
  pub is_way : IsOpenWay (length kept) way
  pub gives : put_entries kept way ≡ v
  pub reduces : Reduces theory g (put_all counterparts ways) (put_entries counterparts way)

-- the generic instance of a rule moves
pub record IsPassed (theory : Theory) (kept counterparts : List Tree) (g : Sym) (patterns : Trees) (right : Tree) (s : List (ℕ × Tree)) : Type 0 where
  pub passed :
      (ways : Trees) → AreOpenWays (length kept) ways → put_all kept ways ≡ substitute_all (generic s) patterns
      → Moves theory kept counterparts g ways (substitute (generic s) right)

-- the variables of a right side stand on its left side
pub right_stands : (rule : Rule) → IsBounded rule → (n : ℕ) → StandsIn (var n) rule.right → StandsIn (var n) rule.left
right_stands rule (inl s) n k = nested k (strict_is_subterm s)
right_stands rule (inr c) n k = absurd (leaf_meets IsNoVariable AnySymbol c k)

pub below_root : (t : Tree) (g : Sym) (ps : Trees) (n : ℕ) → t ≡ app g ps → StandsIn (var n) t → IsAmong (leaf (var n)) ps
below_root t g ps n e k = go (subst (StandsIn (var n)) e k)
  where
    go : StandsIn (var n) (app g ps) → IsAmong (leaf (var n)) ps
    go (below m) = m

module _ (theory : Theory) (plain : HasPlainRules theory) (accepted : IsAccepted theory) (kept counterparts : List Tree) (low : HaveNoRigidName kept) (lower : HaveNoRigidName counterparts)
    (follows : Follows kept counterparts) where
  module _ (g : Sym) (ws ps : Trees) (rule : Rule) (left : rule.left ≡ app g ps) (listed : HasRule theory rule) (z : ℕ → Tree) (clean : (n : ℕ) → HasNoRigidName (z n)) (s : List (ℕ × Tree))
      (agrees : Agrees z s) (settled : AreSettled kept z s ps) where
    filling : Fills kept z s (variables rule.left)
    filling = fills kept z s (variables rule.left) (λ n c. parts_variables kept z s ps settled n (below_root rule.left g ps n left ((variables_are_those rule.left n).0 c)))

    abbrev by_kept : (f : Fills kept z s (variables rule.left)) → ℕ → Tree
    by_kept f k = put_entries kept (f.way k)

    module _ (f : Fills kept z s (variables rule.left)) where
      generic_filled : (n : ℕ) → StandsIn (var n) rule.left → filled (by_kept f) (generic s n) ≡ z n
      generic_filled n k = go (bound s n) refl
        where
          go : (o : Option Tree) → bound s n ≡ o → filled (by_kept f) (unwrap_or o (leaf (rigid n))) ≡ z n
          go (Some t) e =
              let same : z n ≡ t = agrees n t e in
              ap (filled (by_kept f)) (sym same) ∙ filled_stays (by_kept f) (z n) (clean n)
          go None e = f.give n ((variables_are_those rule.left n).1 k) e

      keeps : (q : ℕ → Tree) → KeepsRules theory (rigid_names_to q)
      keeps q = plain_rules_kept theory (rigid_names_to q) plain (λ n. refl)

      left_filled : filled (by_kept f) (substitute (generic s) rule.left) ≡ substitute z rule.left
      left_filled =
          replace-substitute (rigid_names_to (by_kept f)) (generic s) rule.left ((keeps (by_kept f)).left rule listed)
          ∙ same_instances (λ n. filled (by_kept f) (generic s n)) z rule.left generic_filled

      right_filled : filled (by_kept f) (substitute (generic s) rule.right) ≡ substitute z rule.right
      right_filled =
          replace-substitute (rigid_names_to (by_kept f)) (generic s) rule.right ((keeps (by_kept f)).right rule listed)
          ∙ same_instances (λ n. filled (by_kept f) (generic s n)) z rule.right (λ n k. generic_filled n (right_stands rule (accepted.bounded rule listed) n k))

      patterns_filled : all_filled (by_kept f) (substitute_all (generic s) ps) ≡ substitute_all z ps
      patterns_filled =
          let e : app g (all_filled (by_kept f) (substitute_all (generic s) ps)) ≡ app g (substitute_all z ps) =
          subst (λ t. filled (by_kept f) (substitute (generic s) t) ≡ substitute z t) left left_filled in
          cc

      moved :
          AreOpenWays (length kept) ws → substitute_all z ps ≡ put_all kept ws → (h : HasOpenWays kept (substitute_all (generic s) ps))
          → Moves theory kept counterparts g h.ways (substitute (generic s) rule.right) → Moves theory kept counterparts g ws (substitute z rule.right)
      moved are e h m =
          let there = filled_ways (length kept) f.way f.are_ways h.ways h.are_ways.known h.are_ways.closed in
          let same : put_all kept (all_filled f.way h.ways) ≡ put_all kept ws = put_all_filled kept low f.way h.ways ∙ (ap (all_filled (by_kept f)) h.give ∙ (patterns_filled ∙ e)) in
          let alike : app g (put_all counterparts (all_filled f.way h.ways)) ≡ app g (put_all counterparts ws) =
          follows.stays (app g (all_filled f.way h.ways)) (app g ws) ((tt, there.0), (tt, there.1)) ((tt, are.known), (tt, are.closed)) (ap (app g) same) in
          let alike_below : put_all counterparts (all_filled f.way h.ways) ≡ put_all counterparts ws = cc in
          let reduced = replaced_reduct theory (rigid_names_to (λ k. put_entries counterparts (f.way k))) (keeps (λ k. put_entries counterparts (f.way k))) g (put_all counterparts h.ways)
          (put_entries counterparts m.way) m.reduces in
          let from = sym (put_all_filled counterparts lower f.way h.ways) ∙ alike_below in
          let to = sym (put_filled counterparts lower f.way m.way) in
          record {
            way = filled f.way m.way;
            is_way = filled_way (length kept) f.way f.are_ways m.way m.is_way;
            gives = put_filled kept low f.way m.way ∙ (ap (filled (by_kept f)) m.gives ∙ right_filled);
            reduces =
                subst
                (λ v. Reduces theory g (put_all counterparts ws) v)
                to
                (subst (λ vs. Reduces theory g vs (filled (λ k. put_entries counterparts (f.way k)) (put_entries counterparts m.way))) from reduced);
          }

    pub rule_moves :
        AreOpenWays (length kept) ws → substitute_all z ps ≡ put_all kept ws → IsPassed theory kept counterparts g ps rule.right s
        → Moves theory kept counterparts g ws (substitute z rule.right)
    rule_moves are e p =
        let h = built_ways kept (substitute_all (generic s) ps) (settled_built kept z s agrees ps settled) in
        moved filling are e h (p.passed h.ways h.are_ways h.give)

-- One way to build the patterns' generic instance tells of all of them.
pub passed_by_one :
    (theory : Theory) (kept counterparts : List Tree) (g : Sym) (ps : Trees) (right : Tree) (s : List (ℕ × Tree)) (ws : Trees) → Follows kept counterparts
    → AreOpenWays (length kept) ws → put_all kept ws ≡ substitute_all (generic s) ps → Moves theory kept counterparts g ws (substitute (generic s) right)
    → IsPassed theory kept counterparts g ps right s
passed_by_one theory kept counterparts g ps right s ws follows are e m = record {
  passed = λ ways h d.
      let alike : app g (put_all counterparts ws) ≡ app g (put_all counterparts ways) =
      follows.stays (app g ws) (app g ways) ((tt, are.known), (tt, are.closed)) ((tt, h.known), (tt, h.closed)) (ap (app g) (e ∙ sym d)) in
      let there : put_all counterparts ws ≡ put_all counterparts ways = cc in
      record {
        way = m.way;
        is_way = m.is_way;
        gives = m.gives;
        reduces = subst (λ vs. Reduces theory g vs (put_entries counterparts m.way)) there m.reduces;
      };
}

-- Where nothing builds the patterns' generic instance, there is nothing to pass.
pub passed_by_none :
    (theory : Theory) (kept counterparts : List Tree) (g : Sym) (ps : Trees) (right : Tree) (s : List (ℕ × Tree))
    → ¬ AreBuilt kept (substitute_all (generic s) ps) → IsPassed theory kept counterparts g ps right s
passed_by_none theory kept counterparts g ps right s h = record { passed = λ ways are e. absurd (h (ways_built kept ways (substitute_all (generic s) ps) are e)) }
