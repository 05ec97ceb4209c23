use Rattle.std.proofs.Common.{◌≡◌, ℕ, ◌<◌, List, [], ◌∷◌, ◌++◌, length, slice_get, Some, true, false, arith, ap, sym, ◌∙◌, subst, inl, inr, below_more}
use Rattle.std.proofs.lemmas.Option.{slice_get-get_or, get_or_from_slice_get}
use Rattle.std.proofs.lemmas.List.Elements.{Contains-get_or, Contains-push_cases}
use Rattle.std.specs.Prelude.{Contains}
use Rattle.dps_terms.specs.Tree.{Tree}
use Rattle.dps_terms.specs.Seen.{seen}
use Rattle.dps_unify.specs.Matching.{Matched, Refused}
use Rattle.dps_unify.proofs.Matched.{refused_root}
use Rattle.dps_static.specs.Binding.{IsMatchOf}
use Rattle.dps_static.proofs.Finding.{rooted_is_no_variable, listed_more, listed_new}
use Rattle.dps_static.proofs.cover.matches.Goals as goal
use Rattle.dps_static.proofs.cover.matches.Goals.{then-branch+in_ok-push, else-branch}

pub returns-then-not-same_root : goal.returns-then-not-same_root
returns-then-not-same_root c = record {
  all = λ s h. inl (refused_root c.args.free.now s (seen c.args.pattern) (seen c.args.tree)
      (λ m e. rooted_is_no_variable (seen c.args.pattern) m c.requires e)
      (λ a. let m : false ≡ true = c.if-not-same_root.ensures.1 a.0 in cc));
  only = λ q h. absurd (let n = (subst (λ xs. Contains xs q) c.new-found.ensures.items h).1 in omega (arith, n));
}

pub loop-by-preserved : goal.loop-by-preserved
loop-by-preserved c =
    let free = c.args.free.now in
    let p = seen c.args.pattern in
    let t = seen c.args.tree in
    let start = c.args.start.now in
    let by = c.by-item.result in
    let old = c.loop-by.found.items in
    let q = c.extend_match.new.solution in
    let at : (s : List (ℕ × Tree)) → slice_get start c.loop-by.by-index ≡ Some s → by ≡ s = λ s e. c.by-item.is ∙ get_or_from_slice_get start c.loop-by.by-index s by e in
    let member : Contains start by = subst (Contains start) (sym c.by-item.is) (Contains-get_or start c.loop-by.by-index by c.loop-by-test.true) in
    elim c.if-branch.branch [
      | then-branch+in_ok-push w ↦
          (let m : Matched free c.in_ok-more.more p t q = rw w.if-branch.true at c.in_ok-extend_match.ensures.found in
          let n : Matched free by p t q = subst (λ s. Matched free s p t q) c.in_ok-more.ensures m in
          let it : c.if-branch.found.items ≡ old ++ q ∷ [] = rw w.found-is w.in_ok-push.ensures.items in
          rw it (record {
            all = below_more _ _
                (λ j h s e. listed_more free p old q s t (c.loop-by.invariant.all j h s e))
                (λ s e. listed_new free p old q s t (subst (λ x. Matched free x p t q) (at s e) n));
            only = λ r h.
                elim (Contains-push_cases old q r h) [
                  | inl k ↦ c.loop-by.invariant.only r k
                  | inr e ↦ subst (IsMatchOf free p t start) e (record { start = by; listed = member; matched = n })
                ];
          }))
      | else-branch w ↦
          (let m : Refused free c.in_ok-more.more p t = rw w.if-branch.false at c.in_ok-extend_match.ensures.found in
          let n : Refused free by p t = subst (λ s. Refused free s p t) c.in_ok-more.ensures m in
          rw w.found-is (record {
            all = below_more _ _ c.loop-by.invariant.all (λ s e. inl (subst (λ x. Refused free x p t) (at s e) n));
            only = c.loop-by.invariant.only;
          }))
    ]

pub returns : goal.returns
returns c = record {
  all = λ s h. c.loop-by.invariant.all h.0 (let w : h.0 < length c.args.start.now = h.1 in omega (arith, w, c.loop-by-test.false)) s (slice_get-get_or c.args.start.now h.0 s h.1 ∙ ap Some h.2);
  only = c.loop-by.invariant.only;
}
