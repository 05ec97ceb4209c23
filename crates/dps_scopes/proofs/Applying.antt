-- The trees and the uses of terms, put together one by one.
use Rattle.std.proofs.Common.{◌≡◌, ℕ, ◌+◌, List, [], ◌∷◌, ◌++◌, refl, sym, ap, ◌∙◌, length, arith, append_assoc, length-append}
use Rattle.std.proofs.lemmas.List.{append-nil}
use Rattle.dps_terms.specs.Tree.{Tree}
use Rattle.dps_scopes.specs.declared.written.Use.{Use}
use Rattle.dps_scopes.specs.Written.{Written}
use Rattle.dps_scopes.specs.Terms.{all_trees, all_uses}

-- what the loop keeps: the trees and uses of all terms are those found, and those of the terms that are left
pub record IsApplying (all rest : List Written) (left : ℕ) (trees : List Tree) (uses : List Use) : Type 0 where
  pub trees_are : all_trees all ≡ trees ++ all_trees rest
  pub uses_are : all_uses all ≡ uses ++ all_uses rest
  pub counted : left ≡ length rest
  pub few : length trees + length rest ≡ length all

pub applying_first : (all : List Written) (left : ℕ) (trees : List Tree) (uses : List Use) → left ≡ length all → trees ≡ [] → uses ≡ [] → IsApplying all all left trees uses
applying_first all left trees uses c t u = record {
  trees_are = ap (λ ts. ts ++ all_trees all) (sym t);
  uses_are = ap (λ us. us ++ all_uses all) (sym u);
  counted = c;
  few = omega (arith, ap length t);
}

pub applying_more :
    (all rest after : List Written) (left next : ℕ) (trees trees' : List Tree) (uses uses' : List Use) (w : Written)
    → IsApplying all rest left trees uses → rest ≡ w ∷ after → next + 1 ≡ left → trees' ≡ trees ++ w.tree ∷ [] → uses' ≡ uses ++ w.uses
    → IsApplying all after next trees' uses'
applying_more all rest after left next trees trees' uses uses' w r e c t u = record {
  trees_are = r.trees_are ∙ (ap (λ xs. trees ++ all_trees xs) e ∙ (sym (append_assoc trees (w.tree ∷ []) (all_trees after)) ∙ ap (λ ts. ts ++ all_trees after) (sym t)));
  uses_are = r.uses_are ∙ (ap (λ xs. uses ++ all_uses xs) e ∙ (sym (append_assoc uses w.uses (all_uses after)) ∙ ap (λ us. us ++ all_uses after) (sym u)));
  counted = omega (arith, c, r.counted, ap length e);
  few = omega (arith, r.few, ap length e, ap length t, length-append trees (w.tree ∷ []));
}

nothing_left : (xs : List Written) → length xs ≡ 0 → xs ≡ []
nothing_left [] e = refl
nothing_left (x ∷ xs) e = absurd (omega (arith, e))

pub applied_trees : (all rest : List Written) (left : ℕ) (trees : List Tree) (uses : List Use) → IsApplying all rest left trees uses → left ≡ 0 → trees ≡ all_trees all
applied_trees all rest left trees uses r z =
    let none : rest ≡ [] = nothing_left rest (sym r.counted ∙ z) in
    sym (append-nil trees) ∙ (ap (λ xs. trees ++ all_trees xs) (sym none) ∙ sym r.trees_are)

pub applied_uses : (all rest : List Written) (left : ℕ) (trees : List Tree) (uses : List Use) → IsApplying all rest left trees uses → left ≡ 0 → uses ≡ all_uses all
applied_uses all rest left trees uses r z =
    let none : rest ≡ [] = nothing_left rest (sym r.counted ∙ z) in
    sym (append-nil uses) ∙ (ap (λ xs. uses ++ all_uses xs) (sym none) ∙ sym r.uses_are)

pub ruleset for_applied = (applying_first, applying_more, applied_trees, applied_uses)
