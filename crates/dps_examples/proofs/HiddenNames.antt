-- Outputs of private names are equivalent.
use Rattle.std.proofs.Common.{◌≡◌, ℕ, zero, suc, ◌≤◌, List, [], ◌∷◌, refl, sym, ◌∙◌, ap, subst, inl, inr, arith}
use Rattle.std.specs.Prelude.{◌⊎◌}
use Rattle.dps_terms.specs.Tree.{Leaf, public, private, var, ax, entry, rigid, Tree, leaf, StandsIn}
use Rattle.dps_terms.specs.Replace.{replace, in_frame, handles_to}
use Rattle.dps_signature.specs.Signature.{HasArity, shapes}
use Rattle.dps_terms.specs.Kinds.{IsName, IsNoVariable, AnySymbol}
use Rattle.dps_signature.specs.Kinds.{IsRecipe, IsRecipeLeaf}
use Rattle.dps_terms.proofs.Replacing.{replace_in_turn, replace_agrees}
use Rattle.dps_terms.proofs.Building.{leaf_meets}
use Rattle.dps_theory.specs.Theory.{Rule}
use Rattle.dps_theory.specs.Evaluation.{Evaluates, named}
use Rattle.dps_theory.specs.Frames.{HasValue, Succeeds, HaveOneValue, AreStaticallyEquivalent}
use Rattle.dps_theory.specs.Laws.{KeepsRules}
use Rattle.dps_theory.specs.Examples.{signature, theory, decryption, k, n}
use Rattle.dps_theory.proofs.Evaluating.{plain_alone}
use Rattle.dps_theory.proofs.Renaming.{replaced_evaluates}
use Rattle.dps_theory.proofs.Equivalence.{reflexive}
use Rattle.dps_theory.proofs.Encryption.{one_rule}
use Rattle.dps_process.specs.Models.{Model}
use Rattle.dps_process.specs.Process.{nil, output}
use Rattle.dps_process.specs.Steps.{start, Label}
use Rattle.dps_process.specs.Traces.{Runs, done, IsTrace, Matches, IsIncluded, IsEquivalent}
use Rattle.dps_examples.specs.Examples.{tells, against}
use Rattle.dps_examples.proofs.Outputs.{IsOutputTrace, output_traces, one_output}

-- Private names are alike: the one becomes the other, and no rule and no recipe holds either.
abbrev renamed : Tree → Leaf → Tree
renamed t (private i) = t
renamed t l = leaf l

abbrev IsVariable : Leaf → Type 0
IsVariable (var m) = Unit {0}
IsVariable l = ⊥

only_variables : (l : Leaf) → (StandsIn l decryption.left ⊎ StandsIn l decryption.right) → IsVariable l
only_variables l (inl s) = leaf_meets IsVariable AnySymbol {t = decryption.left} (tt, ((tt, (tt, (tt, tt))), (tt, tt))) s
only_variables l (inr s) = leaf_meets IsVariable AnySymbol {t = decryption.right} tt s

rule_leaf : (t : Tree) (l : Leaf) → IsVariable l → IsNoVariable l → renamed t l ≡ leaf l
rule_leaf t (public m) s i = absurd s
rule_leaf t (private m) s i = absurd s
rule_leaf t (var m) s i = absurd i
rule_leaf t (ax m) s i = absurd s
rule_leaf t (entry m) s i = absurd s
rule_leaf t (rigid m) s i = absurd s

abbrev EitherSide : Leaf → Rule → Type 0
EitherSide l r = StandsIn l r.left ⊎ StandsIn l r.right

no_names : (t : Tree) (r : Rule) → decryption ≡ r → (l : Leaf) → EitherSide l r → IsNoVariable l → renamed t l ≡ leaf l
no_names t r e l s i = rule_leaf t l (only_variables l (subst (EitherSide l) (sym e) s)) i

rules_kept : (t : Tree) → KeepsRules theory (renamed t)
rules_kept t = record {
  left = λ r h l s i. no_names t r (one_rule r h) l (inl s) i;
  right = λ r h l s i. no_names t r (one_rule r h) l (inr s) i;
}

name_renamed : (j : ℕ) (l : Leaf) → IsName l → Evaluates theory (renamed (leaf (private j)) l) (renamed (leaf (private j)) l)
name_renamed j (public m) h = named tt
name_renamed j (private m) h = named tt
name_renamed j (var m) h = absurd h
name_renamed j (ax m) h = absurd h
name_renamed j (entry m) h = absurd h
name_renamed j (rigid m) h = named tt

-- the frame of one private name
abbrev one_name : ℕ → List Tree
one_name i = leaf (private i) ∷ []

handle_renamed : (i j m : ℕ) → 1 ≤ m → m ≤ 1 → replace (renamed (leaf (private j))) (handles_to (one_name i) (ax m)) ≡ handles_to (one_name j) (ax m)
handle_renamed i j zero h l = absurd (omega arith)
handle_renamed i j (suc zero) h l = refl
handle_renamed i j (suc (suc m)) h l = absurd (omega arith)

leaf_renamed : (i j : ℕ) (l : Leaf) → IsRecipeLeaf signature 1 l → replace (renamed (leaf (private j))) (handles_to (one_name i) l) ≡ handles_to (one_name j) l
leaf_renamed i j (public m) h = refl
leaf_renamed i j (private m) h = absurd h
leaf_renamed i j (var m) h = absurd h
leaf_renamed i j (ax m) h = handle_renamed i j m h.0 h.1
leaf_renamed i j (entry m) h = absurd h
leaf_renamed i j (rigid m) h = absurd h

recipe_renamed : (i j : ℕ) (r : Tree) → IsRecipe signature 1 r → replace (renamed (leaf (private j))) (in_frame (one_name i) r) ≡ in_frame (one_name j) r
recipe_renamed i j r h =
    replace_in_turn (handles_to (one_name i)) (renamed (leaf (private j))) r
    ∙ replace_agrees (λ l. replace (renamed (leaf (private j))) (handles_to (one_name i) l)) (handles_to (one_name j)) r
    (λ l s. leaf_renamed i j l (leaf_meets (IsRecipeLeaf signature 1) (HasArity (shapes signature)) h s))

value_renamed : (i j : ℕ) (r v : Tree) → IsRecipe signature 1 r → HasValue theory (one_name i) r v → HasValue theory (one_name j) r (replace (renamed (leaf (private j))) v)
value_renamed i j r v h e =
    subst (λ (t : Tree). Evaluates theory t (replace (renamed (leaf (private j))) v)) (recipe_renamed i j r h)
    (replaced_evaluates theory (renamed (leaf (private j))) (rules_kept (leaf (private j))) (name_renamed j) e)

succeeds_renamed : (i j : ℕ) (r : Tree) → IsRecipe signature 1 r → Succeeds theory (one_name i) r → Succeeds theory (one_name j) r
succeeds_renamed i j r h m = (replace (renamed (leaf (private j))) m.0, value_renamed i j r m.0 h m.1)

equality_renamed : (i j : ℕ) (r s : Tree) → IsRecipe signature 1 r → IsRecipe signature 1 s → HaveOneValue theory (one_name i) r s → HaveOneValue theory (one_name j) r s
equality_renamed i j r s h l e = record { value = replace (renamed (leaf (private j))) e.value; left = value_renamed i j r e.value h e.left; right = value_renamed i j s e.value l e.right }

pub private_names_alike : (i j : ℕ) → AreStaticallyEquivalent signature theory (one_name i) (one_name j)
private_names_alike i j = record {
  same_length = refl;
  same_successes = λ r h. (succeeds_renamed i j r h, succeeds_renamed j i r h);
  same_equalities = λ r s h l. (equality_renamed i j r s h l, equality_renamed j i r s h l);
}

module _ (M : Model) where
  name_matched :
      (i j : ℕ) (word : List Label) (frame : List Tree) → IsOutputTrace M signature theory 0 (leaf (private i)) word frame
      → Matches M signature theory (output 0 (leaf (private j)) nil) word frame
  name_matched i j word frame (inl p) =
      record {
        other = [];
        trace = (
          start (output 0 (leaf (private j)) nil),
          subst
              (λ (w : List Label). Runs M signature theory (start (output 0 (leaf (private j)) nil)) w (start (output 0 (leaf (private j)) nil))) (sym p.0) done,
          refl,
        );
        equivalent = subst (λ (f : List Tree). AreStaticallyEquivalent signature theory f []) (sym p.1) (reflexive signature theory []);
      }
  name_matched i j word frame (inr p) =
      let value : frame ≡ one_name i = p.3 ∙ ap (λ t. t ∷ []) (plain_alone theory p.1 tt) in
      record {
        other = one_name j;
        trace = subst (λ (w : List Label). IsTrace M signature theory (output 0 (leaf (private j)) nil) w (one_name j)) (sym p.2) (one_output M (leaf (private j)) (named tt));
        equivalent = subst (λ (f : List Tree). AreStaticallyEquivalent signature theory f (one_name j)) (sym value) (private_names_alike i j);
      }

  name_included : (i j : ℕ) → IsIncluded M signature theory (output 0 (leaf (private i)) nil) (output 0 (leaf (private j)) nil)
  name_included i j = record { matched = λ word frame t. name_matched i j word frame (output_traces M signature theory 0 (leaf (private i)) word frame t) }

  pub private_names_equivalent : IsEquivalent (against M (tells k) (tells n))
  private_names_equivalent = record { forth = name_included 0 1; back = name_included 1 0 }
