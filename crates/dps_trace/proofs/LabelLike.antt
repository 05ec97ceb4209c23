-- The label that alone may have a text, from its parts.
use Rattle.std.proofs.Common.{◌≡◌, ℕ, List, [], ◌∷◌, ◌++◌, Some, None, ap, sym, ◌∙◌, arith, get_or, drop, codes}
use Rattle.std.specs.Fmt.{decimal}
use Rattle.std.proofs.lemmas.Option.{none-some}
use Rattle.dps_terms.specs.Tree.{Tree}
use Rattle.dps_signature.specs.Signature.{Signature, IsPublic}
use Rattle.dps_signature.specs.Spelled.{IsSpelled}
use Rattle.dps_signature.specs.Text.{name_text, term_text}
use Rattle.dps_process.specs.Steps.{Label, inputs, outputs, overhears}
use Rattle.dps_trace.specs.Text.{label_text}
use Rattle.dps_trace.specs.Written.{IsWrittenLabel}
use Rattle.dps_trace.specs.Scanning.{handle_read, recipe_read}
use Rattle.dps_trace.proofs.Labels.{text_read, handle_is}
use Rattle.dps_trace.proofs.Sound.{handle_small, recipe_over}

-- the channel and what is inside, where a label's text is split
abbrev pub IsSplit : Signature → List ℕ → ℕ → List ℕ → Type 0
IsSplit S text n inside = (c : ℕ) (within : List ℕ) → IsPublic S c → text ≡ name_text S c ++ (44 ∷ within ++ 41 ∷ []) → (n ≡ c) × (inside ≡ within)

abbrev pub IsNotSplit : Signature → List ℕ → Type 0
IsNotSplit S text = (c : ℕ) (within : List ℕ) → IsPublic S c → text ≡ name_text S c ++ (44 ∷ within ++ 41 ∷ []) → ⊥

unsome : {A : Type 0} (x y : A) → Some x ≡ Some y → x ≡ y
unsome x y f = cc

-- outputs

pub output_written : (S : Signature) (inside : List ℕ) (c j : ℕ) → IsPublic S c → Some j ≡ handle_read inside → IsWrittenLabel S (outputs c j)
output_written S inside c j h e = let k = handle_small S inside j (sym e) in (h, k.0, k.1)

pub no_output :
    (S : Signature) (text : List ℕ) (c j : ℕ) → IsNotSplit S text → IsWrittenLabel S (outputs c j) → text ≡ name_text S c ++ (codes ",ax" ++ (decimal j ++ codes ")"))
    → None ≡ Some (outputs c j)
no_output S text c j split h e = absurd (split c (97 ∷ 120 ∷ decimal j) h.0 e)

pub no_handle :
    (S : Signature) (spelled : IsSpelled S) (text inside : List ℕ) (n c j : ℕ) → IsSplit S text n inside → None ≡ handle_read inside → IsWrittenLabel S (outputs c j)
    → text ≡ name_text S c ++ (codes ",ax" ++ (decimal j ++ codes ")")) → None ≡ Some (outputs c j)
no_handle S spelled text inside n c j split none h e =
    let k = split c (97 ∷ 120 ∷ decimal j) h.0 e in
    absurd (none-some j (none ∙ ap handle_read k.1 ∙ handle_is S spelled j h.1 h.2))

pub output_is :
    (S : Signature) (spelled : IsSpelled S) (text inside : List ℕ) (n i c j : ℕ) → IsSplit S text n inside → Some i ≡ handle_read inside → IsWrittenLabel S (outputs c j)
    → text ≡ name_text S c ++ (codes ",ax" ++ (decimal j ++ codes ")")) → Some (outputs n i) ≡ Some (outputs c j)
output_is S spelled text inside n i c j split some h e =
    let k = split c (97 ∷ 120 ∷ decimal j) h.0 e in
    let same : i ≡ j = unsome i j (some ∙ ap handle_read k.1 ∙ handle_is S spelled j h.1 h.2) in
    ap (λ x. Some (outputs x i)) k.0 ∙ ap (λ x. Some (outputs c x)) same

pub ruleset for_output_like = (output_written, no_output, no_handle, output_is)

-- inputs

pub input_written : (S : Signature) (inside : List ℕ) (c : ℕ) (r : Tree) → IsPublic S c → Some r ≡ recipe_read S inside → IsWrittenLabel S (inputs c r)
input_written S inside c r h e = (h, recipe_over S inside r (sym e))

pub no_input :
    (S : Signature) (text : List ℕ) (c : ℕ) (r : Tree) → IsNotSplit S text → IsWrittenLabel S (inputs c r) → text ≡ name_text S c ++ (codes "," ++ (term_text S r ++ codes ")"))
    → None ≡ Some (inputs c r)
no_input S text c r split h e = absurd (split c (term_text S r) h.0 e)

pub no_recipe :
    (S : Signature) (spelled : IsSpelled S) (text inside : List ℕ) (n c : ℕ) (r : Tree) → IsSplit S text n inside → None ≡ recipe_read S inside → IsWrittenLabel S (inputs c r)
    → text ≡ name_text S c ++ (codes "," ++ (term_text S r ++ codes ")")) → None ≡ Some (inputs c r)
no_recipe S spelled text inside n c r split none h e =
    let k = split c (term_text S r) h.0 e in
    absurd (none-some r (none ∙ ap (recipe_read S) k.1 ∙ text_read S spelled r h.1))

pub input_is :
    (S : Signature) (spelled : IsSpelled S) (text inside : List ℕ) (n c : ℕ) (q r : Tree) → IsSplit S text n inside → Some q ≡ recipe_read S inside → IsWrittenLabel S (inputs c r)
    → text ≡ name_text S c ++ (codes "," ++ (term_text S r ++ codes ")")) → Some (inputs n q) ≡ Some (inputs c r)
input_is S spelled text inside n c q r split some h e =
    let k = split c (term_text S r) h.0 e in
    let same : q ≡ r = unsome q r (some ∙ ap (recipe_read S) k.1 ∙ text_read S spelled r h.1) in
    ap (λ x. Some (inputs x q)) k.0 ∙ ap (λ x. Some (inputs c x)) same

pub ruleset for_input_like = (input_written, no_input, no_recipe, input_is)

-- both: what is so of each input whose text is behind `in(` is so of each label of the line, and likewise with outputs

pub of_inputs :
    (S : Signature) (line rest : List ℕ) (P : Label → Type 0) → line ≡ codes "in(" ++ rest
    → ((c : ℕ) (r : Tree) → IsWrittenLabel S (inputs c r) → rest ≡ name_text S c ++ (codes "," ++ (term_text S r ++ codes ")")) → P (inputs c r))
    → (label : Label) → IsWrittenLabel S label → line ≡ label_text S label → P label
of_inputs S line rest P is f (inputs c r) h e = f c r h (ap (drop 3) (sym is ∙ e))
of_inputs S line rest P is f (outputs c j) h e = absurd (clash (ap (λ xs. get_or xs 0 0) (sym is ∙ e)))
  where
    clash : ◌≡◌ {A = ℕ} 105 111 → ⊥
    clash g = omega (arith, g)
of_inputs S line rest P is f (overhears c j) h e = absurd h

pub of_outputs :
    (S : Signature) (line rest : List ℕ) (P : Label → Type 0) → line ≡ codes "out(" ++ rest
    → ((c j : ℕ) → IsWrittenLabel S (outputs c j) → rest ≡ name_text S c ++ (codes ",ax" ++ (decimal j ++ codes ")")) → P (outputs c j))
    → (label : Label) → IsWrittenLabel S label → line ≡ label_text S label → P label
of_outputs S line rest P is f (outputs c j) h e = f c j h (ap (drop 4) (sym is ∙ e))
of_outputs S line rest P is f (inputs c r) h e = absurd (clash (ap (λ xs. get_or xs 0 0) (sym is ∙ e)))
  where
    clash : ◌≡◌ {A = ℕ} 111 105 → ⊥
    clash g = omega (arith, g)
of_outputs S line rest P is f (overhears c j) h e = absurd h

pub of_none :
    (S : Signature) (line : List ℕ) → ((rest : List ℕ) → line ≡ codes "in(" ++ rest → ⊥) → ((rest : List ℕ) → line ≡ codes "out(" ++ rest → ⊥)
    → (label : Label) → IsWrittenLabel S label → line ≡ label_text S label → None ≡ Some label
of_none S line no_in no_out (inputs c r) h e = absurd (no_in (name_text S c ++ (codes "," ++ (term_text S r ++ codes ")"))) e)
of_none S line no_in no_out (outputs c j) h e = absurd (no_out (name_text S c ++ (codes ",ax" ++ (decimal j ++ codes ")"))) e)
of_none S line no_in no_out (overhears c j) h e = absurd h

-- a label with another text is not the one
pub other_text : (S : Signature) (line text : List ℕ) (found label : Label) → text ≡ label_text S found → (text ≡ line → ⊥) → Some found ≡ Some label → line ≡ label_text S label → None ≡ Some label
other_text S line text found label t differs same e = absurd (differs (t ∙ ap (label_text S) (unsome found label same) ∙ sym e))
