-- Texts tell labels, and traces, apart.
use Rattle.std.proofs.Common.{◌≡◌, ◌≢◌, ℕ, List, [], ◌∷◌, ◌++◌, Option, Some, None, refl, ap, sym, subst, ◌∙◌, get_or, drop, arith}
use Rattle.std.specs.Fmt.{decimal}
use Rattle.std.proofs.lemmas.Fmt.{decimal_injective}
use Rattle.std.proofs.lemmas.List.{append_cancel_right, append-nil}
use Rattle.dps_terms.specs.Tree.{Tree}
use Rattle.dps_signature.specs.Signature.{Signature, IsPublic}
use Rattle.dps_signature.specs.Spelled.{IsSpelled}
use Rattle.dps_signature.specs.Text.{name_text, term_text}
use Rattle.dps_branch.specs.declared.Side.{Side}
use Rattle.dps_branch.specs.declared.Side.TheVariants.{Left, Right}
use Rattle.dps_process.specs.Steps.{Label, inputs, outputs, overhears}
use Rattle.dps_trace.specs.declared.model.ModelName.{ModelName}
use Rattle.dps_trace.specs.declared.model.ModelName.TheVariants.{Private, Classic, Eavesdrop}
use Rattle.dps_trace.specs.Text.{line, label_text, label_lines, side_line, heading}
use Rattle.dps_trace.specs.Written.{IsWrittenLabel, IsWrittenRecipe, AreWritten, outputs_behind, outputs_after}
use Rattle.dps_trace.specs.Scanning.{public_named, recipe_read}
use Rattle.dps_trace.proofs.Cuts.{one_cut}
use Rattle.dps_trace.proofs.Labels.{text_read, name_without}
use Rattle.dps_trace.proofs.WordsRead.{name_is, public_read}
use Rattle.dps_trace.proofs.Unbroken.{label_unbroken}

some_same : {A : Type 0} (x y : A) → Some x ≡ Some y → x ≡ y
some_same x y e = cc

-- the byte at a place
abbrev byte_at : ℕ → List ℕ → ℕ
byte_at i bytes = get_or bytes i 0

apart_by : (a b : ℕ) → a ≢ b → a ≡ b → ⊥
apart_by a b h e = h e

pub a_line_is_some : (text rest : List ℕ) → line text rest ≢ []
a_line_is_some [] rest e = cc
a_line_is_some (b ∷ text) rest e = cc

module _ (S : Signature) (spelled : IsSpelled S) where
  name_found : (c : ℕ) → IsPublic S c → public_named S (name_text S c) ≡ Some c
  name_found c h = ap (public_named S) (name_is S spelled c h) ∙ public_read S spelled c h

  channels_apart : (c d : ℕ) → IsPublic S c → IsPublic S d → name_text S c ≡ name_text S d → c ≡ d
  channels_apart c d h k e = some_same c d (sym (name_found c h) ∙ ap (public_named S) e ∙ name_found d k)

  -- two names, each before a comma
  split_apart :
      (c d : ℕ) (r s : List ℕ) → IsPublic S c → IsPublic S d → name_text S c ++ (44 ∷ r) ≡ name_text S d ++ (44 ∷ s) → (c ≡ d) × (r ≡ s)
  split_apart c d r s h k e =
      let cut = one_cut 44 (name_text S c) (name_text S d) r s (name_without S spelled c h) (name_without S spelled d k) e in
      (channels_apart c d h k cut.0, cut.1)

  recipes_apart : (r q : Tree) → IsWrittenRecipe S r → IsWrittenRecipe S q → term_text S r ≡ term_text S q → r ≡ q
  recipes_apart r q h k e = some_same r q (sym (text_read S spelled r h) ∙ ap (recipe_read S) e ∙ text_read S spelled q k)

  pub labels_apart : (a b : Label) → IsWrittenLabel S a → IsWrittenLabel S b → label_text S a ≡ label_text S b → a ≡ b
  labels_apart (inputs c r) (inputs d q) h k e =
      let both = split_apart c d (term_text S r ++ 41 ∷ []) (term_text S q ++ 41 ∷ []) h.0 k.0 (ap (drop 3) e) in
      let same : r ≡ q = recipes_apart r q h.1 k.1 (append_cancel_right (term_text S r) (term_text S q) (41 ∷ []) both.1) in
      ap (λ x. inputs x r) both.0 ∙ ap (inputs d) same
  labels_apart (outputs c j) (outputs d i) h k e =
      let both = split_apart c d (97 ∷ 120 ∷ (decimal j ++ 41 ∷ [])) (97 ∷ 120 ∷ (decimal i ++ 41 ∷ [])) h.0 k.0 (ap (drop 4) e) in
      let digits : decimal j ≡ decimal i = append_cancel_right (decimal j) (decimal i) (41 ∷ []) (ap (drop 2) both.1) in
      let same : j ≡ i = decimal_injective j i (omega (arith, h.2)) (omega (arith, k.2)) digits in
      ap (λ x. outputs x j) both.0 ∙ ap (outputs d) same
  labels_apart (inputs c r) (outputs d j) h k e = absurd (apart_by 105 111 (λ f. omega (arith, f)) (ap (byte_at 0) e))
  labels_apart (outputs c j) (inputs d r) h k e = absurd (apart_by 111 105 (λ f. omega (arith, f)) (ap (byte_at 0) e))
  labels_apart (overhears c j) b h k e = absurd h
  labels_apart (inputs c r) (overhears d j) h k e = absurd k
  labels_apart (outputs c i) (overhears d j) h k e = absurd k

  -- two lines of labels
  pub lines_apart :
      (a b : Label) (r s : List ℕ) → IsWrittenLabel S a → IsWrittenLabel S b → line (label_text S a) r ≡ line (label_text S b) s → (a ≡ b) × (r ≡ s)
  lines_apart a b r s h k e =
      let cut = one_cut 10 (label_text S a) (label_text S b) r s (label_unbroken S spelled a h) (label_unbroken S spelled b k) e in
      (labels_apart a b h k cut.0, cut.1)

  -- What lines of all labels are behind lines of some: the lines of the others.
  pub record Continues (m : ℕ) (xs ys : List Label) (rest : List ℕ) : Type 0 where
    pub others : List Label
    pub all : ys ≡ xs ++ others
    pub lines : rest ≡ label_lines S others []
    pub written : AreWritten S (outputs_after m xs) others

  pub continues :
      (m : ℕ) (xs ys : List Label) (rest : List ℕ) → AreWritten S m xs → AreWritten S m ys → label_lines S xs rest ≡ label_lines S ys [] → Continues m xs ys rest
  continues m [] ys rest h k e = record { others = ys; all = refl; lines = e; written = k }
  continues m (x ∷ xs) [] rest h k e = absurd (a_line_is_some (label_text S x) (label_lines S xs rest) e)
  continues m (x ∷ xs) (y ∷ ys) rest h k e =
      let both = lines_apart x y (label_lines S xs rest) (label_lines S ys []) h.0 k.0 e in
      let behind : AreWritten S (outputs_behind m x) ys = subst (λ l. AreWritten S (outputs_behind m l) ys) (sym both.0) k.2 in
      let more = continues (outputs_behind m x) xs ys rest h.2 behind both.1 in
      record {
        others = more.others;
        all = ap (λ l. l ∷ ys) (sym both.0) ∙ ap (λ ls. x ∷ ls) more.all;
        lines = more.lines;
        written = more.written;
      }

  no_line_left : (m : ℕ) (zs : List Label) → AreWritten S m zs → [] ≡ label_lines S zs [] → zs ≡ []
  no_line_left m [] h e = refl
  no_line_left m (z ∷ zs) h e = absurd (a_line_is_some (label_text S z) (label_lines S zs []) (sym e))

  pub all_labels_apart : (xs ys : List Label) → AreWritten S 0 xs → AreWritten S 0 ys → label_lines S xs [] ≡ label_lines S ys [] → xs ≡ ys
  all_labels_apart xs ys h k e =
      let more = continues 0 xs ys [] h k e in
      sym (more.all ∙ ap (λ zs. xs ++ zs) (no_line_left (outputs_after 0 xs) more.others more.written more.lines) ∙ append-nil xs)

-- headings
pub record SameHeading (m n : Option ModelName) (r s : List ℕ) : Type 0 where
  pub model : m ≡ n
  pub rest : r ≡ s

pub headings_apart : (m n : Option ModelName) (r s : List ℕ) → heading m r ≡ heading n s → SameHeading m n r s
headings_apart None None r s e = record { model = refl; rest = ap (drop 8) e }
headings_apart (Some Private) (Some Private) r s e = record { model = refl; rest = ap (drop 23) e }
headings_apart (Some Classic) (Some Classic) r s e = record { model = refl; rest = ap (drop 23) e }
headings_apart (Some Eavesdrop) (Some Eavesdrop) r s e = record { model = refl; rest = ap (drop 25) e }
headings_apart None (Some Private) r s e = absurd (apart_by 49 50 (λ f. omega (arith, f)) (ap (byte_at 6) e))
headings_apart None (Some Classic) r s e = absurd (apart_by 49 50 (λ f. omega (arith, f)) (ap (byte_at 6) e))
headings_apart None (Some Eavesdrop) r s e = absurd (apart_by 49 50 (λ f. omega (arith, f)) (ap (byte_at 6) e))
headings_apart (Some Private) None r s e = absurd (apart_by 50 49 (λ f. omega (arith, f)) (ap (byte_at 6) e))
headings_apart (Some Classic) None r s e = absurd (apart_by 50 49 (λ f. omega (arith, f)) (ap (byte_at 6) e))
headings_apart (Some Eavesdrop) None r s e = absurd (apart_by 50 49 (λ f. omega (arith, f)) (ap (byte_at 6) e))
headings_apart (Some Private) (Some Classic) r s e = absurd (apart_by 112 99 (λ f. omega (arith, f)) (ap (byte_at 15) e))
headings_apart (Some Private) (Some Eavesdrop) r s e = absurd (apart_by 112 101 (λ f. omega (arith, f)) (ap (byte_at 15) e))
headings_apart (Some Classic) (Some Private) r s e = absurd (apart_by 99 112 (λ f. omega (arith, f)) (ap (byte_at 15) e))
headings_apart (Some Classic) (Some Eavesdrop) r s e = absurd (apart_by 99 101 (λ f. omega (arith, f)) (ap (byte_at 15) e))
headings_apart (Some Eavesdrop) (Some Private) r s e = absurd (apart_by 101 112 (λ f. omega (arith, f)) (ap (byte_at 15) e))
headings_apart (Some Eavesdrop) (Some Classic) r s e = absurd (apart_by 101 99 (λ f. omega (arith, f)) (ap (byte_at 15) e))

pub record SameSide (a b : Side) (r s : List ℕ) : Type 0 where
  pub side : a ≡ b
  pub rest : r ≡ s

pub sides_apart : (a b : Side) (r s : List ℕ) → line (side_line a) r ≡ line (side_line b) s → SameSide a b r s
sides_apart Left Left r s e = record { side = refl; rest = ap (drop 11) e }
sides_apart Right Right r s e = record { side = refl; rest = ap (drop 12) e }
sides_apart Left Right r s e = absurd (apart_by 108 114 (λ f. omega (arith, f)) (ap (byte_at 6) e))
sides_apart Right Left r s e = absurd (apart_by 114 108 (λ f. omega (arith, f)) (ap (byte_at 6) e))
