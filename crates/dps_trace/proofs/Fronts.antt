-- Bytes that begin with a front, or do not.
use Rattle.std.proofs.Common.{◌≡◌, ◌≢◌, ℕ, suc, ◌+◌, ◌<◌, true, false, List, [], ◌∷◌, ◌++◌, Option, Some, None, length, take, drop, get_or, codes, refl, ap, sym, subst, ◌∙◌, arith}
use Rattle.std.specs.Str.{bytes_eq}
use Rattle.std.proofs.lemmas.Slice.Eq.{bytes_eq-Decides}
use Rattle.std.proofs.lemmas.List.{take-append-drop, drop_more, length-take-le, get_or-take}
use Rattle.std.proofs.lemmas.Bool.{eqb-true, eq-eqb}
use Rattle.memchr.specs.Find.{NoneBefore, Nowhere, Passes, is_byte}
use Rattle.std.proofs.Math.Seq.{take-append_seam}
use Rattle.dps_branch.specs.declared.Side.{Side}
use Rattle.dps_branch.specs.declared.Side.TheVariants.{Left, Right}
use Rattle.dps_signature.specs.Signature.{Signature}
use Rattle.dps_trace.specs.declared.model.ModelName.{ModelName}
use Rattle.dps_trace.specs.declared.model.ModelName.TheVariants.{Private, Classic, Eavesdrop}
use Rattle.dps_trace.specs.Cut.{IsWithout, IsCut}
use Rattle.dps_trace.specs.Text.{line, model_line, side_line, heading}
use Rattle.dps_trace.specs.Faults.{BeginsWith, HasHeaderFault, HasModelFault}

pub front_found : (bytes front rest : List ℕ) → bytes_eq (take (length front) bytes) front ≡ true → rest ≡ drop (length front) bytes → bytes ≡ front ++ rest
front_found bytes front rest e d =
    sym (take-append-drop (length front) bytes) ∙ ap (λ xs. xs ++ drop (length front) bytes) ((bytes_eq-Decides (take (length front) bytes) front).0 e) ∙ ap (λ xs. front ++ xs) (sym d)

pub front_missing : (bytes front rest : List ℕ) → bytes_eq (take (length front) bytes) front ≡ false → bytes ≢ front ++ rest
front_missing bytes front rest e h =
    let same : take (length front) bytes ≡ front = ap (take (length front)) h ∙ take-append_seam front rest in
    let yes : bytes_eq (take (length front) bytes) front ≡ true = (bytes_eq-Decides (take (length front) bytes) front).1 same in
    cc

pub ruleset for_behind = (front_found, front_missing)

-- no line of a model is there
pub no_model :
    (bytes : List ℕ) → ((rest : List ℕ) → bytes ≢ codes "model: private\n" ++ rest) → ((rest : List ℕ) → bytes ≢ codes "model: classic\n" ++ rest)
    → ((rest : List ℕ) → bytes ≢ codes "model: eavesdrop\n" ++ rest) → (model : ModelName) → ¬ BeginsWith (model_line model) bytes
no_model bytes f g h Private b = f b.0 b.1
no_model bytes f g h Classic b = g b.0 b.1
no_model bytes f g h Eavesdrop b = h b.0 b.1

-- no line of a side is there
pub no_side :
    (bytes : List ℕ) → ((rest : List ℕ) → bytes ≢ codes "side: left\n" ++ rest) → ((rest : List ℕ) → bytes ≢ codes "side: right\n" ++ rest)
    → (side : Side) → ¬ BeginsWith (side_line side) bytes
no_side bytes f g Left b = f b.0 b.1
no_side bytes f g Right b = g b.0 b.1

pub no_header :
    (S : Signature) (bytes : List ℕ) → ((rest : List ℕ) → bytes ≢ codes "trace 1\n" ++ rest) → ((rest : List ℕ) → bytes ≢ codes "trace 2\n" ++ rest)
    → HasHeaderFault S bytes 1
no_header S bytes f g = record { first = refl; not_first_format = λ b. f b.0 b.1; not_second_format = λ b. g b.0 b.1 }

pub no_model_line :
    (S : Signature) (bytes rest : List ℕ) → bytes ≡ codes "trace 2\n" ++ rest → ((model : ModelName) → ¬ BeginsWith (model_line model) rest)
    → HasModelFault S bytes 2
no_model_line S bytes rest e f = record { second = refl; rest = rest; header = e; no_model = f }

pub no_heading :
    (bytes : List ℕ) → ((rest : List ℕ) → bytes ≢ codes "trace 1\n" ++ rest) → ((rest : List ℕ) → bytes ≢ codes "trace 2\n" ++ rest)
    → (model : Option ModelName) (rest : List ℕ) → bytes ≢ heading model rest
no_heading bytes f g None rest e = f rest e
no_heading bytes f g (Some model) rest e = g (line (model_line model) rest) e

two_is_one : ◌≡◌ {A = ℕ} 50 49 → ⊥
two_is_one e = omega (arith, e)

pub no_model_behind :
    (bytes behind : List ℕ) → bytes ≡ codes "trace 2\n" ++ behind → ((model : ModelName) → ¬ BeginsWith (model_line model) behind)
    → (model : Option ModelName) (rest : List ℕ) → bytes ≢ heading model rest
no_model_behind bytes behind e f None rest h = two_is_one (ap (λ xs. get_or xs 6 0) (sym e ∙ h))
no_model_behind bytes behind e f (Some model) rest h = f model (rest, ap (drop 8) (sym e ∙ h))

pub ruleset for_read_heading = (no_header, no_model_line, no_heading, no_model_behind)

without_by_index : (x : ℕ) (bytes : List ℕ) → ((k : ℕ) → k < length bytes → get_or bytes k 0 ≢ x) → IsWithout x bytes
without_by_index x [] h = tt
without_by_index x (b ∷ bytes) h = (h 0 (omega arith), without_by_index x bytes (λ k l. h (suc k) (omega (arith, l))))

-- the first place of the value
pub cut_found :
    (x k : ℕ) (bytes front back rest : List ℕ) → NoneBefore (Passes (is_byte x) bytes) 0 (length bytes) k → Passes (is_byte x) bytes k
    → front ≡ take k bytes → back ≡ drop k bytes → rest ≡ drop 1 back → IsCut x bytes front rest
cut_found x k bytes front back rest b p f d r =
    let there : drop k bytes ≡ x ∷ drop (k + 1) bytes = drop_more bytes k 0 b.high ∙ ap (λ y. y ∷ drop (k + 1) bytes) (eqb-true (get_or bytes k 0) x p) in
    let last : rest ≡ drop (k + 1) bytes = r ∙ ap (drop 1) (d ∙ there) in
    let here : length (take k bytes) ≡ k = length-take-le k bytes (omega (arith, b.high)) in
    record {
      whole = sym (take-append-drop k bytes) ∙ ap (λ xs. take k bytes ++ xs) (there ∙ ap (λ xs. x ∷ xs) (sym last)) ∙ ap (λ xs. xs ++ (x ∷ rest)) (sym f);
      without =
          subst (IsWithout x) (sym f)
          (without_by_index x (take k bytes) (λ j l e.
          let low : j < k = omega (arith, here, l) in
          b.before j (omega arith) low (eq-eqb (get_or bytes j 0) x (sym (get_or-take k bytes j 0 low) ∙ e))));
    }

-- the value is nowhere
pub cut_missing : (x : ℕ) (bytes : List ℕ) → Nowhere (Passes (is_byte x) bytes) 0 (length bytes) → IsWithout x bytes
cut_missing x bytes h = without_by_index x bytes (λ k l e. h k (omega arith) l (eq-eqb (get_or bytes k 0) x e))

pub ruleset for_cut = (cut_found, cut_missing)
