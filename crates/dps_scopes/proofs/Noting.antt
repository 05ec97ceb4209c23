-- The first places of the texts of a list that grows.
use Rattle.std.proofs.Common.{◌≡◌, ℕ, ◌+◌, ◌≤◌, Bool, true, false, cond, not, List, [], ◌∷◌, ◌++◌, length, length-append, refl, sym, ap, ◌∙◌, Some, None, Option, is_some, nat_lt, arith}
use Rattle.std.proofs.Math.Dec.{eqb}
use Rattle.std.proofs.lemmas.Map.Text.{hash_map_updates_text}
use Rattle.std.proofs.lemmas.Slice.Eq.{bytes_eq-Decides}
use Rattle.std.proofs.lemmas.List.Folds.{position_or_len_push}
use Rattle.std.proofs.lemmas.List.Sums.{prefix_len-le-length}
use Rattle.std.specs.List.{position, position_or_len}
use Rattle.std.specs.Bool.{one_answer}
use Rattle.std.specs.Str.{bytes_eq}
use Rattle.std.specs.String.{string_bytes, string_eq}
use Rattle.std.specs.HashMap.{HashMap, UpdatesBy, get_by_text}
use Rattle.std.specs.declared.string.String.{String}
use Rattle.dps_scopes.specs.Places.{place_or_last}

by_numbers : (k n j m : ℕ) (c : Bool) → k ≤ n → j ≡ cond (eqb k n) (n + cond c 0 1) k → m ≡ n + 1 → cond (nat_lt j m) (Some j) None ≡ place_or_last (cond (nat_lt k n) (Some k) None) c n
by_numbers k n j m true l e f = grind (arith, l, e, f)
by_numbers k n j m false l e f = grind (arith, l, e, f)

-- the place of a text in the list with one more
pub position-push : {X : Type 0} (p : X → Bool) (xs : List X) (y : X) → position p (xs ++ y ∷ []) ≡ place_or_last (position p xs) (p y) (length xs)
position-push p xs y =
    by_numbers (position_or_len p xs) (length xs) (position_or_len p (xs ++ y ∷ [])) (length (xs ++ y ∷ [])) (p y) (prefix_len-le-length (λ x. not (p x)) xs) (position_or_len_push p xs y)
    (length-append xs (y ∷ []))

either_way : (xs ys : List ℕ) → bytes_eq xs ys ≡ bytes_eq ys xs
either_way xs ys =
    let there = bytes_eq-Decides ys xs in
    one_answer (bytes_eq xs ys) (bytes_eq ys xs) (bytes_eq-Decides xs ys) (λ e. sym (there.0 e), λ e. there.1 (sym e))

kept : (o : Option ℕ) (n : ℕ) → o ≡ place_or_last o false n
kept (Some i) n = refl
kept None n = refl

-- a text that had no place has one
pub noted :
    {Y S : Type 0} (old new : HashMap (String Y) ℕ S) (text : String Y) (n : ℕ) → get_by_text old (string_bytes text) ≡ None
    → UpdatesBy string_eq (λ k. bytes_eq (string_bytes text) (string_bytes k)) old new (Some n) → (q : List ℕ)
    → get_by_text new q ≡ place_or_last (get_by_text old q) (bytes_eq q (string_bytes text)) n
noted old new text n none u q =
    hash_map_updates_text (string_bytes text) old new (Some n) u q
    ∙ (by_test (bytes_eq (string_bytes text) q) refl ∙ ap (λ b. place_or_last (get_by_text old q) b n) (either_way (string_bytes text) q))
  where
    by_test : (b : Bool) → bytes_eq (string_bytes text) q ≡ b → cond b (Some n) (get_by_text old q) ≡ place_or_last (get_by_text old q) b n
    by_test true e =
        let same = (bytes_eq-Decides (string_bytes text) q).0 e in
        ap (λ o. place_or_last o true n) (sym none ∙ ap (get_by_text old) same)
    by_test false e = kept (get_by_text old q) n

pub nothing : {X : Type 0} (o : Option X) → is_some o ≡ false → o ≡ None
nothing (Some x) e = cc
nothing None e = refl
