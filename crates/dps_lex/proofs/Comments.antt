-- The loop over a comment.
use Rattle.std.proofs.Common.{◌≡◌, ℕ, ◌+◌, ◌-◌, ◌<◌, ◌≤◌, zero, suc, true, false, List, [], ◌∷◌, ◌++◌}
use Rattle.std.proofs.Common.{length, get_or, take, drop, refl, ap, sym, ◌∙◌, subst, arith, length-append, length-drop, add-one, slice_range}
use Rattle.std.proofs.lemmas.List.{drop_more, take_at, drop-drop}
use Rattle.std.proofs.lemmas.Bool.Decides.{nat_tests}
use Rattle.dps_lex.specs.CommentText.{opening, begins_mark, IsInside, IsComment}
use Rattle.dps_lex.specs.Reading.{BeginsWith}
use Rattle.dps_lex.specs.Scanning.{HasNoComment, is_plain}
use Rattle.dps_lex.proofs.Nesting.{Closes, none, more, other_on, other_back, open_on, open_back, close_on, close_back, none_closes}

-- The comment that goes on at `start` goes on at `at` inside so many more: it ends at the same place.
pub record IsNested (bytes : List ℕ) (start at depth : ℕ) : Type 0 where
  pub on : (after : List ℕ) → Closes (suc depth) (drop at bytes) after → Closes (suc zero) (drop start bytes) after
  pub back : (after : List ℕ) → Closes (suc zero) (drop start bytes) after → Closes (suc depth) (drop at bytes) after

pub nested_first : (bytes : List ℕ) (start : ℕ) → IsNested bytes start start 0
nested_first bytes start = record { on = λ after c. c; back = λ after c. c }

one_more : (bytes : List ℕ) (at first : ℕ) → at < length bytes → first ≡ get_or bytes at 0 → drop at bytes ≡ first ∷ drop (at + 1) bytes
one_more bytes at first h f = drop_more bytes at 0 h ∙ ap (λ z. z ∷ drop (at + 1) bytes) (sym f)

two_more : (bytes : List ℕ) (at first second : ℕ) → at + 1 < length bytes → first ≡ get_or bytes at 0 → second ≡ get_or bytes (at + 1) 0 → drop at bytes ≡ first ∷ second ∷ drop (at + 1 + 1) bytes
two_more bytes at first second h f s =
    one_more bytes at first (omega arith) f ∙ ap (λ z. first ∷ z) (one_more bytes (at + 1) second h s)

pub nested_other :
    (bytes : List ℕ) (start at depth first second : ℕ) → at + 1 < length bytes → first ≡ get_or bytes at 0 → second ≡ get_or bytes (at + 1) 0
    → begins_mark (first ∷ second ∷ []) ≡ false → IsNested bytes start at depth → IsNested bytes start (at + 1) depth
nested_other bytes start at depth first second h f s m n =
    let rest = drop (at + 1 + 1) bytes in
    let whole = two_more bytes at first second h f s in
    let later = one_more bytes (at + 1) second h s in
    record {
      on = λ after c. n.on after (subst (λ z. Closes (suc depth) z after) (sym whole) (other_on first (second ∷ rest) after m (subst (λ z. Closes (suc depth) z after) later c)));
      back = λ after c. subst (λ z. Closes (suc depth) z after) (sym later) (other_back first (second ∷ rest) after m (subst (λ z. Closes (suc depth) z after) whole (n.back after c)));
    }

plain_no_mark : (a b : ℕ) → is_plain a ≡ true → begins_mark (a ∷ b ∷ []) ≡ false
plain_no_mark a b p = grind (arith, nat_tests)

pub nested_plain :
    (bytes : List ℕ) (start at depth first : ℕ) → at + 1 < length bytes → first ≡ get_or bytes at 0 → is_plain first ≡ true → IsNested bytes start at depth
    → IsNested bytes start (at + 1) depth
nested_plain bytes start at depth first h f p n =
    nested_other bytes start at depth first (get_or bytes (at + 1) 0) h f refl (plain_no_mark first (get_or bytes (at + 1) 0) p) n

two_marks :
    (bytes : List ℕ) (at first second a b : ℕ) → at + 1 < length bytes → first ≡ get_or bytes at 0 → second ≡ get_or bytes (at + 1) 0 → first ≡ a → second ≡ b
    → drop at bytes ≡ a ∷ b ∷ drop (at + 1 + 1) bytes
two_marks bytes at first second a b h f s e g = two_more bytes at a b h (sym e ∙ f) (sym g ∙ s)

pub nested_open :
    (bytes : List ℕ) (start at depth first second : ℕ) → at + 1 < length bytes → first ≡ get_or bytes at 0 → second ≡ get_or bytes (at + 1) 0 → first ≡ 40
    → second ≡ 42 → IsNested bytes start at depth → IsNested bytes start (at + 1 + 1) (depth + 1)
nested_open bytes start at depth first second h f s a b n =
    let rest = drop (at + 1 + 1) bytes in
    let whole = two_marks bytes at first second 40 42 h f s a b in
    record {
      on = λ after c. n.on after (subst (λ z. Closes (suc depth) z after) (sym whole) (open_on rest after (subst (λ k. Closes (suc k) rest after) (add-one depth) c)));
      back = λ after c. subst (λ k. Closes (suc k) rest after) (sym (add-one depth)) (open_back rest after (subst (λ z. Closes (suc depth) z after) whole (n.back after c)));
    }

pub nested_close :
    (bytes : List ℕ) (start at depth first second : ℕ) → at + 1 < length bytes → first ≡ get_or bytes at 0 → second ≡ get_or bytes (at + 1) 0 → first ≡ 42
    → second ≡ 41 → 0 < depth → IsNested bytes start at depth → IsNested bytes start (at + 1 + 1) (depth - 1)
nested_close bytes start at depth first second h f s a b d n =
    let rest = drop (at + 1 + 1) bytes in
    let whole = two_marks bytes at first second 42 41 h f s a b in
    let less : depth ≡ suc (depth - 1) = omega arith in
    record {
      on = λ after c. n.on after (subst (λ z. Closes (suc depth) z after) (sym whole) (close_on rest after (subst (λ k. Closes k rest after) (sym less) c)));
      back = λ after c. subst (λ k. Closes k rest after) less (close_back rest after (subst (λ z. Closes (suc depth) z after) whole (n.back after c)));
    }

-- one comment is open
pub record IsLast (bytes after : List ℕ) : Type 0 where
  pub inside : List ℕ
  pub is : bytes ≡ inside ++ after
  pub whole : IsInside inside

pub last_of : {bytes after : List ℕ} → Closes (suc zero) bytes after → IsLast bytes after
last_of (more {inside} {between} e i (none f)) = record { inside = inside; is = e ∙ ap (λ z. inside ++ z) f; whole = i }

behind_opening : (bytes rest : List ℕ) (from : ℕ) → drop from bytes ≡ opening ++ rest → drop (from + 2) bytes ≡ rest
behind_opening bytes rest from e = sym (drop-drop 2 from bytes) ∙ ap (λ z. drop 2 z) e

pub nested_end :
    (bytes : List ℕ) (from at depth first second to : ℕ) → from + 2 ≤ at → at + 1 < length bytes → first ≡ get_or bytes at 0 → second ≡ get_or bytes (at + 1) 0
    → first ≡ 42 → second ≡ 41 → BeginsWith opening (drop from bytes) → IsNested bytes (from + 2) at depth → depth ≡ 0 → to ≡ at + 1 + 1
    → IsComment (slice_range bytes from to)
nested_end bytes from at depth first second to o h f s a b begins n d t =
    let rest = drop (at + 1 + 1) bytes in
    let whole = two_marks bytes at first second 42 41 h f s a b in
    let last = last_of (n.on rest (subst (λ z. Closes (suc depth) z rest) (sym whole) (close_on rest rest (subst (λ k. Closes k rest rest) (sym d) (none refl))))) in
    let text = opening ++ last.inside in
    let all : drop from bytes ≡ text ++ rest = begins.1 ∙ ap (λ z. opening ++ z) (sym (behind_opening bytes begins.0 from begins.1) ∙ last.is) in
    let long : length text ≡ to - from = omega (arith, ap length all, length-append text rest, length-drop from bytes, length-drop (at + 1 + 1) bytes) in
    (last.inside, ap (take (to - from)) all ∙ take_at text rest (to - from) long, last.whole)

pub nested_open_end : (bytes : List ℕ) (from at depth : ℕ) → length bytes ≤ at + 1 → BeginsWith opening (drop from bytes) → IsNested bytes (from + 2) at depth → HasNoComment (drop from bytes)
nested_open_end bytes from at depth h begins n = record {
  none = λ text front comment. (
      let after = front.0 in
      let inside = comment.0 in
      let all : drop from bytes ≡ opening ++ (inside ++ after) = front.1 ∙ ap (λ z. z ++ after) comment.1 in
      let left : length (drop at bytes) ≤ 1 = omega (arith, length-drop at bytes) in
      none_closes (drop at bytes) after left (n.back after (more (behind_opening bytes (inside ++ after) from all) comment.2 (none refl))));
}

pub opening_room : (bytes : List ℕ) (from : ℕ) → BeginsWith opening (drop from bytes) → from + 1 < length bytes
opening_room bytes from begins = omega (arith, ap length begins.1, length-drop from bytes)

pub ruleset for_comment_end = (nested_first, nested_plain, nested_other, nested_open, nested_close, nested_end, nested_open_end)
