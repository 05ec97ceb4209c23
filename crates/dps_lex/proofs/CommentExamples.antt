-- Examples of comments.
use Rattle.std.proofs.Common.{◌≡◌, ℕ, zero, suc, List, [], ◌++◌, length, refl, ap, sym, ◌∙◌, arith, codes}
use Rattle.std.proofs.lemmas.List.{append-nil}
use Rattle.dps_lex.specs.CommentText.{opening, IsInside, closed, nested, other, IsComment}
use Rattle.dps_lex.specs.LawsOfReading.{HasCommentsAsExpected}
use Rattle.dps_lex.proofs.Nesting.{Closes, none, more, tail_of, other_back, open_back, close_back, none_closes}

-- a comment's inside ends at the end of its text
closes_of : (rest : List ℕ) → IsComment (opening ++ rest) → Closes (suc zero) rest []
closes_of rest c =
    let same : rest ≡ c.0 = ap tail_of (ap tail_of c.1) in
    more {inside = c.0} {between = []} (same ∙ sym (append-nil c.0)) c.2 (none refl)

ended : {bytes after : List ℕ} → Closes zero bytes after → bytes ≡ after
ended (none e) = e

-- the inner comment of ` a (* b *) c `
inner : IsInside (codes " b *)")
inner = other refl refl (other refl refl (other refl refl (closed refl)))

last : IsInside (codes " c *)")
last = other refl refl (other refl refl (other refl refl (closed refl)))

pub comments : HasCommentsAsExpected
comments = record {
  empty = (codes "*)", refl, closed refl);
  star = (codes "**)", refl, other refl refl (closed refl));
  nested = (codes " a (* b *) c *)", refl, other refl refl (other refl refl (other refl refl (nested {inner = codes " b *)"} {rest = codes " c *)"} refl inner last))));
  shared_star = λ c. none_closes (codes ")") [] (omega arith) (closes_of (codes ")") c);
  inner_only = λ c. none_closes [] [] (omega arith) (close_back [] [] (other_back 41 (codes "*)") [] refl (open_back (codes ")*)") [] (closes_of (codes "(*)*)") c))));
  closed_before = λ c. omega (arith, ap length (ended (close_back (codes "*)") [] (closes_of (codes "*)*)") c))));
}
