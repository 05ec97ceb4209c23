use Rattle.std.proofs.Common.{arith, get_or, refl, ◌+◌, ◌≡◌, ◌∷◌, [], false, subst, sym}
use Rattle.std.proofs.lemmas.Bool.Decides.{nat_tests}
use Rattle.dps_lex.specs.CommentText.{begins_mark}
use Rattle.dps_lex.proofs.Comments.{IsNested, nested_other, nested_end, opening_room}
use Rattle.dps_lex.proofs.comment.comment_end.Goals as goal

pub past_byte-position-requires-clause-inside : goal.past_byte-position-requires-clause-inside
past_byte-position-requires-clause-inside c = omega (arith, opening_room c.args.bytes.now c.args.from.at c.requires.opens)

pub returns-then-depth-eq0 : goal.returns-then-depth-eq0
returns-then-depth-eq0 c =
    let bytes = c.args.bytes.now in
    let at = c.loop-position.position.at in
    let end = c.past_byte-position-then-next-eq41 in
    record {
      position = end.ensures.position;
      on = omega arith;
      comment =
          nested_end
          bytes
          c.args.from.at
          at
          c.loop-position.depth
          (get_or bytes at 0)
          (get_or bytes (at + 1) 0)
          end.result.at
          (omega arith)
          (omega arith)
          refl
          refl
          c.if-byte-eq42.true
          c.if-next-eq41.true
          c.requires.opens
          c.loop-position.invariant.nested
          c.if-depth-eq0.true
          (omega arith);
    }

pub loop-position-preserved : goal.loop-position-preserved
loop-position-preserved c =
    let bytes = c.args.bytes.now in
    let start = c.args.from.at + 2 in
    let at = c.loop-position.position.at in
    let depth = c.loop-position.depth in
    let none : begins_mark (get_or bytes at 0 ∷ get_or bytes (at + 1) 0 ∷ []) ≡ false = grind (arith, nat_tests, c.else-byte-eq42.either, c.else-byte-eq40.either) in
    let next = c.past_byte-position-else-byte-eq40 in
    let nested = nested_other bytes start at depth (get_or bytes at 0) (get_or bytes (at + 1) 0) (omega arith) refl refl none c.loop-position.invariant.nested in
    record {
      position = next.ensures.position;
      on = omega arith;
      deep = omega arith;
      nested = subst (λ n. IsNested bytes start n depth) (sym next.ensures.at) nested;
    }
