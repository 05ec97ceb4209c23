use Rattle.dps_syntax.proofs.Files.{took_sign, not_sign_found}
use Rattle.dps_syntax.proofs.expected.Expected.accept.Goals as goal

pub returns-then-not-is_taken : goal.returns-then-not-is_taken
returns-then-not-is_taken c =
    not_sign_found
    c.in-Sign.sign
    c.args.word
    c.args.self.now
    c.turn.new.self
    c.in_ok-sign.field-0
    c.args.marks.now.items
    c.turn.new.marks.items
    c.in-Sign.is
    c.in_ok-sign.ensures
    c.if-not-is_taken.ensures

pub returns-in_ok-push-in-Sign : goal.returns-in_ok-push-in-Sign
returns-in_ok-push-in-Sign c =
    took_sign
    c.in-Sign.sign
    c.args.word
    c.args.self.now
    c.turn.new.self
    c.in_ok-sign.field-0
    c.args.marks.now.items
    c.turn.new.marks.items
    c.push.new.self.items
    c.in-Sign.is
    c.in_ok-sign.ensures
    c.if-not-is_taken.ensures
    c.in_ok-push-in-Sign.ensures.items
