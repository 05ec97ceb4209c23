use Rattle.dps_syntax.proofs.Whole.{at_token_found, behind_found, at_end_found}
use Rattle.dps_syntax.proofs.reading.earlier.Goals as goal

pub returns-then-stop-tokens : goal.returns-then-stop-tokens
returns-then-stop-tokens c =
    at_token_found
    c.args.bytes.now
    c.args.tokens.now
    c.args.lexical
    c.args.stop
    c.fault_at.result
    c.requires.reading
    c.if-stop-tokens.true
    c.requires.stop
    c.fault_at.ensures.kind
    c.fault_at.ensures.stands

pub returns-in-Some : goal.returns-in-Some
returns-in-Some c = behind_found c.args.bytes.now c.args.tokens.now c.args.lexical c.args.stop c.in-Some.fault c.requires.reading c.in-Some.is c.if-stop-tokens.false c.requires.stop

pub returns-in-None : goal.returns-in-None
returns-in-None c =
    at_end_found
    c.args.bytes.now
    c.args.tokens.now
    c.args.lexical
    c.args.stop
    c.fault_at-in-None.result
    c.requires.reading
    c.in-None.is
    c.if-stop-tokens.false
    c.requires.stop
    c.fault_at-in-None.ensures.kind
    c.fault_at-in-None.ensures.stands
