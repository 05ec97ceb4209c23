use Rattle.std.proofs.Common.{sym}
use Rattle.dps_lex.specs.Alphabet.{is_digit}
use Rattle.dps_lex.proofs.Fronts.{run_within, number_token, large_number}
use Rattle.dps_lex.proofs.lexeme.number.Goals as goal

pub front-text-requires : goal.front-text-requires
front-text-requires c = run_within is_digit c.args.bytes.now c.digits_len-len.result c.digits_len-len.ensures

pub returns-then-is_large : goal.returns-then-is_large
returns-then-is_large c =
    large_number
    c.args.bytes.now
    c.front-text.result.now
    c.digits_len-len.result
    c.requires.some
    c.requires.digit
    c.digits_len-len.ensures
    c.front-text.ensures
    (sym c.if-has_leading_zero.ensures)
    c.if-is_large.ensures

pub returns : goal.returns
returns c =
    number_token
    c.args.bytes.now
    c.front-text.result.now
    c.digits_len-len.result
    c.requires.some
    c.requires.digit
    c.digits_len-len.ensures
    c.front-text.ensures
    (sym c.if-has_leading_zero.ensures)
    c.if-is_large.ensures
