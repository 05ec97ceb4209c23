use Rattle.std.proofs.Common.{arith}
use Rattle.dps_lex.specs.Alphabet.{is_name_byte}
use Rattle.dps_lex.proofs.Fronts.{run_within, name_token, name_fault}
use Rattle.dps_lex.proofs.lexeme.name.Goals as goal

pub returns-then-len-gt-LONGEST_NAME : goal.returns-then-len-gt-LONGEST_NAME
returns-then-len-gt-LONGEST_NAME c = name_fault c.args.bytes.now c.name_len-len.result c.requires.some c.requires.letter c.name_len-len.ensures (omega arith)

pub front-text-requires : goal.front-text-requires
front-text-requires c = run_within is_name_byte c.args.bytes.now c.name_len-len.result c.name_len-len.ensures

pub returns : goal.returns
returns c =
    name_token
    c.args.bytes.now
    c.front-text.result.now
    c.kind_of_name-kind.result
    c.name_len-len.result
    c.requires.some
    c.requires.letter
    c.name_len-len.ensures
    (omega arith)
    c.front-text.ensures
    c.kind_of_name-kind.ensures
