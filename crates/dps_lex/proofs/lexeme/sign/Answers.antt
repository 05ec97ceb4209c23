use Rattle.dps_lex.proofs.Fronts.{byte_token}
use Rattle.dps_lex.proofs.lexeme.sign.Goals as goal

pub returns-in-Some : goal.returns-in-Some
returns-in-Some c = byte_token c.args.bytes.now c.in-Some.kind c.requires.some c.requires.no_comment c.in-Some.ensures
