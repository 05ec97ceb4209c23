use Rattle.std.proofs.Common.{◌+◌, refl}
use Rattle.dps_lex.specs.declared.position.Position.{Position}
use Rattle.dps_lex.proofs.Scans.{past_token}
use Rattle.dps_lex.proofs.scan.past_lexeme.Goals as goal

pub returns-clause-position : goal.returns-clause-position
returns-clause-position c =
    let here = c.args.here in
    let there : Position = record { at = here.at + c.args.lexeme.len; line = here.line; line_start = here.line_start } in
    past_token c.args.bytes.now c.args.lexeme.kind c.args.lexeme.len here there c.requires.here c.requires.token refl refl refl
