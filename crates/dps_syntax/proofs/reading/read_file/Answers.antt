use Rattle.std.proofs.Common.{subst}
use Rattle.dps_syntax.specs.Files.{IsFileOfTokens, lexemes_at}
use Rattle.dps_syntax.proofs.Whole.{lexical_found}
use Rattle.dps_syntax.proofs.reading.read_file.Goals as goal

pub returns-in-Some : goal.returns-in-Some
returns-in-Some c =
    let file = rw c.in-Ok-Ok.field-0-is at c.in-Ok-Ok.ensures in
    let tokens = subst (λ x. IsFileOfTokens (lexemes_at c.args.bytes.now x) c.in-Ok-Ok.file) c.deref.ensures.value file in
    let reading = rw c.in-Some.is at c.in-Ok.ensures.reading in
    lexical_found c.args.bytes.now c.in-Ok.tokens.items c.in-Ok-Ok.file c.in-Some.fault reading tokens
