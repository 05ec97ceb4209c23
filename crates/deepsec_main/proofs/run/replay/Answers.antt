use Rattle.dps_words.specs.Words.{texts}
use Rattle.deepsec_main.proofs.Reading.{missing_caused, beside_of, beside_caused}
use Rattle.deepsec_main.proofs.run.replay.Goals as goal

pub returns-in-Err-clause-caused : goal.returns-in-Err-clause-caused
returns-in-Err-clause-caused g c =
    missing_caused (g.F.Files.state c.args.files.now) (g.F.Files.state c.problem_of.new.files) (texts c.args.words.now) c.args.model c.args.file c.args.trace c.in-Err.outcome c.requires
    c.in-Err.ensures.stopped

pub returns-in-Ok-clause-caused : goal.returns-in-Ok-clause-caused
returns-in-Ok-clause-caused g c =
    let old = g.F.Files.state c.args.files.now in
    let middle = g.F.Files.state c.problem_of.new.files in
    let new = g.F.Files.state c.beside.new.files in
    let words = texts c.args.words.now in
    let b = beside_of old middle words c.args.model c.args.file c.args.trace c.in-Ok.problem c.requires c.in-Ok.ensures.found c.in-Ok.ensures.kept in
    beside_caused old middle new words c.args.model c.args.trace c.in-Ok.problem b c.beside.result c.beside.ensures.seen
