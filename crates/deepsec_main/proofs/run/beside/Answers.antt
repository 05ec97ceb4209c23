use Rattle.dps_words.specs.Words.{texts}
use Rattle.deepsec_main.specs.Answers.{IsRead, seen}
use Rattle.deepsec_main.proofs.run.beside.Goals as goal

pub returns-clause-seen : goal.returns-clause-seen
returns-clause-seen g c =
    let words = texts c.args.words.now in
    let old = g.F.Files.state c.args.files.now in
    let new = g.F.Files.state c.file_bytes.new.files in
    let text = c.deref.result.now in
    let read : IsRead old new words c.args.trace text = rw c.deref.ensures.value c.in-Ok.ensures.read in
    seen text read c.witness.ensures
