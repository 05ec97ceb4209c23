use Rattle.std.proofs.Common.{◌∙◌, ap, sym, take}
use Rattle.dps_io.proofs.HeldLemmas.{next_piece}
use Rattle.dps_io.proofs.memory.MemFilesFiles.read.Goals as goal

pub returns-clause-bytes : goal.returns-clause-bytes
returns-clause-bytes c =
    ap (λ value. value.left) (sym c.self.view_is)
    ∙ next_piece c.self.inside.files.items c.self.inside.place c.in-Some.place c.self.inside.taken c.copy_front-count.result c.unread.result.now
    (take c.copy_front-count.result c.copy_front-count.new.buffer) c.in-Some.is (rw c.deref-2.ensures.value at c.unread.ensures.rest) c.copy_front-count.ensures.front
