use Rattle.std.proofs.Common.{◌≡◌, ◌+◌, ◌-◌, ◌^◌, ◌≤◌, min, arith, length, take, length-take}
use Rattle.dps_io.proofs.ReadingLemmas.{has_read_more}
use Rattle.dps_io.proofs.whole.read_all.Goals as goal

pub returns-then-count-limit-clause-left : goal.returns-then-count-limit-clause-left
returns-then-count-limit-clause-left g c = λ _.
    let taken : (g.F.Files.state c.read.new.self).taken ≡ min ((g.F.Files.state c.pieces.files).taken + c.in-Ok.count) (2 ^ 64 - 1) = c.in-Ok.ensures.taken in
    let within : c.in-Ok.count ≤ length c.read.new.buffer = c.in-Ok.ensures.within in
    let room = length-take c.min-room.result c.pieces.piece in
    let piece = length-take c.in-Ok.count c.read.new.buffer in
    has_read_more ((g.F.Files.state c.args.files.now).told c.args.name.now) (g.F.Files.state c.pieces.files).left (g.F.Files.state c.read.new.self).left c.pieces.bytes.items
    (take c.in-Ok.count c.read.new.buffer) (g.F.Files.state c.read.new.self).taken c.pieces.invariant.bytes c.in-Ok.ensures.bytes (omega arith)

pub returns-in_err-extend_from_slice-in-Ok-clause-left :
    goal.returns-in_err-extend_from_slice-in-Ok-clause-left
returns-in_err-extend_from_slice-in-Ok-clause-left g c = λ _.
    let taken : (g.F.Files.state c.read.new.self).taken ≡ min ((g.F.Files.state c.pieces.files).taken + c.in-Ok.count) (2 ^ 64 - 1) = c.in-Ok.ensures.taken in
    let within : c.in-Ok.count ≤ length c.read.new.buffer = c.in-Ok.ensures.within in
    let room = length-take c.min-room.result c.pieces.piece in
    let piece = length-take c.in-Ok.count c.read.new.buffer in
    has_read_more ((g.F.Files.state c.args.files.now).told c.args.name.now) (g.F.Files.state c.pieces.files).left (g.F.Files.state c.read.new.self).left c.pieces.bytes.items
    (take c.in-Ok.count c.read.new.buffer) (g.F.Files.state c.read.new.self).taken c.pieces.invariant.bytes c.in-Ok.ensures.bytes (omega arith)
