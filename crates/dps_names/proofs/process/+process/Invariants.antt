use Rattle.std.proofs.Common.{drop}
use Rattle.dps_syntax.specs.Tree.{count}
use Rattle.dps_syntax.specs.Parts.{parts_of}
use Rattle.dps_scopes.specs.Blocks.{blocks}
use Rattle.dps_scopes.proofs.Rows.{Reads}
use Rattle.dps_names.specs.Processes.{choices, parallels}
use Rattle.dps_names.proofs.process.+process.Given as goal

abbrev pub decreases-parallels : goal.decreases-parallels
decreases-parallels l = count (parts_of l.parts.now)

abbrev pub decreases-choices : goal.decreases-choices
decreases-choices l = count (parts_of l.parts.now)

abbrev pub decreases-process : goal.decreases-process
decreases-process l = count (parts_of l.parts.now)

abbrev pub decreases-grouped : goal.decreases-grouped
decreases-grouped l = count (parts_of l.parts.now)

abbrev pub decreases-repeated : goal.decreases-repeated
decreases-repeated l = count (parts_of l.parts.now)

abbrev pub decreases-restricted : goal.decreases-restricted
decreases-restricted l = count (parts_of l.parts.now)

abbrev pub decreases-received : goal.decreases-received
decreases-received l = count (parts_of l.parts.now)

abbrev pub decreases-sent : goal.decreases-sent
decreases-sent l = count (parts_of l.parts.now)

abbrev pub decreases-compared : goal.decreases-compared
decreases-compared l = count (parts_of l.parts.now)

abbrev pub decreases-matched : goal.decreases-matched
decreases-matched l = count (parts_of l.parts.now)

abbrev pub decreases-continued : goal.decreases-continued
decreases-continued l = count (parts_of l.parts.now)

abbrev pub invariant-parallels-loop-part : goal.invariant-parallels-loop-part
invariant-parallels-loop-part l = Reads (parallels l.definitions (blocks l.scope)) (parts_of l.parts) l.initial.signature l.found.items (parts_of (drop l.part-index l.parts)) l.signature

abbrev pub invariant-choices-loop-part : goal.invariant-choices-loop-part
invariant-choices-loop-part l = Reads (choices l.definitions (blocks l.scope)) (parts_of l.parts) l.initial.signature l.found.items (parts_of (drop l.part-index l.parts)) l.signature
