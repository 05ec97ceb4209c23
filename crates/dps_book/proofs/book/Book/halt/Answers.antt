use Rattle.dps_book.proofs.Ledgers.{halted-right}
use Rattle.std.specs.Vec.{vec_capacity}
use Rattle.dps_book.proofs.book.Book.halt.Goals as goal

pub invariant_of-self : goal.invariant_of-self
invariant_of-self c = (
  halted-right c.self.inside.rows.items c.self.inside.best c.self.inside.halted c.self.inside.open_paths c.self.inside.holds.items c.self.inside.claims.items c.self.inside.journal.items
      c.push_reserved.new.self.items (vec_capacity c.self.inside.journal) (vec_capacity c.push_reserved.new.self) c.args.worker
      c.if-not-self.true c.push_reserved.ensures.items c.push_reserved.ensures.capacity c.self.invariant.0,
  c.self.invariant.1,
)
