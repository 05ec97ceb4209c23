use Rattle.dps_syntax.proofs.Stack.{stop_end, stop_row, go_row, go_taken}
use Rattle.dps_syntax.proofs.expected.Expected.turn.Goals as goal

pub returns-in-Inner-None : goal.returns-in-Inner-None
returns-in-Inner-None c =
    stop_end
    c.args.next
    c.args.self.now
    c.turn.self
    c.pop.new.self
    c.in-Some.symbol
    c.in-Inner-None.field-0-0
    c.args.marks.now.items
    c.turn.marks.items
    c.in-Inner-None.is-1
    c.in-Inner-None.is-0
    c.in-Some.ensures
    c.turn.invariant

pub returns-in-None : goal.returns-in-None
returns-in-None c =
    stop_row
    c.args.next
    c.in-Inner-Some.word
    c.args.self.now
    c.turn.self
    c.pop.new.self
    c.in-Some.symbol
    c.in-Inner-Some.production
    _
    c.args.marks.now.items
    c.turn.marks.items
    c.in-Inner-Some.is-1
    c.in-Inner-Some.is-0
    c.alternatives_of.ensures
    c.in-Some.ensures
    c.in-None.ensures
    c.turn.invariant

pub turn-preserved-in-Continue-branch-4 : goal.turn-preserved-in-Continue-branch-4
turn-preserved-in-Continue-branch-4 c =
    go_row
    c.args.next
    c.in-Inner-Some.word
    c.args.self.now
    c.turn.self
    c.pop.new.self
    c.push-in-Some-chosen_of-2.new.self
    c.push-in-Some-chosen_of-3.new.self
    c.in-Some-chosen_of.items.now
    c.in-Some.symbol
    c.in-Inner-Some.production
    _
    c.args.marks.now.items
    c.turn.marks.items
    c.push-in-Some-chosen_of.new.self.items
    c.in-Inner-Some.is-1
    c.in-Inner-Some.is-0
    c.alternatives_of.ensures
    c.in-Some.ensures
    c.in-Some-chosen_of.ensures
    c.in_ok-push-in-Some-chosen_of-2.ensures
    c.in_ok-push-in-Some-chosen_of-3.ensures
    c.in_ok-push-in-Some-chosen_of.ensures.items
    c.turn.invariant

pub turn-preserved-in-Continue-branch-5 : goal.turn-preserved-in-Continue-branch-5
turn-preserved-in-Continue-branch-5 c =
    go_taken
    c.args.next
    c.in-More-Some.word
    c.args.self.now
    c.turn.self
    c.pop.new.self
    c.push-then-are_begun.new.self
    c.continuation_of-items.result.now
    c.in-Some.symbol
    c.in-More-Some.more
    c.args.marks.now.items
    c.turn.marks.items
    c.in-More-Some.is-1
    c.in-More-Some.is-0
    c.continuation_of-items.ensures
    c.in-Some.ensures
    c.if-are_begun.ensures
    c.in_ok-push-in-More-Some.ensures
    c.turn.invariant
