use Rattle.dps_syntax.proofs.Files.{exact_found, too_deep_found, unexpected_found, file_found, cut_short_found}
use Rattle.dps_syntax.proofs.recognition.marks_of.Goals as goal

pub returns-then-not-branch : goal.returns-then-not-branch
returns-then-not-branch c =
    unexpected_found
    c.args.words.now
    c.loop-place.place
    c.loop-place.expected
    c.accept.new.self
    _
    c.in_ok-accept.field-0
    c.loop-place.marks.items
    c.accept.new.marks.items
    c.loop-place-test.true
    c.if-not-branch.true
    c.loop-place.invariant
    c.in_ok-accept.ensures

pub returns-then-depth-gt-DEEPEST : goal.returns-then-depth-gt-DEEPEST
returns-then-depth-gt-DEEPEST c =
    too_deep_found
    c.args.words.now
    c.loop-place.place
    c.loop-place.expected
    c.accept.new.self
    _
    c.in_ok-accept.field-0
    c.loop-place.marks.items
    c.accept.new.marks.items
    c.loop-place-test.true
    c.if-not-branch.false
    c.loop-place.invariant
    c.in_ok-accept.ensures
    (rw c.depth.ensures at c.if-depth-gt-DEEPEST.true)

pub loop-place-preserved : goal.loop-place-preserved
loop-place-preserved c =
    exact_found
    c.args.words.now
    c.loop-place.place
    c.loop-place.expected
    c.accept.new.self
    _
    c.in_ok-accept.field-0
    c.loop-place.marks.items
    c.accept.new.marks.items
    c.loop-place-test.true
    c.if-not-branch.false
    c.loop-place.invariant
    c.in_ok-accept.ensures
    (rw c.depth.ensures at c.if-depth-gt-DEEPEST.false)

pub returns-then-not-branch-2 : goal.returns-then-not-branch-2
returns-then-not-branch-2 c =
    cut_short_found
    c.args.words.now
    c.loop-place.place
    c.loop-place.expected
    c.in_ok-accept_end.field-0
    c.loop-place.marks.items
    c.accept_end.new.marks.items
    c.loop-place-test.false
    c.loop-place.auto.place-end
    c.if-not-branch-2.true
    c.loop-place.invariant
    c.in_ok-accept_end.ensures

pub returns : goal.returns
returns c =
    file_found
    c.args.words.now
    c.loop-place.place
    c.loop-place.expected
    c.in_ok-accept_end.field-0
    c.loop-place.marks.items
    c.accept_end.new.marks.items
    c.loop-place-test.false
    c.loop-place.auto.place-end
    c.if-not-branch-2.false
    c.loop-place.invariant
    c.in_ok-accept_end.ensures
