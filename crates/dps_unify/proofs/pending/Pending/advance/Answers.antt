use Rattle.std.proofs.Common.{refl}
use Rattle.dps_terms.specs.Seen.{seen}
use Rattle.dps_unify.specs.Kept.{known, opened}
use Rattle.dps_unify.proofs.Keeping.{known_equal, kept_equal, kept_apart, kept_opened, opened_after}
use Rattle.dps_unify.proofs.pending.Pending.advance.Goals as goal

pub returns-then-are_equal-clause-kept : goal.returns-then-are_equal-clause-kept
returns-then-are_equal-clause-kept c =
    kept_equal c.args.bindings.now c.args.self.now (seen c.args.parts.left) (seen c.args.parts.right) c.requires.kept
    (known_equal c.args.self.now (seen c.args.parts.left) (seen c.args.parts.right) c.variables-variables.result c.variables-variables.ensures (c.are_equal.ensures c.if-are_equal.true))

pub returns-then-not-has_root_of-clause-kept : goal.returns-then-not-has_root_of-clause-kept
returns-then-not-has_root_of-clause-kept c =
    kept_apart c.args.bindings.now c.args.self.now (seen c.args.parts.left) (seen c.args.parts.right) c.requires.kept
    (seen c.resolve-left.result) (seen c.resolve-right.result) c.resolve-left.ensures c.resolve-right.ensures

pub returns-clause-pairs : goal.returns-clause-pairs
returns-clause-pairs c =
    opened (seen c.resolve-left.result) (seen c.resolve-right.result) c.resolve-left.ensures c.resolve-right.ensures
    (c.has_root_of.ensures.0 c.if-not-has_root_of.false)
    (opened_after c.args.self.now c.begin.new.self _ _ _ c.in_ok-begin.ensures c.in_ok-push_arguments.ensures)

pub returns-clause-kept : goal.returns-clause-kept
returns-clause-kept c =
    kept_opened c.args.bindings.now c.args.self.now (seen c.args.parts.left) (seen c.args.parts.right) c.requires.kept
    (seen c.resolve-left.result) (seen c.resolve-right.result) c.resolve-left.ensures c.resolve-right.ensures
    (c.has_root_of.ensures.0 c.if-not-has_root_of.false)
    c.variables-variables.result c.variables-variables.ensures c.begin.new.self _ c.in_ok-begin.ensures refl refl
    (opened_after c.args.self.now c.begin.new.self _ _ _ c.in_ok-begin.ensures c.in_ok-push_arguments.ensures)

pub returns-then-are_equal-clause-pairs : goal.returns-then-are_equal-clause-pairs
returns-then-are_equal-clause-pairs c =
    known (known_equal c.args.self.now (seen c.args.parts.left) (seen c.args.parts.right) c.variables-variables.result c.variables-variables.ensures (c.are_equal.ensures c.if-are_equal.true)) refl
