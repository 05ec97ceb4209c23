use Rattle.std.proofs.Common.{◌≡◌, ◌∙◌, ap, is_lt, nat_cmp}
use Rattle.std.specs.Cmp.Lexicographic.{slice_cmp}
use Rattle.dps_path.specs.Order.{before}
use Rattle.dps_path.proofs.Comparing.{before-lt}
use Rattle.dps_path.proofs.path.Path.before.Goals as goal

pub returns : goal.returns
returns c =
    c.is_lt.ensures ∙ ap is_lt c.cmp.ensures ∙ ap (λ p. is_lt (slice_cmp nat_cmp p c.other.inside.numbers.items)) c.self.view_is
    ∙ ap (λ q. is_lt (slice_cmp nat_cmp c.args.self.now q)) c.other.view_is ∙ before-lt c.args.self.now c.args.other.now
