use Rattle.std.proofs.Common.{◌≡◌, ◌∙◌, ap, sym}
use Rattle.std.specs.List.{starts_with}
use Rattle.std.specs.Bool.{nat_eq}
use Rattle.dps_path.proofs.Comparing.{prefix-starts}
use Rattle.dps_path.proofs.path.Path.is_prefix.Goals as goal

pub returns : goal.returns
returns c =
    let other = c.deref.ensures.value ∙ c.other.view_is in
    let mine = c.deref-2.ensures.value ∙ c.self.view_is in
    c.starts_with.ensures.value ∙ ap (λ x. starts_with nat_eq x c.deref-2.result.now) other ∙ ap (starts_with nat_eq c.args.other.now) mine ∙ prefix-starts c.args.self.now c.args.other.now
