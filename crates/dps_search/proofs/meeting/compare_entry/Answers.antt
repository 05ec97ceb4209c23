use Rattle.std.proofs.Common.{List, ap, sym, ◌∙◌, subst₂}
use Rattle.dps_terms.specs.Replace.{numbered}
use Rattle.dps_terms.specs.Tree.{entry, Tree, leaf}
use Rattle.dps_terms.specs.Bindings.{image}
use Rattle.dps_search.specs.Meetings.{IsMeeting}
use Rattle.dps_search.proofs.meeting.compare_entry.Goals as goal

pub returns-in-Some : goal.returns-in-Some
returns-in-Some c =
    let i = c.args.entry in
    let there = c.whole.ensures ∙ sym (c.in-Some.ensures (leaf (entry i))) ∙ ap (λ (ts : List Tree). numbered ts i (leaf (entry i))) c.deref.ensures.value in
    subst₂ (λ t u. IsMeeting (image c.args.branch.now.theta) t u c.compare.result) there c.whole-in-Some.ensures c.compare.ensures
