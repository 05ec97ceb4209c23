use Rattle.std.proofs.Common.{◌≡◌, ◌++◌, map, refl, ap, sym, subst, ◌∙◌}
use Rattle.std.specs.Prelude.{All}
use Rattle.std.specs.List.{AllZip}
use Rattle.dps_terms.specs.Bindings.{image}
use Rattle.dps_terms.specs.Replace.{substitute}
use Rattle.dps_process.specs.Labels.{label_of}
use Rattle.dps_know.specs.Know.{know_under}
use Rattle.dps_solver.specs.Code.{disequation_of}
use Rattle.dps_node.specs.Node.{Node, SymbolicConfig, label_under}
use Rattle.dps_node.specs.Splits.{HasOlderEntries, BindsNoneOf, IsConfigUnder, disequation_under, new_levels}
use Rattle.dps_node.specs.Code.{config_of, node_of}
use Rattle.dps_node.proofs.Renewed.{applies, renewal_image}
use Rattle.dps_node.proofs.splits.applied.Goals as goal

pub configs_under-requires-clause-older : goal.configs_under-requires-clause-older
configs_under-requires-clause-older c =
    subst (λ cs. All (λ (d : SymbolicConfig). HasOlderEntries (image c.args.renewal.now.by) d.values) (map config_of cs)) (sym c.deref-5.ensures.value) c.requires.older

pub configs_under-requires-clause-apart : goal.configs_under-requires-clause-apart
configs_under-requires-clause-apart c =
    subst (λ cs. All (BindsNoneOf (image c.args.renewal.now.by)) (map config_of cs)) (sym c.deref-5.ensures.value) c.requires.apart

pub returns : goal.returns
returns c = λ b h can.
    let node : Node = node_of c.args.node.now in
    let z = image c.args.renewal.now.by in
    let kid : Node = node_of (record {
      labels = c.in_ok-labels.labels;
      levels = c.in_ok-levels.levels;
      know = c.apply.new.self;
      disequations = c.in_ok-disequations.disequations;
      configs = c.in_ok-configs.configs;
      m = c.args.node.now.m;
      closed = c.args.node.now.closed;
      examine = c.args.node.now.examine;
      count = c.args.node.now.count;
    }) in
    let levels : kid.levels ≡ node.levels ++ new_levels node b = c.in_ok-levels.ensures ∙ (λ i. c.deref-2.ensures.value i ++ (c.deref-3.ensures.value ∙ h.levels) i) in
    applies node kid b z (renewal_image node b c.args.renewal.now can h)
    (c.in_ok-labels.ensures ∙ ap (λ ls. map (label_under (substitute z)) (map label_of ls)) c.deref.ensures.value)
    levels
    (c.in_ok-apply.ensures.ok ∙ ap (know_under z) c.in_ok-know.ensures)
    (c.in_ok-disequations.ensures ∙ ap (λ ds. map (disequation_under z) (map disequation_of ds)) c.deref-4.ensures.value)
    (subst (λ cs. AllZip (IsConfigUnder node z) (map config_of cs) (map config_of c.in_ok-configs.configs.items)) c.deref-5.ensures.value (c.in_ok-configs.ensures node))
    refl refl refl refl
