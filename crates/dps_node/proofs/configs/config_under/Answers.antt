use Rattle.std.proofs.Common.{◌≡◌, ◌++◌, map, refl, ap, subst, ◌∙◌}
use Rattle.std.specs.Prelude.{Contains}
use Rattle.dps_terms.specs.Bindings.{image}
use Rattle.dps_terms.specs.Replace.{substitute, variables_to}
use Rattle.dps_process.specs.Process.{replace_in}
use Rattle.dps_solver.specs.Solutions.{valued}
use Rattle.dps_node.specs.Code.{config_of}
use Rattle.dps_node.proofs.Renewed.{puts_both, valued_image, captures_none}
use Rattle.dps_node.proofs.configs.config_under.Goals as goal

pub parts_under-requires : goal.parts_under-requires
parts_under-requires c = λ p there.
    let by = c.args.renewal.now.by in
    let g = c.in_ok-values.values.items in
    let puts = puts_both (image by) g c.deref-3.result.now c.deref-4.result.now c.deref-2.result.now c.as_slice.result.now c.args.renewal.now.own.items c.args.renewal.now.fresh.keys
    c.empty-valued.result c.put_values.new.valued c.put_values-2.new.valued
    c.deref-3.ensures.value c.deref-4.ensures.value c.deref-2.ensures.value c.as_slice.ensures.keys c.empty-valued.ensures c.in_ok-put_values.ensures c.in_ok-put_values-2.ensures in
    captures_none by c.put_values-2.new.valued (c.args.renewal.now.own.items ++ c.args.renewal.now.fresh.keys) g (config_of c.args.config.now) p puts c.requires.apart
    (c.in_ok-values.ensures ∙ ap (map (substitute (valued g (image by)))) c.deref.ensures.value) (subst (λ ps. Contains ps p) c.deref-6.ensures.value there)

pub returns : goal.returns
returns c = λ node.
    let by = c.args.renewal.now.by in
    let g = c.in_ok-values.values.items in
    let puts = puts_both (image by) g c.deref-3.result.now c.deref-4.result.now c.deref-2.result.now c.as_slice.result.now c.args.renewal.now.own.items c.args.renewal.now.fresh.keys
    c.empty-valued.result c.put_values.new.valued c.put_values-2.new.valued
    c.deref-3.ensures.value c.deref-4.ensures.value c.deref-2.ensures.value c.as_slice.ensures.keys c.empty-valued.ensures c.in_ok-put_values.ensures c.in_ok-put_values-2.ensures in
    let same : image c.put_values-2.new.valued ≡ valued g (image by) =
    valued_image by c.put_values-2.new.valued (c.args.renewal.now.own.items ++ c.args.renewal.now.fresh.keys) g puts c.requires.only in
    record {
      side = refl;
      values = c.in_ok-values.ensures ∙ ap (map (substitute (valued g (image by)))) c.deref.ensures.value;
      frame = c.in_ok-frame.ensures ∙ (λ i. map (substitute (same i)) (c.deref-5.ensures.value i));
      parts = c.in_ok-parts.ensures ∙ (λ i. map (replace_in (variables_to (same i))) (c.deref-6.ensures.value i));
      mixed = refl;
    }
