use Rattle.std.proofs.Common.{◌∙◌, ap, map, filter_map}
use Rattle.std.specs.List.{flat_map}
use Rattle.dps_terms.specs.Replace.{substitute}
use Rattle.dps_terms.specs.Variables.{occurrences, each_once}
use Rattle.dps_know.specs.Know.{recipe_of}
use Rattle.dps_process.specs.Labels.{label_of}
use Rattle.dps_node.specs.Node.{label_tree, label_under}
use Rattle.dps_renewal.specs.Numbering.{counted_as, as_own_name}
use Rattle.dps_node.specs.Code.{node_of}
use Rattle.dps_node.proofs.Worded.{word_named}
use Rattle.dps_node.proofs.words.ground_trace.Goals as goal

pub returns : goal.returns
returns c =
    let keys = c.in_ok-variables.variables.keys in
    word_named (node_of c.args.node.now) (map label_of c.in_ok-recipes.recipes.items) keys (map label_of c.in_ok-word.word.items)
    (c.in_ok-recipes.ensures ∙ ap (λ ls. map (label_under (recipe_of c.args.node.now.know)) (map label_of ls)) c.deref.ensures.value)
    (c.in_ok-variables.ensures ∙ ap (λ ls. each_once (flat_map occurrences (filter_map label_tree (map label_of ls)))) c.deref-2.ensures.value)
    (c.in_ok-word.ensures ∙ ap (λ ls. map (label_under (substitute (counted_as as_own_name 1 keys))) (map label_of ls)) c.deref-3.ensures.value)
