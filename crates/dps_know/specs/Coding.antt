-- How a proof stores what the attacker knows.
use Rattle.std.specs.Prelude.{ℕ, List, Option, refl}
use Rattle.std.specs.Coded.{Coded, code_by, coded_list, coded_option, coded×, coded_ℕ}
use Rattle.dps_terms.specs.Tree.{Tree}
use Rattle.dps_terms.specs.Stored.{tree_code}
use Rattle.dps_know.specs.declared.know.Entry.{Entry}
use Rattle.dps_know.specs.Know.{Knowledge}

abbrev pub entry_code : Coded Entry
entry_code =
    code_by
    (Tree × (ℕ × Option Tree))
    (coded× tree_code (coded× coded_ℕ (coded_option tree_code)))
    (λ e. (e.recipe, (e.level, e.composition)))
    (λ p. record { recipe = p.0; level = p.1.0; composition = p.1.1 })
    (λ _. refl)

abbrev pub knowledge_code : Coded Knowledge
knowledge_code =
    code_by
    (List Entry × List Tree)
    (coded× (coded_list entry_code) (coded_list tree_code))
    (λ k. (k.entries, k.handles))
    (λ p. record { entries = p.0; handles = p.1 })
    (λ _. refl)
