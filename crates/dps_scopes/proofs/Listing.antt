-- Definitions put into a list.
use Rattle.std.proofs.Common.{◌≡◌, List, [], ◌∷◌, ◌++◌, map, sym, ap, ◌∙◌, append_assoc, string_bytes}
use Rattle.std.proofs.lemmas.List.{append-nil}
use Rattle.std.specs.declared.string.String.{String}
use Rattle.std.specs.declared.alloc.Global.{Global}
use Rattle.dps_scopes.specs.declared.definitions.Defined.{Defined}
use Rattle.dps_scopes.specs.Definition.{Definition}

abbrev pub Entry : Type 0
Entry = String Global × Defined

abbrev pub definition_of : Entry → Definition
definition_of e = record { name = string_bytes e.0; parameters = e.1.parameters; body = e.1.body }

-- what the loop keeps: all definitions are those found, and those that are left
pub record IsListing (all rest : List Entry) (found : List Definition) : Type 0 where
  pub split : map definition_of all ≡ found ++ map definition_of rest

pub listing_first : (all rest : List Entry) (found : List Definition) → rest ≡ all → found ≡ [] → IsListing all rest found
listing_first all rest found e n = record { split = ap (map definition_of) (sym e) ∙ ap (λ ds. ds ++ map definition_of rest) (sym n) }

pub listing_more :
    (all rest after : List Entry) (found new : List Definition) (e : Entry) (d : Definition) → IsListing all rest found → rest ≡ e ∷ after
    → d ≡ definition_of e → new ≡ found ++ d ∷ [] → IsListing all after new
listing_more all rest after found new e d r h f n = record {
  split =
      r.split ∙ (ap (λ es. found ++ map definition_of es) h ∙ (sym (append_assoc found (definition_of e ∷ []) (map definition_of after))
      ∙ ap (λ ds. ds ++ map definition_of after) (ap (λ x. found ++ x ∷ []) (sym f) ∙ sym n)));
}

pub listing_last : (all rest : List Entry) (found : List Definition) → IsListing all rest found → rest ≡ [] → found ≡ map definition_of all
listing_last all rest found r e = sym (append-nil found) ∙ (ap (λ es. found ++ map definition_of es) (sym e) ∙ sym r.split)

pub ruleset for_listing = (listing_first, listing_more, listing_last)
