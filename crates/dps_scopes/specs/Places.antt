-- Where texts stand first.
use Rattle.std.specs.Prelude.{◌≡◌, ℕ, Bool, true, false, List, Option, Some, None, position}
use Rattle.std.specs.Str.{bytes_eq}
use Rattle.std.specs.HashMap.{HashMap, get_by_text}
use Rattle.std.specs.declared.string.String.{String}

-- the map has the first place of each text of the list, and of no other
abbrev pub AreFirstPlaces : {Y S : Type 0} → HashMap (String Y) ℕ S → List (List ℕ) → Type 0
AreFirstPlaces places texts = (text : List ℕ) → get_by_text places text ≡ position (bytes_eq text) texts

-- the place of a text in a list, given that in the list without its last text, whether it is the last, and where that stands
abbrev pub place_or_last : Option ℕ → Bool → ℕ → Option ℕ
place_or_last (Some place) is_last last = Some place
place_or_last None true last = Some last
place_or_last None false last = None
