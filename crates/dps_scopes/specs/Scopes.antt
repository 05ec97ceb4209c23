-- What an identifier means where it stands.
use Rattle.std.specs.Prelude.{◌≤◌, ◌<◌, ⊤, ℕ, zero, suc, ◌+◌, ◌-◌, Bool, true, false, ◌&&◌, ◌||◌, ◌==◌, not, nat_le, if◌then◌else◌, List, [], ◌∷◌, ◌++◌, Option, Some}
use Rattle.std.specs.Prelude.{None, length, position, slice_get, unwrap_or}
use Rattle.std.specs.Str.{byte, bytes_eq}
use Rattle.std.specs.List.{list_all}
use Rattle.std.specs.Option.{option_map}
use Rattle.dps_signature.specs.declared.SymKind.TheVariants.{Constructor, Destructor}
use Rattle.dps_signature.specs.Signature.{Symbol, Signature}
use Rattle.dps_signature.specs.Names.{is_letter, is_digit, is_name_byte, tuple_name, projection_name, symbol_named, name_named}
use Rattle.dps_scopes.specs.declared.meaning.Projection.{Projection}
use Rattle.dps_scopes.specs.declared.meaning.Meaning.{Meaning}
use Rattle.dps_scopes.specs.declared.meaning.Meaning.TheVariants.{Local as a_local, Name as a_name, Function as a_function, Process as a_process, Projection as a_projection, Unknown as unknown}
use Rattle.dps_scopes.specs.Definition.{Definition}

-- The greatest arity, and the greatest length of a tuple.
abbrev pub most_arguments : ℕ
most_arguments = 8

-- The locals at a place are lists of texts, the innermost list first: parameters, what a pattern names, and single names
-- that `new` binds. What has no text has the empty one. A local is numbered by the locals before it, those of outer lists
-- included.
abbrev pub Locals : Type 0
Locals = List (List (List ℕ))

abbrev pub local_count : Locals → ℕ
local_count [] = 0
local_count (block ∷ scope) = length block + local_count scope

abbrev pub first_found : ℕ → Option ℕ → Option ℕ → Option ℕ
first_found outside (Some i) outer = Some (outside + i)
first_found outside None outer = outer

abbrev pub local_named : Locals → List ℕ → Option ℕ
local_named [] text = None
local_named (block ∷ scope) text = first_found (local_count scope) (position (bytes_eq text) block) (local_named scope text)

-- `proj_`, with which no identifier of a declaration begins
abbrev pub is_projection_word : ℕ → ℕ → ℕ → ℕ → ℕ → Bool
is_projection_word p r o j u = p == byte "p" && r == byte "r" && o == byte "o" && j == byte "j" && u == byte "_"

abbrev pub begins_as_projection : List ℕ → Bool
begins_as_projection (p ∷ r ∷ o ∷ j ∷ u ∷ text) = is_projection_word p r o j u
begins_as_projection _ = false

-- `proj_i_n`, with 1 <= i <= n and 2 <= n <= 8
abbrev pub are_projection_digits : ℕ → ℕ → Bool
are_projection_digits i n = nat_le (byte "1") i && nat_le i n && nat_le (byte "2") n && nat_le n (byte "8")

abbrev pub projection_of : List ℕ → Option Projection
projection_of (p ∷ r ∷ o ∷ j ∷ u ∷ i ∷ v ∷ n ∷ []) =
    if is_projection_word p r o j u && v == byte "_" && are_projection_digits i n
    then Some (record { index = i - byte "0"; length = n - byte "0" })
    else None
projection_of _ = None

-- a letter, then letters, digits, `_` and `'`
abbrev pub is_word : List ℕ → Bool
is_word [] = false
is_word (b ∷ bs) = is_letter b && list_all is_name_byte bs

-- `ax` followed by one digit or more, and by nothing else
abbrev pub is_handle : List ℕ → Bool
is_handle (a ∷ x ∷ d ∷ digits) = a == byte "a" && x == byte "x" && is_digit d && list_all is_digit digits
is_handle _ = false

-- No name of a declaration: it begins with `proj_`, or is `ax` followed by digits. (It may be no word of at most 64 bytes
-- either; but the identifiers of a text are.)
abbrev pub is_reserved : List ℕ → Bool
is_reserved text = begins_as_projection text || not (is_word text && nat_le (length text) 64 && not (is_handle text))

-- the symbols of the tuples of length n: the tuple, and the projections from the i-th on
abbrev pub projections_from : ℕ → ℕ → ℕ → List Symbol
projections_from n i zero = []
projections_from n i (suc left) = record { name = projection_name i n; kind = Destructor; arity = 1 } ∷ projections_from n (i + 1) left

abbrev pub tuple_symbols : ℕ → List Symbol
tuple_symbols n = record { name = tuple_name n; kind = Constructor; arity = n } ∷ projections_from n 1 n

-- The symbol of the tuples of length n, and the signature with it. The i-th projection is the i-th symbol behind it.
-- The symbols come with the first tuple, pattern or projection of this length.
pub record Tupled : Type 0 where
  pub symbol : ℕ
  pub signature : Signature

abbrev pub tuple_at : Signature → ℕ → Option ℕ → Tupled
tuple_at signature n (Some s) = record { symbol = s; signature = signature }
tuple_at signature n None = record {
  symbol = length signature.symbols;
  signature = record { symbols = signature.symbols ++ tuple_symbols n; names = signature.names };
}

abbrev pub with_tuple : Signature → ℕ → Tupled
with_tuple signature n = tuple_at signature n (symbol_named signature (tuple_name n))

-- the projection is one of a tuple of 2 to 8 members
pub record IsProjection (projection : Projection) : Type 0 where
  pub some : 2 ≤ projection.length
  pub few : projection.length ≤ 8
  pub within : projection.index ≤ projection.length

-- what a meaning names is there: a declared name in the signature, and a projection of tuples that a text may write
abbrev pub IsMeaningOver : Signature → Meaning → Type 0
IsMeaningOver signature (a_name n is_private) = n < length signature.names
IsMeaningOver signature (a_projection projection) = IsProjection projection
IsMeaningOver signature _ = ⊤

-- What the declarations so far say of a text. Names, functions and processes share one table.
abbrev pub defined : List Definition → Option ℕ → Meaning
defined definitions (Some n) = a_process n (unwrap_or (option_map (λ d. d.parameters) (slice_get definitions n)) 0)
defined definitions None = unknown

abbrev pub named : Signature → List Definition → List ℕ → Option ℕ → Meaning
named signature definitions text (Some n) = a_name n (unwrap_or (option_map (λ x. x.is_private) (slice_get signature.names n)) false)
named signature definitions text None = defined definitions (position (λ d. bytes_eq text d.name) definitions)

abbrev pub function_or_named : Signature → List Definition → List ℕ → Option ℕ → Meaning
function_or_named signature definitions text (Some f) = a_function (record { number = f }) (unwrap_or (option_map (λ s. s.arity) (slice_get signature.symbols f)) 0)
function_or_named signature definitions text None = named signature definitions text (name_named signature text)

abbrev pub declared_meaning : Signature → List Definition → List ℕ → Meaning
declared_meaning signature definitions text =
    if begins_as_projection text then unknown else function_or_named signature definitions text (symbol_named signature text)

abbrev pub is_unknown : Meaning → Bool
is_unknown unknown = true
is_unknown _ = false

-- In a process locals hide what is declared, and projections may be written.
abbrev pub projection_or_declared : Signature → List Definition → List ℕ → Option Projection → Meaning
projection_or_declared signature definitions text (Some projection) = a_projection projection
projection_or_declared signature definitions text None = declared_meaning signature definitions text

abbrev pub local_or_declared : Signature → List Definition → List ℕ → Option ℕ → Meaning
local_or_declared signature definitions text (Some n) = a_local n
local_or_declared signature definitions text None = projection_or_declared signature definitions text (projection_of text)

abbrev pub meaning : Signature → List Definition → Locals → List ℕ → Meaning
meaning signature definitions scope text = local_or_declared signature definitions text (local_named scope text)
