-- How a recipe is read, from its text's end to its front: words between signs, where a bracket tells how many arguments the
-- symbol before it has. What is read so is the only recipe that may have the text.
use Rattle.std.specs.Prelude.{ℕ, ◌+◌, ◌*◌, ◌-◌, ◌^◌, Bool, true, false, ◌&&◌, ◌||◌, ◌==◌, nat_le, nat_lt, List, [], ◌∷◌, Option, Some, None, length, take, drop, slice_get, unwrap_or, if◌then◌else◌}
use Rattle.std.specs.Str.{byte}
use Rattle.std.specs.Option.{option_map}
use Rattle.dps_terms.specs.declared.PublicName.TheVariants.{Declared, At}
use Rattle.dps_terms.specs.Tree.{Leaf, public, ax, Tree, leaf, app, trees}
use Rattle.dps_signature.specs.Signature.{Signature}
use Rattle.dps_signature.specs.Names.{symbol_named, name_named, tuple_name}

-- Of each open bracket, the innermost one first, how many terms begin behind the place of reading; how many arguments the
-- symbol has whose text comes next, 0 where no bracket comes behind it; and the terms that were read whole, the last one
-- that began in front.
pub record Reading : Type 0 where
  pub brackets : List ℕ
  pub arity : ℕ
  pub terms : List Tree

abbrev pub start : Reading
start = record { brackets = []; arity = 0; terms = [] }

-- the number with one more digit, below 2^64
abbrev pub longer : ℕ → ℕ → Option ℕ
longer n b = if nat_le 48 b && nat_le b 57 && nat_lt (n * 10 + (b - 48)) (2 ^ 64) then Some (n * 10 + (b - 48)) else None

-- the number of these digits behind those of another one
abbrev pub numeral_from : Option ℕ → List ℕ → Option ℕ
numeral_from None digits = None
numeral_from (Some n) [] = Some n
numeral_from (Some n) (b ∷ digits) = numeral_from (longer n b) digits

abbrev pub numeral : List ℕ → Option ℕ
numeral digits = numeral_from (Some 0) digits

-- a handle of this number
abbrev pub handle_of : Option ℕ → Option ℕ
handle_of None = None
handle_of (Some j) = if nat_le 1 j && nat_lt j (2 ^ 32) then Some j else None

abbrev pub behind_a : List ℕ → Option ℕ
behind_a [] = None
behind_a (b ∷ digits) = if b == byte "x" then handle_of (numeral digits) else None

-- the number of the handle that is written so
abbrev pub handle_read : List ℕ → Option ℕ
handle_read [] = None
handle_read (b ∷ bytes) = if b == byte "a" then behind_a bytes else None

-- the number of the attacker's own name that is written so
abbrev pub own_read : List ℕ → Option ℕ
own_read [] = None
own_read (b ∷ digits) = if b == byte "@" then numeral digits else None

-- the declared name is public
abbrev pub is_public : Signature → ℕ → Bool
is_public signature n = unwrap_or (option_map (λ a. if a.is_private then false else true) (slice_get signature.names n)) false

-- the public name with this text
abbrev pub public_if : Signature → Option ℕ → Option ℕ
public_if signature None = None
public_if signature (Some n) = if is_public signature n then Some n else None

abbrev pub public_named : Signature → List ℕ → Option ℕ
public_named signature text = public_if signature (name_named signature text)

-- what the word means where no bracket comes behind it: a public name, a name of the attacker's own, or a handle
abbrev pub or_handle : Option ℕ → Option Leaf
or_handle None = None
or_handle (Some j) = Some (ax j)

abbrev pub or_own : List ℕ → Option ℕ → Option Leaf
or_own word (Some k) = Some (public (At k))
or_own word None = or_handle (handle_read word)

abbrev pub or_mark : List ℕ → Option ℕ → Option Leaf
or_mark word (Some n) = Some (public (Declared n))
or_mark word None = or_own word (own_read word)

abbrev pub leaf_read : Signature → List ℕ → Option Leaf
leaf_read signature word = or_mark word (public_named signature word)

-- the symbol has this arity
abbrev pub has_arity : Signature → ℕ → ℕ → Bool
has_arity signature f n = unwrap_or (option_map (λ s. s.arity == n) (slice_get signature.symbols f)) false

-- the symbol with this text and arity; that of a tuple has none
abbrev pub symbol_if : Signature → ℕ → Option ℕ → Option ℕ
symbol_if signature n None = None
symbol_if signature n (Some f) = if has_arity signature f n then Some f else None

abbrev pub symbol_read : Signature → List ℕ → ℕ → Option ℕ
symbol_read signature [] n = if nat_le 2 n && nat_le n 8 then symbol_if signature n (symbol_named signature (tuple_name n)) else None
symbol_read signature (b ∷ word) n = symbol_if signature n (symbol_named signature (b ∷ word))

-- the symbol over as many terms as its arity says
abbrev pub applied : Reading → Option ℕ → Option Reading
applied reading None = None
applied reading (Some f) =
    if nat_le reading.arity 8 && nat_le reading.arity (length reading.terms)
    then Some (record { brackets = reading.brackets; arity = 0; terms = app (record { number = f }) (trees (take reading.arity reading.terms)) ∷ drop reading.arity reading.terms })
    else None

abbrev pub with_leaf : Reading → Leaf → Reading
with_leaf reading x = record { brackets = reading.brackets; arity = 0; terms = leaf x ∷ reading.terms }

-- a symbol without arguments, or a leaf
abbrev pub or_leaf : Signature → List ℕ → Reading → Option ℕ → Option Leaf → Option Reading
or_leaf signature word reading (Some f) x = applied reading (Some f)
or_leaf signature word reading None (Some x) = if reading.arity == 0 then Some (with_leaf reading x) else None
or_leaf signature word reading None None = None

-- the word was read
abbrev pub with_word : Signature → List ℕ → Reading → Option Reading
with_word signature word reading = or_leaf signature word reading (symbol_read signature word reading.arity) (leaf_read signature word)

-- a bracket closes: its last term comes next
abbrev pub closing : Reading → Reading
closing reading = record { brackets = 1 ∷ reading.brackets; arity = 0; terms = reading.terms }

-- a comma: one more term begins behind it
abbrev pub comma_in : Reading → List ℕ → Option Reading
comma_in reading [] = None
comma_in reading (k ∷ ks) = if nat_lt k 8 then Some (record { brackets = (1 + k) ∷ ks; arity = 0; terms = reading.terms }) else None

-- a bracket opens: the symbol before it has as many arguments as terms begin behind it
abbrev pub opening_in : Reading → List ℕ → Option Reading
opening_in reading [] = None
opening_in reading (k ∷ ks) = Some (record { brackets = ks; arity = k; terms = reading.terms })

abbrev pub is_sign : ℕ → Bool
is_sign b = b == byte ")" || (b == byte "," || b == byte "(")

-- a comma or an opening bracket, behind which a word was read
abbrev pub behind_word : ℕ → Option Reading → Option Reading
behind_word b None = None
behind_word b (Some reading) = if b == byte "," then comma_in reading reading.brackets else opening_in reading reading.brackets

-- a sign before a word
abbrev pub with_sign : Signature → ℕ → List ℕ → Reading → Option Reading
with_sign signature b word reading = if b == byte ")" then Some (closing reading) else behind_word b (with_word signature word reading)

-- What was read, and the bytes behind it that are a word's end.
pub record Scan : Type 0 where
  pub word : List ℕ
  pub reading : Reading

abbrev pub between : Option Reading → Option Scan
between None = None
between (Some reading) = Some (record { word = []; reading = reading })

-- one more byte
abbrev pub with_byte : Signature → ℕ → Option Scan → Option Scan
with_byte signature b None = None
with_byte signature b (Some scan) =
    if is_sign b then between (with_sign signature b scan.word scan.reading) else Some (record { word = b ∷ scan.word; reading = scan.reading })

-- the bytes, from the last one on
abbrev pub scanned : Signature → List ℕ → Option Scan → Option Scan
scanned signature [] scan = scan
scanned signature (b ∷ bytes) scan = with_byte signature b (scanned signature bytes scan)

-- all was read, and it is one term
abbrev pub only_term : List ℕ → List Tree → Option Tree
only_term [] (t ∷ []) = Some t
only_term ks ts = None

abbrev pub finished : Option Reading → Option Tree
finished None = None
finished (Some reading) = only_term reading.brackets reading.terms

abbrev pub read_whole : Signature → Option Scan → Option Tree
read_whole signature None = None
read_whole signature (Some scan) = finished (with_word signature scan.word scan.reading)

-- the recipe that alone may have this text
abbrev pub recipe_read : Signature → List ℕ → Option Tree
recipe_read signature text = read_whole signature (scanned signature text (Some (record { word = []; reading = start })))
