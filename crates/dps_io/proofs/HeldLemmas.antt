-- The files in memory: the first of a name, and what is left of one.
use Rattle.std.proofs.Common.{◌≡◌, ◌<◌, ◌+◌, ℕ, suc, List, ◌∷◌, Some, None, string_bytes, true, false, drop, refl}
use Rattle.std.proofs.Common.{ap, sym, ◌∙◌, subst, get_or, length, add-one, drop-cons, Option, IfSome, ◌++◌, take, option_map, slice_get}
use Rattle.std.proofs.lemmas.Option.{slice_get_read}
use Rattle.std.specs.Str.{bytes_eq}
use Rattle.std.specs.Io.KnownBytes.{prepend_known}
use Rattle.std.proofs.lemmas.List.{take-append-drop, drop-drop}
use Rattle.dps_io.specs.Held.{NamedBytes, held, bytes_named, left_of}

-- the search from a place on looks at the file there first
named_front :
    (files : List NamedBytes) (at : ℕ) (name : List ℕ) (file : NamedBytes) → at < length files → file ≡ get_or files at file
    → bytes_named (held (drop at files)) name ≡ bytes_named (held (file ∷ drop (suc at) files)) name
named_front files at name file within is = ap (λ rest. bytes_named (held rest) name) (drop-cons files at file within ∙ ap (λ x. x ∷ drop (suc at) files) (sym is))

-- a file of that name ends the search
named_here :
    (files : List NamedBytes) (at : ℕ) (name : List ℕ) (file : NamedBytes) → at < length files → file ≡ get_or files at file
    → bytes_eq (string_bytes file.0) name ≡ true → bytes_named (held (drop at files)) name ≡ Some file.1.items
named_here files at name file within is same = named_front files at name file within is ∙ rw same refl

-- a file of another name is passed over
pub named_later :
    (files : List NamedBytes) (at : ℕ) (name : List ℕ) (file : NamedBytes) → at < length files → file ≡ get_or files at file
    → bytes_eq (string_bytes file.0) name ≡ false → bytes_named (held (drop (at + 1) files)) name ≡ bytes_named (held (drop at files)) name
named_later files at name file within is other = sym (named_front files at name file within is ∙ rw (other, add-one) refl)

-- where the search stops
pub found_here :
    (files : List NamedBytes) (at : ℕ) (name : List ℕ) (file : NamedBytes) → at < length files → file ≡ get_or files at file
    → bytes_eq (string_bytes file.0) name ≡ true → bytes_named (held (drop at files)) name ≡ bytes_named (held files) name
    → option_map (λ file. drop 0 file.1.items) (slice_get files at) ≡ bytes_named (held files) name
found_here files at name file within is same start =
    ap (λ found. option_map (λ file. drop 0 file.1.items) found) (slice_get_read files (length files) at file refl within is) ∙ sym (named_here files at name file within is same) ∙ start

pub ruleset for_place_of = (found_here, named_later)

-- a piece of what is left of a file
piece_of :
    (found : Option NamedBytes) (taken count : ℕ) (rest piece : List ℕ) → IfSome (option_map (λ file. drop taken file.1.items) found) (λ left. rest ≡ left)
    → piece ≡ take count rest
    → option_map (λ file. drop taken file.1.items) found ≡ prepend_known piece (option_map (λ file. drop (taken + count) file.1.items) found)
piece_of None taken count rest piece left is = refl
piece_of (Some file) taken count rest piece left is = ap Some (
    sym left
    ∙ sym (take-append-drop count rest)
    ∙ ap (λ t. take count rest ++ drop count t) left
    ∙ ap (λ t. take count rest ++ t) (drop-drop count taken file.1.items)
    ∙ ap (λ t. t ++ drop (taken + count) file.1.items) (sym is))

-- the next piece of the open file
pub next_piece :
    (files : List NamedBytes) (open_at : Option ℕ) (place taken count : ℕ) (rest piece : List ℕ) → open_at ≡ Some place
    → IfSome (left_of files (Some place) taken) (λ left. rest ≡ left) → piece ≡ take count rest
    → left_of files open_at taken ≡ prepend_known piece (left_of files open_at (taken + count))
next_piece files open_at place taken count rest piece opened left is =
    let P : Option ℕ → Type 0 = λ x. left_of files x taken ≡ prepend_known piece (left_of files x (taken + count)) in
    subst P (sym opened) (piece_of (slice_get files place) taken count rest piece left is)
