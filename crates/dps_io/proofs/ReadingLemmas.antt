-- What reads do to the bytes that are told.
use Rattle.std.proofs.Common.{◌≡◌, ◌+◌, ◌<◌, ℕ, List, [], ◌++◌, length, Option, Some, None, IfSome, ap, sym, ◌∙◌, refl, subst, append_assoc, arith, length-append}
use Rattle.std.proofs.lemmas.List.{append-nil}
use Rattle.std.specs.Io.KnownBytes.{prepend_known, IsAtEnd}
use Rattle.dps_io.specs.Bytes.{HasRead}

-- nothing was read yet
pub prepend_none : (left : Option (List ℕ)) → left ≡ prepend_known [] left
prepend_none None = refl
prepend_none (Some xs) = refl

-- two pieces were read
prepend_both : (first second : List ℕ) (left : Option (List ℕ)) → prepend_known first (prepend_known second left) ≡ prepend_known (first ++ second) left
prepend_both first second None = refl
prepend_both first second (Some xs) = ap Some (sym (append_assoc first second xs))

-- one more piece was read
pub read_more : (told old new : Option (List ℕ)) (bytes piece : List ℕ) → told ≡ prepend_known bytes old → old ≡ prepend_known piece new → told ≡ prepend_known (bytes ++ piece) new
read_more told old new bytes piece before read = before ∙ ap (prepend_known bytes) read ∙ prepend_both bytes piece new

-- nothing is left, so all was read
pub read_whole : (told old new : Option (List ℕ)) (bytes : List ℕ) → told ≡ prepend_known bytes old → old ≡ prepend_known [] new → IsAtEnd new → IfSome told (λ told. bytes ≡ told)
read_whole told old None bytes before read end =
    let P : Option (List ℕ) → Type 0 = λ t. IfSome t (λ told. bytes ≡ told) in
    subst P (sym (before ∙ ap (prepend_known bytes) read)) tt
read_whole told old (Some ys) bytes before read end =
    let P : Option (List ℕ) → Type 0 = λ t. IfSome t (λ told. bytes ≡ told) in
    subst P (sym (before ∙ ap (prepend_known bytes) read)) (sym (ap (λ t. bytes ++ t) end ∙ append-nil bytes))

-- more was read than the limit, so the file is longer
longer : (told left : Option (List ℕ)) (bytes : List ℕ) (limit : ℕ) → told ≡ prepend_known bytes left → limit < length bytes → IfSome told (λ told. limit < length told)
longer told None bytes limit read more =
    let P : Option (List ℕ) → Type 0 = λ t. IfSome t (λ told. limit < length told) in
    subst P (sym read) tt
longer told (Some xs) bytes limit read more =
    let P : Option (List ℕ) → Type 0 = λ t. IfSome t (λ told. limit < length told) in
    subst P (sym read) (omega (arith, length-append bytes xs))

-- and so with the piece that was read last
pub longer_by :
    (told old new : Option (List ℕ)) (bytes piece : List ℕ) (limit : ℕ) → told ≡ prepend_known bytes old → old ≡ prepend_known piece new
    → limit < length bytes + length piece → IfSome told (λ told. limit < length told)
longer_by told old new bytes piece limit before read more = longer told new (bytes ++ piece) limit (read_more told old new bytes piece before read) (omega (arith, length-append bytes piece))

-- what was read so far
pub has_read : (told old new : Option (List ℕ)) (bytes : List ℕ) (count : ℕ) → told ≡ prepend_known bytes old → new ≡ old → count ≡ length bytes → HasRead count told new
has_read told old new bytes count before kept all = record { bytes = bytes; all_counted = sym all; others_left = before ∙ ap (prepend_known bytes) (sym kept) }

-- and so with the piece that was read last
pub has_read_more :
    (told old new : Option (List ℕ)) (bytes piece : List ℕ) (count : ℕ) → told ≡ prepend_known bytes old → old ≡ prepend_known piece new
    → count ≡ length bytes + length piece → HasRead count told new
has_read_more told old new bytes piece count before read all =
    record { bytes = bytes ++ piece; all_counted = length-append bytes piece ∙ sym all; others_left = read_more told old new bytes piece before read }

pub ruleset for_read_all = (prepend_none, read_more, read_whole, longer_by, has_read, has_read_more)
