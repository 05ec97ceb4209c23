-- The faults of sides that are written out.
use Rattle.std.proofs.Common.{◌≡◌, ℕ, zero, suc, ◌+◌, ◌<◌, ◌^◌, Bool, true, false, if◌then◌else◌, List, [], ◌∷◌, ◌++◌, length, get_or, drop, refl, ap, sym, ◌∙◌, arith, drop-cons}
use Rattle.std.specs.Prelude.{slice_get, Option, Some, None}
use Rattle.std.specs.Option.{option_map}
use Rattle.std.proofs.lemmas.Option.{none-some}
use Rattle.dps_lex.specs.declared.vocabulary.Place.{Place}
use Rattle.dps_signature.specs.Signature.{Name}
use Rattle.dps_process.specs.Process.{Process}
use Rattle.dps_names.specs.Program.{Program}
use Rattle.dps_elab.specs.Expansion.{Numbers, Expansion, private_numbers, private_names, expansion_of, left_expansion, right_expansion}
use Rattle.dps_elab.specs.Limits.{is_too_large}
use Rattle.dps_elab.specs.Meaning.{first_such, refused, is_no_channel, is_channel, checked_privates, checked_channels, checked, expanded}
use Rattle.dps_elab.specs.Writing.{IsSideWritten}
use Rattle.dps_elab.specs.declared.fault.ExpansionCause.TheVariants.{TooLarge, PrivateChannel}
use Rattle.dps_elab.specs.declared.found.PrivateUse.{PrivateUse}
use Rattle.dps_elab.specs.declared.found.ChannelUse.{ChannelUse}
use Rattle.dps_elab.specs.declared.writer.Writer.{Writer}

-- the private names from one name on
numbers_next :
    (n : ℕ) (names : List Name) (i : ℕ) (b : Bool) → option_map (λ x. x.is_private) (slice_get names i) ≡ Some b
    → private_numbers n (drop i names) ≡ (if b then n ∷ private_numbers (n + 1) (drop (i + 1) names) else private_numbers (n + 1) (drop (i + 1) names))
numbers_next n [] i b e = absurd (none-some b e)
numbers_next n (x ∷ names) zero b e =
    let same : x.is_private ≡ b = cc in
    ap (λ c. if c then n ∷ private_numbers (n + 1) names else private_numbers (n + 1) names) same
numbers_next n (x ∷ names) (suc i) b e =
    let one : suc i + 1 ≡ suc (i + 1) = omega arith in
    rw one (numbers_next n names i b e)

pub private_next :
    (n : ℕ) (names : List Name) (i : ℕ) → option_map (λ x. x.is_private) (slice_get names i) ≡ Some true
    → private_numbers n (drop i names) ≡ n ∷ private_numbers (n + 1) (drop (i + 1) names)
private_next n names i e = numbers_next n names i true e

pub public_next :
    (n : ℕ) (names : List Name) (i : ℕ) → option_map (λ x. x.is_private) (slice_get names i) ≡ Some false
    → private_numbers n (drop i names) ≡ private_numbers (n + 1) (drop (i + 1) names)
public_next n names i e = numbers_next n names i false e

-- one that does not pass is passed over
pub passed_over : {X : Type 0} (passes : X → Bool) (xs : List X) (i : ℕ) (d : X) → i < length xs → passes (get_or xs i d) ≡ false → first_such passes (drop (i + 1) xs) ≡ first_such passes (drop i xs)
passed_over {X} passes xs i d h e =
    let one : i + 1 ≡ suc i = omega arith in
    ap (λ k. first_such passes (drop k xs)) one
    ∙ sym (ap (first_such passes) (drop-cons xs i d h) ∙ ap (λ b. if b then Some (get_or xs i d) else first_such passes (drop (suc i) xs)) e)

no_place : {X : Type 0} (place : X → Place) (o : Option X) → option_map place o ≡ None → o ≡ None
no_place place None e = refl
no_place place (Some x) e = absurd (cc)

private_place : (left right : Process) (o : Option PrivateUse) (place : Place) → option_map (λ u. u.place) o ≡ Some place → checked_privates left right o ≡ refused place PrivateChannel
private_place left right None place e = absurd (cc)
private_place left right (Some u) place e = let same : u.place ≡ place = cc in ap (λ p. refused p PrivateChannel) same

pub private_fault :
    (channels : List ChannelUse) (privates : List PrivateUse) (among : ℕ → Bool) (place : Place) (left right : Process)
    → option_map (λ c. c.place) (first_such is_no_channel channels) ≡ None → ((n : ℕ) → among n ≡ is_channel channels n)
    → option_map (λ u. u.place) (first_such (λ u. among u.name) privates) ≡ Some place → checked left right channels privates ≡ refused place PrivateChannel
private_fault channels privates among place left right none same some =
    ap (checked_channels left right channels privates) (no_place (λ c. c.place) (first_such is_no_channel channels) none)
    ∙ private_place left right (first_such (λ u. is_channel channels u.name) privates) place
    (ap (λ (f : ℕ → Bool). option_map (λ u. u.place) (first_such (λ u. f u.name) privates)) (λ i n. sym (same n) i) ∙ some)

-- the expansions of the sides
pub left_is :
    (program : Program) (names : List ℕ) (n : Numbers) → names ≡ private_names program → n ≡ record { variable = 2 ^ 63; name = length names }
    → expansion_of names program.definitions program.left.body [] n ≡ left_expansion program
left_is program names n e f =
    ap (λ m. expansion_of names program.definitions program.left.body [] m) f
    ∙ ap (λ ns. expansion_of ns program.definitions program.left.body [] (record { variable = 2 ^ 63; name = length ns })) e

pub right_is :
    (program : Program) (names : List ℕ) (n : Numbers) → names ≡ private_names program → n ≡ (left_expansion program).next
    → expansion_of names program.definitions program.right.body [] n ≡ right_expansion program
right_is program names n e f = λ i. expansion_of (e i) program.definitions program.right.body [] (f i)

pub left_too_large : (program : Program) (e : Expansion) → e ≡ left_expansion program → is_too_large e.process ≡ true → expanded program ≡ refused program.left.place TooLarge
left_too_large program e s h =
    let large : is_too_large (left_expansion program).process ≡ true = ap (λ (x : Expansion). is_too_large x.process) (sym s) ∙ h in
    rw large refl

pub right_too_large :
    (program : Program) (e : Expansion) → is_too_large (left_expansion program).process ≡ false → e ≡ right_expansion program → is_too_large e.process ≡ true
    → expanded program ≡ refused program.right.place TooLarge
right_too_large program e fits s h =
    let large : is_too_large (right_expansion program).process ≡ true = ap (λ (x : Expansion). is_too_large x.process) (sym s) ∙ h in
    rw fits (rw large refl)

pub both_written :
    (program : Program) (w0 w1 w2 : Writer) (e f : Expansion) (left right : Process) → e ≡ left_expansion program → f ≡ right_expansion program
    → IsSideWritten w0 w1 e left → IsSideWritten w1 w2 f right → w0.channels.items ≡ [] → w0.privates.items ≡ []
    → expanded program ≡ checked left right w2.channels.items w2.privates.items
both_written program w0 w1 w2 e f left right s t a b c d =
    let fits : is_too_large (left_expansion program).process ≡ false = ap (λ (x : Expansion). is_too_large x.process) (sym s) ∙ a.fits in
    let fits2 : is_too_large (right_expansion program).process ≡ false = ap (λ (x : Expansion). is_too_large x.process) (sym t) ∙ b.fits in
    let channels : (left_expansion program).channels ++ (right_expansion program).channels ≡ w2.channels.items =
    (λ i. (sym s i).channels ++ (sym t i).channels) ∙ sym (b.channels_then ∙ ap (λ x. x ++ f.channels) (a.channels_then ∙ ap (λ x. x ++ e.channels) c)) in
    let privates : (left_expansion program).privates ++ (right_expansion program).privates ≡ w2.privates.items =
    (λ i. (sym s i).privates ++ (sym t i).privates) ∙ sym (b.privates_then ∙ ap (λ x. x ++ f.privates) (a.privates_then ∙ ap (λ x. x ++ e.privates) d)) in
    let lefts : (left_expansion program).process ≡ left = ap (λ (x : Expansion). x.process) (sym s) ∙ sym a.same in
    let rights : (right_expansion program).process ≡ right = ap (λ (x : Expansion). x.process) (sym t) ∙ sym b.same in
    rw fits (rw fits2 (λ i. checked (lefts i) (rights i) (channels i) (privates i)))
