-- What texts of names, symbols and marks are made of.
use Rattle.std.proofs.Common.{◌≡◌, ℕ, ◌+◌, ◌<◌, ◌≤◌, lit<, true, false, inl, inr, List, [], ◌∷◌, Option, Some, None, refl, ap, sym, subst, length, get_or, arith, slice_get}
use Rattle.std.specs.List.{All, AllPass, slice_index_or}
use Rattle.std.specs.Str.{bytes_eq, IsUtf8}
use Rattle.std.proofs.lemmas.Bool.Decides.{nat_tests}
use Rattle.std.proofs.lemmas.Slice.Eq.{bytes_eq-Decides}
use Rattle.std.proofs.lemmas.List.Elements.{All-cons, All-nil}
use Rattle.std.proofs.lemmas.Option.{slice_get-get_or}
use Rattle.std.proofs.lemmas.Str.{IsUtf8-from_ascii}
use Rattle.std.proofs.lemmas.Str.Ascii.{IsAscii-from_all}
use Rattle.std.proofs.lemmas.List.Quantifiers.{position-Some}
use Rattle.std.proofs.lemmas.List.Sums.{list_all-from_AllPass, AllPass-from_list_all}
use Rattle.std.specs.List.{list_all}
use Rattle.dps_signature.specs.declared.SymKind.{SymKind}
use Rattle.dps_signature.specs.declared.SymKind.TheVariants.{Constructor}
use Rattle.dps_signature.specs.Signature.{Symbol, Name, Signature}
use Rattle.dps_signature.specs.Names.{is_letter, is_digit, is_name_byte, IsWord, IsIdentifier, IsSymbolText, IsTupleSymbol, tuple_name, symbol_named, name_named}
use Rattle.dps_signature.specs.Spelled.{IsSpelled}
use Rattle.dps_trace.specs.Scanning.{is_sign, public_named, public_if}
use Rattle.dps_trace.proofs.Scanned.{IsUnsigned}
use Rattle.dps_trace.proofs.Digits.{AreDigits}

-- letters, digits, `_` and `'` are no signs, and ASCII
name_byte : (b : ℕ) → is_name_byte b ≡ true → (is_sign b ≡ false) × (b < 128)
name_byte b h = grind (arith, nat_tests)

names_unsigned : (bs : List ℕ) → list_all is_name_byte bs ≡ true → IsUnsigned bs
names_unsigned [] h = tt
names_unsigned (b ∷ bs) h =
    let both : (is_name_byte b ≡ true) × (list_all is_name_byte bs ≡ true) = grind (arith, nat_tests) in
    ((name_byte b both.0).0, names_unsigned bs both.1)

letter_byte : (b : ℕ) → is_letter b ≡ true → is_name_byte b ≡ true
letter_byte b h = grind (arith, nat_tests)

low_bytes : (bs : List ℕ) → All (λ b. b < 128) bs → IsUtf8 bs
low_bytes bs h = IsUtf8-from_ascii bs (IsAscii-from_all bs h)

pub word_bytes : (text : List ℕ) → IsWord text → IsUnsigned text × IsUtf8 text
word_bytes [] h = absurd h
word_bytes (b ∷ bs) h =
    let one = name_byte b (letter_byte b h.0) in (
      (one.0, names_unsigned bs (list_all-from_AllPass is_name_byte bs h.1)),
      low_bytes (b ∷ bs) (All-cons (λ x. x < 128) b bs one.1 (λ k d l. (name_byte (slice_index_or bs k d) (h.1 k d l)).1)),
    )

tuple_bytes : (n : ℕ) → n ≤ 8 → IsUtf8 (tuple_name n)
tuple_bytes n few =
    let low : ℕ → Type 0 = λ x. x < 128 in
    low_bytes (tuple_name n)
    (All-cons low 40 ((48 + n) ∷ 41 ∷ []) (lit< tt)
    (All-cons low (48 + n) (41 ∷ []) (omega (arith, few))
    (All-cons low 41 [] (lit< tt) (All-nil low))))

digit_byte : (b : ℕ) → 48 ≤ b → b ≤ 57 → is_sign b ≡ false
digit_byte b low high = grind (arith, nat_tests)

pub digits_unsigned : (bs : List ℕ) → AreDigits bs → IsUnsigned bs
digits_unsigned [] h = tt
digits_unsigned (b ∷ bs) h = (digit_byte b h.0 h.1, digits_unsigned bs h.2)

-- what is found by a text has this text
found_symbol : (S : Signature) (text : List ℕ) (i : ℕ) → symbol_named S text ≡ Some i → (s : Symbol) × ((slice_get S.symbols i ≡ Some s) × (text ≡ s.name))
found_symbol S text i e =
    let d : Symbol = record { name = []; kind = Constructor; arity = 0 } in
    let h = position-Some (λ (s : Symbol). bytes_eq text s.name) S.symbols i d e in
    (get_or S.symbols i d, (slice_get-get_or S.symbols i d h.0, (bytes_eq-Decides text (get_or S.symbols i d).name).0 h.1))

found_name : (S : Signature) (text : List ℕ) (i : ℕ) → name_named S text ≡ Some i → (n : Name) × ((slice_get S.names i ≡ Some n) × (text ≡ n.name))
found_name S text i e =
    let d : Name = record { name = []; is_private = false } in
    let h = position-Some (λ (n : Name). bytes_eq text n.name) S.names i d e in
    (get_or S.names i d, (slice_get-get_or S.names i d h.0, (bytes_eq-Decides text (get_or S.names i d).name).0 h.1))

is_none : {A : Type 0} (x : Option A) → ((i : A) → x ≡ Some i → ⊥) → x ≡ None
is_none None f = refl
is_none (Some i) f = absurd (f i refl)

-- neither an identifier nor a tuple's text
pub record IsNoText (text : List ℕ) : Type 0 where
  pub no_identifier : ¬ IsIdentifier text
  pub no_tuple : (kind : SymKind) (n : ℕ) → ¬ IsTupleSymbol text kind n

pub no_symbol : (S : Signature) (text : List ℕ) → IsSpelled S → IsNoText text → symbol_named S text ≡ None
no_symbol S text spelled not_text = is_none (symbol_named S text) (λ i e.
    let found = found_symbol S text i e in
    fails found.0 (subst (λ t. IsSymbolText t found.0.kind found.0.arity) (sym found.1.1) (spelled.symbol_texts i found.0 found.1.0)))
  where
    fails : (s : Symbol) → IsSymbolText text s.kind s.arity → ⊥
    fails s (inl h) = not_text.no_identifier h
    fails s (inr h) = not_text.no_tuple s.kind s.arity h

pub no_name : (S : Signature) (text : List ℕ) → IsSpelled S → IsNoText text → name_named S text ≡ None
no_name S text spelled not_text = is_none (name_named S text) (λ i e.
    let found = found_name S text i e in
    not_text.no_identifier (subst IsIdentifier (sym found.1.1) (spelled.name_texts i found.0 found.1.0)))

-- marks are no texts of names and symbols
pub own_no_text : (bs : List ℕ) → IsNoText (64 ∷ bs)
own_no_text bs = record { no_identifier = λ h. no_letter h.word.0; no_tuple = λ kind n h. no_bracket (ap (λ xs. get_or xs 0 0) h.named) }
  where
    no_letter : is_letter 64 ≡ true → ⊥
    no_letter e = cc

    no_bracket : ◌≡◌ {A = ℕ} 64 40 → ⊥
    no_bracket e = omega (arith, e)

pub handle_no_text : (bs : List ℕ) → 0 < length bs → AreDigits bs → IsNoText (97 ∷ 120 ∷ bs)
handle_no_text bs some digits = record { no_identifier = λ h. h.no_handle (refl, refl, some, all bs digits); no_tuple = λ kind n h. no_bracket (ap (λ xs. get_or xs 0 0) h.named) }
  where
    all_digits : (bs : List ℕ) → AreDigits bs → list_all is_digit bs ≡ true
    all_digits [] h = refl
    all_digits (b ∷ bs) h = let more = all_digits bs h.2 in grind (arith, nat_tests, h.0, h.1)

    all : (bs : List ℕ) → AreDigits bs → AllPass is_digit bs
    all bs h = AllPass-from_list_all is_digit bs (all_digits bs h)

    no_bracket : ◌≡◌ {A = ℕ} 97 40 → ⊥
    no_bracket e = omega (arith, e)

-- bytes that are not UTF-8 are none
bytes_no_text : (text : List ℕ) → ¬ IsUtf8 text → IsNoText text
bytes_no_text text broken =
    record { no_identifier = λ h. broken (word_bytes text h.word).1; no_tuple = λ kind n h. broken (subst IsUtf8 (sym h.named) (tuple_bytes n h.few)) }

pub no_public_bytes : (S : Signature) (text : List ℕ) → IsSpelled S → ¬ IsUtf8 text → None ≡ public_named S text
no_public_bytes S text spelled broken = ap (public_if S) (sym (no_name S text spelled (bytes_no_text text broken)))

pub no_symbol_bytes : (S : Signature) (text : List ℕ) → IsSpelled S → ¬ IsUtf8 text → None ≡ symbol_named S text
no_symbol_bytes S text spelled broken = sym (no_symbol S text spelled (bytes_no_text text broken))
