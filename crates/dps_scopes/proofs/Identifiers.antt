-- The texts that may be declared, as a test.
use Rattle.std.proofs.Common.{◌≡◌, ◌<◌, ℕ, Bool, true, false, ◌&&◌, ◌||◌, not, inl, List, [], ◌∷◌, refl, sym, ap, ◌∙◌, length, arith, IsTrue}
use Rattle.std.specs.Prelude.{◌==◌, nat_le}
use Rattle.std.specs.List.{list_all}
use Rattle.std.specs.Str.{byte}
use Rattle.std.proofs.lemmas.Bool.{eqb-true, eq-eqb, leb-true, le-leb}
use Rattle.std.proofs.lemmas.Bool.Decides.{same_from_decides}
use Rattle.std.proofs.lemmas.List.Sums.{AllPass-from_list_all, list_all-from_AllPass}
use Rattle.dps_signature.specs.declared.SymKind.{SymKind}
use Rattle.dps_signature.specs.Names.{IsIdentifier, IsSymbolText, IsWord, IsHandleText, is_letter, is_digit, is_name_byte}
use Rattle.dps_scopes.specs.Scopes.{is_word, is_handle, begins_as_projection, is_reserved}

both : (a b : Bool) → (a && b) ≡ true → (a ≡ true) × (b ≡ true)
both true b e = (refl, e)
both false b e = cc

joined : (a b : Bool) → a ≡ true → b ≡ true → (a && b) ≡ true
joined true b e f = f
joined false b e f = cc

word_told : (text : List ℕ) → is_word text ≡ true → IsWord text
word_told [] e = cc
word_told (b ∷ bs) e = let h = both (is_letter b) (list_all is_name_byte bs) e in (h.0, AllPass-from_list_all is_name_byte bs h.1)

word_known : (text : List ℕ) → IsWord text → is_word text ≡ true
word_known [] h = absurd h
word_known (b ∷ bs) h = joined (is_letter b) (list_all is_name_byte bs) h.0 (list_all-from_AllPass is_name_byte bs h.1)

handle_told : (text : List ℕ) → is_handle text ≡ true → IsHandleText text
handle_told [] e = cc
handle_told (a ∷ []) e = cc
handle_told (a ∷ x ∷ []) e = cc
handle_told (a ∷ x ∷ d ∷ ds) e =
    let h = both (a == byte "a" && x == byte "x" && is_digit d) (list_all is_digit ds) e in
    let i = both (a == byte "a" && x == byte "x") (is_digit d) h.0 in
    let j = both (a == byte "a") (x == byte "x") i.0 in
    let some : 0 < length (d ∷ ds) = omega arith in
    (eqb-true a (byte "a") j.0, eqb-true x (byte "x") j.1, some, AllPass-from_list_all is_digit (d ∷ ds) (joined (is_digit d) (list_all is_digit ds) i.1 h.1))

handle_known : (text : List ℕ) → IsHandleText text → is_handle text ≡ true
handle_known [] h = absurd h
handle_known (a ∷ []) h = absurd h
handle_known (a ∷ x ∷ []) h = absurd (let some : 0 < 0 = h.2 in omega (arith, some))
handle_known (a ∷ x ∷ d ∷ ds) h =
    let ds_pass = both (is_digit d) (list_all is_digit ds) (list_all-from_AllPass is_digit (d ∷ ds) h.3) in
    joined (a == byte "a" && x == byte "x" && is_digit d) (list_all is_digit ds)
    (joined (a == byte "a" && x == byte "x") (is_digit d) (joined (a == byte "a") (x == byte "x") (eq-eqb a (byte "a") h.0) (eq-eqb x (byte "x") h.1)) ds_pass.0)
    ds_pass.1

-- whether a declaration may have this text
abbrev is_name : List ℕ → Bool
is_name text = is_word text && nat_le (length text) 64 && not (is_handle text)

name_told : (text : List ℕ) → is_name text ≡ true → IsIdentifier text
name_told text e =
    let h = both (is_word text && nat_le (length text) 64) (not (is_handle text)) e in
    let i = both (is_word text) (nat_le (length text) 64) h.0 in
    record {
      word = word_told text i.0;
      short = leb-true (length text) 64 i.1;
      no_handle = λ t. clash (is_handle text) h.1 (handle_known text t);
    }
  where
    clash : (b : Bool) → not b ≡ true → b ≡ true → ⊥
    clash true n t = cc
    clash false n t = cc

name_known : (text : List ℕ) → IsIdentifier text → is_name text ≡ true
name_known text h =
    joined (is_word text && nat_le (length text) 64) (not (is_handle text))
    (joined (is_word text) (nat_le (length text) 64) (word_known text h.word) (le-leb (length text) 64 h.short))
    (other (is_handle text) (λ t. h.no_handle (handle_told text t)))
  where
    other : (b : Bool) → (b ≡ true → ⊥) → not b ≡ true
    other true n = absurd (n refl)
    other false n = refl

pub reserved_by : (text : List ℕ) (b r : Bool) → r ≡ begins_as_projection text → r ≡ false → (IsTrue b → IsIdentifier text) × (IsIdentifier text → IsTrue b) → not b ≡ is_reserved text
reserved_by text b r is none told =
    ap not (same_from_decides b (is_name text) told (name_told text, name_known text)) ∙ ap (λ x. x || not (is_name text)) (sym none ∙ is)

-- a text that is not reserved may be declared
pub unreserved : (text : List ℕ) → is_reserved text ≡ false → IsIdentifier text
unreserved text e = name_told text (go (begins_as_projection text) (is_name text) e)
  where
    go : (a b : Bool) → (a || not b) ≡ false → b ≡ true
    go true b e = cc
    go false true e = refl
    go false false e = cc

pub unreserved_symbol : (text : List ℕ) (kind : SymKind) (arity : ℕ) (r : Bool) → r ≡ is_reserved text → r ≡ false → IsSymbolText text kind arity
unreserved_symbol text kind arity r is e = inl (unreserved text (sym is ∙ e))

pub ruleset for_identifiers = (reserved_by, unreserved, unreserved_symbol)
