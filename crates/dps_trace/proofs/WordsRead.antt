-- The words of a recipe are read as what they are.
use Rattle.std.proofs.Common.{◌≡◌, ℕ, ◌<◌, ◌≤◌, ◌^◌, true, false, ◌&&◌, inl, inr, List, [], ◌∷◌, Option, Some, None, refl, ap, sym, subst, ◌∙◌, length, take, drop, arith, slice_get, if◌then◌else◌}
use Rattle.std.specs.Prelude.{◌==◌, nat_le, unwrap_or}
use Rattle.std.specs.Fmt.{decimal}
use Rattle.std.specs.Option.{option_map}
use Rattle.std.proofs.lemmas.Bool.Decides.{nat_tests}
use Rattle.std.proofs.lemmas.Option.{slice_get-map, none-some}
use Rattle.std.proofs.lemmas.Fmt.{decimal_nonempty}
use Rattle.dps_terms.specs.declared.Sym.{Sym}
use Rattle.dps_terms.specs.declared.PublicName.TheVariants.{Declared, At}
use Rattle.dps_terms.specs.Tree.{Leaf, public, private, var, ax, entry, rigid, Tree, leaf, app, trees}
use Rattle.dps_signature.specs.Signature.{Symbol, Name, Shape, Signature, HasArity, IsPublic, shape_of, shapes}
use Rattle.dps_signature.specs.Names.{IsSymbolText, IsIdentifier, symbol_named, name_named, tuple_name}
use Rattle.dps_signature.specs.Text.{leaf_text, name_text, symbol_text, root_text, opens_bracket}
use Rattle.dps_signature.specs.Spelled.{IsSpelled}
use Rattle.dps_trace.specs.Written.{IsWrittenLeaf, IsWrittenSymbol}
use Rattle.dps_trace.specs.Scanning.{Reading, with_word, or_leaf, applied, symbol_read, symbol_if, leaf_read, or_mark, or_own, or_handle, public_named, public_if, is_public, handle_of, has_arity}
use Rattle.dps_trace.proofs.Scanned.{IsUnsigned, AreRead, settled}
use Rattle.dps_trace.proofs.Digits.{numeral-decimal, decimal_digits}
use Rattle.dps_trace.proofs.Spelling.{word_bytes, digits_unsigned, no_symbol, no_name, IsNoText, own_no_text, handle_no_text}

module _ (S : Signature) (spelled : IsSpelled S) where
  no_symbol_read : (w : List ℕ) → symbol_named S w ≡ None → symbol_read S w 0 ≡ None
  no_symbol_read [] e = refl
  no_symbol_read (b ∷ w) e = ap (symbol_if S 0) e

  leaf_word : (w : List ℕ) (x : Leaf) (ks : List ℕ) (us : List Tree) → symbol_read S w 0 ≡ None → leaf_read S w ≡ Some x → with_word S w (record { brackets = ks; arity = 0; terms = us }) ≡ settled ks (leaf x ∷ us)
  leaf_word w x ks us e f =
      let r : Reading = record { brackets = ks; arity = 0; terms = us } in
      ap (λ y. or_leaf S w r y (leaf_read S w)) e ∙ ap (λ y. or_leaf S w r None y) f

  -- a public name
  pub name_is : (n : ℕ) (h : IsPublic S n) → name_text S n ≡ h.0
  name_is n h = ap (λ x. unwrap_or (option_map (λ (a : Name). a.name) x) []) h.1

  public_there : (n : ℕ) → IsPublic S n → is_public S n ≡ true
  public_there n h = ap (λ x. unwrap_or (option_map (λ (a : Name). if a.is_private then false else true) x) false) h.1

  pub identifier : (n : ℕ) (h : IsPublic S n) → IsIdentifier h.0
  identifier n h = spelled.name_texts n (record { name = h.0; is_private = false }) h.1

  named : (n : ℕ) (h : IsPublic S n) → name_named S h.0 ≡ Some n
  named n h = spelled.names_found n (record { name = h.0; is_private = false }) h.1

  pub public_read : (n : ℕ) (h : IsPublic S n) → public_named S h.0 ≡ Some n
  public_read n h =
      ap (public_if S) (named n h)
      ∙ ap (λ c. if c then Some n else None) (public_there n h)

  leaf_signs : (x : Leaf) → IsWrittenLeaf S x → IsUnsigned (leaf_text S x)
  leaf_signs (public (Declared n)) h = subst IsUnsigned (sym (name_is n h)) (word_bytes h.0 (identifier n h).word).0
  leaf_signs (public (At k)) h = (refl, digits_unsigned (decimal k) (decimal_digits k h))
  leaf_signs (private n) h = absurd h
  leaf_signs (var n) h = absurd h
  leaf_signs (ax j) h = (refl, (refl, digits_unsigned (decimal j) (decimal_digits j (omega (arith, h.1)))))
  leaf_signs (entry n) h = absurd h
  leaf_signs (rigid n) h = absurd h

  pub in_range : (j : ℕ) → 1 ≤ j → j < 2 ^ 32 → handle_of (Some j) ≡ Some j
  in_range j low high = grind (arith, nat_tests)

  leaf_reads : (x : Leaf) (ks : List ℕ) (us : List Tree) → IsWrittenLeaf S x → with_word S (leaf_text S x) (record { brackets = ks; arity = 0; terms = us }) ≡ settled ks (leaf x ∷ us)
  leaf_reads (public (Declared n)) ks us h =
      ap (λ w. with_word S w (record { brackets = ks; arity = 0; terms = us })) (name_is n h)
      ∙ leaf_word h.0 (public (Declared n)) ks us
      (no_symbol_read h.0 (spelled.apart n (record { name = h.0; is_private = false }) h.1))
      (ap (or_mark h.0) (public_read n h))
  leaf_reads (public (At k)) ks us h =
      let w = 64 ∷ decimal k in
      leaf_word w (public (At k)) ks us
      (no_symbol_read w (no_symbol S w spelled (own_no_text (decimal k))))
      (ap (or_mark w) (ap (public_if S) (no_name S w spelled (own_no_text (decimal k)))) ∙ ap (or_own w) (numeral-decimal k h))
  leaf_reads (private n) ks us h = absurd h
  leaf_reads (var n) ks us h = absurd h
  leaf_reads (ax j) ks us h =
      let w = 97 ∷ 120 ∷ decimal j in
      let low : j < 2 ^ 64 = omega (arith, h.1) in
      let no : IsNoText w = handle_no_text (decimal j) (decimal_nonempty j low) (decimal_digits j low) in
      leaf_word w (ax j) ks us
      (no_symbol_read w (no_symbol S w spelled no))
      (ap (or_mark w) (ap (public_if S) (no_name S w spelled no))
      ∙ ap (λ x. or_handle (handle_of x)) (numeral-decimal j low)
      ∙ ap or_handle (in_range j h.0 h.1))
  leaf_reads (entry n) ks us h = absurd h
  leaf_reads (rigid n) ks us h = absurd h

  -- the symbol is there
  pub symbol_there : (f : Sym) (n : ℕ) → HasArity (shapes S) f n → (s : Symbol) × ((slice_get S.symbols f.number ≡ Some s) × (s.arity ≡ n))
  symbol_there f n h = go (slice_get S.symbols f.number) refl (sym (slice_get-map shape_of S.symbols f.number) ∙ h.1)
    where
      same : (x y : Shape) → Some x ≡ Some y → x.arity ≡ y.arity
      same x y q = let r : x ≡ y = cc in ap (λ (z : Shape). z.arity) r

      go : (x : Option Symbol) → slice_get S.symbols f.number ≡ x → option_map shape_of x ≡ Some (record { kind = h.0; arity = n }) → (s : Symbol) × ((slice_get S.symbols f.number ≡ Some s) × (s.arity ≡ n))
      go None e q = absurd (none-some _ q)
      go (Some s) e q = (s, (e, same (shape_of s) (record { kind = h.0; arity = n }) q))

  symbol_is : (f : Sym) (s : Symbol) → slice_get S.symbols f.number ≡ Some s → symbol_text S f ≡ s.name
  symbol_is f s e = ap (λ x. unwrap_or (option_map (λ (a : Symbol). a.name) x) []) e

  arity_there : (f : Sym) (s : Symbol) (n : ℕ) → slice_get S.symbols f.number ≡ Some s → s.arity ≡ n → has_arity S f.number n ≡ true
  arity_there f s n e a = ap (λ x. unwrap_or (option_map (λ (b : Symbol). b.arity == n) x) false) e ∙ (let t : (s.arity == n) ≡ true = grind (arith, nat_tests, a) in t)

  no_opening : (text : List ℕ) → IsIdentifier text → opens_bracket text ≡ false
  no_opening [] h = refl
  no_opening (b ∷ bs) h = let l = h.word.0 in grind (arith, nat_tests)

  pub root_of : (f : Sym) (s : Symbol) → slice_get S.symbols f.number ≡ Some s → IsIdentifier s.name → root_text S f ≡ s.name
  root_of f s e h =
      ap (λ t. if opens_bracket t then [] else t) (symbol_is f s e) ∙ ap (λ c. if c then [] else s.name) (no_opening s.name h)

  pub tuple_root : (f : Sym) (s : Symbol) (n : ℕ) → slice_get S.symbols f.number ≡ Some s → s.name ≡ tuple_name n → root_text S f ≡ []
  tuple_root f s n e t = ap (λ t. if opens_bracket t then [] else t) (symbol_is f s e ∙ t)

  -- what the root's text is, and that the symbol is found by it
  record HasRoot (f : Sym) (n : ℕ) : Type 0 where
    unsigned : IsUnsigned (root_text S f)
    found : symbol_read S (root_text S f) n ≡ Some f.number

  found_by_name : (f : Sym) (n : ℕ) (text : List ℕ) → IsIdentifier text → symbol_named S text ≡ Some f.number → has_arity S f.number n ≡ true → symbol_read S text n ≡ Some f.number
  found_by_name f n [] h e a = absurd h.word
  found_by_name f n (b ∷ text) h e a =
      ap (symbol_if S n) e
      ∙ ap (λ c. if c then Some f.number else None) a

  found_as_tuple : (f : Sym) (n : ℕ) → 2 ≤ n → n ≤ 8 → symbol_named S (tuple_name n) ≡ Some f.number → has_arity S f.number n ≡ true → symbol_read S [] n ≡ Some f.number
  found_as_tuple f n low high e a =
      ap (λ c. if c then symbol_if S n (symbol_named S (tuple_name n)) else None) (let t : (nat_le 2 n && nat_le n 8) ≡ true = grind (arith, nat_tests) in t)
      ∙ ap (symbol_if S n) e
      ∙ ap (λ c. if c then Some f.number else None) a

  root_there : (f : Sym) (n : ℕ) → HasArity (shapes S) f n → HasRoot f n
  root_there f n h = by_text (symbol_there f n h).0 (symbol_there f n h).1.0 (symbol_there f n h).1.1 (spelled.symbol_texts f.number (symbol_there f n h).0 (symbol_there f n h).1.0)
    where
      by_text : (s : Symbol) → slice_get S.symbols f.number ≡ Some s → s.arity ≡ n → IsSymbolText s.name s.kind s.arity → HasRoot f n
      by_text s e a (inl i) =
          record {
            unsigned = subst IsUnsigned (sym (root_of f s e i)) (word_bytes s.name i.word).0;
            found = ap (λ w. symbol_read S w n) (root_of f s e i) ∙ found_by_name f n s.name i (spelled.symbols_found f.number s e) (arity_there f s n e a);
          }
      by_text s e a (inr t) =
          let name : s.name ≡ tuple_name n = t.named ∙ ap tuple_name a in
          record {
            unsigned = subst IsUnsigned (sym (tuple_root f s n e name)) tt;
            found =
                ap (λ w. symbol_read S w n) (tuple_root f s n e name)
                ∙ found_as_tuple f n (omega (arith, t.some, a)) (omega (arith, t.few, a)) (sym (ap (symbol_named S) name) ∙ spelled.symbols_found f.number s e) (arity_there f s n e a);
          }

  enough : (f : Sym) (n : ℕ) (ks : List ℕ) (us : List Tree) → n ≤ 8 → n ≤ length us → applied (record { brackets = ks; arity = n; terms = us }) (Some f.number) ≡ settled ks (app f (trees (take n us)) ∷ drop n us)
  enough f n ks us few there = ap (λ c. if c then settled ks (app f (trees (take n us)) ∷ drop n us) else None) (let t : (nat_le n 8 && nat_le n (length us)) ≡ true = grind (arith, nat_tests) in t)

  pub all_read : AreRead S (IsWrittenLeaf S) (IsWrittenSymbol S)
  all_read =
      record {
        leaf_unsigned = leaf_signs;
        leaf_is = leaf_reads;
        root_unsigned = λ f n h. (root_there f n h.0).unsigned;
        root_few = λ f n h. h.1;
        root_is = λ f n ks us h there.
            ap (λ y. or_leaf S (root_text S f) (record { brackets = ks; arity = n; terms = us }) y (leaf_read S (root_text S f))) (root_there f n h.0).found
            ∙ enough f n ks us h.1 there;
      }
