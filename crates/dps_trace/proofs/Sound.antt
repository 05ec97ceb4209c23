-- What is read is a recipe over the signature.
use Rattle.std.proofs.Common.{◌≡◌, ℕ, zero, suc, ◌+◌, ◌<◌, ◌≤◌, ◌^◌, Bool, true, false, ◌&&◌, List, [], ◌∷◌, Option, Some, None, refl, ap, sym, subst, ◌∙◌, length, take, drop, arith, slice_get, if◌then◌else◌}
use Rattle.std.specs.Prelude.{◌==◌, nat_le, nat_lt, unwrap_or, ⊤}
use Rattle.std.specs.Str.{byte}
use Rattle.std.specs.Option.{option_map}
use Rattle.std.proofs.lemmas.Bool.Decides.{nat_tests}
use Rattle.std.proofs.lemmas.Option.{slice_get-map, none-some}
use Rattle.dps_terms.specs.declared.PublicName.TheVariants.{Declared, At}
use Rattle.dps_terms.specs.Tree.{Leaf, public, ax, Tree, app, trees, count}
use Rattle.dps_signature.specs.Signature.{Symbol, Name, Signature, HasArity, IsPublic, shape_of, shapes}
use Rattle.dps_signature.specs.Names.{symbol_named, name_named, tuple_name}
use Rattle.dps_terms.specs.Kinds.{AreBuiltOf}
use Rattle.dps_trace.specs.Written.{IsWrittenLeaf, IsWrittenSymbol, IsWrittenRecipe}
use Rattle.dps_trace.specs.Scanning.{Reading, Scan, start, scanned, with_byte, with_word, with_sign, closing, comma_in, opening_in, behind_word, between, is_sign, or_leaf, with_leaf, applied, symbol_read, symbol_if, leaf_read, or_mark, or_own, or_handle, public_named, public_if, is_public, own_read, handle_read, handle_of, behind_a, numeral, numeral_from, longer, has_arity, finished, only_term, read_whole, recipe_read}

-- where a choice is some value, the test is true and the value this
if_some : {A : Type 0} (c : Bool) (x : Option A) (y : A) → (if c then x else None) ≡ Some y → (c ≡ true) × (x ≡ Some y)
if_some true x y e = (refl, e)
if_some false x y e = cc

some_same : {A : Type 0} (x y : A) → Some x ≡ Some y → x ≡ y
some_same x y e = cc

digit_small : (n b k : ℕ) → longer n b ≡ Some k → k < 2 ^ 64
digit_small n b k e = grind (arith, nat_tests)

numeral_small : (n k : ℕ) (digits : List ℕ) → n < 2 ^ 64 → numeral_from (Some n) digits ≡ Some k → k < 2 ^ 64
numeral_small n k [] small e = omega (arith, some_same n k e)
numeral_small n k (b ∷ digits) small e = go (longer n b) refl (λ m f g. numeral_small m k digits (digit_small n b m f) g) e
  where
    go : (x : Option ℕ) → longer n b ≡ x → ((m : ℕ) → longer n b ≡ Some m → numeral_from (Some m) digits ≡ Some k → k < 2 ^ 64) → numeral_from x digits ≡ Some k → k < 2 ^ 64
    go None f later g = absurd (none-some k g)
    go (Some m) f later g = later m f g

module _ (S : Signature) where
  -- trees that are recipes over the signature
  abbrev pub AllOver : List Tree → Type 0
  AllOver [] = ⊤
  AllOver (t ∷ ts) = IsWrittenRecipe S t × AllOver ts

  over_taken : (n : ℕ) (ts : List Tree) → AllOver ts → AreBuiltOf (IsWrittenLeaf S) (IsWrittenSymbol S) (trees (take n ts))
  over_taken zero ts h = tt
  over_taken (suc n) [] h = tt
  over_taken (suc n) (t ∷ ts) h = (h.0, over_taken n ts h.1)

  over_dropped : (n : ℕ) (ts : List Tree) → AllOver ts → AllOver (drop n ts)
  over_dropped zero ts h = h
  over_dropped (suc n) [] h = tt
  over_dropped (suc n) (t ∷ ts) h = over_dropped n ts h.1

  count_taken : (n : ℕ) (ts : List Tree) → n ≤ length ts → count (trees (take n ts)) ≡ n
  count_taken zero ts h = refl
  count_taken (suc n) [] h = absurd (omega (arith, h))
  count_taken (suc n) (t ∷ ts) h = omega (arith, count_taken n ts (omega (arith, h)))

  arity_known : (f n : ℕ) → has_arity S f n ≡ true → HasArity (shapes S) (record { number = f }) n
  arity_known f n e = go (slice_get S.symbols f) refl e
    where
      go : (x : Option Symbol) → slice_get S.symbols f ≡ x → unwrap_or (option_map (λ (s : Symbol). s.arity == n) x) false ≡ true → HasArity (shapes S) (record { number = f }) n
      go None g q = cc
      go (Some s) g q =
          let same : s.arity ≡ n = grind (arith, nat_tests, q) in
          (s.kind, slice_get-map shape_of S.symbols f ∙ ap (option_map shape_of) g ∙ ap (λ (k : ℕ). Some (record { kind = s.kind; arity = k })) same)

  symbol_known : (n : ℕ) (x : Option ℕ) (f : ℕ) → symbol_if S n x ≡ Some f → HasArity (shapes S) (record { number = f }) n
  symbol_known n None f e = cc
  symbol_known n (Some g) f e =
      let h = if_some (has_arity S g n) (Some g) f e in
      subst (λ k. HasArity (shapes S) (record { number = k }) n) (some_same g f h.1) (arity_known g n h.0)

  symbol_over : (w : List ℕ) (n f : ℕ) → symbol_read S w n ≡ Some f → HasArity (shapes S) (record { number = f }) n
  symbol_over [] n f e = symbol_known n (symbol_named S (tuple_name n)) f (if_some (nat_le 2 n && nat_le n 8) (symbol_if S n (symbol_named S (tuple_name n))) f e).1
  symbol_over (b ∷ w) n f e = symbol_known n (symbol_named S (b ∷ w)) f e

  public_known : (n : ℕ) → is_public S n ≡ true → IsPublic S n
  public_known n e = go (slice_get S.names n) refl e
    where
      go : (x : Option Name) → slice_get S.names n ≡ x → unwrap_or (option_map (λ (a : Name). if a.is_private then false else true) x) false ≡ true → IsPublic S n
      go None g q = cc
      go (Some a) g q = (a.name, g ∙ ap (λ b. Some (record { name = a.name; is_private = b })) (public_flag a.is_private q))
        where
          public_flag : (b : Bool) → (if b then false else true) ≡ true → b ≡ false
          public_flag true q = cc
          public_flag false q = refl

  public_over : (x : Option ℕ) (n : ℕ) → public_if S x ≡ Some n → IsPublic S n
  public_over None n e = cc
  public_over (Some m) n e = let h = if_some (is_public S m) (Some m) n e in subst (IsPublic S) (some_same m n h.1) (public_known m h.0)

  pub named_over : (w : List ℕ) (n : ℕ) → public_named S w ≡ Some n → IsPublic S n
  named_over w n e = public_over (name_named S w) n e

  own_small : (w : List ℕ) (k : ℕ) → own_read w ≡ Some k → k < 2 ^ 64
  own_small [] k e = cc
  own_small (b ∷ digits) k e = numeral_small 0 k digits (omega arith) (if_some (b == byte "@") (numeral digits) k e).1

  in_range : (x : Option ℕ) (j : ℕ) → handle_of x ≡ Some j → (1 ≤ j) × (j < 2 ^ 32)
  in_range None j e = cc
  in_range (Some i) j e =
      let h = if_some (nat_le 1 i && nat_lt i (2 ^ 32)) (Some i) j e in
      let same : i ≡ j = some_same i j h.1 in
      let low : 1 ≤ i = grind (arith, nat_tests, h.0) in
      let high : i < 2 ^ 32 = grind (arith, nat_tests, h.0) in (omega (arith, same, low), omega (arith, same, high))

  pub handle_small : (w : List ℕ) (j : ℕ) → handle_read w ≡ Some j → (1 ≤ j) × (j < 2 ^ 32)
  handle_small [] j e = absurd (none-some j e)
  handle_small (a ∷ []) j e = absurd (none-some j (if_some (a == byte "a") None j e).1)
  handle_small (a ∷ x ∷ digits) j e =
      in_range (numeral digits) j (if_some (x == byte "x") (handle_of (numeral digits)) j (if_some (a == byte "a") (behind_a (x ∷ digits)) j e).1).1

  leaf_over : (w : List ℕ) (x : Leaf) → leaf_read S w ≡ Some x → IsWrittenLeaf S x
  leaf_over w x e = by_name (public_named S w) refl e
    where
      by_handle : (o : Option ℕ) → handle_read w ≡ o → or_handle o ≡ Some x → IsWrittenLeaf S x
      by_handle None f e = cc
      by_handle (Some j) f e = subst (IsWrittenLeaf S) (some_same (ax j) x e) (handle_small w j f)

      by_own : (o : Option ℕ) → own_read w ≡ o → or_own w o ≡ Some x → IsWrittenLeaf S x
      by_own None f e = by_handle (handle_read w) refl e
      by_own (Some k) f e = subst (IsWrittenLeaf S) (some_same (public (At k)) x e) (own_small w k f)

      by_name : (o : Option ℕ) → public_named S w ≡ o → or_mark w o ≡ Some x → IsWrittenLeaf S x
      by_name None f e = by_own (own_read w) refl e
      by_name (Some n) f e = subst (IsWrittenLeaf S) (some_same (public (Declared n)) x e) (named_over w n f)

  applied_over : (r next : Reading) (f : ℕ) → HasArity (shapes S) (record { number = f }) r.arity → AllOver r.terms → applied r (Some f) ≡ Some next → AllOver next.terms
  applied_over r next f there h e =
      let c = nat_le r.arity 8 && nat_le r.arity (length r.terms) in
      let made : Reading = record { brackets = r.brackets; arity = 0; terms = app (record { number = f }) (trees (take r.arity r.terms)) ∷ drop r.arity r.terms } in
      let k = if_some c (Some made) next e in
      let few : r.arity ≤ 8 = grind (arith, nat_tests, k.0) in
      let enough : r.arity ≤ length r.terms = grind (arith, nat_tests, k.0) in
      let all : AllOver made.terms =
      ((subst (IsWrittenSymbol S (record { number = f })) (sym (count_taken r.arity r.terms enough)) (there, few), over_taken r.arity r.terms h), over_dropped r.arity r.terms h) in
      subst (λ (q : Reading). AllOver q.terms) (some_same made next k.1) all

  word_over : (w : List ℕ) (r next : Reading) → AllOver r.terms → with_word S w r ≡ Some next → AllOver next.terms
  word_over w r next h e = go (symbol_read S w r.arity) (leaf_read S w) refl refl e
    where
      go : (a : Option ℕ) (x : Option Leaf) → symbol_read S w r.arity ≡ a → leaf_read S w ≡ x → or_leaf S w r a x ≡ Some next → AllOver next.terms
      go (Some f) x p q e = applied_over r next f (symbol_over w r.arity f p) h e
      go None (Some x) p q e =
          let k = if_some (r.arity == 0) (Some (with_leaf r x)) next e in
          subst (λ (q : Reading). AllOver q.terms) (some_same (with_leaf r x) next k.1) (leaf_over w x q, h)
      go None None p q e = cc

  comma_over : (r next : Reading) (ks : List ℕ) → AllOver r.terms → comma_in r ks ≡ Some next → AllOver next.terms
  comma_over r next [] h e = cc
  comma_over r next (k ∷ ks) h e =
      let q = if_some (nat_lt k 8) (Some (record { brackets = (1 + k) ∷ ks; arity = 0; terms = r.terms })) next e in
      subst (λ (q : Reading). AllOver q.terms) (some_same (record { brackets = (1 + k) ∷ ks; arity = 0; terms = r.terms }) next q.1) h

  opening_over : (r next : Reading) (ks : List ℕ) → AllOver r.terms → opening_in r ks ≡ Some next → AllOver next.terms
  opening_over r next [] h e = cc
  opening_over r next (k ∷ ks) h e = subst (λ (q : Reading). AllOver q.terms) (some_same (record { brackets = ks; arity = k; terms = r.terms }) next e) h

  sign_over : (b : ℕ) (w : List ℕ) (r next : Reading) → AllOver r.terms → with_sign S b w r ≡ Some next → AllOver next.terms
  sign_over b w r next h e = by_bracket (b == byte ")") e
    where
      by_comma : (c : Bool) (q : Reading) → AllOver q.terms → (if c then comma_in q q.brackets else opening_in q q.brackets) ≡ Some next → AllOver next.terms
      by_comma true q k e = comma_over q next q.brackets k e
      by_comma false q k e = opening_over q next q.brackets k e

      by_word : (x : Option Reading) → with_word S w r ≡ x → behind_word b x ≡ Some next → AllOver next.terms
      by_word None p e = cc
      by_word (Some q) p e = by_comma (b == byte ",") q (word_over w r q h p) e

      by_bracket : (c : Bool) → (if c then Some (closing r) else behind_word b (with_word S w r)) ≡ Some next → AllOver next.terms
      by_bracket true e = subst (λ (q : Reading). AllOver q.terms) (some_same (closing r) next e) h
      by_bracket false e = by_word (with_word S w r) refl e

  -- what was scanned holds recipes over the signature
  abbrev pub IsOverScan : Option Scan → Type 0
  IsOverScan None = ⊤
  IsOverScan (Some scan) = AllOver scan.reading.terms

  byte_over : (b : ℕ) (x : Option Scan) → IsOverScan x → IsOverScan (with_byte S b x)
  byte_over b None h = tt
  byte_over b (Some scan) h = by_sign (is_sign b)
    where
      by_next : (x : Option Reading) → with_sign S b scan.word scan.reading ≡ x → IsOverScan (between x)
      by_next None p = tt
      by_next (Some next) p = sign_over b scan.word scan.reading next h p

      by_sign : (c : Bool) → IsOverScan (if c then between (with_sign S b scan.word scan.reading) else Some (record { word = b ∷ scan.word; reading = scan.reading }))
      by_sign true = by_next (with_sign S b scan.word scan.reading) refl
      by_sign false = h

  scan_over : (bytes : List ℕ) (x : Option Scan) → IsOverScan x → IsOverScan (scanned S bytes x)
  scan_over [] x h = h
  scan_over (b ∷ bytes) x h = byte_over b (scanned S bytes x) (scan_over bytes x h)

  only_over : (ks : List ℕ) (ts : List Tree) (t : Tree) → AllOver ts → only_term ks ts ≡ Some t → IsWrittenRecipe S t
  only_over [] (u ∷ []) t h e = subst (IsWrittenRecipe S) (some_same u t e) h.0
  only_over [] [] t h e = cc
  only_over [] (u ∷ v ∷ us) t h e = cc
  only_over (k ∷ ks) ts t h e = cc

  pub recipe_over : (text : List ℕ) (t : Tree) → recipe_read S text ≡ Some t → IsWrittenRecipe S t
  recipe_over text t e = by_scan (scanned S text (Some (record { word = []; reading = start }))) (scan_over text (Some (record { word = []; reading = start })) tt) e
    where
      by_end : (w : List ℕ) (r : Reading) (x : Option Reading) → AllOver r.terms → with_word S w r ≡ x → finished x ≡ Some t → IsWrittenRecipe S t
      by_end w r None h p e = cc
      by_end w r (Some next) h p e = only_over next.brackets next.terms t (word_over w r next h p) e

      by_scan : (x : Option Scan) → IsOverScan x → read_whole S x ≡ Some t → IsWrittenRecipe S t
      by_scan None h e = cc
      by_scan (Some scan) h e = by_end scan.word scan.reading (with_word S scan.word scan.reading) h refl e
