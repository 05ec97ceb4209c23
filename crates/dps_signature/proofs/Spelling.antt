-- The texts of a signature, as symbols and names are added and taken away.
use Rattle.std.proofs.Common.{◌≡◌, ℕ, zero, suc, ◌+◌, ◌<◌, ◌≤◌, Bool, true, false, cond, List, [], ◌∷◌, ◌++◌, length, take, slice_get, Some, None, refl, ap, sym, subst, ◌∙◌, arith, inl, inr, true≢false}
use Rattle.std.specs.Prelude.{◌⊎◌}
use Rattle.std.specs.List.{position, position_from}
use Rattle.std.specs.Str.{bytes_eq}
use Rattle.std.proofs.lemmas.Option.{none-some}
use Rattle.std.proofs.lemmas.Iterator.Adapters.{position_from-zero}
use Rattle.std.proofs.lemmas.Slice.Eq.{bytes_eq-Decides}
use Rattle.dps_signature.specs.Signature.{Symbol, Name, Signature}
use Rattle.dps_signature.specs.Names.{IsIdentifier, IsSymbolText, symbol_named, name_named, with_symbol, with_name}
use Rattle.dps_signature.specs.Spelled.{IsSpelled}

module _ {X : Type 0} (p : X → Bool) where
  from_start : (xs : List X) → position p xs ≡ position_from p 0 xs
  from_start xs = position_from-zero p xs

  -- where no element passes, one more at the end may
  last_from : (n : ℕ) (xs : List X) (x : X) → position_from p n xs ≡ None → position_from p n (xs ++ x ∷ []) ≡ cond (p x) (Some (n + length xs)) None
  last_from n [] x e = let same : n ≡ n + 0 = omega arith in ap (λ k. cond (p x) (Some k) None) same
  last_from n (y ∷ ys) x e = go (p y) (last_from (n + 1) ys x) e
    where
      go : (b : Bool) → (position_from p (n + 1) ys ≡ None → position_from p (n + 1) (ys ++ x ∷ []) ≡ cond (p x) (Some ((n + 1) + length ys)) None)
          → cond b (Some n) (position_from p (n + 1) ys) ≡ None → cond b (Some n) (position_from p (n + 1) (ys ++ x ∷ [])) ≡ cond (p x) (Some (n + length (y ∷ ys))) None
      go true later d = absurd (none-some n (sym d))
      go false later d =
          let same : (n + 1) + length ys ≡ n + length (y ∷ ys) = omega arith in
          later d ∙ ap (λ k. cond (p x) (Some k) None) same

  kept_from : (n i : ℕ) (xs : List X) (x : X) → position_from p n xs ≡ Some i → position_from p n (xs ++ x ∷ []) ≡ Some i
  kept_from n i [] x e = absurd (none-some i e)
  kept_from n i (y ∷ ys) x e = go (p y) (kept_from (n + 1) i ys x) e
    where
      go : (b : Bool) → (position_from p (n + 1) ys ≡ Some i → position_from p (n + 1) (ys ++ x ∷ []) ≡ Some i)
          → cond b (Some n) (position_from p (n + 1) ys) ≡ Some i → cond b (Some n) (position_from p (n + 1) (ys ++ x ∷ [])) ≡ Some i
      go true later d = d
      go false later d = later d

  -- an element of a list of which none passes
  passed_from : (n : ℕ) (xs : List X) (i : ℕ) (x : X) → position_from p n xs ≡ None → slice_get xs i ≡ Some x → p x ≡ false
  passed_from n [] i x e g = absurd (none-some x g)
  passed_from n (y ∷ ys) i x e g = go (p y) refl e i g (λ k. passed_from (n + 1) ys k x)
    where
      go : (b : Bool) → p y ≡ b → cond b (Some n) (position_from p (n + 1) ys) ≡ None → (i : ℕ) → slice_get (y ∷ ys) i ≡ Some x
          → ((k : ℕ) → position_from p (n + 1) ys ≡ None → slice_get ys k ≡ Some x → p x ≡ false) → p x ≡ false
      go true h d i g later = absurd (none-some n (sym d))
      go false h d zero g later = let m : y ≡ x = cc in ap p (sym m) ∙ h
      go false h d (suc k) g later = later k d g

  later_from : (n i : ℕ) (xs : List X) → position_from p n xs ≡ Some i → n ≤ i
  later_from n i [] e = absurd (none-some i e)
  later_from n i (y ∷ ys) e = go (p y) (later_from (n + 1) i ys) e
    where
      go : (b : Bool) → (position_from p (n + 1) ys ≡ Some i → n + 1 ≤ i) → cond b (Some n) (position_from p (n + 1) ys) ≡ Some i → n ≤ i
      go true later d = let m : n ≡ i = cc in omega (arith, m)
      go false later d = omega (arith, later d)

  cut_from : (n c : ℕ) (xs : List X) → position_from p n xs ≡ None → position_from p n (take c xs) ≡ None
  cut_from n zero xs e = refl
  cut_from n (suc c) [] e = refl
  cut_from n (suc c) (y ∷ ys) e = go (p y) (cut_from (n + 1) c ys) e
    where
      go : (b : Bool) → (position_from p (n + 1) ys ≡ None → position_from p (n + 1) (take c ys) ≡ None)
          → cond b (Some n) (position_from p (n + 1) ys) ≡ None → cond b (Some n) (position_from p (n + 1) (take c ys)) ≡ None
      go true later d = d
      go false later d = later d

  in_front : (n c i : ℕ) (xs : List X) → i < n + c → position_from p n xs ≡ Some i → position_from p n (take c xs) ≡ Some i
  in_front n zero i xs h e = let l = later_from n i xs e in absurd (omega (arith, h, l))
  in_front n (suc c) i [] h e = absurd (none-some i e)
  in_front n (suc c) i (y ∷ ys) h e = go (p y) (in_front (n + 1) c i ys (omega (arith, h))) e
    where
      go : (b : Bool) → (position_from p (n + 1) ys ≡ Some i → position_from p (n + 1) (take c ys) ≡ Some i)
          → cond b (Some n) (position_from p (n + 1) ys) ≡ Some i → cond b (Some n) (position_from p (n + 1) (take c ys)) ≡ Some i
      go true later d = d
      go false later d = later d

-- an element of a longer list
at_end : {X : Type 0} (xs : List X) (x y : X) (i : ℕ) → slice_get (xs ++ x ∷ []) i ≡ Some y → (slice_get xs i ≡ Some y) ⊎ ((i ≡ length xs) × (x ≡ y))
at_end [] x y zero e = let m : x ≡ y = cc in inr (refl, m)
at_end [] x y (suc i) e = absurd (none-some y e)
at_end (z ∷ xs) x y zero e = inl e
at_end (z ∷ xs) x y (suc i) e = elim (at_end xs x y i e) [ inl k ↦ inl k | inr k ↦ inr (ap suc k.0, k.1) ]

-- and of a shorter one
at_cut : {X : Type 0} (c : ℕ) (xs : List X) (x : X) (i : ℕ) → slice_get (take c xs) i ≡ Some x → (i < c) × (slice_get xs i ≡ Some x)
at_cut zero xs x i e = absurd (none-some x e)
at_cut (suc c) [] x i e = absurd (none-some x e)
at_cut (suc c) (y ∷ ys) x zero e = (omega arith, e)
at_cut (suc c) (y ∷ ys) x (suc i) e = let k = at_cut c ys x i e in (omega (arith, k.0), k.1)

same_bytes : (bs : List ℕ) → bytes_eq bs bs ≡ true
same_bytes bs = (bytes_eq-Decides bs bs).1 refl

turned : (cs bs : List ℕ) → bytes_eq cs bs ≡ false → bytes_eq bs cs ≡ false
turned cs bs h = go (bytes_eq bs cs) refl
  where
    go : (b : Bool) → bytes_eq bs cs ≡ b → b ≡ false
    go true e = absurd (true≢false (sym ((bytes_eq-Decides cs bs).1 (sym ((bytes_eq-Decides bs cs).0 e))) ∙ h))
    go false e = refl

-- what is found at the end, and what is found nowhere
ended : {X : Type 0} (p : X → Bool) (xs : List X) (x : X) (b : Bool) → position p xs ≡ None → p x ≡ b → position p (xs ++ x ∷ []) ≡ cond b (Some (length xs)) None
ended p xs x b e h =
    let same : 0 + length xs ≡ length xs = omega arith in
    from_start p (xs ++ x ∷ [])
    ∙ (last_from p 0 xs x (sym (from_start p xs) ∙ e)
    ∙ λ i. cond (h i) (Some (same i)) None)

found_last : {X : Type 0} (name : X → List ℕ) (xs : List X) (x : X) → position (λ y. bytes_eq (name x) (name y)) xs ≡ None → position (λ y. bytes_eq (name x) (name y)) (xs ++ x ∷ []) ≡ Some (length xs)
found_last name xs x e = ended (λ y. bytes_eq (name x) (name y)) xs x true e (same_bytes (name x))

still_found : {X : Type 0} (p : X → Bool) (xs : List X) (x : X) (i : ℕ) → position p xs ≡ Some i → position p (xs ++ x ∷ []) ≡ Some i
still_found p xs x i e = from_start p (xs ++ x ∷ []) ∙ kept_from p 0 i xs x (sym (from_start p xs) ∙ e)

still_none : {X : Type 0} (p : X → Bool) (xs : List X) (x : X) → position p xs ≡ None → p x ≡ false → position p (xs ++ x ∷ []) ≡ None
still_none p xs x e h = ended p xs x false e h

pub none_spelled : (S : Signature) → S.symbols ≡ [] → S.names ≡ [] → IsSpelled S
none_spelled S e f =
    record {
      symbol_texts = λ i s g. absurd (none-some s (rw e at g));
      name_texts = λ i n g. absurd (none-some n (rw f at g));
      symbols_found = λ i s g. absurd (none-some s (rw e at g));
      names_found = λ i n g. absurd (none-some n (rw f at g));
      apart = λ i n g. absurd (none-some n (rw f at g));
    }

pub symbol_added : (S : Signature) (s : Symbol) → IsSpelled S → IsSymbolText s.name s.kind s.arity → symbol_named S s.name ≡ None → name_named S s.name ≡ None → IsSpelled (with_symbol S s)
symbol_added S s k text fresh no_name =
    record {
      symbol_texts = λ i t e. elim (at_end S.symbols s t i e) [ inl d ↦ k.symbol_texts i t d | inr d ↦ subst (λ u. IsSymbolText u.name u.kind u.arity) d.1 text ];
      name_texts = k.name_texts;
      symbols_found = λ i t e. elim (at_end S.symbols s t i e) [
        | inl d ↦ still_found (λ u. bytes_eq t.name u.name) S.symbols s i (k.symbols_found i t d)
        | inr d ↦ subst (λ u. symbol_named (with_symbol S s) u.name ≡ Some i) d.1 (found_last (λ (u : Symbol). u.name) S.symbols s fresh ∙ ap Some (sym d.0))
      ];
      names_found = k.names_found;
      apart = λ i n e.
          let q = λ (m : Name). bytes_eq s.name m.name in
          still_none (λ u. bytes_eq n.name u.name) S.symbols s (k.apart i n e) (turned s.name n.name (passed_from q 0 S.names i n (sym (from_start q S.names) ∙ no_name) e));
    }

pub name_added : (S : Signature) (n : Name) → IsSpelled S → IsIdentifier n.name → symbol_named S n.name ≡ None → name_named S n.name ≡ None → IsSpelled (with_name S n)
name_added S n k text no_symbol fresh =
    record {
      symbol_texts = k.symbol_texts;
      name_texts = λ i m e. elim (at_end S.names n m i e) [ inl d ↦ k.name_texts i m d | inr d ↦ subst (λ u. IsIdentifier u.name) d.1 text ];
      symbols_found = k.symbols_found;
      names_found = λ i m e. elim (at_end S.names n m i e) [
        | inl d ↦ still_found (λ u. bytes_eq m.name u.name) S.names n i (k.names_found i m d)
        | inr d ↦ subst (λ u. name_named (with_name S n) u.name ≡ Some i) d.1 (found_last (λ (u : Name). u.name) S.names n fresh ∙ ap Some (sym d.0))
      ];
      apart = λ i m e. elim (at_end S.names n m i e) [ inl d ↦ k.apart i m d | inr d ↦ subst (λ u. symbol_named S u.name ≡ None) d.1 no_symbol ];
    }

pub symbols_cut : (S : Signature) (c : ℕ) → IsSpelled S → IsSpelled (record { symbols = take c S.symbols; names = S.names })
symbols_cut S c k =
    record {
      symbol_texts = λ i t e. k.symbol_texts i t (at_cut c S.symbols t i e).1;
      name_texts = k.name_texts;
      symbols_found = λ i t e.
          let p = λ (u : Symbol). bytes_eq t.name u.name in
          let d = at_cut c S.symbols t i e in
          from_start p (take c S.symbols) ∙ in_front p 0 c i S.symbols (omega (arith, d.0)) (sym (from_start p S.symbols) ∙ k.symbols_found i t d.1);
      names_found = k.names_found;
      apart = λ i n e.
          let p = λ (u : Symbol). bytes_eq n.name u.name in
          from_start p (take c S.symbols) ∙ cut_from p 0 c S.symbols (sym (from_start p S.symbols) ∙ k.apart i n e);
    }
