-- Signatures that grow: what is declared stays, and the symbols of tuples stand together.
use Rattle.std.proofs.Common.{◌≡◌, ◌≤◌, ◌<◌, ◌⊎◌, ℕ, zero, suc, ◌+◌, ◌-◌, Bool, true, false, cond, not, nat_lt, List, [], ◌∷◌, ◌++◌, Option, Some, None, refl, sym, ap}
use Rattle.std.proofs.Common.{◌∙◌, subst, inl, inr, length, get_or, map, arith, append_assoc, append-nil, unwrap_or, option_map, bytes_eq, position}
use Rattle.std.specs.Prelude.{slice_get}
use Rattle.std.specs.List.{position_or_len}
use Rattle.std.specs.Str.{byte}
use Rattle.std.proofs.lemmas.Bool.{cases_Bool, cases_lt, lt-ltb, le-ltb}
use Rattle.std.proofs.lemmas.List.{map-append}
use Rattle.std.proofs.lemmas.List.Quantifiers.{position-Some}
use Rattle.std.proofs.lemmas.Option.{none-some, same_Some, slice_get-map, slice_get-get_or}
use Rattle.std.proofs.lemmas.Slice.Eq.{bytes_eq-Decides}
use Rattle.dps_terms.specs.declared.Sym.{Sym}
use Rattle.dps_signature.specs.declared.SymKind.{SymKind}
use Rattle.dps_signature.specs.declared.SymKind.TheVariants.{Constructor, Destructor}
use Rattle.dps_terms.specs.declared.PublicName.TheVariants.{Declared, At}
use Rattle.dps_terms.specs.Tree.{Leaf, public, private, var, ax, entry, rigid, Tree, Trees, leaf, app, none, more, count}
use Rattle.dps_signature.specs.Signature.{Symbol, Name, Signature, HasShape, HasArity, IsNameThere, shape_of, shapes}
use Rattle.dps_signature.specs.Names.{tuple_name, projection_name, symbol_named, name_named, with_symbol, with_name}
use Rattle.dps_terms.specs.Kinds.{IsBuiltOf, AreBuiltOf}
use Rattle.dps_signature.specs.Kinds.{IsOver, IsLeafOver}
use Rattle.dps_theory.specs.Projections.{HasProjections}
use Rattle.dps_scopes.specs.Scopes.{is_reserved, projections_from, tuple_symbols, tuple_at, with_tuple}
use Rattle.dps_scopes.proofs.FirstPlaces.{or_behind, position-cons, position-append, position_kept, position_behind, position_one}
use Rattle.dps_scopes.proofs.TupleTexts.{different, same, one_length, one_projection, no_tuple, free_of_tuples, free_of_projections, projection_symbol, projection_at, projection_found, symbol_missing}

slice_get-front : {X : Type 0} (xs ys : List X) (k : ℕ) (x : X) → slice_get xs k ≡ Some x → slice_get (xs ++ ys) k ≡ Some x
slice_get-front [] ys k x e = absurd (none-some x e)
slice_get-front (y ∷ xs) ys zero x e = e
slice_get-front (y ∷ xs) ys (suc k) x e = slice_get-front xs ys k x e

slice_get-behind : {X : Type 0} (xs ys : List X) (k : ℕ) → slice_get (xs ++ ys) (length xs + k) ≡ slice_get ys k
slice_get-behind [] ys k = let e : 0 + k ≡ k = omega arith in ap (slice_get ys) e
slice_get-behind (x ∷ xs) ys k = let e : suc (length xs) + k ≡ suc (length xs + k) = omega arith in ap (slice_get (x ∷ (xs ++ ys))) e ∙ slice_get-behind xs ys k

-- signatures that grow

-- the symbols and the names of the first come first in the second
pub record Grows (signature after : Signature) : Type 0 where
  pub more_symbols : List Symbol
  pub symbols : after.symbols ≡ signature.symbols ++ more_symbols
  pub more_names : List Name
  pub names : after.names ≡ signature.names ++ more_names

pub grows_refl : (s : Signature) → Grows s s
grows_refl s = record { more_symbols = []; symbols = sym (append-nil s.symbols); more_names = []; names = sym (append-nil s.names) }

pub grows_trans : (s t u : Signature) → Grows s t → Grows t u → Grows s u
grows_trans s t u g h = record {
  more_symbols = g.more_symbols ++ h.more_symbols;
  symbols = h.symbols ∙ (ap (λ xs. xs ++ h.more_symbols) g.symbols ∙ append_assoc s.symbols g.more_symbols h.more_symbols);
  more_names = g.more_names ++ h.more_names;
  names = h.names ∙ (ap (λ xs. xs ++ h.more_names) g.names ∙ append_assoc s.names g.more_names h.more_names);
}

pub grows_symbol : (s : Signature) (x : Symbol) → Grows s (with_symbol s x)
grows_symbol s x = record { more_symbols = x ∷ []; symbols = refl; more_names = []; names = sym (append-nil s.names) }

pub grows_name : (s : Signature) (x : Name) → Grows s (with_name s x)
grows_name s x = record { more_symbols = []; symbols = sym (append-nil s.symbols); more_names = x ∷ []; names = refl }

grows_at : (s : Signature) (n : ℕ) (o : Option ℕ) → Grows s (tuple_at s n o).signature
grows_at s n (Some f) = grows_refl s
grows_at s n None = record { more_symbols = tuple_symbols n; symbols = refl; more_names = []; names = sym (append-nil s.names) }

pub grows_tuple : (s : Signature) (n : ℕ) → Grows s (with_tuple s n).signature
grows_tuple s n = grows_at s n (symbol_named s (tuple_name n))

module _ (s a : Signature) (g : Grows s a) where
  pub kept_symbol : (k : ℕ) (x : Symbol) → slice_get s.symbols k ≡ Some x → slice_get a.symbols k ≡ Some x
  kept_symbol k x e = ap (λ xs. slice_get xs k) g.symbols ∙ slice_get-front s.symbols g.more_symbols k x e

  pub kept_name : (k : ℕ) (x : Name) → slice_get s.names k ≡ Some x → slice_get a.names k ≡ Some x
  kept_name k x e = ap (λ xs. slice_get xs k) g.names ∙ slice_get-front s.names g.more_names k x e

  pub kept_named : (text : List ℕ) (f : ℕ) → symbol_named s text ≡ Some f → symbol_named a text ≡ Some f
  kept_named text f e = ap (position (λ x. bytes_eq text x.name)) g.symbols ∙ position_kept (λ x. bytes_eq text x.name) s.symbols g.more_symbols f e

  pub kept_shape : (kind : SymKind) (f : Sym) (n : ℕ) → HasShape (shapes s) kind f n → HasShape (shapes a) kind f n
  kept_shape kind f n e =
      let split : shapes a ≡ shapes s ++ map shape_of g.more_symbols = ap (map shape_of) g.symbols ∙ map-append shape_of s.symbols g.more_symbols in
      ap (λ xs. slice_get xs f.number) split ∙ slice_get-front (shapes s) (map shape_of g.more_symbols) f.number _ e

  pub kept_arity : (f : Sym) (n : ℕ) → HasArity (shapes s) f n → HasArity (shapes a) f n
  kept_arity f n h = (h.0, kept_shape h.0 f n h.1)

  pub kept_there : (is_private : Bool) (n : ℕ) → IsNameThere s is_private n → IsNameThere a is_private n
  kept_there is_private n h = (h.0, kept_name n _ h.1)

-- each leaf and each symbol may stand for more
module _ (L M : Leaf → Type 0) (S R : Sym → ℕ → Type 0) (leaves : (x : Leaf) → L x → M x) (symbols : (f : Sym) (n : ℕ) → S f n → R f n) where
  mutual
    pub built_wider : (t : Tree) → IsBuiltOf L S t → IsBuiltOf M R t
    built_wider (leaf x) h = leaves x h
    built_wider (app f ts) h = (symbols f (count ts) h.0, all_built_wider ts h.1)

    pub all_built_wider : (ts : Trees) → AreBuiltOf L S ts → AreBuiltOf M R ts
    all_built_wider none h = tt
    all_built_wider (more t ts) h = (built_wider t h.0, all_built_wider ts h.1)

kept_leaf : (s a : Signature) → Grows s a → (x : Leaf) → IsLeafOver s x → IsLeafOver a x
kept_leaf s a g (public (Declared n)) h = kept_there s a g false n h
kept_leaf s a g (public (At k)) h = tt
kept_leaf s a g (private n) h = tt
kept_leaf s a g (var n) h = tt
kept_leaf s a g (ax n) h = tt
kept_leaf s a g (entry n) h = tt
kept_leaf s a g (rigid n) h = tt

pub kept_over : (s a : Signature) → Grows s a → (t : Tree) → IsOver s t → IsOver a t
kept_over s a g t h = built_wider (IsLeafOver s) (IsLeafOver a) (HasArity (shapes s)) (HasArity (shapes a)) (kept_leaf s a g) (kept_arity s a g) t h

-- tuples and their projections

-- the symbol of the tuples of length n is a constructor of that arity, and its projections stand behind it
pub record HasTuple (signature : Signature) (n : ℕ) : Type 0 where
  pub tuple : (s : ℕ) → symbol_named signature (tuple_name n) ≡ Some s → HasShape (shapes signature) Constructor (record { number = s }) n
  pub projections :
      (s i : ℕ) → symbol_named signature (tuple_name n) ≡ Some s → 1 ≤ i → i ≤ n → HasShape (shapes signature) Destructor (record { number = s + i }) 1
  pub named : (s i : ℕ) → symbol_named signature (tuple_name n) ≡ Some s → 1 ≤ i → i ≤ n → symbol_named signature (projection_name i n) ≡ Some (s + i)
  pub unnamed : (i : ℕ) → symbol_named signature (tuple_name n) ≡ None → 1 ≤ i → i ≤ n → symbol_named signature (projection_name i n) ≡ None

pub record HasTuples (signature : Signature) : Type 0 where
  pub of_length : (n : ℕ) → HasTuple signature n

pub tuples_none : (s : Signature) → s.symbols ≡ [] → HasTuples s
tuples_none s none_there = record {
  of_length = λ n. record {
    tuple = λ k e. absurd (none-some k (sym (nothing (tuple_name n)) ∙ e));
    projections = λ k i e low high. absurd (none-some k (sym (nothing (tuple_name n)) ∙ e));
    named = λ k i e low high. absurd (none-some k (sym (nothing (tuple_name n)) ∙ e));
    unnamed = λ i e low high. nothing (projection_name i n);
  };
}
  where
    nothing : (text : List ℕ) → symbol_named s text ≡ None
    nothing text = ap (position (λ x. bytes_eq text x.name)) none_there

-- where more symbols have no text of the tuples of this length, these stay
module _ (s a : Signature) (g : Grows s a) (n : ℕ) (h : HasTuple s n) where
  pub tuple_stays : position (λ x. bytes_eq (tuple_name n) x.name) g.more_symbols ≡ None → ((i : ℕ) → position (λ x. bytes_eq (projection_name i n) x.name) g.more_symbols ≡ None) → HasTuple a n
  tuple_stays e f = record {
    tuple = λ k d. kept_shape s a g Constructor (record { number = k }) n (h.tuple k (back (tuple_name n) e k d));
    projections = λ k i d low high. kept_shape s a g Destructor (record { number = k + i }) 1 (h.projections k i (back (tuple_name n) e k d) low high);
    named = λ k i d low high. kept_named s a g (projection_name i n) (k + i) (h.named k i (back (tuple_name n) e k d) low high);
    unnamed = λ i d low high. on (projection_name i n) (f i) ∙ h.unnamed i (sym (on (tuple_name n) e) ∙ d) low high;
  }
    where
      front : (o : Option ℕ) (m : ℕ) → or_behind o m None ≡ o
      front (Some k) m = refl
      front None m = refl

      on : (text : List ℕ) → position (λ x. bytes_eq text x.name) g.more_symbols ≡ None → symbol_named a text ≡ symbol_named s text
      on text e =
          ap (position (λ x. bytes_eq text x.name)) g.symbols
          ∙ (position-append (λ x. bytes_eq text x.name) s.symbols g.more_symbols
          ∙ (ap (λ o. or_behind (symbol_named s text) (length s.symbols) o) e
          ∙ front (symbol_named s text) (length s.symbols)))

      back : (text : List ℕ) → position (λ x. bytes_eq text x.name) g.more_symbols ≡ None → (k : ℕ) → symbol_named a text ≡ Some k → symbol_named s text ≡ Some k
      back text e k d = sym (on text e) ∙ d

pub tuples_symbol : (s : Signature) (x : Symbol) → is_reserved x.name ≡ false → HasTuples s → HasTuples (with_symbol s x)
unfolding grows_symbol
tuples_symbol s x free h = record {
  of_length = λ n.
      tuple_stays s (with_symbol s x) (grows_symbol s x) n (h.of_length n)
      (position_one (λ y. bytes_eq (tuple_name n) y.name) x (free_of_tuples x.name n free))
      (λ i. position_one (λ y. bytes_eq (projection_name i n) y.name) x (free_of_projections x.name i n free));
}

pub tuples_name : (s : Signature) (x : Name) → HasTuples s → HasTuples (with_name s x)
unfolding grows_name
tuples_name s x h = record { of_length = λ n. tuple_stays s (with_name s x) (grows_name s x) n (h.of_length n) refl (λ i. refl) }

pub shape_at : (s : Signature) (k : ℕ) (x : Symbol) → slice_get s.symbols k ≡ Some x → HasShape (shapes s) x.kind (record { number = k }) x.arity
shape_at s k x e = slice_get-map shape_of s.symbols k ∙ ap (option_map shape_of) e

module _ (s : Signature) (n : ℕ) (new : symbol_named s (tuple_name n) ≡ None) where
  abbrev after : Signature
  after = (tuple_at s n None).signature

  found_here : symbol_named after (tuple_name n) ≡ Some (length s.symbols + 0)
  found_here =
      position_behind (λ x. bytes_eq (tuple_name n) x.name) s.symbols (tuple_symbols n) 0 new
      (position-cons (λ (x : Symbol). bytes_eq (tuple_name n) x.name) (record { name = tuple_name n; kind = Constructor; arity = n }) (projections_from n 1 n)
      ∙ ap (λ b. cond b (Some 0) (option_map suc (position (λ (x : Symbol). bytes_eq (tuple_name n) x.name) (projections_from n 1 n)))) (same (tuple_name n)))

  place : (k : ℕ) → symbol_named after (tuple_name n) ≡ Some k → k ≡ length s.symbols + 0
  place k d = same_Some k (length s.symbols + 0) (sym d ∙ found_here)

  projection_symbol_at : (i : ℕ) → 1 ≤ i → i ≤ n → slice_get (tuple_symbols n) i ≡ Some (projection_symbol n (1 + (i - 1)))
  projection_symbol_at i low high =
      let e : i ≡ suc (i - 1) = omega arith in
      ap (slice_get (tuple_symbols n)) e ∙ projection_at n 1 n (i - 1) (omega arith)

  projection_place : (i : ℕ) → 1 ≤ i → i ≤ n → position (λ (x : Symbol). bytes_eq (projection_name i n) x.name) (tuple_symbols n) ≡ Some i
  projection_place i low high =
      let e : suc (i - 1) ≡ i = omega arith in
      position-cons (λ (x : Symbol). bytes_eq (projection_name i n) x.name) (record { name = tuple_name n; kind = Constructor; arity = n }) (projections_from n 1 n)
      ∙ (ap (λ b. cond b (Some 0) (option_map suc (position (λ (x : Symbol). bytes_eq (projection_name i n) x.name) (projections_from n 1 n))))
      (different (projection_name i n) (tuple_name n) (λ d. no_tuple n i n (sym d)))
      ∙ (ap (option_map suc) (projection_found n i 1 n (i - 1) (omega arith) (omega arith)) ∙ ap (λ k. Some k) e))

  tuple_comes : HasTuple s n → HasTuple after n
  tuple_comes h = record {
    tuple = λ k d. shape_at after k (record { name = tuple_name n; kind = Constructor; arity = n }) (ap (slice_get after.symbols) (place k d) ∙ slice_get-behind s.symbols (tuple_symbols n) 0);
    projections = λ k i d low high.
        let p = place k d in
        let e : k + i ≡ length s.symbols + i = omega (arith, p) in
        shape_at after (k + i) (projection_symbol n (1 + (i - 1))) (ap (slice_get after.symbols) e ∙ (slice_get-behind s.symbols (tuple_symbols n) i ∙ projection_symbol_at i low high));
    named = λ k i d low high.
        let p = place k d in
        let e : length s.symbols + i ≡ k + i = omega (arith, p) in
        position_behind (λ x. bytes_eq (projection_name i n) x.name) s.symbols (tuple_symbols n) i (h.unnamed i new low high) (projection_place i low high) ∙ ap (λ j. Some j) e;
    unnamed = λ i d low high. absurd (none-some (length s.symbols + 0) (sym d ∙ found_here));
  }

tuples_at : (s : Signature) (n : ℕ) (o : Option ℕ) → symbol_named s (tuple_name n) ≡ o → HasTuples s → HasTuples (tuple_at s n o).signature
unfolding grows_at
tuples_at s n (Some f) e h = h
tuples_at s n None e h = record { of_length = λ m. each m (cases_lt m n) (cases_lt n m) }
  where
    apart : (m : ℕ) → ¬ (m ≡ n) → HasTuple (tuple_at s n None).signature m
    apart m other =
        tuple_stays s (tuple_at s n None).signature (grows_at s n None) m (h.of_length m)
        (symbol_missing (tuple_name m) n (λ d. other (one_length m n d)) (λ i d. no_tuple m i n d))
        (λ i. symbol_missing (projection_name i m) n (λ d. no_tuple n i m (sym d)) (λ j d. other (one_projection i m j n d).1))

    each : (m : ℕ) → (m < n) ⊎ (n ≤ m) → (n < m) ⊎ (m ≤ n) → HasTuple (tuple_at s n None).signature m
    each m (inl l) r = apart m (λ d. omega (arith, d, l))
    each m (inr l) (inl r) = apart m (λ d. omega (arith, d, r))
    each m (inr l) (inr r) = let d : n ≡ m = omega arith in subst (λ k. HasTuple (tuple_at s n None).signature k) d (tuple_comes s n e (h.of_length n))

-- with the symbols of a length, each length still has its symbols together
pub tuples_tuple : (s : Signature) (n : ℕ) → HasTuples s → HasTuples (with_tuple s n).signature
tuples_tuple s n h = tuples_at s n (symbol_named s (tuple_name n)) refl h

found_at : (s : Signature) (n : ℕ) (o : Option ℕ) → symbol_named s (tuple_name n) ≡ o → symbol_named (tuple_at s n o).signature (tuple_name n) ≡ Some (tuple_at s n o).symbol
found_at s n (Some f) e = e
found_at s n None e = found_here s n e ∙ (let z : length s.symbols + 0 ≡ length s.symbols = omega arith in ap (λ j. Some j) z)

-- the symbol of the tuples is found
pub tuple_found : (s : Signature) (n : ℕ) → symbol_named (with_tuple s n).signature (tuple_name n) ≡ Some (with_tuple s n).symbol
tuple_found s n = found_at s n (symbol_named s (tuple_name n)) refl

-- it takes n arguments, and each projection behind it one
pub tuple_arity : (s : Signature) (n : ℕ) → HasTuples s → HasArity (shapes (with_tuple s n).signature) (record { number = (with_tuple s n).symbol }) n
tuple_arity s n h = (Constructor, ((tuples_tuple s n h).of_length n).tuple (with_tuple s n).symbol (tuple_found s n))

pub projection_arity : (s : Signature) (n i : ℕ) → HasTuples s → 1 ≤ i → i ≤ n → HasArity (shapes (with_tuple s n).signature) (record { number = (with_tuple s n).symbol + i }) 1
projection_arity s n i h low high = (Destructor, ((tuples_tuple s n h).of_length n).projections (with_tuple s n).symbol i (tuple_found s n) low high)

pub has_projections : (s : Signature) → HasTuples s → HasProjections s
has_projections s h = record {
  tuples = λ n f low high e. (h.of_length n).tuple f e;
  destructors = λ n f i low high e some few. (f + i, (h.of_length n).named f i e some few, (h.of_length n).projections f i e some few);
}

-- what is found is declared

found_first : {X : Type 0} (p : X → Bool) (xs : List X) (i : ℕ) → position p xs ≡ Some i → (x : X) × (slice_get xs i ≡ Some x) × (p x ≡ true)
found_first p [] i e = absurd (none-some i e)
found_first p (y ∷ xs) i e =
    let h = position-Some p (y ∷ xs) i y e in
    (get_or (y ∷ xs) i y, slice_get-get_or (y ∷ xs) i y h.0, h.1)

-- a symbol that is found has the text, and the arity with which it is looked up
pub symbol_found : (s : Signature) (text : List ℕ) (f : ℕ) → symbol_named s text ≡ Some f → (x : Symbol) × (slice_get s.symbols f ≡ Some x) × (text ≡ x.name)
symbol_found s text f e =
    let h = found_first (λ (x : Symbol). bytes_eq text x.name) s.symbols f e in
    (h.0, h.1, (bytes_eq-Decides text h.0.name).0 h.2)

pub function_arity :
    (s : Signature) (text : List ℕ) (f : ℕ) → symbol_named s text ≡ Some f
    → HasArity (shapes s) (record { number = f }) (unwrap_or (option_map (λ x. x.arity) (slice_get s.symbols f)) 0)
function_arity s text f e =
    let h = symbol_found s text f e in
    (h.0.kind, subst (λ o. HasShape (shapes s) h.0.kind (record { number = f }) (unwrap_or (option_map (λ (x : Symbol). x.arity) o) 0)) (sym h.1) (shape_at s f h.0 h.1))

pub name_there : (s : Signature) (text : List ℕ) (n : ℕ) → name_named s text ≡ Some n → IsNameThere s (unwrap_or (option_map (λ x. x.is_private) (slice_get s.names n)) false) n
name_there s text n e =
    let h = found_first (λ (x : Name). bytes_eq text x.name) s.names n e in
    (h.0.name, subst (λ o. slice_get s.names n ≡ Some (let x : Name = record { name = h.0.name; is_private = unwrap_or (option_map (λ (x : Name). x.is_private) o) false } in x)) (sym h.1) h.1)
