-- The kinds of all symbols, one after another.
use Rattle.std.proofs.Common.{◌≡◌, ℕ, zero, suc, List, [], ◌∷◌, refl, sym, ◌∙◌, ap, subst, Option, Some, None}
use Rattle.std.specs.Prelude.{All, slice_get}
use Rattle.std.specs.Option.{option_map}
use Rattle.std.proofs.lemmas.Option.{none-some}
use Rattle.std.proofs.lemmas.List.Elements.{All-nil, All-cons, All-head, All-tail}
use Rattle.dps_signature.specs.declared.SymKind.{SymKind}
use Rattle.dps_signature.specs.declared.SymKind.TheVariants.{Constructor, Destructor}
use Rattle.dps_signature.specs.Signature.{Symbol}

abbrev pub Builds : Symbol → Type 0
Builds s = s.kind ≡ Constructor

pub kind_there : (o : Option Symbol) (s : Symbol) (kind : SymKind) → option_map (λ (a : Symbol). a.kind) o ≡ Some kind → o ≡ Some s → s.kind ≡ kind
kind_there None s kind e g = absurd (none-some s g)
kind_there (Some a) s kind e g =
    let same : a ≡ s = cc in let told : a.kind ≡ kind = cc in ap (λ (b : Symbol). b.kind) (sym same) ∙ told

pub all_build : (symbols : List Symbol) → ((j : ℕ) (s : Symbol) → slice_get symbols j ≡ Some s → Builds s) → All Builds symbols
all_build [] h = All-nil Builds
all_build (s ∷ symbols) h = All-cons Builds s symbols (h 0 s refl) (all_build symbols (λ j a e. h (suc j) a e))

pub one_builds : (symbols : List Symbol) (j : ℕ) (s : Symbol) → slice_get symbols j ≡ Some s → All Builds symbols → Builds s
one_builds [] j s e h = absurd (none-some s e)
one_builds (a ∷ symbols) zero s e h = let same : a ≡ s = cc in subst Builds same (All-head Builds a symbols h)
one_builds (a ∷ symbols) (suc j) s e h = one_builds symbols j s e (All-tail Builds a symbols h)

-- a destructor is there
pub one_destroys : (symbols : List Symbol) (j : ℕ) → option_map (λ (a : Symbol). a.kind) (slice_get symbols j) ≡ Some Destructor → ¬ All Builds symbols
one_destroys symbols j e h = at (slice_get symbols j) refl e
  where
    at : (o : Option Symbol) → slice_get symbols j ≡ o → option_map (λ (a : Symbol). a.kind) o ≡ Some Destructor → ⊥
    at None g f = none-some Destructor f
    at (Some s) g f =
        let kind : s.kind ≡ Destructor = cc in
        let builds : s.kind ≡ Constructor = one_builds symbols j s g h in
        let clash : ◌≡◌ {A = SymKind} Constructor Destructor = sym builds ∙ kind in cc
