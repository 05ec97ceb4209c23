-- What the grammar says of the parts of one production, where nothing is used that is not judged yet.
use Rattle.std.proofs.Common.{◌≡◌, Bool, true, false, ◌&&◌, if◌then◌else◌, List, [], ◌∷◌, ◌++◌, Option, Some, None, refl, sym, subst}
use denote.Enum.Bare.{sameb, same_true}
use Rattle.dps_lex.specs.declared.vocabulary.Place.{Place}
use Rattle.dps_syntax.specs.contracts.grammar.Production.{the_type as productions}
use Rattle.dps_syntax.specs.declared.grammar.Word.{Word}
use Rattle.dps_syntax.specs.declared.grammar.Production.{Production}
use Rattle.dps_syntax.specs.declared.grammar.Production.TheVariants as production
use Rattle.dps_syntax.specs.declared.grammar.More.{More as Option_of}
use Rattle.dps_syntax.specs.declared.grammar.More.TheVariants as more
use Rattle.dps_syntax.specs.declared.grammar.Symbol.{Symbol}
use Rattle.dps_syntax.specs.declared.grammar.Symbol.TheVariants.{Sign, Inner, More, Close}
use Rattle.dps_syntax.specs.Tree.{Parts, none, token, inner as within, words}
use Rattle.dps_syntax.specs.Grammar.{Derives, done, sign, inner, taken, left, IsOneOf, alternatives, continuation}
use Rattle.dps_scopes.specs.Faults.{place_of}
use Rattle.dps_judge.specs.Unbuilt.{is_unbuilt, opening, or_else, first_among}

-- nothing in the parts is not judged yet
abbrev pub IsClean : Production → Parts → Type 0
IsClean p none = Unit {0}
IsClean p (token l parts) = (is_unbuilt p l ≡ false) × IsClean p parts
IsClean p (within q inside parts) = (opening q inside ≡ None) × IsClean q inside × IsClean p parts

or_else_none : (a b : Option Place) → or_else a b ≡ None → (a ≡ None) × (b ≡ None)
or_else_none None b e = (refl, e)
or_else_none (Some x) b e = cc

token_clean : (b : Bool) (place : Place) (rest : Option Place) → (if b then Some place else rest) ≡ None → (b ≡ false) × (rest ≡ None)
token_clean true place rest e = cc
token_clean false place rest e = (refl, e)

pub clean : (p : Production) (parts : Parts) → first_among p parts ≡ None → IsClean p parts
clean p none e = tt
clean p (token l parts) e =
    let h = token_clean (is_unbuilt p l) (place_of l) (first_among p parts) e in
    (h.0, clean p parts h.1)
clean p (within q inside parts) e =
    let h = or_else_none (or_else (opening q inside) (first_among q inside)) (first_among p parts) e in
    let k = or_else_none (opening q inside) (first_among q inside) h.0 in
    (k.0, clean q inside k.1, clean p parts h.1)

-- the parts are one of the production's alternatives
pub record IsOf (p : Production) (parts : Parts) : Type 0 where
  pub items : List Symbol
  pub one : IsOneOf (alternatives p) items
  pub after : List Word
  pub derived : Derives items parts after

-- a production that was used, with nothing in it that is not judged yet
pub record IsTree (p : Production) (parts : Parts) : Type 0 where
  pub of : IsOf p parts
  pub closed : opening p parts ≡ None
  pub clean : IsClean p parts

-- each production that stands in the row is of this kind
abbrev pub IsRow : Production → Parts → Type 0
IsRow p none = Unit {0}
IsRow p (token l parts) = IsRow p parts
IsRow p (within q inside parts) = IsTree p inside × IsRow p parts

abbrev same : Production → Production → Bool
same p q = sameb productions p q

-- an option stands for productions of this kind alone
abbrev option_holds : Production → Option_of → Bool
option_holds p more.Declarations = same p production.Decl
option_holds p more.Private = true
option_holds p more.Functions = true
option_holds p more.Rules = same p production.Rule
option_holds p more.Parameters = same p production.Ids
option_holds p more.Names = true
option_holds p more.Terms = same p production.Term
option_holds p more.Parallel = same p production.Sum
option_holds p more.Choice = same p production.Pre
option_holds p more.Then = same p production.Pre
option_holds p more.Else = same p production.Pre
option_holds p more.Arguments = same p production.Term
option_holds p more.Patterns = same p production.Pattern
option_holds p more.Brackets = same p production.Term
option_holds p more.Filling = same p production.Term

-- and so do these symbols
abbrev pub holds : Production → List Symbol → Bool
holds p [] = true
holds p (Sign k ∷ ss) = holds p ss
holds p (Inner q ∷ ss) = same p q && holds p ss
holds p (More m ∷ ss) = option_holds p m && holds p ss
holds p (Close q ∷ ss) = holds p ss

pub both : (a b : Bool) → a && b ≡ true → (a ≡ true) × (b ≡ true)
both true b e = (refl, e)
both false b e = cc

pub together : (a b : Bool) → a ≡ true → b ≡ true → a && b ≡ true
together true b e f = f
together false b e f = cc

twice : (a b : Bool) → a ≡ true → b ≡ true → a && (a && b) ≡ true
twice a b e f = together a (a && b) e (together a b e f)

more_holds : (p : Production) (m : Option_of) (ss : List Symbol) → option_holds p m ≡ true → holds p ss ≡ true → holds p (continuation m ++ ss) ≡ true
more_holds p more.Declarations ss h t = twice (same p production.Decl) (holds p ss) h t
more_holds p more.Private ss h t = t
more_holds p more.Functions ss h t = t
more_holds p more.Rules ss h t = twice (same p production.Rule) (holds p ss) h t
more_holds p more.Parameters ss h t = together (same p production.Ids) (holds p ss) h t
more_holds p more.Names ss h t = t
more_holds p more.Terms ss h t = twice (same p production.Term) (holds p ss) h t
more_holds p more.Parallel ss h t = twice (same p production.Sum) (holds p ss) h t
more_holds p more.Choice ss h t = twice (same p production.Pre) (holds p ss) h t
more_holds p more.Then ss h t = together (same p production.Pre) (holds p ss) h t
more_holds p more.Else ss h t = together (same p production.Pre) (holds p ss) h t
more_holds p more.Arguments ss h t = twice (same p production.Term) (holds p ss) h t
more_holds p more.Patterns ss h t = twice (same p production.Pattern) (holds p ss) h t
more_holds p more.Brackets ss h t = together (same p production.Term) (holds p ss) h t
more_holds p more.Filling ss h t = twice (same p production.Term) (holds p ss) h t

pub row : (p q : Production) {ss : List Symbol} {parts : Parts} {after : List Word} → Derives ss parts after → holds p ss ≡ true → IsClean q parts → IsRow p parts
row p q done h c = tt
row p q (sign e d) h c = row p q d h c.1
row p q (inner {p = r} {ss} {inside} {parts} {after} items one d rest) h c =
    let k = both (same p r) (holds p ss) h in
    let tree : IsTree r inside = record { of = record { items = items; one = one; after = words parts ++ after; derived = d }; closed = c.0; clean = c.1 } in
    (subst (λ x. IsTree x inside) (sym (same_true productions tt p r k.0)) tree, row p q rest k.1 c.2)
row p q (taken {m} {ss} d) h c =
    let k = both (option_holds p m) (holds p ss) h in
    row p q d (more_holds p m ss k.0 k.1) c
row p q (left {m} {ss} e d) h c = row p q d (both (option_holds p m) (holds p ss) h).1 c
