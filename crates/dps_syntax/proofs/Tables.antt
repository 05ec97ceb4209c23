-- What the tables keep, each by computing it.
use Rattle.std.proofs.Common.{◌≡◌, Bool, true, false, not, ◌&&◌, ◌||◌, List, [], ◌∷◌, Option, Some, None, ◌⊎◌, refl, ap, sym, ◌∙◌, inl, inr, if◌then◌else◌}
use denote.Enum.Bare.{same_true, true_same}
use Rattle.dps_lex.specs.contracts.vocabulary.TokenKind.{the_type}
use Rattle.dps_syntax.specs.declared.grammar.Word.{Word}
use Rattle.dps_syntax.specs.declared.grammar.Word.TheVariants.{Of, Zero}
use Rattle.dps_lex.specs.declared.vocabulary.TokenKind.TheVariants as token
use Rattle.dps_syntax.specs.declared.grammar.Production.{Production}
use Rattle.dps_syntax.specs.declared.grammar.Production.TheVariants as production
use Rattle.dps_syntax.specs.declared.grammar.More.{More as Option_of}
use Rattle.dps_syntax.specs.declared.grammar.More.TheVariants as more
use Rattle.dps_syntax.specs.declared.grammar.Symbol.{Symbol}
use Rattle.dps_syntax.specs.declared.grammar.Symbol.TheVariants.{Sign, Inner, More, Close}
use Rattle.dps_syntax.specs.Grammar.{alternatives, continuation, firsts, is_same, IsOneOf}
use Rattle.dps_syntax.specs.Calm.{among, closed_to, closed_behind, forbidden, lead}

abbrev pub all : {X : Type 0} → (X → Bool) → List X → Bool
all test [] = true
all test (x ∷ xs) = test x && all test xs

pub both : (a b : Bool) → (a && b) ≡ true → (a ≡ true) × (b ≡ true)
both true b e = (refl, e)
both false b e = cc

pub either : (a b : Bool) → (a || b) ≡ true → (a ≡ true) ⊎ (b ≡ true)
either true b e = inl refl
either false b e = inr e

pub not_both : (b : Bool) → b ≡ true → b ≡ false → ⊥
not_both b t f = cc

pub all_one : {X : Type 0} (test : X → Bool) (xs : List X) (x : X) → all test xs ≡ true → IsOneOf xs x → test x ≡ true
all_one test [] x h o = absurd o
all_one test (y ∷ ys) x h (inl e) = ap test e ∙ (both (test y) (all test ys) h).0
all_one test (y ∷ ys) x h (inr o) = all_one test ys x (both (test y) (all test ys) h).1 o

abbrev pub within : List Word → List Word → Bool
within xs ys = all (λ x. among ys x) xs

pub same_is : (a b : Word) → is_same a b ≡ true → a ≡ b
same_is (Of a) (Of b) e = ap Of (same_true the_type tt a b e)
same_is (Of a) Zero e = cc
same_is Zero (Of b) e = cc
same_is Zero Zero e = refl

pub same_self : (a : Word) → is_same a a ≡ true
same_self (Of a) = true_same the_type a a refl
same_self Zero = refl

pub within_among : (xs ys : List Word) (k : Word) → within xs ys ≡ true → among xs k ≡ true → among ys k ≡ true
within_among [] ys k h e = cc
within_among (x ∷ xs) ys k h e =
    let b = both (among ys x) (within xs ys) h in
    elim (either (is_same x k) (among xs k) e) [
      | inl s ↦ ap (among ys) (sym (same_is x k s)) ∙ b.0
      | inr r ↦ within_among xs ys k b.1 r
    ]

-- the words that may stand where the grammar has this sign
abbrev pub spelled : Word → List Word
spelled k = k ∷ (if is_same k (Of token.Number) then Zero ∷ [] else [])

-- the words that begin a symbol, and symbols
abbrev pub heads : Symbol → List Word
heads (Sign k) = spelled k
heads (Inner p) = firsts p
heads (More m) = []
heads (Close p) = []

abbrev pub heads_all : List Symbol → List Word
heads_all [] = []
heads_all (s ∷ ss) = heads s

abbrev pub is_solid : List Symbol → Bool
is_solid [] = false
is_solid (Sign k ∷ ss) = true
is_solid (Inner p ∷ ss) = true
is_solid (More m ∷ ss) = false
is_solid (Close p ∷ ss) = false

abbrev pub disjoint : List Word → List Word → Bool
disjoint xs ys = all (λ x. not (among ys x)) xs

abbrev pub distinct : List (List Symbol) → Bool
distinct [] = true
distinct (items ∷ others) = all (λ other. disjoint (heads_all items) (heads_all other)) others && distinct others

pub rows_distinct : (x : Production) → distinct (alternatives x) ≡ true
rows_distinct production.Decl = refl
rows_distinct production.Ids = refl
rows_distinct production.Rule = refl
rows_distinct production.Query = refl
rows_distinct production.Par = refl
rows_distinct production.Sum = refl
rows_distinct production.Pre = refl
rows_distinct production.Pattern = refl
rows_distinct production.Term = refl

pub rows_solid : (x : Production) → all is_solid (alternatives x) ≡ true
rows_solid production.Decl = refl
rows_solid production.Ids = refl
rows_solid production.Rule = refl
rows_solid production.Query = refl
rows_solid production.Par = refl
rows_solid production.Sum = refl
rows_solid production.Pre = refl
rows_solid production.Pattern = refl
rows_solid production.Term = refl

pub rows_begin : (x : Production) → all (λ items. within (heads_all items) (firsts x)) (alternatives x) ≡ true
rows_begin production.Decl = refl
rows_begin production.Ids = refl
rows_begin production.Rule = refl
rows_begin production.Query = refl
rows_begin production.Par = refl
rows_begin production.Sum = refl
rows_begin production.Pre = refl
rows_begin production.Pattern = refl
rows_begin production.Term = refl

pub more_solid : (x : Option_of) → is_solid (continuation x) ≡ true
more_solid more.Declarations = refl
more_solid more.Private = refl
more_solid more.Functions = refl
more_solid more.Rules = refl
more_solid more.Parameters = refl
more_solid more.Names = refl
more_solid more.Terms = refl
more_solid more.Parallel = refl
more_solid more.Choice = refl
more_solid more.Then = refl
more_solid more.Else = refl
more_solid more.Arguments = refl
more_solid more.Patterns = refl
more_solid more.Brackets = refl
more_solid more.Filling = refl

abbrev pub parted : List Word → List Word → Option Word → Bool
parted own words None = within words own
parted own words (Some k) = not (among words k)

-- these symbols are calm where none of its own tokens stands behind them
abbrev pub fits : List Word → List Symbol → Bool
fits own [] = true
fits own (s ∷ ss) = parted own (forbidden s) (lead ss) && fits own ss

pub rows_fit : (x : Production) → all (fits (closed_to x)) (alternatives x) ≡ true
rows_fit production.Decl = refl
rows_fit production.Ids = refl
rows_fit production.Rule = refl
rows_fit production.Query = refl
rows_fit production.Par = refl
rows_fit production.Sum = refl
rows_fit production.Pre = refl
rows_fit production.Pattern = refl
rows_fit production.Term = refl

pub more_fit : (x : Option_of) → fits (closed_behind x) (continuation x) ≡ true
more_fit more.Declarations = refl
more_fit more.Private = refl
more_fit more.Functions = refl
more_fit more.Rules = refl
more_fit more.Parameters = refl
more_fit more.Names = refl
more_fit more.Terms = refl
more_fit more.Parallel = refl
more_fit more.Choice = refl
more_fit more.Then = refl
more_fit more.Else = refl
more_fit more.Arguments = refl
more_fit more.Patterns = refl
more_fit more.Brackets = refl
more_fit more.Filling = refl

pub more_closed : (x : Option_of) → within (heads_all (continuation x)) (closed_behind x) ≡ true
more_closed more.Declarations = refl
more_closed more.Private = refl
more_closed more.Functions = refl
more_closed more.Rules = refl
more_closed more.Parameters = refl
more_closed more.Names = refl
more_closed more.Terms = refl
more_closed more.Parallel = refl
more_closed more.Choice = refl
more_closed more.Then = refl
more_closed more.Else = refl
more_closed more.Arguments = refl
more_closed more.Patterns = refl
more_closed more.Brackets = refl
more_closed more.Filling = refl

-- no production ends here
abbrev pub is_plain : List Symbol → Bool
is_plain [] = true
is_plain (Sign k ∷ ss) = is_plain ss
is_plain (Inner p ∷ ss) = is_plain ss
is_plain (More m ∷ ss) = is_plain ss
is_plain (Close p ∷ ss) = false

pub rows_plain : (x : Production) → all is_plain (alternatives x) ≡ true
rows_plain production.Decl = refl
rows_plain production.Ids = refl
rows_plain production.Rule = refl
rows_plain production.Query = refl
rows_plain production.Par = refl
rows_plain production.Sum = refl
rows_plain production.Pre = refl
rows_plain production.Pattern = refl
rows_plain production.Term = refl

pub more_plain : (x : Option_of) → is_plain (continuation x) ≡ true
more_plain more.Declarations = refl
more_plain more.Private = refl
more_plain more.Functions = refl
more_plain more.Rules = refl
more_plain more.Parameters = refl
more_plain more.Names = refl
more_plain more.Terms = refl
more_plain more.Parallel = refl
more_plain more.Choice = refl
more_plain more.Then = refl
more_plain more.Else = refl
more_plain more.Arguments = refl
more_plain more.Patterns = refl
more_plain more.Brackets = refl
more_plain more.Filling = refl
