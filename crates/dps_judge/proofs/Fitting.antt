-- The parts of a production, one by one.
use Rattle.std.proofs.Common.{◌≡◌, Bool, true, false, ◌||◌, if◌then◌else◌, List, [], ◌∷◌, ◌++◌, refl, sym}
use denote.Enum.Bare.{sameb, same_true}
use Rattle.dps_lex.specs.contracts.vocabulary.TokenKind.{the_type as kinds}
use Rattle.dps_lex.specs.declared.vocabulary.TokenKind.{TokenKind}
use Rattle.dps_lex.specs.declared.vocabulary.TokenKind.TheVariants as kind
use Rattle.dps_syntax.specs.declared.grammar.Word.{Word}
use Rattle.dps_syntax.specs.declared.grammar.Word.TheVariants.{Of, Zero}
use Rattle.dps_syntax.specs.declared.grammar.Symbol.{Symbol}
use Rattle.dps_syntax.specs.declared.grammar.Symbol.TheVariants.{Sign, Inner, More, Close}
use Rattle.dps_syntax.specs.Tree.{Lexeme, Parts, none, token, inner as within, words, is_zero, word_of}
use Rattle.dps_syntax.specs.Grammar.{Derives, done, sign, inner, taken, left, takes}
use Rattle.dps_judge.proofs.Rows.{IsOf}

-- the parts are what the symbols stand for, up to the first option
abbrev pub Fits : List Symbol → Parts → Type 0
Fits [] none = Unit {0}
Fits [] (token l parts) = ⊥
Fits [] (within q inside parts) = ⊥
Fits (Sign k ∷ ss) none = ⊥
Fits (Sign k ∷ ss) (token l parts) = (takes k (word_of l) ≡ true) × Fits ss parts
Fits (Sign k ∷ ss) (within q inside parts) = ⊥
Fits (Inner p ∷ ss) none = ⊥
Fits (Inner p ∷ ss) (token l parts) = ⊥
Fits (Inner p ∷ ss) (within q inside parts) = (q ≡ p) × IsOf p inside × Fits ss parts
Fits (More m ∷ ss) parts = (after : List Word) × Derives (More m ∷ ss) parts after
Fits (Close q ∷ ss) parts = ⊥

pub fits : {ss : List Symbol} {parts : Parts} {after : List Word} → Derives ss parts after → Fits ss parts
fits done = tt
fits (sign e d) = (e, fits d)
fits (inner {parts} {after} items one d rest) = (refl, record { items = items; one = one; after = words parts ++ after; derived = d }, fits rest)
fits (taken {after} d) = (after, taken d)
fits (left {after} e d) = (after, left e d)

-- the token that a sign takes is of its kind

no_number : (c : Bool) → c ≡ false → (if c then true else false) ≡ true → ⊥
no_number true e h = cc
no_number false e h = cc

left_part : (c d : Bool) → c || (if d then false else false) ≡ true → c ≡ true
left_part true d h = refl
left_part false true h = cc
left_part false false h = cc

kind_taken : (k found : TokenKind) (b : Bool) → sameb kinds k kind.Number ≡ false → takes (Of k) (if b then Zero else Of found) ≡ true → found ≡ k
kind_taken k found true e t = absurd (no_number (sameb kinds k kind.Number) e t)
kind_taken k found false e t = sym (same_true kinds tt k found (left_part (sameb kinds k found) (sameb kinds k kind.Number) t))

pub kind_is : (k : TokenKind) (l : Lexeme) → sameb kinds k kind.Number ≡ false → takes (Of k) (word_of l) ≡ true → l.kind ≡ k
kind_is k l e t = kind_taken k l.kind (is_zero l.text) e t
