-- What the next token turns what is expected into.
use Rattle.std.specs.Prelude.{◌≡◌, true, List, [], ◌∷◌, ◌++◌, Option, Some, None}
use Rattle.dps_syntax.specs.declared.grammar.Word.{Word}
use Rattle.dps_syntax.specs.declared.grammar.Symbol.{Symbol}
use Rattle.dps_syntax.specs.declared.grammar.Symbol.TheVariants as symbol
use Rattle.dps_syntax.specs.declared.grammar.Mark.{Mark}
use Rattle.dps_syntax.specs.declared.expected.Awaited.{Awaited}
use Rattle.dps_syntax.specs.declared.expected.Awaited.TheVariants.{Sign, End, Nothing}
use Rattle.dps_syntax.specs.Marks.{Walks, mark_words}
use Rattle.dps_syntax.specs.Marks.{mark_depths}
use Rattle.dps_syntax.specs.Calm.{calm, held}

-- what comes next is this word, or the end
abbrev pub NextIs : Option Word → List Word → Type 0
NextIs None [] = Unit {0}
NextIs (Some k) (t ∷ ts) = t ≡ k
NextIs None (t ∷ ts) = ⊥
NextIs (Some k) [] = ⊥

-- Where this token, or the end, comes next, the trees of old are these marks and then the trees of new.
pub record Turns (next : Option Word) (old new : List Symbol) (made : List Mark) : Type 0 where
  pub on : (ms : List Mark) → NextIs next (mark_words ms) → Walks old ms → (rest : List Mark) × (ms ≡ made ++ rest) × Walks new rest
  pub back : (ms : List Mark) → NextIs next (mark_words ms) → Walks new ms → Walks old (made ++ ms)
  pub silent : mark_words made ≡ []
  pub level : (ms : List Mark) → mark_depths (held old) (made ++ ms) ≡ mark_depths (held new) ms

-- the token, or the end, can't come next
abbrev pub Refuses : Option Word → List Symbol → Type 0
Refuses next old = (ms : List Mark) → NextIs next (mark_words ms) → Walks old ms → ⊥

-- old marks, and new ones with these at their end
abbrev pub Awaits : Option Word → List Symbol → Awaited → List Symbol → List Mark → List Mark → Type 0
Awaits next old (Sign kind) new before after = (made : List Mark) × (after ≡ before ++ made) × Turns next old (symbol.Sign kind ∷ new) made × (calm new ≡ true)
Awaits next old End new before after = (made : List Mark) × (after ≡ before ++ made) × Turns next old [] made
Awaits next old Nothing new before after = Refuses next old

-- The trees of old that begin with the token are these marks and then the trees of new.
pub record Accepts (token : Word) (old new : List Symbol) (made : List Mark) : Type 0 where
  pub on : (ms : List Mark) (ts : List Word) → mark_words ms ≡ token ∷ ts → Walks old ms → (rest : List Mark) × (ms ≡ made ++ rest) × Walks new rest × (mark_words rest ≡ ts)
  pub back : (ms : List Mark) → Walks new ms → Walks old (made ++ ms)
  pub spelled : mark_words made ≡ token ∷ []
  pub level : (ms : List Mark) → mark_depths (held old) (made ++ ms) ≡ held new ∷ mark_depths (held new) ms
  pub calm : calm new ≡ true

abbrev pub Took : Word → List Symbol → List Symbol → List Mark → List Mark → Type 0
Took token old new before after = (made : List Mark) × (after ≡ before ++ made) × Accepts token old new made

abbrev pub Ended : List Symbol → List Mark → List Mark → Type 0
Ended old before after = (made : List Mark) × (after ≡ before ++ made) × Turns None old [] made
