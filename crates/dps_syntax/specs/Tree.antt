-- Derivation trees.
use Rattle.std.specs.Prelude.{◌≡◌, ℕ, ◌+◌, Bool, false, ◌==◌, if◌then◌else◌, List, [], ◌∷◌, ◌++◌}
use Rattle.std.specs.Str.{byte}
use Rattle.std.specs.Coded.{Coded, coded_list, coded_ℕ}
use Rattle.std.proofs.Common.{ap, refl}
use base.Stored.{Gv, gnil, gnum, gcons, num}
use denote.Enum.Bare.{tag_one}
use denote.Enum.Declared.{tag_of}
use Rattle.dps_lex.specs.contracts.vocabulary.TokenKind.{the_type as kinds}
use Rattle.dps_lex.specs.declared.vocabulary.TokenKind.{TokenKind}
use Rattle.dps_syntax.specs.contracts.grammar.Production.{the_type as productions}
use Rattle.dps_syntax.specs.declared.grammar.Production.{Production}
use Rattle.dps_syntax.specs.declared.grammar.Word.{Word}
use Rattle.dps_syntax.specs.declared.grammar.Word.TheVariants.{Of, Zero}

-- A token of a file: its kind, its text, and the place of its first byte.
pub record Lexeme : Type 0 where
  pub kind : TokenKind
  pub text : List ℕ
  pub line : ℕ
  pub column : ℕ

-- The parts of a derivation tree, in text order: tokens, and inner productions with parts of their own. The last
-- argument is what stands behind the first part.
pub data Parts : Type 0 where
  none : Parts
  token : Lexeme → Parts → Parts
  inner : Production → Parts → Parts → Parts

-- A derivation tree: one production, as it was used.
pub record Derivation : Type 0 where
  pub production : Production
  pub parts : Parts

-- The tokens of some parts, in text order.
abbrev pub lexemes : Parts → List Lexeme
lexemes none = []
lexemes (token lexeme parts) = lexeme ∷ lexemes parts
lexemes (inner p inside parts) = lexemes inside ++ lexemes parts

-- The text of the number `0`.
abbrev pub is_zero : List ℕ → Bool
is_zero (b ∷ []) = b == byte "0"
is_zero _ = false

-- What the grammar sees of a token.
abbrev pub word_of : Lexeme → Word
word_of lexeme = if is_zero lexeme.text then Zero else Of lexeme.kind

-- The words of some parts, in text order.
abbrev pub words : Parts → List Word
words none = []
words (token lexeme parts) = word_of lexeme ∷ words parts
words (inner p inside parts) = words inside ++ words parts

-- How many tokens and productions there are.
abbrev pub count : Parts → ℕ
count none = 0
count (token lexeme parts) = 1 + count parts
count (inner p inside parts) = 1 + count inside + count parts

abbrev pub node_count : Derivation → ℕ
node_count tree = 1 + count tree.parts

-- how a proof stores a tree

abbrev lexeme_stored : Lexeme → Gv
lexeme_stored l = gcons (gnum (tag_of kinds l.kind)) (gcons ((coded_list coded_ℕ).code l.text) (gcons (gnum l.line) (gnum l.column)))

pub lexeme_one : (a b : Lexeme) → lexeme_stored a ≡ lexeme_stored b → a ≡ b
lexeme_one a b e =
    let k : gnum (tag_of kinds a.kind) ≡ gnum (tag_of kinds b.kind) = cc in
    let t : (coded_list coded_ℕ).code a.text ≡ (coded_list coded_ℕ).code b.text = cc in
    let l : gnum a.line ≡ gnum b.line = cc in
    let c : gnum a.column ≡ gnum b.column = cc in
    let kind = tag_one kinds tt a.kind b.kind (ap num k) in
    let text = (coded_list coded_ℕ).inj a.text b.text t in
    let line : a.line ≡ b.line = ap num l in
    let column : a.column ≡ b.column = ap num c in
    λ i. record { kind = kind i; text = text i; line = line i; column = column i }

abbrev stored : Parts → Gv
stored none = gnil
stored (token l parts) = gcons (gcons gnil (lexeme_stored l)) (stored parts)
stored (inner p inside parts) = gcons (gcons (gnum (tag_of productions p)) (stored inside)) (stored parts)

pub stored_one : (a b : Parts) → stored a ≡ stored b → a ≡ b
stored_one none none e = refl
stored_one none (token l ps) e = cc
stored_one none (inner p i ps) e = cc
stored_one (token k os) none e = cc
stored_one (token k os) (token l ps) e =
    let first : lexeme_stored k ≡ lexeme_stored l = cc in
    let rest : stored os ≡ stored ps = cc in
    let same = lexeme_one k l first in
    let others = stored_one os ps rest in
    λ i. token (same i) (others i)
stored_one (token k os) (inner p i ps) e = absurd (clash (lexeme_stored k) (gnum (tag_of productions p)) (stored i) (stored os) (stored ps) e)
  where
    clash : (a b c d f : Gv) → gcons (gcons gnil a) d ≡ gcons (gcons (gnum (tag_of productions p)) c) f → ⊥
    clash a b c d f e = cc
stored_one (inner q j os) none e = cc
stored_one (inner q j os) (token l ps) e =
    let first : gcons (gnum (tag_of productions q)) (stored j) ≡ gcons gnil (lexeme_stored l) = cc in
    cc
stored_one (inner q j os) (inner p i ps) e =
    let first : gnum (tag_of productions q) ≡ gnum (tag_of productions p) = cc in
    let within : stored j ≡ stored i = cc in
    let rest : stored os ≡ stored ps = cc in
    let same = tag_one productions tt q p (ap num first) in
    let insides = stored_one j i within in
    let others = stored_one os ps rest in
    λ x. inner (same x) (insides x) (others x)

abbrev derivation_stored : Derivation → Gv
derivation_stored t = gcons (gnum (tag_of productions t.production)) (stored t.parts)

pub derivation_one : (a b : Derivation) → derivation_stored a ≡ derivation_stored b → a ≡ b
derivation_one a b e =
    let first : gnum (tag_of productions a.production) ≡ gnum (tag_of productions b.production) = cc in
    let rest : stored a.parts ≡ stored b.parts = cc in
    let same = tag_one productions tt a.production b.production (ap num first) in
    let others = stored_one a.parts b.parts rest in
    λ i. record { production = same i; parts = others i }

abbrev pub lexeme_code : Coded Lexeme
lexeme_code = record { code = lexeme_stored; inj = lexeme_one }

abbrev pub derivation_code : Coded Derivation
derivation_code = record { code = derivation_stored; inj = derivation_one }
