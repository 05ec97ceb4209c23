-- A text means at most one thing.
use Rattle.std.proofs.Common.{◌≡◌, ◌≤◌, ℕ, List, [], ◌∷◌, length, Some, None, refl, sym, ap, subst, ◌∙◌}
use Rattle.std.specs.List.{All}
use Rattle.std.proofs.lemmas.List.Elements.{All-head, All-tail}
use Rattle.dps_lex.specs.declared.vocabulary.Place.{Place}
use Rattle.dps_lex.specs.declared.vocabulary.TokenKind.{TokenKind}
use Rattle.dps_lex.specs.declared.vocabulary.TokenKind.TheVariants as kind
use Rattle.dps_lex.specs.LawsOfReading.{NoTextHasTwoReadings}
use Rattle.dps_syntax.specs.declared.tree.Decl.{Decl}
use Rattle.dps_syntax.specs.declared.tree.File.{File}
use Rattle.dps_syntax.specs.declared.tree.Decl.TheVariants.{Free, Const, Fun, Reduc, Define, Query}
use Rattle.dps_syntax.specs.Tree.{Derivation, inner}
use Rattle.dps_syntax.specs.Files.{lexemes_at, tree_of, keyword_of, first_kind, trees_of, HasItsKeyword, IsFileOfText}
use Rattle.dps_syntax.specs.LawsOfFiles.{NoTokensHaveTwoTrees, NoTextIsFileAndHasFault}
use Rattle.dps_process.specs.Process.{Process}
use Rattle.dps_process.specs.Problem.{Problem}
use Rattle.dps_theory.specs.Theory.{IsAccepted}
use Rattle.dps_scopes.specs.declared.fault.NameFault.{NameFault}
use Rattle.dps_scopes.specs.Outcome.{done, faulty}
use Rattle.dps_names.specs.Program.{Program}
use Rattle.dps_names.specs.Answers.{IsProgram}
use Rattle.dps_names.specs.Declarations.{Known, names_of}
use Rattle.dps_elab.specs.declared.fault.ExpansionCause.{ExpansionCause}
use Rattle.dps_elab.specs.Meaning.{Expanded, expanded, sides, refused}
use Rattle.dps_rules.specs.Rules.{theory_of}
use Rattle.dps_rules.specs.Laws.{FlawedProgramsAreNotAccepted}
use Rattle.dps_meaning.specs.Causes.{Cause}
use Rattle.dps_meaning.specs.Meaning.{HasDeclarations, AreOfText, Says, MeansTheory, Means}
use Rattle.dps_meaning.specs.Faults.{IsTheoryFault, misnamed, flawed, IsFaultOf, untheoried, unwritten, HasFault, unread, declared}
use Rattle.dps_meaning.specs.Laws.{NoTextSaysTwoPrograms, NoTextMeansTwoProblems, NoTextHasFaultAndTheory, NoTextHasFaultAndMeaning}

pub declared_by : (bytes : List ℕ) (file : File) → IsFileOfText bytes file → HasDeclarations bytes file.declarations.items
declared_by bytes file t = record {
  tree = record { tokens = t.tokens; reading = t.reading; derived = t.file.derived; spelled = t.file.spelled; shallow = t.file.shallow };
  keywords = t.file.keywords;
}

pub of_text : (bytes : List ℕ) (file : File) → length bytes ≤ 1048576 → IsFileOfText bytes file → AreOfText file.declarations.items
of_text bytes file short t = record { bytes = bytes; short = short; text = declared_by bytes file t }

-- a declaration is its tree and its keyword
abbrev pub rebuilt : TokenKind → Derivation → Decl
rebuilt kind.Free t = Free t
rebuilt kind.Const t = Const t
rebuilt kind.Fun t = Fun t
rebuilt kind.Reduc t = Reduc t
rebuilt kind.Let t = Define t
rebuilt _ t = Query t

is_rebuilt : (decl : Decl) → rebuilt (keyword_of decl) (tree_of decl) ≡ decl
is_rebuilt (Free t) = refl
is_rebuilt (Const t) = refl
is_rebuilt (Fun t) = refl
is_rebuilt (Reduc t) = refl
is_rebuilt (Define t) = refl
is_rebuilt (Query t) = refl

some_same : (a b : TokenKind) → Some a ≡ Some b → a ≡ b
some_same a b e = cc

one_declaration : (d e : Decl) → (tree_of d).production ≡ (tree_of e).production → (tree_of d).parts ≡ (tree_of e).parts → HasItsKeyword d → HasItsKeyword e → d ≡ e
one_declaration d e p q h k =
    let tree : tree_of d ≡ tree_of e = λ i. record { production = p i; parts = q i } in
    let word = some_same (keyword_of d) (keyword_of e) (sym h ∙ (ap first_kind q ∙ k)) in
    sym (is_rebuilt d) ∙ (ap (λ w. rebuilt w (tree_of d)) word ∙ (ap (rebuilt (keyword_of e)) tree ∙ is_rebuilt e))

one_list : (ds es : List Decl) → trees_of ds ≡ trees_of es → All HasItsKeyword ds → All HasItsKeyword es → ds ≡ es
one_list [] [] t h k = refl
one_list [] (e ∷ es) t h k = cc
one_list (d ∷ ds) [] t h k = cc
one_list (d ∷ ds) (e ∷ es) t h k =
    let same : inner (tree_of d).production (tree_of d).parts (trees_of ds) ≡ inner (tree_of e).production (tree_of e).parts (trees_of es) = t in
    let p : (tree_of d).production ≡ (tree_of e).production = cc in
    let q : (tree_of d).parts ≡ (tree_of e).parts = cc in
    let r : trees_of ds ≡ trees_of es = cc in
    let first = one_declaration d e p q (All-head HasItsKeyword d ds h) (All-head HasItsKeyword e es k) in
    let rest = one_list ds es r (All-tail HasItsKeyword d ds h) (All-tail HasItsKeyword e es k) in
    λ i. first i ∷ rest i

pub one_text : NoTextHasTwoReadings → NoTokensHaveTwoTrees → (bytes : List ℕ) (ds es : List Decl) → HasDeclarations bytes ds → HasDeclarations bytes es → ds ≡ es
one_text readings trees bytes ds es a b =
    let tokens = readings bytes a.tree.tokens b.tree.tokens None None a.tree.reading b.tree.reading in
    one_list ds es (trees (trees_of ds) (trees_of es) a.tree.derived b.tree.derived (a.tree.spelled ∙ (ap (lexemes_at bytes) tokens.0 ∙ sym b.tree.spelled))) a.keywords b.keywords

same_done : (p q : Program) (o x : Known) → o ≡ done tt p → x ≡ done tt q → o ≡ x → p ≡ q
same_done p q o x e f g =
    let h : o ≡ done tt q = g ∙ f in
    cc

pub not_both : (p : Program) (fault : NameFault) (o x : Known) → o ≡ faulty fault → x ≡ done tt p → o ≡ x → ⊥
not_both p fault o x e f g = cc

pub one_program : NoTextHasTwoReadings → NoTokensHaveTwoTrees → NoTextSaysTwoPrograms
one_program readings trees = λ bytes program other a b.
    same_done program other (names_of a.decls) (names_of b.decls) a.named b.named (ap names_of (one_text readings trees bytes a.decls b.decls a.text b.text))

record AreSame (l r x y : Process) : Type 0 where
  pub left : l ≡ x
  pub right : r ≡ y

same_sides : (l r x y : Process) (o p : Expanded) → o ≡ sides l r → p ≡ sides x y → o ≡ p → AreSame l r x y
same_sides l r x y o p e f g =
    let h : sides l r ≡ sides x y = sym e ∙ (g ∙ f) in
    let a : l ≡ x = cc in
    let b : r ≡ y = cc in
    record { left = a; right = b }

not_written_twice : (l r : Process) (place : Place) (why : ExpansionCause) (o p : Expanded) → o ≡ sides l r → p ≡ refused place why → o ≡ p → ⊥
not_written_twice l r place why o p e f g = cc

abbrev pub says_of : (bytes : List ℕ) (problem : Problem) (means : Means bytes problem) → Says bytes means.problem_of.program
says_of bytes problem means = record { decls = means.decls; text = means.text; named = means.problem_of.named }

pub one_problem : NoTextSaysTwoPrograms → NoTextMeansTwoProblems
one_problem programs = λ bytes problem other a b model.
    let p = a.problem_of in
    let q = b.problem_of in
    let same = programs bytes p.program q.program (says_of bytes problem a) (says_of bytes other b) in
    let s = p.signature ∙ (ap (λ x. x.signature) same ∙ sym q.signature) in
    let t = p.theory ∙ (ap theory_of same ∙ sym q.theory) in
    let w = same_sides problem.left problem.right other.left other.right (expanded p.program) (expanded q.program) p.written q.written (ap expanded same) in
    λ i. record { signature = s i; theory = t i; model = model i; left = w.left i; right = w.right i }

-- no declarations have a fault and mean something

pub same_program : (decls : List Decl) (program : Program) → IsProgram decls program → (other : Program) → IsProgram decls other → other ≡ program
same_program decls program named other said = same_done other program (names_of decls) (names_of decls) said named refl

module _ (flaws : FlawedProgramsAreNotAccepted) (decls : List Decl) (program : Program) (named : IsProgram decls program) (accepted : IsAccepted (theory_of program)) where
  pub no_theory_fault : (place : Place) (cause : Cause) → IsTheoryFault decls place cause → ⊥
  no_theory_fault place cause (misnamed fault said e f) = not_both program fault (names_of decls) (names_of decls) said named refl
  no_theory_fault place cause (flawed other flaw said f e) =
      flaws other place flaw f (subst (λ p. IsAccepted (theory_of p)) (sym (same_program decls program named other said)) accepted)

  pub no_fault : (left right : Process) → expanded program ≡ sides left right → (place : Place) (cause : Cause) → IsFaultOf decls place cause → ⊥
  no_fault left right written place cause (untheoried h) = no_theory_fault place cause h
  no_fault left right written place cause (unwritten other why said a e f) =
      not_written_twice left right place why (expanded program) (expanded other) written e (ap expanded (sym (same_program decls program named other said)))

pub theory_or_fault : NoTextHasTwoReadings → NoTokensHaveTwoTrees → NoTextIsFileAndHasFault → FlawedProgramsAreNotAccepted → NoTextHasFaultAndTheory
theory_or_fault readings trees faults flaws bytes place cause count (unread fault first e f) m = faults bytes (trees_of m.says.decls) fault m.says.text.tree first
theory_or_fault readings trees faults flaws bytes place cause count (declared decls d h) m =
    let same = one_text readings trees bytes m.says.decls decls m.says.text d in
    no_theory_fault flaws decls m.program (subst (λ ds. IsProgram ds m.program) same m.says.named) m.accepted place cause h

pub meaning_or_fault : NoTextHasTwoReadings → NoTokensHaveTwoTrees → NoTextIsFileAndHasFault → FlawedProgramsAreNotAccepted → NoTextHasFaultAndMeaning
meaning_or_fault readings trees faults flaws bytes place cause problem (unread fault first e f) m = faults bytes (trees_of m.decls) fault m.text.tree first
meaning_or_fault readings trees faults flaws bytes place cause problem (declared decls d h) m =
    let p = m.problem_of in
    let same = one_text readings trees bytes m.decls decls m.text d in
    no_fault flaws decls p.program (subst (λ ds. IsProgram ds p.program) same p.named) (subst IsAccepted p.theory p.accepted) problem.left problem.right p.written place cause h
