-- What a file says that uses nothing that is not judged yet: constructors without tuples, public names, no rules, and
-- processes of `0`, `|`, copies, `new`, outputs and calls.
use Rattle.std.proofs.Common.{◌≡◌, ℕ, Bool, true, false, ◌&&◌, ◌||◌, leb, List, [], ◌∷◌, ◌++◌, None, length, refl, sym, ap, subst, ◌∙◌}
use Rattle.std.specs.Prelude.{not}
use Rattle.std.specs.List.{All}
use Rattle.std.proofs.lemmas.List.Elements.{All-nil, All-head, All-tail, All-push}
use Rattle.dps_lex.specs.declared.vocabulary.TokenKind.TheVariants as kind
use Rattle.dps_signature.specs.declared.SymKind.TheVariants.{Constructor}
use Rattle.dps_signature.specs.Signature.{Symbol, Name, Signature}
use Rattle.dps_signature.specs.Names.{with_name}
use Rattle.dps_syntax.specs.declared.grammar.Production.TheVariants as production
use Rattle.dps_syntax.specs.declared.grammar.More.TheVariants as more
use Rattle.dps_syntax.specs.declared.grammar.Symbol.TheVariants.{Inner, More}
use Rattle.dps_syntax.specs.declared.tree.Decl.{Decl}
use Rattle.dps_syntax.specs.declared.tree.Decl.TheVariants.{Free, Const, Fun, Reduc, Define, Query}
use Rattle.dps_syntax.specs.Tree.{Lexeme, Parts, none, token, inner as within}
use Rattle.dps_syntax.specs.Files.{tree_of, trees_of, HasItsKeyword}
use Rattle.dps_syntax.specs.Grammar.{Derives}
use Rattle.dps_scopes.specs.Outcome.{Outcome, done, faulty}
use Rattle.dps_scopes.specs.Scopes.{Locals, is_word, is_handle, begins_as_projection, is_reserved, is_unknown, declared_meaning, most_arguments}
use Rattle.dps_scopes.specs.Terms.{is_kind}
use Rattle.dps_names.specs.Program.{Program, Definition, Body, empty}
use Rattle.dps_names.specs.Processes.{number_of, is_among, parallels}
use Rattle.dps_names.specs.Declarations.{with_signature, declaring, declare_names, is_marked_private, names, with_constructor, functions}
use Rattle.dps_names.specs.Declarations.{parameters, in_signature, body_of, define_with, define, side, query, declaration, declarations, names_of}
use Rattle.dps_judge.specs.Unbuilt.{first_unbuilt}
use Rattle.dps_judge.proofs.Rows.{IsClean, clean, IsRow}
use Rattle.dps_judge.proofs.PlainNames.{OnDone, on_then, on_if}
use Rattle.dps_judge.proofs.PlainBodies.{IsPlainBody, EachIsPlain, joined_plain}
use Rattle.dps_judge.proofs.PlainProcesses.{PlainlyAll, parallels_plain}
use Rattle.dps_judge.proofs.DeclarationRows.{IsDeclaration, first_row, second_row, query_rows, no_reduc, declaration_clean, AreDeclarations, all_declarations, one_declaration}

-- a constructor that is no tuple's
pub record IsPlainSymbol (s : Symbol) : Type 0 where
  pub kind : s.kind ≡ Constructor
  pub word : is_word s.name ≡ true

abbrev pub IsPublicName : Name → Type 0
IsPublicName x = x.is_private ≡ false

abbrev pub HasPlainBody : Definition → Type 0
HasPlainBody d = IsPlainBody d.body

pub record IsPlainProgram (program : Program) : Type 0 where
  pub symbols : All IsPlainSymbol program.signature.symbols
  pub names : All IsPublicName program.signature.names
  pub rules : program.rules ≡ []
  pub definitions : All HasPlainBody program.definitions
  pub left : IsPlainBody program.left.body
  pub right : IsPlainBody program.right.body

-- what a declaration leaves
abbrev pub Leaves : Unit {0} → Program → Type 0
Leaves u after = IsPlainProgram after

pub empty_plain : IsPlainProgram empty
empty_plain = record {
  symbols = All-nil IsPlainSymbol;
  names = All-nil IsPublicName;
  rules = refl;
  definitions = All-nil HasPlainBody;
  left = tt;
  right = tt;
}

-- declared texts

abbrev Declares : Lexeme → Program → Unit {0} → Program → Type 0
Declares l program u after = (after ≡ program) × (is_reserved l.text ≡ false)

declaring_keeps : (l : Lexeme) (program : Program) → OnDone (declaring l program) (Declares l program)
declaring_keeps l program =
    on_if (is_reserved l.text) _ _ (Declares l program) (λ e. record { holds = tt }) (λ e.
    on_if (is_unknown (declared_meaning program.signature program.definitions l.text)) _ _ (Declares l program) (λ k. record { holds = (refl, e) }) (λ k. record { holds = tt }))

is_word_of : (a w b c : Bool) → a || not (w && b && c) ≡ false → w ≡ true
is_word_of a true b c e = refl
is_word_of true false b c e = cc
is_word_of false false b c e = cc

-- names

named_plain : (program : Program) (x : Name) → IsPlainProgram program → IsPublicName x → IsPlainProgram (with_signature program (with_name program.signature x))
named_plain program x plain e = record {
  symbols = plain.symbols;
  names = All-push IsPublicName program.signature.names x plain.names e;
  rules = plain.rules;
  definitions = plain.definitions;
  left = plain.left;
  right = plain.right;
}

declare_plain : (private : Bool) → private ≡ false → (parts : Parts) (program : Program) → IsPlainProgram program → OnDone (declare_names private parts program) Leaves
declare_plain private e none program plain = record { holds = plain }
declare_plain private e (within p inside parts) program plain = declare_plain private e parts program plain
declare_plain private e (token l parts) program plain =
    on_if (is_kind kind.Identifier l) _ _ Leaves
    (λ k. on_then (declaring l program) _ (Declares l program) Leaves (declaring_keeps l program) (λ u after h.
    declare_plain private e parts _ (named_plain after _ (subst IsPlainProgram (sym h.0) plain) e)))
    (λ k. declare_plain private e parts program plain)

-- none of the tokens is the mark
unmarked : (parts : Parts) → IsClean production.Decl parts → is_marked_private parts ≡ false
unmarked none c = refl
unmarked (within p inside parts) c = unmarked parts c.2
unmarked (token l parts) c = both_false (is_kind kind.Private l) (is_marked_private parts) (second _ _ _ _ _ _ c.0) (unmarked parts c.1)
  where
    both_false : (a b : Bool) → a ≡ false → b ≡ false → a || b ≡ false
    both_false true b e f = cc
    both_false false b e f = f

    second : (a b d e f g : Bool) → a || b || d || e || f || g ≡ false → b ≡ false
    second a false d e f g h = refl
    second true true d e f g h = cc
    second false true d e f g h = cc

names_plain : (parts : Parts) (program : Program) → IsClean production.Decl parts → IsPlainProgram program → OnDone (names parts program) Leaves
names_plain (token word (within p inside parts)) program c plain = declare_plain (is_marked_private parts) (unmarked parts c.1.2) inside program plain
names_plain _ program c plain = record { holds = plain }

-- functions

constructor_plain : (name arity : Lexeme) (program : Program) → is_reserved name.text ≡ false → IsPlainProgram program → OnDone (with_constructor name arity program) Leaves
constructor_plain name arity program free plain =
    on_if (leb (number_of arity) most_arguments) _ _ Leaves
    (λ e. record {
      holds = record {
        symbols =
            All-push
            IsPlainSymbol
            program.signature.symbols
            _
            plain.symbols
            (record { kind = refl; word = is_word_of (begins_as_projection name.text) (is_word name.text) (leb (length name.text) 64) (not (is_handle name.text)) free });
        names = plain.names;
        rules = plain.rules;
        definitions = plain.definitions;
        left = plain.left;
        right = plain.right;
      };
    })
    (λ e. record { holds = tt })

functions_plain : (parts : Parts) (program : Program) → IsPlainProgram program → OnDone (functions parts program) Leaves
functions_plain (token word (token name (token slash (token arity parts)))) program plain =
    on_then (declaring name program) _ (Declares name program) Leaves (declaring_keeps name program) (λ u next h.
    on_then (with_constructor name arity next) _ Leaves Leaves (constructor_plain name arity next h.1 (subst IsPlainProgram (sym h.0) plain)) (λ v after k.
    functions_plain parts after k))
functions_plain _ program plain = record { holds = plain }

-- definitions and sides

abbrev Bodily : Program → Body → Program → Type 0
Bodily program body after = IsPlainBody body × (after ≡ program)

abbrev Bodies_of : Program → List Body → Program → Type 0
Bodies_of program ps after = EachIsPlain ps × (after ≡ program)

in_signature_plain : (program : Program) (o : Outcome Signature (List Body)) → OnDone o (PlainlyAll program.signature) → OnDone (in_signature program o) (Bodies_of program)
in_signature_plain program (done ps after) h = record { holds = (h.holds.0, ap (with_signature program) h.holds.1) }
in_signature_plain program (faulty fault) h = record { holds = tt }

body_plain : (parts : Parts) (scope : Locals) (program : Program) → IsRow production.Sum parts → OnDone (body_of parts scope program) (Bodily program)
body_plain parts scope program r =
    on_then (in_signature program (parallels program.definitions scope parts program.signature)) _ (Bodies_of program) (Bodily program)
    (in_signature_plain program _ (parallels_plain program.definitions scope parts program.signature r))
    (λ ps after h. record { holds = (joined_plain ps h.0, h.1) })

define_with_plain :
    (name : Lexeme) (texts : List (List ℕ)) (inside : Parts) (program : Program) → IsRow production.Sum inside → IsPlainProgram program
    → OnDone (define_with name texts inside program) Leaves
define_with_plain name texts inside program r plain =
    on_then (body_of inside (texts ∷ []) program) _ (Bodily program) Leaves (body_plain inside (texts ∷ []) program r) (λ body after h.
    let same = subst IsPlainProgram (sym h.1) plain in
    record {
      holds = record {
        symbols = same.symbols;
        names = same.names;
        rules = same.rules;
        definitions = All-push HasPlainBody after.definitions _ same.definitions h.0;
        left = same.left;
        right = same.right;
      };
    })

abbrev Texts_of : Program → List (List ℕ) → Program → Type 0
Texts_of program texts after = after ≡ program

parameters_keep : (parts : Parts) (texts : List (List ℕ)) (program : Program) → OnDone (parameters parts texts program) (Texts_of program)
parameters_keep none texts program = record { holds = refl }
parameters_keep (within p inside parts) texts program = parameters_keep parts texts program
parameters_keep (token l parts) texts program =
    on_if (is_kind kind.Identifier l) _ _ (Texts_of program)
    (λ e. on_if (is_among l.text texts) _ _ (Texts_of program) (λ k. record { holds = tt }) (λ k. parameters_keep parts (texts ++ l.text ∷ []) program))
    (λ e. parameters_keep parts texts program)

define_plain : (parts : Parts) (program : Program) → IsDeclaration parts → IsPlainProgram program → OnDone (define parts program) Leaves
define_plain (token word (token name (token bracket (within p ids (token close (token equals (within q inside parts))))))) program d plain =
    on_then (declaring name program) _ (Declares name program) Leaves (declaring_keeps name program) (λ u next h.
    on_then (parameters ids [] next) _ (Texts_of next) Leaves (parameters_keep ids [] next) (λ texts after e.
    define_with_plain name texts inside after (first_row word name bracket close equals p q ids inside parts d) (subst IsPlainProgram (sym (e ∙ h.0)) plain)))
define_plain (token word (token name (token equals (within p inside parts)))) program d plain =
    on_then (declaring name program) _ (Declares name program) Leaves (declaring_keeps name program) (λ u after h.
    define_with_plain name [] inside after (second_row word name equals p inside _ d) (subst IsPlainProgram (sym h.0) plain))
define_plain _ program d plain = record { holds = plain }

-- the query

side_plain : (parts : Parts) (program : Program) → IsRow production.Sum parts → OnDone (side parts program) (λ s after. IsPlainBody s.body × (after ≡ program))
side_plain parts program r = on_then (body_of parts [] program) _ (Bodily program) _ (body_plain parts [] program r) (λ body after h. record { holds = h })

query_plain : (parts : Parts) (program : Program) → IsDeclaration parts → IsPlainProgram program → OnDone (query parts program) Leaves
query_plain (token word (token relation (token bracket (within p first (token comma (within q second parts)))))) program d plain =
    let rows = query_rows word relation bracket comma p q first second parts d in
    on_then (side first program) _ (λ s after. IsPlainBody s.body × (after ≡ program)) Leaves (side_plain first program rows.0) (λ l next h.
    on_then (side second next) _ (λ s after. IsPlainBody s.body × (after ≡ next)) Leaves (side_plain second next rows.1) (λ r after k.
    let same = subst IsPlainProgram (sym (k.1 ∙ h.1)) plain in
    record {
      holds = record {
        symbols = same.symbols;
        names = same.names;
        rules = same.rules;
        definitions = same.definitions;
        left = h.0;
        right = k.0;
      };
    }))
query_plain _ program d plain = record { holds = plain }

-- each declaration

declaration_plain : (decl : Decl) (program : Program) → HasItsKeyword decl → IsDeclaration (tree_of decl).parts → IsPlainProgram program → OnDone (declaration decl program) Leaves
declaration_plain (Free tree) program e d plain = names_plain tree.parts program (declaration_clean tree.parts d) plain
declaration_plain (Const tree) program e d plain = names_plain tree.parts program (declaration_clean tree.parts d) plain
declaration_plain (Fun tree) program e d plain = functions_plain tree.parts program plain
declaration_plain (Reduc tree) program e d plain = absurd (no_reduc tree.parts e d)
declaration_plain (Define tree) program e d plain = define_plain tree.parts program d plain
declaration_plain (Query tree) program e d plain = query_plain tree.parts program d plain

declarations_plain :
    (decls : List Decl) (program : Program) → AreDeclarations (trees_of decls) → IsClean production.Decl (trees_of decls) → All HasItsKeyword decls
    → IsPlainProgram program → OnDone (declarations decls program) Leaves
declarations_plain [] program f c k plain = record { holds = plain }
declarations_plain (decl ∷ decls) program f c k plain =
    on_then (declaration decl program) _ Leaves Leaves
    (declaration_plain decl program (All-head HasItsKeyword decl decls k) (one_declaration (tree_of decl).production (tree_of decl).parts f.0 c.1) plain)
    (λ u after h. declarations_plain decls after f.1 c.2 (All-tail HasItsKeyword decl decls k) h)

pub file_plain :
    (decls : List Decl) (program : Program) → Derives (More more.Declarations ∷ Inner production.Query ∷ []) (trees_of decls) [] → All HasItsKeyword decls
    → first_unbuilt decls ≡ None → names_of decls ≡ done tt program → IsPlainProgram program
file_plain decls program d k e named =
    let h : OnDone (names_of decls) Leaves = declarations_plain decls empty (all_declarations d) (clean production.Decl (trees_of decls) e) k empty_plain in
    let g : OnDone (done tt program) Leaves = subst (λ o. OnDone o Leaves) named h in
    g.holds
