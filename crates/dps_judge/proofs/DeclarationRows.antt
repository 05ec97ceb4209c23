-- The rows of declarations and of the query, that use nothing which is not judged yet.
use Rattle.std.proofs.Common.{◌≡◌, ◌⊎◌, false, List, [], ◌∷◌, ◌++◌, Some, refl, ap, subst, inl, inr}
use Rattle.dps_lex.specs.declared.vocabulary.TokenKind.TheVariants as kind
use Rattle.dps_syntax.specs.declared.grammar.Word.{Word}
use Rattle.dps_syntax.specs.declared.grammar.Production.{Production}
use Rattle.dps_syntax.specs.declared.grammar.Production.TheVariants as production
use Rattle.dps_syntax.specs.declared.grammar.More.TheVariants as more
use Rattle.dps_syntax.specs.declared.grammar.Symbol.TheVariants.{Inner, More}
use Rattle.dps_syntax.specs.declared.grammar.Symbol.{Symbol as GrammarSymbol}
use Rattle.dps_syntax.specs.Tree.{Lexeme, Parts, none, token, inner as within, words}
use Rattle.dps_syntax.specs.Files.{first_kind}
use Rattle.dps_syntax.specs.Grammar.{Derives, done as nothing, inner, taken, left, sign_of}
use Rattle.dps_judge.specs.Unbuilt.{is_unbuilt}
use Rattle.dps_judge.proofs.Rows.{IsClean, IsOf, IsRow, holds, row}
use Rattle.dps_judge.proofs.Fitting.{Fits, fits}
use Rattle.dps_judge.proofs.PlainProcesses.{par_row}

-- a declaration, or the query
pub data IsDeclaration (parts : Parts) : Type 0 where
  as_decl : IsOf production.Decl parts → IsClean production.Decl parts → IsDeclaration parts
  as_query : IsOf production.Query parts → IsClean production.Query parts → IsDeclaration parts

abbrev Body_symbols : List GrammarSymbol
Body_symbols = sign_of kind.Equals ∷ Inner production.Par ∷ sign_of kind.Dot ∷ []

abbrev Parameter_symbols : List GrammarSymbol
Parameter_symbols = sign_of kind.OpenParenthesis ∷ Inner production.Ids ∷ sign_of kind.CloseParenthesis ∷ Body_symbols

parameters_fit : {parts : Parts} {after : List Word} → Derives (More more.Parameters ∷ Body_symbols) parts after → Fits Body_symbols parts ⊎ Fits Parameter_symbols parts
parameters_fit (left e d) = inl (fits d)
parameters_fit (taken d) = inr (fits d)

abbrev Query_symbols : List GrammarSymbol
Query_symbols =
    sign_of kind.Query ∷ sign_of kind.TraceEquiv ∷ sign_of kind.OpenParenthesis ∷ Inner production.Par ∷ sign_of kind.Comma ∷ Inner production.Par ∷ sign_of kind.CloseParenthesis ∷ sign_of
    kind.Dot ∷ []

query_fits : (parts : Parts) → IsOf production.Query parts → Fits Query_symbols parts
query_fits parts of =
    elim of.one [
      | inl e ↦ fits (subst (λ i. Derives i parts of.after) e of.derived)
      | inr h ↦ absurd h
    ]

-- a declaration whose second part is a token is one of functions or of a process
data IsLong (parts : Parts) : Type 0 where
  of_functions : Fits (sign_of kind.Fun ∷ sign_of kind.Identifier ∷ sign_of kind.Slash ∷ sign_of kind.Number ∷ More more.Functions ∷ sign_of kind.Dot ∷ []) parts → IsLong parts
  of_process : Fits (sign_of kind.Let ∷ sign_of kind.Identifier ∷ More more.Parameters ∷ Body_symbols) parts → IsLong parts

long : (word name : Lexeme) (parts : Parts) → IsOf production.Decl (token word (token name parts)) → IsLong (token word (token name parts))
long word name parts of =
    elim of.one [
      | inl e ↦
          let f : Fits (sign_of kind.Free ∷ Inner production.Ids ∷ More more.Private ∷ sign_of kind.Dot ∷ []) (token word (token name parts)) = fits (at _ e) in
          absurd f.1
      | inr h ↦ elim h [
        | inl e ↦
            let f : Fits (sign_of kind.Const ∷ Inner production.Ids ∷ More more.Private ∷ sign_of kind.Dot ∷ []) (token word (token name parts)) = fits (at _ e) in
            absurd f.1
        | inr h ↦ elim h [
          | inl e ↦ of_functions (fits (at _ e))
          | inr h ↦ elim h [
            | inl e ↦
                let f : Fits (sign_of kind.Reduc ∷ Inner production.Rule ∷ More more.Rules ∷ sign_of kind.Dot ∷ []) (token word (token name parts)) = fits (at _ e) in
                absurd f.1
            | inr h ↦ elim h [
              | inl e ↦ of_process (fits (at _ e))
              | inr h ↦ absurd h
            ]
          ]
        ]
      ]
    ]
  where
    at : (alternative : List GrammarSymbol) → of.items ≡ alternative → Derives alternative (token word (token name parts)) of.after
    at alternative e = subst (λ i. Derives i (token word (token name parts)) of.after) e of.derived

ids_row : (p : Production) (parts : Parts) → IsOf production.Ids parts → IsClean p parts → IsRow production.Sum parts
ids_row p parts of c =
    elim of.one [
      | inl e ↦ row production.Sum p of.derived (ap (holds production.Sum) e) c
      | inr h ↦ absurd h
    ]

sum_row : (p : Production) (parts : Parts) → p ≡ production.Par → IsOf production.Par parts → IsClean p parts → IsRow production.Sum parts
sum_row p parts e of c = par_row parts of (subst (λ x. IsClean x parts) e c)

-- behind parameters
pub first_row :
    (word name bracket close equals : Lexeme) (p q : Production) (ids inside parts : Parts)
    → IsDeclaration (token word (token name (token bracket (within p ids (token close (token equals (within q inside parts))))))) → IsRow production.Sum inside
first_row word name bracket close equals p q ids inside parts (as_query of c) = absurd (query_fits _ of).1.1.1.2.1
first_row word name bracket close equals p q ids inside parts (as_decl of c) =
    elim (long word name _ of) [
      | of_functions f ↦ absurd f.1.1.1
      | of_process f ↦ elim (parameters_fit f.1.1.1) [
        | inl g ↦ absurd g.1.2.1
        | inr g ↦ sum_row q inside g.1.2.1.1.0 g.1.2.1.1.1 c.1.1.1.2.1.1.1
      ]
    ]

-- without parameters
pub second_row : (word name equals : Lexeme) (p : Production) (inside parts : Parts) → IsDeclaration (token word (token name (token equals (within p inside parts)))) → IsRow production.Sum inside
second_row word name equals p inside parts (as_query of c) = let f = query_fits _ of in sum_row p inside f.1.1.1.0 f.1.1.1.1 c.1.1.1.1
second_row word name equals p inside parts (as_decl of c) =
    elim (long word name _ of) [
      | of_functions f ↦ absurd f.1.1.1
      | of_process f ↦ elim (parameters_fit f.1.1.1) [
        | inl g ↦ sum_row p inside g.1.0 g.1.1 c.1.1.1.1
        | inr g ↦ ids_row p inside g.1.1 c.1.1.1.1
      ]
    ]

pub query_rows :
    (word relation bracket comma : Lexeme) (p q : Production) (first second parts : Parts)
    → IsDeclaration (token word (token relation (token bracket (within p first (token comma (within q second parts))))))
    → IsRow production.Sum first × IsRow production.Sum second
query_rows word relation bracket comma p q first second parts (as_query of c) =
    let f = query_fits _ of in
    (sum_row p first f.1.1.1.0 f.1.1.1.1 c.1.1.1.1, sum_row q second f.1.1.1.2.1.0 f.1.1.1.2.1.1 c.1.1.1.2.1.1)
query_rows word relation bracket comma p q first second parts (as_decl of c) =
    elim (long word relation _ of) [
      | of_functions f ↦ absurd f.1.1.1
      | of_process f ↦ elim (parameters_fit f.1.1.1) [
        | inl g ↦ absurd g.1.2.1
        | inr g ↦ absurd g.1.2.1
      ]
    ]

pub no_reduc : (parts : Parts) → first_kind parts ≡ Some kind.Reduc → IsDeclaration parts → ⊥
no_reduc none e d = cc
no_reduc (within p inside parts) e d = cc
no_reduc (token l parts) e (as_decl of c) =
    let k : l.kind ≡ kind.Reduc = cc in
    let h : is_unbuilt production.Decl (record { kind = kind.Reduc; text = l.text; line = l.line; column = l.column }) ≡ false = subst
    (λ x. is_unbuilt production.Decl (record { kind = x; text = l.text; line = l.line; column = l.column }) ≡ false) k c.0 in
    cc
no_reduc (token l parts) e (as_query of c) =
    let k : l.kind ≡ kind.Reduc = cc in
    let h : is_unbuilt production.Query (record { kind = kind.Reduc; text = l.text; line = l.line; column = l.column }) ≡ false = subst
    (λ x. is_unbuilt production.Query (record { kind = x; text = l.text; line = l.line; column = l.column }) ≡ false) k c.0 in
    cc

-- what is not judged yet is the same in declarations and in the query
query_clean : (parts : Parts) → IsClean production.Query parts → IsClean production.Decl parts
query_clean none c = tt
query_clean (token l parts) c = (c.0, query_clean parts c.1)
query_clean (within p inside parts) c = (c.0, c.1, query_clean parts c.2)

pub declaration_clean : (parts : Parts) → IsDeclaration parts → IsClean production.Decl parts
declaration_clean parts (as_decl of c) = c
declaration_clean parts (as_query of c) = query_clean parts c

-- the productions of a file
abbrev pub AreDeclarations : Parts → Type 0
AreDeclarations none = Unit {0}
AreDeclarations (token l parts) = ⊥
AreDeclarations (within p inside parts) = (((p ≡ production.Decl) × IsOf production.Decl inside) ⊎ ((p ≡ production.Query) × IsOf production.Query inside)) × AreDeclarations parts

pub all_declarations : {parts : Parts} {after : List Word} → Derives (More more.Declarations ∷ Inner production.Query ∷ []) parts after → AreDeclarations parts
all_declarations (left e (inner {parts} {after} items one d nothing)) = (inr (refl, record { items = items; one = one; after = words parts ++ after; derived = d }), tt)
all_declarations (taken (inner {parts} {after} items one d rest)) = (inl (refl, record { items = items; one = one; after = words parts ++ after; derived = d }), all_declarations rest)

pub one_declaration :
    (p : Production) (parts : Parts) → ((p ≡ production.Decl) × IsOf production.Decl parts) ⊎ ((p ≡ production.Query) × IsOf production.Query parts) → IsClean p parts → IsDeclaration parts
one_declaration p parts (inl h) c = as_decl h.1 (subst (λ x. IsClean x parts) h.0 c)
one_declaration p parts (inr h) c = as_query h.1 (subst (λ x. IsClean x parts) h.0 c)
