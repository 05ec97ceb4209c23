-- Declarations, one by one.
use Rattle.std.proofs.Common.{◌≡◌, ℕ, ◌+◌, ◌<◌, Bool, true, false, ◌||◌, if◌then◌else◌, List, [], ◌∷◌, ◌++◌, Option, Some, None, Result, Ok, Err, refl, sym, ap, ◌∙◌, length, get_or, drop, subst}
use Rattle.std.specs.Prelude.{position}
use Rattle.std.specs.Str.{bytes_eq}
use Rattle.std.proofs.Math.Seq.{drop-length}
use Rattle.dps_lex.specs.declared.vocabulary.TokenKind.TheVariants as kinds
use Rattle.dps_signature.specs.Signature.{Signature}
use Rattle.dps_signature.specs.Names.{IsIdentifier, symbol_named, name_named}
use Rattle.dps_syntax.specs.declared.tree.Decl.{Decl}
use Rattle.dps_syntax.specs.declared.tree.Part.{Part}
use Rattle.dps_syntax.specs.declared.tree.Part.TheVariants.{Token, Inner}
use Rattle.dps_syntax.specs.Tree.{Lexeme, Derivation, Parts, token}
use Rattle.dps_syntax.specs.Parts.{parts_of}
use Rattle.dps_scopes.specs.declared.fault.NameCause.TheVariants.{NameTwice}
use Rattle.dps_scopes.specs.declared.fault.NameFault.{NameFault}
use Rattle.dps_scopes.specs.declared.fault.NameRefusal.{NameRefusal}
use Rattle.dps_scopes.specs.declared.fault.NameRefusal.TheVariants.{Fault, Memory}
use Rattle.dps_scopes.specs.declared.meaning.Meaning.{Meaning}
use Rattle.dps_scopes.specs.declared.meaning.Meaning.TheVariants.{Unknown as unknown}
use Rattle.dps_scopes.specs.Faults.{place_of}
use Rattle.dps_scopes.specs.Outcome.{Outcome, Answers, done, faulty, and_then, fault_at}
use Rattle.dps_scopes.specs.Scopes.{Locals, is_reserved, begins_as_projection, declared_meaning, function_or_named, named, defined}
use Rattle.dps_scopes.specs.Terms.{is_kind}
use Rattle.dps_scopes.proofs.Rows.{drop_next, at_token, at_inner, at_end}
use Rattle.dps_scopes.proofs.Identifiers.{unreserved}
use Rattle.dps_names.specs.declared.program.Side.{Side}
use Rattle.dps_names.specs.Program.{Program, Definition, WrittenRule, Body, parallel, empty}
use Rattle.dps_names.specs.Processes.{is_among, joined, parallels}
use Rattle.dps_names.specs.Declarations.{declaring, declare_names, is_marked_private, functions, in_signature, rule_in, rules, parameters, body_of, earlier, first_lexeme, declaration, declarations}
use Rattle.dps_names.specs.Answers.{IsRefused}
use Rattle.dps_names.specs.DeclarationShapes.{one_name, one_function, one_parameter, IsFunction, IsNoFunction, AreParameters}

-- What all of a row says follows from what is known after its first pieces, and from those that are left.
pub record Says {S A L : Type 0} (many : L → S → Outcome S A) (all : L) (start : S) (rest : L) (now : S) : Type 0 where
  pub said : many all start ≡ many rest now

assoc : {S A B C : Type 0} (o : Outcome S A) (f : A → S → Outcome S B) (k : B → S → Outcome S C) → and_then (and_then o f) k ≡ and_then o (λ a s. and_then (f a s) k)
assoc (done a s) f k = refl
assoc (faulty fault) f k = refl

chosen : {X : Type 0} (b r : Bool) (x y : X) → r ≡ b → r ≡ true → (if b then x else y) ≡ x
chosen true r x y e t = refl
chosen false r x y e t = cc

otherwise : {X : Type 0} (b r : Bool) (x y : X) → r ≡ b → r ≡ false → (if b then x else y) ≡ y
otherwise true r x y e f = cc
otherwise false r x y e f = refl

-- the declarations of a file

module _ (all : List Decl) (start : Program) where
  pub files_first : Says declarations all start all start
  files_first = record { said = refl }

  pub files_next :
      (xs : List Decl) (i : ℕ) (d x : Decl) (now after : Program) → Says declarations all start (drop i xs) now → i < length xs → get_or xs i d ≡ x
      → declaration x now ≡ done tt after → Says declarations all start (drop (i + 1) xs) after
  files_next xs i d x now after r h e o = record {
    said =
        r.said ∙ (ap (λ ds. declarations ds now) (drop_next xs i d x h e) ∙ ap (λ o. and_then o (λ u after. declarations (drop (i + 1) xs) after)) o);
  }

  pub files_fault :
      (xs : List Decl) (i : ℕ) (d x : Decl) (now : Program) (fault : NameFault) → Says declarations all start (drop i xs) now → i < length xs
      → get_or xs i d ≡ x → declaration x now ≡ faulty fault → declarations all start ≡ faulty fault
  files_fault xs i d x now fault r h e o =
      r.said ∙ (ap (λ ds. declarations ds now) (drop_next xs i d x h e) ∙ ap (λ o. and_then o (λ u after. declarations (drop (i + 1) xs) after)) o)

  pub files_refused :
      (xs : List Decl) (i : ℕ) (d x : Decl) (now next : Program) (refusal : NameRefusal) → Says declarations all start (drop i xs) now → i < length xs
      → get_or xs i d ≡ x → Answers {A = Unit {0}} {R = Unit {0}} (λ _. tt) next (Err refusal) (declaration x now) → Answers {A = Unit {0}} {R = Unit {0}} (λ _. tt) next (Err refusal)
      (declarations all start)
  files_refused xs i d x now next (Fault f) r h e o = files_fault xs i d x now f r h e o
  files_refused xs i d x now next Memory r h e o = tt

  pub files_last : (xs : List Decl) (i : ℕ) (now : Program) → Says declarations all start (drop i xs) now → length xs ≡ i → declarations all start ≡ done tt now
  files_last xs i now r e = r.said ∙ ap (λ ds. declarations ds now) (ap (λ n. drop n xs) (sym e) ∙ drop-length xs)

-- a file that is refused
pub refused_by :
    (decls : List Decl) (start next : Program) (refusal : NameRefusal) → start ≡ empty
    → Answers {A = Unit {0}} {R = Unit {0}} (λ _. tt) next (Err refusal) (declarations decls start) → IsRefused decls refusal
refused_by decls start next (Fault f) e h = ap (declarations decls) (sym e) ∙ h
refused_by decls start next Memory e h = tt

pub ruleset for_files = (files_first, files_next, files_last)

-- texts that may be declared

pub no_projection : (text : List ℕ) → is_reserved text ≡ false → begins_as_projection text ≡ false
no_projection text e = go (begins_as_projection text) _ e
  where
    go : (a b : Bool) → (a || b) ≡ false → a ≡ false
    go true b e = cc
    go false b e = refl

module _ (s : Signature) (ds : List Definition) (text : List ℕ) where
  no_function : (o : Option ℕ) → function_or_named s ds text o ≡ unknown → named s ds text (name_named s text) ≡ unknown
  no_function (Some f) e = cc
  no_function None e = e

  no_name : (o : Option ℕ) → named s ds text o ≡ unknown → defined ds (position (λ d. bytes_eq text d.name) ds) ≡ unknown
  no_name (Some n) e = cc
  no_name None e = e

  no_process : (o : Option ℕ) → defined ds o ≡ unknown → o ≡ None
  no_process (Some n) e = cc
  no_process None e = refl

  pub undefined : (b : Bool) (m : Meaning) → b ≡ is_reserved text → b ≡ false → m ≡ declared_meaning s ds text → m ≡ unknown → position (λ d. bytes_eq text d.name) ds ≡ None
  undefined b m is e f u =
      let plain = no_projection text (sym is ∙ e) in
      let looked : function_or_named s ds text (symbol_named s text) ≡ unknown =
      sym (otherwise (begins_as_projection text) false unknown (function_or_named s ds text (symbol_named s text)) (sym plain) refl) ∙ (sym f ∙ u) in
      no_process _ (no_name _ (no_function _ looked))

pub ruleset for_new_names = (undefined)

-- the mark `private`

pub record IsUnmarked (all rest : Parts) : Type 0 where
  pub same : is_marked_private all ≡ is_marked_private rest

module _ (all : Parts) where
  pub marks_first : IsUnmarked all all
  marks_first = record { same = refl }

  pub marks_inner : (xs : List Part) (i : ℕ) (d : Part) (t : Derivation) → IsUnmarked all (parts_of (drop i xs)) → i < length xs → get_or xs i d ≡ Inner t → IsUnmarked all (parts_of (drop (i + 1) xs))
  marks_inner xs i d t r h e = record { same = r.same ∙ ap is_marked_private (at_inner xs i d t h e) }

  pub marks_token :
      (xs : List Part) (i : ℕ) (d : Part) (l : Lexeme) (b : Bool) → IsUnmarked all (parts_of (drop i xs)) → i < length xs → get_or xs i d ≡ Token l
      → b ≡ is_kind kinds.Private l → b ≡ false → IsUnmarked all (parts_of (drop (i + 1) xs))
  marks_token xs i d l b r h e k f = record {
    same = r.same ∙ (ap is_marked_private (at_token xs i d l h e) ∙ ap (λ c. c || is_marked_private (parts_of (drop (i + 1) xs))) (sym k ∙ f));
  }

  pub marks_found :
      (xs : List Part) (i : ℕ) (d : Part) (l : Lexeme) (b : Bool) → IsUnmarked all (parts_of (drop i xs)) → i < length xs → get_or xs i d ≡ Token l
      → b ≡ is_kind kinds.Private l → b ≡ true → true ≡ is_marked_private all
  marks_found xs i d l b r h e k t = sym (r.same ∙ (ap is_marked_private (at_token xs i d l h e) ∙ ap (λ c. c || is_marked_private (parts_of (drop (i + 1) xs))) (sym k ∙ t)))

  pub marks_last : (xs : List Part) (i : ℕ) → IsUnmarked all (parts_of (drop i xs)) → length xs ≡ i → false ≡ is_marked_private all
  marks_last xs i r e = sym (r.same ∙ ap is_marked_private (at_end xs i e))

pub ruleset for_marks = (marks_first, marks_inner, marks_token, marks_found, marks_last)

-- names

module _ (p : Bool) (all : Parts) (start : Program) where
  pub names_first : Says (declare_names p) all start all start
  names_first = record { said = refl }

  pub names_inner :
      (xs : List Part) (i : ℕ) (d : Part) (t : Derivation) (now : Program) → Says (declare_names p) all start (parts_of (drop i xs)) now
      → i < length xs → get_or xs i d ≡ Inner t → Says (declare_names p) all start (parts_of (drop (i + 1) xs)) now
  names_inner xs i d t now r h e = record { said = r.said ∙ ap (λ ps. declare_names p ps now) (at_inner xs i d t h e) }

  pub names_sign :
      (xs : List Part) (i : ℕ) (d : Part) (l : Lexeme) (b : Bool) (now : Program) → Says (declare_names p) all start (parts_of (drop i xs)) now
      → i < length xs → get_or xs i d ≡ Token l → b ≡ is_kind kinds.Identifier l → b ≡ false
      → Says (declare_names p) all start (parts_of (drop (i + 1) xs)) now
  names_sign xs i d l b now r h e k f = record {
    said = r.said ∙ (ap (λ ps. declare_names p ps now) (at_token xs i d l h e) ∙ otherwise _ b _ _ k f);
  }

  taken :
      (ps : Parts) (l : Lexeme) (b : Bool) (now : Program) → b ≡ is_kind kinds.Identifier l → b ≡ true
      → declare_names p (token l ps) now ≡ and_then (one_name p l now) (λ u after. declare_names p ps after)
  taken ps l b now k t = chosen _ b _ _ k t ∙ sym (assoc (declaring l now) _ _)

  pub names_next :
      (xs : List Part) (i : ℕ) (d : Part) (l : Lexeme) (b : Bool) (now after : Program) → Says (declare_names p) all start (parts_of (drop i xs)) now
      → i < length xs → get_or xs i d ≡ Token l → b ≡ is_kind kinds.Identifier l → b ≡ true → one_name p l now ≡ done tt after
      → Says (declare_names p) all start (parts_of (drop (i + 1) xs)) after
  names_next xs i d l b now after r h e k t o = record {
    said =
        r.said ∙ (ap (λ ps. declare_names p ps now) (at_token xs i d l h e) ∙ (taken (parts_of (drop (i + 1) xs)) l b now k t
        ∙ ap (λ o. and_then o (λ u after. declare_names p (parts_of (drop (i + 1) xs)) after)) o));
  }

  pub names_fault :
      (xs : List Part) (i : ℕ) (d : Part) (l : Lexeme) (b : Bool) (now : Program) (f : NameFault)
      → Says (declare_names p) all start (parts_of (drop i xs)) now → i < length xs → get_or xs i d ≡ Token l → b ≡ is_kind kinds.Identifier l
      → b ≡ true → one_name p l now ≡ faulty f → declare_names p all start ≡ faulty f
  names_fault xs i d l b now f r h e k t o =
      r.said ∙ (ap (λ ps. declare_names p ps now) (at_token xs i d l h e) ∙ (taken (parts_of (drop (i + 1) xs)) l b now k t
      ∙ ap (λ o. and_then o (λ u after. declare_names p (parts_of (drop (i + 1) xs)) after)) o))

  pub names_last : (xs : List Part) (i : ℕ) (now : Program) → Says (declare_names p) all start (parts_of (drop i xs)) now → length xs ≡ i → declare_names p all start ≡ done tt now
  names_last xs i now r e = r.said ∙ ap (λ ps. declare_names p ps now) (at_end xs i e)

pub ruleset for_names = (names_first, names_inner, names_sign, names_next, names_fault, names_last)

-- functions

module _ (all : Parts) (start : Program) where
  pub functions_first : Says functions all start all start
  functions_first = record { said = refl }

  opened :
      (parts behind : Parts) (name arity : Lexeme) (now : Program) → IsFunction parts name arity behind
      → functions parts now ≡ and_then (one_function name arity now) (λ u after. functions behind after)
  opened parts behind name arity now s = ap (λ ps. functions ps now) s.split ∙ sym (assoc (declaring name now) _ _)

  pub functions_next :
      (parts behind : Parts) (name arity : Lexeme) (now after : Program) → Says functions all start parts now → IsFunction parts name arity behind
      → one_function name arity now ≡ done tt after → Says functions all start behind after
  functions_next parts behind name arity now after r s o = record {
    said = r.said ∙ (opened parts behind name arity now s ∙ ap (λ o. and_then o (λ u after. functions behind after)) o);
  }

  pub functions_fault :
      (parts behind : Parts) (name arity : Lexeme) (now : Program) (f : NameFault) → Says functions all start parts now
      → IsFunction parts name arity behind → one_function name arity now ≡ faulty f → functions all start ≡ faulty f
  functions_fault parts behind name arity now f r s o =
      r.said ∙ (opened parts behind name arity now s ∙ ap (λ o. and_then o (λ u after. functions behind after)) o)

  pub functions_refused :
      (parts behind : Parts) (name arity : Lexeme) (now next : Program) (refusal : NameRefusal) → Says functions all start parts now
      → IsFunction parts name arity behind → Answers {A = Unit {0}} {R = Unit {0}} (λ _. tt) next (Err refusal) (one_function name arity now)
      → Answers {A = Unit {0}} {R = Unit {0}} (λ _. tt) next (Err refusal) (functions all start)
  functions_refused parts behind name arity now next (Fault f) r s o = functions_fault parts behind name arity now f r s o
  functions_refused parts behind name arity now next Memory r s o = tt

  pub functions_last : (parts : Parts) (now : Program) → Says functions all start parts now → IsNoFunction parts → functions all start ≡ done tt now
  functions_last parts now r n = r.said ∙ n.says now

pub ruleset for_functions = (functions_first, functions_next, functions_fault, functions_last)

-- rules

module _ (all : Parts) (start : Program) where
  pub rules_first : Says rules all start all start
  rules_first = record { said = refl }

  pub rules_sign :
      (xs : List Part) (i : ℕ) (d : Part) (l : Lexeme) (now : Program) → Says rules all start (parts_of (drop i xs)) now → i < length xs
      → get_or xs i d ≡ Token l → Says rules all start (parts_of (drop (i + 1) xs)) now
  rules_sign xs i d l now r h e = record { said = r.said ∙ ap (λ ps. rules ps now) (at_token xs i d l h e) }

  pub rules_next :
      (xs : List Part) (i : ℕ) (d : Part) (t : Derivation) (now after : Program) → Says rules all start (parts_of (drop i xs)) now → i < length xs
      → get_or xs i d ≡ Inner t → rule_in now t.parts ≡ done tt after → Says rules all start (parts_of (drop (i + 1) xs)) after
  rules_next xs i d t now after r h e o = record {
    said = r.said ∙ (ap (λ ps. rules ps now) (at_inner xs i d t h e) ∙ ap (λ o. and_then o (λ u after. rules (parts_of (drop (i + 1) xs)) after)) o);
  }

  pub rules_fault :
      (xs : List Part) (i : ℕ) (d : Part) (t : Derivation) (now : Program) (f : NameFault) → Says rules all start (parts_of (drop i xs)) now
      → i < length xs → get_or xs i d ≡ Inner t → rule_in now t.parts ≡ faulty f → rules all start ≡ faulty f
  rules_fault xs i d t now f r h e o = r.said ∙ (ap (λ ps. rules ps now) (at_inner xs i d t h e) ∙ ap (λ o. and_then o (λ u after. rules (parts_of (drop (i + 1) xs)) after)) o)

  pub rules_last : (xs : List Part) (i : ℕ) (now : Program) → Says rules all start (parts_of (drop i xs)) now → length xs ≡ i → rules all start ≡ done tt now
  rules_last xs i now r e = r.said ∙ ap (λ ps. rules ps now) (at_end xs i e)

pub ruleset for_rules = (rules_first, rules_sign, rules_next, rules_fault, rules_last)

-- parameters

pub record Lists (all rest : Parts) (texts : List (List ℕ)) : Type 0 where
  pub said : (program : Program) → parameters all [] program ≡ parameters rest texts program

module _ (all : Parts) where
  pub parameters_first : Lists all all []
  parameters_first = record { said = λ program. refl }

  pub parameters_inner :
      (xs : List Part) (i : ℕ) (d : Part) (t : Derivation) (texts : List (List ℕ)) → Lists all (parts_of (drop i xs)) texts → i < length xs
      → get_or xs i d ≡ Inner t → Lists all (parts_of (drop (i + 1) xs)) texts
  parameters_inner xs i d t texts r h e = record { said = λ program. r.said program ∙ ap (λ ps. parameters ps texts program) (at_inner xs i d t h e) }

  pub parameters_sign :
      (xs : List Part) (i : ℕ) (d : Part) (l : Lexeme) (b : Bool) (texts : List (List ℕ)) → Lists all (parts_of (drop i xs)) texts → i < length xs
      → get_or xs i d ≡ Token l → b ≡ is_kind kinds.Identifier l → b ≡ false → Lists all (parts_of (drop (i + 1) xs)) texts
  parameters_sign xs i d l b texts r h e k f = record {
    said = λ program. r.said program ∙ (ap (λ ps. parameters ps texts program) (at_token xs i d l h e) ∙ otherwise _ b _ _ k f);
  }

  abbrev chosen_one : Bool → Lexeme → List (List ℕ) → Outcome (List (List ℕ)) (Unit {0})
  chosen_one c l texts = if c then fault_at NameTwice l else done tt (texts ++ l.text ∷ [])

  abbrev chosen_rest : Bool → Lexeme → List (List ℕ) → Parts → Program → Outcome Program (List (List ℕ))
  chosen_rest c l texts ps program = if c then fault_at NameTwice l else parameters ps (texts ++ l.text ∷ []) program

  added : (ps : Parts) (l : Lexeme) (c : Bool) (texts after : List (List ℕ)) (program : Program) → chosen_one c l texts ≡ done tt after → chosen_rest c l texts ps program ≡ parameters ps after program
  added ps l true texts after program e = cc
  added ps l false texts after program e =
      let same : texts ++ l.text ∷ [] ≡ after = cc in
      ap (λ ts. parameters ps ts program) same

  twice : (ps : Parts) (l : Lexeme) (c : Bool) (texts : List (List ℕ)) (f : NameFault) (program : Program) → chosen_one c l texts ≡ faulty f → chosen_rest c l texts ps program ≡ faulty f
  twice ps l true texts f program e =
      let same : record { place = place_of l; cause = NameTwice } ≡ f = cc in
      ap faulty same
  twice ps l false texts f program e = cc

  pub parameters_next :
      (xs : List Part) (i : ℕ) (d : Part) (l : Lexeme) (b : Bool) (texts after : List (List ℕ)) → Lists all (parts_of (drop i xs)) texts
      → i < length xs → get_or xs i d ≡ Token l → b ≡ is_kind kinds.Identifier l → b ≡ true → one_parameter l texts ≡ done tt after
      → Lists all (parts_of (drop (i + 1) xs)) after
  parameters_next xs i d l b texts after r h e k t o = record {
    said =
        λ program. r.said program ∙ (ap (λ ps. parameters ps texts program) (at_token xs i d l h e) ∙ (chosen _ b _ _ k t
        ∙ added (parts_of (drop (i + 1) xs)) l (is_among l.text texts) texts after program o));
  }

  pub parameters_refused :
      (xs : List Part) (i : ℕ) (d : Part) (l : Lexeme) (b : Bool) (texts after : List (List ℕ)) (refusal : NameRefusal)
      → Lists all (parts_of (drop i xs)) texts → i < length xs → get_or xs i d ≡ Token l → b ≡ is_kind kinds.Identifier l → b ≡ true
      → Answers {A = Unit {0}} {R = Unit {0}} (λ _. tt) after (Err refusal) (one_parameter l texts) → AreParameters all (Err refusal)
  parameters_refused xs i d l b texts after (Fault f) r h e k t o = record {
    answers =
        λ program. r.said program ∙ (ap (λ ps. parameters ps texts program) (at_token xs i d l h e) ∙ (chosen _ b _ _ k t
        ∙ twice (parts_of (drop (i + 1) xs)) l (is_among l.text texts) texts f program o));
  }
  parameters_refused xs i d l b texts after Memory r h e k t o = record { answers = λ program. tt }

  pub parameters_last : (xs : List Part) (i : ℕ) (texts : List (List ℕ)) → Lists all (parts_of (drop i xs)) texts → length xs ≡ i → AreParameters all (Ok texts)
  parameters_last xs i texts r e = record { answers = λ program. r.said program ∙ ap (λ ps. parameters ps texts program) (at_end xs i e) }

pub ruleset for_parameters = (parameters_first, parameters_inner, parameters_sign, parameters_next, parameters_refused, parameters_last)

-- the first token

pub record IsBare (all rest : Parts) : Type 0 where
  pub same : first_lexeme all ≡ first_lexeme rest

module _ (all : Parts) where
  pub leaves_first : IsBare all all
  leaves_first = record { same = refl }

  pub leaves_inner :
      (xs : List Part) (i : ℕ) (d : Part) (t : Derivation) → IsBare all (parts_of (drop i xs)) → i < length xs → get_or xs i d ≡ Inner t
      → first_lexeme t.parts ≡ None → IsBare all (parts_of (drop (i + 1) xs))
  leaves_inner xs i d t r h e n = record { same = r.same ∙ (ap first_lexeme (at_inner xs i d t h e) ∙ ap (λ o. earlier o (first_lexeme (parts_of (drop (i + 1) xs)))) n) }

  pub leaves_token : (xs : List Part) (i : ℕ) (d : Part) (l : Lexeme) → IsBare all (parts_of (drop i xs)) → i < length xs → get_or xs i d ≡ Token l → first_lexeme all ≡ Some l
  leaves_token xs i d l r h e = r.same ∙ ap first_lexeme (at_token xs i d l h e)

  pub leaves_within :
      (xs : List Part) (i : ℕ) (d : Part) (t : Derivation) (l : Lexeme) → IsBare all (parts_of (drop i xs)) → i < length xs → get_or xs i d ≡ Inner t
      → first_lexeme t.parts ≡ Some l → first_lexeme all ≡ Some l
  leaves_within xs i d t l r h e f = r.same ∙ (ap first_lexeme (at_inner xs i d t h e) ∙ ap (λ o. earlier o (first_lexeme (parts_of (drop (i + 1) xs)))) f)

  pub leaves_last : (xs : List Part) (i : ℕ) → IsBare all (parts_of (drop i xs)) → length xs ≡ i → first_lexeme all ≡ None
  leaves_last xs i r e = r.same ∙ ap first_lexeme (at_end xs i e)

pub ruleset for_leaves = (leaves_first, leaves_inner, leaves_token, leaves_within, leaves_last)

-- processes in a draft, of which the signature changes

module _ {R : Type 0} (view : R → List Body) (parts : Parts) (scope : Locals) (before after : Signature) (rs : List WrittenRule) (ds : List Definition) (left right : Side) where
  pub body_told :
      (r : R) (b : Body) → parallels ds scope parts before ≡ done (view r) after → b ≡ joined parallel (view r)
      → body_of parts scope (record { signature = before; rules = rs; definitions = ds; left = left; right = right }) ≡ done b
      (record { signature = after; rules = rs; definitions = ds; left = left; right = right })
  body_told r b e j =
      ap (λ o. and_then (in_signature (record { signature = before; rules = rs; definitions = ds; left = left; right = right }) o) (λ ps program. done (joined parallel ps) program)) e
      ∙ ap (λ p. done p (record { signature = after; rules = rs; definitions = ds; left = left; right = right })) (sym j)

  refused :
      (refusal : NameRefusal) (next : Program) → Answers view after (Err refusal) (parallels ds scope parts before)
      → Answers {A = Body} {R = Body} (λ p. p) next (Err refusal) (body_of parts scope (record { signature = before; rules = rs; definitions = ds; left = left; right = right }))
  refused (Fault f) next e =
      ap (λ o. and_then (in_signature (record { signature = before; rules = rs; definitions = ds; left = left; right = right }) o) (λ ps program. done (joined parallel ps) program)) e
  refused Memory next e = tt

  pub body_refused :
      (r : Result R NameRefusal) (refusal : NameRefusal) (next : Program) → r ≡ Err refusal → Answers view after r (parallels ds scope parts before)
      → Answers {A = Body} {R = Body} (λ p. p) next (Err refusal) (body_of parts scope (record { signature = before; rules = rs; definitions = ds; left = left; right = right }))
  body_refused r refusal next is e = refused refusal next (subst (λ x. Answers view after x (parallels ds scope parts before)) is e)
