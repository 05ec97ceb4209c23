-- Declarations keep rules of files: the signature grows, and there are few more rules.
use Rattle.std.proofs.Common.{◌≡◌, ◌≤◌, ◌<◌, ℕ, ◌+◌, Bool, false, List, [], ◌∷◌, ◌++◌, refl, sym, ap, ◌∙◌, subst, length, arith, length-append}
use Rattle.std.specs.Prelude.{nat_le, All}
use Rattle.std.proofs.lemmas.List.Elements.{All-nil, All-append, All-weaker}
use Rattle.dps_lex.specs.declared.vocabulary.TokenKind.TheVariants as kinds
use Rattle.dps_signature.specs.declared.SymKind.TheVariants.{Constructor}
use Rattle.dps_signature.specs.Signature.{Symbol, Name, Signature}
use Rattle.dps_signature.specs.Names.{with_name}
use Rattle.dps_syntax.specs.declared.tree.Decl.{Decl}
use Rattle.dps_syntax.specs.declared.tree.Decl.TheVariants.{Free, Const, Fun, Reduc, Define, Query}
use Rattle.dps_syntax.specs.Files.{tree_of, trees_of}
use Rattle.dps_syntax.specs.Tree.{Lexeme, Parts, none as no_parts, token, inner, lexemes}
use Rattle.dps_scopes.specs.Outcome.{Outcome, done, faulty, and_then}
use Rattle.dps_scopes.specs.Scopes.{Locals, most_arguments, is_reserved, declared_meaning, is_unknown}
use Rattle.dps_scopes.specs.Terms.{is_kind}
use Rattle.dps_names.specs.Program.{Program, WrittenRule, empty, parallel}
use Rattle.dps_names.specs.Rules.{rule}
use Rattle.dps_names.specs.Processes.{number_of, is_among, joined, parallels}
use Rattle.dps_names.specs.Declarations.{with_signature, declaring, declare_names, is_marked_private, names, with_constructor, functions, in_signature, rule_in, rules}
use Rattle.dps_names.specs.Declarations.{parameters, body_of, define_with, define, first_lexeme, first_place, side, query, declaration, declarations, names_of}
use Rattle.dps_names.proofs.SignatureGrowth.{Grows, HasTuples, grows_refl, grows_trans, grows_name, tuples_name, grows_symbol, tuples_symbol, tuples_none}
use Rattle.dps_names.proofs.Outcomes.{OnDone, on_then, on_if, on_weaker}
use Rattle.dps_names.proofs.RuleSides.{IsRuleOfFile, ReadsRules, rule_stays, rule_read}
use Rattle.dps_names.proofs.FormedProcesses.{parallels_over, whole_front}
use Rattle.dps_names.proofs.OutcomesOver.{Gives}

-- what declares no rule: the signature grew, and the rules are those that were there
pub record KeepsRules {A : Type 0} (start : Program) (a : A) (after : Program) : Type 0 where
  pub grows : Grows start.signature after.signature
  pub tuples : HasTuples after.signature
  pub rules : after.rules ≡ start.rules

keep_here : {A : Type 0} (p : Program) (a : A) → HasTuples p.signature → OnDone (done a p) (KeepsRules p)
keep_here p a h = record { holds = record { grows = grows_refl p.signature; tuples = h; rules = refl } }

keep_later : {A : Type 0} (p q : Program) (o : Outcome Program A) → Grows p.signature q.signature → q.rules ≡ p.rules → OnDone o (KeepsRules q) → OnDone o (KeepsRules p)
keep_later p q o g e h =
    on_weaker o (KeepsRules q) (KeepsRules p) (λ a s r. record { grows = grows_trans p.signature q.signature s.signature g r.grows; tuples = r.tuples; rules = r.rules ∙ e }) h

keep_then :
    {A B : Type 0} (p : Program) (o : Outcome Program A) (next : A → Program → Outcome Program B) → OnDone o (KeepsRules p)
    → ((a : A) (q : Program) → HasTuples q.signature → OnDone (next a q) (KeepsRules q)) → OnDone (and_then o next) (KeepsRules p)
keep_then p o next h k = on_then o next (KeepsRules p) (KeepsRules p) h (λ a q r. keep_later p q (next a q) r.grows r.rules (k a q r.tuples))

-- the text is not reserved, too
record Declares (text : List ℕ) (start : Program) (a : Unit {0}) (after : Program) : Type 0 where
  keeps : KeepsRules start a after
  free : is_reserved text ≡ false

declaring_keeps : (lexeme : Lexeme) (p : Program) → HasTuples p.signature → OnDone (declaring lexeme p) (Declares lexeme.text p)
declaring_keeps lexeme p h =
    on_if (is_reserved lexeme.text) _ _ (Declares lexeme.text p) (λ e. record { holds = tt })
    (λ e. on_if (is_unknown (declared_meaning p.signature p.definitions lexeme.text)) _ _ (Declares lexeme.text p)
    (λ f. record { holds = record { keeps = record { grows = grows_refl p.signature; tuples = h; rules = refl }; free = e } })
    (λ f. record { holds = tt }))

declaring_then :
    {B : Type 0} (lexeme : Lexeme) (p : Program) (next : Unit {0} → Program → Outcome Program B) → HasTuples p.signature
    → ((u : Unit {0}) (q : Program) → HasTuples q.signature → is_reserved lexeme.text ≡ false → OnDone (next u q) (KeepsRules q))
    → OnDone (and_then (declaring lexeme p) next) (KeepsRules p)
declaring_then lexeme p next h k =
    on_then
    (declaring lexeme p)
    next
    (Declares lexeme.text p)
    (KeepsRules p)
    (declaring_keeps lexeme p h)
    (λ u q r. keep_later p q (next u q) r.keeps.grows r.keeps.rules (k u q r.keeps.tuples r.free))

declare_names_keep : (is_private : Bool) (parts : Parts) (p : Program) → HasTuples p.signature → OnDone (declare_names is_private parts p) (KeepsRules p)
declare_names_keep is_private no_parts p h = keep_here p tt h
declare_names_keep is_private (inner q inside parts) p h = declare_names_keep is_private parts p h
declare_names_keep is_private (token lexeme parts) p h =
    on_if (is_kind kinds.Identifier lexeme) _ _ (KeepsRules p)
    (λ e. declaring_then lexeme p _ h (λ u q k free.
    let new : Name = record { name = lexeme.text; is_private = is_private } in
    let next = with_signature q (with_name q.signature new) in
    keep_later q next (declare_names is_private parts next) (grows_name q.signature new) refl (declare_names_keep is_private parts next (tuples_name q.signature new k))))
    (λ e. declare_names_keep is_private parts p h)

names_keep : (parts : Parts) (p : Program) → HasTuples p.signature → OnDone (names parts p) (KeepsRules p)
names_keep (token word (inner q inside parts)) p h = declare_names_keep (is_marked_private parts) inside p h
names_keep _ p h = keep_here p tt h

constructor_keeps : (name arity : Lexeme) (p : Program) → is_reserved name.text ≡ false → HasTuples p.signature → OnDone (with_constructor name arity p) (KeepsRules p)
constructor_keeps name arity p free h =
    let new : Symbol = record { name = name.text; kind = Constructor; arity = number_of arity } in
    on_if (nat_le (number_of arity) most_arguments) _ _ (KeepsRules p)
    (λ e. record { holds = record { grows = grows_symbol p.signature new; tuples = tuples_symbol p.signature new free h; rules = refl } })
    (λ e. record { holds = tt })

functions_keep : (parts : Parts) (p : Program) → HasTuples p.signature → OnDone (functions parts p) (KeepsRules p)
functions_keep (token word (token name (token slash (token arity parts)))) p h =
    declaring_then name p _ h (λ u q k free.
    keep_then q (with_constructor name arity q) _ (constructor_keeps name arity q free k) (λ v r l. functions_keep parts r l))
functions_keep _ p h = keep_here p tt h

parameters_keep : (parts : Parts) (texts : List (List ℕ)) (p : Program) → HasTuples p.signature → OnDone (parameters parts texts p) (KeepsRules p)
parameters_keep no_parts texts p h = keep_here p texts h
parameters_keep (inner q inside parts) texts p h = parameters_keep parts texts p h
parameters_keep (token lexeme parts) texts p h =
    on_if (is_kind kinds.Identifier lexeme) _ _ (KeepsRules p)
    (λ e. on_if (is_among lexeme.text texts) _ _ (KeepsRules p) (λ f. record { holds = tt }) (λ f. parameters_keep parts (texts ++ lexeme.text ∷ []) p h))
    (λ e. parameters_keep parts texts p h)

-- processes

in_signature_keeps : {A : Type 0} (p : Program) (P : Signature → A → Type 0) (o : Outcome Signature A) → Gives p.signature P o → OnDone (in_signature p o) (KeepsRules p)
in_signature_keeps p P (done a s) h = record { holds = record { grows = h.holds.grows; tuples = h.holds.tuples; rules = refl } }
in_signature_keeps p P (faulty fault) h = record { holds = tt }

body_keeps : (parts : Parts) (scope : Locals) (p : Program) → HasTuples p.signature → OnDone (body_of parts scope p) (KeepsRules p)
body_keeps parts scope p h =
    keep_then p (in_signature p (parallels p.definitions scope parts p.signature)) _
    (in_signature_keeps p _ (parallels p.definitions scope parts p.signature) (parallels_over p.definitions p.definitions (whole_front p.definitions) scope parts p.signature h))
    (λ ps q k. keep_here q (joined parallel ps) k)

define_with_keeps : (name : Lexeme) (texts : List (List ℕ)) (inside : Parts) (p : Program) → HasTuples p.signature → OnDone (define_with name texts inside p) (KeepsRules p)
define_with_keeps name texts inside p h =
    keep_then p (body_of inside (texts ∷ []) p) _ (body_keeps inside (texts ∷ []) p h) (λ body q k. record { holds = record { grows = grows_refl q.signature; tuples = k; rules = refl } })

define_keeps : (parts : Parts) (p : Program) → HasTuples p.signature → OnDone (define parts p) (KeepsRules p)
define_keeps (token word (token name (token bracket (inner p ids (token close (token equals (inner q inside parts))))))) program h =
    declaring_then name program _ h (λ u next k free.
    keep_then next (parameters ids [] next) _ (parameters_keep ids [] next k) (λ texts after l. define_with_keeps name texts inside after l))
define_keeps (token word (token name (token equals (inner p inside parts)))) program h =
    declaring_then name program _ h (λ u after k free. define_with_keeps name [] inside after k)
define_keeps _ program h = keep_here program tt h

side_keeps : (parts : Parts) (p : Program) → HasTuples p.signature → OnDone (side parts p) (KeepsRules p)
side_keeps parts p h = keep_then p (body_of parts [] p) _ (body_keeps parts [] p h) (λ body q k. keep_here q (record { body = body; place = first_place (first_lexeme parts) }) k)

query_keeps : (parts : Parts) (p : Program) → HasTuples p.signature → OnDone (query parts p) (KeepsRules p)
query_keeps (token word (token relation (token bracket (inner p left (token comma (inner q right parts)))))) program h =
    keep_then program (side left program) _ (side_keeps left program h) (λ l next k.
    keep_then next (side right next) _ (side_keeps right next k) (λ r after m. record { holds = record { grows = grows_refl after.signature; tuples = m; rules = refl } }))
query_keeps _ program h = keep_here program tt h

-- rules

pub record HasRulesOfFile (m : ℕ) (p : Program) : Type 0 where
  pub tuples : HasTuples p.signature
  pub rules : All (λ w. IsRuleOfFile m p.signature w.rule) p.rules

-- at most so many more rules
pub record AddsRules (many m : ℕ) (start : Program) (a : Unit {0}) (after : Program) : Type 0 where
  pub held : HasRulesOfFile m after
  pub few : length after.rules ≤ length start.rules + many

all_stay : (m : ℕ) (s t : Signature) → Grows s t → (rs : List WrittenRule) → All (λ w. IsRuleOfFile m s w.rule) rs → All (λ w. IsRuleOfFile m t w.rule) rs
all_stay m s t g rs h = All-weaker (λ (w : WrittenRule). IsRuleOfFile m s w.rule) (λ (w : WrittenRule). IsRuleOfFile m t w.rule) (λ w k. rule_stays m s t g w.rule k) rs h

none_added : (many m : ℕ) (p : Program) (o : Outcome Program (Unit {0})) → HasRulesOfFile m p → OnDone o (KeepsRules p) → OnDone o (AddsRules many m p)
none_added many m p o h k =
    on_weaker o (KeepsRules p) (AddsRules many m p)
    (λ a q r.
    let same = ap length r.rules in
    record {
      held = record {
        tuples = r.tuples;
        rules = subst (λ rs. All (λ (w : WrittenRule). IsRuleOfFile m q.signature w.rule) rs) (sym r.rules) (all_stay m p.signature q.signature r.grows p.rules h.rules);
      };
      few = omega arith;
    })
    k

adds_here : (many m : ℕ) (p : Program) → HasRulesOfFile m p → OnDone (done tt p) (AddsRules many m p)
adds_here many m p h = record { holds = record { held = h; few = omega arith } }

adds_later : (j k many m : ℕ) (p q : Program) (o : Outcome Program (Unit {0})) → length q.rules ≤ length p.rules + j → j + k ≤ many → OnDone o (AddsRules k m q) → OnDone o (AddsRules many m p)
adds_later j k many m p q o few fit h = on_weaker o (AddsRules k m q) (AddsRules many m p) (λ a s r. let later = r.few in record { held = r.held; few = omega arith }) h

-- what a rule adds to a program
record ReadsInProgram (many m : ℕ) (start : Program) (rs : List WrittenRule) (after : Program) : Type 0 where
  keeps : KeepsRules start rs after
  few : length rs ≤ many
  rules : All (λ w. IsRuleOfFile m after.signature w.rule) rs

module _ (m : ℕ) where
  in_signature_reads : (many : ℕ) (p : Program) (o : Outcome Signature (List WrittenRule)) → OnDone o (ReadsRules many m p.signature) → OnDone (in_signature p o) (ReadsInProgram many m p)
  in_signature_reads many p (done rs s) h = record { holds = record { keeps = record { grows = h.holds.grows; tuples = h.holds.tuples; rules = refl }; few = h.holds.few; rules = h.holds.rules } }
  in_signature_reads many p (faulty fault) h = record { holds = tt }

  rule_in_adds : (p : Program) (parts : Parts) → HasRulesOfFile m p → length (lexemes parts) < m → OnDone (rule_in p parts) (AddsRules (length (lexemes parts)) m p)
  rule_in_adds p parts h few =
      let many = length (lexemes parts) in
      on_then (in_signature p (rule p.definitions parts p.signature)) _ (ReadsInProgram many m p) (AddsRules many m p)
      (in_signature_reads many p (rule p.definitions parts p.signature) (rule_read p.definitions m parts p.signature h.tuples few))
      (λ rs q r.
      let same = ap length r.keeps.rules in
      let all = length-append q.rules rs in
      let more = r.few in
      record {
        holds = record {
          held = record {
            tuples = r.keeps.tuples;
            rules =
                All-append (λ (w : WrittenRule). IsRuleOfFile m q.signature w.rule) q.rules rs
                (subst (λ xs. All (λ (w : WrittenRule). IsRuleOfFile m q.signature w.rule) xs) (sym r.keeps.rules) (all_stay m p.signature q.signature r.keeps.grows p.rules h.rules))
                r.rules;
          };
          few = omega arith;
        };
      })

  rules_add : (parts : Parts) (p : Program) → HasRulesOfFile m p → length (lexemes parts) < m → OnDone (rules parts p) (AddsRules (length (lexemes parts)) m p)
  rules_add no_parts p h few = adds_here 0 m p h
  rules_add (token lexeme parts) p h few =
      adds_later 0 (length (lexemes parts)) (length (lexemes (token lexeme parts))) m p p (rules parts p) (omega arith) (omega arith) (rules_add parts p h (omega arith))
  rules_add (inner q inside parts) p h few =
      let all = length-append (lexemes inside) (lexemes parts) in
      on_then (rule_in p inside) _ (AddsRules (length (lexemes inside)) m p) (AddsRules (length (lexemes (inner q inside parts))) m p)
      (rule_in_adds p inside h (omega arith))
      (λ u after r. adds_later (length (lexemes inside)) (length (lexemes parts)) (length (lexemes (inner q inside parts))) m p after (rules parts after) r.few (omega arith)
      (rules_add parts after r.held (omega arith)))

  declaration_adds : (decl : Decl) (p : Program) → HasRulesOfFile m p → length (lexemes (tree_of decl).parts) < m → OnDone (declaration decl p) (AddsRules (length (lexemes (tree_of decl).parts)) m p)
  declaration_adds (Free tree) p h few = none_added (length (lexemes tree.parts)) m p (names tree.parts p) h (names_keep tree.parts p h.tuples)
  declaration_adds (Const tree) p h few = none_added (length (lexemes tree.parts)) m p (names tree.parts p) h (names_keep tree.parts p h.tuples)
  declaration_adds (Fun tree) p h few = none_added (length (lexemes tree.parts)) m p (functions tree.parts p) h (functions_keep tree.parts p h.tuples)
  declaration_adds (Reduc tree) p h few = rules_add tree.parts p h few
  declaration_adds (Define tree) p h few = none_added (length (lexemes tree.parts)) m p (define tree.parts p) h (define_keeps tree.parts p h.tuples)
  declaration_adds (Query tree) p h few = none_added (length (lexemes tree.parts)) m p (query tree.parts p) h (query_keeps tree.parts p h.tuples)

  declarations_add : (decls : List Decl) (p : Program) → HasRulesOfFile m p → length (lexemes (trees_of decls)) < m → OnDone (declarations decls p) (AddsRules (length (lexemes (trees_of decls))) m p)
  declarations_add [] p h few = adds_here 0 m p h
  declarations_add (decl ∷ decls) p h few =
      let first = length (lexemes (tree_of decl).parts) in
      let rest = length (lexemes (trees_of decls)) in
      let all = length-append (lexemes (tree_of decl).parts) (lexemes (trees_of decls)) in
      on_then (declaration decl p) _ (AddsRules first m p) (AddsRules (length (lexemes (trees_of (decl ∷ decls)))) m p)
      (declaration_adds decl p h (omega arith))
      (λ u after r. adds_later first rest (length (lexemes (trees_of (decl ∷ decls)))) m p after (declarations decls after) r.few (omega arith) (declarations_add decls after r.held (omega arith)))

-- the rules of declarations, of which there are at most as many as tokens
pub rules_of_file :
    (m : ℕ) (decls : List Decl) (program : Program) → length (lexemes (trees_of decls)) < m → names_of decls ≡ done tt program
    → AddsRules (length (lexemes (trees_of decls))) m empty tt program
rules_of_file m decls program few e =
    let start : HasRulesOfFile m empty = record { tuples = tuples_none empty.signature refl; rules = All-nil (λ (w : WrittenRule). IsRuleOfFile m empty.signature w.rule) } in
    let h : OnDone (names_of decls) (AddsRules (length (lexemes (trees_of decls))) m empty) = declarations_add m decls empty start few in
    let g : OnDone (done tt program) (AddsRules (length (lexemes (trees_of decls))) m empty) = subst (λ o. OnDone o (AddsRules (length (lexemes (trees_of decls))) m empty)) e h in
    g.holds
