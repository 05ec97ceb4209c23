-- Declarations keep programs well formed.
use Rattle.std.proofs.Common.{◌≡◌, ℕ, zero, suc, ◌+◌, Bool, true, false, if◌then◌else◌, List, [], ◌∷◌, ◌++◌, Some, refl, sym, ap, subst, arith, length, take}
use Rattle.std.specs.Prelude.{nat_le, slice_get, ⊤}
use Rattle.std.proofs.lemmas.Option.{none-some, same_Some}
use Rattle.dps_lex.specs.declared.vocabulary.TokenKind.TheVariants as kinds
use Rattle.dps_signature.specs.declared.SymKind.TheVariants.{Constructor}
use Rattle.dps_signature.specs.Signature.{Symbol, Name, Signature}
use Rattle.dps_signature.specs.Names.{with_symbol, with_name}
use Rattle.dps_syntax.specs.Tree.{Lexeme, Parts, none as no_parts, token, inner}
use Rattle.dps_syntax.specs.declared.tree.Decl.{Decl}
use Rattle.dps_syntax.specs.declared.tree.Decl.TheVariants.{Free, Const, Fun, Reduc, Define, Query}
use Rattle.dps_scopes.specs.Outcome.{Outcome, done, faulty, and_then}
use Rattle.dps_scopes.specs.Scopes.{Locals, local_count, most_arguments, is_reserved, declared_meaning, is_unknown}
use Rattle.dps_scopes.specs.Terms.{is_kind}
use Rattle.dps_names.specs.declared.program.Side.{Side}
use Rattle.dps_names.specs.Program.{Program, Definition, WrittenRule, Body, empty, parallel}
use Rattle.dps_names.specs.Rules.{rule}
use Rattle.dps_names.specs.Processes.{number_of, is_among, joined, parallels}
use Rattle.dps_names.specs.Declarations.{with_signature, with_rules, with_definition, with_sides, declaring, declare_names, is_marked_private, names, with_constructor}
use Rattle.dps_names.specs.Declarations.{functions, in_signature, rule_in, rules, parameters, body_of, define_with, define, first_lexeme, first_place, side, query}
use Rattle.dps_names.specs.Declarations.{declaration, declarations, names_of}
use Rattle.dps_names.specs.WellFormed.{IsBodyOver, IsWellFormed}
use Rattle.dps_names.proofs.SignatureGrowth.{Grows, HasTuples, grows_refl, grows_trans, grows_name, tuples_name, grows_symbol, tuples_symbol, tuples_none}
use Rattle.dps_names.proofs.OverGrownSignatures.{body_lasts}
use Rattle.dps_names.proofs.OutcomesOver.{Gives}
use Rattle.dps_names.proofs.RuleSides.{rule_keeps}
use Rattle.dps_names.proofs.FormedProcesses.{IsFront, whole_front, EachIsOver, parallels_join, parallels_over}

-- The process is over so many locals, whatever definitions stand behind these.
pub record IsOverAll (definitions : List Definition) (n : ℕ) (s : Signature) (p : Body) : Type 0 where
  pub over : (all : List Definition) → IsFront definitions all → IsBodyOver s all n p

pub record IsFormed (program : Program) : Type 0 where
  pub tuples : HasTuples program.signature
  pub definitions :
      (k : ℕ) (d : Definition) → slice_get program.definitions k ≡ Some d
      → IsBodyOver program.signature (take k program.definitions) d.parameters d.body
  pub left : IsOverAll program.definitions 0 program.signature program.left.body
  pub right : IsOverAll program.definitions 0 program.signature program.right.body

-- one program has what the other has, and more
pub record Extends (program after : Program) : Type 0 where
  pub grows : Grows program.signature after.signature
  pub front : IsFront program.definitions after.definitions

front_trans : (xs ys zs : List Definition) → IsFront xs ys → IsFront ys zs → IsFront xs zs
front_trans xs ys zs f g = record { kept = λ k d e. g.kept k d (f.kept k d e) }

over_later : (xs ys : List Definition) (n : ℕ) (s t : Signature) (p : Body) → IsFront xs ys → Grows s t → IsOverAll xs n s p → IsOverAll ys n t p
over_later xs ys n s t p f g h = record { over = λ all front. body_lasts s t all g n n (omega arith) p (h.over all (front_trans xs ys all f front)) }

-- what a declaration leads to: a program that holds together, which extends the one before it, and a value that meets P
pub record Ends {A : Type 0} (start : Program) (P : Program → A → Type 0) (a : A) (after : Program) : Type 0 where
  pub formed : IsFormed after
  pub extends : Extends start after
  pub value : P after a

abbrev pub Met : {A : Type 0} → Program → (Program → A → Type 0) → Outcome Program A → Type 0
Met start P (done a after) = Ends start P a after
Met start P (faulty fault) = Unit {0}

pub record Leads {A : Type 0} (start : Program) (P : Program → A → Type 0) (o : Outcome Program A) : Type 0 where
  pub met : Met start P o

abbrev Anything : {A : Type 0} → Program → A → Type 0
Anything program a = ⊤

extends_refl : (p : Program) → Extends p p
extends_refl p = record { grows = grows_refl p.signature; front = whole_front p.definitions }

extends_trans : (p q r : Program) → Extends p q → Extends q r → Extends p r
extends_trans p q r e f = record { grows = grows_trans p.signature q.signature r.signature e.grows f.grows; front = front_trans p.definitions q.definitions r.definitions e.front f.front }

leads_done : {A : Type 0} (p q : Program) (P : Program → A → Type 0) (a : A) → IsFormed q → Extends p q → P q a → Leads p P (done a q)
leads_done p q P a f e h = record { met = record { formed = f; extends = e; value = h } }

leads_later : {A : Type 0} (p q : Program) (P : Program → A → Type 0) (o : Outcome Program A) → Extends p q → Leads q P o → Leads p P o
leads_later p q P (done a after) e h = record { met = record { formed = h.met.formed; extends = extends_trans p q after e h.met.extends; value = h.met.value } }
leads_later p q P (faulty f) e h = record { met = tt }

leads_then :
    {A B : Type 0} (p : Program) (o : Outcome Program A) (next : A → Program → Outcome Program B) (P : Program → A → Type 0) (Q : Program → B → Type 0)
    → Leads p P o → ((a : A) (q : Program) → IsFormed q → Extends p q → P q a → Leads q Q (next a q)) → Leads p Q (and_then o next)
leads_then p (done a q) next P Q h k = leads_later p q Q (next a q) h.met.extends (k a q h.met.formed h.met.extends h.met.value)
leads_then p (faulty f) next P Q h k = record { met = tt }

leads_if : {A : Type 0} (p : Program) (b : Bool) (x y : Outcome Program A) (P : Program → A → Type 0) → (b ≡ true → Leads p P x) → (b ≡ false → Leads p P y) → Leads p P (if b then x else y)
leads_if p true x y P f g = f refl
leads_if p false x y P f g = g refl

-- the program with another part

signed : (p : Program) (s : Signature) → IsFormed p → Grows p.signature s → HasTuples s → IsFormed (with_signature p s)
signed p s h g t = record {
  tuples = t;
  definitions = λ k d e. body_lasts p.signature s (take k p.definitions) g d.parameters d.parameters (omega arith) d.body (h.definitions k d e);
  left = over_later p.definitions p.definitions 0 p.signature s p.left.body (whole_front p.definitions) g h.left;
  right = over_later p.definitions p.definitions 0 p.signature s p.right.body (whole_front p.definitions) g h.right;
}

signed_extends : (p : Program) (s : Signature) → Grows p.signature s → Extends p (with_signature p s)
signed_extends p s g = record { grows = g; front = whole_front p.definitions }

-- one more definition

one_front : (xs : List Definition) (x : Definition) → IsFront xs (xs ++ x ∷ [])
one_front xs x = record { kept = kept xs }
  where
    kept : (xs : List Definition) (k : ℕ) (d : Definition) → slice_get xs k ≡ Some d → slice_get (xs ++ x ∷ []) k ≡ Some d
    kept [] k d e = absurd (none-some d e)
    kept (y ∷ ys) zero d e = e
    kept (y ∷ ys) (suc k) d e = kept ys k d e

-- it is one of the first definitions, or the last
data IsOneOf (xs : List Definition) (x : Definition) (k : ℕ) (d : Definition) : Type 0 where
  early : slice_get xs k ≡ Some d → take k (xs ++ x ∷ []) ≡ take k xs → IsOneOf xs x k d
  last : d ≡ x → take k (xs ++ x ∷ []) ≡ xs → IsOneOf xs x k d

one_of : (xs : List Definition) (x : Definition) (k : ℕ) (d : Definition) → slice_get (xs ++ x ∷ []) k ≡ Some d → IsOneOf xs x k d
one_of [] x zero d e = last (sym (same_Some x d e)) refl
one_of [] x (suc k) d e = absurd (none-some d e)
one_of (y ∷ ys) x zero d e = early e refl
one_of (y ∷ ys) x (suc k) d e =
    elim (one_of ys x k d e) [
      | early f g ↦ early f (ap (λ zs. y ∷ zs) g)
      | last f g ↦ last f (ap (λ zs. y ∷ zs) g)
    ]

defined : (p : Program) (d : Definition) → IsFormed p → IsOverAll p.definitions d.parameters p.signature d.body → IsFormed (with_definition p d)
defined p d h o = record {
  tuples = h.tuples;
  definitions = λ k x e. by k x (one_of p.definitions d k x e);
  left = over_later p.definitions (p.definitions ++ d ∷ []) 0 p.signature p.signature p.left.body (one_front p.definitions d) (grows_refl p.signature) h.left;
  right = over_later p.definitions (p.definitions ++ d ∷ []) 0 p.signature p.signature p.right.body (one_front p.definitions d) (grows_refl p.signature) h.right;
}
  where
    by : (k : ℕ) (x : Definition) → IsOneOf p.definitions d k x → IsBodyOver p.signature (take k (p.definitions ++ d ∷ [])) x.parameters x.body
    by k x (early f g) = subst (λ ds. IsBodyOver p.signature ds x.parameters x.body) (sym g) (h.definitions k x f)
    by k x (last f g) =
        subst
        (λ ds. IsBodyOver p.signature ds x.parameters x.body)
        (sym g)
        (subst (λ (y : Definition). IsBodyOver p.signature p.definitions y.parameters y.body) (sym f) (o.over p.definitions (whole_front p.definitions)))

defined_extends : (p : Program) (d : Definition) → Extends p (with_definition p d)
defined_extends p d = record { grows = grows_refl p.signature; front = one_front p.definitions d }

-- names and functions

declaring_leads : (lexeme : Lexeme) (p : Program) → IsFormed p → Leads p (λ q u. is_reserved lexeme.text ≡ false) (declaring lexeme p)
declaring_leads lexeme p h =
    leads_if p (is_reserved lexeme.text) _ _ (λ q u. is_reserved lexeme.text ≡ false)
    (λ e. record { met = tt })
    (λ e. leads_if p (is_unknown (declared_meaning p.signature p.definitions lexeme.text)) _ _ (λ q u. is_reserved lexeme.text ≡ false)
    (λ f. leads_done p p (λ q u. is_reserved lexeme.text ≡ false) tt h (extends_refl p) e)
    (λ f. record { met = tt }))

declare_names_lead : (is_private : Bool) (parts : Parts) (p : Program) → IsFormed p → Leads p Anything (declare_names is_private parts p)
declare_names_lead is_private no_parts p h = leads_done p p Anything tt h (extends_refl p) tt
declare_names_lead is_private (inner q inside parts) p h = declare_names_lead is_private parts p h
declare_names_lead is_private (token lexeme parts) p h =
    leads_if p (is_kind kinds.Identifier lexeme) _ _ Anything
    (λ e. leads_then p (declaring lexeme p) _ (λ q u. is_reserved lexeme.text ≡ false) Anything (declaring_leads lexeme p h) (λ u q k x f.
    let name : Name = record { name = lexeme.text; is_private = is_private } in
    let g = grows_name q.signature name in
    leads_later q (with_signature q (with_name q.signature name)) Anything _ (signed_extends q (with_name q.signature name) g)
    (declare_names_lead is_private parts (with_signature q (with_name q.signature name)) (signed q (with_name q.signature name) k g (tuples_name q.signature name k.tuples)))))
    (λ e. declare_names_lead is_private parts p h)

names_lead : (parts : Parts) (p : Program) → IsFormed p → Leads p Anything (names parts p)
names_lead (token word (inner q inside parts)) p h = declare_names_lead (is_marked_private parts) inside p h
names_lead _ p h = leads_done p p Anything tt h (extends_refl p) tt

constructor_leads : (name arity : Lexeme) (p : Program) → is_reserved name.text ≡ false → IsFormed p → Leads p Anything (with_constructor name arity p)
constructor_leads name arity p e h =
    let symbol : Symbol = record { name = name.text; kind = Constructor; arity = number_of arity } in
    let g = grows_symbol p.signature symbol in
    leads_if p (nat_le (number_of arity) most_arguments) _ _ Anything
    (λ f. leads_done p (with_signature p (with_symbol p.signature symbol)) Anything tt (signed p (with_symbol p.signature symbol) h g (tuples_symbol p.signature symbol e h.tuples))
    (signed_extends p (with_symbol p.signature symbol) g) tt)
    (λ f. record { met = tt })

functions_lead : (parts : Parts) (p : Program) → IsFormed p → Leads p Anything (functions parts p)
functions_lead (token word (token name (token slash (token arity parts)))) p h =
    leads_then p (declaring name p) _ (λ q u. is_reserved name.text ≡ false) Anything (declaring_leads name p h) (λ u q k x e.
    leads_then q (with_constructor name arity q) _ Anything Anything (constructor_leads name arity q e k) (λ v r l y z. functions_lead parts r l))
functions_lead _ p h = leads_done p p Anything tt h (extends_refl p) tt

-- rules

in_signature_leads : {A : Type 0} (p : Program) (P : Signature → A → Type 0) (o : Outcome Signature A) → IsFormed p → Gives p.signature P o → Leads p (λ q a. P q.signature a) (in_signature p o)
in_signature_leads p P (done a s) h k = leads_done p (with_signature p s) (λ q a. P q.signature a) a (signed p s h k.holds.grows k.holds.tuples) (signed_extends p s k.holds.grows) k.holds.value
in_signature_leads p P (faulty f) h k = record { met = tt }

ruled : (p : Program) (rs : List WrittenRule) → IsFormed p → IsFormed (with_rules p rs)
ruled p rs h = record { tuples = h.tuples; definitions = h.definitions; left = h.left; right = h.right }

ruled_extends : (p : Program) (rs : List WrittenRule) → Extends p (with_rules p rs)
ruled_extends p rs = record { grows = grows_refl p.signature; front = whole_front p.definitions }

rule_in_leads : (p : Program) (parts : Parts) → IsFormed p → Leads p Anything (rule_in p parts)
rule_in_leads p parts h =
    leads_then p (in_signature p (rule p.definitions parts p.signature)) _ (λ q a. ⊤) Anything
    (in_signature_leads p (λ s a. ⊤) (rule p.definitions parts p.signature) h (rule_keeps p.definitions parts p.signature h.tuples)) (λ rs q k x e.
    leads_done q (with_rules q rs) Anything tt (ruled q rs k) (ruled_extends q rs) tt)

rules_lead : (parts : Parts) (p : Program) → IsFormed p → Leads p Anything (rules parts p)
rules_lead no_parts p h = leads_done p p Anything tt h (extends_refl p) tt
rules_lead (token lexeme parts) p h = rules_lead parts p h
rules_lead (inner q inside parts) p h = leads_then p (rule_in p inside) _ Anything Anything (rule_in_leads p inside h) (λ u r k x y. rules_lead parts r k)

-- definitions

parameters_lead : (parts : Parts) (texts : List (List ℕ)) (p : Program) → IsFormed p → Leads p Anything (parameters parts texts p)
parameters_lead no_parts texts p h = leads_done p p Anything texts h (extends_refl p) tt
parameters_lead (inner q inside parts) texts p h = parameters_lead parts texts p h
parameters_lead (token lexeme parts) texts p h =
    leads_if p (is_kind kinds.Identifier lexeme) _ _ Anything
    (λ e. leads_if p (is_among lexeme.text texts) _ _ Anything
    (λ f. record { met = tt })
    (λ f. parameters_lead parts (texts ++ lexeme.text ∷ []) p h))
    (λ e. parameters_lead parts texts p h)

-- the processes are over the locals, whatever definitions stand behind these
pub record AreOverAll (definitions : List Definition) (n : ℕ) (s : Signature) (ps : List Body) : Type 0 where
  pub over : (all : List Definition) → IsFront definitions all → EachIsOver all n s ps

all_over :
    (definitions : List Definition) (n : ℕ) (s : Signature) (o : Outcome Signature (List Body))
    → ((all : List Definition) → IsFront definitions all → Gives s (EachIsOver all n) o) → Gives s (AreOverAll definitions n) o
all_over definitions n s (done ps t) h =
    let whole = h definitions (whole_front definitions) in
    record { holds = record { grows = whole.holds.grows; tuples = whole.holds.tuples; value = record { over = λ all front. (h all front).holds.value } } }
all_over definitions n s (faulty f) h = record { holds = tt }

abbrev BodyIsOver : ℕ → Program → Body → Type 0
BodyIsOver n p b = IsOverAll p.definitions n p.signature b

body_leads : (parts : Parts) (scope : Locals) (p : Program) → IsFormed p → Leads p (BodyIsOver (local_count scope)) (body_of parts scope p)
body_leads parts scope p h =
    let n = local_count scope in
    let o = parallels p.definitions scope parts p.signature in
    leads_then p (in_signature p o) _ (λ q ps. AreOverAll p.definitions n q.signature ps) (BodyIsOver n)
    (in_signature_leads p (AreOverAll p.definitions n) o h (all_over p.definitions n p.signature o (λ all front. parallels_over p.definitions all front scope parts p.signature h.tuples)))
    (λ ps q k e over.
    leads_done q q (BodyIsOver n) (joined parallel ps) k (extends_refl q)
    (record { over = λ all front. parallels_join all n q.signature ps (over.over all (front_trans p.definitions q.definitions all e.front front)) }))

define_with_leads : (name : Lexeme) (texts : List (List ℕ)) (inside : Parts) (p : Program) → IsFormed p → Leads p Anything (define_with name texts inside p)
define_with_leads name texts inside p h =
    leads_then p (body_of inside (texts ∷ []) p) _ (BodyIsOver (local_count (texts ∷ []))) Anything (body_leads inside (texts ∷ []) p h) (λ body q k e over.
    let d : Definition = record { name = name.text; parameters = length texts; body = body } in
    let few : length texts + 0 ≡ length texts = omega arith in
    leads_done q (with_definition q d) Anything tt (defined q d k (subst (λ n. IsOverAll q.definitions n q.signature body) few over)) (defined_extends q d) tt)

define_leads : (parts : Parts) (p : Program) → IsFormed p → Leads p Anything (define parts p)
define_leads (token word (token name (token bracket (inner p ids (token close (token equals (inner q inside parts))))))) program h =
    leads_then program (declaring name program) _ (λ q u. is_reserved name.text ≡ false) Anything (declaring_leads name program h) (λ u r k x e.
    leads_then r (parameters ids [] r) _ Anything Anything (parameters_lead ids [] r k) (λ texts t l y z. define_with_leads name texts inside t l))
define_leads (token word (token name (token equals (inner p inside parts)))) program h =
    leads_then program (declaring name program) _ (λ q u. is_reserved name.text ≡ false) Anything (declaring_leads name program h) (λ u r k x e. define_with_leads name [] inside r k)
define_leads _ program h = leads_done program program Anything tt h (extends_refl program) tt

-- the query

abbrev SideIsOver : Program → Side → Type 0
SideIsOver p s = IsOverAll p.definitions 0 p.signature s.body

side_leads : (parts : Parts) (p : Program) → IsFormed p → Leads p SideIsOver (side parts p)
side_leads parts p h =
    leads_then p (body_of parts [] p) _ (BodyIsOver 0) SideIsOver (body_leads parts [] p h) (λ body q k e over.
    leads_done q q SideIsOver (record { body = body; place = first_place (first_lexeme parts) }) k (extends_refl q) over)

query_leads : (parts : Parts) (p : Program) → IsFormed p → Leads p Anything (query parts p)
query_leads (token word (token relation (token bracket (inner p left (token comma (inner q right parts)))))) program h =
    leads_then program (side left program) _ SideIsOver Anything (side_leads left program h) (λ l r k e first.
    leads_then r (side right r) _ SideIsOver Anything (side_leads right r k) (λ m t k2 f second.
    leads_done t (with_sides t l m) Anything tt
    (record {
      tuples = k2.tuples;
      definitions = k2.definitions;
      left = over_later r.definitions t.definitions 0 r.signature t.signature l.body f.front f.grows first;
      right = second;
    })
    (record { grows = grows_refl t.signature; front = whole_front t.definitions }) tt))
query_leads _ program h = leads_done program program Anything tt h (extends_refl program) tt

-- each declaration

declaration_leads : (decl : Decl) (p : Program) → IsFormed p → Leads p Anything (declaration decl p)
declaration_leads (Free tree) p h = names_lead tree.parts p h
declaration_leads (Const tree) p h = names_lead tree.parts p h
declaration_leads (Fun tree) p h = functions_lead tree.parts p h
declaration_leads (Reduc tree) p h = rules_lead tree.parts p h
declaration_leads (Define tree) p h = define_leads tree.parts p h
declaration_leads (Query tree) p h = query_leads tree.parts p h

declarations_lead : (decls : List Decl) (p : Program) → IsFormed p → Leads p Anything (declarations decls p)
declarations_lead [] p h = leads_done p p Anything tt h (extends_refl p) tt
declarations_lead (decl ∷ decls) p h = leads_then p (declaration decl p) _ Anything Anything (declaration_leads decl p h) (λ u q k x y. declarations_lead decls q k)

empty_formed : IsFormed empty
empty_formed = record {
  tuples = tuples_none empty.signature refl;
  definitions = λ k d e. absurd (none-some d e);
  left = record { over = λ all front. tt };
  right = record { over = λ all front. tt };
}

pub well_formed : (decls : List Decl) (program : Program) → names_of decls ≡ done tt program → IsWellFormed program
well_formed decls program e =
    let h : Leads empty Anything (names_of decls) = declarations_lead decls empty empty_formed in
    let g : Leads empty Anything (done tt program) = subst (λ o. Leads empty Anything o) e h in
    record {
      definitions = g.met.formed.definitions;
      left = g.met.formed.left.over program.definitions (whole_front program.definitions);
      right = g.met.formed.right.over program.definitions (whole_front program.definitions);
    }
