-- The rules of a text meet what rules have to meet before they are checked.
use Rattle.std.proofs.Common.{◌≡◌, ◌≤◌, ◌<◌, ◌^◌, ℕ, suc, false, List, Option, Some, sym, ap, ◌∙◌, inl, inr, length, map, arith, length-append, unwrap_or}
use Rattle.std.specs.Prelude.{All, Contains, slice_get, ◌≢◌}
use Rattle.std.proofs.lemmas.Option.{none-some, same_Some}
use Rattle.std.proofs.lemmas.List.{length-map}
use Rattle.std.proofs.lemmas.List.Elements.{All-weaker, All-map, All-contains_itself}
use Rattle.dps_lex.specs.declared.vocabulary.Token.{Token}
use Rattle.dps_lex.specs.declared.vocabulary.Fault.{Fault}
use Rattle.dps_lex.specs.Reading.{Reads, end, gap, token, fault}
use Rattle.dps_lex.proofs.Classes.{lexeme_long}
use Rattle.dps_terms.specs.declared.Sym.{Sym}
use Rattle.dps_terms.specs.Tree.{Tree, leaf, app}
use Rattle.dps_signature.specs.Signature.{Signature, HasArity, shapes}
use Rattle.dps_signature.specs.Names.{projection_name, symbol_named}
use Rattle.dps_terms.proofs.Building.{leaf_meets}
use Rattle.dps_theory.specs.Theory.{Rule}
use Rattle.dps_theory.specs.Judging.{root_of}
use Rattle.dps_theory.specs.Overlaps.{HasSmallVariables}
use Rattle.dps_theory.specs.Projections.{symbol_with, projections}
use Rattle.dps_theory.specs.Conditions.{IsRuleOver, IsPlainRule, HasNoProjection, AreCheckable}
use Rattle.dps_theory.proofs.TupleRules.{IsProjection, is_projection}
use Rattle.dps_syntax.specs.Tree.{lexemes}
use Rattle.dps_syntax.specs.Files.{lexeme_at, trees_of}
use Rattle.dps_scopes.specs.Scopes.{begins_as_projection}
use Rattle.dps_names.specs.Program.{Program, WrittenRule}
use Rattle.dps_names.specs.Laws.{RulesAreCheckable}
use Rattle.dps_names.proofs.SignatureGrowth.{HasTuples, has_projections, symbol_found}
use Rattle.dps_names.proofs.RuleTerms.{IsLeafOfRule, term_over, term_plain}
use Rattle.dps_names.proofs.RuleSides.{HasFreeRoot, IsRuleOfFile}
use Rattle.dps_names.proofs.RuleDeclarations.{rules_of_file}

-- a text has at most as many tokens as bytes
tokens_few : {before rest : List ℕ} {tokens : List Token} {stop : Option Fault} → Reads before rest tokens stop → length tokens ≤ length rest
tokens_few end = omega arith
tokens_few (gap {rest} {text} {after} e g r) = omega (arith, ap length e, length-append text after, tokens_few r)
tokens_few (token {rest} {text} {after} e first is r) = omega (arith, ap length e, length-append text after, lexeme_long first.lexeme, tokens_few r)
tokens_few (fault b) = omega arith

-- no root of a file's rule is a projection
no_projection : (s : Signature) (t : Tree) (f : Sym) (i n : ℕ) → HasFreeRoot s t → symbol_named s (projection_name i n) ≡ Some f.number → ¬ (Some f ≡ root_of t)
no_projection s (leaf x) f i n free e d = none-some f (sym d)
no_projection s (app g ts) f i n free e d =
    let same : f ≡ g = same_Some f g d in
    let found = symbol_found s (projection_name i n) f.number e in
    let one : found.0 ≡ free.symbol = same_Some found.0 free.symbol (sym found.1 ∙ (ap (λ (h : Sym). slice_get s.symbols h.number) same ∙ free.at)) in
    let clash : begins_as_projection (projection_name i n) ≡ false = ap begins_as_projection (found.2 ∙ ap (λ x. x.name) one) ∙ free.free in
    cc

apart : (m : ℕ) (s : Signature) (r p : Rule) → HasTuples s → IsRuleOfFile m s r → IsProjection s p → ¬ (root_of p.left ≡ root_of r.left)
apart m s r p tuples h d e =
    let there = (has_projections s tuples).destructors d.n d.f d.i d.low d.high d.tuple d.place_low d.place_high in
    let number : unwrap_or (symbol_named s (projection_name d.i d.n)) 0 ≡ there.0 = ap (λ o. unwrap_or o 0) there.1 in
    no_projection s r.left (symbol_with s (projection_name d.i d.n)) d.i d.n h.root (there.1 ∙ ap (λ k. Some k) (sym number)) (sym (ap (λ (q : Rule). root_of q.left) d.is) ∙ e)

has_no_projection : (m : ℕ) (s : Signature) (r : Rule) → HasTuples s → IsRuleOfFile m s r → HasNoProjection s r
has_no_projection m s r tuples h =
    All-weaker (Contains (projections s)) (λ (p : Rule). root_of p.left ≢ root_of r.left) (λ p c. apart m s r p tuples h (is_projection s p c)) (projections s) (All-contains_itself (projections s))

has_small_variables : (m : ℕ) (s : Signature) (r : Rule) → m ≤ 2 ^ 32 → IsRuleOfFile m s r → HasSmallVariables r
has_small_variables m s r few h = λ n stands. elim stands [
  | inl d ↦ let small : n < m = leaf_meets (IsLeafOfRule s m) (HasArity (shapes s)) h.left d in omega (arith, small, few)
  | inr d ↦ let small : n < m = leaf_meets (IsLeafOfRule s m) (HasArity (shapes s)) h.right d in omega (arith, small, few)
]

pub checkable :
    (m : ℕ) (program : Program) → m ≤ 2 ^ 32 → length program.rules < 2 ^ 24 → HasTuples program.signature
    → All (λ w. IsRuleOfFile m program.signature w.rule) program.rules → AreCheckable program.signature (map (λ r. r.rule) program.rules)
checkable m program small few tuples rules =
    let s = program.signature in
    let same = length-map program.rules (λ (w : WrittenRule). w.rule) in
    record {
      few = omega (arith, same, few);
      over = each (IsRuleOver s) (λ r h. (term_over m s r.left h.left, term_over m s r.right h.right));
      plain = each IsPlainRule (λ r h. (term_plain m s r.left h.left, term_plain m s r.right h.right));
      small = each HasSmallVariables (λ r h. has_small_variables m s r small h);
      projections_there = has_projections s tuples;
      no_projection = each (HasNoProjection s) (λ r h. has_no_projection m s r tuples h);
    }
  where
    each : (P : Rule → Type 0) → ((r : Rule) → IsRuleOfFile m program.signature r → P r) → All P (map (λ r. r.rule) program.rules)
    each P k =
        All-map
        P
        (λ (w : WrittenRule). w.rule)
        program.rules
        (All-weaker (λ (w : WrittenRule). IsRuleOfFile m program.signature w.rule) (λ (w : WrittenRule). P w.rule) (λ w h. k w.rule h) program.rules rules)

-- the rules of a text
pub rules_checkable : RulesAreCheckable
rules_checkable = λ bytes decls program short tree named.
    let spelled : length (lexemes (trees_of decls)) ≡ length tree.tokens = ap length tree.spelled ∙ length-map tree.tokens (lexeme_at bytes) in
    let tokens = tokens_few tree.reading in
    let h = rules_of_file (suc (length bytes)) decls program (omega arith) named in
    let few = h.few in
    checkable (suc (length bytes)) program (omega arith) (omega arith) h.held.tuples h.held.rules
