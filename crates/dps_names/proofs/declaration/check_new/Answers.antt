use Rattle.std.proofs.Common.{◌≡◌, ap, sym, ◌∙◌, None, false, subst}
use Rattle.std.specs.Prelude.{position}
use Rattle.std.specs.Str.{bytes_eq}
use Rattle.dps_signature.specs.Signature.{Signature}
use Rattle.dps_signature.specs.Names.{IsDeclaredText}
use Rattle.dps_syntax.specs.Tree.{Lexeme}
use Rattle.dps_scopes.specs.Scopes.{is_reserved}
use Rattle.dps_scopes.proofs.Undeclared.{IsNoDeclaration, not_declared}
use Rattle.dps_names.specs.Program.{Program, Definition}
use Rattle.dps_names.proofs.Declaring.{no_projection, undefined}
use Rattle.dps_names.proofs.declaration.check_new.Goals as goal

pub returns-in-Unknown-clause-free : goal.returns-in-Unknown-clause-free
returns-in-Unknown-clause-free c =
    let text : c.as_str-text.result.now ≡ c.args.leaf.now.text = c.as_str-text.ensures.value ∙ ap (λ (v : Lexeme). v.text) c.leaf.view_is in
    subst (λ t. is_reserved t ≡ false) text (sym c.is_reserved.ensures ∙ c.if-is_reserved.false)

pub returns-in-Unknown-clause-undeclared : goal.returns-in-Unknown-clause-undeclared
returns-in-Unknown-clause-undeclared c =
    let text : c.as_str-text.result.now ≡ c.args.leaf.now.text = c.as_str-text.ensures.value ∙ ap (λ (v : Lexeme). v.text) c.leaf.view_is in
    let signature : c.draft.inside.signature ≡ c.args.draft.now.signature = ap (λ (v : Program). v.signature) c.draft.view_is in
    let plain = no_projection c.as_str-text.result.now (sym c.is_reserved.ensures ∙ c.if-is_reserved.false) in
    subst (λ (s : Signature). ¬ IsDeclaredText s c.args.leaf.now.text) signature
    (subst (λ t. ¬ IsDeclaredText c.draft.inside.signature t) text
    (not_declared c.draft.inside.signature c.draft.inside.definitions c.as_str-text.result.now c.declared_meaning.result c.declared_meaning.ensures.found
    (subst IsNoDeclaration (sym c.in-Unknown.is) tt) plain))

pub returns-in-Unknown-clause-fresh : goal.returns-in-Unknown-clause-fresh
returns-in-Unknown-clause-fresh c =
    let text : c.as_str-text.result.now ≡ c.args.leaf.now.text = c.as_str-text.ensures.value ∙ ap (λ (v : Lexeme). v.text) c.leaf.view_is in
    let definitions : c.draft.inside.definitions ≡ c.args.draft.now.definitions = ap (λ (v : Program). v.definitions) c.draft.view_is in
    subst (λ ds. position (λ (d : Definition). bytes_eq c.args.leaf.now.text d.name) ds ≡ None) definitions
    (subst (λ t. position (λ (d : Definition). bytes_eq t d.name) c.draft.inside.definitions ≡ None) text
    (undefined c.draft.inside.signature c.draft.inside.definitions c.as_str-text.result.now c.is_reserved.result c.declared_meaning.result c.is_reserved.ensures c.if-is_reserved.false
    c.declared_meaning.ensures.found c.in-Unknown.is))
