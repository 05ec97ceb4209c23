use Rattle.std.proofs.Common.{◌≡◌, ◌∙◌, ap, sym, length, [], ◌∷◌}
use Rattle.dps_terms.specs.Tree.{list_of}
use Rattle.dps_terms.specs.Replace.{replace, replace_all}
use Rattle.dps_terms.specs.Seen.{seen}
use Rattle.dps_terms.proofs.Preorder.{are_terms_of, forests_of, narrows_of}
use Rattle.dps_terms.proofs.borrowed.TermRef.replaced.Goals as goal

pub instances-requires-clause-terms : goal.instances-requires-clause-terms
instances-requires-clause-terms g c = are_terms_of (seen c.args.self) c.args.self.cells.now (sym c.args.self.again)

pub instances-requires-clause-narrow : goal.instances-requires-clause-narrow
instances-requires-clause-narrow g c = narrows_of (seen c.args.self) c.args.self.cells.now (sym c.args.self.again) c.args.self.narrow

pub into_term-requires : goal.into_term-requires
into_term-requires g c =
    let f = forests_of (seen c.args.self) c.args.self.cells.now (sym c.args.self.again) in
    ap length (c.in_ok-stack.ensures ∙ ap (λ ts. list_of (replace_all (g.R.Replacement.becomes c.args.by.now) ts)) f)

pub returns : goal.returns
returns g c =
    let F = g.R.Replacement.becomes c.args.by.now in
    let f = forests_of (seen c.args.self) c.args.self.cells.now (sym c.args.self.again) in
    let e : c.into_term.result ∷ [] ≡ replace F (seen c.args.self) ∷ [] = sym c.into_term.ensures ∙ (c.in_ok-stack.ensures ∙ ap (λ ts. list_of (replace_all F ts)) f) in
    cc
