use Rattle.std.proofs.Common.{◌≡◌, ℕ, ◌<◌, ◌≤◌, length, Some, ap, ◌∙◌, sym, arith}
use Rattle.std.specs.Prelude.{slice_get}
use Rattle.std.proofs.lemmas.Option.{slice_get-get_or}
use Rattle.dps_book.specs.Ledger.{Ledger}
use Rattle.dps_book.specs.Journal.{claims_by}
use Rattle.dps_book.proofs.Counts.{unknown-claims}
use Rattle.dps_book.proofs.book.Book.claims.Goals as goal

pub returns-then-place-len : goal.returns-then-place-len
returns-then-place-len c =
    let k = c.self.invariant.0 in
    let l : length c.self.inside.holds.items ≤ c.args.worker = omega (arith, k.same_workers, c.self.inside.claims.ok) in
    sym (unknown-claims (length c.self.inside.holds.items) c.args.worker c.self.inside.journal.items l k.known) ∙ ap (λ (x : Ledger). claims_by c.args.worker x.journal) c.self.view_is

pub returns : goal.returns
returns c =
    let claims = c.self.inside.claims.items in
    let l : c.args.worker < length claims = omega (arith, c.self.inside.claims.ok) in
    let e : slice_get claims c.args.worker ≡ Some c.index.result.now = slice_get-get_or claims c.args.worker c.index.result.now l ∙ ap (λ (x : ℕ). Some x) (sym c.index.ensures) in
    c.self.invariant.0.claimed c.args.worker c.index.result.now e ∙ ap (λ (x : Ledger). claims_by c.args.worker x.journal) c.self.view_is
