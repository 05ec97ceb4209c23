use Rattle.std.proofs.Common.{◌≡◌, subst}
use Rattle.dps_core.specs.Book.{first_book}
use Rattle.dps_core.proofs.Books.{IsKept}
use Rattle.dps_book.specs.Ledger.{Ledger}
use Rattle.dps_book.specs.Journal.{IsReplay, claims_in, claims_of_all}
use Rattle.dps_book.proofs.Counts.{claims-sum}
use Rattle.dps_book.proofs.Ledgers.{book-kept}
use Rattle.dps_book.proofs.book.Book.facts_stand.Goals as goal

pub returns : goal.returns
returns c =
    let replay = subst (λ (x : Ledger). IsReplay first_book x.journal x.book) c.self.view_is c.self.invariant.0.replay in
    let kept : IsKept c.args.self.now.book = book-kept c.args.self.now.journal c.args.self.now.book replay in
    record {
      replay = replay;
      ahead = λ ticket stop r q e o best f. kept.ahead ticket r e o stop q best f;
      claims = subst (λ (x : Ledger). claims_of_all x.workers x.journal ≡ claims_in x.journal) c.self.view_is (claims-sum _ c.self.inside.journal.items c.self.invariant.0.known);
    }
