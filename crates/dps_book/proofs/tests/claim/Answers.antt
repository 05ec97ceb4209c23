use Rattle.dps_book.proofs.tests.claim.Goals as goal

pub claim-requires : goal.claim-requires
claim-requires g c = c.ready.ensures.0 c.if-ready.true
