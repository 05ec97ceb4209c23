-- Digests of processes and of configurations.
use Rattle.std.specs.Prelude.{ℕ, List, [], ◌∷◌}
use Rattle.dps_terms.specs.Tree.{Tree}
use Rattle.dps_terms.specs.Digest.{mixed, digest}
use Rattle.dps_bags.specs.Digest.{numbers_digest}
use Rattle.dps_process.specs.Process.{Process, nil, parallel, choice, conditional, bind, input, output}

-- one more term
abbrev pub with_term : ℕ → Tree → ℕ
with_term d t = mixed d (digest t)

-- the terms in turn
abbrev pub terms_digest : ℕ → List Tree → ℕ
terms_digest d [] = d
terms_digest d (t ∷ ts) = terms_digest (with_term d t) ts

-- the nodes of the process in turn, a root before its parts
abbrev pub process_digest : ℕ → Process → ℕ
process_digest d nil = mixed d 9
process_digest d (parallel p q) = process_digest (process_digest (mixed d 10) p) q
process_digest d (choice p q) = process_digest (process_digest (mixed d 11) p) q
process_digest d (conditional u v p q) = process_digest (process_digest (with_term (with_term (mixed d 12) u) v) p) q
process_digest d (bind x u p q) = process_digest (process_digest (with_term (mixed (mixed d 13) x) u) p) q
process_digest d (input c x p) = process_digest (mixed (mixed (mixed d 14) c) x) p
process_digest d (output c u p) = process_digest (with_term (mixed (mixed d 15) c) u) p

-- the messages of a frame and the numbers of parts
abbrev pub config_digest : List Tree → List ℕ → ℕ
config_digest frame numbers = numbers_digest (terms_digest 0 frame) numbers
