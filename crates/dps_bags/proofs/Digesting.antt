-- Digests of numbers, one after another.
use Rattle.std.proofs.Common.{◌≡◌, ℕ, ◌<◌, ◌≤◌, ◌+◌, List, length, get_or, drop, refl, ap, add-one, drop-cons}
use Rattle.std.proofs.lemmas.List.{drop_all}
use Rattle.dps_terms.specs.Digest.{mixed}
use Rattle.dps_bags.specs.Digest.{numbers_digest}

pub digest_next : (d : ℕ) (ns : List ℕ) (i n : ℕ) → i < length ns → numbers_digest d (drop i ns) ≡ numbers_digest (mixed d (get_or ns i n)) (drop (i + 1) ns)
digest_next d ns i n h = rw (add-one, drop-cons ns i n h) refl

pub digest_done : (d : ℕ) (ns : List ℕ) (i : ℕ) → length ns ≤ i → numbers_digest d (drop i ns) ≡ d
digest_done d ns i h = ap (numbers_digest d) (drop_all i ns h)
