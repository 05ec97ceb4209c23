-- Digests of terms, one after another.
use Rattle.std.proofs.Common.{◌≡◌, ℕ, ◌<◌, ◌≤◌, ◌+◌, List, length, get_or, drop, refl, ap, add-one, drop-cons}
use Rattle.std.proofs.lemmas.List.{drop_all}
use Rattle.dps_terms.specs.Tree.{Tree}
use Rattle.dps_semantics.specs.Digest.{with_term, terms_digest}

pub terms_next : (d : ℕ) (ts : List Tree) (i : ℕ) (t : Tree) → i < length ts → terms_digest d (drop i ts) ≡ terms_digest (with_term d (get_or ts i t)) (drop (i + 1) ts)
terms_next d ts i t h = rw (add-one, drop-cons ts i t h) refl

pub terms_done : (d : ℕ) (ts : List Tree) (i : ℕ) → length ts ≤ i → terms_digest d (drop i ts) ≡ d
terms_done d ts i h = ap (terms_digest d) (drop_all i ts h)
