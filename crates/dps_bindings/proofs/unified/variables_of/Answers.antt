use Rattle.std.proofs.Common.{◌≡◌, ℕ, List, nat_eq, Contains, sym, subst}
use Rattle.std.specs.List.{dedup}
use Rattle.std.specs.List.Sorted.{IsStrictlyIncreasing}
use Rattle.std.proofs.lemmas.List.Filters.{dedup_is}
use Rattle.std.proofs.lemmas.List.Kept.{AllPairs-from_increasing, Contains-dedup_nat}
use Rattle.std.proofs.lemmas.List.Sorted.{Contains-permutation}
use Rattle.std.proofs.lemmas.Map.Keys.{IsStrictlyIncreasing-dedup}
use Rattle.dps_bindings.proofs.unified.variables_of.Goals as goal

pub returns-clause-ascending : goal.returns-clause-ascending
returns-clause-ascending c =
    let xs = c.sort_unstable.new.self.items in
    let ys = c.dedup.new.self.items in
    let is : ys ≡ dedup nat_eq xs = dedup_is nat_eq xs ys c.dedup.ensures.filtered in
    AllPairs-from_increasing ys (subst IsStrictlyIncreasing (sym is) (IsStrictlyIncreasing-dedup xs c.sort_unstable.ensures.sorted))

pub returns-clause-all : goal.returns-clause-all
returns-clause-all c = λ n h.
    let old = c.in_ok-variables.variables.items in
    let xs = c.sort_unstable.new.self.items in
    let ys = c.dedup.new.self.items in
    let is : ys ≡ dedup nat_eq xs = dedup_is nat_eq xs ys c.dedup.ensures.filtered in
    subst (λ (ns : List ℕ). Contains ns n) (sym is) (Contains-dedup_nat xs n (Contains-permutation old xs n c.sort_unstable.ensures.permutation (c.in_ok-variables.ensures n h)))
