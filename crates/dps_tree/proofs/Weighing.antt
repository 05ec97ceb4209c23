-- A node weighs more than its children together.
use Rattle.std.proofs.Common.{◌≡◌, ℕ, zero, suc, ◌+◌, ◌-◌, ◌*◌, ◌^◌, ◌<◌, ◌≤◌, List, [], ◌∷◌, ◌++◌, length, ◌∙◌, ap, arith, length-append, lit<}
use Rattle.std.specs.Prelude.{Contains}
use Rattle.std.proofs.Math.Nat.{mul-le-mul_left}
use Rattle.dps_process.specs.Problem.{Problem}
use Rattle.dps_tree.specs.Nodes.{IsChild, AreChildren}
use Rattle.dps_tree.specs.declared.node.Node.{Node}
use Rattle.dps_tree.specs.declared.table.Table.{Table}
use Rattle.dps_tree.proofs.Holding.{contains_first, contains_later}
use Rattle.dps_tree.proofs.Pending.{longest, IsNodeOf}

abbrev pub power : ℕ → ℕ → ℕ
power b zero = 1
power b (suc k) = power b k * b

-- by how many outputs are left to come
abbrev pub weight : Problem → Node → ℕ
weight problem n = power (2 ^ 64) (longest problem + 1 - length n.channels.items)

abbrev pub total : (Node → ℕ) → List Node → ℕ
total f [] = 0
total f (n ∷ ns) = f n + total f ns

total-append : (f : Node → ℕ) (ns ms : List Node) → total f (ns ++ ms) ≡ total f ns + total f ms
total-append f [] ms = omega arith
total-append f (n ∷ ns) ms = let h = total-append f ns ms in omega arith

total_le : (f : Node → ℕ) (w : ℕ) (ns : List Node) → ((n : Node) → Contains ns n → f n ≡ w) → total f ns ≤ w * length ns
total_le f w [] h = omega arith
total_le f w (n ∷ ns) h =
    let first = h n (contains_first n ns) in
    let rest = total_le f w ns (λ m c. h m (contains_later n ns m c)) in
    omega (arith, first, rest)

power_some : (b k : ℕ) → 0 < b → 1 ≤ power b k
power_some b zero h = omega arith
power_some b (suc k) h = let s = power_some b k h in let m = mul-le-mul_left (power b k) h in omega (arith, s, m)

few_fall : (w k b s : ℕ) → k < b → 1 ≤ w → s ≤ w * k → s < w * b
few_fall w k b s h g l = let e : k + 1 ≤ b = omega arith in let m = mul-le-mul_left w e in omega (arith, m)

pub children_weigh_less :
    (problem : Problem) (table : Table) (rest : List Node) (n : Node) (children : List Node) → IsNodeOf problem table n → AreChildren table n children
    → length children < 2 ^ 64 → total (weight problem) (rest ++ children) < total (weight problem) (rest ++ n ∷ [])
children_weigh_less problem table rest n children h k few =
    let short = h.short in
    let node : longest problem + 1 - length n.channels.items ≡ suc (longest problem - length n.channels.items) = omega arith in
    let each : (m : Node) → Contains children m → weight problem m ≡ power (2 ^ 64) (longest problem - length n.channels.items) = λ m c. ap (power (2 ^ 64))
    (left_of m (k.offered m c).0 (k.offered m c).2) in
    let less = few_fall (power (2 ^ 64) (longest problem - length n.channels.items)) (length children) (2 ^ 64) (total (weight problem) children) few
    (power_some (2 ^ 64) (longest problem - length n.channels.items) (lit< tt)) (total_le (weight problem) (power (2 ^ 64) (longest problem - length n.channels.items)) children each) in
    let whole : weight problem n ≡ power (2 ^ 64) (longest problem - length n.channels.items) * (2 ^ 64) = ap (power (2 ^ 64)) node in
    omega (arith, total-append (weight problem) rest children, total-append (weight problem) rest (n ∷ []), less, whole)
  where
    left_of : (m : Node) (c : ℕ) → IsChild table n c m → longest problem + 1 - length m.channels.items ≡ longest problem - length n.channels.items
    left_of m c k = let l = ap length k.channels ∙ length-append n.channels.items (c ∷ []) in omega (arith, l)
