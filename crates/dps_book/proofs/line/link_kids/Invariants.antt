use Rattle.std.proofs.Common.{◌≡◌, ℕ, ◌+◌, ◌<◌, ◌≤◌, List, ◌∷◌, ◌++◌, length}
use Rattle.std.specs.Vec.{vec_capacity}
use Rattle.dps_book.specs.InOrder.{Leads, AreOnce}
use Rattle.dps_book.proofs.Linking.{IsLinked}
use Rattle.dps_book.proofs.line.link_kids.Given as goal

abbrev pub invariant-loop : goal.invariant-loop
invariant-loop l = record {
  within : l.last < length l.next.items;
  size : length l.next.items ≡ length l.fn.next.items + l.counter;
  room : length l.fn.next.items + l.count ≤ vec_capacity l.next;
  linked : (front behind : List ℕ) → Leads l.fn.next.items (front ++ l.ticket ∷ behind) → AreOnce (front ++ l.ticket ∷ behind)
      → IsLinked l.next.items front behind l.ticket (length l.fn.next.items) l.counter l.last;
}
