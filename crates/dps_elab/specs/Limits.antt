-- The limits on a side that is written out.
use Rattle.std.specs.Prelude.{ℕ, ◌+◌, Bool, ◌||◌, max, nat_lt}
use Rattle.dps_terms.specs.Tree.{Tree, Trees, leaf, app, none, more}
use Rattle.dps_process.specs.Process.{Process, nil, parallel, choice, conditional, bind, input, output, size}

-- the most nodes on one path of a term, from its root
abbrev mutual
  pub height : Tree → ℕ
  height (leaf x) = 1
  height (app f ts) = 1 + heights ts

  pub heights : Trees → ℕ
  heights none = 0
  heights (more t ts) = max (height t) (heights ts)

-- the most process and term nodes on one path, from the root of the process
abbrev pub process_height : Process → ℕ
process_height nil = 1
process_height (parallel p q) = 1 + max (process_height p) (process_height q)
process_height (choice p q) = 1 + max (process_height p) (process_height q)
process_height (conditional u v p q) = 1 + max (max (height u) (height v)) (max (process_height p) (process_height q))
process_height (bind x u p q) = 1 + max (height u) (max (process_height p) (process_height q))
process_height (input c x p) = 1 + process_height p
process_height (output c u p) = 1 + max (height u) (process_height p)

-- the most process and term nodes of a side, and the most on one path
abbrev pub most_nodes : ℕ
most_nodes = 65536

abbrev pub most_on_a_path : ℕ
most_on_a_path = 1000

abbrev pub is_too_large : Process → Bool
is_too_large p = nat_lt most_nodes (size p) || nat_lt most_on_a_path (process_height p)
