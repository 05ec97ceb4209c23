-- What parts put out, in any order that they allow.
use Rattle.std.proofs.Common.{ℕ, List, [], ◌∷◌, ◌++◌}
use Rattle.dps_terms.specs.Tree.{Tree}
use Rattle.dps_process.specs.Process.{Process, output}
use Rattle.dps_process.specs.Steps.{Removes, here, there, IsReordered, a_part}
use Rattle.dps_process.proofs.Bags.{reordered_refl, reordered_trans, taken_reordered, before_reordered}
use Rattle.dps_tree.specs.Playing.{settled}

-- the parts put out these messages on these channels, one after another
pub data Plays : List Process → List ℕ → List Tree → Type 0 where
  stops : {ps : List Process} → Plays ps [] []
  plays : {c : ℕ} {u : Tree} {q : Process} {ps rest : List Process} {cs : List ℕ} {ms : List Tree} → Removes (output c u q) ps rest → Plays (settled q ++ rest) cs ms → Plays ps (c ∷ cs) (u ∷ ms)

-- the order of the parts matters to none
pub plays_reordered : {ps qs : List Process} {cs : List ℕ} {ms : List Tree} → Plays ps cs ms → IsReordered ps qs → Plays qs cs ms
plays_reordered stops r = stops
plays_reordered (plays {q = q} t h) r = let k = taken_reordered t r in plays k.1 (plays_reordered h (before_reordered (settled q) k.2))

abbrev pub settled_all : List Process → List Process
settled_all [] = []
settled_all (p ∷ ps) = settled p ++ settled_all ps

taken_behind : (ys zs : List Process) (x : Process) → Removes x (ys ++ x ∷ zs) (ys ++ zs)
taken_behind [] zs x = here
taken_behind (y ∷ ys) zs x = there (taken_behind ys zs x)

pub exchanged_lists : (xs ys zs : List Process) → IsReordered (xs ++ (ys ++ zs)) (ys ++ (xs ++ zs))
exchanged_lists [] ys zs = reordered_refl (ys ++ zs)
exchanged_lists (x ∷ xs) ys zs = a_part (taken_behind ys (xs ++ zs) x) (exchanged_lists xs ys zs)

-- what a part comes to may stand at the front
pub settled_front : {p : Process} {ps rest : List Process} → Removes p ps rest → IsReordered (settled p ++ settled_all rest) (settled_all ps)
settled_front {p} {ps} here = reordered_refl (settled_all ps)
settled_front {p} (there {q} {rest = rest} t) =
    reordered_trans (exchanged_lists (settled p) (settled q) (settled_all rest)) (before_reordered (settled q) (settled_front t))
