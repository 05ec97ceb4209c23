-- What a node's configurations put out is what goes on from the node's channels.
use Rattle.std.proofs.Common.{◌≡◌, ℕ, suc, ◌+◌, ◌≤◌, List, [], ◌∷◌, ◌++◌, length, refl, sym, ◌∙◌, ap, subst, arith, append_assoc}
use Rattle.dps_terms.specs.Tree.{Tree}
use Rattle.dps_process.specs.Process.{Process, nil, parallel, choice, conditional, bind, input, output, process_nodes, part_nodes}
use Rattle.dps_process.specs.Steps.{Config, Removes, here, there}
use Rattle.dps_process.proofs.Bags.{reordered_sym, bags_refl}
use Rattle.dps_tree.specs.Playing.{settled, Offers}
use Rattle.dps_tree.specs.Following.{AreFollowing, FollowsOne}
use Rattle.dps_tree.proofs.Plays.{Plays, stops, plays, plays_reordered}

-- after outputs on the channels, the parts go on just as the configurations do
pub record Continues (ps : List Process) (cs : List ℕ) (configs : Config → Type 0) : Type 0 where
  pub sound : (k : Config) → configs k → (ds : List ℕ) (ms : List Tree) → Plays k.parts ds ms → Plays ps (cs ++ ds) (k.frame ++ ms)
  pub complete : (ds : List ℕ) (frame : List Tree) → Plays ps (cs ++ ds) frame → (k : Config) × configs k × ((ms : List Tree) × Plays k.parts ds ms × (frame ≡ k.frame ++ ms))

first_played :
    {ps : List Process} {c : ℕ} {ds : List ℕ} {ms : List Tree} → Plays ps (c ∷ ds) ms
    → (u : Tree) × (q : Process) × (rest : List Process) × Removes (output c u q) ps rest × ((later : List Tree) × Plays (settled q ++ rest) ds later × (ms ≡ u ∷ later))
first_played (plays {u = u} {q} {rest = rest} {ms = later} t r) = (u, q, rest, t, (later, r, refl))

-- an output is offered where the parts can put it out
pub plays_offered : (k : Config) (c : ℕ) (ds : List ℕ) (ms : List Tree) → Plays k.parts (c ∷ ds) ms → Offers k c
plays_offered k c ds ms r = let f = first_played r in (f.0, f.1, f.2, f.3)

pub offered_plays : (k : Config) (c : ℕ) → (o : Offers k c) → Plays k.parts (c ∷ []) (o.0 ∷ [])
offered_plays k c o = plays o.3 stops

-- the configurations of a child
pub child_continues : (ps : List Process) (cs : List ℕ) (c : ℕ) (configs found : Config → Type 0) → Continues ps cs configs → AreFollowing configs c found → Continues ps (cs ++ c ∷ []) found
child_continues ps cs c configs found h f = record { sound = sound; complete = complete }
  where
    sound_of : (k : Config) → FollowsOne configs c k → (ds : List ℕ) (ms : List Tree) → Plays k.parts ds ms → Plays ps ((cs ++ c ∷ []) ++ ds) (k.frame ++ ms)
    sound_of k g ds ms r =
        let j = g.0 in
        let next = g.2.0 in
        let u = g.2.1.0 in
        let same = g.2.1.4 in
        let ordered : Plays next.parts ds ms = plays_reordered r (reordered_sym g.2.2.parts) in
        let first : Plays j.parts (c ∷ ds) (u ∷ ms) = plays g.2.1.3 (subst (λ (m : Config). Plays m.parts ds ms) same ordered) in
        let whole = h.sound j g.1 (c ∷ ds) (u ∷ ms) first in
        let frame : j.frame ++ u ∷ ms ≡ k.frame ++ ms = sym (append_assoc j.frame (u ∷ []) ms) ∙ (ap (λ (m : Config). m.frame ++ ms) (sym same) ∙ ap (λ fs. fs ++ ms) g.2.2.frame) in
        subst (λ (fr : List Tree). Plays ps ((cs ++ c ∷ []) ++ ds) fr) frame (subst (λ (w : List ℕ). Plays ps w (j.frame ++ u ∷ ms)) (sym (append_assoc cs (c ∷ []) ds)) whole)

    sound : (k : Config) → found k → (ds : List ℕ) (ms : List Tree) → Plays k.parts ds ms → Plays ps ((cs ++ c ∷ []) ++ ds) (k.frame ++ ms)
    sound k m ds ms r = sound_of k ((f k).0 m) ds ms r

    complete : (ds : List ℕ) (frame : List Tree) → Plays ps ((cs ++ c ∷ []) ++ ds) frame → (k : Config) × found k × ((ms : List Tree) × Plays k.parts ds ms × (frame ≡ k.frame ++ ms))
    complete ds frame r =
        let g = h.complete (c ∷ ds) frame (subst (λ (w : List ℕ). Plays ps w frame) (append_assoc cs (c ∷ []) ds) r) in
        let j = g.0 in
        let p = first_played g.2.1 in
        let next : Config = record { parts = settled p.1 ++ p.2; frame = j.frame ++ p.0 ∷ [] } in
        (next, (f next).1 (j, g.1, (next, (p.0, p.1, p.2, p.3, refl), bags_refl next)), (p.4.0, p.4.1, g.2.2 ∙ (ap (λ ms. j.frame ++ ms) p.4.2 ∙ sym (append_assoc j.frame (p.0 ∷ []) p.4.0))))

-- how long the lists are
pub played_length : {ps : List Process} {cs : List ℕ} {ms : List Tree} → Plays ps cs ms → length ms ≡ length cs
played_length stops = refl
played_length (plays t r) = ap suc (played_length r)

part_nodes-append : (ps qs : List Process) → part_nodes (ps ++ qs) ≡ part_nodes ps + part_nodes qs
part_nodes-append [] qs = omega arith
part_nodes-append (p ∷ ps) qs = let h = part_nodes-append ps qs in omega arith

pub settled_le : (p : Process) → part_nodes (settled p) ≤ process_nodes p
settled_le nil = omega arith
settled_le (parallel p q) = let h = settled_le p in let k = settled_le q in omega (arith, part_nodes-append (settled p) (settled q))
settled_le (choice p q) = omega arith
settled_le (conditional u v p q) = omega arith
settled_le (bind x u p q) = omega arith
settled_le (input c x p) = omega arith
settled_le (output c u p) = omega arith

taken_nodes : {p : Process} {ps rest : List Process} → Removes p ps rest → part_nodes ps ≡ process_nodes p + part_nodes rest
taken_nodes here = refl
taken_nodes (there t) = let h = taken_nodes t in omega arith

pub played_short : {ps : List Process} {cs : List ℕ} {ms : List Tree} → Plays ps cs ms → length cs ≤ part_nodes ps
played_short stops = omega arith
played_short (plays {q = q} {rest = rest} t r) =
    let later = played_short r in
    let nodes = taken_nodes t in
    omega (arith, part_nodes-append (settled q) rest, settled_le q)
