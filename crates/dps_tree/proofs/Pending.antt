-- The nodes that are still to be looked at.
use Rattle.std.proofs.Common.{◌≡◌, ℕ, ◌+◌, ◌≤◌, List, [], ◌∷◌, ◌++◌, length, refl, sym, ◌∙◌, ap, subst, inl, inr, arith}
use Rattle.std.specs.Prelude.{◌⊎◌, Contains, Some, None}
use Rattle.std.proofs.lemmas.List.{append-nil}
use Rattle.std.proofs.lemmas.List.Elements.{Contains-append_left, Contains-append_right, Contains-append_cases}
use Rattle.dps_branch.specs.declared.Side.{Side}
use Rattle.dps_branch.specs.declared.Side.TheVariants.{Left, Right}
use Rattle.dps_branch.specs.Sides.{opposite}
use Rattle.dps_terms.specs.Tree.{Tree}
use Rattle.dps_theory.specs.Frames.{AreStaticallyEquivalent}
use Rattle.dps_process.specs.Process.{Process, process_nodes}
use Rattle.dps_process.specs.Problem.{Problem, side_of, IsLawful}
use Rattle.dps_process.specs.Steps.{Config, Label}
use Rattle.dps_process.specs.Traces.{IsEquivalent, IsTraceOf, IsAttack, Matches, IsIncluded}
use Rattle.dps_process.proofs.LawfulRuns.{traces_end_in_frames}
use Rattle.dps_process.proofs.TraceEquivalence.{attack_refutes}
use Rattle.dps_tree.specs.Plain.{IsPlain}
use Rattle.dps_tree.specs.Words.{word_of, IsUpTo, IsAhead}
use Rattle.dps_tree.specs.Answer.{IsLeastAttack}
use Rattle.dps_tree.specs.Playing.{settled}
use Rattle.dps_tree.specs.Following.{OneOffers}
use Rattle.dps_tree.specs.Matching.{HaveLength, AreLevel, AreFrames, AreMatched, OneIsUnmatched}
use Rattle.dps_tree.specs.Table.{StandForBag}
use Rattle.dps_tree.specs.Groups.{Holds, HoldsFrame, AreNamed}
use Rattle.dps_tree.specs.Nodes.{AreStarts, IsRoot, IsNamedNode, NodeOffers, IsChild, AreInOrder, AreChildren, SideAnswer}
use Rattle.dps_tree.specs.declared.group.Group.{Group}
use Rattle.dps_tree.specs.declared.table.Table.{Table}
use Rattle.dps_tree.specs.declared.node.Node.{Node}
use Rattle.dps_tree.proofs.Holding.{contains_none, contains_one, contains_pushed, contains_first}
use Rattle.dps_tree.proofs.Orders.{ahead_longer, up_to_front, up_to_ahead, outputs_from-inj, longer}
use Rattle.dps_tree.proofs.PlainParts.{IsPlainPart}
use Rattle.dps_tree.proofs.PlainRuns.{trace_played, played_trace}
use Rattle.dps_tree.proofs.PlainSides.{plain_side}
use Rattle.dps_tree.proofs.Plays.{Plays, stops}
use Rattle.dps_tree.proofs.Rooting.{root_continues}
use Rattle.dps_tree.proofs.Framing.{frame_held, held_frame}
use Rattle.dps_tree.proofs.Continuing.{Continues, child_continues, plays_offered, offered_plays, played_length, played_short, settled_le}
use Rattle.dps_tree.proofs.Branching.{in_order_append, in_order_split}

-- no list of outputs is longer
abbrev pub longest : Problem → ℕ
longest problem = process_nodes problem.left + process_nodes problem.right

abbrev pub groups_of : Node → Side → List Group
groups_of n Left = n.left.items
groups_of n Right = n.right.items

abbrev pub frames_of : Table → Node → Side → List Tree → Type 0
frames_of table n side = HoldsFrame table (groups_of n side)

-- the node's configurations are those in which the sides' runs with outputs on its channels end
pub record IsNodeOf (problem : Problem) (table : Table) (n : Node) : Type 0 where
  pub left : Continues (settled problem.left) n.channels.items (Holds table n.left.items)
  pub right : Continues (settled problem.right) n.channels.items (Holds table n.right.items)
  pub named : IsNamedNode table n
  pub short : length n.channels.items ≤ longest problem

pub continues_of :
    (problem : Problem) (table : Table) (n : Node) (side : Side) → IsNodeOf problem table n
    → Continues (settled (side_of problem side)) n.channels.items (Holds table (groups_of n side))
continues_of problem table n Left h = h.left
continues_of problem table n Right h = h.right

named_of : (problem : Problem) (table : Table) (n : Node) (side : Side) → IsNodeOf problem table n → AreNamed table (groups_of n side)
named_of problem table n Left h = h.named.left
named_of problem table n Right h = h.named.right

-- each trace is matched, or goes on from a node that is still to be looked at
abbrev pub IsMatchedWord : Problem → Side → List ℕ → List Tree → Type 0
IsMatchedWord problem side cs frame =
    (other : List Tree) × Plays (settled (side_of problem (opposite side))) cs other × AreStaticallyEquivalent problem.signature problem.theory frame other

abbrev pub IsBelow : List Node → List ℕ → Type 0
IsBelow pending cs = (n : Node) × Contains pending n × ((ds : List ℕ) × (cs ≡ n.channels.items ++ ds))

pub record IsPending (problem : Problem) (table : Table) (pending : List Node) : Type 0 where
  pub nodes : (n : Node) → Contains pending n → IsNodeOf problem table n
  pub ordered : AreInOrder pending
  pub unfinished : (side : Side) (cs : List ℕ) (frame : List Tree) → Plays (settled (side_of problem side)) cs frame → IsMatchedWord problem side cs frame ⊎ IsBelow pending cs

pub root_pending :
    (problem : Problem) (table : Table) (left right : List ℕ) (root : Node) → StandForBag table left (settled problem.left)
    → StandForBag table right (settled problem.right) → IsRoot table left right root → IsPending problem table (root ∷ [])
root_pending problem table left right root l r h = record {
  nodes = λ n c. subst (IsNodeOf problem table) (sym (contains_one root n c)) whole;
  ordered = (λ m c. absurd (contains_none m c), tt);
  unfinished = λ side cs frame k. inr (root, contains_first root [], (cs, ap (λ w. w ++ cs) (sym h.channels)));
}
  where
    continues :
        (p : Process) (bag : List ℕ) (groups : List Group) → StandForBag table bag (settled p) → AreStarts table bag (Holds table groups)
        → Continues (settled p) root.channels.items (Holds table groups)
    continues p bag groups b s =
        subst (λ (w : List ℕ). Continues (settled p) w (Holds table groups)) (sym h.channels) (root_continues table bag p (Holds table groups) b s)

    whole : IsNodeOf problem table root
    whole = record {
      left = continues problem.left left root.left.items l h.on_left;
      right = continues problem.right right root.right.items r h.on_right;
      named = h.named;
      short = let e : length root.channels.items ≡ 0 = ap length h.channels in omega arith;
    }

pub last_node : (problem : Problem) (table : Table) (rest : List Node) (n : Node) → IsPending problem table (rest ++ n ∷ []) → IsNodeOf problem table n
last_node problem table rest n h = h.nodes n ((contains_pushed rest n n).1 (inr refl))

-- what a configuration of a node has put out
pub node_plays : {ps : List Process} {cs : List ℕ} {configs : Config → Type 0} → Continues ps cs configs → (k : Config) → configs k → Plays ps cs k.frame
node_plays {ps} {cs} h k c =
    subst (λ (f : List Tree). Plays ps cs f) (append-nil k.frame) (subst (λ (w : List ℕ). Plays ps w (k.frame ++ [])) (append-nil cs) (h.sound k c [] [] stops))

no_more : {ps : List Process} {ms : List Tree} → Plays ps [] ms → ms ≡ []
no_more stops = refl

-- and what is put out on a node's channels is in a configuration of it
pub played_at : {ps : List Process} {cs : List ℕ} {configs : Config → Type 0} → Continues ps cs configs → (frame : List Tree) → Plays ps cs frame → (k : Config) × configs k × (frame ≡ k.frame)
played_at {ps} {cs} h frame r =
    let f = h.complete [] frame (subst (λ (w : List ℕ). Plays ps w frame) (sym (append-nil cs)) r) in
    (f.0, f.1, f.2.2 ∙ ap (λ ms. f.0.frame ++ ms) (no_more f.2.1) ∙ append-nil f.0.frame)

module _ (problem : Problem) (table : Table) (lawful : IsLawful problem) (plain : IsPlain problem) where
  side_plain : (side : Side) → IsPlainPart problem.signature (side_of problem side)
  side_plain side = plain_side problem side lawful plain

  played : (side : Side) (word : List Label) (frame : List Tree) → IsTraceOf problem side word frame → (cs : List ℕ) × (word ≡ word_of cs) × Plays (settled (side_of problem side)) cs frame
  played side word frame t = trace_played problem.model problem.signature problem.theory lawful.theory.same_symbols (side_of problem side) word frame (side_plain side) t

  traced : (side : Side) (cs : List ℕ) (frame : List Tree) → Plays (settled (side_of problem side)) cs frame → IsTraceOf problem side (word_of cs) frame
  traced side cs frame r = played_trace problem.model problem.signature problem.theory lawful.theory.same_symbols (side_of problem side) cs frame (side_plain side) r

  played_word : (side : Side) (cs : List ℕ) (frame : List Tree) → IsTraceOf problem side (word_of cs) frame → Plays (settled (side_of problem side)) cs frame
  played_word side cs frame t =
      let r = played side (word_of cs) frame t in subst (λ (ds : List ℕ). Plays (settled (side_of problem side)) ds frame) (sym (outputs_from-inj 1 cs r.0 r.1)) r.2

  -- the frames of a node
  held_plays : (n : Node) (side : Side) (f : List Tree) → IsNodeOf problem table n → frames_of table n side f → Plays (settled (side_of problem side)) n.channels.items f
  held_plays n side f h g =
      let k = frame_held table (groups_of n side) f (named_of problem table n side h) g in
      subst (λ (fr : List Tree). Plays (settled (side_of problem side)) n.channels.items fr) (sym k.2) (node_plays (continues_of problem table n side h) k.0 k.1)

  plays_held : (n : Node) (side : Side) (f : List Tree) → IsNodeOf problem table n → Plays (settled (side_of problem side)) n.channels.items f → frames_of table n side f
  plays_held n side f h r =
      let k = played_at (continues_of problem table n side h) f r in
      subst (frames_of table n side) (sym k.2) (held_frame table (groups_of n side) k.0 k.1)

  pub node_frames : (n : Node) (side : Side) → IsNodeOf problem table n → AreFrames problem.signature problem.theory (frames_of table n side)
  node_frames n side h f g =
      record {
        same_symbols = lawful.theory.same_symbols;
        rules_over = lawful.theory.rules_over;
        is_frame = traces_end_in_frames problem side (word_of n.channels.items) f lawful (traced side n.channels.items f (held_plays n side f h g));
      }

  node_length : (n : Node) (side : Side) → IsNodeOf problem table n → HaveLength (length n.channels.items) (frames_of table n side)
  node_length n side h f g = played_length (held_plays n side f h g)

  pub node_level : (n : Node) → IsNodeOf problem table n → AreLevel (HoldsFrame table n.left.items) (HoldsFrame table n.right.items)
  node_level n h = record {
    height = length n.channels.items;
    few = let a = lawful.left.small in let b = lawful.right.small in let s = h.short in omega arith;
    first = node_length n Left h;
    second = node_length n Right h;
  }

  short_of : (cs : List ℕ) (frame : List Tree) (side : Side) → Plays (settled (side_of problem side)) cs frame → length cs ≤ longest problem
  short_of cs frame Left r = let h = played_short r in omega (arith, settled_le problem.left)
  short_of cs frame Right r = let h = played_short r in omega (arith, settled_le problem.right)

  -- where the frames of a side are matched, its traces with these channels are
  matched_here :
      (n : Node) (side : Side) (frame : List Tree) → IsNodeOf problem table n
      → AreMatched problem.signature problem.theory (frames_of table n side) (frames_of table n (opposite side))
      → Plays (settled (side_of problem side)) n.channels.items frame → IsMatchedWord problem side n.channels.items frame
  matched_here n side frame h m r =
      let j = m frame (plays_held n side frame h r) in (j.0, held_plays n (opposite side) j.0 h j.1, j.2)

  matches :
      (side : Side) (cs : List ℕ) (frame : List Tree) → IsMatchedWord problem side cs frame
      → Matches problem.model problem.signature problem.theory (side_of problem (opposite side)) (word_of cs) frame
  matches side cs frame m = record { other = m.0; trace = traced (opposite side) cs m.0 m.1; equivalent = m.2 }

  no_attack_here :
      (n : Node) (side : Side) → IsNodeOf problem table n
      → AreMatched problem.signature problem.theory (frames_of table n side) (frames_of table n (opposite side))
      → ¬ IsAttack problem side (word_of n.channels.items)
  no_attack_here n side h m a =
      a.unmatched (matches side n.channels.items a.frame (matched_here n side a.frame h m (played_word side n.channels.items a.frame a.trace)))

  attack_here :
      (n : Node) (side : Side) → IsNodeOf problem table n
      → OneIsUnmatched problem.signature problem.theory (frames_of table n side) (frames_of table n (opposite side))
      → IsAttack problem side (word_of n.channels.items)
  attack_here n side h u = record {
    frame = u.0;
    trace = traced side n.channels.items u.0 (held_plays n side u.0 h u.1);
    unmatched = λ m. (let r = played_word (opposite side) n.channels.items m.other m.trace in
        u.2 (m.other, plays_held n (opposite side) m.other h r, m.equivalent));
  }

  -- each attack goes on from a node that is still to be looked at, so it is not before the last one
  least_here :
      (rest : List Node) (n : Node) → IsPending problem table (rest ++ n ∷ []) → (other : Side) (word : List Label) → IsAttack problem other word
      → (cs : List ℕ) × (word ≡ word_of cs) × IsUpTo n.channels.items cs
  least_here rest n h other word a =
      let r = played other word a.frame a.trace in (
        r.0,
        r.1,
        elim (h.unfinished other r.0 a.frame r.2) [
          | inl m ↦ absurd (a.unmatched
              (subst (λ (w : List Label). Matches problem.model problem.signature problem.theory (side_of problem (opposite other)) w a.frame) (sym r.1) (matches other r.0 a.frame m)))
          | inr b ↦
              subst (λ (w : List ℕ). IsUpTo n.channels.items w) (sym b.2.1)
              (elim ((contains_pushed rest n b.0).0 b.1) [
                | inl c ↦ up_to_ahead n.channels.items b.0.channels.items b.2.0 ((in_order_split rest n h.ordered).1 b.0 c)
                | inr e ↦ subst
                    (λ (m : Node). IsUpTo n.channels.items (m.channels.items ++ b.2.0)) (sym e) (up_to_front n.channels.items b.2.0)
              ])
        ],
      )

  pub attacked :
      (rest : List Node) (n : Node) (side : Side) → IsPending problem table (rest ++ n ∷ []) → SideAnswer table n problem.signature problem.theory (Some side)
      → IsLeastAttack problem side n.channels.items
  attacked rest n Left h u = record {
    attack = attack_here n Left (last_node problem table rest n h) u;
    least = least_here rest n h;
    left_first = λ e. cc;
  }
  attacked rest n Right h u = record {
    attack = attack_here n Right (last_node problem table rest n h) u.0;
    least = least_here rest n h;
    left_first = λ e. no_attack_here n Left (last_node problem table rest n h) u.1;
  }

  -- a node that is matched gives way to its children
  child_of : (n child : Node) (c : ℕ) → IsNodeOf problem table n → NodeOffers table n c → IsChild table n c child → IsNodeOf problem table child
  child_of n child c h o k =
      let left = child_continues (settled problem.left) n.channels.items c (Holds table n.left.items) (Holds table child.left.items) h.left k.left in
      let right = child_continues (settled problem.right) n.channels.items c (Holds table n.right.items) (Holds table child.right.items) h.right k.right in
      record {
        left = subst (λ (w : List ℕ). Continues (settled problem.left) w (Holds table child.left.items)) (sym k.channels) left;
        right = subst (λ (w : List ℕ). Continues (settled problem.right) w (Holds table child.right.items)) (sym k.channels) right;
        named = k.named;
        short = subst (λ (w : List ℕ). length w ≤ longest problem) (sym k.channels) (elim o [ inl f ↦ offered_short n c Left h f | inr f ↦ offered_short n c Right h f ]);
      }
    where
      offered_short : (m : Node) (d : ℕ) (side : Side) → IsNodeOf problem table m → OneOffers (Holds table (groups_of m side)) d → length (m.channels.items ++ d ∷ []) ≤ longest problem
      offered_short m d side g f =
          short_of (m.channels.items ++ d ∷ []) (f.0.frame ++ f.2.0 ∷ []) side ((continues_of problem table m side g).sound f.0 f.1 (d ∷ []) (f.2.0 ∷ []) (offered_plays f.0 d f.2))

  offers_node : (n : Node) (side : Side) (c : ℕ) → OneOffers (Holds table (groups_of n side)) c → NodeOffers table n c
  offers_node n Left c f = inl f
  offers_node n Right c f = inr f

  matched_side :
      (n : Node) (side : Side) → SideAnswer table n problem.signature problem.theory None
      → AreMatched problem.signature problem.theory (frames_of table n side) (frames_of table n (opposite side))
  matched_side n Left m = m.0
  matched_side n Right m = m.1

  goes_on :
      (rest : List Node) (n : Node) (children : List Node) (side : Side) (cs : List ℕ) (frame : List Tree) → IsNodeOf problem table n
      → SideAnswer table n problem.signature problem.theory None → AreChildren table n children → Plays (settled (side_of problem side)) cs frame
      → (ds : List ℕ) → cs ≡ n.channels.items ++ ds → IsMatchedWord problem side cs frame ⊎ IsBelow (rest ++ children) cs
  goes_on rest n children side cs frame h m k r [] e =
      let same : cs ≡ n.channels.items = e ∙ append-nil n.channels.items in
      inl (subst (λ (w : List ℕ). IsMatchedWord problem side w frame) (sym same)
      (matched_here n side frame h (matched_side n side m) (subst (λ (w : List ℕ). Plays (settled (side_of problem side)) w frame) same r)))
  goes_on rest n children side cs frame h m k r (d ∷ ds) e =
      let f = (continues_of problem table n side h).complete (d ∷ ds) frame (subst (λ (w : List ℕ). Plays (settled (side_of problem side)) w frame) e r) in
      let o = offers_node n side d (f.0, f.1, plays_offered f.0 d ds f.2.0 f.2.1) in
      let child = k.complete d o in
      inr (child.0, Contains-append_right rest children child.0 child.1, (ds, longer n.channels.items ds cs d e ∙ ap (λ w. w ++ ds) (sym child.2)))

  pub looked_at :
      (rest : List Node) (n : Node) (children : List Node) → IsPending problem table (rest ++ n ∷ []) → SideAnswer table n problem.signature problem.theory None
      → AreChildren table n children → IsPending problem table (rest ++ children)
  looked_at rest n children h m k =
      let here = last_node problem table rest n h in
      let split = in_order_split rest n h.ordered in
      record {
        nodes = λ a c. elim (Contains-append_cases rest children a c) [ inl d ↦ h.nodes a ((contains_pushed rest n a).1 (inl d)) | inr d ↦ (let f = k.offered a d in child_of n a f.0 here f.1 f.2) ];
        ordered =
            in_order_append
            rest
            children
            split.0
            k.ordered
            (λ a b c d. (let f = k.offered b d in subst (λ (w : List ℕ). IsAhead w a.channels.items) (sym f.2.channels) (ahead_longer n.channels.items a.channels.items (f.0 ∷ []) (split.1 a c))));
        unfinished =
            λ side cs frame r. elim (h.unfinished side cs frame r) [
              | inl w ↦ inl w
              | inr b ↦ elim ((contains_pushed rest n b.0).0 b.1) [
                | inl c ↦ inr (b.0, Contains-append_left rest children b.0 c, b.2)
                | inr e ↦ goes_on rest n children side cs frame here m k r b.2.0
                    (b.2.1 ∙ ap (λ (a : Node). a.channels.items ++ b.2.0) e)
              ]
            ];
      }

  -- where no node is left, each trace is matched
  included : (side : Side) → IsPending problem table [] → IsIncluded problem.model problem.signature problem.theory (side_of problem side) (side_of problem (opposite side))
  included side h = record {
    matched = λ word frame t. (let r = played side word frame t in
        subst (λ (w : List Label). Matches problem.model problem.signature problem.theory (side_of problem (opposite side)) w frame) (sym r.1)
        (matches side r.0 frame (elim (h.unfinished side r.0 frame r.2) [ inl m ↦ m | inr b ↦ absurd (contains_none b.0 b.1) ])));
  }

  pub none_pending : IsPending problem table [] → IsEquivalent problem × ((side : Side) (word : List Label) → ¬ IsAttack problem side word)
  none_pending h =
      let equivalent : IsEquivalent problem = record { forth = included Left h; back = included Right h } in
      (equivalent, λ side word a. attack_refutes problem side word a equivalent)
