-- Parts written one behind another: what was added, what is left, and what is too large.
use Rattle.std.proofs.Common.{◌≡◌, ℕ, ◌+◌, ◌⊎◌, inl, inr, ◌<◌, ◌≤◌, max, List, [], ◌∷◌, ◌++◌, length, get_or, take, drop, refl, ap, sym, ◌∙◌, arith, subst, append_assoc}
use Rattle.dps_terms.specs.Tree.{Tree, var, node_count}
use Rattle.dps_process.specs.Process as process
use Rattle.dps_process.specs.Process.{Process, size, process_nodes}
use Rattle.dps_scopes.specs.declared.body.Step.{Step}
use Rattle.dps_scopes.specs.Body.{Body}
use Rattle.dps_names.specs.Program.{Written}
use Rattle.dps_elab.specs.Expansion.{Value, Numbers, Expansion, Expanding, made, value_of, one_variable, with_terms, beside, taken_apart, expansion_of}
use Rattle.dps_elab.specs.Limits.{height, process_height}
use Rattle.dps_elab.specs.Locals.{locals_from}
use Rattle.dps_elab.specs.Turns.{written_in, joined}
use Rattle.dps_elab.specs.Writing.{numbers_of, IsAdded, IsWritten, IsTermWritten, IsVariablePushed, IsTooLargeTerm, IsTooLargeSide, taken_apart_in}
use Rattle.dps_elab.specs.declared.found.PrivateUse.{PrivateUse}
use Rattle.dps_elab.specs.declared.found.ChannelUse.{ChannelUse}
use Rattle.dps_elab.specs.declared.local.Local.{Local}
use Rattle.dps_elab.specs.declared.local.Local.TheVariants.{Variable}
use Rattle.dps_elab.specs.declared.settle.Join.{Join}
use Rattle.dps_elab.specs.declared.settle.Join.TheVariants.{ByParallel, ByChoice}
use Rattle.dps_elab.specs.declared.settle.Scope.{Scope}
use Rattle.dps_elab.specs.declared.writer.Writer.{Writer}
use Rattle.std.proofs.lemmas.List.{take_at, take-append-le}
use Rattle.dps_elab.proofs.Turns.{locals_push}

-- one thing behind the other
pub added_on :
    {a b c : Writer} {cs ds : List ChannelUse} {ps qs : List PrivateUse} {n m : Numbers} {j k : ℕ} → IsAdded a b cs ps n j → IsAdded b c ds qs m k
    → IsAdded a c (cs ++ ds) (ps ++ qs) m (j + k)
added_on {a} {b} {c} {cs} {ds} {ps} {qs} {n} {m} {j} {k} x y = record {
  channels_then = y.channels_then ∙ ap (λ zs. zs ++ ds) x.channels_then ∙ append_assoc a.channels.items cs ds;
  privates_then = y.privates_then ∙ ap (λ zs. zs ++ qs) x.privates_then ∙ append_assoc a.privates.items ps qs;
  numbers = y.numbers;
  taken = omega (arith, x.taken, y.taken);
}

pub recast : {a b : Writer} {cs : List ChannelUse} {ps qs : List PrivateUse} {n : Numbers} {j k : ℕ} → IsAdded a b cs ps n j → ps ≡ qs → j ≡ k → IsAdded a b cs qs n k
recast {a} {b} {cs} {ps} {qs} {n} {j} {k} x e h = record {
  channels_then = x.channels_then;
  privates_then = x.privates_then ∙ ap (λ zs. a.privates.items ++ zs) e;
  numbers = x.numbers;
  taken = omega (arith, x.taken);
}

-- what a call says, from the stack and the numbers that there were before
pub body_at :
    (scope : Scope) (a b : Writer) (depth : ℕ) (p : Body) (q : Process) (s : List Local) (n : Numbers)
    → IsWritten a b depth a.stack.items (written_in scope a.stack.items p (numbers_of a)) q → a.stack.items ≡ s → numbers_of a ≡ n
    → IsWritten a b depth s (written_in scope s p n) q
body_at scope a b depth p q s n h e f =
    let P : List Local → Type 0 = λ x. IsWritten a b depth x (written_in scope x p (numbers_of a)) q in
    let Q : Numbers → Type 0 = λ x. IsWritten a b depth s (written_in scope s p x) q in
    subst Q f (subst P e h)

pub large_body_at :
    (scope : Scope) (a : Writer) (depth : ℕ) (p : Body) (s : List Local) (n : Numbers)
    → IsTooLargeSide a.nodes_left depth (written_in scope a.stack.items p (numbers_of a)).process → a.stack.items ≡ s → numbers_of a ≡ n
    → IsTooLargeSide a.nodes_left depth (written_in scope s p n).process
large_body_at scope a depth p s n h e f =
    let P : List Local → Type 0 = λ x. IsTooLargeSide a.nodes_left depth (written_in scope x p (numbers_of a)).process in
    let Q : Numbers → Type 0 = λ x. IsTooLargeSide a.nodes_left depth (written_in scope s p x).process in
    subst Q f (subst P e h)

pub term_at :
    (first : ℕ) (a b : Writer) (depth : ℕ) (u : Written) (t : Tree) (s : List Local) → IsTermWritten a b depth (value_of (locals_from first a.stack.items) u) t
    → a.stack.items ≡ s → IsTermWritten a b depth (value_of (locals_from first s) u) t
term_at first a b depth u t s h e = let P : List Local → Type 0 = λ x. IsTermWritten a b depth (value_of (locals_from first x) u) t in subst P e h

pub large_term_at :
    (first : ℕ) (a : Writer) (depth : ℕ) (u : Written) (s : List Local) → IsTooLargeTerm a.nodes_left depth (value_of (locals_from first a.stack.items) u).tree
    → a.stack.items ≡ s → IsTooLargeTerm a.nodes_left depth (value_of (locals_from first s) u).tree
large_term_at first a depth u s h e = let P : List Local → Type 0 = λ x. IsTooLargeTerm a.nodes_left depth (value_of (locals_from first x) u).tree in subst P e h

pub fits_at : (scope : Scope) (a b : Writer) (depth : ℕ) (steps : List Step) (p q : Body) (f : Process) (outside : ℕ) (locals : List Value) (out : List Local) (n : Numbers)
    → IsWritten a b depth (take outside a.stack.items) (taken_apart_in scope a.stack.items steps p q (take outside a.stack.items) (numbers_of a)) f
    → locals_from scope.first a.stack.items ≡ locals → take outside a.stack.items ≡ out → numbers_of a ≡ n
    → IsWritten a b depth out (taken_apart scope.private_names.now steps locals (expansion_of scope.private_names.now scope.definitions.now p) (written_in scope out q) n) f
fits_at scope a b depth steps p q f outside locals out n h e o m =
    let E : List Value → List Local → Numbers → Expansion = λ x y z. taken_apart scope.private_names.now steps x (expansion_of scope.private_names.now scope.definitions.now p)
    (written_in scope y q) z in
    let P : List Value → Type 0 = λ x. IsWritten a b depth (take outside a.stack.items) (E x (take outside a.stack.items) (numbers_of a)) f in
    let Q : List Local → Type 0 = λ y. IsWritten a b depth y (E locals y (numbers_of a)) f in
    let R : Numbers → Type 0 = λ z. IsWritten a b depth out (E locals out z) f in
    subst R m (subst Q o (subst P e h))

pub large_fits_at : (scope : Scope) (a : Writer) (depth : ℕ) (steps : List Step) (p q : Body) (outside : ℕ) (locals : List Value) (out : List Local) (n : Numbers)
    → IsTooLargeSide a.nodes_left depth (taken_apart_in scope a.stack.items steps p q (take outside a.stack.items) (numbers_of a)).process
    → locals_from scope.first a.stack.items ≡ locals → take outside a.stack.items ≡ out → numbers_of a ≡ n
    → IsTooLargeSide a.nodes_left depth (taken_apart scope.private_names.now steps locals (expansion_of scope.private_names.now scope.definitions.now p) (written_in scope out q) n).process
large_fits_at scope a depth steps p q outside locals out n h e o m =
    let E : List Value → List Local → Numbers → Expansion = λ x y z. taken_apart scope.private_names.now steps x (expansion_of scope.private_names.now scope.definitions.now p)
    (written_in scope y q) z in
    let P : List Value → Type 0 = λ x. IsTooLargeSide a.nodes_left depth (E x (take outside a.stack.items) (numbers_of a)).process in
    let Q : List Local → Type 0 = λ y. IsTooLargeSide a.nodes_left depth (E locals y (numbers_of a)).process in
    let R : Numbers → Type 0 = λ z. IsTooLargeSide a.nodes_left depth (E locals out z).process in
    subst R m (subst Q o (subst P e h))

-- two parts behind terms
pub two_written : {w0 w v x : Writer} {below k : ℕ} {ps : List PrivateUse} {n : Numbers} {f o : Process} {left left2 : List Local} (depth : ℕ) (join : Process → Process → Process)
    (F : Expansion) (O : Expanding) (r : Process)
    → IsAdded w0 w [] ps n k → IsWritten w v below left F f → IsWritten v x below left2 (O F.next) o → r ≡ join f o
    → size (join F.process (O F.next).process) ≡ k + size F.process + size (O F.next).process → process_height (join F.process (O F.next).process) ≤ depth
    → IsWritten w0 x depth left2 (with_terms ps (λ p. p) (beside join F O)) r
two_written {w0} {w} {v} {x} {below} {k} {ps} {n} {f} {o} {left} {left2} depth join F O r h a b e s l = record {
  same = e ∙ (λ i. join (a.same i) (b.same i));
  stack = b.stack;
  added = recast (added_on (added_on h a.added) b.added) (append_assoc ps F.privates (O F.next).privates) (sym s);
  low = l;
}

-- a part that is too large
pub large_behind : {w0 w : Writer} {cs : List ChannelUse} {ps : List PrivateUse} {n : Numbers} {k : ℕ} (depth below : ℕ) (part whole : Process)
    → IsAdded w0 w cs ps n k → below + 1 ≡ depth → IsTooLargeSide w.nodes_left below part → k + size part ≤ size whole → process_height part + 1 ≤ process_height whole → IsTooLargeSide w0.nodes_left depth whole
large_behind {w0} {w} {cs} {ps} {n} {k} depth below part whole h d (inl a) s l = inl (omega (arith, h.taken))
large_behind {w0} {w} {cs} {ps} {n} {k} depth below part whole h d (inr a) s l = inr (omega arith)

pub large_term_behind : {w0 w : Writer} {cs : List ChannelUse} {ps : List PrivateUse} {n : Numbers} {k : ℕ} (depth below : ℕ) (t : Tree) (whole : Process)
    → IsAdded w0 w cs ps n k → below + 1 ≡ depth → IsTooLargeTerm w.nodes_left below t → k + node_count t ≤ size whole → height t + 1 ≤ process_height whole → IsTooLargeSide w0.nodes_left depth whole
large_term_behind {w0} {w} {cs} {ps} {n} {k} depth below t whole h d (inl a) s l = inl (omega (arith, h.taken))
large_term_behind {w0} {w} {cs} {ps} {n} {k} depth below t whole h d (inr a) s l = inr (omega arith)

pub joined_size : (join : Join) (p q : Process) → size (joined join p q) ≡ 1 + size p + size q
joined_size ByParallel p q = omega arith
joined_size ByChoice p q = omega arith

pub joined_height : (join : Join) (p q : Process) → process_height (joined join p q) ≡ 1 + max (process_height p) (process_height q)
joined_height ByParallel p q = refl
joined_height ByChoice p q = refl

some_node : (p : Process) → (0 < process_nodes p) × (0 < process_height p)
some_node process.nil = (omega arith, omega arith)
some_node (process.parallel p q) = (omega arith, omega arith)
some_node (process.choice p q) = (omega arith, omega arith)
some_node (process.conditional u v p q) = (omega arith, omega arith)
some_node (process.bind x u p q) = (omega arith, omega arith)
some_node (process.input c x p) = (omega arith, omega arith)
some_node (process.output c u p) = (omega arith, omega arith)

-- where no node is left, every process is too large
pub none_left : (nodes_left depth : ℕ) (p : Process) → (nodes_left ≡ 0) ⊎ (depth ≡ 0) → IsTooLargeSide nodes_left depth p
none_left nodes_left depth p (inl e) = inl (omega (arith, (some_node p).0))
none_left nodes_left depth p (inr e) = inr (omega (arith, (some_node p).1))

pub head_tail : (ps : List Body) (p : Body) → 0 < length ps → p ≡ get_or ps 0 p → ps ≡ p ∷ drop 1 ps
head_tail [] p h e = absurd (omega arith)
head_tail (q ∷ ps) p h e = ap (λ x. x ∷ ps) (sym e)

-- a variable was put onto the stack
pushed_stack : (w w3 : Writer) (s : List Local) (v : ℕ) → IsVariablePushed w w3 v → w.stack.items ≡ s → w3.stack.items ≡ s ++ Variable v ∷ []
pushed_stack w w3 s v p e = p.stack ∙ ap (λ x. x ++ Variable v ∷ []) e

pub pushed_number : (w w3 : Writer) (n : Numbers) (v : ℕ) → IsVariablePushed w w3 v → numbers_of w ≡ n → v ≡ n.variable
pushed_number w w3 n v p e = p.variable_is ∙ ap (λ (x : Numbers). x.variable) e

pub pushed_locals :
    (first : ℕ) (w w3 : Writer) (s : List Local) (n : Numbers) (v : ℕ) → first ≤ length s → IsVariablePushed w w3 v → w.stack.items ≡ s → numbers_of w ≡ n
    → locals_from first w3.stack.items ≡ locals_from first s ++ made (var n.variable) ∷ []
pushed_locals first w w3 s n v h p e m = locals_push first s w3.stack.items (Variable v) h (pushed_stack w w3 s v p e) ∙ ap (λ k. locals_from first s ++ made (var k) ∷ []) (pushed_number w w3 n v p m)

pub pushed_outside : (w w3 : Writer) (s : List Local) (v outside : ℕ) → outside ≤ length s → IsVariablePushed w w3 v → w.stack.items ≡ s → take outside w3.stack.items ≡ take outside s
pushed_outside w w3 s v outside h p e = ap (take outside) (pushed_stack w w3 s v p e) ∙ take-append-le outside s (Variable v ∷ []) h

pub pushed_whole : (w w3 : Writer) (s : List Local) (v outside : ℕ) → outside ≡ length w.stack.items → IsVariablePushed w w3 v → w.stack.items ≡ s → take outside w3.stack.items ≡ s
pushed_whole w w3 s v outside h p e = ap (take outside) (pushed_stack w w3 s v p e) ∙ take_at s (Variable v ∷ []) outside (sym (h ∙ ap length e))

pub pushed_numbers : (w w3 : Writer) (n : Numbers) (v : ℕ) → IsVariablePushed w w3 v → numbers_of w ≡ n → numbers_of w3 ≡ one_variable n
pushed_numbers w w3 n v p e = p.added.numbers ∙ ap one_variable e
