-- Rules 2, 4 and 5, and the expansion: each takes one count of steps.
use Rattle.std.proofs.Common.{◌≡◌, ℕ, ◌+◌, List, [], ◌∷◌, ◌++◌, Bool, true, false, Option, map, refl, sym, ◌∙◌, ap, subst, subst₂, All}
use Rattle.std.proofs.lemmas.List.Elements.{All-head, All-tail}
use Rattle.dps_terms.specs.Tree.{Tree}
use Rattle.dps_signature.specs.Signature.{Signature}
use Rattle.dps_theory.specs.Theory.{Theory}
use Rattle.dps_process.specs.Process.{Process}
use Rattle.dps_process.specs.Problem.{Problem}
use Rattle.dps_solver.specs.Search.{GeneralSolution}
use Rattle.dps_node.specs.Node.{SymbolicConfig, Node, at_count, with_configs}
use Rattle.dps_node.specs.Questions.{Question, Found, Answer, decided, undecided, Answers, Asks}
use Rattle.dps_node.proofs.Once.{answers_once, asks_once}
use Rattle.dps_node.specs.Outcome.{Outcome, changed, kids}
use Rattle.dps_node.specs.Settling.{IsReady, AreReady, FirstUnready, Unfolds, ends, forks, chooses, AsksFor, tests, binds, sends, in_place, decided_as, Settles, unfolds, decides, divides}
use Rattle.dps_process.specs.Models.{Model}
use Rattle.dps_node.specs.Mixing.{AddsEach, none_left, stands, adds, meetings, Mixes, mixes}
use Rattle.dps_node.specs.Expansion.{Acts, settles, knows, IsThrough, Expands, changes, shows}
use Rattle.dps_node.specs.Expansion.{mixes as mixes_next, divides as divides_at}
use Rattle.dps_node.proofs.Counts.{SameOutcome, outcome_at, knows_once}

-- the first element of which P does not hold
pub record SameSplit {X : Type 0} (bs cs fs gs : List X) (x y : X) : Type 0 where
  pub before : bs ≡ cs
  pub here : x ≡ y
  pub after : fs ≡ gs

split_once : {X : Type 0} (P : X → Type 0) (bs cs fs gs : List X) (x y : X) → All P bs → ¬ P x → All P cs → ¬ P y → bs ++ (x ∷ fs) ≡ cs ++ (y ∷ gs) → SameSplit bs cs fs gs x y
split_once P [] [] fs gs x y a p b q e = record { before = refl; here = cc; after = cc }
split_once P [] (c ∷ cs) fs gs x y a p b q e = let d : c ≡ x = cc in absurd (p (subst P d (All-head P c cs b)))
split_once P (z ∷ bs) [] fs gs x y a p b q e = let d : z ≡ y = cc in absurd (q (subst P d (All-head P z bs a)))
split_once P (z ∷ bs) (c ∷ cs) fs gs x y a p b q e =
    let d : bs ++ (x ∷ fs) ≡ cs ++ (y ∷ gs) = cc in
    let h : z ≡ c = cc in
    let r = split_once P bs cs fs gs x y (All-tail P z bs a) p (All-tail P c cs b) q d in
    record { before = λ i. h i ∷ r.before i; here = r.here; after = r.after }

holds_of : {X : Type 0} (P : X → Type 0) (bs fs : List X) (x : X) → All P (bs ++ (x ∷ fs)) → P x
holds_of P [] fs x a = All-head P x fs a
holds_of P (z ∷ bs) fs x a = holds_of P bs fs x (All-tail P z (bs ++ (x ∷ fs)) a)

module _ (theory : Theory) (node : Node) where
  unready_config : {p : Process} (f : FirstUnready theory node p) → ¬ AreReady theory f.config
  unready_config {p} f h = f.unready (holds_of (IsReady theory) f.front f.back p (subst (All (IsReady theory)) f.parts h))

  same_config : {p q : Process} (f : FirstUnready theory node p) (g : FirstUnready theory node q) → SameSplit f.before g.before f.after g.after f.config g.config
  same_config f g =
      split_once (AreReady theory) f.before g.before f.after g.after f.config g.config f.ready_before (unready_config f) g.ready_before (unready_config g) (sym f.configs ∙ g.configs)

  same_part : {p q : Process} (f : FirstUnready theory node p) (g : FirstUnready theory node q) → SameSplit f.front g.front f.back g.back p q
  same_part {p} {q} f g =
      split_once (IsReady theory) f.front g.front f.back g.back p q f.ready_front f.unready g.ready_front g.unready
      (sym f.parts ∙ ap (λ (c : SymbolicConfig). c.parts) (same_config f g).here ∙ g.parts)

  same_place : {p q : Process} (f : FirstUnready theory node p) (g : FirstUnready theory node q) (become : List (List Process)) → in_place f become ≡ in_place g become
  same_place f g become =
      let c = same_config f g in
      let s = same_part f g in
      λ i. c.before i ++ (map (λ ps. record (c.here i) { parts = s.before i ++ (ps ++ s.after i) }) become ++ c.after i)

  unfolds_once : (p : Process) (a b : List (List Process)) → Unfolds p a → Unfolds p b → a ≡ b
  unfolds_once p a b ends ends = refl
  unfolds_once p a b forks forks = refl
  unfolds_once p a b chooses chooses = refl

  unfolds_or_asks : (p alt : Process) (a : List (List Process)) (question : Question) (pos : Tree → Process) → Unfolds p a → AsksFor theory node p question pos alt → ⊥
  unfolds_or_asks p alt a question pos ends h = elim h [ ]
  unfolds_or_asks p alt a question pos forks h = elim h [ ]
  unfolds_or_asks p alt a question pos chooses h = elim h [ ]

  pub record SameAsked (question asked : Question) (pos so : Tree → Process) (alt other : Process) : Type 0 where
    pub questions : question ≡ asked
    pub yeses : pos ≡ so
    pub noes : alt ≡ other

  asks_for_once :
      (p alt other : Process) (question asked : Question) (pos so : Tree → Process) → AsksFor theory node p question pos alt
      → AsksFor theory node p asked so other → SameAsked question asked pos so alt other
  asks_for_once p alt other question asked pos so tests tests = record { questions = refl; yeses = refl; noes = refl }
  asks_for_once p alt other question asked pos so binds binds = record { questions = refl; yeses = refl; noes = refl }
  asks_for_once p alt other question asked pos so sends sends = record { questions = refl; yeses = refl; noes = refl }

  decided_or_not : (o : Option Found) (s : GeneralSolution) → decided o ≡ undecided s → ⊥
  decided_or_not o s e = cc

  same_decision : (o p : Option Found) → decided o ≡ decided p → o ≡ p
  same_decision o p e = cc

  -- the same question, asked in the same configuration, has one answer
  same_answer : {p q alt other : Process} {question asked : Question} {pos so : Tree → Process} {x y : Answer} {n m : ℕ} (f : FirstUnready theory node p) (g : FirstUnready theory node q)
      → AsksFor theory node p question pos alt → AsksFor theory node q asked so other
      → Asks Answers node f.config question x n → Asks Answers node g.config asked y m → (x ≡ y) × (n ≡ m)
  same_answer {p} {q} {alt} {other} {question} {asked} {pos} {so} {x} {y} {n} {m} f g a b h k =
      let c = same_config f g in
      let s = asks_for_once p alt other question asked pos so a (subst (λ r. AsksFor theory node r asked so other) (sym (same_part f g).here) b) in
      asks_once Answers answers_once node f.config question x y n m h (subst₂ (λ d r. Asks Answers node d r y m) (sym c.here) (sym s.questions) k)

  pub settles_once : (o p : Outcome) → Settles theory node o → Settles theory node p → SameOutcome o p
  settles_once o p (unfolds {p = x} {become = become} f u e) (unfolds {p = y} {become = other} g v e') =
      let d : become ≡ other = unfolds_once x become other u (subst (λ r. Unfolds r other) (sym (same_part f g).here) v) in
      outcome_at e e' (ap (with_configs node) (same_place f g become ∙ ap (in_place g) d))
  settles_once o p (unfolds {p = x} {become = become} f u e) (decides {p = y} {false_part = alt} {question = q} {true_part = pos} g a h e') =
      absurd (unfolds_or_asks x alt become q pos u (subst (λ r. AsksFor theory node r q pos alt) (sym (same_part f g).here) a))
  settles_once o p (unfolds {p = x} {become = become} f u e) (divides {p = y} {false_part = alt} {question = q} {true_part = pos} g a h k e') =
      absurd (unfolds_or_asks x alt become q pos u (subst (λ r. AsksFor theory node r q pos alt) (sym (same_part f g).here) a))
  settles_once o p (decides {p = y} {false_part = alt} {question = q} {true_part = pos} g a h e') (unfolds {p = x} {become = become} f u e) =
      absurd (unfolds_or_asks x alt become q pos u (subst (λ r. AsksFor theory node r q pos alt) (sym (same_part f g).here) a))
  settles_once o p (divides {p = y} {false_part = alt} {question = q} {true_part = pos} g a h k e') (unfolds {p = x} {become = become} f u e) =
      absurd (unfolds_or_asks x alt become q pos u (subst (λ r. AsksFor theory node r q pos alt) (sym (same_part f g).here) a))
  settles_once o p (decides {p = x} {false_part = alt} {question = q} {true_part = pos} {o = r} {steps = n} f a h e) (decides {p = y} {false_part = alt'} {question = q'} {true_part = pos'} {o = r'} {steps = m} g b k e') =
      let w = same_answer f g a b h k in
      let s = asks_for_once x alt alt' q q' pos pos' a (subst (λ z. AsksFor theory node z q' pos' alt') (sym (same_part f g).here) b) in
      let d : r ≡ r' = same_decision r r' w.0 in
      let become : (decided_as pos alt r ∷ []) ∷ [] ≡ (decided_as pos' alt' r' ∷ []) ∷ [] = λ i. (decided_as (s.yeses i) (s.noes i) (d i) ∷ []) ∷ [] in
      outcome_at e e' (λ i. at_count (with_configs node ((same_place f g ((decided_as pos alt r ∷ []) ∷ []) ∙ ap (in_place g) become) i)) (node.count + w.1 i))
  settles_once o p (decides {o = r} f a h e) (divides {s = s} g b k l e') = absurd (decided_or_not r s (same_answer f g a b h k).0)
  settles_once o p (divides {s = s} g b k l e') (decides {o = r} f a h e) = absurd (decided_or_not r s (same_answer f g a b h k).0)
  settles_once o p (divides f a h l e) (divides g b k l' e') = outcome_at e e' (ap (λ n. node.count + n) (same_answer f g a b h k).1)

-- configurations are added to one list
pub adds_once : {have cs all more : List SymbolicConfig} → AddsEach have cs all → AddsEach have cs more → all ≡ more
adds_once none_left none_left = refl
adds_once (stands s h) (stands s' h') = adds_once h h'
adds_once (stands s h) (adds n e h') = absurd (n s)
adds_once (adds n e h) (stands s h') = absurd (n s)
adds_once (adds {cs = cs} {all = all} n e h) (adds {all = more} n' e' h') = adds_once h (subst (λ l. AddsEach l cs more) (e' ∙ sym e) h')

true_is_no_false : (b : Bool) → b ≡ true → b ≡ false → ⊥
true_is_no_false b e f = let d : true ≡ false = sym e ∙ f in cc

pub mixes_once : (model : Model) (signature : Signature) (node : Node) (o p : Outcome) → Mixes model signature node o → Mixes model signature node p → SameOutcome o p
mixes_once model signature node o p (mixes {all = all} before after c e a u h f) (mixes {all = more} before' after' c' e' a' u' h' f') =
    let s =
    split_once (λ (d : SymbolicConfig). d.mixed ≡ true) before before' after after' c c' a (λ t. true_is_no_false c.mixed t u) a' (λ t. true_is_no_false c'.mixed t u') (sym e ∙ e')
    in
    let k : AddsEach (before ++ (record c { mixed = true } ∷ after)) (map (λ ps. record c { parts = ps; mixed = false }) (meetings model signature c.parts)) more =
    subst₂ (λ l (d : SymbolicConfig). AddsEach l (map (λ ps. record d { parts = ps; mixed = false }) (meetings model signature d.parts)) more)
    (λ i. sym s.before i ++ (record (sym s.here i) { mixed = true } ∷ sym s.after i)) (sym s.here) h'
    in outcome_at f f' (ap (with_configs node) (adds_once h k))

module _ (problem : Problem) where
  acts_once : (node : Node) (o p : Outcome) → Acts problem node o → Acts problem node p → SameOutcome o p
  acts_once node o p (settles a h) (settles a' h') = settles_once (problem.theory) node o p h h'
  acts_once node o p (settles a h) (knows b c k) = absurd (a b)
  acts_once node o p (settles a h) (mixes_next b c d k) = absurd (a b)
  acts_once node o p (knows b c k) (settles a h) = absurd (a b)
  acts_once node o p (knows b c k) (knows b' c' k') = knows_once node (problem.theory) o p k k'
  acts_once node o p (knows b c k) (mixes_next b' c' d k') = absurd (true_is_no_false node.closed c' c)
  acts_once node o p (mixes_next b c d k) (settles a h) = absurd (a b)
  acts_once node o p (mixes_next b c d k) (knows b' c' k') = absurd (true_is_no_false node.closed c c')
  acts_once node o p (mixes_next b c d k) (mixes_next b' c' d' k') = mixes_once (problem.model) (problem.signature) node o p k k'

  acts_or_through : (node : Node) (o : Outcome) → Acts problem node o → IsThrough problem node → ⊥
  acts_or_through node o (settles a h) t = a t.settled
  acts_or_through node o (knows b c k) t = true_is_no_false node.closed t.closed c
  acts_or_through node o (mixes_next b c d k) t = d t.mixed

  -- each expansion of a node takes the same number of steps
  pub expands_once : {node : Node} {n m : ℕ} {ks ls : List Node} → Expands problem node n ks → Expands problem node m ls → n ≡ m
  expands_once (changes {node = node} {other = a} h t) (changes {other = b} {n = m} {ks = ls} h' t') =
      expands_once t (subst (λ k. Expands problem k m ls) (sym (acts_once node (changed a) (changed b) h h')) t')
  expands_once (changes {node = node} {other = a} h t) (divides_at {n = m} {ks = ls} h') = absurd (acts_once node (changed a) (kids m ls) h h')
  expands_once (changes {node = node} {other = a} h t) (shows u k e) = absurd (acts_or_through node (changed a) h u)
  expands_once (divides_at {node = node} {n = n} {ks = ks} h) (changes {other = b} h' t') = absurd (acts_once node (kids n ks) (changed b) h h')
  expands_once (divides_at {node = node} {n = n} {ks = ks} h) (divides_at {n = m} {ks = ls} h') = acts_once node (kids n ks) (kids m ls) h h'
  expands_once (divides_at {node = node} {n = n} {ks = ks} h) (shows u k e) = absurd (acts_or_through node (kids n ks) h u)
  expands_once (shows {node = node} u k e) (changes {other = b} h' t') = absurd (acts_or_through node (changed b) h' u)
  expands_once (shows {node = node} u k e) (divides_at {n = m} {ks = ls} h') = absurd (acts_or_through node (kids m ls) h' u)
  expands_once (shows u k e) (shows u' k' e') = e ∙ sym e'
