-- The settled ends of the runs with a word, and the last frames of the traces.
use Rattle.std.proofs.Common.{◌≡◌, ℕ, ◌<◌, ◌+◌, ◌-◌, List, [], ◌∷◌, ◌++◌, length, take, refl, sym, ◌∙◌, ap, subst, inl, inr, arith, append-nil, true, false}
use Rattle.std.specs.Prelude.{◌⊎◌, Contains}
use Rattle.std.proofs.lemmas.Bool.{cases_Bool}
use Rattle.dps_branch.specs.declared.Side.{Side}
use Rattle.dps_terms.specs.Tree.{Tree}
use Rattle.dps_terms.specs.Same.{same, same-true, same-self}
use Rattle.dps_bags.proofs.Holding.{contains_none, contains_first, contains_later, contains_cases}
use Rattle.dps_process.specs.Problem.{Problem, side_of}
use Rattle.dps_process.specs.Process.{Process}
use Rattle.dps_process.specs.Steps.{Config, start, Label, AreOneBag}
use Rattle.dps_process.specs.Traces.{Runs, done, IsTraceOf}
use Rattle.dps_process.proofs.Bags.{bags_refl, bags_trans, bags_sym, step_reordered}
use Rattle.dps_semantics.specs.Settling.{SettlesTo, IsOneOf, IsInSomeOrder, AreJust, AreSettlings, EachStandsOnce}
use Rattle.dps_semantics.specs.Words.{EndsIn, HasFrame, AreEnds, IsStuckAt}
use Rattle.dps_semantics.specs.Following.{AreFollowing}
use Rattle.dps_semantics.specs.Coming.{AllComeTo, no_meeting, at_end}
use Rattle.dps_process.proofs.Bags.{reordered_refl}
use Rattle.dps_semantics.proofs.Arriving.{all_come_settled}
use Rattle.dps_semantics.proofs.Reaching.{reached, run_on}
use Rattle.dps_semantics.proofs.Settled.{reordered_settled}
use Rattle.dps_semantics.proofs.Following.{settles_reordered}
use Rattle.dps_semantics.proofs.Words.{LastRun, last_run, run_further}
use Rattle.dps_semantics.proofs.Total.{all_come}

-- whether two frames are the same
tree_or : (t u : Tree) → (t ≡ u) ⊎ ¬ (t ≡ u)
tree_or t u =
    elim (cases_Bool (same t u)) [
      | inl e ↦ inl (same-true t u e)
      | inr e ↦ inr (λ d. (let o : true ≡ false = sym (same-self t) ∙ ap (same t) d ∙ e in absurd (cc)))
    ]

both_or : (t u : Tree) (ts us : List Tree) → (t ≡ u) ⊎ ¬ (t ≡ u) → (ts ≡ us) ⊎ ¬ (ts ≡ us) → (t ∷ ts ≡ u ∷ us) ⊎ ¬ (t ∷ ts ≡ u ∷ us)
both_or t u ts us (inl e) (inl f) = inl (ap (λ x. x ∷ ts) e ∙ ap (λ xs. u ∷ xs) f)
both_or t u ts us (inr n) f = inr (λ e. n (cc))
both_or t u ts us (inl e) (inr n) = inr (λ f. n (cc))

frame_or : (f g : List Tree) → (f ≡ g) ⊎ ¬ (f ≡ g)
frame_or [] [] = inl refl
frame_or [] (u ∷ us) = inr (λ e. absurd (cc))
frame_or (t ∷ ts) [] = inr (λ e. absurd (cc))
frame_or (t ∷ ts) (u ∷ us) = both_or t u ts us (tree_or t u) (frame_or ts us)

one_or : (c : Config) (cs : List Config) (frame : List Tree) → (c.frame ≡ frame) ⊎ ¬ (c.frame ≡ frame) → HasFrame cs frame ⊎ ¬ HasFrame cs frame → HasFrame (c ∷ cs) frame ⊎ ¬ HasFrame (c ∷ cs) frame
one_or c cs frame (inl e) h = inl (c, contains_first c cs, e)
one_or c cs frame (inr n) (inl h) = inl (h.0, contains_later c cs h.0 h.1, h.2)
one_or c cs frame (inr n) (inr m) = inr (λ h. elim (contains_cases c cs h.0 h.1) [ inl e ↦ n (ap (λ k. k.frame) (sym e) ∙ h.2) | inr k ↦ m (h.0, k, h.2) ])

has_frame_or : (configs : List Config) (frame : List Tree) → HasFrame configs frame ⊎ ¬ HasFrame configs frame
has_frame_or [] frame = inr (λ h. contains_none h.0 h.1)
has_frame_or (c ∷ cs) frame = one_or c cs frame (frame_or c.frame frame) (has_frame_or cs frame)

module _ (problem : Problem) (side : Side) where
  abbrev First : Config
  First = start (side_of problem side)

  ends_follow : (word : List Label) (label : Label) (configs found : List Config) (k : Config) → AreJust (EndsIn problem side word) configs → AreFollowing problem configs label found
      → IsOneOf found k → IsInSomeOrder (EndsIn problem side (word ++ label ∷ [])) k
  ends_follow word label configs found k j a o =
      let f = (a k).0 o in
      let c = f.1.0 in
      let b = (j c).0 (c, f.1.1, bags_refl c) in
      let s = step_reordered problem.model problem.signature problem.theory (bags_sym b.0 c b.2) f.1.2.1 in
      let e = settles_reordered problem.model problem.signature problem.theory f.1.2.0 f.0 s.0 f.1.2.2 s.2 in (
        e.0,
        record { run = run_further problem.model problem.signature problem.theory First b.0 s.0 e.0 word label b.1.run s.1 e.1.run; settled = e.1.settled },
        bags_trans e.0 f.0 k (bags_sym f.0 e.0 e.2) f.2,
      )

  follow_end : (word : List Label) (label : Label) (configs found : List Config) (d k : Config) → AreJust (EndsIn problem side word) configs → AreFollowing problem configs label found
      → LastRun problem.model problem.signature problem.theory First word label d → AreOneBag d k → IsOneOf found k
  follow_end word label configs found d k j a l r =
      let c = (j l.before).1 (l.before, record { run = l.run; settled = l.settled }, bags_refl l.before) in
      let s = step_reordered problem.model problem.signature problem.theory (bags_sym c.0 l.before c.2) l.steps in
      let e = settles_reordered problem.model problem.signature problem.theory l.after l.end s.0 l.settles s.2 in
      (a k).1 (e.0, (c.0, c.1, (s.0, s.1, e.1)), bags_trans e.0 l.end k (bags_sym l.end e.0 e.2) (bags_trans l.end d k l.same r))

  -- the ends with one label more
  pub ends_more : (word : List Label) (label : Label) (configs found : List Config) → AreJust (EndsIn problem side word) configs → AreFollowing problem configs label found
      → AreJust (EndsIn problem side (word ++ label ∷ [])) found
  ends_more word label configs found j a k = (
    ends_follow word label configs found k j a,
    λ o. follow_end word label configs found o.0 k j a (last_run problem.model problem.signature problem.theory First o.0 word label o.1.run o.1.settled) o.2,
  )

  abbrev SettledAt : List Label → List Tree → Type 0
  SettledAt word frame = (d : Config) × EndsIn problem side word d × (d.frame ≡ frame)

  settle_on : (word : List Label) (d : Config) (frame : List Tree) → Runs problem.model problem.signature problem.theory First word d → d.frame ≡ frame
      → ((bs : List Process) × AllComeTo problem.theory d.parts bs) → SettledAt word frame
  settle_on word d frame r e b =
      let k = reached problem.model problem.signature problem.theory (at_end {frame = d.frame} b.1 (no_meeting (reordered_refl b.0))) in
      let on = run_on problem.model problem.signature problem.theory r k.1 in (
        k.0,
        record {
          run = subst (λ (w : List Label). Runs problem.model problem.signature problem.theory First w k.0) (append-nil word) on;
          settled = reordered_settled k.2.parts (all_come_settled problem.theory b.1);
        },
        sym k.2.frame ∙ e,
      )

  never_none : (word : List Label) (configs : List Config) (frame : List Tree) → AreJust (EndsIn problem side word) configs → IsTraceOf problem side word frame → ¬ (¬ HasFrame configs frame)
  never_none word configs frame j t n =
      all_come problem.theory t.0.parts (λ b. (
      let s = settle_on word t.0 frame t.1 t.2 b in
      let o = (j s.0).1 (s.0, s.1, bags_refl s.0) in
      n (o.0, o.1, o.2.frame ∙ s.2)
      ))

  -- the last frames are just those of the traces
  pub trace_found : (word : List Label) (configs : List Config) (frame : List Tree) → AreJust (EndsIn problem side word) configs → IsTraceOf problem side word frame → HasFrame configs frame
  trace_found word configs frame j t = elim (has_frame_or configs frame) [ inl h ↦ h | inr n ↦ absurd (never_none word configs frame j t n) ]

  pub found_trace : (word : List Label) (configs : List Config) (frame : List Tree) → AreJust (EndsIn problem side word) configs → HasFrame configs frame → IsTraceOf problem side word frame
  found_trace word configs frame j h =
      let d = (j h.0).0 (h.0, h.1, bags_refl h.0) in (d.0, d.1.run, d.2.frame ∙ h.2)

  pub ends_are : (word : List Label) (configs : List Config) → AreJust (EndsIn problem side word) configs → EachStandsOnce configs → 0 < length configs → AreEnds problem side word configs
  ends_are word configs j once h = record {
    just = j;
    frames = λ frame. (found_trace word configs frame j, trace_found word configs frame j);
    some = h;
    once = once;
  }

  -- some run has the word
  abbrev pub SomeTrace : List Label → Type 0
  SomeTrace word = (frame : List Tree) × IsTraceOf problem side word frame

  pub first_trace : SomeTrace []
  first_trace = ([], (First, done, refl))

  pub some_end : (word : List Label) (configs : List Config) → AreJust (EndsIn problem side word) configs → SomeTrace word → 0 < length configs
  some_end word configs j t = let h = trace_found word configs t.0 j t.1 in omega (arith, h.1.1)

  pub end_trace : (word : List Label) (configs : List Config) → AreJust (EndsIn problem side word) configs → 0 < length configs → SomeTrace word
  end_trace word [] j h = absurd (omega (arith, h))
  end_trace word (c ∷ cs) j h = (c.frame, found_trace word (c ∷ cs) c.frame j (c, contains_first c cs, refl))

  pub stuck_at : (word : List Label) (i n : ℕ) (configs : List Config) → i < length word → n ≡ i + 1 → SomeTrace (take i word) → AreJust (EndsIn problem side (take (i + 1) word)) configs
      → configs ≡ [] → IsStuckAt problem side word n
  stuck_at word i n configs h e t j none =
      let before : n - 1 ≡ i = omega (arith, e) in record {
        counted = omega (arith, e);
        there = omega (arith, e, h);
        passed = subst (λ (m : ℕ). SomeTrace (take m word)) (sym before) t;
        stuck = λ frame k. (
            let s : IsTraceOf problem side (take (i + 1) word) frame = subst (λ (m : ℕ). IsTraceOf problem side (take m word) frame) e k in
            let f = trace_found (take (i + 1) word) configs frame j s in
            contains_none f.0 (subst (λ (cs : List Config). Contains cs f.0) none f.1)
            );
      }

  ends_in : {d : Config} → SettlesTo problem.model problem.signature problem.theory First d → EndsIn problem side [] d
  ends_in s = record { run = s.run; settled = s.settled }

  -- what the side settles to before the first label
  pub first_ends : (c : Config) (configs : List Config) → c ≡ First → AreSettlings problem c configs → AreJust (EndsIn problem side []) configs
  first_ends c configs e s k = (
    λ o. (let d = (s k).0 o in (d.0, ends_in (subst (λ (x : Config). SettlesTo problem.model problem.signature problem.theory x d.0) e d.1), d.2)),
    λ o. (s k).1 (o.0, subst (λ (x : Config). SettlesTo problem.model problem.signature problem.theory x o.0) (sym e) (record { run = o.1.run; settled = o.1.settled }), o.2),
  )
