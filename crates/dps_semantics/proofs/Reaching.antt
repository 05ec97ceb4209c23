-- What a search finds is reached by runs, up to the order of parts.
use Rattle.std.proofs.Common.{List, [], ◌∷◌, ◌++◌, refl, sym, ◌∙◌, ap, subst, append_assoc, append-nil}
use Rattle.dps_terms.specs.Tree.{Tree}
use Rattle.dps_signature.specs.Signature.{Signature}
use Rattle.dps_theory.specs.Theory.{Theory}
use Rattle.dps_process.specs.Process.{Process, nil, parallel, choice, conditional, bind, put}
use Rattle.dps_process.specs.Models.{Model}
use Rattle.dps_process.specs.Steps.{Config, Label, silent, shows, here, PartSteps, ends, splits, first, second, passes, fails, binds, binds_not, Communicates, meets, Step, alone}
use Rattle.dps_process.specs.Steps.{together, IsReordered, AreOneBag}
use Rattle.dps_process.specs.Traces.{Runs, done, silently, visibly}
use Rattle.dps_process.proofs.Bags.{reordered_sym, bags_refl, bags_trans, RunsTo, run_reordered}
use Rattle.dps_process.proofs.RunBeginnings.{config}
use Rattle.dps_process.proofs.RunsBeside.{fronts_swap}
use Rattle.dps_semantics.specs.Coming.{ComesTo, gone, both, by_first, by_second, by_passing, by_failing, by_binding, without_binding, an_input, an_output, AllComeTo, no_parts_come}
use Rattle.dps_semantics.specs.Coming.{a_part_comes, Meets, meet, ComesByMeeting, ComesByMeetings, no_meeting, a_meeting, Finds, at_end, at_label, at_overhearing}

module _ (model : Model) (signature : Signature) (theory : Theory) where
  -- a run with this word to the configuration, up to the order of its parts
  abbrev pub Leads : Config → List Label → Config → Type 0
  Leads c word d = RunsTo model signature theory c word d

  pub run_on : {c d e : Config} {word then : List Label} → Runs model signature theory c word d → Runs model signature theory d then e → Runs model signature theory c (word ++ then) e
  run_on done q = q
  run_on (silently s r) q = silently s (run_on r q)
  run_on (visibly s r) q = visibly s (run_on r q)

  pub leads_on : (c d e : Config) (word then : List Label) → Leads c word d → Leads d then e → Leads c (word ++ then) e
  leads_on c d e word then h k =
      let l = run_reordered model signature theory k.1 h.2 in
      (l.0, run_on h.1 l.1, bags_trans e k.0 l.0 k.2 l.2)

  leads_nowhere : (c d : Config) → AreOneBag d c → Leads c [] d
  leads_nowhere c d b = (c, done, b)

  step_leads : (c d e : Config) (word : List Label) → Step model signature theory c silent d → Leads d word e → Leads c word e
  step_leads c d e word s h = (h.0, silently s h.1, h.2)

  -- the parts in another order
  in_order : (ps qs es : List Process) (frame : List Tree) → IsReordered qs es → Leads (config ps frame) [] (config es frame) → Leads (config ps frame) [] (config qs frame)
  in_order ps qs es frame r h = (h.0, h.1, bags_trans (config qs frame) (config es frame) h.0 (record { parts = r; frame = refl }) h.2)

  from_order : (ps qs es : List Process) (frame : List Tree) → IsReordered qs ps → Leads (config qs frame) [] (config es frame) → Leads (config ps frame) [] (config es frame)
  from_order ps qs es frame r h =
      leads_on (config ps frame) (config qs frame) (config es frame) [] [] (leads_nowhere (config ps frame) (config qs frame) (record { parts = r; frame = refl })) h

  moves_on : (p : Process) (become others es : List Process) (frame : List Tree) → PartSteps signature theory frame p silent become []
      → Leads (config (become ++ others) frame) [] (config es frame) → Leads (config (p ∷ others) frame) [] (config es frame)
  moves_on p become others es frame m h =
      step_leads (config (p ∷ others) frame) (config (become ++ others) frame) (config es frame) [] (alone here m refl (sym (append-nil frame))) h

  -- a process runs to what it comes to, beside others
  pub comes_run : {p : Process} {bs : List Process} → ComesTo theory p bs → (others : List Process) (frame : List Tree) → Leads (config (p ∷ others) frame) [] (config (bs ++ others) frame)
  comes_run gone others frame = moves_on nil [] others others frame ends (leads_nowhere (config others frame) (config others frame) (bags_refl (config others frame)))
  comes_run (both {p} {q} {ps} {qs} {rs} h k e) others frame =
      let one : Leads (config (p ∷ q ∷ others) frame) [] (config (ps ++ (q ∷ others)) frame) = comes_run h (q ∷ others) frame in
      let two : Leads (config (q ∷ (ps ++ others)) frame) [] (config (qs ++ (ps ++ others)) frame) = comes_run k (ps ++ others) frame in
      let three = from_order (ps ++ (q ∷ others)) (q ∷ (ps ++ others)) (qs ++ (ps ++ others)) frame (fronts_swap (q ∷ []) ps others) two in
      let same : IsReordered (rs ++ others) (qs ++ (ps ++ others)) =
      subst (λ (xs : List Process). IsReordered xs (qs ++ (ps ++ others))) (sym (ap (λ xs. xs ++ others) e ∙ append_assoc ps qs others)) (fronts_swap ps qs others) in
      let all = leads_on (config (p ∷ q ∷ others) frame) (config (ps ++ (q ∷ others)) frame) (config (qs ++ (ps ++ others)) frame) [] [] one three in
      moves_on (parallel p q) (p ∷ q ∷ []) others (rs ++ others) frame splits (in_order (p ∷ q ∷ others) (rs ++ others) (qs ++ (ps ++ others)) frame same all)
  comes_run (by_first {p} {q} {ps} h) others frame = moves_on (choice p q) (p ∷ []) others (ps ++ others) frame first (comes_run h others frame)
  comes_run (by_second {p} {q} {ps} h) others frame = moves_on (choice p q) (q ∷ []) others (ps ++ others) frame second (comes_run h others frame)
  comes_run (by_passing {u} {v} {p} {q} {ps} m h) others frame = moves_on (conditional u v p q) (p ∷ []) others (ps ++ others) frame (passes m) (comes_run h others frame)
  comes_run (by_failing {u} {v} {p} {q} {ps} m h) others frame = moves_on (conditional u v p q) (q ∷ []) others (ps ++ others) frame (fails m) (comes_run h others frame)
  comes_run (by_binding {x} {u} {t} {p} {q} {ps} m h) others frame = moves_on (bind x u p q) (put x t p ∷ []) others (ps ++ others) frame (binds m) (comes_run h others frame)
  comes_run (without_binding {x} {u} {p} {q} {ps} m h) others frame = moves_on (bind x u p q) (q ∷ []) others (ps ++ others) frame (binds_not m) (comes_run h others frame)
  comes_run {p} an_input others frame = leads_nowhere (config (p ∷ others) frame) (config (p ∷ others) frame) (bags_refl (config (p ∷ others) frame))
  comes_run {p} an_output others frame = leads_nowhere (config (p ∷ others) frame) (config (p ∷ others) frame) (bags_refl (config (p ∷ others) frame))

  pub all_come_run : {ps bs : List Process} → AllComeTo theory ps bs → (others : List Process) (frame : List Tree) → Leads (config (ps ++ others) frame) [] (config (bs ++ others) frame)
  all_come_run no_parts_come others frame = leads_nowhere (config others frame) (config others frame) (bags_refl (config others frame))
  all_come_run (a_part_comes {p} {ps} {bs} {cs} {ds} h k e) others frame =
      let one : Leads (config (p ∷ (ps ++ others)) frame) [] (config (bs ++ (ps ++ others)) frame) = comes_run h (ps ++ others) frame in
      let two : Leads (config (ps ++ (bs ++ others)) frame) [] (config (cs ++ (bs ++ others)) frame) = all_come_run k (bs ++ others) frame in
      let three = from_order (bs ++ (ps ++ others)) (ps ++ (bs ++ others)) (cs ++ (bs ++ others)) frame (fronts_swap ps bs others) two in
      let same : IsReordered (ds ++ others) (cs ++ (bs ++ others)) =
      subst (λ (xs : List Process). IsReordered xs (cs ++ (bs ++ others))) (sym (ap (λ xs. xs ++ others) e ∙ append_assoc bs cs others)) (fronts_swap bs cs others) in
      in_order (p ∷ (ps ++ others)) (ds ++ others) (cs ++ (bs ++ others)) frame same
      (leads_on (config (p ∷ (ps ++ others)) frame) (config (bs ++ (ps ++ others)) frame) (config (cs ++ (bs ++ others)) frame) [] [] one three)

  communicates : {sender receiver sent received : Process} → Meets model signature theory sender receiver sent received → (frame : List Tree)
      → Communicates model signature theory frame sender receiver silent sent received []
  communicates (meet d e) frame = meets d e

  meeting_runs : {ps qs : List Process} → ComesByMeeting model signature theory ps qs → (frame : List Tree) → Leads (config ps frame) [] (config qs frame)
  meeting_runs {ps} {qs} m frame =
      let one : Leads (config (m.sent ∷ m.received ∷ m.rest) frame) [] (config (m.from_sender ++ (m.received ∷ m.rest)) frame) = comes_run m.sender_comes (m.received ∷ m.rest) frame in
      let two : Leads (config (m.received ∷ (m.from_sender ++ m.rest)) frame) [] (config (m.from_receiver ++ (m.from_sender ++ m.rest)) frame) =
      comes_run m.receiver_comes (m.from_sender ++ m.rest) frame in
      let three = from_order (m.from_sender ++ (m.received ∷ m.rest)) (m.received ∷ (m.from_sender ++ m.rest)) (m.from_receiver ++ (m.from_sender ++ m.rest)) frame
      (fronts_swap (m.received ∷ []) m.from_sender m.rest) two in
      let same : IsReordered qs (m.from_receiver ++ (m.from_sender ++ m.rest)) =
      subst (λ (xs : List Process). IsReordered xs (m.from_receiver ++ (m.from_sender ++ m.rest))) (sym m.become) (fronts_swap m.from_sender m.from_receiver m.rest) in
      step_leads (config ps frame) (config (m.sent ∷ m.received ∷ m.rest) frame) (config qs frame) []
      (together m.removes_sender m.removes_receiver (communicates m.meeting frame) refl (sym (append-nil frame)))
      (in_order (m.sent ∷ m.received ∷ m.rest) qs (m.from_receiver ++ (m.from_sender ++ m.rest)) frame same
      (leads_on (config (m.sent ∷ m.received ∷ m.rest) frame) (config (m.from_sender ++ (m.received ∷ m.rest)) frame) (config (m.from_receiver ++ (m.from_sender ++ m.rest)) frame) [] [] one three))

  pub meetings_run : {ps qs : List Process} → ComesByMeetings model signature theory ps qs → (frame : List Tree) → Leads (config ps frame) [] (config qs frame)
  meetings_run {ps} {qs} (no_meeting r) frame = leads_nowhere (config ps frame) (config qs frame) (record { parts = reordered_sym r; frame = refl })
  meetings_run {ps} {qs = rs} (a_meeting {qs = qs} m k) frame = leads_on (config ps frame) (config qs frame) (config rs frame) [] [] (meeting_runs m frame) (meetings_run k frame)

  both_run : {ps bs es : List Process} → AllComeTo theory ps bs → ComesByMeetings model signature theory bs es → (frame : List Tree) → Leads (config ps frame) [] (config es frame)
  both_run {ps} {bs} {es} h m frame =
      let one : Leads (config (ps ++ []) frame) [] (config (bs ++ []) frame) = all_come_run h [] frame in
      let two : Leads (config ps frame) [] (config bs frame) = subst (λ (xs : List Process). Leads (config xs frame) [] (config bs frame)) (append-nil ps)
      (subst (λ (xs : List Process). Leads (config (ps ++ []) frame) [] (config xs frame)) (append-nil bs) one) in
      leads_on (config ps frame) (config bs frame) (config es frame) [] [] two (meetings_run m frame)

  -- what is found is reached
  pub reached : {ps es : List Process} {frame last : List Tree} {word : List Label} → Finds model signature theory ps frame word es last → Leads (config ps frame) word (config es last)
  reached {frame = frame} (at_end h m) = both_run h m frame
  reached {ps} {es = ds} {frame} {last} (at_label {es = es} {rest = rest} {become = become} {next = next} {added = added} {longer = longer} {label = label} {word = word} h m t v e g r) =
      let before = both_run h m frame in
      let step : Step model signature theory (config es frame) (shows label) (config next longer) = alone t v e g in
      let on = reached r in
      leads_on (config ps frame) (config es frame) (config ds last) [] (label ∷ word) before (on.0, visibly step on.1, on.2)
  reached {ps} {es = ds} {frame} {last} (at_overhearing {es = es} {rest = rest} {next = next} {added = added} {longer = longer} {label = label} {word = word} h m t u v e g r) =
      let before = both_run h m frame in
      let step : Step model signature theory (config es frame) (shows label) (config next longer) = together t u v e g in
      let on = reached r in
      leads_on (config ps frame) (config es frame) (config ds last) [] (label ∷ word) before (on.0, visibly step on.1, on.2)
