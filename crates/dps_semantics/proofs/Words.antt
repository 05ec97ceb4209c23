-- Runs, by their last label.
use Rattle.std.proofs.Common.{List, [], ◌∷◌, ◌++◌}
use Rattle.dps_terms.specs.Tree.{Tree}
use Rattle.dps_signature.specs.Signature.{Signature}
use Rattle.dps_theory.specs.Theory.{Theory}
use Rattle.dps_process.specs.Process.{Process}
use Rattle.dps_process.specs.Models.{Model}
use Rattle.dps_process.specs.Steps.{Config, Label, shows, Step, alone, together, AreOneBag}
use Rattle.dps_process.specs.Traces.{Runs, visibly}
use Rattle.dps_process.proofs.Bags.{bags_trans, bags_sym, step_reordered, run_reordered}
use Rattle.dps_process.proofs.RunBeginnings.{config}
use Rattle.dps_semantics.specs.Settling.{IsSettled, SettlesTo}
use Rattle.dps_semantics.specs.Coming.{Finds, at_end, at_label, at_overhearing}
use Rattle.dps_semantics.proofs.Arriving.{AreParts, all_come_settled}
use Rattle.dps_semantics.proofs.Finding.{found}
use Rattle.dps_semantics.proofs.Reaching.{reached, run_on}
use Rattle.dps_semantics.proofs.Settled.{reordered_settled, meetings_settled}

module _ (model : Model) (signature : Signature) (theory : Theory) where
  -- what is found are inputs and outputs
  found_settled : {ps es : List Process} {frame last : List Tree} {word : List Label} → Finds model signature theory ps frame word es last → AreParts es
  found_settled (at_end h m) = meetings_settled model signature theory m (all_come_settled theory h)
  found_settled (at_label h m t v e g r) = found_settled r
  found_settled (at_overhearing h m t u v e g r) = found_settled r

  -- the settled configuration before the last label, the step, and what is found after it
  record LastFound (ps : List Process) (frame : List Tree) (word : List Label) (label : Label) (ds : List Process) (last : List Tree) : Type 0 where
    before : List Process
    frame_before : List Tree
    after : Config
    finds : Finds model signature theory ps frame word before frame_before
    steps : Step model signature theory (config before frame_before) (shows label) after
    ends : Finds model signature theory after.parts after.frame [] ds last

  last_found : (word : List Label) {label : Label} {ps ds : List Process} {frame last : List Tree} → Finds model signature theory ps frame (word ++ label ∷ []) ds last
      → LastFound ps frame word label ds last
  last_found [] {frame = frame} (at_label {es = es} {next = next} {longer = longer} h m t v e g r) = record {
    before = es;
    frame_before = frame;
    after = config next longer;
    finds = at_end h m;
    steps = alone t v e g;
    ends = r;
  }
  last_found [] {frame = frame} (at_overhearing {es = es} {next = next} {longer = longer} h m t u v e g r) = record {
    before = es;
    frame_before = frame;
    after = config next longer;
    finds = at_end h m;
    steps = together t u v e g;
    ends = r;
  }
  last_found (l ∷ word) (at_label h m t v e g r) =
      let k = last_found word r in
      record { before = k.before; frame_before = k.frame_before; after = k.after; finds = at_label h m t v e g k.finds; steps = k.steps; ends = k.ends }
  last_found (l ∷ word) (at_overhearing h m t u v e g r) =
      let k = last_found word r in
      record { before = k.before; frame_before = k.frame_before; after = k.after; finds = at_overhearing h m t u v e g k.finds; steps = k.steps; ends = k.ends }

  -- a run to a settled configuration, by way of a settled one before the last label
  pub record LastRun (c : Config) (word : List Label) (label : Label) (d : Config) : Type 0 where
    pub before : Config
    pub after : Config
    pub end : Config
    pub run : Runs model signature theory c word before
    pub settled : IsSettled before
    pub steps : Step model signature theory before (shows label) after
    pub settles : SettlesTo model signature theory after end
    pub same : AreOneBag end d

  from_last : (c d : Config) (word : List Label) (label : Label) → LastFound c.parts c.frame word label d.parts d.frame → LastRun c word label d
  from_last c d word label k =
      let b = reached model signature theory k.finds in
      let s = step_reordered model signature theory b.2 k.steps in
      let e = reached model signature theory k.ends in
      let f = run_reordered model signature theory e.1 s.2 in
      record {
        before = b.0;
        after = s.0;
        end = f.0;
        run = b.1;
        settled = reordered_settled b.2.parts (found_settled k.finds);
        steps = s.1;
        settles = record { run = f.1; settled = reordered_settled f.2.parts (reordered_settled e.2.parts (found_settled k.ends)) };
        same = bags_trans f.0 e.0 d (bags_sym e.0 f.0 f.2) (bags_sym (config d.parts d.frame) e.0 e.2);
      }

  pub last_run : (c d : Config) (word : List Label) (label : Label) → Runs model signature theory c (word ++ label ∷ []) d → IsSettled d → LastRun c word label d
  last_run c d word label r s = from_last c d word label (last_found word (found model signature theory r s))

  -- and back
  pub run_further : (c before after d : Config) (word : List Label) (label : Label) → Runs model signature theory c word before → Step model signature theory before (shows label) after
      → Runs model signature theory after [] d → Runs model signature theory c (word ++ label ∷ []) d
  run_further c before after d word label r s t = run_on model signature theory r (visibly s t)
