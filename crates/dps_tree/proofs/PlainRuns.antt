-- The runs of parts of outputs are what the parts put out.
use Rattle.std.proofs.Common.{◌≡◌, ℕ, ◌+◌, List, [], ◌∷◌, ◌++◌, length, refl, sym, ◌∙◌, ap, subst, append_assoc, length-append}
use Rattle.std.proofs.lemmas.List.{append-nil}
use Rattle.dps_terms.specs.Tree.{Leaf, public, private, var, ax, entry, rigid, Tree}
use Rattle.dps_signature.specs.Signature.{Signature, Shape, HasShape, shapes}
use Rattle.dps_signature.specs.declared.SymKind.TheVariants.{Constructor}
use Rattle.dps_terms.specs.Kinds.{IsName, IsFrameLeaf}
use Rattle.dps_signature.specs.Kinds.{IsPlain}
use Rattle.dps_terms.proofs.Building.{built_weaker}
use Rattle.dps_theory.specs.Theory.{Theory}
use Rattle.dps_theory.proofs.Evaluating.{plain_evaluates, plain_alone}
use Rattle.dps_process.specs.Models.{Model}
use Rattle.dps_process.specs.Process.{Process, nil, parallel, choice, conditional, bind, input, output}
use Rattle.dps_process.specs.Steps.{Config, Label, outputs, silent, shows, Removes, here, PartSteps, ends, splits, first, second}
use Rattle.dps_process.specs.Steps.{passes, fails, binds, binds_not, receives, sends, Communicates, meets, overheard, Action, Step, alone, together}
use Rattle.dps_process.specs.Traces.{Runs, done, silently, visibly, Ends, IsTrace}
use Rattle.dps_process.proofs.Bags.{ends_reordered}
use Rattle.dps_process.proofs.Values.{IsMessageOver}
use Rattle.dps_tree.specs.Playing.{settled}
use Rattle.dps_tree.specs.Words.{outputs_from, word_of}
use Rattle.dps_tree.proofs.PlainParts.{IsPlainPart, ArePlain, plain_taken, plain_append, plain_settled}
use Rattle.dps_tree.proofs.Plays.{Plays, stops, plays, plays_reordered, settled_all, exchanged_lists, settled_front}

name_of_frame : (x : Leaf) → IsFrameLeaf x → IsName x
name_of_frame (public n) h = tt
name_of_frame (private n) h = tt
name_of_frame (var n) h = h
name_of_frame (ax n) h = h
name_of_frame (entry n) h = h
name_of_frame (rigid n) h = tt

abbrev pub config : List Process → List Tree → Config
config parts frame = record { parts = parts; frame = frame }

module _ (model : Model) (signature : Signature) (theory : Theory) (same : theory.shapes ≡ shapes signature) where
  plain_message : (u : Tree) → IsMessageOver signature u → IsPlain theory.shapes u
  plain_message u m =
      subst (λ (s : List Shape). IsPlain s u) (sym same) (built_weaker IsFrameLeaf (HasShape (shapes signature) Constructor) IsName u m.0 name_of_frame)

  -- what a silent step of a part leaves the parts to put out
  record KeepsPlaying (ps others become : List Process) (added : List Tree) : Type 0 where
    nothing_added : added ≡ []
    plain : ArePlain signature (become ++ others)
    playing : (cs : List ℕ) (ms : List Tree) → Plays (settled_all (become ++ others)) cs ms → Plays (settled_all ps) cs ms

  silent_move :
      {frame : List Tree} {part : Process} {ps others become : List Process} {added : List Tree} → PartSteps signature theory frame part silent become added
      → Removes part ps others → IsPlainPart signature part → ArePlain signature others → KeepsPlaying ps others become added
  silent_move ends t h k = record { nothing_added = refl; plain = k; playing = λ cs ms r. plays_reordered r (settled_front t) }
  silent_move {ps = ps} {others} (splits {p} {q}) t h k =
      record {
        nothing_added = refl;
        plain = (h.0, (h.1, k));
        playing = λ cs ms r. plays_reordered (subst (λ (xs : List Process). Plays xs cs ms) (sym (append_assoc (settled p) (settled q) (settled_all others))) r) (settled_front t);
      }
  silent_move first t h k = absurd h
  silent_move second t h k = absurd h
  silent_move (passes e) t h k = absurd h
  silent_move (fails e) t h k = absurd h
  silent_move (binds e) t h k = absurd h
  silent_move (binds_not e) t h k = absurd h

  -- what a visible step of a part puts out
  record PutsOut (ps others become : List Process) (frame added : List Tree) (label : Label) : Type 0 where
    channel : ℕ
    message : Tree
    label_is : label ≡ outputs channel (length frame + 1)
    added_is : added ≡ message ∷ []
    plain : ArePlain signature (become ++ others)
    playing : (cs : List ℕ) (ms : List Tree) → Plays (settled_all (become ++ others)) cs ms → Plays (settled_all ps) (channel ∷ cs) (message ∷ ms)

  visible_move :
      {frame : List Tree} {part : Process} {ps others become : List Process} {added : List Tree} {label : Label}
      → PartSteps signature theory frame part (shows label) become added → Removes part ps others → IsPlainPart signature part → ArePlain signature others
      → PutsOut ps others become frame added label
  visible_move (receives c r v) t h k = absurd h
  visible_move {others = others} (sends {c} {j} {u} {t = m} {p} channel e i) t h k =
      let value : m ≡ u = plain_alone theory e (plain_message u h.1) in
      record {
        channel = c;
        message = u;
        label_is = ap (outputs c) i;
        added_is = ap (λ (v : Tree). v ∷ []) value;
        plain = (h.2, k);
        playing = λ cs ms r. plays_reordered (plays {q = p} here r) (settled_front t);
      }

  -- a run's labels are outputs in order, and its messages come to the frame's end
  pub record PlayedRun (c d : Config) (word : List Label) : Type 0 where
    pub channels : List ℕ
    pub messages : List Tree
    pub labels : word ≡ outputs_from (length c.frame + 1) channels
    pub playing : Plays (settled_all c.parts) channels messages
    pub frame : d.frame ≡ c.frame ++ messages

  after_silent :
      {c d e : Config} {word : List Label} {others become : List Process} {added : List Tree} → KeepsPlaying c.parts others become added
      → d.parts ≡ become ++ others → d.frame ≡ c.frame ++ added → PlayedRun d e word → PlayedRun c e word
  after_silent {c} {d} {e} {word} k p f r =
      let stays : d.frame ≡ c.frame = f ∙ ap (λ g. c.frame ++ g) k.nothing_added ∙ append-nil c.frame in
      record {
        channels = r.channels;
        messages = r.messages;
        labels = r.labels ∙ ap (λ (g : List Tree). outputs_from (length g + 1) r.channels) stays;
        playing = k.playing r.channels r.messages (subst (λ (ps : List Process). Plays (settled_all ps) r.channels r.messages) p r.playing);
        frame = r.frame ∙ ap (λ (g : List Tree). g ++ r.messages) stays;
      }

  after_output :
      {c d e : Config} {word : List Label} {label : Label} {others become : List Process} {added : List Tree}
      → PutsOut c.parts others become c.frame added label → d.parts ≡ become ++ others → d.frame ≡ c.frame ++ added → PlayedRun d e word
      → PlayedRun c e (label ∷ word)
  after_output {c} {d} {e} {word} {label} k p f r =
      let grown : d.frame ≡ c.frame ++ k.message ∷ [] = f ∙ ap (λ g. c.frame ++ g) k.added_is in
      let longer : length d.frame + 1 ≡ length c.frame + 1 + 1 = ap (λ (g : List Tree). length g + 1) grown ∙ ap (λ n. n + 1) (length-append c.frame (k.message ∷ [])) in
      record {
        channels = k.channel ∷ r.channels;
        messages = k.message ∷ r.messages;
        labels = λ i. k.label_is i ∷ (r.labels ∙ ap (λ n. outputs_from n r.channels) longer) i;
        playing = k.playing r.channels r.messages (subst (λ (ps : List Process). Plays (settled_all ps) r.channels r.messages) p r.playing);
        frame = r.frame ∙ (ap (λ (g : List Tree). g ++ r.messages) grown ∙ append_assoc c.frame (k.message ∷ []) r.messages);
      }

  no_meeting :
      {frame added : List Tree} {action : Action} {sender receiver sent received : Process}
      → Communicates model signature theory frame sender receiver action sent received added → IsPlainPart signature receiver → ⊥
  no_meeting (meets d e) h = h
  no_meeting (overheard d e j) h = h

  pub played_run : {c d : Config} {word : List Label} → Runs model signature theory c word d → ArePlain signature c.parts → PlayedRun c d word
  played_run {c} done h = record { channels = []; messages = []; labels = refl; playing = stops; frame = sym (append-nil c.frame) }
  played_run {c} (silently {d = d} (alone {become = become} {others} t m p f) r) h =
      let part = plain_taken signature t h in
      let k = silent_move m t part.0 part.1 in after_silent k p f (played_run r (subst (ArePlain signature) (sym p) k.plain))
  played_run {c} (silently (together t u m p f) r) h =
      absurd (no_meeting m (plain_taken signature u (plain_taken signature t h).1).0)
  played_run {c} (visibly (together t u m p f) r) h =
      absurd (no_meeting m (plain_taken signature u (plain_taken signature t h).1).0)
  played_run {c} (visibly (alone {become = become} {others} t m p f) r) h =
      let part = plain_taken signature t h in
      let k = visible_move m t part.0 part.1 in after_output k p f (played_run r (subst (ArePlain signature) (sym p) k.plain))

  -- and back: a settled part stands for what it comes from
  step_first : {c d : Config} {word : List Label} {frame : List Tree} → Step model signature theory c silent d → Ends model signature theory d word frame → Ends model signature theory c word frame
  step_first s e = (e.0, silently s e.1, e.2)

  unsettled :
      (p : Process) (rest : List Process) (frame last : List Tree) (word : List Label) → IsPlainPart signature p
      → Ends model signature theory (config (settled p ++ rest) frame) word last → Ends model signature theory (config (p ∷ rest) frame) word last
  unsettled nil rest frame last word h e = step_first (alone here ends refl (sym (append-nil frame))) e
  unsettled (parallel p q) rest frame last word h e =
      let apart = subst (λ (ps : List Process). Ends model signature theory (config ps frame) word last) (append_assoc (settled p) (settled q) rest) e in
      let swapped = ends_reordered model signature theory (config (settled p ++ (settled q ++ rest)) frame) (config (settled q ++ (settled p ++ rest)) frame) word last
      (record { parts = exchanged_lists (settled p) (settled q) rest; frame = refl }) apart in
      let second = unsettled q (settled p ++ rest) frame last word h.1 swapped in
      let back = ends_reordered model signature theory (config (q ∷ (settled p ++ rest)) frame) (config (settled p ++ (q ∷ rest)) frame) word last
      (record { parts = exchanged_lists (q ∷ []) (settled p) rest; frame = refl }) second in
      step_first (alone here splits refl (sym (append-nil frame))) (unsettled p (q ∷ rest) frame last word h.0 back)
  unsettled (choice p q) rest frame last word h e = absurd h
  unsettled (conditional u v p q) rest frame last word h e = absurd h
  unsettled (bind x u p q) rest frame last word h e = absurd h
  unsettled (input c x p) rest frame last word h e = absurd h
  unsettled (output c u p) rest frame last word h e = e

  pub run_of_plays :
      {ps : List Process} {cs : List ℕ} {ms : List Tree} → Plays ps cs ms → ArePlain signature ps → (frame : List Tree)
      → Ends model signature theory (config ps frame) (outputs_from (length frame + 1) cs) (frame ++ ms)
  run_of_plays {ps} stops h frame = (config ps frame, done, sym (append-nil frame))
  run_of_plays {ps} (plays {c} {u} {q} {rest = rest} {cs} {ms} t r) h frame =
      let part = plain_taken signature t h in
      let message = part.0.1 in
      let step : Step model signature theory (config ps frame) (shows (outputs c (length frame + 1))) (config (q ∷ rest) (frame ++ u ∷ [])) = alone t
      (sends part.0.0 (plain_evaluates theory u (plain_message u message)) refl) refl refl in
      let later = run_of_plays r (plain_append signature (settled q) rest (plain_settled signature q part.0.2) part.1) (frame ++ u ∷ []) in
      let word : outputs_from (length (frame ++ u ∷ []) + 1) cs ≡ outputs_from (length frame + 1 + 1) cs = ap (λ n. outputs_from (n + 1) cs) (length-append frame (u ∷ [])) in
      let e = unsettled q rest (frame ++ u ∷ []) ((frame ++ u ∷ []) ++ ms) (outputs_from (length (frame ++ u ∷ []) + 1) cs) part.0.2 later in
      (e.0, visibly step (subst (λ (w : List Label). Runs model signature theory (config (q ∷ rest) (frame ++ u ∷ [])) w e.0) word e.1), e.2 ∙ append_assoc frame (u ∷ []) ms)

  -- the traces of a process of outputs
  pub trace_played :
      (p : Process) (word : List Label) (frame : List Tree) → IsPlainPart signature p → IsTrace model signature theory p word frame
      → (cs : List ℕ) × (word ≡ word_of cs) × Plays (settled p) cs frame
  trace_played p word frame h e =
      let r = played_run e.1 (h, tt) in (
        r.channels,
        r.labels,
        subst (λ (f : List Tree). Plays (settled p) r.channels f) (sym r.frame ∙ e.2)
            (subst (λ (ps : List Process). Plays ps r.channels r.messages) (append-nil (settled p)) r.playing),
      )

  pub played_trace : (p : Process) (cs : List ℕ) (frame : List Tree) → IsPlainPart signature p → Plays (settled p) cs frame → IsTrace model signature theory p (word_of cs) frame
  played_trace p cs frame h r =
      unsettled p [] [] frame (word_of cs) h
      (subst (λ (ps : List Process). Ends model signature theory (config ps []) (word_of cs) frame) (sym (append-nil (settled p))) (run_of_plays r (plain_settled signature p h) []))
