-- A search finds just the settled ends of runs, up to the order of parts.
use Rattle.std.proofs.Common.{◌≡◌, List, [], ◌∷◌, ◌++◌, refl, sym, ◌∙◌, ap, subst, append-nil}
use Rattle.dps_terms.specs.Tree.{Tree}
use Rattle.dps_signature.specs.Signature.{Signature}
use Rattle.dps_theory.specs.Theory.{Theory}
use Rattle.dps_process.specs.Process.{Process}
use Rattle.dps_process.specs.Models.{Model}
use Rattle.dps_process.specs.Steps.{Config, Label, silent, shows, Removes, here, PartSteps, ends, splits, first, second, passes, fails, binds, binds_not, receives}
use Rattle.dps_process.specs.Steps.{sends, Communicates, meets, overheard, Step, alone, together, IsReordered, a_part}
use Rattle.dps_process.specs.Traces.{Runs, done, silently, visibly}
use Rattle.dps_process.proofs.Bags.{reordered_refl, reordered_trans, reordered_sym, before_reordered, taken_reordered}
use Rattle.dps_semantics.specs.Settling.{IsPrefix, IsSettled}
use Rattle.dps_semantics.specs.Coming.{ComesTo, AllComeTo}
use Rattle.dps_semantics.specs.Coming.{a_part_comes, Meets, meet, ComesByMeeting, ComesByMeetings, no_meeting, a_meeting, Finds, at_end, at_label, at_overhearing}
use Rattle.dps_semantics.proofs.Arriving.{prefix_comes, settled_come, all_come_settled, come_both, come_apart, come_among, goes_before}

module _ (model : Model) (signature : Signature) (theory : Theory) where
  -- communications do not see the order of parts
  pub meetings_before : {ps qs rs : List Process} → IsReordered ps qs → ComesByMeetings model signature theory qs rs → ComesByMeetings model signature theory ps rs
  meetings_before r (no_meeting k) = no_meeting (reordered_trans r k)
  meetings_before {ps} r (a_meeting {qs = qs} m k) =
      let t = taken_reordered m.removes_sender (reordered_sym r) in
      let u = taken_reordered m.removes_receiver t.2 in
      let next : List Process = m.from_sender ++ (m.from_receiver ++ u.0) in
      let same : IsReordered next (m.from_sender ++ (m.from_receiver ++ m.rest)) = before_reordered m.from_sender (before_reordered m.from_receiver (reordered_sym u.2)) in
      let meeting : ComesByMeeting model signature theory ps next = record {
        sender = m.sender;
        receiver = m.receiver;
        sent = m.sent;
        received = m.received;
        others = t.0;
        rest = u.0;
        from_sender = m.from_sender;
        from_receiver = m.from_receiver;
        removes_sender = t.1;
        removes_receiver = u.1;
        meeting = m.meeting;
        sender_comes = m.sender_comes;
        receiver_comes = m.receiver_comes;
        become = refl;
      } in
      a_meeting meeting (meetings_before {ps = next} (subst (λ (xs : List Process). IsReordered next xs) (sym m.become) same) k)

  pub meetings_trans : {ps qs rs : List Process} → ComesByMeetings model signature theory ps qs → ComesByMeetings model signature theory qs rs → ComesByMeetings model signature theory ps rs
  meetings_trans (no_meeting r) k = meetings_before r k
  meetings_trans (a_meeting m h) k = a_meeting m (meetings_trans h k)

  -- the parts come to what leads to the others by communications
  abbrev ComesBefore : List Process → List Process → Type 0
  ComesBefore qs bs = (cs : List Process) × AllComeTo theory qs cs × ComesByMeetings model signature theory cs bs

  finds_before : {ps qs es : List Process} {frame last : List Tree} {word : List Label} → ((bs : List Process) → AllComeTo theory ps bs → ComesBefore qs bs)
      → Finds model signature theory ps frame word es last → Finds model signature theory qs frame word es last
  finds_before f (at_end {bs = bs} h m) = let k = f bs h in at_end k.1 (meetings_trans k.2 m)
  finds_before f (at_label {bs = bs} h m t v e g r) = let k = f bs h in at_label k.1 (meetings_trans k.2 m) t v e g r
  finds_before f (at_overhearing {bs = bs} h m t u v e g r) = let k = f bs h in at_overhearing k.1 (meetings_trans k.2 m) t u v e g r

  same_bag : {bs cs ds : List Process} → IsReordered cs ds → bs ≡ ds → ComesByMeetings model signature theory cs bs
  same_bag {cs = cs} r e = no_meeting (subst (λ (xs : List Process). IsReordered cs xs) (sym e) r)

  -- before a silent move of a part
  move_before : {p : Process} {ps others become : List Process} {frame added : List Tree} → Removes p ps others → PartSteps signature theory frame p silent become added
      → (bs : List Process) → AllComeTo theory (become ++ others) bs → ComesBefore ps bs
  move_before {others = others} {become} t m bs h =
      let a = come_apart theory become others h in
      let c = come_among theory t (goes_before theory signature m a.2) a.3 in
      (c.0, c.1, same_bag c.2 a.4)

  meeting_prefixes : {sender receiver sent received : Process} → Meets model signature theory sender receiver sent received → IsPrefix sender × IsPrefix receiver
  meeting_prefixes (meet d e) = (tt, tt)

  unseen : {frame added : List Tree} {sender receiver sent received : Process} → Communicates model signature theory frame sender receiver silent sent received added
      → Meets model signature theory sender receiver sent received × (added ≡ [])
  unseen (meets d e) = (meet d e, refl)

  overheard_prefixes : {frame added : List Tree} {label : Label} {sender receiver sent received : Process}
      → Communicates model signature theory frame sender receiver (shows label) sent received added → IsPrefix sender × IsPrefix receiver
  overheard_prefixes (overheard d e j) = (tt, tt)

  -- before a communication
  after_meeting : {sender receiver sent received : Process} {ps others rest bs cs ds es : List Process}
      → Removes sender ps others
      → Removes receiver others rest
      → Meets model signature theory sender receiver sent received
      → ComesTo theory sent bs
      → ComesTo theory received cs
      → AllComeTo theory rest ds
      → es ≡ bs ++ (cs ++ ds)
      → ComesBefore ps es
  after_meeting {sender} {receiver} {sent} {received} {bs = bs} {cs} {ds} {es} t u m h k l e =
      let p = meeting_prefixes m in
      let one = come_among theory u (prefix_comes theory receiver p.1) l in
      let two = come_among theory t (prefix_comes theory sender p.0) one.1 in
      let meeting : ComesByMeeting model signature theory (sender ∷ receiver ∷ ds) es = record {
        sender = sender;
        receiver = receiver;
        sent = sent;
        received = received;
        others = receiver ∷ ds;
        rest = ds;
        from_sender = bs;
        from_receiver = cs;
        removes_sender = here;
        removes_receiver = here;
        meeting = m;
        sender_comes = h;
        receiver_comes = k;
        become = e;
      } in
      (two.0, two.1, meetings_before (reordered_trans two.2 (a_part here one.2)) (a_meeting meeting (no_meeting (reordered_refl es))))

  meeting_before : {sender receiver sent received : Process} {ps others rest : List Process} → Removes sender ps others → Removes receiver others rest
      → Meets model signature theory sender receiver sent received → (bs : List Process) → AllComeTo theory (sent ∷ received ∷ rest) bs → ComesBefore ps bs
  meeting_before t u m bs (a_part_comes {bs = cs} h (a_part_comes k l f) e) = after_meeting t u m h k l (e ∙ ap (λ xs. cs ++ xs) f)

  shows_prefix : {p : Process} {become : List Process} {frame added : List Tree} {label : Label} → PartSteps signature theory frame p (shows label) become added → IsPrefix p
  shows_prefix (receives c r v) = tt
  shows_prefix (sends c v j) = tt

  adds_nothing : {p : Process} {become : List Process} {frame added : List Tree} → PartSteps signature theory frame p silent become added → added ≡ []
  adds_nothing ends = refl
  adds_nothing splits = refl
  adds_nothing first = refl
  adds_nothing second = refl
  adds_nothing (passes h) = refl
  adds_nothing (fails h) = refl
  adds_nothing (binds h) = refl
  adds_nothing (binds_not h) = refl

  -- a part that shows a label, before the others have come to anything
  shown_before : {p : Process} {ps others become es : List Process} {frame added last : List Tree} {label : Label} {word : List Label}
      → Removes p ps others
      → PartSteps signature theory frame p (shows label) become added
      → Finds model signature theory (become ++ others) (frame ++ added) word es last
      → Finds model signature theory ps frame (label ∷ word) es last
  shown_before {p} {others = others} {become} t m (at_end {es = es} h k) =
      let a = come_apart theory become others h in
      let c = come_among theory t (prefix_comes theory p (shows_prefix m)) a.3 in
      at_label c.1 (no_meeting c.2) here m refl refl
      (at_end (come_both theory a.2 (settled_come theory a.1 (all_come_settled theory a.3))) (subst (λ (xs : List Process). ComesByMeetings model signature theory xs es) a.4 k))
  shown_before {p} {others = others} {become} t m (at_label {es = es} h k u n e f r) =
      let a = come_apart theory become others h in
      let c = come_among theory t (prefix_comes theory p (shows_prefix m)) a.3 in
      at_label c.1 (no_meeting c.2) here m refl refl
      (at_label (come_both theory a.2 (settled_come theory a.1 (all_come_settled theory a.3))) (subst (λ (xs : List Process). ComesByMeetings model signature theory xs es) a.4 k) u n e f r)
  shown_before {p} {others = others} {become} t m (at_overhearing {es = es} h k u v n e f r) =
      let a = come_apart theory become others h in
      let c = come_among theory t (prefix_comes theory p (shows_prefix m)) a.3 in
      at_label c.1 (no_meeting c.2) here m refl refl
      (at_overhearing (come_both theory a.2 (settled_come theory a.1 (all_come_settled theory a.3))) (subst (λ (xs : List Process). ComesByMeetings model signature theory xs es) a.4 k)
      u v n e f r)

  -- two parts that the attacker overhears, before the others have come to anything
  overheard_before : {sender receiver sent received : Process} {ps others rest bs es : List Process} {frame added last : List Tree} {label : Label} {word : List Label}
      → Removes sender ps others
      → Removes receiver others rest
      → Communicates model signature theory frame sender receiver (shows label) sent received added
      → AllComeTo theory (sent ∷ received ∷ rest) bs
      → ((next : List Process) → AllComeTo theory next bs → Finds model signature theory next (frame ++ added) word es last)
      → Finds model signature theory ps frame (label ∷ word) es last
  overheard_before {sender} {receiver} {sent} {received} {rest = rest} {bs} t u m h f =
      let p = overheard_prefixes m in
      let a = come_apart theory (sent ∷ received ∷ []) rest h in
      let one = come_among theory u (prefix_comes theory receiver p.1) a.3 in
      let two = come_among theory t (prefix_comes theory sender p.0) one.1 in
      let next : List Process = sent ∷ received ∷ a.1 in
      let on : AllComeTo theory next bs =
      subst (λ (xs : List Process). AllComeTo theory next xs) (sym a.4) (come_both theory a.2 (settled_come theory a.1 (all_come_settled theory a.3))) in
      at_overhearing two.1 (no_meeting (reordered_trans two.2 (a_part here one.2))) here here m refl refl (f next on)

  overheard_found : {sender receiver sent received : Process} {ps others rest es : List Process} {frame added last : List Tree} {label : Label} {word : List Label}
      → Removes sender ps others
      → Removes receiver others rest
      → Communicates model signature theory frame sender receiver (shows label) sent received added
      → Finds model signature theory (sent ∷ received ∷ rest) (frame ++ added) word es last
      → Finds model signature theory ps frame (label ∷ word) es last
  overheard_found t u m (at_end h k) = overheard_before t u m h (λ next on. at_end on k)
  overheard_found t u m (at_label h k v w e f r) = overheard_before t u m h (λ next on. at_label on k v w e f r)
  overheard_found t u m (at_overhearing h k v x w e f r) = overheard_before t u m h (λ next on. at_overhearing on k v x w e f r)

  -- what is found of parts and a frame that are written otherwise
  found_as : {ps qs es : List Process} {frame other last : List Tree} {word : List Label} → ps ≡ qs → frame ≡ other → Finds model signature theory ps frame word es last
      → Finds model signature theory qs other word es last
  found_as {ps} {es = es} {other = other} {last} {word} e f r =
      subst (λ (xs : List Process). Finds model signature theory xs other word es last) e (subst (λ (g : List Tree). Finds model signature theory ps g word es last) f r)

  silent_found : {c d : Config} {es : List Process} {last : List Tree} {word : List Label} → Step model signature theory c silent d
      → Finds model signature theory d.parts d.frame word es last → Finds model signature theory c.parts c.frame word es last
  silent_found {c} (alone t m pe fe) r =
      finds_before (move_before t m) (found_as pe (fe ∙ (ap (λ xs. c.frame ++ xs) (adds_nothing m) ∙ append-nil c.frame)) r)
  silent_found {c} (together t u m pe fe) r =
      let n = unseen m in finds_before (meeting_before t u n.0) (found_as pe (fe ∙ (ap (λ xs. c.frame ++ xs) n.1 ∙ append-nil c.frame)) r)

  visible_found : {c d : Config} {es : List Process} {last : List Tree} {label : Label} {word : List Label} → Step model signature theory c (shows label) d
      → Finds model signature theory d.parts d.frame word es last → Finds model signature theory c.parts c.frame (label ∷ word) es last
  visible_found (alone t m pe fe) r = shown_before t m (found_as pe fe r)
  visible_found (together t u m pe fe) r = overheard_found t u m (found_as pe fe r)

  -- each settled end of a run is found
  pub found : {c d : Config} {word : List Label} → Runs model signature theory c word d → IsSettled d → Finds model signature theory c.parts c.frame word d.parts d.frame
  found {c} done h = at_end (settled_come theory c.parts h) (no_meeting (reordered_refl c.parts))
  found (silently s r) h = silent_found s (found r h)
  found (visibly s r) h = visible_found s (found r h)
