-- Communications, by the places of those that communicate.
use Rattle.std.proofs.Common.{◌≡◌, ℕ, ◌<◌, List, ◌++◌, length, get_or, refl, sym, ◌∙◌, ap, subst}
use Rattle.dps_terms.specs.Tree.{Tree}
use Rattle.dps_signature.specs.Signature.{Signature}
use Rattle.dps_theory.specs.Theory.{Theory, IsAccepted}
use Rattle.dps_theory.specs.Evaluation.{Evaluates}
use Rattle.dps_theory.proofs.Evaluating.{evaluates_once}
use Rattle.dps_process.specs.Process.{Process, nil, output, input, put}
use Rattle.dps_process.specs.Models.{Model}
use Rattle.dps_process.specs.Steps.{Removes, IsReordered}
use Rattle.dps_process.proofs.Bags.{reordered_sym, taken_reordered, before_reordered}
use Rattle.dps_semantics.specs.Parts.{left_at}
use Rattle.dps_semantics.specs.Coming.{ComesTo, Meets, meet, ComesByMeeting}
use Rattle.dps_semantics.specs.Meeting.{Sends, SendsNothing, Takes, TakesNothing, TakesAt, IsTaken, MeetsAt}
use Rattle.dps_semantics.proofs.Places.{removes_at, IsAt, at_removed}

output_parts : (c d : ℕ) (u v : Tree) (p q : Process) → output c u p ≡ output d v q → (c ≡ d) × (u ≡ v) × (p ≡ q)
output_parts c d u v p q e = (cc, cc, cc)

input_parts : (c d x y : ℕ) (p q : Process) → input c x p ≡ input d y q → (c ≡ d) × (x ≡ y) × (p ≡ q)
input_parts c d x y p q e = (cc, cc, cc)

module _ (model : Model) (signature : Signature) (theory : Theory) where
  pub meets_comes : (ps : List Process) (i : ℕ) (qs : List Process) → i < length ps → MeetsAt model signature theory ps i qs → ComesByMeeting model signature theory ps qs
  meets_comes ps i qs h (d, t, rest, (u, e, may, ev), (j, k, (p, (x, q, f, g), (ones, bs, l, (cs, ds, m, n, o), r)))) = record {
    sender = output d u rest;
    receiver = input d x q;
    sent = rest;
    received = put x t q;
    others = left_at i ps;
    rest = left_at j (left_at i ps);
    from_sender = ones;
    from_receiver = cs;
    removes_sender = subst (λ (s : Process). Removes s ps (left_at i ps)) e (removes_at ps i h);
    removes_receiver = subst (λ (s : Process). Removes s (left_at i ps) (left_at j (left_at i ps))) f (removes_at (left_at i ps) j k);
    meeting = meet may ev;
    sender_comes = l;
    receiver_comes = subst (λ (s : Process). ComesTo theory s cs) g m;
    become = r ∙ ap (λ xs. ones ++ xs) (o ∙ ap (λ xs. cs ++ xs) n);
  }

  abbrev pub MeetsSomewhere : List Process → List Process → Type 0
  MeetsSomewhere ps qs = (i : ℕ) × (i < length ps) × MeetsAt model signature theory ps i qs

  somewhere : {sender receiver sent received : Process} (ps qs others rest ones cs : List Process)
      → IsAt sender ps others → IsAt receiver others rest → Meets model signature theory sender receiver sent received
      → ComesTo theory sent ones → ComesTo theory received cs → qs ≡ ones ++ (cs ++ rest) → MeetsSomewhere ps qs
  somewhere ps qs others rest ones cs s r (meet {d} {x} {u} {t} {p} {q} may ev) h k e =
      let taken : IsTaken theory d t p others qs = (r.0, r.1, (put x t q, (x, q, r.2, refl), (ones, cs ++ rest, h, (cs, rest, k, r.3, refl), e))) in
      (s.0, s.1, (d, t, p, (u, s.2, may, ev), subst (λ (os : List Process). IsTaken theory d t p os qs) s.3 taken))

  pub comes_meets : (ps qs : List Process) → ComesByMeeting model signature theory ps qs → MeetsSomewhere ps qs
  comes_meets ps qs m = somewhere ps qs m.others m.rest m.from_sender m.from_receiver (at_removed m.removes_sender) (at_removed m.removes_receiver) m.meeting m.sender_comes m.receiver_comes m.become

  -- the message that a part sends is one
  pub meets_as : (ps : List Process) (i d : ℕ) (t : Tree) (rest : Process) (qs : List Process)
      → IsAccepted theory → Sends model signature theory (get_or ps i nil) d t rest → MeetsAt model signature theory ps i qs → IsTaken theory d t rest (left_at i ps) qs
  meets_as ps i d t rest qs accepted (u, e, may, ev) (d2, t2, rest2, (u2, e2, may2, ev2), taken) =
      let same = output_parts d2 d u2 u rest2 rest (sym e2 ∙ e) in
      let value : t2 ≡ t = evaluates_once theory accepted (subst (λ (v : Tree). Evaluates theory v t2) same.1 ev2) ev in
      let one = subst (λ (c : ℕ). IsTaken theory c t2 rest2 (left_at i ps) qs) same.0 taken in
      let two = subst (λ (v : Tree). IsTaken theory d v rest2 (left_at i ps) qs) value one in
      subst (λ (p : Process). IsTaken theory d t p (left_at i ps) qs) same.2 two

  pub meets_nothing : (ps : List Process) (i : ℕ) (qs : List Process) → SendsNothing model signature theory (get_or ps i nil) → ¬ MeetsAt model signature theory ps i qs
  meets_nothing ps i qs h m = h m.0 m.1 m.2 m.3

  -- a communication does not see the order of parts
  abbrev pub MeetsFrom : List Process → List Process → Type 0
  MeetsFrom xs qs = (ms : List Process) × ComesByMeeting model signature theory xs ms × IsReordered ms qs

  pub meeting_from : (xs ps qs : List Process) → IsReordered xs ps → ComesByMeeting model signature theory ps qs → MeetsFrom xs qs
  meeting_from xs ps qs r m =
      let t = taken_reordered m.removes_sender (reordered_sym r) in
      let u = taken_reordered m.removes_receiver t.2 in
      let next : List Process = m.from_sender ++ (m.from_receiver ++ u.0) in
      let same : IsReordered next (m.from_sender ++ (m.from_receiver ++ m.rest)) = before_reordered m.from_sender (before_reordered m.from_receiver (reordered_sym u.2)) in
      let meeting : ComesByMeeting model signature theory xs next = record {
        sender = m.sender;
        receiver = m.receiver;
        sent = m.sent;
        received = m.received;
        others = t.0;
        rest = u.0;
        from_sender = m.from_sender;
        from_receiver = m.from_receiver;
        removes_sender = t.1;
        removes_receiver = u.1;
        meeting = m.meeting;
        sender_comes = m.sender_comes;
        receiver_comes = m.receiver_comes;
        become = refl;
      } in
      (next, meeting, subst (λ (ys : List Process). IsReordered next ys) (sym m.become) same)

-- the part that takes a message is then one process
pub takes_as : (part : Process) (d : ℕ) (t : Tree) (p q : Process) → Takes part d t p → Takes part d t q → p ≡ q
takes_as part d t p q (x, r, e, f) (y, s, g, h) =
    let same = input_parts d d x y r s (sym e ∙ g) in
    f ∙ (ap (λ z. put z t r) same.1 ∙ (ap (λ z. put y t z) same.2 ∙ sym h))

pub takes_nothing : (theory : Theory) (d : ℕ) (t : Tree) (rest : Process) (others : List Process) (j : ℕ) (qs : List Process) → TakesNothing (get_or others j nil) d t
    → ¬ TakesAt theory d t rest others j qs
takes_nothing theory d t rest others j qs h k = h k.0 k.1
