-- The configurations of the bags that were found are just those to which a configuration settles.
use Rattle.std.proofs.Common.{◌≡◌, ℕ, List, [], ◌∷◌, ◌++◌, map, refl, sym, subst, inl, inr}
use Rattle.std.specs.Prelude.{Contains}
use Rattle.std.proofs.lemmas.List.Elements.{All-cons, All-head, All-tail, All-append}
use Rattle.dps_terms.specs.Tree.{Tree}
use Rattle.dps_signature.specs.Signature.{Signature}
use Rattle.dps_theory.specs.Theory.{Theory}
use Rattle.dps_bags.proofs.Holding.{contains_none, contains_first, contains_later, contains_cases, contains_mapped}
use Rattle.dps_process.specs.Process.{Process}
use Rattle.dps_process.specs.Models.{Model}
use Rattle.dps_process.specs.Steps.{Config, Removes, here, there, IsReordered, no_parts, a_part, AreOneBag}
use Rattle.dps_process.proofs.Bags.{reordered_trans, bags_trans, bags_sym}
use Rattle.dps_process.proofs.RunBeginnings.{config}
use Rattle.dps_semantics.specs.Settling.{IsPrefix, SettlesTo, AreJust}
use Rattle.dps_semantics.specs.Parts.{parts_of, OneStandsFor, StandForJust}
use Rattle.dps_semantics.specs.Configs.{config_of, AreConfigsOf}
use Rattle.dps_semantics.specs.Coming.{AllComeTo, ComesByMeeting, ComesByMeetings, no_meeting, a_meeting, Finds, at_end}
use Rattle.dps_semantics.specs.Meeting.{LeadsOn}
use Rattle.dps_semantics.proofs.Arriving.{AreParts, come_settled, all_come_settled}
use Rattle.dps_semantics.proofs.Finding.{found, meetings_before}
use Rattle.dps_semantics.proofs.Reaching.{reached}

removed_settled : {p : Process} {ps rest : List Process} → Removes p ps rest → AreParts ps → IsPrefix p × AreParts rest
removed_settled {p} (here {ps}) h = (All-head IsPrefix p ps h, All-tail IsPrefix p ps h)
removed_settled (there {q} {ps} {rest} r) h =
    let b = removed_settled r (All-tail IsPrefix q ps h) in (b.0, All-cons IsPrefix q rest (All-head IsPrefix q ps h) b.1)

put_settled : {p : Process} {ps rest : List Process} → Removes p ps rest → IsPrefix p → AreParts rest → AreParts ps
put_settled {p} (here {ps}) i h = All-cons IsPrefix p ps i h
put_settled (there {q} {ps} {rest} r) i h = All-cons IsPrefix q ps (All-head IsPrefix q rest h) (put_settled r i (All-tail IsPrefix q rest h))

pub reordered_settled : {ps qs : List Process} → IsReordered ps qs → AreParts ps → AreParts qs
reordered_settled no_parts h = h
reordered_settled (a_part {p} {ps} r s) h = put_settled r (All-head IsPrefix p ps h) (reordered_settled s (All-tail IsPrefix p ps h))

pub contains_map_cases : {A B : Type 0} (f : A → B) (xs : List A) (y : B) → Contains (map f xs) y → (x : A) × Contains xs x × (y ≡ f x)
contains_map_cases f [] y c = absurd (contains_none y c)
contains_map_cases {A} {B} f (x ∷ xs) y c =
    elim (contains_cases (f x) (map f xs) y c) [
      | inl e ↦ (x, contains_first x xs, e)
      | inr d ↦ (let r = contains_map_cases f xs y d in (r.0, contains_later x xs r.0 r.1, r.2))
    ]

module _ (model : Model) (signature : Signature) (theory : Theory) where
  meeting_settled : {ps qs : List Process} → ComesByMeeting model signature theory ps qs → AreParts ps → AreParts qs
  meeting_settled m h =
      let rest = (removed_settled m.removes_receiver (removed_settled m.removes_sender h).1).1 in
      subst AreParts (sym m.become)
      (All-append IsPrefix m.from_sender (m.from_receiver ++ m.rest) (come_settled theory m.sender_comes) (All-append IsPrefix m.from_receiver m.rest (come_settled theory m.receiver_comes) rest))

  pub meetings_settled : {ps qs : List Process} → ComesByMeetings model signature theory ps qs → AreParts ps → AreParts qs
  meetings_settled (no_meeting r) h = reordered_settled r h
  meetings_settled (a_meeting m k) h = meetings_settled k (meeting_settled m h)

  module _ (ps : List Process) (frame : List Tree) (mid new : List Process) (bags all : List (List ℕ))
      (come : StandForJust (AllComeTo theory ps) [] mid bags)
      (lead : StandForJust (LeadsOn model signature theory (OneStandsFor mid bags)) mid new all) where
    abbrev SettlesAs : List ℕ → Type 0
    SettlesAs bag = (d : Config) × SettlesTo model signature theory (config ps frame) d × AreOneBag d (config_of new frame bag)

    from_meetings : (bag : List ℕ) (bs cs qs : List Process) → AllComeTo theory ps cs → IsReordered cs bs → ComesByMeetings model signature theory bs qs → IsReordered qs (parts_of new bag)
        → SettlesAs bag
    from_meetings bag bs cs qs h r m s =
        let on = meetings_before model signature theory r m in
        let end = reached model signature theory (at_end {frame = frame} h on) in
        let settled : AreParts qs = meetings_settled on (all_come_settled theory h) in (
          end.0,
          record { run = end.1; settled = reordered_settled end.2.parts settled },
          bags_trans end.0 (config qs frame) (config_of new frame bag) (bags_sym (config qs frame) end.0 end.2) (record { parts = s; frame = refl }),
        )

    pub bag_settles : (bag : List ℕ) → Contains all bag → SettlesAs bag
    bag_settles bag c =
        let l = lead.sound bag c in
        let b = l.1.1 in
        let a = come.sound b.0 b.1 in
        from_meetings bag l.1.0 a.0 l.0 a.1 (reordered_trans a.2 b.2) l.1.2 l.2

    abbrev HasBag : Config → Type 0
    HasBag d = (bag : List ℕ) × Contains all bag × AreOneBag (config_of new frame bag) d

    bag_of : {es : List Process} {last : List Tree} → Finds model signature theory ps frame [] es last → HasBag (config es last)
    bag_of (at_end {bs = bs} {es} h m) =
        let s = lead.complete es (bs, come.complete bs h, m) in (s.0, s.1, record { parts = s.2; frame = refl })

    pub settles_bag : (d : Config) → SettlesTo model signature theory (config ps frame) d → HasBag d
    settles_bag d s = bag_of (found model signature theory s.run s.settled)

    pub settlings : (configs : List Config) → AreConfigsOf new all frame configs → AreJust (SettlesTo model signature theory (config ps frame)) configs
    settlings configs e k = (
      λ o. (
          let m = contains_map_cases (config_of new frame) all o.0 (subst (λ (cs : List Config). Contains cs o.0) e o.1) in
          let s = bag_settles m.0 m.1 in
          (s.0, s.1, bags_trans s.0 (config_of new frame m.0) k s.2 (subst (λ (c : Config). AreOneBag c k) m.2 o.2))
          ),
      λ o. (
          let b = settles_bag o.0 o.1 in
          let c = subst (λ (cs : List Config). Contains cs (config_of new frame b.0)) (sym e) (contains_mapped (config_of new frame) all b.0 b.1) in
          (config_of new frame b.0, c, bags_trans (config_of new frame b.0) o.0 k b.2 o.2)
          ),
    )
