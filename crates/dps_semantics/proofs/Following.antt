-- Which settled configurations follow others by a label, found one after the other.
use Rattle.std.proofs.Common.{◌≡◌, List, [], ◌∷◌, ◌++◌, refl, sym, subst, inl, inr}
use Rattle.std.specs.Prelude.{◌⊎◌, ◌↔◌, Contains}
use Rattle.std.proofs.lemmas.List.Elements.{Contains-append_left, Contains-append_right, Contains-append_cases}
use Rattle.dps_signature.specs.Signature.{Signature}
use Rattle.dps_theory.specs.Theory.{Theory}
use Rattle.dps_bags.proofs.Holding.{contains_none, contains_one, contains_pushed, contains_first}
use Rattle.dps_process.specs.Problem.{Problem}
use Rattle.dps_process.specs.Models.{Model}
use Rattle.dps_process.specs.Steps.{Config, Label, AreOneBag}
use Rattle.dps_process.proofs.Bags.{bags_refl, bags_trans, bags_sym, run_reordered}
use Rattle.dps_semantics.specs.Settling.{SettlesTo, IsOneOf, IsInSomeOrder, AreSettlings, AreNext}
use Rattle.dps_semantics.specs.Following.{Follows, AreFollowing, AddsFollowing}
use Rattle.dps_semantics.specs.Once.{AreSame}
use Rattle.dps_semantics.proofs.Settled.{reordered_settled}

-- where a configuration settles to, one that has the same parts does
abbrev pub SettlesAs : Model → Signature → Theory → Config → Config → Type 0
SettlesAs model signature theory e d = (f : Config) × SettlesTo model signature theory e f × AreOneBag d f

pub settles_reordered : (model : Model) (signature : Signature) (theory : Theory) (c d e : Config) → SettlesTo model signature theory c d → AreOneBag c e → SettlesAs model signature theory e d
settles_reordered model signature theory c d e s b =
    let r = run_reordered model signature theory s.run b in
    (r.0, record { run = r.1; settled = reordered_settled r.2.parts s.settled }, r.2)

pub one_as : (configs : List Config) (c d : Config) → IsOneOf configs c → AreOneBag c d → IsOneOf configs d
one_as configs c d o b = (o.0, o.1, bags_trans o.0 c d o.2 b)

pub one_appended : (xs ys : List Config) (k : Config) → IsOneOf (xs ++ ys) k ↔ (IsOneOf xs k ⊎ IsOneOf ys k)
one_appended xs ys k = (
  λ o. elim (Contains-append_cases xs ys o.0 o.1) [ inl c ↦ inl (o.0, c, o.2) | inr c ↦ inr (o.0, c, o.2) ],
  elim [
    | inl o ↦ (o.0, Contains-append_left xs ys o.0 o.1, o.2)
    | inr o ↦ (o.0, Contains-append_right xs ys o.0 o.1, o.2)
  ],
)

module _ (problem : Problem) (c : Config) (label : Label) where
  abbrev Settles : Config → Config → Type 0
  Settles e d = SettlesTo problem.model problem.signature problem.theory e d

  -- what of the next configurations is not left was settled
  pub record NextBelow (moved old left found : List Config) : Type 0 where
    pub kept : (k : Config) → IsOneOf old k → IsOneOf found k
    pub sound : (k : Config) → IsOneOf found k → IsOneOf old k ⊎ IsInSomeOrder (Follows problem c label) k
    pub complete : (e : Config) → Contains moved e → Contains left e ⊎ ((d : Config) → Settles e d → IsOneOf found d)
    pub left_over : (e : Config) → Contains left e → Contains moved e

  settled_follows : (moved settled : List Config) (e k : Config) → AreNext problem c label moved → AreSettlings problem e settled → Contains moved e → IsOneOf settled k
      → IsInSomeOrder (Follows problem c label) k
  settled_follows moved settled e k n s m o =
      let d = (s k).0 o in
      let f = (n e).0 (e, m, bags_refl e) in
      let g = settles_reordered problem.model problem.signature problem.theory e d.0 f.0 d.1 (bags_sym f.0 e f.2) in
      (g.0, (f.0, f.1, g.1), bags_trans g.0 d.0 k (bags_sym d.0 g.0 g.2) d.2)

  pub next_more : (moved old left found settled new : List Config) (e : Config) → AreNext problem c label moved → NextBelow moved old (left ++ e ∷ []) found
      → AreSettlings problem e settled → new ≡ found ++ settled → NextBelow moved old left new
  next_more moved old left found settled new e n h s g =
      let pushed : (x : Config) → Contains (left ++ e ∷ []) x ↔ (Contains left x ⊎ (x ≡ e)) = contains_pushed left e in
      let all : (k : Config) → IsOneOf new k ↔ (IsOneOf found k ⊎ IsOneOf settled k) =
      λ k. subst (λ (cs : List Config). IsOneOf cs k ↔ (IsOneOf found k ⊎ IsOneOf settled k)) (sym g) (one_appended found settled k) in
      record {
        kept = λ k o. (all k).1 (inl (h.kept k o));
        sound = λ k o. elim ((all k).0 o) [
          | inl p ↦ h.sound k p
          | inr p ↦ inr (settled_follows moved settled e k n s (h.left_over e ((pushed e).1 (inr refl))) p)
        ];
        complete = λ x m. elim (h.complete x m) [
          | inl p ↦ elim ((pushed x).0 p) [
            | inl q ↦ inl q
            | inr q ↦ inr (λ d t. (all d).1 (inr ((s d).1 (d, subst (λ (y : Config). Settles y d) q t, bags_refl d))))
          ]
          | inr f ↦ inr (λ d t. (all d).1 (inl (f d t)))
        ];
        left_over = λ x m. h.left_over x ((pushed x).1 (inl m));
      }

  follows_found : (moved old found : List Config) (k : Config) → AreNext problem c label moved → NextBelow moved old [] found → IsInSomeOrder (Follows problem c label) k → IsOneOf found k
  follows_found moved old found k n h o =
      let e = o.1.0 in
      let m = (n e).1 (e, o.1.1, bags_refl e) in
      let s = settles_reordered problem.model problem.signature problem.theory e o.0 m.0 o.1.2 (bags_sym m.0 e m.2) in
      elim (h.complete m.0 m.1) [
        | inl p ↦ absurd (contains_none m.0 p)
        | inr f ↦ one_as found s.0 k (f s.0 s.1) (bags_trans s.0 o.0 k (bags_sym o.0 s.0 s.2) o.2)
      ]

  pub next_all : (moved old found : List Config) → AreNext problem c label moved → NextBelow moved old [] found → AddsFollowing problem c label old found
  next_all moved old found n h k = (h.sound k, elim [ inl o ↦ h.kept k o | inr o ↦ follows_found moved old found k n h o ])

module _ (problem : Problem) (label : Label) where
  -- one configuration more
  pub follow_more : (configs : List Config) (c : Config) (found new : List Config) → AreFollowing problem configs label found → AddsFollowing problem c label found new
      → AreFollowing problem (configs ++ c ∷ []) label new
  follow_more configs c found new h a k = (
    λ o. elim ((a k).0 o) [
      | inl p ↦ (let f = (h k).0 p in (f.0, (f.1.0, Contains-append_left configs (c ∷ []) f.1.0 f.1.1, f.1.2), f.2))
      | inr p ↦ (p.0, (c, Contains-append_right configs (c ∷ []) c (contains_first c []), p.1), p.2)
    ],
    λ o. (a k).1 (elim (Contains-append_cases configs (c ∷ []) o.1.0 o.1.1) [
      | inl m ↦ inl ((h k).1 (o.0, (o.1.0, m, o.1.2), o.2))
      | inr m ↦ inr (o.0, subst (λ (x : Config). Follows problem x label o.0) (contains_one c o.1.0 m) o.1.2, o.2)
    ]),
  )

  -- the same ones, each once
  pub follow_same : (configs found once : List Config) → AreFollowing problem configs label found → AreSame found once → AreFollowing problem configs label once
  follow_same configs found once a s k = (λ o. (a k).0 ((s k).1 o), λ o. (s k).0 ((a k).1 o))
