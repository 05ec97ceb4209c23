-- What parts do for a label.
use Rattle.std.proofs.Common.{◌≡◌, ℕ, ◌<◌, ◌≤◌, ◌+◌, List, [], ◌∷◌, ◌++◌, length, get_or, refl, sym, ◌∙◌, ap, subst, inl, inr, arith, length-append}
use Rattle.std.specs.Prelude.{◌⊎◌, ◌↔◌, ◌≢◌, Contains}
use Rattle.std.proofs.lemmas.List.{get_or_append_left, get_or_push}
use Rattle.dps_terms.specs.Tree.{Tree}
use Rattle.dps_theory.specs.Theory.{Theory, IsAccepted}
use Rattle.dps_theory.proofs.Evaluating.{evaluates_once}
use Rattle.dps_bags.proofs.Holding.{contains_none, contains_pushed}
use Rattle.dps_bags.proofs.Joining.{below_next}
use Rattle.dps_process.specs.Process.{Process, nil, parallel, choice, conditional, bind, input, output, put}
use Rattle.dps_process.specs.Problem.{Problem}
use Rattle.dps_process.specs.Labels.{label_of}
use Rattle.dps_process.specs.declared.label.Label.{Label as LabelValue}
use Rattle.dps_process.specs.declared.label.Label.TheVariants.{In, Out}
use Rattle.dps_process.specs.Steps.{Config, Label, inputs, outputs, overhears, shows, PartSteps, receives, sends, Communicates, overheard, Step, alone, together, a_part, here, AreOneBag}
use Rattle.dps_process.proofs.Bags.{bags_refl, bags_trans}
use Rattle.dps_bags.proofs.Keeping.{apart_none, apart_more}
use Rattle.std.proofs.lemmas.List.Elements.{Contains-get_or}
use Rattle.dps_semantics.specs.Settling.{IsOneOf, AreJust, EachStandsOnce}
use Rattle.dps_semantics.proofs.Differing.{acts_apart}
use Rattle.dps_semantics.specs.Parts.{left_at, part_of, IsNumbered}
use Rattle.dps_semantics.specs.Asking.{IsAsked, IsNotAsked, GoesOn}
use Rattle.dps_semantics.specs.Acting.{IsAfter, ActsAt, Acts, AreMoves, AddsMoves}
use Rattle.dps_semantics.specs.declared.moving.Asked.{Asked}
use Rattle.dps_semantics.specs.declared.moving.Asked.TheVariants.{Input, Output}
use Rattle.dps_semantics.proofs.Places.{removes_at, at_removed, two_removed}

abbrev no_config : Config
no_config = record { parts = []; frame = [] }

-- what a part does for what is asked is one thing
pub goes_one_way : (theory : Theory) (part : Process) (asked : Asked) (p q : Process) (ts us : List Tree) → IsAccepted theory → GoesOn theory part asked p ts
    → GoesOn theory part asked q us → (p ≡ q) × (ts ≡ us)
goes_one_way theory (input c x r) (Input d t) p q ts us a g h = (g.1 ∙ sym h.1, g.2 ∙ sym h.2)
goes_one_way theory (output c u r) (Output d) p q ts us a g h = (g.1 ∙ sym h.1, g.2.2 ∙ (ap (λ t. t ∷ []) (evaluates_once theory a g.2.1 h.2.1) ∙ sym h.2.2))
goes_one_way theory (input c x r) (Output d) p q ts us a g h = absurd g
goes_one_way theory (output c u r) (Input d t) p q ts us a g h = absurd g
goes_one_way theory nil (Input d t) p q ts us a g h = absurd g
goes_one_way theory nil (Output d) p q ts us a g h = absurd g
goes_one_way theory (parallel m n) (Input d t) p q ts us a g h = absurd g
goes_one_way theory (parallel m n) (Output d) p q ts us a g h = absurd g
goes_one_way theory (choice m n) (Input d t) p q ts us a g h = absurd g
goes_one_way theory (choice m n) (Output d) p q ts us a g h = absurd g
goes_one_way theory (conditional u v m n) (Input d t) p q ts us a g h = absurd g
goes_one_way theory (conditional u v m n) (Output d) p q ts us a g h = absurd g
goes_one_way theory (bind x u m n) (Input d t) p q ts us a g h = absurd g
goes_one_way theory (bind x u m n) (Output d) p q ts us a g h = absurd g

module _ (problem : Problem) (frame : List Tree) where
  abbrev Shows : Process → Label → List Process → List Tree → Type 0
  Shows part label become added = PartSteps problem.signature problem.theory frame part (shows label) become added

  input_shows : (c d e x : ℕ) (r t : Tree) (p then : Process) (added : List Tree) → IsAsked problem frame (inputs c r) (Input d t)
      → GoesOn problem.theory (input e x p) (Input d t) then added → Shows (input e x p) (inputs c r) (then ∷ []) added
  input_shows c d e x r t p then added h g =
      let channel : c ≡ e = sym (g.0 ∙ h.0) in
      let one : Shows (input c x p) (inputs c r) (put x t p ∷ []) [] = receives h.1 h.2 h.3 in
      let two = subst (λ (k : ℕ). Shows (input k x p) (inputs c r) (put x t p ∷ []) []) channel one in
      let three = subst (λ (q : Process). Shows (input e x p) (inputs c r) (q ∷ []) []) (sym g.1) two in
      subst (λ (ts : List Tree). Shows (input e x p) (inputs c r) (then ∷ []) ts) (sym g.2) three

  output_shows : (c j d e : ℕ) (u : Tree) (p then : Process) (added : List Tree) → IsAsked problem frame (outputs c j) (Output d)
      → GoesOn problem.theory (output e u p) (Output d) then added → Shows (output e u p) (outputs c j) (then ∷ []) added
  output_shows c j d e u p then added h g =
      let channel : c ≡ e = sym (g.0 ∙ h.0) in
      let one : Shows (output c u p) (outputs c j) (p ∷ []) (g.2.0 ∷ []) = sends h.1 g.2.1 h.2 in
      let two = subst (λ (k : ℕ). Shows (output k u p) (outputs c j) (p ∷ []) (g.2.0 ∷ [])) channel one in
      let three = subst (λ (q : Process). Shows (output e u p) (outputs c j) (q ∷ []) (g.2.0 ∷ [])) (sym g.1) two in
      subst (λ (ts : List Tree). Shows (output e u p) (outputs c j) (then ∷ []) ts) (sym g.2.2) three

  -- what is asked and done shows the label
  pub acts_show : (label : Label) (asked : Asked) (part then : Process) (added : List Tree) → IsAsked problem frame label asked → GoesOn problem.theory part asked then added
      → Shows part label (then ∷ []) added
  acts_show (inputs c r) (Input d t) (input e x p) then added h g = input_shows c d e x r t p then added h g
  acts_show (inputs c r) (Input d t) (output e u p) then added h g = absurd g
  acts_show (inputs c r) (Input d t) nil then added h g = absurd g
  acts_show (inputs c r) (Input d t) (parallel p q) then added h g = absurd g
  acts_show (inputs c r) (Input d t) (choice p q) then added h g = absurd g
  acts_show (inputs c r) (Input d t) (conditional u v p q) then added h g = absurd g
  acts_show (inputs c r) (Input d t) (bind x u p q) then added h g = absurd g
  acts_show (inputs c r) (Output d) part then added h g = absurd h
  acts_show (outputs c j) (Output d) (output e u p) then added h g = output_shows c j d e u p then added h g
  acts_show (outputs c j) (Output d) (input e x p) then added h g = absurd g
  acts_show (outputs c j) (Output d) nil then added h g = absurd g
  acts_show (outputs c j) (Output d) (parallel p q) then added h g = absurd g
  acts_show (outputs c j) (Output d) (choice p q) then added h g = absurd g
  acts_show (outputs c j) (Output d) (conditional u v p q) then added h g = absurd g
  acts_show (outputs c j) (Output d) (bind x u p q) then added h g = absurd g
  acts_show (outputs c j) (Input d t) part then added h g = absurd h
  acts_show (overhears c j) (Input d t) part then added h g = absurd h
  acts_show (overhears c j) (Output d) part then added h g = absurd h

  abbrev pub DoesAsked : Process → Asked → List Process → List Tree → Type 0
  DoesAsked part asked become added = (then : Process) × (become ≡ then ∷ []) × GoesOn problem.theory part asked then added

  -- and what shows the label does what is asked
  pub shown_acts : {label : Label} {part : Process} {become : List Process} {added : List Tree} (asked : Asked) → IsAccepted problem.theory → IsAsked problem frame label asked
      → Shows part label become added → DoesAsked part asked become added
  shown_acts (Input d s) a h (receives {c} {x} {p} {r} {t} k l m) = (put x t p, refl, (sym h.0, ap (λ v. put x v p) (evaluates_once problem.theory a m h.3), refl))
  shown_acts (Output d) a h (receives k l m) = absurd h
  shown_acts (Output d) a h (sends {c} {j} {u} {t} {p} k e l) = (p, refl, (sym h.0, refl, (t, e, refl)))
  shown_acts (Input d s) a h (sends k e l) = absurd h

  none_shown : {label : Label} {part : Process} {become : List Process} {added : List Tree} → IsNotAsked problem frame label → ¬ Shows part label become added
  none_shown h (receives {c} {x} {p} {r} {t} k l m) = h (Input c t) (refl, k, l, m)
  none_shown h (sends {c} {j} k e l) = h (Output c) (refl, k, l)

  not_overheard : {label : Label} {p q sent received : Process} {added : List Tree} (asked : Asked) → IsAsked problem frame label asked
      → ¬ Communicates problem.model problem.signature problem.theory frame p q (shows label) sent received added
  not_overheard (Input d t) h (overheard k l m) = h
  not_overheard (Output d) h (overheard k l m) = h

-- the label is one of the code's: nobody overhears
abbrev pub IsNoOverhearing : Label → Type 0
IsNoOverhearing label = (c j : ℕ) → label ≢ overhears c j

module _ (problem : Problem) (c : Config) (label : Label) (asked : Asked) (accepted : IsAccepted problem.theory) (is_asked : IsAsked problem c.frame label asked) where
  abbrev Next : Config → Type 0
  Next d = Step problem.model problem.signature problem.theory c (shows label) d

  pub act_steps : (d : Config) → Acts problem.theory asked c d → Next d
  act_steps d (i, h, (then, added, g, e)) = alone (removes_at c.parts i h) (acts_show problem c.frame label asked (get_or c.parts i nil) then added is_asked g) (ap (λ k. k.parts) e)
      (ap (λ k. k.frame) e)

  step_acts : (d : Config) → Next d → Acts problem.theory asked c d
  step_acts d (alone {part = part} {become} {others} {added} r m e f) =
      let at = at_removed r in
      let does = shown_acts problem c.frame asked accepted is_asked m in (
        at.0,
        at.1,
        (
          does.0,
          added,
          subst (λ (p : Process). GoesOn problem.theory p asked does.0 added) (sym at.2) does.2,
          λ i. record { parts = (e ∙ (ap (λ xs. xs ++ others) does.1 ∙ ap (λ xs. does.0 ∷ xs) at.3)) i; frame = f i },
        ),
      )
  step_acts d (together r s m e f) = absurd (not_overheard problem c.frame asked is_asked m)

  pub moves_next : (configs : List Config) → AreMoves problem.theory asked c configs → AreJust Next configs
  moves_next configs m k = (
    λ o. (let a = (m k).0 o in (a.0, act_steps a.0 a.1, a.2)),
    λ o. (m k).1 (o.0, step_acts o.0 o.1, o.2),
  )

pub nothing_next : (problem : Problem) (c : Config) (label : Label) → IsNoOverhearing label → IsNotAsked problem c.frame label
    → AreJust (λ d. Step problem.model problem.signature problem.theory c (shows label) d) []
nothing_next problem c label o h k = (λ m. absurd (contains_none m.0 m.1), λ m. absurd (none m.0 m.1))
  where
    unheard : {label : Label} {p q sent received : Process} {added : List Tree} → IsNoOverhearing label
        → ¬ Communicates problem.model problem.signature problem.theory c.frame p q (shows label) sent received added
    unheard h (overheard {c} {j = j} k l m) = h c j refl

    none : (d : Config) → ¬ Step problem.model problem.signature problem.theory c (shows label) d
    none d (alone r m e f) = none_shown problem c.frame h m
    none d (together r s m e f) = unheard o m

module _ (theory : Theory) (asked : Asked) (c : Config) where
  pub adds_one : (i : ℕ) (then : Process) (added : List Tree) (d : Config) (old new : List Config) → IsAccepted theory → GoesOn theory (get_or c.parts i nil) asked then added
      → IsAfter c i then added d → new ≡ old ++ d ∷ [] → AddsMoves theory asked c i old new
  adds_one i then added d old new a g e f =
      let pushed : (x : Config) → Contains new x ↔ (Contains old x ⊎ (x ≡ d)) = subst (λ (ds : List Config). (x : Config) → Contains ds x ↔ (Contains old x ⊎ (x ≡ d))) (sym f)
      (contains_pushed old d) in
      record {
        kept = λ x k. (pushed x).1 (inl k);
        added = λ x h. (
            let same = goes_one_way theory (get_or c.parts i nil) asked h.0 then h.1 added a h.2 g in
            let equal : x ≡ d = h.3 ∙ (ap (λ p. record { parts = p ∷ left_at i c.parts; frame = c.frame ++ h.1 }) same.0 ∙
            (ap (λ ts. record { parts = then ∷ left_at i c.parts; frame = c.frame ++ ts }) same.1 ∙ sym e)) in
            (pushed x).1 (inr equal)
            );
        sound = λ x k. elim ((pushed x).0 k) [
          | inl l ↦ inl l
          | inr l ↦ inr (then, added, g, l ∙ e)
        ];
        at_most_one = inr (d, (then, added, g, e), f);
      }

  -- what the first so many parts did was found, and each of them was seen
  pub record MovesBelow (i : ℕ) (seen : List Process) (found : List Config) : Type 0 where
    pub known : (n : ℕ) → n < length seen → (j : ℕ) × (j < i) × (part_of seen n ≡ get_or c.parts j nil)
    pub complete : (j : ℕ) → j < i → (d : Config) → ActsAt theory asked c j d → IsOneOf found d
    pub sound : (d : Config) → Contains found d → Acts theory asked c d
    pub origin : (d : Config) → Contains found d → (j : ℕ) × (j < i) × ActsAt theory asked c j d
    pub seen_all : (j : ℕ) → j < i → Contains seen (get_or c.parts j nil)
    pub once : EachStandsOnce found

  pub moves_none : MovesBelow 0 [] []
  moves_none = record {
    known = λ n h. absurd (omega (arith, h));
    complete = λ j h. absurd (omega (arith, h));
    sound = λ d m. absurd (contains_none d m);
    origin = λ d m. absurd (contains_none d m);
    seen_all = λ j h. absurd (omega (arith, h));
    once = apart_none AreOneBag no_config;
  }

  known_later : (i : ℕ) (seen : List Process) → ((n : ℕ) → n < length seen → (j : ℕ) × (j < i) × (part_of seen n ≡ get_or c.parts j nil)) → (n : ℕ) → n < length seen
      → (j : ℕ) × (j < i + 1) × (part_of seen n ≡ get_or c.parts j nil)
  known_later i seen k n h = let p = k n h in (p.0, omega (arith, p.1), p.2)

  pub moves_more : (i n : ℕ) (old new : List Process) (found more : List Config) → i < length c.parts → MovesBelow i old found → IsNumbered old new (get_or c.parts i nil) n
      → n ≡ length old → AddsMoves theory asked c i found more → MovesBelow (i + 1) new more
  moves_more i n old new found more h k numbered e a =
      record {
        known = known_new numbered;
        complete = below_next (λ m. (d : Config) → ActsAt theory asked c m d → IsOneOf more d) i
            (λ j l d q. (let o = k.complete j l d q in (o.0, a.kept o.0 o.1, o.2)))
            (λ d q. (d, a.added d q, bags_refl d));
        sound = λ d q. elim (a.sound d q) [ inl l ↦ k.sound d l | inr l ↦ (i, h, l) ];
        origin = λ d q. elim (a.sound d q) [ inl l ↦ (let o = k.origin d l in (o.0, omega (arith, o.1), o.2)) | inr l ↦ (i, omega arith, l) ];
        seen_all = seen_new numbered;
        once = elim a.at_most_one [
          | inl f ↦ subst EachStandsOnce (sym f) k.once
          | inr f ↦ subst EachStandsOnce (sym f.2) (apart_more AreOneBag no_config found f.0 k.once (λ y m. apart y m f.0 f.1 numbered))
        ];
      }
    where
      apart : (y : Config) → Contains found y → (d : Config) → ActsAt theory asked c i d → IsNumbered old new (get_or c.parts i nil) n → ¬ AreOneBag y d
      apart y m d q (inl f) = absurd (omega (arith, f.1.0, e))
      apart y m d q (inr f) =
          let o = k.origin y m in
          let other : ¬ (get_or c.parts o.0 nil ≡ get_or c.parts i nil) = λ s. f.2 (subst (λ (p : Process). Contains old p) s (k.seen_all o.0 o.1)) in
          acts_apart theory asked c o.0 i (omega (arith, o.1, h)) h other y d o.2 q

      seen_new : IsNumbered old new (get_or c.parts i nil) n → (j : ℕ) → j < i + 1 → Contains new (get_or c.parts j nil)
      seen_new (inl f) = absurd (omega (arith, f.1.0, e))
      seen_new (inr f) =
          subst (λ (t : List Process). (j : ℕ) → j < i + 1 → Contains t (get_or c.parts j nil)) (sym f.0)
          (below_next (λ j. Contains (old ++ get_or c.parts i nil ∷ []) (get_or c.parts j nil)) i (λ j l. (contains_pushed old (get_or c.parts i nil) (get_or c.parts j nil)).1 (inl (k.seen_all j l)))
          ((contains_pushed old (get_or c.parts i nil) (get_or c.parts i nil)).1 (inr refl)))

      part : Process
      part = get_or c.parts i nil

      last_or_before : (m : ℕ) → m < length old + 1 → (m < length old) ⊎ (m ≡ length old)
      last_or_before m l = grind (arith, l)

      at_new : (m : ℕ) → (m < length old) ⊎ (m ≡ length old) → (j : ℕ) × (j < i + 1) × (part_of (old ++ part ∷ []) m ≡ get_or c.parts j nil)
      at_new m (inl l) = let p = k.known m l in (p.0, omega (arith, p.1), get_or_append_left old (part ∷ []) nil m l ∙ p.2)
      at_new m (inr l) = (i, omega arith, get_or_push old part nil m (sym l))

      known_new : IsNumbered old new part n → (m : ℕ) → m < length new → (j : ℕ) × (j < i + 1) × (part_of new m ≡ get_or c.parts j nil)
      known_new (inl f) m l = absurd (omega (arith, f.1.0, e))
      known_new (inr f) m l =
          let within : m < length old + 1 = subst (λ (z : ℕ). m < z) (ap length f.0 ∙ length-append old (part ∷ [])) l in
          let p = at_new m (last_or_before m within) in
          (p.0, p.1, ap (λ t. part_of t m) f.0 ∙ p.2)

  -- an equal part stands before
  pub moves_same : (i n : ℕ) (old new : List Process) (found : List Config) → i < length c.parts → MovesBelow i old found → IsNumbered old new (get_or c.parts i nil) n → ¬ (n ≡ length old)
      → MovesBelow (i + 1) new found
  moves_same i n old new found h k (inr f) e = absurd (e f.1)
  moves_same i n old new found h k (inl f) e =
      let p = k.known n f.1.0 in
      let same : get_or c.parts i nil ≡ get_or c.parts p.0 nil = sym f.1.1 ∙ p.2 in
      subst (λ (t : List Process). MovesBelow (i + 1) t found) (sym f.0) (record {
        known = known_later i old k.known;
        complete = below_next (λ m. (d : Config) → ActsAt theory asked c m d → IsOneOf found d) i k.complete (λ d q. as_before p.0 p.1 same d q);
        sound = k.sound;
        origin = λ d q. (let o = k.origin d q in (o.0, omega (arith, o.1), o.2));
        seen_all = below_next (λ j. Contains old (get_or c.parts j nil)) i k.seen_all (subst (λ (p : Process). Contains old p) f.1.1 (Contains-get_or old n nil f.1.0));
        once = k.once;
      })
    where
      as_before : (j : ℕ) → j < i → get_or c.parts i nil ≡ get_or c.parts j nil → (d : Config) → ActsAt theory asked c i d → IsOneOf found d
      as_before j l same d (then, added, g, q) =
          let other : Config = record { parts = then ∷ left_at j c.parts; frame = c.frame ++ added } in
          let o = k.complete j l other (then, added, subst (λ (p : Process). GoesOn theory p asked then added) same g, refl) in
          let order = two_removed (sym same) (removes_at c.parts j (omega (arith, l, h))) (removes_at c.parts i h) in
          let bag : AreOneBag other (record { parts = then ∷ left_at i c.parts; frame = c.frame ++ added }) = record { parts = a_part here order; frame = refl } in
          (o.0, o.1, bags_trans o.0 other d o.2 (subst (λ (x : Config). AreOneBag other x) (sym q) bag))

  pub moves_all : (i : ℕ) (seen : List Process) (found : List Config) → length c.parts ≤ i → MovesBelow i seen found → AreMoves theory asked c found
  moves_all i seen found h k m = (
    λ o. (o.0, k.sound o.0 o.1, o.2),
    λ o. (let f = k.complete o.1.0 (omega (arith, o.1.1, h)) o.0 o.1.2 in (f.0, f.1, bags_trans f.0 o.0 m f.2 o.2)),
  )

-- what a value of the code says is no overhearing
pub code_label : (l : LabelValue) → IsNoOverhearing (label_of l)
code_label (In c r) d j e = absurd (cc)
code_label (Out c k) d j e = absurd (cc)
