-- Which frames are matched, one after another.
use Rattle.std.proofs.Common.{◌≡◌, ◌∙◌, ap, ℕ, ◌<◌, arith, length, List, [], ◌∷◌, ◌++◌, refl, sym, subst, inl, inr, true≢false}
use Rattle.std.specs.Prelude.{Bool, true, false, Contains}
use Rattle.dps_terms.specs.Tree.{Tree}
use Rattle.dps_signature.specs.Signature.{Signature}
use Rattle.dps_theory.specs.Theory.{Theory}
use Rattle.dps_theory.specs.Frames.{AreStaticallyEquivalent}
use Rattle.dps_static.specs.Answer.{IsAnswerUnder}
use Rattle.dps_static.specs.declared.Comparison.TheVariants.{Same, Differ}
use Rattle.dps_static.proofs.Frames.{answers_decide}
use Rattle.dps_theory.proofs.Equivalence.{reflexive, symmetric}
use Rattle.dps_tree.specs.Table.{frame_of}
use Rattle.dps_tree.specs.Groups.{HoldsFrame, HasNumbers, AreAmong, IsMutual}
use Rattle.dps_tree.specs.Matching.{IsMatchedBy, AreMatched, IsMatchAnswer, AreMatchAnswer, AreAlikeAnswer, IsGroupAnswer, AreJust, AreLevel}
use Rattle.dps_tree.specs.declared.group.Group.{Group}
use Rattle.dps_tree.specs.declared.table.Table.{Table}
use Rattle.dps_tree.proofs.Holding.{contains_none, one_only, contains_pushed}

module _ (theory : Theory) where
  pub same_alike : (first second : List Tree) → IsAnswerUnder theory first second Same → AreAlikeAnswer theory first second true
  same_alike first second h signature f g = (λ _. h signature f g, λ _. refl)

  pub differ_alike : (first second : List Tree) (test : _) → IsAnswerUnder theory first second (Differ test) → AreAlikeAnswer theory first second false
  differ_alike first second test h signature f g =
      let decides = answers_decide signature theory first second (Differ test) (h signature f g) in
      (λ e. absurd (true≢false (sym e)), λ a. (let e = decides.1 a in cc))

  -- the frames of a list, one after another
  pub unmatched_by_none : (frame : List Tree) → IsMatchAnswer theory frame (Contains []) false
  unmatched_by_none frame signature f g m = contains_none m.0 m.1

  pub unmatched_by_more :
      (frame : List Tree) (fs : List (List Tree)) (x : List Tree) → IsMatchAnswer theory frame (Contains fs) false → AreAlikeAnswer theory frame x false
      → IsMatchAnswer theory frame (Contains (fs ++ x ∷ [])) false
  unmatched_by_more frame fs x h a signature f g m =
      elim ((contains_pushed fs x m.0).0 m.1) [
        | inl b ↦ h signature f (λ j d. g j ((contains_pushed fs x j).1 (inl d))) (m.0, b, m.2)
        | inr e ↦ true≢false (sym ((a signature f (g x ((contains_pushed fs x x).1 (inr refl)))).1 (subst (λ (j : List Tree). AreStaticallyEquivalent signature theory frame j) e m.2)))
      ]

  pub matched_by_one : (frame : List Tree) (others : List Tree → Type 0) (x : List Tree) → others x → AreAlikeAnswer theory frame x true → IsMatchAnswer theory frame others true
  matched_by_one frame others x c a signature f g = (x, c, (a signature f (g x c)).0 refl)

  pub matched_by_same : (frame : List Tree) (others : List Tree → Type 0) → others frame → IsMatchAnswer theory frame others true
  matched_by_same frame others c signature f g = (frame, c, reflexive signature theory frame)

  -- the same answer for the same frames
  pub answer_same :
      (frame : List Tree) (fs : List (List Tree)) (others : List Tree → Type 0) (answer : Bool) → AreJust fs others
      → IsMatchAnswer theory frame (Contains fs) answer → IsMatchAnswer theory frame others answer
  answer_same frame fs others true j h signature f g =
      let m = h signature f (λ x c. g x ((j x).0 c)) in (m.0, (j m.0).0 m.1, m.2)
  answer_same frame fs others false j h signature f g =
      λ m. h signature f (λ x c. g x ((j x).0 c)) (m.0, (j m.0).1 m.1, m.2)

  -- what has the numbers of another frame has the frame
  pub numbers_match : (table : Table) (groups : List Group) (numbers : List ℕ) → HasNumbers groups numbers → IsMatchAnswer theory (frame_of table numbers) (HoldsFrame table groups) true
  numbers_match table groups numbers h =
      matched_by_same (frame_of table numbers) (HoldsFrame table groups) (h.0, h.1, h.2, ap (frame_of table) h.3)

  pub group_answer :
      (count : ℕ) (frame : List Tree) (others : List Tree → Type 0) (answer : Bool) → 0 < count → IsMatchAnswer theory frame others answer
      → IsGroupAnswer theory count frame others answer
  group_answer count frame others true some h = λ _. h
  group_answer count frame others false some h = (some, h)

  module _ (table : Table) (others : List Tree → Type 0) where
    -- group after group
    pub none_to_match : AreMatchAnswer theory (HoldsFrame table []) others true
    none_to_match signature f g x c = absurd (contains_none c.0 c.1)

    pub more_to_match :
        (gs : List Group) (x : Group) → AreMatchAnswer theory (HoldsFrame table gs) others true
        → IsGroupAnswer theory (length x.bags) (frame_of table x.frame.items) others true → AreMatchAnswer theory (HoldsFrame table (gs ++ x ∷ [])) others true
    more_to_match gs x h a signature f g frame c =
        elim ((contains_pushed gs x c.0).0 c.1) [
          | inl b ↦ h signature (λ i d. f i (d.0, (contains_pushed gs x d.0).1 (inl d.1), d.2, d.3)) g frame (c.0, b, c.2, c.3)
          | inr e ↦ last (subst (λ (y : Group). 0 < length y.bags) e c.2) (c.3 ∙ ap (λ (y : Group). frame_of table y.frame.items) e)
        ]
      where
        last : 0 < length x.bags → frame ≡ frame_of table x.frame.items → IsMatchedBy signature theory others frame
        last some e =
            subst (λ (k : List Tree). IsMatchedBy signature theory others k) (sym e)
            (a some signature (f (frame_of table x.frame.items) (x, (contains_pushed gs x x).1 (inr refl), some, refl)) g)

    pub one_unmatched :
        (gs : List Group) (x : Group) → Contains gs x → IsGroupAnswer theory (length x.bags) (frame_of table x.frame.items) others false
        → AreMatchAnswer theory (HoldsFrame table gs) others false
    one_unmatched gs x c a signature f g =
        let held : HoldsFrame table gs (frame_of table x.frame.items) = (x, c, a.0, refl) in (frame_of table x.frame.items, held, a.1 signature (f (frame_of table x.frame.items) held) g)

  pub all_among : (table : Table) (groups others : List Group) → AreAmong groups others → AreMatchAnswer theory (HoldsFrame table groups) (HoldsFrame table others) true
  all_among table groups others h signature f g frame c =
      let n = h c.0 c.1 in
      (frame, (n.0, n.1, n.2, c.3 ∙ ap (frame_of table) n.3), reflexive signature theory frame)

-- the frames of groups, one after another
pub frames_none : (table : Table) → AreJust [] (HoldsFrame table [])
frames_none table f = (λ c. absurd (contains_none f c), λ c. absurd (contains_none c.0 c.1))

pub frames_more :
    (table : Table) (gs : List Group) (x : Group) (fs : List (List Tree)) → 0 < length x.bags → AreJust fs (HoldsFrame table gs)
    → AreJust (fs ++ frame_of table x.frame.items ∷ []) (HoldsFrame table (gs ++ x ∷ []))
frames_more table gs x fs some h f = (
  λ c. elim ((contains_pushed fs (frame_of table x.frame.items) f).0 c) [
    | inl d ↦ (let k = (h f).0 d in (k.0, (contains_pushed gs x k.0).1 (inl k.1), k.2, k.3))
    | inr e ↦ (x, (contains_pushed gs x x).1 (inr refl), some, e)
  ],
  λ c. (contains_pushed fs (frame_of table x.frame.items) f).1
      (elim ((contains_pushed gs x c.0).0 c.1) [ inl d ↦ inl ((h f).1 (c.0, d, c.2, c.3)) | inr e ↦ inr (c.3 ∙ ap (λ (y : Group). frame_of table y.frame.items) e) ]),
)

pub frames_left : (table : Table) (gs : List Group) (x : Group) (fs : List (List Tree)) → length x.bags ≡ 0 → AreJust fs (HoldsFrame table gs) → AreJust fs (HoldsFrame table (gs ++ x ∷ []))
frames_left table gs x fs none h f = (
  λ c. (let k = (h f).0 c in (k.0, (contains_pushed gs x k.0).1 (inl k.1), k.2, k.3)),
  λ c. elim ((contains_pushed gs x c.0).0 c.1) [
    | inl d ↦ (h f).1 (c.0, d, c.2, c.3)
    | inr e ↦ absurd (let some : 0 < length x.bags = subst (λ (y : Group). 0 < length y.bags) e c.2 in omega (arith, none, some))
  ],
)

pub among_more : (gs : List Group) (x : Group) (others : List Group) → AreAmong gs others → HasNumbers others x.frame.items → AreAmong (gs ++ x ∷ []) others
among_more gs x others h n g c =
    elim ((contains_pushed gs x g).0 c) [ inl d ↦ h g d | inr e ↦ subst (λ (y : Group). HasNumbers others y.frame.items) (sym e) n ]

pub level_swapped : (frames others : List Tree → Type 0) → AreLevel frames others → AreLevel others frames
level_swapped frames others h = record { height = h.height; few = h.few; first = h.second; second = h.first }

-- where the others have one frame, it is matched in turn
pub mutual_matched :
    (signature : Signature) (theory : Theory) (table : Table) (groups others : List Group) → IsMutual groups others
    → AreMatched signature theory (HoldsFrame table groups) (HoldsFrame table others)
    → AreMatched signature theory (HoldsFrame table others) (HoldsFrame table groups)
mutual_matched signature theory table groups others h m frame c =
    let first = frame_of table h.0.0.frame.items in
    let held : HoldsFrame table groups first = (h.0.0, h.0.1, h.0.2, refl) in
    let k = m first held in
    let same : k.0 ≡ frame = k.1.3 ∙ (ap (λ (g : Group). frame_of table g.frame.items) (one_only others k.1.0 c.0 h.1 k.1.1 c.1) ∙ sym c.3) in
    (first, held, symmetric signature theory first frame (subst (λ (f : List Tree). AreStaticallyEquivalent signature theory first f) same k.2))
