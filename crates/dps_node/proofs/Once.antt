-- What is found, answered and asked is determined.
use Rattle.std.proofs.Common.{◌≡◌, ℕ, ◌+◌, List, [], ◌∷◌, ◌++◌, Some, map, refl, sym, ◌∙◌, ap, subst, All}
use Rattle.std.proofs.lemmas.List.Elements.{All-head, All-tail}
use Rattle.dps_solver.specs.Scene.{Scene}
use Rattle.dps_solver.specs.Search.{GeneralSolution}
use Rattle.dps_solver.proofs.Once.{finds_once}
use Rattle.dps_node.specs.Node.{SymbolicConfig, Node, scene_of}
use Rattle.dps_node.specs.Questions.{Question, Found, FindsAll, no_ask, an_ask, Answer, decided, undecided, IsPlainlyFound, Answers, holds}
use Rattle.dps_node.specs.Questions.{fails, open_at, AnswersWhole, holds_by_all, fails_by_all, open_in, Asks, Replies, divided}
use Rattle.dps_node.specs.Questions.{after_answer, AsksEach, none_left, one_decided, one_open}

pub finds_all_once : (scene : Scene) {qs : Question} {l k : List Found} {n m : ℕ} → FindsAll scene qs l n → FindsAll scene qs k m → (l ≡ k) × (n ≡ m)
finds_all_once scene no_ask no_ask = (refl, refl)
finds_all_once scene (an_ask {q = q} h t l n) (an_ask h' t' l' n') =
    let one = finds_once scene q.ask h h' in
    let others = finds_all_once scene t t' in
    (l ∙ (λ i. map (λ (s : GeneralSolution). (q, s)) (one.0 i) ++ others.0 i) ∙ sym l', n ∙ (λ i. one.1 i + others.1 i) ∙ sym n')

-- the first element of which P holds, where Q holds of all before it
module _ (Q P : Found → Type 0) (clash : (x : Found) → Q x → P x → ⊥) where
  first_once : (bs cs fs gs : List Found) (f g : Found) → All Q bs → P f → All Q cs → P g → bs ++ (f ∷ fs) ≡ cs ++ (g ∷ gs) → f ≡ g
  first_once [] [] fs gs f g a p b q e = cc
  first_once [] (c ∷ cs) fs gs f g a p b q e = let d : f ≡ c = cc in absurd (clash c (All-head Q c cs b) (subst P d p))
  first_once (x ∷ bs) [] fs gs f g a p b q e = let d : g ≡ x = cc in absurd (clash x (All-head Q x bs a) (subst P d q))
  first_once (x ∷ bs) (c ∷ cs) fs gs f g a p b q e =
      let d : bs ++ (f ∷ fs) ≡ cs ++ (g ∷ gs) = cc in
      first_once bs cs fs gs f g (All-tail Q x bs a) p (All-tail Q c cs b) q d

  holds_at : (bs fs : List Found) (f : Found) → All Q (bs ++ (f ∷ fs)) → P f → ⊥
  holds_at [] fs f a p = clash f (All-head Q f fs a) p
  holds_at (x ∷ bs) fs f a p = holds_at bs fs f (All-tail Q x (bs ++ (f ∷ fs)) a) p

not_none : (bs fs : List Found) (f : Found) → [] ≡ bs ++ (f ∷ fs) → ⊥
not_none [] fs f e = cc
not_none (x ∷ bs) fs f e = cc

abbrev Other : Found → Type 0
Other x = ¬ IsPlainlyFound x

pub answers_once : (found : List Found) (x y : Answer) → Answers found x → Answers found y → x ≡ y
answers_once found x y (holds bs fs f e a p q) (holds cs gs g e' b p' q') =
    q ∙ ap (λ h. decided (Some h)) (first_once Other IsPlainlyFound (λ z n k. n k) bs cs fs gs f g a p b p' (sym e ∙ e')) ∙ sym q'
answers_once found x y (holds bs fs f e a p q) (fails q') = absurd (not_none bs fs f e)
answers_once found x y (holds bs fs f e a p q) (open_at h q') = absurd (holds_at Other IsPlainlyFound (λ z n k. n k) bs fs f (subst (All Other) e h) p)
answers_once found x y (fails q) (holds bs fs f e a p q') = absurd (not_none bs fs f e)
answers_once found x y (fails q) (fails q') = q ∙ sym q'
answers_once found x y (open_at h q) (holds bs fs f e a p q') = absurd (holds_at Other IsPlainlyFound (λ z n k. n k) bs fs f (subst (All Other) e h) p)
answers_once found x y (open_at h q) (open_at h' q') = q ∙ sym q'

pub whole_once : (found : List Found) (x y : Answer) → AnswersWhole found x → AnswersWhole found y → x ≡ y
whole_once found x y (holds_by_all h q) (holds_by_all h' q') = q ∙ sym q'
whole_once found x y (holds_by_all h q) (open_in bs fs f e a p q') = absurd (holds_at IsPlainlyFound Other (λ z k n. n k) bs fs f (subst (All IsPlainlyFound) e h) p)
whole_once found x y (fails_by_all q) (fails_by_all q') = q ∙ sym q'
whole_once found x y (fails_by_all q) (open_in bs fs f e a p q') = absurd (not_none bs fs f e)
whole_once found x y (open_in bs fs f e a p q') (holds_by_all h q) = absurd (holds_at IsPlainlyFound Other (λ z k n. n k) bs fs f (subst (All IsPlainlyFound) e h) p)
whole_once found x y (open_in bs fs f e a p q') (fails_by_all q) = absurd (not_none bs fs f e)
whole_once found x y (open_in bs fs f e a p q) (open_in cs gs g e' b p' q') =
    q ∙ ap (λ (h : Found). undecided h.1) (first_once IsPlainlyFound Other (λ z k n. n k) bs cs fs gs f g a p b p' (sym e ∙ e')) ∙ sym q'

module _ (reads : List Found → Answer → Type 0) (reads_once : (found : List Found) (x y : Answer) → reads found x → reads found y → x ≡ y) (node : Node) where
  pub asks_once : (c : SymbolicConfig) (question : Question) (x y : Answer) (n m : ℕ) → Asks reads node c question x n → Asks reads node c question y m → (x ≡ y) × (n ≡ m)
  asks_once c question x y n m h k =
      let f = finds_all_once (scene_of node c) h.finds k.finds in
      (reads_once k.found x y (subst (λ l. reads l x) f.0 h.answers) k.answers, h.counted ∙ (λ i. 1 + f.1 i) ∙ sym k.counted)

  pub asks_each_once : {list : List (SymbolicConfig × Question)} {r s : Replies} {n m : ℕ} → AsksEach reads node list r n → AsksEach reads node list s m → (r ≡ s) × (n ≡ m)
  asks_each_once none_left none_left = (refl, refl)
  asks_each_once (one_decided {c = c} {question = question} {o = o} {first = first} h t r n) (one_decided {o = o'} {first = first'} h' t' r' n') =
      let a = asks_once c question (decided o) (decided o') first first' h h' in
      let d = a.0 in
      let same : o ≡ o' = cc in
      let b = asks_each_once t t' in
      (r ∙ (λ i. after_answer (same i) (b.0 i)) ∙ sym r', n ∙ (λ i. a.1 i + b.1 i) ∙ sym n')
  asks_each_once (one_decided {c = c} {question = question} {o = o} {first = first} h t r n) (one_open {s = s} {steps = m} h') =
      let d = (asks_once c question (decided o) (undecided s) first m h h').0 in cc
  asks_each_once (one_open {c = c} {question = question} {s = s} {steps = m} h') (one_decided {o = o} {first = first} h t r n) =
      let d = (asks_once c question (decided o) (undecided s) first m h h').0 in cc
  asks_each_once (one_open {c = c} {question = question} {s = s} {steps = n} h) (one_open {s = s'} {steps = m} h') =
      let a = asks_once c question (undecided s) (undecided s') n m h h' in
      let d = a.0 in
      let same : s ≡ s' = cc in
      (ap divided same, a.1)
