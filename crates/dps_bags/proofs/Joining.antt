-- Bags put together, one after the other.
use Rattle.std.proofs.Common.{◌≡◌, ℕ, ◌<◌, ◌≤◌, ◌+◌, List, [], length, get_or, refl, sym, subst, inl, inr, arith}
use Rattle.std.specs.Prelude.{◌⊎◌, ◌↔◌, Contains}
use Rattle.std.proofs.lemmas.List.Elements.{Contains-get_or}
use Rattle.dps_bags.specs.Bags.{IsJoined, HasJoined, AreJoined, AddsJoined}
use Rattle.dps_bags.proofs.Holding.{contains_none, has_place}

abbrev pub Lists : Type 0
Lists = List (List ℕ)

-- what is added stays, and no more comes than what was added
abbrev pub Adds : Lists → Lists → List ℕ → Type 0
Adds old new bag = (b : List ℕ) → Contains new b ↔ (Contains old b ⊎ (b ≡ bag))

joined_stays : (old new : Lists) (one other : List ℕ) → ((b : List ℕ) → Contains old b → Contains new b) → HasJoined old one other → HasJoined new one other
joined_stays old new one other h k = (k.0, h k.0 k.1, k.2)

-- the first so many of the others were joined
pub record JoinsBelow (one : List ℕ) (others old : Lists) (i : ℕ) (new : Lists) : Type 0 where
  pub kept : (bag : List ℕ) → Contains old bag → Contains new bag
  pub complete : (j : ℕ) → j < i → HasJoined new one (get_or others j [])
  pub sound : (bag : List ℕ) → Contains new bag → Contains old bag ⊎ ((other : List ℕ) × Contains others other × IsJoined one other bag)

pub joins_none : (one : List ℕ) (others old : Lists) → JoinsBelow one others old 0 old
joins_none one others old = record { kept = λ b h. h; complete = λ j h. absurd (omega (arith, h)); sound = λ b h. inl h }

pub below_next : (P : ℕ → Type 0) (i : ℕ) → ((j : ℕ) → j < i → P j) → P i → (j : ℕ) → j < i + 1 → P j
below_next P i f p j h = elim (at_most i j h) [ inl k ↦ f j k | inr e ↦ subst P (sym e) p ]
  where
    at_most : (i j : ℕ) → j < i + 1 → (j < i) ⊎ (j ≡ i)
    at_most i j h = grind (arith, h)

pub joins_more : (one : List ℕ) (others old mid new : Lists) (i : ℕ) (bag : List ℕ)
    → i < length others → JoinsBelow one others old i mid → IsJoined one (get_or others i []) bag → Adds mid new bag → JoinsBelow one others old (i + 1) new
joins_more one others old mid new i bag h b j a =
    let stays : (x : List ℕ) → Contains mid x → Contains new x = λ x k. (a x).1 (inl k) in
    record {
      kept = λ x k. stays x (b.kept x k);
      complete = below_next (λ k. HasJoined new one (get_or others k [])) i (λ k l. joined_stays mid new one (get_or others k []) stays (b.complete k l)) (bag, (a bag).1 (inr refl), j);
      sound = λ x k. elim ((a x).0 k) [
        | inl l ↦ b.sound x l
        | inr e ↦ inr (get_or others i [], Contains-get_or others i [] h, subst (λ (y : List ℕ). IsJoined one (get_or others i []) y) (sym e) j)
      ];
    }

pub joins_all : (one : List ℕ) (others old new : Lists) (i : ℕ) → length others ≤ i → JoinsBelow one others old i new → AddsJoined one others old new
joins_all one others old new i h b = record {
  kept = b.kept;
  complete = λ other c. (let p = has_place others [] other c in subst (HasJoined new one) p.2 (b.complete p.0 (omega (arith, p.1, h))));
  sound = b.sound;
}

-- the first so many of the ones were joined with all others
pub record JoinedBelow (ones others : Lists) (i : ℕ) (found : Lists) : Type 0 where
  pub complete : (j : ℕ) → j < i → (other : List ℕ) → Contains others other → HasJoined found (get_or ones j []) other
  pub sound :
      (bag : List ℕ) → Contains found bag
      → (one : List ℕ) × (other : List ℕ) × Contains ones one × Contains others other × IsJoined one other bag

pub joined_none : (ones others : Lists) → JoinedBelow ones others 0 []
joined_none ones others = record { complete = λ j h. absurd (omega (arith, h)); sound = λ b h. absurd (contains_none b h) }

pub joined_more : (ones others mid new : Lists) (i : ℕ) → i < length ones → JoinedBelow ones others i mid → AddsJoined (get_or ones i []) others mid new → JoinedBelow ones others (i + 1) new
joined_more ones others mid new i h b a = record {
  complete =
      below_next
      (λ k. (other : List ℕ) → Contains others other → HasJoined new (get_or ones k []) other)
      i
      (λ k l other c. joined_stays mid new (get_or ones k []) other a.kept (b.complete k l other c))
      a.complete;
  sound = λ x k. elim (a.sound x k) [
    | inl l ↦ b.sound x l
    | inr j ↦ (get_or ones i [], j.0, Contains-get_or ones i [] h, j.1, j.2)
  ];
}

pub joined_all : (ones others new : Lists) (i : ℕ) → length ones ≤ i → JoinedBelow ones others i new → AreJoined ones others new
joined_all ones others new i h b = record {
  complete = λ one other c d. (let p = has_place ones [] one c in subst (λ (x : List ℕ). HasJoined new x other) p.2 (b.complete p.0 (omega (arith, p.1, h)) other d));
  sound = b.sound;
}

pub added_to_none : (new : Lists) (bag : List ℕ) → Adds [] new bag → (b : List ℕ) → Contains new b ↔ (b ≡ bag)
added_to_none new bag a b = (λ h. elim ((a b).0 h) [ inl k ↦ absurd (contains_none b k) | inr e ↦ e ], λ e. (a b).1 (inr e))
