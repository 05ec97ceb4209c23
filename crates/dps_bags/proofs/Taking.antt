-- Bags that are taken over from another list, the last one first.
use Rattle.std.proofs.Common.{◌≡◌, ℕ, List, [], ◌∷◌, ◌++◌, sym, ◌∙◌, ap, inl, inr, append_assoc, append-nil}
use Rattle.std.specs.Prelude.{◌⊎◌, ◌↔◌, Contains}
use Rattle.dps_bags.specs.Bags.{IsLonger}
use Rattle.dps_bags.proofs.Holding.{contains_none, contains_pushed}
use Rattle.dps_bags.proofs.Joining.{Lists, Adds}

pub longer_none : (old : Lists) → IsLonger old old
longer_none old = ([], sym (append-nil old))

pub longer_more : (old mid new : Lists) → IsLonger old mid → IsLonger mid new → IsLonger old new
longer_more old mid new h k = (h.0 ++ k.0, k.1 ∙ (ap (λ bs. bs ++ k.0) h.1 ∙ append_assoc old h.0 k.0))

-- what of the other list is not left was taken over
pub record TakesOver (old other left new : Lists) : Type 0 where
  pub longer : IsLonger old new
  pub kept : (b : List ℕ) → Contains old b → Contains new b
  pub complete : (b : List ℕ) → Contains other b → Contains new b ⊎ Contains left b
  pub left_over : (b : List ℕ) → Contains left b → Contains other b
  pub sound : (b : List ℕ) → Contains new b → Contains old b ⊎ Contains other b

pub takes_none : (old other : Lists) → TakesOver old other other old
takes_none old other = record { longer = longer_none old; kept = λ b h. h; complete = λ b h. inr h; left_over = λ b h. h; sound = λ b h. inl h }

pub takes_more : (old other left mid new : Lists) (bag : List ℕ) → TakesOver old other (left ++ bag ∷ []) mid → Adds mid new bag → IsLonger mid new → TakesOver old other left new
takes_more old other left mid new bag h a l =
    let pushed : (b : List ℕ) → Contains (left ++ bag ∷ []) b ↔ (Contains left b ⊎ (b ≡ bag)) = contains_pushed left bag in
    record {
      longer = longer_more old mid new h.longer l;
      kept = λ b k. (a b).1 (inl (h.kept b k));
      complete = λ b k. elim (h.complete b k) [
        | inl m ↦ inl ((a b).1 (inl m))
        | inr m ↦ elim ((pushed b).0 m) [ inl n ↦ inr n | inr e ↦ inl ((a b).1 (inr e)) ]
      ];
      left_over = λ b k. h.left_over b ((pushed b).1 (inl k));
      sound = λ b k. elim ((a b).0 k) [
        | inl m ↦ h.sound b m
        | inr e ↦ inr (h.left_over b ((pushed b).1 (inr e)))
      ];
    }

pub takes_all : (old other new : Lists) → TakesOver old other [] new → (b : List ℕ) → Contains new b ↔ (Contains old b ⊎ Contains other b)
takes_all old other new h b = (
  h.sound b,
  elim [
    | inl k ↦ h.kept b k
    | inr k ↦ elim (h.complete b k) [ inl m ↦ m | inr m ↦ absurd (contains_none b m) ]
  ],
)
