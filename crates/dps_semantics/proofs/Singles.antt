-- Configurations kept once.
use Rattle.std.proofs.Common.{◌≡◌, ℕ, ◌<◌, ◌+◌, List, [], ◌∷◌, ◌++◌, length, get_or, refl, sym, ◌∙◌, ap, subst, inl, inr, arith, length-append}
use Rattle.std.specs.Prelude.{◌⊎◌, ◌↔◌, Contains}
use Rattle.std.specs.List.Sorted.{IsPermutation, IsNonDecreasing}
use Rattle.std.proofs.lemmas.List.{map-append, get_or_append_left, get_or_push}
use Rattle.std.proofs.lemmas.List.Elements.{Contains-get_or, Contains-append_cases}
use Rattle.std.proofs.lemmas.List.Sorted.{Contains-permutation, IsPermutation-sym}
use Rattle.dps_bags.proofs.Holding.{contains_none, contains_one, contains_pushed, has_place, HasPlace}
use Rattle.dps_terms.specs.Tree.{Tree}
use Rattle.dps_process.specs.Process.{Process, nil}
use Rattle.dps_process.specs.Steps.{Config, IsReordered, AreOneBag}
use Rattle.dps_process.proofs.Bags.{reordered_trans, reordered_sym}
use Rattle.dps_bags.specs.Apart.{StandOnce}
use Rattle.dps_bags.specs.declared.places.Places.{Places}
use Rattle.dps_bags.specs.Places.{numbers_at, IsNoted}
use Rattle.dps_bags.proofs.Keeping.{apart_none, apart_more, before_or_last, note_stays, note_there}
use Rattle.dps_semantics.specs.Settling.{IsOneOf, EachStandsOnce}
use Rattle.dps_semantics.specs.Digest.{config_digest}
use Rattle.dps_semantics.proofs.Distinct.{same_parts}
use Rattle.dps_semantics.specs.Parts.{part_of, parts_of, AreNumbers, IsGrown, IsNumbered}
use Rattle.dps_semantics.specs.Once.{AreSame, AreNumbersOf, config_at, IsKept}
use Rattle.dps_semantics.proofs.Tables.{grown_more, parts_stay, numbers_stay, permuted}
use Rattle.dps_semantics.proofs.Numbering.{numbered}
use Rattle.dps_semantics.proofs.Following.{one_as}

-- the numbers of the first so many processes, in order
pub record NumbersBelow (processes old new : List Process) (numbers : List ℕ) : Type 0 where
  pub grown : IsGrown old new
  pub within : AreNumbers new numbers
  pub parts : parts_of new numbers ≡ processes

pub number_more : (processes old mid new : List Process) (p : Process) (numbers : List ℕ) (n : ℕ) → NumbersBelow processes old mid numbers → IsNumbered mid new p n
    → NumbersBelow (processes ++ p ∷ []) old new (numbers ++ n ∷ [])
number_more processes old mid new p numbers n h k =
    let has = numbered mid new p n k in record {
      grown = grown_more old mid new h.grown has.grown;
      within = λ m c. elim (Contains-append_cases numbers (n ∷ []) m c) [
        | inl d ↦ numbers_stay mid new numbers has.grown h.within m d
        | inr d ↦ subst (λ k. k < length new) (sym (contains_one n m d)) has.within
      ];
      parts = map-append (part_of new) numbers (n ∷ []) ∙ (ap (λ ps. ps ++ part_of new n ∷ []) (parts_stay mid new numbers has.grown h.within ∙ h.parts) ∙ ap (λ q. processes ++ q ∷ []) has.there);
    }

pub number_all :
    (processes old new : List Process) (numbers sorted : List ℕ) → NumbersBelow processes old new numbers
    → IsPermutation numbers sorted → IsNonDecreasing sorted → AreNumbersOf processes old new sorted
number_all processes old new numbers sorted h p a = record {
  grown = h.grown;
  within = λ n c. h.within n (Contains-permutation sorted numbers n (IsPermutation-sym numbers sorted p) c);
  parts = subst (λ (ps : List Process). IsReordered (parts_of new sorted) ps) h.parts (reordered_sym (permuted new numbers sorted p));
  ascending = a;
}

-- What stands for a configuration that is kept: the numbers of its parts, noted at its digest by its place.
pub record StandsFor (table : List Process) (places : Places) (numbers : List ℕ) (c : Config) (i : ℕ) : Type 0 where
  pub within : AreNumbers table numbers
  pub parts : IsReordered (parts_of table numbers) c.parts
  pub ascending : IsNonDecreasing numbers
  pub noted : Contains (numbers_at places (config_digest c.frame numbers)) i

abbrev Grows : Places → Places → Type 0
Grows before after = (e m : ℕ) → Contains (numbers_at before e) m → Contains (numbers_at after e) m

stands_still : (old new : List Process) (before after : Places) (numbers : List ℕ) (c : Config) (i : ℕ) → IsGrown old new → Grows before after → StandsFor old before numbers c i
    → StandsFor new after numbers c i
stands_still old new before after numbers c i g k s = record {
  within = numbers_stay old new numbers g s.within;
  parts = subst (λ (ps : List Process). IsReordered ps c.parts) (sym (parts_stay old new numbers g s.within)) s.parts;
  ascending = s.ascending;
  noted = k (config_digest c.frame numbers) i s.noted;
}

-- What is left and what is kept are all, and what is kept stands once; the numbers of each that is kept stand beside it.
pub record OnceBelow (all left : List Config) (table : List Process) (keys : List (List ℕ)) (once : List Config) (places : Places) : Type 0 where
  pub same : (k : Config) → IsOneOf all k ↔ (IsOneOf left k ⊎ IsOneOf once k)
  pub long : length keys ≡ length once
  pub parts_once : StandOnce nil table
  pub stand : (i : ℕ) → i < length keys → StandsFor table places (get_or keys i []) (config_at once i) i
  pub once_each : EachStandsOnce once

none_of : (k : Config) → ¬ IsOneOf [] k
none_of k o = contains_none o.0 o.1

one_pushed : (left : List Config) (c k : Config) → IsOneOf (left ++ c ∷ []) k ↔ (IsOneOf left k ⊎ AreOneBag c k)
one_pushed left c k = (
  λ o. elim ((contains_pushed left c o.0).0 o.1) [ inl m ↦ inl (o.0, m, o.2) | inr e ↦ inr (subst (λ (x : Config). AreOneBag x k) e o.2) ],
  elim [ inl o ↦ (o.0, (contains_pushed left c o.0).1 (inl o.1), o.2) | inr b ↦ (c, (contains_pushed left c c).1 (inr refl), b) ],
)

abbrev no_config : Config
no_config = record { parts = []; frame = [] }

pub once_none : (all : List Config) (places : Places) → OnceBelow all all [] [] [] places
once_none all places = record {
  same = λ k. (λ o. inl o, elim [ inl o ↦ o | inr o ↦ absurd (none_of k o) ]);
  long = refl;
  parts_once = apart_none (λ (p q : Process). p ≡ q) nil;
  stand = λ i l. absurd (omega (arith, l));
  once_each = apart_none AreOneBag no_config;
}

-- one that is not kept yet is none of those that are
not_yet : (all left : List Config) (c : Config) (old new : List Process) (keys : List (List ℕ)) (numbers : List ℕ) (once : List Config) (places : Places)
    → OnceBelow all left old keys once places → AreNumbersOf c.parts old new numbers → ¬ IsKept keys once (numbers_at places (config_digest c.frame numbers)) numbers c.frame → (y : Config)
    → Contains once y → ¬ AreOneBag y c
not_yet all left c old new keys numbers once places h n k y m b =
    k (i, subst (λ (ns : List ℕ). Contains (numbers_at places (config_digest c.frame ns)) i) key (subst (λ (f : List Tree). Contains (numbers_at places (config_digest f (get_or keys i []))) i) frame s.noted), ((l, key), (p.1, frame)))
  where
    p : HasPlace once no_config y
    p = has_place once no_config y m

    i : ℕ
    i = p.0

    l : i < length keys
    l = subst (λ (n : ℕ). i < n) (sym h.long) p.1

    s : StandsFor old places (get_or keys i []) (config_at once i) i
    s = h.stand i l

    frame : (config_at once i).frame ≡ c.frame
    frame = ap (λ (x : Config). x.frame) p.2 ∙ b.frame

    order : IsReordered (parts_of new (get_or keys i [])) (parts_of new numbers)
    order =
        let now = subst (λ (ps : List Process). IsReordered ps (config_at once i).parts) (sym (parts_stay old new (get_or keys i []) n.grown s.within)) s.parts in
        let there = subst (λ (x : Config). IsReordered (parts_of new (get_or keys i [])) x.parts) p.2 now in
        reordered_trans there (reordered_trans b.parts (reordered_sym n.parts))

    key : get_or keys i [] ≡ numbers
    key = same_parts new (n.grown.once h.parts_once) (get_or keys i []) numbers (numbers_stay old new (get_or keys i []) n.grown s.within) n.within s.ascending n.ascending order

-- one that is not kept yet
pub once_more : (all left : List Config) (c : Config) (old new : List Process) (keys : List (List ℕ)) (numbers : List ℕ) (once more : List Config) (before after : Places)
    → OnceBelow all (left ++ c ∷ []) old keys once before → AreNumbersOf c.parts old new numbers → more ≡ once ++ c ∷ []
    → IsNoted before after (config_digest c.frame numbers) (length once)
    → ¬ IsKept keys once (numbers_at before (config_digest c.frame numbers)) numbers c.frame
    → OnceBelow all left new (keys ++ numbers ∷ []) more after
once_more all left c old new keys numbers once more before after h n e noted not_kept = subst (λ (cs : List Config). OnceBelow all left new (keys ++ numbers ∷ []) cs after) (sym e) (record {
  same = λ k. (
    λ o. elim ((h.same k).0 o) [
      | inl p ↦ elim ((one_pushed left c k).0 p) [ inl q ↦ inl q | inr b ↦ inr ((one_pushed once c k).1 (inr b)) ]
      | inr p ↦ inr ((one_pushed once c k).1 (inl p))
    ],
    elim [
      | inl p ↦ (h.same k).1 (inl ((one_pushed left c k).1 (inl p)))
      | inr p ↦ elim ((one_pushed once c k).0 p) [ inl q ↦ (h.same k).1 (inr q) | inr b ↦ (h.same k).1 (inl ((one_pushed left c k).1 (inr b))) ]
    ],
  );
  long = length-append keys (numbers ∷ []) ∙ (ap (λ m. m + 1) h.long ∙ sym (length-append once (c ∷ [])));
  parts_once = n.grown.once h.parts_once;
  stand = λ i l. at_place i (before_or_last keys numbers i l);
  once_each = apart_more AreOneBag no_config once c h.once_each (not_yet all (left ++ c ∷ []) c old new keys numbers once before h n not_kept);
})
  where
    grows : Grows before after
    grows e m k = note_stays before after (config_digest c.frame numbers) (length once) e m noted k

    placed : (i : ℕ) (key : List ℕ) (d : Config) → get_or (keys ++ numbers ∷ []) i [] ≡ key → config_at (once ++ c ∷ []) i ≡ d → StandsFor new after key d i
        → StandsFor new after (get_or (keys ++ numbers ∷ []) i []) (config_at (once ++ c ∷ []) i) i
    placed i key d f g s =
        subst (λ (ns : List ℕ). StandsFor new after ns (config_at (once ++ c ∷ []) i) i) (sym f) (subst (λ (x : Config). StandsFor new after key x i) (sym g) s)

    last_there : (i : ℕ) → i ≡ length once → Contains (numbers_at after (config_digest c.frame numbers)) i
    last_there i f =
        subst (λ (m : ℕ). Contains (numbers_at after (config_digest c.frame numbers)) m) (sym f) (note_there before after (config_digest c.frame numbers) (length once) noted)

    at_place : (i : ℕ) → (i < length keys) ⊎ (i ≡ length keys) → StandsFor new after (get_or (keys ++ numbers ∷ []) i []) (config_at (once ++ c ∷ []) i) i
    at_place i (inl l) =
        let there : i < length once = subst (λ (m : ℕ). i < m) h.long l in
        placed i (get_or keys i []) (config_at once i) (get_or_append_left keys (numbers ∷ []) [] i l) (get_or_append_left once (c ∷ []) no_config i there)
        (stands_still old new before after (get_or keys i []) (config_at once i) i n.grown grows (h.stand i l))
    at_place i (inr l) =
        placed i numbers c (get_or_push keys numbers [] i (sym l)) (get_or_push once c no_config i (sym (l ∙ h.long)))
        (record { within = n.within; parts = n.parts; ascending = n.ascending; noted = last_there i (l ∙ h.long) })

-- one that is kept
pub once_same : (all left : List Config) (c : Config) (old new : List Process) (keys : List (List ℕ)) (numbers : List ℕ) (once : List Config) (places : Places) (ns : List ℕ)
    → OnceBelow all (left ++ c ∷ []) old keys once places → AreNumbersOf c.parts old new numbers → IsKept keys once ns numbers c.frame → OnceBelow all left new keys once places
once_same all left c old new keys numbers once places ns h n (i, j, ((l, e), (m, f))) = record {
  same = λ k. (
    λ o. elim ((h.same k).0 o) [
      | inl p ↦ elim ((one_pushed left c k).0 p) [ inl q ↦ inl q | inr b ↦ inr (one_as once c k kept b) ]
      | inr p ↦ inr p
    ],
    elim [ inl p ↦ (h.same k).1 (inl ((one_pushed left c k).1 (inl p))) | inr p ↦ (h.same k).1 (inr p) ],
  );
  long = h.long;
  parts_once = n.grown.once h.parts_once;
  stand = λ j k. stands_still old new places places (get_or keys j []) (config_at once j) j n.grown (λ e m x. x) (h.stand j k);
  once_each = h.once_each;
}
  where
    there : Config
    there = config_at once i

    order : IsReordered there.parts c.parts
    order =
        let s = h.stand i l in
        let first = subst (λ (ps : List Process). IsReordered ps there.parts) (sym (parts_stay old new (get_or keys i []) n.grown s.within)) s.parts in
        let same = subst (λ (ns : List ℕ). IsReordered (parts_of new ns) there.parts) e first in
        reordered_trans (reordered_sym same) n.parts

    kept : IsOneOf once c
    kept = (there, Contains-get_or once i no_config m, record { parts = order; frame = f })

pub once_all : (all : List Config) (table : List Process) (keys : List (List ℕ)) (once : List Config) (places : Places) → OnceBelow all [] table keys once places → AreSame all once
once_all all table keys once places h k = (
  λ o. elim ((h.same k).0 o) [ inl p ↦ absurd (none_of k p) | inr p ↦ p ],
  λ o. (h.same k).1 (inr o),
)
