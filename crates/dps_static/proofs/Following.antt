-- The tests of single kept trees show that the counterparts follow: by recursion on what is built.
use Rattle.std.proofs.Common.{◌≡◌, ℕ, ◌<◌, List, length, slice_get, get_or, Some, refl, ap, sym, ◌∙◌, inl, inr, arith}
use Rattle.std.specs.Prelude.{◌⊎◌}
use Rattle.std.proofs.lemmas.Option.{slice_get_within, slice_get-get_or}
use Rattle.dps_terms.specs.Tree.{Tree, Trees, leaf, app, none, more}
use Rattle.dps_terms.specs.Replace.{put_entries}
use Rattle.dps_static.specs.Ways.{Builds, Composes}
use Rattle.dps_static.specs.Follows.{Follows}
use Rattle.dps_static.specs.Passing.{ComposesAlike, RepeatsAt, ComposesAlikeAt}
use Rattle.dps_static.proofs.Ways.{AreOpenWays, put_all, first_is_one, numbered-there, IsEntryWay, entry_or_composed, composed_leaf, composed_app}

-- what a loop over the kept trees has seen before place n
pub record PassBefore (kept counterparts : List Tree) (n : ℕ) : Type 0 where
  pub repeats : (i : ℕ) → i < n → RepeatsAt kept counterparts i
  pub composes : (i : ℕ) → i < n → ComposesAlikeAt kept counterparts i

module _ (kept counterparts : List Tree) (lengths : length kept ≡ length counterparts) (pass : PassBefore kept counterparts (length kept)) where
  -- a kept tree's counterpart
  pub record HasCounterpart (k : ℕ) : Type 0 where
    pub tree : Tree
    pub there : slice_get counterparts k ≡ Some tree

  counterpart : (k : ℕ) (tree : Tree) → slice_get kept k ≡ Some tree → HasCounterpart k
  counterpart k tree e =
      let h = slice_get_within kept k tree e in
      record { tree = get_or counterparts k tree; there = slice_get-get_or counterparts k tree (omega (arith, h, lengths)) }

  -- a tree that is kept twice has one counterpart
  entries_alike : (tree : Tree) (k l : ℕ) (t u : Tree) → slice_get kept k ≡ Some tree → slice_get kept l ≡ Some tree → slice_get counterparts k ≡ Some t → slice_get counterparts l ≡ Some u → t ≡ u
  entries_alike tree k l t u a b d e =
      let p = pass.repeats k (slice_get_within kept k tree a) tree t a d in
      let q = pass.repeats l (slice_get_within kept l tree b) tree u b e in
      let m : p.place ≡ q.place = first_is_one kept tree p.place q.place p.first q.first in
      let n : Some t ≡ Some u = sym p.there ∙ ap (slice_get counterparts) m ∙ q.there in cc

  entry_and_composed :
      (tree : Tree) → ((v w : Tree) → Composes kept tree v → Composes kept tree w → put_entries counterparts v ≡ put_entries counterparts w) → (v w : Tree)
      → IsEntryWay kept tree v → Composes kept tree w → put_entries counterparts v ≡ put_entries counterparts w
  entry_and_composed tree alike v w a c =
      let d = counterpart a.place tree a.there in
      let value : put_entries counterparts v ≡ d.tree = ap (put_entries counterparts) a.is ∙ numbered-there counterparts a.place d.tree _ d.there in
      let at = pass.composes a.place (slice_get_within kept a.place tree a.there) tree d.tree a.there d.there in
      by_cases d.tree value at
    where
      by_cases : (t : Tree) → put_entries counterparts v ≡ t → ComposesAlike kept counterparts tree t → put_entries counterparts v ≡ put_entries counterparts w
      by_cases t e (inl nothing) = absurd (nothing w c)
      by_cases t e (inr b) = e ∙ sym b.gives ∙ alike b.way w b.composes c

  -- ways that build one tree, where composed ones are alike
  any_alike :
      (tree : Tree) → ((v w : Tree) → Composes kept tree v → Composes kept tree w → put_entries counterparts v ≡ put_entries counterparts w) → (v w : Tree)
      → IsEntryWay kept tree v ⊎ Composes kept tree v → IsEntryWay kept tree w ⊎ Composes kept tree w → put_entries counterparts v ≡ put_entries counterparts w
  any_alike tree alike v w (inl a) (inl b) =
      let d = counterpart a.place tree a.there in
      let e = counterpart b.place tree b.there in
      ap (put_entries counterparts) a.is
      ∙ numbered-there counterparts a.place d.tree _ d.there
      ∙ entries_alike tree a.place b.place d.tree e.tree a.there b.there d.there e.there
      ∙ sym (ap (put_entries counterparts) b.is ∙ numbered-there counterparts b.place e.tree _ e.there)
  any_alike tree alike v w (inl a) (inr c) = entry_and_composed tree alike v w a c
  any_alike tree alike v w (inr c) (inl a) = sym (entry_and_composed tree alike w v a c)
  any_alike tree alike v w (inr c) (inr d) = alike v w c d

  mutual
    composed_alike : (tree v w : Tree) → Composes kept tree v → Composes kept tree w → put_entries counterparts v ≡ put_entries counterparts w
    composed_alike (leaf x) v w c d = ap (put_entries counterparts) (composed_leaf kept x v c ∙ sym (composed_leaf kept x w d))
    composed_alike (app f ts) v w c d =
        let p = composed_app kept f ts v c in
        let q = composed_app kept f ts w d in
        ap (put_entries counterparts) p.is ∙ ap (app f) (all_alike ts p.arguments q.arguments p.are_ways q.are_ways p.give q.give) ∙ sym (ap (put_entries counterparts) q.is)

    all_alike : (ts vs ws : Trees) → AreOpenWays (length kept) vs → AreOpenWays (length kept) ws → put_all kept vs ≡ ts → put_all kept ws ≡ ts → put_all counterparts vs ≡ put_all counterparts ws
    all_alike none none none p q d e = refl
    all_alike (more t ts) (more v vs) (more w ws) p q d e =
        let b : Builds kept t v = record { is_way = (p.known.0, p.closed.0); gives = cc } in
        let c : Builds kept t w = record { is_way = (q.known.0, q.closed.0); gives = cc } in
        let one = any_alike t (composed_alike t) v w (entry_or_composed kept t v b) (entry_or_composed kept t w c) in
        let rest = all_alike ts vs ws (record { known = p.known.1; closed = p.closed.1 }) (record { known = q.known.1; closed = q.closed.1 }) (cc) (cc) in
        λ i. more (one i) (rest i)
    all_alike _ _ _ p q d e = cc

  pub follows : Follows kept counterparts
  follows = record {
    stays = λ one other a b e.
        let c : Builds kept (put_entries kept other) one = record { is_way = a; gives = e } in
        let d : Builds kept (put_entries kept other) other = record { is_way = b; gives = refl } in
        any_alike (put_entries kept other) (composed_alike (put_entries kept other)) one other (entry_or_composed kept _ one c) (entry_or_composed kept _ other d);
  }
