-- The children of a node, one after another.
use Rattle.std.proofs.Common.{◌≡◌, ℕ, ◌<◌, List, [], ◌∷◌, ◌++◌, refl, sym, ◌∙◌, ap, subst, inl, inr}
use Rattle.std.specs.Prelude.{◌⊎◌, Contains, All}
use Rattle.std.specs.declared.cmp.Ordering.TheVariants.{Less}
use Rattle.std.specs.Ordering.{nat_cmp}
use Rattle.std.specs.BTreeMap.Range.{IsLtBy}
use Rattle.std.proofs.lemmas.Cmp.{ranked}
use Rattle.std.proofs.lemmas.List.Elements.{All-contains, Contains-append_cases}
use Rattle.dps_tree.specs.Following.{AddsOffers, GroupsOffer}
use Rattle.dps_tree.specs.Words.{IsAhead}
use Rattle.dps_tree.specs.Nodes.{IsNamedNode, NodeOffers, HoldsOffers, IsChild, AreInOrder, AreChildren}
use Rattle.dps_tree.specs.declared.table.Table.{Table}
use Rattle.dps_tree.specs.declared.node.Node.{Node}
use Rattle.dps_tree.proofs.Holding.{contains_none, contains_one, contains_pushed, contains_first, contains_later, contains_cases}
use Rattle.dps_tree.proofs.Offering.{groups_offered, offered_groups}
use Rattle.dps_tree.proofs.Orders.{ahead_by}

pub offers_of_both :
    (table : Table) (node : Node) (mid new : List ℕ) → IsNamedNode table node → AddsOffers (GroupsOffer table node.left.items) [] mid
    → AddsOffers (GroupsOffer table node.right.items) mid new → HoldsOffers table node new
offers_of_both table node mid new n h g c = (
  λ a. elim ((g c).0 a) [
    | inl b ↦ elim ((h c).0 b) [ inl d ↦ absurd (contains_none c d) | inr f ↦ inl (groups_offered table node.left.items c n.left f) ]
    | inr f ↦ inr
        (groups_offered table node.right.items c n.right f)
  ],
  elim [ inl f ↦ (g c).1 (inl ((h c).1 (inr (offered_groups table node.left.items c f)))) | inr f ↦ (g c).1 (inr (offered_groups table node.right.items c f)) ],
)

pub in_order_append : (ns ms : List Node) → AreInOrder ns → AreInOrder ms → ((n m : Node) → Contains ns n → Contains ms m → IsAhead m.channels.items n.channels.items) → AreInOrder (ns ++ ms)
in_order_append [] ms h k f = k
in_order_append (n ∷ ns) ms h k f = (
  λ m c. elim (Contains-append_cases ns ms m c) [ inl a ↦ h.0 m a | inr b ↦ f n m (contains_first n ns) b ],
  in_order_append ns ms h.1 k (λ a b p q. f a b (contains_later n ns a p) q),
)

pub in_order_split : (ns : List Node) (n : Node) → AreInOrder (ns ++ n ∷ []) → AreInOrder ns × ((m : Node) → Contains ns m → IsAhead n.channels.items m.channels.items)
in_order_split [] n h = (tt, λ m c. absurd (contains_none m c))
in_order_split (m ∷ ns) n h =
    let rest = in_order_split ns n h.1 in (
      (λ a c. h.0 a ((contains_pushed ns n a).1 (inl c)), rest.0),
      λ a c. elim (contains_cases m ns a c) [
        | inl e ↦ subst (λ (b : Node). IsAhead n.channels.items b.channels.items) (sym e) (h.0 n ((contains_pushed ns n n).1 (inr refl)))
        | inr d ↦ rest.1 a d
      ],
    )

-- the children on the greater channels, where these channels are left
pub record ChildrenAbove (table : Table) (node : Node) (left : List ℕ) (children : List Node) : Type 0 where
  pub known : (c : ℕ) → Contains left c → NodeOffers table node c
  pub offered : (child : Node) → Contains children child → (c : ℕ) × NodeOffers table node c × IsChild table node c child × ((k : ℕ) → Contains left k → k < c)
  pub complete : (c : ℕ) → NodeOffers table node c → Contains left c ⊎ ((child : Node) × Contains children child × (child.channels.items ≡ node.channels.items ++ c ∷ []))
  pub ordered : AreInOrder children

pub none_above : (table : Table) (node : Node) (left : List ℕ) → HoldsOffers table node left → ChildrenAbove table node left []
none_above table node left h = record {
  known = λ c m. (h c).0 m;
  offered = λ child m. absurd (contains_none child m);
  complete = λ c o. inl ((h c).1 o);
  ordered = tt;
}

pub one_more_above :
    (table : Table) (node : Node) (old new : List ℕ) (c : ℕ) (children : List Node) (child : Node) → ChildrenAbove table node old children → old ≡ new ++ c ∷ []
    → All (λ q. IsLtBy nat_cmp q c) new → IsChild table node c child → ChildrenAbove table node new (children ++ child ∷ [])
one_more_above table node old new c children child h e below made = record {
  known = λ k m. h.known k (kept k m);
  offered =
      λ n m. elim ((contains_pushed children child n).0 m)
      [ inl a ↦ (let f = h.offered n a in (f.0, f.1, f.2, λ k q. f.3 k (kept k q))) | inr s ↦ (c, h.known c here, subst (IsChild table node c) (sym s) made, lower) ];
  complete = λ k o. elim (h.complete k o) [
    | inl m ↦ elim ((contains_pushed new c k).0 (subst (λ (ks : List ℕ). Contains ks k) e m)) [
      | inl a ↦ inl a
      | inr s ↦ inr (child, (contains_pushed children child child).1 (inr refl), made.channels ∙ ap (λ n. node.channels.items ++ n ∷ []) (sym s))
    ]
    | inr f ↦ inr (f.0, (contains_pushed children child f.0).1 (inl f.1), f.2)
  ];
  ordered = in_order_append children (child ∷ []) h.ordered (λ m d. absurd (contains_none m d), tt) ahead;
}
  where
    kept : (k : ℕ) → Contains new k → Contains old k
    kept k m = subst (λ (ks : List ℕ). Contains ks k) (sym e) ((contains_pushed new c k).1 (inl m))

    here : Contains old c
    here = subst (λ (ks : List ℕ). Contains ks c) (sym e) ((contains_pushed new c c).1 (inr refl))

    lower : (k : ℕ) → Contains new k → k < c
    lower k m = ranked k c Less (sym (All-contains (λ q. IsLtBy nat_cmp q c) new k below m))

    ahead : (n m : Node) → Contains children n → Contains (child ∷ []) m → IsAhead m.channels.items n.channels.items
    ahead n m a b =
        let f = h.offered n a in
        let first = subst (λ (w : List ℕ). IsAhead child.channels.items w) (sym f.2.channels)
        (subst (λ (w : List ℕ). IsAhead w (node.channels.items ++ f.0 ∷ [])) (sym made.channels) (ahead_by node.channels.items c f.0 (f.3 c here))) in
        subst (λ (p : Node). IsAhead p.channels.items n.channels.items) (sym (contains_one child m b)) first

pub all_above : (table : Table) (node : Node) (left : List ℕ) (children : List Node) → left ≡ [] → ChildrenAbove table node left children → AreChildren table node children
all_above table node left children e h = record {
  offered = λ child m. (let f = h.offered child m in (f.0, f.1, f.2));
  complete = λ c o. elim (h.complete c o) [ inl m ↦ absurd (contains_none c (subst (λ (ks : List ℕ). Contains ks c) e m)) | inr f ↦ f ];
  ordered = h.ordered;
}
