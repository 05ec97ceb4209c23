-- Kids that are linked in one after another.
use Rattle.std.proofs.Common.{◌≡◌, ℕ, zero, suc, ◌+◌, ◌<◌, ◌≤◌, List, [], ◌∷◌, ◌++◌, length, Option, Some, refl, ap, ◌∙◌, sym, subst, ◌⊎◌, inl, inr, arith, append_assoc}
use Rattle.std.specs.Prelude.{slice_get, slice_set}
use Rattle.std.proofs.lemmas.Bool.{cases_eq}
use Rattle.std.proofs.lemmas.Option.{slice_get_within}
use Rattle.dps_core.specs.Pool.{times, tickets}
use Rattle.dps_core.proofs.Lists.{set-at, set-other, append-left, tickets-next}
use Rattle.dps_book.specs.InOrder.{first_of, Leads, AreOnce}
use Rattle.dps_book.proofs.Chains.{times-here, times-there, times-split, leads-past, leads-insert, leads-suffix}

-- some kids of the ticket are linked in, the last of them (or the ticket itself) at `last`
pub record IsLinked (next : List (Option ℕ)) (front behind : List ℕ) (ticket first count last : ℕ) : Type 0 where
  pub ahead : List ℕ
  pub is : ahead ++ last ∷ [] ≡ front ++ ticket ∷ tickets first count
  pub leads : Leads next (ahead ++ last ∷ behind)
  pub once : AreOnce (ahead ++ last ∷ behind)

pub linked-none : (next : List (Option ℕ)) (front behind : List ℕ) (ticket first : ℕ) → Leads next (front ++ ticket ∷ behind) → AreOnce (front ++ ticket ∷ behind)
    → IsLinked next front behind ticket first 0 ticket
linked-none next front behind ticket first l o = record { ahead = front; is = refl; leads = l; once = o }

joined : (xs ys : List ℕ) (x : ℕ) → (xs ++ x ∷ []) ++ ys ≡ xs ++ x ∷ ys
joined xs ys x = append_assoc xs (x ∷ []) ys

once_or : (xs ys : List ℕ) (x kid v : ℕ) → times kid (xs ++ x ∷ ys) ≡ 0 → times v (xs ++ x ∷ ys) ≤ 1 → (kid ≡ v) ⊎ (kid ≡ v → ⊥) → times v (xs ++ x ∷ kid ∷ ys) ≤ 1
once_or xs ys x kid v z o (inl e) =
    let zero_here : times v (xs ++ x ∷ ys) ≡ 0 = ap (λ (k : ℕ). times k (xs ++ x ∷ ys)) (sym e) ∙ z in
    let one : times v (kid ∷ ys) ≡ 1 + times v ys = ap (λ (k : ℕ). times v (k ∷ ys)) e ∙ times-here v ys in
    omega (arith, zero_here, one, times-split v x xs ys, times-split v x xs (kid ∷ ys))
once_or xs ys x kid v z o (inr n) = omega (arith, o, times-there kid v ys n, times-split v x xs ys, times-split v x xs (kid ∷ ys))

grown_at : (next : List (Option ℕ)) (x v : ℕ) (b y : Option ℕ) → slice_get next x ≡ Some b → slice_get (slice_set (next ++ b ∷ []) x y) x ≡ Some y
grown_at next x v b y e = set-at (next ++ b ∷ []) x b y (append-left next (b ∷ []) x b e)

at_end : {A : Type 0} (xs : List A) (b : A) → slice_get (xs ++ b ∷ []) (length xs) ≡ Some b
at_end [] b = refl
at_end (x ∷ xs) b = at_end xs b

pub left_of : {A : Type 0} (xs ys : List A) (v : ℕ) → v < length xs → slice_get (xs ++ ys) v ≡ slice_get xs v
left_of [] ys v h = absurd (omega (arith, h))
left_of (x ∷ xs) ys zero h = refl
left_of (x ∷ xs) ys (suc v) h = left_of xs ys v (omega (arith, h))

-- the link that the last ticket has
pub last-link : (next : List (Option ℕ)) (front behind : List ℕ) (ticket first count last : ℕ) → IsLinked next front behind ticket first count last → slice_get next last ≡ Some (first_of behind)
last-link next front behind ticket first count last k = (leads-suffix next k.ahead (last ∷ behind) k.leads).0

pub linked-next : (next : List (Option ℕ)) (front behind : List ℕ) (ticket first count last : ℕ) (b : Option ℕ) → slice_get next last ≡ Some b → length next ≡ first + count
    → IsLinked next front behind ticket first count last → IsLinked (slice_set (next ++ b ∷ []) last (Some (length next))) front behind ticket first (count + 1) (length next)
linked-next next front behind ticket first count last b e size k =
    let kid = length next in
    let new = slice_set (next ++ b ∷ []) last (Some kid) in
    let within : last < kid = slice_get_within next last b e in
    let same : Some b ≡ Some (first_of behind) = sym e ∙ last-link next front behind ticket first count last k in
    let there : slice_get new kid ≡ Some (first_of behind) = set-other (next ++ b ∷ []) last (Some kid) kid (λ z. omega (arith, z, within)) ∙ at_end next b ∙ same in
    let others = λ (v : ℕ) (n : v ≡ last → ⊥) (w : v < kid). set-other (next ++ b ∷ []) last (Some kid) v n ∙ left_of next (b ∷ []) v w in
    let z : times kid (k.ahead ++ last ∷ behind) ≡ 0 = leads-past next (k.ahead ++ last ∷ behind) kid k.leads (omega arith) in
    let leads : Leads new (k.ahead ++ last ∷ kid ∷ behind) = leads-insert next new k.ahead behind last kid k.once k.leads (grown_at next last kid b (Some kid) e) there others in
    let once : AreOnce (k.ahead ++ last ∷ kid ∷ behind) = λ v. once_or k.ahead behind last kid v z (k.once v) (cases_eq kid v) in
    let regrouped : (k.ahead ++ last ∷ []) ++ kid ∷ behind ≡ k.ahead ++ last ∷ kid ∷ behind = joined k.ahead (kid ∷ behind) last in
    record {
      ahead = k.ahead ++ last ∷ [];
      is = ap (λ (r : List ℕ). r ++ kid ∷ []) k.is
          ∙ append_assoc front (ticket ∷ tickets first count) (kid ∷ [])
          ∙ ap (λ (n : ℕ). front ++ ticket ∷ (tickets first count ++ n ∷ [])) size
          ∙ ap (λ (r : List ℕ). front ++ ticket ∷ r) (tickets-next first count);
      leads = subst (Leads new) (sym regrouped) leads;
      once = subst AreOnce (sym regrouped) once;
    }

pub linked-all : (next : List (Option ℕ)) (front behind : List ℕ) (ticket first count last : ℕ) → IsLinked next front behind ticket first count last
    → Leads next (front ++ ticket ∷ (tickets first count ++ behind))
linked-all next front behind ticket first count last k =
    let is : k.ahead ++ last ∷ behind ≡ front ++ ticket ∷ (tickets first count ++ behind) =
    sym (joined k.ahead behind last) ∙ ap (λ (r : List ℕ). r ++ behind) k.is ∙ append_assoc front (ticket ∷ tickets first count) behind in
    subst (Leads next) is k.leads
