-- A table grows.
use Rattle.std.proofs.Common.{◌≡◌, ℕ, zero, suc, List, [], ◌∷◌, ◌++◌, length, map, refl, sym, ◌∙◌, ap, subst, Some, None, Option, append_assoc}
use Rattle.std.specs.Prelude.{slice_get}
use Rattle.std.specs.List.Sorted.{IsPermutation}
use Rattle.std.proofs.lemmas.Option.{none-some}
use Rattle.std.proofs.lemmas.List.{append-nil}
use Rattle.dps_terms.specs.Tree.{Tree}
use Rattle.dps_terms.specs.Seen.{seen}
use Rattle.dps_signature.specs.Signature.{Signature}
use Rattle.dps_terms.specs.declared.borrowed.TermRef.{TermRef}
use Rattle.dps_process.specs.Process.{Process, nil, parallel, output}
use Rattle.dps_process.proofs.Bags.{reordered_refl}
use Rattle.dps_tree.specs.Plain.{HasOutputsAlone}
use Rattle.dps_tree.specs.Playing.{settled}
use Rattle.dps_tree.specs.Table.{StandFor, no_parts, a_part, messages_of, HasMessage, IsMessageThere, IsOutputThere, HasOutput, IsSettled, IsBagOf, frame_of, listed}
use Rattle.dps_tree.specs.declared.table.Output.{Output}
use Rattle.dps_tree.specs.declared.table.Table.{Table}
use Rattle.dps_tree.proofs.Lifting.{frame_append, frame_more}
use Rattle.dps_tree.proofs.OutputNumbers.{grown_refl, grown_trans, bag_grown, bag_append, bag_permuted}

pub get_kept : {A : Type 0} (xs ys : List A) (n : ℕ) (x : A) → slice_get xs n ≡ Some x → slice_get (xs ++ ys) n ≡ Some x
get_kept [] ys n x e = absurd (none-some x e)
get_kept (z ∷ xs) ys zero x e = e
get_kept (z ∷ xs) ys (suc n) x e = get_kept xs ys n x e

pub get_last : {A : Type 0} (xs : List A) (x : A) → slice_get (xs ++ x ∷ []) (length xs) ≡ Some x
get_last [] x = refl
get_last (z ∷ xs) x = get_last xs x

pub get_mapped : {A B : Type 0} (f : A → B) (xs : List A) (n : ℕ) (x : A) → slice_get xs n ≡ Some x → slice_get (map f xs) n ≡ Some (f x)
get_mapped f [] n x e = absurd (none-some x e)
get_mapped f (z ∷ xs) zero x e = let s : z ≡ x = cc in ap (λ y. Some (f y)) s
get_mapped f (z ∷ xs) (suc n) x e = get_mapped f xs n x e

mapped_append : {A B : Type 0} (f : A → B) (xs ys : List A) → map f (xs ++ ys) ≡ map f xs ++ map f ys
mapped_append f [] ys = refl
mapped_append f (x ∷ xs) ys = ap (λ zs. f x ∷ zs) (mapped_append f xs ys)

pub message_found : (table : Table) (u : Tree) (n : ℕ) → IsMessageThere table.messages.items u n → HasMessage table table u n
message_found table u n h =
    record { grown = grown_refl table; there = get_mapped seen table.messages.items n h.0 h.1 ∙ ap Some h.2 }

pub message_pushed :
    (old new : Table) (x : TermRef) (u : Tree) → new.outputs.items ≡ old.outputs.items → new.messages.items ≡ old.messages.items ++ x ∷ [] → seen x ≡ u
    → HasMessage old new u (length old.messages.items)
message_pushed old new x u o m e = record {
  grown = record {
    outputs = λ n p g. ap (λ ps. slice_get ps n) o ∙ g;
    messages = λ n v g. ap (λ ms. slice_get ms n) (ap (map seen) m ∙ mapped_append seen old.messages.items (x ∷ [])) ∙ get_kept (messages_of old) (seen x ∷ []) n v g;
  };
  there = ap (λ ms. slice_get (map seen ms) (length old.messages.items)) m ∙ (get_mapped seen (old.messages.items ++ x ∷ []) (length old.messages.items) x (get_last old.messages.items x) ∙ ap Some e);
}

pub output_found : (table : Table) (wanted : Output) (n : ℕ) → IsOutputThere table.outputs.items wanted n → HasOutput table table wanted n
output_found table wanted n h = record { grown = grown_refl table; there = h }

pub output_pushed : (old new : Table) (o : Output) → new.messages.items ≡ old.messages.items → new.outputs.items ≡ old.outputs.items ++ o ∷ [] → HasOutput old new o (length old.outputs.items)
output_pushed old new o m p = record {
  grown = record {
    outputs = λ n q g. ap (λ ps. slice_get ps n) p ∙ get_kept old.outputs.items (o ∷ []) n q g;
    messages = λ n v g. ap (λ ms. slice_get (map seen ms) n) m ∙ g;
  };
  there = (o, ap (λ ps. slice_get ps (length old.outputs.items)) p ∙ get_last old.outputs.items o, record { channel = refl; message = refl; then = refl });
}

pub nil_settled : (table : Table) (numbers : List ℕ) → IsSettled nil table table numbers numbers
nil_settled table numbers =
    record { grown = grown_refl table; added = λ signature h. ([], sym (append-nil numbers), ([], no_parts, reordered_refl [])) }

-- what is neither `0` nor `|` nor an output
pub not_settled : (p : Process) (table : Table) (numbers : List ℕ) → ((signature : Signature) → ¬ HasOutputsAlone signature p) → IsSettled p table table numbers numbers
not_settled p table numbers h = record { grown = grown_refl table; added = λ signature k. absurd (h signature k) }

pub parallel_settled :
    (p q : Process) (old mid new : Table) (before between after : List ℕ) → IsSettled p old mid before between → IsSettled q mid new between after
    → IsSettled (parallel p q) old new before after
parallel_settled p q old mid new before between after h k = record {
  grown = grown_trans h.grown k.grown;
  added = λ signature a. (let left = h.added signature a.0 in
      let right = k.added signature a.1 in (
        left.0 ++ right.0,
        right.1 ∙ (ap (λ ns. ns ++ right.0) left.1 ∙ append_assoc before left.0 right.0),
        bag_append left.0 right.0 (settled p) (settled q) (bag_grown k.grown left.2) right.2,
      ));
}

pub output_settled :
    (c : ℕ) (u : Tree) (q : Process) (first second third fourth : Table) (below sorted numbers after : List ℕ) (m n : ℕ) (o : Output)
    → IsSettled q first second [] below → IsPermutation below sorted → HasMessage second third u m → HasOutput third fourth o n → o.channel ≡ c → o.message ≡ m
    → o.then.items ≡ sorted → after ≡ numbers ++ n ∷ [] → IsSettled (output c u q) first fourth numbers after
output_settled c u q first second third fourth below sorted numbers after m n o s p h k oc om ot e = record {
  grown = grown_trans s.grown (grown_trans h.grown k.grown);
  added = λ signature a. (let b = s.added signature a.1 in
      let there = k.there.0 in
      let one = k.there.2 in
      let bag = bag_permuted b.0 sorted (settled q) (subst (λ (ns : List ℕ). IsPermutation ns sorted) b.1 p) b.2 in
      let whole = bag_grown (grown_trans h.grown k.grown) bag in
      let channel : there.channel ≡ c = one.channel ∙ oc in
      let message : slice_get (messages_of fourth) there.message ≡ Some u = ap (slice_get (messages_of fourth)) (one.message ∙ om) ∙ k.grown.messages m u h.there in
      let part : StandFor fourth (n ∷ []) (output there.channel u q ∷ []) = a_part k.there.1 message (subst (λ (ns : List ℕ). StandFor fourth ns whole.0) (sym (one.then ∙ ot)) whole.1) whole.2
      no_parts in
      (n ∷ [], e, (output c u q ∷ [], subst (λ (d : ℕ). StandFor fourth (n ∷ []) (output d u q ∷ [])) channel part, reordered_refl (output c u q ∷ []))));
}

pub bag_settled : (p : Process) (old new : Table) (numbers sorted : List ℕ) → IsSettled p old new [] numbers → IsPermutation numbers sorted → IsBagOf p old new sorted
bag_settled p old new numbers sorted h q = record {
  grown = h.grown;
  parts = λ signature a. (let b = h.added signature a in
      bag_permuted b.0 sorted (settled p) (subst (λ (ns : List ℕ). IsPermutation ns sorted) b.1 q) b.2);
}

get_mapped_none : {A B : Type 0} (f : A → B) (xs : List A) (n : ℕ) → slice_get xs n ≡ None → slice_get (map f xs) n ≡ None
get_mapped_none f [] n e = refl
get_mapped_none f (x ∷ xs) zero e = absurd (none-some x (sym e))
get_mapped_none f (x ∷ xs) (suc n) e = get_mapped_none f xs n e

-- the frame with one more number, of a message or of none
pub frame_pushed :
    (table : Table) (ns : List ℕ) (n : ℕ) (x : TermRef) (fs : List Tree) → slice_get table.messages.items n ≡ Some x → fs ≡ frame_of table ns
    → fs ++ seen x ∷ [] ≡ frame_of table (ns ++ n ∷ [])
frame_pushed table ns n x fs e h =
    ap (λ gs. gs ++ seen x ∷ []) h ∙ sym (frame_more table ns n (seen x) (get_mapped seen table.messages.items n x e))

pub frame_kept : (table : Table) (ns : List ℕ) (n : ℕ) (fs : List Tree) → slice_get table.messages.items n ≡ None → fs ≡ frame_of table ns → fs ≡ frame_of table (ns ++ n ∷ [])
frame_kept table ns n fs e h =
    h ∙ sym (frame_append table ns (n ∷ []) ∙ (ap (λ (o : Option Tree). frame_of table ns ++ (listed o ++ [])) (get_mapped_none seen table.messages.items n e) ∙ append-nil (frame_of table ns)))
