-- What parts come to: lists of parts, their order, and inputs and outputs, which stay.
use Rattle.std.proofs.Common.{◌≡◌, List, [], ◌∷◌, ◌++◌, refl, sym, ◌∙◌, ap, subst, append_assoc, append-nil}
use Rattle.std.specs.Prelude.{All}
use Rattle.std.proofs.lemmas.List.Elements.{All-nil, All-cons, All-head, All-tail, All-append}
use Rattle.dps_terms.specs.Tree.{Tree}
use Rattle.dps_signature.specs.Signature.{Signature}
use Rattle.dps_theory.specs.Theory.{Theory}
use Rattle.dps_process.specs.Process.{Process, nil, parallel, choice, conditional, bind, input, output, put}
use Rattle.dps_process.specs.Steps.{silent, Removes, here, there, PartSteps, ends, splits, first, second, passes, fails, binds, binds_not}
use Rattle.dps_process.specs.Steps.{IsReordered}
use Rattle.dps_process.proofs.Bags.{reordered_refl, reordered_trans, before_reordered}
use Rattle.dps_process.proofs.RunsBeside.{fronts_swap}
use Rattle.dps_semantics.specs.Settling.{IsPrefix}
use Rattle.dps_semantics.specs.Coming.{ComesTo, gone, both, by_first, by_second, by_passing, by_failing, by_binding, without_binding, an_input, an_output, AllComeTo, no_parts_come, a_part_comes}

abbrev pub AreParts : List Process → Type 0
AreParts ps = All IsPrefix ps

-- an input or output comes to itself
pub prefix_comes : (theory : Theory) (p : Process) → IsPrefix p → ComesTo theory p (p ∷ [])
prefix_comes theory nil h = absurd h
prefix_comes theory (parallel p q) h = absurd h
prefix_comes theory (choice p q) h = absurd h
prefix_comes theory (conditional u v p q) h = absurd h
prefix_comes theory (bind x u p q) h = absurd h
prefix_comes theory (input c x p) h = an_input
prefix_comes theory (output c u p) h = an_output

pub settled_come : (theory : Theory) (ps : List Process) → AreParts ps → AllComeTo theory ps ps
settled_come theory [] h = no_parts_come
settled_come theory (p ∷ ps) h = a_part_comes (prefix_comes theory p (All-head IsPrefix p ps h)) (settled_come theory ps (All-tail IsPrefix p ps h)) refl

one_prefix : (p : Process) → IsPrefix p → AreParts (p ∷ [])
one_prefix p h = All-cons IsPrefix p [] h (All-nil IsPrefix)

module _ (theory : Theory) where
  -- what a process comes to are inputs and outputs
  pub come_settled : {p : Process} {bs : List Process} → ComesTo theory p bs → AreParts bs
  come_settled gone = All-nil IsPrefix
  come_settled (both {ps = ps} {qs} h k e) = subst AreParts (sym e) (All-append IsPrefix ps qs (come_settled h) (come_settled k))
  come_settled (by_first h) = come_settled h
  come_settled (by_second h) = come_settled h
  come_settled (by_passing e h) = come_settled h
  come_settled (by_failing e h) = come_settled h
  come_settled (by_binding e h) = come_settled h
  come_settled (without_binding e h) = come_settled h
  come_settled (an_input {c} {x} {p}) = one_prefix (input c x p) tt
  come_settled (an_output {c} {u} {p}) = one_prefix (output c u p) tt

  pub all_come_settled : {ps bs : List Process} → AllComeTo theory ps bs → AreParts bs
  all_come_settled no_parts_come = All-nil IsPrefix
  all_come_settled (a_part_comes {bs = bs} {cs} h k e) = subst AreParts (sym e) (All-append IsPrefix bs cs (come_settled h) (all_come_settled k))

  -- parts that stand side by side come to what each comes to
  pub come_both : {ps qs bs cs : List Process} → AllComeTo theory ps bs → AllComeTo theory qs cs → AllComeTo theory (ps ++ qs) (bs ++ cs)
  come_both no_parts_come k = k
  come_both {cs = cs} (a_part_comes {bs = bs} {cs = ds} h r e) k = a_part_comes h (come_both r k) (ap (λ xs. xs ++ cs) e ∙ append_assoc bs ds cs)

  abbrev pub ComeApart : List Process → List Process → List Process → Type 0
  ComeApart ps qs ds = (bs : List Process) × (cs : List Process) × AllComeTo theory ps bs × AllComeTo theory qs cs × (ds ≡ bs ++ cs)

  apart_below : {p : Process} {ps qs bs cs ds : List Process} → ComesTo theory p bs → ds ≡ bs ++ cs → ComeApart ps qs cs → ComeApart (p ∷ ps) qs ds
  apart_below {bs = bs} h e k = (bs ++ k.0, k.1, a_part_comes h k.2 refl, k.3, e ∙ (ap (λ xs. bs ++ xs) k.4 ∙ sym (append_assoc bs k.0 k.1)))

  pub come_apart : (ps qs : List Process) {ds : List Process} → AllComeTo theory (ps ++ qs) ds → ComeApart ps qs ds
  come_apart [] qs {ds} h = ([], ds, no_parts_come, h, refl)
  come_apart (p ∷ ps) qs (a_part_comes h k e) = apart_below h e (come_apart ps qs k)

  -- what one part comes to, among others
  abbrev pub ComesAmong : List Process → List Process → Type 0
  ComesAmong ps ds = (cs : List Process) × AllComeTo theory ps cs × IsReordered cs ds

  among_below : {q : Process} {ps bs ds : List Process} (cs es : List Process) → ComesTo theory q bs → ds ≡ bs ++ cs → ComesAmong ps (es ++ cs) → ComesAmong (q ∷ ps) (es ++ ds)
  among_below {bs = bs} cs es h e k = (
    bs ++ k.0,
    a_part_comes h k.1 refl,
    subst (λ (xs : List Process). IsReordered (bs ++ k.0) (es ++ xs)) (sym e) (reordered_trans (before_reordered bs k.2) (fronts_swap bs es cs)),
  )

  pub come_among : {p : Process} {ps rest es ds : List Process} → Removes p ps rest → ComesTo theory p es → AllComeTo theory rest ds → ComesAmong ps (es ++ ds)
  come_among {es = es} {ds} here h k = (es ++ ds, a_part_comes h k refl, reordered_refl (es ++ ds))
  come_among {es = es} (there t) h (a_part_comes {cs = cs} g k e) = among_below cs es g e (come_among t h k)

  -- a part that goes on silently comes to what it then comes to
  pub goes_before : (signature : Signature) {p : Process} {become bs : List Process} {frame added : List Tree} → PartSteps signature theory frame p silent become added
      → AllComeTo theory become bs → ComesTo theory p bs
  goes_before signature ends no_parts_come = gone
  goes_before signature splits (a_part_comes {bs = bs} h (a_part_comes {bs = cs} k no_parts_come f) e) = both h k (e ∙ ap (λ xs. bs ++ xs) (f ∙ append-nil cs))
  goes_before signature (first {p}) (a_part_comes {bs = bs} h no_parts_come e) = by_first (subst (ComesTo theory p) (sym (e ∙ append-nil bs)) h)
  goes_before signature (second {q = q}) (a_part_comes {bs = bs} h no_parts_come e) = by_second (subst (ComesTo theory q) (sym (e ∙ append-nil bs)) h)
  goes_before signature (passes {p = p} m) (a_part_comes {bs = bs} h no_parts_come e) = by_passing m (subst (ComesTo theory p) (sym (e ∙ append-nil bs)) h)
  goes_before signature (fails {q = q} m) (a_part_comes {bs = bs} h no_parts_come e) = by_failing m (subst (ComesTo theory q) (sym (e ∙ append-nil bs)) h)
  goes_before signature (binds {x} {t = t} {p} m) (a_part_comes {bs = bs} h no_parts_come e) = by_binding m (subst (ComesTo theory (put x t p)) (sym (e ∙ append-nil bs)) h)
  goes_before signature (binds_not {q = q} m) (a_part_comes {bs = bs} h no_parts_come e) = without_binding m (subst (ComesTo theory q) (sym (e ∙ append-nil bs)) h)
