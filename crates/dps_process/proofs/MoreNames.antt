-- A signature with one more name.
use Rattle.std.proofs.Common.{◌≡◌, ℕ, zero, suc, ◌<◌, List, [], ◌∷◌, ◌++◌, length, arith, length-append}
use Rattle.std.specs.Prelude.{Bool, Some, slice_get}
use Rattle.std.proofs.lemmas.Option.{none-some}
use Rattle.dps_terms.specs.Tree.{Leaf, public, private, var, ax, entry, rigid, Tree}
use Rattle.dps_signature.specs.Signature.{Signature, Name, IsNameThere, HasArity, shapes}
use Rattle.dps_signature.specs.Names.{with_name}
use Rattle.dps_terms.specs.declared.PublicName.{PublicName}
use Rattle.dps_terms.specs.declared.PublicName.TheVariants.{Declared, At}
use Rattle.dps_signature.specs.Kinds.{IsDeclared, IsLeafOver, IsOver, IsSourceName, IsSourceLeaf, IsSourceTerm, IsPartLeaf, IsPartTerm}
use Rattle.dps_terms.proofs.Building.{built_weaker}
use Rattle.dps_theory.specs.Theory.{Theory}
use Rattle.dps_process.specs.Process.{Process, nil, parallel, choice, conditional, bind, input, output, EachChannel}
use Rattle.dps_process.specs.Problem.{IsLawfulSide, IsLawfulTheory}
use Rattle.dps_process.specs.Lawful.{IsLawfulPart}
use Rattle.dps_process.specs.LawsOfReplacement.{MoreNamesStayLawful, MoreNamesKeepConfigs}
use Rattle.dps_process.proofs.LawfulRuns.{each_weaker}

still_there : {A : Type 0} (xs ys : List A) (n : ℕ) (x : A) → slice_get xs n ≡ Some x → slice_get (xs ++ ys) n ≡ Some x
still_there [] ys n x e = absurd (none-some x e)
still_there (z ∷ xs) ys zero x e = e
still_there (z ∷ xs) ys (suc n) x e = still_there xs ys n x e

each_channel_weaker : (P Q : ℕ → Type 0) → ((c : ℕ) → P c → Q c) → (p : Process) → EachChannel P p → EachChannel Q p
each_channel_weaker P Q f nil h = tt
each_channel_weaker P Q f (parallel p q) h = (each_channel_weaker P Q f p h.0, each_channel_weaker P Q f q h.1)
each_channel_weaker P Q f (choice p q) h = (each_channel_weaker P Q f p h.0, each_channel_weaker P Q f q h.1)
each_channel_weaker P Q f (conditional u v p q) h = (each_channel_weaker P Q f p h.0, each_channel_weaker P Q f q h.1)
each_channel_weaker P Q f (bind x u p q) h = (each_channel_weaker P Q f p h.0, each_channel_weaker P Q f q h.1)
each_channel_weaker P Q f (input c x p) h = (f c h.0, each_channel_weaker P Q f p h.1)
each_channel_weaker P Q f (output c u p) h = (f c h.0, each_channel_weaker P Q f p h.1)

module _ (signature : Signature) (name : Name) where
  abbrev more : Signature
  more = with_name signature name

  name_there : (b : Bool) (n : ℕ) → IsNameThere signature b n → IsNameThere more b n
  name_there b n h = (h.0, still_there signature.names (name ∷ []) n (record { name = h.0; is_private = b }) h.1)

  declared : (n : PublicName) → IsDeclared signature n → IsDeclared more n
  declared (Declared n) h = name_there _ n h
  declared (At k) h = h

  source_name : (n : PublicName) → IsSourceName signature n → IsSourceName more n
  source_name (Declared n) h = name_there _ n h
  source_name (At k) h = h

  leaf_over : (l : Leaf) → IsLeafOver signature l → IsLeafOver more l
  leaf_over (public n) h = declared n h
  leaf_over (private n) h = tt
  leaf_over (var n) h = tt
  leaf_over (ax n) h = tt
  leaf_over (entry n) h = tt
  leaf_over (rigid n) h = tt

  source_leaf : (l : Leaf) → IsSourceLeaf signature l → IsSourceLeaf more l
  source_leaf (public n) h = source_name n h
  source_leaf (private n) h = tt
  source_leaf (var n) h = tt
  source_leaf (ax n) h = h
  source_leaf (entry n) h = h
  source_leaf (rigid n) h = h

  part_leaf : (l : Leaf) → IsPartLeaf signature l → IsPartLeaf more l
  part_leaf (public n) h = declared n h
  part_leaf (private n) h = tt
  part_leaf (var n) h = tt
  part_leaf (ax n) h = h
  part_leaf (entry n) h = h
  part_leaf (rigid n) h = h

  term_over : (t : Tree) → IsOver signature t → IsOver more t
  term_over t h = built_weaker (IsLeafOver signature) (HasArity (shapes signature)) (IsLeafOver more) t h leaf_over

  source_term : (t : Tree) → IsSourceTerm signature t → IsSourceTerm more t
  source_term t h = built_weaker (IsSourceLeaf signature) (HasArity (shapes signature)) (IsSourceLeaf more) t h source_leaf

  part_term : (t : Tree) → IsPartTerm signature t → IsPartTerm more t
  part_term t h = built_weaker (IsPartLeaf signature) (HasArity (shapes signature)) (IsPartLeaf more) t h part_leaf

  channel_there : (c : ℕ) → c < length signature.names → c < length more.names
  channel_there c h = let l = length-append signature.names (name ∷ []) in omega arith

  channels_there : (p : Process) → EachChannel (λ c. c < length signature.names) p → EachChannel (λ c. c < length more.names) p
  channels_there p h = each_channel_weaker (λ c. c < length signature.names) (λ c. c < length more.names) channel_there p h

  side : (p : Process) → IsLawfulSide signature p → IsLawfulSide more p
  side p h = record {
    closed = h.closed;
    channels = channels_there p h.channels;
    terms = each_weaker (IsSourceTerm signature) (IsSourceTerm more) source_term p h.terms;
    small = h.small;
    few_destructors = h.few_destructors;
  }

  theory_over : (theory : Theory) → IsLawfulTheory signature theory → IsLawfulTheory more theory
  theory_over theory h = record {
    same_symbols = h.same_symbols;
    accepted = h.accepted;
    rules_over = λ r k. (term_over r.left (h.rules_over r k).0, term_over r.right (h.rules_over r k).1);
    rules_plain = h.rules_plain;
  }

  part : (p : Process) → IsLawfulPart signature p → IsLawfulPart more p
  part p h = record {
    closed = h.closed;
    channels = channels_there p h.channels;
    terms = each_weaker (IsPartTerm signature) (IsPartTerm more) part_term p h.terms;
  }

pub more_names_stay_lawful : MoreNamesStayLawful
more_names_stay_lawful problem name h = record {
  theory = theory_over problem.signature name problem.theory h.theory;
  left = side problem.signature name problem.left h.left;
  right = side problem.signature name problem.right h.right;
}

pub more_names_keep_configs : MoreNamesKeepConfigs
more_names_keep_configs signature name c h = record {
  parts = λ i d l. part signature name _ (h.parts i d l);
  frame = λ i d l. (let k = h.frame i d l in (k.0, term_over signature name _ k.1));
}
