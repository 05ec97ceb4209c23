-- Which names are declared besides those of the frames and of the rules.
use Rattle.std.proofs.Common.{List}
use Rattle.std.specs.Prelude.{All}
use Rattle.std.proofs.lemmas.List.Elements.{All-weaker}
use Rattle.dps_terms.specs.Tree.{Tree, Trees, leaf, app, none, more}
use Rattle.dps_signature.specs.Signature.{Signature, HasArity, shapes}
use Rattle.dps_terms.specs.Kinds.{AreBuiltOf, AnySymbol}
use Rattle.dps_signature.specs.Kinds.{IsFrameMessage, IsLeafOver, IsOver}
use Rattle.dps_theory.specs.Theory.{Rule, HasRule}
use Rattle.dps_theory.specs.Frames.{IsFrame}
use Rattle.dps_theory.specs.Laws.{HasNamesOf}
use Rattle.dps_theory.proofs.NamesUnseen.{names_unseen}
use Rattle.dps_process.specs.LawsOfNames.{OtherNamesAreUnseen}

module _ (signature : Signature) where
  mutual
    names_of : (t : Tree) → IsOver signature t → HasNamesOf signature t
    names_of (leaf x) h = h
    names_of (app f ts) h = (tt, names_of_all ts h.1)

    names_of_all : (ts : Trees) → AreBuiltOf (IsLeafOver signature) (HasArity (shapes signature)) ts → AreBuiltOf (IsLeafOver signature) AnySymbol ts
    names_of_all none h = tt
    names_of_all (more t ts) h = (names_of t h.0, names_of_all ts h.1)

  names_of_frame : (ts : List Tree) → IsFrame signature ts → All (HasNamesOf signature) ts
  names_of_frame ts h = All-weaker (λ t. IsFrameMessage (shapes signature) t × IsOver signature t) (HasNamesOf signature) (λ t k. names_of t k.1) ts h

pub other_names_are_unseen : OtherNamesAreUnseen
other_names_are_unseen = λ one two theory first second same lawful f s e.
    let rules : (r : Rule) → HasRule theory r → HasNamesOf one r.left × HasNamesOf one r.right =
    λ r h. (names_of one r.left (lawful.rules_over r h).0, names_of one r.right (lawful.rules_over r h).1) in
    names_unseen one two theory first second same lawful.rules_plain rules (names_of_frame one first f) (names_of_frame one second s) e
