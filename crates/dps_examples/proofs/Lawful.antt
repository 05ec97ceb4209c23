-- Which problems of one output are lawful.
use Rattle.std.proofs.Common.{◌≡◌, ℕ, refl, ap, inl, inr, arith}
use Rattle.std.specs.Prelude.{false, Option, Some, None, codes}
use Rattle.std.specs.Option.{option_map}
use Rattle.dps_terms.specs.declared.PublicName.TheVariants.{Declared}
use Rattle.dps_terms.specs.Tree.{Leaf, public, private, leaf, itself}
use Rattle.dps_signature.specs.Signature.{Shape, Name, HasArity, shapes, IsPublic}
use Rattle.dps_terms.specs.Kinds.{IsNoVariable, AnySymbol}
use Rattle.dps_signature.specs.Kinds.{IsSourceTerm}
use Rattle.dps_terms.proofs.Building.{leaf_meets}
use Rattle.dps_theory.specs.Examples.{signature, senc}
use Rattle.dps_theory.proofs.Encryption.{decryption_accepted, decryption_over, decryption_plain}
use Rattle.dps_process.specs.Problem.{IsLawful, IsLawfulSide}
use Rattle.dps_examples.specs.Examples.{tells, with_output}
use Rattle.dps_examples.specs.declared.sides.Output.{Output}
use Rattle.dps_examples.specs.declared.sides.Output.TheVariants.{DeclaredName, PrivateName, FreeVariable, WrongArity, UndeclaredName, OwnName, UndeclaredChannel}

-- a name that a file may write
module _ (l : Leaf) (closed : IsNoVariable l) (written : IsSourceTerm signature (leaf l)) where
  side_lawful : IsLawfulSide signature (tells (leaf l))
  side_lawful = record {
    closed = λ y free. elim free [ inl s ↦ leaf_meets IsNoVariable AnySymbol {t = leaf l} closed s | inr f ↦ f ];
    channels = (omega arith, tt);
    terms = (written, tt);
    small = omega arith;
    few_destructors = omega arith;
  }

lawful_with : (o : Output) → IsLawfulSide signature (with_output o).left → IsLawful (with_output o)
lawful_with o h = record {
  theory = record { same_symbols = refl; accepted = decryption_accepted; rules_over = decryption_over; rules_plain = decryption_plain };
  left = h;
  right = side_lawful (public (Declared 1)) tt (codes "b", refl);
}

pub declared_name : IsLawful (with_output DeclaredName)
declared_name = lawful_with DeclaredName (side_lawful (public (Declared 0)) tt (codes "a", refl))

pub private_name : IsLawful (with_output PrivateName)
private_name = lawful_with PrivateName (side_lawful (private 0) tt tt)

pub free_variable : ¬ IsLawful (with_output FreeVariable)
free_variable h = h.left.closed 1 (inl itself)

one_argument : ¬ HasArity (shapes signature) senc 1
one_argument h =
    let e : ◌≡◌ {A = Option ℕ} (Some 2) (Some 1) = ap (option_map (λ (s : Shape). s.arity)) h.1 in
    let f : ◌≡◌ {A = ℕ} 2 1 = cc in omega arith

pub wrong_arity : ¬ IsLawful (with_output WrongArity)
wrong_arity h = one_argument h.left.terms.0.0

undeclared : ¬ IsPublic signature 2
undeclared h = let e : ◌≡◌ {A = Option Name} None (Some (record { name = h.0; is_private = false })) = h.1 in cc

pub undeclared_name : ¬ IsLawful (with_output UndeclaredName)
undeclared_name h = undeclared h.left.terms.0

pub own_name : ¬ IsLawful (with_output OwnName)
own_name h = h.left.terms.0

pub undeclared_channel : ¬ IsLawful (with_output UndeclaredChannel)
undeclared_channel h = let l = h.left.channels.0 in omega arith
