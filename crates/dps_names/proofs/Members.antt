-- The members of a tuple pattern, taken one by one.
use Rattle.std.proofs.Common.{◌≡◌, ◌<◌, ℕ, ◌+◌, List, refl, ap, ◌∙◌, length, get_or, drop, arith, subst}
use Rattle.dps_signature.specs.Signature.{Signature}
use Rattle.dps_syntax.specs.declared.tree.Part.{Part}
use Rattle.dps_syntax.specs.declared.tree.Part.TheVariants.{Token, Inner}
use Rattle.dps_syntax.specs.Tree.{Lexeme, Derivation, Parts, none, token, inner}
use Rattle.dps_syntax.specs.Parts.{parts_of}
use Rattle.dps_scopes.specs.declared.fault.NameFault.{NameFault}
use Rattle.dps_scopes.specs.declared.body.Step.TheVariants.{Project}
use Rattle.dps_scopes.specs.Outcome.{done, faulty, and_then}
use Rattle.dps_scopes.specs.Scopes.{Locals}
use Rattle.dps_scopes.specs.Terms.{count_inner}
use Rattle.dps_scopes.proofs.Rows.{at_token, at_inner, at_end}
use Rattle.dps_names.specs.Program.{Definition}
use Rattle.dps_names.specs.Processes.{Pattern, pattern, members, with_step, projection_symbol}

-- What all members say follows from what the first ones said, and from those that are left.
pub record Takes (definitions : List Definition) (outside : Locals) (symbol from : ℕ) (all : Parts) (first : Pattern) (start : Signature) (rest : Parts) (i : ℕ) (so_far : Pattern)
    (now : Signature) : Type 0 where
  pub said : members definitions outside all symbol from 1 first start ≡ members definitions outside rest symbol from i so_far now
  pub counted : i + count_inner rest ≡ count_inner all + 1

module _ (definitions : List Definition) (outside : Locals) (symbol from : ℕ) (all : Parts) (first : Pattern) (start : Signature) where
  pub takes_first : Takes definitions outside symbol from all first start all 1 first start
  takes_first = record { said = refl; counted = omega arith }

  pub takes_token :
      (xs : List Part) (k i : ℕ) (d : Part) (l : Lexeme) (p : Pattern) (now : Signature)
      → Takes definitions outside symbol from all first start (parts_of (drop k xs)) i p now → k < length xs → get_or xs k d ≡ Token l
      → Takes definitions outside symbol from all first start (parts_of (drop (k + 1) xs)) i p now
  takes_token xs k i d l p now takes h e = go (subst (λ ps. Takes definitions outside symbol from all first start ps i p now) (at_token xs k d l h e) takes)
    where
      go :
          Takes definitions outside symbol from all first start (token l (parts_of (drop (k + 1) xs))) i p now
          → Takes definitions outside symbol from all first start (parts_of (drop (k + 1) xs)) i p now
      go r = record { said = r.said; counted = r.counted }

  pub takes_inner :
      (xs : List Part) (k i : ℕ) (d : Part) (t : Derivation) (p next : Pattern) (now after : Signature)
      → Takes definitions outside symbol from all first start (parts_of (drop k xs)) i p now → k < length xs → get_or xs k d ≡ Inner t
      → pattern definitions outside t.parts (with_step p (Project (projection_symbol symbol i) from)) now ≡ done next after
      → Takes definitions outside symbol from all first start (parts_of (drop (k + 1) xs)) (i + 1) next after
  takes_inner xs k i d t p next now after takes h e o = go (subst (λ ps. Takes definitions outside symbol from all first start ps i p now) (at_inner xs k d t h e) takes)
    where
      go :
          Takes definitions outside symbol from all first start (inner t.production t.parts (parts_of (drop (k + 1) xs))) i p now
          → Takes definitions outside symbol from all first start (parts_of (drop (k + 1) xs)) (i + 1) next after
      go r = record {
        said = r.said ∙ ap (λ o. and_then o (λ n s. members definitions outside (parts_of (drop (k + 1) xs)) symbol from (i + 1) n s)) o;
        counted = omega (arith, r.counted);
      }

  pub takes_fault :
      (xs : List Part) (k i : ℕ) (d : Part) (t : Derivation) (p : Pattern) (now : Signature) (f : NameFault)
      → Takes definitions outside symbol from all first start (parts_of (drop k xs)) i p now → k < length xs → get_or xs k d ≡ Inner t
      → pattern definitions outside t.parts (with_step p (Project (projection_symbol symbol i) from)) now ≡ faulty f
      → members definitions outside all symbol from 1 first start ≡ faulty f
  takes_fault xs k i d t p now f takes h e o = go (subst (λ ps. Takes definitions outside symbol from all first start ps i p now) (at_inner xs k d t h e) takes)
    where
      go :
          Takes definitions outside symbol from all first start (inner t.production t.parts (parts_of (drop (k + 1) xs))) i p now
          → members definitions outside all symbol from 1 first start ≡ faulty f
      go r = r.said ∙ ap (λ o. and_then o (λ n s. members definitions outside (parts_of (drop (k + 1) xs)) symbol from (i + 1) n s)) o

  pub takes_last :
      (xs : List Part) (k i : ℕ) (p : Pattern) (now : Signature)
      → Takes definitions outside symbol from all first start (parts_of (drop k xs)) i p now → length xs ≡ k
      → members definitions outside all symbol from 1 first start ≡ done p now
  takes_last xs k i p now takes e = go (subst (λ ps. Takes definitions outside symbol from all first start ps i p now) (at_end xs k e) takes)
    where
      go : Takes definitions outside symbol from all first start none i p now → members definitions outside all symbol from 1 first start ≡ done p now
      go r = r.said

pub ruleset for_members = (takes_first, takes_token, takes_inner, takes_fault, takes_last)
