-- The trees of a text are those of declarations.
use Rattle.std.proofs.Common.{◌≡◌, false, List, [], ◌∷◌, Some, refl, ap, subst, inl, inr}
use denote.Enum.Bare.{sameb}
use Rattle.std.specs.Prelude.{All}
use Rattle.std.proofs.lemmas.List.Elements.{All-nil, All-cons}
use Rattle.dps_lex.specs.contracts.vocabulary.TokenKind.{the_type as kinds}
use Rattle.dps_lex.specs.declared.vocabulary.TokenKind.{TokenKind}
use Rattle.dps_lex.specs.declared.vocabulary.TokenKind.TheVariants as kind
use Rattle.dps_syntax.specs.declared.grammar.Word.{Word}
use Rattle.dps_syntax.specs.declared.grammar.Word.TheVariants.{Of, Zero}
use Rattle.dps_syntax.specs.declared.grammar.Production.{Production}
use Rattle.dps_syntax.specs.declared.grammar.Production.TheVariants as production
use Rattle.dps_syntax.specs.declared.grammar.More.TheVariants as more
use Rattle.dps_syntax.specs.declared.grammar.Symbol.{Symbol}
use Rattle.dps_syntax.specs.declared.grammar.Symbol.TheVariants.{Inner, More}
use Rattle.dps_syntax.specs.declared.tree.Decl.{Decl}
use Rattle.dps_syntax.specs.declared.tree.Decl.TheVariants.{Free, Const, Fun, Reduc, Define, Query}
use Rattle.dps_syntax.specs.Tree.{Derivation, Parts, none, inner as within}
use Rattle.dps_syntax.specs.Grammar.{Derives, done, sign, inner, taken, left, takes, sign_of, IsOneOf, alternatives}
use Rattle.dps_syntax.specs.Files.{tree_of, first_kind, HasItsKeyword}
use Rattle.dps_syntax.specs.LawsOfFiles.{AreDeclared, TreesAreDeclared}
use Rattle.dps_syntax.proofs.Declared.{kind_taken}

-- the declaration of a tree
record IsMade (p : Production) (parts : Parts) : Type 0 where
  pub decl : Decl
  pub tree : tree_of decl ≡ record { production = p; parts = parts }
  pub keyword : HasItsKeyword decl

opens_with :
    (k : TokenKind) {ss : List Symbol} {parts : Parts} {after : List Word} → takes (Of k) Zero ≡ false → sameb kinds k kind.Number ≡ false
    → Derives (sign_of k ∷ ss) parts after → first_kind parts ≡ Some k
opens_with k z n (sign {lexeme = l} t d) = ap Some (kind_taken k l z n t)

abbrev tree_with : Production → Parts → Derivation
tree_with p parts = record { production = p; parts = parts }

module _ (parts : Parts) (after : List Word) (items : List Symbol) (derived : Derives items parts after) where
  along : (row : List Symbol) → items ≡ row → Derives row parts after
  along row e = subst (λ x. Derives x parts after) e derived

  query_made : IsOneOf (alternatives production.Query) items → IsMade production.Query parts
  query_made (inl e) = record { decl = Query (tree_with production.Query parts); tree = refl; keyword = opens_with kind.Query refl refl (along _ e) }
  query_made (inr h) = absurd h

  decl_made : IsOneOf (alternatives production.Decl) items → IsMade production.Decl parts
  decl_made (inl e) = record { decl = Free (tree_with production.Decl parts); tree = refl; keyword = opens_with kind.Free refl refl (along _ e) }
  decl_made (inr (inl e)) = record { decl = Const (tree_with production.Decl parts); tree = refl; keyword = opens_with kind.Const refl refl (along _ e) }
  decl_made (inr (inr (inl e))) = record { decl = Fun (tree_with production.Decl parts); tree = refl; keyword = opens_with kind.Fun refl refl (along _ e) }
  decl_made (inr (inr (inr (inl e)))) = record { decl = Reduc (tree_with production.Decl parts); tree = refl; keyword = opens_with kind.Reduc refl refl (along _ e) }
  decl_made (inr (inr (inr (inr (inl e))))) = record { decl = Define (tree_with production.Decl parts); tree = refl; keyword = opens_with kind.Let refl refl (along _ e) }
  decl_made (inr (inr (inr (inr (inr h))))) = absurd h

made_more : (p : Production) (inside rest : Parts) → IsMade p inside → AreDeclared rest → AreDeclared (within p inside rest)
made_more p inside rest m ms = record {
  decls = m.decl ∷ ms.decls;
  same = λ i. within (m.tree i).production (m.tree i).parts (ms.same i);
  keywords = All-cons HasItsKeyword m.decl ms.decls m.keyword ms.keywords;
}

none_made : AreDeclared none
none_made = record { decls = []; same = refl; keywords = All-nil HasItsKeyword }

all_made : {parts : Parts} {after : List Word} → Derives (More more.Declarations ∷ Inner production.Query ∷ []) parts after → AreDeclared parts
all_made (left e (inner {inside} items one d done)) = made_more production.Query inside none (query_made inside _ items d one) none_made
all_made (taken (inner {inside} {parts} items one d rest)) = made_more production.Decl inside parts (decl_made inside _ items d one) (all_made rest)

pub trees_are_declared : TreesAreDeclared
trees_are_declared bytes trees t = all_made t.derived
