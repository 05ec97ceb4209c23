-- The declarations of a file.
use Rattle.std.proofs.Common.{◌≡◌, ℕ, ◌+◌, length, arith, Bool, true, false, ◌||◌, List, [], ◌∷◌, ◌++◌, Some, ◌⊎◌, refl, ap, sym, ◌∙◌, subst, inl, inr, append_assoc, if◌then◌else◌}
use Rattle.std.specs.Prelude.{All}
use Rattle.std.proofs.lemmas.List.Elements.{All-nil, All-push}
use denote.Enum.Bare.{sameb, same_true}
use Rattle.dps_lex.specs.contracts.vocabulary.TokenKind.{the_type}
use Rattle.dps_lex.specs.declared.vocabulary.TokenKind.{TokenKind}
use Rattle.dps_lex.specs.declared.vocabulary.TokenKind.TheVariants as kind
use Rattle.dps_syntax.specs.declared.grammar.Word.{Word}
use Rattle.dps_syntax.specs.declared.grammar.Word.TheVariants.{Of, Zero}
use Rattle.dps_syntax.specs.declared.grammar.Production.{Production}
use Rattle.dps_syntax.specs.declared.grammar.Production.TheVariants as production
use Rattle.dps_syntax.specs.declared.grammar.More.{More as Option_of}
use Rattle.dps_syntax.specs.declared.grammar.More.TheVariants as more
use Rattle.dps_syntax.specs.declared.grammar.Symbol.{Symbol}
use Rattle.dps_syntax.specs.declared.grammar.Symbol.TheVariants.{Inner, More}
use Rattle.dps_syntax.specs.declared.tree.Part.{Part}
use Rattle.dps_syntax.specs.declared.tree.Part.TheVariants as part
use Rattle.dps_syntax.specs.declared.tree.Decl.{Decl}
use Rattle.dps_syntax.specs.Tree.{Lexeme, Parts, none, token, inner as within, Derivation, is_zero, word_of, words}
use Rattle.dps_syntax.specs.Parts.{parts_of}
use Rattle.dps_syntax.specs.Grammar.{alternatives, continuation, takes, sign_of, IsOneOf, Derives, done, sign, inner, taken, left as skipped, file}
use Rattle.dps_syntax.specs.Files.{first_kind, tree_of, trees_of, HasItsKeyword}
use Rattle.dps_syntax.specs.Spans.{IsOpening, AreDeclarations}

-- the trees of a file begin with the keywords of declarations

-- a token that is no number is what the grammar says
pub kind_taken : (k : TokenKind) (l : Lexeme) → takes (Of k) Zero ≡ false → sameb the_type k kind.Number ≡ false → takes (Of k) (word_of l) ≡ true → l.kind ≡ k
kind_taken k l z n t = by_text (is_zero l.text) t
  where
    of_kind : (s b : Bool) → b ≡ false → (s || (if b then false else false)) ≡ true → s ≡ true
    of_kind true b f e = refl
    of_kind false true f e = cc
    of_kind false false f e = e

    by_text : (b : Bool) → takes (Of k) (if b then Zero else Of l.kind) ≡ true → l.kind ≡ k
    by_text true e = let never : true ≡ false = sym e ∙ z in cc
    by_text false e = sym (same_true the_type tt k l.kind (of_kind (sameb the_type k l.kind) (sameb the_type k kind.Number) n e))

opening_of :
    (k : TokenKind) (l : Lexeme) (rest : Parts) → IsOpening (Some k) → takes (Of k) Zero ≡ false → sameb the_type k kind.Number ≡ false
    → takes (Of k) (word_of l) ≡ true → IsOpening (first_kind (token l rest))
opening_of k l rest o z n t = subst (λ x. IsOpening (Some x)) (sym (kind_taken k l z n t)) o

first_token :
    (k : TokenKind) (ss : List Symbol) (ps : Parts) (after : List Word) → IsOpening (Some k) → takes (Of k) Zero ≡ false → sameb the_type k kind.Number ≡ false
    → Derives (sign_of k ∷ ss) ps after → IsOpening (first_kind ps)
first_token k ss (token l rest) after o z n (sign t d) = opening_of k l rest o z n t
first_token k ss (within p i rest) after o z n d = elim d [ ]
first_token k ss none after o z n d = elim d [ ]

along : (ps : Parts) (after : List Word) (items row : List Symbol) → items ≡ row → Derives items ps after → Derives row ps after
along ps after items row e d = subst (λ x. Derives x ps after) e d

declaration_opens : (items : List Symbol) (ps : Parts) (after : List Word) → IsOneOf (alternatives production.Decl) items → Derives items ps after → IsOpening (first_kind ps)
declaration_opens items ps after (inl e) d = first_token kind.Free _ ps after tt refl refl (along ps after items _ e d)
declaration_opens items ps after (inr (inl e)) d = first_token kind.Const _ ps after tt refl refl (along ps after items _ e d)
declaration_opens items ps after (inr (inr (inl e))) d = first_token kind.Fun _ ps after tt refl refl (along ps after items _ e d)
declaration_opens items ps after (inr (inr (inr (inl e)))) d = first_token kind.Reduc _ ps after tt refl refl (along ps after items _ e d)
declaration_opens items ps after (inr (inr (inr (inr (inl e))))) d = first_token kind.Let _ ps after tt refl refl (along ps after items _ e d)
declaration_opens items ps after (inr (inr (inr (inr (inr o))))) d = absurd o

query_opens : (items : List Symbol) (ps : Parts) (after : List Word) → IsOneOf (alternatives production.Query) items → Derives items ps after → IsOpening (first_kind ps)
query_opens items ps after (inl e) d = first_token kind.Query _ ps after tt refl refl (along ps after items _ e d)
query_opens items ps after (inr o) d = absurd o

-- what a file's symbols become
abbrev is_top : List Symbol → Bool
is_top [] = true
is_top (Inner production.Decl ∷ ss) = is_top ss
is_top (Inner production.Query ∷ ss) = is_top ss
is_top (More more.Declarations ∷ ss) = is_top ss
is_top _ = false

top_opens :
    (p : Production) (ss items : List Symbol) (ps : Parts) (after : List Word) → is_top (Inner p ∷ ss) ≡ true → IsOneOf (alternatives p) items
    → Derives items ps after → IsOpening (first_kind ps)
top_opens production.Decl ss items ps after t o d = declaration_opens items ps after o d
top_opens production.Query ss items ps after t o d = query_opens items ps after o d
top_opens production.Ids ss items ps after t o d = absurd (let never : false ≡ true = t in clash never)
  where
    clash : false ≡ true → ⊥
    clash e = cc
top_opens _ ss items ps after t o d = absurd (clash t)
  where
    clash : false ≡ true → ⊥
    clash e = cc

top_rest : (p : Production) (ss : List Symbol) → is_top (Inner p ∷ ss) ≡ true → is_top ss ≡ true
top_rest production.Decl ss t = t
top_rest production.Query ss t = t
top_rest production.Ids ss t = cc
top_rest _ ss t = cc

top_more : (m : Option_of) (ss : List Symbol) → is_top (More m ∷ ss) ≡ true → (m ≡ more.Declarations) × (is_top ss ≡ true)
top_more more.Declarations ss t = (refl, t)
top_more more.Private ss t = cc
top_more _ ss t = cc

top_declares : {ss : List Symbol} {ps : Parts} {after : List Word} → Derives ss ps after → is_top ss ≡ true → AreDeclarations ps
top_declares done t = tt
top_declares (sign e d) t = absurd (clash t)
  where
    clash : false ≡ true → ⊥
    clash e = cc
top_declares (inner {p} {ss} {inside} {parts} {after} items o i d) t = (top_opens p ss items inside (words parts ++ after) t o i, top_declares d (top_rest p ss t))
top_declares (taken {m} {ss} {parts} {after} d) t =
    let h = top_more m ss t in
    top_declares d (ap (λ x. is_top (continuation x ++ ss)) h.0 ∙ h.1)
top_declares (skipped {m} {ss} g d) t = top_declares d (top_more m ss t).1

-- the trees of a file are declarations and a query
pub file_declares : (ps : Parts) → Derives file ps [] → AreDeclarations ps
file_declares ps d = top_declares d refl

-- the loop over them

joined : Parts → Parts → Parts
joined none qs = qs
joined (token l ps) qs = token l (joined ps qs)
joined (within p i ps) qs = within p i (joined ps qs)

trees_of-push : (ds : List Decl) (d : Decl) → trees_of (ds ++ d ∷ []) ≡ joined (trees_of ds) (within (tree_of d).production (tree_of d).parts none)
unfolding joined
trees_of-push [] d = refl
trees_of-push (x ∷ ds) d = ap (within (tree_of x).production (tree_of x).parts) (trees_of-push ds d)

parts_of-push : (ps : List Part) (t : Derivation) → parts_of (ps ++ part.Inner t ∷ []) ≡ joined (parts_of ps) (within t.production t.parts none)
unfolding joined
parts_of-push [] t = refl
parts_of-push (part.Token l ∷ ps) t = ap (token l) (parts_of-push ps t)
parts_of-push (part.Inner u ∷ ps) t = ap (within u.production u.parts) (parts_of-push ps t)

-- what the loop keeps: of all parts some are declared, and others are left
pub record IsDeclaring (all rest : List Part) (count : ℕ) (found : List Decl) : Type 0 where
  pub taken : List Part
  pub split : taken ++ rest ≡ all
  pub counted : count ≡ length rest
  pub trees : trees_of found ≡ parts_of taken
  pub keywords : All HasItsKeyword found
  pub declared : AreDeclarations (parts_of rest)

pub declaring_first : (all rest : List Part) (count : ℕ) (found : List Decl) → rest ≡ all → count ≡ length rest → found ≡ [] → AreDeclarations (parts_of all) → IsDeclaring all rest count found
declaring_first all rest count found e c n a = record {
  taken = [];
  split = e;
  counted = c;
  trees = ap trees_of n;
  keywords = subst (All HasItsKeyword) (sym n) (All-nil HasItsKeyword);
  declared = subst (λ x. AreDeclarations (parts_of x)) (sym e) a;
}

pub declaring_opens :
    (all rest left : List Part) (count : ℕ) (found : List Decl) (p : Part) (t : Derivation) → IsDeclaring all rest count found → rest ≡ p ∷ left
    → p ≡ part.Inner t → IsOpening (first_kind t.parts)
declaring_opens all rest left count found p t x e f =
    let h : AreDeclarations (parts_of (part.Inner t ∷ left)) = subst (λ y. AreDeclarations (parts_of y)) (e ∙ ap (λ y. y ∷ left) f) x.declared in
    h.0

pub declaring_token : (all rest left : List Part) (count : ℕ) (found : List Decl) (p : Part) (l : Lexeme) → IsDeclaring all rest count found → rest ≡ p ∷ left → p ≡ part.Token l → ⊥
declaring_token all rest left count found p l x e f =
    let h : AreDeclarations (parts_of (part.Token l ∷ left)) = subst (λ y. AreDeclarations (parts_of y)) (e ∙ ap (λ y. y ∷ left) f) x.declared in
    h

pub declaring_more :
    (all rest left : List Part) (count more : ℕ) (found new : List Decl) (p : Part) (t : Derivation) (d : Decl) → IsDeclaring all rest count found
    → rest ≡ p ∷ left → more + 1 ≡ count → p ≡ part.Inner t → tree_of d ≡ t → HasItsKeyword d → new ≡ found ++ d ∷ [] → IsDeclaring all left more new
declaring_more all rest left count more found new p t d x e c f g k n =
    let whole : rest ≡ part.Inner t ∷ left = e ∙ ap (λ y. y ∷ left) f in
    let h : AreDeclarations (parts_of (part.Inner t ∷ left)) = subst (λ y. AreDeclarations (parts_of y)) whole x.declared in
    let one : within (tree_of d).production (tree_of d).parts none ≡ within t.production t.parts none = ap (λ y. within y.production y.parts none) g in
    record {
      taken = x.taken ++ part.Inner t ∷ [];
      split = append_assoc x.taken (part.Inner t ∷ []) left ∙ ap (λ y. x.taken ++ y) (sym whole) ∙ x.split;
      counted = omega (arith, c, x.counted, ap length whole);
      trees =
          ap trees_of n ∙ trees_of-push found d ∙ ap (λ y. joined y (within (tree_of d).production (tree_of d).parts none)) x.trees ∙ ap (joined (parts_of x.taken)) one
          ∙ sym (parts_of-push x.taken t);
      keywords = subst (All HasItsKeyword) (sym n) (All-push HasItsKeyword found d x.keywords k);
      declared = h.1;
    }

nothing_left : (xs : List Part) → length xs ≡ 0 → xs ≡ []
nothing_left [] e = refl
nothing_left (x ∷ xs) e = absurd (omega (arith, e))

parts_nil : (xs : List Part) → xs ++ [] ≡ xs
parts_nil [] = refl
parts_nil (x ∷ xs) = ap (λ t. x ∷ t) (parts_nil xs)

pub declaring_last : (all rest : List Part) (count : ℕ) (found : List Decl) → IsDeclaring all rest count found → count ≡ 0 → trees_of found ≡ parts_of all
declaring_last all rest count found x z =
    let empty : rest ≡ [] = nothing_left rest (sym x.counted ∙ z) in
    x.trees ∙ ap parts_of (sym (parts_nil x.taken) ∙ ap (λ y. x.taken ++ y) (sym empty) ∙ x.split)

pub ruleset for_declarations = (declaring_first, declaring_opens, declaring_token, declaring_more, declaring_last)
