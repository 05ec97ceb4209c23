-- Building trees.
use Rattle.std.proofs.Common.{◌≡◌, List, [], ◌∷◌, ◌++◌, refl, ap, sym, ◌∙◌}
use Rattle.dps_syntax.specs.declared.grammar.Production.{Production}
use Rattle.dps_syntax.specs.declared.tree.Part.{Part}
use Rattle.dps_syntax.specs.declared.tree.Part.TheVariants.{Token, Inner}
use Rattle.dps_syntax.specs.declared.builder.Level.{Level}
use Rattle.dps_syntax.specs.declared.builder.Builder.{Builder}
use Rattle.dps_syntax.specs.Tree.{Lexeme, Derivation}
use Rattle.dps_syntax.specs.Parts.{parts_of}
use Rattle.dps_syntax.specs.Built.{Piece, begin, one, end, pieces, pieces_of, opened, opened_onto, Adds, Ends}

pieces-token : (ps : List Part) (l : Lexeme) (rest : List Piece) → pieces (parts_of (ps ++ Token l ∷ [])) rest ≡ pieces (parts_of ps) (one l ∷ rest)
pieces-token [] l rest = refl
pieces-token (Token k ∷ ps) l rest = ap (λ x. one k ∷ x) (pieces-token ps l rest)
pieces-token (Inner t ∷ ps) l rest = ap (λ x. begin t.production ∷ pieces t.parts (end t.production ∷ x)) (pieces-token ps l rest)

pieces-inner :
    (ps : List Part) (t : Derivation) (rest : List Piece)
    → pieces (parts_of (ps ++ Inner t ∷ [])) rest ≡ pieces (parts_of ps) (begin t.production ∷ pieces t.parts (end t.production ∷ rest))
pieces-inner [] t rest = refl
pieces-inner (Token k ∷ ps) t rest = ap (λ x. one k ∷ x) (pieces-inner ps t rest)
pieces-inner (Inner u ∷ ps) t rest = ap (λ x. begin u.production ∷ pieces u.parts (end u.production ∷ x)) (pieces-inner ps t rest)

pieces-level : (ls : List Level) (l : Level) (rest : List Piece) → pieces_of (ls ++ l ∷ []) rest ≡ pieces_of ls (pieces (parts_of l.before.items) (begin l.production ∷ rest))
pieces-level [] l rest = refl
pieces-level (k ∷ ls) l rest = ap (λ x. pieces (parts_of k.before.items) (begin k.production ∷ x)) (pieces-level ls l rest)

opened-level : (ls : List Level) (l : Level) (ps : List Production) → opened_onto (ls ++ l ∷ []) ps ≡ l.production ∷ opened_onto ls ps
opened-level [] l ps = refl
opened-level (k ∷ ls) l ps = opened-level ls l (k.production ∷ ps)

pub opened_it :
    (old new : Builder) (l : Level) (p : Production) → new.levels.items ≡ old.levels.items ++ l ∷ [] → new.parts.items ≡ [] → l.production ≡ p
    → l.before.items ≡ old.parts.items → Adds (begin p) old new
opened_it old new l p e f g h = record {
  added = λ rest.
      ap (λ x. pieces_of x (pieces (parts_of new.parts.items) rest)) e
      ∙ ap (λ x. pieces_of (old.levels.items ++ l ∷ []) (pieces (parts_of x) rest)) f
      ∙ pieces-level old.levels.items l rest
      ∙ ap (λ x. pieces_of old.levels.items (pieces (parts_of x) (begin l.production ∷ rest))) h
      ∙ ap (λ x. pieces_of old.levels.items (pieces (parts_of old.parts.items) (begin x ∷ rest))) g;
}

pub opened_now : (old new : Builder) (l : Level) (p : Production) → new.levels.items ≡ old.levels.items ++ l ∷ [] → l.production ≡ p → opened new ≡ p ∷ opened old
opened_now old new l p e g = ap (λ x. opened_onto x []) e ∙ opened-level old.levels.items l [] ∙ ap (λ x. x ∷ opened old) g

pub added_it : (old new : Builder) (l : Lexeme) → new.levels.items ≡ old.levels.items → new.parts.items ≡ old.parts.items ++ Token l ∷ [] → Adds (one l) old new
added_it old new l e f = record {
  added = λ rest.
      ap (λ x. pieces_of x (pieces (parts_of new.parts.items) rest)) e
      ∙ ap (λ x. pieces_of old.levels.items (pieces (parts_of x) rest)) f
      ∙ ap (pieces_of old.levels.items) (pieces-token old.parts.items l rest);
}

pub opened_same : (old new : Builder) → new.levels.items ≡ old.levels.items → opened new ≡ opened old
opened_same old new e = ap (λ x. opened_onto x []) e

pub closed_it :
    (old new : Builder) (l : Level) (t : Derivation) → old.levels.items ≡ new.levels.items ++ l ∷ [] → new.parts.items ≡ l.before.items ++ Inner t ∷ []
    → t.production ≡ l.production → t.parts ≡ parts_of old.parts.items → Ends old new
closed_it old new l t e f g h = record {
  production = l.production;
  opened = ap (λ x. opened_onto x []) e ∙ opened-level new.levels.items l [];
  added = λ rest. (
      let tree : begin t.production ∷ pieces t.parts (end t.production ∷ rest) ≡ begin l.production ∷ pieces (parts_of old.parts.items) (end l.production ∷ rest) =
      ap (λ x. begin x ∷ pieces t.parts (end x ∷ rest)) g ∙ ap (λ x. begin l.production ∷ pieces x (end l.production ∷ rest)) h in
      ap (λ x. pieces_of new.levels.items (pieces (parts_of x) rest)) f
      ∙ ap (pieces_of new.levels.items) (pieces-inner l.before.items t rest ∙ ap (pieces (parts_of l.before.items)) tree)
      ∙ sym (ap (λ x. pieces_of x (pieces (parts_of old.parts.items) (end l.production ∷ rest))) e ∙ pieces-level new.levels.items l (pieces (parts_of old.parts.items) (end l.production ∷ rest))));
}

pub never_empty : (levels : List Level) → levels ≡ [] → (opened_onto levels [] ≡ [] → ⊥) → ⊥
never_empty levels e some = some (ap (λ x. opened_onto x []) e)

pub ruleset for_builder = (opened_it, opened_now, added_it, opened_same, closed_it, never_empty)
