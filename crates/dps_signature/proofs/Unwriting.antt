-- Writing a term from left to right: each step keeps what is written and what is not yet as the whole.
use Rattle.std.proofs.Common.{◌≡◌, ℕ, zero, suc, ◌-◌, ◌<◌, ◌≤◌, List, [], ◌∷◌, ◌++◌, length, map, take, drop, refl, ap, sym, subst, ◌∙◌, arith, append_assoc, codes, if◌then◌else◌, Result, Ok, Err, OnOk, is_ok}
use Rattle.std.specs.Prelude.{reverse}
use Rattle.std.proofs.lemmas.List.{append-nil, reverse-append}
use Rattle.dps_terms.specs.declared.Sym.{Sym}
use Rattle.dps_terms.specs.declared.TermView.TheVariants.{App}
use Rattle.dps_terms.specs.Tree.{Leaf, public, private, var, ax, entry, rigid, Tree, Trees, leaf, app, none, more, list_of}
use Rattle.dps_terms.specs.Views.{view_of, arguments}
use Rattle.dps_signature.specs.Signature.{Signature}
use Rattle.dps_signature.specs.Text.{after_commas, in_brackets, text_with, texts_with, root_text}
use Rattle.dps_signature.specs.Unwritten.{leaf_shown, Suffice, text_behind, IsWriting, IsBehindTerm, IsBehindRoot}

module _ (L : Leaf → List ℕ) (S : Signature) where
  -- no bracket is open
  pub none_open : (text ks : List ℕ) (ts : List Tree) (whole : List ℕ) → ks ≡ [] → IsBehindTerm L S text ks ts whole → IsWriting L S text ks ts whole
  none_open text [] [] whole e b = record { suffice = refl; same = b.same }
  none_open text [] (t ∷ ts) whole e b = record { suffice = tt; same = b.same }
  none_open text (k ∷ ks) ts whole e b = absurd cc

  -- a bracket of which the last argument is written
  pub close : (text ks : List ℕ) (k : ℕ) (ts : List Tree) (whole : List ℕ) → k ≤ 1 → IsBehindTerm L S text (k ∷ ks) ts whole → IsBehindTerm L S (text ++ codes ")") ks ts whole
  close text ks zero ts whole h b = absurd b.suffice
  close text ks (suc zero) ts whole h b = record { suffice = b.suffice.1; same = append_assoc text (codes ")") (text_behind L S ks ts) ∙ b.same }
  close text ks (suc (suc k)) ts whole h b = absurd (omega arith)

  -- a bracket of which a further argument follows
  pub next : (text ks : List ℕ) (k : ℕ) (ts : List Tree) (whole : List ℕ) → 1 < k → IsBehindTerm L S text (k ∷ ks) ts whole → IsWriting L S (text ++ codes ",") ((k - 1) ∷ ks) ts whole
  next text ks zero ts whole h b = absurd (omega arith)
  next text ks (suc zero) ts whole h b = absurd (omega arith)
  next text ks (suc (suc k)) [] whole h b = absurd (omega (arith, b.suffice.0))
  next text ks (suc (suc k)) (t ∷ ts) whole h b =
      let one : suc (suc k) - 1 ≡ suc k = omega arith in
      let rest = codes ")" ++ text_behind L S ks (drop k ts) in
      let mine = text_with L S t in
      let further = after_commas (map (text_with L S) (take k ts)) in
      rw one record {
        suffice = (omega (arith, b.suffice.0), b.suffice.1);
        same =
            append_assoc text (codes ",") (mine ++ (further ++ rest))
            ∙ (ap (λ bs. text ++ (codes "," ++ bs)) (sym (append_assoc mine further rest))
            ∙ (ap (λ bs. text ++ bs) (sym (append_assoc (codes ",") (mine ++ further) rest))
            ∙ b.same));
      }

  -- a symbol without arguments
  pub no_arguments : (text ks : List ℕ) (k : ℕ) (ts : List Tree) (whole : List ℕ) → k ≡ 0 → IsBehindRoot L S text ks k ts whole → IsBehindTerm L S text ks ts whole
  no_arguments text ks zero ts whole e b = record { suffice = b.suffice; same = b.same }
  no_arguments text ks (suc k) ts whole e b = absurd (omega (arith, e))

  -- the first argument
  pub opened : (text ks : List ℕ) (k : ℕ) (ts : List Tree) (whole : List ℕ) → 0 < k → IsBehindRoot L S text ks k ts whole → IsWriting L S (text ++ codes "(") (k ∷ ks) ts whole
  opened text ks zero ts whole h b = absurd (omega arith)
  opened text ks (suc k) [] whole h b = absurd (omega (arith, b.enough))
  opened text ks (suc k) (t ∷ ts) whole h b =
      let mine = text_with L S t in
      let further = after_commas (map (text_with L S) (take k ts)) in
      let rest = text_behind L S ks (drop k ts) in
      record {
        suffice = (omega (arith, b.enough), b.suffice);
        same =
            append_assoc text (codes "(") (mine ++ (further ++ (codes ")" ++ rest)))
            ∙ (ap (λ bs. text ++ (codes "(" ++ (mine ++ bs))) (sym (append_assoc further (codes ")") rest))
            ∙ (ap (λ bs. text ++ (codes "(" ++ bs)) (sym (append_assoc mine (further ++ codes ")") rest))
            ∙ (ap (λ bs. text ++ bs) (sym (append_assoc (codes "(") (mine ++ (further ++ codes ")")) rest))
            ∙ b.same)));
      }

  -- a symbol
  texts_of : (ts : Trees) → texts_with L S ts ≡ map (text_with L S) (list_of ts)
  texts_of none = refl
  texts_of (more t ts) = ap (λ texts. text_with L S t ∷ texts) (texts_of ts)

  enough_taken : (k : ℕ) (us ts : List Tree) → us ≡ take k ts → length us ≡ k → k ≤ length ts
  enough_taken k us ts e n = go k ts (sym (ap length e) ∙ n)
    where
      go : (k : ℕ) (ts : List Tree) → length (take k ts) ≡ k → k ≤ length ts
      go zero ts h = omega arith
      go (suc k) [] h = absurd (omega (arith, h))
      go (suc k) (t ∷ ts) h = omega (arith, go k ts (omega (arith, h)))

  pub root_written : (text ks : List ℕ) (t : Tree) (f : Sym) (ts : List Tree) (whole : List ℕ) → App f ≡ view_of t → arguments t ≡ take (length (arguments t)) ts
      → IsWriting L S text ks (t ∷ drop (length (arguments t)) ts) whole → IsBehindRoot L S (text ++ root_text S f) ks (length (arguments t)) ts whole
  root_written text ks (app g us) f ts whole v a b =
      let same : f ≡ g = cc in
      let k = length (list_of us) in
      let below = in_brackets (map (text_with L S) (take k ts)) in
      let rest = text_behind L S ks (drop k ts) in
      let texts : in_brackets (texts_with L S us) ≡ below = ap in_brackets (texts_of us) ∙ ap (λ vs. in_brackets (map (text_with L S) vs)) a in
      rw same record {
        enough = enough_taken k (list_of us) ts a refl;
        suffice = b.suffice;
        same =
            append_assoc text (root_text S g) (below ++ rest)
            ∙ (ap (λ bs. text ++ bs) (sym (append_assoc (root_text S g) below rest))
            ∙ (ap (λ bs. text ++ ((root_text S g ++ bs) ++ rest)) (sym texts)
            ∙ b.same));
      }
  root_written text ks (leaf (public n)) f ts whole v a b = absurd cc
  root_written text ks (leaf (private n)) f ts whole v a b = absurd cc
  root_written text ks (leaf (var n)) f ts whole v a b = absurd cc
  root_written text ks (leaf (ax n)) f ts whole v a b = absurd cc
  root_written text ks (leaf (entry n)) f ts whole v a b = absurd cc
  root_written text ks (leaf (rigid n)) f ts whole v a b = absurd cc

  -- a leaf
  leaf_at : (text ks : List ℕ) (x : Leaf) (ts : List Tree) (whole : List ℕ) → IsWriting L S text ks (leaf x ∷ ts) whole → IsBehindTerm L S (text ++ L x) ks ts whole
  leaf_at text ks x ts whole k = record { suffice = k.suffice; same = append_assoc text (L x) (text_behind L S ks ts) ∙ k.same }

  pub leaf_written : (text ks : List ℕ) (t : Tree) (ts : List Tree) (whole : List ℕ) → ((f : Sym) → view_of t ≡ App f → ⊥) → IsWriting L S text ks (t ∷ drop (length (arguments t)) ts) whole
      → IsBehindTerm L S (text ++ L (leaf_shown (view_of t))) ks ts whole
  leaf_written text ks (app f us) ts whole h b = absurd (h f refl)
  leaf_written text ks (leaf (public n)) ts whole h b = leaf_at text ks (public n) ts whole b
  leaf_written text ks (leaf (private n)) ts whole h b = leaf_at text ks (private n) ts whole b
  leaf_written text ks (leaf (var n)) ts whole h b = leaf_at text ks (var n) ts whole b
  leaf_written text ks (leaf (ax n)) ts whole h b = leaf_at text ks (ax n) ts whole b
  leaf_written text ks (leaf (entry n)) ts whole h b = leaf_at text ks (entry n) ts whole b
  leaf_written text ks (leaf (rigid n)) ts whole h b = leaf_at text ks (rigid n) ts whole b

  -- nothing is written yet
  pub begun : (text : List ℕ) (t : Tree) → IsWriting L S text [] (t ∷ []) (text ++ text_with L S t)
  begun text t = record { suffice = tt; same = ap (λ bs. text ++ bs) (append-nil (text_with L S t)) }

  -- all is
  pub ended : (text ks : List ℕ) (ts : List Tree) (whole : List ℕ) → ts ≡ [] → IsWriting L S text ks ts whole → text ≡ whole
  ended text ks [] whole e k = sym (append-nil text) ∙ k.same
  ended text ks (t ∷ ts) whole e k = absurd cc

  -- after a push, where it went well
  pub push_ok : {E : Type 0} (r : Result (Unit {0}) E) (bs cs mark ks : List ℕ) (ts : List Tree) (whole : List ℕ) → cs ≡ (if is_ok r then bs ++ mark else bs) → IsWriting L S (bs ++ mark) ks ts whole → OnOk r (IsWriting L S cs ks ts whole)
  push_ok (Ok x) bs cs mark ks ts whole e k = subst (λ ds. IsWriting L S ds ks ts whole) (sym e) k
  push_ok (Err x) bs cs mark ks ts whole e k = tt

pub pop_last : (old new : List ℕ) (k : ℕ) → old ≡ new ++ k ∷ [] → reverse old ≡ k ∷ reverse new
pop_last old new k e = ap reverse e ∙ reverse-append new (k ∷ [])

pub push_last : (old new : List ℕ) (k : ℕ) → new ≡ old ++ k ∷ [] → k ∷ reverse old ≡ reverse new
push_last old new k e = sym (reverse-append old (k ∷ [])) ∙ sym (ap reverse e)
