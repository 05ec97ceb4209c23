-- What of a term's text is not written yet, while it is written from left to right.
use Rattle.std.specs.Prelude.{◌≡◌, ◌≤◌, ℕ, zero, suc, List, [], ◌∷◌, ◌++◌, length, map, take, drop, codes, ⊤}
use Rattle.dps_terms.specs.declared.TermView.{TermView}
use Rattle.dps_terms.specs.declared.TermView.TheVariants.{App, Public, Private, Var, Ax, Entry, Rigid}
use Rattle.dps_terms.specs.Tree.{Leaf, public, private, var, ax, entry, rigid, Tree}
use Rattle.dps_signature.specs.Signature.{Signature}
use Rattle.dps_signature.specs.Text.{after_commas, in_brackets, text_with}

-- the leaf that is shown, where no symbol is
abbrev pub leaf_shown : TermView → Leaf
leaf_shown (App f) = var 0
leaf_shown (Public n) = public n
leaf_shown (Private n) = private n
leaf_shown (Var n) = var n
leaf_shown (Ax n) = ax n
leaf_shown (Entry n) = entry n
leaf_shown (Rigid n) = rigid n

-- Of each open bracket, the innermost one first, so many arguments are not written whole. The trees are what comes behind
-- a term that is in turn, and they suffice for the further arguments.
abbrev pub Suffice : List ℕ → List Tree → Type 0
Suffice [] ts = ⊤
Suffice (zero ∷ ks) ts = ⊥
Suffice (suc k ∷ ks) ts = (k ≤ length ts) × Suffice ks (drop k ts)

-- the first of the trees is the term that is in turn, and at the end no bracket is open
abbrev pub SufficeFrom : List ℕ → List Tree → Type 0
SufficeFrom ks [] = ks ≡ []
SufficeFrom ks (t ∷ ts) = Suffice ks ts

module _ (leaves : Leaf → List ℕ) (signature : Signature) where
  -- what is to be written behind the term that is in turn
  abbrev pub text_behind : List ℕ → List Tree → List ℕ
  text_behind [] [] = []
  text_behind [] (t ∷ ts) = text_with leaves signature t ++ text_behind [] ts
  text_behind (zero ∷ ks) ts = []
  text_behind (suc k ∷ ks) ts = after_commas (map (text_with leaves signature) (take k ts)) ++ (codes ")" ++ text_behind ks (drop k ts))

  -- and from that term on
  abbrev pub text_from : List ℕ → List Tree → List ℕ
  text_from ks [] = []
  text_from ks (t ∷ ts) = text_with leaves signature t ++ text_behind ks ts

  -- The text so far and what is to be written are the whole: where a term is in turn,
  pub record IsWriting (text ks : List ℕ) (ts : List Tree) (whole : List ℕ) : Type 0 where
    pub suffice : SufficeFrom ks ts
    pub same : text ++ text_from ks ts ≡ whole

  -- where a term was written,
  pub record IsBehindTerm (text ks : List ℕ) (ts : List Tree) (whole : List ℕ) : Type 0 where
    pub suffice : Suffice ks ts
    pub same : text ++ text_behind ks ts ≡ whole

  -- and where a symbol was, of so many arguments.
  pub record IsBehindRoot (text ks : List ℕ) (arity : ℕ) (ts : List Tree) (whole : List ℕ) : Type 0 where
    pub enough : arity ≤ length ts
    pub suffice : Suffice ks (drop arity ts)
    pub same : text ++ (in_brackets (map (text_with leaves signature) (take arity ts)) ++ text_behind ks (drop arity ts)) ≡ whole
