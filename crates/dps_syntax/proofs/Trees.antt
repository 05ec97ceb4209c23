-- Trees and their marks.
use Rattle.std.proofs.Common.{◌≡◌, ℕ, ◌+◌, Bool, true, false, List, [], ◌∷◌, ◌++◌, refl, ap, sym, ◌∙◌, subst, append_assoc}
use Rattle.dps_lex.specs.declared.vocabulary.TokenKind.TheVariants as kind
use Rattle.dps_syntax.specs.declared.grammar.Word.{Word}
use Rattle.dps_syntax.specs.declared.grammar.Word.TheVariants.{Of, Zero}
use Rattle.dps_syntax.specs.declared.grammar.Production.{Production}
use Rattle.dps_syntax.specs.declared.grammar.More.{More as Option_of}
use Rattle.dps_syntax.specs.declared.grammar.Symbol.{Symbol}
use Rattle.dps_syntax.specs.declared.grammar.Symbol.TheVariants.{Sign, Inner, More, Close}
use Rattle.dps_syntax.specs.declared.grammar.Mark.{Mark}
use Rattle.dps_syntax.specs.declared.grammar.Mark.TheVariants as mark
use Rattle.dps_syntax.specs.Tree.{Lexeme, Parts, none, token, inner as within, word_of, words}
use Rattle.dps_syntax.specs.Grammar.{alternatives, continuation, takes, goes_on, IsOneOf, Derives, done, sign, inner, taken, left, file}
use Rattle.dps_syntax.specs.Depth.{own_depth, depths}
use Rattle.dps_syntax.specs.Marks.{marks, mark_words, mark_depths, Walks}
use Rattle.dps_syntax.specs.Marks as walk
use Rattle.dps_syntax.proofs.Tables.{all_one, is_plain, rows_plain, more_plain}
use Rattle.dps_syntax.proofs.Walking.{up_down}

-- the marks of a tree

pub words-marks : (ps : Parts) (ms : List Mark) → mark_words (marks ps ms) ≡ words ps ++ mark_words ms
words-marks none ms = refl
words-marks (token l ps) ms = ap (λ t. word_of l ∷ t) (words-marks ps ms)
words-marks (within p i ps) ms =
    words-marks i (mark.Close p ∷ marks ps ms) ∙ ap (λ t. words i ++ t) (words-marks ps ms) ∙ sym (append_assoc (words i) (words ps) (mark_words ms))

pub depths-marks : (d : ℕ) (ps : Parts) (ms : List Mark) → mark_depths d (marks ps ms) ≡ depths d ps ++ mark_depths d ms
depths-marks d none ms = refl
depths-marks d (token l ps) ms = ap (λ t. d ∷ t) (depths-marks d ps ms)
depths-marks d (within p i ps) ms =
    depths-marks (d + own_depth p) i (mark.Close p ∷ marks ps ms)
    ∙ ap (λ t. depths (d + own_depth p) i ++ t) (ap (λ n. mark_depths n (marks ps ms)) (up_down d (own_depth p)) ∙ depths-marks d ps ms)
    ∙ sym (append_assoc (depths (d + own_depth p) i) (depths d ps) (mark_depths d ms))

-- a derivation is a walk
pub walk_before :
    {ss : List Symbol} {ps : Parts} {after : List Word} → Derives ss ps after → (rest : List Symbol) (ms : List Mark) → mark_words ms ≡ after → Walks rest ms
    → Walks (ss ++ rest) (marks ps ms)
walk_before done rest ms e w = w
walk_before (sign t d) rest ms e w = walk.sign t (walk_before d rest ms e w)
walk_before (inner {p} {ss} {inside} {parts} {after} items o i d) rest ms e w =
    let behind : Walks (ss ++ rest) (marks parts ms) = walk_before d rest ms e w in
    let next : mark_words (marks parts ms) ≡ words parts ++ after = words-marks parts ms ∙ ap (λ t. words parts ++ t) e in
    walk.inner items o (walk_before i (Close p ∷ (ss ++ rest)) (mark.Close p ∷ marks parts ms) next (walk.close behind))
walk_before (taken {m} {ss} {parts} d) rest ms e w =
    walk.taken (subst (λ t. Walks t (marks parts ms)) (append_assoc (continuation m) ss rest) (walk_before d rest ms e w))
walk_before (left {m} {ss} {parts} {after} g d) rest ms e w =
    walk.left (ap (goes_on m) (words-marks parts ms ∙ ap (λ t. words parts ++ t) e) ∙ g) (walk_before d rest ms e w)

words_nil : (xs : List Word) → xs ++ [] ≡ xs
words_nil [] = refl
words_nil (x ∷ xs) = ap (λ t. x ∷ t) (words_nil xs)

pub levels_nil : (xs : List ℕ) → xs ++ [] ≡ xs
levels_nil [] = refl
levels_nil (x ∷ xs) = ap (λ t. x ∷ t) (levels_nil xs)

pub walk_of : (ps : Parts) → Derives file ps [] → Walks file (marks ps [])
walk_of ps d = walk_before d [] [] refl walk.done

pub walk_words : (ps : Parts) → mark_words (marks ps []) ≡ words ps
walk_words ps = words-marks ps [] ∙ words_nil (words ps)

-- a walk is that of a tree

-- a token that is this word
abbrev lexeme_of : Word → Lexeme
lexeme_of (Of k) = record { kind = k; text = []; line = 0; column = 0 }
lexeme_of Zero = record { kind = kind.Number; text = 48 ∷ []; line = 0; column = 0 }

word-lexeme : (w : Word) → word_of (lexeme_of w) ≡ w
word-lexeme (Of k) = refl
word-lexeme Zero = refl

not_plain : (xs : List Symbol) (p : Production) (ys : List Symbol) → is_plain (xs ++ Close p ∷ ys) ≡ false
not_plain [] p ys = refl
not_plain (Sign k ∷ xs) p ys = not_plain xs p ys
not_plain (Inner q ∷ xs) p ys = not_plain xs p ys
not_plain (More m ∷ xs) p ys = not_plain xs p ys
not_plain (Close q ∷ xs) p ys = refl

plain_rest : (x : Symbol) (xs : List Symbol) → is_plain (x ∷ xs) ≡ true → is_plain xs ≡ true
plain_rest (Sign k) xs e = e
plain_rest (Inner q) xs e = e
plain_rest (More m) xs e = e
plain_rest (Close q) xs e = cc

plain_behind : (xs ys : List Symbol) → is_plain (xs ++ ys) ≡ true → is_plain ys ≡ true
plain_behind [] ys e = e
plain_behind (x ∷ xs) ys e = plain_behind xs ys (plain_rest x (xs ++ ys) e)

plain_derived : {ss : List Symbol} {ps : Parts} {after : List Word} → Derives ss ps after → is_plain ss ≡ true
plain_derived done = refl
plain_derived (sign t d) = plain_derived d
plain_derived (inner items o i d) = plain_derived d
plain_derived (taken {m} {ss} d) = plain_behind (continuation m) ss (plain_derived d)
plain_derived (left g d) = plain_derived d

no_close : (x : Symbol) (xs us vs : List Symbol) (p : Production) → is_plain (x ∷ xs) ≡ true → Close p ∷ us ≡ x ∷ vs → ⊥
no_close (Sign k) xs us vs p s e = cc
no_close (Inner q) xs us vs p s e = cc
no_close (More m) xs us vs p s e = cc
no_close (Close q) xs us vs p s e = cc

pub same_split : (xs ys us vs : List Symbol) (p q : Production) → is_plain xs ≡ true → is_plain ys ≡ true → xs ++ Close p ∷ us ≡ ys ++ Close q ∷ vs → (xs ≡ ys) × (p ≡ q) × (us ≡ vs)
same_split [] [] us vs p q a b e =
    let first : p ≡ q = cc in
    let rest : us ≡ vs = cc in
    (refl, first, rest)
same_split [] (y ∷ ys) us vs p q a b e = absurd (no_close y ys us (ys ++ Close q ∷ vs) p b e)
same_split (x ∷ xs) [] us vs p q a b e = absurd (no_close x xs vs (xs ++ Close p ∷ us) q a (sym e))
same_split (x ∷ xs) (y ∷ ys) us vs p q a b e =
    let whole : x ∷ (xs ++ Close p ∷ us) ≡ y ∷ (ys ++ Close q ∷ vs) = e in
    let first : x ≡ y = cc in
    let rest : xs ++ Close p ∷ us ≡ ys ++ Close q ∷ vs = cc in
    let h = same_split xs ys us vs p q (plain_rest x xs a) (plain_rest y ys b) rest in
    let both : x ∷ xs ≡ y ∷ ys = ap (λ z. z ∷ xs) first ∙ ap (λ z. y ∷ z) h.0 in
    (both, h.1, h.2)

split_behind : (xs ss front rest : List Symbol) (p : Production) → is_plain xs ≡ true → xs ++ ss ≡ front ++ Close p ∷ rest → (more : List Symbol) × (front ≡ xs ++ more) × (ss ≡ more ++ Close p ∷ rest)
split_behind [] ss front rest p a e = (front, refl, e)
split_behind (x ∷ xs) ss [] rest p a e = absurd (no_close x xs rest (xs ++ ss) p a (sym e))
split_behind (x ∷ xs) ss (y ∷ front) rest p a e =
    let whole : x ∷ (xs ++ ss) ≡ y ∷ (front ++ Close p ∷ rest) = e in
    let first : x ≡ y = cc in
    let behind : xs ++ ss ≡ front ++ Close p ∷ rest = cc in
    let h = split_behind xs ss front rest p (plain_rest x xs a) behind in
    let both : y ∷ front ≡ x ∷ (xs ++ h.0) = ap (λ z. z ∷ front) (sym first) ∙ ap (λ z. x ∷ z) h.1 in
    (h.0, both, h.2)

-- The marks are those of trees: of one list of them up to the first end of a production, and so on behind it.
data Forest : List Symbol → List Mark → Type 0 where
  whole : {ss : List Symbol} {ms : List Mark} (ps : Parts) → ms ≡ marks ps [] → Derives ss ps [] → Forest ss ms
  closed :
      {ss : List Symbol} {ms : List Mark} (front rest : List Symbol) (p : Production) (ps : Parts) (ns : List Mark) → ss ≡ front ++ Close p ∷ rest
      → ms ≡ marks ps (mark.Close p ∷ ns) → Derives front ps (mark_words ns) → Forest rest ns → Forest ss ms

sign_forest : (k w : Word) (ss : List Symbol) (ms : List Mark) → takes k w ≡ true → Forest ss ms → Forest (Sign k ∷ ss) (mark.Token w ∷ ms)
sign_forest k w ss ms t (whole ps e d) =
    let u : takes k (word_of (lexeme_of w)) ≡ true = ap (takes k) (word-lexeme w) ∙ t in
    let m : mark.Token w ∷ ms ≡ mark.Token (word_of (lexeme_of w)) ∷ marks ps [] = ap (λ x. mark.Token w ∷ x) e ∙ ap (λ x. mark.Token x ∷ marks ps []) (sym (word-lexeme w)) in
    whole (token (lexeme_of w) ps) m (sign u d)
sign_forest k w ss ms t (closed front rest p ps ns s e d f) =
    let u : takes k (word_of (lexeme_of w)) ≡ true = ap (takes k) (word-lexeme w) ∙ t in
    let m : mark.Token w ∷ ms ≡ mark.Token (word_of (lexeme_of w)) ∷ marks ps (mark.Close p ∷ ns) = ap (λ x. mark.Token w ∷ x) e
    ∙ ap (λ x. mark.Token x ∷ marks ps (mark.Close p ∷ ns)) (sym (word-lexeme w)) in
    closed (Sign k ∷ front) rest p (token (lexeme_of w) ps) ns (ap (λ x. Sign k ∷ x) s) m (sign u d) f

inner_behind :
    (p : Production) (items ss : List Symbol) (ms ns : List Mark) (inside : Parts) → IsOneOf (alternatives p) items → ms ≡ marks inside (mark.Close p ∷ ns)
    → Derives items inside (mark_words ns) → Forest ss ns → Forest (Inner p ∷ ss) (mark.Open p ∷ ms)
inner_behind p items ss ms ns inside o e i (whole ps n d) =
    let next : mark_words ns ≡ words ps ++ [] = ap mark_words n ∙ words-marks ps [] in
    whole (within p inside ps) (ap (λ x. mark.Open p ∷ x) (e ∙ ap (λ x. marks inside (mark.Close p ∷ x)) n)) (inner items o (subst (Derives items inside) next i) d)
inner_behind p items ss ms ns inside o e i (closed front rest q ps os s n d f) =
    let next : mark_words ns ≡ words ps ++ mark_words os = ap mark_words n ∙ words-marks ps (mark.Close q ∷ os) in
    closed (Inner p ∷ front) rest q (within p inside ps) os (ap (λ x. Inner p ∷ x) s) (ap (λ x. mark.Open p ∷ x) (e ∙ ap (λ x. marks inside (mark.Close p ∷ x)) n))
    (inner items o (subst (Derives items inside) next i) d) f

inner_forest : (p : Production) (items ss : List Symbol) (ms : List Mark) → IsOneOf (alternatives p) items → Forest (items ++ Close p ∷ ss) ms → Forest (Inner p ∷ ss) (mark.Open p ∷ ms)
inner_forest p items ss ms o (whole ps e d) =
    let plain : is_plain (items ++ Close p ∷ ss) ≡ true = plain_derived d in
    let no : is_plain (items ++ Close p ∷ ss) ≡ false = not_plain items p ss in
    absurd (clash (is_plain (items ++ Close p ∷ ss)) plain no)
  where
    clash : (b : Bool) → b ≡ true → b ≡ false → ⊥
    clash b t f = cc
inner_forest p items ss ms o (closed front rest q ps ns s e d f) =
    let h = same_split items front ss rest p q (all_one is_plain (alternatives p) items (rows_plain p) o) (plain_derived d) s in
    let m : ms ≡ marks ps (mark.Close p ∷ ns) = e ∙ ap (λ x. marks ps (mark.Close x ∷ ns)) (sym h.1) in
    inner_behind p items ss ms ns ps o m (subst (λ x. Derives x ps (mark_words ns)) (sym h.0) d) (subst (λ x. Forest x ns) (sym h.2) f)

taken_forest : (m : Option_of) (ss : List Symbol) (ms : List Mark) → Forest (continuation m ++ ss) ms → Forest (More m ∷ ss) ms
taken_forest m ss ms (whole ps e d) = whole ps e (taken d)
taken_forest m ss ms (closed front rest p ps ns s e d f) =
    let h = split_behind (continuation m) ss front rest p (more_plain m) s in
    closed (More m ∷ h.0) rest p ps ns (ap (λ x. More m ∷ x) h.2) e (taken (subst (λ x. Derives x ps (mark_words ns)) h.1 d)) f

left_forest : (m : Option_of) (ss : List Symbol) (ms : List Mark) → goes_on m (mark_words ms) ≡ false → Forest ss ms → Forest (More m ∷ ss) ms
left_forest m ss ms g (whole ps e d) = whole ps e (left (ap (goes_on m) (sym (ap mark_words e ∙ words-marks ps [])) ∙ g) d)
left_forest m ss ms g (closed front rest p ps ns s e d f) =
    closed (More m ∷ front) rest p ps ns (ap (λ x. More m ∷ x) s) e (left (ap (goes_on m) (sym (ap mark_words e ∙ words-marks ps (mark.Close p ∷ ns))) ∙ g) d) f

forest : {ss : List Symbol} {ms : List Mark} → Walks ss ms → Forest ss ms
forest walk.done = whole none refl done
forest (walk.sign {k} {w} {ss} {ms} t d) = sign_forest k w ss ms t (forest d)
forest (walk.inner {p} {ss} {ms} items o d) = inner_forest p items ss ms o (forest d)
forest (walk.close {p} {ss} {ms} d) = closed [] ss p none ms refl refl done (forest d)
forest (walk.taken {m} {ss} {ms} d) = taken_forest m ss ms (forest d)
forest (walk.left {m} {ss} {ms} g d) = left_forest m ss ms g (forest d)

-- some trees of a file with these marks
pub record IsTreeOf (ms : List Mark) : Type 0 where
  pub trees : Parts
  pub derived : Derives file trees []
  pub marked : ms ≡ marks trees []
  pub spelled : words trees ≡ mark_words ms
  pub levels : depths 0 trees ≡ mark_depths 0 ms

of_forest : (ms : List Mark) → Forest file ms → IsTreeOf ms
of_forest ms (whole ps e d) = record {
  trees = ps;
  derived = d;
  marked = e;
  spelled = sym (ap mark_words e ∙ walk_words ps);
  levels = sym (ap (mark_depths 0) e ∙ depths-marks 0 ps [] ∙ levels_nil (depths 0 ps));
}
of_forest ms (closed front rest p ps ns s e d f) =
    let plain : is_plain file ≡ false = ap is_plain s ∙ not_plain front p rest in
    cc

pub tree_of : (ms : List Mark) → Walks file ms → IsTreeOf ms
tree_of ms w = of_forest ms (forest w)
