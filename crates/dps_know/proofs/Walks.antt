-- Trees that are built on a stack, from the last argument to the first.
use Rattle.std.proofs.Common.{◌≡◌, ℕ, suc, ◌+◌, ◌<◌, List, [], ◌∷◌, ◌++◌, length, slice_get, get_or, map, take, drop, Some, ap, sym, ◌∙◌, arith}
use Rattle.std.proofs.Math.Seq.{drop-cons, take-append_seam, drop-append_seam}
use Rattle.std.proofs.lemmas.List.{length-map, drop_all, map-append, take_more}
use Rattle.std.proofs.lemmas.Option.{slice_get_within, get_or_from_slice_get}
use Rattle.dps_terms.specs.declared.Sym.{Sym}
use Rattle.dps_terms.specs.declared.borrowed.TermView.TheVariants.{App}
use Rattle.dps_terms.specs.Tree.{Leaf, Tree, leaf, app, list_of, trees}
use Rattle.dps_terms.specs.Views.{view_of, arguments}
use Rattle.dps_terms.specs.Replace.{replace, replace_all}
use Rattle.dps_terms.proofs.Arguments.{leaf_is_no_app, replace_trees}
use Rattle.dps_terms.proofs.Subterms.{trees-list_of}

-- what stands on the stack when so many arguments are left
abbrev pub IsWalked : (Tree → Tree) → Tree → ℕ → List Tree → List Tree → Type 0
IsWalked F t left old stack = stack ≡ map F (drop left (arguments t)) ++ old

pub begun : (F : Tree → Tree) (t : Tree) (left : ℕ) (old : List Tree) → left ≡ length (arguments t) → IsWalked F t left old old
begun F t left old e = sym (ap (λ ts. map F ts ++ old) (ap (λ n. drop n (arguments t)) e ∙ drop_all (length (arguments t)) (arguments t) (omega arith)))

pub walked_on :
    (F : Tree → Tree) (t u : Tree) (left next : ℕ) (old stack : List Tree) → IsWalked F t left old stack → next + 1 ≡ left
    → slice_get (arguments t) next ≡ Some u → IsWalked F t next old (F u ∷ stack)
walked_on F t u left next old stack h e there =
    let within = slice_get_within (arguments t) next u there in
    let at : get_or (arguments t) next u ≡ u = get_or_from_slice_get (arguments t) next u u there in
    let here : suc next ≡ left = omega (arith, e) in
    let split : drop next (arguments t) ≡ u ∷ drop left (arguments t) =
    drop-cons (arguments t) next u within ∙ (λ i. at i ∷ drop (suc next) (arguments t)) ∙ ap (λ n. u ∷ drop n (arguments t)) here in
    ap (λ s. F u ∷ s) h ∙ sym (ap (λ ts. map F ts ++ old) split)

pub applied :
    (f : Leaf → Tree) (t : Tree) (s : Sym) (left arity : ℕ) (old stack : List Tree) → App s ≡ view_of t → arity ≡ length (arguments t)
    → left ≡ 0 → IsWalked (replace f) t left old stack → app s (trees (take arity stack)) ∷ drop arity stack ≡ replace f t ∷ old
applied f (leaf x) s left arity old stack v e z h = absurd (leaf_is_no_app x s (sym v))
applied f (app g ts) s left arity old stack v e z h =
    let same : s ≡ g = cc in
    let made : List Tree = map (replace f) (list_of ts) in
    let is : stack ≡ made ++ old = h ∙ ap (λ n. map (replace f) (drop n (list_of ts)) ++ old) z in
    let long : arity ≡ length made = e ∙ sym (length-map (list_of ts) (replace f)) in
    let front : take arity stack ≡ made = (λ i. take (long i) (is i)) ∙ take-append_seam made old in
    let behind : drop arity stack ≡ old = (λ i. drop (long i) (is i)) ∙ drop-append_seam made old in
    let whole : trees made ≡ replace_all f ts = sym (replace_trees f (list_of ts)) ∙ ap (replace_all f) (trees-list_of ts) in
    λ i. app (same i) ((ap trees front ∙ whole) i) ∷ behind i

-- what a loop over a list makes of it
pub mapped_more :
    {X Y : Type 0} (F : X → Y) (xs : List X) (made : List Y) (i : ℕ) (x : X) (y : Y) → made ≡ map F (take i xs)
    → i < length xs → x ≡ get_or xs i x → y ≡ F x → made ++ y ∷ [] ≡ map F (take (i + 1) xs)
mapped_more F xs made i x y h within at is =
    (λ j. h j ++ (is ∙ ap F at) j ∷ []) ∙ sym (map-append F (take i xs) (get_or xs i x ∷ [])) ∙ ap (map F) (sym (take_more xs i x within))
