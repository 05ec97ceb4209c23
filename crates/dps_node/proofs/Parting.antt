-- How the configurations of a node are parted, from the last to the first.
use Rattle.std.proofs.Common.{◌≡◌, ℕ, map, suc, ◌<◌, ◌≤◌, List, [], ◌∷◌, ◌++◌, Bool, true, false, length, get_or, take, refl, ap, sym, subst, ◌∙◌, append_assoc, arith}
use Rattle.std.proofs.Math.Seq.{take-suc}
use Rattle.std.specs.Prelude.{reverse}
use Rattle.std.proofs.lemmas.List.{reverse-append, length-take-le, length-append, get_or_default}
use Rattle.dps_node.specs.Node.{SymbolicConfig, Node, with_configs}
use Rattle.dps_node.specs.Splits.{chosen, where_any, partition}
use Rattle.dps_node.specs.declared.node.SymConfig.{SymConfig}
use Rattle.dps_node.specs.Code.{config_of}

one_less : (n m : ℕ) → suc n ≡ suc m → n ≡ m
one_less n m e = omega arith

pub chosen_last :
    {A : Type 0} (b : Bool) (bs : List Bool) (cs : List A) (h : Bool) (c : A) → length bs ≡ length cs
    → chosen b (bs ++ h ∷ []) (cs ++ c ∷ []) ≡ chosen b bs cs ++ chosen b (h ∷ []) (c ∷ [])
chosen_last true [] [] h c e = refl
chosen_last false [] [] h c e = refl
chosen_last b [] (x ∷ cs) h c e = absurd (omega arith)
chosen_last b (k ∷ bs) [] h c e = absurd (omega arith)
chosen_last true (true ∷ bs) (x ∷ cs) h c e = ap (λ ys. x ∷ ys) (chosen_last true bs cs h c (one_less (length bs) (length cs) e))
chosen_last true (false ∷ bs) (x ∷ cs) h c e = chosen_last true bs cs h c (one_less (length bs) (length cs) e)
chosen_last false (true ∷ bs) (x ∷ cs) h c e = chosen_last false bs cs h c (one_less (length bs) (length cs) e)
chosen_last false (false ∷ bs) (x ∷ cs) h c e = ap (λ ys. x ∷ ys) (chosen_last false bs cs h c (one_less (length bs) (length cs) e))

-- what is chosen of one is itself turned round
one_round : {A : Type 0} (b h : Bool) (c : A) → reverse (chosen b (h ∷ []) (c ∷ [])) ≡ chosen b (h ∷ []) (c ∷ [])
one_round true true c = refl
one_round true false c = refl
one_round false true c = refl
one_round false false c = refl

-- the last configuration goes to those of its truth value
pub next_chosen : {A : Type 0} (b h : Bool) (holds : List Bool) (all left these : List A) (c : A)
    → length left < length holds → get_or holds (length left) h ≡ h
    → chosen b (take (length (left ++ c ∷ [])) holds) (left ++ c ∷ []) ++ reverse these ≡ chosen b holds all
    → chosen b (take (length left) holds) left ++ reverse (these ++ chosen b (h ∷ []) (c ∷ [])) ≡ chosen b holds all
next_chosen b h holds all left these c l g e =
    let i : ℕ = length left in
    let k : take (length (left ++ c ∷ [])) holds ≡ take i holds ++ h ∷ [] =
    ap (λ n. take n holds) (length_more left c) ∙ take-suc holds i h l ∙ ap (λ x. take i holds ++ x ∷ []) g in
    let m : length (take i holds) ≡ i = length-take-le i holds (omega arith) in
    let s = chosen_last b (take i holds) left h c m in
    ap (λ xs. chosen b (take i holds) left ++ xs) (reverse-append these (chosen b (h ∷ []) (c ∷ [])) ∙ ap (λ xs. xs ++ reverse these) (one_round b h c))
    ∙ (sym (append_assoc (chosen b (take i holds) left) (chosen b (h ∷ []) (c ∷ [])) (reverse these))
    ∙ (ap (λ xs. xs ++ reverse these) (sym s ∙ ap (λ bs. chosen b bs (left ++ c ∷ [])) (sym k)) ∙ e))
  where
    length_more : {A : Type 0} (xs : List A) (x : A) → length (xs ++ x ∷ []) ≡ suc (length xs)
    length_more [] x = refl
    length_more (y ∷ xs) x = ap suc (length_more xs x)

-- what is left after one was taken is shorter
pub taken_shorter : {A : Type 0} (holds : List Bool) (before left : List A) (c : A) → before ≡ left ++ c ∷ [] → length before ≤ length holds → length left < length holds
taken_shorter holds before left c at within = omega (arith, ap length at, length-append left (c ∷ []), within)

-- the same after the last one was taken from a list
pub pushed : {A : Type 0} (b h d : Bool) (holds : List Bool) (all before left these : List A) (c : A) (j : ℕ)
    → before ≡ left ++ c ∷ [] → length before ≤ length holds → j ≡ length left → get_or holds j d ≡ h
    → chosen b (take (length before) holds) before ++ reverse these ≡ chosen b holds all
    → chosen b (take (length left) holds) left ++ reverse (these ++ chosen b (h ∷ []) (c ∷ [])) ≡ chosen b holds all
pushed b h d holds all before left these c j at within place g e =
    let shorter : length left < length holds = taken_shorter holds before left c at within in
    let there : get_or holds (length left) h ≡ h =
    get_or_default holds (length left) h d shorter ∙ ap (λ n. get_or holds n d) (sym place) ∙ g in
    next_chosen b h holds all left these c shorter there (subst (λ ls. chosen b (take (length ls) holds) ls ++ reverse these ≡ chosen b holds all) at e)

-- in the end all are parted
pub all_chosen : {A : Type 0} (b : Bool) (holds : List Bool) (all left these : List A) → left ≡ []
    → chosen b (take (length left) holds) left ++ reverse these ≡ chosen b holds all → reverse these ≡ chosen b holds all
all_chosen true holds all left these n e = ap (λ ls. chosen true (take (length ls) holds) ls ++ reverse these) (sym n) ∙ e
all_chosen false holds all left these n e = ap (λ ls. chosen false (take (length ls) holds) ls ++ reverse these) (sym n) ∙ e

pub mapped_chosen : {A B : Type 0} (f : A → B) (b : Bool) (bs : List Bool) (cs : List A) → map f (chosen b bs cs) ≡ chosen b bs (map f cs)
mapped_chosen f true [] cs = refl
mapped_chosen f false [] cs = refl
mapped_chosen f true (true ∷ bs) [] = refl
mapped_chosen f true (false ∷ bs) [] = refl
mapped_chosen f false (true ∷ bs) [] = refl
mapped_chosen f false (false ∷ bs) [] = refl
mapped_chosen f true (true ∷ bs) (c ∷ cs) = ap (λ ys. f c ∷ ys) (mapped_chosen f true bs cs)
mapped_chosen f true (false ∷ bs) (c ∷ cs) = mapped_chosen f true bs cs
mapped_chosen f false (true ∷ bs) (c ∷ cs) = mapped_chosen f false bs cs
mapped_chosen f false (false ∷ bs) (c ∷ cs) = ap (λ ys. f c ∷ ys) (mapped_chosen f false bs cs)

-- the node's own configurations don't matter to a kid
where_alike : (node : Node) (ds cs : List SymbolicConfig) → where_any (with_configs node ds) cs ≡ where_any node cs
where_alike node ds [] = refl
where_alike node ds (c ∷ cs) = refl

-- the kids of a partition are those with the configurations that are chosen
pub parts_are :
    (node : Node) (holds : List Bool) (cs these others : List SymConfig) (ds : List SymbolicConfig)
    → node.configs ≡ map config_of cs → these ≡ chosen true holds cs → others ≡ chosen false holds cs
    → where_any (with_configs node ds) (map config_of these) ++ where_any (with_configs node ds) (map config_of others) ≡ partition node holds
parts_are node holds cs these others ds k t o =
    let first : map config_of these ≡ chosen true holds (node.configs) =
    ap (map config_of) t ∙ mapped_chosen config_of true holds cs ∙ ap (chosen true holds) (sym k) in
    let second : map config_of others ≡ chosen false holds (node.configs) =
    ap (map config_of) o ∙ mapped_chosen config_of false holds cs ∙ ap (chosen false holds) (sym k) in
    (λ i. where_alike node ds (map config_of these) i ++ where_alike node ds (map config_of others) i)
    ∙ (λ i. where_any node (first i) ++ where_any node (second i))
