-- The kids of a node of a table are the kids of its look tree.
use Rattle.std.proofs.Common.{◌≡◌, ℕ, zero, suc, ◌+◌, ◌*◌, ◌<◌, ◌^◌, List, [], ◌∷◌, ◌++◌, length, map, Option, Some, None, refl, ap, ◌∙◌, sym, subst, arith}
use Rattle.std.specs.Prelude.{slice_get}
use Rattle.std.proofs.lemmas.Option.{same_Some, none-some}
use Rattle.dps_branch.specs.declared.kind.StopKind.{StopKind}
use Rattle.dps_branch.specs.LookTrees.{LookTree, LookTrees, kids, none_left, one_more, list_of}
use Rattle.dps_branch.specs.Looks.{AreKids}
use Rattle.dps_pool.specs.Table.{entry_tree, table_tree}
use Rattle.dps_pool.specs.TableNodes.{IsKid, AreBoth}
use Rattle.dps_pool.specs.declared.table.TableNode.{TableNode}

abbrev pub place_of : TableNode → List ℕ
place_of n = n.path

abbrev pub tree_of : TableNode → LookTree
tree_of n = table_tree n.levels n.table.now n.index

kid-tree : (node kid : TableNode) (number index : ℕ) (levels : ℕ) → IsKid node number index kid → node.levels ≡ suc levels → tree_of kid ≡ table_tree levels node.table.now index
kid-tree node kid number index levels k e =
    let l : kid.levels ≡ levels = omega (arith, k.levels, e) in
    ap (λ n. table_tree n kid.table.now kid.index) l ∙ ap (λ (t : List (Option StopKind)). table_tree levels t kid.index) k.table ∙ ap (table_tree levels node.table.now) k.entry

two : {A : Type 0} (P : ℕ → A → Type 0) (x y : A) → P 0 x → P 1 y → (i : ℕ) (n : A) → slice_get (x ∷ y ∷ []) i ≡ Some n → P i n
two P x y p q zero n e = subst (P 0) (same_Some x n e) p
two P x y p q (suc zero) n e = subst (P 1) (same_Some y n e) q
two P x y p q (suc (suc i)) n e = absurd (none-some n e)

pub both-kids : (node : TableNode) (levels : ℕ) (nodes : List TableNode) → node.levels ≡ suc levels → slice_get node.table.now node.index ≡ Some None → AreBoth node nodes
    → AreKids place_of tree_of node.path (tree_of node) nodes
both-kids node levels nodes e entry b =
    let table : List (Option StopKind) = node.table.now in
    let one : LookTree = table_tree levels table (2 * node.index + 1) in
    let other : LookTree = table_tree levels table (2 * node.index + 2) in
    record {
      trees = one_more one (one_more other none_left);
      tree_is = ap (λ n. table_tree n table node.index) e ∙ ap (λ (x : Option (Option StopKind)). entry_tree x (one_more one (one_more other none_left))) entry;
      looks_are =
          ap (map tree_of) b.2
          ∙ ap (λ (t : LookTree). t ∷ tree_of b.1 ∷ []) (kid-tree node b.0 0 (2 * node.index + 1) levels b.3 e)
          ∙ ap (λ (t : LookTree). one ∷ t ∷ []) (kid-tree node b.1 1 (2 * node.index + 2) levels b.4 e);
      few = omega (arith, ap length b.2);
      places = λ i n g. two (λ i n. place_of n ≡ node.path ++ i ∷ []) b.0 b.1 b.3.path b.4.path i n (ap (λ (xs : List TableNode). slice_get xs i) (sym b.2) ∙ g);
    }

pub no-kids : (node : TableNode) (tree : LookTree) → tree ≡ kids none_left → AreKids place_of tree_of node.path tree []
no-kids node tree e = record { trees = none_left; tree_is = e; looks_are = refl; few = omega arith; places = λ i n g. absurd (none-some n g) }
