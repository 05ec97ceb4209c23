-- What the first cell of a tree shows.
use Rattle.std.proofs.Common.{◌≡◌, ℕ, length, refl, arith}
use Rattle.dps_terms.specs.declared.PublicName.TheVariants.{Declared, At}
use Rattle.dps_terms.specs.declared.cells.Cell.{Cell}
use Rattle.dps_terms.specs.declared.cells.Cell.TheVariants.{App, Declared as DeclaredCell, At as AtCell, Private, Var, Ax, Entry, Rigid}
use Rattle.dps_terms.specs.declared.borrowed.TermView.{TermView}
use Rattle.dps_terms.specs.declared.borrowed.TermView.TheVariants.{App as AppView, Public as PublicView, Private as PrivateView, Var as VarView, Ax as AxView, Entry as EntryView, Rigid as RigidView}
use Rattle.dps_terms.specs.Tree.{public, private, var, ax, entry, rigid, Tree, Trees, leaf, app, none, more, count, list_of}
use Rattle.dps_terms.specs.Views.{view_of, arguments}
use Rattle.dps_terms.specs.Cells.{root_of}

abbrev pub shown : Cell → TermView
shown (App f n w) = AppView f
shown (DeclaredCell n) = PublicView (Declared n)
shown (AtCell n) = PublicView (At n)
shown (Private n) = PrivateView n
shown (Var n) = VarView n
shown (Ax n) = AxView n
shown (Entry n) = EntryView n
shown (Rigid n) = RigidView n

pub view_at_root : (t : Tree) → view_of t ≡ shown (root_of t)
view_at_root (app f ts) = refl
view_at_root (leaf (public (Declared n))) = refl
view_at_root (leaf (public (At n))) = refl
view_at_root (leaf (private n)) = refl
view_at_root (leaf (var n)) = refl
view_at_root (leaf (ax n)) = refl
view_at_root (leaf (entry n)) = refl
view_at_root (leaf (rigid n)) = refl

abbrev pub taken : Cell → ℕ
taken (App f n w) = n
taken _ = 0

length-list_of : (ts : Trees) → length (list_of ts) ≡ count ts
length-list_of none = refl
length-list_of (more t ts) = omega (arith, length-list_of ts)

pub arity_at_root : (t : Tree) → length (arguments t) ≡ taken (root_of t)
arity_at_root (app f ts) = length-list_of ts
arity_at_root (leaf (public (Declared n))) = refl
arity_at_root (leaf (public (At n))) = refl
arity_at_root (leaf (private n)) = refl
arity_at_root (leaf (var n)) = refl
arity_at_root (leaf (ax n)) = refl
arity_at_root (leaf (entry n)) = refl
arity_at_root (leaf (rigid n)) = refl

pub ruleset same_root = (view_at_root, arity_at_root)

pub ruleset arguments_there = (arity_at_root)
