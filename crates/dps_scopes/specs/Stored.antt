-- How a proof stores what a file says: as nested pairs of numbers, from which it is read back.
use Rattle.std.specs.Prelude.{◌≡◌, List, [], ◌∷◌, refl}
use Rattle.std.specs.Coded.{Coded, code_by}
use base.Stored.{Gv, gnil, gnum, gcons}
use denote.Struct.Codes.{itself}
use Rattle.dps_lex.specs.declared.vocabulary.Place.{Place}
use Rattle.dps_terms.specs.Stored.{stored, read, read-stored}
use Rattle.dps_scopes.specs.declared.written.Use.{Use}
use Rattle.dps_scopes.specs.declared.written.Use.TheVariants.{PrivateName, Local}
use Rattle.dps_scopes.specs.Written.{Written}

abbrev pub stored_place : Place → Gv
stored_place place = gcons (gnum place.line) (gnum place.column)

abbrev pub read_place : Gv → Place
read_place (gcons (gnum line) (gnum column)) = record { line = line; column = column }
read_place _ = record { line = 0; column = 0 }

abbrev pub stored_use : Use → Gv
stored_use (PrivateName n place) = gcons (gnum n) (stored_place place)
stored_use (Local n) = gnum n

abbrev pub read_use : Gv → Use
read_use (gcons (gnum n) place) = PrivateName n (read_place place)
read_use (gnum n) = Local n
read_use _ = Local 0

pub read_use-stored_use : (u : Use) → read_use (stored_use u) ≡ u
read_use-stored_use (PrivateName n place) = refl
read_use-stored_use (Local n) = refl

abbrev pub stored_uses : List Use → Gv
stored_uses [] = gnil
stored_uses (u ∷ us) = gcons (stored_use u) (stored_uses us)

abbrev pub read_uses : Gv → List Use
read_uses (gcons u us) = read_use u ∷ read_uses us
read_uses _ = []

pub read_uses-stored_uses : (us : List Use) → read_uses (stored_uses us) ≡ us
read_uses-stored_uses [] = refl
read_uses-stored_uses (u ∷ us) = λ i. read_use-stored_use u i ∷ read_uses-stored_uses us i

abbrev pub stored_written : Written → Gv
stored_written w = gcons (stored w.tree) (stored_uses w.uses)

abbrev pub read_written : Gv → Written
read_written (gcons t us) = record { tree = read t; uses = read_uses us }
read_written _ = record { tree = read gnil; uses = [] }

pub read_written-stored_written : (w : Written) → read_written (stored_written w) ≡ w
read_written-stored_written w = λ i. record { tree = read-stored w.tree i; uses = read_uses-stored_uses w.uses i }

abbrev pub written_code : Coded Written
written_code = code_by Gv itself stored_written read_written read_written-stored_written
