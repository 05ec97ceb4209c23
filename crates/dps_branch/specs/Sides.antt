-- The two sides of a problem.
use Rattle.dps_branch.specs.declared.Side.{Side}
use Rattle.dps_branch.specs.declared.Side.TheVariants.{Left, Right}

-- the side that a side is compared with
abbrev pub opposite : Side → Side
opposite Left = Right
opposite Right = Left
