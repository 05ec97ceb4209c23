-- A process that a file defines.
use Rattle.std.specs.Prelude.{ℕ, List}
use Rattle.dps_scopes.specs.Body.{Body}

-- The locals at a place of a process are the parameters of its definition, the names that `new` binds, and what patterns
-- take apart. They are numbered from 0, from the outermost binder inwards. In the terms of a body, `var i` is the i-th
-- local.

-- `let P(x,y,..) = p.`
pub record Definition : Type 0 where
  pub name : List ℕ
  pub parameters : ℕ
  pub body : Body
