-- Processes, as a file writes them: names are looked up, and a name is no text any more.
use Rattle.std.specs.Prelude.{ℕ, ◌+◌, List, [], ◌∷◌}
use Rattle.dps_scopes.specs.Written.{Written}
use Rattle.dps_scopes.specs.declared.body.Channel.{Channel}
use Rattle.dps_scopes.specs.declared.body.Step.{Step}

-- The value that a pattern takes apart is the next local at its `in` or `let`.
mutual
  pub data Body : Type 0 where
    -- `0`
    nil : Body
    -- `p | q | ..`
    parallel : Bodies → Body
    -- `p + q + ..`
    choice : Bodies → Body
    -- `!^n p`
    copies : ℕ → Body → Body
    -- `new k; p`: k is the next local
    fresh : Body → Body
    -- `in(c,pattern); p`
    input : Channel → List Step → Body → Body
    -- `out(c,u); p`
    output : Channel → Written → Body → Body
    -- `if u = v then p else q`
    conditional : Written → Written → Body → Body → Body
    -- `let pattern = u in p else q`
    bind : Written → List Step → Body → Body → Body
    -- `P(u,v,..)`: the definition with that number
    call : ℕ → List Written → Body

  pub data Bodies : Type 0 where
    none : Bodies
    more : Body → Bodies → Bodies

-- the processes of a list
abbrev pub bodies : List Body → Bodies
bodies [] = none
bodies (p ∷ ps) = more p (bodies ps)

-- the number of processes in a process, itself included
abbrev mutual
  pub body_nodes : Body → ℕ
  body_nodes nil = 1
  body_nodes (parallel ps) = 1 + all_nodes ps
  body_nodes (choice ps) = 1 + all_nodes ps
  body_nodes (copies n p) = 1 + body_nodes p
  body_nodes (fresh p) = 1 + body_nodes p
  body_nodes (input c steps p) = 1 + body_nodes p
  body_nodes (output c u p) = 1 + body_nodes p
  body_nodes (conditional u v p q) = 1 + body_nodes p + body_nodes q
  body_nodes (bind u steps p q) = 1 + body_nodes p + body_nodes q
  body_nodes (call n arguments) = 1

  pub all_nodes : Bodies → ℕ
  all_nodes none = 0
  all_nodes (more p ps) = body_nodes p + all_nodes ps
