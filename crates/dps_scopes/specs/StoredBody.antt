-- How a proof stores processes: as nested pairs of numbers, from which they are read back.
use Rattle.std.specs.Prelude.{◌≡◌, List, [], ◌∷◌, refl}
use Rattle.std.specs.Coded.{Coded, code_by}
use Rattle.std.proofs.Common.{zero, suc}
use base.Stored.{Gv, gnil, gnum, gcons}
use denote.Struct.Codes.{itself}
use Rattle.dps_terms.specs.Stored.{stored, read, read-stored}
use Rattle.dps_scopes.specs.declared.body.Channel.{Channel}
use Rattle.dps_scopes.specs.declared.body.Step.{Step}
use Rattle.dps_scopes.specs.declared.body.Step.TheVariants.{Project, Test}
use Rattle.dps_scopes.specs.Written.{Written}
use Rattle.dps_scopes.specs.Stored.{stored_place, read_place, stored_written, read_written, read_written-stored_written}
use Rattle.dps_scopes.specs.Body.{Body, Bodies, nil, parallel, choice, copies, fresh, input, output, conditional, bind, call, none, more}

abbrev pub stored_channel : Channel → Gv
stored_channel c = gcons (stored c.tree) (stored_place c.place)

abbrev pub read_channel : Gv → Channel
read_channel (gcons t place) = record { tree = read t; place = read_place place }
read_channel _ = record { tree = read gnil; place = read_place gnil }

pub read_channel-stored_channel : (c : Channel) → read_channel (stored_channel c) ≡ c
read_channel-stored_channel c = λ i. record { tree = read-stored c.tree i; place = c.place }

abbrev pub stored_step : Step → Gv
stored_step (Project f n) = gcons (gcons (gnum f.number) gnil) (gnum n)
stored_step (Test n w) = gcons (gnum n) (stored_written w)

abbrev pub read_step : Gv → Step
read_step (gcons (gcons (gnum f) x) (gnum n)) = Project (record { number = f }) n
read_step (gcons (gnum n) w) = Test n (read_written w)
read_step _ = Project (record { number = 0 }) 0

pub read_step-stored_step : (s : Step) → read_step (stored_step s) ≡ s
read_step-stored_step (Project f n) = refl
read_step-stored_step (Test n w) = λ i. Test n (read_written-stored_written w i)

abbrev pub step_code : Coded Step
step_code = code_by Gv itself stored_step read_step read_step-stored_step

abbrev pub stored_steps : List Step → Gv
stored_steps [] = gnil
stored_steps (s ∷ ss) = gcons (stored_step s) (stored_steps ss)

abbrev pub read_steps : Gv → List Step
read_steps (gcons s ss) = read_step s ∷ read_steps ss
read_steps _ = []

pub read_steps-stored_steps : (ss : List Step) → read_steps (stored_steps ss) ≡ ss
read_steps-stored_steps [] = refl
read_steps-stored_steps (s ∷ ss) = λ i. read_step-stored_step s i ∷ read_steps-stored_steps ss i

abbrev pub stored_all : List Written → Gv
stored_all [] = gnil
stored_all (w ∷ ws) = gcons (stored_written w) (stored_all ws)

abbrev pub read_all : Gv → List Written
read_all (gcons w ws) = read_written w ∷ read_all ws
read_all _ = []

pub read_all-stored_all : (ws : List Written) → read_all (stored_all ws) ≡ ws
read_all-stored_all [] = refl
read_all-stored_all (w ∷ ws) = λ i. read_written-stored_written w i ∷ read_all-stored_all ws i

-- the number of the form, and then its parts
abbrev mutual
  pub stored_body : Body → Gv
  stored_body nil = gnil
  stored_body (parallel ps) = gcons (gnum 0) (stored_bodies ps)
  stored_body (choice ps) = gcons (gnum 1) (stored_bodies ps)
  stored_body (copies n p) = gcons (gnum 2) (gcons (gnum n) (stored_body p))
  stored_body (fresh p) = gcons (gnum 3) (stored_body p)
  stored_body (input c steps p) = gcons (gnum 4) (gcons (gcons (stored_channel c) (stored_steps steps)) (stored_body p))
  stored_body (output c u p) = gcons (gnum 5) (gcons (gcons (stored_channel c) (stored_written u)) (stored_body p))
  stored_body (conditional u v p q) = gcons (gnum 6) (gcons (gcons (stored_written u) (stored_written v)) (gcons (stored_body p) (stored_body q)))
  stored_body (bind u steps p q) = gcons (gnum 7) (gcons (gcons (stored_written u) (stored_steps steps)) (gcons (stored_body p) (stored_body q)))
  stored_body (call n arguments) = gcons (gnum 8) (gcons (gnum n) (stored_all arguments))

  pub stored_bodies : Bodies → Gv
  stored_bodies none = gnil
  stored_bodies (more p ps) = gcons (stored_body p) (stored_bodies ps)

abbrev mutual
  pub read_body : Gv → Body
  read_body (gcons (gnum zero) ps) = parallel (read_bodies ps)
  read_body (gcons (gnum (suc zero)) ps) = choice (read_bodies ps)
  read_body (gcons (gnum (suc (suc zero))) (gcons (gnum n) p)) = copies n (read_body p)
  read_body (gcons (gnum (suc (suc (suc zero)))) p) = fresh (read_body p)
  read_body (gcons (gnum (suc (suc (suc (suc zero))))) (gcons (gcons c steps) p)) = input (read_channel c) (read_steps steps) (read_body p)
  read_body (gcons (gnum (suc (suc (suc (suc (suc zero)))))) (gcons (gcons c u) p)) = output (read_channel c) (read_written u) (read_body p)
  read_body (gcons (gnum (suc (suc (suc (suc (suc (suc zero))))))) (gcons (gcons u v) (gcons p q))) = conditional (read_written u) (read_written v) (read_body p) (read_body q)
  read_body (gcons (gnum (suc (suc (suc (suc (suc (suc (suc zero)))))))) (gcons (gcons u steps) (gcons p q))) = bind (read_written u) (read_steps steps) (read_body p) (read_body q)
  read_body (gcons (gnum (suc (suc (suc (suc (suc (suc (suc (suc zero))))))))) (gcons (gnum n) arguments)) = call n (read_all arguments)
  read_body _ = nil

  pub read_bodies : Gv → Bodies
  read_bodies (gcons p ps) = more (read_body p) (read_bodies ps)
  read_bodies _ = none

mutual
  pub read_body-stored_body : (p : Body) → read_body (stored_body p) ≡ p
  read_body-stored_body nil = refl
  read_body-stored_body (parallel ps) = λ i. parallel (read_bodies-stored_bodies ps i)
  read_body-stored_body (choice ps) = λ i. choice (read_bodies-stored_bodies ps i)
  read_body-stored_body (copies n p) = λ i. copies n (read_body-stored_body p i)
  read_body-stored_body (fresh p) = λ i. fresh (read_body-stored_body p i)
  read_body-stored_body (input c steps p) =
      λ i. input (read_channel-stored_channel c i) (read_steps-stored_steps steps i) (read_body-stored_body p i)
  read_body-stored_body (output c u p) =
      λ i. output (read_channel-stored_channel c i) (read_written-stored_written u i) (read_body-stored_body p i)
  read_body-stored_body (conditional u v p q) =
      λ i. conditional (read_written-stored_written u i) (read_written-stored_written v i) (read_body-stored_body p i) (read_body-stored_body q i)
  read_body-stored_body (bind u steps p q) =
      λ i. bind (read_written-stored_written u i) (read_steps-stored_steps steps i) (read_body-stored_body p i) (read_body-stored_body q i)
  read_body-stored_body (call n arguments) = λ i. call n (read_all-stored_all arguments i)

  pub read_bodies-stored_bodies : (ps : Bodies) → read_bodies (stored_bodies ps) ≡ ps
  read_bodies-stored_bodies none = refl
  read_bodies-stored_bodies (more p ps) = λ i. more (read_body-stored_body p i) (read_bodies-stored_bodies ps i)

abbrev pub body_code : Coded Body
body_code = code_by Gv itself stored_body read_body read_body-stored_body
