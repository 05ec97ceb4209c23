-- The branches of tests and bindings.
use Rattle.std.proofs.Common.{◌≡◌, ℕ, List, [], ◌∷◌, refl, ap}
use Rattle.dps_terms.specs.Tree.{Tree}
use Rattle.dps_theory.specs.Evaluation.{Evaluates, IsMessage, AreEqual, named}
use Rattle.dps_theory.specs.Examples.{signature, theory, over, senc, sdec, a, b}
use Rattle.dps_theory.proofs.Evaluating.{evaluates_once}
use Rattle.dps_theory.proofs.Encryption.{decryption_accepted, opens, no_ciphertext, plain_equal, different_results}
use Rattle.dps_process.specs.Process.{Process, conditional, bind, put}
use Rattle.dps_process.specs.Steps.{Action, silent, PartSteps, passes, fails, binds, binds_not}
use Rattle.dps_examples.specs.Examples.{GoesOnAs, TakesFirst, TakesSecond}
use Rattle.dps_examples.specs.declared.branches.Branching.TheVariants.{SameNames, DifferentNames, SameFailure, SameValue, ValueOnTheRight, LeftFailure, RightFailure, BoundValue, BoundFailure}

abbrev IsTaken : Action → List Process → List Tree → Process → Type 0
IsTaken action become added r = (action ≡ silent) × (become ≡ r ∷ []) × (added ≡ [])

only_first :
    {u v : Tree} {p q : Process} {frame : List Tree} {action : Action} {become : List Process} {added : List Tree}
    → AreEqual theory u v → PartSteps signature theory frame (conditional u v p q) action become added
    → IsTaken action become added p
only_first h (passes k) = (refl, refl, refl)
only_first h (fails k) = absurd (k h)

only_second :
    {u v : Tree} {p q : Process} {frame : List Tree} {action : Action} {become : List Process} {added : List Tree}
    → ¬ AreEqual theory u v → PartSteps signature theory frame (conditional u v p q) action become added
    → IsTaken action become added q
only_second h (passes k) = absurd (h k)
only_second h (fails k) = (refl, refl, refl)

test_first : (u v : Tree) (frame : List Tree) (p q : Process) → AreEqual theory u v → GoesOnAs frame (conditional u v p q) p
test_first u v frame p q h = record { goes = passes h; alone = λ action become added m. only_first h m }

test_second : (u v : Tree) (frame : List Tree) (p q : Process) → ¬ AreEqual theory u v → GoesOnAs frame (conditional u v p q) q
test_second u v frame p q h = record { goes = fails h; alone = λ action become added m. only_second h m }

only_bound :
    {x : ℕ} {u t : Tree} {p q : Process} {frame : List Tree} {action : Action} {become : List Process} {added : List Tree}
    → Evaluates theory u t → PartSteps signature theory frame (bind x u p q) action become added
    → IsTaken action become added (put x t p)
only_bound {x} {p = p} h (binds k) = (refl, ap (λ (s : Tree). put x s p ∷ []) (evaluates_once theory decryption_accepted k h), refl)
only_bound {t = t} h (binds_not k) = absurd (k (t, h))

only_unbound :
    {x : ℕ} {u : Tree} {p q : Process} {frame : List Tree} {action : Action} {become : List Process} {added : List Tree}
    → ¬ IsMessage theory u → PartSteps signature theory frame (bind x u p q) action become added → IsTaken action become added q
only_unbound h (binds {t = t} k) = absurd (h (t, k))
only_unbound h (binds_not k) = (refl, refl, refl)

bind_first : (x : ℕ) (u t : Tree) (frame : List Tree) (p q : Process) → Evaluates theory u t → GoesOnAs frame (bind x u p q) (put x t p)
bind_first x u t frame p q h = record { goes = binds h; alone = λ action become added m. only_bound h m }

bind_second : (x : ℕ) (u : Tree) (frame : List Tree) (p q : Process) → ¬ IsMessage theory u → GoesOnAs frame (bind x u p q) q
bind_second x u frame p q h = record { goes = binds_not h; alone = λ action become added m. only_unbound h m }

failures_differ : ¬ AreEqual theory (over sdec a b) (over sdec a b)
failures_differ e = no_ciphertext (e.value, e.left)

opened_is_a : AreEqual theory (over sdec (over senc a b) b) a
opened_is_a = record { value = a; left = opens; right = named tt }

pub same_names : TakesFirst SameNames
same_names frame p q = test_first a a frame p q (record { value = a; left = named tt; right = named tt })

pub different_names : TakesSecond DifferentNames
different_names frame p q = test_second a b frame p q (λ e. different_results (plain_equal theory a b tt tt e))

pub same_failure : TakesSecond SameFailure
same_failure frame p q = test_second (over sdec a b) (over sdec a b) frame p q failures_differ

pub same_value : TakesFirst SameValue
same_value frame p q = test_first (over sdec (over senc a b) b) a frame p q opened_is_a

pub value_on_the_right : TakesFirst ValueOnTheRight
value_on_the_right frame p q = test_first a (over sdec (over senc a b) b) frame p q (record { value = a; left = named tt; right = opens })

pub left_failure : TakesSecond LeftFailure
left_failure frame p q = test_second (over sdec a b) a frame p q (λ e. no_ciphertext (e.value, e.left))

pub right_failure : TakesSecond RightFailure
right_failure frame p q = test_second a (over sdec a b) frame p q (λ e. no_ciphertext (e.value, e.right))

pub bound_value : TakesFirst BoundValue
bound_value frame p q = bind_first 1 (over sdec (over senc a b) b) a frame p q opens

pub bound_failure : TakesSecond BoundFailure
bound_failure frame p q = bind_second 1 (over sdec a b) frame p q no_ciphertext
