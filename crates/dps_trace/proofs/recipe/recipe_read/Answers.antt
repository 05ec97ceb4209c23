use Rattle.std.proofs.Common.{rules, ◌≡◌, false, true, [], ◌∷◌, ◌++◌, length, drop}
use Rattle.dps_trace.specs.Told.{told}
use Rattle.dps_trace.specs.Scanning.{is_sign, with_sign}
use Rattle.dps_trace.proofs.Backward.{sign_refused}
use Rattle.dps_trace.proofs.recipe.recipe_read.Goals as goal

pub returns-then-not-branch : goal.returns-then-not-branch
returns-then-not-branch c =
    let S = c.args.signature.now in
    let front = c.loop-byte.front.now in
    let unread = c.loop-byte.unread.now in
    let before = c.in-Some.before.now in
    let b = c.in-Some.byte.now in
    let word = c.split_at.result.1.now in
    let read = c.in_ok-read_sign.field-0 in
    let next = c.read_sign.new.self in
    let last : unread ≡ before ++ (b ∷ []) = search rules in
    let so : is_sign b ≡ true = search rules in
    let behind : word ≡ drop (length unread) front = search rules in
    let told_is : told read next ≡ with_sign S b word c.loop-byte.reading = search rules in
    let not : read ≡ false = search rules in
    sign_refused S c.args.text.now front unread before word c.loop-byte.reading next b read c.loop-byte.invariant last so behind told_is not
