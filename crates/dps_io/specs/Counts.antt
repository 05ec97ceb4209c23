-- Counts of calls, of bytes and of faults. A count that comes to 2^64 - 1, its last value, stays there.
use Rattle.std.specs.Prelude.{◌≡◌, ◌⊎◌, ℕ, ◌+◌, ◌-◌, ◌^◌, ◌<◌, ◌≤◌, min, Result, OnOk, OnErr}

-- a count with so many more
abbrev pub counted : ℕ → ℕ → ℕ
counted count more = min (count + more) (2 ^ 64 - 1)

-- a count of calls over one call: it never falls, and it has one more, but for its last value
pub record CountsCall (before now : ℕ) : Type 0 where
  pub never_falls : before ≤ now
  pub one_more : now ≡ counted before 1

-- the count rose, or stands at its last value
abbrev pub Rose : ℕ → ℕ → Type 0
Rose before now = (before < now) ⊎ (now ≡ 2 ^ 64 - 1)

-- a count of faults over one call: it never falls, it stays where the call answers, and it rises where the call fails
pub record CountsFaults {T E : Type 0} (before now : ℕ) (result : Result T E) : Type 0 where
  pub never_falls : before ≤ now
  pub answered : OnOk result (now ≡ before)
  pub failed : OnErr result (Rose before now)
