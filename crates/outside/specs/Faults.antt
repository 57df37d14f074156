-- Counts of faults: saturating `u64` counters.
use Rattle.std.specs.Prelude.{◌≡◌, ℕ, ◌+◌, ◌-◌, ◌^◌, ◌<◌, min, ◌⊎◌, Result, Ok, Err}
use Rattle.outside.specs.declared.errors.ReadError.{ReadError}
use Rattle.outside.specs.declared.errors.ReadError.TheVariants.{Failed, NoMemory}

-- the value at which a count saturates
abbrev pub last_count : ℕ
last_count = 2 ^ 64 - 1

-- the count, raised by one, as far as it goes
abbrev pub raised : ℕ → ℕ
raised count = min (count + 1) last_count

-- The count is greater than before, or is saturated.
abbrev pub Rose : ℕ → ℕ → Type 0
Rose before now = (before < now) ⊎ (now ≡ last_count)

-- the count after a read that returned this: only an error of the system raises it
abbrev pub faults_after_read : {T : Type 0} → Result T ReadError → ℕ → ℕ
faults_after_read (Ok _) count = count
faults_after_read (Err Failed) count = raised count
faults_after_read (Err NoMemory) count = count
