-- What an operation promises: its flags, and the truth value of an intrinsic, which counts as one more.
use Rattle.std.specs.Prelude.{◌≡◌, Bool, false, ◌&&◌}
use Rattle.ops.specs.Flags.{AreWithin, no_flags}
use Rattle.ops.specs.declared.opcode.Flags.{Flags}
use Rattle.bindings.specs.declared.promises.Promises.{Promises}

-- of an operation with flags, of an intrinsic with a truth value, and of one with neither
abbrev pub by_flags : Flags → Promises
by_flags flags = record { flags = flags; truth = false }

abbrev pub by_truth : Bool → Promises
by_truth truth = record { flags = no_flags; truth = truth }

abbrev pub no_promises : Promises
no_promises = by_flags no_flags

-- each promise of the first is one of the second
abbrev pub AreKept : Promises → Promises → Type 0
AreKept p q = AreWithin p.flags q.flags × ((p.truth && q.truth) ≡ p.truth)
