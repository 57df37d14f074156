-- The files of the system.
use Rattle.std.specs.Prelude.{ℕ}

-- What contracts know of them: not what they hold.
pub record DiskFilesState : Type 0 where
  pub faults : ℕ
