-- Words whose bits move up or down.
use Rattle.std.specs.Prelude.{ℕ, List, ◌++◌, take, drop, replicate, length}
use Rattle.circuits.specs.declared.shift.Direction.{Direction}
use Rattle.circuits.specs.declared.shift.Direction.TheVariants.{Up, Down}

-- the word with its bits so many places higher or lower, at its width, and `fill` at the places that become free
abbrev pub moved : {L : Type 0} → Direction → L → ℕ → List L → List L
moved Up fill distance word = take (length word) (replicate distance fill ++ word)
moved Down fill distance word = drop distance (word ++ replicate distance fill)
