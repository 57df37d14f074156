-- Numbers as they are printed (LLVM Language Reference, "Simple Constants").
use Rattle.std.specs.Prelude.{ℕ, ◌-◌, ◌^◌, ◌==◌, nat_lt, if◌then◌else◌, List, ◌++◌, codes, decimal}
use Rattle.ops.specs.Number.{Number}

-- a number of N bits, as a signed one, so that 2 ^ N - 1 is -1; a number of one bit as a truth value
unfoldable pub number_text : Number → List ℕ
number_text n =
    if n.width == 1
    then (if n.number == 0 then codes "false" else codes "true")
    else (if nat_lt n.number (2 ^ (n.width - 1)) then decimal n.number else codes "-" ++ decimal (2 ^ n.width - n.number))
