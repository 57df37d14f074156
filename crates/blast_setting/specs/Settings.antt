-- How a list of truth values is read as a setting of a rule. Past its end the list counts as false.
use Rattle.std.specs.Prelude.{ℕ, Bool, false, if◌then◌else◌, List, [], ◌∷◌, take, drop, sum_by, slice_index_or}
use Rattle.ops.specs.Integer.{bits}
use Rattle.ops.specs.Number.{Number}
use Rattle.ops.specs.declared.value.Value.{Value}
use Rattle.ops.specs.declared.value.Value.TheVariants.{Poison}
use Rattle.circuits.specs.Word.{number}
use Rattle.rule_core.specs.declared.rule.Rule.{Rule}
use Rattle.rule_core.specs.Valid.{Setting}
use Rattle.blast_setting.specs.Inputs.{input_widths, constant_widths, choice_widths, value_bits, number_bits}

-- a number of iN: its N bits, the lowest first
abbrev pub number_read : ℕ → List Bool → Number
number_read N read = record { width = N; number = number (take N read) }

-- a value of iN: the N bits of its number, and then its poison bit
abbrev pub value_read : ℕ → List Bool → Value
value_read N read = if slice_index_or read N false then Poison else bits N (number (take N read))

-- the things of these widths that are read one behind the other, each from `size` of its width truth values
abbrev pub all_read : {X : Type 0} → (ℕ → List Bool → X) → (ℕ → ℕ) → List ℕ → List Bool → List X
all_read one size [] read = []
all_read one size (N ∷ widths) read = one N read ∷ all_read one size widths (drop (size N) read)

abbrev pub values_read : List ℕ → List Bool → List Value
values_read widths read = all_read value_read value_bits widths read

abbrev pub numbers_read : List ℕ → List Bool → List Number
numbers_read widths read = all_read number_read number_bits widths read

-- the truth values behind those of the inputs; below, behind those of the constants
abbrev pub behind_inputs : Rule → List ℕ → List Bool → List Bool
behind_inputs rule typing read = drop (sum_by value_bits (input_widths rule typing)) read

abbrev pub behind_constants : Rule → List ℕ → List Bool → List Bool
behind_constants rule typing read = drop (sum_by number_bits (constant_widths rule typing)) (behind_inputs rule typing read)

-- the setting: a value for each input, then a number for each constant, then one for each choice of the target
abbrev pub setting_of : Rule → List ℕ → List Bool → Setting
setting_of rule typing read =
    record {
      inputs = values_read (input_widths rule typing) read;
      constants = numbers_read (constant_widths rule typing) (behind_inputs rule typing read);
      target_choices = numbers_read (choice_widths rule typing) (behind_constants rule typing read);
    }
