-- What the literals of a setting stand for.
use Rattle.std.specs.Prelude.{◌≡◌, ℕ, Bool, List, length, map}
use Rattle.std.specs.List.{All}
use Rattle.rule_core.specs.declared.rule.Rule.{Rule}
use Rattle.rule_core.specs.Valid.{Setting}
use Rattle.blast_value.specs.Effect.{held_value, widths_of, IsOwn}
use Rattle.blast_setting.specs.declared.setting_bits.SettingBits.{SettingBits}
use Rattle.blast_setting.specs.Inputs.{input_widths, constant_widths, choice_widths}
use Rattle.blast_value.specs.Words.{number_held}

-- the setting that the literals stand for
abbrev pub setting_held : {L : Type 0} → (L → Bool) → SettingBits L → Setting
setting_held value made =
    record {
      inputs = map (held_value value) made.inputs;
      constants = map (number_held value) made.constants;
      target_choices = map (number_held value) made.target_choices;
    }

-- all literals of the setting are a circuit's own
pub record SettingIsOwn {L : Type 0} (has_literal : L → Type 0) (made : SettingBits L) : Type 0 where
  pub inputs : All (IsOwn has_literal) made.inputs
  pub constants : All (All has_literal) made.constants
  pub target_choices : All (All has_literal) made.target_choices

-- the words have the widths of what they stand for
pub record HasWidths {L : Type 0} (rule : Rule) (typing : List ℕ) (made : SettingBits L) : Type 0 where
  pub inputs : widths_of made.inputs ≡ input_widths rule typing
  pub constants : map length made.constants ≡ constant_widths rule typing
  pub target_choices : map length made.target_choices ≡ choice_widths rule typing
