-- Laws of the settings that are read from lists of truth values.
use Rattle.std.specs.Prelude.{◌≡◌, ℕ, Bool, List, length}
use Rattle.rule_core.specs.declared.rule.Rule.{Rule}
use Rattle.rule_core.specs.Checks.{IsRule}
use Rattle.rule_core.specs.Typing.{IsTyping}
use Rattle.rule_core.specs.Valid.{Setting, SettingFits}
use Rattle.blast_setting.specs.Inputs.{input_bits}
use Rattle.blast_setting.specs.Settings.{setting_of}

-- each list of truth values is read as a setting that fits
abbrev pub ReadSettingsFit : Type 0
ReadSettingsFit =
    (rule : Rule) (typing : List ℕ) (read : List Bool) → IsRule rule → IsTyping rule typing → SettingFits rule typing (setting_of rule typing read)

-- The list has `input_bits` truth values, and is read as this setting.
pub record ReadsAs (rule : Rule) (typing : List ℕ) (setting : Setting) (read : List Bool) : Type 0 where
  pub count : length read ≡ input_bits rule typing
  pub is : setting_of rule typing read ≡ setting

-- each setting that fits is read from some list of `input_bits` truth values
abbrev pub FittingSettingsAreRead : Type 0
FittingSettingsAreRead =
    (rule : Rule) (typing : List ℕ) (setting : Setting) → IsRule rule → IsTyping rule typing → SettingFits rule typing setting →
    (read : List Bool) × ReadsAs rule typing setting read
