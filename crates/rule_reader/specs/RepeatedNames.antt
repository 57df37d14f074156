-- Which rules of a file have the name of an earlier one.
use Rattle.std.specs.Prelude.{◌≡◌, ◌↔◌, ℕ, Bool, IsTrue, List, length, take, Some, slice_get}
use Rattle.rule_parse.specs.declared.raw.RawRule.{RawRule}
use Rattle.rule_reader.specs.FaultKinds.{HasNameOf}

-- the flag of a rule says whether one of the earlier rules has its name
abbrev pub MarksRule : Bool → List RawRule → RawRule → Type 0
MarksRule is_repeated earlier raw = IsTrue is_repeated ↔ HasNameOf earlier raw.name

pub record MarksRepeated (raws : List RawRule) (repeated : List Bool) : Type 0 where
  pub count : length repeated ≡ length raws
  pub each : (k : ℕ) (raw : RawRule) (is_repeated : Bool) → slice_get raws k ≡ Some raw → slice_get repeated k ≡ Some is_repeated → MarksRule is_repeated (take k raws) raw
