-- The longest prefix of a text that passes a test.
use Rattle.std.specs.Prelude.{◌≡◌, ◌≢◌, ℕ, ◌≤◌, ◌<◌, Bool, true, List, length, take, drop, Option, Some, None}
use Rattle.scan.specs.declared.rule_token.RuleKind.{RuleKind}

-- The first n bytes pass, with the rest behind them, and no prefix of more bytes does; n is 0 where no prefix passes.
pub record IsLongest (passes : List ℕ → List ℕ → Bool) (text : List ℕ) (n : ℕ) : Type 0 where
  pub within : n ≤ length text
  pub found : 0 < n → passes (take n text) (drop n text) ≡ true
  pub longest : (m : ℕ) → m ≤ length text → passes (take m text) (drop m text) ≡ true → m ≤ n

-- The same for a test that gives each prefix that passes a kind.
pub record IsLongestOf (kind_of : List ℕ → List ℕ → Option RuleKind) (text : List ℕ) (kind : RuleKind) (n : ℕ) : Type 0 where
  pub within : n ≤ length text
  pub found : 0 < n → kind_of (take n text) (drop n text) ≡ Some kind
  pub longest : (m : ℕ) → m ≤ length text → kind_of (take m text) (drop m text) ≢ None → m ≤ n
