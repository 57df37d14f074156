-- What rules that are read meet.
use Rattle.test_texts.proofs.Common.{List, All, Rule, IsRule, IsClassified, IsReadRule}

-- each rule is as the reader gives it
pub read_rules : (rules : List Rule) → All IsRule rules → All IsClassified rules → All IsReadRule rules
read_rules rules checks classes = λ k d lt. record { checks = checks k d lt; classes = classes k d lt }
