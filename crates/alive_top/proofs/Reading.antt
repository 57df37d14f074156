-- What is known of rules that were read.
use Rattle.alive_top.proofs.Common.{ℕ, List, subst, get_or, length, ◌<◌, All, get_or_from_slice_get, slice_get-get_or, slice_get_within, IsReady, AreReady, Rule, IsReadRule}

-- rules are ready where each of them is
pub are_ready : (rules : List Rule) → ((k : ℕ) (d : Rule) → k < length rules → IsReady (get_or rules k d)) → AreReady rules
are_ready rules each r rule at = subst IsReady (get_or_from_slice_get rules r rule rule at) (each r rule (slice_get_within rules r rule at))

pub ready_at : (rules : List Rule) → AreReady rules → (k : ℕ) (d : Rule) → k < length rules → IsReady (get_or rules k d)
ready_at rules ready k d within = ready k (get_or rules k d) (slice_get-get_or rules k d within)

-- each of them is as the reader gives it
pub read_rules : (rules : List Rule) → AreReady rules → All IsReadRule rules
read_rules rules ready = λ k d within. let r = ready_at rules ready k d within in record { checks = r.checks; classes = r.classes }
