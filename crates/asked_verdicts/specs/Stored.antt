-- The logs that are stored for pairs of a rule and a typing.
use Rattle.std.specs.Prelude.{◌&&◌, ℕ, Bool, List, Option, Vec, nat_eq, IfSome}
use Rattle.std.specs.Global.{Global}
use Rattle.std.specs.Str.{bytes_eq}
use Rattle.indexmap.specs.IndexMap.{get_by}
use Rattle.clauses.specs.declared.step.Step.{Step}
use Rattle.verdict_core.specs.declared.verdicts.Row.{Row}
use Rattle.asked_verdicts.specs.declared.stored.StoredLogs.{StoredLogs}
use Rattle.verdict.specs.Proved.{IsUnrefutedBy}
use Rattle.strategy_core.specs.Asked.{Pair, pair_in}

-- a pair as a key of the tables of the code
abbrev pub Key : Type 0
Key = ℕ × Vec ℕ Global

abbrev pub pair_of_key : Key → Pair
pair_of_key key = (key.0, key.1.items)

-- whether a key is of the pair
abbrev pub is_key_of : Pair → Key → Bool
is_key_of pair key = nat_eq pair.0 key.0 && bytes_eq pair.1 key.1.items

-- the log that is stored for the pair, if one is
abbrev pub log_of : StoredLogs → Pair → Option (List Step)
log_of stored pair = get_by (is_key_of pair) stored.logs

-- a log that is stored for the row's pair doesn't refute the clauses of a `Budget` in the row
abbrev pub IsUnrefutedIn : StoredLogs → Row → Type 0
IsUnrefutedIn stored row = IfSome (log_of stored (pair_in row)) (λ log. IsUnrefutedBy log row.verdict)
