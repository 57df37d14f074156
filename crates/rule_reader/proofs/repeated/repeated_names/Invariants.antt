-- the map has the names of the rules so far, and they have their flags
use Rattle.rule_reader.proofs.Common.{ℕ, List, take, Bor, bytes_eq, get}
use Rattle.rule_reader.proofs.Repeats.{Known, MarksFirst}
use Rattle.rule_reader.proofs.repeated.repeated_names.Given as goal

abbrev pub invariant-loop-rule : goal.invariant-loop-rule
invariant-loop-rule l =
    record {
      marks : MarksFirst l.rules l.rule-index l.repeated.items;
      known : (key : Bor (List ℕ)) → Known (get (λ x y. bytes_eq x.now y.now) l.names key) (take l.rule-index l.rules) key.now;
    }
