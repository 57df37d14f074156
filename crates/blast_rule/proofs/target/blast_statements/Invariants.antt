use Rattle.blast_rule.proofs.Common.{◌≡◌, Bool, List, [], length, take, map, All, Adds, Given, Follows, holding_target, ValuesFit, IsOwn, run_gates, shape, ending, IsGiven, holds}
use Rattle.blast_rule.proofs.target.blast_statements.Given as goal

abbrev pub invariant-loop-statement : goal.invariant-loop-statement
invariant-loop-statement g l =
    let m = g.C.State in record {
      ran : (read : List Bool) (given : Given) → m.admits l.initial.c read → IsGiven (m.value l.initial.c read) l.scope given →
          Follows l.typing given holding_target (take l.statement-index l.rule.target) (holds (m.value l.c read) l.scope.inputs.now l.scope.source.now []) (ending (m.value l.c read l.undefined) (holds (m.value l.c read) l.scope.inputs.now l.scope.source.now l.held.items));
      count : length l.held.items ≡ l.statement-index;
      fit : ValuesFit l.typing l.rule.target (map shape l.held.items);
      own : All (IsOwn (m.has_literal l.c)) l.held.items;
      own_undefined : m.has_literal l.c l.undefined;
      adds : Adds m l.initial.c l.c (run_gates l.typing (take l.statement-index l.rule.target));
    }
