use Rattle.blast_rule.proofs.Common.{◌≡◌, Bool, List, [], length, take, map, All, Adds, Given, Follows, holding_source, ValuesFit, IsOwn, run_gates, shape, ending, IsGiven, holds}
use Rattle.blast_rule.proofs.temporaries.blast_temporaries.Given as goal

abbrev pub invariant-loop-place : goal.invariant-loop-place
invariant-loop-place g l =
    let m = g.C.State in record {
      ran : (read : List Bool) (given : Given) → m.admits l.initial.c read → IsGiven (m.value l.initial.c read) l.scope given →
          Follows l.typing given holding_source (take l.place l.rule.source) (holds (m.value l.c read) l.scope.inputs.now [] []) (ending (m.value l.c read l.undefined) (holds (m.value l.c read) l.scope.inputs.now l.held.items []));
      count : length l.held.items ≡ l.place;
      fit : ValuesFit l.typing l.rule.source (map shape l.held.items);
      own : All (IsOwn (m.has_literal l.c)) l.held.items;
      own_undefined : m.has_literal l.c l.undefined;
      adds : Adds m l.initial.c l.c (run_gates l.typing (take l.place l.rule.source));
    }
