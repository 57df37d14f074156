use Rattle.alive_top.proofs.Common.{◌≡◌, ◌⊎◌, ℕ, List, Result, Ok, Err, subst, inl, inr, MatchResult, IfOk, SinkState, Status, RuleRefused, ModuleRefused, ReadFault, LogRefused, rules_line, module_line, logs_line, read_fault_line, Says, SaysMemory, Took}
use Rattle.alive_top.proofs.top.refuse.Goals as goal

-- a line that could be built is the one that is wanted
made : {A B : Type 0} (r : Result A B) (items : A → List ℕ) (wanted : List ℕ) (err err' : SinkState) (status given : Status)
    → MatchResult r (λ m. Says err err' status (items m) given) (λ _. SaysMemory err err' given) → IfOk r (λ m. items m ≡ wanted) → Says err err' status wanted given ⊎ SaysMemory err err' given
made (Ok m) items wanted err err' status given h e = inl (h.0, subst (λ (line : List ℕ). Took err err' line) e h.1)
made (Err x) items wanted err err' status given h e = inr h

pub returns-in-Rules-clause-answer : goal.returns-in-Rules-clause-answer
returns-in-Rules-clause-answer g c =
    let state = g.E.Sink.state in
    rw c.in-Rules.is (made c.rules_line.result (λ m. m.items) (rules_line c.in-Rules.fault) (state c.args.err.now) (state c.put_made.new.err) RuleRefused c.put_made.result c.put_made.ensures.answer c.rules_line.ensures)

pub returns-in-Module-clause-answer : goal.returns-in-Module-clause-answer
returns-in-Module-clause-answer g c =
    let state = g.E.Sink.state in
    rw c.in-Module.is (made c.module_line.result (λ m. m.items) (module_line c.in-Module.fault) (state c.args.err.now) (state c.put_made-in-Module.new.err) ModuleRefused c.put_made-in-Module.result c.put_made-in-Module.ensures.answer c.module_line.ensures)

pub returns-in-Logs-clause-answer : goal.returns-in-Logs-clause-answer
returns-in-Logs-clause-answer g c =
    let state = g.E.Sink.state in
    rw c.in-Logs.is (made c.logs_line.result (λ m. m.items) (logs_line c.in-Logs.fault) (state c.args.err.now) (state c.put_made-in-Logs.new.err) LogRefused c.put_made-in-Logs.result c.put_made-in-Logs.ensures.answer c.logs_line.ensures)

pub returns-in-Read-clause-answer : goal.returns-in-Read-clause-answer
returns-in-Read-clause-answer g c =
    let state = g.E.Sink.state in
    rw c.in-Read.is (made c.read_fault_line.result (λ m. m.items) (read_fault_line c.in-Read.name.now) (state c.args.err.now) (state c.put_made-in-Read.new.err) ReadFault c.put_made-in-Read.result c.put_made-in-Read.ensures.answer c.read_fault_line.ensures)
