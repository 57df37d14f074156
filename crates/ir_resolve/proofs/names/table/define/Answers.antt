use Rattle.ir_resolve.proofs.Common.{sym, ap, ◌∙◌, seen_entries, knows}
use Rattle.ir_resolve.proofs.Lookups.{known_inserted, was_known, added_last}
use Rattle.ir_resolve.proofs.names.table.define.Goals as goal

pub returns-clause-was_there : goal.returns-clause-was_there
returns-clause-was_there c = c.is_some.ensures ∙ was_known c.args.names.now.entries c.args.key c.in_ok-insert.field-0 c.in_ok-insert.ensures.old

pub returns-clause-known : goal.returns-clause-known
returns-clause-known c = λ x. ap (λ es. knows (seen_entries es) x) c.in_ok-insert.ensures.entries ∙ known_inserted c.args.names.now.entries c.args.key c.args.entity x

pub returns-clause-added : goal.returns-clause-added
returns-clause-added c = λ is_new. added_last c.args.names.now c.insert.new.self.entries c.args.key c.args.entity c.in_ok-insert.field-0 c.in_ok-insert.ensures.old c.in_ok-insert.ensures.entries (sym c.is_some.ensures ∙ is_new)
