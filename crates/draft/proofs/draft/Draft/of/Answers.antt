-- Every instruction stands, and its number is its position.
use Rattle.draft.proofs.Common.{Draft, Tables}
use Rattle.draft.proofs.Fresh.{few_of, function_itself, settled_at_first, stands_all}
use Rattle.draft.proofs.draft.Draft.of.Goals as goal

pub returns-clause-settled : goal.returns-clause-settled
returns-clause-settled c =
    let t : Tables = c.in_ok-tables.tables in
    let d : Draft = record { arena = c.args.f; facts = t.facts; orders = t.orders; stand = t.stand; readers = t.readers; dead_candidates = c.new.result; has_cycles = t.has_cycles } in
    settled_at_first d c.requires.checks c.requires.blocks (few_of c.args.f c.requires.insts) c.in_ok-tables.ensures.orders c.in_ok-tables.ensures.stand c.in_ok-tables.ensures.facts c.in_ok-tables.ensures.readers c.in_ok-tables.ensures.cycles.0 c.new.ensures.items

pub returns-clause-function : goal.returns-clause-function
returns-clause-function c =
    let t : Tables = c.in_ok-tables.tables in
    let d : Draft = record { arena = c.args.f; facts = t.facts; orders = t.orders; stand = t.stand; readers = t.readers; dead_candidates = c.new.result; has_cycles = t.has_cycles } in
    function_itself d c.requires.checks c.requires.blocks (few_of c.args.f c.requires.insts) c.in_ok-tables.ensures.orders c.in_ok-tables.ensures.stand

pub returns-clause-stand : goal.returns-clause-stand
returns-clause-stand c =
    let t : Tables = c.in_ok-tables.tables in
    let d : Draft = record { arena = c.args.f; facts = t.facts; orders = t.orders; stand = t.stand; readers = t.readers; dead_candidates = c.new.result; has_cycles = t.has_cycles } in
    stands_all d c.requires.checks c.requires.blocks (few_of c.args.f c.requires.insts) c.in_ok-tables.ensures.orders c.in_ok-tables.ensures.stand
