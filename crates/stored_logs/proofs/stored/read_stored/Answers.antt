use Rattle.stored_logs.proofs.Storing.{pairs_once, all_stored}
use Rattle.stored_logs.proofs.stored.read_stored.Goals as goal

pub stored_of-requires : goal.stored_of-requires
stored_of-requires c = pairs_once c.args.rules.now c.args.bytes.now c.in_ok-proofs.proofs.items c.in_ok-proofs.ensures.ok

pub returns-clause-ok : goal.returns-clause-ok
returns-clause-ok c = all_stored c.args.rules.now c.args.bytes.now c.in_ok-proofs.proofs.items c.in_ok-proofs.ensures.ok c.in_ok-stored.stored c.requires.names c.in_ok-stored.ensures
