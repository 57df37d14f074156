use Rattle.needed.proofs.SearchLemmas.{search_ends}
use Rattle.needed.proofs.search.needed.Goals as goal

pub returns-clause-exact : goal.returns-clause-exact
returns-clause-exact c = search_ends c.args.f.now c.requires.registers c.args.numbers.now.firsts.items c.args.numbers.now.count c.requires.numbers c.follow.new.self c.in_ok-follow.ensures.searched c.in_ok-follow.ensures.done
