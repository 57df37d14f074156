use Rattle.first_uip.proofs.Common.{set, map, ap, ◌∙◌, arith, map-set, length-map, literals_of, watched_of}
use Rattle.first_uip.proofs.ArenaLemmas.{two_watched}
use Rattle.first_uip.proofs.Replaced.{map-set_same}
use Rattle.first_uip.proofs.arena.Arena.rewatch.Goals as goal

pub returns-clause-clauses : goal.returns-clause-clauses
returns-clause-clauses c =
    let headers = c.args.self.now.headers.items in
    let f = literals_of c.args.self.now.literals.items in
    map-set_same f headers c.args.number _ c.index_mut-header.result.now (omega (arith, length-map headers watched_of))
    (ap f c.index_mut-header.ensures.value)

pub returns-clause-watched : goal.returns-clause-watched
returns-clause-watched c =
    let headers = c.args.self.now.headers.items in
    map-set watched_of headers c.args.number _
    ∙ ap (set (map watched_of headers) c.args.number) (two_watched c.args.first c.args.second c.requires.differ)
