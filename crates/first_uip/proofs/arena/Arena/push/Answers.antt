use Rattle.first_uip.proofs.Common.{◌++◌, List, length, map, ap, ◌∙◌, arith, Lit, Header, literals_of}
use Rattle.first_uip.proofs.ArenaLemmas.{clauses_push}
use Rattle.first_uip.proofs.arena.Arena.push.Goals as goal

pub returns-clause-clauses : goal.returns-clause-clauses
returns-clause-clauses c =
    let old = c.args.self.now in
    let literals = old.literals.items in
    let more = c.args.clause.now in
    let longer = c.in_ok-extend_from_slice.ensures.items in
    let (first, second) = c.match-watched.first in
    let h : Header = record { first = first; second = second; start = c.in-Ok.start; end = c.in-Ok-try_from.end } in
    ap (λ (ls : List Lit). map (literals_of ls) c.push.new.self.items) longer
    ∙ ap (map (literals_of (literals ++ more))) c.in_ok-push.ensures.items
    ∙ clauses_push literals more old.headers.items h old.bounds
    (omega (arith, c.in-Ok.ensures, c.len.ensures, old.literals.ok.0))
    (omega (arith, c.in-Ok-try_from.ensures, c.len-2.ensures, c.extend_from_slice.new.self.ok.0, ap length longer))
