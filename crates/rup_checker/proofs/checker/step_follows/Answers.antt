use Rattle.rup_checker.proofs.Common.{not, ◌&&◌, ap, ◌∙◌, table_holds, stands_in}
use Rattle.rup_checker.proofs.TableLemmas.{Represents-released}
use Rattle.rup_checker.proofs.checker.step_follows.Goals as goal

pub returns-clause-blank : goal.returns-clause-blank
returns-clause-blank c =
    let freed = c.release_hinted.new.table in
    Represents-released c.args.step.now.clause freed c.release.new.table c.release_hinted.ensures.own
    (λ m. c.release.ensures m ∙ ap (λ ls. table_holds freed m && not (stands_in m.variable ls)) c.as_slice-clause.ensures)
