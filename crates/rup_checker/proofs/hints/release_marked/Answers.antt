use Rattle.rup_checker.proofs.Common.{◌≡◌, not, ◌&&◌, [], get_or, sym, ap, ◌∙◌, unwrap_or, and_right, unwrap_or-slice_get, clauses_with, stands_in, table_holds, used_in}
use Rattle.rup_checker.proofs.TableLemmas.{and-true}
use Rattle.rup_checker.proofs.hints.release_marked.Goals as goal

pub returns-in_default-clause-released : goal.returns-in_default-clause-released
returns-in_default-clause-released c =
    λ m.
    let clauses = clauses_with c.args.cnf.now c.args.earlier.now in
    let number = c.args.number in
    let old = table_holds c.args.table.now m in
    let none : [] ≡ get_or clauses number [] = ap (λ o. unwrap_or o []) c.in_default.ensures ∙ unwrap_or-slice_get clauses number [] in
    let stands = and_right (used_in c.args.used.now number) (stands_in m.variable (get_or clauses number [])) (ap (stands_in m.variable) (sym none)) in
    and-true old ∙ ap (λ b. old && b) (sym (ap not stands))
