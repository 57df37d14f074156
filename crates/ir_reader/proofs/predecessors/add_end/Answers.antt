use Rattle.ir_reader.proofs.Common.{◌∷◌, [], length, map, AddsTo}
use Rattle.ir_reader.proofs.Sets.{adds_both, cases_within, on_ok}
use Rattle.ir_reader.proofs.predecessors.add_end.Goals as goal

pub returns-in_ok-add-in-Branch : goal.returns-in_ok-add-in-Branch
returns-in_ok-add-in-Branch c =
    let a = c.args.sets.now in
    let d = c.add-in-Branch-2.new.sets in
    rw c.in-Branch.is
    (on_ok c.add-in-Branch-2.result (AddsTo c.add-in-Branch.new.sets d c.args.block (c.in-Branch.other ∷ [])) (AddsTo a d c.args.block (c.in-Branch.target ∷ c.in-Branch.other ∷ []))
    (adds_both a c.add-in-Branch.new.sets d c.args.block (c.in-Branch.target ∷ []) (c.in-Branch.other ∷ []) c.in_ok-add-in-Branch.ensures) c.add-in-Branch-2.ensures)

pub add_cases-requires : goal.add_cases-requires
add_cases-requires c =
    rw c.as_slice.ensures
    (cases_within c.in-Switch.other (length c.args.sets.now) (length c.add-in-Switch.new.sets) c.in-Switch.cases c.in_ok-add-in-Switch.ensures.count (rw c.in-Switch.is at c.requires))

pub returns-in_ok-add-in-Switch : goal.returns-in_ok-add-in-Switch
returns-in_ok-add-in-Switch c =
    let a = c.args.sets.now in
    let d = c.add_cases.new.sets in
    let targets = map (λ case. case.1) c.in-Switch.cases in
    rw c.in-Switch.is
    (on_ok c.add_cases.result (AddsTo c.add-in-Switch.new.sets d c.args.block targets) (AddsTo a d c.args.block (c.in-Switch.other ∷ targets))
    (adds_both a c.add-in-Switch.new.sets d c.args.block (c.in-Switch.other ∷ []) targets c.in_ok-add-in-Switch.ensures) (rw c.as_slice.ensures at c.add_cases.ensures))
