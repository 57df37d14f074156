use Rattle.cdcl_log.proofs.Common.{◌≡◌, ◌-◌, ◌<◌, ◌∷◌, true, false, length, drop, get_or, sym, ap, ◌∙◌, subst, arith, All, get_or_read, IsVariable, distinct_count, is_among, among_already}
use Rattle.cdcl_log.proofs.DistinctCount.{next_input, distinct_count-among}
use Rattle.cdcl_log.proofs.inputs.has_many_inputs.Goals as goal

pub loop-place-preserved : goal.loop-place-preserved
loop-place-preserved c =
    let inputs = c.as_slice-inputs.result.now in
    let place = c.loop-place.place in
    let inv = c.loop-place.invariant in
    let n = get_or inputs (place - 1) 0 in
    let rest = drop place inputs in
    let next : drop (place - 1) inputs ≡ n ∷ rest = next_input inputs place 0 c.loop-place-test.true inv.within in
    let set = c.args.cnf.now in
    let variables : All (IsVariable set.count) inputs = subst (All (IsVariable set.count)) (sym c.as_slice-inputs.ensures) set.input_variables in
    let room : n < length c.loop-place.named.items =
    omega (arith, (variables (place - 1) 0 (omega (arith, c.loop-place-test.true, inv.within))).1, inv.size) in
    let named : get_or c.loop-place.named.items n false ≡ true =
    sym (get_or_read c.loop-place.named.items n c.index.result.now room c.index.ensures false) ∙ c.if-not-index.false in
    let among : is_among rest n ≡ true = sym (inv.marked n room) ∙ named in
    record {
      size = inv.size;
      within = omega (arith, inv.within);
      so_many = inv.so_many ∙ sym (ap distinct_count next ∙ distinct_count-among n rest among);
      at_most = omega (arith, inv.at_most);
      marked = λ v below. inv.marked v below ∙ sym (ap (λ ns. is_among ns v) next ∙ among_already n rest v among);
    }
