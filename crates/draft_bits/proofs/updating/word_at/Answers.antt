use Rattle.draft_bits.proofs.Common.{◌≡◌, ℕ, arith, sym, subst, one_inst, stands_there, HaveWidths, Inst, Facts, known_operand, known_result, results_at, arena_of, numbers_of, is_arranged, row_of}
use Rattle.places.specs.Orders.{place_in}
use Rattle.draft_bits.proofs.Positions.{have_widths}
use Rattle.draft_bits.proofs.updating.word_at.Goals as goal

pub inst_at-inst-requires : goal.inst_at-inst-requires
inst_at-inst-requires c = stands_there c.args.draft.now c.requires.settled.whole c.args.place.block c.args.place.number c.requires.stands.1

pub result_bits-requires : goal.result_bits-requires
result_bits-requires c =
    let d = c.args.draft.now in
    let b = c.args.place.block in
    let n = c.args.place.number in
    let inst = c.inst_at-inst.result.now in
    let results = results_at c.args.bits.now b in
    let widths : HaveWidths (known_operand b results) inst.width inst.op =
    have_widths c.reads_of_a_block_stand_before.ensures (arena_of d) (numbers_of d) (is_arranged d c.requires.settled) c.requires.checks b c.requires.stands.0 results (place_in (row_of (numbers_of d) b) n)
    (λ m i has less is. c.requires.before m i has less is) n inst c.requires.stands.1 c.inst_at-inst.ensures (omega arith) in
    subst (λ (x : Facts). HaveWidths (known_operand x.block x.results) inst.width inst.op) (sym c.at.ensures)
    (subst (λ (k : ℕ). HaveWidths (known_operand k results) inst.width inst.op) (sym c.requires.block) widths)

pub returns-clause-table : goal.returns-clause-table
returns-clause-table c inst is =
    let b = c.args.place.block in
    let results = results_at c.args.bits.now b in
    let word = c.in_ok-word.word in
    let found = c.inst_at-inst.result.now in
    let here : word ≡ known_result (known_operand c.at.result.now.block c.at.result.now.results) found.width found.op = c.in_ok-word.ensures.bits in
    let said : word ≡ known_result (known_operand b results) found.width found.op =
    subst (λ (k : ℕ). word ≡ known_result (known_operand k results) found.width found.op) c.requires.block
    (subst (λ (x : Facts). word ≡ known_result (known_operand x.block x.results) found.width found.op) c.at.ensures here) in
    subst (λ (i : Inst). word ≡ known_result (known_operand b results) i.width i.op) (one_inst (arena_of c.args.draft.now) b c.args.place.number found inst c.inst_at-inst.ensures is) said
