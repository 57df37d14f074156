use Rattle.blast_rule.proofs.Common.{◌≡◌, arith, given_gates, witness_gates, halves_gates, said_gates, root_width}
use Rattle.blast_rule.proofs.gates.most_gates.Goals as goal

pub returns : goal.returns
returns c =
    let rule = c.args.rule.now in
    let typing = c.args.typing.now in
    let given : c.given_gates.result ≡ given_gates rule typing = rw c.as_slice-widths.ensures at c.given_gates.ensures.value in
    let witness : c.witness_gates.result ≡ witness_gates rule typing = rw c.as_slice-widths.ensures at c.witness_gates.ensures.value in
    let halves : c.halves_gates.result ≡ halves_gates rule typing = rw c.as_slice-widths.ensures at c.halves_gates.ensures.value in
    let said : c.said_gates.result ≡ said_gates rule typing = rw c.as_slice-widths.ensures at c.said_gates.ensures.value in
    let root : c.root_width.result ≡ root_width rule typing = rw c.as_slice-widths.ensures at c.root_width.ensures in
    omega (arith, given, witness, halves, said, root)
