use Rattle.proof_text.proofs.Common.{◌≡◌, ◌≤◌, false, length, rules, most_bytes, Stops, Proofs}
use Rattle.proof_text.proofs.Readings.{not_empty}
use Rattle.proof_text.proofs.TextReadings.{fault_is}
use Rattle.proof_text.proofs.read.read_proofs.Goals as goal

pub returns-in-Err-Refused-clause-refused : goal.returns-in-Err-Refused-clause-refused
returns-in-Err-Refused-clause-refused c =
    let short : length c.args.bytes.now ≤ most_bytes = search rules in
    let full : c.is_empty.result ≡ false = search rules in
    let stops : Stops Proofs c.loop-rest.rest.now c.proof.new.rest.now = search rules in
    fault_is c.args.bytes.now c.loop-rest.rest.now c.proof.new.rest.now c.loop-rest.proofs.items c.fault.result short c.loop-rest.invariant (not_empty _ _ c.is_empty.ensures full) stops c.fault.ensures
