use Rattle.ir_parse.proofs.Common.{◌≤◌, length, arith, AreTokens, seen, most_bytes}
use Rattle.ir_parse.proofs.Verdicts.{answers}
use Rattle.ir_parse.proofs.reader.parse.Goals as goal

pub returns : goal.returns
returns c =
    let within : length c.args.bytes.now ≤ most_bytes = omega arith in
    let are : AreTokens c.args.bytes.now (seen c.as_slice.result.now) = rw c.as_slice.ensures.value c.in_ok-tokens.ensures in
    let a = answers c.args.bytes.now (seen c.as_slice.result.now) c.raw_module.result within are c.raw_module.ensures in
    record { ok = a.0; limit = a.1; refused = a.2 }
