use Rattle.proof_reader.proofs.Common.{◌≡◌, length, arith, all_zipped_more, IsProofOf}
use Rattle.proof_reader.proofs.Growing.{good_more}
use Rattle.proof_reader.proofs.Lines.{lines_more}
use Rattle.proof_reader.proofs.reader.SoFar.take.Goals as goal

pub returns-clause-ok : goal.returns-clause-ok
returns-clause-ok c = λ earlier before.
    let rules = c.args.rules.now in
    let proof = c.args.proof in
    let old = c.args.self.now in
    let taken = c.in_ok-read.ensures.ok earlier before.keys_are in
    let more = lines_more earlier proof c.requires.proof in
    let at = before.line_is in
    let steps : c.len-lines.result ≡ length proof.log = c.len-lines.ensures in
    record {
      good = good_more rules earlier proof before.good taken.good;
      each = rw c.in_ok-push.ensures.ok (all_zipped_more (IsProofOf rules) earlier old.read proof c.in_ok-read.read before.each taken.is);
      keys_are = taken.keys_are;
      line_is = omega arith;
    }
