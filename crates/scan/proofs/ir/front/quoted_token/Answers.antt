use Rattle.scan.proofs.Common.{arith, Label, Quoted}
use Rattle.scan.proofs.FirstBytes.{quote_front}
use Rattle.scan.proofs.ModuleTokens.{found_as, found_longer}
use Rattle.scan.proofs.ir.front.quoted_token.Goals as goal

pub returns : goal.returns
returns c = quote_front c.args.text.now c.longer.result c.requires
    (found_longer c.args.text.now (Label, c.label.result) (Quoted, c.quoted.result) c.longer.result c.longer.ensures.one (found_as Label c.args.text.now c.label.result c.label.ensures) (found_as Quoted c.args.text.now c.quoted.result c.quoted.ensures))
    (record { length_of = c.label.result; longest = c.label.ensures; fits = omega arith })
    (record { length_of = c.quoted.result; longest = c.quoted.ensures; fits = omega arith })
