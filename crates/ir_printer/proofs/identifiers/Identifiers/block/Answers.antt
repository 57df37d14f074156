use Rattle.ir_printer.proofs.Common.{◌∙◌, sym, ap, slice_get, identifiers_of}
use Rattle.ir_printer.proofs.Identified.{no_block, start_is}
use Rattle.ir_printer.proofs.identifiers.Identifiers.block.Goals as goal

pub returns-in_err-start : goal.returns-in_err-start
returns-in_err-start c =
    let called = c.args.self.now in
    rw c.from_residual.ensures (sym (no_block called.function.now called.starts.items c.args.block called.all_starts (sym c.start.ensures ∙ c.in_err-start.was)))

pub returns : goal.returns
returns c =
    let called = c.args.self.now in
    c.at.ensures ∙ ap (slice_get (identifiers_of called.function.now)) (start_is called.function.now called.starts.items c.args.block c.in_ok-start.start called.all_starts (sym c.start.ensures ∙ c.in_ok-start.was))
