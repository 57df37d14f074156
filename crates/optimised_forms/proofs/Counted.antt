-- The sizes of the module of a text within the limit fit 32 bits.
use Rattle.optimised_forms.proofs.Common.{length, get_or, arith, slice_get-get_or, HasAtMost, ModuleTextsAreSmall, ModuleTextsAreCountable}

pub texts_are_countable : ModuleTextsAreSmall → ModuleTextsAreCountable
texts_are_countable small text m steps short few is k f at =
    let most : HasAtMost (length text) f = small text m is k f at in
    record {
      blocks = omega (arith, most.blocks);
      insts = λ b d within. omega (arith, most.insts b (get_or f.blocks b d) (slice_get-get_or f.blocks b d within));
    }
