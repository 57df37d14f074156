use Rattle.blast_setting.proofs.Common.{◌≡◌, false, sym, ap, refl, ◌∙◌, get_or, mod-eq_of_lt}
use Rattle.blast_setting.proofs.setting.value_read.Goals as goal

pub returns-else-bit_at : goal.returns-else-bit_at
returns-else-bit_at c =
    let number_only : get_or c.args.bits.now c.args.width false ≡ false = ap (λ n. get_or c.args.bits.now n false) (sym c.bits.ensures.bits) ∙ sym c.bit_at.ensures ∙ c.if-bit_at.false in
    let small = mod-eq_of_lt c.number_read.ensures.fits in
    rw (number_only, c.wrapped.ensures, small, c.number_read.ensures.number) refl
