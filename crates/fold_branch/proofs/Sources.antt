-- The entries of phis are for blocks of the function.
use Rattle.fold_branch.proofs.Common.{◌≡◌, ℕ, List, length, get_or, All, refl, Contains-get_or, slice_get-get_or, slice_get_within, Names, IsFormed, EntriesFit, Block, Function, Inst, Op, Binary, Compare, Unary, Select, Convert, Freeze, Phi, Operand, AreBelow, EntriesAreBelow, AllAreBelow}

fit_below : (f : Function) (b : ℕ) (entries : List (Operand × ℕ)) → EntriesFit f b entries → AreBelow (length f.blocks) entries
fit_below f b entries fits k d lt =
    let e : Operand × ℕ = get_or entries k d in
    let named : Names f e.1 b = (fits.from e.1).0 (e.0, Contains-get_or entries k d lt) in
    slice_get_within f.blocks e.1 named.0 named.1

op_below : (f : Function) (b : ℕ) (op : Op) → ((entries : List (Operand × ℕ)) → op ≡ Phi entries → EntriesFit f b entries) → EntriesAreBelow (length f.blocks) op
op_below f b (Phi entries) fits = fit_below f b entries (fits entries refl)
op_below f b (Binary op flags x y) fits = tt
op_below f b (Compare pred samesign width x y) fits = tt
op_below f b (Unary op truth x) fits = tt
op_below f b (Select c x y) fits = tt
op_below f b (Convert cast flags from x) fits = tt
op_below f b (Freeze x) fits = tt

pub entries_below : (f : Function) → IsFormed f → All (λ (block : Block). AllAreBelow (length f.blocks) block.insts) f.blocks
entries_below f formed b d lt k e inside =
    let block : Block = get_or f.blocks b d in
    let inst : Inst = get_or block.insts k e in
    op_below f b inst.op
    (λ entries phi. formed.phis b k inst entries (record { block = block; is_block = slice_get-get_or f.blocks b d lt; is_inst = slice_get-get_or block.insts k e inside }) phi)
