-- The phis of a function that is formed.
use Rattle.ir_reader.proofs.Common.{◌≡◌, ℕ, sym, subst, refl, Function, Inst, Op, Binary, Compare, Select, Convert, Freeze, Phi, IsInst, IsPhi, IsFormed, OpFits}
use Rattle.ir_core.specs.declared.instruction.Op.TheVariants.{Unary}

-- all phis fit
abbrev pub PhisFit : Function → Type 0
PhisFit f = (b k : ℕ) (inst : Inst) → IsInst f b k inst → OpFits f b k inst.op

module _ (f : Function) (formed : IsFormed f) (b k : ℕ) (inst : Inst) (is : IsInst f b k inst) where
  phi_fits : (op : Op) → inst.op ≡ op → OpFits f b k op
  phi_fits (Phi entries) e =
      let fit = formed.phis b k inst entries is e in
      record { only_phis = λ j earlier lt there. formed.phis_first b j k earlier inst there is lt (subst IsPhi (sym e) tt); from = fit.from; one = fit.one }
  phi_fits (Binary op flags x y) e = tt
  phi_fits (Compare pred samesign width x y) e = tt
  phi_fits (Select c x y) e = tt
  phi_fits (Convert cast flags from x) e = tt
  phi_fits (Unary op truth x) e = tt
  phi_fits (Freeze x) e = tt

pub formed_fits : (f : Function) → IsFormed f → PhisFit f
formed_fits f formed b k inst is = phi_fits f formed b k inst is inst.op refl
