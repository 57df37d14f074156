use Rattle.ir_reader.proofs.Common.{[], ◌∷◌, ◌++◌, sym, subst, IsReadingOf}
use Rattle.ir_reader.proofs.GoingOn.{fault_stays}
use Rattle.ir_reader.proofs.reading.Reading.read.Goals as goal

pub returns-in_default : goal.returns-in_default
returns-in_default c = λ front h.
    let e = c.args.written.now in
    let is = c.in_default.is in
    subst (IsReadingOf (front ++ e ∷ [])) (sym is) (fault_stays front e c.in_default.field-0 (subst (IsReadingOf front) is h))
