use Rattle.ir_reader.proofs.Common.{subst, IsReadingOf}
use Rattle.ir_reader.proofs.reading.Reading.module.Goals as goal

pub returns-in-Faultless-clause-ok : goal.returns-in-Faultless-clause-ok
returns-in-Faultless-clause-ok c = λ written h. let is = subst (IsReadingOf written) c.in-Faultless.is h in is.0

pub returns-clause-refused : goal.returns-clause-refused
returns-clause-refused c = λ written h. subst (IsReadingOf written) c.in-Faulty.is h
