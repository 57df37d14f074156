use Rattle.ir_reader.proofs.Common.{[], ap, sym, subst, ◌∙◌, list_any, bytes_eq, false≢true, AreEntriesOf}
use Rattle.ir_reader.proofs.GoingOn.{no_entries}
use Rattle.ir_reader.proofs.Repeats.{name_none}
use Rattle.ir_reader.proofs.reading.Reading.new.Goals as goal

pub returns : goal.returns
returns c = (
  subst (AreEntriesOf []) (sym c.new.ensures) no_entries,
  λ name. (λ h. absurd (false≢true (sym (ap (list_any (λ t. bytes_eq name t.items)) c.new-2.ensures.empty) ∙ h)), λ h. absurd (name_none name h)),
)
