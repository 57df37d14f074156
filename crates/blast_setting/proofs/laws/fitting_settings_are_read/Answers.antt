use Rattle.blast_setting.proofs.Settings.{fitting_are_read}
use Rattle.blast_setting.proofs.laws.fitting_settings_are_read.Goals as goal

pub returns : goal.returns
returns c = fitting_are_read
