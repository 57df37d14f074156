use Rattle.blast_setting.proofs.Settings.{read_fits}
use Rattle.blast_setting.proofs.laws.read_settings_fit.Goals as goal

pub returns : goal.returns
returns c = read_fits
