-- Which texts are what their file is read for (taken), and how the others are refused.
use Rattle.std.specs.Prelude.{◌≡◌, ℕ, List}
use Rattle.ir_core.specs.declared.module.Module.{Module}
use Rattle.refusal.specs.declared.fault.Fault.{Fault}
use Rattle.ir_reader.specs.IrFaultKind.{IrFaultKind}
use Rattle.ir_reader.specs.Faults.{IsFault as IsModuleFault}
use Rattle.run_text.specs.Runs.{IsReadAs}
use Rattle.verdict.specs.Rule.{Rule}
use Rattle.rule_reader.specs.RuleFaultKind.{RuleFaultKind}
use Rattle.rule_reader.specs.Faults.{IsFault}
use Rattle.alive_top.specs.declared.status.Status.{Status}
use Rattle.alive_top.specs.declared.status.Status.TheVariants.{RuleRefused, ModuleRefused}
pub use Rattle.load_text.specs.RuleText.{IsRuleText}
use Rattle.alive_top.specs.File.{FileKind, Rules, Source, Logs}
use Rattle.error_lines.specs.Lines.{rules_line, module_line}

-- the text is what its file is read for; any text is taken for proofs, since their faults are told once all files are
-- read
abbrev pub Takes : FileKind → List ℕ → Type 0
Takes Rules text = (rules : List Rule) × IsRuleText text rules
Takes Source text = (m : Module) × IsReadAs text m
Takes Logs text = Unit {0}

-- the text is refused, with this status and this line
abbrev pub Refuses : FileKind → List ℕ → Status → List ℕ → Type 0
Refuses Rules text status line = (fault : Fault RuleFaultKind) × IsFault text fault × (status ≡ RuleRefused) × (line ≡ rules_line fault)
Refuses Source text status line =
    (fault : Fault IrFaultKind) × IsModuleFault text fault × (status ≡ ModuleRefused) × (line ≡ module_line fault)
Refuses Logs text status line = ⊥
