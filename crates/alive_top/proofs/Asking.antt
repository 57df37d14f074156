-- Words ask for at most one task.
use Rattle.alive_top.proofs.Common.{◌≡◌, ℕ, List, ap, sym, ◌∙◌, SameCommand, WordsSayOneCommand, Command, Task, Load, Asks, task_of}
use Rattle.command_line.specs.declared.command.Command.TheVariants as commands

-- commands that are the same have one task
same_task : (x y : Command) → SameCommand x y → task_of x ≡ task_of y
same_task (commands.Verify r v) (commands.Verify s w) h = let rules = h.0 in let options = h.1 in cc
same_task (commands.Optimise r v l m) (commands.Optimise s w n k) h = let rules = h.0 in let source = h.1 in let logs = h.2 in let options = h.3 in cc
same_task (commands.Run s n a b) (commands.Run t m c d) h = let source = h.0 in let name = h.1 in let arguments = h.2 in let options = h.3 in cc
same_task (commands.Load m) (commands.Load n) h = ap Load h
same_task (commands.Recheck r l m) (commands.Recheck s k n) h = let rules = h.0 in let logs = h.1 in let options = h.2 in cc
same_task x y h = absurd h

pub asks_one : WordsSayOneCommand → (words : List (List ℕ)) (t u : Task) → Asks words t → Asks words u → t ≡ u
asks_one law words t u h k = sym h.is ∙ (same_task h.command k.command (law words h.command k.command h.says k.says) ∙ k.is)
