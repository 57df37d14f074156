use Rattle.outside.proofs.Common.{ℕ, ◌≤◌, ap, subst, MemoryFilesState}
use Rattle.outside.proofs.memory_files.MemoryFilesFiles.read.Goals as goal

pub returns-in-None-clause-faults_grow : goal.returns-in-None-clause-faults_grow
returns-in-None-clause-faults_grow c =
    subst (λ (n : ℕ). n ≤ c.fail.new.self.faults) (ap (λ (files : MemoryFilesState). files.faults) c.in_ok-bytes.ensures.ok) c.fail.ensures.grows
