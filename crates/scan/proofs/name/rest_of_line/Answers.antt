use Rattle.scan.proofs.Common.{ℕ, take, drop, ap, take_rest}
use Rattle.scan.proofs.name.rest_of_line.Goals as goal

pub returns : goal.returns
returns c = record { value = rw take_rest (ap (λ (n : ℕ). take n (drop c.args.place c.args.text.now)) (rw take_rest at c.rest_run.ensures)) }
