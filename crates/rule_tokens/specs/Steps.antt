-- Parsing steps that give something or have a fault, one behind the other, and what it means that code takes them.
use Rattle.std.specs.Prelude.{◌≡◌, Result, Ok, Err}
use Rattle.rule_tokens.specs.RuleFaults.{RuleFault}

-- the next step, from what the one before gave; a fault ends all
infixl 10 ◌>>=◌
abbrev pub ◌>>=◌ : {A B : Type 0} → Result A RuleFault → (A → Result B RuleFault) → Result B RuleFault
(Ok x) >>= f = f x
(Err e) >>= f = Err e

-- What the code returned, under the view of its type, is what the step gives.
abbrev pub Reads : {X Y : Type 0} → (X → Y) → Result X RuleFault → Result Y RuleFault → Type 0
Reads view (Ok x) read = read ≡ Ok (view x)
Reads view (Err fault) read = read ≡ Err fault
