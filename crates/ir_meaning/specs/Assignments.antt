-- In which order results are assigned, by walks through the control-flow graph alone.
use Rattle.std.specs.Prelude.{ℕ, suc, List, ◌∷◌, ◌++◌, Contains}
use Rattle.ir_core.specs.declared.function.Function.{Function}
use Rattle.ir_core.specs.declared.operand.Register.{Register}
use Rattle.ir_core.specs.declared.operand.Register.TheVariants as registers
use Rattle.ir_core.specs.Assigned.{IsAssigned}
use Rattle.ir_core.specs.Walks.{IsReached}
use Rattle.ir_meaning.specs.Paths.{Place, IsPath}

-- If one result is assigned at another's instruction, and that is reached, then the other isn't assigned at the one's;
-- so none is assigned at its own. For a walk that comes to the other's instruction for the first time has passed the
-- one's, and where it did so it hadn't passed the other's.
abbrev pub NotBothAreAssigned : Type 0
NotBothAreAssigned = (f : Function) (b k d j : ℕ) → IsReached f d
    → IsAssigned f (registers.Result b k) d j → ¬ IsAssigned f (registers.Result d j) b k

-- Nor is the other assigned right behind the one's instruction. So no instruction whose result is assigned at r's
-- instruction runs right before a place where r is assigned.
abbrev pub NoneIsAssignedBehind : Type 0
NoneIsAssignedBehind = (f : Function) (b k d j : ℕ) → IsReached f d
    → IsAssigned f (registers.Result b k) d j → ¬ IsAssigned f (registers.Result d j) b (suc k)

-- what is assigned at r's instruction is assigned wherever r is
abbrev pub AssignmentIsTransitive : Type 0
AssignmentIsTransitive = (f : Function) (o : Register) (d j b k : ℕ)
    → IsAssigned f o d j → IsAssigned f (registers.Result d j) b k → IsAssigned f o b k

-- a path that ends where a result is assigned has come to its instruction before
abbrev pub AssignedIsPassed : Type 0
AssignedIsPassed = (f : Function) (d j : ℕ) (p : Place) (before : List Place)
    → IsPath f (p ∷ before) → IsAssigned f (registers.Result d j) p.0 p.1 → Contains before (d, j)

-- Where o is assigned at r's instruction, and r where a path ends, the path hasn't come to o's instruction since it
-- last came to r's. For there is a walk to o's instruction that hasn't come to r's, and if it went on as this path does
-- it would end where r is assigned, and wouldn't have come to r's.
abbrev pub DefinedBeforeStaysSo : Type 0
DefinedBeforeStaysSo = (f : Function) (b k d j : ℕ) (p : Place) (later earlier : List Place)
    → IsPath f (p ∷ later ++ (d, j) ∷ earlier) → ¬ Contains later (d, j)
    → IsAssigned f (registers.Result b k) d j → IsAssigned f (registers.Result d j) p.0 p.1
    → ¬ Contains later (b, k)
