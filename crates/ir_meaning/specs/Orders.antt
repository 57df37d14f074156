-- Refinement is reflexive and transitive.
use Rattle.ir_core.specs.declared.function.Function.{Function}
use Rattle.ir_core.specs.Refines.{Refines}

-- if g refines f and h refines g, then h refines f; and each function refines itself
abbrev pub RefinementIsTransitive : Type 0
RefinementIsTransitive = (f g h : Function) → Refines f g → Refines g h → Refines f h

abbrev pub RefinementIsReflexive : Type 0
RefinementIsReflexive = (f : Function) → Refines f f
