-- What the proofs of this crate cite of definitions, of other crates and of the libraries, passed on from one place.
pub use Rattle.std.proofs.Common.{All, Any, Bool, EachIndex, Err, IfOk, List, Ok, Result, Some, [], ap, ap₂, arith, cond, drop, eqb, false, get_or, get_or-set_other, get_or-set_same, inl, inr, length, length-append, length-set, map, not, refl, set, slice_get, slice_index, subst, suc, sym, true, zero, ℕ, ◌&&◌, ◌*◌, ◌++◌, ◌+◌, ◌-◌, ◌<◌, ◌||◌, ◌↔◌, ◌∙◌, ◌∷◌, ◌≡◌, ◌≢◌, ◌≤◌, ◌⊎◌}
pub use Rattle.aig.proofs.GraphLemmas.{OperandsAmong-later, value_of_gate}
pub use Rattle.aig.specs.Gate.{AreApart, IsProper}
pub use Rattle.aig.specs.Graph.{AreProper, Graph, IsAmong, IsInOrder, IsOwn, OperandsAmong, gate_value, gate_values, literal_value, node_value, value_of}
pub use Rattle.aig.specs.Literal.{Literal}
pub use Rattle.aig.specs.declared.gate.Gate.{Gate}
pub use Rattle.aig.specs.declared.literal.Node.{Node}
pub use Rattle.aig.specs.declared.literal.Node.TheVariants.{Input, Output}
pub use Rattle.clauses.proofs.Held.{is_same-self, is_same-true, literal_true-negation}
pub use Rattle.clauses.proofs.LogSoundness.{All-left, All-right}
pub use Rattle.clauses.proofs.Units.{unit_first}
pub use Rattle.clauses.specs.ClauseSet.{all_clauses, setting_literals}
pub use Rattle.clauses.specs.Literal.{IsVariable, IsWithin, Lit, Meets, VariablesWithin, clause_true, is_same, literal_of, literal_true, negation_of}
pub use Rattle.clauses.specs.Propagation.{Derives, IsFalsified, IsUnit, NamesUnit, is_false, is_held}
pub use Rattle.clauses.specs.Settings.{AgreeOn, IsDefined, IsGreatest, IsInner, IsUsed, MeetsDefinition, StandsAt, StandsFor, StandsIn, UnitsDerive, input_values}
pub use Rattle.clauses.specs.declared.cnf.Cnf.{Cnf}
pub use Rattle.cnf_build.specs.Definitions.{AreOverSmaller, IsOverSmaller, IsSmaller, NamesOnce, clauses_from, clauses_of_definition, definition_value}
pub use Rattle.cnf_build.specs.Names.{HasDefinition, Names, NamesFirst, definition_of, lit_of, variable_of, with_gate}
pub use Rattle.cnf_build.specs.NeededGates.{AreNeeded, IsAskedFor, IsClosed, IsCovered, IsMarked, IsOperand, NeededMarks, OperandsBelow, OutputBelow, with_node, with_operands}
pub use Rattle.cnf_build.specs.declared.definition.Definition.{Definition}
pub use Rattle.std.proofs.lemmas.Bool.{and_from, and_parts, cases_Bool, cases_eq, cases_lt, eq-eqb, false_from_ne_true, ne_eqb, or_cases, or_left, or_right, true≢false}
pub use Rattle.std.proofs.lemmas.List.{get_or-map, get_or_append_left, get_or_default, get_or_push, length-map, length_push}
pub use Rattle.std.proofs.lemmas.List.Elements.{All-append, All-cons, All-head, All-nil, All-tail, All-weaker}
pub use Rattle.std.proofs.lemmas.List.Folds.{Any-from_list_any, list_any_at}
pub use Rattle.std.proofs.lemmas.Option.{get_or_from_slice_get, same_Some, slice_get-get_or, slice_get_read, slice_get_within}
pub use Rattle.std.proofs.lemmas.Result.{IfOk-weaker}
pub use Rattle.std.specs.Bool.{beq, xor}
pub use Rattle.std.specs.List.{list_all}
