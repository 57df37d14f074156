-- What the proofs of this crate cite of definitions, of other crates and of the libraries, passed on from one place.
pub use Rattle.std.proofs.Common.{All, List, [], add-one, ap, append_assoc, arith, drop, get_or, inl, inr, length, length-drop, refl, rules, subst, suc, sym, take, zero, ℕ, ◌%◌, ◌*◌, ◌++◌, ◌+◌, ◌-◌, ◌/◌, ◌<◌, ◌^◌, ◌∙◌, ◌∷◌, ◌≡◌, ◌≤◌}
pub use Rattle.clauses.specs.Literal.{Lit}
pub use Rattle.clauses.specs.declared.step.Step.{Step}
pub use Rattle.packed_log.specs.Numbers.{behind, behind_list, behind_number, first_list, first_number, numbers}
pub use Rattle.packed_log.specs.Steps.{AllHintsFit, HintsFit, first_hints, moved, numbers_from, steps}
pub use Rattle.packed_log.specs.Words.{Adds, AreHints, IsNumber}
pub use Rattle.std.proofs.lemmas.Bool.{cases_lt}
pub use Rattle.std.proofs.lemmas.Bool.Decides.{nat_tests}
pub use Rattle.std.proofs.lemmas.List.{append-nil, drop_all, drop_more, take_all, take_more}
pub use Rattle.std.proofs.lemmas.List.Elements.{All-head, All-nil, All-push, All-tail}
