use Rattle.first_uip.proofs.Common.{◌≡◌, ◌+◌, ◌-◌, false, length, sym, ◌∙◌, subst, arith, is_some, IfSome, VariablesWithin, NamesFalse, literals, Grows, IfNone_at, Grows-then, clauses_in, CoversBelow, IsWatching, IsWatchingUpTo}
use Rattle.first_uip.proofs.Guards.{IsWatchingUpTo-end}
use Rattle.first_uip.proofs.propagation.propagate.Goals as goal

pub propagate_entry-requires-clause-covers : goal.propagate_entry-requires-clause-covers
propagate_entry-requires-clause-covers c =
    subst (λ n. CoversBelow n c.loop-head.watches) (sym c.loop-head.invariant.same_variables) c.loop-head.invariant.covers

pub propagate_entry-requires-clause-variables : goal.propagate_entry-requires-clause-variables
propagate_entry-requires-clause-variables c =
    let inv = c.loop-head.invariant in
    subst (λ cs. VariablesWithin (length c.loop-head.trail.values.items - 1) cs) (sym inv.same_clauses)
    (subst (λ n. VariablesWithin (n - 1) (clauses_in c.args.watches.now.arena)) (sym inv.same_variables) c.requires.variables)

pub propagate_entry-requires-clause-watching : goal.propagate_entry-requires-clause-watching
propagate_entry-requires-clause-watching c =
    let inv = c.loop-head.invariant in
    subst (λ cs. IsWatchingUpTo cs c.loop-head.watches c.loop-head.trail.entries.items c.loop-head.head) (sym inv.same_clauses) inv.watching

pub returns-in_err-conflict-clause-covers : goal.returns-in_err-conflict-clause-covers
returns-in_err-conflict-clause-covers c =
    subst (λ n. CoversBelow n c.propagate_entry.new.watches) c.loop-head.invariant.same_variables c.propagate_entry.ensures.covers

pub returns-in_err-conflict-clause-grows : goal.returns-in_err-conflict-clause-grows
returns-in_err-conflict-clause-grows c =
    Grows-then _ _ _ _ c.loop-head.invariant.grows
    (subst (λ cs. Grows cs c.loop-head.trail.entries.items c.propagate_entry.new.trail.entries.items) c.loop-head.invariant.same_clauses c.propagate_entry.ensures.grows)

pub returns-then-is_some-clause-covers : goal.returns-then-is_some-clause-covers
returns-then-is_some-clause-covers c =
    subst (λ n. CoversBelow n c.propagate_entry.new.watches) c.loop-head.invariant.same_variables c.propagate_entry.ensures.covers

pub returns-then-is_some-clause-grows : goal.returns-then-is_some-clause-grows
returns-then-is_some-clause-grows c =
    Grows-then _ _ _ _ c.loop-head.invariant.grows
    (subst (λ cs. Grows cs c.loop-head.trail.entries.items c.propagate_entry.new.trail.entries.items) c.loop-head.invariant.same_clauses c.propagate_entry.ensures.grows)

pub returns-then-is_some-clause-watching : goal.returns-then-is_some-clause-watching
returns-then-is_some-clause-watching c =
    subst (λ cs. IsWatching cs c.propagate_entry.new.watches c.propagate_entry.new.trail.entries.items) c.loop-head.invariant.same_clauses c.in_ok-conflict.ensures.watching

pub returns-then-is_some-clause-falsified : goal.returns-then-is_some-clause-falsified
returns-then-is_some-clause-falsified c =
    subst (λ cs. IfSome c.in_ok-conflict.conflict (NamesFalse cs (literals c.propagate_entry.new.trail.entries.items))) c.loop-head.invariant.same_clauses c.in_ok-conflict.ensures.falsified

pub loop-head-preserved : goal.loop-head-preserved
loop-head-preserved c =
    let inv = c.loop-head.invariant in
    let new = c.propagate_entry.new in
    let none : is_some c.in_ok-conflict.conflict ≡ false = sym c.is_some.ensures ∙ c.if-is_some.false in
    record {
      same_variables = c.propagate_entry.ensures.same_variables ∙ inv.same_variables;
      same_clauses = c.propagate_entry.ensures.same_clauses ∙ inv.same_clauses;
      covers = subst (λ n. CoversBelow n new.watches) inv.same_variables c.propagate_entry.ensures.covers;
      grows =
          Grows-then _ _ _ _ inv.grows
          (subst (λ cs. Grows cs c.loop-head.trail.entries.items new.trail.entries.items) inv.same_clauses c.propagate_entry.ensures.grows);
      watching =
          subst (λ cs. IsWatchingUpTo cs new.watches new.trail.entries.items (c.loop-head.head + 1)) inv.same_clauses
          (IfNone_at c.in_ok-conflict.conflict (IsWatchingUpTo (clauses_in c.loop-head.watches.arena) new.watches new.trail.entries.items (c.loop-head.head + 1)) none
          c.in_ok-conflict.ensures.seen);
    }

pub returns-clause-seen : goal.returns-clause-seen
returns-clause-seen c =
    let entries = c.loop-head.trail.entries in
    IsWatchingUpTo-end (clauses_in c.args.watches.now.arena) c.loop-head.watches entries.items c.loop-head.head
    (omega (arith, c.loop-head-test.false, c.len.ensures, entries.ok.0)) c.loop-head.invariant.watching
