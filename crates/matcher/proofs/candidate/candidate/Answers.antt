use Rattle.matcher.proofs.Common.{◌≡◌, ◌+◌, ◌-◌, ◌<◌, ℕ, Bool, List, Option, length, Some, true, false, sym, ap, subst, arith, slice_get, Statement, Knowledge, MatchesInAnyOrder, IsFilledAs, KnowsFrom, Binding, read_off}
use Rattle.matcher.proofs.Candidates.{root_bound, takes, knows_more, filled_as, ok_then}
use Rattle.matcher.proofs.SourceSlots.{still_slots}
use Rattle.matcher.proofs.candidate.candidate.Goals as goal

pub loop-j-init : goal.loop-j-init
loop-j-init c = record {
  slots = c.in_ok-slots.ensures.slots;
  knows = λ across known m is.
      subst (λ (l : List Statement). KnowsFrom c.args.rule.now (length l) c.in_ok-slots.slots m) (sym c.as_slice-source.ensures)
      (c.in_ok-slots.ensures.knows m is.typing (root_bound c.args.f.now c.args.block c.args.place c.args.rule.now m is));
}

pub returns-then-not-take_statement-clause-forced : goal.returns-then-not-take_statement-clause-forced
returns-then-not-take_statement-clause-forced c across known m is =
    let within : c.loop-j.j - 1 < length c.args.rule.now.source = omega (arith, ap length c.as_slice-source.ensures) in
    let at : slice_get c.args.rule.now.source (c.loop-j.j - 1) ≡ Some c.index-source-j.result =
    read_off c.as_slice-source.result.now c.args.rule.now.source (c.loop-j.j - 1) c.index-source-j.result c.index-source-j.result c.as_slice-source.ensures within (sym c.index-source-j.is) in
    let next : c.loop-j.j ≡ c.loop-j.j - 1 + 1 = omega arith in
    let knows : KnowsFrom c.args.rule.now (c.loop-j.j - 1 + 1) c.loop-j.slots m = subst (λ (k : ℕ). KnowsFrom c.args.rule.now k c.loop-j.slots m) next (c.loop-j.invariant.knows across known m is) in
    let ready = takes c.args.f.now c.args.block c.args.place c.args.rule.now c.loop-j.slots m (c.loop-j.j - 1) c.index-source-j.result c.requires.rule is at knows in
    let taken = c.take_statement.ensures.knows m ready.b ready.p ready.N ready.stored ready.width ready.typing ready.operands in
    let yes : c.take_statement.result ≡ true = taken.0 in
    let no : c.take_statement.result ≡ false = c.if-not-take_statement.true in
    absurd cc

pub loop-j-preserved : goal.loop-j-preserved
loop-j-preserved c =
    let within : c.loop-j.j - 1 < length c.args.rule.now.source = omega (arith, ap length c.as_slice-source.ensures) in
    let at : slice_get c.args.rule.now.source (c.loop-j.j - 1) ≡ Some c.index-source-j.result =
    read_off c.as_slice-source.result.now c.args.rule.now.source (c.loop-j.j - 1) c.index-source-j.result c.index-source-j.result c.as_slice-source.ensures within (sym c.index-source-j.is) in
    let next : c.loop-j.j ≡ c.loop-j.j - 1 + 1 = omega arith in
    record {
      slots = still_slots c.args.rule.now c.loop-j.slots c.take_statement.new.self c.take_statement.ensures.sizes c.loop-j.invariant.slots;
      knows = λ across known m is.
          let knows : KnowsFrom c.args.rule.now (c.loop-j.j - 1 + 1) c.loop-j.slots m = subst (λ (k : ℕ). KnowsFrom c.args.rule.now k c.loop-j.slots m) next (c.loop-j.invariant.knows across known m is) in
          let ready = takes c.args.f.now c.args.block c.args.place c.args.rule.now c.loop-j.slots m (c.loop-j.j - 1) c.index-source-j.result c.requires.rule is at knows in
          let taken = c.take_statement.ensures.knows m ready.b ready.p ready.N ready.stored ready.width ready.typing ready.operands in
          knows_more c.args.rule.now (c.loop-j.j - 1) c.loop-j.slots c.take_statement.new.self m c.index-source-j.result at taken.1 taken.2 knows;
    }

pub returns-clause-forced : goal.returns-clause-forced
returns-clause-forced c =
    let end : c.loop-j.j ≡ 0 = omega arith in
    ok_then {P = λ (found : Option Binding). (m : Binding) → m.block ≡ c.args.block → m.place ≡ c.args.place → IsFilledAs c.loop-j.slots m → found ≡ Some m}
    {Q = λ (found : Option Binding). (across : Bool) (known : Knowledge) (m : Binding) → MatchesInAnyOrder across known c.args.f.now c.args.block c.args.place c.args.rule.now m → found ≡ Some m}
    c.binding.result c.binding.ensures.filled (λ found forced across known m is.
    forced m is.block is.place (filled_as c.args.f.now c.args.block c.args.place c.args.rule.now c.loop-j.slots m c.requires.rule c.requires.typed is c.loop-j.invariant.slots
    (subst (λ (k : ℕ). KnowsFrom c.args.rule.now k c.loop-j.slots m) end (c.loop-j.invariant.knows across known m is))))
