use Rattle.first_uip.proofs.Common.{◌≡◌, ◌-◌, Some, false, true, length, refl, sym, ap, ◌∙◌, arith, slice_get, slice_get_read, Entry, slice_get_below, is_kept, part_of, role_of}
use Rattle.first_uip.proofs.RoleLemmas.{kept_is, NoneDecided-before, NoneKept-before}
use Rattle.first_uip.proofs.analysis.jump_from.Goals as goal

pub loop-place-init : goal.loop-place-init
loop-place-init c =
    record {
      within = omega arith;
      before = omega arith;
      decided = c.requires.decided;
      none_kept = λ k f from below there. absurd (omega (arith, from, below));
      none_decided = λ k f from below there. absurd (omega (arith, from, below));
    }

pub index-entry-requires : goal.index-entry-requires
index-entry-requires c =
    let inv = c.loop-place.invariant in
    let first = slice_get_below c.args.trail.now.entries.items c.args.start c.requires.decided.0 c.requires.decided.1 in
    omega (arith, first, inv.within, inv.before, c.loop-place-test.true, c.args.trail.now.entries.ok.0)

pub bounds-roles-variable : goal.bounds-roles-variable
bounds-roles-variable c =
    let trail = c.args.trail.now in
    let entries = trail.entries.items in
    let place = c.loop-place.place - 1 in
    let inv = c.loop-place.invariant in
    let e : Entry = c.index-entry.result.now in
    let first = slice_get_below entries c.args.start c.requires.decided.0 c.requires.decided.1 in
    let at : slice_get entries place ≡ Some e =
    slice_get_read entries (length entries) place e refl (omega (arith, first, inv.within, inv.before, c.loop-place-test.true)) c.index-entry.ensures in
    omega (arith, (trail.fresh place e at).1, c.variable.ensures, c.requires.size)

pub returns-then-eq : goal.returns-then-eq
returns-then-eq c =
    let entries = c.args.trail.now.entries.items in
    let roles = c.args.roles.now in
    let place = c.loop-place.place - 1 in
    let inv = c.loop-place.invariant in
    let e : Entry = c.index-entry.result.now in
    let first = slice_get_below entries c.args.start c.requires.decided.0 c.requires.decided.1 in
    let at : slice_get entries place ≡ Some e =
    slice_get_read entries (length entries) place e refl (omega (arith, first, inv.within, inv.before, c.loop-place-test.true)) c.index-entry.ensures in
    let kept : is_kept (part_of roles e) ≡ true =
    sym (ap (λ n. is_kept (role_of roles n)) c.variable.ensures) ∙ kept_is (role_of roles c.variable.result) true (sym c.eq.ensures ∙ c.if-eq.true) in
    record {
      within = inv.before;
      decided = inv.decided;
      none_kept = λ k f from below there. inv.none_kept k f (omega (arith, from, inv.within)) below there;
      kept_below = (
        omega (arith, inv.within, c.loop-place-test.true),
        (λ k f from below there. inv.none_decided k f (omega (arith, from, c.loop-place-test.true)) below there),
        (e, at, kept),
      );
    }

pub loop-place-preserved-then-is_decision : goal.loop-place-preserved-then-is_decision
loop-place-preserved-then-is_decision c =
    let entries = c.args.trail.now.entries.items in
    let roles = c.args.roles.now in
    let place = c.loop-place.place - 1 in
    let inv = c.loop-place.invariant in
    let e : Entry = c.index-entry.result.now in
    let first = slice_get_below entries c.args.start c.requires.decided.0 c.requires.decided.1 in
    let at : slice_get entries place ≡ Some e =
    slice_get_read entries (length entries) place e refl (omega (arith, first, inv.within, inv.before, c.loop-place-test.true)) c.index-entry.ensures in
    let unkept : is_kept (part_of roles e) ≡ false =
    sym (ap (λ n. is_kept (role_of roles n)) c.variable.ensures) ∙ kept_is (role_of roles c.variable.result) false (sym c.eq.ensures ∙ c.if-eq.false) in
    record {
      within = omega arith;
      before = omega (arith, inv.within, inv.before);
      decided = (e, at, sym c.is_decision.ensures ∙ c.if-is_decision.true);
      none_kept = NoneKept-before entries roles place c.loop-place.place c.args.start e (omega arith) at unkept inv.none_kept;
      none_decided = λ k f from below there. absurd (omega (arith, from, below));
    }

pub loop-place-preserved : goal.loop-place-preserved
loop-place-preserved c =
    let entries = c.args.trail.now.entries.items in
    let roles = c.args.roles.now in
    let place = c.loop-place.place - 1 in
    let inv = c.loop-place.invariant in
    let e : Entry = c.index-entry.result.now in
    let first = slice_get_below entries c.args.start c.requires.decided.0 c.requires.decided.1 in
    let at : slice_get entries place ≡ Some e =
    slice_get_read entries (length entries) place e refl (omega (arith, first, inv.within, inv.before, c.loop-place-test.true)) c.index-entry.ensures in
    let unkept : is_kept (part_of roles e) ≡ false =
    sym (ap (λ n. is_kept (role_of roles n)) c.variable.ensures) ∙ kept_is (role_of roles c.variable.result) false (sym c.eq.ensures ∙ c.if-eq.false) in
    record {
      within = omega (arith, inv.within);
      before = inv.before;
      decided = inv.decided;
      none_kept = NoneKept-before entries roles place c.loop-place.place c.args.start e (omega arith) at unkept inv.none_kept;
      none_decided =
          NoneDecided-before entries place c.loop-place.place c.loop-place.earliest e (omega arith) at (sym c.is_decision.ensures ∙ c.if-is_decision.false)
          inv.none_decided;
    }

pub returns : goal.returns
returns c =
    let inv = c.loop-place.invariant in
    let none : c.loop-place.place ≡ 0 = omega (arith, c.loop-place-test.false) in
    record {
      within = inv.before;
      decided = inv.decided;
      none_kept = λ k f from below there. inv.none_kept k f (omega (arith, from, inv.within)) below there;
      kept_below = (
        (λ k f from below there. inv.none_kept k f (omega (arith, none)) (omega (arith, below, inv.before)) there),
        λ k f from below there. inv.none_decided k f (omega (arith, none)) below there,
      );
    }
