use Rattle.first_uip.proofs.Common.{◌≡◌, ℕ, List, ◌+◌, ◌*◌, ◌-◌, ◌<◌, ◌≤◌, true, Some, length, take, get_or, refl, sym, ap, ◌∙◌, subst, arith, slice_get, swap_remove, length-map, slice_get_read, Lit, VariablesWithin, negation_of, is_held, is_false, negation-negation, Entry, literals, Grows, code_within, literal_at, Grows-none, Grows-then, Grows-length, Watcher, Watches, Stays, Leaves, Falsified, clauses_in, watched_in, IsLook, CoversBelow, EachBlocked, EachIsWatch, IsListed, IsWatchingUpTo, numbers_of, watchers_of}
use Rattle.first_uip.proofs.Listing.{IsListed-drop, IsListed-same}
use Rattle.first_uip.proofs.Sets.{length_by_drop}
use Rattle.first_uip.proofs.LookLemmas.{EachBlocked-at, EachBlocked-kept, NamesSatisfied-by, blocker_within, number_at, satisfied_by_blocker}
use Rattle.first_uip.proofs.Guards.{EachGuardedBut, EachGuardedBut-start, EachGuardedBut-stays, EachGuardedBut-left, EachGuardedBut-end, IsWatchingUpTo-stays, IsWatchingUpTo-leaves, LeavesWatch, leaves_unwatched, slice_get_grown, take_grown, HeldWithin-grown}
use Rattle.first_uip.proofs.propagation.propagate_entry.Goals as goal

-- the watcher that was read is the one at this place of the literal's watch list
read_at : (watches : Watches) (l : Lit) (place : ℕ) (first second : List Watcher) (w : Watcher) → first ≡ watchers_of watches l → second ≡ watchers_of watches l → place < length first → w ≡ get_or second place w → slice_get (watchers_of watches l) place ≡ Some w
read_at watches l place first second w is is' within at =
    subst (λ ws. slice_get ws place ≡ Some w) is' (slice_get_read second (length second) place w refl (omega (arith, within, ap length (is ∙ sym is'))) at)

pub loop-place-init : goal.loop-place-init
loop-place-init c =
    let entries = c.args.trail.now.entries.items in
    let e : Entry = c.index.result.now in
    let start : slice_get entries c.args.head ≡ Some e = slice_get_read entries (length entries) c.args.head e refl c.requires.within c.index.ensures in
    record {
      same_variables = refl;
      same_clauses = refl;
      covers = c.requires.covers;
      grows = Grows-none (clauses_in c.args.watches.now.arena) entries;
      watching = c.requires.watching;
      but =
          EachGuardedBut-start (clauses_in c.args.watches.now.arena) c.args.watches.now entries c.args.head e c.negation-falsified.result start c.negation-falsified.ensures
          c.requires.watching.watching.listed c.requires.watching.guarded;
    }

pub of-requires : goal.of-requires
of-requires c =
    let entries = c.args.trail.now.entries.items in
    let e : Entry = c.index.result.now in
    let start : slice_get entries c.args.head ≡ Some e = slice_get_read entries (length entries) c.args.head e refl c.requires.within c.index.ensures in
    code_within c.negation-falsified.result (length c.args.trail.now.values.items) (length c.loop-place.watches.lists.items)
    (omega (arith, (c.args.trail.now.fresh c.args.head e start).1, ap (λ (l : Lit). l.variable) c.negation-falsified.ensures)) c.loop-place.invariant.covers

pub holds-requires : goal.holds-requires
holds-requires c =
    let l = c.negation-falsified.result in
    let place = c.loop-place.place in
    let w : Watcher = c.index-of-place.result in
    let here : slice_get (watchers_of c.loop-place.watches l) place ≡ Some w =
    read_at c.loop-place.watches l place c.of.result.now c.of-in-loop-place.result.now w c.of.ensures c.of-in-loop-place.ensures (omega (arith, c.loop-place-test.true)) c.index-of-place.is in
    let inv = c.loop-place.invariant in
    let within = blocker_within (length c.args.trail.now.values.items - 1) (clauses_in c.args.watches.now.arena) c.loop-place.watches c.loop-place.trail.entries.items l place w c.requires.variables inv.watching.watching here in
    omega (arith, within.0, within.1, inv.same_variables)

pub loop-place-preserved-then-holds : goal.loop-place-preserved-then-holds
loop-place-preserved-then-holds c =
    let l = c.negation-falsified.result in
    let place = c.loop-place.place in
    let w : Watcher = c.index-of-place.result in
    let here : slice_get (watchers_of c.loop-place.watches l) place ≡ Some w =
    read_at c.loop-place.watches l place c.of.result.now c.of-in-loop-place.result.now w c.of.ensures c.of-in-loop-place.ensures (omega (arith, c.loop-place-test.true)) c.index-of-place.is in
    let inv = c.loop-place.invariant in
    let cs = clauses_in c.args.watches.now.arena in
    let watches = c.loop-place.watches in
    let entries = c.loop-place.trail.entries.items in
    let held = literals entries in
    record {
      same_variables = inv.same_variables;
      same_clauses = inv.same_clauses;
      covers = inv.covers;
      grows = inv.grows;
      watching = inv.watching;
      but =
          EachGuardedBut-stays cs (watched_in watches.arena) (numbers_of watches l) place w.number (literals (take (c.args.head + 1) entries)) held held
          (number_at (watchers_of watches l) place w here) (record { each = λ m h. h })
          (satisfied_by_blocker cs watches held l place w inv.watching.watching.blocked here (sym c.holds.ensures ∙ c.if-holds.true)) inv.but;
    }

pub look_at-requires-clause-covers : goal.look_at-requires-clause-covers
look_at-requires-clause-covers c =
    subst (λ n. CoversBelow n c.loop-place.watches) (sym c.loop-place.invariant.same_variables) c.loop-place.invariant.covers

pub look_at-requires-clause-variables : goal.look_at-requires-clause-variables
look_at-requires-clause-variables c =
    let inv = c.loop-place.invariant in
    subst (λ cs. VariablesWithin (length c.loop-place.trail.values.items - 1) cs) (sym inv.same_clauses)
    (subst (λ n. VariablesWithin (n - 1) (clauses_in c.args.watches.now.arena)) (sym inv.same_variables) c.requires.variables)

pub look_at-requires-clause-count : goal.look_at-requires-clause-count
look_at-requires-clause-count c =
    c.loop-place.invariant.watching.watching.count ∙ ap length (sym c.loop-place.invariant.same_clauses)

pub look_at-requires-clause-each : goal.look_at-requires-clause-each
look_at-requires-clause-each c =
    let inv = c.loop-place.invariant in
    subst (λ cs. EachIsWatch cs (watched_in c.loop-place.watches.arena)) (sym inv.same_clauses) inv.watching.watching.each

pub look_at-requires-clause-blocked : goal.look_at-requires-clause-blocked
look_at-requires-clause-blocked c =
    let inv = c.loop-place.invariant in
    subst (λ cs. EachBlocked cs c.loop-place.watches) (sym inv.same_clauses) inv.watching.watching.blocked

pub look_at-requires-clause-known : goal.look_at-requires-clause-known
look_at-requires-clause-known c =
    let l = c.negation-falsified.result in
    let place = c.loop-place.place in
    let w : Watcher = c.index-of-place.result in
    let here : slice_get (watchers_of c.loop-place.watches l) place ≡ Some w =
    read_at c.loop-place.watches l place c.of.result.now c.of-in-loop-place.result.now w c.of.ensures c.of-in-loop-place.ensures (omega (arith, c.loop-place-test.true)) c.index-of-place.is in
    c.loop-place.invariant.watching.watching.listed.known l place w.number (number_at (watchers_of c.loop-place.watches l) place w here)

-- the negation of the entry at the head is false
falsified_by : (entries : List Entry) (head : ℕ) (e : Entry) (l : Lit) → slice_get entries head ≡ Some e → l ≡ negation_of e.literal → is_false (literals entries) l ≡ true
falsified_by entries head e l here is =
    ap (is_held (literals entries)) (ap negation_of is ∙ negation-negation e.literal) ∙ literal_at entries head e here

pub look_at-requires-clause-falsified : goal.look_at-requires-clause-falsified
look_at-requires-clause-falsified c =
    let entries = c.args.trail.now.entries.items in
    let e : Entry = c.index.result.now in
    let start : slice_get entries c.args.head ≡ Some e = slice_get_read entries (length entries) c.args.head e refl c.requires.within c.index.ensures in
    falsified_by c.loop-place.trail.entries.items c.args.head e c.negation-falsified.result
    (slice_get_grown (clauses_in c.args.watches.now.arena) entries c.loop-place.trail.entries.items c.args.head e c.loop-place.invariant.grows start) c.negation-falsified.ensures

pub returns-in_err-held-clause-grows : goal.returns-in_err-held-clause-grows
returns-in_err-held-clause-grows c =
    Grows-then _ _ _ _ c.loop-place.invariant.grows
    (subst (λ cs. Grows cs c.loop-place.trail.entries.items c.look_at.new.trail.entries.items) c.loop-place.invariant.same_clauses c.look_at.ensures.grows)

pub returns-in-Falsified-clause-grows : goal.returns-in-Falsified-clause-grows
returns-in-Falsified-clause-grows c =
    Grows-then _ _ _ _ c.loop-place.invariant.grows
    (subst (λ cs. Grows cs c.loop-place.trail.entries.items c.look_at.new.trail.entries.items) c.loop-place.invariant.same_clauses c.look_at.ensures.grows)

pub loop-place-preserved-in-Stays : goal.loop-place-preserved-in-Stays
loop-place-preserved-in-Stays c =
    let l = c.negation-falsified.result in
    let place = c.loop-place.place in
    let w : Watcher = c.index-of-place.result in
    let here : slice_get (watchers_of c.loop-place.watches l) place ≡ Some w =
    read_at c.loop-place.watches l place c.of.result.now c.of-in-loop-place.result.now w c.of.ensures c.of-in-loop-place.ensures (omega (arith, c.loop-place-test.true)) c.index-of-place.is in
    let inv = c.loop-place.invariant in
    let cs = clauses_in c.args.watches.now.arena in
    let old = c.loop-place.watches in
    let mid = c.look_at.new.watches in
    let new = c.block.new.self in
    let held = c.in-Stays.held in
    let before = c.loop-place.trail.entries.items in
    let after = c.look_at.new.trail.entries.items in
    let grows : Grows cs before after = subst (λ cs. Grows cs before after) inv.same_clauses c.look_at.ensures.grows in
    let look : IsLook cs (watched_in old.arena) (watched_in mid.arena) before after w.number l (Stays held) =
    subst (λ cs. IsLook cs (watched_in old.arena) (watched_in mid.arena) before after w.number l (Stays held)) inv.same_clauses
    (subst (IsLook (clauses_in old.arena) (watched_in old.arena) (watched_in mid.arena) before after w.number l) c.in-Stays.is c.in_ok-held.ensures.look) in
    let at : slice_get (numbers_of old l) place ≡ Some w.number = number_at (watchers_of old l) place w here in
    let at_mid : slice_get (numbers_of mid l) place ≡ Some w.number = ap (λ ns. slice_get ns place) c.in_ok-held.ensures.same_numbers ∙ at in
    let blocked : EachBlocked cs new =
    EachBlocked-at cs mid new l place w.number held (subst (λ cs. EachBlocked cs mid) inv.same_clauses c.in_ok-held.ensures.blocked) at_mid
    c.block.ensures.only (λ clause there. (look.1 clause there).0) in
    let listed : IsListed new = IsListed-same mid new c.in_ok-held.ensures.listed (ap watched_in c.block.ensures.arena) c.block.ensures.numbers in
    let watched : watched_in new.arena ≡ watched_in old.arena = ap watched_in c.block.ensures.arena ∙ look.0 in
    let unchanged : clauses_in new.arena ≡ cs = ap clauses_in c.block.ensures.arena ∙ c.look_at.ensures.same_clauses ∙ inv.same_clauses in
    let numbers : numbers_of new l ≡ numbers_of old l = c.block.ensures.numbers l ∙ c.in_ok-held.ensures.same_numbers in
    let seen_within : c.args.head + 1 ≤ length before = omega (arith, c.requires.within, Grows-length cs c.args.trail.now.entries.items before inv.grows) in
    let but : EachGuardedBut cs (watched_in old.arena) (numbers_of old l) (place + 1) (literals (take (c.args.head + 1) before)) (literals after) =
    EachGuardedBut-stays cs (watched_in old.arena) (numbers_of old l) place w.number (literals (take (c.args.head + 1) before)) (literals before) (literals after) at (HeldWithin-grown cs before after grows)
    (NamesSatisfied-by cs (literals after) w.number held look.1) inv.but in
    let covers = c.look_at.ensures.covers in
    record {
      same_variables = c.look_at.ensures.same_variables ∙ inv.same_variables;
      same_clauses = unchanged;
      covers = c.block.ensures.count ∙ covers ∙ ap (λ n. 2 * n) inv.same_variables;
      grows = Grows-then _ _ _ _ inv.grows grows;
      watching = IsWatchingUpTo-stays cs old new before after c.args.head (omega (arith, seen_within)) grows unchanged watched listed blocked inv.watching;
      but =
          subst (λ ns. EachGuardedBut cs (watched_in new.arena) ns (place + 1) (literals (take (c.args.head + 1) after)) (literals after)) (sym numbers)
          (subst (λ ws. EachGuardedBut cs ws (numbers_of old l) (place + 1) (literals (take (c.args.head + 1) after)) (literals after)) (sym watched)
          (subst (λ es. EachGuardedBut cs (watched_in old.arena) (numbers_of old l) (place + 1) (literals es) (literals after)) (sym (take_grown cs before after (c.args.head + 1) grows seen_within)) but));
    }

pub returns-in-Falsified-clause-watching : goal.returns-in-Falsified-clause-watching
returns-in-Falsified-clause-watching c =
    let l = c.negation-falsified.result in
    let w : Watcher = c.index-of-place.result in
    let inv = c.loop-place.invariant in
    let cs = clauses_in c.args.watches.now.arena in
    let old = c.loop-place.watches in
    let mid = c.look_at.new.watches in
    let before = c.loop-place.trail.entries.items in
    let after = c.look_at.new.trail.entries.items in
    let grows : Grows cs before after = subst (λ cs. Grows cs before after) inv.same_clauses c.look_at.ensures.grows in
    let look : IsLook cs (watched_in old.arena) (watched_in mid.arena) before after w.number l Falsified =
    subst (λ cs. IsLook cs (watched_in old.arena) (watched_in mid.arena) before after w.number l Falsified) inv.same_clauses
    (subst (IsLook (clauses_in old.arena) (watched_in old.arena) (watched_in mid.arena) before after w.number l) c.in-Falsified.is c.in_ok-held.ensures.look) in
    let blocked : EachBlocked cs mid = subst (λ cs. EachBlocked cs mid) inv.same_clauses c.in_ok-held.ensures.blocked in
    let seen_within : c.args.head ≤ length before = omega (arith, c.requires.within, Grows-length cs c.args.trail.now.entries.items before inv.grows) in
    (IsWatchingUpTo-stays cs old mid before after c.args.head seen_within grows (c.look_at.ensures.same_clauses ∙ inv.same_clauses) look.0 c.in_ok-held.ensures.listed blocked inv.watching).watching

pub returns-in-Falsified-clause-falsified : goal.returns-in-Falsified-clause-falsified
returns-in-Falsified-clause-falsified c =
    let l = c.negation-falsified.result in
    let w : Watcher = c.index-of-place.result in
    let inv = c.loop-place.invariant in
    let cs = clauses_in c.args.watches.now.arena in
    let old = c.loop-place.watches in
    let mid = c.look_at.new.watches in
    let before = c.loop-place.trail.entries.items in
    let after = c.look_at.new.trail.entries.items in
    let grows : Grows cs before after = subst (λ cs. Grows cs before after) inv.same_clauses c.look_at.ensures.grows in
    let look : IsLook cs (watched_in old.arena) (watched_in mid.arena) before after w.number l Falsified =
    subst (λ cs. IsLook cs (watched_in old.arena) (watched_in mid.arena) before after w.number l Falsified) inv.same_clauses
    (subst (IsLook (clauses_in old.arena) (watched_in old.arena) (watched_in mid.arena) before after w.number l) c.in-Falsified.is c.in_ok-held.ensures.look) in
    look.1

pub loop-place-preserved : goal.loop-place-preserved
loop-place-preserved c =
    let l = c.negation-falsified.result in
    let place = c.loop-place.place in
    let w : Watcher = c.index-of-place.result in
    let here : slice_get (watchers_of c.loop-place.watches l) place ≡ Some w =
    read_at c.loop-place.watches l place c.of.result.now c.of-in-loop-place.result.now w c.of.ensures c.of-in-loop-place.ensures (omega (arith, c.loop-place-test.true)) c.index-of-place.is in
    let inv = c.loop-place.invariant in
    let cs = clauses_in c.args.watches.now.arena in
    let old = c.loop-place.watches in
    let mid = c.look_at.new.watches in
    let before = c.loop-place.trail.entries.items in
    let after = c.look_at.new.trail.entries.items in
    let grows : Grows cs before after = subst (λ cs. Grows cs before after) inv.same_clauses c.look_at.ensures.grows in
    let look : IsLook cs (watched_in old.arena) (watched_in mid.arena) before after w.number l Leaves =
    subst (λ cs. IsLook cs (watched_in old.arena) (watched_in mid.arena) before after w.number l Leaves) inv.same_clauses
    (subst (IsLook (clauses_in old.arena) (watched_in old.arena) (watched_in mid.arena) before after w.number l) c.in-Leaves.is c.in_ok-held.ensures.look) in
    let blocked : EachBlocked cs mid = subst (λ cs. EachBlocked cs mid) inv.same_clauses c.in_ok-held.ensures.blocked in
    let new = c.drop_number.new.self in
    let head = c.args.head in
    let same : after ≡ before = look.0 in
    let leaves : LeavesWatch cs (literals before) (watched_in old.arena) (watched_in mid.arena) w.number l = look.1 in
    let entries = c.args.trail.now.entries.items in
    let e : Entry = c.index.result.now in
    let start : slice_get entries c.args.head ≡ Some e = slice_get_read entries (length entries) c.args.head e refl c.requires.within c.index.ensures in
    let at : slice_get before head ≡ Some e = slice_get_grown cs entries before head e inv.grows start in
    let is : l ≡ negation_of e.literal = c.negation-falsified.ensures in
    let closed : is_false (literals before) l ≡ true = falsified_by before head e l at is in
    let number : slice_get (numbers_of old l) place ≡ Some w.number = number_at (watchers_of old l) place w here in
    let known : w.number < length cs = omega (arith, inv.watching.watching.listed.known l place w.number number, inv.watching.watching.count) in
    let number_mid : slice_get (numbers_of mid l) place ≡ Some w.number = ap (λ ns. slice_get ns place) c.in_ok-held.ensures.same_numbers ∙ number in
    let watched : watched_in new.arena ≡ watched_in mid.arena = ap watched_in c.drop_number.ensures.arena in
    let unchanged : clauses_in new.arena ≡ cs = ap clauses_in c.drop_number.ensures.arena ∙ c.look_at.ensures.same_clauses ∙ inv.same_clauses in
    let listed : IsListed new =
    IsListed-drop mid new l place w.number c.in_ok-held.ensures.listed number_mid
    (leaves_unwatched cs (literals before) (watched_in old.arena) (watched_in mid.arena) w.number l closed known inv.watching.watching.each leaves)
    watched c.drop_number.ensures.here c.drop_number.ensures.others in
    let drops : numbers_of new l ≡ swap_remove (numbers_of old l) place 0 =
    c.drop_number.ensures.here ∙ ap (λ ns. swap_remove ns place 0) c.in_ok-held.ensures.same_numbers in
    let watching : IsWatchingUpTo cs new before head =
    IsWatchingUpTo-leaves cs old new (watched_in mid.arena) before head w.number l leaves unchanged watched listed
    (EachBlocked-kept cs mid new (λ w. ⊥) blocked c.drop_number.ensures.only (λ w clause none there. absurd none)) inv.watching in
    let left : EachGuardedBut cs (watched_in mid.arena) (numbers_of new l) place (literals (take (head + 1) before)) (literals before) =
    EachGuardedBut-left cs (watched_in old.arena) (watched_in mid.arena) (numbers_of old l) (numbers_of new l) place w.number before head e l number drops at is inv.watching.watching.each inv.watching.guarded leaves inv.but in
    let covers = c.look_at.ensures.covers in
    record {
      same_variables = c.look_at.ensures.same_variables ∙ inv.same_variables;
      same_clauses = unchanged;
      covers = c.drop_number.ensures.count ∙ covers ∙ ap (λ n. 2 * n) inv.same_variables;
      grows = Grows-then _ _ _ _ inv.grows grows;
      watching = subst (λ es. IsWatchingUpTo cs new es head) (sym same) watching;
      but =
          subst (λ es. EachGuardedBut cs (watched_in new.arena) (numbers_of new l) place (literals (take (head + 1) es)) (literals es)) (sym same)
          (subst (λ ws. EachGuardedBut cs ws (numbers_of new l) place (literals (take (head + 1) before)) (literals before)) (sym watched) left);
    }

pub returns-clause-seen : goal.returns-clause-seen
returns-clause-seen c =
    let inv = c.loop-place.invariant in
    let past : length (numbers_of c.loop-place.watches c.negation-falsified.result) ≤ c.loop-place.place =
    omega (arith, c.loop-place-test.false, ap length c.of.ensures, length-map (watchers_of c.loop-place.watches c.negation-falsified.result) (λ (w : Watcher). w.number)) in
    record {
      watching = inv.watching.watching;
      guarded = EachGuardedBut-end _ _ _ _ _ _ past inv.but;
    }

pub loop-place-smaller-then-holds : goal.loop-place-smaller-then-holds
loop-place-smaller-then-holds c =
    omega (arith, c.loop-place-test.true, ap length c.of.ensures, length-map (watchers_of c.loop-place.watches c.negation-falsified.result) (λ (w : Watcher). w.number))

pub loop-place-smaller-in-Stays : goal.loop-place-smaller-in-Stays
loop-place-smaller-in-Stays c =
    let l = c.negation-falsified.result in
    let numbers : numbers_of c.block.new.self l ≡ numbers_of c.loop-place.watches l = c.block.ensures.numbers l ∙ c.in_ok-held.ensures.same_numbers in
    omega (arith, c.loop-place-test.true, ap length c.of.ensures, ap length numbers, length-map (watchers_of c.loop-place.watches l) (λ (w : Watcher). w.number))

pub loop-place-smaller : goal.loop-place-smaller
loop-place-smaller c =
    let l = c.negation-falsified.result in
    let old = numbers_of c.loop-place.watches l in
    let place = c.loop-place.place in
    let within : place < length old =
    omega (arith, c.loop-place-test.true, ap length c.of.ensures, length-map (watchers_of c.loop-place.watches l) (λ (w : Watcher). w.number)) in
    let drops : numbers_of c.drop_number.new.self l ≡ swap_remove old place 0 =
    c.drop_number.ensures.here ∙ ap (λ ns. swap_remove ns place 0) c.in_ok-held.ensures.same_numbers in
    omega (arith, within, ap length drops, length_by_drop old place within)
