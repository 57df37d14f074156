-- One step of rewriting: a rule is applied to a draft, and the dead code is removed.
use Rattle.draft_steps.proofs.Common.{Bool, ◌≡◌, ◌≢◌, ℕ, suc, ◌<◌, ◌≤◌, ◌⊎◌, inl, inr, List, [], ◌++◌, length, map, Option, None, Some, All, refl, sym, ap, subst, ◌∙◌, arith, Contains, slice_get, slice_index_or, option_map, filter_map, cases_eq, length-map, All-contains_itself, All-map, All-weaker, Contains-append_cases, Contains-append_left, Contains-append_right, same_Some, slice_get-map, slice_get_within, HasInst, IsBlock, IsInst, MeetsChecks, end_of, Block, Function, Inst, Operand, Register, IsNeeded, ReadsRegister, IsUseCount, IsUsedOnce, count_of_one, use_counts_are_one, IsRule, Rule, HasNoFault, NumbersFit, Knowledge, IsMatch, MatchesWhere, Binding, register_or, IsRewritten, RewrittenFunctionsMeetChecks, IsBound, is_bound, most_put, Substitution, substituted_block, substituted_inst, substituted_operand, Rewrite, map_in, gone, inst_changed, instead, replaced, AreRead, HasNoDeadCode, IsEliminating, IsNeededWith, KeepsUses, ends, is_one, operands_at, register_of, times_in_function, AreTouched, HasRoomFor, Stands, function_of, numbers_of, orders_of, placed, placed_binding, none, IsPlaceIn, arena_place, IsPutFor, MayPut, MayRead, put_for, put_numbers, with_put, IsSettled, IsWhole, Draft, Place, Rewritten, changed_length, inst_there, counted_block, AreFew, insts-stay, arena_place_inst, inst_stays, unread_stays, use_count, few_insts, stands_there}
use Rattle.ir_core.specs.declared.operand.Operand.TheVariants as operands
use Rattle.ir_core.specs.declared.operand.Register.TheVariants as registers
use Rattle.ir_meaning.proofs.Pieces.{some_at}
use Rattle.needed.specs.Operands.{operands_of}
use Rattle.rewriter.specs.Put as target
use Rattle.draft_steps.specs.DeadCode.{reads}
use Rattle.draft_steps.specs.Rewriting.{numbered}
use Rattle.draft_steps.proofs.Clearing.{inst_left, stood_first}
use Rattle.draft_steps.proofs.Instead.{result_needed}
use Rattle.draft_steps.proofs.Leaving.{function_at}
use Rattle.draft_steps.proofs.MoreOften.{put_more_often, replaced_as_often}
use Rattle.draft_steps.proofs.Needing.{AreRows}
use Rattle.draft_steps.proofs.Numbered.{IsRootIn, not_own, put_known, put_stand, result_known, result_stands, root_in, rule_applied}
use Rattle.draft_steps.proofs.PutAll.{with_has, with_inst}
use Rattle.draft_steps.proofs.PutFor.{are_put}
use Rattle.draft_steps.proofs.RewrittenRows.{ArePut, IsPutBlock}
use Rattle.draft_steps.proofs.Room.{room_after_put}
use Rattle.draft_steps.proofs.Starting.{begins, comes, read_stands_then, stood_or_came}
use Rattle.draft_steps.proofs.Taking.{reads_fall, unused}
use Rattle.draft_steps.proofs.Using.{less_often}
use Rattle.draft_steps.proofs.WhoReads.{inst_reads_it}
use Rattle.draft_steps.proofs.WholeRows.{settled_rows, whole_rows}

-- a place by block and number
abbrev at_number : ℕ → ℕ → Place
at_number b n = record { block = b; number = n }

-- a block of the arena is one of the arena with the inserted instructions
there_too : (v : Rewrite) (n : ℕ) (sigma : Substitution) (d : ℕ) (o o' : Option Block) (x : Block) → o ≡ Some x → ArePut v n sigma d o o' → (y : Block) × (o' ≡ Some y) × IsPutBlock v n sigma d x y
there_too v n sigma d None o' x e are = absurd cc
there_too v n sigma d (Some z) None x e are = absurd are
there_too v n sigma d (Some z) (Some y) x e are = (y, refl, subst (λ (u : Block). IsPutBlock v n sigma d u y) (same_Some z x e) are)

module _ (old : Draft) (settled : IsSettled old) (rule : Rule) (m : Binding) (checks : MeetsChecks (function_of old)) (is_rule : IsRule rule)
    {Before : ℕ → ℕ → ℕ → ℕ → Type 0} {known : Knowledge} (matches : MatchesWhere Before known (function_of old) m.block (placed_binding old m).place rule (placed_binding old m)) where
  abbrev rows : List (List ℕ)
  rows = numbers_of old

  pub good : AreRows old.arena (numbers_of old)
  good = settled_rows old settled

  abbrev pub Root : Type 0
  Root = IsRootIn rule old.arena (numbers_of old) good m checks is_rule matches

  pub root : Root
  root = root_in rule old.arena (numbers_of old) good m checks is_rule matches

  pub root_stands : Stands old m.block m.place
  root_stands = root.stands

  abbrev pub root_inst : Inst
  root_inst = root.inst

  pub root_is : IsInst old.arena m.block m.place root_inst
  root_is = record { block = root.block; is_block = root.is_block; is_inst = root.is_inst }

  -- all names of the rule are bound
  pub bound : IsBound rule m
  bound =
      let is = is_bound (function_of old) rule (placed_binding old m) is_rule matches in
      let statements : length (placed_binding old m).statements ≡ length rule.source = is.statements in
      let inputs : length (placed_binding old m).inputs ≡ length rule.inputs = is.inputs in
      record {
        statements = sym (length-map m.statements (λ r. register_or r (placed (numbers_of old) r))) ∙ statements;
        inputs = sym (length-map m.inputs (substituted_operand (placed (numbers_of old)))) ∙ inputs;
        typing = is.typing;
        constants = is.constants;
      }

  pub readable : (inst : Inst) → IsInst old.arena m.block m.place inst → MayPut old.arena m.block (target.rewrite_of rule (numbered old.arena m) inst.name).put
  readable inst is = λ j i at.
      All-weaker (Contains (operands_of i.op)) (MayRead old.arena m.block j) (λ a has. put_known rule old.arena (numbers_of old) good m checks is_rule matches inst.name root j i at a has) (operands_of i.op)
      (All-contains_itself (operands_of i.op))

  pub result_readable : (inst : Inst) → IsInst old.arena m.block m.place inst
      → MayRead old.arena m.block (length (target.rewrite_of rule (numbered old.arena m) inst.name).put) (target.rewrite_of rule (numbered old.arena m) inst.name).result
  result_readable inst is = result_known rule old.arena (numbers_of old) good m checks is_rule matches inst.name root

  abbrev pub w : Rewrite
  w = target.rewrite_of rule (numbered old.arena m) root.inst.name

  abbrev g : Function
  g = replaced (with_put old.arena m.block w.put) (registers.Result m.block m.place) w.result

  has_root : HasInst g m.block m.place
  has_root =
      let (more, is, lt) = (with_has old.arena m.block w.put).insts m.block m.place (root.block, root.is_block, within) in
      let size : length (map (substituted_inst (instead (registers.Result m.block m.place) w.result)) more.insts) ≡ length more.insts = length-map more.insts (substituted_inst (instead (registers.Result m.block m.place) w.result)) in (
        substituted_block (instead (registers.Result m.block m.place) w.result) more,
        slice_get-map (substituted_block (instead (registers.Result m.block m.place) w.result)) (with_put old.arena m.block w.put).blocks m.block ∙ ap (option_map (substituted_block (instead (registers.Result m.block m.place) w.result))) is,
        omega (arith, lt, size),
      )
    where
      within : m.place < length root.block.insts
      within = slice_get_within root.block.insts m.place root.inst root.is_inst

  module _ (mid : Draft) (whole : IsWhole mid) (told : Rewritten) (put : IsPutFor old mid w m.place told) where
    abbrev Put : Function
    Put = put_for old.arena w m.place

    -- what is read after the rewrite is of instructions that stand
    read_then : (c k d q : ℕ) → ReadsRegister mid.arena c k (registers.Result d q) → Stands mid d q
    read_then c k d q h =
        subst (λ (l : List (List ℕ)). Contains (slice_index_or l d []) q) (sym put.numbers)
        (read_stands_then old.arena (numbers_of old) good m.block m.place w.put w.result root.block root.is_block root.stands
        (put_stand rule old.arena (numbers_of old) good m checks is_rule matches root.inst.name root)
        (result_stands rule old.arena (numbers_of old) good m checks is_rule matches root.inst.name root)
        has_root c k d q (subst (λ (h : Function). ReadsRegister h c k (registers.Result d q)) put.arena h))

    pub good_then : AreRows mid.arena (numbers_of mid)
    good_then = whole_rows mid whole read_then

    -- its function is that to which the rule is applied
    pub is_rewritten : IsRewritten (function_of old) (placed_binding old m) rule (function_of mid)
    is_rewritten =
        subst (λ (h : Function). IsRewritten (function_of old) (placed_binding old m) rule (function_at h (numbers_of mid))) (sym put.arena)
        (subst (λ (l : List (List ℕ)). IsRewritten (function_of old) (placed_binding old m) rule (function_at Put l)) (sym put.numbers)
        (rule_applied rule old.arena (numbers_of old) good m checks is_rule matches root))

    pub checks_then : (across : Bool) → IsMatch across (function_of old) m.block (placed_binding old m).place rule (placed_binding old m)
        → RewrittenFunctionsMeetChecks → HasNoFault rule → NumbersFit (function_of old) → MeetsChecks (function_of mid)
    checks_then across is meets typed fit = meets across (function_of old) (function_of mid) m.block (placed_binding old m).place rule (placed_binding old m) is_rule typed checks fit is is_rewritten

    fell_then : (r : Register) → Contains (map (λ number. registers.Result m.block number) (put_numbers old.arena w)
        ++ filter_map register_of (operands_at g (record { block = m.block; number = m.place }))) r → Contains mid.dead_candidates.items r
    fell_then r has =
        subst (λ (l : List Register). Contains l r) (sym put.fell)
        (elim (Contains-append_cases (map (λ number. registers.Result m.block number) (put_numbers old.arena w)) (filter_map register_of (operands_at g (record { block = m.block; number = m.place }))) r has) [
          | inl early ↦ Contains-append_left (old.dead_candidates.items ++ map (λ number. registers.Result m.block number) (put_numbers old.arena w)) (filter_map register_of (operands_at g (record { block = m.block; number = m.place }))) r
              (Contains-append_right old.dead_candidates.items (map (λ number. registers.Result m.block number) (put_numbers old.arena w)) r early)
          | inr late ↦ Contains-append_right (old.dead_candidates.items ++ map (λ number. registers.Result m.block number) (put_numbers old.arena w)) (filter_map register_of (operands_at g (record { block = m.block; number = m.place }))) r late
        ])

    module _ (clean : HasNoDeadCode old) where
      -- each instruction that stands then is live, or would be if the registers on the worklist were
      pub waits : (b n : ℕ) → Stands mid b n → IsNeededWith mid.arena mid.dead_candidates.items (registers.Result b n)
      waits b n stands =
          let few : length root.block.insts ≤ none = (settled.whole.rows m.block root.block root.is_block).few in
          let lt : m.place < length root.block.insts = slice_get_within root.block.insts m.place root.inst root.is_inst in
          let start = begins old.arena (numbers_of old) good m.block m.place w.put w.result root.block root.is_block root.stands
          (put_stand rule old.arena (numbers_of old) good m checks is_rule matches root.inst.name root)
          (result_stands rule old.arena (numbers_of old) good m checks is_rule matches root.inst.name root)
          has_root clean mid.dead_candidates.items
          (λ n has. fell_then (registers.Result m.block n) (Contains-append_left (map (λ number. registers.Result m.block number) (put_numbers old.arena w)) (filter_map register_of (operands_at g (record { block = m.block; number = m.place })))
          (registers.Result m.block n) (map_in (λ number. registers.Result m.block number) (put_numbers old.arena w) n has)))
          (λ r h. fell_then r (Contains-append_right (map (λ number. registers.Result m.block number) (put_numbers old.arena w)) (filter_map register_of (operands_at g (record { block = m.block; number = m.place }))) r
          (reads_fall g (record { block = m.block; number = m.place }) r (omega (arith, lt, few)) h))) in
          subst (λ (h : Function). IsNeededWith h mid.dead_candidates.items (registers.Result b n)) (sym put.arena)
          (start.waits b n (subst (λ (l : List (List ℕ)). Contains (slice_index_or l b []) n) put.numbers stands))

      pub are_read : AreRead mid mid.dead_candidates.items
      are_read = λ b n stands. by (registers.Result b n) (waits b n stands)
        where
          by : (r : Register) → IsNeededWith mid.arena mid.dead_candidates.items r → ((c : ℕ) × (k : ℕ) × ReadsRegister mid.arena c k r) ⊎ Contains mid.dead_candidates.items r
          by r (ends c h) = inl (c, end_of mid.arena c, h)
          by r (reads c k need h) = inl (c, k, h)
          by r (is_one has) = inr has

      -- the operand that replaced the root's register is live
      pub result_is_needed : (r : Register) → told.result ≡ operands.Register r → IsNeeded mid.arena r
      result_is_needed r is =
          subst (λ (h : Function). IsNeeded h r) (sym put.arena)
          (result_needed old.arena m.block m.place w.put w.result (not_own rule old.arena (numbers_of old) good m checks is_rule matches root.inst.name root) r (sym put.result ∙ is) has_root
          (clean m.block m.place root.stands))

    pub room_then : (steps : ℕ) → HasRoomFor (suc steps) old → HasRoomFor steps mid
    room_then steps room = room_after_put steps old mid w m.place put.arena (most_put rule (numbered old.arena m) is_rule root.inst.name) room

    -- an instruction that stands then stood before, or was inserted
    stood_or_put : (b n : ℕ) → Stands mid b n → (Stands old b n × ¬ (registers.Result b n ≡ registers.Result m.block m.place)) ⊎ ((b ≡ m.block) × Contains (put_numbers old.arena w) n)
    stood_or_put b n stands =
        stood_or_came old.arena (numbers_of old) good m.block m.place w.put w.result root.block root.is_block root.stands b n (subst (λ (l : List (List ℕ)). Contains (slice_index_or l b []) n) put.numbers stands)

    few_then : AreFew g
    few_then c x is =
        let (y, there, size) = counted_block g m.block (inst_changed m.place gone) has_root.0 has_root.1 (λ z. changed_length m.place gone z.insts) c x is in
        let low = few_insts mid whole c y (subst (λ (h : Function). IsBlock h c y) (sym put.arena) there) in
        omega arith

    -- its register has as many uses as before, or more, or is on the worklist
    pub keeps_then : KeepsUses old mid mid.dead_candidates.items
    keeps_then = λ b n stands. elim (stood_or_put b n stands) [
      | inr (same, came) ↦ inr (fell_then (registers.Result b n) (Contains-append_left (map (λ number. registers.Result m.block number) (put_numbers old.arena w)) (filter_map register_of (operands_at g (record { block = m.block; number = m.place })))
          (registers.Result b n) (subst (λ (c : ℕ). Contains (map (λ number. registers.Result m.block number) (put_numbers old.arena w)) (registers.Result c n)) (sym same) (map_in (λ number. registers.Result m.block number) (put_numbers old.arena w) n came))))
      | inl (stood, other) ↦ elim (less_often g few_then m.block m.place has_root (registers.Result b n)) [
        | inr among ↦ inr (fell_then (registers.Result b n) (Contains-append_right (map (λ number. registers.Result m.block number) (put_numbers old.arena w)) (filter_map register_of (operands_at g (record { block = m.block; number = m.place }))) (registers.Result b n) among))
        | inl enough ↦ inl (
            let arenas = ap (times_in_function (registers.Result b n)) put.arena in
            let more = put_more_often (registers.Result b n) old.arena m.block w.put in
            let instead_of = replaced_as_often (registers.Result b n) (registers.Result m.block m.place) w.result other (with_put old.arena m.block w.put) in
            omega arith)
      ]
    ]

    -- it is the same instruction as before, where it didn't read the root's register
    same_then : (b n : ℕ) (inst : Inst) → ¬ (registers.Result b n ≡ registers.Result m.block m.place) → IsInst old.arena b n inst
        → ((a : Operand) → Contains (operands_of inst.op) a → a ≢ operands.Register (registers.Result m.block m.place)) → IsInst mid.arena b n inst
    same_then b n inst other at unread =
        let sigma_inst : substituted_inst (instead (registers.Result m.block m.place) w.result) inst ≡ inst =
        inst_stays (registers.Result m.block m.place) w.result inst (λ a among. unread_stays (registers.Result m.block m.place) w.result a (unread a among)) in
        let (y, is, block) = there_too (record { block = m.block; place = 0; put = []; result = w.result }) m.place (instead (registers.Result m.block m.place) w.result) b (slice_get old.arena.blocks b) (slice_get Put.blocks b) at.block at.is_block (are_put old.arena (numbers_of old) good m.block m.place (end_of old.arena m.block) 0 w.put [] w.result w.result b) in
        let here : slice_get y.insts n ≡ Some (substituted_inst (instead (registers.Result m.block m.place) w.result) inst) =
        block.other n inst (λ e. other (ap (λ (c : ℕ). registers.Result c n) e.0 ∙ ap (λ (k : ℕ). registers.Result m.block k) e.1)) at.is_inst in
        subst (λ (h : Function). IsInst h b n inst) (sym put.arena) (record { block = y; is_block = is; is_inst = here ∙ ap (λ (i : Inst). Some i) sigma_inst })

    -- where it did, it is among the places that are returned
    reader_told : (b n : ℕ) (inst : Inst) → IsInst old.arena b n inst → Contains (operands_of inst.op) (operands.Register (registers.Result m.block m.place)) → Contains told.replaced.items (record { block = b; number = n })
    reader_told b n inst at among =
        let q : Place = record { block = b; number = n } in
        let there = with_inst old.arena m.block w.put b n inst at in
        let lt : n < length there.block.insts = slice_get_within there.block.insts n inst there.is_inst in
        let was : n < length at.block.insts = slice_get_within at.block.insts n inst at.is_inst in
        let few : length at.block.insts ≤ none = (settled.whole.rows b at.block at.is_block).few in
        let place : arena_place (with_put old.arena m.block w.put) (record { block = b; number = n }) ≡ n = arena_place_inst (with_put old.arena m.block w.put) (record { block = b; number = n }) (omega (arith, was, few)) in
        (put.places (record { block = b; number = n })).1 (
          (there.block, there.is_block, inl lt),
          subst (λ (k : ℕ). ReadsRegister (with_put old.arena m.block w.put) b k (registers.Result m.block m.place)) (sym place)
              (inst_reads_it (with_put old.arena m.block w.put) b n there.block inst (registers.Result m.block m.place) there.is_block there.is_inst among),
        )

    -- ---- the places that are returned

    place_then : (p : Place) → IsPlaceIn (with_put old.arena m.block w.put) p → IsPlaceIn mid.arena p
    place_then p (x, is, inside) =
        let substituted : IsBlock g p.block (substituted_block (instead (registers.Result m.block m.place) w.result) x) =
        slice_get-map (substituted_block (instead (registers.Result m.block m.place) w.result)) (with_put old.arena m.block w.put).blocks p.block ∙ ap (option_map (substituted_block (instead (registers.Result m.block m.place) w.result))) is in
        let (y, there, size) = counted_block g m.block (inst_changed m.place gone) has_root.0 has_root.1 (λ z. changed_length m.place gone z.insts) p.block (substituted_block (instead (registers.Result m.block m.place) w.result) x) substituted in
        let same = length-map x.insts (substituted_inst (instead (registers.Result m.block m.place) w.result)) in
        (y, subst (λ (h : Function). IsBlock h p.block y) (sym put.arena) there, elim inside [ inl within ↦ inl (omega arith) | inr end ↦ inr end ])

    inst_place : (d : Draft) (p : Place) → HasInst d.arena p.block p.number → IsPlaceIn d.arena p
    inst_place d p (block, is, lt) = (block, is, inl lt)

    module _ (new : Draft) (whole_now : IsWhole new) (orders : orders_of new ≡ orders_of mid) where
      place_now : (p : Place) → IsPlaceIn mid.arena p → IsPlaceIn new.arena p
      place_now p (x, is, inside) = elim inside [
        | inl within ↦ inst_place new p (insts-stay mid new whole whole_now orders p.block p.number (x, is, within))
        | inr end ↦
            let was : p.block < length mid.arena.blocks = slice_get_within mid.arena.blocks p.block x is in
            let size = ap length orders in
            let (y, there) = some_at new.arena.blocks p.block (omega (arith, was, size, whole.ordered, whole_now.ordered)) in
            (y, there, inr end)
      ]

      pub put_places : All (IsPlaceIn new.arena) told.put.items
      put_places = subst (All (IsPlaceIn new.arena)) (sym put.put)
          (All-map (IsPlaceIn new.arena) (λ number. record { block = m.block; number = number }) (put_numbers old.arena w)
          (All-weaker (Contains (put_numbers old.arena w)) (λ n. IsPlaceIn new.arena (record { block = m.block; number = n }))
          (λ n came. place_now (record { block = m.block; number = n }) (inst_place mid (record { block = m.block; number = n }) (stands_there mid whole m.block n
          (subst (λ (l : List (List ℕ)). Contains (slice_index_or l m.block []) n) (sym put.numbers)
          (comes old.arena (numbers_of old) good m.block m.place w.put w.result root.block root.is_block root.stands n came)))))
          (put_numbers old.arena w) (All-contains_itself (put_numbers old.arena w))))

      pub replaced_places : All (IsPlaceIn new.arena) told.replaced.items
      replaced_places =
          All-weaker (Contains told.replaced.items) (IsPlaceIn new.arena) (λ p among. place_now p (place_then p ((put.places p).0 among).0)) told.replaced.items (All-contains_itself told.replaced.items)

      pub root_place : IsPlaceIn new.arena (record { block = m.block; number = m.place })
      root_place = place_now (record { block = m.block; number = m.place })
          (place_then (record { block = m.block; number = m.place }) (inst_place_in ((with_has old.arena m.block w.put).insts m.block m.place (root.block, root.is_block, slice_get_within root.block.insts m.place root.inst root.is_inst))))
        where
          inst_place_in : HasInst (with_put old.arena m.block w.put) m.block m.place → IsPlaceIn (with_put old.arena m.block w.put) (record { block = m.block; number = m.place })
          inst_place_in (block, is, lt) = (block, is, inl lt)

    module _ (clean : HasNoDeadCode old) (new : Draft) (whole_now : IsWhole new) (is : IsEliminating mid.arena (numbers_of mid) new.arena (numbers_of new) []) (used : List Register) (keeps : KeepsUses old new used)
        (places : List Place) (has_put : (p : Place) → Contains told.put.items p → Contains places p) (has_replaced : (p : Place) → Contains told.replaced.items p → Contains places p)
        (has_used : (b n : ℕ) → Contains used (registers.Result b n) → IsUseCount new.arena (registers.Result b n) 1 → Contains places (record { block = b; number = n })) where
      -- a register with exactly one use had exactly one before
      once_before : (b n : ℕ) → Stands new b n → Stands old b n → ¬ Contains places (record { block = b; number = n }) → IsUsedOnce new.arena (registers.Result b n) → IsUsedOnce old.arena (registers.Result b n)
      once_before b n stands stood out once_now =
          let one : IsUseCount new.arena (registers.Result b n) 1 = (count_of_one new.arena (registers.Result b n)).1 once_now in
          let now : times_in_function (registers.Result b n) new.arena ≡ 1 = use_counts_are_one new.arena (registers.Result b n) (times_in_function (registers.Result b n) new.arena) 1 (use_count (registers.Result b n) new.arena) one in
          elim (keeps b n stands) [
            | inr among ↦ absurd (out (has_used b n among one))
            | inl low ↦ elim (cases_eq (times_in_function (registers.Result b n) old.arena) 0) [
              | inl unread ↦ absurd (unused old.arena (registers.Result b n) (subst (IsUseCount old.arena (registers.Result b n)) unread (use_count (registers.Result b n) old.arena)) (clean b n stood))
              | inr some ↦
                  let was : times_in_function (registers.Result b n) old.arena ≡ 1 = omega arith in
                  (count_of_one old.arena (registers.Result b n)).0 (subst (IsUseCount old.arena (registers.Result b n)) was (use_count (registers.Result b n) old.arena))
            ]
          ]

      pub are_touched : AreTouched old new places
      are_touched = λ b n stands out. elim (stood_or_put b n (stood_first mid new whole whole_now [] is b n stands)) [
        | inr (same, came) ↦
            let there : Contains (map (at_number m.block) (put_numbers old.arena w)) (at_number m.block n) = map_in (at_number m.block) (put_numbers old.arena w) n came in
            let moved : Contains (map (at_number m.block) (put_numbers old.arena w)) (at_number b n) = subst (λ (c : ℕ). Contains (map (at_number m.block) (put_numbers old.arena w)) (at_number c n)) (sym same) there in
            absurd (out (has_put (at_number b n) (subst (λ (l : List Place). Contains l (at_number b n)) (sym put.put) moved)))
        | inl (stood, other) ↦
            let (block, inst, is_block, here) = inst_there old.arena b n (stands_there old settled.whole b n stood) in
            let at : IsInst old.arena b n inst = record { block = block; is_block = is_block; is_inst = here } in
            let then : IsInst mid.arena b n inst = same_then b n inst other at (λ a among e. out (has_replaced (record { block = b; number = n }) (reader_told b n inst at (subst (Contains (operands_of inst.op)) e among)))) in
            record {
              inst = inst;
              was = at;
              is = inst_left mid new whole whole_now [] is b n inst stands then;
              stood = stood;
              once = once_before b n stands stood out;
            }
      ]
