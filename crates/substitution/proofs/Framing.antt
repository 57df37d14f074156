-- Each pass of a rewritten function is allowed by one of the old function.
use Rattle.substitution.proofs.Common.{◌≡◌, ℕ, zero, suc, ◌+◌, inl, inr, List, [], ◌∷◌, ◌++◌, length, Option, None, Some, refl, sym, ap, subst, ◌∙◌, arith, slice_get, same_Some, AllowsValue, AllowsEffect, AllowsValue-refl, Value, Effect, IsBlock, Names, IsPhi, IsInst, MeetsChecks, end_of, reads_at_end, AreArguments, Registers, arguments, holding, Ending, Undefines, Returns, Goes, GoesOn, IfPhi, AnyNumber, OpGives, PhiGives, EndGives, Follows, Enters, IsReached, Function, Block, Inst, Phi, Operand, Terminator, HoldWidths, substituted_entries, substituted_op, substituted_inst, substituted_end, pulled_back, ending_back, Rewrite, moved_place, stands_for, rewritten_insts, rewritten_block, rewritten_function, RunsThrough, NumbersFit, Fits, ComesTo, AllowsEnding, AssignedAllow, AllowsPut, RootAllowsPut, one_inst, rest_here, rest_next, end_of-is, held_widths}
use Rattle.ops.specs.declared.value.Effect.TheVariants as effects
use Rattle.ir_core.specs.declared.operand.Register.TheVariants as registers
use Rattle.substitution.proofs.Allowing.{terminators_monotone, Same}
use Rattle.substitution.proofs.Going.{phi_or_not, no_phi_to, no_phi_substituted, NoPhis, no_phis_at, no_phis_joined, enters_follows, GoesAfter, through}
use Rattle.substitution.proofs.Reading.{reads_allow, end_reads_there, op_allowed, Edge, phi_matched}
use Rattle.substitution.proofs.Writing.{allows_next, allows_behind, put_through}
use Rattle.substitution.proofs.Arriving.{last_of, moment, Arrives, comes_to, is_reached, arrive_first, arrive_phi, arrive_next, arrive_edge, goes_by_names, goes_with, same_or_other}
use Rattle.substitution.proofs.Assigning.{assigned_edge, none_assigned}
use Rattle.substitution.proofs.Placing.{IsTheRoot, moved_first, moved_next, moved_root, moved_behind_root, insts_root, insts_other, block_back, length-block, block_at, inst_on}
use Rattle.substitution.proofs.Simulation.{Relation, Allowed, IsSimulation}
use Rattle.substitution.proofs.Standing.{definite, widths_back}
use Rattle.substitution.proofs.Substituting.{op_back, terminator_back}

module _ (f : Function) (w : Rewrite) (root : Inst) (m : MeetsChecks f) (fits : Fits f w root) (m' : MeetsChecks (rewritten_function w f)) (numbers' : NumbersFit (rewritten_function w f))
    (matched : RootAllowsPut f w root) (args : List Value) (are : AreArguments f.parameters args) where
  abbrev new : Function
  new = rewritten_function w f

  abbrev Pulled : Registers → Registers
  Pulled held = pulled_back (stands_for w) held

  -- a run of the old function comes to place k of block b, and one of the new function to the place where that is then
  pub record At (before : List ℕ) (b k : ℕ) (entered held entered' held' : Registers) : Type 0 where
    arrives : Arrives f args before b k entered held
    arrives' : Arrives new args before b (moved_place w b k) entered' held'
    allows : AssignedAllow f w b k held held'

  -- runs of both enter block b
  pub record Entering (before : List ℕ) (b : ℕ) (held held' : Registers) : Type 0 where
    arrives : Arrives f args before b 0 held held
    arrives' : Arrives new args before b 0 held' held'
    edge : Edge f w m before held held'
    allows : AssignedAllow f w b 0 held held'

  widths' : (before : List ℕ) (b k : ℕ) (entered held : Registers) → Arrives new args before b k entered held → HoldWidths f (Pulled held)
  widths' before b k entered held run = widths_back f w root fits held (held_widths new args (moment before b k entered held) run.history m'.formed numbers' are run.is_history).0

  root_matched : (before : List ℕ) (b k : ℕ) (i : Inst) (entered held entered' held' : Registers) (after : Option Registers) → b ≡ w.block → k ≡ w.place → IsInst f b k i
      → Arrives f args before b k entered held → Arrives new args before b k entered' held' → AssignedAllow f w b k held held' → RunsThrough b k w.put held' after
      → (e : Effect) × OpGives AnyNumber held i.width i.op e × AllowsPut w e after
  root_matched before b k i entered held entered' held' after p q is run run' h runs =
      let there : IsInst f w.block w.place i = subst (λ (n : ℕ). IsInst f w.block n i) q (subst (λ (c : ℕ). IsInst f c k i) p is) in
      let same : root ≡ i = one_inst f w.block w.place root i fits.is_root there in
      subst (λ (x : Inst). (e : Effect) × OpGives AnyNumber held x.width x.op e × AllowsPut w e after) same
      (matched args held held' after are
      (subst (λ (n : ℕ). ComesTo f args w.block n held) q (subst (λ (c : ℕ). ComesTo f args c k held) p (comes_to f args before b k entered held run)))
      (subst (λ (n : ℕ). ComesTo new args w.block n held') q (subst (λ (c : ℕ). ComesTo new args c k held') p (comes_to new args before b k entered' held' run')))
      (subst (λ (n : ℕ). AssignedAllow f w w.block n held held') q (subst (λ (c : ℕ). AssignedAllow f w c k held held') p h))
      (subst (λ (n : ℕ). RunsThrough w.block n w.put held' after) q (subst (λ (c : ℕ). RunsThrough c k w.put held' after) p runs)))

  -- ---- a block

  abbrev pub Related : Relation
  Related before b held held' = Entering before b held held'

  -- the new function's pass through block b, which ends so, is allowed by one of the old function
  abbrev Matched : ℕ → List ℕ → Ending → (Ending → Type 0) → Type 0
  Matched b before end' P = (end : Ending) × P end × Allowed Related (b ∷ before) end end'

  module _ (b : ℕ) (before : List ℕ) (block : Block) (at : IsBlock f b block) where
    abbrev End : Terminator
    End = substituted_end (stands_for w) block.end

    inst_at : (k : ℕ) (i : Inst) (insts : List Inst) → ((j : ℕ) → slice_get block.insts (k + j) ≡ slice_get (i ∷ insts) j) → IsInst f b k i
    inst_at k i insts is = record { block = block; is_block = at; is_inst = rest_here block.insts k i insts is }

    -- the endings that the two terminators give are related
    end_related : (k : ℕ) (entered held entered' held' : Registers) (end end' : Ending) → At before b k entered held entered' held' → k ≡ length block.insts
        → EndGives AnyNumber held f block.end end → EndGives AnyNumber held' new End end' → AllowsEnding (Same held (Pulled held')) end (ending_back (stands_for w) end') → Allowed Related (b ∷ before) end end'
    end_related k entered held entered' held' Undefines end' here is gives gives' allows = tt
    end_related k entered held entered' held' (Returns v) Undefines here is gives gives' allows = absurd allows
    end_related k entered held entered' held' (Returns v) (Returns v') here is gives gives' allows = (v', refl, allows)
    end_related k entered held entered' held' (Returns v) (Goes c next) here is gives gives' allows = absurd allows
    end_related k entered held entered' held' (Goes c next) Undefines here is gives gives' allows = absurd allows
    end_related k entered held entered' held' (Goes c next) (Returns v') here is gives gives' allows = absurd allows
    end_related k entered held entered' held' (Goes c next) (Goes c' next') here is gives gives' allows =
        let place' : moved_place w b k ≡ length (rewritten_insts w b 0 block.insts) = ap (moved_place w b) is ∙ sym (length-block w b block) in
        let block' : IsBlock new b (rewritten_block w b block) = block_at w f b block at in
        let arrives : Arrives f args (b ∷ before) c 0 next next =
        arrive_edge f args before b c entered held next block (subst (λ (n : ℕ). Arrives f args before b n entered held) is here.arrives) at gives in
        let arrives' : Arrives new args (b ∷ before) c' 0 next' next' =
        arrive_edge new args before b c' entered' held' next' (rewritten_block w b block) (subst (λ (n : ℕ). Arrives new args before b n entered' held') place' here.arrives') block' gives' in
        let end_is : k ≡ end_of f b = is ∙ sym (end_of-is f b block at) in
        let held_is : next ≡ held = allows.1.0 in
        let held_is' : next' ≡ held' = goes_with new held' next' End c' gives' in
        let edge : AssignedAllow f w b (end_of f b) next next' =
        subst (λ (x : Registers). AssignedAllow f w b (end_of f b) x next') (sym held_is) (subst (λ (x : Registers). AssignedAllow f w b (end_of f b) held x) (sym held_is') (subst (λ (n : ℕ). AssignedAllow f w b n held held') end_is here.allows)) in
        let names : Names f b c = goes_by_names f b block held next c at gives in (
          next',
          ap (λ (n : ℕ). Goes n next') allows.0,
          record {
            arrives = arrives;
            arrives' = subst (λ (n : ℕ). Arrives new args (b ∷ before) n 0 next' next') allows.0 arrives';
            edge = edge;
            allows = λ r v' assigned holds. edge r v' (assigned_edge f r b c names assigned) holds;
          },
        )

    ends_back : (k : ℕ) (entered held entered' held' : Registers) (end' : Ending) → At before b k entered held entered' held' → k ≡ length block.insts → EndGives AnyNumber held' new End end'
        → Matched b before end' (λ end. EndGives AnyNumber held f block.end end)
    ends_back k entered held entered' held' end' here is gives =
        let back : EndGives AnyNumber (Pulled held') f block.end (ending_back (stands_for w) end') = terminator_back (stands_for w) f held' block.end end' (definite f w root fits) gives in
        let allows : AssignedAllow f w b (length block.insts) held held' = subst (λ (n : ℕ). AssignedAllow f w b n held held') is here.allows in
        let end : (end : Ending) × EndGives AnyNumber held f block.end end × AllowsEnding (Same held (Pulled held')) end (ending_back (stands_for w) end') =
        terminators_monotone f held (Pulled held') b (length block.insts) block.end (ending_back (stands_for w) end') (reads_allow f w m b (length block.insts) held held' (reads_at_end f b (length block.insts) block.end) allows (end_reads_there f w m b block at)) back in
        (end.0, end.1, end_related k entered held entered' held' end.0 end' here is end.1 gives end.2)

    -- the rest of the pass from place k on is allowed, whatever registers hold
    abbrev Rest : ℕ → List Inst → Ending → Type 0
    Rest k insts end' = (entered held entered' held' : Registers) → At before b k entered held entered' held'
        → Follows AnyNumber new b (moved_place w b k) (rewritten_insts w b k insts) End held' end' → Matched b before end' (λ end. Follows AnyNumber f b k insts block.end held end)

    reached : (k : ℕ) (entered held : Registers) → Arrives f args before b k entered held → IsReached f b
    reached k entered held run = is_reached f args before b k entered held run

    follows_other : (k : ℕ) (i : Inst) (insts : List Inst) (entered held entered' held' : Registers) (end' : Ending) → IsInst f b k i → ¬ IsPhi i.op → ¬ IsTheRoot w b k → At before b k entered held entered' held' → Rest (suc k) insts end'
        → (e e' : Effect) → OpGives AnyNumber held i.width i.op e → OpGives AnyNumber held' i.width (substituted_op (stands_for w) i.op) e' → AllowsEffect e e'
        → GoesOn (λ v. Follows AnyNumber new b (suc (moved_place w b k)) (rewritten_insts w b (suc k) insts) End (holding held' b (moved_place w b k) v) end') e' end'
        → Matched b before end' (λ end. Follows AnyNumber f b k (i ∷ insts) block.end held end)
    follows_other k i insts entered held entered' held' end' is no_phi other here rest effects.Undefined e' gives gives' allows on = (Undefines, (effects.Undefined, gives, refl), tt)
    follows_other k i insts entered held entered' held' end' is no_phi other here rest (effects.Gives v) effects.Undefined gives gives' allows on = absurd allows
    follows_other k i insts entered held entered' held' end' is no_phi other here rest (effects.Gives v) (effects.Gives v') gives gives' allows on =
        let next : moved_place w b (suc k) ≡ suc (moved_place w b k) = moved_next w b k other in
        let held2 : Registers = holding held' b (moved_place w b k) v' in
        let there : At before b (suc k) entered (holding held b k v) entered' held2 = record {
          arrives = arrive_next f args before b k entered held i v here.arrives is gives;
          arrives' = subst (λ (n : ℕ). Arrives new args before b n entered' held2) (sym next) (arrive_next new args before b (moved_place w b k) entered' held' (substituted_inst (stands_for w) i) v' here.arrives' (inst_on w f b k i is other) gives');
          allows = allows_next f w root fits b k held held' v v' (reached k entered held here.arrives) other allows here.allows;
        } in
        let r : Matched b before end' (λ end. Follows AnyNumber f b (suc k) insts block.end (holding held b k v) end) =
        rest entered (holding held b k v) entered' held2 there (subst (λ (n : ℕ). Follows AnyNumber new b n (rewritten_insts w b (suc k) insts) End held2 end') (sym next) on) in
        (r.0, (effects.Gives v, gives, r.1), r.2)

    -- the rest of the pass behind the root is allowed
    root_related : (k : ℕ) (i : Inst) (insts : List Inst) (entered held entered' held' : Registers) (end' : Ending) → IsInst f b k i → IsTheRoot w b k → At before b k entered held entered' held' → Rest (suc k) insts end'
        → (after : Option Registers) → RunsThrough b k w.put held' after → GoesAfter (λ next. Follows AnyNumber new b (k + length w.put) (rewritten_insts w b (suc k) insts) End next end') end' after
        → (e : Effect) → OpGives AnyNumber held i.width i.op e → AllowsPut w e after
        → Matched b before end' (λ end. Follows AnyNumber f b k (i ∷ insts) block.end held end)
    root_related k i insts entered held entered' held' end' is root_here here rest after runs on effects.Undefined gives allows = (Undefines, (effects.Undefined, gives, refl), tt)
    root_related k i insts entered held entered' held' end' is root_here here rest None runs on (effects.Gives v) gives allows = absurd allows
    root_related k i insts entered held entered' held' end' is root_here here rest (Some next) runs on (effects.Gives v) gives allows =
        let p : b ≡ w.block = root_here.0 in
        let q : k ≡ w.place = root_here.1 in
        let behind : moved_place w b (suc k) ≡ k + length w.put = moved_behind_root w b k root_here in
        let arrives' : Arrives new args before b k entered' held' = subst (λ (n : ℕ). Arrives new args before b n entered' held') (moved_root w b k root_here) here.arrives' in
        let through_put : Arrives new args before b (k + length w.put) entered' next = put_through f w root fits args k b before entered' held' next p q arrives' runs in
        let there : At before b (suc k) entered (holding held b k v) entered' next = record {
          arrives = arrive_next f args before b k entered held i v here.arrives is gives;
          arrives' = subst (λ (n : ℕ). Arrives new args before b n entered' next) (sym behind) through_put;
          allows = allows_behind f w root fits b k held held' next v p q here.allows runs allows;
        } in
        let r : Matched b before end' (λ end. Follows AnyNumber f b (suc k) insts block.end (holding held b k v) end) =
        rest entered (holding held b k v) entered' next there (subst (λ (n : ℕ). Follows AnyNumber new b n (rewritten_insts w b (suc k) insts) End next end') (sym behind) on) in
        (r.0, (effects.Gives v, gives, r.1), r.2)

    follows_root : (k : ℕ) (i : Inst) (insts : List Inst) (entered held entered' held' : Registers) (end' : Ending) → IsInst f b k i → IsTheRoot w b k → At before b k entered held entered' held' → Rest (suc k) insts end'
        → Follows AnyNumber new b (moved_place w b k) (rewritten_insts w b k (i ∷ insts)) End held' end'
        → Matched b before end' (λ end. Follows AnyNumber f b k (i ∷ insts) block.end held end)
    follows_root k i insts entered held entered' held' end' is root_here here rest g =
        let there : moved_place w b k ≡ k = moved_root w b k root_here in
        let at_k : Follows AnyNumber new b k (w.put ++ rewritten_insts w b (suc k) insts) End held' end' =
        subst (λ (n : ℕ). Follows AnyNumber new b n (w.put ++ rewritten_insts w b (suc k) insts) End held' end') there (subst (λ (l : List Inst). Follows AnyNumber new b (moved_place w b k) l End held' end') (insts_root w b k i insts root_here) g) in
        let parts : (after : Option Registers) × RunsThrough b k w.put held' after × GoesAfter (λ next. Follows AnyNumber new b (k + length w.put) (rewritten_insts w b (suc k) insts) End next end') end' after =
        through new b k w.put (rewritten_insts w b (suc k) insts) End held' end' at_k in
        let e : (e : Effect) × OpGives AnyNumber held i.width i.op e × AllowsPut w e parts.0 =
        root_matched before b k i entered held entered' held' parts.0 root_here.0 root_here.1 is here.arrives (subst (λ (n : ℕ). Arrives new args before b n entered' held') there here.arrives') here.allows parts.1 in
        root_related k i insts entered held entered' held' end' is root_here here rest parts.0 parts.1 parts.2 e.0 e.1 e.2

    follows_back : (k : ℕ) (insts : List Inst) (end' : Ending)
        → ((i : ℕ) → slice_get block.insts (k + i) ≡ slice_get insts i) → k + length insts ≡ length block.insts → NoPhis insts → Rest k insts end'
    follows_back k [] end' is len none entered held entered' held' here g = ends_back k entered held entered' held' end' here (omega arith) g
    follows_back k (i ∷ insts) end' is len none entered held entered' held' here g =
        let at_k : IsInst f b k i = inst_at k i insts is in
        let rest : Rest (suc k) insts end' = follows_back (suc k) insts end' (rest_next block.insts k i insts is) (omega arith) none.1 in
        elim (same_or_other b k w.block w.place) [
          | inl root_here ↦ follows_root k i insts entered held entered' held' end' at_k root_here here rest g
          | inr other ↦
              let g' : Follows AnyNumber new b (moved_place w b k) (substituted_inst (stands_for w) i ∷ rewritten_insts w b (suc k) insts) End held' end' = subst (λ (l : List Inst). Follows AnyNumber new b (moved_place w b k) l End held' end') (insts_other w b k i insts other) g in
              let e : (e : Effect) × OpGives AnyNumber held i.width i.op e × AllowsEffect e g'.0 = op_allowed f w m b k i held held' g'.0 at_k none.0 here.allows (widths' before b (moved_place w b k) entered' held' here.arrives') (op_back (stands_for w) held' (definite f w root fits) i.width i.op g'.0 g'.1) in
              follows_other k i insts entered held entered' held' end' at_k none.0 other here rest e.0 g'.0 e.1 g'.1 e.2 g'.2
        ]

    -- ---- the phis, as the block is entered

    -- behind an instruction that is no phi none is
    none_behind : (k : ℕ) (i : Inst) (insts : List Inst) → ((j : ℕ) → slice_get block.insts (k + j) ≡ slice_get (i ∷ insts) j) → ¬ IsPhi i.op → NoPhis (i ∷ insts)
    none_behind k i insts is other = no_phis_at (i ∷ insts) by
      where
        by : (j : ℕ) (inst : Inst) → slice_get (i ∷ insts) j ≡ Some inst → ¬ IsPhi inst.op
        by zero inst e = subst (λ (x : Inst). ¬ IsPhi x.op) (same_Some i inst e) other
        by (suc j) inst e =
            let first : IsInst f b k i = inst_at k i insts is in
            let later : IsInst f b (k + suc j) inst = record { block = block; is_block = at; is_inst = is (suc j) ∙ e } in
            λ phi. other (m.formed.phis_first b k (k + suc j) i inst first later (omega arith) phi)

    -- if none of these is a phi, none is after they are rewritten
    none_rewritten : (k : ℕ) (insts : List Inst) → NoPhis insts → NoPhis (rewritten_insts w b k insts)
    none_rewritten k [] none = tt
    none_rewritten k (i ∷ insts) none =
        let rest : NoPhis (rewritten_insts w b (suc k) insts) = none_rewritten (suc k) insts none.1 in
        elim (same_or_other b k w.block w.place) [
          | inl root_here ↦ subst (λ (l : List Inst). NoPhis l) (sym (insts_root w b k i insts root_here)) (no_phis_joined w.put (rewritten_insts w b (suc k) insts) (no_phis_at w.put fits.no_phis_put) rest)
          | inr other ↦ subst (λ (l : List Inst). NoPhis l) (sym (insts_other w b k i insts other)) (no_phi_substituted w i.op none.0, rest)
        ]

    phi_not_root : (k : ℕ) (i : Inst) (entries : List (Operand × ℕ)) → IsInst f b k i → i.op ≡ Phi entries → ¬ IsTheRoot w b k
    phi_not_root k i entries is phi h =
        let there : IsInst f w.block w.place i = subst (λ (n : ℕ). IsInst f w.block n i) h.1 (subst (λ (c : ℕ). IsInst f c k i) h.0 is) in
        fits.no_phi (subst (λ (x : Inst). IsPhi x.op) (one_inst f w.block w.place i root there fits.is_root) (subst (λ op. IsPhi op) (sym phi) tt))

    module _ (entered entered' : Registers) (edge : Edge f w m before entered entered') where
      abbrev Entered : ℕ → List Inst → Ending → Type 0
      Entered k insts end' = (held held' : Registers) → At before b k entered held entered' held'
          → Enters AnyNumber new (last_of before) entered' b (moved_place w b k) (rewritten_insts w b k insts) End held' end' → Matched b before end' (λ end. Enters AnyNumber f (last_of before) entered b k insts block.end held end)

      enters_phi : (k : ℕ) (i : Inst) (insts : List Inst) (entries : List (Operand × ℕ)) (held held' : Registers) (end' : Ending) → IsInst f b k i → i.op ≡ Phi entries → At before b k entered held entered' held' → Entered (suc k) insts end'
          → Enters AnyNumber new (last_of before) entered' b (moved_place w b k) (rewritten_insts w b k (i ∷ insts)) End held' end'
          → Matched b before end' (λ end. Enters AnyNumber f (last_of before) entered b k (i ∷ insts) block.end held end)
      enters_phi k i insts entries held held' end' is phi here rest g =
          let other : ¬ IsTheRoot w b k = phi_not_root k i entries is phi in
          let next : moved_place w b (suc k) ≡ suc (moved_place w b k) = moved_next w b k other in
          let New : List (Operand × ℕ) → Type 0 = λ es. (v : Value) × PhiGives AnyNumber entered' (last_of before) i.width es v × Enters AnyNumber new (last_of before) entered' b (suc (moved_place w b k)) (rewritten_insts w b (suc k) insts) End (holding held' b (moved_place w b k) v) end' in
          let g' : Enters AnyNumber new (last_of before) entered' b (moved_place w b k) (substituted_inst (stands_for w) i ∷ rewritten_insts w b (suc k) insts) End held' end' =
          subst (λ (l : List Inst). Enters AnyNumber new (last_of before) entered' b (moved_place w b k) l End held' end') (insts_other w b k i insts other) g in
          let taken : New (substituted_entries (stands_for w) entries) =
          subst (λ op. IfPhi New (Follows AnyNumber new b (moved_place w b k) (substituted_inst (stands_for w) i ∷ rewritten_insts w b (suc k) insts) End held' end') (substituted_op (stands_for w) op)) phi g' in
          let v : (v : Value) × PhiGives AnyNumber entered (last_of before) i.width entries v × AllowsValue v taken.0 = phi_matched f w m (definite f w root fits) before b k i entries entered entered' taken.0 is phi edge taken.1 in
          let held2 : Registers = holding held' b (moved_place w b k) taken.0 in
          let there : At before b (suc k) entered (holding held b k v.0) entered' held2 = record {
            arrives = arrive_phi f args before b k entered held i entries v.0 here.arrives is phi v.1;
            arrives' = subst (λ (n : ℕ). Arrives new args before b n entered' held2) (sym next)
                (arrive_phi new args before b (moved_place w b k) entered' held' (substituted_inst (stands_for w) i) (substituted_entries (stands_for w) entries) taken.0 here.arrives' (inst_on w f b k i is other) (ap (substituted_op (stands_for w)) phi) taken.1);
            allows = allows_next f w root fits b k held held' v.0 taken.0 (reached k entered held here.arrives) other v.2 here.allows;
          } in
          let r : Matched b before end' (λ end. Enters AnyNumber f (last_of before) entered b (suc k) insts block.end (holding held b k v.0) end) =
          rest (holding held b k v.0) held2 there (subst (λ (n : ℕ). Enters AnyNumber new (last_of before) entered' b n (rewritten_insts w b (suc k) insts) End held2 end') (sym next) taken.2) in (
            r.0,
            subst (λ op. IfPhi (λ es. (v : Value) × PhiGives AnyNumber entered (last_of before) i.width es v × Enters AnyNumber f (last_of before) entered b (suc k) insts block.end (holding held b k v) r.0) (Follows AnyNumber f b k (i ∷ insts) block.end held r.0) op)
                (sym phi) (v.0, v.1, r.1),
            r.2,
          )

      enters_back : (k : ℕ) (insts : List Inst) (end' : Ending)
          → ((i : ℕ) → slice_get block.insts (k + i) ≡ slice_get insts i) → k + length insts ≡ length block.insts → Entered k insts end'
      enters_back k [] end' is len held held' here g = ends_back k entered held entered' held' end' here (omega arith) g
      enters_back k (i ∷ insts) end' is len held held' here g =
          let at_k : IsInst f b k i = inst_at k i insts is in
          let rest : Entered (suc k) insts end' = enters_back (suc k) insts end' (rest_next block.insts k i insts is) (omega arith) in
          elim (phi_or_not i.op) [
            | inl phi ↦ enters_phi k i insts phi.0 held held' end' at_k phi.1 here rest g
            | inr other ↦
                let none : NoPhis (i ∷ insts) = none_behind k i insts is other in
                let r : Matched b before end' (λ end. Follows AnyNumber f b k (i ∷ insts) block.end held end) =
                follows_back k (i ∷ insts) end' is len none entered held entered' held' here (enters_follows new (last_of before) entered' b (moved_place w b k) (rewritten_insts w b k (i ∷ insts)) End held' end' (none_rewritten k (i ∷ insts) none) g) in (
                  r.0,
                  no_phi_to (λ entries. (v : Value) × PhiGives AnyNumber entered (last_of before) i.width entries v × Enters AnyNumber f (last_of before) entered b (suc k) insts block.end (holding held b k v) r.0) (Follows AnyNumber f b k (i ∷ insts) block.end held r.0) i.op other r.1,
                  r.2,
                )
          ]

  -- ---- runs

  passes_back : IsSimulation f new Related
  passes_back before b held held' end' related pass =
      let was : (block : Block) × IsBlock f b block × (rewritten_block w b block ≡ pass.0) = block_back w f b pass.0 pass.1 in
      let first : moved_place w b 0 ≡ 0 = moved_first w b in
      let entered : Enters AnyNumber new (last_of before) held' b 0 (rewritten_insts w b 0 was.0.insts) (substituted_end (stands_for w) was.0.end) held' end' =
      subst (λ (x : Block). Enters AnyNumber new (last_of before) held' b 0 x.insts x.end held' end') (sym was.2) pass.2 in
      let here : At before b 0 held held held' held' = record {
        arrives = related.arrives;
        arrives' = subst (λ (n : ℕ). Arrives new args before b n held' held') (sym first) related.arrives';
        allows = related.allows;
      } in
      let r : Matched b before end' (λ end. Enters AnyNumber f (last_of before) held b 0 was.0.insts was.0.end held end) =
      enters_back b before was.0 was.1 held held' related.edge 0 was.0.insts end' (λ i. let same : 0 + i ≡ i = omega arith in ap (slice_get was.0.insts) same) (omega arith) held held' here
      (subst (λ (n : ℕ). Enters AnyNumber new (last_of before) held' b n (rewritten_insts w b 0 was.0.insts) (substituted_end (stands_for w) was.0.end) held' end') (sym first) entered) in
      (r.0, (was.0, was.1, r.1), r.2)

  allows_first : AssignedAllow f w 0 0 (arguments args) (arguments args)
  allows_first (registers.Parameter p) v assigned holds = (v, holds, AllowsValue-refl v)
  allows_first (registers.Result d j) v assigned holds = absurd (none_assigned f d j assigned)

  pub first_related : Related [] 0 (arguments args) (arguments args)
  first_related = record { arrives = arrive_first f args; arrives' = arrive_first new args; edge = tt; allows = allows_first }

  pub simulated : IsSimulation f new Related
  simulated = passes_back
