use Rattle.draft.proofs.Common.{◌≡◌, inl, inr, List, length, Some, refl, sym, ap, subst, ◌∙◌, arith, slice_get, cases_eq, same_Some, slice_get_within, IsBlock, IsReached, Block, item_read}
use Rattle.draft.proofs.draft.has_cycles.Goals as goal
use Rattle.draft.proofs.draft.has_cycles.Goals.{then-not-reached-via-then-not-reached, then-not-reached-via-else-not-reached+then-has_phi}

pub returns-then-not-reached : goal.returns-then-not-reached
returns-then-not-reached c = (
  λ none. absurd cc,
  λ none. elim c.then-not-reached.branch [
    | then-not-reached-via-then-not-reached w ↦
        absurd (let seen = (w.if-not-reached.ensures c.args.f.now (sym c.requires.flow)).1 (none.reached c.loop-block.block (omega arith)) in cc)
    | then-not-reached-via-else-not-reached+then-has_phi w ↦
        let at : IsBlock c.args.f.now c.loop-block.block w.index-as_slice-block.result = item_read c.args.f.now.blocks w.as_slice.result.now c.loop-block.block w.index-as_slice-block.result w.as_slice.ensures (let size = ap (λ (l : List Block). length l) w.as_slice.ensures in omega arith) w.index-as_slice-block.is in
        absurd (let seen = w.if-has_phi.ensures.1 (λ k inst here. none.no_phi c.loop-block.block k inst (record { block = w.index-as_slice-block.result; is_block = at; is_inst = here })) in cc)
  ],
)

pub loop-block-preserved : goal.loop-block-preserved
loop-block-preserved c =
    let f = c.args.f.now in
    let l = c.loop-block in
    let block = c.index-as_slice-block.result in
    let at : IsBlock f l.block block = item_read f.blocks c.as_slice.result.now l.block block c.as_slice.ensures (let size = ap (λ (l : List Block). length l) c.as_slice.ensures in omega arith) c.index-as_slice-block.is in
    record {
      reached = λ b less. elim (cases_eq b l.block) [
        | inl same ↦ subst (IsReached f) (sym same) ((c.if-not-reached.ensures f (sym c.requires.flow)).0 refl)
        | inr other ↦ l.invariant.reached b (omega arith)
      ];
      no_phi = λ b k x inst less is here. elim (cases_eq b l.block) [
        | inl same ↦
            let x_is : x ≡ block = same_Some x block (sym is ∙ ap (slice_get f.blocks) same ∙ at) in
            c.if-has_phi.ensures.0 refl k inst (subst (λ (y : Block). slice_get y.insts k ≡ Some inst) x_is here)
        | inr other ↦ l.invariant.no_phi b k x inst (omega arith) is here
      ];
    }

pub returns : goal.returns
returns c = (
  λ told. record {
    reached = λ b within. c.loop-block.invariant.reached b (omega arith);
    no_phi = λ b k inst is. c.loop-block.invariant.no_phi b k is.block inst (let within = slice_get_within c.args.f.now.blocks b is.block is.is_block in omega arith) is.is_block is.is_inst;
  },
  λ none. refl,
)
