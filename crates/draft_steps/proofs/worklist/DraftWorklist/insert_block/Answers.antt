use Rattle.draft_steps.proofs.Common.{◌≡◌, ◌⊎◌, ℕ, ◌+◌, ◌<◌, inl, inr, sym, subst, arith, ◌↔◌, cases_eq, iff_false, Stands, IsWorklistOf, IsOnWorklist, Draft, DraftWorklist, inst-numbered, stands_there}
use Rattle.needed.proofs.Reading.{end_of-is}
use Rattle.draft_steps.proofs.worklist.DraftWorklist.insert_block.Goals as goal
use Rattle.draft_steps.proofs.worklist.DraftWorklist.insert_block.Goals.{then-stands+in_ok-insert, else-stands}

pub insert-requires-clause-place : goal.insert-requires-clause-place
insert-requires-clause-place c =
    let stands = c.stands.ensures.0 c.if-stands.true in
    inst-numbered c.args.draft.now (record { block = c.args.block; number = c.loop-number.number }) c.requires.whole (stands_there c.args.draft.now c.requires.whole c.args.block c.loop-number.number stands)

-- the worklist has what it had, and all that stands in the block with a number below this one
abbrev Added : Draft → DraftWorklist → ℕ → ℕ → DraftWorklist → Type 0
Added d first block number q = (b n : ℕ) → IsOnWorklist q b n ↔ (IsOnWorklist first b n ⊎ ((b ≡ block) × (n < number) × Stands d b n))

one_more : (d : Draft) (first was now : DraftWorklist) (block number : ℕ) → Stands d block number → Added d first block number was → ((b n : ℕ) → IsOnWorklist now b n ↔ (((block ≡ b) × (number ≡ n)) ⊎ IsOnWorklist was b n)) → Added d first block (number + 1) now
one_more d first was now block number stands so_far added b n = (
  λ h. elim ((added b n).0 h) [
    | inl (same_block, same) ↦ inr (sym same_block, omega arith, subst (λ (c : ℕ). Stands d c n) same_block (subst (Stands d block) same stands))
    | inr before ↦ elim ((so_far b n).0 before) [
      | inl waited ↦ inl waited
      | inr (here, less, standing) ↦ inr (here, omega arith, standing)
    ]
  ],
  λ h. elim h [
    | inl waited ↦ (added b n).1 (inr ((so_far b n).1 (inl waited)))
    | inr (here, less, standing) ↦ elim (cases_eq n number) [
      | inl same ↦ (added b n).1 (inl (sym here, sym same))
      | inr other ↦ (added b n).1 (inr ((so_far b n).1 (inr (here, omega arith, standing))))
    ]
  ],
)

none_more : (d : Draft) (first was : DraftWorklist) (block number : ℕ) → ¬ Stands d block number → Added d first block number was → Added d first block (number + 1) was
none_more d first was block number gone so_far b n = (
  λ h. elim ((so_far b n).0 h) [
    | inl waited ↦ inl waited
    | inr (here, less, standing) ↦ inr (here, omega arith, standing)
  ],
  λ h. elim h [
    | inl waited ↦ (so_far b n).1 (inl waited)
    | inr (here, less, standing) ↦ elim (cases_eq n number) [
      | inl same ↦ absurd (gone (subst (Stands d block) same (subst (λ (c : ℕ). Stands d c n) here standing)))
      | inr other ↦ (so_far b n).1 (inr (here, omega arith, standing))
    ]
  ],
)

pub loop-number-preserved : goal.loop-number-preserved
loop-number-preserved c =
    let d = c.args.draft.now in
    let first = c.args.self.now in
    let l = c.loop-number in
    elim c.if-stands.branch [
      | then-stands+in_ok-insert w ↦ record {
        worklist = subst (IsWorklistOf d) (sym w.self-is) w.in_ok-insert.ensures.worklist;
        added = subst (Added d first c.args.block (l.number + 1)) (sym w.self-is)
            (one_more d first l.self w.insert.new.self c.args.block l.number (c.stands.ensures.0 w.if-stands.true) l.invariant.added w.in_ok-insert.ensures.added);
      }
      | else-stands w ↦ record {
        worklist = subst (IsWorklistOf d) (sym w.self-is) l.invariant.worklist;
        added = subst (Added d first c.args.block (l.number + 1)) (sym w.self-is)
            (none_more d first l.self c.args.block l.number (λ stands. iff_false c.stands.ensures w.if-stands.false stands) l.invariant.added);
      }
    ]

pub returns-clause-added : goal.returns-clause-added
returns-clause-added c = λ b n.
    let d = c.args.draft.now in
    let l = c.loop-number in (
      λ h. elim ((l.invariant.added b n).0 h) [
        | inl waited ↦ inl waited
        | inr (here, less, stands) ↦ inr (here, stands)
      ],
      λ h. elim h [
        | inl waited ↦ (l.invariant.added b n).1 (inl waited)
        | inr (here, stands) ↦
            let (block, at, within) = stands_there d c.requires.whole c.args.block n (subst (λ (k : ℕ). Stands d k n) here stands) in
            let end = end_of-is d.arena c.args.block block at in
            let count = c.count_in-number-end.ensures in
            (l.invariant.added b n).1 (inr (here, omega arith, stands))
      ],
    )
