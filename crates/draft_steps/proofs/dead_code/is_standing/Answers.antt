use Rattle.draft_steps.proofs.Common.{◌≡◌, ℕ, ◌↔◌, true, false, List, [], Bool, get_or, sym, ap, subst, ◌∙◌, get_or_past, Stands}
use Rattle.ir_core.specs.declared.operand.Register.TheVariants as registers
use Rattle.draft_steps.proofs.Taking.{stands_marks}
use Rattle.draft_steps.proofs.dead_code.is_standing.Goals as goal

-- the flag of a number, read from this row
marked_is : (stand deref : List (List Bool)) (row slice : List Bool) (block number b n : ℕ) (mark : Bool) → mark ≡ get_or slice number false → slice ≡ row → row ≡ get_or deref block [] → deref ≡ stand → block ≡ b → number ≡ n
    → mark ≡ get_or (get_or stand b []) n false
marked_is stand deref row slice block number b n mark is at row_is same block_is number_is =
    is ∙ (ap (λ (l : List Bool). get_or l number false) (at ∙ (row_is ∙ ap (λ (l : List (List Bool)). get_or l block []) same))
    ∙ (ap (λ (k : ℕ). get_or (get_or stand k []) number false) block_is ∙ ap (λ (k : ℕ). get_or (get_or stand b []) k false) number_is))

pub returns-in-Some-clause-result : goal.returns-in-Some-clause-result
returns-in-Some-clause-result c = λ b n e.
    let same : registers.Result c.in-Result.block c.in-Result.number ≡ registers.Result b n = sym c.in-Result.is ∙ e in
    let block : c.in-Result.block ≡ b = cc in
    let number : c.in-Result.number ≡ n = cc in
    let mark : c.is_marked.result ≡ get_or (get_or c.args.draft.now.stand.items b []) n false =
    marked_is c.args.draft.now.stand.items c.deref.result.now c.in-Some.row.now c.as_slice.result.now c.in-Result.block c.in-Result.number b n c.is_marked.result
    c.is_marked.ensures c.as_slice.ensures (c.in-Some.ensures.lookup.3.1 []) c.deref.ensures.value block number in
    let stands : (get_or (get_or c.args.draft.now.stand.items b []) n false ≡ true) ↔ Stands c.args.draft.now b n = stands_marks c.args.draft.now c.requires b n in
    (λ t. stands.0 (sym mark ∙ t), λ s. mark ∙ stands.1 s)

pub returns-in-None-clause-result : goal.returns-in-None-clause-result
returns-in-None-clause-result c = λ b n e.
    let same : registers.Result c.in-Result.block c.in-Result.number ≡ registers.Result b n = sym c.in-Result.is ∙ e in
    let block : c.in-Result.block ≡ b = cc in
    let none : get_or c.args.draft.now.stand.items b [] ≡ [] =
    subst (λ (k : ℕ). get_or c.args.draft.now.stand.items k [] ≡ []) block
    (subst (λ (l : List (List Bool)). get_or l c.in-Result.block [] ≡ []) c.deref.ensures.value (get_or_past c.deref.result.now c.in-Result.block [] c.in-None.ensures.lookup.3)) in
    let mark : get_or (get_or c.args.draft.now.stand.items b []) n false ≡ false = ap (λ (l : List Bool). get_or l n false) none in
    let stands : (get_or (get_or c.args.draft.now.stand.items b []) n false ≡ true) ↔ Stands c.args.draft.now b n = stands_marks c.args.draft.now c.requires b n in
    (λ t. stands.0 (mark ∙ t), λ s. sym mark ∙ stands.1 s)
