-- The target's statements but the last one, as the code reads them.
use Rattle.rewriter.proofs.Common.{◌≡◌, ℕ, ◌<◌, List, length, take, drop, Some, refl, sym, ap, ◌∙◌, arith, get_or, slice_get, take-append-drop, slice_get_read, slice_get_within, get_or_from_slice_get, IsRule, Rule, Statement, get_left, Binding, results_put, IsBound}
use Rattle.ir_core.specs.declared.operand.Operand.{Operand}
use Rattle.rewriter.specs.Ready.{StatementIsReady}
use Rattle.rewriter.proofs.Counting.{results-length}
use Rattle.rewriter.proofs.Readying.{statement_ready}

-- all that a statement of the target reads is bound, where there are operands for all registers of the target
pub ready_at : (rule : Rule) (binding : Binding) → IsRule rule → IsBound rule binding → (results : List Operand) → results ≡ results_put rule binding → (k : ℕ) (s : Statement) → slice_get rule.target k ≡ Some s → StatementIsReady rule binding (length results) s
ready_at rule binding is_rule bound results are k s at =
    let within : k < length rule.target = slice_get_within rule.target k s at in
    let size = ap length are in
    statement_ready rule binding is_rule bound k (length results) s (omega (arith, results-length rule binding)) at

-- a statement that is read among the first ones is one of the target
pub taken_at : (target statements : List Statement) (last k : ℕ) (s : Statement) → statements ≡ take last target → k < length statements → s ≡ get_or statements k s → slice_get target k ≡ Some s
taken_at target statements last k s same lt is =
    let at : slice_get (take last target) k ≡ Some s = ap (λ (l : List Statement). slice_get l k) (sym same) ∙ slice_get_read statements (length statements) k s refl lt is in
    ap (λ (l : List Statement). slice_get l k) (sym (take-append-drop last target)) ∙ get_left (take last target) (drop last target) k s at

pub taken_from : (target slice : List Statement) (last k : ℕ) (s : Statement) → slice ≡ target → k < length (take last slice) → s ≡ get_or (take last slice) k s → slice_get target k ≡ Some s
taken_from target slice last k s same lt is = taken_at target (take last slice) last k s (ap (take last) same) lt is

pub read_at : (target slice : List Statement) (k : ℕ) (s : Statement) → slice ≡ target → k < length slice → s ≡ get_or slice k s → slice_get target k ≡ Some s
read_at target slice k s same lt is = ap (λ (l : List Statement). slice_get l k) (sym same) ∙ slice_get_read slice (length slice) k s refl lt is

-- the last of the operands is read
pub last_is : (all results : List Operand) (n k : ℕ) (x d : Operand) → results ≡ all → k ≡ n → k < length results → x ≡ get_or results k x → x ≡ get_or all n d
last_is all results n k x d same place lt is =
    let at : slice_get results k ≡ Some x = slice_get_read results (length results) k x refl lt is in
    sym (get_or_from_slice_get all n x d (ap (λ i. slice_get all i) (sym place) ∙ ap (λ (l : List Operand). slice_get l k) (sym same) ∙ at))
