-- The walks of a function are those of its control-flow graph.
use Rattle.assigned_flow.proofs.Common.{◌≡◌, ℕ, Bool, IsTrue, ◌<◌, ◌↔◌, List, [], ◌∷◌, Option, None, Some, length, refl, sym, ap, ◌∙◌, subst, arith, Contains, slice_get, option_map, unwrap_or, length-map, slice_get-map, none-some, same_Some, IsEdge, Function, Block, Register, IsAssigned, Names, HasInst, targets_of, end_of, IsPassed, IsClosed, successors_of}
use Rattle.dominator_tree.specs.Walks.{IsWalk as IsWalkIn, IsReached as IsReachedIn}
use Rattle.ir_core.specs.declared.operand.Register.TheVariants as registers
use Rattle.ir_core.specs.Walks.{IsWalk, IsReached}

block_at : (o : Option Block) (targets : List ℕ) → option_map (λ block. targets_of block.end) o ≡ Some targets → (block : Block) × (o ≡ Some block) × (targets_of block.end ≡ targets)
block_at None targets is = absurd (none-some targets is)
block_at (Some block) targets is = (block, refl, same_Some _ _ is)

pub names_edge : (f : Function) (b c : ℕ) → Names f b c → IsEdge (successors_of f) b c
names_edge f b c (block, is_block, has) = (
  targets_of block.end,
  slice_get-map (λ block. targets_of block.end) f.blocks b ∙ ap (option_map (λ block. targets_of block.end)) is_block,
  has,
)

pub edge_names : (f : Function) (b c : ℕ) → IsEdge (successors_of f) b c → Names f b c
edge_names f b c (targets, is_at, has) =
    let at = block_at (slice_get f.blocks b) targets (sym (slice_get-map (λ block. targets_of block.end) f.blocks b) ∙ is_at) in
    (at.0, at.1, subst (λ list. Contains list c) (sym at.2) has)

pub walk_in : (f : Function) (walk : List ℕ) → IsWalk f walk → IsWalkIn (successors_of f) walk
walk_in f [] is_walk = is_walk
walk_in f (b ∷ []) is_walk = is_walk
walk_in f (c ∷ b ∷ before) is_walk = (names_edge f b c is_walk.0, walk_in f (b ∷ before) is_walk.1)

pub walk_of : (f : Function) (walk : List ℕ) → IsWalkIn (successors_of f) walk → IsWalk f walk
walk_of f [] is_walk = is_walk
walk_of f (b ∷ []) is_walk = is_walk
walk_of f (c ∷ b ∷ before) is_walk = (edge_names f b c is_walk.0, walk_of f (b ∷ before) is_walk.1)

-- the graph of a function whose terminators name blocks of it is closed
pub IsClosed-successors_of : (f : Function) → 0 < length f.blocks → ((b c : ℕ) → Names f b c → c < length f.blocks) → IsClosed (successors_of f)
IsClosed-successors_of f some_block targets = record {
  some_block = simp length-map some_block;
  targets = λ b c edge. simp length-map (targets b c (edge_names f b c edge));
}

pub reached_in : (f : Function) (graph : List (List ℕ)) (b : ℕ) → successors_of f ≡ graph → IsReachedIn graph b ↔ IsReached f b
reached_in f graph b is_graph =
    subst (λ g. IsReachedIn g b ↔ IsReached f b) is_graph (λ reached. (reached.0, walk_of f (b ∷ reached.0) reached.1), λ reached. (reached.0, walk_in f (b ∷ reached.0) reached.1))

-- a result is assigned where every walk has passed its definition
pub assigned_result : (f : Function) (graph : List (List ℕ)) (register : Register) (d j b k : ℕ) (test : Bool) → successors_of f ≡ graph → register ≡ registers.Result d j → HasInst f d j → (IsTrue test ↔ IsPassed graph d j b k) → IsTrue test ↔ IsAssigned f register b k
assigned_result f graph register d j b k test is_graph is_register has passed =
    let passed_in : IsTrue test ↔ IsPassed (successors_of f) d j b k = subst (λ g. IsTrue test ↔ IsPassed g d j b k) (sym is_graph) passed in
    subst (λ r. IsTrue test ↔ IsAssigned f r b k) (sym is_register) (
      λ yes. (has, λ before is_walk. passed_in.0 yes before (walk_in f (b ∷ before) is_walk)),
      λ assigned. passed_in.1 (λ before is_walk. assigned.1 before (walk_of f (b ∷ before) is_walk)),
    )

inst_at : (o : Option Block) (j : ℕ) → j < unwrap_or (option_map (λ block. length block.insts) o) 0 → (block : Block) × (o ≡ Some block) × (j < length block.insts)
inst_at None j below = absurd (omega arith)
inst_at (Some block) j below = (block, refl, below)

pub HasInst-below_end : (f : Function) (d j : ℕ) → j < end_of f d → HasInst f d j
HasInst-below_end f d j below = inst_at (slice_get f.blocks d) j below
