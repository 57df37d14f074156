-- What paths have passed, and in which order.
use Rattle.ir_meaning.proofs.Common.{◌≡◌, ℕ, suc, ◌<◌, ◌⊎◌, inl, inr, List, [], ◌∷◌, ◌++◌, length, Option, sym, ap, subst, ◌∙◌, arith, Contains, option_map, cases_eq, Function, Block, IsBlock, HasInst, end_of, IsWalk, Place, ComesNext, IsPath, AssignedIsPassed, DefinedBeforeStaysSo}
use Rattle.std.specs.Prelude.{unwrap_or}
use Rattle.ir_meaning.proofs.Pieces.{not_in_empty, first_in, later_in, cases_in}
use Rattle.ir_meaning.proofs.Assignments.{Unpassed, unassigned, comes_first}

pub end_of-is : (f : Function) (b : ℕ) (block : Block) → IsBlock f b block → end_of f b ≡ length block.insts
end_of-is f b block at = ap (λ (o : Option Block). unwrap_or (option_map (λ (block : Block). length block.insts) o) 0) at

-- an instruction stands before the end of its block
before_end : (f : Function) (d j : ℕ) → HasInst f d j → j < end_of f d
before_end f d j has = subst (λ n. j < n) (sym (end_of-is f d has.0 has.1)) has.2

pub same_place : (p : Place) (d j : ℕ) → d ≡ p.0 → j ≡ p.1 → p ≡ (d, j)
same_place p d j same_block same = ap (λ b. (b, p.1)) (sym same_block) ∙ ap (λ k. (d, k)) (sym same)

-- the blocks of a path as a walk, which has passed the same instructions
record Walked (f : Function) (p : Place) (before : List Place) : Type 0 where
  blocks : List ℕ
  is_walk : IsWalk f (p.0 ∷ blocks)
  passed : (d j : ℕ) → HasInst f d j → Contains blocks d ⊎ ((d ≡ p.0) × (j < p.1)) → Contains before (d, j)

walked : (f : Function) (p : Place) (before : List Place) → IsPath f (p ∷ before) → Walked f p before
walked f p [] path = record {
  blocks = [];
  is_walk = path.0;
  passed = λ d j has. λ where_passed. elim where_passed [ inl none ↦ absurd (not_in_empty d none) | inr here ↦ let lt : j < p.1 = here.1 in let e : p.1 ≡ 0 = path.1 in absurd (omega arith) ];
}
walked f p (q ∷ before) path = by path.0 (walked f q before path.1)
  where
    by : ComesNext f q p → Walked f q before → Walked f p (q ∷ before)
    by (inl next) w = record {
      blocks = w.blocks;
      is_walk = subst (λ b. IsWalk f (b ∷ w.blocks)) (sym next.1) w.is_walk;
      passed = λ d j has. λ where_passed. elim where_passed [
        | inl there ↦ later_in q before (d, j) (w.passed d j has (inl there))
        | inr here ↦ elim (cases_eq j q.1) [
          | inl same ↦ subst (Contains (q ∷ before)) (same_place q d j (here.0 ∙ next.1) same) (first_in q before)
          | inr ne ↦
              let lt : j < p.1 = here.1 in
              let is : p.1 ≡ suc q.1 = next.2 in
              later_in q before (d, j) (w.passed d j has (inr (here.0 ∙ next.1, omega arith)))
        ]
      ];
    }
    by (inr goes) w = record {
      blocks = q.0 ∷ w.blocks;
      is_walk = (goes.1, w.is_walk);
      passed = λ d j has. λ where_passed. elim where_passed [
        | inl there ↦ elim (cases_in q.0 w.blocks d there) [
          | inl same ↦
              let lt : j < end_of f d = before_end f d j has in
              let is : j < q.1 = subst (λ n. j < n) (sym goes.0) (subst (λ b. j < end_of f b) (sym same) lt) in
              later_in q before (d, j) (w.passed d j has (inr (sym same, is)))
          | inr later ↦ later_in q before (d, j) (w.passed d j has (inl later))
        ]
        | inr here ↦ let lt : j < p.1 = here.1 in let is : p.1 ≡ 0 = goes.2 in absurd (omega arith)
      ];
    }

pub assigned_passed : AssignedIsPassed
assigned_passed f d j p before path a =
    let w = walked f p before path in
    w.passed d j a.0 (a.1 w.blocks w.is_walk)

-- a step of a path from a place that isn't that of an instruction leaves this instruction unpassed
unpassed_next : (f : Function) (d j : ℕ) (q p : Place) → HasInst f d j → ComesNext f q p → (q ≡ (d, j) → ⊥) → Unpassed f d j q.0 q.1 → Unpassed f d j p.0 p.1
unpassed_next f d j q p has (inl next) other u = record {
  before = u.before;
  is_walk = subst (λ b. IsWalk f (b ∷ u.before)) (sym next.1) u.is_walk;
  not_before = u.not_before;
  not_here = λ same lt. elim (cases_eq j q.1) [
    | inl is ↦ other (same_place q d j (same ∙ next.1) is)
    | inr ne ↦ let e : p.1 ≡ suc q.1 = next.2 in u.not_here (same ∙ next.1) (omega arith)
  ];
}
unpassed_next f d j q p has (inr goes) other u = record {
  before = q.0 ∷ u.before;
  is_walk = (goes.1, u.is_walk);
  not_before = λ there. elim (cases_in q.0 u.before d there) [
    | inl same ↦ u.not_here (sym same) (subst (λ n. j < n) (sym goes.0) (subst (λ b. j < end_of f b) (sym same) (before_end f d j has)))
    | inr later ↦ u.not_before later
  ];
  not_here = λ same lt. let is : p.1 ≡ 0 = goes.2 in absurd (omega arith);
}

unpassed_later : (f : Function) (d j c i : ℕ) (p : Place) (later rest : List Place) → HasInst f d j → IsPath f (p ∷ later ++ rest) → (Contains later (d, j) → ⊥) → Contains later (c, i) → Unpassed f d j c i → Unpassed f d j p.0 p.1
unpassed_later f d j c i p [] rest has path none there u = absurd (not_in_empty (c, i) there)
unpassed_later f d j c i p (q ∷ later) rest has path none there u =
    let other : q ≡ (d, j) → ⊥ = λ is. none (subst (Contains (q ∷ later)) is (first_in q later)) in
    let here : Unpassed f d j q.0 q.1 = elim (cases_in q later (c, i) there) [
      | inl is ↦ subst (λ (x : Place). Unpassed f d j x.0 x.1) (sym is) u
      | inr further ↦ unpassed_later f d j c i q later rest has path.1 (λ x. none (later_in q later (d, j) x)) further u
    ] in
    unpassed_next f d j q p has path.0 other here

-- the earlier part of a path is one
pub path_before : (f : Function) (p : Place) (later : List Place) (q : Place) (earlier : List Place) → IsPath f (p ∷ later ++ q ∷ earlier) → IsPath f (q ∷ earlier)
path_before f p [] q earlier path = path.1
path_before f p (x ∷ later) q earlier path = path_before f x later q earlier path.1

-- a path goes through blocks that are reached
pub path_reaches : (f : Function) (p : Place) (before : List Place) → IsPath f (p ∷ before) → (blocks : List ℕ) × IsWalk f (p.0 ∷ blocks)
path_reaches f p before path = let w = walked f p before path in (w.blocks, w.is_walk)

pub defined_before : DefinedBeforeStaysSo
defined_before f c i d j p later earlier path none a a' there =
    let reached = path_reaches f (d, j) earlier (path_before f p later (d, j) earlier path) in
    unassigned f d j p.0 p.1 (unpassed_later f d j c i p later ((d, j) ∷ earlier) a'.0 path none there (comes_first f c i d j reached a)) a'
