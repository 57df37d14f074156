use Rattle.depth_first.proofs.Common.{◌≡◌, ℕ, ◌≤◌, length, all_clauses, Grows, IsPropagatedBut}
use Rattle.depth_first.proofs.propagation.propagate_clauses.Given as goal

abbrev pub invariant-loop-number : goal.invariant-loop-number
invariant-loop-number l =
    record {
      grows : Grows (all_clauses l.cnf) l.initial.trail.entries.items l.trail.entries.items;
      same_variables : length l.trail.values.items ≡ length l.initial.trail.values.items;
      up_to_head :
          (head : ℕ) → head ≤ length l.initial.trail.entries.items →
          IsPropagatedBut (all_clauses l.cnf) l.numbers 0 l.initial.trail.entries.items head →
          IsPropagatedBut (all_clauses l.cnf) l.numbers l.number-index l.trail.entries.items head;
    }
