-- the line of the first such phi so far, and whether all instructions so far are phis
use Rattle.ir_reader.proofs.Common.{◌↔◌, IsTrue, IsFirst, Before, BadPhiIn, FirstArePhis}
use Rattle.ir_reader.proofs.phis.bad_phi_in.Given as goal

abbrev pub invariant-loop-place : goal.invariant-loop-place
invariant-loop-place l = record {
  first : IsFirst (Before (BadPhiIn l.predecessors l.written l.insts) l.place) l.found;
  phis : IsTrue l.only_phis ↔ FirstArePhis l.insts l.place;
}
