-- the instructions so far are the first drawn ones, by three draws each
use Rattle.load_gen.proofs.Common.{◌≡◌, ◌++◌, drawn_insts, state_after}
use Rattle.load_gen.proofs.drawn.push_drawn.Given as goal

abbrev pub invariant-loop-place : goal.invariant-loop-place
invariant-loop-place l = (l.insts ≡ l.fn.insts ++ drawn_insts l.fn.width l.fn.draws.state l.place) × (l.draws.state ≡ state_after l.fn.draws.state l.place)
