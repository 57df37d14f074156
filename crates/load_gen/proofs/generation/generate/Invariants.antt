-- the functions so far are the first ones, and the state is the one behind their draws
use Rattle.load_gen.proofs.Common.{◌≡◌, functions, state_before}
use Rattle.load_gen.proofs.generation.generate.Given as goal

abbrev pub invariant-loop-place : goal.invariant-loop-place
invariant-loop-place l = (l.entries ≡ functions l.fn.number l.place) × (l.draws.state ≡ state_before l.fn.number l.place)
