-- An instruction is spelled only with flags that it takes.
use Rattle.ir_instructions.proofs.Common.{List, Flags, AreWithin, Placed, SpellsFlags}
use Rattle.ops.proofs.FlagKeywordLemmas as lemmas

pub taken_flags : (taken flags : Flags) (tokens rest : List Placed) → SpellsFlags taken flags tokens rest → AreWithin flags taken
taken_flags taken flags tokens rest (written, adds, words) = lemmas.taken_flags taken written flags adds
