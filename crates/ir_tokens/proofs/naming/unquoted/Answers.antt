use Rattle.ir_tokens.proofs.Common.{◌∙◌, sym, ap, List, ℕ, ◌++◌, unquoted}
use Rattle.std.proofs.lemmas.List.{append-nil}
use Rattle.ir_tokens.proofs.naming.unquoted.Goals as goal

pub returns : goal.returns
unfolding unquoted
returns c = sym (append-nil c.loop-byte.bytes.items) ∙ ap (λ (rest : List ℕ). c.loop-byte.bytes.items ++ unquoted rest) (sym c.in_default.ensures.none) ∙ c.loop-byte.invariant
