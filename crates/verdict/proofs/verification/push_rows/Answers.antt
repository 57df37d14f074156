use Rattle.verdict.proofs.Common.{◌≡◌, [], ◌∷◌, ◌∙◌, append_assoc, into_iter_items}
use Rattle.verdict.proofs.Findings.{no_rows, more_rows}
use Rattle.verdict.proofs.verification.push_rows.Goals as goal

pub loop-typing-init : goal.loop-typing-init
loop-typing-init c = let all : into_iter_items c.into_iter-typing-iterator.result ≡ c.into_vec-typing-items.result.items = c.into_iter-typing-iterator.ensures.into_iter_gives.0 in record {
  added = no_rows c.args.conflicts c.args.place c.args.rule.now c.args.verified.now;
  left = all ∙ c.into_vec-typing-items.ensures;
}

pub loop-typing-preserved : goal.loop-typing-preserved
loop-typing-preserved c = record {
  added = more_rows c.args.conflicts c.args.place c.args.rule.now c.loop-typing.yielded (c.in-Some.typing ∷ []) c.args.verified.now c.loop-typing.verified c.push_row.new.verified c.loop-typing.invariant.added c.in_ok-push_row.ensures;
  left = append_assoc c.loop-typing.yielded (c.in-Some.typing ∷ []) (into_iter_items c.next.new.self) ∙ rw (← c.in-Some.ensures.steps.0) c.loop-typing.invariant.left;
}
