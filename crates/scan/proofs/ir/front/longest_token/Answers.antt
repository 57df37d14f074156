use Rattle.scan.proofs.Common.{take, sym, ◌∙◌, false≢true}
use Rattle.scan.proofs.FirstBytes.{names_stand, no_early_quote, quotable_holds_none, zero_badly}
use Rattle.scan.proofs.ir.front.longest_token.Goals as goal
use Rattle.scan.proofs.ir.front.longest_token.Goals.{else-has_early_quote-via-then-has_early_quote+else-holds_zero, else-has_early_quote-via-else-has_early_quote}

pub returns-then-begins_name_byte-clause-good : goal.returns-then-begins_name_byte-clause-good
returns-then-begins_name_byte-clause-good c = names_stand c.args.text.now (sym c.begins_name_byte.ensures ∙ c.if-begins_name_byte.true)

pub returns-then-begins_name_byte-clause-no_zero : goal.returns-then-begins_name_byte-clause-no_zero
returns-then-begins_name_byte-clause-no_zero c = quotable_holds_none (take c.plain_token.result.1 c.args.text.now) c.plain_token.ensures.plain

pub returns-then-holds_zero-clause-bad : goal.returns-then-holds_zero-clause-bad
returns-then-holds_zero-clause-bad c = zero_badly c.args.text.now c.other_token-found.result.0 c.other_token-found.result.1 c.other_token-found.ensures (c.holds_zero.ensures.0 c.if-holds_zero.true)

pub returns-else-has_early_quote-clause-no_zero : goal.returns-else-has_early_quote-clause-no_zero
returns-else-has_early_quote-clause-no_zero c = elim c.else-has_early_quote.branch [
  | else-has_early_quote-via-then-has_early_quote+else-holds_zero w ↦ λ holds. false≢true (sym w.if-holds_zero.false ∙ w.holds_zero.ensures.1 holds)
  | else-has_early_quote-via-else-has_early_quote w ↦ no_early_quote c.args.text.now c.other_token-found.result.0 c.other_token-found.result.1
      (sym c.begins_name_byte.ensures ∙ c.if-begins_name_byte.false) (sym c.has_early_quote.ensures ∙ w.if-has_early_quote.false) c.other_token-found.ensures
]
