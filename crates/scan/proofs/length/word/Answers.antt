use Rattle.scan.proofs.Common.{sym, ◌∙◌, subst, ℕ, is_letter, is_word_byte, IsLongest, is_rule_word}
use Rattle.scan.proofs.Fronts.{begun_longest, begun_none}
use Rattle.scan.proofs.length.word.Goals as goal

pub returns-then-begins_word : goal.returns-then-begins_word
unfolding is_rule_word
returns-then-begins_word c = subst (λ (n : ℕ). IsLongest (λ bytes rest. is_rule_word bytes) c.args.text.now n) (sym c.word_run.ensures) (begun_longest is_letter is_word_byte c.args.text.now (sym c.begins_word.ensures ∙ c.if-begins_word.true))

pub returns-else-begins_word : goal.returns-else-begins_word
unfolding is_rule_word
returns-else-begins_word c = begun_none is_letter is_word_byte c.args.text.now (sym c.begins_word.ensures ∙ c.if-begins_word.false)
