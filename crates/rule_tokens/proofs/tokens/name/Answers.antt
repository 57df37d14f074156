use Rattle.rule_tokens.proofs.Common.{IsNameNext}
use Rattle.rule_tokens.proofs.Tokenising.{name_within_text}
use Rattle.rule_tokens.proofs.tokens.name.Goals as goal

pub bytes-requires-clause-within : goal.bytes-requires-clause-within
bytes-requires-clause-within c =
    let named : IsNameNext c.args.text.now c.args.cursor.now.at c.in_ok-span.span = rw (← c.requires.text) c.in_ok-span.ensures.name in
    (name_within_text c.args.text.now c.args.cursor.now.at c.in_ok-span.span c.requires.within named).1
