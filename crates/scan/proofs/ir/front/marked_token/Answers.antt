use Rattle.scan.proofs.Common.{sym, ◌∙◌, arith, Group}
use Rattle.scan.specs.declared.ir.token.TokenKind.TheVariants.{Mark}
use Rattle.scan.proofs.FirstBytes.{register_front, function_front, metadata_front, group_front, mark_front}
use Rattle.scan.proofs.ModuleTokens.{found_as, found_longer}
use Rattle.scan.proofs.ir.front.marked_token.Goals as goal

pub returns-then-begins_byte : goal.returns-then-begins_byte
returns-then-begins_byte c = register_front c.args.text.now c.register.result c.requires.no_name c.requires.no_quote (sym c.begins_byte.ensures ∙ c.if-begins_byte.true) c.register.ensures

pub returns-then-begins_byte-2 : goal.returns-then-begins_byte-2
returns-then-begins_byte-2 c = function_front c.args.text.now c.function.result c.requires.no_name c.requires.no_quote (sym c.begins_byte-else-begins_byte.ensures ∙ c.if-begins_byte-2.true) c.function.ensures

pub returns-then-begins_byte-3 : goal.returns-then-begins_byte-3
returns-then-begins_byte-3 c = metadata_front c.args.text.now c.metadata.result c.requires.no_name c.requires.no_quote (sym c.begins_byte-else-begins_byte-2.ensures ∙ c.if-begins_byte-3.true) c.metadata.ensures

pub returns-then-begins_byte-4 : goal.returns-then-begins_byte-4
returns-then-begins_byte-4 c = group_front c.args.text.now c.longer.result c.requires.no_name c.requires.no_quote (sym c.begins_byte-else-begins_byte-3.ensures ∙ c.if-begins_byte-4.true)
    (found_longer c.args.text.now (Group, c.group.result) (Mark, c.mark.result) c.longer.result c.longer.ensures.one (found_as Group c.args.text.now c.group.result c.group.ensures) (found_as Mark c.args.text.now c.mark.result c.mark.ensures))
    (record { length_of = c.group.result; longest = c.group.ensures; fits = omega arith })
    (record { length_of = c.mark.result; longest = c.mark.ensures; fits = omega arith })

pub returns-else-begins_byte-4 : goal.returns-else-begins_byte-4
returns-else-begins_byte-4 c = mark_front c.args.text.now c.mark-else-begins_byte-4.result c.requires.no_name c.requires.no_quote
    (sym c.begins_byte.ensures ∙ c.if-begins_byte.false)
    (sym c.begins_byte-else-begins_byte.ensures ∙ c.if-begins_byte-2.false)
    (sym c.begins_byte-else-begins_byte-2.ensures ∙ c.if-begins_byte-3.false)
    (sym c.begins_byte-else-begins_byte-3.ensures ∙ c.if-begins_byte-4.false)
    c.mark-else-begins_byte-4.ensures
