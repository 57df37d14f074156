use Rattle.blast_setting.proofs.Common.{◌+◌, Some, sym, ap, ◌∙◌, arith, drop, slice_get-get_or, get_or_from_slice_get, find, option_or, operands_of, operands_among}
use Rattle.blast_setting.proofs.Widths.{test, naming_class, none_names, find-next, no_end}
use Rattle.blast_setting.proofs.named.named_width.Goals as goal

pub bounds-typing-class : goal.bounds-typing-class
bounds-typing-class c =
    (naming_class c.args.typing.now c.args.statements.now c.args.kind c.args.k c.loop-statement.statement-index c.statement-item.result c.in-Some.class c.requires
    (omega arith) c.statement-item.is c.loop-statement.invariant c.in-Some.ensures).0

pub returns-in-Some : goal.returns-in-Some
returns-in-Some c =
    let named = naming_class c.args.typing.now c.args.statements.now c.args.kind c.args.k c.loop-statement.statement-index c.statement-item.result c.in-Some.class c.requires
    (omega arith) c.statement-item.is c.loop-statement.invariant c.in-Some.ensures in
    let width = c.index-typing-class.result in
    let at = slice_get-get_or c.args.typing.now c.in-Some.class width named.0 ∙ ap (λ N. Some N) (sym c.index-typing-class.is) in
    sym (get_or_from_slice_get c.args.typing.now c.in-Some.class width 0 at) ∙ named.1

pub loop-statement-preserved : goal.loop-statement-preserved
loop-statement-preserved c =
    c.loop-statement.invariant
    ∙ find-next c.args.kind c.args.k c.loop-statement.statement-index c.args.statements.now c.statement-item.result (omega arith) c.statement-item.is
    ∙ ap (λ x. option_or x (find (test c.args.kind c.args.k) (operands_among (drop (c.loop-statement.statement-index + 1) c.args.statements.now))))
    (none_names (find (test c.args.kind c.args.k) (operands_of c.statement-item.result.op)) (sym c.in_default.is ∙ c.class_naming.ensures))

pub unreachable-requires : goal.unreachable-requires
unreachable-requires c =
    no_end c.args.typing.now c.args.statements.now c.args.kind c.args.k c.loop-statement.statement-index c.requires (omega arith) c.loop-statement.invariant
