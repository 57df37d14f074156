use Rattle.rule_reader.proofs.Common.{inl, inr, ap, arguments_of}
use Rattle.rule_reader.proofs.InputLemmas.{one_use, two_uses, three_uses, uses_of_op}
use Rattle.rule_reader.proofs.names.add_names.Goals as goal

pub returns-in_ok-add_name-in-Binary-2 : goal.returns-in_ok-add_name-in-Binary-2
returns-in_ok-add_name-in-Binary-2 c =
    uses_of_op c.args.source.now c.args.op.now _ _ _ (elim c.in-Binary.is [ inl (op, flags, e) ↦ ap arguments_of e | inr (pred, samesign, e) ↦ ap arguments_of e ])
    (two_uses c.args.source.now _ _ _ _ _ c.in_ok-add_name-in-Binary.ensures c.in_ok-add_name-in-Binary-2.ensures)

pub returns-in_ok-add_name-in-Select-3 : goal.returns-in_ok-add_name-in-Select-3
returns-in_ok-add_name-in-Select-3 c =
    uses_of_op c.args.source.now c.args.op.now _ _ _ (ap arguments_of c.in-Select.is)
    (three_uses c.args.source.now _ _ _ _ _ _ _ c.in_ok-add_name-in-Select.ensures c.in_ok-add_name-in-Select-2.ensures c.in_ok-add_name-in-Select-3.ensures)

pub returns-in_ok-add_name-in-Unary : goal.returns-in_ok-add_name-in-Unary
returns-in_ok-add_name-in-Unary c =
    uses_of_op c.args.source.now c.args.op.now _ _ _
    (elim c.in-Unary.is [ inl (op, truth, e) ↦ ap arguments_of e | inr (inl (cast, flags, to, e)) ↦ ap arguments_of e | inr (inr (inl e)) ↦ ap arguments_of e | inr (inr (inr e)) ↦ ap arguments_of e ])
    (one_use c.args.source.now _ _ _ c.in_ok-add_name-in-Unary.ensures)
