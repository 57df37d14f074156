use Rattle.ir_reader.proofs.Common.{[], subst, IfSome, seen, SpellsEntry}
use Rattle.ir_reader.proofs.CheckLemmas.{entry_written}
use Rattle.ir_reader.proofs.reader.push_whole.Goals as goal

pub push-requires : goal.push-requires
push-requires c =
    let tokens = seen c.args.tokens.now in
    entry_written c.in-Some.written tokens [] (subst (λ o. IfSome o (λ e. SpellsEntry e tokens [])) c.in-Some.is c.in_ok-written.ensures)

pub returns : goal.returns
returns c = λ front is.
    let tokens = seen c.args.tokens.now in
    (c.in-Some.written, subst (λ o. IfSome o (λ e. SpellsEntry e tokens [])) c.in-Some.is c.in_ok-written.ensures, c.in_ok-push.ensures front is)
