use Rattle.ir_resolve.proofs.Common.{inl, inr, err_from_is_err_and, known_by}
use Rattle.ir_resolve.proofs.Checked.{ready}
use Rattle.ir_resolve.proofs.Refusals.{clear_all, uses_refused, marked}
use Rattle.ir_resolve.proofs.Meaning.{means}
use Rattle.ir_resolve.proofs.Resolved.{resolved}
use Rattle.ir_resolve.proofs.resolution.resolve.Goals as goal

pub returns-in_err-check_uses-clause-refused : goal.returns-in_err-check_uses-clause-refused
returns-in_err-check_uses-clause-refused c =
    let p = err_from_is_err_and c.from_residual-in_err-check_uses.result c.from_residual-in_err-check_uses.ensures.1 in
    rw (p.1, p.2) (uses_refused c.args.raw.now c.args.is_repeated c.in_err-check_uses.field-0.0 c.in_ok-names.ensures.numbered c.in_ok-names.ensures.once c.in_err-check_uses.ensures.refused)

pub build-requires : goal.build-requires
build-requires c = ready c.args.raw.now (known_by c.in_ok-names.names) c.in_ok-names.ensures.table c.in_ok-check_uses.ensures.known c.in_ok-check_uses.ensures.typed

pub returns : goal.returns
returns c =
    let raw = c.args.raw.now in
    let numbered = c.in_ok-names.ensures.numbered in
    let typed = c.in_ok-check_uses.ensures.typed in
    let means_it = means raw (known_by c.in_ok-names.names) c.in_ok-build.field-0 c.in_ok-names.ensures.table c.in_ok-build.ensures in
    let (some, marks) = marked c.args.is_repeated raw in
    let once = c.in_ok-names.ensures.once some marks in
    record {
      means = means_it;
      faultless = λ earlier marks. clear_all earlier raw numbered (c.in_ok-names.ensures.once earlier marks) c.in_ok-check_uses.ensures.known typed;
      refused = tt;
      formed = resolved raw c.in_ok-build.field-0 means_it (λ line again. once line (inr (inl again))) (λ line again. once line (inr (inr again))) typed;
    }
