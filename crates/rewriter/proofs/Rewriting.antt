-- A function to which a valid rule is applied refines the old one.
use Rattle.rewriter.proofs.Common.{sym, subst, MeetsChecks, Refines, Function, NumbersFit, Fits, Rewrite, meets_checks, numbers_fit, functions_refine_where_allowed, RewrittenFunctionsMeetChecks, RewrittenFunctionsRefine, RewrittenNumbersFit, rewrite_of}
use Rattle.rewriter.proofs.Allowed.{put_is_allowed}
use Rattle.rewriter.proofs.Fitting.{rewrite_fits}

pub new_meets_checks : RewrittenFunctionsMeetChecks
new_meets_checks across f new b k rule binding checked classified meets numbers match applied =
    let w : Rewrite = rewrite_of rule binding applied.root.name in
    let fits : Fits f w applied.root = rewrite_fits f b k rule binding checked meets numbers match applied.root applied.is_root in
    subst (λ (g : Function). MeetsChecks g) (sym applied.is) (meets_checks f w applied.root meets fits)

pub new_numbers_fit : RewrittenNumbersFit
new_numbers_fit across f new b k rule binding checked classified meets numbers match applied =
    let w : Rewrite = rewrite_of rule binding applied.root.name in
    let fits : Fits f w applied.root = rewrite_fits f b k rule binding checked meets numbers match applied.root applied.is_root in
    subst (λ (g : Function). NumbersFit g) (sym applied.is) (numbers_fit f w applied.root numbers fits)

pub new_refines : RewrittenFunctionsRefine
new_refines across f new b k rule binding checked classified meets numbers match valid applied =
    let w : Rewrite = rewrite_of rule binding applied.root.name in
    let fits : Fits f w applied.root = rewrite_fits f b k rule binding checked meets numbers match applied.root applied.is_root in
    subst (λ (g : Function). Refines f g) (sym applied.is)
    (functions_refine_where_allowed f w applied.root meets numbers fits (put_is_allowed f b k rule binding checked meets numbers match applied.root applied.is_root valid))
