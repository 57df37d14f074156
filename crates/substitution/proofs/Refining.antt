-- A rewritten function refines the old one.
use Rattle.substitution.proofs.Common.{◌≡◌, ℕ, suc, List, [], ◌∷◌, Option, None, Some, refl, ap, map, AllowsEffect, AllowsValue-trans, Effect, MeetsChecks, Refines, Registers, AnyNumber, OpGives, Function, Block, Inst, pulled_back, Rewrite, stands_for, rewritten_blocks, rewritten_function, NumbersFit, Fits, MayHold, AllowsPut, RootAllowsPut, RewrittenFunctionsRefine, PutIsAllowed, RewrittenFunctionsRefineWherePutIsAllowed}
use Rattle.ops.specs.declared.value.Effect.TheVariants as effects
use Rattle.substitution.proofs.Holding.{runs_hold, held_back}
use Rattle.substitution.proofs.Reading.{op_allowed}
use Rattle.substitution.proofs.Framing.{Related, simulated, first_related}
use Rattle.substitution.proofs.Checking.{meets_checks, numbers_fit}
use Rattle.substitution.proofs.Simulation.{SameHeader, simulations_refine}

block_names-rewritten : (w : Rewrite) (b : ℕ) (blocks : List Block) → map (λ (x : Block). x.name) (rewritten_blocks w b blocks) ≡ map (λ (x : Block). x.name) blocks
block_names-rewritten w b [] = refl
block_names-rewritten w b (x ∷ blocks) = ap (λ names. x.name ∷ names) (block_names-rewritten w (suc b) blocks)

same_header : (w : Rewrite) (f : Function) → SameHeader f (rewritten_function w f)
same_header w f = record { name = refl; before = refl; width = refl; parameters = refl; after = refl; blocks = block_names-rewritten w 0 f.blocks }

rewritten_refines : (f : Function) (w : Rewrite) (root : Inst) → MeetsChecks f → Fits f w root → MeetsChecks (rewritten_function w f) → NumbersFit (rewritten_function w f)
    → RootAllowsPut f w root → Refines f (rewritten_function w f)
rewritten_refines f w root m fits m' numbers' matched =
    simulations_refine f (rewritten_function w f) (λ args are. Related f w root m fits m' numbers' matched args are) (same_header w f)
    (λ args are. simulated f w root m fits m' numbers' matched args are)
    (λ args are. first_related f w root m fits m' numbers' matched args are)

pub functions_refine : RewrittenFunctionsRefine
functions_refine f w root m numbers fits matched = rewritten_refines f w root m fits (meets_checks f w root m fits) (numbers_fit f w root numbers fits) matched

-- ---- in terms of the new function's registers alone

puts_allowed : (w : Rewrite) (d e : Effect) (after : Option Registers) → AllowsEffect d e → AllowsPut w e after → AllowsPut w d after
puts_allowed w effects.Undefined e after h g = tt
puts_allowed w (effects.Gives v) effects.Undefined after h g = absurd h
puts_allowed w (effects.Gives v) (effects.Gives x) None h g = absurd g
puts_allowed w (effects.Gives v) (effects.Gives x) (Some next) h g = λ v' holds. AllowsValue-trans v x v' h (g v' holds)

root_allows : (f : Function) (w : Rewrite) (root : Inst) → MeetsChecks f → Fits f w root → MeetsChecks (rewritten_function w f) → NumbersFit (rewritten_function w f) → PutIsAllowed f w root → RootAllowsPut f w root
root_allows f w root m fits m' numbers' allowed args held held' after are run run' h runs =
    let pulled : MayHold f w.block w.place (pulled_back (stands_for w) held') = held_back f w root fits held' (runs_hold (rewritten_function w f) args w.block w.place held' m' numbers' are run') in
    let put : (e : Effect) × OpGives AnyNumber (pulled_back (stands_for w) held') root.width root.op e × AllowsPut w e after = allowed held' after pulled runs in
    let e : (e : Effect) × OpGives AnyNumber held root.width root.op e × AllowsEffect e put.0 = op_allowed f w m w.block w.place root held held' put.0 fits.is_root fits.no_phi h pulled.widths put.1 in
    (e.0, e.1, puts_allowed w e.0 put.0 after e.2 put.2)

pub functions_refine_where_allowed : RewrittenFunctionsRefineWherePutIsAllowed
functions_refine_where_allowed f w root m numbers fits allowed =
    let m' : MeetsChecks (rewritten_function w f) = meets_checks f w root m fits in
    let numbers' : NumbersFit (rewritten_function w f) = numbers_fit f w root numbers fits in
    rewritten_refines f w root m fits m' numbers' (root_allows f w root m fits m' numbers' allowed)
