use Rattle.blast_rule.proofs.Common.{◌≡◌, Bool, true, false, ◌||◌, if◌then◌else◌, refl, Value, held_value-kept}
use Rattle.ops.specs.declared.value.Effect.TheVariants as effects
use Rattle.blast_rule.proofs.halves.after.Goals as goal

-- undefined behaviour before or here is undefined behaviour of the whole
either : (before here : Bool) (x : Value) → (if before || here then effects.Undefined else effects.Gives x) ≡ (if before then effects.Undefined else (if here then effects.Undefined else effects.Gives x))
either true here x = refl
either false here x = refl

pub returns-clause-effect : goal.returns-clause-effect
returns-clause-effect g c = λ inputs admitted.
    let own = c.requires.own in
    let v = g.C.State.value c.args.c.now inputs in
    let held = held_value-kept c.or.ensures.adds.keeps inputs admitted (record { bits = c.args.effect.bits; poison = c.args.effect.poison }) (record { bits = own.bits; poison = own.poison }) in
    rw (c.in_ok-undefined.ensures.value inputs admitted, held) (either (v c.args.before) (v c.args.effect.undefined) _)
