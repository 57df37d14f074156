use Rattle.proof_text.proofs.Common.{◌≡◌, [], ◌∷◌, ◌++◌, None, rules, Lacks}
use Rattle.proof_text.proofs.HeadReadings.{no_parts, no_line, none_is}
use Rattle.proof_text.proofs.head.name_and_widths.Goals as goal

pub returns-in_default : goal.returns-in_default
returns-in_default c = λ name widths h w e. no_parts c.args.line.now name widths c.in_default.ensures.none e

pub returns-in_default-2 : goal.returns-in_default-2
returns-in_default-2 c =
    let none : c.in_ok-widths.field-0 ≡ None = search rules in
    let lacks : Lacks 91 c.in-Some.behind.now = search rules in
    let is : c.args.line.now ≡ (c.in-Some.name.now ++ 32 ∷ []) ++ 91 ∷ c.in-Some.behind.now = search rules in
    λ name widths h w e. no_line c.args.line.now c.in-Some.name.now c.in-Some.behind.now name widths lacks is (none_is _ _ _ none c.in_ok-widths.ensures) w e
