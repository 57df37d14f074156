use Rattle.command_line.proofs.Common.{[], map, ap, sym, ◌∙◌, unwrap_or, option_map, found_of, raw_values-rows}
use Rattle.command_line.proofs.read.texts_of.Goals as goal

pub returns-in_ok-to_vec-in-Some : goal.returns-in_ok-to_vec-in-Some
returns-in_ok-to_vec-in-Some c =
    let given = c.get_raw.ensures ∙ raw_values-rows (found_of c.args.found.now) c.args.argument.now in
    let found = ap (option_map (λ texts. map (λ text. text.now) texts.now)) (sym c.in-Some.is) ∙ given in
    let copied = c.from_vec.ensures ∙ c.in_ok-to_vec-in-Some.ensures.items_if_clones_equal (λ x y same. same) in
    ap (λ all. unwrap_or all []) (sym found) ∙ ap (map (λ text. text.now)) (sym copied)

pub returns-in-None : goal.returns-in-None
returns-in-None c =
    let given = c.get_raw.ensures ∙ raw_values-rows (found_of c.args.found.now) c.args.argument.now in
    let found = ap (option_map (λ texts. map (λ text. text.now) texts.now)) (sym c.in-None.is) ∙ given in
    ap (λ all. unwrap_or all []) (sym found) ∙ ap (map (λ text. text.now)) (sym c.new.ensures)
