use Rattle.command_line.proofs.Common.{◌≡◌, ◌∙◌, ap, sym, map, MatchOption-at_some, MatchOption-at_none, items}
use Rattle.command_line.proofs.WidthLemmas.{form_of, widths_of}
use Rattle.command_line.proofs.widths.read_widths.Goals as goal

pub returns-in-Some : goal.returns-in-Some
returns-in-Some c =
    let same : map (λ item. item.now) c.as_slice.result.now ≡ items c.args.text.now = ap (map (λ item. item.now)) c.as_slice.ensures.value ∙ c.in_ok-items.ensures in
    let read = MatchOption-at_some _ _ c.in-Some.spans c.in-Some.is c.in_ok-spans.ensures in (
      sym (form_of c.as_slice.result.now c.args.text.now same) ∙ read.0,
      c.in_ok-widths_in-in-Some.ensures ∙ widths_of c.as_slice.result.now c.args.text.now same c.as_slice-in-Some.result.now (c.as_slice-in-Some.ensures.value ∙ read.1),
    )

pub returns : goal.returns
returns c =
    let same : map (λ item. item.now) c.as_slice.result.now ≡ items c.args.text.now = ap (map (λ item. item.now)) c.as_slice.ensures.value ∙ c.in_ok-items.ensures in
    sym (form_of c.as_slice.result.now c.args.text.now same) ∙ MatchOption-at_none _ _ c.in-None.is c.in_ok-spans.ensures
