use Rattle.blast_value.proofs.Common.{◌≡◌, ◌<◌, ◌^◌, not, ap, ◌∙◌}
use Rattle.blast_value.proofs.Moves.{width-below, not_below}
use Rattle.blast_value.proofs.shift.is_too_far.Goals as goal

pub constant-requires : goal.constant-requires
constant-requires g c =
    let number : c.from.result ≡ c.args.width = c.from.ensures ∙ c.bits.ensures.bits in
    let width : c.len.result ≡ c.args.width = c.len.ensures ∙ c.requires.width in
    let below : c.from.result < 2 ^ c.len.result = rw (number, width) (width-below c.args.width) in
    below

pub returns-clause-value : goal.returns-clause-value
returns-clause-value g c inputs admitted =
    let number : c.from.result ≡ c.args.width = c.from.ensures ∙ c.bits.ensures.bits in
    let limit = c.in_ok-limit.ensures.number inputs admitted ∙ number in
    let below = rw limit at (c.in_ok-below.ensures.value inputs admitted) in
    c.not.ensures.value inputs (c.less_unsigned.ensures.adds.keeps.admitted inputs admitted) ∙ ap not below ∙ not_below c.args.width _
