-- The run has all that have labels in the range, so they can be spaced in it; and all numbers can be spaced over all
-- labels.
use Rattle.places.proofs.Common.{◌≡◌, ◌+◌, ◌*◌, ◌-◌, ◌<◌, ◌≤◌, length, subst, sym, arith, le_or_r, bit_or, ◌/◌, ◌^◌, node_of, numbers_in}
use Rattle.places.proofs.Members.{at_place}
use Rattle.places.proofs.Runs.{run-spacing, first-place, all-spacing, highest-fits}
use Rattle.places.proofs.links.Links.spacing_around.Goals as goal

pub overflow_sub-low : goal.overflow_sub-low
overflow_sub-low c = le_or_r c.label_of-label.result _

pub returns-then-gap-from-clause-spacing : goal.returns-then-gap-from-clause-spacing
returns-then-gap-from-clause-spacing c =
    let links = c.args.self.now in
    let nodes = links.nodes.items in
    let ns = numbers_in links in
    let width = 18446744073709551615 / 2 ^ (64 - c.loop-bits.bits) in
    let high = bit_or c.label_of-label.result width in
    let run = c.up_to-run.result in
    let gap = c.gap_in-gap.result in
    let down = c.down_to-run.ensures in
    let up = c.up_to-run.ensures in
    let around = c.loop-bits.invariant.around in
    let first_at = around.0 in
    let at_last = around.1 in
    let first_down = down.more.0 in
    let last_down = down.more.1 in
    let first_up = up.more.0 in
    let last_up = up.more.1 in
    let sparse : run.count < gap = omega arith in
    let least : width ≤ high = le_or_r c.label_of-label.result width in
    let low : (node_of nodes (node_of nodes run.first).before).label ≤ high - width = subst (λ n. (node_of nodes (node_of nodes n).before).label ≤ high - width) (sym up.first) down.low in
    let fits : (run.count + 1) * gap ≤ width = c.gap_in-gap.ensures in
    let inside : high - width + run.count * gap ≤ high = omega arith in
    run-spacing nodes links.first ns run (high - width) high gap c.requires.listing up.run (omega arith) sparse low up.high inside (highest-fits c.label_of-label.result (64 - c.loop-bits.bits) c.label_of-label.type_inv)

pub returns-clause-spacing : goal.returns-clause-spacing
returns-clause-spacing c =
    let links = c.args.self.now in
    let nodes = links.nodes.items in
    let at = c.requires.at in
    let count : c.len-count.result ≡ length nodes = omega arith in
    all-spacing nodes links.first (numbers_in links) c.len-count.result c.gap_of-gap.result c.requires.listing (omega arith) count c.gap_of-gap.ensures.apart c.gap_of-gap.ensures.fits

pub returns-clause-at : goal.returns-clause-at
returns-clause-at c =
    let links = c.args.self.now in
    let nodes = links.nodes.items in
    let within = c.requires.at in
    let place = first-place nodes links.first (numbers_in links) c.requires.listing (omega arith) in
    let there = at_place (numbers_in links) c.args.at (c.requires.listing.all c.args.at within) in
    let inside = there.within in
    let many = c.requires.listing.many in
    let count : c.len-count.result ≡ length nodes = omega arith in
    (omega arith, omega arith)
