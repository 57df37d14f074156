use Rattle.places.proofs.Common.{◌≡◌, ℕ, ◌<◌, length, node_of, first_node_at}
use Rattle.places.proofs.links.Links.new.Given as goal

abbrev pub invariant-loop-number : goal.invariant-loop-number
invariant-loop-number l =
    record {
      many : length l.nodes.items ≡ l.number;
      are : (k : ℕ) → k < l.number → node_of l.nodes.items k ≡ first_node_at l.count l.gap k;
    }
