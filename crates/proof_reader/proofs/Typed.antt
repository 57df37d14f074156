-- Numbers that are no widths are no typing.
use Rattle.proof_reader.proofs.Common.{ℕ, ◌≤◌, List, All, Contains, All-weaker, All-contains_itself, Rule, IsTyping}

pub no_widths : (rule : Rule) (ws : List ℕ) → (All (λ n. (1 ≤ n) × (n ≤ 64)) ws → ⊥) → IsTyping rule ws → ⊥
no_widths rule ws none typed = none (All-weaker (Contains ws) (λ n. (1 ≤ n) × (n ≤ 64)) (λ n here. typed.widths n here) ws (All-contains_itself ws))
