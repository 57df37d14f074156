-- Blocks that are reached are so in a function in which each block names what it named, and perhaps more.
use Rattle.draft.proofs.Common.{ℕ, List, [], ◌∷◌, Names, IsReached, IsWalk, Function}

module _ (f g : Function) (on : (b c : ℕ) → Names f b c → Names g b c) where
  walk_along : (blocks : List ℕ) → IsWalk f blocks → IsWalk g blocks
  walk_along [] h = h
  walk_along (b ∷ []) h = h
  walk_along (c ∷ b ∷ before) h = (on b c h.0, walk_along (b ∷ before) h.1)

  pub reached_along : (b : ℕ) → IsReached f b → IsReached g b
  reached_along b h = (h.0, walk_along (b ∷ h.0) h.1)
