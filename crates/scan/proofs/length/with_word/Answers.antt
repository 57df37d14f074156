use Rattle.scan.proofs.Common.{◌≡◌, refl, ◌≤◌, List, ℕ, Bool, true, false, length, take, subst, sym, ◌∙◌, inl, inr, arith, bytes_eq}
use Rattle.scan.proofs.Fronts.{among_longer, among_no_longer}
use Rattle.scan.proofs.length.with_word.Goals as goal
use Rattle.scan.proofs.length.with_word.Goals.{else-word-longest-via-then-word-longest+else-starts_with, else-word-longest-via-else-word-longest}

-- a comparison with the word's bytes as they were read is one with the word
begun : (text word bytes : List ℕ) (starts : Bool) → bytes ≡ word → bytes_eq bytes (take (length bytes) text) ≡ starts → bytes_eq word (take (length word) text) ≡ starts
begun text word bytes starts e h = subst (λ (b : List ℕ). bytes_eq b (take (length b) text) ≡ starts) e h

pub returns-then-starts_with : goal.returns-then-starts_with
returns-then-starts_with c words h =
    let bound : length c.as_bytes.result.now ≤ length c.args.text.now = c.if-starts_with.ensures.bound refl in
    let fits : length c.args.word.now ≤ length c.args.text.now = omega (arith, c.as_bytes.ensures.len) in
    among_longer words c.args.text.now c.args.word.now c.args.longest (omega arith) fits
    (begun c.args.text.now c.args.word.now c.as_bytes.result.now true c.as_bytes.ensures.value (sym c.starts_with.ensures.value ∙ c.if-starts_with.true)) h

pub returns-else-word-longest : goal.returns-else-word-longest
returns-else-word-longest c words h = elim c.else-word-longest.branch [
  | else-word-longest-via-then-word-longest+else-starts_with w ↦ among_no_longer words c.args.text.now c.args.word.now c.args.longest
      (inr (begun c.args.text.now c.args.word.now w.as_bytes.result.now false w.as_bytes.ensures.value (sym w.starts_with.ensures.value ∙ w.if-starts_with.false))) h
  | else-word-longest-via-else-word-longest w ↦ among_no_longer words c.args.text.now c.args.word.now c.args.longest (inl (omega arith)) h
]
