use Rattle.error_lines.proofs.Common.{◌≡◌, ℕ, List, ◌++◌, ap, ◌∙◌, append_assoc, codes, decimal, register_text}
use Rattle.error_lines.proofs.module.push_unassigned.Goals as goal

-- four pieces, appended one by one
pieces : (out a b c d x y z all : List ℕ) → x ≡ out ++ a → y ≡ x ++ b → z ≡ y ++ c → all ≡ z ++ d → all ≡ out ++ (((a ++ b) ++ c) ++ d)
pieces out a b c d x y z all e f g h =
    h ∙ (ap (λ (l : List ℕ). l ++ d) (g ∙ ap (λ (l : List ℕ). l ++ c) (f ∙ ap (λ (l : List ℕ). l ++ b) e)) ∙ simp append_assoc)

pub returns : goal.returns
returns c =
    let text = c.as_bytes.ensures.value ∙ c.format.ensures.text in
    pieces c.args.out.now.items (codes "Unassigned ") (register_text c.args.register.now) (codes " in block ") (decimal c.args.block)
    c.extend_from_slice.new.self.items c.push_register.new.out.items c.extend_from_slice-2.new.self.items c.extend_from_slice-3.new.self.items
    c.in_ok-extend_from_slice.ensures.items c.in_ok-push_register.ensures c.in_ok-extend_from_slice-2.ensures.items
    (c.in_ok-extend_from_slice-3.ensures.items ∙ ap (λ (l : List ℕ). c.extend_from_slice-2.new.self.items ++ l) text)
