-- Blocks and functions are equal where their parts are.
use Rattle.draft_steps.proofs.Common.{◌≡◌, ℕ, List, ap, ◌∙◌, Name, Block, Function, Parameter, Inst, Terminator}

abbrev pub block_with : Name → List Inst → Terminator → Block
block_with name insts end = record { name = name; insts = insts; end = end }

pub block_same : (name name' : Name) (insts insts' : List Inst) (end end' : Terminator) → name ≡ name' → insts ≡ insts' → end ≡ end' → block_with name insts end ≡ block_with name' insts' end'
block_same name name' insts insts' end end' p q r =
    ap (λ (n : Name). block_with n insts end) p ∙ (ap (λ (l : List Inst). block_with name' l end) q ∙ ap (λ (e : Terminator). block_with name' insts' e) r)

abbrev function_with : List ℕ → List (List ℕ) → ℕ → List Parameter → List (List ℕ) → List Block → Function
function_with name before width parameters after blocks = record { name = name; before = before; width = width; parameters = parameters; after = after; blocks = blocks }

pub function_same : (f g : Function) → f.name ≡ g.name → f.before ≡ g.before → f.width ≡ g.width → f.parameters ≡ g.parameters → f.after ≡ g.after → f.blocks ≡ g.blocks → f ≡ g
function_same f g a b c d e h =
    ap (λ (x : List ℕ). function_with x f.before f.width f.parameters f.after f.blocks) a
    ∙ (ap (λ (x : List (List ℕ)). function_with g.name x f.width f.parameters f.after f.blocks) b
    ∙ (ap (λ (x : ℕ). function_with g.name g.before x f.parameters f.after f.blocks) c
    ∙ (ap (λ (x : List Parameter). function_with g.name g.before g.width x f.after f.blocks) d
    ∙ (ap (λ (x : List (List ℕ)). function_with g.name g.before g.width g.parameters x f.blocks) e
    ∙ ap (λ (x : List Block). function_with g.name g.before g.width g.parameters g.after x) h))))
