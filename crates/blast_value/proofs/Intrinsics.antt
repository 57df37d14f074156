-- The effects of intrinsics where their operand may be poison.
use Rattle.blast_value.proofs.Common.{◌≡◌, ℕ, Bool, true, false, ◌&&◌, ◌||◌, if◌then◌else◌, refl, Poison, Undefined, Gives, bits, unary, at_number, poison_where_true}
use Rattle.ops.specs.declared.opcode.Unary.{Unary}

pub unary_effect : (op : Unary) (truth : Bool) (N l k n a : ℕ) (undefined poison x excluded : Bool) → undefined ≡ false → poison ≡ (x || excluded) → excluded ≡ (truth && poison_where_true op N a) → l ≡ N → n ≡ at_number op N a → (if undefined then Undefined else Gives (if poison then Poison else bits l n)) ≡ Gives (unary op truth N (if x then Poison else bits k a))
unfolding unary
unary_effect op truth N l k n a undefined poison true excluded u p e width n_is = rw (u, p) refl
unary_effect op truth N l k n a undefined poison false excluded u p e width n_is = rw (u, p, e, width, n_is) refl
