-- It is decidable whether a phi fits.
use Rattle.ir_reader.proofs.Common.{◌≡◌, ℕ, ◌<◌, List, length, Some, refl, ap, subst, ◌∙◌, slice_get, Contains, map_dec, dec_lt, slice_get_within, Number, Function, Block, Inst, Op, Binary, Compare, Select, Convert, Freeze, Phi, Operand, Register, Names, IsInst, IsPhi, OnlyPhisBefore, PhiFits, OpFits, dec_both, dec_not, dec_number, dec_one, dec_at, stable}
use Rattle.ir_core.specs.declared.instruction.Op.TheVariants.{Unary}
use Rattle.ir_core.specs.declared.operand.Operand.TheVariants as operands
use Rattle.ir_core.specs.declared.operand.Register.TheVariants as registers
use Rattle.ir_reader.proofs.Searching.{dec_below}
use Rattle.ir_reader.proofs.Avoiding.{dec_names}

-- ---- equal operands

dec_register : (r s : Register) → Dec (r ≡ s)
dec_register (registers.Parameter k) (registers.Parameter j) = map_dec (λ e. ap (λ n. registers.Parameter n) e) (λ e. cc) (dec_number k j)
dec_register (registers.Result b k) (registers.Result d j) = map_dec (λ (p, q). cc) (λ e. (cc, cc)) (dec_both (dec_number b d) (dec_number k j))
dec_register (registers.Parameter k) (registers.Result d j) = no (λ e. cc)
dec_register (registers.Result b k) (registers.Parameter j) = no (λ e. cc)

abbrev number_of : ℕ → ℕ → Number
number_of width number = record { width = width; number = number }

dec_literal : (m n : Number) → Dec (m ≡ n)
dec_literal m n =
    map_dec (λ (p, q). ap (λ w. number_of w m.number) p ∙ ap (number_of n.width) q) (λ e. (ap (λ (x : Number). x.width) e, ap (λ (x : Number). x.number) e)) (dec_both (dec_number m.width n.width) (dec_number m.number n.number))

dec_operand : (a b : Operand) → Dec (a ≡ b)
dec_operand (operands.Register r) (operands.Register s) = map_dec (λ e. ap (λ x. operands.Register x) e) (λ e. cc) (dec_register r s)
dec_operand (operands.Number m) (operands.Number n) = map_dec (λ e. ap (λ x. operands.Number x) e) (λ e. cc) (dec_literal m n)
dec_operand operands.Undef operands.Undef = yes refl
dec_operand operands.Poison operands.Poison = yes refl
dec_operand a b = no (λ e. cc)

-- ---- where a phi may stand

dec_is_phi : (op : Op) → Dec (IsPhi op)
dec_is_phi (Phi entries) = yes tt
dec_is_phi (Binary op flags x y) = no (λ h. h)
dec_is_phi (Compare pred samesign width x y) = no (λ h. h)
dec_is_phi (Select c x y) = no (λ h. h)
dec_is_phi (Convert cast flags from x) = no (λ h. h)
dec_is_phi (Unary op truth x) = no (λ h. h)
dec_is_phi (Freeze x) = no (λ h. h)

-- whether P holds of the instruction at the place is decidable
pub dec_inst : (f : Function) (b k : ℕ) (P : Inst → Type 0) → ((inst : Inst) → Dec (P inst)) → Dec ((inst : Inst) × IsInst f b k inst × P inst)
dec_inst f b k P each =
    map_dec (λ (block, is_block, (inst, is_inst, p)). (inst, record { block = block; is_block = is_block; is_inst = is_inst }, p)) (λ (inst, is, p). (is.block, is.is_block, (inst, is.is_inst, p)))
    (dec_at (λ (block : Block). (inst : Inst) × (slice_get block.insts k ≡ Some inst) × P inst) f.blocks b (λ block. dec_at P block.insts k each))

dec_only_phis : (f : Function) (b k : ℕ) → Dec (OnlyPhisBefore f b k)
dec_only_phis f b k =
    let Other : ℕ → Type 0 = λ j. (j < k) × ((inst : Inst) × IsInst f b j inst × ¬ IsPhi inst.op) in
    map_dec (λ none j inst lt is. stable (dec_is_phi inst.op) (λ not_phi. none (j, (lt, (inst, is, not_phi)))))
    (λ all (j, (lt, (inst, is, not_phi))). not_phi (all j inst lt is))
    (dec_not (dec_below Other (λ j. dec_both (dec_lt j k) (dec_inst f b j (λ inst. ¬ IsPhi inst.op) (λ inst. dec_not (dec_is_phi inst.op)))) k (λ j h. h.0)))

-- ---- entries

module _ (f : Function) (b k : ℕ) (entries : List (Operand × ℕ)) where
  abbrev HasEntry : ℕ → Type 0
  HasEntry c = (a : Operand) × Contains entries (a, c)

  abbrev Entry : Type 0
  Entry = Operand × ℕ

  dec_entry : (c : ℕ) → Dec (HasEntry c)
  dec_entry c =
      map_dec (λ (e, among, is). (e.0, subst (λ n. Contains entries (e.0, n)) is among)) (λ (a, among). ((a, c), among, refl)) (dec_one (λ (e : Entry). e.1 ≡ c) entries (λ e. dec_number e.1 c))

  -- an entry for a block that is no predecessor, a predecessor without an entry, and two operands for one block
  abbrev IsForeign : Entry → Type 0
  IsForeign e = ¬ Names f e.1 b

  abbrev IsMissing : ℕ → Type 0
  IsMissing c = Names f c b × ¬ HasEntry c

  abbrev IsSecond : Entry → Entry → Type 0
  IsSecond e d = (d.1 ≡ e.1) × ¬ (e.0 ≡ d.0)

  dec_foreign : Dec ((e : Entry) × Contains entries e × IsForeign e)
  dec_foreign = dec_one IsForeign entries (λ e. dec_not (dec_names f e.1 b))

  dec_missing : Dec ((c : ℕ) × IsMissing c)
  dec_missing = dec_below IsMissing (λ c. dec_both (dec_names f c b) (dec_not (dec_entry c))) (length f.blocks) (λ c ((block, at, among), none). slice_get_within f.blocks c block at)

  dec_second : Dec ((e : Entry) × Contains entries e × ((d : Entry) × Contains entries d × IsSecond e d))
  dec_second = dec_one (λ (e : Entry). (d : Entry) × Contains entries d × IsSecond e d) entries
      (λ e. dec_one (IsSecond e) entries (λ d. dec_both (dec_number d.1 e.1) (dec_not (dec_operand e.0 d.0))))

  fit : OnlyPhisBefore f b k → ¬ ((e : Entry) × Contains entries e × IsForeign e) → ¬ ((c : ℕ) × IsMissing c) → ¬ ((e : Entry) × Contains entries e × ((d : Entry) × Contains entries d × IsSecond e d)) → PhiFits f b k entries
  fit only_phis no_foreign no_missing no_second = record {
    only_phis = only_phis;
    from = λ c. (
      λ (a, among). stable (dec_names f c b) (λ foreign. no_foreign ((a, c), among, foreign)),
      λ names. stable (dec_entry c) (λ none. no_missing (c, (names, none))),
    );
    one = λ x y c p q. stable (dec_operand x y) (λ differ. no_second ((x, c), p, ((y, c), q, (refl, differ))));
  }

  dec_phi : Dec (PhiFits f b k entries)
  dec_phi =
      map_dec (λ (only_phis, (no_foreign, (no_missing, no_second))). fit only_phis no_foreign no_missing no_second)
      (λ fits. (
        fits.only_phis,
        (
          λ (e, among, foreign). foreign ((fits.from e.1).0 (e.0, among)),
          (
            λ (c, (names, none)). none ((fits.from c).1 names),
            λ (e, p, (d, q, (same, differ))). differ (fits.one e.0 d.0 e.1 p (subst (λ n. Contains entries (d.0, n)) same q)),
          ),
        ),
      ))
      (dec_both (dec_only_phis f b k) (dec_both (dec_not dec_foreign) (dec_both (dec_not dec_missing) (dec_not dec_second))))

pub dec_fits : (f : Function) (b k : ℕ) (op : Op) → Dec (OpFits f b k op)
dec_fits f b k (Phi entries) = dec_phi f b k entries
dec_fits f b k (Binary op flags x y) = yes tt
dec_fits f b k (Compare pred samesign width x y) = yes tt
dec_fits f b k (Select c x y) = yes tt
dec_fits f b k (Convert cast flags from x) = yes tt
dec_fits f b k (Unary op truth x) = yes tt
dec_fits f b k (Freeze x) = yes tt
