-- The places to which runs come, with the blocks that they have passed.
use Rattle.substitution.proofs.Common.{◌≡◌, ℕ, suc, Bool, true, false, ◌&&◌, ◌⊎◌, inl, inr, List, [], ◌∷◌, length, Option, None, Some, refl, sym, ap, subst, ◌∙◌, cases_eq, Value, IsBlock, Names, IsInst, reads_of, reads_by, reads_in, reads_at, Registers, arguments, holding, IfPhi, Goes, OpGives, PhiGives, EndGives, AnyNumber, IsReached, IsWalk, Function, Block, Inst, Op, Binary, Compare, Unary, Select, Convert, Freeze, Phi, Operand, Terminator, Moment, InstGives, IsHistory, end_among, ComesTo}
use Rattle.ops.specs.declared.value.Effect.TheVariants as effects

-- the block that was passed last, if one was
abbrev pub last_of : List ℕ → Option ℕ
last_of [] = None
last_of (b ∷ before) = Some b

abbrev pub moment : List ℕ → ℕ → ℕ → Registers → Registers → Moment
moment before b k entered held = record { from = last_of before; entered = entered; block = b; place = k; held = held }

-- A run of f has passed the blocks `before`, the last one first, and comes to place k of block b. `entered` is what
-- registers held where it entered the block.
pub record Arrives (f : Function) (args : List Value) (before : List ℕ) (b k : ℕ) (entered held : Registers) : Type 0 where
  pub history : List Moment
  pub is_history : IsHistory f args (moment before b k entered held ∷ history)
  pub is_walk : IsWalk f (b ∷ before)

pub comes_to : (f : Function) (args : List Value) (before : List ℕ) (b k : ℕ) (entered held : Registers) → Arrives f args before b k entered held → ComesTo f args b k held
comes_to f args before b k entered held run = (moment before b k entered held, run.history, run.is_history, refl, refl)

pub is_reached : (f : Function) (args : List Value) (before : List ℕ) (b k : ℕ) (entered held : Registers) → Arrives f args before b k entered held → IsReached f b
is_reached f args before b k entered held run = (before, run.is_walk)

-- a terminator goes on at a block that it names, and leaves the registers as they are
pub goes_by_names : (f : Function) (b : ℕ) (block : Block) (held next : Registers) (c : ℕ) → IsBlock f b block → EndGives AnyNumber held f block.end (Goes c next) → Names f b c
goes_by_names f b block held next c at h = (block, at, (end_among held f block.end (Goes c next) h).0)

pub goes_with : (f : Function) (held next : Registers) (t : Terminator) (c : ℕ) → EndGives AnyNumber held f t (Goes c next) → next ≡ held
goes_with f held next t c h = (end_among held f t (Goes c next) h).1

-- ---- the steps of a run

pub arrive_first : (f : Function) (args : List Value) → Arrives f args [] 0 0 (arguments args) (arguments args)
arrive_first f args = record { history = []; is_history = refl; is_walk = refl }

next_inst : (f : Function) (args : List Value) (before : List ℕ) (b k : ℕ) (entered held : Registers) (inst : Inst) (v : Value) → Arrives f args before b k entered held → IsInst f b k inst
    → InstGives (moment before b k entered held) inst (effects.Gives v) → Arrives f args before b (suc k) entered (holding held b k v)
next_inst f args before b k entered held inst v run is gives = record {
  history = moment before b k entered held ∷ run.history;
  is_history = (inl (record { inst = inst; is_inst = is; value = v; gives = gives; next = refl }), run.is_history);
  is_walk = run.is_walk;
}

pub arrive_phi : (f : Function) (args : List Value) (before : List ℕ) (b k : ℕ) (entered held : Registers) (inst : Inst) (entries : List (Operand × ℕ)) (v : Value) → Arrives f args before b k entered held → IsInst f b k inst
    → inst.op ≡ Phi entries → PhiGives AnyNumber entered (last_of before) inst.width entries v → Arrives f args before b (suc k) entered (holding held b k v)
arrive_phi f args before b k entered held inst entries v run is phi gives =
    let Takes : List (Operand × ℕ) → Type 0 = λ es. (x : Value) × PhiGives AnyNumber entered (last_of before) inst.width es x × (effects.Gives v ≡ effects.Gives x) in
    next_inst f args before b k entered held inst v run is (subst (λ op. IfPhi Takes (OpGives AnyNumber held inst.width inst.op (effects.Gives v)) op) (sym phi) (v, gives, refl))

as_no_phi : (P : List (Operand × ℕ) → Type 0) (held : Registers) (w : ℕ) (op : Op) (v : Value) → OpGives AnyNumber held w op (effects.Gives v) → IfPhi P (OpGives AnyNumber held w op (effects.Gives v)) op
as_no_phi P held w (Binary op flags x y) v h = h
as_no_phi P held w (Compare pred samesign compared x y) v h = h
as_no_phi P held w (Select c x y) v h = h
as_no_phi P held w (Convert cast flags from x) v h = h
as_no_phi P held w (Unary op truth x) v h = h
as_no_phi P held w (Freeze x) v h = h
as_no_phi P held w (Phi entries) v h = absurd h

pub arrive_next : (f : Function) (args : List Value) (before : List ℕ) (b k : ℕ) (entered held : Registers) (inst : Inst) (v : Value) → Arrives f args before b k entered held → IsInst f b k inst
    → OpGives AnyNumber held inst.width inst.op (effects.Gives v) → Arrives f args before b (suc k) entered (holding held b k v)
arrive_next f args before b k entered held inst v run is gives =
    next_inst f args before b k entered held inst v run is
    (as_no_phi (λ es. (x : Value) × PhiGives AnyNumber entered (last_of before) inst.width es x × (effects.Gives v ≡ effects.Gives x)) held inst.width inst.op v gives)

pub arrive_edge : (f : Function) (args : List Value) (before : List ℕ) (b c : ℕ) (entered held next : Registers) (block : Block) → Arrives f args before b (length block.insts) entered held → IsBlock f b block
    → EndGives AnyNumber held f block.end (Goes c next) → Arrives f args (b ∷ before) c 0 next next
arrive_edge f args before b c entered held next block run at gives = record {
  history = moment before b (length block.insts) entered held ∷ run.history;
  is_history = (inr (record { to = c; held = next; gives = record { block = block; is_block = at; behind = refl; gives = gives }; next = refl }), run.is_history);
  is_walk = (goes_by_names f b block held next c at gives, run.is_walk);
}

-- ---- places

pub and_left : (x y : Bool) → x ≡ false → (x && y) ≡ false
and_left true y e = absurd cc
and_left false y e = refl

-- two places are the same, or are not
pub same_or_other : (d j b k : ℕ) → ((d ≡ b) × (j ≡ k)) ⊎ ¬ ((d ≡ b) × (j ≡ k))
same_or_other d j b k =
    elim (cases_eq d b) [
      | inr ne ↦ inr (λ h. ne h.0)
      | inl same ↦ elim (cases_eq j k) [ inr ne ↦ inr (λ h. ne h.1) | inl e ↦ inl (same, e) ]
    ]

-- the reads of instruction k of block b
pub inst_reads : (f : Function) (b k : ℕ) (inst : Inst) → IsInst f b k inst → reads_at f b k ≡ reads_of f b k inst.width inst.op
inst_reads f b k inst h = ap (reads_in f b k) h.is_block ∙ ap (reads_by f b k h.block) h.is_inst
