use Rattle.ir_meaning.proofs.Common.{◌≡◌, ℕ, ◌+◌, length, get_or, List, Some, IsSome, refl, sym, subst, arith, slice_get_read, Value, width_of, Function, Register, first_of, held_of, IsTable}
use Rattle.ir_core.specs.declared.operand.Register.TheVariants as registers
use Rattle.ir_meaning.proofs.Tables.{has_inst_some, inst_within, parameter_held, parameter_within_some, result_held}
use Rattle.ir_meaning.proofs.table.Table.get.Goals as goal

known : (f : Function) (r s : Register) → r ≡ s → IsSome (width_of f r) → IsSome (width_of f s)
known f r s is h = subst (λ x. IsSome (width_of f x)) is h

-- the value at a parameter's index is the one that it holds
parameter_read : (f : Function) (firsts : List ℕ) (vs : List Value) (r : Register) (k : ℕ) (v : Value) → IsTable f firsts vs → IsSome (width_of f r) → r ≡ registers.Parameter k → v ≡ get_or vs k v → held_of f vs r ≡ Some v
parameter_read f firsts vs r k v table some is at =
    let here = known f r (registers.Parameter k) is some in
    subst (λ x. held_of f vs x ≡ Some v) (sym is) (parameter_held f vs k v here (slice_get_read vs (length vs) k v refl (parameter_within_some f firsts vs k table here) at))

-- and that at a result's index
result_read : (f : Function) (firsts : List ℕ) (vs : List Value) (r : Register) (b k place : ℕ) (v : Value) → IsTable f firsts vs → IsSome (width_of f r) → r ≡ registers.Result b k → place ≡ first_of f b + k → v ≡ get_or vs place v → held_of f vs r ≡ Some v
result_read f firsts vs r b k place v table some is stands at =
    let here = known f r (registers.Result b k) is some in
    let at_place : v ≡ get_or vs (first_of f b + k) v = rw stands at at in
    subst (λ x. held_of f vs x ≡ Some v) (sym is) (result_held f vs b k v here (slice_get_read vs (length vs) (first_of f b + k) v refl (inst_within f firsts vs b k table (has_inst_some f b k here)) at_place))

pub index-requires : goal.index-requires
index-requires c =
    let t = c.args.self.now in
    omega (arith, parameter_within_some c.args.f.now t.firsts.items t.values.items c.in-Parameter.k c.requires.table (known c.args.f.now c.args.r (registers.Parameter c.in-Parameter.k) c.in-Parameter.is c.requires.register), t.values.ok.0)

pub place-requires : goal.place-requires
place-requires c = record {
  table = c.requires.table;
  inst = has_inst_some c.args.f.now c.in-Result.b c.in-Result.k (known c.args.f.now c.args.r (registers.Result c.in-Result.b c.in-Result.k) c.in-Result.is c.requires.register);
}

pub returns-in-Parameter-clause-held : goal.returns-in-Parameter-clause-held
returns-in-Parameter-clause-held c =
    let t = c.args.self.now in
    parameter_read c.args.f.now t.firsts.items t.values.items c.args.r c.in-Parameter.k c.index.result.now c.requires.table c.requires.register c.in-Parameter.is c.index.ensures

pub returns-in-Parameter-clause-width : goal.returns-in-Parameter-clause-width
returns-in-Parameter-clause-width c =
    let t = c.args.self.now in
    λ width is. c.requires.table.widths c.args.r width c.index.result.now is
    (parameter_read c.args.f.now t.firsts.items t.values.items c.args.r c.in-Parameter.k c.index.result.now c.requires.table c.requires.register c.in-Parameter.is c.index.ensures)

pub returns-in-Result-clause-held : goal.returns-in-Result-clause-held
returns-in-Result-clause-held c =
    let t = c.args.self.now in
    result_read c.args.f.now t.firsts.items t.values.items c.args.r c.in-Result.b c.in-Result.k c.place.result c.index-in-Result.result.now c.requires.table c.requires.register c.in-Result.is c.place.ensures.place c.index-in-Result.ensures

pub returns-in-Result-clause-width : goal.returns-in-Result-clause-width
returns-in-Result-clause-width c =
    let t = c.args.self.now in
    λ width is. c.requires.table.widths c.args.r width c.index-in-Result.result.now is
    (result_read c.args.f.now t.firsts.items t.values.items c.args.r c.in-Result.b c.in-Result.k c.place.result c.index-in-Result.result.now c.requires.table c.requires.register c.in-Result.is c.place.ensures.place c.index-in-Result.ensures)
