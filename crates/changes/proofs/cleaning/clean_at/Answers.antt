use Rattle.changes.proofs.Common.{◌≡◌, ◌<◌, ◌^◌, ℕ, List, length, sym, ap, subst, arith, Function, IsCleaned, kept_function, cleaned_meets, AllKnown, AreChanges, Came, IsChanged, kept_moves, AreAscending, Changes}
use Rattle.changes.proofs.Cleaned as cleaned
use Rattle.changes.proofs.Few.{AreFew, as_many_kept, few_kept}
use Rattle.changes.proofs.cleaning.clean_at.Goals as goal

-- a copy of the function was cleaned
cleaned_from : (f copy new : Function) → copy ≡ f → IsCleaned copy new → IsCleaned f new
cleaned_from f copy new same is = subst (λ (g : Function). IsCleaned g new) same is

pub unneeded-requires-clause-registers : goal.unneeded-requires-clause-registers
unneeded-requires-clause-registers c = c.requires.checks.formed.registers

pub clean-requires-clause-blocks : goal.clean-requires-clause-blocks
clean-requires-clause-blocks c = subst (λ (g : Function). length g.blocks < 2 ^ 32) (sym c.in_ok-new.ensures) c.requires.blocks

pub clean-requires-clause-insts : goal.clean-requires-clause-insts
clean-requires-clause-insts c = subst (λ (g : Function). AreFew g) (sym c.in_ok-new.ensures) c.requires.insts

pub clean-requires-clause-registers : goal.clean-requires-clause-registers
clean-requires-clause-registers c = subst (λ (g : Function). AllKnown g) (sym c.in_ok-new.ensures) c.requires.checks.formed.registers

pub count_uses-requires-clause-blocks : goal.count_uses-requires-clause-blocks
count_uses-requires-clause-blocks c =
    let f = c.args.f.now in
    let is : IsCleaned f c.clean.new.f = cleaned_from f c.in_ok-new.new c.clean.new.f c.in_ok-new.ensures c.in_ok-clean.ensures.ok in
    omega (arith, c.requires.blocks, ap (λ (g : Function). length g.blocks) is.2, as_many_kept is.0 f)

pub count_uses-requires-clause-insts : goal.count_uses-requires-clause-insts
count_uses-requires-clause-insts c =
    let f = c.args.f.now in
    let is : IsCleaned f c.clean.new.f = cleaned_from f c.in_ok-new.new c.clean.new.f c.in_ok-new.ensures c.in_ok-clean.ensures.ok in
    subst (λ (g : Function). AreFew g) (sym is.2) (few_kept is.0 f c.requires.insts)

pub count_uses-requires-clause-registers : goal.count_uses-requires-clause-registers
count_uses-requires-clause-registers c =
    let f = c.args.f.now in
    let is : IsCleaned f c.clean.new.f = cleaned_from f c.in_ok-new.new c.clean.new.f c.in_ok-new.ensures c.in_ok-clean.ensures.ok in
    (cleaned_meets f c.clean.new.f c.requires.checks is).formed.registers

pub returns-clause-ok : goal.returns-clause-ok
returns-clause-ok c = cleaned_from c.args.f.now c.in_ok-new.new c.clean.new.f c.in_ok-new.ensures c.in_ok-clean.ensures.ok

pub returns-clause-lists : goal.returns-clause-lists
returns-clause-lists c =
    let f = c.args.f.now in
    let is : IsCleaned f c.clean.new.f = cleaned_from f c.in_ok-new.new c.clean.new.f c.in_ok-new.ensures c.in_ok-clean.ensures.ok in
    let known = c.requires.checks.formed.registers in
    let changes : Changes = record { went = c.in_ok-went.went; came = c.new-came.result; changed = c.new-changed.result } in
    record {
      kept = is.0;
      keeps = is.1;
      is = is.2;
      are = subst (λ (g : Function). AreChanges f g (kept_moves is.0) (λ b k. ⊥) changes) (sym is.2) (record {
        went = cleaned.went f known is.0 is.1 c.in_ok-went.went c.in_ok-went.ensures;
        came = subst (λ (l : List (ℕ × ℕ)). AreAscending (Came f (kept_function is.0 f) (kept_moves is.0)) l) (sym c.new-came.ensures) (cleaned.came f known is.0 is.1);
        changed = subst (λ (l : List (ℕ × ℕ)). AreAscending (IsChanged f (kept_function is.0 f) (kept_moves is.0) (λ b k. ⊥)) l) (sym c.new-changed.ensures) (cleaned.changed f known is.0 is.1);
      });
    }
