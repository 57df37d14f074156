use Rattle.depth_first.proofs.Common.{refl, ◌≡◌, ◌+◌, ◌*◌, ◌<◌, ◌∙◌, false, Bool, Option, List, None, length, set, sym, ap, subst, arith, length-set, ◌++◌, ◌∷◌, [], length_push, code_of, IsTableOf, IsHeldTable, EachFresh, open_count}
use Rattle.depth_first.proofs.HeldTable.{IsHeldTable-pop, code_within}
use Rattle.depth_first.proofs.TrailTable.{IsTableOf-pop, EachFresh-pop, open_count-pop, last_fresh}
use Rattle.depth_first.proofs.HeldLists.{literal_at}
use Rattle.depth_first.proofs.Lists.{slice_get_last}
use Rattle.depth_first.proofs.trail.Trail.pop.Goals as goal

pub invariant_of-self : goal.invariant_of-self
invariant_of-self c =
    let trail = c.args.self.now in
    let values = trail.values.items in
    let entries = c.pop.new.self.items in
    let e = c.in-Some.entry in
    let l = e.literal in
    let was : trail.entries.items ≡ entries ++ e ∷ [] = c.in-Some.ensures.items in
    let table : IsTableOf values (entries ++ e ∷ []) = subst (IsTableOf values) was trail.table in
    let fresh : EachFresh values (entries ++ e ∷ []) = subst (EachFresh values) was trail.fresh in
    let last = last_fresh values entries e fresh in
    let within : code_of l < length trail.held.items = code_within l (length values) (length trail.held.items) last.0 trail.codes in
    let marks : set trail.held.items (code_of l) false ≡ set trail.held.items c.code_of.result false = ap (λ k. set trail.held.items k false) (sym c.code_of.ensures) in
    let is : set values l.variable None ≡ set values c.variable.result None = ap (λ k. set values k None) (sym c.variable.ensures) in
    record {
      table = subst (λ vs. IsTableOf vs entries) is (IsTableOf-pop values entries e table last.0 last.1);
      codes = ap length (sym marks) ∙ length-set trail.held.items (code_of l) false ∙ trail.codes ∙ ap (λ k. 2 * k) (sym (length-set values l.variable None)) ∙ ap (λ (vs : List (Option Bool)). 2 * length vs) is;
      marked = subst (λ marks. IsHeldTable marks entries) marks
          (IsHeldTable-pop trail.held.items entries e (subst (IsHeldTable trail.held.items) was trail.marked) within last.1);
      fresh = subst (λ vs. EachFresh vs entries) is (EachFresh-pop values entries e l.variable None fresh);
      counted =
          subst (λ (vs : List (Option Bool)). open_count vs + length entries ≡ length vs) is
          (omega (
            arith,
            trail.counted,
            subst (λ es. length trail.entries.items ≡ length es) was refl,
            length_push entries e,
            length-set values l.variable None,
            open_count-pop values (entries ++ e ∷ []) l table last.0 (literal_at (entries ++ e ∷ []) (length entries) e (slice_get_last entries e)),
          ));
    }
