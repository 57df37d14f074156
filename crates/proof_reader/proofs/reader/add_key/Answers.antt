use Rattle.proof_reader.proofs.Common.{Bool, [], ◌∷◌, ◌++◌, if◌then◌else◌, ap, refl, ◌∙◌, Key}
use Rattle.proof_reader.proofs.Keys.{lacked, had}
use Rattle.proof_reader.proofs.reader.add_key.Goals as goal

pub returns-then-not-branch-clause-refused : goal.returns-then-not-branch-clause-refused
returns-then-not-branch-clause-refused c =
    rw c.refused.ensures (
      refl,
      record {
        key = (c.args.rule, c.args.widths);
        rule_is = refl;
        widths_are = refl;
        had = had _ _ c.in_ok-insert.ensures.added c.if-not-branch.true;
      },
    )

pub returns-clause-added : goal.returns-clause-added
returns-clause-added c =
    let key : Key = (c.args.rule, c.args.widths) in
    let old = c.args.seen.now.keys in
    let new = lacked _ _ c.in_ok-insert.ensures.added c.if-not-branch.false in
    record {
      key = key;
      rule_is = refl;
      widths_are = refl;
      lacked = new;
      added = c.in_ok-insert.ensures.keys ∙ ap (λ (b : Bool). if b then old else old ++ key ∷ []) new;
    }
