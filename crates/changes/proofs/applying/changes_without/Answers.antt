use Rattle.changes.proofs.Rewritten.{went_root, came_all, changed_readers}
use Rattle.changes.proofs.applying.changes_without.Goals as goal

pub returns : goal.returns
returns c = λ w root p at.
    let f = c.args.f.now in
    let put = c.args.put in
    record {
      went = went_root f w root at put p c.in_ok-went.went c.in_ok-went.ensures;
      came = came_all f w root at put p c.in_ok-came.came c.in_ok-came.ensures;
      changed = changed_readers f w root at put p c.in_ok-changed.changed (c.in_ok-changed.ensures w p);
    }
