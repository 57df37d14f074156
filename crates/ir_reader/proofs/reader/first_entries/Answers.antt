use Rattle.ir_reader.proofs.Common.{◌++◌, ◌∷◌, [], subst, seen, SpellsEntry, Continues}
use Rattle.ir_reader.proofs.Advancing.{Came, came_alone, read_more, left_last, left_rest}
use Rattle.ir_reader.proofs.Sets.{on_ok}
use Rattle.ir_reader.proofs.reader.first_entries.Goals as goal

pub loop-behind-preserved : goal.loop-behind-preserved
loop-behind-preserved c =
    let (front, read, is) = c.loop-behind.invariant in
    let taken = seen c.take_entry.new.tokens.items in
    let came = subst (λ b. Came c.loop-behind.reader taken b c.in_ok-behind.behind) c.if-are_last.false (came_alone c.loop-behind.reader c.in_ok-behind.behind c.clear.new.self.items c.take_entry.new.tokens.items c.in_ok-behind.are_last c.clear.ensures.items c.in_ok-behind.ensures.come) in
    let (e, whole, more) = subst (λ b. Continues front (seen c.as_slice.result.now) b c.push_whole.new.reading) c.if-not-branch.false (c.in_ok-push_whole.ensures front is) in
    let whole' = subst (λ l. SpellsEntry e (seen l) []) c.as_slice.ensures.value whole in
    (front ++ e ∷ [], read_more c.loop-behind.reader c.in_ok-behind.behind taken e came whole' c.args.bytes.now front read, more)

pub returns-then-not-branch : goal.returns-then-not-branch
returns-then-not-branch c =
    let (front, read, is) = c.loop-behind.invariant in
    let taken = seen c.take_entry.new.tokens.items in
    let came = subst (λ b. Came c.loop-behind.reader taken b c.in_ok-behind.behind) c.if-are_last.false (came_alone c.loop-behind.reader c.in_ok-behind.behind c.clear.new.self.items c.take_entry.new.tokens.items c.in_ok-behind.are_last c.clear.ensures.items c.in_ok-behind.ensures.come) in
    let same = subst (λ b. Continues front (seen c.as_slice.result.now) b c.push_whole.new.reading) c.if-not-branch.true (c.in_ok-push_whole.ensures front is) in
    on_ok c.take_rest.result _ _ (λ rest.
    (front, left_rest c.loop-behind.reader c.in_ok-behind.behind taken (seen c.take_rest.new.tokens.items) came rest c.args.bytes.now front read, same))
    c.take_rest.ensures

pub returns-then-are_last : goal.returns-then-are_last
returns-then-are_last c =
    let (front, read, is) = c.loop-behind.invariant in
    let taken = seen c.take_entry.new.tokens.items in
    let came = subst (λ b. Came c.loop-behind.reader taken b c.in_ok-behind.behind) c.if-are_last.true (came_alone c.loop-behind.reader c.in_ok-behind.behind c.clear.new.self.items c.take_entry.new.tokens.items c.in_ok-behind.are_last c.clear.ensures.items c.in_ok-behind.ensures.come) in
    (front, left_last c.loop-behind.reader c.in_ok-behind.behind taken came c.args.bytes.now front read, is)
