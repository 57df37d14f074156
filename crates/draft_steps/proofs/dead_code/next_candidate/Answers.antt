use Rattle.draft_steps.proofs.dead_code.next_candidate.Goals as goal

pub returns-clause-whole : goal.returns-clause-whole
returns-clause-whole c =
    let whole = c.requires in
    record {
      few = whole.few;
      ordered = whole.ordered;
      marked = whole.marked;
      rows = whole.rows;
      known = whole.known;
      facts = whole.facts;
      readers = whole.readers;
      cycles = whole.cycles;
    }
