use Rattle.rule_reader.proofs.Common.{refl}
use Rattle.rule_reader.proofs.reader.classified.Goals as goal

pub returns-in-Err-clause-refused : goal.returns-in-Err-clause-refused
returns-in-Err-clause-refused c =
    record {
      class_fault = c.in-Err.fault;
      classified = c.classify.new.rule;
      rest = c.in-Err.ensures.rest;
      classes = c.in-Err.ensures.classes;
      is_fault = c.in-Err.ensures.fault;
      line = refl;
      kind = c.kind_of_class_fault.ensures;
    }
