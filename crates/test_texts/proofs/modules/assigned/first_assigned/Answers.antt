use Rattle.test_texts.proofs.modules.assigned.first_assigned.Goals as goal

pub check_assigned-requires-clause-some_block : goal.check_assigned-requires-clause-some_block
check_assigned-requires-clause-some_block c =
    (c.requires.functions 0 c.in-Some-Function.f (cc (c.in-Some-Function.ensures.value, c.as_slice.ensures))).formed.some_block

pub check_assigned-requires-clause-targets : goal.check_assigned-requires-clause-targets
check_assigned-requires-clause-targets c =
    (c.requires.functions 0 c.in-Some-Function.f (cc (c.in-Some-Function.ensures.value, c.as_slice.ensures))).formed.blocks
