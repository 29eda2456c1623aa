use Rattle.slot_laws.proofs.laws.idle_slot_lines_cannot_starve.Goals as goal

pub returns-clause-unchanged : goal.returns-clause-unchanged
returns-clause-unchanged c lawful = absurd (cc lawful.1.1.1.1.0.1)

pub returns-clause-missing : goal.returns-clause-missing
returns-clause-missing c lawful = absurd (cc lawful.1.1.1.1.0.1)
