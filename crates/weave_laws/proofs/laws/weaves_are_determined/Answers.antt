use Rattle.weave_laws.proofs.SameStarts.{starts_are_one}
use Rattle.weave_laws.proofs.SameWeaves.{replays_are_determined, steps_are_determined, texts_are_determined}
use Rattle.weave_laws.proofs.laws.weaves_are_determined.Goals as goal

pub returns-clause-starts : goal.returns-clause-starts
returns-clause-starts c = starts_are_one

pub returns-clause-steps : goal.returns-clause-steps
returns-clause-steps c = steps_are_determined

pub returns-clause-texts : goal.returns-clause-texts
returns-clause-texts c = texts_are_determined

pub returns-clause-replays : goal.returns-clause-replays
returns-clause-replays c = replays_are_determined
