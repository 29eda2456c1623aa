use Rattle.part_tests.proofs.untold.exclusive_untold.Goals as goal

pub returns : goal.returns
returns c =
    record {
      step = record { step = c.try_exclusive.ensures.step; sole = c.try_exclusive.ensures.sole; alone = c.try_exclusive.ensures.alone };
    }
