use Rattle.flat_model.proofs.HostFrames.{first_free}
use Rattle.flat_model.proofs.host_pages.HostPages.at_start.Goals as goal

pub invariant_of-result : goal.invariant_of-result
invariant_of-result c = rw (c.new.ensures.empty, c.starting_at.ensures) (first_free c.args.sizes.pages)
