-- What the turn of an access says beside that of every line.
use Rattle.core_views.specs.declared.answer.Answer.{Answer}
use Rattle.core_views.specs.declared.answer.Answer.TheVariants.{Mmio, HostFault, Starved}
use Rattle.core_views.specs.declared.place.FaultEnd.TheVariants as end_of
use Rattle.core_views.specs.Held.{Held}
use Rattle.core_views.specs.Slots.{is_write}
use Rattle.mmu_core.specs.forms.access.FaultKnows.{FaultEndKnows, HasCause}
use Rattle.step_seats.specs.declared.turn.Turn.{Turn}
use Rattle.step_seats.specs.declared.turn.Turn.TheVariants.{Retry, Done}
use Rattle.vcpu_run.specs.declared.access.AccessJob.{AccessJob}

-- What an exit, or a begin anew, of the access rests on: the words that its fault has loaded, of which the hand has kept what matters.
abbrev pub HasItsCause : Turn Answer → AccessJob → Held → Type 0
HasItsCause (Done Mmio) job h = FaultEndKnows end_of.Mmio h.state.sizes job.gfn (is_write job.op) h.topics
HasItsCause (Done HostFault) job h = FaultEndKnows end_of.HostFault h.state.sizes job.gfn (is_write job.op) h.topics
HasItsCause (Done Starved) job h = FaultEndKnows end_of.Starved h.state.sizes job.gfn (is_write job.op) h.topics
HasItsCause (Retry cause) job h = HasCause cause h.state.sizes job.gfn h.topics
HasItsCause _ job h = Unit {0}
