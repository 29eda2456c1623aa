-- When a step waits for another actor, told before it is made; and what it has then seen in its way.
use Rattle.std.specs.Prelude.{◌≡◌, ◌<◌, ℕ, Bool, true, false, ◌==◌, not, Option, Some, None, if◌then◌else◌}
use Rattle.core_views.specs.declared.progress.Seen.{Seen}
use Rattle.core_views.specs.declared.kind.Kind.{Kind}
use Rattle.core_views.specs.declared.kind.StepKind.{StepKind}
use Rattle.core_views.specs.declared.kind.StepKind.TheVariants as kind
use Rattle.core_views.specs.declared.place.Place.{Place}
use Rattle.core_views.specs.declared.sizes.Sizes.{Sizes}
use Rattle.core_views.specs.declared.topics.Hold.{Hold}
use Rattle.core_views.specs.declared.topics.Hold.TheVariants.{Owing}
use Rattle.core_views.specs.declared.trace.Command.{Command}
use Rattle.core_views.specs.Held.{Held}
use Rattle.spte_words.specs.declared.area.Area.TheVariants as area
use Rattle.spte_words.specs.Areas.{place}
use Rattle.part_steps.specs.declared.part_step.PartStep.{PartStep}
use Rattle.part_steps.specs.ControlBits.{has_to_flush, in_section}
use Rattle.part_steps.specs.PageTopics.{is_won}
use Rattle.part_steps.specs.Tasks.{map_of}
use Rattle.mmu_core.specs.lines.Delays.{line_waits}
use Rattle.mmu_core.specs.lines.Forms.{part_at}
use Rattle.mmu_core.specs.lines.PartWaits.{part_seen, saw_open}
use Rattle.mmu_core.specs.machine.Steps.{place_at}
use Rattle.mmu_core.specs.machine.Turns.{line_of}
use Rattle.mmu_steps.specs.declared.waits.Waiting.{Waiting}
use Rattle.mmu_steps.specs.declared.waits.Waiting.TheVariants.{Never, Always, Unwon, Locked, InSection, Unflushed}

-- what the step of a line has seen that waits, which is the step of a part
abbrev pub seen_by : Option PartStep → Held → ℕ → Seen
seen_by (Some step) h v = part_seen step h v
seen_by None h v = record { word = 0; value = 0 }

-- what it has seen where an actor is in its way
abbrev pub line_seen : Place → Command → Held → ℕ → Seen
line_seen p command h v = seen_by (part_at p command h) h v

-- The step waits that answers so.
abbrev pub waits : Waiting → ℕ → Bool
waits Never v = false
waits (Always seen) v = true
waits (Unwon claim) v = not (is_won claim v)
waits Locked v = not (v == 0)
waits InSection v = in_section v
waits Unflushed v = has_to_flush v

-- What it has then seen: what its actor had seen before, and else what it has found in its own word.
abbrev pub seen_in : Waiting → Kind → ℕ → Seen
seen_in (Always seen) k v = seen
seen_in _ k v = record { word = k.word; value = v }

-- A page or a frame is tried only where some were seen free.
abbrev pub HasTried : Waiting → Type 0
HasTried (Unwon claim) = 0 < claim.seen
HasTried _ = Unit {0}

-- An actor takes itself out of the lock's readers because it saw a writer, or to give the lock back.
abbrev pub unshares : Hold → Sizes → Waiting
unshares (Owing word) z = Always (record { word = place (map_of z) area.Lock 0; value = word })
unshares _ z = Never

-- by the kind of a step, and what its actor holds before it
abbrev pub waiting_at : StepKind → Held → Waiting
waiting_at kind.Unshare h = unshares h.topics.hold h.state.sizes
waiting_at kind.Release h =
    if saw_open h.topics.invalidations
    then Always (record { word = place (map_of h.state.sizes) area.Count 0; value = h.topics.invalidations.count })
    else Never
waiting_at kind.Claim h = Unwon h.topics.claim
waiting_at kind.Frame h = Unwon h.topics.frames.claim
waiting_at kind.Exclude h = Locked
waiting_at kind.Watch h = InSection
waiting_at kind.Await h = Unflushed
waiting_at _ h = Never

-- It says of each answer of the hand's next step whether its line waits, and what it has seen.
pub record WaitsAsLine (w : Waiting) (k : Kind) (h : Held) : Type 0 where
  pub waits_as : (v : ℕ) → waits w v ≡ line_waits (place_at h.state.place h) (line_of h).command h v
  pub seen_as : (v : ℕ) → waits w v ≡ true → seen_in w k v ≡ line_seen (place_at h.state.place h) (line_of h).command h v
