-- What is so of each step of a line that reads a dirty log: where it waits, what it isn't, and what it leaves.
use Rattle.std.proofs.Common.{◌≡◌, ℕ, Bool, true, false, refl}
use Rattle.std.specs.Prelude.{◌==◌, ◌||◌, not, if◌then◌else◌}
use Rattle.core_views.specs.declared.place.LogPlace.{LogPlace}
use Rattle.core_views.specs.declared.place.LogPlace.TheVariants.{AtOnce, Exclude, Walk, Release, Await, Peek}
use Rattle.core_views.specs.declared.topics.Invalidations.{Invalidations}
use Rattle.core_views.specs.declared.trace.Command.{Command}
use Rattle.core_views.specs.Held.{Held}
use Rattle.part_steps.specs.declared.part_step.PartStep.TheVariants as part
use Rattle.part_steps.specs.ControlBits.{has_to_flush}
use Rattle.part_steps.specs.PartTopics.{part_topics}
use Rattle.part_steps.specs.SweepTopics.{has_entry}
use Rattle.mmu_core.specs.declared.log_next.LogNext.{LogNext}
use Rattle.mmu_core.specs.declared.log_next.LogNext.TheVariants as next
use Rattle.mmu_core.specs.forms.log.LogSteps.{awaits_last, log_next, log_part}
use Rattle.mmu_core.specs.lines.PartWaits.{part_waits, saw_open}
use Rattle.mmu_core.proofs.lines.EitherPlace.{either_place}
use Rattle.mmu_core.proofs.orders.InvalidatePlaces.{IsPlain, LeavesPages}
use Rattle.mmu_core.proofs.lines.PartsWait.{neither_waits}
use Rattle.mmu_core.proofs.machine.PartStepping.{rises}

-- ---- where it waits

-- Where another actor has the lock, and where a virtual processor has yet to flush; and as it gives the lock back, where it has seen others' invalidations.
abbrev pub log_waits_at : LogPlace → Invalidations → ℕ → Bool
log_waits_at Exclude n v = not (v == 0)
log_waits_at Release n v = saw_open n
log_waits_at Await n v = has_to_flush v
log_waits_at _ n v = false

-- Its step waits there, and nowhere else.
pub log_waits : (p : LogPlace) (h : Held) (command : Command) (v : ℕ) → part_waits (log_part p h command) h.topics v ≡ log_waits_at p h.topics.invalidations v
log_waits (Walk page) h command v = neither_waits (has_entry h.topics.walk) (part.WalkAnew _) (part.Walk _) h.topics v refl refl
log_waits _ h command v = refl

-- ---- how it ends

-- The line is over.
abbrev pub is_over : LogNext → Bool
is_over (next.Goes p) = false
is_over (next.Refused refusal) = true
is_over next.Reads = true

await_free : (waits last : Bool) → is_over (if waits || not last then next.Goes Await else next.Reads) ≡ true → waits ≡ false
await_free true last is = absurd (cc is)
await_free false last is = refl

-- The step that ends it doesn't wait.
pub log_ends_free : (p : LogPlace) (h : Held) (command : Command) (v : ℕ) → is_over (log_next p command h v) ≡ true
    → part_waits (log_part p h command) h.topics v ≡ false
log_ends_free (AtOnce refusal) h command v is = refl
log_ends_free Await h command v is = await_free (has_to_flush v) (awaits_last h) is
log_ends_free (Peek begun) h command v is = refl
log_ends_free _ h command v is = absurd (cc is)

-- ---- what it isn't

-- It publishes nothing, changes no host word, and claims nothing.
pub log_plain : (p : LogPlace) (h : Held) (command : Command) → IsPlain (log_part p h command)
log_plain (Walk page) h command =
    either_place IsPlain (has_entry h.topics.walk) (part.WalkAnew _) (part.Walk _) (record { never = refl; quiet = refl; maps_not = λ map. refl })
    (record { never = refl; quiet = refl; maps_not = λ map. refl })
log_plain _ h command = record { never = refl; quiet = refl; maps_not = λ map. refl }

-- It raises no sequence number.
pub log_rises : (p : LogPlace) (h : Held) (command : Command) → rises (log_part p h command) ≡ 0
log_rises (Walk page) h command = either_place (λ step. rises step ≡ 0) (has_entry h.topics.walk) (part.WalkAnew _) (part.Walk _) refl refl
log_rises _ h command = refl

-- ---- what it leaves

-- Where the actor is, and what it has of pages and frames, stays: it retires nothing.
pub log_leaves_pages : (p : LogPlace) (h : Held) (command : Command) (v : ℕ) → LeavesPages h.topics (part_topics (log_part p h command) h.topics v)
log_leaves_pages (Walk page) h command v =
    either_place (λ step. LeavesPages h.topics (part_topics step h.topics v)) (has_entry h.topics.walk) (part.WalkAnew _) (part.Walk _)
    (record { stay = refl; owned = refl; owed = refl; retired = refl; frames = refl; watched = refl })
    (record { stay = refl; owned = refl; owed = refl; retired = refl; frames = refl; watched = refl })
log_leaves_pages _ h command v = record { stay = refl; owned = refl; owed = refl; retired = refl; frames = refl; watched = refl }

-- It opens and ends no invalidation.
pub log_opens : (p : LogPlace) (h : Held) (command : Command) (v : ℕ)
    → (part_topics (log_part p h command) h.topics v).invalidations.opened ≡ h.topics.invalidations.opened
log_opens (Walk page) h command v =
    either_place (λ step. (part_topics step h.topics v).invalidations.opened ≡ h.topics.invalidations.opened) (has_entry h.topics.walk) (part.WalkAnew _)
    (part.Walk _) refl refl
log_opens _ h command v = refl
