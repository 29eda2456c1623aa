-- Between the begin of a line and its answer it is under way: an event of its own comes at no other time, and leaves it so.
use Rattle.std.proofs.Common.{◌≡◌, ◌⊎◌, inl, inr, ℕ, List, [], ◌∷◌, Bool, true, false, subst, ap}
use Rattle.std.specs.Prelude.{Option, Some, None}
use Rattle.core_views.specs.declared.actor.Actor.{Actor}
use Rattle.core_views.specs.declared.event.EventKind.{EventKind}
use Rattle.core_views.specs.declared.event.EventKind.TheVariants.{Begun, LookedAtPause, LookedAtSlots, LookedAtHost, BroughtIn}
use Rattle.core_views.specs.declared.event.EventKind.TheVariants.{HostChanged, Taken, Harvested, Shown, Answered}
use Rattle.core_views.specs.declared.event.EventKind.TheVariants.{GuestStopped, WordCopied}
use Rattle.core_views.specs.declared.sizes.Sizes.{Sizes}
use Rattle.core_views.specs.SlotSets.{MemorySlots}
use Rattle.core_views.specs.declared.trace.Command.{Command}
use Rattle.core_views.specs.Past.{Past}
use Rattle.core_views.specs.Flat.{Facts, LineUnderWay, Stage, Idle}
use Rattle.core_views.specs.Flat.{HasTakenNext, HasToCopy}
use Rattle.core_views.specs.Events.{facts_after, logs_left, stage_copied, stage_read, stage_taken, to_read_or_copy, under_after}
use Rattle.core_views.specs.Lawful.{IsAllowed, MayHarvest, MayRead, may_look}
use Rattle.core_views.specs.LogCommands.{log_read}
use Rattle.core_views.specs.Alone.{IsInside}
use Rattle.core_views.proofs.RunStages.{each_change}

-- ---- it leaves it so

taken_busy : (read : Option ℕ) (left : List ℕ) (id : ℕ) → stage_taken read left id ≡ Idle → ⊥
taken_busy None left id idle = cc idle
taken_busy (Some other) left id idle = cc idle

left_busy : (ids : List ℕ) (f : Facts) → to_read_or_copy ids f ≡ Idle → ⊥
left_busy [] f idle = cc idle
left_busy (id ∷ ids) f idle = cc idle

read_busy : (stage : Stage) (frames : List ℕ) (f : Facts) → stage_read stage frames f ≡ Idle → ⊥
read_busy (HasTakenNext id ids) frames f idle = left_busy ids f idle
read_busy _ frames f idle = cc idle

copied_busy : (whole : Bool) (gfn : ℕ) (frames : List ℕ) (count word : ℕ) → stage_copied whole (HasToCopy (gfn ∷ frames) count word) ≡ Idle → ⊥
copied_busy true gfn frames count word idle = cc idle
copied_busy false gfn frames count word idle = cc idle

copies_busy : (whole : Bool) (stage other : Stage) → stage ≡ other → (stage_copied whole other ≡ Idle → ⊥) → stage_copied whole stage ≡ Idle → ⊥
copies_busy whole stage other is busy idle = busy (subst (λ (s : Stage). stage_copied whole s ≡ Idle) is idle)

pub is_busy : (z : Sizes) (f : Facts) (past : Past) (actor : Actor) (u : LineUnderWay) (kind : EventKind) → IsInside kind
    → IsAllowed z f past actor u kind → (u.stage ≡ Idle → ⊥) → (under_after kind f u).stage ≡ Idle → ⊥
is_busy z f past actor u (Begun line) within may was idle = absurd within
is_busy z f past actor u (Answered number answer) within may was idle = absurd within
is_busy z f past actor u LookedAtPause within may was idle = was idle
is_busy z f past actor u LookedAtSlots within may was idle = was idle
is_busy z f past actor u (LookedAtHost page) within may was idle = was idle
is_busy z f past actor u (BroughtIn page) within may was idle = was idle
is_busy z f past actor u (Taken id) within may was idle = taken_busy (log_read u.line.command) (logs_left f.slots u.line.command u.stage) id idle
is_busy z f past actor u (Harvested id frames) within may was idle = read_busy u.stage frames (facts_after (Harvested id frames) f) idle
is_busy z f past actor u GuestStopped within may was idle = left_busy _ _ idle
is_busy z f past actor u (WordCopied gfn page word value whole) within may was idle =
    copies_busy whole u.stage (HasToCopy (gfn ∷ may.frames) may.count word) may.left (copied_busy whole gfn may.frames may.count word) idle
is_busy z f past actor u (HostChanged page entry) within may was idle =
    each_change (λ s. s ≡ Idle → ⊥) (λ e at. cc at) (λ p l n at. cc at) u.line.command f.host u.stage page entry idle
is_busy z f past actor u _ within may was idle = cc idle

-- ---- it comes at no other time

reads_busy : (z : Sizes) (f : Facts) (past : Past) (u : LineUnderWay) (id : ℕ) (frames : List ℕ)
    → MayRead z f past u.line.command u.stage id frames true ⊎ MayHarvest f past u.line.command u.stage id frames → u.stage ≡ Idle → ⊥
reads_busy z f past u id frames (inl M) idle = let is = M.begun in cc (is, idle)
reads_busy z f past u id frames (inr M) idle = let is = M.begun in cc (is, idle)

-- An idle line has no log left to read.
left_idle : (slots : MemorySlots) (command : Command) (stage : Stage) (id : ℕ) (ids : List ℕ) → logs_left slots command stage ≡ id ∷ ids → stage ≡ Idle → ⊥
left_idle slots command Idle id ids left idle = cc left
left_idle slots command _ id ids left idle = cc idle

pub was_busy : (z : Sizes) (f : Facts) (past : Past) (actor : Actor) (u : LineUnderWay) (kind : EventKind) → IsInside kind
    → IsAllowed z f past actor u kind → u.stage ≡ Idle → ⊥
was_busy z f past actor u (Begun line) within may idle = absurd within
was_busy z f past actor u (Answered number answer) within may idle = absurd within
was_busy z f past actor u LookedAtPause within may idle = cc (may, idle)
was_busy z f past actor u LookedAtSlots within may idle = cc (may, idle)
was_busy z f past actor u (LookedAtHost page) within may idle = let not_ : may_look u.stage ≡ false = ap may_look idle in cc (may, not_)
was_busy z f past actor u (Taken id) within (inl may) idle = let is = may.0 in cc (is, idle)
was_busy z f past actor u (Taken id) within (inr may) idle = left_idle f.slots u.line.command u.stage id may.ids may.left idle
was_busy z f past actor u (Harvested id frames) within may idle = reads_busy z f past u id frames may idle
was_busy z f past actor u (Shown id frames) within may idle = let is = may.begun in cc (is, idle)
was_busy z f past actor u GuestStopped within may idle = cc (may, idle)
was_busy z f past actor u (WordCopied gfn page word value whole) within may idle = let is = may.left in cc (is, idle)
was_busy z f past actor u (HostChanged page entry) within (inl may) idle = let is = may.0 in cc (is, idle)
was_busy z f past actor u (HostChanged page entry) within (inr (inl may)) idle = let is = may.0 in cc (is, idle)
was_busy z f past actor u (HostChanged page entry) within (inr (inr may)) idle = let is = may.stands in cc (is, idle)
was_busy z f past actor u _ within may idle = let is = may.0 in cc (is, idle)
