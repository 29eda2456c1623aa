-- The kind of a line's step tells when it waits.
use Rattle.std.proofs.Common.{◌≡◌, ◌<◌, ℕ, refl, sym, subst, ap, ◌∙◌, length}
use Rattle.std.specs.Prelude.{Bool, true, false, Option, Some, None, if◌then◌else◌}
use Rattle.core_views.specs.declared.progress.Seen.{Seen}
use Rattle.core_views.specs.declared.kind.Kind.{Kind}
use Rattle.core_views.specs.declared.kind.StepKind.{StepKind}
use Rattle.core_views.specs.declared.place.Place.{Place}
use Rattle.core_views.specs.declared.sizes.Sizes.{Sizes}
use Rattle.core_views.specs.declared.topics.Hold.{Hold}
use Rattle.core_views.specs.declared.topics.Hold.TheVariants.{Owing}
use Rattle.core_views.specs.declared.trace.Command.{Command}
use Rattle.core_views.specs.declared.trace.Command.TheVariants.{Access}
use Rattle.core_views.specs.declared.trace.Op.{Op}
use Rattle.core_views.specs.declared.trace.Op.TheVariants.{Read}
use Rattle.core_views.specs.Held.{Held}
use Rattle.core_views.specs.Kinds.{kind_named}
use Rattle.spte_words.specs.declared.area.Area.TheVariants as area
use Rattle.spte_words.specs.Areas.{place}
use Rattle.part_steps.specs.declared.part_step.PartStep.{PartStep}
use Rattle.part_steps.specs.declared.part_step.PartStep.TheVariants as part
use Rattle.part_steps.specs.declared.task.Task.{Task}
use Rattle.part_steps.specs.PartSteps.{PartNeeds}
use Rattle.part_steps.specs.PartTasks.{own_index, part_kind, part_task}
use Rattle.part_steps.specs.Tasks.{kind_of_task, map_of}
use Rattle.mmu_core.specs.forms.access.AccessSteps.{task_by, touch_of}
use Rattle.mmu_core.specs.lines.Delays.{waits_by}
use Rattle.mmu_core.specs.lines.Forms.{note_at, part_at}
use Rattle.mmu_core.specs.lines.PartAt.{touch_at}
use Rattle.mmu_core.specs.lines.PartWaits.{is_owing, part_seen, part_waits, saw_open, word_owed}
use Rattle.mmu_core.specs.machine.Enabled.{Enabled, IsNext}
use Rattle.mmu_core.specs.machine.Steps.{place_at, task_of}
use Rattle.mmu_core.specs.machine.Turns.{line_of}
use Rattle.mmu_core.proofs.lines.ByStep.{Makes, StepAt, Touches, step_at}
use Rattle.mmu_core.proofs.machine.Views.{named_is}
use Rattle.mmu_core.proofs.machine.Which.{has_line_is, is_next}
use Rattle.mmu_steps.specs.declared.waits.Waiting.{Waiting}
use Rattle.mmu_steps.specs.declared.waits.Waiting.TheVariants.{Always, Never}
use Rattle.mmu_steps.specs.Waits.{HasTried, WaitsAsLine, seen_by, seen_in, unshares, waiting_at, waits}

-- ---- a step of a part

unshare_waits : (hold : Hold) (z : Sizes) (v : ℕ) → waits (unshares hold z) v ≡ is_owing hold
unshare_waits (Owing word) z v = refl
unshare_waits _ z v = refl

release_waits : (b : Bool) (seen : Seen) (v : ℕ) → waits (if b then Always seen else Never) v ≡ b
release_waits true seen v = refl
release_waits false seen v = refl

step_waits : (step : PartStep) (h : Held) (note v : ℕ)
    → waits (waiting_at (part_task step (own_index h) h.topics note).kind h) v ≡ part_waits step h.topics v
step_waits part.Unshare h note v = unshare_waits h.topics.hold h.state.sizes v
step_waits part.Release h note v = release_waits (saw_open h.topics.invalidations) _ v
step_waits part.Claim h note v = refl
step_waits _ h note v = refl

unshare_seen : (hold : Hold) (z : Sizes) (k : Kind) (v : ℕ) → waits (unshares hold z) v ≡ true
    → seen_in (unshares hold z) k v ≡ record { word = place (map_of z) area.Lock 0; value = word_owed hold }
unshare_seen (Owing word) z k v waiting = refl
unshare_seen _ z k v waiting = absurd (cc waiting)

release_seen : (b : Bool) (seen : Seen) (k : Kind) (v : ℕ) → waits (if b then Always seen else Never) v ≡ true
    → seen_in (if b then Always seen else Never) k v ≡ seen
release_seen true seen k v waiting = refl
release_seen false seen k v waiting = absurd (cc waiting)

step_seen : (step : PartStep) (h : Held) (note v : ℕ) → waits (waiting_at (part_task step (own_index h) h.topics note).kind h) v ≡ true
    → seen_in (waiting_at (part_task step (own_index h) h.topics note).kind h) (part_kind h step note) v ≡ part_seen step h v
step_seen part.Unshare h note v waiting = unshare_seen h.topics.hold h.state.sizes _ v waiting
step_seen part.Release h note v waiting = release_seen (saw_open h.topics.invalidations) _ _ v waiting
step_seen part.Claim h note v waiting = refl
step_seen part.Frame h note v waiting = refl
step_seen part.Exclude h note v waiting = refl
step_seen (part.Watch index) h note v waiting = refl
step_seen (part.Await index) h note v waiting = refl
step_seen _ h note v waiting = absurd (cc waiting)

unshare_tried : (hold : Hold) (z : Sizes) → HasTried (unshares hold z)
unshare_tried (Owing word) z = tt
unshare_tried _ z = tt

release_tried : (b : Bool) (seen : Seen) → HasTried (if b then Always seen else Never)
release_tried true seen = tt
release_tried false seen = tt

step_tried : (step : PartStep) (h : Held) (note : ℕ) → PartNeeds step h → HasTried (waiting_at (part_task step (own_index h) h.topics note).kind h)
step_tried part.Unshare h note N = unshare_tried h.topics.hold h.state.sizes
step_tried part.Release h note N = release_tried (saw_open h.topics.invalidations) _
step_tried part.Claim h note N = N.1
step_tried part.Frame h note N = N.1
step_tried _ h note N = tt

-- ---- the touch of a content word, which never waits

op_waits : (op : Op) (index : ℕ) (h : Held) (v : ℕ) → waits (waiting_at (touch_of op index).kind h) v ≡ false
op_waits Read index h v = refl
op_waits _ index h v = refl

touch_waits : (c : Command) (h : Held) (v : ℕ) → waits (waiting_at (touch_at c h).kind h) v ≡ false
touch_waits (Access gfn word op) h v = op_waits op _ h v
touch_waits _ h v = refl

op_tried : (op : Op) (index : ℕ) (h : Held) → HasTried (waiting_at (touch_of op index).kind h)
op_tried Read index h = tt
op_tried _ index h = tt

-- ---- the step of a line

task_waits : (step : Option PartStep) (c : Command) (h : Held) (note v : ℕ)
    → waits (waiting_at (task_by step h note (touch_at c h)).kind h) v ≡ waits_by step h.topics v
task_waits None c h note v = touch_waits c h v
task_waits (Some step) c h note v = step_waits step h note v

task_seen : (step : Option PartStep) (c : Command) (h : Held) (note v : ℕ) → waits (waiting_at (task_by step h note (touch_at c h)).kind h) v ≡ true
    → seen_in (waiting_at (task_by step h note (touch_at c h)).kind h) (kind_of_task h.state.sizes (task_by step h note (touch_at c h))) v ≡ seen_by step h v
task_seen None c h note v waiting = let free = touch_waits c h v in absurd (cc (free, waiting))
task_seen (Some step) c h note v waiting = step_seen step h note v waiting

task_tried : (c : Command) (h : Held) (t : Task) → StepAt c h t → HasTried (waiting_at t.kind h)
task_tried c h _ (Makes step note N) = step_tried step h note N
task_tried c h _ (Touches gfn word op is N) = op_tried op _ h

module _ (h : Held) (k : Kind) (left : length h.answers < length h.lines) (enabled : Enabled h k) where
  next : IsNext h k
  next = is_next h k enabled (has_line_is h left)

  named : kind_named k.code ≡ (task_of h).kind
  named = ap (λ (x : Kind). kind_named x.code) next.is ∙ named_is (task_of h).kind

  abbrev c : Command
  c = (line_of h).command

  abbrev p : Place
  p = place_at h.state.place h

  abbrev here : Waiting
  here = waiting_at (task_of h).kind h

  pub has_tried : (w : Waiting) → w ≡ waiting_at (kind_named k.code) h → HasTried w
  has_tried w is = subst HasTried (sym (is ∙ ap (λ (x : StepKind). waiting_at x h) named)) (task_tried c h (task_of h) (step_at p c h next.rests.at))

  pub waits_as_line : (w : Waiting) → w ≡ waiting_at (kind_named k.code) h → WaitsAsLine w k h
  waits_as_line w is =
      let same : w ≡ here = is ∙ ap (λ (x : StepKind). waiting_at x h) named in
      record {
        waits_as = λ v. ap (λ (x : Waiting). waits x v) same ∙ task_waits (part_at p c h) c h (note_at p c h) v;
        seen_as = λ v waiting.
            ap (λ (x : Waiting). seen_in x k v) same ∙ ap (λ (x : Kind). seen_in here x v) next.is
            ∙ task_seen (part_at p c h) c h (note_at p c h) v (ap (λ (x : Waiting). waits x v) (sym same) ∙ waiting);
      }
