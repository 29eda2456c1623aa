-- What a step of a part makes of the cached translations: only a walk fills them, and only an entry into the guest empties them.
use Rattle.std.proofs.Common.{◌≡◌, ◌≢◌, inl, inr, ℕ, refl, ap, ◌∙◌, arith}
use Rattle.std.specs.Prelude.{[], Bool, true, false, if◌then◌else◌}
use Rattle.circular_buffer.specs.Buffer.{buffer}
use Rattle.core_views.specs.declared.kind.Kind.{Kind}
use Rattle.core_views.specs.declared.place.AccessPlace.{AccessPlace}
use Rattle.core_views.specs.declared.place.AccessPlace.TheVariants.{Enter, Pause, Root, Walk, Touch, Leave, Fault}
use Rattle.core_views.specs.declared.place.Place.{Place}
use Rattle.core_views.specs.declared.place.Place.TheVariants as place
use Rattle.core_views.specs.declared.trace.Command.{Command}
use Rattle.core_views.specs.declared.trace.Command.TheVariants.{Access}
use Rattle.core_views.specs.declared.trace.Op.{Op}
use Rattle.core_views.specs.Held.{Held}
use Rattle.core_views.specs.Kinds.{code_of}
use Rattle.part_steps.specs.declared.part_step.PartStep.{PartStep}
use Rattle.part_steps.specs.declared.part_step.PartStep.TheVariants as part
use Rattle.mmu_core.specs.forms.access.AccessSteps.{access_caches, access_task}
use Rattle.mmu_core.specs.forms.access.Cached.{asks_flush, flushed}
use Rattle.mmu_core.specs.machine.Enabled.{Enabled, IsNext}
use Rattle.mmu_core.specs.machine.MayMake.{MayMake}
use Rattle.part_steps.specs.PartTasks.{own_index, part_kind, part_task}
use Rattle.mmu_core.specs.lines.Forms.{caches_at}
use Rattle.mmu_core.specs.machine.Steps.{has_line, line_at, next, next_by, place_at, task_at}
use Rattle.vcpu_tlb.specs.declared.guest.Entered.TheVariants.{In, Flushed}
use Rattle.vcpu_tlb.specs.Entering.{answer_to, cached_behind}

-- A line's step that is no walk fills nothing.
access_fills_none : (p : AccessPlace) (h : Held) (gfn word : ℕ) (op : Op) (v : ℕ) → code_of (access_task p h gfn word op).kind ≢ 3
    → access_caches p h gfn op v ≡ h.cached
access_fills_none (Enter again) h gfn word op v ne = refl
access_fills_none (Pause again) h gfn word op v ne = refl
access_fills_none (Root again) h gfn word op v ne = refl
access_fills_none (Walk again) h gfn word op v ne = absurd (ne refl)
access_fills_none Touch h gfn word op v ne = refl
access_fills_none (Leave how) h gfn word op v ne = refl
access_fills_none (Fault p) h gfn word op v ne = refl

fills_none : (p : Place) (c : Command) (h : Held) (v : ℕ) → code_of (task_at p c h).kind ≢ 3 → caches_at p c h v ≡ h.cached
fills_none (place.Access p) (Access gfn word op) h v ne = access_fills_none p h gfn word op v ne
fills_none _ _ h v ne = refl

-- A step of a part that is no walk leaves what is cached, but for a flush, whether a line makes it or none.
but_for_a_flush : (h : Held) (step : PartStep) (note v : ℕ) → MayMake step note h → code_of (part_task step (own_index h) h.topics note).kind ≢ 3
    → (next h (part_kind h step note) v).cached ≡ flushed (part_kind h step note) h.cached v
unfolding next Enabled
but_for_a_flush h step note v may ne = of_either may.enabled
  where
    k : Kind
    k = part_kind h step note

    with_line : IsNext h k → (b : Bool) → (next_by b h k v).cached ≡ flushed k h.cached v
    with_line is true =
        ap (λ c. flushed k c v) (fills_none (place_at h.state.place h) (line_at h.state.place h).command h v (λ e. ne (ap (λ (x : Kind). x.code) is.is ∙ e)))
    with_line is false = refl

    of_either : Enabled h k → (next_by (has_line h) h k v).cached ≡ flushed k h.cached v
    of_either (inl is) = with_line is (has_line h)
    of_either (inr p) = ap (λ b. (next_by b h k v).cached) p.none_left

-- what is cached after an entry into the guest
pub entered_cached : (h g : Held) (note v : ℕ) → MayMake part.Enter note h → g ≡ next h (part_kind h part.Enter note) v
    → g.cached ≡ cached_behind (answer_to v) h.cached
unfolding flushed
entered_cached h g note v may is =
    ap (λ (x : Held). x.cached) is ∙ but_for_a_flush h part.Enter note v may (λ e. absurd (omega (arith, e))) ∙ by (asks_flush v)
  where
    by : (b : Bool) → (if b then buffer [] h.cached.capacity else h.cached) ≡ cached_behind (if b then Flushed else In) h.cached
    by true = refl
    by false = refl

-- what is cached after a load of the pause, and after the way out of the guest
pub paused_cached : (h g : Held) (note v : ℕ) → MayMake part.Pause note h → g ≡ next h (part_kind h part.Pause note) v → g.cached ≡ h.cached
unfolding flushed
paused_cached h g note v may is = ap (λ (x : Held). x.cached) is ∙ but_for_a_flush h part.Pause note v may (λ e. absurd (omega (arith, e)))

pub left_cached : (h g : Held) (note v : ℕ) → MayMake part.Leave note h → g ≡ next h (part_kind h part.Leave note) v → g.cached ≡ h.cached
unfolding flushed
left_cached h g note v may is = ap (λ (x : Held). x.cached) is ∙ but_for_a_flush h part.Leave note v may (λ e. absurd (omega (arith, e)))
