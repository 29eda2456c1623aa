-- How a line comes to a place at which it has a scan of the map of what is free, and that it is answered for want of a page or a frame only there.
use Rattle.std.proofs.Common.{◌≡◌, ◌⊎◌, inl, inr, ◌<◌, ℕ, refl, subst, ap, ◌∙◌, ◌≤◌, sym}
use Rattle.std.specs.Prelude.{Bool, true, false, Option, Some, None}
use Rattle.core_views.specs.declared.kind.Kind.{Kind}
use Rattle.core_views.specs.declared.kind.StepKind.TheVariants as kind
use Rattle.core_views.specs.declared.place.Place.{Place}
use Rattle.core_views.specs.declared.place.Place.TheVariants as place
use Rattle.core_views.specs.declared.sizes.Sizes.{Sizes}
use Rattle.core_views.specs.declared.topics.Topics.{Topics}
use Rattle.core_views.specs.declared.trace.Command.{Command}
use Rattle.core_views.specs.Held.{Held}
use Rattle.core_views.specs.Kinds.{code_of}
use Rattle.core_views.specs.SlotSets.{MemorySlots}
use Rattle.core_views.specs.Sizes.{actors_of}
use Rattle.spte_words.specs.Areas.{place as place_of}
use Rattle.part_steps.specs.declared.task.Task.{Task}
use Rattle.mmu_core.specs.forms.access.AccessSteps.{task_by}
use Rattle.mmu_core.specs.machine.Enabled.{IsNext, mmu}
use Rattle.mmu_core.specs.invariant.Laws.{IsSound}
use Rattle.mmu_core.specs.machine.Machine.{May, Step, World, answered, effect, hand_in}
use Rattle.mmu_core.specs.lines.Forms.{RestsAt, outcome_at, KnowsPart, note_at, part_at}
use Rattle.mmu_core.specs.invariant.Scans.{LoadsMap}
use Rattle.mmu_core.specs.machine.Steps.{has_line, line_at, next, place_at, standing, task_at, task_of}
use Rattle.part_steps.specs.Tasks.{map_of, kind_of_task}
use Rattle.mmu_core.specs.machine.Outcomes.{place_after}
use Rattle.mmu_core.proofs.machine.LineRuns.{own_hand}
use Rattle.mmu_core.proofs.machine.Which.{is_next, next_of_line, next_of_part}
use Rattle.mmu_core.specs.declared.outcome.Outcome.TheVariants.{Ends}
use Rattle.part_steps.specs.TopicSteps.{topics_after}
use Rattle.part_steps.specs.declared.part_step.PartStep.{PartStep}
use Rattle.mmu_core.specs.lines.PartAt.{touch_at}
use Rattle.mmu_core.specs.declared.claim.FreeMap.{FreeMap}
use Rattle.mmu_core.specs.declared.claim.FreeMap.TheVariants.{Pages, Frames}
use Rattle.mmu_core.specs.orders.ClaimSteps.{claim_over, load_part, map_area, map_words}
use Rattle.mmu_core.specs.lines.ScanPlaces.{HasScan, answer_without}
use Rattle.mmu_core.proofs.lines.ClaimPlaces.{claims_or_not}
use Rattle.mmu_core.proofs.lines.Forms.{begins_without}
use Rattle.mmu_core.proofs.lines.LineClaims.{ComesToEnd, KeepsAt, keeps_scan, starves}
use Rattle.mmu_core.proofs.forms.access.FaultScans.{KeepsScan}
use Rattle.mmu_core.proofs.forms.access.FaultScans as scans
use Rattle.mmu_core.proofs.lines.KnowsKept.{knows_at}
use Rattle.mmu_core.specs.machine.View.{view}
use Rattle.mmu_laws.proofs.turns.TurnsNearer.{has_left}
use Rattle.mmu_core.proofs.lines.StepIn.{topics_of_step}

-- The step loads the first word of the map.
pub record LoadsFirst (map : FreeMap) (t : Task) : Type 0 where
  pub loads : t.kind ≡ kind.Control
  pub of_map : t.area ≡ map_area map
  pub first : t.index ≡ 0

-- A step that keeps a scan or begins one is of a line that has one, or loads the first word.
has_or_loads : (map : FreeMap) (p : Place) (s : Option PartStep) (h : Held) (note : ℕ) (touch : Task) → KeepsAt map p s
    → HasScan p map ⊎ LoadsFirst map (task_by s h note touch)
has_or_loads map p None h note touch has = inl has
has_or_loads map p (Some step) h note touch keeps = of_part step keeps
  where
    loads : (m : FreeMap) → LoadsFirst m (task_by (Some (load_part m 0)) h note touch)
    loads Pages = record { loads = refl; of_map = refl; first = refl }
    loads Frames = record { loads = refl; of_map = refl; first = refl }

    of_part : (step : PartStep) → KeepsScan map (HasScan p map) step → HasScan p map ⊎ LoadsFirst map (task_by (Some step) h note touch)
    of_part _ (scans.Keeps step has none) = inl has
    of_part _ scans.Begins = inr (loads map)

-- A line comes to such a place from another one, or with the first load of the map.
line_scans : (map : FreeMap) (p : Place) (command : Command) (h : Held) (v : ℕ) → RestsAt p command h → KnowsPart p command h
    → HasScan (place_after (outcome_at p command h v)) map → HasScan p map ⊎ LoadsFirst map (task_at p command h)
line_scans map p command h v R K S =
    has_or_loads map p (part_at p command h) h (note_at p command h) (touch_at command h) (keeps_scan p command h v (claims_or_not p command h v R) K map S)

standing_scans : (map : FreeMap) (p : Place) (z : Sizes) (slots : MemorySlots) (command : Command) → HasScan (standing p z slots command) map → HasScan p map
standing_scans map place.Between z slots command S = absurd (begins_without z slots command map S)
standing_scans map _ z slots command S = S

-- So the hand's line stands at such a place, or its step is the first load of the map.
pub stands_or_loads : (z : Sizes) (map : FreeMap) (s : Step Kind) (h : Held) → h.state.sizes ≡ z → IsNext h s.kind
    → HasScan (place_at h.state.place h) map ⊎ LoadsFirst map (task_of h) → HasScan h.state.place map ⊎ LoadsMap z map s.actor 0 s
stands_or_loads z map s h same N (inl here) = inl (standing_scans map h.state.place h.state.sizes h.slots (line_at h.state.place h).command here)
stands_or_loads z map s h same N (inr L) = inr (record {
  by_actor = refl;
  loads = ap (λ (k : Kind). k.code) N.is ∙ ap code_of L.loads;
  at =
      ap (λ (k : Kind). k.word) N.is ∙ ap (λ (y : Sizes). place_of (map_of y) (task_of h).area (task_of h).index) same
      ∙ ap (λ a. place_of (map_of z) a (task_of h).index) L.of_map
      ∙ ap (place_of (map_of z) (map_area map)) L.first;
})

-- Where the actor's line stands at such a place after its step, it did so before, or the step is the first load of the map.
pub own_scans : (z : Sizes) (map : FreeMap) (u : World Held) (s : Step Kind) → IsSound z u → May mmu u s
    → HasScan (hand_in mmu (effect mmu u s) s.actor).state.place map → HasScan (hand_in mmu u s.actor).state.place map ⊎ LoadsMap z map s.actor 0 s
own_scans z map u s G may scan = by (has_line h) refl
  where
    h : Held
    h = hand_in mmu u s.actor

    v : ℕ
    v = answered mmu u s.kind

    there : s.actor < actors_of z
    there = subst (λ n. s.actor < n) G.hands may.there

    after : HasScan (next h s.kind v).state.place map
    after = subst (λ (x : Held). HasScan x.state.place map) (own_hand u s may.there) scan

    of_line : has_line h ≡ true → IsNext h s.kind → HasScan h.state.place map ⊎ LoadsMap z map s.actor 0 s
    of_line has N =
        stands_or_loads z map s h (G.holds.lines s.actor there).sizes N
        (line_scans map (place_at h.state.place h) (line_at h.state.place h).command h v N.rests.at
        (knows_at z (view z u) s.actor G.holds there (has_left h has))
        (subst (λ (x : Held). HasScan x.state.place map) (next_of_line h s.kind v has) after))

    by : (b : Bool) → has_line h ≡ b → HasScan h.state.place map ⊎ LoadsMap z map s.actor 0 s
    by true has = of_line has (is_next h s.kind may.enabled has)
    by false none = inl (subst (λ (x : Held). HasScan x.state.place map) (next_of_part h s.kind v none) after)

-- ---- where a line is answered for want of a page or a frame

-- The line stands at such a place, or its step loads the first word; and after the step the claim has come past the last word.
pub record IsStarved (map : FreeMap) (p : Place) (t : Task) (h : Held) (v : ℕ) : Type 0 where
  pub scans : HasScan p map ⊎ LoadsFirst map t
  pub past :
      map_words map h.state.sizes ≤ (claim_over map (topics_after h.state.sizes (kind_of_task h.state.sizes t) h.topics v)).at

pub starved_by : (map : FreeMap) (p : Place) (command : Command) (h : Held) (v : ℕ) → outcome_at p command h v ≡ Ends (answer_without map)
    → KnowsPart p command h → RestsAt p command h → IsStarved map p (task_at p command h) h v
starved_by map p command h v e K R =
    let over : KeepsAt map p (part_at p command h) × ComesToEnd map (part_at p command h) h v =
    starves p command h v (claims_or_not p command h v R) K map e in
    record {
      scans = has_or_loads map p (part_at p command h) h (note_at p command h) (touch_at command h) over.0;
      past = subst (λ (t : Topics). map_words map h.state.sizes ≤ (claim_over map t).at) (sym (topics_of_step p command h v R)) over.1;
    }
