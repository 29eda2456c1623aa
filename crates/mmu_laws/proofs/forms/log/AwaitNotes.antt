-- The note of the look at a virtual processor, of a line that reads a dirty log and awaits the flush of each: it tells whether the line may end with this look.
use Rattle.std.proofs.Common.{◌≡◌, ◌⊎◌, inl, inr, ◌<◌, ◌≤◌, ℕ, refl, sym, subst, ap, ◌∙◌, arith}
use Rattle.std.specs.Prelude.{Bool, true, false, ◌+◌, ◌||◌, if◌then◌else◌, None}
use Rattle.std.proofs.lemmas.Bool.Decides.{nat_tests}
use Rattle.core_views.specs.declared.kind.Kind.{Kind}
use Rattle.core_views.specs.declared.place.LogPlace.{LogPlace}
use Rattle.core_views.specs.declared.place.LogPlace.TheVariants.{AtOnce, Await, Peek}
use Rattle.core_views.specs.declared.place.Place.{Place}
use Rattle.core_views.specs.declared.place.Place.TheVariants as place
use Rattle.core_views.specs.declared.trace.Command.{Command}
use Rattle.core_views.specs.Held.{Held}
use Rattle.spte_words.specs.declared.area.Area.TheVariants as area
use Rattle.spte_words.proofs.Places.{place_at as word_place_at}
use Rattle.part_steps.specs.declared.part_step.PartStep.TheVariants as part
use Rattle.part_steps.specs.ControlBits.{has_to_flush}
use Rattle.part_steps.specs.PartTasks.{own_index, part_task}
use Rattle.part_steps.specs.Tasks.{kind_of_task, map_of}
use Rattle.mmu_core.specs.declared.claim.FreeMap.{FreeMap}
use Rattle.mmu_core.specs.declared.claim.FreeMap.TheVariants.{Frames, Pages}
use Rattle.mmu_core.specs.declared.log_next.LogNext.TheVariants as next
use Rattle.mmu_core.specs.forms.access.AccessSteps.{ends_with}
use Rattle.mmu_core.specs.lines.Forms.{RestsAt, outcome_at}
use Rattle.mmu_core.specs.forms.log.LogOutcomes.{after_log}
use Rattle.mmu_core.specs.forms.log.LogSteps.{awaits_last}
use Rattle.mmu_core.specs.lines.ScanPlaces.{claim_at}
use Rattle.mmu_core.specs.machine.Steps.{task_at}
use Rattle.mmu_core.proofs.lines.Forms.{rests_for}
use Rattle.mmu_core.proofs.lines.LineClaims.{MayEnd}
use Rattle.mmu_laws.proofs.forms.log.ReadsNot.{reads_not}
use Rattle.mmu_laws.specs.steps.NoteLaws.{AwaitsLast, LoadsLastWord, NoteTells}

-- The line awaits a flush there.
abbrev pub IsAwait : Place → Type 0
IsAwait p = p ≡ place.Log Await

-- Such a line claims in no map.
pub awaits_without : (map : FreeMap) → claim_at map (place.Log Await) ≡ None
awaits_without Pages = refl
awaits_without Frames = refl

-- No other line may end with a step with which it waits.
log_may_end : (q : LogPlace) (command : Command) (h : Held) (v : ℕ) → MayEnd (place.Log q) command h v → place.Log q ≡ place.Log Await
log_may_end Await command h v M = refl
log_may_end (AtOnce refusal) command h v M = absurd (let waits = M.waits in cc waits)
log_may_end (Peek begun) command h v M = absurd (let waits = M.waits in cc waits)
log_may_end _ command h v M = absurd (let note = M.note in cc note)

pub may_end_awaits : (p : Place) (command : Command) (h : Held) (v : ℕ) → RestsAt p command h → MayEnd p command h v → IsAwait p
may_end_awaits (place.Log q) command h v R M = log_may_end q command h v M
may_end_awaits place.Between command h v R M = absurd (let note = M.note in cc note)
may_end_awaits p command h v R M =
    absurd (let none = reads_not p command h (rests_for p command h tt R) refl in let reads = M.reads in cc (none, reads))

pub awaits_or_not : (p : Place) → IsAwait p ⊎ (IsAwait p → ⊥)
awaits_or_not (place.Log Await) = inl refl
awaits_or_not (place.Log _) = inr (λ e. cc e)
awaits_or_not _ = inr (λ e. cc e)

module _ (command : Command) (h : Held) (v : ℕ) where
  abbrev look_at : ℕ → Kind
  look_at note = kind_of_task h.state.sizes (part_task (part.Await h.topics.flush.awaited) (own_index h) h.topics note)

  abbrev Looks : ℕ → Type 0
  Looks note = AwaitsLast (place.Log Await) h.state.sizes (look_at note)

  -- It looks at the last one exactly where none comes after it.
  looks_last : (note : ℕ) → h.state.sizes.vcpus ≤ h.topics.flush.awaited + 1 → Looks note
  looks_last note over =
      let word = word_place_at (map_of h.state.sizes) area.State h.topics.flush.awaited in
      let end = word_place_at (map_of h.state.sizes) area.State h.state.sizes.vcpus in
      record { at = refl; awaits = refl; last = omega (arith, over, word, end) }

  none_after : (note : ℕ) → Looks note → h.state.sizes.vcpus ≤ h.topics.flush.awaited + 1
  none_after note A =
      let last = A.last in
      let word = word_place_at (map_of h.state.sizes) area.State h.topics.flush.awaited in
      let end = word_place_at (map_of h.state.sizes) area.State h.state.sizes.vcpus in
      omega (arith, last, word, end)

  loads_none : (note : ℕ) → LoadsLastWord (place.Log Await) h.state.sizes (look_at note) → ⊥
  loads_none note L = let some = L.ends in let none = awaits_without L.map in cc (some, none)

  await_tells : NoteTells (place.Log Await) h.state.sizes (kind_of_task h.state.sizes (task_at (place.Log Await) command h))
      (outcome_at (place.Log Await) command h v) v
  await_tells = by (has_to_flush v) (awaits_last h) refl refl
    where
      over : awaits_last h ≡ true → h.state.sizes.vcpus ≤ h.topics.flush.awaited + 1
      over is = grind (arith, nat_tests)

      more : awaits_last h ≡ false → h.topics.flush.awaited + 1 < h.state.sizes.vcpus
      more is = grind (arith, nat_tests)

      by : (waits last : Bool) → has_to_flush v ≡ waits → awaits_last h ≡ last
          → NoteTells (place.Log Await) h.state.sizes (look_at (if awaits_last h then 1 else 0)) (outcome_at (place.Log Await) command h v) v
      by true true flush is = rw (flush, is) (record {
        tells = inr (inr (inl (looks_last 1 (over is))));
        last = λ L. absurd (loads_none 1 L);
        awaits = λ A. (refl, ap (λ (b : Bool). if b then 0 else 1) (sym flush));
        looks = λ L. let at = L.at in absurd (cc at);
      })
      by false true flush is = rw (flush, is) (record {
        tells = inl refl;
        last = λ L. absurd (loads_none 1 L);
        awaits = λ A. (refl, ap (λ (b : Bool). if b then 0 else 1) (sym flush));
        looks = λ L. let at = L.at in absurd (cc at);
      })
      by waits false flush is = rw is (record {
        tells = inl (goes (has_to_flush v));
        last = λ L. absurd (loads_none 0 L);
        awaits = λ A. absurd (let few = none_after 0 A in let less = more is in omega (arith, few, less));
        looks = λ L. let at = L.at in absurd (cc at);
      })
        where
          goes : (b : Bool) → 0 ≡ ends_with (after_log (if b || true then next.Goes Await else next.Reads) h.harvest)
          goes true = refl
          goes false = refl

pub each_await_tells : (p : Place) → IsAwait p → (command : Command) (h : Held) (v : ℕ)
    → NoteTells p h.state.sizes (kind_of_task h.state.sizes (task_at p command h)) (outcome_at p command h v) v
each_await_tells p is command h v =
    subst (λ q. NoteTells q h.state.sizes (kind_of_task h.state.sizes (task_at q command h)) (outcome_at q command h v) v) (sym is) (await_tells command h v)

-- So a place at which a line claims is none of those.
pub await_claims_none : (p : Place) → IsAwait p → (map : FreeMap) → claim_at map p ≡ None
await_claims_none p is map = ap (claim_at map) is ∙ awaits_without map
