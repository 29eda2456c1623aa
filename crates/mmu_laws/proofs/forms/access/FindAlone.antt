-- The search of a fault that runs alone: the slots that it has passed don't have the guest frame, and where it ends no slot has a page for
-- the access, or the slot that has it was found.
use Rattle.std.proofs.Common.{◌≡◌, ◌≢◌, ◌⊎◌, inl, inr, ◌+◌, ◌≤◌, ℕ, refl, sym, subst, ap, ◌∙◌, arith}
use Rattle.std.specs.Prelude.{Bool, true, false, ◌==◌, ◌&&◌, if◌then◌else◌, Option, Some, is_some}
use Rattle.std.proofs.lemmas.Bool.Decides.{nat_tests}
use Rattle.core_views.specs.declared.place.FaultEnd.TheVariants.{Mmio}
use Rattle.core_views.specs.declared.place.FaultPlace.TheVariants.{Find, Host, End}
use Rattle.core_views.specs.declared.place.SlotField.{SlotField}
use Rattle.core_views.specs.declared.place.SlotField.TheVariants as field
use Rattle.core_views.specs.declared.sizes.Sizes.{Sizes}
use Rattle.core_views.specs.declared.topics.SlotSearch.{SlotSearch}
use Rattle.core_views.specs.declared.topics.Topics.{Topics}
use Rattle.core_views.specs.declared.trace.Slot.{Slot}
use Rattle.core_views.specs.Held.{Held}
use Rattle.core_views.specs.Slots.{contains}
use Rattle.spte_words.specs.declared.area.Area.{Area}
use Rattle.spte_words.specs.declared.area.Area.TheVariants as area
use Rattle.spte_words.specs.Flags.{flags_live}
use Rattle.part_steps.specs.declared.part_step.PartStep.TheVariants as part
use Rattle.mmu_core.specs.machine.Enabled.{mmu}
use Rattle.mmu_core.specs.alone.FaultAlone.{FaultAlone, FaultRunsAlone}
use Rattle.mmu_core.specs.forms.access.FaultSteps.{find_next}
use Rattle.mmu_core.specs.machine.Machine.{World, hand_in}
use Rattle.part_steps.specs.PartTasks.{part_task, set_held}
use Rattle.part_steps.specs.PartTopics.{part_topics}
use Rattle.mmu_core.specs.invariant.SearchPart.{HasLoaded}
use Rattle.mmu_core.specs.invariant.SlotSetPart.{SlotSetPart}
use Rattle.part_steps.specs.SlotWords.{NoneBelow, NoneHasPage, live_at, slot_at, slot_index}
use Rattle.part_steps.specs.PageTopics.{searched, searched_at}
use Rattle.mmu_core.specs.machine.View.{answer_in, word_in}
use Rattle.mmu_core.proofs.machine.Columns.{same_or}

module _ (root set : ℕ) (pool host : ℕ → ℕ) (gfn : ℕ) (write : Bool) where
  -- A slot that doesn't have the guest frame is passed.
  no_more : (id : ℕ) → NoneBelow gfn pool set id → (live_at pool set id ≡ true → contains gfn (slot_at pool set id) ≡ false) → NoneBelow gfn pool set (id + 1)
  no_more id none here i lt live = by (same_or i id)
    where
      by : (i ≡ id) ⊎ (i ≢ id) → contains gfn (slot_at pool set i) ≡ false
      by (inl e) = subst (λ j. contains gfn (slot_at pool set j) ≡ false) (sym e) (here (subst (λ j. live_at pool set j ≡ true) e live))
      by (inr ne) = none i (omega arith) live

  -- After the last one no slot has it.
  none_has : (id : ℕ) → id ≡ 32 → NoneBelow gfn pool set id → NoneHasPage gfn write pool set
  none_has id last none i low live holds =
      let not_it : contains gfn (slot_at pool set i) ≡ false = none i (omega (arith, low, last)) live in absurd (cc (holds, not_it))

  -- The search goes on with this ID, or is over.
  goes_on : (id : ℕ) (t : Topics) → t.search.set ≡ Some set → t.search.id ≡ id → NoneBelow gfn pool set id
      → FaultAlone (if id == 32 then End Mmio else Find true) root set pool host gfn write t
  goes_on id t held is none = by (id == 32) refl
    where
      by : (last : Bool) → (id == 32) ≡ last → FaultAlone (if last then End Mmio else Find true) root set pool host gfn write t
      by true e = none_has id (grind (arith, nat_tests)) none
      by false e = λ _. (held, subst (NoneBelow gfn pool set) (sym is) none)

  -- The flags are loaded: a slot that isn't live is passed.
  flags_passed : (live : Bool) (id : ℕ) → live_at pool set id ≡ live → NoneBelow gfn pool set id → NoneBelow gfn pool set (if live then id else id + 1)
  flags_passed true id is none = none
  flags_passed false id is none = no_more id none (λ live. absurd (cc (is, live)))

  -- The slot is loaded whole: it has the guest frame, and forbids the access or not, or it is passed.
  whole_loaded : (z : Sizes) (role : ℕ → ℕ) (s : SlotSearch) (x : ℕ) (t : Topics) → SlotSetPart z set role pool → HasLoaded field.Host pool set s
      → s.id ≤ 31 → t.search.set ≡ Some set → t.search.id ≡ s.id + 1 → NoneBelow gfn pool set s.id
      → FaultAlone (find_next gfn write field.Host (searched_at field.Host s x)) root set pool host gfn write t
  whole_loaded z role s x t P loaded low held search none = by (contains gfn slot) (write && s.slot.read_only) refl refl
    where
      slot : Slot
      slot = record s.slot { host = x }

      same_frames : contains gfn slot ≡ contains gfn (slot_at pool set s.id)
      same_frames = rw (loaded.1, loaded.2) refl

      forbidden : contains gfn slot ≡ true → (write && s.slot.read_only) ≡ true → NoneHasPage gfn write pool set
      forbidden here denied i is_low live holds =
          let same : i ≡ s.id = P.slots.guest_apart gfn i s.id is_low low live loaded.0.0 holds (sym same_frames ∙ here) in
          ap (λ n. write && (slot_at pool set n).read_only) same ∙ ap (λ b. write && b) (sym loaded.0.1) ∙ denied

      by : (holds denied : Bool) → contains gfn slot ≡ holds → (write && s.slot.read_only) ≡ denied
          → FaultAlone (if holds then (if denied then End Mmio else Host) else (if s.id + 1 == 32 then End Mmio else Find true)) root set pool host gfn write t
      by true true holds denied = forbidden holds denied
      by true false holds denied = tt
      by false denied holds _ = goes_on (s.id + 1) t held search (no_more s.id none (λ live. sym same_frames ∙ holds))

  -- after each word of a slot
  pub find_alone : (f : SlotField) (z : Sizes) (role : ℕ → ℕ) (s : SlotSearch) (x : ℕ) (t : Topics) → SlotSetPart z set role pool
      → HasLoaded f pool set s → s.id ≤ 31
      → s.set ≡ Some set → x ≡ pool (slot_index set s.id f) → t.search ≡ searched_at f s x → NoneBelow gfn pool set s.id
      → FaultAlone (find_next gfn write f (searched_at f s x)) root set pool host gfn write t
  find_alone field.Flags z role s x t P loaded low held is search none =
      goes_on (if flags_live x then s.id else s.id + 1) t (ap (λ (r : SlotSearch). r.set) search ∙ held) (ap (λ (r : SlotSearch). r.id) search)
      (flags_passed (flags_live x) s.id (sym (ap flags_live is)) none)
  find_alone field.Host z role s x t P loaded low held is search none =
      whole_loaded z role s x t P loaded low (ap (λ (r : SlotSearch). r.set) search ∙ held) (ap (λ (r : SlotSearch). r.id) search) none
  find_alone _ z role s x t P loaded low held is search none =
      goes_on s.id t (ap (λ (r : SlotSearch). r.set) search ∙ held) (ap (λ (r : SlotSearch). r.id) search) none

-- the search's step in a sound world
pub find_goes : (z : Sizes) (w : World Held) (a gfn note : ℕ) (write : Bool) → FaultRunsAlone z w a (Find true) gfn write
    → FaultAlone
    (find_next gfn write (hand_in mmu w a).topics.search.next
    (searched (hand_in mmu w a).topics.search (answer_in (part_task part.Slot a (hand_in mmu w a).topics note) (word_in z w))))
    (word_in z w area.Root 0) (word_in z w area.Slots 0) (word_in z w area.Pool) (word_in z w area.Host) gfn write
    (part_topics part.Slot (hand_in mmu w a).topics (answer_in (part_task part.Slot a (hand_in mmu w a).topics note) (word_in z w)))
find_goes z w a gfn note write R =
    find_alone (words area.Root 0) (words area.Slots 0) (words area.Pool) (words area.Host) gfn write t.search.next z (words area.Role) t.search v
    (part_topics part.Slot t v) R.sound.holds.set_part
    ((R.sound.topics.searches a R.there).loaded (words area.Slots 0) K.0) (R.knows.1 refl).1 K.0
    (ap (λ (set : Option ℕ). words area.Pool (slot_index (set_held set) t.search.id t.search.next)) K.0)
    (ap (λ (set : Option ℕ). if is_some set then searched t.search v else t.search) K.0) K.1
  where
    t : Topics
    t = (hand_in mmu w a).topics

    words : Area → ℕ → ℕ
    words = word_in z w

    v : ℕ
    v = answer_in (part_task part.Slot a t note) words

    K : (t.search.set ≡ Some (words area.Slots 0)) × NoneBelow gfn (words area.Pool) (words area.Slots 0) t.search.id
    K = R.alone refl
