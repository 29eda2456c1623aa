-- The slot whose dirty log a line reads: the manager's record has it, and so the published set, with its log.
use Rattle.std.proofs.Common.{◌≡◌, ◌+◌, ◌<◌, ◌≤◌, ℕ, true, refl, sym, subst, ap, ◌∙◌}
use Rattle.std.specs.Option.{option_map}
use Rattle.std.specs.Prelude.{None, Option, Some}
use Rattle.core_views.specs.declared.actor.Actor.TheVariants.{Manager}
use Rattle.core_views.specs.declared.place.LogPlace.{LogPlace}
use Rattle.core_views.specs.declared.place.LogPlace.TheVariants.{AtOnce, Exclude, Take, Root, Walk, Protect, Release, Ask, Await, Peek}
use Rattle.core_views.specs.declared.sizes.Sizes.{Sizes}
use Rattle.core_views.specs.declared.memory_slot.MemorySlot.{MemorySlot}
use Rattle.core_views.specs.declared.trace.Command.{Command}
use Rattle.core_views.specs.declared.trace.Slot.{Slot as SlotOf}
use Rattle.core_views.specs.Harvests.{slot_at as slot_named, slot_read}
use Rattle.core_views.specs.Held.{Held}
use Rattle.core_views.specs.LogCommands.{count_asked, first_asked, log_read}
use Rattle.core_views.specs.Sizes.{actors_of}
use Rattle.core_views.specs.Slots.{contains}
use Rattle.core_views.specs.SlotSets.{slot_of_id}
use Rattle.spte_words.specs.declared.area.Area.TheVariants as area
use Rattle.part_steps.specs.SlotWords.{slot_at}
use Rattle.mmu_core.specs.invariant.Invariant.{Invariant, KnowsPart, OwnLines}
use Rattle.mmu_core.specs.forms.log.LogKnows.{LogKnows, Reads}
use Rattle.mmu_core.specs.forms.log.LogSteps.{slot_asked}
use Rattle.mmu_core.specs.forms.slot_change.SlotTargets.{slot_or_none}
use Rattle.mmu_core.specs.machine.View.{View}
use Rattle.mmu_core.proofs.forms.log.LogNeeds.{ReadsSlot, reads_slot}
use Rattle.mmu_core.proofs.lines.LinesKept.{one_manager}
use Rattle.mmu_core.proofs.machine.ColumnsTell.{some_is}
use Rattle.mmu_core.proofs.machine.Stepping.{line_allowed}
use Rattle.log_invariant.specs.forms.log.LogReads.{HasTakenOut, taken_of}
use Rattle.mmu_core.specs.forms.log.Readings.{has_begun}
use Rattle.mmu_core.proofs.forms.log.ReadingPlaces.{reading_is}
use Rattle.mmu_core.specs.forms.log.Readings.{Reading, own_reading}
use Rattle.log_invariant.proofs.HeldLogs.{IsLoggedNow}
use Rattle.log_invariant.proofs.PublishedLogs.{recorded_logged}
use Rattle.log_invariant.proofs.WordsApart.{live_aligned}
use Rattle.mmu_laws.proofs.forms.log.Readings.{IsWhole}

-- A line that has begun to read, or is to, isn't refused.
pub is_accepted : (p : LogPlace) (command : Command) (h : Held) → has_begun p ≡ true → LogKnows p command h → Reads command h
is_accepted (AtOnce refusal) command h begun K = absurd (cc begun)
is_accepted Exclude command h begun K = K.1.0
is_accepted (Take b) command h begun K = K.2.0
is_accepted Root command h begun K = K.2.0
is_accepted (Walk page) command h begun K = K.2.0
is_accepted (Protect page) command h begun K = K.2.0
is_accepted Release command h begun K = K.2.0
is_accepted Ask command h begun K = K.2.0
is_accepted Await command h begun K = K.2.0
is_accepted (Peek b) command h begun K = K.1

-- The slot is in the manager's record, and in the published set with its log; its words are whole words of the log.
pub record ReadsOf (v : View) (h : Held) (command : Command) : Type 0 where
  pub id : ℕ
  pub reads : log_read command ≡ Some id
  pub slot : MemorySlot
  pub there : slot_of_id id h.slots ≡ Some slot
  pub same : slot.slot ≡ slot_asked h command
  pub logged : IsLoggedNow v id (slot_asked h command)
  pub whole : IsWhole (slot_asked h command) command

pub reads_of : (z : Sizes) (v : View) (i : ℕ) (command : Command) → Invariant z v → i < actors_of z → (v.hand i).state.actor ≡ Manager
    → Reads command (v.hand i) → ReadsOf v (v.hand i) command
reads_of z v i command I lt manager K = record {
  id = named.0;
  reads = named.1;
  slot = S.slot;
  there = found;
  same = sym slot_is;
  logged = logged;
  whole = record {
    reads = K.reads;
    even = live_aligned z v i I lt manager named.0 (slot_asked h command) logged.live;
    whole = S.whole;
    inside = subst (λ (s : SlotOf). first_asked command + count_asked command (slot_asked h command) ≤ s.pages) (sym slot_is) S.inside;
  };
}
  where
    h : Held
    h = v.hand i

    S : ReadsSlot (slot_read h.slots command) (first_asked command) (count_asked command (slot_asked h command))
    S = reads_slot command h K

    slot_is : slot_asked h command ≡ S.slot.slot
    slot_is = ap (λ (o : Option MemorySlot). slot_or_none (option_map (λ m. m.slot) o)) S.is

    named : (id : ℕ) × (log_read command ≡ Some id)
    named = some_is (log_read command) K.reads

    found : slot_of_id named.0 h.slots ≡ Some S.slot
    found = sym (ap (slot_named h.slots) named.1) ∙ S.is

    logged : IsLoggedNow v named.0 (slot_asked h command)
    logged =
        subst (λ s. IsLoggedNow v named.0 s) (sym slot_is)
        (recorded_logged (v.words area.Pool) (v.words area.Slots 0) named.0 h.slots S.slot.slot (I.recorded i lt manager)
        (found ∙ (λ t. Some (record { slot = S.slot.slot; logged = S.logged t }))))

-- A published slot with a log that has one of its frames is this slot.
pub one_slot : (z : Sizes) (v : View) (gfn id other : ℕ) (slot one : SlotOf) → Invariant z v → IsLoggedNow v id slot → IsLoggedNow v other one
    → contains gfn slot ≡ true → contains gfn one ≡ true → one ≡ slot
one_slot z v gfn id other slot one I L M has too =
    let same : other ≡ id =
    I.set_part.slots.guest_apart gfn other id M.live.low L.live.low M.live.live L.live.live (ap (contains gfn) M.live.is ∙ too)
    (ap (contains gfn) L.live.is ∙ has) in
    sym M.live.is ∙ ap (slot_at (v.words area.Pool) (v.words area.Slots 0)) same ∙ L.live.is

-- ---- who reads

-- A hand whose line has a reading under way is the manager's.
pub reading_manager : (z : Sizes) (i : ℕ) (h : Held) (r : Reading) → OwnLines z i h → KnowsPart h.state.place h.state.line.command h → own_reading h ≡ Some r
    → h.state.actor ≡ Manager
reading_manager z i h r O K is =
    let there = reading_is h.state.place h.state.line.command h r is in
    there.managers z h.state.actor K (line_allowed z i h h.state.place O refl there.under)

-- So one that has taken a frame is the manager's.
taken_manager : (z : Sizes) (v : View) (i gfn : ℕ) → Invariant z v → i < actors_of z → HasTakenOut (v.hand i) gfn → (v.hand i).state.actor ≡ Manager
taken_manager z v i gfn I lt = by (own_reading (v.hand i)) refl
  where
    by : (o : Option Reading) → own_reading (v.hand i) ≡ o → (taken_of o (v.hand i)).Has gfn → (v.hand i).state.actor ≡ Manager
    by None is T = absurd T
    by (Some r) is T = reading_manager z i (v.hand i) r (I.lines i lt) (I.knows i lt) is

pub taken_is : (z : Sizes) (v : View) (a i gfn : ℕ) → Invariant z v → a < actors_of z → (v.hand a).state.actor ≡ Manager → i < actors_of z
    → HasTakenOut (v.hand i) gfn → i ≡ a
taken_is z v a i gfn I there manager lt T =
    one_manager z i a (v.hand i) (v.hand a) (I.lines i lt) (I.lines a there) (taken_manager z v i gfn I lt T) manager
