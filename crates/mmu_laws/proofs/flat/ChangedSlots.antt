-- A change of a slot, for the dirty logs of flat memory: what is armed, dirty and caused in other slots stays so, and a log begins with each page dirty or
-- none.
use Rattle.std.proofs.Common.{◌≡◌, ◌≢◌, ◌⊎◌, inl, inr, ◌<◌, [], ◌∷◌, ℕ, refl, sym, subst, ap, ◌∙◌}
use Rattle.std.proofs.lemmas.Bool.{and_from, and_parts, cond-true, eq-eqb, eqb-true, not-true, not_from_false, or_cases, or_left, or_parts, or_right}
use Rattle.std.specs.Option.{option_map}
use Rattle.std.specs.Prelude.{Bool, true, false, not, ◌==◌, ◌||◌, ◌&&◌, if◌then◌else◌, Option, Some, None}
use Rattle.core_views.specs.declared.actor.Actor.{Actor}
use Rattle.core_views.specs.declared.event.EventKind.TheVariants.{Armed, SlotChanged}
use Rattle.core_views.specs.declared.sizes.Sizes.{Sizes}
use Rattle.core_views.specs.declared.memory_slot.MemorySlot.{MemorySlot}
use Rattle.core_views.specs.declared.trace.Command.{Command}
use Rattle.core_views.specs.declared.trace.Command.TheVariants.{Access, ChangeHost, ChangeRun, ClearLog, DeleteSlot, GetLog, Migrate, SetLog, SetSlot, Split}
use Rattle.core_views.specs.declared.trace.Slot.{Slot as SlotOf}
use Rattle.core_views.specs.Events.{after}
use Rattle.core_views.specs.Flat.{Flat}
use Rattle.core_views.specs.Held.{Held}
use Rattle.core_views.specs.Past.{has_gfn}
use Rattle.core_views.specs.Refusals.{is_logged}
use Rattle.core_views.specs.SlotCommands.{after_change, arms, change_at_once, changes_slot, slot_armed, slot_change, slots_after}
use Rattle.core_views.specs.Slots.{contains, is_some_and}
use Rattle.core_views.specs.SlotSets.{MemorySlots, changed_slots, slot_of_id}
use Rattle.core_views.proofs.UnloggedSlots.{set_anew}
use Rattle.core_views.proofs.SlotLines.{log_elsewhere, log_here, logged_so, set_here, taken_at}
use Rattle.flat_laws.specs.Writes.{IsOutside}
use Rattle.flat_laws.proofs.Written.{armed_there, causes_keep}
use Rattle.part_steps.specs.SlotWords.{page_of}
use Rattle.mmu_core.specs.invariant.Invariant.{RecordPart}
use Rattle.mmu_core.specs.invariant.SlotSetPart.{AreSlots, IsLiveIn}
use Rattle.mmu_core.specs.forms.slot_change.SlotChangeTells.{arming}
use Rattle.mmu_core.proofs.machine.Columns.{same_or}
use Rattle.mmu_core.proofs.slots.SetFilled.{recorded_live, set_other, taken_other}
use Rattle.log_invariant.specs.Covered.{IsCovered, IsLoggedIn, is_marked}
use Rattle.log_invariant.proofs.LogRecords.{with_log}
use Rattle.log_invariant.proofs.PublishedLogs.{log_begun, logged_recorded, recorded_logged}
use Rattle.mmu_laws.specs.flat.FlatLogs.{FlatLogsOf, IsArmedIn, IsBeginning, IsCoveredOrTaken, IsDirtyIn}

-- ---- what a line changes

-- One slot of the record changes, at this ID. It has a dirty log then only where the line begins it.
pub record ChangeOf (slots : MemorySlots) (command : Command) : Type 0 where
  pub id : ℕ
  pub slot : Option MemorySlot
  pub is : slot_change slots command ≡ Some (id, slot)
  pub here : slot_of_id id (slots_after command slots) ≡ slot
  pub others : (i : ℕ) → i ≢ id → slot_of_id i (slots_after command slots) ≡ slot_of_id i slots
  pub begins : (s : SlotOf) → slot ≡ Some (with_log true s) → slot_armed slots command ≡ Some s
  pub begun : (s : SlotOf) → slot_armed slots command ≡ Some s → slot ≡ Some (with_log true s)
  pub tells : arming true command ≡ (if arms command then Armed id true ∷ [] else [])

log_of : (o : Option MemorySlot) (s : SlotOf) → o ≡ Some (with_log true s) → is_some_and (λ (m : MemorySlot). m.logged) o ≡ true
log_of o s e = ap (is_some_and (λ (m : MemorySlot). m.logged)) e

now_logged : (was : Option MemorySlot) (s : SlotOf) → option_map (λ (m : MemorySlot). m.slot) was ≡ Some s → logged_so true was ≡ Some (with_log true s)
now_logged None s e = absurd (cc e)
now_logged (Some was) s e = ap (option_map (with_log true)) e

-- So it is of a line that has something to do.
pub change_of : (z : Sizes) (command : Command) (slots : MemorySlots) → changes_slot command ≡ true → change_at_once z command slots ≡ None
    → ChangeOf slots command
change_of z (SetSlot id new_) slots changes works = record {
  id = id;
  slot = Some (record { slot = new_; logged = is_logged id slots });
  is = refl;
  here = set_here id (record { slot = new_; logged = is_logged id slots }) slots;
  others = set_other id new_ slots;
  begins = λ s e. absurd (let none = set_anew z id new_ slots works in let has = log_of _ s e in cc (none, has));
  begun = λ s e. absurd (cc e);
  tells = refl;
}
change_of z (DeleteSlot id) slots changes works = record {
  id = id;
  slot = None;
  is = refl;
  here = taken_at id id slots ∙ cond-true (id == id) None (slot_of_id id slots) (eq-eqb id id refl);
  others = taken_other id slots;
  begins = λ s e. absurd (cc e);
  begun = λ s e. absurd (cc e);
  tells = refl;
}
change_of z (SetLog id true) slots changes works = record {
  id = id;
  slot = logged_so true (slot_of_id id slots);
  is = refl;
  here = log_here id true slots;
  others = λ i apart. log_elsewhere id i true slots apart;
  begins = λ s e. log_begun id true slots s (log_here id true slots ∙ e);
  begun = λ s e. now_logged (slot_of_id id slots) s e;
  tells = refl;
}
change_of z (SetLog id false) slots changes works = record {
  id = id;
  slot = logged_so false (slot_of_id id slots);
  is = refl;
  here = log_here id false slots;
  others = λ i apart. log_elsewhere id i false slots apart;
  begins = λ s e. log_begun id false slots s (log_here id false slots ∙ e);
  begun = λ s e. absurd (cc e);
  tells = refl;
}
change_of z (Access gfn word op) slots changes works = absurd (cc changes)
change_of z (ChangeHost page change) slots changes works = absurd (cc changes)
change_of z (ChangeRun page change) slots changes works = absurd (cc changes)
change_of z (GetLog id) slots changes works = absurd (cc changes)
change_of z (Migrate call) slots changes works = absurd (cc changes)
change_of z (Split gfn) slots changes works = absurd (cc changes)
change_of z (ClearLog id first count words) slots changes works = absurd (cc changes)

-- ---- what the change leaves

-- No guest frame is in two slots of a set.
one_holds : (z : Sizes) (pool : ℕ → ℕ) (set gfn i j : ℕ) (s t : SlotOf) → AreSlots z pool set → IsLiveIn pool set i s → IsLiveIn pool set j t
    → contains gfn s ≡ true → contains gfn t ≡ true → i ≡ j
one_holds z pool set gfn i j s t A L M has too =
    A.guest_apart gfn i j L.low M.low L.live M.live (ap (contains gfn) L.is ∙ has) (ap (contains gfn) M.is ∙ too)

-- A hand's line that is to begin a log after the change was so before, or the change is the one that begins it.
abbrev pub BeginsThen : (ℕ → Held) → MemorySlots → Command → ℕ → ℕ → Type 0
BeginsThen hand slots command j gfn = IsBeginning (hand j) gfn ⊎ ((s : SlotOf) × (slot_armed slots command ≡ Some s) × (contains gfn s ≡ true))

module _ (z : Sizes) (n : ℕ) (log pool : ℕ → ℕ) (set page : ℕ) (hand behind : ℕ → Held) (f : Flat) (actor : Actor) (command : Command) (slots : MemorySlots)
    (C : ChangeOf slots command) (same : f.facts.slots ≡ slots) (R : RecordPart pool set slots) (N : RecordPart pool page (slots_after command slots))
    (A : AreSlots z pool set) (B : AreSlots z pool page) (L : FlatLogsOf n log pool set hand f)
    (begins : (j gfn : ℕ) → j < n → IsBeginning (behind j) gfn → BeginsThen hand slots command j gfn)
    (covers : (gfn i : ℕ) (slot : SlotOf) → IsLoggedIn pool set i slot → contains gfn slot ≡ true → IsCoveredOrTaken n log hand slot gfn
    → IsCoveredOrTaken n log behind slot gfn) where
  -- flat memory after the change
  abbrev g : Flat
  g = after (record { actor = actor; kind = SlotChanged C.id C.slot }) f

  still_logged : (i : ℕ) (slot : SlotOf) → i ≢ C.id → IsLoggedIn pool set i slot → IsLoggedIn pool page i slot
  still_logged i slot apart M =
      recorded_logged pool page i (slots_after command slots) slot N (C.others i apart ∙ logged_recorded pool set i slots slot R M)

  was_logged : (i : ℕ) (slot : SlotOf) → i ≢ C.id → IsLoggedIn pool page i slot → IsLoggedIn pool set i slot
  was_logged i slot apart M =
      recorded_logged pool set i slots slot R (sym (C.others i apart) ∙ logged_recorded pool page i (slots_after command slots) slot N M)

  -- A guest frame of another slot is in none that changes.
  outside : (i gfn : ℕ) (slot : SlotOf) → i ≢ C.id → IsLoggedIn pool set i slot → contains gfn slot ≡ true
      → IsOutside gfn (slot_of_id C.id f.facts.slots) × IsOutside gfn C.slot
  outside i gfn slot apart M has = (before (slot_of_id C.id f.facts.slots) refl, behind_it C.slot refl)
    where
      none : (b : Bool) → (b ≡ true → ⊥) → b ≡ false
      none true not_so = absurd (not_so refl)
      none false not_so = refl

      before : (o : Option MemorySlot) → slot_of_id C.id f.facts.slots ≡ o → IsOutside gfn o
      before None is = tt
      before (Some m) is =
          none (contains gfn m.slot) (λ too. apart (one_holds z pool set gfn i C.id slot m.slot A M.live
          (recorded_live pool set C.id slots m R (ap (slot_of_id C.id) (sym same) ∙ is)) has too))

      behind_it : (o : Option MemorySlot) → C.slot ≡ o → IsOutside gfn o
      behind_it None is = tt
      behind_it (Some m) is =
          none (contains gfn m.slot) (λ too. apart (one_holds z pool page gfn i C.id slot m.slot B (still_logged i slot apart M).live
          (recorded_live pool page C.id (slots_after command slots) m N (C.here ∙ is)) has too))

  -- What is armed is another slot, and so is the one of each dirty frame.
  armed_on : (i : ℕ) → g.facts.armed i ≡ true → IsArmedIn n pool page behind i
  armed_on i on = record {
    slot = M.slot;
    logged = still_logged i M.slot apart M.logged;
    begun = λ j gfn lt has so. by gfn has j lt (begins j gfn lt so);
  }
    where
      parts : (not (C.id == i) ≡ true) × (f.facts.armed i ≡ true)
      parts = and_parts (not (C.id == i)) (f.facts.armed i) on

      apart : i ≢ C.id
      apart e = let other = not-true (C.id == i) parts.0 in let one = eq-eqb C.id i (sym e) in cc (other, one)

      M : IsArmedIn n pool set hand i
      M = L.armed i parts.1

      by : (gfn : ℕ) → contains gfn M.slot ≡ true → (j : ℕ) → j < n → BeginsThen hand slots command j gfn → ⊥
      by gfn has j lt (inl was) = M.begun j gfn lt has was
      by gfn has j lt (inr (s, is, too)) =
          let out = subst (IsOutside gfn) (C.begun s is) (outside i gfn M.slot apart M.logged has).1 in cc (out, too)

  dirty_on : (gfn : ℕ) → g.facts.pending gfn ≡ true → IsDirtyIn n log pool page behind g.facts.armed gfn
  dirty_on gfn is = record {
    id = D.id;
    slot = D.slot;
    is_armed = and_from (not (C.id == D.id)) (f.facts.armed D.id) (not_from_false (C.id == D.id) (differ (C.id == D.id) refl)) D.is_armed;
    logged = still_logged D.id D.slot apart D.logged;
    has = D.has;
    covered = covers gfn D.id D.slot D.logged D.has D.covered;
  }
    where
      was : Option MemorySlot
      was = slot_of_id C.id f.facts.slots

      parts : (not (has_gfn was gfn || has_gfn C.slot gfn) ≡ true) × (f.facts.pending gfn ≡ true)
      parts = and_parts (not (has_gfn was gfn || has_gfn C.slot gfn)) (f.facts.pending gfn) is

      D : IsDirtyIn n log pool set hand f.facts.armed gfn
      D = L.dirty gfn parts.1

      apart : D.id ≢ C.id
      apart e =
          let there = ap (slot_of_id C.id) same ∙ ap (λ k. slot_of_id k slots) (sym e) ∙ logged_recorded pool set D.id slots D.slot R D.logged in
          let has : has_gfn was gfn ≡ true = ap (λ (o : Option MemorySlot). has_gfn o gfn) there ∙ D.has in
          let none = (or_parts (has_gfn was gfn) (has_gfn C.slot gfn) (not-true (has_gfn was gfn || has_gfn C.slot gfn) parts.0)).0 in
          cc (has, none)

      differ : (b : Bool) → (C.id == D.id) ≡ b → b ≡ false
      differ true one = absurd (apart (sym (eqb-true C.id D.id one)))
      differ false other = refl

  caused_on : (gfn i : ℕ) (slot : SlotOf) → i ≢ C.id → IsLoggedIn pool page i slot → contains gfn slot ≡ true → is_marked log (page_of slot gfn) ≡ true
      → g.past.causes gfn ≡ true
  caused_on gfn i slot apart M has marked =
      let W = was_logged i slot apart M in
      causes_keep actor (SlotChanged C.id C.slot) f.facts f.past gfn (outside i gfn slot apart W has) tt (L.caused gfn i slot W has marked)

  -- ---- after the change

  -- Where no bit of the slot that changes is set, it is all.
  pub changed_logs : ((gfn : ℕ) (slot : SlotOf) → IsLoggedIn pool page C.id slot → contains gfn slot ≡ true → is_marked log (page_of slot gfn) ≡ true → ⊥)
      → FlatLogsOf n log pool page behind g
  changed_logs none =
      record { armed = armed_on; dirty = dirty_on; caused = λ gfn i slot M has marked. by gfn i slot M has marked (same_or i C.id) }
    where
      by : (gfn i : ℕ) (slot : SlotOf) → IsLoggedIn pool page i slot → contains gfn slot ≡ true → is_marked log (page_of slot gfn) ≡ true
          → (i ≡ C.id) ⊎ (i ≢ C.id) → g.past.causes gfn ≡ true
      by gfn i slot M has marked (inl e) = absurd (none gfn slot (subst (λ k. IsLoggedIn pool page k slot) e M) has marked)
      by gfn i slot M has marked (inr apart) = caused_on gfn i slot apart M has marked

  -- Where its log begins with each page dirty, these are covered.
  pub set_logs : (T : IsArmedIn n pool page behind C.id)
      → ((gfn : ℕ) → contains gfn T.slot ≡ true → IsCovered n log (λ k. (behind k).topics) T.slot gfn)
      → FlatLogsOf n log pool page behind (after (record { actor = actor; kind = Armed C.id true }) g)
  set_logs T covered = record {
    armed = λ i on. now_armed i (or_cases (C.id == i) (g.facts.armed i) on);
    dirty = λ gfn is. by gfn (has_gfn (slot_of_id C.id g.facts.slots) gfn) refl is;
    caused = λ gfn i slot M has marked. cause gfn i slot M has marked (same_or i C.id);
  }
    where
      here : (slot : SlotOf) → IsLoggedIn pool page C.id slot → slot_of_id C.id g.facts.slots ≡ Some (with_log true slot)
      here slot M =
          ap (λ (s : MemorySlots). slot_of_id C.id (changed_slots C.id C.slot s)) same
          ∙ ap (λ (c : Option (ℕ × Option MemorySlot)). slot_of_id C.id (after_change c slots)) (sym C.is)
          ∙ logged_recorded pool page C.id (slots_after command slots) slot N M

      now_armed : (i : ℕ) → ((C.id == i) ≡ true) ⊎ (g.facts.armed i ≡ true) → IsArmedIn n pool page behind i
      now_armed i (inl e) = subst (IsArmedIn n pool page behind) (eqb-true C.id i e) T
      now_armed i (inr on) = armed_on i on

      by : (gfn : ℕ) (b : Bool) → has_gfn (slot_of_id C.id g.facts.slots) gfn ≡ b → (if b then true else g.facts.pending gfn) ≡ true
          → IsDirtyIn n log pool page behind (λ i. (C.id == i) || g.facts.armed i) gfn
      by gfn true inside is =
          let has : contains gfn T.slot ≡ true = sym (ap (λ (o : Option MemorySlot). has_gfn o gfn) (here T.slot T.logged)) ∙ inside in
          record {
            id = C.id;
            slot = T.slot;
            is_armed = or_left (C.id == C.id) (g.facts.armed C.id) (eq-eqb C.id C.id refl);
            logged = T.logged;
            has = has;
            covered = inl (covered gfn has);
          }
      by gfn false other is = let D = dirty_on gfn is in
          record {
            id = D.id;
            slot = D.slot;
            is_armed = or_right (C.id == D.id) (g.facts.armed D.id) D.is_armed;
            logged = D.logged;
            has = D.has;
            covered = D.covered;
          }

      cause : (gfn i : ℕ) (slot : SlotOf) → IsLoggedIn pool page i slot → contains gfn slot ≡ true → is_marked log (page_of slot gfn) ≡ true
          → (i ≡ C.id) ⊎ (i ≢ C.id) → (after (record { actor = actor; kind = Armed C.id true }) g).past.causes gfn ≡ true
      cause gfn i slot M has marked (inl e) =
          armed_there actor C.id g.facts g.past gfn
          (ap (λ (o : Option MemorySlot). has_gfn o gfn) (here slot (subst (λ k. IsLoggedIn pool page k slot) e M)) ∙ has)
      cause gfn i slot M has marked (inr apart) =
          or_right (true && has_gfn (slot_of_id C.id g.facts.slots) gfn) (g.past.causes gfn) (caused_on gfn i slot apart M has marked)
