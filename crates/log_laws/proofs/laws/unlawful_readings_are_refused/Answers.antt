use Rattle.std.proofs.Common.{◌≡◌, ◌⊎◌, inl, inr, ◌==◌, ◌&&◌, ◌||◌, ℕ, Bool, true, false, not, List, [], ◌∷◌, ◌++◌, map}
use Rattle.std.proofs.Common.{refl, sym, ap, ◌∙◌, subst, arith}
use Rattle.std.proofs.lemmas.Bool.{eqb-true, or_cases}
use Rattle.std.proofs.lemmas.Option.{same_Some}
use Rattle.std.specs.Prelude.{Some, if◌then◌else◌}
use Rattle.core_views.specs.declared.memory_slot.MemorySlot.{MemorySlot}
use Rattle.core_views.specs.declared.trace.Command.TheVariants.{GetLog}
use Rattle.core_views.specs.Flat.{Facts, Flat, HasTaken, Stage, first_facts, first_flat}
use Rattle.core_views.specs.Harvests.{IsHarvest}
use Rattle.core_views.specs.LogCommands.{is_among, words_of}
use Rattle.core_views.specs.Past.{Past}
use Rattle.flat_laws.specs.Laws.{manage}
use Rattle.flat_laws.specs.SlotLines.{open_slot}
use Rattle.core_views.specs.Slots.{contains, page_behind}
use Rattle.core_views.specs.SlotSets.{flat_slots, slot_of_id}
use Rattle.core_views.specs.declared.answer.Answer.TheVariants.{Reached}
use Rattle.core_views.specs.declared.event.Event.{Event}
use Rattle.core_views.specs.declared.event.EventKind.TheVariants.{Accessed, Answered, Begun, LookedAtHost, LookedAtPause, LookedAtSlots}
use Rattle.core_views.specs.declared.sizes.LogMode.TheVariants.{Automatic}
use Rattle.core_views.specs.declared.sizes.Sizes.{Sizes}
use Rattle.core_views.specs.declared.trace.Op.{Op}
use Rattle.core_views.specs.declared.trace.Op.TheVariants.{Write}
use Rattle.core_views.specs.Events.{after_all}
use Rattle.core_views.specs.FlatHistory.{by, one_by_one}
use Rattle.core_views.specs.declared.trace.Command.{Command}
use Rattle.core_views.specs.LogCommands.{takes_out}
use Rattle.core_views.specs.Migrations.{is_stopped}
use Rattle.core_views.specs.Lawful.{MayHarvest, MayRead, Reaches}
use Rattle.core_views.specs.Names.{named_frame}
use Rattle.flat_laws.proofs.AloneIsLawful.{lawful_append, one_by_one_lawful, lawful_parts}
use Rattle.flat_laws.proofs.Caused.{first_caused}
use Rattle.flat_laws.proofs.Writes.{first_of_lines}
use Rattle.log_laws.specs.LogTraces.{log_sizes, with_log}
use Rattle.log_laws.specs.UnlawfulReadings.{get_of, other_line, race, whole_line, write_line}
use Rattle.log_laws.proofs.laws.unlawful_readings_are_refused.Goals as goal

-- Slot 0 is set, and mostly its log begins, and a write is made; then the other line begins.

-- the slot, with its log
abbrev logged_slot : MemorySlot
logged_slot = record { slot = open_slot 0 16 0; logged = true }

-- What a get must read of a slot that is there.
must_read : (f : Facts) (past : Past) (id gfn : ℕ) (frames : List ℕ) (slot : MemorySlot) → IsHarvest f past (GetLog id) id frames
    → slot_of_id id f.slots ≡ Some slot → contains gfn slot.slot ≡ true → past.due gfn ≡ true → is_among gfn frames ≡ true
must_read f past id gfn frames slot H there has due =
    let same : H.slot ≡ slot = same_Some H.slot slot (sym H.there ∙ there) in
    H.complete gfn (ap (λ (m : MemorySlot). contains gfn m.slot) same ∙ has) refl due

-- what a reading holds that is taken out of a log, whichever line makes it
harvest_of : (z : Sizes) (f : Facts) (past : Past) (command : Command) (stage : Stage) (frames : List ℕ)
    → MayRead z f past command stage 0 frames true ⊎ MayHarvest f past command stage 0 frames → IsHarvest f past command 0 frames
harvest_of z f past command stage frames (inl may) = may.harvest
harvest_of z f past command stage frames (inr may) = may.harvest

-- A line that has begun to read one log is no line of a migration; it doesn't take out what it is not to.
no_reading : (z : Sizes) (f : Facts) (past : Past) (command : Command) (id : ℕ) (frames : List ℕ) (out : Bool) → (takes_out z.mode command ≡ true → ⊥)
    → MayRead z f past command (HasTaken id) 0 frames true ⊎ MayHarvest f past command (HasTaken id) 0 frames → ⊥
no_reading z f past command id frames out never (inl may) = never may.takes
no_reading z f past command id frames out never (inr may) = let is = may.begun in cc is

pub returns-clause-left_out : goal.returns-clause-left_out
returns-clause-left_out c lawful =
    let harvest = harvest_of _ _ _ _ _ _ lawful.1.1.1.1.1.1.1.1.1.1.1.1.1.1.1.0 in
    let read : is_among 1 [] ≡ true = must_read _ _ 0 1 [] logged_slot harvest refl refl refl in absurd (cc read)

pub returns-clause-unwritten : goal.returns-clause-unwritten
returns-clause-unwritten c lawful = absurd (cc ((harvest_of _ _ _ _ _ _ lawful.1.1.1.1.1.1.1.1.1.0).caused 1 refl))

pub returns-clause-again : goal.returns-clause-again
returns-clause-again c lawful = absurd (cc ((harvest_of _ _ _ _ _ _ lawful.1.1.1.1.1.1.1.1.1.1.1.1.1.1.1.1.1.1.1.0).caused 1 refl))

pub returns-clause-manual : goal.returns-clause-manual
returns-clause-manual c lawful = no_reading _ _ _ _ _ _ true (λ e. cc e) lawful.1.1.1.1.1.1.1.1.1.1.1.1.1.1.1.0

pub returns-clause-automatic : goal.returns-clause-automatic
returns-clause-automatic c lawful = absurd (cc lawful.1.1.1.1.1.1.1.1.1.1.1.1.1.1.1.0.takes)

pub returns-clause-armed : goal.returns-clause-armed
returns-clause-armed c lawful = absurd (cc lawful.1.1.1.1.1.0.1.1)

pub returns-clause-all_set : goal.returns-clause-all_set
returns-clause-all_set c lawful = absurd (cc lawful.1.1.1.1.1.0.2)

pub returns-clause-clean : goal.returns-clause-clean
returns-clause-clean c lawful = absurd (cc lawful.1.1.1.1.1.0.2)

-- ---- the race

is_one : (gfn : ℕ) → is_among gfn (1 ∷ []) ≡ true → 1 ≡ gfn
is_one gfn is = by (or_cases (1 == gfn) false is)
  where
    by : (1 == gfn ≡ true) ⊎ (false ≡ true) → 1 ≡ gfn
    by (inl same) = eqb-true 1 gfn same
    by (inr none) = absurd (cc none)

abbrev sizes : Sizes
sizes = log_sizes Automatic

-- What a get of slot 0 reads that has begun to.
reads : (f : Facts) (past : Past) (frames : List ℕ) → IsHarvest f past (GetLog 0) 0 frames → MayRead sizes f past (GetLog 0) (HasTaken 0) 0 frames true
reads f past frames H = record { begun = refl; reads = refl; takes = refl; harvest = H }

-- A get reads nothing where no frame of the slot is due, and frame 1 where no other one is, and that one has a cause.

none_read : (f : Facts) (past : Past) → slot_of_id 0 f.slots ≡ Some logged_slot
    → ((gfn : ℕ) → contains gfn logged_slot.slot ≡ true → past.due gfn ≡ true → is_among gfn [] ≡ true)
    → MayRead sizes f past (GetLog 0) (HasTaken 0) 0 [] true
none_read f past there due =
    reads f past []
    (record {
      slot = logged_slot;
      there = there;
      rising = λ k lt. absurd (omega (arith, lt));
      asked = λ gfn is. absurd (cc is);
      complete = λ gfn has asked is_due. due gfn has is_due;
      caused = λ gfn is. absurd (cc is);
    })

one_read : (f : Facts) (past : Past) → slot_of_id 0 f.slots ≡ Some logged_slot
    → ((gfn : ℕ) → contains gfn logged_slot.slot ≡ true → past.due gfn ≡ true → is_among gfn (1 ∷ []) ≡ true) → past.causes 1 ≡ true
    → MayRead sizes f past (GetLog 0) (HasTaken 0) 0 (1 ∷ []) true
one_read f past there due cause =
    reads f past (1 ∷ [])
    (record {
      slot = logged_slot;
      there = there;
      rising = λ k lt. absurd (omega (arith, lt));
      asked = λ gfn is. subst (λ g. (contains g logged_slot.slot ≡ true) × (true ≡ true)) (is_one gfn is) (refl, refl);
      complete = λ gfn has asked is_due. due gfn has is_due;
      caused = λ gfn is. subst (λ g. past.causes g ≡ true) (is_one gfn is) cause;
    })

-- What is due while v0's write of frame 1 is under way, and after it was answered. `other` is what was dirty before the log began.

none_due : (same inside other : Bool) → inside ≡ true → ((same || (if inside then false else other)) && not (same || false)) ≡ true → false ≡ true
none_due true true other has due = due
none_due false true other has due = due
none_due same false other has due = absurd (cc has)

one_due : (same inside other : Bool) → inside ≡ true → ((same || (same || (if inside then false else other))) && true) ≡ true → (same || false) ≡ true
one_due true inside other has due = refl
one_due false true other has due = due
one_due false false other has due = absurd (cc has)

-- the parts of the race

abbrev begins : List Event
begins = one_by_one sizes (with_log 16 []) first_facts

abbrev looks : List Event
looks = map (by write_line) (Begun write_line ∷ LookedAtPause ∷ LookedAtSlots ∷ LookedAtHost 1 ∷ [])

abbrev other_writes : List Event
other_writes = whole_line other_line (LookedAtPause ∷ LookedAtSlots ∷ LookedAtHost 1 ∷ Accessed 1 0 (Write 8) 1 0 ∷ []) (Reached 1 0)

abbrev first_get : List Event
first_get = get_of (manage 6 (GetLog 0)) [] (0 ∷ [])

abbrev writes : List Event
writes = map (by write_line) (Accessed 1 0 (Write 7) 1 8 ∷ Answered 4 (Reached 1 8) ∷ [])

abbrev next_get : List Event
next_get = get_of (manage 7 (GetLog 0)) (1 ∷ []) (2 ∷ [])

-- the states between them

abbrev begun : Flat
begun = after_all begins first_flat

abbrev looked : Flat
looked = after_all looks begun

abbrev written : Flat
written = after_all other_writes looked

abbrev got : Flat
got = after_all first_get written

-- Either access reaches frame 1.
reaches_one : (f : Facts) (op : Op) (value : ℕ) → named_frame (flat_slots f.slots) f.host 1 op ≡ Some 1 → page_behind (flat_slots f.slots) 1 op ≡ Some 1
    → f.memory 1 0 ≡ value → is_stopped f.migration ≡ false → Reaches f 1 0 op 1 value
reaches_one f op value named behind is goes = record { named = named; page = 1; behind = behind; value_is = is; goes = goes }

pub returns-clause-race : goal.returns-clause-race
unfolding words_of
returns-clause-race c =
    lawful_append sizes race next_get first_flat
    (lawful_append sizes begins (looks ++ (other_writes ++ (first_get ++ writes))) first_flat
    (one_by_one_lawful sizes (with_log 16 []) first_flat (λ i. refl) (record { lines = first_of_lines; caused = first_caused }))
    (lawful_append sizes looks (other_writes ++ (first_get ++ writes)) begun ((refl, refl), (refl, (refl, (refl, tt))))
    (lawful_append sizes other_writes (first_get ++ writes) looked
    ((refl, refl), (refl, (refl, (refl, ((refl, refl, refl, reaches_one looked.facts (Write 8) 0 refl refl refl refl), ((refl, refl), tt))))))
    (lawful_append sizes first_get writes written
    ((refl, refl), (inl (refl, refl, refl), (inl (none_read _ _ refl (λ gfn. none_due (1 == gfn) _ _)), ((refl, refl), tt))))
    ((refl, refl, refl, reaches_one got.facts (Write 7) 8 refl refl refl refl), ((refl, refl), tt))))))
    ((refl, refl), (inl (refl, refl, refl), (inl (one_read _ _ refl (λ gfn. one_due (1 == gfn) _ _) refl), ((refl, refl), tt))))

pub returns-clause-next : goal.returns-clause-next
returns-clause-next c lawful =
    let then_ = (lawful_parts sizes race (get_of (manage 7 (GetLog 0)) [] (0 ∷ [])) first_flat lawful).1 in
    let read : is_among 1 [] ≡ true = must_read _ _ 0 1 [] logged_slot (harvest_of _ _ _ _ _ _ then_.1.1.0) refl refl refl in absurd (cc read)
