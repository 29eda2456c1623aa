-- The run in which a write reaches memory between the pause and the stop, event by event.
use Rattle.std.proofs.Common.{◌≡◌, ◌⊎◌, inl, inr, ◌==◌, ◌&&◌, ◌||◌, ℕ, Bool, true, false, not, List, [], ◌∷◌, ◌++◌, refl, sym, ap, ◌∙◌, subst, arith}
use Rattle.std.specs.Prelude.{Some, if◌then◌else◌}
use Rattle.std.proofs.lemmas.Bool.{eqb-true, or_cases}
use Rattle.std.proofs.lemmas.Option.{same_Some}
use Rattle.core_views.specs.declared.event.Event.{Event}
use Rattle.core_views.specs.declared.event.EventKind.TheVariants.{Answered, GuestStopped, Harvested, Taken}
use Rattle.core_views.specs.declared.memory_slot.MemorySlot.{MemorySlot}
use Rattle.core_views.specs.declared.sizes.Sizes.{Sizes}
use Rattle.core_views.specs.declared.trace.Command.TheVariants.{Migrate}
use Rattle.core_views.specs.declared.trace.MigrationCall.TheVariants.{Finish, Round}
use Rattle.core_views.specs.declared.answer.Answer.TheVariants.{Image}
use Rattle.core_views.specs.Events.{after_all}
use Rattle.core_views.specs.Flat.{Facts, Flat, HasTakenNext, first_facts, first_flat}
use Rattle.core_views.specs.FlatHistory.{one_by_one}
use Rattle.core_views.specs.Harvests.{IsHarvest}
use Rattle.core_views.specs.Lawful.{IsLawful, MayHarvest, MayRead}
use Rattle.core_views.specs.LogCommands.{is_among}
use Rattle.core_views.specs.Migrations.{image_words}
use Rattle.core_views.specs.Past.{Past}
use Rattle.core_views.specs.Sizes.{sizes_of}
use Rattle.core_views.specs.Slots.{contains}
use Rattle.core_views.specs.SlotSets.{slot_of_id}
use Rattle.flat_laws.specs.MigrationRaces.{before_the_stop, copied_again, copied_once, does, finishes, late_write, leaving_out, left_to_the_next, stop}
use Rattle.flat_laws.specs.MigrationPauses.{paused_beside, paused_lines}
use Rattle.flat_laws.specs.Migrations.{migration_sizes}
use Rattle.flat_laws.specs.MigrationTraces.{wide_header}
use Rattle.flat_laws.specs.SlotLines.{open_slot}
use Rattle.flat_laws.specs.UnlawfulMigrations.{started, write_reaches}
use Rattle.flat_laws.proofs.AloneIsLawful.{lawful_append, lawful_parts, one_by_one_lawful}
use Rattle.flat_laws.proofs.Caused.{first_caused}
use Rattle.flat_laws.proofs.Writes.{first_of_lines}

abbrev z : Sizes
z = sizes_of wide_header

abbrev one_page : MemorySlot
one_page = record { slot = open_slot 0 1 0; logged = true }

abbrev logged_slot : MemorySlot
logged_slot = record { slot = open_slot 0 16 0; logged = true }

-- the states between the parts

abbrev begins : List Event
begins = one_by_one z copied_once first_facts

abbrev begun : Flat
begun = after_all begins first_flat

abbrev paused : Flat
paused = after_all before_the_stop begun

abbrev stopped : Flat
stopped = after_all stop paused

begins_lawful : IsLawful z first_flat begins
begins_lawful = one_by_one_lawful z copied_once first_flat (λ i. refl) (record { lines = first_of_lines; caused = first_caused })

-- v1's write reaches frame 3, while the pause is set and the guest isn't stopped yet.
pauses_lawful : IsLawful z begun before_the_stop
pauses_lawful = (
  (refl, refl),
  (
    refl,
    (
      (refl, refl),
      (
        refl,
        (
          (refl, refl),
          (
            (refl, refl, refl),
            (
              refl,
              (
                (refl, refl, refl, record { named = refl; page = 3; behind = refl; value_is = refl; goes = refl }),
                ((refl, refl), tt),
              ),
            ),
          ),
        ),
      ),
    ),
  ),
)

stop_lawful : IsLawful z paused stop
stop_lawful = (refl, (refl, ((refl, refl), ((refl, refl), tt))))

-- Only frame 3 is due.
one_due : (same inside other : Bool) → inside ≡ true → ((same || (if inside then false else other)) && true) ≡ true → (same || false) ≡ true
one_due true inside other has due = refl
one_due false true other has due = due
one_due false false other has due = absurd (cc has)

is_three : (gfn : ℕ) → is_among gfn (3 ∷ []) ≡ true → 3 ≡ gfn
is_three gfn is = by (or_cases (3 == gfn) false is)
  where
    by : (3 == gfn ≡ true) ⊎ (false ≡ true) → 3 ≡ gfn
    by (inl same) = eqb-true 3 gfn same
    by (inr none) = absurd (cc none)

reads_three : (f : Facts) (past : Past) → slot_of_id 0 f.slots ≡ Some logged_slot
    → ((gfn : ℕ) → contains gfn logged_slot.slot ≡ true → past.due gfn ≡ true → is_among gfn (3 ∷ []) ≡ true) → past.causes 3 ≡ true
    → IsHarvest f past (Migrate Finish) 0 (3 ∷ [])
reads_three f past there due cause = record {
  slot = logged_slot;
  there = there;
  rising = λ k lt. absurd (omega (arith, lt));
  asked = λ gfn is. subst (λ g. (contains g logged_slot.slot ≡ true) × (true ≡ true)) (is_three gfn is) (refl, refl);
  complete = λ gfn has asked is_due. due gfn has is_due;
  caused = λ gfn is. subst (λ g. past.causes g ≡ true) (is_three gfn is) cause;
}

copies_lawful : IsLawful z stopped copied_again
unfolding image_words
copies_lawful = (
  inr (record { works = λ fresh. absurd (cc fresh); call = Finish; asked = refl; ids = []; left = refl }),
  (
    inr (record { ids = []; begun = refl; harvest = reads_three _ _ refl (λ gfn. one_due (3 == gfn) _ _) refl }),
    (
      refl,
      (
        record { frames = []; count = 0; left = refl; behind = refl; value_is = refl; whole_is = refl },
        ((refl, (refl, refl)), tt),
      ),
    ),
  ),
)

pub late_write_lawful : IsLawful z first_flat late_write
late_write_lawful =
    lawful_append z begins (before_the_stop ++ (stop ++ copied_again)) first_flat begins_lawful
    (lawful_append z before_the_stop (stop ++ copied_again) begun pauses_lawful
    (lawful_append z stop copied_again paused stop_lawful copies_lawful))

-- ---- it isn't left out

-- What a line that finishes must read of a slot that is there.
must_read : (f : Facts) (past : Past) (gfn : ℕ) (frames : List ℕ) (slot : MemorySlot) → IsHarvest f past (Migrate Finish) 0 frames
    → slot_of_id 0 f.slots ≡ Some slot → contains gfn slot.slot ≡ true → past.due gfn ≡ true → is_among gfn frames ≡ true
must_read f past gfn frames slot H there has due =
    let same : H.slot ≡ slot = same_Some H.slot slot (sym H.there ∙ there) in
    H.complete gfn (ap (λ (m : MemorySlot). contains gfn m.slot) same ∙ has) refl due

pub takes_all : (y : Sizes) (f : Facts) (past : Past) (gfn : ℕ) (slot : MemorySlot) → slot_of_id 0 f.slots ≡ Some slot → contains gfn slot.slot ≡ true
    → past.due gfn ≡ true → MayRead y f past (Migrate Finish) (HasTakenNext 0 []) 0 [] true ⊎ MayHarvest f past (Migrate Finish) (HasTakenNext 0 []) 0 [] → ⊥
takes_all y f past gfn slot there has due (inl may) = let is = may.begun in cc is
takes_all y f past gfn slot there has due (inr may) =
    let read : is_among gfn [] ≡ true = must_read f past gfn [] slot may.harvest there has due in cc read

abbrev left_out : List Event
left_out = does finishes (Harvested 0 [] ∷ Answered 10 (Image []) ∷ [])

abbrev taking : List Event
taking = does finishes (GuestStopped ∷ Taken 0 ∷ [])

three_due : (after_all taking paused).past.due 3 ≡ true
three_due = refl

none_read : IsLawful z (after_all taking paused) left_out → ⊥
none_read lawful = takes_all z (after_all taking paused).facts (after_all taking paused).past 3 logged_slot refl refl three_due lawful.0

pub none_left_out : IsLawful z first_flat (begins ++ (before_the_stop ++ (taking ++ left_out))) → ⊥
none_left_out lawful =
    none_read (lawful_parts z taking left_out paused
    (lawful_parts z before_the_stop (taking ++ left_out) begun
    (lawful_parts z begins (before_the_stop ++ (taking ++ left_out)) first_flat lawful).1).1).1

-- ---- a read that looks at the pause once it is set

paused_after : IsLawful migration_sizes (after_all (one_by_one migration_sizes started first_facts) first_flat) paused_lines
paused_after = ((refl, refl), ((refl, refl, refl), ((refl, refl), (refl, ((refl, refl), ((refl, refl), tt))))))

pub paused_lawful : IsLawful migration_sizes first_flat paused_beside
paused_lawful =
    lawful_append migration_sizes (one_by_one migration_sizes started first_facts) paused_lines first_flat
    (one_by_one_lawful migration_sizes started first_flat (λ i. refl) (record { lines = first_of_lines; caused = first_caused }))
    paused_after

-- ---- a round that leaves out what is still being written

-- Frame 0 is dirty, and being written; no other is dirty.
none_due : (same inside other : Bool) → inside ≡ true → ((same || (if inside then false else other)) && not (same || false)) ≡ true → ⊥
none_due true inside other has due = cc due
none_due false true other has due = cc due
none_due false false other has due = cc has

reads_none : (f : Facts) (past : Past) → slot_of_id 0 f.slots ≡ Some one_page → ((gfn : ℕ) → contains gfn one_page.slot ≡ true → past.due gfn ≡ true → ⊥)
    → IsHarvest f past (Migrate Round) 0 []
reads_none f past there none = record {
  slot = one_page;
  there = there;
  rising = λ k lt. absurd (omega (arith, lt));
  asked = λ gfn is. absurd (cc is);
  complete = λ gfn has asked due. absurd (none gfn has due);
  caused = λ gfn is. absurd (cc is);
}

abbrev reached : Flat
reached = after_all write_reaches (after_all (one_by_one migration_sizes started first_facts) first_flat)

writes_lawful : IsLawful migration_sizes (after_all (one_by_one migration_sizes started first_facts) first_flat) write_reaches
writes_lawful = (
  (refl, refl),
  (refl, (refl, (refl, ((refl, refl, refl, record { named = refl; page = 0; behind = refl; value_is = refl; goes = refl }), tt)))),
)

leaves_lawful : IsLawful migration_sizes reached leaving_out
leaves_lawful = (
  (refl, refl),
  (
    inr (record { works = λ fresh. refl; call = Round; asked = refl; ids = []; left = refl }),
    (
      inr (record { ids = []; begun = refl; harvest = reads_none _ _ refl (λ gfn. none_due (0 == gfn) _ _) }),
      (
        record { frames = []; count = 0; left = refl; behind = refl; value_is = refl; whole_is = refl },
        ((refl, (refl, refl)), ((refl, refl), tt)),
      ),
    ),
  ),
)

pub left_out_lawful : IsLawful migration_sizes first_flat left_to_the_next
left_out_lawful =
    lawful_append migration_sizes (one_by_one migration_sizes started first_facts) (write_reaches ++ leaving_out) first_flat
    (one_by_one_lawful migration_sizes started first_flat (λ i. refl) (record { lines = first_of_lines; caused = first_caused }))
    (lawful_append migration_sizes write_reaches leaving_out (after_all (one_by_one migration_sizes started first_facts) first_flat) writes_lawful
    leaves_lawful)
