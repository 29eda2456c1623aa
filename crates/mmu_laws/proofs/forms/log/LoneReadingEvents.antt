-- What a line that is alone tells of its reading of a dirty log is just what is dirty.
use Rattle.core_views.specs.Lawful.{MayHarvest}
use Rattle.core_views.specs.Harvests.{IsHarvest, MayRead}
use Rattle.std.proofs.Common.{◌≡◌, ◌⊎◌, inl, inr, ◌++◌, ◌∷◌, [], List, ℕ, refl, sym, ap, ◌∙◌}
use Rattle.std.specs.Prelude.{Bool, true, false, not, ◌==◌, ◌||◌, if◌then◌else◌, Option, Some, None}
use Rattle.core_views.specs.declared.actor.Actor.{Actor}
use Rattle.core_views.specs.declared.event.Event.{Event}
use Rattle.core_views.specs.declared.event.EventKind.{EventKind}
use Rattle.core_views.specs.declared.event.EventKind.TheVariants.{Harvested, Shown, Taken}
use Rattle.core_views.specs.declared.place.LogPlace.{LogPlace}
use Rattle.core_views.specs.declared.place.LogPlace.TheVariants.{Exclude, Await, Peek}
use Rattle.core_views.specs.declared.place.Place.TheVariants as place
use Rattle.core_views.specs.declared.sizes.Sizes.{Sizes}
use Rattle.core_views.specs.declared.trace.Command.{Command}
use Rattle.core_views.specs.declared.trace.Line.{Line}
use Rattle.core_views.specs.declared.trace.Slot.{Slot as SlotOf}
use Rattle.core_views.specs.Alone.{ReadDirty}
use Rattle.core_views.specs.Events.{after, after_all}
use Rattle.core_views.specs.Flat.{Flat}
use Rattle.core_views.specs.Harvests.{IsHarvest}
use Rattle.core_views.specs.Held.{Held}
use Rattle.core_views.specs.Lawful.{IsLawful}
use Rattle.core_views.specs.LogCommands.{asked_frames, is_among, log_read}
use Rattle.core_views.specs.Past.{FrameSet}
use Rattle.core_views.specs.SlotSets.{slot_of_id}
use Rattle.core_views.proofs.AskedFrames.{asked_has, asked_is, asked_rise}
use Rattle.part_steps.specs.ControlBits.{has_to_flush}
use Rattle.mmu_core.specs.declared.log_next.LogNext.TheVariants as next
use Rattle.mmu_core.specs.declared.outcome.Outcome.{Outcome}
use Rattle.mmu_core.specs.declared.outcome.Outcome.TheVariants.{Goes}
use Rattle.mmu_core.specs.lines.Forms.{outcome_at}
use Rattle.mmu_core.specs.forms.log.LogOutcomes.{after_log}
use Rattle.mmu_core.specs.forms.log.LogSteps.{awaits_last, frames_read, read_more, reads_last, slot_asked}
use Rattle.mmu_core.specs.forms.log.LogTells.{harvested, shown, taken}
use Rattle.mmu_core.specs.machine.Outcomes.{answering}
use Rattle.mmu_core.specs.machine.Steps.{beginning, task_at}
use Rattle.mmu_core.specs.machine.View.{View, answer_in}
use Rattle.log_invariant.specs.forms.log.LogReads.{IsRead}
use Rattle.mmu_laws.proofs.forms.log.ReadKept.{due_before, read_dirty}
use Rattle.mmu_laws.proofs.forms.log.ReadingDue.{taken_due}
use Rattle.mmu_laws.proofs.forms.log.LoneReadingSteps.{StepsAlone}
use Rattle.mmu_laws.proofs.alone.RisingLists.{same_lists}
use Rattle.mmu_laws.proofs.alone.ToldFlat.{AreNoReadings, answer_none, begin_due, begin_none, begin_pending, lawful_more, none_append}
use Rattle.mmu_laws.proofs.alone.ToldFlat.{none_read_dirty, reads_more}
use Rattle.mmu_laws.proofs.flat.FlatKept.{told_events}
use Rattle.mmu_laws.proofs.forms.log.HarvestFrames.{among_read}
use Rattle.mmu_laws.proofs.flat.Told.{told}

-- ---- a reading that is allowed

-- Where what is dirty is due, and what is read is dirty, these are the dirty frames for which the line asks.
exact_frames : (g : Flat) (command : Command) (id : ℕ) (frames : List ℕ) → IsHarvest g.facts g.past command id frames
    → ((gfn : ℕ) → g.facts.pending gfn ≡ true → g.past.due gfn ≡ true) → ((gfn : ℕ) → is_among gfn frames ≡ true → g.facts.pending gfn ≡ true)
    → frames ≡ asked_frames g.facts.pending command (slot_of_id id g.facts.slots)
exact_frames g command id frames H due dirty =
    same_lists frames (asked_frames g.facts.pending command (Some H.slot)) H.rising (asked_rise g.facts.pending command H.slot) inside back
    ∙ ap (asked_frames g.facts.pending command) (sym H.there)
  where
    inside : (gfn : ℕ) → is_among gfn frames ≡ true → is_among gfn (asked_frames g.facts.pending command (Some H.slot)) ≡ true
    inside gfn is =
        let A = H.asked gfn is in
        asked_has g.facts.pending command H.slot gfn (record { inside = A.0; asked = A.1; held = dirty gfn is })

    back : (gfn : ℕ) → is_among gfn (asked_frames g.facts.pending command (Some H.slot)) ≡ true → is_among gfn frames ≡ true
    back gfn is = let A = asked_is g.facts.pending command H.slot gfn is in H.complete gfn A.inside A.asked (due gfn A.held)

-- ---- a step of the line

module _ (z : Sizes) (v : View) (f : Flat) (a : ℕ) (line : Line) (p : LogPlace) (X : StepsAlone z v f a line (place.Log p)) where
  abbrev h : Held
  h = v.hand a

  abbrev command : Command
  command = line.command

  abbrev slot : SlotOf
  slot = slot_asked h command

  abbrev actor : Actor
  actor = h.state.actor

  abbrev first : List EventKind
  first = beginning h.state.place line

  abbrev g : Flat
  g = after_all (told actor first) f

  first_pending : g.facts.pending ≡ f.facts.pending
  first_pending = begin_pending actor h.state.place line f

  first_due : g.past.due ≡ f.past.due
  first_due = begin_due actor h.state.place line f

  -- What follows its begin.
  after_first : (kinds : List EventKind) → ReadDirty g (told actor kinds) → ReadDirty f (told actor (first ++ kinds))
  after_first kinds reads =
      reads_more actor first kinds f (none_read_dirty actor first f (begin_none h.state.place line)) reads

  told_none : (kinds : List EventKind) (o : Outcome) → AreNoReadings kinds → ReadDirty f (told actor (first ++ (kinds ++ answering o line)))
  told_none kinds o none =
      after_first (kinds ++ answering o line)
      (none_read_dirty actor (kinds ++ answering o line) g (none_append kinds (answering o line) none (answer_none o line)))

  -- The pages that these words say are dirty.
  abbrev AreDirty : List ℕ → Type 0
  AreDirty words = (gfn : ℕ) → IsRead slot command words gfn → f.facts.pending gfn ≡ true

  abbrev IsDue : Type 0
  IsDue = (gfn : ℕ) → f.facts.pending gfn ≡ true → f.past.due gfn ≡ true

  frames_dirty : (words : List ℕ) → AreDirty words → (gfn : ℕ) → is_among gfn (frames_read slot command words) ≡ true → g.facts.pending gfn ≡ true
  frames_dirty words dirty gfn is = ap (λ (s : FrameSet). s gfn) first_pending ∙ dirty gfn (among_read slot command words gfn is)

  due_first : IsDue → (gfn : ℕ) → g.facts.pending gfn ≡ true → g.past.due gfn ≡ true
  due_first due gfn is = ap (λ (s : FrameSet). s gfn) first_due ∙ due gfn (sym (ap (λ (s : FrameSet). s gfn) first_pending) ∙ is)

  harvest_of : (id : ℕ) (frames : List ℕ)
      → MayRead z g.facts g.past (g.under actor).line.command (g.under actor).stage id frames true
      ⊎ MayHarvest g.facts g.past (g.under actor).line.command (g.under actor).stage id frames
      → IsHarvest g.facts g.past (g.under actor).line.command id frames
  harvest_of id frames (inl alone) = alone.harvest
  harvest_of id frames (inr next) = next.harvest

  -- It has read what it takes out.
  harvest_exact : (id : ℕ) (words : List ℕ) (o : Outcome) → AreDirty words → IsDue
      → IsLawful z f (told actor (first ++ (Harvested id (frames_read slot command words) ∷ answering o line)))
      → ReadDirty f (told actor (first ++ (Harvested id (frames_read slot command words) ∷ answering o line)))
  harvest_exact id words o dirty due lawful =
      let frames = frames_read slot command words in
      let parts = lawful_more z actor first (Harvested id frames ∷ answering o line) f lawful in
      after_first (Harvested id frames ∷ answering o line) (
        exact_frames g (g.under actor).line.command id frames (harvest_of id frames parts.1.0) (due_first due) (frames_dirty words dirty),
        none_read_dirty actor (answering o line) (after (record { actor = actor; kind = Harvested id frames }) g) (answer_none o line),
      )

  -- Or what it leaves, after its begin or with it.
  shown_exact : (id : ℕ) (words : List ℕ) (o : Outcome) → AreDirty words → IsDue
      → IsLawful z f (told actor (first ++ (Shown id (frames_read slot command words) ∷ answering o line)))
      → ReadDirty f (told actor (first ++ (Shown id (frames_read slot command words) ∷ answering o line)))
  shown_exact id words o dirty due lawful =
      let frames = frames_read slot command words in
      let parts = lawful_more z actor first (Shown id frames ∷ answering o line) f lawful in
      after_first (Shown id frames ∷ answering o line) (
        exact_frames g (g.under actor).line.command id frames parts.1.0.harvest (due_first due) (frames_dirty words dirty),
        none_read_dirty actor (answering o line) (after (record { actor = actor; kind = Shown id frames }) g) (answer_none o line),
      )

  both_exact : (id : ℕ) (words : List ℕ) (o : Outcome) → AreDirty words
      → IsLawful z f (told actor (first ++ (Taken id ∷ Shown id (frames_read slot command words) ∷ answering o line)))
      → ReadDirty f (told actor (first ++ (Taken id ∷ Shown id (frames_read slot command words) ∷ answering o line)))
  both_exact id words o dirty lawful =
      let frames = frames_read slot command words in
      let parts = lawful_more z actor first (Taken id ∷ Shown id frames ∷ answering o line) f lawful in
      let begun : Flat = after (record { actor = actor; kind = Taken id }) g in
      after_first (Taken id ∷ Shown id frames ∷ answering o line) (
        tt,
        (
          exact_frames begun (begun.under actor).line.command id frames parts.1.1.0.harvest
              (taken_due z v f a X.ready.flat X.exact X.idle first id X.ready.lines parts.0 parts.1.0) (frames_dirty words dirty),
          none_read_dirty actor (answering o line) (after (record { actor = actor; kind = Shown id frames }) begun) (answer_none o line),
        ),
      )

-- ---- each step of it

taken_none : (o : Option ℕ) → AreNoReadings (taken o)
taken_none None = tt
taken_none (Some id) = (tt, tt)

-- What the step tells reads just what is dirty.
pub readings_exact : (z : Sizes) (v : View) (f : Flat) (a : ℕ) (line : Line) (p : LogPlace) → StepsAlone z v f a line (place.Log p)
    → ReadDirty f (told_events v a line line.command (place.Log p))
readings_exact z v f a line Await X = by (has_to_flush x || not (awaits_last h)) X.lawful
  where
    h : Held
    h = v.hand a

    x : ℕ
    x = answer_in (task_at (place.Log Await) line.command h) v.words

    first_ : List EventKind
    first_ = beginning h.state.place line

    frames : List ℕ
    frames = frames_read (slot_asked h line.command) line.command h.harvest

    dirty : (gfn : ℕ) → IsRead (slot_asked h line.command) line.command h.harvest gfn → f.facts.pending gfn ≡ true
    dirty gfn R = read_dirty z v f a line (place.Log Await) line.command X Await refl refl gfn R

    read : (o : Option ℕ) (end : Outcome) → IsLawful z f (told h.state.actor (first_ ++ (harvested o frames ++ answering end line)))
        → ReadDirty f (told h.state.actor (first_ ++ (harvested o frames ++ answering end line)))
    read None end lawful = told_none z v f a line Await X [] end tt
    read (Some id) end lawful = harvest_exact z v f a line Await X id h.harvest end dirty (due_before z v f a line (place.Log Await) Await line.command X refl
        refl) lawful

    Told : Bool → List Event
    Told b =
        told h.state.actor (first_ ++ ((if b then [] else harvested (log_read line.command) frames)
        ++ answering (after_log (if b then next.Goes Await else next.Reads) h.harvest) line))

    by : (b : Bool) → IsLawful z f (Told b) → ReadDirty f (Told b)
    by true lawful = told_none z v f a line Await X [] (Goes (place.Log Await)) tt
    by false lawful = read (log_read line.command) (after_log next.Reads h.harvest) lawful
readings_exact z v f a line (Peek true) X = by (reads_last true (slot_asked h line.command) line.command h.topics) X.lawful
  where
    h : Held
    h = v.hand a

    x : ℕ
    x = answer_in (task_at (place.Log (Peek true)) line.command h) v.words

    words : List ℕ
    words = read_more true (slot_asked h line.command) line.command h x

    frames : List ℕ
    frames = frames_read (slot_asked h line.command) line.command words

    first_ : List EventKind
    first_ = beginning h.state.place line

    dirty : (gfn : ℕ) → IsRead (slot_asked h line.command) line.command words gfn → f.facts.pending gfn ≡ true
    dirty gfn R = read_dirty z v f a line (place.Log (Peek true)) line.command X (Peek true) refl refl gfn R

    read : (o : Option ℕ) (end : Outcome) → IsLawful z f (told h.state.actor (first_ ++ (([] ++ shown o frames) ++ answering end line)))
        → ReadDirty f (told h.state.actor (first_ ++ (([] ++ shown o frames) ++ answering end line)))
    read None end lawful = told_none z v f a line (Peek true) X [] end tt
    read (Some id) end lawful = shown_exact z v f a line (Peek true) X id words end dirty (due_before z v f a line (place.Log (Peek true)) (Peek true)
        line.command X refl refl) lawful

    Told : Bool → List Event
    Told last =
        told h.state.actor (first_ ++ (([] ++ (if last then shown (log_read line.command) frames else []))
        ++ answering (after_log (if last then next.Reads else next.Goes (Peek true)) words) line))

    by : (last : Bool) → IsLawful z f (Told last) → ReadDirty f (Told last)
    by true lawful = read (log_read line.command) (after_log next.Reads words) lawful
    by false lawful = told_none z v f a line (Peek true) X [] (Goes (place.Log (Peek true))) tt
readings_exact z v f a line (Peek false) X = by (reads_last false (slot_asked h line.command) line.command h.topics) X.lawful
  where
    h : Held
    h = v.hand a

    x : ℕ
    x = answer_in (task_at (place.Log (Peek false)) line.command h) v.words

    words : List ℕ
    words = read_more false (slot_asked h line.command) line.command h x

    frames : List ℕ
    frames = frames_read (slot_asked h line.command) line.command words

    first_ : List EventKind
    first_ = beginning h.state.place line

    dirty : (gfn : ℕ) → IsRead (slot_asked h line.command) line.command words gfn → f.facts.pending gfn ≡ true
    dirty gfn R = read_dirty z v f a line (place.Log (Peek false)) line.command X (Peek false) refl refl gfn R

    read : (o : Option ℕ) (end : Outcome) → IsLawful z f (told h.state.actor (first_ ++ ((taken o ++ shown o frames) ++ answering end line)))
        → ReadDirty f (told h.state.actor (first_ ++ ((taken o ++ shown o frames) ++ answering end line)))
    read None end lawful = told_none z v f a line (Peek false) X [] end tt
    read (Some id) end lawful = both_exact z v f a line (Peek false) X id words end dirty lawful

    Told : Bool → List Event
    Told last =
        told h.state.actor (first_ ++ ((taken (log_read line.command) ++ (if last then shown (log_read line.command) frames else []))
        ++ answering (after_log (if last then next.Reads else next.Goes (Peek true)) words) line))

    by : (last : Bool) → IsLawful z f (Told last) → ReadDirty f (Told last)
    by true lawful = read (log_read line.command) (after_log next.Reads words) lawful
    by false lawful =
        told_none z v f a line (Peek false) X (taken (log_read line.command) ++ []) (Goes (place.Log (Peek true)))
        (none_append (taken (log_read line.command)) [] (taken_none (log_read line.command)) tt)
readings_exact z v f a line Exclude X = by (x == 0)
  where
    h : Held
    h = v.hand a

    x : ℕ
    x = answer_in (task_at (place.Log Exclude) line.command h) v.words

    by : (b : Bool) → ReadDirty f (told h.state.actor (beginning h.state.place line ++ ((if b then taken (log_read line.command) else [])
        ++ answering (outcome_at (place.Log Exclude) line.command h x) line)))
    by true = told_none z v f a line Exclude X (taken (log_read line.command)) (outcome_at (place.Log Exclude) line.command h x)
        (taken_none (log_read line.command))
    by false = told_none z v f a line Exclude X [] (outcome_at (place.Log Exclude) line.command h x) tt
readings_exact z v f a line p X =
    told_none z v f a line p X [] (outcome_at (place.Log p) line.command (v.hand a) (answer_in (task_at (place.Log p) line.command (v.hand a)) v.words)) tt
