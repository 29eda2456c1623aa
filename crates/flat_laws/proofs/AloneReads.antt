-- A line that reads a log alone, from a state in which no line is under way, is lawful.
use Rattle.std.proofs.Common.{◌&&◌, ◌≡◌, inl, ℕ, List, ◌∷◌, Bool, true, false, refl, sym, ap, ◌∙◌, subst}
use Rattle.std.specs.Prelude.{Option, Some, None}
use Rattle.core_views.specs.declared.actor.Actor.{Actor}
use Rattle.core_views.specs.declared.answer.Answer.{Answer}
use Rattle.core_views.specs.declared.answer.Answer.TheVariants.{Bits}
use Rattle.core_views.specs.declared.event.Event.{Event}
use Rattle.core_views.specs.declared.event.EventKind.{EventKind}
use Rattle.core_views.specs.declared.event.EventKind.TheVariants.{Taken, Harvested, Shown}
use Rattle.core_views.specs.declared.trace.Command.{Command}
use Rattle.core_views.specs.declared.sizes.Sizes.{Sizes}
use Rattle.core_views.specs.declared.trace.Line.{Line}
use Rattle.core_views.specs.declared.memory_slot.MemorySlot.{MemorySlot}
use Rattle.core_views.specs.Harvests.{IsHarvest}
use Rattle.core_views.specs.Past.{Past}
use Rattle.core_views.specs.Flat.{Facts, LineUnderWay, Flat, Fresh, HasTaken, Stage, no_notes}
use Rattle.core_views.specs.Events.{after, facts_after, logs_left, stage_taken}
use Rattle.core_views.specs.Lawful.{HasWork, MayRead, answer_at_once}
use Rattle.core_views.specs.Lawful.{slot_at, slot_read}
use Rattle.core_views.specs.LogCommands.{asked_frames, bits_for, log_read, takes_out}
use Rattle.core_views.specs.FlatHistory.{by, answers, doing, doing_by}
use Rattle.core_views.specs.FlatHistory.{harvest, reading, working}
use Rattle.flat_laws.proofs.HarvestsAlone.{reads_dirty, reads_there}
use Rattle.flat_laws.proofs.AloneSteps.{Closes, IsAt, allowed, answered, more, step}

-- A line that reads a log reads all that is dirty of it.

abbrev begun_reading : Line → ℕ → LineUnderWay
begun_reading line id = record { line = line; stage = HasTaken id; notes = no_notes }

abbrev frames_read : Facts → Command → List ℕ
frames_read facts command = asked_frames facts.pending command (slot_read facts.slots command)

abbrev words_read : Facts → Command → Answer
words_read facts command = Bits (bits_for command (slot_read facts.slots command) (frames_read facts command))

may_read : (z : Sizes) (actor : Actor) (command : Command) (id : ℕ) (facts : Facts) (past : Past) (takes : Bool) → log_read command ≡ Some id
    → HasWork z facts actor command → takes_out z.mode command ≡ takes → ((gfn : ℕ) → facts.pending gfn ≡ true → past.causes gfn ≡ true)
    → ((gfn : ℕ) → past.due gfn ≡ true → facts.pending gfn ≡ true) → MayRead z facts past command (HasTaken id) id (frames_read facts command) takes
may_read z actor command id facts past takes reads works is caused due =
    let slot = reads_there z facts actor command id reads works in
    record {
      begun = refl;
      reads = reads;
      takes = is;
      harvest =
          subst (λ (s : Option MemorySlot). IsHarvest facts past command id (asked_frames facts.pending command s))
          (sym (ap (slot_at facts.slots) reads ∙ slot.is)) (reads_dirty facts past command id slot.slot slot.is caused due);
    }

read_closes : (z : Sizes) (line : Line) (command : Command) (id : ℕ) (facts : Facts) (takes : Bool) (f : Flat) → line.command ≡ command
    → MayRead z facts f.past command (HasTaken id) id (frames_read facts command) takes → IsAt line.actor facts (begun_reading line id) f
    → Closes z (by line (harvest takes id (frames_read facts command)) ∷ answers line (words_read facts command)) f
read_closes z line command id facts true f is may at =
    let event : EventKind = Harvested id (frames_read facts command) in
    more z (by line event) (answers line (words_read facts command)) f
    (allowed z line.actor event facts _ f at
    (inl (subst (λ (c : Command). MayRead z facts f.past c (HasTaken id) id (frames_read facts command) true) (sym is) may)))
    (answered z line (words_read facts command) (facts_after event facts) _ _ (step line.actor event facts _ f at) refl (rw is refl))
read_closes z line command id facts false f is may at =
    let event : EventKind = Shown id (frames_read facts command) in
    more z (by line event) (answers line (words_read facts command)) f
    (allowed z line.actor event facts _ f at
    (subst (λ (c : Command). MayRead z facts f.past c (HasTaken id) id (frames_read facts command) false) (sym is) may))
    (answered z line (words_read facts command) facts _ _ (step line.actor event facts _ f at) refl (rw is refl))

pub first_of_two : (b c : Bool) → (b && c) ≡ true → b ≡ true
first_of_two true c is = refl
first_of_two false c is = absurd (cc is)

-- It begins to read, and reads; or is answered at once.
taken_closes : (z : Sizes) (line : Line) (command : Command) (id : ℕ) (facts : Facts) (f : Flat) → line.command ≡ command → log_read command ≡ Some id
    → HasWork z facts line.actor command → ((gfn : ℕ) → facts.pending gfn ≡ true → f.past.causes gfn ≡ true)
    → IsAt line.actor facts (record { line = line; stage = Fresh; notes = no_notes }) f → Closes z (by line (Taken id) ∷ reading z line command id facts) f
taken_closes z line command id facts f is reads works caused at =
    let then_ : Flat = after (by line (Taken id)) f in
    let due : (gfn : ℕ) → then_.past.due gfn ≡ true → facts.pending gfn ≡ true =
    λ gfn was. ap (λ (g : Facts). g.pending gfn) (sym at.facts_are) ∙ first_of_two (f.facts.pending gfn) _ was in
    more z (by line (Taken id)) (reading z line command id facts) f
    (allowed z line.actor (Taken id) facts _ f at (inl (refl, rw is works, rw is reads)))
    (read_closes z line command id facts (takes_out z.mode command) then_ is
    (may_read z line.actor command id facts then_.past (takes_out z.mode command) reads works refl caused due)
    (subst (λ (stage : Stage). IsAt line.actor facts (record { line = line; stage = stage; notes = no_notes }) then_)
    (ap (λ (read : Option ℕ). stage_taken read (logs_left facts.slots line.command Fresh) id) (ap log_read is ∙ reads))
    (step line.actor (Taken id) facts _ f at)))

pub read_or_answer : (z : Sizes) (line : Line) (command : Command) (id : ℕ) (facts : Facts) (f : Flat) → line.command ≡ command → log_read command ≡ Some id
    → working z line command facts ≡ by line (Taken id) ∷ reading z line command id facts
    → ((gfn : ℕ) → facts.pending gfn ≡ true → f.past.causes gfn ≡ true)
    → IsAt line.actor facts (record { line = line; stage = Fresh; notes = no_notes }) f → Closes z (doing z line command facts) f
read_or_answer z line command id facts f is reads does caused at = by_answer (answer_at_once z facts.slots facts.migration line.actor command) refl
  where
    by_answer : (answer : Option Answer) → answer_at_once z facts.slots facts.migration line.actor command ≡ answer
        → Closes z (doing_by z line command facts answer) f
    by_answer None works =
        subst (λ (es : List Event). Closes z es f) (sym does) (taken_closes z line command id facts f is reads works caused at)
    by_answer (Some answer) says = answered z line answer facts _ f at refl (rw is says)
