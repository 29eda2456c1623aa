-- What the step of a reading of a dirty log leaves, whatever the form of its line: the log, the flat state, and what is read after the last word.
use Rattle.std.proofs.Common.{◌≡◌, ◌++◌, List, [], ℕ, refl, ap, ◌∙◌}
use Rattle.std.specs.Prelude.{Bool, true, false, Option, Some}
use Rattle.core_views.specs.declared.event.Event.{Event}
use Rattle.core_views.specs.declared.event.EventKind.{EventKind}
use Rattle.core_views.specs.declared.place.LogPlace.{LogPlace}
use Rattle.core_views.specs.declared.place.LogPlace.TheVariants.{Take, Root, Walk, Protect, Release, Ask, Await}
use Rattle.core_views.specs.declared.place.Place.{Place}
use Rattle.core_views.specs.declared.sizes.Sizes.{Sizes}
use Rattle.core_views.specs.declared.trace.Command.{Command}
use Rattle.core_views.specs.declared.trace.Line.{Line}
use Rattle.core_views.specs.Events.{after_all}
use Rattle.core_views.specs.Flat.{Flat}
use Rattle.core_views.specs.Held.{Held}
use Rattle.core_views.specs.Past.{Past}
use Rattle.spte_words.specs.declared.area.Area.TheVariants as area
use Rattle.part_steps.specs.declared.part_step.PartStep.{PartStep}
use Rattle.part_steps.specs.declared.part_step.PartStep.TheVariants as part
use Rattle.part_steps.specs.PartTasks.{own_index}
use Rattle.part_steps.specs.SweepTopics.{has_entry}
use Rattle.mmu_core.specs.declared.log_next.LogNext.TheVariants as comes
use Rattle.mmu_core.specs.lines.Forms.{note_at, outcome_at}
use Rattle.mmu_core.specs.forms.log.LogSteps.{slot_asked, word_end}
use Rattle.mmu_core.specs.forms.log.LogSteps.{log_next, log_part}
use Rattle.mmu_core.specs.forms.log.LogTells.{log_tells}
use Rattle.mmu_core.specs.machine.Outcomes.{answering}
use Rattle.mmu_core.specs.machine.Steps.{beginning}
use Rattle.mmu_core.specs.machine.View.{View, answer_in, stepped, words_after}
use Rattle.mmu_core.proofs.lines.EitherPlace.{either_place}
use Rattle.log_invariant.proofs.StepPlaces.{takes_there}
use Rattle.log_invariant.proofs.LogWords.{is_on_log, log_same}
use Rattle.mmu_core.proofs.forms.log.ReadingPlaces.{GoesOnReading, reading_goes}
use Rattle.mmu_core.proofs.machine.Stepping.{IsStep}
use Rattle.mmu_core.specs.declared.outcome.Outcome.{Outcome}
use Rattle.mmu_core.specs.forms.log.Readings.{has_begun, reading_at}
use Rattle.part_steps.specs.declared.task.Task.{Task}
use Rattle.mmu_laws.proofs.flat.BeginningsKept.{told_later}
use Rattle.mmu_laws.proofs.forms.log.BegunLater.{begun_later}
use Rattle.mmu_laws.proofs.flat.FlatKept.{told_events, told_kinds}
use Rattle.mmu_laws.specs.forms.log.ReadSoFar.{HasReadTo, ReadSoFar}
use Rattle.mmu_laws.proofs.forms.log.ReadingSteps.{told_after}
use Rattle.mmu_laws.proofs.flat.Told.{told}
use Rattle.mmu_core.proofs.forms.log.ReadingPlaces.{reading_is}
use Rattle.mmu_core.specs.forms.access.AccessSteps.{task_by}
use Rattle.mmu_core.specs.lines.PartAt.{touch_at}
use Rattle.mmu_core.specs.machine.Steps.{task_at}
use Rattle.mmu_laws.proofs.forms.log.ReadingBegins.{begun_flat}

-- ---- places after the last word

-- The reading has taken all words out.
abbrev pub is_later : LogPlace → Bool
is_later Root = true
is_later (Walk page) = true
is_later (Protect page) = true
is_later Release = true
is_later Ask = true
is_later Await = true
is_later _ = false

-- All words are read, of the hand's slot.
abbrev pub HasReadAll : Command → Held → (ℕ → ℕ) → Past → Type 0
HasReadAll command k l past = HasReadTo l (slot_asked k command) command true k.harvest (word_end (slot_asked k command) command) past

-- So it is where the reading stands at such a place.
pub later_read : (to : LogPlace) (command : Command) (k : Held) (l : ℕ → ℕ) (past : Past) → is_later to ≡ true → HasReadAll command k l past
    → ReadSoFar (Some (record { place = to; command = command })) k l past
later_read Root command k l past is H begun_ = H
later_read (Walk page) command k l past is H begun_ = H
later_read (Protect page) command k l past is H begun_ = H
later_read Release command k l past is H begun_ = H
later_read Ask command k l past is H begun_ = H
later_read Await command k l past is H begun_ = H
later_read _ command k l past is H begun_ = absurd (cc is)

-- ---- after the step

module _ (z : Sizes) (v : View) (f : Flat) (a : ℕ) (line : Line) (own_command : Command) (p : Place) (command : Command)
    (S : IsStep z v a line own_command p) where
  abbrev h : Held
  h = v.hand a

  abbrev found : ℕ
  found = answer_in (task_at p own_command h) v.words

  abbrev end : Flat
  end = after_all (told_events v a line own_command p) f

  abbrev At : LogPlace → Type 0
  At q = reading_at p own_command h ≡ Some (record { place = q; command = command })

  abbrev GoesOn : LogPlace → LogPlace → Type 0
  GoesOn q to = log_next q command h found ≡ comes.Goes to

  goes : (q to : LogPlace) (at : At q) → GoesOn q to → GoesOnReading p own_command h found (record { place = q; command = command }) to
  goes q to at is = reading_goes p own_command h found _ to at is

  -- A step that takes no bits leaves the log.
  off_log : (q : LogPlace) → takes_there q ≡ false → is_on_log (log_part q h command) ≡ false
  off_log (Take b) other = absurd (cc other)
  off_log (Walk page) other =
      either_place (λ (step : PartStep). is_on_log step ≡ false) (has_entry h.topics.walk) (part.WalkAnew _) (part.Walk _) refl refl
  off_log _ other = refl

  pub same_log : (q : LogPlace) → At q → takes_there q ≡ false → (stepped a line own_command p v).words area.Log ≡ v.words area.Log
  same_log q at other =
      ap (λ (task : Task). words_after task v.words area.Log) (ap (λ (s : Option PartStep). task_by s h (note_at p own_command h) (touch_at own_command h))
      (reading_is p own_command h _ at).part)
      ∙ log_same (log_part q h command) (own_index h) h.topics (note_at p own_command h) v.words (off_log q other)

  -- What it tells, where the order goes on.
  kinds_are : (q to : LogPlace) (at : At q) → GoesOn q to → told_kinds v a line own_command p ≡ log_tells q command h found ++ []
  kinds_are q to at is =
      ap (λ (told_ : List EventKind). told_ ++ answering (outcome_at p own_command h found) line) (goes q to at is).tells
      ∙ ap (λ (o : Outcome). log_tells q command h found ++ answering o line) (goes q to at is).goes

  -- One that tells nothing leaves the flat state.
  pub silent : (q to : LogPlace) (at : At q) → GoesOn q to → has_begun q ≡ true → log_tells q command h found ≡ [] → ◌≡◌ {A = Flat} end f
  silent q to at is begun_ none =
      ap (λ (es : List Event). after_all es f)
      (told_later z v a line own_command p S (begun_later p own_command h _ at begun_)
      ∙ ap (λ (kinds : List EventKind). told h.state.actor kinds) (kinds_are q to at is ∙ ap (λ (kinds : List EventKind). kinds ++ []) none))

  -- One that tells these kinds leaves what they leave, after the begin of its line.
  pub tells_on : (q to : LogPlace) (at : At q) → GoesOn q to → (kinds : List EventKind) → log_tells q command h found ≡ kinds
      → ◌≡◌ {A = Flat} end (after_all (told h.state.actor (kinds ++ [])) (begun_flat h.state.actor h.state.place line f))
  tells_on q to at is kinds same =
      ap (λ (tells : List EventKind). after_all (told h.state.actor (beginning h.state.place line ++ tells)) f)
      (kinds_are q to at is ∙ ap (λ (kinds : List EventKind). kinds ++ []) same)
      ∙ told_after h.state.actor (beginning h.state.place line) (kinds ++ []) f
