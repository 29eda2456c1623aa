-- What readings of dirty logs hold, in every run, in words over its events (api.rst, KVM_GET_DIRTY_LOG, KVM_CLEAR_DIRTY_LOG): each page that is written while
-- its log is on is dirty, or is in a reading that is answered after the write.
use Rattle.std.specs.Prelude.{◌≡◌, ◌⊎◌, ℕ, Bool, List, [], ◌∷◌, ◌++◌, true}
use Rattle.core_views.specs.declared.actor.Actor.{Actor}
use Rattle.core_views.specs.declared.actor.Actor.TheVariants.{Manager}
use Rattle.core_views.specs.declared.answer.Answer.TheVariants.{Bits}
use Rattle.core_views.specs.declared.event.Event.{Event}
use Rattle.core_views.specs.declared.event.EventKind.TheVariants.{Accessed, Answered, Harvested, Taken}
use Rattle.core_views.specs.declared.kind.Kind.{Kind}
use Rattle.core_views.specs.declared.sizes.Sizes.{Sizes}
use Rattle.core_views.specs.declared.trace.Line.{Line}
use Rattle.core_views.specs.declared.trace.Op.{Op}
use Rattle.core_views.specs.Events.{after_all, is_armed}
use Rattle.core_views.specs.Flat.{Flat, LineUnderWay, first_flat}
use Rattle.core_views.specs.FlatHistory.{harvest}
use Rattle.core_views.specs.Held.{Held}
use Rattle.core_views.specs.Lawful.{slot_read}
use Rattle.core_views.specs.LogCommands.{bits_for, is_among}
use Rattle.core_views.specs.Slots.{is_write}
use Rattle.flat_laws.specs.Images.{OnlyManages}
use Rattle.flat_laws.specs.Writes.{NoneReadsOut, WasArmed, WasWritten}
use Rattle.log_laws.specs.HarvestLaws.{IsAskedFor, NobodyWrites, made_by}
use Rattle.log_laws.specs.LoggedWrites.{IsLogEnded}
use Rattle.log_laws.specs.OneReader.{OnlyReads, StillReads}
use Rattle.mmu_core.specs.machine.Machine.{Step, World}
use Rattle.mmu_core.specs.machine.Worlds.{history}
use Rattle.core_theorem.specs.Runs.{InEveryRun, IsRun}

-- Only the manager manages the guest: no other actor begins a line but accesses, changes of host pages and splits.
abbrev pub OnlyTheManagerManages : Type 0
OnlyTheManagerManages = InEveryRun (λ z w ss. OnlyManages Manager (history w ss))

-- So it alone reads logs.
abbrev pub OnlyTheManagerReads : Type 0
OnlyTheManagerReads = InEveryRun (λ z w ss. OnlyReads Manager (history w ss))

-- The manager begins to read the log of the slot with the ID, and the next reading that it ends has these frames, which it takes out of the log (`takes`), or
-- leaves there. It has each frame for which its line asks that was dirty as it began, unless a line was under way then that writes the frame.
abbrev pub ReadingsMissNone : Type 0
ReadingsMissNone =
    (z : Sizes) (lines : List Line) (w : World Held) (ss : List (Step Kind)) (before between rest : List Event) (id : ℕ) (takes : Bool) (frames : List ℕ)
    → IsRun z lines w ss
    → history w ss ≡ before ++ (made_by Manager (Taken id) ∷ (between ++ (made_by Manager (harvest takes id frames) ∷ rest)))
    → StillReads Manager between → (gfn : ℕ) → (after_all before first_flat).facts.pending gfn ≡ true → NobodyWrites before gfn
    → IsAskedFor (after_all (before ++ (made_by Manager (Taken id) ∷ between)) first_flat) Manager id gfn → is_among gfn frames ≡ true

-- Each frame of a reading is one for which its line asks. And it was written, by a line that was under way at some moment since that reading began which took
-- the frame out last; or each page of its slot was dirty as its log began.
abbrev pub ReadingsHaveCauses : Type 0
ReadingsHaveCauses =
    (z : Sizes) (lines : List Line) (w : World Held) (ss : List (Step Kind)) (before rest : List Event) (actor : Actor) (id : ℕ) (takes : Bool)
    (frames : List ℕ) → IsRun z lines w ss → history w ss ≡ before ++ (made_by actor (harvest takes id frames) ∷ rest) → (gfn : ℕ)
    → is_among gfn frames ≡ true
    → (WasWritten (NoneReadsOut gfn) before gfn ⊎ WasArmed before gfn) × IsAskedFor (after_all before first_flat) actor id gfn

-- the event with which this actor's line is answered, after this history, with the bits of the frames that it has read
abbrev pub answer_with : List Event → Actor → List ℕ → Event
answer_with history actor frames =
    let f : Flat = after_all history first_flat in
    let u : LineUnderWay = f.under actor in
    made_by actor (Answered u.line.number (Bits (bits_for u.line.command (slot_read f.facts.slots u.line.command) frames)))

-- Among these events, which come after this history, a reading takes the frame out of a log, and its line is answered at once, with the bits of all that it
-- took out.
pub record IsInAnsweredReading (history since : List Event) (gfn : ℕ) : Type 0 where
  pub before : List Event
  pub actor : Actor
  pub id : ℕ
  pub frames : List ℕ
  pub rest : List Event
  pub since_is : since ≡ before ++ (made_by actor (Harvested id frames) ∷ answer_with (history ++ before) actor frames ∷ rest)
  pub has : is_among gfn frames ≡ true

-- A frame that is written while writes of its slot are logged is dirty from then on, or it is in a reading that is answered after the write, or the logging of
-- its slot has ended since. Nothing else makes it clean: no other change of the slot, and no log that begins.
abbrev pub WrittenFramesAreKept : Type 0
WrittenFramesAreKept =
    (z : Sizes) (lines : List Line) (w : World Held) (ss : List (Step Kind)) (before since : List Event) (actor : Actor) (gfn word : ℕ) (op : Op)
    (frame value : ℕ) → IsRun z lines w ss → history w ss ≡ before ++ (made_by actor (Accessed gfn word op frame value) ∷ since) → is_write op ≡ true
    → is_armed (after_all before first_flat).facts.slots (after_all before first_flat).facts.armed gfn ≡ true
    → ((after_all (history w ss) first_flat).facts.pending gfn ≡ true)
    ⊎ (IsInAnsweredReading (before ++ (made_by actor (Accessed gfn word op frame value) ∷ [])) since gfn
    ⊎ IsLogEnded (before ++ (made_by actor (Accessed gfn word op frame value) ∷ [])) since gfn)

-- All of these.
pub record ReadingsTellWrites : Type 0 where
  pub manages : OnlyTheManagerManages
  pub only : OnlyTheManagerReads
  pub complete : ReadingsMissNone
  pub caused : ReadingsHaveCauses
  pub written : WrittenFramesAreKept
