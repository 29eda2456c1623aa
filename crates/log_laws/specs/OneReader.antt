-- Where one actor alone reads dirty logs, as the manager does, no two readings overlap.
use Rattle.std.specs.Prelude.{◌≡◌, ◌≢◌, ◌⊎◌, ℕ, Bool, List, [], ◌∷◌, ◌++◌, false, true}
use Rattle.core_views.specs.declared.actor.Actor.{Actor}
use Rattle.core_views.specs.declared.event.Event.{Event}
use Rattle.core_views.specs.declared.event.EventKind.{EventKind}
use Rattle.core_views.specs.declared.event.EventKind.TheVariants.{Begun, Harvested, Shown, Taken}
use Rattle.core_views.specs.declared.sizes.Sizes.{Sizes}
use Rattle.core_views.specs.LogCommands.{is_among, reads_logs}
use Rattle.core_views.specs.Flat.{first_flat}
use Rattle.core_views.specs.FlatHistory.{harvest}
use Rattle.core_views.specs.Events.{after_all}
use Rattle.core_views.specs.Lawful.{IsLawful}
use Rattle.flat_laws.specs.Writes.{NoneIsTaken}
use Rattle.log_laws.specs.HarvestLaws.{IsAskedFor, IsStoppedAfter, NobodyWrites, made_by}

-- Of another actor than the reader the event begins no line that reads a log.
abbrev pub LeavesReading : Actor → Actor → EventKind → Type 0
LeavesReading reader actor (Begun line) = (actor ≡ reader) ⊎ (reads_logs line.command ≡ false)
LeavesReading _ _ _ = Unit {0}

-- Only this actor begins lines that read logs.
abbrev pub OnlyReads : Actor → List Event → Type 0
OnlyReads reader [] = Unit {0}
OnlyReads reader (e ∷ es) = LeavesReading reader e.actor e.kind × OnlyReads reader es

-- The event is not the end of a reading of this actor.
abbrev pub EndsNone : Actor → Actor → EventKind → Type 0
EndsNone reader actor (Harvested id frames) = actor ≢ reader
EndsNone reader actor (Shown id frames) = actor ≢ reader
EndsNone _ _ _ = Unit {0}

-- So is none of the events.
abbrev pub StillReads : Actor → List Event → Type 0
StillReads reader [] = Unit {0}
StillReads reader (e ∷ es) = EndsNone reader e.actor e.kind × StillReads reader es

-- In a lawful history in which one actor alone reads logs: from where it begins to read one until it has read it, no log begins to be read.
abbrev pub ReadingsAreApart : Type 0
ReadingsAreApart =
    (z : Sizes) (before between : List Event) (reader : Actor) (id : ℕ)
    → IsLawful z first_flat (before ++ (made_by reader (Taken id) ∷ between))
    → OnlyReads reader before → OnlyReads reader between → StillReads reader between → NoneIsTaken between

-- So a reading of such an actor, from its begin to its end, of which there is none between them, has read each frame for which it asks that was dirty as it
-- began, where this held then of the events before it and of the frame.
abbrev pub LoneReadingsReadAll : (List Event → ℕ → Type 0) → Type 0
LoneReadingsReadAll Held =
    (z : Sizes) (before between : List Event) (reader : Actor) (id : ℕ) (takes : Bool) (frames : List ℕ)
    → IsLawful z first_flat (before ++ (made_by reader (Taken id) ∷ (between ++ (made_by reader (harvest takes id frames) ∷ []))))
    → OnlyReads reader before → OnlyReads reader between → StillReads reader between
    → (gfn : ℕ) → (after_all before first_flat).facts.pending gfn ≡ true → Held before gfn
    → IsAskedFor (after_all (before ++ (made_by reader (Taken id) ∷ between)) first_flat) reader id gfn
    → is_among gfn frames ≡ true

-- No line was under way then that writes it.
abbrev pub LoneReadingsAreComplete : Type 0
LoneReadingsAreComplete = LoneReadingsReadAll NobodyWrites

-- The guest was stopped then, whoever writes it.
abbrev pub StoppedReadingsAreComplete : Type 0
StoppedReadingsAreComplete = LoneReadingsReadAll (λ before gfn. IsStoppedAfter before)
