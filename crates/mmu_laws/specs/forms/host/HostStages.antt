-- What a line that changes a host page has noted, and how far it has come, at each of its places.
use Rattle.std.specs.Prelude.{◌≡◌, ℕ, Some}
use Rattle.core_views.specs.declared.host.HostEntry.{HostEntry}
use Rattle.core_views.specs.declared.place.HostPlace.{HostPlace}
use Rattle.core_views.specs.declared.place.HostPlace.TheVariants as host_at
use Rattle.core_views.specs.declared.topics.Topics.{Topics}
use Rattle.core_views.specs.Flat.{Fresh, HasChangedHost, LineUnderWay, Notes}
use Rattle.core_views.specs.HostChanges.{Agree}
use Rattle.part_steps.specs.PartTasks.{word_looked}
use Rattle.mmu_core.specs.forms.host.HostSteps.{entry_of}

-- The line has noted its page, which is small, as its word was when it was looked at, but that the page may have been brought in since.
abbrev pub HasNoted : ℕ → Topics → Notes → Type 0
HasNoted page t notes = (seen : HostEntry) × (notes.host page ≡ Some seen) × Agree seen (entry_of (word_looked t.host)) × (seen.level ≡ 1)

-- A host line has done nothing yet, up to its change, and from its first step on it has looked at its page, which is small, and which its word maps so, but
-- that the page may have been brought in since; after it, it has changed the page, to the word that it has put.
abbrev pub HostUnder : HostPlace → ℕ → Topics → LineUnderWay → Type 0
HostUnder (host_at.Look moving) page t u = u.stage ≡ Fresh
HostUnder (host_at.End p) page t u = u.stage ≡ HasChangedHost (entry_of (word_looked t.host))
HostUnder host_at.Watch page t u = u.stage ≡ HasChangedHost (entry_of (word_looked t.host))
HostUnder host_at.Free page t u = u.stage ≡ HasChangedHost (entry_of (word_looked t.host))
HostUnder _ page t u = (u.stage ≡ Fresh) × HasNoted page t u.notes
