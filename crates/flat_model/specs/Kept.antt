-- What the interpreter keeps, and what it stands for.
use Rattle.std.specs.Prelude.{◌≡◌, ℕ, List, [], ◌∷◌, Bool, ◌==◌, ◌&&◌, unwrap_or}
use Rattle.std.specs.Map.{lookup}
use Rattle.core_views.specs.declared.answer.Answer.{Answer}
use Rattle.core_views.specs.declared.migration.Migration.{Migration}
use Rattle.core_views.specs.declared.trace.Command.{Command}
use Rattle.core_views.specs.declared.trace.Command.TheVariants.{SetSlot}
use Rattle.core_views.specs.declared.trace.Line.{Line}
use Rattle.core_views.specs.Traces.{IsSlotInRange}
use Rattle.core_views.specs.declared.sizes.Sizes.{Sizes}
use Rattle.core_views.specs.Refusals.{is_logged}
use Rattle.core_views.specs.SlotSets.{MemorySlots}
use Rattle.core_views.specs.Memory.{Memory}
use Rattle.core_views.specs.Flat.{Facts}
use Rattle.core_views.specs.Events.{facts_after_all}
use Rattle.core_views.specs.FlatHistory.{alone}
use Rattle.core_views.specs.Text.{answers_of}
use Rattle.flat_model.specs.Dirty.{is_dirty}
use Rattle.flat_model.specs.HostPages.{Changed, host_of}

-- content words, each at its host page and word
abbrev pub ContentWords : Type 0
ContentWords = List ((ℕ × ℕ) × ℕ)

-- how far the migration has come, the words that it has copied, and the guest frames that are yet to be copied, by rising number
pub record CopiesKept : Type 0 where
  pub state : Migration
  pub image : ContentWords
  pub to_copy : List ℕ

-- the machine's sizes, the slots by rising ID, the entries of the host pages that a line has changed, the words that were written, the dirty guest frames by
-- rising number, and the migration
pub record Kept : Type 0 where
  pub sizes : Sizes
  pub slots : MemorySlots
  pub changed : Changed
  pub words : ContentWords
  pub dirty : List ℕ
  pub copies : CopiesKept

abbrev pub is_place : ℕ × ℕ → ℕ × ℕ → Bool
is_place x y = (x.0 == y.0) && (x.1 == y.1)

-- A word that was not written is zero.
abbrev pub memory_of : ContentWords → Memory
memory_of words page word = unwrap_or (lookup (is_place (page, word)) words) 0

-- the flat facts that this stands for: the writes of just those slots are logged that have a dirty log
abbrev pub facts_of : Kept → Facts
facts_of kept = record {
  slots = kept.slots;
  host = host_of kept.changed;
  memory = memory_of kept.words;
  migration = kept.copies.state;
  armed = λ id. is_logged id kept.slots;
  pending = is_dirty kept.dirty;
  image = memory_of kept.copies.image;
  to_copy = is_dirty kept.copies.to_copy;
}

-- The command's numbers are in the ranges of a line of a trace, as far as it matters here.
abbrev pub IsInRange : Command → Type 0
IsInRange (SetSlot id slot) = IsSlotInRange slot
IsInRange _ = Unit {0}

-- The line, alone on a machine of these sizes, leads from these facts to those, and is answered so.
pub record GivesLine (z : Sizes) (line : Line) (before after : Facts) (answer : Answer) : Type 0 where
  pub leads : after ≡ facts_after_all (alone z line before) before
  pub tells : answers_of (alone z line before) ≡ record { number = line.number; actor = line.actor; answer = answer } ∷ []
