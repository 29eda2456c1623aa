-- Which steps of the parts wait for another actor, by what their actor holds and what they answer; and what such a step has seen.
use Rattle.std.specs.Prelude.{◌≡◌, ◌≢◌, ◌<◌, ℕ, Bool, true, false, ◌==◌, ◌&&◌, not, nat_lt}
use Rattle.core_views.specs.declared.progress.Seen.{Seen}
use Rattle.core_views.specs.declared.topics.Checked.{Checked}
use Rattle.core_views.specs.declared.topics.Checked.TheVariants.{Count}
use Rattle.core_views.specs.declared.topics.Hold.{Hold}
use Rattle.core_views.specs.declared.topics.Hold.TheVariants.{Owing}
use Rattle.core_views.specs.declared.topics.Invalidations.{Invalidations}
use Rattle.core_views.specs.declared.topics.Topics.{Topics}
use Rattle.core_views.specs.Held.{Held}
use Rattle.spte_words.specs.declared.area.Area.TheVariants as area
use Rattle.spte_words.specs.Areas.{place}
use Rattle.spte_words.specs.Bits.{has_bit}
pub use Rattle.part_steps.specs.SetHoldings.{own_open}
use Rattle.part_steps.specs.declared.part_step.PartStep.{PartStep}
use Rattle.part_steps.specs.declared.part_step.PartStep.TheVariants as part
use Rattle.part_steps.specs.PageTopics.{is_won, tried_bit}
use Rattle.part_steps.specs.PartBounds.{PartRests}
use Rattle.part_steps.specs.PartSteps.{PartNeeds}
use Rattle.part_steps.specs.PartTasks.{own_index, part_kind}
use Rattle.part_steps.specs.Tasks.{map_of}
use Rattle.part_steps.specs.ControlBits.{has_writer, in_section, has_to_flush}

-- The actor is to take itself out of the lock's readers: it saw a writer, in this word of the lock.
abbrev pub is_owing : Hold → Bool
is_owing (Owing word) = true
is_owing _ = false

abbrev pub word_owed : Hold → ℕ
word_owed (Owing word) = word
word_owed _ = 0

-- Of the check the count of open invalidations was loaded, and no more.
abbrev pub was_counted : Checked → Bool
was_counted Count = true
was_counted _ = false

-- It saw that others are open.
abbrev pub saw_open : Invalidations → Bool
saw_open n = was_counted n.checked && nat_lt (own_open n) n.count

-- The step waits: it takes back the try for the lock that found a writer, the page or frame that it tries is gone, it finds the lock taken, it gives the lock
-- back under which it saw invalidations of others open, it finds another actor in the guest or in a section, or a virtual processor that has yet to flush.
abbrev pub part_waits : PartStep → Topics → ℕ → Bool
part_waits part.Unshare t v = is_owing t.hold
part_waits part.Claim t v = not (is_won t.claim v)
part_waits part.Frame t v = not (is_won t.frames.claim v)
part_waits part.Exclude t v = not (v == 0)
part_waits part.Release t v = saw_open t.invalidations
part_waits (part.Watch index) t v = in_section v
part_waits (part.Await index) t v = has_to_flush v
part_waits _ t v = false

-- What a step that waits has seen, and the word that it has seen it in: the lock's word with the writer, for which it takes itself out of the
-- readers; the number of open invalidations, for which it gives the lock back; and else what it found in its own word.
abbrev pub part_seen : PartStep → Held → ℕ → Seen
part_seen part.Unshare h v = record { word = place (map_of h.state.sizes) area.Lock 0; value = word_owed h.topics.hold }
part_seen part.Release h v = record { word = place (map_of h.state.sizes) area.Count 0; value = h.topics.invalidations.count }
part_seen step h v = record { word = (part_kind h step 0).word; value = v }

-- What a step that waits has seen of another actor: taking itself out of the lock's readers, the lock's word with a writer; a claim, the map's word
-- without the bit of the page or frame that it tried, which was free; having the lock alone, the lock's word, which isn't 0; giving it back, how many
-- invalidations are open, more than its own; a watch, the state word of another actor in a section; and a flush, that of a virtual processor in the guest, of
-- which it is asked.
abbrev pub SawAnother : PartStep → Held → Seen → Type 0
SawAnother part.Unshare h seen = (seen.word ≡ place (map_of h.state.sizes) area.Lock 0) × (has_writer seen.value ≡ true)
SawAnother part.Claim h seen =
    (seen.word ≡ place (map_of h.state.sizes) area.PoolMap h.topics.claim.at)
    × (0 < h.topics.claim.seen)
    × (has_bit (tried_bit h.topics.claim) seen.value ≡ false)
SawAnother part.Frame h seen =
    (seen.word ≡ place (map_of h.state.sizes) area.FrameMap h.topics.frames.claim.at)
    × (0 < h.topics.frames.claim.seen)
    × (has_bit (tried_bit h.topics.frames.claim) seen.value ≡ false)
SawAnother part.Exclude h seen = (seen.word ≡ place (map_of h.state.sizes) area.Lock 0) × (seen.value ≢ 0)
SawAnother part.Release h seen = (seen.word ≡ place (map_of h.state.sizes) area.Count 0) × (own_open h.topics.invalidations < seen.value)
SawAnother (part.Await index) h seen = (seen.word ≡ place (map_of h.state.sizes) area.State index) × (has_to_flush seen.value ≡ true)
SawAnother (part.Watch index) h seen =
    (seen.word ≡ place (map_of h.state.sizes) area.State index)
    × (index ≢ own_index h)
    × (in_section seen.value ≡ true)
SawAnother _ h seen = ⊥

-- So does each step of a part that waits, whoever makes it, for a line of any form or for none.
abbrev pub WaitsSeeAnother : Type 0
WaitsSeeAnother =
    (step : PartStep) (h : Held) (v : ℕ) → PartRests h → PartNeeds step h → part_waits step h.topics v ≡ true
    → SawAnother step h (part_seen step h v)
