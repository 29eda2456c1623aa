-- Host words, and the guest's operations on the words of frames (mmu.rst, "Memory").
use Rattle.std.specs.Prelude.{◌≡◌, ◌≢◌, ℕ, true, Option, Some, slice_index}
use Rattle.core_views.specs.declared.topics.OwnedFrame.{OwnedFrame}
use Rattle.core_views.specs.declared.topics.Topics.{Topics}
use Rattle.core_views.specs.declared.kind.Kind.{Kind}
use Rattle.core_views.specs.declared.sizes.Sizes.{Sizes}
use Rattle.core_views.specs.declared.trace.Op.{Op}
use Rattle.core_views.specs.declared.trace.Op.TheVariants.{Read}
use Rattle.core_views.specs.Held.{Held}
use Rattle.core_views.specs.Memory.{word_after_op}
use Rattle.spte_words.specs.declared.area.Area.TheVariants as area
use Rattle.spte_words.specs.Areas.{content_index, place}
use Rattle.spte_words.specs.HostWords.{host_frame, with_presence}
use Rattle.part_steps.specs.FrameTopics.{frame_left}
use Rattle.mmu_core.specs.forms.access.AccessSteps.{touch_of}
use Rattle.mmu_core.specs.machine.Machine.{World}
use Rattle.part_steps.specs.Tasks.{kind_of_task, map_of}
use Rattle.part_steps.specs.declared.part_step.PartStep.{PartStep}
use Rattle.part_steps.specs.declared.part_step.PartStep.TheVariants.{Host}
use Rattle.part_steps.specs.declared.part_step.PartStep.TheVariants as part
use Rattle.part_steps.specs.PageRuns.{one_look}
use Rattle.part_steps.specs.PartTasks.{page_looked, word_looked}
use Rattle.host_map.specs.declared.host.Changed.{Changed}
use Rattle.host_map.specs.declared.host.Changed.TheVariants.{Set, Lost}
use Rattle.mmu_core.specs.machine.View.{word_in}
use Rattle.step_seats.specs.Acts.{Acts}
use Rattle.step_seats.specs.Seats.{Seat}
use Rattle.step_seats.specs.Where.{WhereMade}
use Rattle.step_seats.specs.PartTurns.{MadePart, WherePartMade}

-- the host word of a page
abbrev pub host_in : Sizes → ℕ → World Held → ℕ
host_in z page w = word_in z w area.Host page

-- a word of a frame
abbrev pub content_in : Sizes → ℕ → ℕ → World Held → ℕ
content_in z frame word w = word_in z w area.Content (content_index (map_of z) frame word)

-- where that word stands among all words
abbrev pub content_place : Sizes → ℕ → ℕ → ℕ
content_place z frame word = place (map_of z) area.Content (content_index (map_of z) frame word)

-- the operation on that word, as the words of the machine see it: a load, a swap or an add
abbrev pub touch_kind : Sizes → ℕ → ℕ → Op → ℕ → Kind
touch_kind z frame word op note = kind_of_task z (record (touch_of op (content_index (map_of z) frame word)) { may_end = note })

-- After the operation the word holds what it stores there, and each other word of the machine what it held.
pub record Touched (z : Sizes) (frame word : ℕ) (op : Op) (w v : World Held) : Type 0 where
  pub stores : content_in z frame word v ≡ word_after_op op (content_in z frame word w)
  pub others : (i : ℕ) → i ≢ content_place z frame word → slice_index v.words i ≡ slice_index w.words i

-- The seat's actor made the operation on this word of a frame. The answer is what the word held where it was made; there the operation
-- stores what it stores, and nothing else.
pub record Touches (frame word : ℕ) (op : Op) (note answer : ℕ) (before after : Seat) : Type 0 where
  pub acts : Acts (touch_kind before.hand.state.sizes frame word op note) answer before after
  pub found : WhereMade (touch_kind before.hand.state.sizes frame word op note) before after (λ w v. answer ≡ content_in before.hand.state.sizes frame word w)
  pub leaves : WhereMade (touch_kind before.hand.state.sizes frame word op note) before after (Touched before.hand.state.sizes frame word op)

-- Where a read of the word was made, it left all words of the machine as they were.
abbrev pub LeavesWords : ℕ → ℕ → ℕ → Seat → Seat → Type 0
LeavesWords frame word note before after = WhereMade (touch_kind before.hand.state.sizes frame word Read note) before after (λ w v. v.words ≡ w.words)

-- The page's host word was this one where it was loaded.
abbrev pub WasHostWord : ℕ → ℕ → ℕ → Seat → Seat → Type 0
WasHostWord page note answer before after = WherePartMade (Host page) note before after (λ w v. answer ≡ host_in before.hand.state.sizes page w)

-- ---- exchanges of the host word that was looked up

-- The step is such an exchange: a page is brought in, or its host word is changed.
abbrev pub IsExchange : PartStep → Type 0
IsExchange part.Bring = Unit {0}
IsExchange (part.Change new_) = Unit {0}
IsExchange _ = ⊥

-- the host word that it puts in place of the one that was looked up
abbrev pub word_exchanged : PartStep → Topics → ℕ
word_exchanged part.Bring t = with_presence true (word_looked t.host)
word_exchanged (part.Change new_) t = new_
word_exchanged _ t = word_looked t.host

-- What came of it: the new word stands in the map where the word was still this one, and else another word was seen.
abbrev pub change_found : ℕ → Changed → ℕ
change_found was Set = was
change_found was (Lost seen) = seen

-- the host word that is held after it, for the same page
abbrev pub word_after_exchange : ℕ → Changed → ℕ
word_after_exchange new_ Set = new_
word_after_exchange new_ (Lost seen) = seen

-- what is held after a page was to be brought in: nothing else has changed
abbrev pub holding_word : ℕ → Changed → Topics → Topics
holding_word new_ answer t = record t { host = Some (record { page = page_looked t.host; word = word_after_exchange new_ answer }); row = one_look }

-- The frame that is owned after a change: where this was won, the page's old one stands in its place, if one was owned.
abbrev pub frame_held : Changed → ℕ → Option OwnedFrame → Option OwnedFrame
frame_held Set old_ owned = frame_left old_ owned
frame_held (Lost seen) old_ owned = owned

-- what is held after a change: the word and this frame, and nobody was watched since; nothing else has changed
abbrev pub holding_changed : ℕ → Changed → Topics → Topics
holding_changed new_ answer t = record t {
  host = Some (record { page = page_looked t.host; word = word_after_exchange new_ answer });
  row = one_look;
  watched = 0;
  frames = record t.frames { owned = frame_held answer (host_frame (word_looked t.host)) t.frames.owned };
}

abbrev pub after_exchange : PartStep → Changed → Topics → Topics
after_exchange part.Bring answer t = holding_word (with_presence true (word_looked t.host)) answer t
after_exchange (part.Change new_) answer t = holding_changed new_ answer t
after_exchange _ answer t = t

-- Another word than the one that was looked up was found.
abbrev pub WasAnother : ℕ → Changed → Type 0
WasAnother was Set = Unit {0}
WasAnother was (Lost seen) = seen ≢ was

-- The exchange was made, and answers by what it found.
pub record MakesExchange (step : PartStep) (note : ℕ) (answer : Changed) (before after : Seat) : Type 0 where
  pub made : MadePart step note (change_found (word_looked before.hand.topics.host) answer) before after
  pub differs : WasAnother (word_looked before.hand.topics.host) answer

-- Where it was made, the page's host word is the new one after it, if it won, and else the one that it saw, as before.
abbrev pub LeavesHostWord : Changed → PartStep → ℕ → Seat → Seat → Type 0
LeavesHostWord answer step note before after =
    WherePartMade step note before after
    (λ w v. (host_in before.hand.state.sizes (page_looked before.hand.topics.host) w ≡ change_found (word_looked before.hand.topics.host) answer)
    × (host_in before.hand.state.sizes (page_looked before.hand.topics.host) v ≡ word_after_exchange (word_exchanged step before.hand.topics) answer))
