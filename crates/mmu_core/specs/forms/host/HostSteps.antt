-- The order of steps of a line that changes a host page (mmu_notifier.rst; api.rst, KVM_CAP_SYNC_MMU): it looks at the page's host word, and is refused
-- where the page isn't the actor's own, or is part of a large one (mmu.rst, "Large pages"); within an invalidation of the guest frame that slots give to
-- the page it exchanges the word. A line that moves the page (page_migration.rst) claims a frame before, copies the page's words into it within the
-- invalidation, and after a watch gives the old frame back.
use Rattle.std.specs.Prelude.{◌+◌, ◌*◌, ℕ, Bool, true, false, List, [], ◌∷◌, is_some, ◌==◌, nat_lt, if◌then◌else◌}
use Rattle.core_views.specs.declared.answer.Answer.TheVariants.{Done, Moved, Refused}
use Rattle.core_views.specs.declared.answer.Refusal.TheVariants.{IsHuge, NoFrame, OutOfRange}
use Rattle.core_views.specs.declared.event.EventKind.{EventKind}
use Rattle.core_views.specs.declared.event.EventKind.TheVariants.{HostChanged, LookedAtHost}
use Rattle.core_views.specs.declared.host.HostEntry.{HostEntry}
use Rattle.core_views.specs.declared.place.BeginPlace.TheVariants as begins
use Rattle.core_views.specs.declared.place.EndPlace.TheVariants as ends
use Rattle.core_views.specs.declared.place.HostPlace.{HostPlace}
use Rattle.core_views.specs.declared.place.HostPlace.TheVariants.{Look, Claim, Begin, Copy, Store, Change, End, Watch, Free}
use Rattle.core_views.specs.declared.place.Place.TheVariants.{Host}
use Rattle.core_views.specs.declared.trace.HostChange.{HostChange}
use Rattle.core_views.specs.declared.trace.HostChange.TheVariants.{Allow, Evict, Move, Protect}
use Rattle.core_views.specs.declared.topics.Topics.{Topics}
use Rattle.core_views.specs.Held.{Held}
use Rattle.core_views.specs.HostChanges.{is_own}
use Rattle.mmu_core.specs.declared.invalidate.BeginNext.{BeginNext}
use Rattle.mmu_core.specs.declared.invalidate.BeginNext.TheVariants as begins_next
use Rattle.mmu_core.specs.declared.invalidate.EndNext.{EndNext}
use Rattle.mmu_core.specs.declared.invalidate.EndNext.TheVariants as ends_next
use Rattle.mmu_core.specs.declared.outcome.Outcome.{Outcome}
use Rattle.mmu_core.specs.declared.outcome.Outcome.TheVariants.{Goes, Ends}
use Rattle.part_steps.specs.declared.invalidations.Target.TheVariants as aim
use Rattle.part_steps.specs.declared.part_step.PartStep.{PartStep}
use Rattle.part_steps.specs.declared.part_step.PartStep.TheVariants as part
use Rattle.part_steps.specs.FrameTopics.{frame_owned, words_moved}
use Rattle.part_steps.specs.PartTasks.{word_looked}
use Rattle.spte_words.specs.HostWords.{host_allows_write, host_frame, host_level, host_present, with_frame, with_presence, with_writes}
use Rattle.mmu_core.specs.declared.claim.ClaimNext.{ClaimNext}
use Rattle.mmu_core.specs.declared.watch.WatchNext.{WatchNext}
use Rattle.mmu_core.specs.forms.access.AccessSteps.{exiting}
use Rattle.mmu_core.specs.orders.ClaimSteps.{Frames, claim_next, claim_outcome, claim_part, loads_last_word}
use Rattle.mmu_core.specs.orders.WatchSteps.{looked_at, watch_next, watch_place}
use Rattle.mmu_core.specs.orders.InvalidateSteps.{begin_next, begin_part, end_next, end_part}
use Rattle.core_views.specs.Host.{is_huge}

-- the entry that a host word is
abbrev pub entry_of : ℕ → HostEntry
entry_of word = record { frame = host_frame word; present = host_present word; writable = host_allows_write word; level = host_level word }

-- the host word that the change puts in place of another one, where this frame is owned
abbrev pub revised : HostChange → ℕ → ℕ → ℕ
revised Move frame word = with_frame frame word
revised Evict frame word = with_presence false word
revised Allow frame word = with_writes true word
revised Protect frame word = with_writes false word

-- the word that the line puts in place of the one that it looked at
abbrev pub word_put : HostChange → Topics → ℕ
word_put change t = revised change (frame_owned t.frames.owned) (word_looked t.host)

-- the content word that is copied next, and the one in which it is stored
abbrev pub word_to_copy : Held → ℕ
word_to_copy h = h.state.sizes.words * host_frame (word_looked h.topics.host) + words_moved h.topics.frames.owned

abbrev pub word_to_store : Held → ℕ
word_to_store h = h.state.sizes.words * frame_owned h.topics.frames.owned + words_moved h.topics.frames.owned

-- The line moves its page: it owns a frame.
abbrev pub moves : Topics → Bool
moves t = is_some t.frames.owned

-- the step of each place
abbrev pub host_part : HostPlace → ℕ → HostChange → Held → PartStep
host_part (Look moves) page change h = if is_own h.state.sizes h.state.actor page then part.Host page else part.Seq
host_part (Claim begun) page change h = claim_part Frames begun h.topics.frames.claim
host_part (Begin p) page change h = begin_part p (aim.Page page) h.topics
host_part Copy page change h = part.Copy (word_to_copy h)
host_part Store page change h = part.Store (word_to_store h)
host_part Change page change h = part.Change (word_put change h.topics)
host_part (End p) page change h = end_part p h.topics
host_part Watch page change h = part.Watch (looked_at h)
host_part Free page change h = part.GiveFrame

-- 1 where the line may end with the step
abbrev pub host_note : HostPlace → ℕ → Held → ℕ
host_note (Look moves) page h = 1
host_note (Claim begun) page h = if loads_last_word Frames begun h.state.sizes h.topics.frames.claim then 1 else 0
host_note (End ends.Release) page h = if moves h.topics then 0 else 1
host_note Free page h = 1
host_note _ page h = 0

-- The word maps its page as part of a large one.
abbrev pub maps_large : ℕ → Bool
maps_large word = is_huge (entry_of word)

-- after the look at its own page, which found v
abbrev pub after_look : Bool → ℕ → Outcome
after_look moves v = if maps_large v then Ends (Refused IsHuge) else Goes (Host (if moves then Claim false else Begin begins.Exclude))

-- after a step of its claim: the invalidation begins, or the line is refused, since no frame is free
abbrev pub after_frame_claim : ClaimNext → Outcome
after_frame_claim next = claim_outcome (Host (Claim true)) (Host (Begin begins.Exclude)) (Refused NoFrame) next

-- after a step of the invalidation's begin, and of its end, for a line that moves the page or not
abbrev pub after_begin : Bool → BeginNext → HostPlace
after_begin moves (begins_next.Goes p) = Begin p
after_begin moves begins_next.Begun = if moves then Copy else Change

abbrev pub after_end : Bool → EndNext → Outcome
after_end moves (ends_next.Goes p) = Goes (Host (End p))
after_end moves ends_next.Ended = if moves then Goes (Host Watch) else Ends Done

-- after a look of its watch
abbrev pub after_frame_watch : WatchNext → HostPlace
after_frame_watch next = watch_place Watch Free next

-- where the line stands after the step of its place, which found v
abbrev pub host_outcome : HostPlace → ℕ → Held → ℕ → Outcome
host_outcome (Look moves) page h v = if is_own h.state.sizes h.state.actor page then after_look moves v else Ends (Refused OutOfRange)
host_outcome (Claim begun) page h v = after_frame_claim (claim_next Frames begun h.state.sizes h.topics.frames.claim v)
host_outcome (Begin p) page h v = Goes (Host (after_begin (moves h.topics) (begin_next p h.state.sizes (aim.Page page) h.topics v)))
host_outcome Copy page h v = Goes (Host Store)
host_outcome Store page h v = Goes (Host (if nat_lt (words_moved h.topics.frames.owned + 1) h.state.sizes.words then Copy else Change))
host_outcome Change page h v = Goes (Host (if v == word_looked h.topics.host then End ends.Exclude else Change))
host_outcome (End p) page h v = after_end (moves h.topics) (end_next p v)
host_outcome Watch page h v = Goes (Host (after_frame_watch (watch_next h v)))
host_outcome Free page h v = Ends (Moved (host_frame (word_looked h.topics.host)))

-- What a step tells besides that its line begins or is answered: that it looked at its page, that it is refused for what it saw, or a frame, and that it
-- changed the page.
abbrev pub host_tells : HostPlace → ℕ → HostChange → Held → ℕ → List EventKind
host_tells (Claim begun) page change h v = exiting (host_outcome (Claim begun) page h v)
host_tells (Look moves) page change h v = if is_own h.state.sizes h.state.actor page then LookedAtHost page ∷ exiting (after_look moves v) else []
host_tells Change page change h v = if v == word_looked h.topics.host then HostChanged page (entry_of (word_put change h.topics)) ∷ [] else []
host_tells _ page change h v = []
