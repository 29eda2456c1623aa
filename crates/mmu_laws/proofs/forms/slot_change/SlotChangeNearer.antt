-- Each step of a slot line that doesn't wait leaves it fewer steps, beside other actors too.
use Rattle.std.proofs.Common.{◌≡◌, ◌+◌, ◌-◌, ◌*◌, ◌<◌, ◌≤◌, ℕ, refl, ap, arith}
use Rattle.std.specs.Prelude.{Bool, true, false, ◌==◌, nat_lt, not, if◌then◌else◌, is_some, Option, Some, None}
use Rattle.core_views.specs.declared.answer.Answer.TheVariants.{Starved}
use Rattle.core_views.specs.declared.place.Place.TheVariants as place
use Rattle.core_views.specs.declared.place.SlotChangePlace.{SlotChangePlace}
use Rattle.core_views.specs.declared.place.SlotChangePlace.TheVariants.{AtOnce, Claim, Fill, Role, Arm, Begin, Exclude, Count, Close, Publish, Release}
use Rattle.core_views.specs.declared.place.SlotChangePlace.TheVariants.{End, Watch, WriteProtect, Give, Clear}
use Rattle.core_views.specs.declared.place.FrameRange.{FrameRange}
use Rattle.core_views.specs.declared.place.WriteProtectPlace.TheVariants as protect
use Rattle.core_views.specs.declared.trace.Slot.{Slot}
use Rattle.core_views.specs.LogCommands.{is_all_set}
use Rattle.core_views.specs.SlotSets.{MemorySlots}
use Rattle.part_steps.specs.LogHoldings.{log_begin, log_end}
use Rattle.mmu_core.specs.declared.write_protect.WriteProtectNext.{WriteProtectNext}
use Rattle.mmu_core.specs.declared.write_protect.WriteProtectNext.TheVariants as protects_next
use Rattle.mmu_core.specs.orders.WriteProtectSteps.{protect_next, protect_part}
use Rattle.mmu_core.proofs.orders.ProtectKnown.{protect_falls, protect_left_after}
use Rattle.mmu_core.proofs.slots.SlotChangeArms.{armed_is}
use Rattle.core_views.specs.declared.place.BeginPlace.TheVariants as begins
use Rattle.core_views.specs.declared.place.EndPlace.TheVariants as ends
use Rattle.core_views.specs.declared.sizes.Sizes.{Sizes}
use Rattle.core_views.specs.declared.topics.Topics.{Topics}
use Rattle.core_views.specs.declared.trace.Command.{Command}
use Rattle.core_views.specs.Held.{Held}
use Rattle.core_views.specs.Sizes.{actors_of}
use Rattle.core_views.specs.SlotCommands.{arms, slot_armed, slot_invalidated}
use Rattle.core_views.specs.declared.trace.Command.TheVariants.{Access, ChangeHost, ChangeRun, ClearLog, DeleteSlot, GetLog, Migrate, SetLog, SetSlot, Split}
use Rattle.spte_words.specs.Areas.{words_of_bits}
use Rattle.mmu_core.specs.declared.invalidate.BeginNext.{BeginNext}
use Rattle.mmu_core.specs.declared.invalidate.BeginNext.TheVariants as begins_next
use Rattle.mmu_core.specs.declared.invalidate.EndNext.{EndNext}
use Rattle.mmu_core.specs.declared.invalidate.EndNext.TheVariants as ends_next
use Rattle.mmu_core.specs.orders.InvalidateSteps.{begin_next, begin_part, end_next, end_part}
use Rattle.part_steps.specs.SetHoldings.{own_open}
use Rattle.part_steps.specs.SetWords.{set_role}
use Rattle.mmu_laws.proofs.turns.BeginNearer.{begin_falls, begin_left_after}
use Rattle.mmu_laws.proofs.forms.host.HostNearer.{end_left_after, end_less}
use Rattle.mmu_core.specs.declared.outcome.Outcome.TheVariants.{Goes}
use Rattle.part_steps.specs.declared.part_step.PartStep.TheVariants as part
use Rattle.mmu_core.specs.forms.slot_change.SlotChangeLeft.{arms_left, begins_left, protects_left, slot_change_left}
use Rattle.mmu_core.specs.forms.slot_change.SlotChangeSteps.{after_grace, after_protect, after_set_begin, after_set_end, frames_of, log_target, looked_at}
use Rattle.mmu_core.specs.forms.slot_change.SlotChangeSteps.{slot_change_outcome, slot_change_part, slot_target, watch_next}
use Rattle.mmu_core.specs.declared.claim.FreeMap.TheVariants.{Pages}
use Rattle.mmu_core.specs.orders.ClaimSteps.{claim_left, claim_next, claim_part}
use Rattle.mmu_core.specs.lines.PartWaits.{part_waits}
use Rattle.part_steps.specs.PartBounds.{PartRests}
use Rattle.part_steps.specs.PartTasks.{own_index, words_filled}
use Rattle.part_steps.specs.PartTopics.{part_topics}
use Rattle.mmu_core.specs.forms.slot_change.SlotChangeKnows.{SlotChangeKnows}
use Rattle.part_steps.specs.PageTopics.{filled_more}
use Rattle.mmu_core.proofs.lines.EitherPlace.{either_place, one_place}
use Rattle.mmu_core.proofs.pages.Owned.{more_filled}
use Rattle.mmu_laws.proofs.turns.Nearer.{Nearer, claim_nearer, watch_nearer}
use Rattle.mmu_core.proofs.orders.ClaimMade.{claim_falls, claim_made, word_there}
use Rattle.mmu_core.proofs.orders.WatchMade.{watch_falls, watch_made}

-- where it goes on at a place of a slot line
abbrev At : SlotChangePlace → Command → Sizes → Topics → ℕ → Type 0
At p c y u n = Nearer (Goes (place.SlotChange p)) c y u n

-- A line that invalidates a slot has that to do, and one that begins a dirty log its words to set.
invalidates : (slots : MemorySlots) (c : Command) (z : Sizes) → is_some (slot_invalidated slots c) ≡ true
    → begins_left c z ≡ 2 * z.vcpus + 138 + 5 * z.pages
invalidates slots (SetLog id on) z some = absurd (cc some)
invalidates slots (Access gfn word op) z some = refl
invalidates slots (ChangeHost page change) z some = refl
invalidates slots (ChangeRun page change) z some = refl
invalidates slots (SetSlot id slot) z some = refl
invalidates slots (DeleteSlot id) z some = refl
invalidates slots (GetLog id) z some = refl
invalidates slots (Migrate call) z some = refl
invalidates slots (Split gfn) z some = refl
invalidates slots (ClearLog id first count words) z some = refl

arms_some : (slots : MemorySlots) (c : Command) → is_some (slot_armed slots c) ≡ true → arms c ≡ true
arms_some slots (SetLog id true) some = refl
arms_some slots (SetLog id false) some = absurd (cc some)
arms_some slots (Access gfn word op) some = absurd (cc some)
arms_some slots (ChangeHost page change) some = absurd (cc some)
arms_some slots (ChangeRun page change) some = absurd (cc some)
arms_some slots (SetSlot id slot) some = absurd (cc some)
arms_some slots (DeleteSlot id) some = absurd (cc some)
arms_some slots (GetLog id) some = absurd (cc some)
arms_some slots (Migrate call) some = absurd (cc some)
arms_some slots (Split gfn) some = absurd (cc some)
arms_some slots (ClearLog id first count words) some = absurd (cc some)

-- after a step of its invalidation's begin, and of its end
begun_nearer : (next : BeginNext) (c : Command) (z : Sizes) (u : Topics) (n : ℕ) → begin_left_after next z z.pages u < n
    → At (after_set_begin next) c z u (13 + actors_of z + protects_left c z + n)
begun_nearer (begins_next.Goes p) c z u n less = omega (arith, less)
begun_nearer begins_next.Begun c z u n less = omega (arith, less)

ended_nearer : (next : EndNext) (c : Command) (z : Sizes) (u : Topics) (n : ℕ) → end_left_after next < n
    → At (after_set_end next) c z u (3 + actors_of z + protects_left c z + n)
ended_nearer (ends_next.Goes p) c z u n less = omega (arith, less)
ended_nearer ends_next.Ended c z u n less = omega (arith, less)

-- After the watch writes may be left to forbid.
grace_left : (slots : MemorySlots) (c : Command) (slot : Option Slot) (z : Sizes) (u : Topics) → slot_armed slots c ≡ slot
    → ((s : Slot) → slot_armed slots c ≡ Some s → s.pages ≤ z.pages) → slot_change_left (after_grace z slot) c z u ≤ 3 + protects_left c z
grace_left slots c None z u is few = omega arith
grace_left slots c (Some slot) z u is few =
    either_place (λ q. slot_change_left q c z u ≤ 3 + protects_left c z) (is_all_set z.mode) Clear (WriteProtect (frames_of slot) protect.Exclude) (omega arith)
    (let pages = few slot is in
    let left = ap (λ (b : Bool). if b then 2 * z.vcpus + 4 + 5 * z.pages else 0) (armed_is slots c slot is) in
    omega (arith, pages, left))

-- after a step that forbids writes
protected_nearer : (next : WriteProtectNext) (range : FrameRange) (c : Command) (z : Sizes) (u : Topics) (n : ℕ) → protect_left_after next z range u < n
    → At (after_protect range next) c z u (2 + n)
protected_nearer (protects_next.Goes p) range c z u n less = omega (arith, less)
protected_nearer protects_next.Over range c z u n less = omega (arith, less)

pub slot_change_nearer : (p : SlotChangePlace) (h : Held) (command : Command) (v : ℕ) → PartRests h → SlotChangeKnows p command h
    → part_waits (slot_change_part p h command) h.topics v ≡ false
    → Nearer (slot_change_outcome p command h v) command h.state.sizes (part_topics (slot_change_part p h command) h.topics v)
    (slot_change_left p command h.state.sizes h.topics)
slot_change_nearer (AtOnce refusal) h command v R K goes = tt
slot_change_nearer (Claim begun) h command v R K goes =
    let low = word_there Pages begun h.state.sizes h.topics.claim R.sizes K.1 in
    let less = claim_falls h.state.sizes Pages begun h.topics v _ _ _ (claim_made h.state.sizes Pages begun h.topics v) goes low in
    let left = claim_left Pages begun h.state.sizes h.topics.claim in
    claim_nearer Pages (claim_next Pages begun h.state.sizes h.topics.claim v) (place.SlotChange (Claim true)) (place.SlotChange Fill) Starved command
    h.state.sizes (part_topics (claim_part Pages begun h.topics.claim) h.topics v)
    (526 + actors_of h.state.sizes + begins_left command h.state.sizes + arms_left command h.state.sizes + protects_left command h.state.sizes) left less
    refl (omega arith)
slot_change_nearer Fill h command v R K goes =
    let room = K.1.1 in
    let more = more_filled h.topics.owned v K.1.0 in
    one_place
    (λ q. At q command h.state.sizes (record h.topics { owned = filled_more h.topics.owned v }) (slot_change_left Fill command h.state.sizes h.topics))
    (nat_lt (words_filled h.topics.owned + 1) 512) Fill Role (λ e. omega (arith, room, more)) (λ e. omega (arith, room))
slot_change_nearer Role h command v R K goes =
    one_place (λ q. At q command h.state.sizes (part_topics (part.Role set_role) h.topics v) (slot_change_left Role command h.state.sizes h.topics))
    (is_some (slot_invalidated h.slots command)) (Begin begins.Exclude) (if is_some (slot_armed h.slots command) then Arm false else Exclude)
    (λ e. let all = invalidates h.slots command h.state.sizes e in omega (arith, all))
    (λ e.
    one_place (λ q. At q command h.state.sizes (part_topics (part.Role set_role) h.topics v) (slot_change_left Role command h.state.sizes h.topics))
    (is_some (slot_armed h.slots command)) (Arm false) Exclude
    (λ some.
    let words = ap (λ (b : Bool). if b then words_of_bits h.state.sizes.pages else 0) (arms_some h.slots command some) in
    omega (arith, words))
    (λ none. omega arith))
slot_change_nearer (Arm true) h command v R K goes =
    let slot = log_target h command in
    let lt = (K.4 refl).1 in
    let pages = K.3.fits.pages in
    either_place (λ q. At q command h.state.sizes (record h.topics { next_log_word = h.topics.next_log_word + 1 })
    (slot_change_left (Arm true) command h.state.sizes h.topics)) (nat_lt (h.topics.next_log_word + 1) (log_end slot)) (Arm true) Exclude
    (omega (arith, lt, pages)) (omega (arith, lt, pages))
slot_change_nearer (Arm false) h command v R K goes =
    let slot = log_target h command in
    let some = K.3.some in
    let pages = K.3.fits.pages in
    either_place (λ q. At q command h.state.sizes (record h.topics { next_log_word = log_begin slot + 1 })
    (slot_change_left (Arm false) command h.state.sizes h.topics)) (nat_lt (log_begin slot + 1) (log_end slot)) (Arm true) Exclude
    (omega (arith, some, pages)) (omega (arith, some, pages))
slot_change_nearer (WriteProtect range p) h command v R K goes =
    protected_nearer (protect_next p h.state.sizes range h.topics v) range command h.state.sizes (part_topics (protect_part p range h.topics) h.topics v) _
    (protect_falls p h.state.sizes range h.topics v K.2.low R.level K.1 goes)
slot_change_nearer (Begin p) h command v R K goes =
    let target = slot_target h command in
    let pages = K.3.pages in
    begun_nearer (begin_next p h.state.sizes target h.topics v) command h.state.sizes (part_topics (begin_part p target h.topics) h.topics v) _
    (begin_falls p h.state.sizes h.state.sizes.pages target h.topics v (omega (arith, pages)) R.row R.level K.1 goes)
slot_change_nearer Release h command v R K goes =
    either_place
    (λ q. At q command h.state.sizes (part_topics part.Release h.topics v)
    (slot_change_left Release command h.state.sizes h.topics)) h.topics.invalidations.opened
    (End ends.Exclude) Watch (omega arith) (omega arith)
slot_change_nearer (End p) h command v R K goes =
    ended_nearer (end_next p v) command h.state.sizes (part_topics (end_part p h.topics) h.topics v) _ (end_less p h.topics v goes)
slot_change_nearer Exclude h command v R K goes =
    one_place (λ q. At q command h.state.sizes (part_topics part.Exclude h.topics v) (slot_change_left Exclude command h.state.sizes h.topics))
    (v == 0) Count Exclude (λ e. omega arith)
    (λ e. absurd (cc (goes, ap not e)))
slot_change_nearer Count h command v R K goes =
    either_place (λ q. At q command h.state.sizes (part_topics part.Count h.topics v) (slot_change_left Count command h.state.sizes h.topics))
    (v == own_open h.topics.invalidations) Publish
    Close (omega arith) (omega arith)
slot_change_nearer Close h command v R K goes = let sees = K.3 in absurd (cc (goes, sees))
slot_change_nearer Watch h command v R K goes =
    let less = watch_falls (own_index h) (actors_of h.state.sizes) h.topics v _ _ (watch_made h v) goes K.2 in
    let left = actors_of h.state.sizes - h.topics.watched in
    watch_nearer (λ q. place.SlotChange q) (watch_next h v) Watch (after_grace h.state.sizes (slot_armed h.slots command)) command h.state.sizes
    (part_topics (part.Watch (looked_at h)) h.topics v) (3 + protects_left command h.state.sizes) left less refl
    (grace_left h.slots command (slot_armed h.slots command) h.state.sizes (part_topics (part.Watch (looked_at h)) h.topics v) refl
    (λ slot is. let fits = K.3 slot is in let pages = fits.pages in omega (arith, pages)))
slot_change_nearer Give h command v R K goes = tt
slot_change_nearer _ h command v R K goes = omega arith
