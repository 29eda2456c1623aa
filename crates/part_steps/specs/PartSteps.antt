-- The steps of the machine's parts: what each needs of the hand, and which word it is on.
use Rattle.std.specs.Prelude.{◌≡◌, ◌≢◌, ◌^◌, ◌<◌, ◌≤◌, ◌⊎◌, Bool, true, false, None, ◌+◌, ◌&&◌}
use Rattle.core_views.specs.declared.actor.Actor.{Actor}
use Rattle.core_views.specs.declared.actor.Actor.TheVariants.{Vcpu}
use Rattle.core_views.specs.declared.topics.Hold.{Hold}
use Rattle.core_views.specs.declared.topics.Hold.TheVariants.{Loose, Shared, Owing, Exclusive}
use Rattle.core_views.specs.declared.topics.Stay.TheVariants.{Outside, Guest, Section}
use Rattle.core_views.specs.declared.topics.Topics.{Topics}
use Rattle.core_views.specs.Held.{Held}
pub use Rattle.core_views.specs.Held.{has_line}
use Rattle.core_views.specs.Sizes.{actors_of}
use Rattle.spte_words.specs.Areas.{words_of_bits}
use Rattle.part_steps.specs.declared.part_step.PartStep.{PartStep}
use Rattle.part_steps.specs.declared.part_step.PartStep.TheVariants as part
use Rattle.part_steps.specs.PartTasks.{own_index, page_owned, word_looked}
use Rattle.part_steps.specs.FrameHoldings.{MayCopy, MayGiveFrame, MayStore, revises}
use Rattle.part_steps.specs.PartHoldings.{next_watched, OwnsPage, HasToFill, HasRoleToSet, HoldsSet, IsOver, MayBring, OwnsTable, MayEnter}
use Rattle.part_steps.specs.PartHoldings.{IsEnd, MapsRun, MayFix, MayLink, MayMark, SawNoWrites}
pub use Rattle.part_steps.specs.ClaimHoldings.{GoesOnToWord}
use Rattle.part_steps.specs.SetHoldings.{MayGiveOld, MayPublish}
use Rattle.part_steps.specs.InvalidationHoldings.{MayAsk, MayChange, MayChangeNext, MayCount, MayEndInvalidation, MaySetEnd, MaySetStart, OpensOnOwnPages}
use Rattle.part_steps.specs.SweepHoldings.{MaySweep, MayWalkAnew, MayZap}
use Rattle.part_steps.specs.LockHoldings.{MayRelease}
use Rattle.part_steps.specs.LogHoldings.{MayArm, MayProtect, MayReadLog, MayTake}
use Rattle.part_steps.specs.InvalidationRange.{has_found_looked}
use Rattle.part_steps.specs.SweepTopics.{is_sweeping, walks_anew}
use Rattle.part_steps.specs.StayTopics.{is_alone}

abbrev pub IsVcpu : Actor → Type 0
IsVcpu (Vcpu n) = Unit {0}
IsVcpu _ = ⊥

-- The actor counts as a reader of the lock.
abbrev pub counts : Hold → Bool
counts Loose = false
counts Shared = true
counts (Owing word) = true
counts Exclusive = false

-- The step is one of lines alone, in their order: it changes an entry of the tables, is on a word of the dirty log, or is of a publication, of an
-- invalidation or of a change or move of a host page. No actor makes it that has no line left.
abbrev pub needs_line : PartStep → Bool
needs_line (part.Link gfn) = true
needs_line (part.Leaf gfn write) = true
needs_line (part.Fix gfn) = true
needs_line part.Mark = true
needs_line part.Publish = true
needs_line part.Clear = true
needs_line part.GiveOld = true
needs_line (part.Sweep gfn) = true
needs_line (part.WalkAnew gfn) = true
needs_line (part.SetStart first gfn) = true
needs_line (part.SetEnd last gfn) = true
needs_line (part.SetCount count) = true
needs_line (part.SetSeq seq) = true
needs_line (part.Zap gfn) = true
needs_line (part.Ask index) = true
needs_line (part.Await index) = true
needs_line (part.Change new_) = true
needs_line (part.HostOn page) = true
needs_line part.ChangeNext = true
needs_line part.Bring = true
needs_line (part.FrameMap word) = true
needs_line part.Frame = true
needs_line (part.Copy index) = true
needs_line (part.Store index) = true
needs_line part.GiveFrame = true
needs_line (part.Take word mask) = true
needs_line (part.Protect gfn) = true
needs_line (part.Peek word) = true
needs_line (part.Arm word bits) = true
needs_line _ = false

-- what a step needs of the hand
abbrev pub PartNeeds : PartStep → Held → Type 0
PartNeeds part.Enter h = IsVcpu h.state.actor × (h.topics.stay ≡ Outside)
PartNeeds part.Leave h = h.topics.stay ≡ Guest
PartNeeds part.Pause h = Unit {0}
PartNeeds part.Begin h = h.topics.stay ≡ Outside
PartNeeds part.End h = (h.topics.stay ≡ Section) × (h.topics.owed ≡ None)
PartNeeds part.Share h = h.topics.hold ≡ Loose
PartNeeds part.Unshare h = counts h.topics.hold ≡ true
PartNeeds part.Exclude h = h.topics.hold ≡ Loose
PartNeeds part.Release h = MayRelease h
PartNeeds (part.Map word) h = (h.topics.owned ≡ None) × (word < words_of_bits h.state.sizes.pool) × GoesOnToWord word h.topics.claim
PartNeeds part.Claim h = (h.topics.owned ≡ None) × (0 < h.topics.claim.seen) × (h.topics.claim.at < words_of_bits h.state.sizes.pool)
PartNeeds (part.Fill value) h = HasToFill h.topics × (value < 2 ^ 64) × (page_owned h.topics.owned < h.state.sizes.pool)
PartNeeds (part.Role value) h = HasRoleToSet h.topics × (value < 2 ^ 64) × (page_owned h.topics.owned < h.state.sizes.pool)
PartNeeds part.Give h = OwnsPage h.topics × (is_alone h.topics.hold ≡ false)
PartNeeds part.Slots h = Unit {0}
PartNeeds part.Slot h = HoldsSet h.topics × (h.topics.search.id ≤ 31) × ((is_alone h.topics.hold && has_found_looked h.topics) ≡ false)
PartNeeds part.Seq h = Unit {0}
PartNeeds part.Count h = Unit {0}
PartNeeds part.RangeStart h = Unit {0}
PartNeeds part.RangeEnd h = Unit {0}
PartNeeds part.Root h = Unit {0}
PartNeeds (part.Walk gfn) h = IsOver gfn h.topics.walk × (is_sweeping h.topics ≡ false) × (walks_anew h.topics ≡ false)
PartNeeds (part.Sweep gfn) h = MaySweep gfn h.topics
PartNeeds (part.WalkAnew gfn) h = MayWalkAnew gfn h.topics
PartNeeds (part.Link gfn) h = MayLink gfn h.topics × OwnsTable h.topics
PartNeeds (part.Leaf gfn write) h = MayEnter gfn h.topics × MapsRun gfn h.topics × SawNoWrites h.topics.walk × IsEnd h.topics.walk.level h.topics.walk.entry
PartNeeds (part.Fix gfn) h = MayFix gfn h.topics
PartNeeds part.Mark h = MayMark h.topics
PartNeeds (part.Host page) h = (page < h.state.sizes.pages) × (is_alone h.topics.hold ≡ false)
PartNeeds (part.HostOn page) h = (page < h.state.sizes.pages) × (is_alone h.topics.hold ≡ false)
PartNeeds part.Bring h = MayBring h.topics
PartNeeds (part.Watch index) h =
    (index < actors_of h.state.sizes) × (index ≢ own_index h) × ((index ≡ next_watched (own_index h) 0) ⊎ (index ≡ next_watched (own_index h) h.topics.watched))
PartNeeds part.Publish h = MayPublish h.topics
PartNeeds part.Clear h = MayGiveOld h
PartNeeds part.GiveOld h = MayGiveOld h
PartNeeds (part.SetStart first gfn) h = MaySetStart first gfn h.topics × (first < 2 ^ 64) × (gfn < 2 ^ 64)
PartNeeds (part.SetEnd last gfn) h = MaySetEnd last gfn h.topics × (last < 2 ^ 64) × (gfn < 2 ^ 64)
PartNeeds (part.SetCount count) h = MayCount count h.topics × OpensOnOwnPages h
PartNeeds (part.SetSeq seq) h = MayEndInvalidation h.topics × (seq ≡ h.topics.invalidations.seq + 1)
PartNeeds (part.Zap gfn) h = MayZap gfn h.topics
PartNeeds (part.Ask index) h = MayAsk index h
PartNeeds (part.Await index) h = (index < h.topics.flush.asked) × (index ≡ h.topics.flush.awaited) × (h.topics.stay ≡ Outside)
PartNeeds (part.Change new_) h = MayChange h × (revises h.state.sizes.words h.topics.frames.owned (word_looked h.topics.host) new_ ≡ true)
PartNeeds part.ChangeNext h = MayChangeNext h
PartNeeds (part.FrameMap word) h =
    (h.topics.frames.owned ≡ None) × (word < words_of_bits h.state.sizes.frames) × GoesOnToWord word h.topics.frames.claim
PartNeeds part.Frame h =
    (h.topics.frames.owned ≡ None) × (0 < h.topics.frames.claim.seen) × (h.topics.frames.claim.at < words_of_bits h.state.sizes.frames)
PartNeeds (part.Copy index) h = MayCopy index h
PartNeeds (part.Store index) h = MayStore index h
PartNeeds part.GiveFrame h = MayGiveFrame h
PartNeeds (part.Take word mask) h = MayTake word mask h
PartNeeds (part.Protect gfn) h = MayProtect gfn h.topics
PartNeeds (part.Peek word) h = MayReadLog word h
PartNeeds (part.Arm word bits) h = MayArm word bits h

-- The actor holds nothing: it is outside, and has no lock, no page, no table and no slot set; and it owes no mark.
pub record IsAtRest (t : Topics) : Type 0 where
  pub outside : t.stay ≡ Outside
  pub loose : t.hold ≡ Loose
  pub owns_none : t.owned ≡ None
  pub owes_none : t.owed ≡ None
  pub no_table : t.walk.level ≡ 0
  pub no_set : t.search.set ≡ None

-- It holds nothing but, perhaps, a page.
pub record IsFree (t : Topics) : Type 0 where
  pub outside : t.stay ≡ Outside
  pub loose : t.hold ≡ Loose
  pub no_table : t.walk.level ≡ 0
  pub no_set : t.search.set ≡ None
