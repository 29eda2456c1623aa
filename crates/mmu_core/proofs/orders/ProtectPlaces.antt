-- What is so of each step that forbids writes to guest frames, whatever line makes it: what it isn't, what it leaves, and how many steps are left before it.
use Rattle.std.proofs.Common.{◌≡◌, ◌≤◌, ◌+◌, ◌-◌, ◌*◌, ℕ, true, false, refl, arith}
use Rattle.core_views.specs.declared.place.FrameRange.{FrameRange}
use Rattle.core_views.specs.declared.place.WriteProtectPlace.{WriteProtectPlace}
use Rattle.core_views.specs.declared.place.WriteProtectPlace.TheVariants as protect
use Rattle.core_views.specs.declared.sizes.Sizes.{Sizes}
use Rattle.core_views.specs.declared.topics.Topics.{Topics}
use Rattle.part_steps.specs.declared.part_step.PartStep.TheVariants as part
use Rattle.part_steps.specs.PartTopics.{part_topics}
use Rattle.part_steps.specs.SweepTopics.{has_entry, swept_to}
use Rattle.mmu_core.specs.orders.WriteProtectKnows.{WriteProtectKnows}
use Rattle.mmu_core.specs.orders.WriteProtectSteps.{protect_left, protect_part}
use Rattle.mmu_core.proofs.lines.EitherPlace.{either_place}
use Rattle.mmu_core.proofs.orders.InvalidatePlaces.{IsPlain, LeavesPages, sweep_few}
use Rattle.mmu_core.proofs.machine.PartStepping.{rises}

pub protect_plain : (p : WriteProtectPlace) (range : FrameRange) (t : Topics) → IsPlain (protect_part p range t)
protect_plain (protect.Walk rooted) range t =
    either_place IsPlain rooted (part.Sweep _) part.Root (record { never = refl; quiet = refl; maps_not = λ map. refl })
    (record { never = refl; quiet = refl; maps_not = λ map. refl })
protect_plain _ range t = record { never = refl; quiet = refl; maps_not = λ map. refl }

pub protect_rises : (p : WriteProtectPlace) (range : FrameRange) (t : Topics) → rises (protect_part p range t) ≡ 0
protect_rises (protect.Walk rooted) range t = either_place (λ step. rises step ≡ 0) rooted (part.Sweep _) part.Root refl refl
protect_rises _ range t = refl

pub protect_leaves_pages : (p : WriteProtectPlace) (range : FrameRange) (t : Topics) (v : ℕ) → LeavesPages t (part_topics (protect_part p range t) t v)
protect_leaves_pages (protect.Walk rooted) range t v =
    either_place (λ step. LeavesPages t (part_topics step t v)) rooted (part.Sweep _) part.Root
    (record { stay = refl; owned = refl; owed = refl; retired = refl; frames = refl; watched = refl })
    (record { stay = refl; owned = refl; owed = refl; retired = refl; frames = refl; watched = refl })
protect_leaves_pages _ range t v = record { stay = refl; owned = refl; owed = refl; retired = refl; frames = refl; watched = refl }

-- No step opens or ends an invalidation.
pub protect_opens : (p : WriteProtectPlace) (range : FrameRange) (t : Topics) (v : ℕ)
    → (part_topics (protect_part p range t) t v).invalidations.opened ≡ t.invalidations.opened
protect_opens (protect.Walk rooted) range t v =
    either_place (λ step. (part_topics step t v).invalidations.opened ≡ t.invalidations.opened) rooted (part.Sweep _) part.Root refl refl
protect_opens _ range t v = refl

-- ---- how many steps are left

pub protect_few : (p : WriteProtectPlace) (y z : Sizes) (range : FrameRange) (t : Topics) → t.walk.level ≤ 4 → WriteProtectKnows p y range t
    → protect_left p z range t ≤ 2 * z.vcpus + 4 + 5 * (range.end - range.start)
protect_few (protect.Walk true) y z range t most K =
    let left =
    sweep_few (has_entry t.walk) (range.end - range.start) range.start range.end (swept_to false range.start t.walk) t.walk.level most (omega arith)
    (K.1 refl).on.from in
    omega (arith, left)
protect_few protect.Protect y z range t most K = let from = K.1.from in omega (arith, from)
protect_few _ y z range t most K = omega arith

-- At each place the actor has no invalidation open.
pub kept_closed : (p : WriteProtectPlace) (z : Sizes) (range : FrameRange) (t : Topics) → WriteProtectKnows p z range t → t.invalidations.opened ≡ false
kept_closed protect.Exclude z range t K = K.closed
kept_closed (protect.Walk rooted) z range t K = K.0.with_lock.is
kept_closed protect.Protect z range t K = K.0.with_lock.is
kept_closed protect.Release z range t K = K.0.with_lock.is
kept_closed protect.Ask z range t K = K.0.closed
kept_closed protect.Await z range t K = K.0.closed
