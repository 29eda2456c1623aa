-- What is so of each step that begins or ends an invalidation, whatever line makes it: what it isn't, what it leaves, and how many steps are left before it.
use Rattle.std.proofs.Common.{◌≡◌, ◌≤◌, ◌+◌, ◌-◌, ◌*◌, ℕ, Bool, true, false, refl, arith}
use Rattle.std.specs.Prelude.{if◌then◌else◌}
use Rattle.core_views.specs.declared.place.BeginPlace.{BeginPlace}
use Rattle.core_views.specs.declared.place.BeginPlace.TheVariants as begins
use Rattle.core_views.specs.declared.place.EndPlace.{EndPlace}
use Rattle.core_views.specs.declared.place.EndPlace.TheVariants as ends
use Rattle.core_views.specs.declared.sizes.Sizes.{Sizes}
use Rattle.core_views.specs.declared.topics.Topics.{Topics}
use Rattle.part_steps.specs.declared.invalidations.Target.{Target}
use Rattle.part_steps.specs.declared.part_step.PartStep.{PartStep}
use Rattle.part_steps.specs.declared.part_step.PartStep.TheVariants as part
use Rattle.part_steps.specs.PartTopics.{part_topics}
use Rattle.part_steps.specs.SweepTopics.{has_entry, swept_to}
use Rattle.mmu_core.specs.orders.ClaimSteps.{FreeMap}
use Rattle.mmu_core.specs.orders.InvalidateKnows.{BeginKnows, FramesAre}
use Rattle.mmu_core.specs.orders.InvalidateLeft.{begin_left, end_left}
use Rattle.mmu_core.specs.orders.InvalidateSteps.{begin_part, end_part, is_among_open}
use Rattle.mmu_core.proofs.lines.EitherPlace.{either_place}
use Rattle.mmu_core.proofs.forms.access.FaultScans.{maps}
use Rattle.mmu_core.proofs.forms.host.HostPlaces.{find_few}
use Rattle.mmu_core.proofs.machine.PartStepping.{changes_word, is_publish, rises}

-- ---- what it isn't

-- The step publishes nothing, changes no host word, and claims nothing.
pub record IsPlain (step : PartStep) : Type 0 where
  pub never : is_publish step ≡ false
  pub quiet : changes_word step ≡ false
  pub maps_not : (map : FreeMap) → maps map step ≡ false

pub begin_plain : (p : BeginPlace) (target : Target) (t : Topics) → IsPlain (begin_part p target t)
begin_plain (begins.Find begun) target t =
    either_place IsPlain begun part.Slot part.Slots (record { never = refl; quiet = refl; maps_not = λ map. refl })
    (record { never = refl; quiet = refl; maps_not = λ map. refl })
begin_plain (begins.Walk rooted) target t =
    either_place IsPlain rooted (part.Sweep _) part.Root (record { never = refl; quiet = refl; maps_not = λ map. refl })
    (record { never = refl; quiet = refl; maps_not = λ map. refl })
begin_plain _ target t = record { never = refl; quiet = refl; maps_not = λ map. refl }

pub end_plain : (p : EndPlace) (t : Topics) → IsPlain (end_part p t)
end_plain ends.Exclude t = record { never = refl; quiet = refl; maps_not = λ map. refl }
end_plain _ t = record { never = refl; quiet = refl; maps_not = λ map. refl }

-- No step of a begin raises the sequence number.
pub begin_rises : (p : BeginPlace) (target : Target) (t : Topics) → rises (begin_part p target t) ≡ 0
begin_rises (begins.Find begun) target t = either_place (λ step. rises step ≡ 0) begun part.Slot part.Slots refl refl
begin_rises (begins.Walk rooted) target t = either_place (λ step. rises step ≡ 0) rooted (part.Sweep _) part.Root refl refl
begin_rises _ target t = refl

-- ---- what it leaves

-- Where the actor is, what it has of pages and frames, the mark that it owes, and how many it has watched, is as it was.
pub record LeavesPages (t u : Topics) : Type 0 where
  pub stay : u.stay ≡ t.stay
  pub owned : u.owned ≡ t.owned
  pub owed : u.owed ≡ t.owed
  pub retired : u.retired ≡ t.retired
  pub frames : u.frames ≡ t.frames
  pub watched : u.watched ≡ t.watched

pub begin_leaves_pages : (p : BeginPlace) (target : Target) (t : Topics) (v : ℕ) → LeavesPages t (part_topics (begin_part p target t) t v)
begin_leaves_pages (begins.Find begun) target t v =
    either_place (λ step. LeavesPages t (part_topics step t v)) begun part.Slot part.Slots
    (record { stay = refl; owned = refl; owed = refl; retired = refl; frames = refl; watched = refl })
    (record { stay = refl; owned = refl; owed = refl; retired = refl; frames = refl; watched = refl })
begin_leaves_pages (begins.Walk rooted) target t v =
    either_place (λ step. LeavesPages t (part_topics step t v)) rooted (part.Sweep _) part.Root
    (record { stay = refl; owned = refl; owed = refl; retired = refl; frames = refl; watched = refl })
    (record { stay = refl; owned = refl; owed = refl; retired = refl; frames = refl; watched = refl })
begin_leaves_pages _ target t v = record { stay = refl; owned = refl; owed = refl; retired = refl; frames = refl; watched = refl }

pub end_leaves_pages : (p : EndPlace) (t : Topics) (v : ℕ) → LeavesPages t (part_topics (end_part p t) t v)
end_leaves_pages ends.Exclude t v = record { stay = refl; owned = refl; owed = refl; retired = refl; frames = refl; watched = refl }
end_leaves_pages _ t v = record { stay = refl; owned = refl; owed = refl; retired = refl; frames = refl; watched = refl }

-- Up to its count the invalidation isn't open.
pub not_yet_open : (p : BeginPlace) (z : Sizes) (target : Target) (t : Topics) → is_among_open p ≡ false → BeginKnows p z target t
    → t.invalidations.opened ≡ false
not_yet_open begins.Exclude z target t is K = K.1
not_yet_open (begins.Find begun) z target t is K = K.0.sweeping.with_lock.is
not_yet_open begins.Count z target t is K = K.searches.sweeping.with_lock.is
not_yet_open begins.RangeStart z target t is K = K.0.searches.sweeping.with_lock.is
not_yet_open begins.RangeEnd z target t is K = K.0.searches.sweeping.with_lock.is
not_yet_open begins.SetStart z target t is K = K.0.searches.sweeping.with_lock.is
not_yet_open begins.SetEnd z target t is K = K.0.searches.sweeping.with_lock.is
not_yet_open begins.SetCount z target t is K = K.0.searches.sweeping.with_lock.is
not_yet_open _ z target t is K = absurd (cc is)

-- ---- how many steps are left

-- A sweep of so many guest frames has five left for each at most: an entry of each level and the zap of a leaf.
pub sweep_few : (has : Bool) (frames start end_ come level : ℕ) → level ≤ 4 → end_ ≤ start + frames → start ≤ come
    → (if has then 5 * (end_ - come) else 5 * (end_ - come) + level - 4) ≤ 5 * frames
sweep_few true frames start end_ come level most few from = omega (arith, few, from)
sweep_few false frames start end_ come level most few from = omega (arith, most, few, from)

pub begin_few : (p : BeginPlace) (y z : Sizes) (target : Target) (frames : ℕ) (t : Topics) → t.walk.level ≤ 4
    → (FramesAre target t.invalidations.own → t.invalidations.own.end ≤ t.invalidations.own.start + frames) → BeginKnows p y target t
    → begin_left p z frames t ≤ 2 * z.vcpus + 138 + 5 * frames
begin_few (begins.Find begun) y z target frames t most few K = let left = find_few begun t.search in omega (arith, left)
begin_few (begins.Walk true) y z target frames t most few K =
    let own_ = t.invalidations.own in
    let left =
    sweep_few (has_entry t.walk) frames own_.start own_.end (swept_to true own_.start t.walk) t.walk.level most (few K.0.of_own.few) (K.1 refl).on.from in
    omega (arith, left)
begin_few (begins.Walk false) y z target frames t most few K = let left = few K.0.of_own.few in omega (arith, left)
begin_few begins.Zap y z target frames t most few K = let left = few K.0.of_own.few in let from = K.1.from in omega (arith, left, from)
begin_few _ y z target frames t most few K = omega arith

pub end_few : (p : EndPlace) → end_left p ≤ 6
end_few ends.Release = omega arith
end_few _ = omega arith
