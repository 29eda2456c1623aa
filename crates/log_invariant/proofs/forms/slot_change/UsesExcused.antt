-- A line that begins a dirty log excuses the use of what is cached up to when it has flushed it: its steps keep the excuse.
use Rattle.std.proofs.Common.{ap, arith, inl, inr, refl, subst, sym, ℕ, ◌+◌, ◌<◌, ◌≡◌, ◌≤◌, ◌⊎◌}
use Rattle.std.specs.Prelude.{Bool, false, nat_lt, true, ◌==◌, ◌||◌, ◌≢◌, if◌then◌else◌}
use Rattle.std.proofs.lemmas.Bool.Decides.{nat_tests}
use Rattle.circular_buffer.specs.Buffer.{Buffer}
use Rattle.core_views.specs.declared.cache.Translation.{Translation}
use Rattle.core_views.specs.declared.place.Cause.TheVariants.{Entry}
use Rattle.core_views.specs.declared.place.FrameRange.{FrameRange}
use Rattle.core_views.specs.declared.place.Place.TheVariants as place
use Rattle.core_views.specs.declared.place.Place.{Place}
use Rattle.core_views.specs.declared.place.SlotChangePlace.TheVariants as change
use Rattle.core_views.specs.declared.place.SlotChangePlace.{SlotChangePlace}
use Rattle.core_views.specs.declared.place.WriteProtectPlace.TheVariants as protect
use Rattle.core_views.specs.declared.place.WriteProtectPlace.{WriteProtectPlace}
use Rattle.core_views.specs.declared.sizes.Sizes.{Sizes}
use Rattle.core_views.specs.declared.topics.Flush.{Flush}
use Rattle.core_views.specs.declared.topics.Topics.{Topics}
use Rattle.core_views.specs.declared.trace.Command.{Command}
use Rattle.core_views.specs.declared.trace.Line.{Line}
use Rattle.core_views.specs.Held.{Held}
use Rattle.part_steps.specs.declared.part_step.PartStep.TheVariants as part
use Rattle.part_steps.specs.ControlBits.{has_to_flush}
use Rattle.part_steps.specs.PartTopics.{part_topics}
use Rattle.mmu_core.specs.declared.sweep.SweepNext.TheVariants.{Over, Leaf, Entry}
use Rattle.mmu_core.specs.declared.sweep.SweepNext.{SweepNext}
use Rattle.mmu_core.specs.declared.write_protect.WriteProtectNext.TheVariants as next
use Rattle.mmu_core.specs.declared.write_protect.WriteProtectNext.{WriteProtectNext}
use Rattle.mmu_core.specs.forms.access.Cached.{asks_flush}
use Rattle.mmu_core.specs.forms.slot_change.SlotChangeKnows.{SlotChangeKnows}
use Rattle.mmu_core.specs.forms.slot_change.SlotChangeSteps.{after_protect, slot_change_outcome, slot_change_part}
use Rattle.mmu_core.specs.orders.WriteProtectKnows.{WriteProtectKnows}
use Rattle.mmu_core.specs.orders.WriteProtectSteps.{protect_next, protect_part, protect_swept}
use Rattle.mmu_core.specs.machine.Outcomes.{place_after}
use Rattle.mmu_core.proofs.lines.EitherPlace.{either_place}
use Rattle.mmu_core.proofs.machine.Columns.{same_or}
use Rattle.mmu_core.proofs.machine.HandWith.{hand_with}
use Rattle.log_invariant.specs.Excuses.{forbidding_at}
use Rattle.log_invariant.specs.Forbidding.{PassedTo, FlushesLater, Forbidding, ForbidsLater, HowFar, IsUnpassed, IsUnflushed, MayHaveCached, PassedAll}
use Rattle.log_invariant.specs.forms.slot_change.LogBegins.{BeginsClean, IsAmong, LogIsUnwatchedAt, swept_so_far}
use Rattle.log_invariant.proofs.CachesCarried.{AsksStill}
use Rattle.log_invariant.proofs.OwnExcuse.{AllowsAt, change_excuse}

-- ---- an excuse, by its line's place

-- The line that stands there has yet to see that nothing of the guest frame is left which virtual processor k has cached.
abbrev pub MayUseAt : ℕ → ℕ → Place → Command → Held → ℕ → Type 0
MayUseAt k state p command h gfn = (LogIsUnwatchedAt p command h gfn × BeginsClean h) ⊎ FlushesLater (forbidding_at p command h) k state gfn

-- Where writes have yet to be forbidden, the flush has yet to be made.
pub allows_use : (f : Forbidding) (k state gfn : ℕ) → ForbidsLater f gfn → FlushesLater f k state gfn
allows_use f k state gfn later = (later.0, by f.how_far later.1)
  where
    by : (far : HowFar) → IsUnpassed far gfn → MayHaveCached far k state
    by (PassedTo frame) allowed = tt
    by (PassedAll flush) none = absurd none

-- So what excuses a leaf excuses the use of it.
pub allowed_used : (p : Place) (k state : ℕ) (command : Command) (h : Held) (gfn : ℕ) → AllowsAt p command h gfn → MayUseAt k state p command h gfn
allowed_used p k state command h gfn (inl opens) = inl opens
allowed_used p k state command h gfn (inr forbids) = inr (allows_use (forbidding_at p command h) k state gfn forbids)

-- Nothing passes the guest frame.
never_passes : {A : Type 0} → A ⊎ ⊥ → A
never_passes (inl so) = so
never_passes (inr passes) = absurd passes

-- The virtual processor isn't flushed after a step that forbids writes.
abbrev IsUnflushedBehind : WriteProtectNext → FrameRange → Topics → ℕ → ℕ → Type 0
IsUnflushedBehind (next.Goes p) range t k state = MayHaveCached (swept_so_far p range t) k state
IsUnflushedBehind next.Over range t k state = ⊥

-- What the state words say: who was asked for a flush is asked for it, until it is awaited.
abbrev pub ShowsFlush : WriteProtectPlace → Topics → ℕ → ℕ → ℕ → ℕ → Type 0
ShowsFlush protect.Ask t k x state now_ = AsksStill state now_ × (k ≡ t.flush.asked → asks_flush now_ ≡ true)
ShowsFlush protect.Await t k x state now_ =
    AsksStill state now_ × (k ≡ t.flush.awaited → has_to_flush x ≡ false → asks_flush state ≡ false)
ShowsFlush _ t k x state now_ = Unit {0}

module _ (z : Sizes) (range : FrameRange) (t : Topics) (k x state now_ : ℕ) (low : k < z.vcpus) where
  -- The sweep goes on, or is over.
  swept_unflushed : (next : SweepNext) (after : Topics) → MayHaveCached (swept_so_far (protect_swept next) range after) k now_
  swept_unflushed Over after = inl (omega arith)
  swept_unflushed Leaf after = tt
  swept_unflushed Entry after = tt

  -- One more is asked.
  pub asked_unflushed : IsUnflushed t.flush k state → ShowsFlush protect.Ask t k x state now_ → t.flush.awaited ≡ 0
      → IsUnflushed (record t.flush { asked = t.flush.asked + 1 }) k now_
  asked_unflushed (inr U) T none = inr (U.0, T.0 U.1)
  asked_unflushed (inl le) T none = by (same_or k t.flush.asked)
    where
      by : (k ≡ t.flush.asked) ⊎ (k ≢ t.flush.asked) → IsUnflushed (record t.flush { asked = t.flush.asked + 1 }) k now_
      by (inl e) = inr (omega (arith, none), T.1 e)
      by (inr ne) = inl (omega (arith, le, ne))

  -- One is awaited that has flushed, or hasn't yet: the line goes on where this one isn't flushed.
  pub awaited_unflushed : (waits : Bool) → has_to_flush x ≡ waits → t.flush.awaited ≤ k → asks_flush state ≡ true → ShowsFlush protect.Await t k x state now_
      → ((waits || nat_lt (t.flush.awaited + 1) z.vcpus) ≡ true)
      × IsUnflushed (record t.flush { awaited = t.flush.awaited + (if waits then 0 else 1) }) k now_
  awaited_unflushed true is le asks T = (refl, inr (omega (arith, le), T.0 asks))
  awaited_unflushed false is le asks T = by (same_or k t.flush.awaited)
    where
      by : (k ≡ t.flush.awaited) ⊎ (k ≢ t.flush.awaited) → (nat_lt (t.flush.awaited + 1) z.vcpus ≡ true)
          × IsUnflushed (record t.flush { awaited = t.flush.awaited + 1 }) k now_
      by (inl e) = let none = T.1 e is in absurd (cc (asks, none))
      by (inr ne) = let lt : t.flush.awaited + 1 < z.vcpus = omega (arith, le, ne, low) in (grind (arith, nat_tests), inr (omega (arith, le, ne), T.0 asks))

  awaited_on : (waits : Bool) → has_to_flush x ≡ waits → t.flush.awaited ≤ k → asks_flush state ≡ true → ShowsFlush protect.Await t k x state now_
      → IsUnflushedBehind (if waits || nat_lt (t.flush.awaited + 1) z.vcpus then next.Goes protect.Await else next.Over)
      range (record t { flush = record t.flush { awaited = t.flush.awaited + (if waits then 0 else 1) } }) k now_
  awaited_on waits is le asks T =
      let on = awaited_unflushed waits is le asks T in
      subst (λ (b : Bool). IsUnflushedBehind (if b then next.Goes protect.Await else next.Over) range
      (record t { flush = record t.flush { awaited = t.flush.awaited + (if waits then 0 else 1) } }) k now_) (sym on.0) on.1

  -- After each step.
  protect_unflushed : (p : WriteProtectPlace) → WriteProtectKnows p z range t → ShowsFlush p t k x state now_
      → MayHaveCached (swept_so_far p range t) k state
      → IsUnflushedBehind (protect_next p z range t x) range (part_topics (protect_part p range t) t x) k now_
  protect_unflushed protect.Exclude K T U =
      either_place (λ q. MayHaveCached (swept_so_far q range (part_topics part.Exclude t x)) k now_) (x == 0) (protect.Walk false) protect.Exclude tt tt
  protect_unflushed (protect.Walk true) K T U = swept_unflushed _ _
  protect_unflushed (protect.Walk false) K T U = tt
  protect_unflushed protect.Protect K T U = swept_unflushed _ _
  protect_unflushed protect.Release K T U = let none = ap (λ (f : Flush). f.asked) K.0.unasked in inl (omega (arith, none))
  protect_unflushed protect.Ask K T U =
      either_place (λ q. MayHaveCached (swept_so_far q range (record t { flush = record t.flush { asked = t.flush.asked + 1 } })) k now_)
      (nat_lt (t.flush.asked + 1) z.vcpus) protect.Ask protect.Await (asked_unflushed U T K.2) (asked_unflushed U T K.2)
  protect_unflushed protect.Await K T (inl none) = let all = K.1 in absurd (omega (arith, none, all, low))
  protect_unflushed protect.Await K T (inr U) = awaited_on (has_to_flush x) refl U.0 U.1 T

-- ---- after a step of the line

-- What the state words say, at the places where they say something.
abbrev pub ShowsFlushAt : SlotChangePlace → Topics → ℕ → ℕ → ℕ → ℕ → Type 0
ShowsFlushAt (change.WriteProtect range p) t k x state now_ = ShowsFlush p t k x state now_
ShowsFlushAt _ t k x state now_ = Unit {0}

module _ (line : Line) (h : Held) (command : Command) (cached : Buffer Translation) (k x state now_ gfn : ℕ) (low : k < h.state.sizes.vcpus) where
  -- the hand after the step of a place
  abbrev behind : SlotChangePlace → Held
  behind p = hand_with line command (place.SlotChange p) h (part_topics (slot_change_part p h command) h.topics x) cached x

  -- It excuses the use, where it stands there then.
  abbrev Excused : SlotChangePlace → Held → Type 0
  Excused q g = MayUseAt k now_ (place.SlotChange q) command g gfn

  -- After a step that forbids writes, and after each step.
  protect_excused : (range : FrameRange) (next : WriteProtectNext) (g : Held) → IsAmong range gfn → IsUnflushedBehind next range g.topics k now_
      → Excused (after_protect range next) g
  protect_excused range (next.Goes p) g among U = inr (among, U)
  protect_excused range next.Over g among U = absurd U

  pub excused_at : (p : SlotChangePlace) → SlotChangeKnows p command h → ShowsFlushAt p h.topics k x state now_
      → MayUseAt k state (place.SlotChange p) command h gfn → MayUseAt k now_ (place_after (slot_change_outcome p command h x)) command (behind p) gfn
  excused_at (change.WriteProtect range p) K T (inr F) =
      protect_excused range (protect_next p h.state.sizes range h.topics x) (behind (change.WriteProtect range p)) F.0
      (protect_unflushed h.state.sizes range h.topics k x state now_ low p K.1 T F.1)
  excused_at (change.WriteProtect range p) K T (inl E) = absurd (let no = E.0.0 in cc no)
  excused_at p K T (inl E) =
      allowed_used (place_after (slot_change_outcome p command h x)) k now_ command (behind p) gfn
      (never_passes (change_excuse p command h x (behind p) gfn (record { slots = refl; sizes = refl; walk = refl }) (inl E)))
  excused_at _ K T (inr F) = absurd F.0
