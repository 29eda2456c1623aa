-- What the line of a hand excuses before its step, it excuses after it; but for the guest frames that it passes as it forbids writes.
use Rattle.std.proofs.Common.{◌+◌, ◌<◌, ◌≡◌, ◌≤◌, ◌⊎◌, arith, inl, inr, refl, subst, sym, ℕ}
use Rattle.std.proofs.lemmas.Bool.{cases_lt}
use Rattle.std.proofs.lemmas.Bool.Decides.{nat_tests}
use Rattle.std.specs.Prelude.{◌&&◌, ◌==◌, Bool, None, Option, Some, false, if◌then◌else◌, nat_le, not, true}
use Rattle.core_views.specs.Held.{Held}
use Rattle.core_views.specs.LogCommands.{is_all_set}
use Rattle.core_views.specs.SlotCommands.{slot_armed}
use Rattle.core_views.specs.Slots.{contains}
use Rattle.core_views.specs.declared.place.EndPlace.TheVariants as ends
use Rattle.core_views.specs.declared.place.FrameRange.{FrameRange}
use Rattle.core_views.specs.declared.place.Place.{Place}
use Rattle.core_views.specs.declared.place.Place.TheVariants as place
use Rattle.core_views.specs.declared.place.SlotChangePlace.{SlotChangePlace}
use Rattle.core_views.specs.declared.place.SlotChangePlace.TheVariants as change
use Rattle.core_views.specs.declared.place.WriteProtectPlace.{WriteProtectPlace}
use Rattle.core_views.specs.declared.place.WriteProtectPlace.TheVariants as protect
use Rattle.core_views.specs.declared.sizes.Sizes.{Sizes}
use Rattle.core_views.specs.declared.topics.TableWalk.{TableWalk}
use Rattle.core_views.specs.declared.trace.Command.{Command}
use Rattle.core_views.specs.declared.trace.Slot.{Slot as SlotOf}
use Rattle.part_steps.specs.ControlTopics.{at_root}
use Rattle.part_steps.specs.PartTopics.{part_topics}
use Rattle.part_steps.specs.StayTopics.{may_walk}
use Rattle.part_steps.specs.SweepTopics.{entry_start, has_entry, is_done, swept_to}
use Rattle.mmu_core.proofs.lines.EitherPlace.{each_watch, either_place}
use Rattle.mmu_core.proofs.forms.access.FaultSame.{over_it}
use Rattle.mmu_core.specs.declared.invalidate.EndNext.{EndNext}
use Rattle.mmu_core.specs.declared.invalidate.EndNext.TheVariants as ends_next
use Rattle.mmu_core.specs.declared.sweep.SweepNext.TheVariants.{Entry, Leaf, Over}
use Rattle.mmu_core.specs.declared.watch.WatchNext.{WatchNext}
use Rattle.mmu_core.specs.orders.InvalidateSteps.{end_next}
use Rattle.mmu_core.specs.forms.slot_change.SlotChangeSteps.{after_grace, after_protect, after_set_end, after_watch, frames_of, slot_change_outcome}
use Rattle.mmu_core.specs.forms.slot_change.SlotChangeSteps.{slot_change_part}
use Rattle.mmu_core.specs.forms.slot_change.SlotChangeSteps.{slot_change_records}
use Rattle.mmu_core.specs.orders.SweepSteps.{protected_at, sweep_next, swept_on}
use Rattle.mmu_core.specs.orders.WatchSteps.{watch_next}
use Rattle.mmu_core.specs.orders.WriteProtectSteps.{protect_next, protect_sweeps, protect_swept}
use Rattle.mmu_core.specs.machine.Outcomes.{place_after}
use Rattle.mmu_core.specs.forms.log.LogSteps.{slot_asked}
use Rattle.mmu_core.specs.forms.log.Readings.{Reading, reading_at}
use Rattle.log_invariant.proofs.forms.log.LogExcuse.{IsPassedBy}
use Rattle.log_invariant.specs.Excuses.{forbidding_at}
use Rattle.log_invariant.specs.Forbidding.{ForbidsLater, IsUnpassed}
use Rattle.log_invariant.specs.forms.slot_change.LogBegins.{BeginsClean, IsAmong, LogIsUnwatchedAt, is_unwatched, swept_so_far}

-- What a hand excuses, of its place.
abbrev pub AllowsAt : Place → Command → Held → ℕ → Type 0
AllowsAt p command h gfn = (LogIsUnwatchedAt p command h gfn × BeginsClean h) ⊎ ForbidsLater (forbidding_at p command h) gfn

-- The reading passes the guest frame's page.
abbrev pub PassesOf : Option Reading → Held → TableWalk → ℕ → Type 0
PassesOf None h after gfn = ⊥
PassesOf (Some r) h after gfn = IsPassedBy r.place (slot_asked h r.command) r.command after gfn

-- The guest frame is one that the line passes with the step of its place, with this hand before it and this walk after it: its sweep comes past the frame, or
-- it has come to the leaf of the frame's page.
abbrev pub PassesAt : Place → Command → Held → TableWalk → ℕ → Type 0
PassesAt (place.SlotChange (change.WriteProtect range p)) command h after gfn =
    (protect_sweeps p ≡ true) × (swept_to false range.start h.topics.walk ≤ gfn) × (gfn < swept_to false range.start after)
PassesAt p command h after gfn = PassesOf (reading_at p command h) h after gfn

pub passed_there : (p : Place) (command : Command) (h : Held) (r : Reading) (after : TableWalk) (gfn : ℕ) → reading_at p command h ≡ Some r
    → PassesOf (Some r) h after gfn → PassesAt p command h after gfn
passed_there (place.SlotChange (change.WriteProtect range p)) command h r after gfn is so = absurd (cc is)
passed_there p command h r after gfn is so = subst (λ (o : Option Reading). PassesOf o h after gfn) (sym is) so

pub passed_of : (p : Place) (command : Command) (h : Held) (r : Reading) (after : TableWalk) (gfn : ℕ) → reading_at p command h ≡ Some r
    → PassesAt p command h after gfn → PassesOf (Some r) h after gfn
passed_of (place.SlotChange (change.WriteProtect range p)) command h r after gfn is so = absurd (cc is)
passed_of p command h r after gfn is so = subst (λ (o : Option Reading). PassesOf o h after gfn) is so

-- The hand after the step of a place, of what an excuse speaks of.
pub record Follows (q : SlotChangePlace) (command : Command) (h : Held) (x : ℕ) (g : Held) : Type 0 where
  pub slots : g.slots ≡ slot_change_records q command h.slots
  pub sizes : g.state.sizes ≡ h.state.sizes
  pub walk : g.topics.walk ≡ (part_topics (slot_change_part q h command) h.topics x).walk

-- ---- a sweep

-- It begins before all its frames.
root_from : (b : Bool) (from root : ℕ) (walk : TableWalk) → swept_to false from (at_root b walk root) ≤ from
root_from b from root walk = by (nat_le from (entry_start (at_root b walk root))) refl
  where
    by : (later : Bool) → nat_le from (entry_start (at_root b walk root)) ≡ later → (if later then entry_start (at_root b walk root) else from) ≤ from
    by true is = let none : entry_start (at_root b walk root) ≡ 0 = omega arith in omega (arith, none)
    by false is = omega arith

-- Where it hasn't come past a guest frame of its frames, it isn't over.
goes_on : (range : FrameRange) (walk : TableWalk) (command : Command) (h : Held) (gfn : ℕ) → h.topics.walk ≡ walk → IsAmong range gfn
    → swept_to false range.start walk ≤ gfn
    → ForbidsLater (forbidding_at (place.SlotChange (change.WriteProtect range (protect_swept (sweep_next false range walk)))) command h) gfn
goes_on range walk command h gfn is among left = by (nat_le range.end (swept_to false range.start walk)) refl
  where
    unswept : swept_to false range.start h.topics.walk ≤ gfn
    unswept = subst (λ w. swept_to false range.start w ≤ gfn) (sym is) left

    by : (over : Bool) → nat_le range.end (swept_to false range.start walk) ≡ over
        → ForbidsLater (forbidding_at (place.SlotChange (change.WriteProtect range
        (protect_swept (if over then Over else if has_entry walk && not (is_done false walk) then Leaf else Entry)))) command h) gfn
    by true e = absurd (let all : range.end ≤ swept_to false range.start walk = grind (arith, nat_tests) in let to = among.1 in omega (arith, all, left, to))
    by false e =
        either_place (λ n. ForbidsLater (forbidding_at (place.SlotChange (change.WriteProtect range (protect_swept n))) command h) gfn)
        (has_entry walk && not (is_done false walk)) Leaf Entry (among, unswept) (among, unswept)

-- It comes past the guest frame with its step, or goes on before it.
swept_excuse : (range : FrameRange) (p : WriteProtectPlace) (before : Held) (walk : TableWalk) (command : Command) (h : Held) (gfn : ℕ)
    → protect_sweeps p ≡ true → h.topics.walk ≡ walk → IsAmong range gfn → swept_to false range.start before.topics.walk ≤ gfn
    → AllowsAt (place.SlotChange (change.WriteProtect range (protect_swept (sweep_next false range walk)))) command h gfn
    ⊎ PassesAt (place.SlotChange (change.WriteProtect range p)) command before h.topics.walk gfn
swept_excuse range p before walk command h gfn sweeps is among left = by (cases_lt gfn (swept_to false range.start walk))
  where
    by : (gfn < swept_to false range.start walk) ⊎ (swept_to false range.start walk ≤ gfn)
        → AllowsAt (place.SlotChange (change.WriteProtect range (protect_swept (sweep_next false range walk)))) command h gfn
        ⊎ PassesAt (place.SlotChange (change.WriteProtect range p)) command before h.topics.walk gfn
    by (inl lt) = inr (sweeps, left, subst (λ w. gfn < swept_to false range.start w) (sym is) lt)
    by (inr ge) = inl (inr (goes_on range walk command h gfn is among ge))

protect_excuse : (p : WriteProtectPlace) (range : FrameRange) (command : Command) (h : Held) (x : ℕ) (g : Held) (gfn : ℕ)
    → Follows (change.WriteProtect range p) command h x g → IsAmong range gfn → IsUnpassed (swept_so_far p range h.topics) gfn
    → AllowsAt (place.SlotChange (after_protect range (protect_next p h.state.sizes range h.topics x))) command g gfn
    ⊎ PassesAt (place.SlotChange (change.WriteProtect range p)) command h g.topics.walk gfn
protect_excuse protect.Exclude range command h x g gfn F among left =
    inl (inr (either_place (λ n. ForbidsLater (forbidding_at (place.SlotChange (change.WriteProtect range n)) command g) gfn) (x == 0) (protect.Walk false)
    protect.Exclude (among, omega arith) (among, omega arith)))
protect_excuse (protect.Walk false) range command h x g gfn F among left =
    inl (inr (
      among,
      subst (λ w. swept_to false range.start w ≤ gfn) (sym F.walk)
          (let from = among.0 in let first = root_from (may_walk h.topics.stay h.topics.hold) range.start x h.topics.walk in omega (arith, from, first)),
    ))
protect_excuse (protect.Walk true) range command h x g gfn F among left =
    swept_excuse range (protect.Walk true) h (swept_on (swept_to false range.start h.topics.walk) h.topics.walk x) command g gfn refl F.walk among
    left
protect_excuse protect.Protect range command h x g gfn F among left =
    swept_excuse range protect.Protect h (protected_at (swept_to false range.start h.topics.walk) h.topics.walk) command g gfn refl F.walk among
    left
protect_excuse _ range command h x g gfn F among left = absurd left

-- ---- an opening

-- The line stands at another place where others may not know of the log.
opens : (p q : SlotChangePlace) (command : Command) (h g : Held) (gfn : ℕ) → is_unwatched q ≡ true → g.slots ≡ h.slots
    → g.state.sizes ≡ h.state.sizes → LogIsUnwatchedAt (place.SlotChange p) command h gfn → BeginsClean h → AllowsAt (place.SlotChange q) command g gfn
opens p q command h g gfn is slots sizes O clean =
    inl ((is, O.1, subst (λ s. slot_armed s command ≡ Some O.1) (sym slots) O.2, O.3), subst (λ (z : Sizes). is_all_set z.mode ≡ false) (sym sizes) clean)

-- The watch is over: the frames of the slot are to be swept.
watched_excuse : (n : WatchNext) (z : Sizes) (armed : Option SlotOf) (command : Command) (h g : Held) (gfn : ℕ) (slot : SlotOf) → armed ≡ Some slot
    → is_all_set z.mode ≡ false → contains gfn slot ≡ true → AllowsAt (place.SlotChange change.Watch) command g gfn
    → AllowsAt (place.SlotChange (after_watch z armed n)) command g gfn
watched_excuse n z armed command h g gfn slot is clean holds still =
    subst (λ (o : Option SlotOf). AllowsAt (place.SlotChange (after_watch z o n)) command g gfn) (sym is)
    (each_watch (λ q. AllowsAt (place.SlotChange q) command g gfn) n change.Watch (after_grace z (Some slot)) still
    (subst (λ b. AllowsAt (place.SlotChange (if b then change.Clear else change.WriteProtect (frames_of slot) protect.Exclude)) command g gfn) (sym clean)
    (inr (let O = over_it slot.base gfn (slot.base + slot.pages) holds in (O, omega arith)))))

-- ---- each place

-- What a slot line excuses it excuses after its step, or its sweep passes it.
pub change_excuse : (q : SlotChangePlace) (command : Command) (h : Held) (x : ℕ) (g : Held) (gfn : ℕ) → Follows q command h x g
    → AllowsAt (place.SlotChange q) command h gfn
    → AllowsAt (place_after (slot_change_outcome q command h x)) command g gfn ⊎ PassesAt (place.SlotChange q) command h g.topics.walk gfn
change_excuse change.Release command h x g gfn F (inl O) =
    inl (either_place (λ q. AllowsAt (place.SlotChange q) command g gfn) h.topics.invalidations.opened (change.End ends.Exclude) change.Watch
    (opens change.Release (change.End ends.Exclude) command h g gfn refl F.slots F.sizes O.0 O.1)
    (opens change.Release change.Watch command h g gfn refl F.slots F.sizes O.0 O.1))
change_excuse (change.End p) command h x g gfn F (inl O) = inl (by (end_next p x))
  where
    by : (n : EndNext) → AllowsAt (place.SlotChange (after_set_end n)) command g gfn
    by (ends_next.Goes next) = opens (change.End p) (change.End next) command h g gfn refl F.slots F.sizes O.0 O.1
    by ends_next.Ended = opens (change.End p) change.Watch command h g gfn refl F.slots F.sizes O.0 O.1
change_excuse change.Watch command h x g gfn F (inl O) =
    inl (watched_excuse (watch_next h x) h.state.sizes (slot_armed h.slots command) command h g gfn O.0.1 O.0.2 O.1 O.0.3
    (opens change.Watch change.Watch command h g gfn refl F.slots F.sizes O.0 O.1))
change_excuse (change.WriteProtect range p) command h x g gfn F (inr W) = protect_excuse p range command h x g gfn F W.0 W.1
change_excuse (change.WriteProtect range p) command h x g gfn F (inl O) = absurd (let no = O.0.0 in cc no)
change_excuse change.Release command h x g gfn F (inr W) = absurd W.0
change_excuse (change.End p) command h x g gfn F (inr W) = absurd W.0
change_excuse change.Watch command h x g gfn F (inr W) = absurd W.0
change_excuse _ command h x g gfn F (inl O) = absurd (let no = O.0.0 in cc no)
change_excuse _ command h x g gfn F (inr W) = absurd W.0
