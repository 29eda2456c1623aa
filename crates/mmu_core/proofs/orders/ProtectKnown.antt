-- After each step that forbids writes to guest frames its line knows what its next place asks, and has fewer steps left; and each has what it needs.
use Rattle.std.proofs.lemmas.Bool.Decides.{nat_tests}
use Rattle.std.proofs.Common.{◌≡◌, ◌+◌, ◌-◌, ◌*◌, ◌^◌, ◌<◌, ◌≤◌, ℕ, Bool, true, false, refl, ap, ◌∙◌, arith}
use Rattle.std.specs.Prelude.{◌==◌, ◌||◌, not, nat_lt, is_some, if◌then◌else◌, None}
use Rattle.core_views.specs.declared.place.FrameRange.{FrameRange}
use Rattle.core_views.specs.declared.place.WriteProtectPlace.{WriteProtectPlace}
use Rattle.core_views.specs.declared.place.WriteProtectPlace.TheVariants as protect
use Rattle.core_views.specs.declared.sizes.Sizes.{Sizes}
use Rattle.core_views.specs.declared.topics.Flush.{Flush}
use Rattle.core_views.specs.declared.topics.TableWalk.{TableWalk}
use Rattle.core_views.specs.declared.topics.Topics.{Topics}
use Rattle.core_views.specs.Held.{Held}
use Rattle.core_views.specs.Sizes.{AreSizes}
use Rattle.spte_words.specs.Entries.{can_write, without_write}
use Rattle.part_steps.specs.declared.part_step.PartStep.TheVariants as part
use Rattle.part_steps.specs.ControlBits.{has_to_flush}
use Rattle.part_steps.specs.ControlTopics.{at_root}
use Rattle.part_steps.specs.PartSteps.{PartNeeds}
use Rattle.part_steps.specs.PartTopics.{part_topics}
use Rattle.part_steps.specs.StayTopics.{flush_kept, may_walk, no_flush}
use Rattle.part_steps.specs.SweepTopics.{has_done, is_clear, is_done}
use Rattle.mmu_core.proofs.lines.ReleaseNeeds.{release_closed}
use Rattle.mmu_core.specs.declared.sweep.SweepNext.{SweepNext}
use Rattle.mmu_core.specs.declared.sweep.SweepNext.TheVariants.{Over, Leaf, Entry}
use Rattle.mmu_core.specs.declared.write_protect.WriteProtectNext.{WriteProtectNext}
use Rattle.mmu_core.specs.declared.write_protect.WriteProtectNext.TheVariants as next
use Rattle.mmu_core.specs.orders.InvalidateKnows.{IsSweeping}
use Rattle.mmu_core.specs.lines.PartWaits.{part_waits}
use Rattle.mmu_core.specs.orders.SweepKnows.{IsAtLeaf, SweepKnows}
use Rattle.mmu_core.specs.orders.SweepSteps.{left_after}
use Rattle.mmu_core.specs.orders.WriteProtectKnows.{IsFreeOfOwn, WriteProtectKnows}
use Rattle.mmu_core.specs.orders.WriteProtectSteps.{protect_left, protect_next, protect_part, protect_swept}
use Rattle.mmu_core.proofs.lines.AloneKnown.{alone_let_go, alone_taken, alone_tried, same_sweep}
use Rattle.mmu_core.proofs.lines.EitherPlace.{either_place, one_place}
use Rattle.mmu_core.proofs.orders.SearchKnown.{may_walk_alone}
use Rattle.mmu_core.proofs.orders.SweepFalls.{leaf_falls, root_falls, sweep_falls}
use Rattle.mmu_core.proofs.orders.SweepKnown.{leaf_known, root_known, sweep_known}
use Rattle.mmu_core.proofs.orders.SweptSteps.{protected_done}

-- ---- what each step needs

-- What is to be done at a leaf is to forbid the writes that it allows.
allows_writes : (w : TableWalk) (range : FrameRange) → IsAtLeaf false range w → can_write w.entry ≡ true
allows_writes w range K = by (can_write w.entry) refl
  where
    by : (b : Bool) → can_write w.entry ≡ b → can_write w.entry ≡ true
    by true is = is
    by false is =
        let done : is_done false w ≡ true = ap (has_done false (can_write w.entry)) K.leaf ∙ ap (λ (b : Bool). not b) is in
        let to_do = K.to_do in
        absurd (cc (done, to_do))

pub protect_needs : (p : WriteProtectPlace) (h : Held) (range : FrameRange) → is_some h.topics.retired ≡ true
    → WriteProtectKnows p h.state.sizes range h.topics → PartNeeds (protect_part p range h.topics) h
protect_needs protect.Exclude h range retired K = K.free.loose
protect_needs (protect.Walk true) h range retired K =
    let at = K.1 refl in
    let closed = K.0.with_lock.is in
    record {
      alone = K.0.with_lock.alone.alone;
      outside = K.0.with_lock.alone.outside;
      sweeps = ap (λ (b : Bool). b || is_some h.topics.retired) closed ∙ retired;
      there = at.on.there;
      clear = ap (λ (b : Bool). is_clear b h.topics.walk) closed ∙ at.clear;
      of_own = λ opened. absurd (cc (opened, closed));
      over = at.on.over at.left;
    }
protect_needs (protect.Walk false) h range retired K = tt
protect_needs protect.Protect h range retired K = record {
  alone = K.0.with_lock.alone.alone;
  outside = K.0.with_lock.alone.outside;
  none_open = K.0.with_lock.is;
  saw = K.1.saw;
  leaf = K.1.leaf;
  writes = allows_writes h.topics.walk range K.1;
}
protect_needs protect.Release h range retired K = release_closed h K.0.with_lock.alone.alone K.0.with_lock.is K.2 K.1.clear
protect_needs protect.Ask h range retired K =
    let closed = K.0.closed in
    record {
      low = K.1;
      next = refl;
      outside = K.0.free.outside;
      alone = λ opened. absurd (cc (opened, closed));
      swept = λ opened. absurd (cc (opened, closed));
      loose = λ is. K.0.free.loose;
    }
protect_needs protect.Await h range retired K = (let asked = K.1 in let lt = K.2 in omega (arith, asked, lt), refl, K.0.free.outside)

-- ---- what is known after it

-- where they go on to, and what is so where they are over
abbrev pub ProtectComes : WriteProtectNext → Sizes → FrameRange → Topics → Type 0
ProtectComes (next.Goes p) z range t = WriteProtectKnows p z range t
ProtectComes next.Over z range t = IsFreeOfOwn t

-- Where the sweep goes on.
swept_known : (n : SweepNext) (z : Sizes) (range : FrameRange) (t : Topics) (w : TableWalk) → IsSweeping false t → t.search.set ≡ None
    → SweepKnows n false range w → WriteProtectKnows (protect_swept n) z range (record t { walk = w })
swept_known Over z range t w W none K = (same_sweep false t (record t { walk = w }) refl refl refl refl W, K, none)
swept_known Leaf z range t w W none K = (same_sweep false t (record t { walk = w }) refl refl refl refl W, K, none)
swept_known Entry z range t w W none K = (same_sweep false t (record t { walk = w }) refl refl refl refl W, (λ rooted. K), none)

root_walks : (b : Bool) (z : Sizes) (range : FrameRange) (t : Topics) (v : ℕ) → b ≡ true → range.start < range.end → range.end ≤ 2 ^ 36 → IsSweeping false t
    → t.search.set ≡ None → WriteProtectKnows (protect.Walk true) z range (record t { walk = at_root b t.walk v })
root_walks false z range t v is some most W none = absurd (cc is)
root_walks true z range t v is some most W none =
    (same_sweep false t (record t { walk = at_root true t.walk v }) refl refl refl refl W, (λ rooted. root_known false range v t.walk some most), none)

-- Who takes the lock alone with no invalidation of its own counts flushes anew.
taken_flush : (t : Topics) (v : ℕ) → t.invalidations.opened ≡ false → (v == 0) ≡ true → flush_kept (v == 0) t ≡ no_flush
taken_flush t v closed e = ap (λ (b : Bool). flush_kept b t) e ∙ ap (λ (b : Bool). if not b then no_flush else t.flush) closed

await_known : (waits : Bool) (z : Sizes) (range : FrameRange) (t : Topics) → IsFreeOfOwn t → t.flush.asked ≡ z.vcpus → t.flush.awaited < z.vcpus
    → ProtectComes (if waits || nat_lt (t.flush.awaited + 1) z.vcpus then next.Goes protect.Await else next.Over) z range
    (record t { flush = record t.flush { awaited = t.flush.awaited + (if waits then 0 else 1) } })
await_known true z range t F asked lt = (
  record { free = record { outside = F.free.outside; loose = F.free.loose; no_table = F.free.no_table; no_set = F.free.no_set }; closed = F.closed },
  asked,
  omega (arith, lt),
)
await_known false z range t F asked lt =
    one_place (λ q. ProtectComes q z range (record t { flush = record t.flush { awaited = t.flush.awaited + 1 } })) (nat_lt (t.flush.awaited + 1) z.vcpus)
    (next.Goes protect.Await) next.Over
    (λ e. (free_still, asked, grind (arith, nat_tests)))
    (λ e. free_still)
  where
    free_still : IsFreeOfOwn (record t { flush = record t.flush { awaited = t.flush.awaited + 1 } })
    free_still =
        record { free = record { outside = F.free.outside; loose = F.free.loose; no_table = F.free.no_table; no_set = F.free.no_set }; closed = F.closed }

-- After each step they go on with what the next place asks, or are over.
pub protect_known : (p : WriteProtectPlace) (z : Sizes) (range : FrameRange) (t : Topics) (v : ℕ) → AreSizes z → range.start < range.end
    → range.end ≤ 2 ^ 36 → t.walk.level ≤ 4 → WriteProtectKnows p z range t
    → ProtectComes (protect_next p z range t v) z range (part_topics (protect_part p range t) t v)
protect_known protect.Exclude z range t v sizes some low most K =
    one_place (λ q. WriteProtectKnows q z range (part_topics part.Exclude t v)) (v == 0) (protect.Walk false) protect.Exclude
    (λ e. (record { with_lock = alone_taken false t v K.free K.closed e; unasked = taken_flush t v K.closed e }, (λ rooted. absurd (cc rooted)), K.free.no_set))
    (λ e. record { free = alone_tried t v K.free e; closed = K.closed })
protect_known (protect.Walk false) z range t v sizes some low most K =
    root_walks (may_walk t.stay t.hold) z range t v (may_walk_alone t K.0.with_lock.alone) some low K.0 K.2
protect_known (protect.Walk true) z range t v sizes some low most K =
    swept_known _ z range t _ K.0 K.2 (sweep_known false range t.walk v low (K.1 refl))
protect_known protect.Protect z range t v sizes some low most K =
    swept_known _ z range t _ K.0 K.2
    (leaf_known false range t.walk (without_write t.walk.entry) low most K.1 (protected_done t.walk.level t.walk.entry K.1.leaf))
protect_known protect.Release z range t v sizes some low most K =
    let none = ap (λ (f : Flush). f.asked) K.0.unasked in
    let vcpus = sizes.some in (
      record { free = alone_let_go t K.0.with_lock.alone; closed = K.0.with_lock.is },
      omega (arith, none, vcpus),
      ap (λ (f : Flush). f.awaited) K.0.unasked,
    )
protect_known protect.Ask z range t v sizes some low most K =
    let vcpus = sizes.some in
    let lt = K.1 in
    let none = K.2 in
    let still : IsFreeOfOwn (part_topics (part.Ask t.flush.asked) t v) = record {
      free = record { outside = K.0.free.outside; loose = K.0.free.loose; no_table = K.0.free.no_table; no_set = K.0.free.no_set };
      closed = K.0.closed;
    } in
    one_place (λ q. WriteProtectKnows q z range (part_topics (part.Ask t.flush.asked) t v)) (nat_lt (t.flush.asked + 1) z.vcpus) protect.Ask protect.Await
    (λ e. (still, grind (arith, nat_tests), none))
    (λ e. (still, grind (arith, nat_tests), omega (arith, none, vcpus)))
protect_known protect.Await z range t v sizes some low most K = await_known (has_to_flush v) z range t K.0 K.1 K.2

-- ---- how many steps are left after it

abbrev pub protect_left_after : WriteProtectNext → Sizes → FrameRange → Topics → ℕ
protect_left_after (next.Goes p) z range t = protect_left p z range t
protect_left_after next.Over z range t = 0

swept_falls : (n : SweepNext) (z : Sizes) (range : FrameRange) (t : Topics) (w : TableWalk) (bound : ℕ) → left_after n false range w < bound
    → protect_left (protect_swept n) z range (record t { walk = w }) < 2 * z.vcpus + 1 + bound
swept_falls Over z range t w bound less = omega (arith, less)
swept_falls Leaf z range t w bound less = omega (arith, less)
swept_falls Entry z range t w bound less = omega (arith, less)

root_less : (b : Bool) (z : Sizes) (range : FrameRange) (t : Topics) (v : ℕ) → b ≡ true
    → protect_left (protect.Walk true) z range (record t { walk = at_root b t.walk v }) < 2 * z.vcpus + 3 + 5 * (range.end - range.start)
root_less false z range t v is = absurd (cc is)
root_less true z range t v is = let less = root_falls false range v t.walk in omega (arith, less)

await_falls : (waits : Bool) (z : Sizes) (range : FrameRange) (t : Topics) → waits ≡ false → t.flush.awaited < z.vcpus
    → protect_left_after (if waits || nat_lt (t.flush.awaited + 1) z.vcpus then next.Goes protect.Await else next.Over) z range
    (record t { flush = record t.flush { awaited = t.flush.awaited + (if waits then 0 else 1) } })
    < z.vcpus - t.flush.awaited
await_falls true z range t is lt = absurd (cc is)
await_falls false z range t is lt =
    either_place (λ q. protect_left_after q z range (record t { flush = record t.flush { awaited = t.flush.awaited + 1 } }) < z.vcpus - t.flush.awaited)
    (nat_lt (t.flush.awaited + 1) z.vcpus) (next.Goes protect.Await) next.Over (omega (arith, lt)) (omega (arith, lt))

-- Each step that doesn't wait leaves fewer.
pub protect_falls : (p : WriteProtectPlace) (z : Sizes) (range : FrameRange) (t : Topics) (v : ℕ) → range.end ≤ 2 ^ 36 → t.walk.level ≤ 4
    → WriteProtectKnows p z range t → part_waits (protect_part p range t) t v ≡ false
    → protect_left_after (protect_next p z range t v) z range (part_topics (protect_part p range t) t v) < protect_left p z range t
protect_falls protect.Exclude z range t v low most K goes =
    one_place (λ q. protect_left q z range (part_topics part.Exclude t v) < 2 * z.vcpus + 4 + 5 * (range.end - range.start)) (v == 0) (protect.Walk false)
    protect.Exclude (λ e. omega arith) (λ e. absurd (cc (goes, ap not e)))
protect_falls (protect.Walk true) z range t v low most K goes =
    swept_falls _ z range t _ _ (sweep_falls false range t.walk v low (K.1 refl))
protect_falls (protect.Walk false) z range t v low most K goes =
    root_less (may_walk t.stay t.hold) z range t v (may_walk_alone t K.0.with_lock.alone)
protect_falls protect.Protect z range t v low most K goes =
    swept_falls _ z range t _ _
    (leaf_falls false range t.walk (without_write t.walk.entry) low most K.1 (protected_done t.walk.level t.walk.entry K.1.leaf))
protect_falls protect.Release z range t v low most K goes =
    let none = ap (λ (f : Flush). f.asked) K.0.unasked in omega (arith, none)
protect_falls protect.Ask z range t v low most K goes =
    let lt = K.1 in
    let none = K.2 in
    one_place (λ q. protect_left q z range (part_topics (part.Ask t.flush.asked) t v) < z.vcpus + (z.vcpus - t.flush.asked))
    (nat_lt (t.flush.asked + 1) z.vcpus) protect.Ask protect.Await
    (λ e. omega (arith, lt)) (λ e. let all : z.vcpus ≤ t.flush.asked + 1 = grind (arith, nat_tests) in omega (arith, lt, none))
protect_falls protect.Await z range t v low most K goes = await_falls (has_to_flush v) z range t goes K.2
