-- After each step of a line that reads a dirty log it knows what its next place asks, or it is over.
use Rattle.std.proofs.lemmas.Bool.Decides.{nat_tests}
use Rattle.std.proofs.Common.{◌≡◌, ◌+◌, ◌<◌, ◌≤◌, ℕ, Bool, true, false, refl, ap, ◌∙◌, arith, subst, sym}
use Rattle.std.specs.Prelude.{◌==◌, ◌||◌, not, nat_lt, is_some, if◌then◌else◌, List, [], Option, None}
use Rattle.core_views.specs.declared.place.LogPlace.{LogPlace}
use Rattle.core_views.specs.declared.place.LogPlace.TheVariants.{AtOnce, Exclude, Take, Root, Walk, Protect, Release, Ask, Await, Peek}
use Rattle.core_views.specs.declared.sizes.Sizes.{Sizes}
use Rattle.core_views.specs.declared.topics.Flush.{Flush}
use Rattle.core_views.specs.declared.topics.Hold.TheVariants.{Exclusive}
use Rattle.core_views.specs.declared.topics.Topics.{Topics}
use Rattle.core_views.specs.declared.trace.Command.{Command}
use Rattle.core_views.specs.declared.trace.Slot.{Slot}
use Rattle.core_views.specs.Held.{Held}
use Rattle.core_views.specs.LogCommands.{IsReadOf, words_asked}
use Rattle.core_views.specs.SlotSets.{MemorySlots}
use Rattle.spte_words.specs.Entries.{without_write}
use Rattle.part_steps.specs.declared.part_step.PartStep.TheVariants as part
use Rattle.part_steps.specs.ControlBits.{has_to_flush}
use Rattle.part_steps.specs.PartBounds.{PartRests}
use Rattle.part_steps.specs.PartSteps.{IsAtRest, IsFree}
use Rattle.part_steps.specs.PartTopics.{part_topics}
use Rattle.part_steps.specs.StayTopics.{flush_kept, is_section, may_walk, no_flush}
use Rattle.mmu_core.specs.declared.log_next.LogNext.{LogNext}
use Rattle.mmu_core.specs.declared.log_next.LogNext.TheVariants as next
use Rattle.mmu_core.specs.lines.LockKnows.{HoldsLock}
use Rattle.mmu_core.specs.forms.log.LogKnows.{HasRead, IsReading, LogKnows}
use Rattle.mmu_core.specs.forms.log.LogSteps.{awaits_last, log_next, log_part, log_reads, reads_last, slot_asked}
use Rattle.mmu_core.proofs.lines.AloneKnown.{alone_let_go}
use Rattle.mmu_core.proofs.lines.EitherPlace.{one_place}
use Rattle.mmu_core.proofs.forms.host.HostMoves.{free_rests, rests_still}
use Rattle.mmu_core.proofs.lines.LockHeld.{rests_by_seq}
use Rattle.mmu_core.proofs.forms.log.LogKnownWords.{reads_all, reads_on}
use Rattle.mmu_core.proofs.orders.SearchKnown.{may_walk_alone}
use Rattle.mmu_core.proofs.orders.SweptSteps.{protected_done}
use Rattle.mmu_core.proofs.forms.log.LogKnownWalks.{LogComes, has_still, outs_still, past_known, reads_still, root_known, walk_known, with_words}

module _ (h g : Held) (command : Command) (v : ℕ) where
  -- the hand after the step
  abbrev behind : Topics → List ℕ → Held
  behind t words = with_words g h.state.sizes h.slots t words

  abbrev slot : Slot
  slot = slot_asked h command

  -- where a step leaves what it has read
  abbrev Knows : LogPlace → Topics → Type 0
  Knows q t = LogKnows q command (behind t h.harvest)

  -- ---- the lock, and the flush

  exclude_known : h.topics.invalidations.opened ≡ false → LogKnows Exclude command h
      → LogComes (log_next Exclude command h v) command (behind (part_topics part.Exclude h.topics v) [])
  exclude_known closed K =
      one_place (λ q. LogKnows q command (behind t [])) (v == 0) (if nat_lt 0 (words_asked command slot) then Take false else Root) Exclude
      (λ free. one_place (λ q. LogKnows q command (behind t [])) (nat_lt 0 (words_asked command slot)) (Take false) Root
      (λ some. (
        holds free,
        K.0.owns_none,
        outs_still h g command v t [] K.1,
        begins some,
        ap (λ (f : Flush). f.asked) (flush free),
        ap (λ (f : Flush). f.awaited) (flush free),
      ))
      (λ none. (
        holds free,
        K.0.owns_none,
        outs_still h g command v t [] K.1,
        has none,
        ap (λ (f : Flush). f.asked) (flush free),
        ap (λ (f : Flush). f.awaited) (flush free),
      )))
      (λ held. (
        record {
          outside = K.0.outside;
          loose = ap (λ (b : Bool). if b then Exclusive else h.topics.hold) held ∙ K.0.loose;
          owns_none = K.0.owns_none;
          owes_none = K.0.owes_none;
          no_table = K.0.no_table;
          no_set = K.0.no_set;
        },
        outs_still h g command v t [] K.1,
      ))
    where
      t : Topics
      t = part_topics part.Exclude h.topics v

      holds : (v == 0) ≡ true → HoldsLock Exclusive t
      holds free = record {
        outside = K.0.outside;
        holds = ap (λ (b : Bool). if b then Exclusive else h.topics.hold) free;
        no_table = K.0.no_table;
        no_set = K.0.no_set;
      }

      flush : (v == 0) ≡ true → t.flush ≡ no_flush
      flush free = ap (λ (b : Bool). flush_kept b h.topics) free ∙ ap (λ (b : Bool). if not b then no_flush else h.topics.flush) closed

      begins : nat_lt 0 (words_asked command slot) ≡ true → IsReading false slot command (behind t [])
      begins some = record {
        left = let more : 0 < words_asked command slot = grind (arith, nat_tests) in omega (arith, more);
        from = λ begun. absurd (cc begun);
        read = λ begun. absurd (cc begun);
        asked = λ begun. absurd (cc begun);
      }

      has : nat_lt 0 (words_asked command slot) ≡ false → HasRead slot command (behind t [])
      has none = record {
        read = let less : words_asked command slot ≤ 0 = grind (arith, nat_tests) in omega (arith, less);
        asked = λ i lt. absurd (omega (arith, lt));
      }

  free_flush : (f : Flush) → IsFree h.topics → IsFree (record h.topics { flush = f })
  free_flush f F = record { outside = F.outside; loose = F.loose; no_table = F.no_table; no_set = F.no_set }

  release_known : PartRests h → LogKnows Release command h → Knows Ask (part_topics part.Release h.topics v)
  release_known R K =
      let none = K.0.unasked in
      let some = R.sizes.some in (
        alone_let_go h.topics (record { outside = K.0.outside; alone = K.0.alone }),
        K.1,
        outs_still h g command v (part_topics part.Release h.topics v) h.harvest K.2,
        has_still h g command v (part_topics part.Release h.topics v) K.3,
        omega (arith, none, some),
        K.0.unawaited,
      )

  ask_known : PartRests h → LogKnows Ask command h
      → LogComes (log_next Ask command h v) command (behind (part_topics (part.Ask h.topics.flush.asked) h.topics v) h.harvest)
  ask_known R K =
      let lt = K.4 in
      let none = K.5 in
      let some = R.sizes.some in
      one_place (λ q. Knows q t) (nat_lt (h.topics.flush.asked + 1) h.state.sizes.vcpus) Ask Await
      (λ e. (free_flush t.flush K.0, K.1, outs_still h g command v t h.harvest K.2, has_still h g command v t K.3, grind (arith, nat_tests), none))
      (λ e. (
        free_flush t.flush K.0,
        K.1,
        outs_still h g command v t h.harvest K.2,
        has_still h g command v t K.3,
        grind (arith, nat_tests),
        omega (arith, none, some),
      ))
    where
      t : Topics
      t = part_topics (part.Ask h.topics.flush.asked) h.topics v

  await_known : (waits : Bool) → PartRests h → LogKnows Await command h
      → LogComes (if waits || not (awaits_last h) then next.Goes Await else next.Reads) command
      (behind (record h.topics { flush = record h.topics.flush { awaited = h.topics.flush.awaited + (if waits then 0 else 1) } }) h.harvest)
  await_known true R K =
      let t : Topics = record h.topics { flush = record h.topics.flush { awaited = h.topics.flush.awaited + 0 } } in
      let lt = K.5 in
      (free_flush t.flush K.0, K.1, outs_still h g command v t h.harvest K.2, has_still h g command v t K.3, K.4, omega (arith, lt))
  await_known false R K =
      let t : Topics = record h.topics { flush = record h.topics.flush { awaited = h.topics.flush.awaited + 1 } } in
      one_place (λ q. LogComes q command (behind t h.harvest)) (not (awaits_last h)) (next.Goes Await) next.Reads
      (λ more. (free_flush t.flush K.0, K.1, outs_still h g command v t h.harvest K.2, has_still h g command v t K.3, K.4, grind (arith, nat_tests)))
      (λ last. (free_rests t K.1 (R.owes (ap is_section K.0.outside)) (free_flush t.flush K.0), has_still h g command v t K.3))

  -- ---- the words

  take_known : (begun : Bool) → LogKnows (Take begun) command h
      → LogComes (log_next (Take begun) command h v) command
      (behind (part_topics (log_part (Take begun) h command) h.topics v) (log_reads (Take begun) command h v))
  take_known begun K =
      one_place (λ q. LogKnows q command after) (reads_last begun slot command h.topics) Root (Take true)
      (λ last. (holds, K.1, outs_still h g command v t words K.2, reads_all begun slot command h after v K.3 refl last, K.4, K.5))
      (λ more. (holds, K.1, outs_still h g command v t words K.2, reads_on begun slot command h after v K.3 refl refl more, K.4, K.5))
    where
      t : Topics
      t = part_topics (log_part (Take begun) h command) h.topics v

      words : List ℕ
      words = log_reads (Take begun) command h v

      after : Held
      after = behind t words

      holds : HoldsLock Exclusive t
      holds = record { outside = K.0.outside; holds = K.0.holds; no_table = K.0.no_table; no_set = K.0.no_set }

  peek_known : (begun : Bool) → LogKnows (Peek begun) command h
      → LogComes (log_next (Peek begun) command h v) command
      (behind (part_topics (log_part (Peek begun) h command) h.topics v) (log_reads (Peek begun) command h v))
  peek_known begun K =
      one_place (λ q. LogComes q command after) (reads_last begun slot command h.topics) next.Reads (next.Goes (Peek true))
      (λ last. (rests, reads_all begun slot command h after v K.3 refl last))
      (λ more. (rests, reads_still h g command v t words K.1, K.2, reads_on begun slot command h after v K.3 refl refl more))
    where
      t : Topics
      t = part_topics (log_part (Peek begun) h command) h.topics v

      words : List ℕ
      words = log_reads (Peek begun) command h v

      after : Held
      after = behind t words

      rests : IsAtRest t
      rests = rests_still h.topics t refl refl refl refl refl refl K.0

  -- ---- each place

  known_behind : (p : LogPlace) → PartRests h → IsReadOf command slot → h.topics.invalidations.opened ≡ false → h.topics.retired ≡ None
      → LogKnows p command h
      → LogComes (log_next p command h v) command (behind (part_topics (log_part p h command) h.topics v) (log_reads p command h v))
  known_behind (AtOnce refusal) R F closed none K = rests_by_seq h.topics v K.0
  known_behind Exclude R F closed none K = exclude_known closed K
  known_behind (Take begun) R F closed none K = take_known begun K
  known_behind Root R F closed none K =
      root_known h g command v (may_walk h.topics.stay h.topics.hold) (may_walk_alone h.topics (record { outside = K.0.outside; alone = K.0.holds })) F K
  known_behind (Walk page) R F closed none K =
      walk_known h g command v page R F (ap (λ (b : Bool). b || is_some h.topics.retired) closed ∙ ap (λ (o : Option ℕ). is_some o) none) K
  known_behind (Protect page) R F closed none K =
      past_known h g command v page (without_write h.topics.walk.entry) h.topics.walk K.0.there K.0 K.1 K.2 K.3 K.4
      (protected_done h.topics.walk.level h.topics.walk.entry K.6)
  known_behind Release R F closed none K = release_known R K
  known_behind Ask R F closed none K = ask_known R K
  known_behind Await R F closed none K = await_known (has_to_flush v) R K
  known_behind (Peek begun) R F closed none K = peek_known begun K

-- What the line knows after the step of its place, of the hand with what the step leaves.
pub log_known : (p : LogPlace) (h g : Held) (command : Command) (v : ℕ) → PartRests h → IsReadOf command (slot_asked h command)
    → h.topics.invalidations.opened ≡ false → h.topics.retired ≡ None → LogKnows p command h → g.state.sizes ≡ h.state.sizes → g.slots ≡ h.slots
    → g.topics ≡ part_topics (log_part p h command) h.topics v → g.harvest ≡ log_reads p command h v → LogComes (log_next p command h v) command g
log_known p h g command v R F closed none K sizes slots topics words =
    subst (λ (w : List ℕ). LogComes n command (with_words g g.state.sizes g.slots g.topics w)) (sym words)
    (subst (λ (t : Topics). LogComes n command (with_words g g.state.sizes g.slots t (log_reads p command h v))) (sym topics)
    (subst (λ (s : MemorySlots). LogComes n command (with_words g g.state.sizes s t_ (log_reads p command h v))) (sym slots)
    (subst (λ (z : Sizes). LogComes n command (with_words g z h.slots t_ (log_reads p command h v))) (sym sizes)
    (known_behind h g command v p R F closed none K))))
  where
    n : LogNext
    n = log_next p command h v

    t_ : Topics
    t_ = part_topics (log_part p h command) h.topics v
