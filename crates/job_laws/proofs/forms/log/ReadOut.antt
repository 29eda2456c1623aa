-- A line that takes pages out of a dirty log is answered after each flush; then nothing that allows writes is left of what it has taken and nobody marks.
use Rattle.std.proofs.Common.{◌≡◌, ◌⊎◌, inl, inr, ◌<◌, ◌≤◌, ◌+◌, ◌*◌, ◌/◌, ◌^◌, ℕ, Bool, true, false, List, [], ◌∷◌, ◌++◌, refl, sym, ap, ◌∙◌, subst, arith}
use Rattle.std.proofs.lemmas.Bool.Decides.{nat_tests}
use Rattle.std.specs.Prelude.{is_some, nat_le, nat_lt, not, ◌||◌, if◌then◌else◌}
use Rattle.core_views.specs.declared.actor.Actor.TheVariants.{Manager}
use Rattle.core_views.specs.declared.answer.Answer.TheVariants.{Bits}
use Rattle.core_views.specs.declared.kind.Kind.{Kind}
use Rattle.core_views.specs.declared.place.LogPlace.{LogPlace}
use Rattle.core_views.specs.declared.place.LogPlace.TheVariants as log
use Rattle.core_views.specs.declared.place.Place.{Place}
use Rattle.core_views.specs.declared.place.Place.TheVariants as place
use Rattle.core_views.specs.declared.sizes.Sizes.{Sizes}
use Rattle.core_views.specs.declared.topics.Hold.TheVariants.{Loose}
use Rattle.core_views.specs.declared.topics.Topics.{Topics}
use Rattle.core_views.specs.declared.trace.Command.{Command}
use Rattle.core_views.specs.declared.trace.Command.TheVariants.{Access}
use Rattle.core_views.specs.declared.trace.Slot.{Slot}
use Rattle.core_views.specs.Held.{Held}
use Rattle.core_views.specs.LogCommands.{log_read, takes_out}
use Rattle.core_views.specs.Sizes.{actors_of, index_of}
use Rattle.spte_words.specs.declared.area.Area.TheVariants as area
use Rattle.spte_words.specs.declared.spte_kind.SpteKind.TheVariants.{Leaf}
use Rattle.spte_words.specs.Areas.{pool_index}
use Rattle.spte_words.specs.Entries.{can_write, kind_of, level_span}
use Rattle.part_steps.specs.ControlBits.{has_to_flush}
use Rattle.part_steps.specs.PartTasks.{entry_index}
use Rattle.part_steps.specs.PartTopics.{part_topics}
use Rattle.log_invariant.specs.Excuses.{ExcusesCached, ExcusesLeaf, forbidding_at}
use Rattle.log_invariant.specs.Forbidding.{FlushesLater, ForbidsLater}
use Rattle.log_invariant.specs.forms.slot_change.LogBegins.{LogIsUnwatchedAt, begun_at}
use Rattle.log_invariant.specs.LogInvariant.{IsGuardedIn, LogInvariant}
use Rattle.log_invariant.specs.forms.log.LogReads.{HasTakenOut, taken_at}
use Rattle.log_invariant.proofs.LogRuns.{writes_are_covered}
use Rattle.mmu_core.specs.declared.log_next.LogNext.TheVariants as next
use Rattle.mmu_core.specs.declared.outcome.Outcome.TheVariants.{Ends}
use Rattle.mmu_core.specs.invariant.Laws.{IsSound}
use Rattle.mmu_core.specs.invariant.TreePart.{Position}
use Rattle.mmu_core.specs.lines.Forms.{KnowsPart, outcome_at, part_at}
use Rattle.mmu_core.specs.forms.log.LogKnows.{LogKnows}
use Rattle.mmu_core.specs.forms.log.LogOutcomes.{after_log}
use Rattle.mmu_core.specs.forms.log.LogSteps.{log_next, log_part, log_reads}
use Rattle.mmu_core.specs.machine.Enabled.{mmu}
use Rattle.mmu_core.specs.machine.Machine.{Step, World, hand_in, run}
use Rattle.mmu_core.specs.machine.Steps.{place_at}
use Rattle.mmu_core.specs.machine.Turns.{line_of}
use Rattle.mmu_core.specs.machine.View.{view, word_in}
use Rattle.mmu_core.specs.alone.Leads.{LeadsTo}
use Rattle.mmu_core.proofs.lines.Forms.{knows_for}
use Rattle.mmu_core.proofs.forms.access.FaultSame.{both}
use Rattle.mmu_core.proofs.forms.log.LogMakes.{log_is_managers}
use Rattle.mmu_core.proofs.machine.LineRuns.{legal_one_more}
use Rattle.mmu_core.proofs.machine.PartStepping.{behind_part}
use Rattle.mmu_core.proofs.pages.NoneBelow.{over_frame}
use Rattle.mmu_core.proofs.pages.Standing.{spot_of}
use Rattle.mmu_laws.proofs.forms.log.ReadsNot.{reads_not}
use Rattle.mmu_laws.proofs.flat.BeginningsKept.{beginning_is}
use Rattle.mmu_laws.proofs.forms.log.ReadSlots.{taken_is}
use Rattle.mmu_laws.proofs.leaves.LeafLaws.{from_root}
use Rattle.step_seats.specs.LineTurns.{MakesLine}
use Rattle.step_seats.specs.Moves.{step_by}
use Rattle.job_laws.specs.ReadOut.{AfterReadingsWritesAreCovered, EachWriteIsCovered, IsOfLog, IsCoveredIn, ReadingsHaveFlushes}
use Rattle.job_laws.proofs.Turned.{ends_of, is_access}
use Rattle.job_laws.proofs.Turned as turned

-- ---- each flush

-- The topics after the last await of a line that reads a log, which found this state word.
record IsFlushedBy (h : Held) (v : ℕ) (t : Topics) : Type 0 where
  loose : h.topics.hold ≡ Loose
  asked : t.flush.asked ≡ h.state.sizes.vcpus
  awaited : t.flush.awaited ≡ h.state.sizes.vcpus
  last : has_to_flush v ≡ false

-- Its line comes to its answer there, where it takes out what it reads.
log_ends : (q : LogPlace) (c : Command) (h : Held) (v : ℕ) (words : List ℕ) (t : Topics) → LogKnows q c h → takes_out h.state.sizes.mode c ≡ true
    → after_log (log_next q c h v) (log_reads q c h v) ≡ Ends (Bits words) → t ≡ part_topics (log_part q h c) h.topics v → IsFlushedBy h v t
log_ends log.Await c h v words t K out e is = by (has_to_flush v) refl (nat_lt (h.topics.flush.awaited + 1) h.state.sizes.vcpus) refl e
  where
    by : (b : Bool) → has_to_flush v ≡ b → (more : Bool) → nat_lt (h.topics.flush.awaited + 1) h.state.sizes.vcpus ≡ more
        → after_log (if b || not (not more) then next.Goes log.Await else next.Reads) (log_reads log.Await c h v) ≡ Ends (Bits words) → IsFlushedBy h v t
    by true has more last e = absurd (cc e)
    by false has true last e = absurd (cc e)
    by false has false last e = record {
      loose = K.0.loose;
      asked = ap (λ (x : Topics). x.flush.asked) is ∙ K.4;
      awaited = ap (λ (x : Topics). x.flush.awaited) is ∙ ap (λ (b : Bool). h.topics.flush.awaited + (if b then 0 else 1)) has
          ∙ (let low = K.5 in let high : h.state.sizes.vcpus ≤ h.topics.flush.awaited + 1 = grind (arith, nat_tests) in omega (arith, low, high));
      last = has;
    }
log_ends (log.Peek begun) c h v words t K out e is = absurd (let not_ = K.2 in cc (not_, out))
log_ends _ c h v words t K out e is = absurd (cc e)

reading_ends : (p : Place) (c : Command) (h : Held) (v : ℕ) (words : List ℕ) (t : Topics) → KnowsPart p c h → is_some (log_read c) ≡ true
    → takes_out h.state.sizes.mode c ≡ true → outcome_at p c h v ≡ Ends (Bits words) → t ≡ behind_part (part_at p c h) h.topics v → IsFlushedBy h v t
reading_ends (place.Log q) c h v words t K reads out e is = log_ends q c h v words t K out e is
reading_ends place.Between c h v words t K reads out e is = absurd (cc e)
reading_ends p c h v words t K reads out e is = absurd (let none = reads_not p c h (knows_for p c h tt K) refl in cc (none, reads))

reading_form : (c : Command) → is_some (log_read c) ≡ true → is_access c ≡ false
reading_form (Access gfn word op) is = absurd (cc is)
reading_form _ is = refl

pub readings_have_flushes : ReadingsHaveFlushes
readings_have_flushes z lines start ss before after words out A =
    record { loose = F.loose; asked = F.asked; awaited = F.awaited; last = F.last }
  where
    h : Held
    h = before.hand

    p : Place
    p = place_at h.state.place h

    v : ℕ
    v = A.turns.makes.found

    sizes : h.state.sizes ≡ z
    sizes = turned.same_sizes z lines start ss before after A.is_start A.legal A.told A.left A.turns.makes

    F : IsFlushedBy h v after.hand.topics
    F =
        reading_ends p (line_of h).command h v words after.hand.topics
        (turned.knows z lines start ss before after A.is_start A.legal A.told A.left A.turns.makes) A.reads
        (ap (λ (x : Sizes). takes_out x.mode (line_of h).command) sizes ∙ out)
        (ends_of p (line_of h).command h v (Bits words) (reading_form (line_of h).command A.reads) A.turns.gives.1)
        (turned.topics z lines start ss before after A.is_start A.legal A.told A.left A.turns.makes)

-- ---- nothing excuses a write

-- Whose line excuses a leaf, or a translation, begins a log or has taken the frame out of one.
leaf_excused : (p : Place) (command : Command) (h : Held) (gfn : ℕ) → ForbidsLater (forbidding_at p command h) gfn
    → (begun_at p h.topics).Has gfn ⊎ (taken_at p command h).Has gfn
leaf_excused (place.SlotChange p) command h gfn later = inl later.0
leaf_excused _ command h gfn later = inr later.0

use_excused : (p : Place) (command : Command) (h : Held) (v state gfn : ℕ) → FlushesLater (forbidding_at p command h) v state gfn
    → (begun_at p h.topics).Has gfn ⊎ (taken_at p command h).Has gfn
use_excused (place.SlotChange p) command h v state gfn later = inl later.0
use_excused _ command h v state gfn later = inr later.0

module _ (z : Sizes) (w : World Held) (a : ℕ) (G : IsSound z w) (L : LogInvariant z (view z w)) (there : a < actors_of z)
    (manager : (hand_in mmu w a).state.actor ≡ Manager) (rests : (hand_in mmu w a).state.place ≡ place.Between) where
  -- No other hand than the manager's is at such a place, nor is this one.
  none_forbids : (j gfn : ℕ) → j < actors_of z
      → (begun_at (hand_in mmu w j).state.place (hand_in mmu w j).topics).Has gfn ⊎ HasTakenOut (hand_in mmu w j) gfn → ⊥
  none_forbids j gfn lt (inl forbids) =
      subst (λ (p : Place). (begun_at p (hand_in mmu w a).topics).Has gfn) rests
      (subst (λ i. (begun_at (hand_in mmu w i).state.place (hand_in mmu w i).topics).Has gfn)
      (beginning_is z (view z w) a j gfn G.holds there manager lt (inr forbids)) forbids)
  none_forbids j gfn lt (inr taken) =
      subst (λ (p : Place). (taken_at p (hand_in mmu w a).state.line.command (hand_in mmu w a)).Has gfn) rests
      (subst (λ i. HasTakenOut (hand_in mmu w i) gfn) (taken_is z (view z w) a j gfn G.holds there manager lt taken) taken)

  leaf_not_excused : (j gfn : ℕ) → j < actors_of z → ExcusesLeaf (hand_in mmu w j) gfn → ⊥
  leaf_not_excused j gfn lt (inl opens) =
      subst (λ (p : Place). LogIsUnwatchedAt p (hand_in mmu w a).state.line.command (hand_in mmu w a) gfn) rests
      (subst (λ i. LogIsUnwatchedAt (hand_in mmu w i).state.place (hand_in mmu w i).state.line.command (hand_in mmu w i) gfn)
      (beginning_is z (view z w) a j gfn G.holds there manager lt (inl opens)) opens.0)
  leaf_not_excused j gfn lt (inr later) =
      none_forbids j gfn lt (leaf_excused (hand_in mmu w j).state.place (hand_in mmu w j).state.line.command (hand_in mmu w j) gfn later)

  use_not_excused : (v state j gfn : ℕ) → j < actors_of z → ExcusesCached v state (hand_in mmu w j) gfn → ⊥
  use_not_excused v state j gfn lt (inl opens) = leaf_not_excused j gfn lt (inl opens)
  use_not_excused v state j gfn lt (inr later) =
      none_forbids j gfn lt (use_excused (hand_in mmu w j).state.place (hand_in mmu w j).state.line.command (hand_in mmu w j) v state gfn later)

  -- What is guarded, and not excused, is told.
  told_if : (Excuses : Held → ℕ → Type 0) (slot : Slot) (gfn : ℕ) → ((j : ℕ) → j < actors_of z → Excuses (hand_in mmu w j) gfn → ⊥) → IsOfLog z w slot gfn
      → IsGuardedIn (actors_of z) (word_in z w area.Log) (word_in z w area.Pool) (word_in z w area.Slots 0) (hand_in mmu w) Excuses gfn
      → IsCoveredIn z w slot gfn
  told_if Excuses slot gfn none O guarded = by (guarded O.id slot O.logged O.has)
    where
      by : IsCoveredIn z w slot gfn ⊎ ((j : ℕ) × (j < actors_of z) × Excuses (hand_in mmu w j) gfn) → IsCoveredIn z w slot gfn
      by (inl told) = told
      by (inr (j, lt, excuse)) = absurd (none j lt excuse)

  each_write_is_covered : EachWriteIsCovered z w
  each_write_is_covered = record {
    leaves = λ slot gfn low entry O leads leaf allows.
        told_if ExcusesLeaf slot gfn (λ j. leaf_not_excused j gfn) O (at_leaf slot gfn low entry O leads leaf allows);
    cached = λ v slot gfn lt may O i d low allows over.
        told_if (ExcusesCached v (word_in z w area.State v)) slot gfn (λ j. use_not_excused v (word_in z w area.State v) j gfn) O
        (L.cached v lt may i d low allows gfn over);
  }
    where
      small_frame : (slot : Slot) (gfn : ℕ) → IsOfLog z w slot gfn → gfn < 2 ^ 36
      small_frame slot gfn O =
          let fits = subst (λ (x : Slot). x.base + x.pages ≤ 2 ^ 36) O.logged.live.is
          (G.holds.set_part.slots.fits O.id O.logged.live.low O.logged.live.live).frames in
          let lt : nat_lt gfn (slot.base + slot.pages) ≡ true = (both (nat_le slot.base gfn) (nat_lt gfn (slot.base + slot.pages)) O.has).1 in
          let less : gfn < slot.base + slot.pages = grind (arith, nat_tests) in
          omega (arith, less, fits)

      at_leaf : (slot : Slot) (gfn low entry : ℕ) → IsOfLog z w slot gfn → LeadsTo (word_in z w area.Pool) 4 (word_in z w area.Root 0) gfn low entry
          → kind_of low entry ≡ Leaf → can_write entry ≡ true
          → IsGuardedIn (actors_of z) (word_in z w area.Log) (word_in z w area.Pool) (word_in z w area.Slots 0) (hand_in mmu w) ExcusesLeaf gfn
      at_leaf slot gfn low entry O leads leaf allows =
          let I = G.topics in
          let small : gfn < 2 ^ 36 = small_frame slot gfn O in
          let end_ = from_root I.tree (let most = G.holds.sizes.pool.1 in omega (arith, most)) gfn low entry small leads in
          let here : I.spot end_.0 ≡ over_frame low gfn = (spot_of I.up I.spot end_.0 _ end_.1).1 in
          L.leaves I.up I.spot I.tree end_.0 (entry_index gfn low) gfn end_.3
          (omega arith, subst (λ (p : Position). gfn / level_span p.level ≡ p.prefix * 512 + entry_index gfn low) (sym here) (omega arith))
          (subst (λ (p : Position). kind_of p.level (word_in z w area.Pool (pool_index end_.0 (entry_index gfn low))) ≡ Leaf) (sym here)
          (ap (kind_of low) end_.2 ∙ leaf))
          (ap can_write end_.2 ∙ allows)

pub after_readings_writes_are_told : AfterReadingsWritesAreCovered
after_readings_writes_are_told z lines start ss before after answer A =
    each_write_is_covered z w before.actor (turned.sound_after z lines start ss before after A.is_start A.legal A.told A.left M) covered there
    (subst (λ i. (hand_in mmu w i).state.actor ≡ Manager) place_is covered.manager)
    (ap (λ (g : Held). g.state.place) (turned.hand_after z lines start ss before after A.is_start A.legal A.told A.left M) ∙ A.says.between)
  where
    M : MakesLine before after
    M = A.turns.makes

    s : Step Kind
    s = step_by before.actor M.kind

    w : World Held
    w = run mmu start (ss ++ s ∷ [])

    there : before.actor < actors_of z
    there = turned.there z lines start ss before after A.is_start A.legal A.told A.left M

    covered : LogInvariant z (view z w)
    covered =
        (writes_are_covered z lines start (ss ++ s ∷ []) A.is_start
        (legal_one_more start ss s A.legal (turned.made z lines start ss before after A.is_start A.legal A.told A.left M).0.may)).holds

    manager : before.hand.state.actor ≡ Manager
    manager =
        sym (turned.own z lines start ss before after A.is_start A.legal A.told A.left M)
        ∙ log_is_managers z (line_of before.hand).actor (line_of before.hand).command A.reads
        (turned.allowed z lines start ss before after A.is_start A.legal A.told A.left M)

    place_is : z.vcpus + z.hosts ≡ before.actor
    place_is =
        ap (index_of z) (sym manager)
        ∙ turned.index z lines start ss before after A.is_start A.legal A.told A.left M
