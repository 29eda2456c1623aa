-- What is covered stays covered, by each step; and which slots have a dirty log after it.
use Rattle.std.proofs.Common.{◌≡◌, ◌≢◌, ◌⊎◌, ◌<◌, ℕ, inl, inr, refl, sym, subst, ap, ◌∙◌}
use Rattle.std.specs.Prelude.{Bool, None, Option, Some, false, true}
use Rattle.core_views.specs.declared.place.LogPlace.{LogPlace}
use Rattle.core_views.specs.declared.place.LogPlace.TheVariants as log
use Rattle.core_views.specs.declared.place.Place.{Place}
use Rattle.core_views.specs.declared.place.Place.TheVariants as place
use Rattle.core_views.specs.declared.place.SlotChangePlace.TheVariants as change
use Rattle.core_views.specs.declared.sizes.Sizes.{Sizes}
use Rattle.core_views.specs.declared.trace.Command.{Command}
use Rattle.core_views.specs.declared.trace.Line.{Line}
use Rattle.core_views.specs.declared.trace.Slot.{Slot as SlotOf}
use Rattle.core_views.specs.Held.{Held}
use Rattle.core_views.specs.Sizes.{actors_of}
use Rattle.core_views.specs.SlotCommands.{slot_armed}
use Rattle.core_views.specs.Slots.{contains}
use Rattle.spte_words.specs.declared.area.Area.TheVariants as area
use Rattle.part_steps.specs.declared.part_step.PartStep.{PartStep}
use Rattle.part_steps.specs.PartSteps.{needs_line}
use Rattle.mmu_core.specs.invariant.Invariant.{Invariant}
use Rattle.mmu_core.specs.invariant.TopicsInvariant.{TopicsInvariant}
use Rattle.mmu_core.specs.machine.View.{View, part_stepped, stepped, answer_in, hand_after, upd, words_after}
use Rattle.mmu_core.specs.forms.log.LogSteps.{log_part, read_more, slot_asked}
use Rattle.mmu_core.proofs.forms.access.AccessParts.{AreSmall}
use Rattle.mmu_core.proofs.machine.PartStepping.{IsPart, idle_never}
use Rattle.mmu_core.proofs.machine.Stepping.{IsStep}
use Rattle.log_invariant.specs.Covered.{IsCovered, IsLoggedIn, IsOwed, is_marked}
use Rattle.log_invariant.specs.LogInvariant.{IsGuarded, IsGuardedIn, LogInvariant}
use Rattle.log_invariant.specs.forms.log.LogReads.{HasTakenOut, IsRead}
use Rattle.log_invariant.proofs.HeldLogs.{IsLoggedNow, marked_is_live, set_logged_was}
use Rattle.core_views.specs.declared.topics.Topics.{Topics}
use Rattle.core_views.specs.declared.trace.Op.{Op}
use Rattle.spte_words.specs.declared.area.Area.{Area}
use Rattle.part_steps.specs.declared.part_step.PartStep.TheVariants as part
use Rattle.part_steps.specs.declared.task.Task.{Task}
use Rattle.part_steps.specs.PartTasks.{own_index, part_task, page_owed, number_or_none}
use Rattle.part_steps.specs.PartTopics.{part_topics}
use Rattle.part_steps.specs.SlotWords.{page_of, slot_at}
use Rattle.part_steps.specs.Tasks.{kind_of_task}
use Rattle.part_steps.specs.TopicSteps.{topics_after}
use Rattle.mmu_core.specs.forms.access.AccessSteps.{touch_of}
use Rattle.mmu_core.specs.lines.Forms.{part_at}
use Rattle.mmu_core.specs.lines.PartAt.{task_at}
use Rattle.mmu_core.proofs.invariant.Kept.{makes_at}
use Rattle.mmu_core.proofs.invariant.QuietKept.{sets_stay}
use Rattle.mmu_core.proofs.lines.KnowsKept.{touch_topics}
use Rattle.mmu_core.proofs.machine.Columns.{same_or, upd_other, upd_same}
use Rattle.mmu_core.proofs.slots.LiveStays.{SetStays, published_stays}
use Rattle.mmu_core.proofs.words.PartTopics.{is_there, part_topics_is}
use Rattle.mmu_core.proofs.words.PartWords.{slots_are, slots_same}
use Rattle.log_invariant.proofs.LogWords.{idle_no_mark, idle_off_log, log_same, marked_kept, marked_now, touch_leaves_log}
use Rattle.log_invariant.proofs.PublishedLogs.{published_logs}
use Rattle.log_invariant.proofs.StepPlaces.{StepAt, Makes, Touches, publishes_none, step_at, takes, takes_bits, takes_none, takes_of}
use Rattle.log_invariant.proofs.forms.log.TakenFrames.{left_or_read, read_taken}
use Rattle.log_invariant.proofs.forms.log.PassedFrames.{topics_then}
use Rattle.mmu_core.proofs.forms.log.ReadingPlaces.{reading_is}
use Rattle.mmu_core.specs.forms.log.Readings.{Reading, reading_at}
use Rattle.mmu_core.proofs.held.OwedKept.{is_mark, owed_stays}

-- ---- which slots have a log

-- The step publishes the slot set in which this slot has a dirty log that the line begins.
pub record PublishesLog (v : View) (a : ℕ) (command : Command) (p : Place) (slot : SlotOf) : Type 0 where
  pub at : p ≡ place.SlotChange change.Publish
  pub begins : slot_armed (v.hand a).slots command ≡ Some slot

-- So it had it where the published set is the same, and its words stay.
logged_stays : (v : View) (words : Area → ℕ → ℕ) (id : ℕ) (slot : SlotOf) → words area.Slots 0 ≡ v.words area.Slots 0
    → SetStays (v.words area.Slots 0) (v.words area.Pool) (words area.Pool) → IsLoggedIn (words area.Pool) (words area.Slots 0) id slot → IsLoggedNow v id slot
logged_stays v words id slot same stays logged =
    set_logged_was (v.words area.Slots 0) (v.words area.Pool) (words area.Pool) id slot stays (subst (λ s. IsLoggedIn (words area.Pool) s id slot) same logged)

-- A slot that has a log after a step had it before, or the step is a line's publication that begins it.
pub logged_before : (z : Sizes) (v : View) (a : ℕ) (line : Line) (command : Command) (p : Place) → AreSmall v → IsStep z v a line command p → Invariant z v
    → TopicsInvariant z v → (id : ℕ) (slot : SlotOf) → IsLoggedNow (stepped a line command p v) id slot
    → IsLoggedNow v id slot ⊎ PublishesLog v a command p slot
logged_before z v a line command (place.SlotChange change.Publish) small S I P id slot logged =
    by ((published_logs z v a line command S I).had id slot logged)
  where
    by : IsLoggedNow v id slot ⊎ (slot_armed (v.hand a).slots command ≡ Some slot)
        → IsLoggedNow v id slot ⊎ PublishesLog v a command (place.SlotChange change.Publish) slot
    by (inl had) = inl had
    by (inr begins) = inr (record { at = refl; begins = begins })
logged_before z v a line command p small S I P id slot logged =
    let W = sets_stay z v a p command (makes_at z v a line command p small S I P) (λ step is. publishes_none p command (v.hand a) step refl is) P in
    inl (logged_stays v (words_after (task_at p command (v.hand a)) v.words) id slot W.slots W.pool logged)

pub idle_logged_before : (z : Sizes) (v : View) (a : ℕ) (step : PartStep) (note : ℕ) → IsPart z v a step → needs_line step ≡ false → TopicsInvariant z v
    → (id : ℕ) (slot : SlotOf) → IsLoggedNow (part_stepped a step note v) id slot → IsLoggedNow v id slot
idle_logged_before z v a step note S free P id slot logged =
    logged_stays v (part_stepped a step note v).words id slot
    (slots_are v a step note ∙ slots_same step (v.hand a).topics (v.words area.Slots 0) (idle_never step free)) (published_stays z v a step note S P) logged

-- ---- what is covered

-- A write to the guest frame in the slot is covered, of a view.
abbrev pub IsCoveredNow : Sizes → View → SlotOf → ℕ → Type 0
IsCoveredNow z v slot gfn = IsCovered (actors_of z) (v.words area.Log) (λ i. (v.hand i).topics) slot gfn

-- Where the step marks nothing, who owes a mark owes it still.
owes_still : (z : Sizes) (v : View) (a : ℕ) (step : PartStep) (note : ℕ) → IsPart z v a step → is_mark step ≡ false → (gfn i : ℕ) → i < actors_of z
    → (v.hand i).topics.owed ≡ Some gfn → (g : Held) (x : ℕ) → g.topics ≡ part_topics step (v.hand a).topics x
    → IsOwed (actors_of z) (λ j. (upd v.hand a g j).topics) gfn
owes_still z v a step note S other gfn i lt owed g x topics = (i, lt, by (same_or i a))
  where
    by : (i ≡ a) ⊎ (i ≢ a) → (upd v.hand a g i).topics.owed ≡ Some gfn
    by (inl e) =
        ap (λ j. (upd v.hand a g j).topics.owed) e ∙ ap (λ (y : Held). y.topics.owed) (upd_same v.hand a g) ∙ ap (λ (t : Topics). t.owed) topics
        ∙ owed_stays step (v.hand a) x gfn S.needs other (ap (λ j. (v.hand j).topics.owed) (sym e) ∙ owed)
    by (inr ne) = ap (λ (y : Held). y.topics.owed) (upd_other v.hand a i g ne) ∙ owed

-- Who owes a mark for a guest frame of a published slot with a log has found this slot.
pub found_same : (z : Sizes) (v : View) (i id gfn : ℕ) (slot : SlotOf) → i < actors_of z → Invariant z v → TopicsInvariant z v → LogInvariant z v
    → IsLoggedNow v id slot → contains gfn slot ≡ true → (v.hand i).topics.owed ≡ Some gfn → (v.hand i).topics.search.slot ≡ slot
found_same z v i id gfn slot lt I P G logged holds owed =
    let M = marked_is_live z v i gfn lt I P G owed in
    let L = logged.live in
    let same : M.id ≡ id = I.set_part.slots.guest_apart gfn M.id id M.live.low L.low M.live.live L.live (ap (contains gfn) M.live.is ∙ M.found.holds)
    (ap (contains gfn) L.is ∙ holds) in
    sym M.live.is ∙ ap (slot_at (v.words area.Pool) (v.words area.Slots 0)) same ∙ L.is

-- A write to a frame of such a slot stays covered behind each task that takes no bits.
module _ (z : Sizes) (v : View) (a : ℕ) (named : Option PartStep) (I : Invariant z v) (id gfn : ℕ) (slot : SlotOf) (logged : IsLoggedNow v id slot)
    (holds : contains gfn slot ≡ true) (keeps : (step : PartStep) → named ≡ Some step → takes_bits step ≡ false)
    (found : (v.hand a).topics.owed ≡ Some gfn → (v.hand a).topics.search.slot ≡ slot) where
  abbrev h : Held
  h = v.hand a

  abbrev CoveredBy : Task → Held → Type 0
  CoveredBy task g = IsCovered (actors_of z) (words_after task v.words area.Log) (λ i. (upd v.hand a g i).topics) slot gfn

  -- the mark that the actor owed
  paid : (v.hand a).topics.owed ≡ Some gfn → (note : ℕ)
      → is_marked (words_after (part_task part.Mark (own_index h) h.topics note) v.words area.Log) (page_of slot gfn) ≡ true
  paid owed note =
      ap (λ p. is_marked (words_after (part_task part.Mark (own_index h) h.topics note) v.words area.Log) p)
      (ap (λ (s : SlotOf). page_of s gfn) (sym (found owed)) ∙ ap (λ o. page_of h.topics.search.slot (number_or_none o)) (sym owed))
      ∙ marked_now (v.words area.Log) (page_owed h.topics)

  owed_by : (step : PartStep) (note : ℕ) → IsPart z v a step → (i : ℕ) → i < actors_of z → (v.hand i).topics.owed ≡ Some gfn
      → (g : Held) (x : ℕ) → g.topics ≡ part_topics step h.topics x → CoveredBy (part_task step (own_index h) h.topics note) g
  owed_by part.Mark note S i lt owed g x topics = by (same_or i a)
    where
      by : (i ≡ a) ⊎ (i ≢ a) → CoveredBy (part_task part.Mark (own_index h) h.topics note) g
      by (inl e) = inl (paid (ap (λ j. (v.hand j).topics.owed) (sym e) ∙ owed) note)
      by (inr ne) = inr (i, lt, ap (λ (y : Held). y.topics.owed) (upd_other v.hand a i g ne) ∙ owed)
  owed_by step note S i lt owed g x topics = inr (owes_still z v a step note S refl gfn i lt owed g x topics)

  covered_by_part : (step : PartStep) (note : ℕ) → named ≡ Some step → IsPart z v a step → IsCoveredNow z v slot gfn
      → (g : Held) (x : ℕ) → g.topics ≡ part_topics step h.topics x → CoveredBy (part_task step (own_index h) h.topics note) g
  covered_by_part step note is S (inl marked) g x topics = inl (marked_kept z v a step note S (keeps step is) I id gfn slot logged holds marked)
  covered_by_part step note is S (inr (i, lt, owed)) g x topics = owed_by step note S i lt owed g x topics

  covered_by_touch : (op : Op) (index : ℕ) → IsCoveredNow z v slot gfn → (g : Held) → g.topics ≡ h.topics → CoveredBy (touch_of op index) g
  covered_by_touch op index (inl marked) g same =
      inl (ap (λ (log : ℕ → ℕ). is_marked log (page_of slot gfn)) (touch_leaves_log v.words op index) ∙ marked)
  covered_by_touch op index (inr (i, lt, owed)) g same = inr (i, lt, by (same_or i a))
    where
      by : (i ≡ a) ⊎ (i ≢ a) → (upd v.hand a g i).topics.owed ≡ Some gfn
      by (inl e) =
          ap (λ j. (upd v.hand a g j).topics.owed) e ∙ ap (λ (y : Held). y.topics.owed) (upd_same v.hand a g) ∙ ap (λ (t : Topics). t.owed) same
          ∙ (ap (λ j. (v.hand j).topics.owed) (sym e) ∙ owed)
      by (inr ne) = ap (λ (y : Held). y.topics.owed) (upd_other v.hand a i g ne) ∙ owed

  covered_by_task : IsCoveredNow z v slot gfn → (task : Task) → StepAt z v a named task → (g : Held)
      → g.topics ≡ topics_after h.state.sizes (kind_of_task h.state.sizes task) h.topics (answer_in task v.words) → CoveredBy task g
  covered_by_task covered _ (Makes step note is S) g topics =
      covered_by_part step note is S covered g _ (topics ∙ part_topics_is h.state.sizes step (own_index h) h.topics note _ (is_there step h S.needs))
  covered_by_task covered _ (Touches op index is) g topics =
      covered_by_touch op index covered g (topics ∙ touch_topics h.state.sizes op index h.topics _)

-- In a published slot with a log it stays so.
pub covered_kept : (z : Sizes) (v : View) (a : ℕ) (line : Line) (command : Command) (p : Place) → AreSmall v → IsStep z v a line command p → Invariant z v
    → TopicsInvariant z v → LogInvariant z v → ((step : PartStep) → part_at p command (v.hand a) ≡ Some step → takes_bits step ≡ false)
    → (id gfn : ℕ) (slot : SlotOf) → IsLoggedNow v id slot → contains gfn slot ≡ true → IsCoveredNow z v slot gfn
    → IsCoveredNow z (stepped a line command p v) slot gfn
covered_kept z v a line command p small S I P G keeps id gfn slot logged holds covered =
    covered_by_task z v a (part_at p command (v.hand a)) I id gfn slot logged holds keeps (found_same z v a id gfn slot S.there I P G logged holds) covered
    (task_at p command (v.hand a)) (step_at z v a line command p small S I P) _ refl

-- And so it does with each step, unless the line has taken its page then.
pub covered_or_taken : (z : Sizes) (v : View) (a : ℕ) (line : Line) (command : Command) (p : Place) → AreSmall v → IsStep z v a line command p → Invariant z v
    → TopicsInvariant z v → LogInvariant z v → (id gfn : ℕ) (slot : SlotOf) → IsLoggedNow v id slot → contains gfn slot ≡ true → IsCoveredNow z v slot gfn
    → IsCoveredNow z (stepped a line command p v) slot gfn ⊎ HasTakenOut ((stepped a line command p v).hand a) gfn
covered_or_taken z v a line command p small S I P G id gfn slot logged holds covered = by_reading (reading_at p command h) refl
  where
    h : Held
    h = v.hand a

    x : ℕ
    x = answer_in (task_at p command h) v.words

    w : View
    w = stepped a line command p v

    Stays : Type 0
    Stays = IsCoveredNow z w slot gfn ⊎ HasTakenOut (w.hand a) gfn

    none : takes p command h ≡ false → Stays
    none never = inl (covered_kept z v a line command p small S I P G (λ step. takes_none p command h step never) id gfn slot logged holds covered)

    takes_it : (c : Command) (begun : Bool) → reading_at p command h ≡ Some (record { place = log.Take begun; command = c }) → IsCoveredNow z v slot gfn → Stays
    takes_it c begun at (inl marked) = by (left_or_read z v a line command p c begun at S I id gfn slot logged holds marked)
      where
        by : (is_marked (w.words area.Log) (page_of slot gfn) ≡ true) ⊎ IsRead (slot_asked h c) c (read_more begun (slot_asked h c) c h x) gfn → Stays
        by (inl still) = inl (inl still)
        by (inr read) =
            inr (subst (λ (k : Held). HasTakenOut k gfn) (sym (upd_same v.hand a (hand_after line command p h x)))
            (read_taken line command p h x c begun at gfn read S.command_is))
    takes_it c begun at (inr (i, lt, owed)) =
        let there = reading_is p command h _ at in
        let step : PartStep = log_part (log.Take begun) h c in
        let M : IsPart z v a step = makes_at z v a line command p small S I P step there.part in
        inl (inr (owes_still z v a step 0 M refl gfn i lt owed (hand_after line command p h x) x (topics_then v a line command p step there.part M.needs)))

    at_place : (q : LogPlace) (c : Command) → reading_at p command h ≡ Some (record { place = q; command = c }) → Stays
    at_place (log.Take begun) c at = takes_it c begun at covered
    at_place _ c at = none (ap takes_of at)

    by_reading : (o : Option Reading) → reading_at p command h ≡ o → Stays
    by_reading None at = none (ap takes_of at)
    by_reading (Some r) at = at_place r.place r.command at

pub idle_covered_kept : (z : Sizes) (v : View) (a : ℕ) (step : PartStep) (note : ℕ) → IsPart z v a step → needs_line step ≡ false
    → (gfn : ℕ) (slot : SlotOf) → IsCoveredNow z v slot gfn → IsCoveredNow z (part_stepped a step note v) slot gfn
idle_covered_kept z v a step note S free gfn slot (inl marked) =
    let words : Area → ℕ → ℕ = (part_stepped a step note v).words in
    inl (ap (λ (log : ℕ → ℕ). is_marked log (page_of slot gfn)) (log_same step (own_index (v.hand a)) (v.hand a).topics note v.words (idle_off_log step free))
    ∙ marked)
idle_covered_kept z v a step note S free gfn slot (inr (i, lt, owed)) =
    inr (owes_still z v a step note S (idle_no_mark step free) gfn i lt owed _ _
    (part_topics_is (v.hand a).state.sizes step (own_index (v.hand a)) (v.hand a).topics note _ (is_there step (v.hand a) S.needs)))

-- ---- what is guarded

-- A write to the guest frame in the slot is guarded, and so it is in each published slot with a log, of a view.
abbrev pub IsGuardedNow : Sizes → View → (Held → ℕ → Type 0) → SlotOf → ℕ → Type 0
IsGuardedNow z v Excuses slot gfn = IsGuarded (actors_of z) (v.words area.Log) v.hand Excuses slot gfn

abbrev pub AllGuarded : Sizes → View → (Held → ℕ → Type 0) → ℕ → Type 0
AllGuarded z v Excuses gfn = IsGuardedIn (actors_of z) (v.words area.Log) (v.words area.Pool) (v.words area.Slots 0) v.hand Excuses gfn

-- What excused a write before a step does so after it, of the hands of others; and what the own one excused is guarded after it.
pub record ExcusesStay (z : Sizes) (v w : View) (a gfn : ℕ) (Before After : Held → ℕ → Type 0) : Type 0 where
  pub others : (j : ℕ) → j < actors_of z → j ≢ a → Before (v.hand j) gfn → After (v.hand j) gfn
  pub own : (id : ℕ) (slot : SlotOf) → IsLoggedNow v id slot → contains gfn slot ≡ true → Before (v.hand a) gfn → IsGuardedNow z w After slot gfn

-- What is guarded stays guarded in a slot that had its log before.
guarded_by : (z : Sizes) (v w : View) (a gfn : ℕ) (Before After : Held → ℕ → Type 0) → ExcusesStay z v w a gfn Before After → (id : ℕ) (slot : SlotOf)
    → IsLoggedNow v id slot → contains gfn slot ≡ true → (IsCoveredNow z v slot gfn → IsGuardedNow z w After slot gfn)
    → ((j : ℕ) → j ≢ a → w.hand j ≡ v.hand j) → IsGuardedNow z v Before slot gfn → IsGuardedNow z w After slot gfn
guarded_by z v w a gfn Before After excuses id slot logged holds kept same (inl covered) = kept covered
guarded_by z v w a gfn Before After excuses id slot logged holds kept same (inr (j, lt, excused)) = by (same_or j a)
  where
    by : (j ≡ a) ⊎ (j ≢ a) → IsGuardedNow z w After slot gfn
    by (inl e) = excuses.own id slot logged holds (subst (λ k. Before (v.hand k) gfn) e excused)
    by (inr ne) = inr (j, lt, subst (λ (x : Held). After x gfn) (sym (same j ne)) (excuses.others j lt ne excused))

-- What is covered is guarded after a step, where the line excuses what it takes with it.
covered_guards : (z : Sizes) (v : View) (a : ℕ) (line : Line) (command : Command) (p : Place) → AreSmall v → IsStep z v a line command p → Invariant z v
    → TopicsInvariant z v → LogInvariant z v → (gfn : ℕ) (After : Held → ℕ → Type 0)
    → (takes p command (v.hand a) ≡ true → HasTakenOut ((stepped a line command p v).hand a) gfn → After ((stepped a line command p v).hand a) gfn) → (id : ℕ)
    (slot : SlotOf)
    → IsLoggedNow v id slot → contains gfn slot ≡ true → IsCoveredNow z v slot gfn → IsGuardedNow z (stepped a line command p v) After slot gfn
covered_guards z v a line command p small S I P G gfn After taken id slot logged holds covered = by (takes p command (v.hand a)) refl
  where
    w : View
    w = stepped a line command p v

    or_taken : takes p command (v.hand a) ≡ true → IsCoveredNow z w slot gfn ⊎ HasTakenOut (w.hand a) gfn → IsGuardedNow z w After slot gfn
    or_taken is (inl still) = inl still
    or_taken is (inr out) = inr (a, S.there, taken is out)

    by : (b : Bool) → takes p command (v.hand a) ≡ b → IsGuardedNow z w After slot gfn
    by true is = or_taken is (covered_or_taken z v a line command p small S I P G id gfn slot logged holds covered)
    by false never =
        inl (covered_kept z v a line command p small S I P G (λ step. takes_none p command (v.hand a) step never) id gfn slot logged holds covered)

-- So what is guarded stays guarded, where a write in a slot is guarded whose log the publication begins.
pub guarded_kept : (z : Sizes) (v : View) (a : ℕ) (line : Line) (command : Command) (p : Place) → AreSmall v → IsStep z v a line command p → Invariant z v
    → TopicsInvariant z v → LogInvariant z v → (gfn : ℕ) (Before After : Held → ℕ → Type 0) → ExcusesStay z v (stepped a line command p v) a gfn Before After
    → (takes p command (v.hand a) ≡ true → HasTakenOut ((stepped a line command p v).hand a) gfn → After ((stepped a line command p v).hand a) gfn)
    → ((slot : SlotOf) → PublishesLog v a command p slot → contains gfn slot ≡ true → IsGuardedNow z (stepped a line command p v) After slot gfn)
    → AllGuarded z v Before gfn → AllGuarded z (stepped a line command p v) After gfn
guarded_kept z v a line command p small S I P G gfn Before After excuses taken begun guarded id slot logged holds =
    by (logged_before z v a line command p small S I P id slot logged)
  where
    by : IsLoggedNow v id slot ⊎ PublishesLog v a command p slot → IsGuardedNow z (stepped a line command p v) After slot gfn
    by (inr begins) = begun slot begins holds
    by (inl had) =
        guarded_by z v (stepped a line command p v) a gfn Before After excuses id slot had holds
        (covered_guards z v a line command p small S I P G gfn After taken id slot had holds) (λ j ne. upd_other v.hand a j _ ne) (guarded id slot had holds)

pub idle_guarded_kept : (z : Sizes) (v : View) (a : ℕ) (step : PartStep) (note : ℕ) → IsPart z v a step → needs_line step ≡ false → TopicsInvariant z v
    → (gfn : ℕ) (Before After : Held → ℕ → Type 0) → ExcusesStay z v (part_stepped a step note v) a gfn Before After
    → AllGuarded z v Before gfn → AllGuarded z (part_stepped a step note v) After gfn
idle_guarded_kept z v a step note S free P gfn Before After excuses guarded id slot logged holds =
    let had = idle_logged_before z v a step note S free P id slot logged in
    guarded_by z v (part_stepped a step note v) a gfn Before After excuses id slot had holds
    (λ covered. inl (idle_covered_kept z v a step note S free gfn slot covered)) (λ j ne. upd_other v.hand a j _ ne) (guarded id slot had holds)
