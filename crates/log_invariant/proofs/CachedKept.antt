-- Each step keeps it that what a virtual processor may use of what it has cached is guarded.
use Rattle.std.proofs.Common.{ap, arith, inl, inr, refl, subst, sym, ℕ, ◌<◌, ◌∙◌, ◌≡◌}
use Rattle.std.specs.Prelude.{None, Option, Some, false, true}
use Rattle.circular_buffer.specs.Buffer.{Buffer}
use Rattle.core_views.specs.declared.cache.Translation.{Translation}
use Rattle.core_views.specs.declared.place.FrameRange.{FrameRange}
use Rattle.core_views.specs.declared.place.LogPlace.{LogPlace}
use Rattle.core_views.specs.declared.place.LogPlace.TheVariants as log
use Rattle.core_views.specs.declared.place.Place.TheVariants as place
use Rattle.core_views.specs.declared.place.Place.{Place}
use Rattle.core_views.specs.declared.place.SlotChangePlace.TheVariants as change
use Rattle.core_views.specs.declared.place.SlotChangePlace.{SlotChangePlace}
use Rattle.core_views.specs.declared.place.WriteProtectPlace.TheVariants as protect
use Rattle.core_views.specs.declared.place.WriteProtectPlace.{WriteProtectPlace}
use Rattle.core_views.specs.declared.sizes.Sizes.{Sizes}
use Rattle.core_views.specs.declared.topics.Topics.{Topics}
use Rattle.core_views.specs.declared.trace.Command.{Command}
use Rattle.core_views.specs.declared.trace.Line.{Line}
use Rattle.core_views.specs.Held.{Held}
use Rattle.core_views.specs.Sizes.{actors_of}
use Rattle.spte_words.specs.declared.area.Area.TheVariants as area
use Rattle.part_steps.specs.declared.part_step.PartStep.{PartStep}
use Rattle.part_steps.specs.ControlBits.{has_to_flush}
use Rattle.part_steps.specs.PartSteps.{needs_line}
use Rattle.part_steps.specs.declared.task.Task.{Task}
use Rattle.part_steps.specs.PartTasks.{own_index, part_task}
use Rattle.part_steps.specs.Tasks.{kind_of_task}
use Rattle.mmu_core.specs.invariant.InvalidatedPart.{may_use}
use Rattle.mmu_core.specs.invariant.Invariant.{Invariant}
use Rattle.mmu_core.specs.invariant.TopicsInvariant.{TopicsInvariant}
use Rattle.mmu_core.specs.forms.access.Cached.{flushed}
use Rattle.mmu_core.specs.lines.Forms.{RestsAt, caches_at, first_place, note_at, outcome_at}
use Rattle.mmu_core.specs.forms.access.AccessSteps.{task_by}
use Rattle.mmu_core.specs.forms.log.LogSteps.{log_next, log_part}
use Rattle.mmu_core.specs.lines.PartAt.{task_at, touch_at}
use Rattle.mmu_core.specs.forms.slot_change.SlotChangeSteps.{slot_change_outcome, slot_change_task}
use Rattle.mmu_core.specs.orders.WriteProtectSteps.{protect_part}
use Rattle.mmu_core.specs.machine.Outcomes.{place_after}
use Rattle.mmu_core.specs.machine.Steps.{has_line}
use Rattle.mmu_core.specs.machine.View.{View, answer_in, hand_after, part_stepped, stepped, upd, words_after}
use Rattle.mmu_core.proofs.held.FlushChanges.{used_flushed}
use Rattle.mmu_core.proofs.held.FlushSteps.{asked_there}
use Rattle.mmu_core.proofs.held.UsableSteps.{asks_of}
use Rattle.mmu_core.proofs.invariant.Kept.{makes_at, needs_at}
use Rattle.mmu_core.proofs.invariant.QuietKept.{MakesAt}
use Rattle.mmu_core.proofs.forms.access.AccessParts.{AreSmall}
use Rattle.mmu_core.proofs.lines.KnowsKept.{NeedsAt, step_knows}
use Rattle.mmu_core.proofs.lines.StepIn.{Makes, step_of}
use Rattle.mmu_core.proofs.lines.StepTopics.{topics_of_step}
use Rattle.mmu_core.proofs.machine.Columns.{at_upd, upd_same}
use Rattle.mmu_core.proofs.machine.HandWith.{hand_with}
use Rattle.mmu_core.proofs.machine.PartStepping.{IsPart, behind_part}
use Rattle.mmu_core.proofs.machine.Stepping.{IsStep}
use Rattle.log_invariant.specs.Excuses.{ExcusesCached, forbidding, forbidding_at}
use Rattle.log_invariant.specs.LogInvariant.{AreGuarded, LogInvariant, UseIsGuarded}
use Rattle.log_invariant.proofs.CachesCarried.{task_carried, AsksStill}
use Rattle.log_invariant.proofs.CoveredKept.{AllGuarded, guarded_kept, idle_guarded_kept}
use Rattle.log_invariant.proofs.LinePlaces.{idle_says}
use Rattle.log_invariant.proofs.LogsBegun.{AllSetNow, begun_guarded}
use Rattle.log_invariant.proofs.StepPlaces.{of_hand}
pub use Rattle.log_invariant.proofs.TranslationsKept.{CachedNow}
use Rattle.log_invariant.proofs.TranslationsKept.{line_guarded, still_excused}
use Rattle.log_invariant.proofs.forms.slot_change.UsesExcused.{MayUseAt, ShowsFlushAt, allows_use, excused_at, ShowsFlush}
use Rattle.log_invariant.proofs.forms.log.ReadingExcuses.{said_next, taken_forbids}
use Rattle.mmu_core.proofs.forms.log.ReadingPlaces.{IsOfReading, after_reading, reading_is}
use Rattle.mmu_core.specs.forms.log.Readings.{Reading, reading_at}
use Rattle.log_invariant.specs.Forbidding.{FlushesLater}
use Rattle.log_invariant.specs.forms.log.LogReads.{taken_of}
use Rattle.log_invariant.proofs.forms.log.LogUses.{ShowsFlushBy, log_used, no_frames}

-- ---- carried over a step

-- What is guarded before a step is guarded after it, of each virtual processor that may use what it has cached, and is asked for a flush still if it was.
abbrev pub Carries : Sizes → View → View → Type 0
Carries z v w = (k : ℕ) → AsksStill (v.words area.State k) (w.words area.State k) → k < z.vcpus → may_use (v.words area.State k) (v.hand k).topics.stay ≡ true
    → (gfn : ℕ) → AllGuarded z v (ExcusesCached k (v.words area.State k)) gfn → AllGuarded z w (ExcusesCached k (w.words area.State k)) gfn

-- Then all that it has cached is guarded after it, where actor a has this cached before a flush.
carried_guarded : (z : Sizes) (v w : View) (a : ℕ) (c : Buffer Translation) → Carries z v w
    → (a < z.vcpus → may_use (v.words area.State a) (v.hand a).topics.stay ≡ true
    → AreGuarded (AllGuarded z v (ExcusesCached a (v.words area.State a))) c.items)
    → CachedNow z v → (k : ℕ) → k < z.vcpus → AsksStill (v.words area.State k) (w.words area.State k)
    → may_use (v.words area.State k) (v.hand k).topics.stay ≡ true
    → AreGuarded (AllGuarded z w (ExcusesCached k (w.words area.State k))) (upd (λ i. (v.hand i).cached) a c k).items
carried_guarded z v w a c carries own cached k low still may =
    at_upd (λ k (b : Buffer Translation). k < z.vcpus → AsksStill (v.words area.State k) (w.words area.State k)
    → may_use (v.words area.State k) (v.hand k).topics.stay ≡ true → AreGuarded (AllGuarded z w (ExcusesCached k (w.words area.State k))) b.items)
    (λ i. (v.hand i).cached) a c
    (λ low still may i d lt writes gfn over. carries a still low may gfn (own low may i d lt writes gfn over))
    (λ k ne low still may i d lt writes gfn over. carries k still low may gfn (cached k low may i d lt writes gfn over)) k low still may

-- ---- a step of a line

-- What the state words say where a line forbids writes.
line_tells : (z : Sizes) (v : View) (a note k : ℕ) (p : WriteProtectPlace) (range : FrameRange) → TopicsInvariant z v → k < actors_of z
    → may_use (v.words area.State k) (v.hand k).topics.stay ≡ true
    → ShowsFlush p (v.hand a).topics k
    (answer_in (part_task (protect_part p range (v.hand a).topics) (own_index (v.hand a)) (v.hand a).topics note) v.words) (v.words area.State k)
    (words_after (part_task (protect_part p range (v.hand a).topics) (own_index (v.hand a)) (v.hand a).topics note) v.words area.State k)
line_tells z v a note k protect.Ask range P lt may =
    let h : Held = v.hand a in
    (asks_of z v a note h.cached h h.topics.flush.asked k, asked_there (v.words area.State) h.topics.flush.asked k)
line_tells z v a note k protect.Await range P lt may = (
  λ asks. asks,
  λ e none.
      used_flushed (v.words area.State k) (v.hand k).topics.stay (P.states_part k lt).1 (ap (λ i. has_to_flush (v.words area.State i)) e ∙ none) may,
)
line_tells z v a note k _ range P lt may = tt

-- So they say where a reading is under way.
log_tells : (z : Sizes) (v : View) (a note k : ℕ) (p : LogPlace) (command : Command) → TopicsInvariant z v → k < actors_of z
    → may_use (v.words area.State k) (v.hand k).topics.stay ≡ true
    → ShowsFlushBy p (v.hand a).topics k
    (answer_in (part_task (log_part p (v.hand a) command) (own_index (v.hand a)) (v.hand a).topics note) v.words) (v.words area.State k)
    (words_after (part_task (log_part p (v.hand a) command) (own_index (v.hand a)) (v.hand a).topics note) v.words area.State k)
log_tells z v a note k log.Ask command P lt may = line_tells z v a note k protect.Ask no_frames P lt may
log_tells z v a note k log.Await command P lt may = line_tells z v a note k protect.Await no_frames P lt may
log_tells z v a note k _ command P lt may = tt

reading_rests : (p : Place) (command : Command) (h : Held) (r : Reading) → reading_at p command h ≡ Some r → NeedsAt p command h → RestsAt p command h
reading_rests (place.Access p) command h r is needs = absurd (cc is)
reading_rests _ command h r is needs = needs

-- What the reading under way excuses it excuses after the step.
reading_used : (z : Sizes) (v : View) (a : ℕ) (line : Line) (command : Command) (p : Place) → IsStep z v a line command p → Invariant z v
    → TopicsInvariant z v → NeedsAt p command (v.hand a) → (k gfn : ℕ) → k < z.vcpus → may_use (v.words area.State k) (v.hand k).topics.stay ≡ true
    → (o : Option Reading) → reading_at p command (v.hand a) ≡ o → FlushesLater (taken_of o (v.hand a)) k (v.words area.State k) gfn
    → FlushesLater (forbidding_at (place_after (outcome_at p command (v.hand a) (answer_in (task_at p command (v.hand a)) v.words))) command
    (hand_after line command p (v.hand a) (answer_in (task_at p command (v.hand a)) v.words))) k ((stepped a line command p v).words area.State k) gfn
reading_used z v a line command p S I P needs k gfn low may None is W = absurd W.0
reading_used z v a line command p S I P needs k gfn low may (Some r) is W =
    said_next (λ f. FlushesLater f k now_ gfn) p command h x r is g (log_next r.place r.command h x) refl
    (log_used r.command h x g k (v.words area.State k) now_ gfn (subst (λ (y : Sizes). k < y.vcpus) (sym (I.lines a S.there).sizes) low) r.place
    (there.knows (step_knows z v a line command p S I)) (after_reading line p command h x r is)
    (ap (λ (t : Topics). t.flush) (topics_of_step p command h x (reading_rests p command h r is needs))
    ∙ ap (λ (s : Option PartStep). (behind_part s h.topics x).flush) there.part)
    (subst (λ (task : Task). ShowsFlushBy r.place h.topics k (answer_in task v.words) (v.words area.State k) (words_after task v.words area.State k))
    (sym task_is) (log_tells z v a (note_at p command h) k r.place r.command P (omega (arith, low)) may)) W) (λ none. none.0)
  where
    h : Held
    h = v.hand a

    x : ℕ
    x = answer_in (task_at p command h) v.words

    g : Held
    g = hand_after line command p h x

    now_ : ℕ
    now_ = (stepped a line command p v).words area.State k

    there : IsOfReading p command h r
    there = reading_is p command h r is

    step : PartStep
    step = log_part r.place h r.command

    task_is : task_at p command h ≡ part_task step (own_index h) h.topics (note_at p command h)
    task_is = ap (λ (s : Option PartStep). task_by s h (note_at p command h) (touch_at command h)) there.part

-- What the own line excuses it excuses after its step.
uses_excused : (z : Sizes) (v : View) (a : ℕ) (line : Line) (command : Command) (p : Place) → IsStep z v a line command p → Invariant z v
    → TopicsInvariant z v → (k gfn : ℕ) → k < z.vcpus → may_use (v.words area.State k) (v.hand k).topics.stay ≡ true
    → ExcusesCached k (v.words area.State k) (v.hand a) gfn
    → ExcusesCached k ((stepped a line command p v).words area.State k) ((stepped a line command p v).hand a) gfn
uses_excused z v a line command p S I P k gfn low may excuse =
    subst (λ (g : Held). ExcusesCached k ((stepped a line command p v).words area.State k) g gfn)
    (sym (upd_same v.hand a (hand_after line command p h (answer_in (task_at p command h) v.words))))
    (subst (λ c. MayUseAt k ((stepped a line command p v).words area.State k)
    (place_after (outcome_at p command h (answer_in (task_at p command h) v.words))) c
    (hand_after line command p h (answer_in (task_at p command h) v.words)) gfn) (sym S.command_is)
    (by p S (of_hand z v a line command p S (λ q c. MayUseAt k (v.words area.State k) q c h gfn) (λ sizes slots c. none (first_place sizes slots c) c) excuse)))
  where
    h : Held
    h = v.hand a

    none : (q : Place) (c : Command) → MayUseAt k (v.words area.State k) place.Between h.state.line.command h gfn
        → MayUseAt k (v.words area.State k) q c h gfn
    none q c (inl opens) = absurd opens.0
    none q c (inr flushes) = absurd flushes.0

    told : (p : SlotChangePlace) → ShowsFlushAt p h.topics k (answer_in (slot_change_task p h command) v.words) (v.words area.State k)
        (words_after (slot_change_task p h command) v.words area.State k)
    told (change.WriteProtect range p) = line_tells z v a 0 k p range P (omega (arith, low)) may
    told _ = tt

    by : (p : Place) → IsStep z v a line command p → MayUseAt k (v.words area.State k) p command h gfn
        → MayUseAt k ((stepped a line command p v).words area.State k) (place_after (outcome_at p command h (answer_in (task_at p command h) v.words)))
        command (hand_after line command p h (answer_in (task_at p command h) v.words)) gfn
    by (place.SlotChange p) S excuse =
        let x : ℕ = answer_in (slot_change_task p h command) v.words in
        let c : Buffer Translation = flushed (kind_of_task h.state.sizes (slot_change_task p h command)) h.cached x in
        subst (λ (t : Topics). MayUseAt k ((stepped a line command (place.SlotChange p) v).words area.State k)
        (place_after (slot_change_outcome p command h x)) command (hand_with line command (place.SlotChange p) h t c x) gfn)
        (sym (topics_of_step (place.SlotChange p) command h x (needs_at z v a line command (place.SlotChange p) S I P)))
        (excused_at line h command c k x (v.words area.State k) ((stepped a line command (place.SlotChange p) v).words area.State k) gfn
        (subst (λ (y : Sizes). k < y.vcpus) (sym (I.lines a S.there).sizes) low) p
        (step_knows z v a line command (place.SlotChange p) S I).1 (told p) excuse)
    by _ S (inl opens) = absurd opens.0
    by p S (inr flushes) =
        inr (reading_used z v a line command p S I P (needs_at z v a line command p S I P) k gfn low may (reading_at p command h) refl flushes)

-- What is guarded is guarded after each step of a line, where each page is marked after it of a slot whose log begins so.
pub line_carries : (z : Sizes) (v : View) (a : ℕ) (line : Line) (command : Command) (p : Place) → AreSmall v → IsStep z v a line command p
    → Invariant z v → TopicsInvariant z v → LogInvariant z v → AllSetNow z (stepped a line command p v) → Carries z v (stepped a line command p v)
line_carries z v a line command p small S I P G set k still low may gfn guarded =
    let w : View = stepped a line command p v in
    guarded_kept z v a line command p small S I P G gfn (ExcusesCached k (v.words area.State k)) (ExcusesCached k (w.words area.State k)) (record {
      others = λ j lt ne excuse. still_excused k (v.words area.State k) (w.words area.State k) (v.hand j) gfn still excuse;
      own = λ id slot logged holds excuse. inr (a, S.there, uses_excused z v a line command p S I P k gfn low may excuse);
    })
    (λ takes T. inr (allows_use (forbidding (w.hand a)) k (w.words area.State k) gfn (taken_forbids p v a line command gfn takes S.command_is T)))
    (λ slot begins holds. begun_guarded z v a line command p S I (ExcusesCached k (w.words area.State k)) gfn slot (λ g opens clean. inl (opens, clean)) set
    begins holds) guarded

-- So it is with what is cached.
pub line_cached_kept : (z : Sizes) (v : View) (a : ℕ) (line : Line) (command : Command) (p : Place) → AreSmall v → IsStep z v a line command p
    → Invariant z v → TopicsInvariant z v → LogInvariant z v → AllSetNow z (stepped a line command p v) → CachedNow z (stepped a line command p v)
line_cached_kept z v a line command p small S I P G set k low =
    task_carried z v a c (hand_after line command p h x) (task_at p command h)
    (UseIsGuarded (AllGuarded z w (ExcusesCached k (w.words area.State k)))) k (step_of z v a command p makes)
    (λ still may. carried_guarded z v w a c (line_carries z v a line command p small S I P G set)
    (λ lt was. line_guarded z v a P G lt p command (step_knows z v a line command p S I) makes (G.cached a lt was)) G.cached k low still may)
  where
    h : Held
    h = v.hand a

    x : ℕ
    x = answer_in (task_at p command h) v.words

    c : Buffer Translation
    c = caches_at p command h x

    w : View
    w = stepped a line command p v

    makes : MakesAt z v a p command
    makes = makes_at z v a line command p small S I P

-- ---- a step of an actor with no line left

-- And so it is with each step of a part that an actor makes with no line left.
pub part_carries : (z : Sizes) (v : View) (a : ℕ) (step : PartStep) (note : ℕ) → IsPart z v a step → needs_line step ≡ false
    → has_line (v.hand a) ≡ false → Invariant z v → TopicsInvariant z v → Carries z v (part_stepped a step note v)
part_carries z v a step note S free none I P k still low may gfn guarded =
    let w : View = part_stepped a step note v in
    idle_guarded_kept z v a step note S free P gfn (ExcusesCached k (v.words area.State k)) (ExcusesCached k (w.words area.State k)) (record {
      others = λ j lt ne excuse. still_excused k (v.words area.State k) (w.words area.State k) (v.hand j) gfn still excuse;
      own = λ id slot logged holds excuse. absurd (never (v.words area.State k) excuse);
    }) guarded
  where
    h : Held
    h = v.hand a

    never : (state : ℕ) → ExcusesCached k state h gfn → ⊥
    never state = idle_says (λ q. MayUseAt k state q h.state.line.command h gfn → ⊥) h none (I.lines a S.there).under by
      where
        by : MayUseAt k state place.Between h.state.line.command h gfn → ⊥
        by (inl opens) = opens.0
        by (inr flushes) = flushes.0

pub part_cached_kept : (z : Sizes) (v : View) (a : ℕ) (step : PartStep) (note : ℕ) → IsPart z v a step → needs_line step ≡ false
    → has_line (v.hand a) ≡ false → Invariant z v → TopicsInvariant z v → LogInvariant z v → CachedNow z (part_stepped a step note v)
part_cached_kept z v a step note S free none I P G k low =
    let h : Held = v.hand a in
    let w : View = part_stepped a step note v in
    task_carried z v a h.cached h (part_task step (own_index h) h.topics note)
    (UseIsGuarded (AllGuarded z w (ExcusesCached k (w.words area.State k)))) k (Makes step note S)
    (λ still may. carried_guarded z v w a h.cached (part_carries z v a step note S free none I P) (G.cached a) G.cached k low still may)
