-- Each step keeps what lines have read of dirty logs: its own line's, and those of other hands.
use Rattle.std.proofs.Common.{◌≡◌, ◌≢◌, ◌⊎◌, inl, inr, ◌<◌, ◌++◌, ℕ, refl, sym, subst, ap, ◌∙◌}
use Rattle.mmu_core.proofs.forms.split.SplitTold.{split_tells_so}
use Rattle.std.specs.Prelude.{None, Option, Some, false, is_some, true}
use Rattle.core_views.specs.declared.actor.Actor.TheVariants.{Manager}
use Rattle.core_views.specs.declared.place.LogPlace.{LogPlace}
use Rattle.core_views.specs.declared.place.Place.{Place}
use Rattle.core_views.specs.declared.place.Place.TheVariants as place
use Rattle.core_views.specs.declared.sizes.Sizes.{Sizes}
use Rattle.core_views.specs.declared.trace.Command.{Command}
use Rattle.core_views.specs.declared.trace.Command.TheVariants.{Access, ChangeHost, ChangeRun, Split}
use Rattle.core_views.specs.declared.trace.Line.{Line}
use Rattle.core_views.specs.declared.trace.Slot.{Slot as SlotOf}
use Rattle.core_views.specs.Events.{after_all}
use Rattle.core_views.specs.Flat.{Flat}
use Rattle.core_views.specs.Held.{Held}
use Rattle.core_views.specs.LogCommands.{log_read}
use Rattle.core_views.specs.Sizes.{actors_of}
use Rattle.core_views.specs.Slots.{contains}
use Rattle.core_views.specs.Traces.{IsCommandFor}
use Rattle.spte_words.specs.declared.area.Area.TheVariants as area
use Rattle.part_steps.specs.declared.part_step.PartStep.{PartStep}
use Rattle.part_steps.specs.declared.task.Task.{Task}
use Rattle.part_steps.specs.PartSteps.{needs_line}
use Rattle.part_steps.specs.PartTasks.{own_index, part_task}
use Rattle.part_steps.specs.Tasks.{kind_of_task}
use Rattle.part_steps.specs.SlotWords.{page_of}
use Rattle.mmu_core.specs.invariant.Invariant.{Invariant, KnowsPart}
use Rattle.mmu_core.specs.lines.Forms.{outcome_at, part_at, tells_at}
use Rattle.mmu_core.specs.forms.log.LogSteps.{slot_asked}
use Rattle.mmu_core.specs.machine.Outcomes.{answering}
use Rattle.mmu_core.specs.lines.Rests.{IsUnderWay}
use Rattle.mmu_core.specs.machine.Steps.{beginning, has_line, idle_after, task_at}
use Rattle.mmu_core.specs.machine.View.{View, answer_in, hand_after, part_stepped, stepped, words_after}
use Rattle.mmu_core.proofs.lines.KnowsKept.{step_knows}
use Rattle.mmu_core.proofs.lines.LinesKept.{one_manager}
use Rattle.mmu_core.proofs.forms.log.LogMakes.{log_is_managers}
use Rattle.mmu_core.proofs.forms.log.LogTold.{log_knows_reads}
use Rattle.mmu_core.proofs.machine.Columns.{at_upd, upd_same}
use Rattle.mmu_core.proofs.machine.Stepping.{IsStep}
use Rattle.mmu_core.proofs.slots.Changes.{change_is_managers}
use Rattle.log_invariant.specs.Covered.{is_marked}
use Rattle.log_invariant.proofs.HeldLogs.{IsLoggedNow}
use Rattle.log_invariant.proofs.LogWords.{idle_off_log, log_same, marked_kept, touch_leaves_log}
use Rattle.log_invariant.proofs.StepPlaces.{Makes, StepAt, Touches, publishes, step_at, takes, takes_none}
use Rattle.mmu_core.proofs.lines.Forms.{knows_for}
use Rattle.mmu_laws.proofs.forms.log.ReadsNot.{reads_not}
use Rattle.mmu_laws.proofs.flat.FlatKept.{told_events, told_kinds}
use Rattle.mmu_laws.proofs.flat.FlatRuns.{none_under}
use Rattle.mmu_laws.proofs.flat.LogsKept.{ReadyLogs}
use Rattle.mmu_laws.proofs.flat.LogsStill.{bit_was}
use Rattle.mmu_laws.proofs.flat.MildEvents.{AreMild, KeepsPast, access_mild, all_keep, answer_mild, begin_mild, host_mild, host_run_mild, mild_append}
use Rattle.mmu_laws.proofs.forms.log.OwnSteps.{own_read}
use Rattle.mmu_laws.specs.forms.log.ReadSoFar.{ReadSoFar, ReadSoFarAt, HasReadTo, Readings, clears, word_at, words_at}
use Rattle.mmu_laws.proofs.forms.log.Readings.{read_by, still_read}
use Rattle.mmu_laws.proofs.forms.log.ReadSlots.{ReadsOf, is_accepted, reading_manager, reads_of}
use Rattle.mmu_core.proofs.forms.log.ReadingPlaces.{reading_is}
use Rattle.mmu_core.specs.forms.log.Readings.{Reading, own_reading, reading_at}

-- ---- a step of another actor than the manager

-- Who isn't the manager makes steps of accesses and host lines, which tell such events, and take no bits.
record IsOthers (p : Place) (command : Command) (h : Held) (x : ℕ) : Type 0 where
  mild : AreMild (tells_at p command h x)
  takes_not : takes p command h ≡ false
  never : publishes p ≡ false

is_others : (z : Sizes) (v : View) (a : ℕ) (line : Line) (command : Command) (p : Place) → IsStep z v a line command p → Invariant z v
    → ((v.hand a).state.actor ≡ Manager → ⊥) → (x : ℕ) → IsOthers p command (v.hand a) x
is_others z v a line command p S I other x = by p command (step_knows z v a line command p S I) S.allowed (λ e. other (sym S.own ∙ e)) S.begun
  where
    by : (q : Place) (c : Command) → KnowsPart q c (v.hand a) → IsCommandFor z line.actor c → (line.actor ≡ Manager → ⊥) → IsUnderWay q
        → IsOthers q c (v.hand a) x
    by place.Between c K may not_so under = absurd under
    by (place.Access q) (Access gfn word op) K may not_so under = record { mild = access_mild q (v.hand a) gfn word op x; takes_not = refl; never = refl }
    by (place.Host q) (ChangeHost page change) K may not_so under = record { mild = host_mild q page change (v.hand a) x; takes_not = refl; never = refl }
    by (place.HostRun q) (ChangeRun page change) K may not_so under =
        record { mild = host_run_mild q page change (v.hand a) x; takes_not = refl; never = refl }
    by (place.SlotChange q) c K may not_so under = absurd (not_so (change_is_managers z line.actor c K.0 may))
    by (place.Log q) c K may not_so under = absurd (not_so (log_is_managers z line.actor c (log_knows_reads q c (v.hand a) K) may))
    by (place.Split q) (Split gfn) K may not_so under = record { mild = split_tells_so AreMild tt (tt, tt) q; takes_not = refl; never = refl }
    by _ _ K may not_so under = absurd K

-- A bit of a log that is set stays so, where no bits are taken.
marks_stay : (z : Sizes) (v : View) (a : ℕ) (line : Line) (command : Command) (p : Place) (f : Flat) → IsStep z v a line command p → ReadyLogs z v f
    → takes p command (v.hand a) ≡ false → (id gfn : ℕ) (slot : SlotOf) → IsLoggedNow v id slot → contains gfn slot ≡ true
    → is_marked (v.words area.Log) (page_of slot gfn) ≡ true
    → is_marked ((stepped a line command p v).words area.Log) (page_of slot gfn) ≡ true
marks_stay z v a line command p f S ready none id gfn slot logged has marked =
    by (task_at p command (v.hand a)) (step_at z v a line command p ready.small S ready.holds ready.topics)
  where
    by : (task : Task) → StepAt z v a (part_at p command (v.hand a)) task → is_marked (words_after task v.words area.Log) (page_of slot gfn) ≡ true
    by _ (Makes step note is M) = marked_kept z v a step note M (takes_none p command (v.hand a) step none is) ready.holds id gfn slot logged has marked
    by _ (Touches op index is) = ap (λ (log : ℕ → ℕ). is_marked log (page_of slot gfn)) (touch_leaves_log v.words op index) ∙ marked

-- So such a step leaves what was read: of the words of the log, and of the past.
module _ (z : Sizes) (v : View) (f : Flat) (a : ℕ) (line : Line) (command : Command) (p : Place) (S : IsStep z v a line command p) (ready : ReadyLogs z v f)
    (O : IsOthers p command (v.hand a) (answer_in (task_at p command (v.hand a)) v.words)) where
  abbrev next : Flat
  next = after_all (told_events v a line command p) f

  abbrev log : ℕ → ℕ
  log = (stepped a line command p v).words area.Log

  past_kept : KeepsPast f.past next.past
  past_kept =
      let h : Held = v.hand a in
      let x : ℕ = answer_in (task_at p command h) v.words in
      all_keep h.state.actor (beginning h.state.place line ++ told_kinds v a line command p) f
      (mild_append (beginning h.state.place line) (told_kinds v a line command p) (begin_mild h.state.place line)
      (mild_append (tells_at p command h x) (answering (outcome_at p command h x) line) O.mild (answer_mild (outcome_at p command h x) line)))

  reading_kept : (q : LogPlace) (c : Command) (k : Held) → ReadsOf v k c
      → HasReadTo (v.words area.Log) (slot_asked k c) c (clears q) (words_at q k) (word_at q (slot_asked k c) c k) f.past
      → HasReadTo log (slot_asked k c) c (clears q) (words_at q k) (word_at q (slot_asked k c) c k) next.past
  reading_kept q c k R H =
      read_by log (slot_asked k c) c (clears q) (words_at q k) (word_at q (slot_asked k c) c k) f.past next.past past_kept.due past_kept.causes
      past_kept.recent
      (still_read (slot_asked k c) c R.whole (v.words area.Log) log (clears q) (words_at q k) (word_at q (slot_asked k c) c k) f.past
      (λ gfn has marked. marks_stay z v a line command p f S ready O.takes_not R.id gfn (slot_asked k c) R.logged has marked)
      (λ gfn has marked. was gfn (bit_was z v a line command p O.never ready.small S ready.holds ready.topics ready.covered f ready.flat ready.lines
      ready.caused gfn R.id (slot_asked k c) R.logged has marked)) H)
    where
      was : (gfn : ℕ) → (is_marked (v.words area.Log) (page_of (slot_asked k c) gfn) ≡ true) ⊎ ((f.past.recent gfn ≡ true) × (f.past.causes gfn ≡ true))
          → (is_marked (v.words area.Log) (page_of (slot_asked k c) gfn) ≡ true) ⊎ (f.past.recent gfn ≡ true)
      was gfn (inl had) = inl had
      was gfn (inr written) = inr written.0

-- What another hand has read it has read after a step.
others_read : (z : Sizes) (v : View) (f : Flat) (a : ℕ) (line : Line) (command : Command) (p : Place) → IsStep z v a line command p → ReadyLogs z v f
    → (i : ℕ) → i ≢ a → i < actors_of z
    → ReadSoFarAt (v.hand i).state.place (v.hand i).state.line.command (v.hand i) ((stepped a line command p v).words area.Log)
    (after_all (told_events v a line command p) f).past
others_read z v f a line command p S ready i apart lt = by (own_reading k) refl (ready.reads i lt)
  where
    k : Held
    k = v.hand i

    by : (o : Option Reading) → own_reading k ≡ o → ReadSoFar o k (v.words area.Log) f.past
        → ReadSoFarAt k.state.place k.state.line.command k ((stepped a line command p v).words area.Log) (after_all (told_events v a line command p) f).past
    by None is H =
        subst (λ (o : Option Reading). ReadSoFar o k ((stepped a line command p v).words area.Log) (after_all (told_events v a line command p) f).past) (sym
        is) tt
    by (Some r) is H =
        let manager = reading_manager z i k r (ready.holds.lines i lt) (ready.holds.knows i lt) is in
        let knows = (reading_is k.state.place k.state.line.command k r is).knows (ready.holds.knows i lt) in
        let O = is_others z v a line command p S ready.holds
        (λ own. apart (one_manager z i a k (v.hand a) (ready.holds.lines i lt) (ready.holds.lines a S.there) manager own)) _ in
        subst (λ (o : Option Reading). ReadSoFar o k ((stepped a line command p v).words area.Log) (after_all (told_events v a line command p) f).past) (sym is)
        (λ begun. reading_kept z v f a line command p S ready O r.place r.command k
        (reads_of z v i r.command ready.holds lt manager (is_accepted r.place r.command k begun knows)) (H begun))

-- ---- its own

own_then : (z : Sizes) (v : View) (f : Flat) (a : ℕ) (line : Line) (command : Command) (p : Place) → IsStep z v a line command p → ReadyLogs z v f
    → Invariant z (stepped a line command p v)
    → let g : Held = hand_after line command p (v.hand a) (answer_in (task_at p command (v.hand a)) v.words) in
    ReadSoFarAt g.state.place command g ((stepped a line command p v).words area.Log) (after_all (told_events v a line command p) f).past
own_then z v f a line command p S ready kept = by (reading_at p command (v.hand a)) refl
  where
    g : Held
    g = hand_after line command p (v.hand a) (answer_in (task_at p command (v.hand a)) v.words)

    Then : Option Reading → Type 0
    Then o = ReadSoFar o g ((stepped a line command p v).words area.Log) (after_all (told_events v a line command p) f).past

    knows : KnowsPart g.state.place line.command g
    knows = subst (λ (k : Held). KnowsPart k.state.place k.state.line.command k) (upd_same v.hand a g) (kept.knows a S.there)

    -- A line that reads no log comes to no reading.
    none : reading_at p command (v.hand a) ≡ None → (q : Place) → KnowsPart q line.command g → Then (reading_at q command g)
    none at (place.Log q) K =
        let reads : is_some (log_read command) ≡ true = subst (λ c. is_some (log_read c) ≡ true) S.command_is (log_knows_reads q line.command g K) in
        let no =
        reads_not p command (v.hand a) (knows_for p command (v.hand a) S.begun (step_knows z v a line command p S ready.holds)) at in absurd (cc (no, reads))
    none at _ K = tt

    by : (o : Option Reading) → reading_at p command (v.hand a) ≡ o → Then (reading_at g.state.place command g)
    by (Some r) at = own_read z v f a line command p r.command ready S r.place at
    by None at = none at g.state.place knows

-- ---- each step

pub readings_kept : (z : Sizes) (v : View) (f : Flat) (a : ℕ) (line : Line) (command : Command) (p : Place) → IsStep z v a line command p → ReadyLogs z v f
    → Invariant z (stepped a line command p v) → Readings z (stepped a line command p v) (after_all (told_events v a line command p) f)
readings_kept z v f a line command p S ready kept =
    let g : Held = hand_after line command p (v.hand a) (answer_in (task_at p command (v.hand a)) v.words) in
    let log : ℕ → ℕ = (stepped a line command p v).words area.Log in
    let next : Flat = after_all (told_events v a line command p) f in
    at_upd (λ i (k : Held). i < actors_of z → ReadSoFarAt k.state.place k.state.line.command k log next.past) v.hand a g
    (λ lt. subst (λ c. ReadSoFarAt g.state.place c g log next.past) (sym S.command_is) (own_then z v f a line command p S ready kept))
    (λ i apart lt. others_read z v f a line command p S ready i apart lt)

-- An actor with no line left changes no word of a log, and its hand stands between lines.
pub idle_readings_kept : (z : Sizes) (v : View) (a : ℕ) (step : PartStep) (note : ℕ) → needs_line step ≡ false → has_line (v.hand a) ≡ false → Invariant z v
    → (f : Flat) → Readings z v f → Readings z (part_stepped a step note v) f
idle_readings_kept z v a step note free none I f reads =
    at_upd (λ i (k : Held). i < actors_of z → ReadSoFarAt k.state.place k.state.line.command k log f.past) v.hand a behind
    (λ lt. subst (λ q. ReadSoFarAt q (v.hand a).state.line.command behind log f.past)
    (sym (none_under (v.hand a).state.place (v.hand a) (I.lines a lt).under none)) tt)
    (λ i apart lt. subst (λ l. ReadSoFarAt (v.hand i).state.place (v.hand i).state.line.command (v.hand i) l f.past)
    (sym (log_same step (own_index (v.hand a)) (v.hand a).topics note v.words (idle_off_log step free))) (reads i lt))
  where
    log : ℕ → ℕ
    log = (part_stepped a step note v).words area.Log

    task : Task
    task = part_task step (own_index (v.hand a)) (v.hand a).topics note

    behind : Held
    behind = idle_after (v.hand a) (kind_of_task (v.hand a).state.sizes task) (answer_in task v.words)
