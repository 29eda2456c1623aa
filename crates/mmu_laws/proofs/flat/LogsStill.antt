-- A step that publishes no slot set leaves the dirty logs of flat memory: each armed slot keeps its log, each dirty frame stays covered, and a bit that is set
-- then is of a frame that a line under way writes.
use Rattle.std.proofs.Common.{◌≡◌, ◌⊎◌, inl, inr, ◌<◌, ◌≤◌, ◌+◌, ◌/◌, ◌%◌, ℕ, refl, sym, subst, ap, ◌∙◌, arith}
use Rattle.std.specs.Prelude.{Bool, true, false, Option, Some, None, if◌then◌else◌}
use Rattle.core_views.specs.declared.place.AccessPlace.TheVariants as access
use Rattle.core_views.specs.declared.place.FaultPlace.TheVariants as fault
use Rattle.core_views.specs.declared.place.Place.{Place}
use Rattle.core_views.specs.declared.place.Place.TheVariants as place
use Rattle.core_views.specs.declared.place.SlotField.TheVariants.{Flags}
use Rattle.core_views.specs.declared.sizes.Sizes.{Sizes}
use Rattle.core_views.specs.declared.trace.Command.{Command}
use Rattle.core_views.specs.declared.trace.Command.TheVariants.{Access}
use Rattle.core_views.specs.declared.trace.Line.{Line}
use Rattle.core_views.specs.declared.trace.Slot.{Slot as SlotOf}
use Rattle.core_views.specs.Flat.{Flat, LineUnderWay}
use Rattle.core_views.specs.Held.{Held}
use Rattle.core_views.specs.Past.{written_frame}
use Rattle.core_views.specs.Sizes.{actors_of}
use Rattle.core_views.specs.Slots.{contains, has_host_page}
use Rattle.flat_laws.specs.Writes.{IsWriting}
use Rattle.flat_laws.proofs.Caused.{AreCaused}
use Rattle.flat_laws.proofs.Writes.{AreOfLines}
use Rattle.spte_words.specs.Bits.{has_bit}
use Rattle.spte_words.specs.Flags.{flags_logged}
use Rattle.spte_words.specs.declared.area.Area.{Area}
use Rattle.spte_words.specs.declared.area.Area.TheVariants as area
use Rattle.part_steps.specs.HeldNumbers.{number_or_none}
use Rattle.part_steps.specs.declared.part_step.PartStep.{PartStep}
use Rattle.part_steps.specs.declared.part_step.PartStep.TheVariants as part
use Rattle.part_steps.specs.declared.task.Task.{Task}
use Rattle.part_steps.specs.PartSteps.{needs_line}
use Rattle.part_steps.specs.PartTasks.{own_index, page_owed, part_task}
use Rattle.part_steps.specs.SlotWords.{page_of, slot_at}
use Rattle.mmu_core.specs.invariant.Invariant.{Invariant}
use Rattle.mmu_core.specs.invariant.TopicsInvariant.{TopicsInvariant}
use Rattle.mmu_core.specs.lines.Forms.{part_at}
use Rattle.part_steps.specs.Tasks.{kind_of_task}
use Rattle.mmu_core.specs.machine.Steps.{task_at}
use Rattle.mmu_core.specs.machine.View.{View, answer_in, part_stepped, stepped, words_after}
use Rattle.mmu_core.proofs.held.FreshFrames.{behind_it}
use Rattle.mmu_core.proofs.invariant.Kept.{makes_at}
use Rattle.mmu_core.proofs.invariant.QuietKept.{SetsStay, sets_stay}
use Rattle.mmu_core.proofs.forms.access.AccessParts.{AreSmall}
use Rattle.mmu_core.proofs.machine.Columns.{at_upd, upd_other}
use Rattle.mmu_core.proofs.machine.ColumnsTell.{some_is}
use Rattle.mmu_core.proofs.machine.PartStepping.{IsPart, idle_never}
use Rattle.mmu_core.proofs.machine.Stepping.{IsStep}
use Rattle.mmu_core.proofs.slots.LiveStays.{SetStays, published_stays}
use Rattle.mmu_core.proofs.slots.SlotsStay.{is_live_stays, word_stays}
use Rattle.mmu_core.proofs.words.PartWords.{slots_are, slots_same}
use Rattle.log_invariant.specs.Covered.{IsLoggedIn, is_marked}
use Rattle.log_invariant.specs.LogInvariant.{IsMarkingAt, LogInvariant}
use Rattle.log_invariant.specs.forms.log.LogReads.{HasTakenOut}
use Rattle.log_invariant.proofs.CoveredKept.{PublishesLog, idle_covered_kept, idle_logged_before, logged_before}
use Rattle.log_invariant.proofs.HeldLogs.{FoundLive, IsLoggedNow, marked_is_live}
use Rattle.log_invariant.proofs.LogBits.{was_marked, was_there}
use Rattle.log_invariant.proofs.LogWords.{armed_apart, idle_off_log, log_same, touch_leaves_log}
use Rattle.log_invariant.proofs.StepPlaces.{StepAt, Makes, Touches, publishes, publishes_none, step_at}
use Rattle.mmu_laws.specs.flat.FlatInvariant.{FlatInvariant, UnderAt}
use Rattle.mmu_laws.specs.flat.FlatLogs.{FlatLogs, IsArmedIn, IsBeginning, IsCoveredOrTaken, IsDirtyIn}
use Rattle.mmu_laws.proofs.flat.BeginningsKept.{begins_same, beginning_before}
use Rattle.mmu_laws.proofs.forms.access.PageFound.{contains_bounds}
use Rattle.mmu_laws.proofs.forms.log.TakenStays.{cover_stays, ends_taking, idle_taken, taken_stays}

-- ---- a published slot keeps its log

-- So it does where the published set is the same, and its words stay.
pub logged_where_it_was : (before after : Area → ℕ → ℕ) (id : ℕ) (slot : SlotOf) → after area.Slots 0 ≡ before area.Slots 0
    → SetStays (before area.Slots 0) (before area.Pool) (after area.Pool) → IsLoggedIn (before area.Pool) (before area.Slots 0) id slot
    → IsLoggedIn (after area.Pool) (after area.Slots 0) id slot
logged_where_it_was before after id slot same stays L =
    subst (λ set. IsLoggedIn (after area.Pool) set id slot) (sym same) (record {
      live = is_live_stays (before area.Slots 0) (before area.Pool) (after area.Pool) stays id slot L.live;
      logged = ap flags_logged (word_stays (before area.Slots 0) (before area.Pool) (after area.Pool) stays id Flags L.live.low) ∙ L.logged;
    })

-- ---- who sets a bit of the log

-- The actor marks the page, for a guest frame for which it owes the mark.
pub record MarksPage (h : Held) (page : ℕ) : Type 0 where
  pub gfn : ℕ
  pub owed : h.topics.owed ≡ Some gfn
  pub is : page ≡ page_of h.topics.search.slot gfn

module _ (z : Sizes) (v : View) (a : ℕ) (I : Invariant z v) (gfn id : ℕ) (slot : SlotOf) (logged : IsLoggedNow v id slot)
    (holds : contains gfn slot ≡ true) where
  abbrev h : Held
  h = v.hand a

  abbrev page : ℕ
  page = page_of slot gfn

  abbrev WasSet : Type 0
  WasSet = (is_marked (v.words area.Log) page ≡ true) ⊎ MarksPage h page

  bit_by : (step : PartStep) (note : ℕ) → IsPart z v a step
      → is_marked (words_after (part_task step (own_index h) h.topics note) v.words area.Log) page ≡ true → WasSet
  bit_by part.Mark note S set = by (was_marked (own_index h) h.topics note v.words page set)
    where
      by : (page ≡ page_owed h.topics) ⊎ (is_marked (v.words area.Log) page ≡ true) → WasSet
      by (inl is) =
          let owes = some_is h.topics.owed S.needs.owes in
          inr (record { gfn = owes.0; owed = owes.1; is = is ∙ ap (λ o. page_of h.topics.search.slot (number_or_none o)) owes.1 })
      by (inr was) = inl was
  bit_by (part.Take word mask) note S set = inl (was_there (own_index h) h.topics note v.words word mask page set)
  bit_by (part.Arm word bits) note S set =
      inl (sym (ap (has_bit (page % 64)) (upd_other (v.words area.Log) word (page / 64) bits (armed_apart z v a word bits S I id gfn slot logged holds))) ∙ set)
  bit_by _ note S set = inl set

  pub bit_at : (named : Option PartStep) (task : Task) → StepAt z v a named task
      → is_marked (words_after task v.words area.Log) page ≡ true → WasSet
  bit_at named _ (Makes step note is S) set = bit_by step note S set
  bit_at named _ (Touches op index is) set = inl (sym (ap (λ (log : ℕ → ℕ). is_marked log page) (touch_leaves_log v.words op index)) ∙ set)

  -- Who marks the page has found this slot, and marks it for this guest frame.
  pub same_frame : a < actors_of z → TopicsInvariant z v → LogInvariant z v → (M : MarksPage h page) → h.topics.owed ≡ Some gfn
  same_frame there P G M = M.owed ∙ ap Some (frames M.gfn bounds found (ap (λ (s : SlotOf). page_of s M.gfn) (sym slot_is) ∙ sym M.is))
    where
      pool : ℕ → ℕ
      pool = v.words area.Pool

      set : ℕ
      set = v.words area.Slots 0

      X : FoundLive v a M.gfn
      X = marked_is_live z v a M.gfn there I P G M.owed

      same : X.id ≡ id
      same =
          I.set_part.slots.host_apart page X.id id X.live.low logged.live.low X.live.live logged.live.live
          (ap (has_host_page page) X.live.is ∙ subst (λ p. has_host_page p h.topics.search.slot ≡ true) (sym M.is)
          (behind_it h.topics.search.slot M.gfn X.found.holds).0)
          (ap (has_host_page page) logged.live.is ∙ (behind_it slot gfn holds).0)

      slot_is : h.topics.search.slot ≡ slot
      slot_is = sym X.live.is ∙ ap (slot_at pool set) same ∙ logged.live.is

      bounds : (slot.base ≤ gfn) × (gfn < slot.base + slot.pages)
      bounds = contains_bounds gfn slot holds

      found : (slot.base ≤ M.gfn) × (M.gfn < slot.base + slot.pages)
      found = contains_bounds M.gfn slot (ap (contains M.gfn) (sym slot_is) ∙ X.found.holds)

      frames : (g : ℕ) → (slot.base ≤ gfn) × (gfn < slot.base + slot.pages) → (slot.base ≤ g) × (g < slot.base + slot.pages)
          → page_of slot g ≡ page_of slot gfn → g ≡ gfn
      frames g b c e = let x = b.0 in let y = c.0 in omega (arith, x, y, e)

-- Who owes the mark for a frame has a line under way that writes it.
pub writes_frame : (z : Sizes) (pool : ℕ → ℕ) (p : Place) (command : Command) (h : Held) (u : LineUnderWay) (gfn : ℕ) → IsMarkingAt p command gfn
    → UnderAt z pool p h.state.line command h.topics u → h.state.line.command ≡ command → IsWriting u gfn
writes_frame z pool (place.Access (access.Fault (fault.Mark fast))) (Access at word op) h u gfn M under said = (
  (λ idle. let fresh = under.1.0.0 in absurd (cc (fresh, idle))),
  ap (λ (l : Line). written_frame l.command) under.0 ∙ ap written_frame said ∙ ap (λ b. if b then Some at else None) M.1 ∙ ap Some M.0,
)
writes_frame z pool _ _ h u gfn M under said = absurd M

-- ---- a step of a line that publishes nothing

module _ (z : Sizes) (v : View) (a : ℕ) (line : Line) (command : Command) (p : Place) (never : publishes p ≡ false) (small : AreSmall v)
    (S : IsStep z v a line command p) (I : Invariant z v) (P : TopicsInvariant z v) (G : LogInvariant z v) where
  abbrev after : View
  after = stepped a line command p v

  sets : SetsStay z v a (words_after (task_at p command (v.hand a)) v.words)
  sets = sets_stay z v a p command (makes_at z v a line command p small S I P) (λ step is. publishes_none p command (v.hand a) step never is) P

  -- A slot with a log has it after the step.
  pub logged_still : (id : ℕ) (slot : SlotOf) → IsLoggedNow v id slot → IsLoggedNow after id slot
  logged_still id slot L = logged_where_it_was v.words after.words id slot sets.slots sets.pool L

  -- And one that has it after the step had it before.
  pub logged_before_it : (id : ℕ) (slot : SlotOf) → IsLoggedNow after id slot → IsLoggedNow v id slot
  logged_before_it id slot logged = by (logged_before z v a line command p small S I P id slot logged)
    where
      by : IsLoggedNow v id slot ⊎ PublishesLog v a command p slot → IsLoggedNow v id slot
      by (inl was) = was
      by (inr X) = absurd (let is = ap publishes X.at in cc (is, never))

  -- A frame that is dirty, of an armed slot, is so after it, if it stays taken where the actor has taken it.
  pub dirty_still : (armed : ℕ → Bool) (gfn : ℕ) → (HasTakenOut (v.hand a) gfn → HasTakenOut (after.hand a) gfn)
      → IsDirtyIn (actors_of z) (v.words area.Log) (v.words area.Pool) (v.words area.Slots 0) v.hand armed gfn
      → IsDirtyIn (actors_of z) (after.words area.Log) (after.words area.Pool) (after.words area.Slots 0) after.hand armed gfn
  dirty_still armed gfn stays D = record {
    id = D.id;
    slot = D.slot;
    is_armed = D.is_armed;
    logged = logged_still D.id D.slot D.logged;
    has = D.has;
    covered = cover_stays z v a line command p S gfn small I P G D.id D.slot D.logged D.has stays D.covered;
  }

  -- A bit that is set after it, in a log that was there, was set before; or it is of a frame that the actor's line writes.
  pub bit_was : (f : Flat) → FlatInvariant z v f → AreOfLines f → AreCaused f.facts f.past → (gfn id : ℕ) (slot : SlotOf) → IsLoggedNow v id slot
      → contains gfn slot ≡ true → is_marked (after.words area.Log) (page_of slot gfn) ≡ true
      → (is_marked (v.words area.Log) (page_of slot gfn) ≡ true) ⊎ ((f.past.recent gfn ≡ true) × (f.past.causes gfn ≡ true))
  bit_was f F lines are gfn id slot logged has set =
      by (bit_at z v a I gfn id slot logged has (part_at p command (v.hand a)) (task_at p command (v.hand a)) (step_at z v a line command p small S I P) set)
    where
      by : (is_marked (v.words area.Log) (page_of slot gfn) ≡ true) ⊎ MarksPage (v.hand a) (page_of slot gfn)
          → (is_marked (v.words area.Log) (page_of slot gfn) ≡ true) ⊎ ((f.past.recent gfn ≡ true) × (f.past.causes gfn ≡ true))
      by (inl was) = inl was
      by (inr M) =
          let owed = same_frame z v a I gfn id slot logged has S.there P G M in
          let writes = writes_frame z (v.words area.Pool) (v.hand a).state.place (v.hand a).state.line.command (v.hand a)
          (f.under (v.hand a).state.actor) gfn (G.marks a gfn S.there owed) (F.under a S.there) refl in
          inr (are.written gfn (v.hand a).state.actor (lines.is_in (v.hand a).state.actor gfn writes))

  module _ (f : Flat) (F : FlatInvariant z v f) (lines : AreOfLines f) (are : AreCaused f.facts f.past) (L : FlatLogs z v f) where
    -- A slot that is armed is so after it.
    pub armed_still : (id : ℕ) → f.facts.armed id ≡ true → IsArmedIn (actors_of z) (after.words area.Pool) (after.words area.Slots 0) after.hand id
    armed_still id on =
        let A = L.armed id on in
        record {
          slot = A.slot;
          logged = logged_still id A.slot A.logged;
          begun = λ j gfn lt has B. A.begun j gfn lt has (beginning_before z v a line command p S never j gfn B);
        }

    -- A bit that is set after it has its cause.
    pub caused_still : (gfn id : ℕ) (slot : SlotOf) → IsLoggedNow after id slot → contains gfn slot ≡ true
        → is_marked (after.words area.Log) (page_of slot gfn) ≡ true → f.past.causes gfn ≡ true
    caused_still gfn id slot logged has set = by (bit_was f F lines are gfn id slot was has set)
      where
        was : IsLoggedNow v id slot
        was = logged_before_it id slot logged

        by : (is_marked (v.words area.Log) (page_of slot gfn) ≡ true) ⊎ ((f.past.recent gfn ≡ true) × (f.past.causes gfn ≡ true)) → f.past.causes gfn ≡ true
        by (inl set_) = L.caused gfn id slot was has set_
        by (inr written) = written.1

    -- The logs of flat memory are the same, where the line doesn't end with a reading.
    pub logs_still : ends_taking p command (v.hand a) ≡ false → FlatLogs z after f
    logs_still on = record {
      armed = armed_still;
      dirty = λ gfn is. dirty_still f.facts.armed gfn (taken_stays z v a line command p S gfn on) (L.dirty gfn is);
      caused = caused_still;
    }

-- ---- a step of an actor with no line left

-- What is covered or taken stays so.
idle_cover_stays : (z : Sizes) (v : View) (a : ℕ) (step : PartStep) (note : ℕ) → IsPart z v a step → needs_line step ≡ false → (gfn : ℕ) (slot : SlotOf)
    → IsCoveredOrTaken (actors_of z) (v.words area.Log) v.hand slot gfn
    → IsCoveredOrTaken (actors_of z) ((part_stepped a step note v).words area.Log) (part_stepped a step note v).hand slot gfn
idle_cover_stays z v a step note S free gfn slot (inl is) = inl (idle_covered_kept z v a step note S free gfn slot is)
idle_cover_stays z v a step note S free gfn slot (inr (j, lt, taken)) =
    inr (
      j,
      lt,
      at_upd (λ i (g : Held). HasTakenOut (v.hand i) gfn → HasTakenOut g gfn) v.hand a _
          (idle_taken (v.hand a).state.place (v.hand a).state.line.command (v.hand a) (kind_of_task (v.hand a).state.sizes task) (answer_in task v.words) gfn)
          (λ i apart T. T) j taken,
    )
  where
    task : Task
    task = part_task step (own_index (v.hand a)) (v.hand a).topics note

-- It leaves the logs of flat memory, too.
pub idle_logs_still : (z : Sizes) (v : View) (a : ℕ) (step : PartStep) (note : ℕ) → IsPart z v a step → needs_line step ≡ false → TopicsInvariant z v
    → (f : Flat) → FlatLogs z v f → FlatLogs z (part_stepped a step note v) f
idle_logs_still z v a step note S free P f L = record {
  armed = λ id on. let A = L.armed id on in
      record { slot = A.slot; logged = logged id A.slot A.logged; begun = λ j gfn lt has B. A.begun j gfn lt has (beginning j gfn B) };
  dirty = λ gfn is. let D = L.dirty gfn is in
      record {
        id = D.id;
        slot = D.slot;
        is_armed = D.is_armed;
        logged = logged D.id D.slot D.logged;
        has = D.has;
        covered = idle_cover_stays z v a step note S free gfn D.slot D.covered;
      };
  caused = λ gfn id slot there has set.
      L.caused gfn id slot (idle_logged_before z v a step note S free P id slot there) has
      (sym (ap (λ (log : ℕ → ℕ). is_marked log (page_of slot gfn))
      (log_same step (own_index (v.hand a)) (v.hand a).topics note v.words (idle_off_log step free))) ∙ set);
}
  where
    after : View
    after = part_stepped a step note v

    logged : (id : ℕ) (slot : SlotOf) → IsLoggedNow v id slot → IsLoggedNow after id slot
    logged id slot M =
        logged_where_it_was v.words after.words id slot
        (slots_are v a step note ∙ slots_same step (v.hand a).topics (v.words area.Slots 0) (idle_never step free)) (published_stays z v a step note S P) M

    beginning : (j gfn : ℕ) → IsBeginning (after.hand j) gfn → IsBeginning (v.hand j) gfn
    beginning j gfn =
        at_upd (λ i (g : Held). IsBeginning g gfn → IsBeginning (v.hand i) gfn) v.hand a _
        (begins_same (v.hand a).state.place (v.hand a).state.line.command (v.hand a).state.line.command _ (v.hand a) gfn refl refl refl) (λ i apart B. B) j
