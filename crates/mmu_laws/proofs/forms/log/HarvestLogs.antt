-- The last look of a reading that takes out what it reads of a dirty log: what it has read goes out of the log of flat memory with it.
use Rattle.std.proofs.Common.{◌≡◌, ◌⊎◌, inl, inr, ◌++◌, List, [], ℕ, refl, sym, subst, ap, ◌∙◌}
use Rattle.std.proofs.lemmas.Bool.{and_parts, not-true}
use Rattle.std.specs.Prelude.{Bool, true, false, not, ◌&&◌, ◌||◌, if◌then◌else◌, Option, Some, None}
use Rattle.core_views.specs.declared.actor.Actor.{Actor}
use Rattle.core_views.specs.declared.answer.Refusal.{Refusal}
use Rattle.core_views.specs.declared.event.Event.{Event}
use Rattle.core_views.specs.declared.event.EventKind.{EventKind}
use Rattle.core_views.specs.declared.event.EventKind.TheVariants.{Harvested}
use Rattle.core_views.specs.declared.place.LogPlace.TheVariants.{Await}
use Rattle.core_views.specs.declared.place.Place.{Place}
use Rattle.core_views.specs.declared.place.Place.TheVariants as place
use Rattle.core_views.specs.declared.sizes.Sizes.{Sizes}
use Rattle.core_views.specs.declared.trace.Command.{Command}
use Rattle.core_views.specs.declared.trace.Command.TheVariants.{Access, ChangeHost, ClearLog, GetLog}
use Rattle.core_views.specs.declared.trace.Line.{Line}
use Rattle.core_views.specs.declared.trace.Slot.{Slot as SlotOf}
use Rattle.core_views.specs.Events.{after, after_all}
use Rattle.core_views.specs.Flat.{Flat}
use Rattle.core_views.specs.Held.{Held}
use Rattle.core_views.specs.LogCommands.{is_among, log_read, read_refusal, takes_out}
use Rattle.core_views.specs.Past.{Past}
use Rattle.core_views.specs.Sizes.{actors_of}
use Rattle.core_views.specs.Slots.{contains}
use Rattle.core_views.specs.SlotSets.{MemorySlots}
use Rattle.flat_laws.proofs.Caused.{AreCaused}
use Rattle.flat_laws.proofs.Writes.{AreOfLines}
use Rattle.spte_words.specs.declared.area.Area.TheVariants as area
use Rattle.part_steps.specs.ControlBits.{has_to_flush}
use Rattle.part_steps.specs.SlotWords.{page_of}
use Rattle.mmu_core.specs.declared.log_next.LogNext.TheVariants as comes
use Rattle.mmu_core.specs.invariant.Invariant.{Invariant}
use Rattle.mmu_core.specs.invariant.TopicsInvariant.{TopicsInvariant}
use Rattle.mmu_core.specs.lines.Forms.{first_place, outcome_at}
use Rattle.mmu_core.specs.forms.log.LogKnows.{LogKnows}
use Rattle.mmu_core.specs.forms.log.LogSteps.{awaits_last, frames_read, log_first, log_next, slot_asked, word_end}
use Rattle.mmu_core.specs.forms.log.LogTells.{harvested}
use Rattle.mmu_core.specs.machine.Outcomes.{answering}
use Rattle.mmu_core.specs.machine.Steps.{task_at}
use Rattle.mmu_core.specs.machine.View.{View, answer_in, hand_after, stepped}
use Rattle.mmu_core.proofs.forms.access.AccessParts.{AreSmall}
use Rattle.mmu_core.proofs.lines.KnowsKept.{step_knows}
use Rattle.mmu_core.proofs.machine.Stepping.{IsStep}
use Rattle.log_invariant.specs.Covered.{is_marked}
use Rattle.log_invariant.specs.LogInvariant.{LogInvariant}
use Rattle.log_invariant.specs.forms.log.LogReads.{HasTakenOut, IsRead, taken_of}
use Rattle.log_invariant.proofs.HeldLogs.{IsLoggedNow}
use Rattle.log_invariant.proofs.StepPlaces.{of_hand, publishes}
use Rattle.mmu_laws.specs.flat.FlatInvariant.{FlatInvariant}
use Rattle.mmu_laws.specs.flat.FlatLogs.{FlatLogs, IsDirtyIn}
use Rattle.mmu_laws.proofs.forms.log.AskedPages.{read_inside}
use Rattle.mmu_laws.proofs.flat.BeginningsKept.{told_later}
use Rattle.mmu_laws.proofs.forms.log.BegunLater.{begun_later}
use Rattle.mmu_laws.proofs.flat.FlatKept.{told_events}
use Rattle.mmu_laws.proofs.forms.log.HarvestFrames.{among_read, read_among}
use Rattle.mmu_laws.proofs.flat.LogsStill.{armed_still, bit_was, caused_still, dirty_still, logged_before_it}
use Rattle.mmu_laws.proofs.flat.QuietKinds.{answers_quiet, quiet_told}
use Rattle.mmu_laws.specs.forms.log.ReadSoFar.{HasReadTo, ReadSoFar, ReadSoFarAt, Readings}
use Rattle.mmu_laws.proofs.forms.log.ReadSlots.{ReadsOf, one_slot, reads_of}
use Rattle.mmu_laws.proofs.forms.log.TakenStays.{taken_here, taken_then}
use Rattle.mmu_laws.proofs.flat.Told.{told}
use Rattle.mmu_core.proofs.forms.log.ReadingPlaces.{IsOfReading, after_reading, reading_goes, reading_is}
use Rattle.mmu_core.specs.forms.log.Readings.{Reading, reading_at}
use Rattle.log_invariant.proofs.forms.log.LogExcuse.{at_hand}

-- ---- what a line has read where it makes a step

-- Where it begins it has read nothing.
pub first_read : (z : Sizes) (slots : MemorySlots) (command : Command) (h : Held) (log : ℕ → ℕ) (past : Past)
    → ReadSoFarAt (first_place z slots command) command h log past
first_read z slots (Access gfn word op) h log past = tt
first_read z slots (ChangeHost page change) h log past = tt
first_read z slots (GetLog id) h log past = by (read_refusal (GetLog id) slots) (takes_out z.mode (GetLog id))
  where
    by : (r : Option Refusal) (out : Bool) → ReadSoFarAt (place.Log (log_first r out)) (GetLog id) h log past
    by (Some refusal) out = λ begun. absurd (cc begun)
    by None true = λ begun. absurd (cc begun)
    by None false = λ begun. absurd (cc begun)
first_read z slots (ClearLog id first count words) h log past = by (read_refusal (ClearLog id first count words) slots)
    (takes_out z.mode (ClearLog id first count words))
  where
    by : (r : Option Refusal) (out : Bool) → ReadSoFarAt (place.Log (log_first r out)) (ClearLog id first count words) h log past
    by (Some refusal) out = λ begun. absurd (cc begun)
    by None true = λ begun. absurd (cc begun)
    by None false = λ begun. absurd (cc begun)
first_read z slots _ h log past = tt

pub read_here : (z : Sizes) (v : View) (a : ℕ) (line : Line) (command : Command) (p : Place) (f : Flat) → IsStep z v a line command p → Readings z v f
    → ReadSoFarAt p command (v.hand a) (v.words area.Log) f.past
read_here z v a line command p f S reads =
    of_hand z v a line command p S (λ q c. ReadSoFarAt q c (v.hand a) (v.words area.Log) f.past)
    (λ sizes slots c none. first_read sizes slots c (v.hand a) (v.words area.Log) f.past) (reads a S.there)

-- ---- the step

-- A reading publishes no slot set.
publishes_no : (p : Place) (command : Command) (h : Held) (r : Reading) → reading_at p command h ≡ Some r → publishes p ≡ false
publishes_no (place.SlotChange q) command h r at = absurd (cc at)
publishes_no _ command h r at = refl

module _ (z : Sizes) (v : View) (a : ℕ) (line : Line) (own_command : Command) (p : Place) (command : Command) (small : AreSmall v)
    (at : reading_at p own_command (v.hand a) ≡ Some (record { place = Await; command = command })) (S : IsStep z v a line own_command p) (I : Invariant z v)
    (P : TopicsInvariant z v) (G : LogInvariant z v) (f : Flat) (F : FlatInvariant z v f) (lines : AreOfLines f)
    (are : AreCaused f.facts f.past) (L : FlatLogs z v f) (reads : Readings z v f) where
  abbrev h : Held
  h = v.hand a

  abbrev x : ℕ
  x = answer_in (task_at p own_command h) v.words

  abbrev behind : View
  behind = stepped a line own_command p v

  abbrev slot : SlotOf
  slot = slot_asked h command

  abbrev frames : List ℕ
  frames = frames_read slot command h.harvest

  abbrev waits : Bool
  waits = has_to_flush x || not (awaits_last h)

  never : publishes p ≡ false
  never = publishes_no p own_command h _ at

  there : IsOfReading p own_command h (record { place = Await; command = command })
  there = reading_is p own_command h _ at

  K : LogKnows Await command h
  K = there.knows (step_knows z v a line own_command p S I)

  R : ReadsOf v h command
  R = reads_of z v a command I S.there (sym S.own ∙ there.managers z line.actor (step_knows z v a line own_command p S I) S.allowed) K.2.0

  H : HasReadTo (v.words area.Log) slot command true h.harvest (word_end slot command) f.past
  H = subst (λ (o : Option Reading). ReadSoFar o h (v.words area.Log) f.past) at (read_here z v a line own_command p f S reads) refl

  -- It has taken what it has read.
  taken_read : (gfn : ℕ) → HasTakenOut h gfn → IsRead slot command h.harvest gfn
  taken_read gfn T = (subst (λ (o : Option Reading). (taken_of o h).Has gfn) at (taken_here z v a line own_command p S gfn T)).1

  -- Where it waits, or looks at the next one, what it has taken it has taken still.
  taken_on : waits ≡ true → (gfn : ℕ) → HasTakenOut h gfn → HasTakenOut (behind.hand a) gfn
  taken_on on gfn T =
      let then_ : Held = hand_after line own_command p h x in
      let is : log_next Await command h x ≡ comes.Goes Await = ap (λ (b : Bool). if b then comes.Goes Await else comes.Reads) on in
      let A = after_reading line p own_command h x _ at in
      taken_then z v a line own_command p S gfn
      (subst (λ (o : Option Reading). (taken_of o then_).Has gfn) (sym ((reading_goes p own_command h x _ Await at is).stands then_))
      (refl, at_hand then_ h.slots h.harvest A.slots (A.words Await is) (λ y. IsRead (slot_asked y command) command y.harvest gfn) (taken_read gfn T)))

  -- A frame that was read is none that is dirty after it.
  dirty_then : (gfn : ℕ) → (not (is_among gfn frames) && f.facts.pending gfn) ≡ true
      → IsDirtyIn (actors_of z) (behind.words area.Log) (behind.words area.Pool) (behind.words area.Slots 0) behind.hand f.facts.armed gfn
  dirty_then gfn is =
      let parts = and_parts (not (is_among gfn frames)) (f.facts.pending gfn) is in
      let left = not-true (is_among gfn frames) parts.0 in
      dirty_still z v a line own_command p never small S I P G f.facts.armed gfn
      (λ T. let among = read_among slot command h.harvest gfn (taken_read gfn T) in absurd (cc (left, among))) (L.dirty gfn parts.1)

  -- A bit that is set again is of a frame that was written since.
  caused_then : (gfn id : ℕ) (one : SlotOf) → IsLoggedNow behind id one → contains gfn one ≡ true → is_marked (behind.words area.Log) (page_of one gfn) ≡ true
      → (if is_among gfn frames then f.past.recent gfn else f.past.causes gfn) ≡ true
  caused_then gfn id one logged has set = by (is_among gfn frames) refl
    where
      was : IsLoggedNow v id one
      was = logged_before_it z v a line own_command p never small S I P G id one logged

      again : IsRead slot command h.harvest gfn
          → (is_marked (v.words area.Log) (page_of one gfn) ≡ true) ⊎ ((f.past.recent gfn ≡ true) × (f.past.causes gfn ≡ true))
          → f.past.recent gfn ≡ true
      again read (inr written) = written.0
      again read (inl marked) =
          let same = one_slot z v gfn R.id id slot one I R.logged was (read_inside slot command h.harvest gfn R.whole.inside read) has in
          H.recent refl gfn read (subst (λ s. is_marked (v.words area.Log) (page_of s gfn) ≡ true) same marked)

      by : (b : Bool) → is_among gfn frames ≡ b → (if b then f.past.recent gfn else f.past.causes gfn) ≡ true
      by true among =
          again (among_read slot command h.harvest gfn among) (bit_was z v a line own_command p never small S I P G f F lines are gfn id one was has set)
      by false left = caused_still z v a line own_command p never small S I P G f F lines are L gfn id one logged has set

  harvested_logs : (actor : Actor) (id : ℕ) → FlatLogs z behind (after (record { actor = actor; kind = Harvested id frames }) f)
  harvested_logs actor id = record {
    armed = armed_still z v a line own_command p never small S I P G f F lines are L;
    dirty = dirty_then;
    caused = caused_then;
  }

  -- The logs of flat memory after the look.
  pub harvest_logs : FlatLogs z behind (after_all (told_events v a line own_command p) f)
  harvest_logs =
      subst (λ (es : List Event). FlatLogs z behind (after_all es f)) (sym told_is) (by waits refl)
    where
      ending : List EventKind
      ending = answering (outcome_at p own_command h x) line

      told_is : told_events v a line own_command p
          ≡ told h.state.actor ((if waits then [] else harvested (log_read command) frames) ++ ending)
      told_is =
          told_later z v a line own_command p S (begun_later p own_command h _ at refl)
          ∙ ap (λ (kinds : List EventKind). told h.state.actor (kinds ++ ending)) (there.tells x refl)

      by : (b : Bool) → waits ≡ b → FlatLogs z behind (after_all (told h.state.actor ((if b then [] else harvested (log_read command) frames) ++ ending)) f)
      by true on =
          quiet_told (actors_of z) (behind.words area.Log) (behind.words area.Pool) (behind.words area.Slots 0) behind.hand h.state.actor ending f
          (answers_quiet (outcome_at p own_command h x) line) (record {
            armed = armed_still z v a line own_command p never small S I P G f F lines are L;
            dirty = λ gfn is. dirty_still z v a line own_command p never small S I P G f.facts.armed gfn (taken_on on gfn) (L.dirty gfn is);
            caused = caused_still z v a line own_command p never small S I P G f F lines are L;
          })
      by false over =
          subst (λ o. FlatLogs z behind (after_all (told h.state.actor (harvested o frames ++ ending)) f)) (sym R.reads)
          (quiet_told (actors_of z) (behind.words area.Log) (behind.words area.Pool) (behind.words area.Slots 0) behind.hand h.state.actor ending
          (after (record { actor = h.state.actor; kind = Harvested R.id frames }) f) (answers_quiet (outcome_at p own_command h x) line)
          (harvested_logs h.state.actor R.id))
