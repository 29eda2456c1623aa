-- What the steps of a line owe flat memory that reads a dirty log: it begins to read, and what it has read in the end it may read.
use Rattle.core_views.specs.Events.{facts_after, stage_read}
use Rattle.std.proofs.Common.{◌≡◌, inl, ◌+◌, ℕ, List, [], ◌∷◌, ◌++◌, refl, sym, subst, ap, ◌∙◌, length}
use Rattle.std.specs.Prelude.{Bool, true, false, ◌==◌, ◌||◌, not, nat_lt, if◌then◌else◌, Option, Some, None}
use Rattle.core_views.specs.declared.answer.Answer.TheVariants.{Bits, Refused}
use Rattle.core_views.specs.declared.answer.Refusal.{Refusal}
use Rattle.core_views.specs.declared.event.EventKind.{EventKind}
use Rattle.core_views.specs.declared.event.EventKind.TheVariants.{Answered, Harvested, Shown, Taken}
use Rattle.core_views.specs.declared.place.LogPlace.{LogPlace}
use Rattle.core_views.specs.declared.place.LogPlace.TheVariants.{AtOnce, Exclude, Take, Root, Walk, Protect, Release, Ask, Await, Peek}
use Rattle.core_views.specs.declared.place.Place.{Place}
use Rattle.core_views.specs.declared.place.Place.TheVariants as place
use Rattle.core_views.specs.declared.sizes.Sizes.{Sizes}
use Rattle.core_views.specs.declared.trace.Command.{Command}
use Rattle.core_views.specs.declared.trace.Line.{Line}
use Rattle.core_views.specs.declared.trace.Slot.{Slot}
use Rattle.core_views.specs.Events.{past_after}
use Rattle.core_views.specs.Flat.{Facts, Fresh, HasTaken, LineUnderWay, Stage}
use Rattle.core_views.specs.Harvests.{IsHarvest, slot_read}
use Rattle.core_views.specs.Held.{Held}
use Rattle.core_views.specs.Lawful.{HasWork, Tells}
use Rattle.core_views.specs.LogCommands.{bits_for, log_read, takes_out, words_asked}
use Rattle.core_views.specs.Past.{Past}
use Rattle.spte_words.specs.declared.spte_kind.SpteKind.{SpteKind}
use Rattle.spte_words.specs.Entries.{kind_of}
use Rattle.part_steps.specs.ControlBits.{has_to_flush}
use Rattle.part_steps.specs.SweepTopics.{walk_on}
use Rattle.part_steps.specs.declared.task.Task.{Task}
use Rattle.mmu_core.specs.declared.log_next.LogNext.TheVariants as comes
use Rattle.mmu_core.specs.declared.outcome.Outcome.{Outcome}
use Rattle.mmu_core.specs.invariant.Invariant.{Invariant}
use Rattle.mmu_core.specs.invariant.TopicsInvariant.{TopicsInvariant}
use Rattle.mmu_core.specs.forms.log.LogKnows.{AreAsked, HasRead as HasReadAll, LogKnows, Reads}
use Rattle.mmu_core.specs.forms.log.LogOutcomes.{after_log}
use Rattle.mmu_core.specs.forms.log.LogSteps.{after_entry, after_page, awaits_last, frames_read, log_part, next_page, read_more}
use Rattle.mmu_core.specs.forms.log.LogSteps.{reads_last, slot_asked}
use Rattle.mmu_core.specs.forms.log.LogTells.{harvested, shown, taken}
use Rattle.mmu_core.specs.machine.Outcomes.{answering, place_after}
use Rattle.mmu_core.specs.machine.View.{View}
use Rattle.mmu_core.proofs.lines.EitherPlace.{either_place}
use Rattle.mmu_core.proofs.forms.log.LogKnownWords.{reads_all}
use Rattle.mmu_core.proofs.machine.ColumnsTell.{some_is}
use Rattle.mmu_core.proofs.machine.PartStepping.{IsPart}
use Rattle.mmu_core.proofs.machine.Stepping.{IsStep}
use Rattle.mmu_laws.specs.flat.FlatInvariant.{LogUnder}
use Rattle.mmu_laws.proofs.flat.FlatSteps.{GoesBy, RefinesBy, StepGoes, answers_by}
use Rattle.mmu_laws.proofs.forms.log.LogAnswers.{ReadsWell}
use Rattle.mmu_laws.proofs.forms.log.PagePlaces.{each_entry, each_page}
use Rattle.mmu_laws.proofs.flat.Told.{AreAllowed}
use Rattle.mmu_laws.proofs.forms.log.LogReady as ready

module _ (z : Sizes) (v : View) (a : ℕ) (line : Line) (command : Command) (facts : Facts) (past : Past) (u : LineUnderWay) where
  abbrev h : Held
  h = v.hand a

  abbrev slot : Slot
  slot = slot_asked h command

  abbrev task : LogPlace → Task
  task p = ready.task z v a line command facts past u p

  abbrev x : LogPlace → ℕ
  x p = ready.x z v a line command facts past u p

  abbrev Goes : LogPlace → Place → List EventKind → Type 0
  Goes p next kinds = ready.Goes z v a line command facts past u p next kinds

  abbrev Makes : LogPlace → Type 0
  Makes p = ready.Makes z v a line command facts past u p

  still : (p : LogPlace) → Makes p → RefinesBy z v (task p) facts
  still p M = ready.still z v a line command facts past u p M

  quiet : (p next : LogPlace) → Makes p → LogUnder next command u → Goes p (place.Log next) []
  quiet p next M under = ready.quiet z v a line command facts past u p next M under

  abbrev begun_by : ℕ → LineUnderWay
  begun_by id = ready.begun_by z v a line command facts past u id

  begun_stage : (p : LogPlace) → Makes p → (id : ℕ) → log_read command ≡ Some id → (begun_by id).stage ≡ HasTaken id
  begun_stage p M id reads = ready.begun_stage z v a line command facts past u p M id reads

  -- ---- the steps that tell something

  refused : (refusal : Refusal) → Makes (AtOnce refusal)
      → StepGoes z v a line command (place.Log (AtOnce refusal)) facts past u
  refused refusal M =
      answers_by z v a line command (task (AtOnce refusal)) facts past u (still (AtOnce refusal) M) (Refused refusal) M.ready.under.0
      (subst (λ stage. Tells z facts h.state.actor u.line.command stage (Refused refusal)) (sym M.ready.under.1)
      (ready.at_once z v a line command facts past u (AtOnce refusal) M (Some refusal) M.knows.2))

  exclude_goes : Makes Exclude → StepGoes z v a line command (place.Log Exclude) facts past u
  exclude_goes M = by (x Exclude == 0)
    where
      reads : (id : ℕ) × (log_read command ≡ Some id)
      reads = some_is (log_read command) M.knows.1.0.reads

      to : Bool → LogPlace
      to free = if free then (if nat_lt 0 (words_asked command slot) then Take false else Root) else Exclude

      begins : (b : Bool) → GoesBy z v a line command (task Exclude) (place.Log (if b then Take false else Root)) (Taken reads.0 ∷ []) facts past u
      begins b = record {
        allowed = (
          inl (
            M.ready.under.1,
            ready.at_once z v a line command facts past u Exclude M None M.knows.1.0.accepted,
            ap log_read (ready.said z v a line command facts past u Exclude M) ∙ reads.1,
          ),
          tt,
        );
        refines = still Exclude M;
        under = (
          M.ready.under.0,
          either_place (λ q. LogUnder q command (begun_by reads.0)) b (Take false) Root
              (reads.0, begun_stage Exclude M reads.0 reads.1, reads.1) (reads.0, begun_stage Exclude M reads.0 reads.1, reads.1),
        );
      }

      by : (free : Bool) → Goes Exclude (place.Log (to free)) ((if free then taken (log_read command) else []) ++ [])
      by true = subst (λ o. Goes Exclude (place.Log (to true)) (taken o ++ [])) (sym reads.1) (begins (nat_lt 0 (words_asked command slot)))
      by false = quiet Exclude Exclude M M.ready.under.1

  await_goes : Makes Await → ReadsWell (place.Log Await) h.state.actor command h (x Await) facts past
      → StepGoes z v a line command (place.Log Await) facts past u
  await_goes M well = by (has_to_flush (x Await) || not (awaits_last h))
    where
      frames : List ℕ
      frames = frames_read slot command h.harvest

      to : Bool → Outcome
      to waits = after_log (if waits then comes.Goes Await else comes.Reads) h.harvest

      -- the facts once they are read
      read_facts : ℕ → Facts
      read_facts id = facts_after (Harvested id frames) facts

      words : bits_for u.line.command (slot_read facts.slots u.line.command) frames ≡ h.harvest
      words = ready.told_words z v a line command facts past u Await h.harvest M M.knows.2.0 M.knows.3.read M.knows.3.asked

      by : (waits : Bool) → Goes Await (place_after (to waits)) ((if waits then [] else harvested (log_read command) frames) ++ answering (to waits) line)
      by true = quiet Await Await M M.ready.under.1
      by false =
          subst (λ o. Goes Await place.Between (harvested o frames ++ answering (after_log comes.Reads h.harvest) line)) (sym M.ready.under.1.2) (record {
            allowed = (
              inl (ready.may_read z v a line command facts past u Await u.stage past M.ready.under.1.0 frames true M M.ready.under.1.1 M.ready.under.1.2
                  M.knows.2.1
                  (well M.ready.under.1.0 M.ready.under.1.2)),
              (
                (
                  ap (λ (l : Line). l.number) (sym M.ready.under.0),
                  subst (λ stage. Tells z (read_facts M.ready.under.1.0) h.state.actor u.line.command
                      (stage_read stage frames (read_facts M.ready.under.1.0)) (Bits h.harvest)) (sym M.ready.under.1.1) (ap Bits (sym words)),
                ),
                tt,
              ),
            );
            refines = let R = still Await M in record { slots = R.slots; host = R.host; memory = R.memory; paused = R.paused; idle = R.idle };
            under = refl;
          })

  -- What is shown in the end, of a line that has begun to read.
  shown_allowed : (p : LogPlace) (stage : Stage) (after : Past) (id : ℕ) (words : List ℕ) → Makes p → stage ≡ HasTaken id → log_read command ≡ Some id
      → Reads command h → takes_out h.state.sizes.mode command ≡ false → length words ≡ words_asked command slot → AreAsked slot command words
      → IsHarvest facts after command id (frames_read slot command words)
      → AreAllowed z h.state.actor (Shown id (frames_read slot command words) ∷ Answered line.number (Bits words) ∷ []) facts after
      (record u { stage = stage })
  shown_allowed p stage after id words M begun reads K takes long asked harvest = (
    ready.may_read z v a line command facts past u p stage after id (frames_read slot command words) false M begun reads takes harvest,
    ((ap (λ (l : Line). l.number) (sym M.ready.under.0), ap Bits (sym (ready.told_words z v a line command facts past u p words M K long asked))), tt),
  )

  all_read : (begun : Bool) → Makes (Peek begun) → reads_last begun slot command h.topics ≡ true
      → HasReadAll slot command (record h { harvest = read_more begun slot command h (x (Peek begun)) })
  all_read begun M last =
      reads_all begun slot command h (record h { harvest = read_more begun slot command h (x (Peek begun)) }) (x (Peek begun)) M.knows.3 refl last

  peek_on : Makes (Peek true) → ReadsWell (place.Log (Peek true)) h.state.actor command h (x (Peek true)) facts past
      → StepGoes z v a line command (place.Log (Peek true)) facts past u
  peek_on M well = by (reads_last true slot command h.topics) refl
    where
      words : List ℕ
      words = read_more true slot command h (x (Peek true))

      frames : List ℕ
      frames = frames_read slot command words

      by : (last : Bool) → reads_last true slot command h.topics ≡ last
          → Goes (Peek true) (place_after (after_log (if last then comes.Reads else comes.Goes (Peek true)) words))
          ((if last then shown (log_read command) frames else []) ++ answering (after_log (if last then comes.Reads else comes.Goes (Peek true)) words) line)
      by false more = quiet (Peek true) (Peek true) M M.ready.under.1
      by true last =
          let R = all_read true M last in
          let U = M.ready.under.1 in
          subst (λ o. Goes (Peek true) place.Between (shown o frames ++ answering (after_log comes.Reads words) line)) (sym M.ready.under.1.2) (record {
            allowed =
                shown_allowed (Peek true) u.stage past U.0 words M U.1 U.2 M.knows.1 M.knows.2 R.read R.asked (well U.0 U.2 last);
            refines = still (Peek true) M;
            under = refl;
          })

  peek_first : Makes (Peek false) → ReadsWell (place.Log (Peek false)) h.state.actor command h (x (Peek false)) facts past
      → StepGoes z v a line command (place.Log (Peek false)) facts past u
  peek_first M well = by (reads_last false slot command h.topics) refl
    where
      reads : (id : ℕ) × (log_read command ≡ Some id)
      reads = some_is (log_read command) M.knows.1.reads

      words : List ℕ
      words = read_more false slot command h (x (Peek false))

      frames : List ℕ
      frames = frames_read slot command words

      begins : (u.stage ≡ Fresh) × HasWork z facts h.state.actor u.line.command × (log_read u.line.command ≡ Some reads.0)
      begins = (
        M.ready.under.1,
        ready.at_once z v a line command facts past u (Peek false) M None M.knows.1.accepted,
        ap log_read (ready.said z v a line command facts past u (Peek false) M) ∙ reads.1,
      )

      by : (last : Bool) → reads_last false slot command h.topics ≡ last
          → Goes (Peek false) (place_after (after_log (if last then comes.Reads else comes.Goes (Peek true)) words))
          ((taken (log_read command) ++ (if last then shown (log_read command) frames else []))
          ++ answering (after_log (if last then comes.Reads else comes.Goes (Peek true)) words) line)
      by false more =
          subst (λ o. Goes (Peek false) (place.Log (Peek true)) ((taken o ++ []) ++ [])) (sym reads.1) (record {
            allowed = (inl begins, tt);
            refines = still (Peek false) M;
            under = (M.ready.under.0, (reads.0, begun_stage (Peek false) M reads.0 reads.1, reads.1));
          })
      by true last =
          let R = all_read false M last in
          subst (λ o. Goes (Peek false) place.Between ((taken o ++ shown o frames) ++ answering (after_log comes.Reads words) line)) (sym reads.1) (record {
            allowed = (
              inl begins,
              shown_allowed (Peek false) (begun_by reads.0).stage (past_after h.state.actor (Taken reads.0) facts past) reads.0 words M
                  (begun_stage (Peek false) M reads.0 reads.1) reads.1 M.knows.1 M.knows.2 R.read R.asked (well reads.0 reads.1 last),
            );
            refines = still (Peek false) M;
            under = refl;
          })

  -- ---- each step

  goes_by_place : (p : LogPlace) → Makes p → ReadsWell (place.Log p) h.state.actor command h (x p) facts past
      → StepGoes z v a line command (place.Log p) facts past u
  goes_by_place (AtOnce refusal) M well = refused refusal M
  goes_by_place Exclude M well = exclude_goes M
  goes_by_place (Take begun) M well =
      let last : Bool = reads_last begun slot command h.topics in
      quiet (Take begun) (if last then Root else Take true) M
      (either_place (λ q. LogUnder q command u) last Root (Take true) M.ready.under.1 M.ready.under.1)
  goes_by_place Root M well =
      let next : Option ℕ = next_page slot command h.harvest 0 in
      quiet Root (after_page next) M (each_page (λ q. LogUnder q command u) M.ready.under.1 (λ page. M.ready.under.1) next)
  goes_by_place (Walk page) M well =
      let found : ℕ = x (Walk page) in
      let kind : SpteKind = kind_of (walk_on h.topics).level found in
      let next : Option ℕ = next_page slot command h.harvest (page + 1) in
      let under = M.ready.under.1 in
      quiet (Walk page) (after_entry kind page (after_page next) found) M
      (each_entry (λ q. LogUnder q command u) under (λ other. under) (λ other. under) kind page next found)
  goes_by_place (Protect page) M well =
      let next : Option ℕ = next_page slot command h.harvest (page + 1) in
      quiet (Protect page) (after_page next) M (each_page (λ q. LogUnder q command u) M.ready.under.1 (λ other. M.ready.under.1) next)
  goes_by_place Release M well = quiet Release Ask M M.ready.under.1
  goes_by_place Ask M well =
      let more : Bool = nat_lt (h.topics.flush.asked + 1) h.state.sizes.vcpus in
      quiet Ask (if more then Ask else Await) M (either_place (λ q. LogUnder q command u) more Ask Await M.ready.under.1 M.ready.under.1)
  goes_by_place Await M well = await_goes M well
  goes_by_place (Peek true) M well = peek_on M well
  goes_by_place (Peek false) M well = peek_first M well

  pub log_goes_on : (p : LogPlace) → IsStep z v a line command (place.Log p) → Invariant z v → TopicsInvariant z v → IsPart z v a (log_part p h command)
      → LogKnows p command h → ReadsWell (place.Log p) h.state.actor command h (x p) facts past → ready.ReadyAt z v a line command facts past u p
      → StepGoes z v a line command (place.Log p) facts past u
  log_goes_on p S I P part K well R =
      goes_by_place p (record { step = S; is = I; topics = P; part = part; knows = K; ready = R }) well
