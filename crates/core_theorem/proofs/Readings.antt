-- What readings of dirty logs hold, in every run: laws of lawful histories, of those that runs tell.
use Rattle.core_views.specs.LogCommands.{reads_logs}
use Rattle.core_views.specs.Traces.{IsCommandFor}
use Rattle.core_views.specs.declared.trace.Command.{Command}
use Rattle.core_views.specs.declared.trace.Command.TheVariants.{Access, ChangeHost, ChangeRun, Split}
use Rattle.std.proofs.Common.{◌≡◌, ◌⊎◌, inl, inr, ℕ, List, [], ◌∷◌, ◌++◌, refl, sym, subst, ap, ◌∙◌, append_assoc}
use Rattle.std.specs.Prelude.{Bool, false, true}
use Rattle.core_views.specs.declared.actor.Actor.{Actor}
use Rattle.core_views.specs.declared.actor.Actor.TheVariants.{Manager}
use Rattle.core_views.specs.declared.event.Event.{Event}
use Rattle.core_views.specs.declared.event.EventKind.{EventKind}
use Rattle.core_views.specs.declared.event.EventKind.TheVariants.{Accessed, Begun, Harvested, Taken}
use Rattle.core_views.specs.declared.kind.Kind.{Kind}
use Rattle.core_views.specs.declared.place.Place.{Place}
use Rattle.core_views.specs.declared.place.Place.TheVariants as place
use Rattle.core_views.specs.declared.sizes.Sizes.{Sizes}
use Rattle.core_views.specs.declared.trace.Line.{Line}
use Rattle.core_views.specs.Alone.{IsInside}
use Rattle.core_views.specs.Events.{after_all}
use Rattle.core_views.specs.Flat.{first_flat}
use Rattle.core_views.specs.FlatHistory.{harvest}
use Rattle.core_views.specs.Held.{Held}
use Rattle.core_views.specs.Lawful.{IsLawful}
use Rattle.flat_laws.proofs.AloneIsLawful.{lawful_parts}
use Rattle.flat_laws.specs.Images.{LeavesManaging, OnlyManages, manages}
use Rattle.log_laws.specs.HarvestLaws.{ReadingsAreCaused, made_by}
use Rattle.log_laws.specs.LoggedWrites.{IsLogEnded, IsTakenOut, LoggedWritesAreKept}
use Rattle.log_laws.specs.OneReader.{LeavesReading, LoneReadingsAreComplete, OnlyReads}
use Rattle.mmu_core.specs.declared.outcome.Outcome.{Outcome}
use Rattle.mmu_core.specs.declared.outcome.Outcome.TheVariants.{Ends, Goes}
use Rattle.mmu_core.specs.invariant.Laws.{IsSound}
use Rattle.mmu_core.specs.lines.Forms.{outcome_at, tells_at}
use Rattle.mmu_core.specs.machine.Enabled.{mmu}
use Rattle.mmu_core.specs.machine.Machine.{Legal, Step, World, answered, effect, hand_in}
use Rattle.mmu_core.specs.machine.Outcomes.{answering}
use Rattle.mmu_core.specs.machine.Steps.{beginning, events_of, line_at, place_at}
use Rattle.mmu_core.specs.machine.View.{view}
use Rattle.mmu_core.specs.machine.Worlds.{history}
use Rattle.mmu_core.proofs.machine.Stepping.{IsStep}
use Rattle.mmu_core.proofs.machine.Which.{events_of_line, events_of_part, has_line_is}
use Rattle.mmu_core.proofs.machine.Worlds.{Takes, TakesPart, good_step, takes}
use Rattle.mmu_core.proofs.start.Starts.{start_good}
use Rattle.mmu_laws.proofs.flat.EveryHistory.{every_history}
use Rattle.mmu_laws.proofs.flat.Told.{told}
use Rattle.mmu_laws.proofs.flat.Within.{AllWithin, tells_within}
use Rattle.core_theorem.specs.Runs.{IsRun}
use Rattle.core_theorem.specs.Readings.{IsInAnsweredReading, OnlyTheManagerManages, OnlyTheManagerReads, ReadingsHaveCauses, ReadingsMissNone}
use Rattle.core_theorem.specs.Readings.{ReadingsTellWrites, WrittenFramesAreKept, answer_with}
use Rattle.core_theorem.proofs.AnsweredReadings.{reading_answered}

-- ---- who manages, and so who reads

only_append : (xs ys : List Event) → OnlyManages Manager xs → OnlyManages Manager ys → OnlyManages Manager (xs ++ ys)
only_append [] ys front back = back
only_append (x ∷ xs) ys front back = (front.0, only_append xs ys front.1 back)

pub only_parts : (xs ys : List Event) → OnlyReads Manager (xs ++ ys) → OnlyReads Manager xs × OnlyReads Manager ys
only_parts [] ys only = (tt, only)
only_parts (x ∷ xs) ys only = let rest = only_parts xs ys only.1 in ((only.0, rest.0), rest.1)

-- An event that stands within a line, or is its answer, begins none.
within_leaves : (actor : Actor) (kind : EventKind) → IsInside kind → LeavesManaging Manager actor kind
within_leaves actor (Begun line) within = absurd within
within_leaves actor _ within = tt

all_leave : (actor : Actor) (kinds more : List EventKind) → AllWithin kinds → OnlyManages Manager (told actor more)
    → OnlyManages Manager (told actor (kinds ++ more))
all_leave actor [] more all rest = rest
all_leave actor (kind ∷ kinds) more all rest = (within_leaves actor kind all.0, all_leave actor kinds more all.1 rest)

answer_leaves : (actor : Actor) (o : Outcome) (line : Line) → OnlyManages Manager (told actor (answering o line))
answer_leaves actor (Goes p) line = tt
answer_leaves actor (Ends answer) line = (tt, tt)

begin_leaves : (actor : Actor) (stood : Place) (line : Line) (more : List EventKind) → (actor ≡ Manager) ⊎ (manages line.command ≡ false)
    → OnlyManages Manager (told actor more) → OnlyManages Manager (told actor (beginning stood line ++ more))
begin_leaves actor place.Between line more who rest = (who, rest)
begin_leaves actor _ line more who rest = rest

-- A line that its actor may begin manages only where the actor is the manager.
may_manage : (z : Sizes) (actor : Actor) (command : Command) → manages command ≡ true → IsCommandFor z actor command → actor ≡ Manager
may_manage z Manager command is may = refl
may_manage z _ (Access gfn word op) is may = absurd (cc is)
may_manage z _ (ChangeHost page change) is may = absurd (cc is)
may_manage z _ (ChangeRun page change) is may = absurd (cc is)
may_manage z _ (Split gfn) is may = absurd (cc is)
may_manage z _ _ is may = absurd may

manager : (z : Sizes) (a : ℕ) (line : Line) (actor : Actor) (w : World Held) (p : Place) → IsStep z (view z w) a line line.command p → line.actor ≡ actor
    → (actor ≡ Manager) ⊎ (manages line.command ≡ false)
manager z a line actor w p S own = by (manages line.command) refl
  where
    by : (b : Bool) → manages line.command ≡ b → (actor ≡ Manager) ⊎ (manages line.command ≡ false)
    by true is = inl (sym own ∙ may_manage z line.actor line.command is S.allowed)
    by false is = inr is

step_leaves : (z : Sizes) (w : World Held) (s : Step Kind) → (G : IsSound z w) → Takes z w s (hand_in mmu w s.actor) ⊎ TakesPart z w s (hand_in mmu w s.actor)
    → OnlyManages Manager (events_of (hand_in mmu w s.actor) (answered mmu w s.kind))
step_leaves z w s G (inr T) = subst (OnlyManages Manager) (sym (events_of_part (hand_in mmu w s.actor) (answered mmu w s.kind) T.none_left)) tt
step_leaves z w s G (inl T) =
    subst (OnlyManages Manager) (sym (events_of_line h v (has_line_is h T.is_step.left)))
    (begin_leaves h.state.actor h.state.place line (tells_at p line.command h v ++ answering o line)
    (manager z s.actor line h.state.actor w p T.is_step T.is_step.own)
    (all_leave h.state.actor (tells_at p line.command h v) (answering o line) (tells_within p line.command h v) (answer_leaves h.state.actor o line)))
  where
    h : Held
    h = hand_in mmu w s.actor

    v : ℕ
    v = answered mmu w s.kind

    line : Line
    line = line_at h.state.place h

    p : Place
    p = place_at h.state.place h

    o : Outcome
    o = outcome_at p line.command h v

only_from : (z : Sizes) (w : World Held) (ss : List (Step Kind)) → IsSound z w → Legal mmu w ss → OnlyManages Manager (history w ss)
only_from z w [] G legal = tt
only_from z w (s ∷ ss) G legal =
    only_append (events_of (hand_in mmu w s.actor) (answered mmu w s.kind)) (history (effect mmu w s) ss) (step_leaves z w s G (takes z w s G legal.0))
    (only_from z (effect mmu w s) ss (good_step z w s G legal.0) legal.1)

only_the_manager_manages : OnlyTheManagerManages
only_the_manager_manages z lines w ss R = only_from z w ss (start_good z lines w R.start) R.legal

-- A line that reads a log manages.
reads_manage : (command : Command) → manages command ≡ false → reads_logs command ≡ false
reads_manage (Access gfn word op) none = refl
reads_manage (ChangeHost page change) none = refl
reads_manage (ChangeRun page change) none = refl
reads_manage (Split gfn) none = refl
reads_manage _ none = absurd (cc none)

reading_left : (actor : Actor) (kind : EventKind) → LeavesManaging Manager actor kind → LeavesReading Manager actor kind
reading_left actor (Begun line) (inl is) = inl is
reading_left actor (Begun line) (inr none) = inr (reads_manage line.command none)
reading_left actor _ leaves = tt

all_left : (es : List Event) → OnlyManages Manager es → OnlyReads Manager es
all_left [] only = tt
all_left (e ∷ es) only = (reading_left e.actor e.kind only.0, all_left es only.1)

only_the_manager_reads : OnlyTheManagerReads
only_the_manager_reads z lines w ss R = all_left (history w ss) (only_the_manager_manages z lines w ss R)

-- ---- the front of a run's history

-- It is lawful, up to an event.
pub lawful_front : (z : Sizes) (lines : List Line) (w : World Held) (ss : List (Step Kind)) (front rest : List Event) (e : Event) → IsRun z lines w ss
    → history w ss ≡ front ++ (e ∷ rest) → IsLawful z first_flat (front ++ (e ∷ []))
lawful_front z lines w ss front rest e R is =
    (lawful_parts z (front ++ (e ∷ [])) rest first_flat
    (subst (IsLawful z first_flat) (is ∙ sym (append_assoc front (e ∷ []) rest)) (every_history z lines w ss R.start R.legal))).0

-- ---- the laws of readings, of runs

module _ (lone : LoneReadingsAreComplete) (caused : ReadingsAreCaused) (kept : LoggedWritesAreKept) where
  complete : ReadingsMissNone
  complete z lines w ss before between rest id takes frames R is still gfn pending nobody asked =
      lone z before between Manager id takes frames
      (subst (IsLawful z first_flat) (append_assoc before (taken ∷ between) (read ∷ []))
      (lawful_front z lines w ss (before ++ (taken ∷ between)) rest read R (is ∙ sym (append_assoc before (taken ∷ between) (read ∷ rest)))))
      parts.0 (only_parts between (read ∷ rest) parts.1.1).0 still gfn pending nobody asked
    where
      taken : Event
      taken = made_by Manager (Taken id)

      read : Event
      read = made_by Manager (harvest takes id frames)

      parts : OnlyReads Manager before × OnlyReads Manager (taken ∷ (between ++ (read ∷ rest)))
      parts =
          only_parts before (taken ∷ (between ++ (read ∷ rest))) (subst (OnlyReads Manager) is (only_the_manager_reads z lines w ss R))

  have_causes : ReadingsHaveCauses
  have_causes z lines w ss before rest actor id takes frames R is gfn has =
      caused z before actor id takes frames (lawful_front z lines w ss before rest (made_by actor (harvest takes id frames)) R is) gfn has

  written : WrittenFramesAreKept
  written z lines w ss before since actor gfn word op frame value R is writes armed =
      by (kept z before since Manager actor gfn word op frame value (subst (IsLawful z first_flat) is (every_history z lines w ss R.start R.legal))
      (subst (OnlyManages Manager) is (only_the_manager_manages z lines w ss R)) writes armed)
    where
      access : Event
      access = made_by actor (Accessed gfn word op frame value)

      -- A reading that takes the frame out is answered.
      read : IsTakenOut since gfn → IsInAnsweredReading (before ++ (access ∷ [])) since gfn
      read T = record {
        before = T.before;
        actor = T.actor;
        id = T.id;
        frames = T.frames;
        rest = answer.0;
        since_is = T.since_is ∙ ap (λ (xs : List Event). T.before ++ (harvested ∷ xs)) answer.1;
        has = T.has;
      }
        where
          harvested : Event
          harvested = made_by T.actor (Harvested T.id T.frames)

          whole : history w ss ≡ ((before ++ (access ∷ [])) ++ T.before) ++ (harvested ∷ T.rest)
          whole =
              is ∙ ap (λ (xs : List Event). before ++ (access ∷ xs)) T.since_is
              ∙ sym (append_assoc (before ++ (access ∷ [])) T.before (harvested ∷ T.rest) ∙ append_assoc before (access ∷ []) (T.before ++ (harvested ∷
              T.rest)))

          answer : (more : List Event) × (T.rest ≡ answer_with ((before ++ (access ∷ [])) ++ T.before) T.actor T.frames ∷ more)
          answer = reading_answered z lines w ss ((before ++ (access ∷ [])) ++ T.before) T.rest T.actor T.id T.frames R whole

      by : ((after_all (before ++ (access ∷ since)) first_flat).facts.pending gfn ≡ true)
          ⊎ (IsTakenOut since gfn ⊎ IsLogEnded (before ++ (access ∷ [])) since gfn)
          → ((after_all (history w ss) first_flat).facts.pending gfn ≡ true)
          ⊎ (IsInAnsweredReading (before ++ (access ∷ [])) since gfn ⊎ IsLogEnded (before ++ (access ∷ [])) since gfn)
      by (inl is_dirty) = inl (ap (λ (h : List Event). (after_all h first_flat).facts.pending gfn) is ∙ is_dirty)
      by (inr (inl T)) = inr (inl (read T))
      by (inr (inr E)) = inr (inr E)

  pub readings_tell_writes : ReadingsTellWrites
  readings_tell_writes = record {
    manages = only_the_manager_manages;
    only = only_the_manager_reads;
    complete = complete;
    caused = have_causes;
    written = written;
  }
