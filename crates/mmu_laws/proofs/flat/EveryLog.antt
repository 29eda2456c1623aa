-- What every list of steps tells is lawful, and after it flat memory has its dirty logs: one induction, since what a line reads of a log is lawful by these.
use Rattle.std.proofs.Common.{◌≡◌, ◌⊎◌, inl, inr, List, [], ◌∷◌, sym, subst, ap, ◌∙◌}
use Rattle.core_views.specs.declared.event.Event.{Event}
use Rattle.core_views.specs.declared.kind.Kind.{Kind}
use Rattle.core_views.specs.declared.sizes.Sizes.{Sizes}
use Rattle.core_views.specs.declared.trace.Line.{Line}
use Rattle.core_views.specs.Events.{after_all}
use Rattle.core_views.specs.Flat.{Flat, first_flat}
use Rattle.core_views.specs.Held.{Held}
use Rattle.core_views.specs.Lawful.{IsLawful}
use Rattle.flat_laws.proofs.AloneIsLawful.{lawful_append}
use Rattle.flat_laws.proofs.Caused.{AreCaused, all_caused, first_caused}
use Rattle.flat_laws.proofs.Writes.{AreOfLines, all_of_lines, first_of_lines}
use Rattle.spte_words.specs.declared.area.Area.TheVariants as area
use Rattle.mmu_core.specs.invariant.Invariant.{Invariant}
use Rattle.mmu_core.specs.invariant.Laws.{IsSound}
use Rattle.mmu_core.specs.machine.Enabled.{mmu}
use Rattle.mmu_core.specs.machine.Machine.{Legal, May, Step, World, answered, effect, hand_in, run}
use Rattle.mmu_core.specs.machine.Steps.{events_of, line_at, place_at}
use Rattle.mmu_core.specs.machine.View.{View, view, word_in}
use Rattle.mmu_core.specs.machine.Worlds.{IsStart, history}
use Rattle.mmu_core.proofs.invariant.Kept.{makes_at}
use Rattle.mmu_core.proofs.lines.KnowsKept.{step_knows}
use Rattle.mmu_core.proofs.machine.Which.{events_of_part}
use Rattle.mmu_core.proofs.machine.Worlds.{Takes, TakesPart, are_small, good_step, takes}
use Rattle.mmu_core.proofs.start.Starts.{hand_is, none_live, start_good}
use Rattle.log_invariant.specs.LogInvariant.{LogInvariant}
use Rattle.log_invariant.proofs.LogRuns.{log_step}
use Rattle.log_invariant.proofs.StartLogs.{start_logs}
use Rattle.mmu_laws.specs.flat.FlatInvariant.{FlatInvariant}
use Rattle.mmu_laws.specs.flat.FlatLogs.{FlatLogs, LogsAreFlat}
use Rattle.mmu_laws.proofs.flat.FlatKept.{flat_kept, told_events, told_is_events}
use Rattle.mmu_laws.proofs.flat.FlatRuns.{after_append, part_keeps_flat, start_flat}
use Rattle.mmu_laws.specs.forms.slot_change.GivenLogs.{HasGiven, LogsGiven}
use Rattle.mmu_laws.proofs.forms.slot_change.GivenLogs.{given_kept, idle_given_kept}
use Rattle.mmu_laws.proofs.flat.LogsKept.{ReadyLogs, logs_kept}
use Rattle.mmu_laws.proofs.flat.LogsStill.{idle_logs_still}
use Rattle.mmu_laws.proofs.forms.log.ReadingEnds.{reads_well_at}
use Rattle.mmu_laws.specs.forms.log.ReadSoFar.{ReadSoFarAt, Readings}
use Rattle.mmu_laws.proofs.forms.log.ReadingsKept.{idle_readings_kept, readings_kept}

-- A sound world that stands for a flat state, with its dirty logs.
pub record LogsHold (z : Sizes) (w : World Held) (f : Flat) : Type 0 where
  pub sound : IsSound z w
  pub covered : LogInvariant z (view z w)
  pub given : LogsGiven z (view z w)
  pub flat : FlatInvariant z (view z w) f
  pub lines : AreOfLines f
  pub caused : AreCaused f.facts f.past
  pub logs : FlatLogs z (view z w) f
  pub reads : Readings z (view z w) f

pub ready : (z : Sizes) (w : World Held) (f : Flat) → LogsHold z w f → ReadyLogs z (view z w) f
ready z w f H = record {
  small = are_small z w H.sound;
  holds = H.sound.holds;
  topics = H.sound.topics;
  covered = H.covered;
  given = H.given;
  flat = H.flat;
  lines = H.lines;
  caused = H.caused;
  logs = H.logs;
  reads = H.reads;
}

-- These events are lawful, and leave it so.
abbrev pub LeavesLogs : Sizes → World Held → Flat → List Event → Type 0
LeavesLogs z w f es = IsLawful z f es × LogsHold z w (after_all es f)

module _ (z : Sizes) (w : World Held) (f : Flat) (s : Step Kind) (H : LogsHold z w f) (sound : IsSound z (effect mmu w s))
    (covered : LogInvariant z (view z (effect mmu w s))) where
  abbrev h : Held
  h = hand_in mmu w s.actor

  abbrev Leaves : Type 0
  Leaves = LeavesLogs z (effect mmu w s) f (events_of h (answered mmu w s.kind))

  -- a step of a line
  line_logs : Takes z w s h → Leaves
  line_logs T =
      let G = H.sound in
      let line : Line = line_at h.state.place h in
      let p = place_at h.state.place h in
      let es : List Event = told_events (view z w) s.actor line line.command p in
      let is : events_of h (answered mmu w s.kind) ≡ es =
      ap (events_of h) T.answers ∙ sym (told_is_events z (view z w) s.actor line p T.is_step) in
      let K =
      flat_kept z (view z w) f s.actor line line.command p T.is_step G.holds G.topics
      (makes_at z (view z w) s.actor line line.command p (are_small z w G) T.is_step G.holds G.topics)
      (step_knows z (view z w) s.actor line line.command p T.is_step G.holds) G.no_pause G.usable G.copied
      (reads_well_at z (view z w) f s.actor line line.command p T.is_step (ready z w f H)) H.flat in
      subst (LeavesLogs z (effect mmu w s) f) (sym is) (
        K.0,
        record {
          sound = sound;
          covered = covered;
          given = subst (LogsGiven z) (sym T.leads) (given_kept z (view z w) s.actor line line.command p T.is_step G.holds H.given);
          flat = subst (λ (v : View). FlatInvariant z v (after_all es f)) (sym T.leads) K.1;
          lines = all_of_lines z es f K.0 H.lines;
          caused = all_caused z es f K.0 H.lines H.caused;
          logs = subst (λ (v : View). FlatLogs z v (after_all es f)) (sym T.leads)
              (logs_kept z (view z w) f s.actor line line.command p T.is_step (ready z w f H) (subst (Invariant z) T.leads sound.holds)
              (subst (LogInvariant z) T.leads covered));
          reads = subst (λ (v : View). Readings z v (after_all es f)) (sym T.leads)
              (readings_kept z (view z w) f s.actor line line.command p T.is_step (ready z w f H) (subst (Invariant z) T.leads sound.holds));
        },
      )

  -- a step of an actor with no line left
  part_logs : TakesPart z w s h → Leaves
  part_logs T =
      subst (LeavesLogs z (effect mmu w s) f) (sym (events_of_part h (answered mmu w s.kind) T.none_left)) (
        tt,
        record {
          sound = sound;
          covered = covered;
          given = subst (LogsGiven z) (sym T.leads) (idle_given_kept z (view z w) s.actor T.step T.note H.given);
          flat = subst (λ (v : View). FlatInvariant z v f) (sym T.leads)
              (part_keeps_flat z (view z w) f s.actor T.step T.note T.is_part T.free T.none_left H.sound.holds H.sound.topics H.flat);
          lines = H.lines;
          caused = H.caused;
          logs = subst (λ (v : View). FlatLogs z v f) (sym T.leads)
              (idle_logs_still z (view z w) s.actor T.step T.note T.is_part T.free H.sound.topics f H.logs);
          reads = subst (λ (v : View). Readings z v f) (sym T.leads)
              (idle_readings_kept z (view z w) s.actor T.step T.note T.free T.none_left H.sound.holds f H.reads);
        },
      )

-- Each step that may be made keeps it, with what it tells.
pub logs_step : (z : Sizes) (w : World Held) (f : Flat) (s : Step Kind) → LogsHold z w f → May mmu w s
    → LeavesLogs z (effect mmu w s) f (events_of (hand_in mmu w s.actor) (answered mmu w s.kind))
logs_step z w f s H may = by (takes z w s H.sound may)
  where
    sound : IsSound z (effect mmu w s)
    sound = good_step z w s H.sound may

    covered : LogInvariant z (view z (effect mmu w s))
    covered = log_step z w s H.sound H.covered may

    by : Takes z w s (hand_in mmu w s.actor) ⊎ TakesPart z w s (hand_in mmu w s.actor)
        → LeavesLogs z (effect mmu w s) f (events_of (hand_in mmu w s.actor) (answered mmu w s.kind))
    by (inl T) = line_logs z w f s H sound covered T
    by (inr T) = part_logs z w f s H sound covered T

-- So does any list of steps.
pub run_tells : (z : Sizes) (w : World Held) (f : Flat) (ss : List (Step Kind)) → LogsHold z w f → Legal mmu w ss
    → LeavesLogs z (run mmu w ss) f (history w ss)
run_tells z w f [] H legal = (tt, H)
run_tells z w f (s ∷ ss) H legal =
    let es : List Event = events_of (hand_in mmu w s.actor) (answered mmu w s.kind) in
    let one = logs_step z w f s H legal.0 in
    let rest = run_tells z (effect mmu w s) (after_all es f) ss one.1 legal.1 in (
      lawful_append z es (history (effect mmu w s) ss) f one.0 rest.0,
      subst (LogsHold z (run mmu (effect mmu w s) ss)) (sym (after_append es (history (effect mmu w s) ss) f)) rest.1,
    )

pub run_logs : (z : Sizes) (w : World Held) (f : Flat) (ss : List (Step Kind)) → LogsHold z w f → Legal mmu w ss
    → LogsHold z (run mmu w ss) (after_all (history w ss) f)
run_logs z w f ss H legal = (run_tells z w f ss H legal).1

-- At the start no slot is there, and no log is kept.
pub start_hold : (z : Sizes) (lines : List Line) (w : World Held) → IsStart z lines w → LogsHold z w first_flat
start_hold z lines w start = record {
  sound = start_good z lines w start;
  covered = start_logs z lines w start;
  given = λ i lt. subst (λ (h : Held). HasGiven h.state.line.command h.state.place h.slots) (sym (hand_is z lines w i start lt)) tt;
  flat = start_flat z lines w start;
  lines = first_of_lines;
  caused = first_caused;
  logs = record {
    armed = λ id on. absurd (cc on);
    dirty = λ gfn is. absurd (cc is);
    caused = λ gfn id slot logged has marked.
        let none = none_live z w (word_in z w area.Slots 0) id start.words in let live = logged.live.live in absurd (cc (none, live));
  };
  reads = λ i lt. subst (λ (h : Held). ReadSoFarAt h.state.place h.state.line.command h (word_in z w area.Log) first_flat.past)
      (sym (hand_is z lines w i start lt)) tt;
}

pub every_log : LogsAreFlat
every_log z lines w ss start legal = (run_logs z w first_flat ss (start_hold z lines w start) legal).logs
