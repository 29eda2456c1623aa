-- Where each reading so far was just what is dirty, and the bits of the logs say what is dirty, so it is after one more step of a line that runs alone.
use Rattle.std.proofs.Common.{◌≡◌, ◌<◌, ◌++◌, ◌∷◌, [], List, ℕ, refl, sym, subst, ap, ◌∙◌}
use Rattle.std.specs.Prelude.{false, ◌&&◌}
use Rattle.core_views.specs.declared.event.Event.{Event}
use Rattle.core_views.specs.declared.kind.Kind.{Kind}
use Rattle.core_views.specs.declared.place.Place.{Place}
use Rattle.core_views.specs.declared.sizes.Sizes.{Sizes}
use Rattle.core_views.specs.declared.trace.Line.{Line}
use Rattle.core_views.specs.Alone.{ReadDirty}
use Rattle.core_views.specs.Events.{after_all}
use Rattle.core_views.specs.Flat.{Flat, first_flat}
use Rattle.core_views.specs.Held.{Held}
use Rattle.core_views.specs.Lawful.{IsLawful}
use Rattle.flat_laws.proofs.AloneIsLawful.{lawful_parts}
use Rattle.spte_words.specs.declared.area.Area.TheVariants as area
use Rattle.mmu_core.specs.alone.AloneKnows.{AloneKnows}
use Rattle.mmu_core.specs.alone.LineAlone.{LineAlone}
use Rattle.mmu_core.specs.invariant.Invariant.{Invariant}
use Rattle.mmu_core.specs.lines.Delays.{leaves_to_fault, walks_again}
use Rattle.mmu_core.specs.lines.Forms.{outcome_at}
use Rattle.mmu_core.specs.machine.Enabled.{mmu}
use Rattle.mmu_core.specs.machine.Machine.{Legal, May, Step, World, hand_in, run}
use Rattle.mmu_core.specs.machine.Steps.{events_of, line_at, place_at, task_at}
use Rattle.mmu_core.specs.machine.View.{View, answer_in, stepped, view, word_in}
use Rattle.mmu_core.specs.machine.Worlds.{IsStart, history}
use Rattle.mmu_core.proofs.machine.LineRuns.{history_one_more, legal_one_more, run_one_more, told_last}
use Rattle.mmu_core.proofs.machine.Which.{has_line_is, is_next}
use Rattle.mmu_core.proofs.machine.Worlds.{Takes, good_step, takes_line}
use Rattle.mmu_core.proofs.start.Starts.{hand_is, none_live}
use Rattle.mmu_core.specs.forms.log.Readings.{own_reading}
use Rattle.mmu_laws.specs.forms.log.ReadingsAlone.{ReadingHasBegun, HasReadPage, LeavesClear, LogsAreExact, OthersIdle, ReadingsAloneAreExact, ReadsExactly}
use Rattle.mmu_laws.proofs.alone.AloneRuns.{standing_alone}
use Rattle.mmu_laws.proofs.alone.AloneStep.{walks_installed}
use Rattle.mmu_laws.proofs.alone.ArmedLogs.{all_armed, first_armed}
use Rattle.mmu_laws.proofs.forms.log.ExactKept.{exact_kept, step_reads}
use Rattle.mmu_laws.proofs.forms.log.LoneReadingSteps.{StepsAlone}
use Rattle.mmu_laws.proofs.alone.ToldFlat.{reads_append}
use Rattle.mmu_laws.proofs.flat.EveryHistory.{after_append, every_history}
use Rattle.mmu_laws.proofs.flat.EveryLog.{LogsHold, ready, run_logs, start_hold}
use Rattle.mmu_laws.proofs.flat.FlatKept.{told_events, told_is_events}
use Rattle.mmu_laws.proofs.turns.TurnsNearer.{no_miss}

-- ---- a step

module _ (z : Sizes) (lines : List Line) (w : World Held) (ss : List (Step Kind)) (s : Step Kind) (start : IsStart z lines w) (legal : Legal mmu w ss)
    (L : LineAlone z (run mmu w ss) s.actor) (idle : OthersIdle s.actor (run mmu w ss)) (may : May mmu (run mmu w ss) s) (E : ReadsExactly z w ss) where
  abbrev u : World Held
  u = run mmu w ss

  abbrev f : Flat
  f = after_all (history w ss) first_flat

  abbrev a : ℕ
  a = s.actor

  abbrev h : Held
  h = hand_in mmu u a

  abbrev line : Line
  line = line_at h.state.place h

  abbrev p : Place
  p = place_at h.state.place h

  abbrev told : List Event
  told = told_events (view z u) a line line.command p

  holds : LogsHold z u f
  holds = run_logs z w first_flat ss (start_hold z lines w start) legal

  T : Takes z u s h
  T = takes_line z u s L.sound may (is_next h s.kind may.enabled (has_line_is h L.left))

  told_is : told_last u s ≡ told
  told_is = ap (events_of h) T.answers ∙ sym (told_is_events z (view z u) a line p T.is_step)

  both : IsLawful z first_flat (history w ss ++ told_last u s)
  both = subst (IsLawful z first_flat) (history_one_more w ss s) (every_history z lines w (ss ++ s ∷ []) start (legal_one_more w ss s legal may))

  parts : IsLawful z first_flat (history w ss) × IsLawful z f (told_last u s)
  parts = lawful_parts z (history w ss) (told_last u s) first_flat both

  finds : (walks_again p && leaves_to_fault (outcome_at p line.command h (answer_in (task_at p line.command h) (word_in z u)))) ≡ false
  finds =
      let K : AloneKnows p line.command (word_in z u) h.topics = (
      standing_alone h.state.place h.state.sizes h.slots line.command (word_in z u) h.topics L.knows
      ) in
      no_miss p line.command h (word_in z u) (walks_installed p line.command (word_in z u) h.topics K.form)

  steps : StepsAlone z (view z u) f a line p
  steps = record {
    step = T.is_step;
    ready = ready z u f holds;
    idle = λ i lt apart. idle i (subst (λ n. i < n) (sym L.sound.hands) lt) apart;
    exact = E.logs;
    armed = all_armed z (history w ss) first_flat parts.0 first_armed;
    lawful = subst (IsLawful z f) told_is parts.1;
    finds = finds;
  }

  kept : Invariant z (stepped a line line.command p (view z u))
  kept = subst (Invariant z) T.leads (good_step z u s L.sound may).holds

  behind_is : after_all (history w (ss ++ s ∷ [])) first_flat ≡ after_all told f
  behind_is =
      ap (λ (es : List Event). after_all es first_flat) (history_one_more w ss s) ∙ after_append (history w ss) (told_last u s) first_flat
      ∙ ap (λ (es : List Event). after_all es f) told_is

  view_is : ◌≡◌ {A = View} (view z (run mmu w (ss ++ s ∷ []))) (stepped a line line.command p (view z u))
  view_is = ap (λ (x : World Held). view z x) (run_one_more w ss s) ∙ T.leads

  pub reads_on : ReadsExactly z w (ss ++ s ∷ [])
  reads_on = record {
    reads = subst (ReadDirty first_flat) (sym (history_one_more w ss s))
        (reads_append (history w ss) (told_last u s) first_flat E.reads
        (subst (ReadDirty f) (sym told_is) (step_reads z (view z u) f a line p steps)));
    logs = subst (λ (v : View). LogsAreExact z v (after_all (history w (ss ++ s ∷ [])) first_flat)) (sym view_is)
        (subst (LogsAreExact z (stepped a line line.command p (view z u))) (sym behind_is)
        (exact_kept z (view z u) f a line p steps kept));
  }

-- ---- the start

-- No slot is there, and no line is under way.
reads_at_start : (z : Sizes) (lines : List Line) (w : World Held) → IsStart z lines w → ReadsExactly z w []
reads_at_start z lines w start = record {
  reads = tt;
  logs = record {
    bits = λ id gfn slot logged has marked.
        let none = none_live z w (word_in z w area.Slots 0) id start.words in let live = logged.live.live in absurd (cc (none, live));
    read = λ i gfn lt R. absurd (subst (λ (h : Held). HasReadPage (own_reading h) h gfn) (hand_is z lines w i start lt) R);
    taken = λ i gfn lt. subst (λ (h : Held). LeavesClear (own_reading h) h ((view z w).words area.Log) gfn) (sym (hand_is z lines w i start lt)) tt;
    due = λ i gfn lt begun dirty. absurd (subst (λ (h : Held). ReadingHasBegun (own_reading h)) (hand_is z lines w i start lt) begun);
    under = λ actor under. absurd (under refl);
  };
}

pub readings_alone_are_exact : ReadingsAloneAreExact
readings_alone_are_exact = record { starts = reads_at_start; goes_on = reads_on }
