-- The hand that a step of a line makes which reads a dirty log.
use Rattle.std.specs.Prelude.{Bool, true, false, ◌||◌, ◌&&◌}
use Rattle.std.proofs.Common.{◌≡◌, ◌≢◌, ℕ, List, [], ◌∷◌, ◌++◌, length, refl, sym, ap, ◌∙◌}
use Rattle.core_views.specs.declared.answer.Answer.{Answer}
use Rattle.core_views.specs.declared.answer.Answer.TheVariants.{Bits, Refused}
use Rattle.core_views.specs.declared.answer.AnsweredLine.{AnsweredLine}
use Rattle.core_views.specs.declared.answer.Refusal.{Refusal}
use Rattle.core_views.specs.declared.cache.Translation.{Translation}
use Rattle.core_views.specs.declared.place.LogPlace.{LogPlace}
use Rattle.core_views.specs.declared.place.Place.{Place}
use Rattle.core_views.specs.declared.place.Place.TheVariants as place
use Rattle.core_views.specs.declared.trace.Command.{Command}
use Rattle.core_views.specs.declared.trace.Line.{Line}
use Rattle.core_views.specs.Held.{Held, answered, next_line, progress_of, state_of}
use Rattle.mmu_core.specs.declared.log_next.LogNext.{LogNext}
use Rattle.mmu_core.specs.declared.log_next.LogNext.TheVariants as next
use Rattle.mmu_core.specs.lines.Delays.{counted, delays_counted, line_waits, steps_counted}
use Rattle.mmu_core.specs.forms.log.LogOutcomes.{after_log, harvest_after}
use Rattle.mmu_core.specs.forms.log.LogSteps.{log_next, log_reads}
use Rattle.mmu_core.specs.lines.Forms.{reads_at}
use Rattle.mmu_core.specs.machine.Outcomes.{answers_after, place_after}
use Rattle.mmu_core.specs.machine.Steps.{line_after}
use Rattle.mmu_steps.proofs.LineMade.{line_ends}

-- What was read stays where the line reads no log.
pub reads_same : (p : Place) (command : Command) (h : Held) (v : ℕ) → ((q : LogPlace) → p ≢ place.Log q) → reads_at p command h v ≡ h.harvest
reads_same (place.Log p) command h v other = absurd (other p refl)
reads_same _ command h v other = refl

-- The hand with its line at this place, which uses this translation and has counted so many steps and delays.
abbrev pub stands_at : Held → Place → Translation → ℕ → ℕ → Held
stands_at f q used steps delays =
    record f { state = state_of (record (progress_of f.state) { place = q; used = used; steps = steps; delays = delays }) f.lines (length f.answers) }

module _ (h f : Held) (line : Line) (p : LogPlace) (v : ℕ) (n : LogNext) (delay : Bool) (steps delays : ℕ) (used : Translation)
    (line_is : line ≡ next_line h) (next_is : n ≡ log_next p line.command h v) (delay_is : delay ≡ line_waits (place.Log p) line.command h v)
    (steps_is : steps ≡ steps_counted delay (counted h.state.place h.state.steps))
    (delays_is : delays ≡ delays_counted delay (counted h.state.place h.state.delays)) (used_is : used ≡ h.state.used)
    (read : f ≡ record h { harvest = log_reads p (next_line h).command h v }) where
  abbrev words : List ℕ
  words = log_reads p (next_line h).command h v

  -- after what it comes to, counted so
  abbrev after : LogNext → Bool → Held
  after m waits = record {
    state = record {
      sizes = h.state.sizes;
      actor = h.state.actor;
      place = place_after (after_log m words);
      line = next_line h;
      used = h.state.used;
      steps = steps_counted waits (counted h.state.place h.state.steps);
      delays = delays_counted waits (counted h.state.place h.state.delays);
    };
    topics = h.topics;
    cached = h.cached;
    slots = h.slots;
    harvest = harvest_after m words;
    lines = h.lines;
    answers = answers_after (after_log m words) (next_line h) h.answers;
  }

  or_none : (b : Bool) → b ≡ (b || (false || (false && false)))
  or_none true = refl
  or_none false = refl

  is_after : after n delay ≡ line_after (next_line h) (place.Log p) h v
  is_after =
      ap (λ m. after m delay) (next_is ∙ ap (λ (l : Line). log_next p l.command h v) line_is)
      ∙ ap (after (log_next p (next_line h).command h v))
      (delay_is ∙ ap (λ (l : Line). line_waits (place.Log p) l.command h v) line_is ∙ or_none (line_waits (place.Log p) (next_line h).command h v))

  stood : (q : Place) (words : List ℕ)
      → stands_at (record h { harvest = words }) q used steps delays
      ≡ stands_at (record h { harvest = words }) q h.state.used (steps_counted delay (counted h.state.place h.state.steps))
      (delays_counted delay (counted h.state.place h.state.delays))
  stood q words =
      ap (λ x. stands_at (record h { harvest = words }) q x steps delays) used_is
      ∙ ap (λ x. stands_at (record h { harvest = words }) q h.state.used x delays) steps_is
      ∙ ap (λ x. stands_at (record h { harvest = words }) q h.state.used (steps_counted delay (counted h.state.place h.state.steps)) x) delays_is

  pub log_goes : (q : LogPlace) → n ≡ next.Goes q → stands_at f (place.Log q) used steps delays ≡ line_after (next_line h) (place.Log p) h v
  log_goes q is =
      ap (λ (x : Held). stands_at x (place.Log q) used steps delays) read ∙ stood (place.Log q) words ∙ ap (λ m. after m delay) (sym is) ∙ is_after

  -- answered so, after the answers before it
  abbrev ended : Answer → Line → Line → Held
  ended answer under line = record {
    state = record {
      sizes = h.state.sizes;
      actor = h.state.actor;
      place = place.Between;
      line = under;
      used = h.state.used;
      steps = steps_counted delay (counted h.state.place h.state.steps);
      delays = delays_counted delay (counted h.state.place h.state.delays);
    };
    topics = h.topics;
    cached = h.cached;
    slots = h.slots;
    harvest = [];
    lines = h.lines;
    answers = h.answers ++ record { number = line.number; actor = line.actor; answer = answer } ∷ [];
  }

  abbrev last : Answer → AnsweredLine
  last answer = record { number = line.number; actor = line.actor; answer = answer }

  answers_so : (answer : Answer) (words : List ℕ)
      → record (answered (last answer) (stands_at (record h { harvest = words }) place.Between used steps delays)) { harvest = [] }
      ≡ ended answer (next_line h) (next_line h)
  answers_so answer words =
      ap (λ (x : Held). record (answered (last answer) x) { harvest = [] }) (stood place.Between words)
      ∙ ap (λ (l : Line). ended answer l line) (line_ends h (last answer))
      ∙ ap (ended answer (next_line h)) line_is

  pub log_refused : (refusal : Refusal) → n ≡ next.Refused refusal
      → answered (last (Refused refusal)) (stands_at (record f { harvest = [] }) place.Between used steps delays)
      ≡ line_after (next_line h) (place.Log p) h v
  log_refused refusal is =
      ap (λ (x : Held). answered (last (Refused refusal)) (stands_at (record x { harvest = [] }) place.Between used steps delays)) read
      ∙ answers_so (Refused refusal) [] ∙ ap (λ m. after m delay) (sym is) ∙ is_after

  pub log_answered : n ≡ next.Reads
      → record (answered (last (Bits f.harvest)) (stands_at f place.Between used steps delays)) { harvest = [] } ≡ line_after (next_line h) (place.Log p) h v
  log_answered is =
      ap (λ (x : Held). record (answered (last (Bits x.harvest)) (stands_at x place.Between used steps delays)) { harvest = [] }) read
      ∙ answers_so (Bits words) words ∙ ap (λ m. after m delay) (sym is) ∙ is_after
