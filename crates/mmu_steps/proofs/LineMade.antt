-- The hand that a line's step makes, field by field.
use Rattle.std.specs.Prelude.{◌≢◌, Bool, ◌&&◌, ◌||◌}
use Rattle.std.proofs.Common.{◌≡◌, ℕ, suc, List, [], ◌∷◌, ◌++◌, length, refl, sym, ap, ◌∙◌, arith}
use Rattle.std.proofs.lemmas.List.{length_push}
use Rattle.circular_buffer.specs.Buffer.{Buffer}
use Rattle.core_views.specs.declared.actor.Actor.{Actor}
use Rattle.core_views.specs.declared.answer.AnsweredLine.{AnsweredLine}
use Rattle.core_views.specs.declared.cache.Translation.{Translation}
use Rattle.core_views.specs.declared.place.AccessPlace.{AccessPlace}
use Rattle.core_views.specs.declared.place.AccessPlace.TheVariants.{Enter}
use Rattle.core_views.specs.declared.place.Place.{Place}
use Rattle.core_views.specs.declared.place.Place.TheVariants as place
use Rattle.core_views.specs.declared.sizes.Sizes.{Sizes}
use Rattle.core_views.specs.declared.trace.Command.{Command}
use Rattle.core_views.specs.declared.trace.Command.TheVariants.{Access}
use Rattle.core_views.specs.declared.trace.Line.{Line}
use Rattle.core_views.specs.declared.trace.Op.{Op}
use Rattle.core_views.specs.declared.progress.Progress.{Progress}
use Rattle.core_views.specs.Held.{Held, line_under, next_line, progress_of}
use Rattle.core_views.specs.SlotSets.{MemorySlots}
use Rattle.mmu_core.specs.declared.outcome.Outcome.{Outcome}
use Rattle.mmu_core.specs.forms.access.AccessSteps.{access_caches}
use Rattle.mmu_core.specs.lines.Delays.{begins_anew, counted, delays_counted, is_delay, leaves_to_fault, line_waits, steps_counted, walks_again}
use Rattle.mmu_core.specs.lines.Rests.{IsUnderWay}
use Rattle.mmu_core.specs.machine.Steps.{delays_at, line_after}
use Rattle.mmu_core.specs.lines.Forms.{caches_at, loads_at, outcome_at, reads_at, records_at}
use Rattle.mmu_core.specs.machine.Outcomes.{answers_after, place_after}
use Rattle.mmu_core.proofs.machine.HandAfter.{IsSameState, loads_same}

-- What is cached doesn't hang on the record of slots.
abbrev pub with_slots : Held → MemorySlots → Held
with_slots h slots = record { state = h.state; topics = h.topics; cached = h.cached; slots = slots; harvest = h.harvest; lines = h.lines; answers = h.answers }

access_caches_same : (p : AccessPlace) (h : Held) (slots : MemorySlots) (gfn : ℕ) (op : Op) (v : ℕ)
    → access_caches p (with_slots h slots) gfn op v ≡ access_caches p h gfn op v
access_caches_same (Enter again) h slots gfn op v = refl
access_caches_same _ h slots gfn op v = refl

caches_same : (p : Place) (command : Command) (h : Held) (slots : MemorySlots) (v : ℕ) → caches_at p command (with_slots h slots) v ≡ caches_at p command h v
caches_same (place.Access p) (Access gfn word op) h slots v = access_caches_same p h slots gfn op v
caches_same _ _ h slots v = refl

abbrev pub placed : Progress → Place → Line → Translation → ℕ → ℕ → Held → List AnsweredLine → Held
placed s q line used steps delays f answers = record {
  state = record { sizes = s.sizes; actor = s.actor; place = q; line = line; used = used; steps = steps; delays = delays };
  topics = f.topics;
  cached = f.cached;
  slots = f.slots;
  harvest = f.harvest;
  lines = f.lines;
  answers = answers;
}

abbrev pub with_cached : Held → Buffer Translation → MemorySlots → Held
with_cached h c slots = record { state = h.state; topics = h.topics; cached = c; slots = slots; harvest = h.harvest; lines = h.lines; answers = h.answers }

-- what was counted after a step that is a delay, or none
abbrev steps_behind : Held → Bool → ℕ
steps_behind h delay = steps_counted delay (counted h.state.place h.state.steps)

abbrev delays_behind : Held → Bool → ℕ
delays_behind h delay = delays_counted delay (counted h.state.place h.state.delays)

pub line_made : (h f : Held) (line : Line) (p q : Place) (l : Line) (v : ℕ) (used : Translation) (slots : MemorySlots) (o : Outcome)
    (delay : Bool) (steps delays : ℕ) (answers : List AnsweredLine)
    → o ≡ outcome_at p line.command h v → used ≡ (loads_at p line.command h v).used
    → delay ≡ is_delay p line.command h o v → steps ≡ steps_behind h delay → delays ≡ delays_behind h delay
    → slots ≡ records_at p line.command h.slots → f ≡ with_cached h (caches_at p line.command (with_slots h slots) v) slots
    → q ≡ place_after o → answers ≡ answers_after o line h.answers → l ≡ line → reads_at p line.command h v ≡ h.harvest
    → placed (progress_of f.state) q l used steps delays f answers ≡ line_after line p h v
line_made h f line p q l v used slots o delay steps delays answers o_is used_is delay_is steps_is delays_is slots_is f_is q_is answers_is line_is reads =
    let same : IsSameState h.state (loads_at p line.command h v) = loads_same p line.command h v in
    let same_delay : delay ≡ delays_at p line.command h v = delay_is ∙ ap (λ (x : Outcome). is_delay p line.command h x v) o_is in
    ap (λ (x : Line). placed (progress_of f.state) q x used steps delays f answers) line_is
    ∙ ap (λ x. placed (progress_of f.state) q line used x delays f answers) (steps_is ∙ ap (steps_behind h) same_delay)
    ∙ ap (λ x. placed (progress_of f.state) q line used made x f answers) (delays_is ∙ ap (delays_behind h) same_delay)
    ∙ ap (λ (x : Held). placed (progress_of x.state) q line used made waits x answers) f_is
    ∙ ap (λ (c : Buffer Translation). placed (progress_of h.state) q line used made waits (with_cached h c slots) answers)
    (caches_same p line.command h slots v)
    ∙ ap (λ (x : MemorySlots). placed (progress_of h.state) q line used made waits (with_cached h (caches_at p line.command h v) x) answers) slots_is
    ∙ ap (λ (x : Translation). placed (progress_of h.state) q line x made waits cached answers) used_is
    ∙ ap (λ (x : Sizes). placed (progress_of (record h.state { sizes = x })) q line (loads_at p line.command h v).used made waits cached answers)
    (sym same.sizes)
    ∙ ap (λ (x : Actor). placed (progress_of (record (loads_at p line.command h v) { actor = x })) q line (loads_at p line.command h v).used made waits cached
    answers) (sym same.actor)
    ∙ ap (λ (x : Place). placed (progress_of (loads_at p line.command h v)) x line (loads_at p line.command h v).used made waits cached answers) (q_is
    ∙ ap place_after o_is)
    ∙ ap (λ (x : List AnsweredLine). placed (progress_of (loads_at p line.command h v)) (place_after (outcome_at p line.command h v)) line
    (loads_at p line.command h v).used made waits cached x)
    (answers_is ∙ ap (λ (x : Outcome). answers_after x line h.answers) o_is)
    ∙ ap (λ (words : List ℕ). record (line_after line p h v) { harvest = words }) (sym reads)
  where
    made : ℕ
    made = steps_behind h (delays_at p line.command h v)

    waits : ℕ
    waits = delays_behind h (delays_at p line.command h v)

    cached : Held
    cached = with_cached h (caches_at p line.command h v) (records_at p line.command h.slots)

-- The step is a delay of its line where it waits, by the line's own command.
pub delay_is : (p : Place) (c d : Command) (h : Held) (o : Outcome) (v : ℕ) (waits delay : Bool) → c ≡ d → waits ≡ line_waits p d h v
    → delay ≡ (waits || (begins_anew p || (walks_again p && leaves_to_fault o))) → delay ≡ is_delay p c h o v
delay_is p c d h o v waits delay same waits_is is =
    is ∙ ap (λ (b : Bool). b || (begins_anew p || (walks_again p && leaves_to_fault o))) (waits_is ∙ ap (λ (x : Command). line_waits p x h v) (sym same))

-- The line that a hand has under way, or has answered last, is the one that the step was of.
pub line_goes : (q : Place) (h : Held) → IsUnderWay q → line_under q h.lines (length h.answers) ≡ next_line h
line_goes place.Between h under = absurd under
line_goes _ h under = refl

pub line_ends : (h : Held) (answer : AnsweredLine) → line_under place.Between h.lines (length (h.answers ++ answer ∷ [])) ≡ next_line h
line_ends h answer =
    let more : length (h.answers ++ answer ∷ []) ≡ suc (length h.answers) = length_push h.answers answer ∙ omega arith in
    ap (λ n. line_under place.Between h.lines n) more

-- A step at no place of an access caches nothing, and its line uses what it used.
caches_none : (p : Place) (command : Command) (h : Held) (v : ℕ) → ((q : AccessPlace) → p ≢ place.Access q) → caches_at p command h v ≡ h.cached
caches_none (place.Access p) command h v none = absurd (none p refl)
caches_none _ command h v none = refl

pub loads_none : (p : Place) (command : Command) (h : Held) (v : ℕ) → ((q : AccessPlace) → p ≢ place.Access q)
    → h.state.used ≡ (loads_at p command h v).used
loads_none (place.Access p) command h v none = absurd (none p refl)
loads_none _ command h v none = refl

-- The hand once its record has changed, which it has line by line.
pub recorded_is : (h g : Held) (line : Line) (p : Place) (v : ℕ) → line ≡ next_line h → ((q : AccessPlace) → p ≢ place.Access q)
    → g ≡ record h { slots = records_at p (next_line h).command h.slots }
    → g ≡ with_cached h (caches_at p line.command (with_slots h (records_at p line.command h.slots)) v) (records_at p line.command h.slots)
recorded_is h g line p v line_is none recorded =
    recorded ∙ (ap (λ (l : Line). record h { slots = records_at p l.command h.slots }) (sym line_is)
    ∙ ap (λ (c : Buffer Translation). with_cached h c (records_at p line.command h.slots))
    (sym (caches_none p line.command (with_slots h (records_at p line.command h.slots)) v none)))
