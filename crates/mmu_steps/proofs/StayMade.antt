-- The hand that a step of an access makes, by where the line goes on; and which steps of a fault are delays.
use Rattle.std.specs.Prelude.{Bool, true, false, ◌&&◌, ◌||◌}
use Rattle.std.proofs.Common.{◌≡◌, ◌≢◌, ℕ, refl, sym, subst, ap, ◌∙◌}
use Rattle.circular_buffer.specs.Buffer.{Buffer}
use Rattle.core_views.specs.declared.cache.Translation.{Translation}
use Rattle.core_views.specs.declared.place.AccessPlace.{AccessPlace}
use Rattle.core_views.specs.declared.place.AccessPlace.TheVariants.{Fault}
use Rattle.core_views.specs.declared.place.FaultNext.TheVariants as next_of
use Rattle.core_views.specs.declared.place.FaultPlace.{FaultPlace}
use Rattle.core_views.specs.declared.place.FaultPlace.TheVariants as fault
use Rattle.core_views.specs.declared.sizes.Sizes.{Sizes}
use Rattle.core_views.specs.declared.topics.Topics.{Topics}
use Rattle.core_views.specs.declared.place.Place.TheVariants as place
use Rattle.core_views.specs.declared.trace.Command.{Command}
use Rattle.core_views.specs.declared.trace.Command.TheVariants.{Access}
use Rattle.core_views.specs.declared.trace.Line.{Line}
use Rattle.core_views.specs.declared.trace.Op.{Op}
use Rattle.core_views.specs.Held.{Held, next_line}
use Rattle.mmu_core.specs.declared.outcome.Outcome.{Outcome}
use Rattle.mmu_core.specs.declared.outcome.Outcome.TheVariants.{Goes}
use Rattle.mmu_core.specs.forms.access.AccessSteps.{access_caches, access_loads, access_outcome}
use Rattle.mmu_core.specs.forms.access.FaultSteps.{fault_next}
use Rattle.mmu_core.specs.lines.Delays.{begins_anew, counted, delays_counted, is_delay, leaves_to_fault, line_waits, steps_counted}
use Rattle.mmu_core.specs.lines.Forms.{RestsAt, caches_at, loads_at, outcome_at}
use Rattle.mmu_core.specs.lines.Rests.{Rests}
use Rattle.mmu_core.specs.machine.Steps.{line_after, line_at, place_at}
use Rattle.mmu_steps.specs.Goes.{gone}
use Rattle.mmu_steps.proofs.LineMade.{line_made, with_slots}

abbrev pub with_cache : Held → Buffer Translation → Held
with_cache h cached = record h { cached = cached }

module _ (h : Held) (line : Line) (gfn word : ℕ) (op : Op) (v : ℕ) (next_is : line ≡ next_line h) (command_is : line.command ≡ Access gfn word op)
    (p : AccessPlace) where
  of_line {ℓ} : {A : Type ℓ} → (f : Command → A) → f (Access gfn word op) ≡ f line.command
  of_line f = ap f (sym command_is)

  -- It goes on to q.
  pub goes : (q : AccessPlace) (used : Translation) (cached : Buffer Translation) (delay : Bool) (x : Held)
      → access_outcome p h gfn op v ≡ Goes (place.Access q) → used ≡ (access_loads p h gfn op v).used → cached ≡ access_caches p h gfn op v
      → delay ≡ is_delay (place.Access p) (Access gfn word op) h (Goes (place.Access q)) v
      → x ≡ gone (with_cache h cached) (place.Access q) used delay → x ≡ line_after (next_line h) (place.Access p) h v
  goes q used cached delay x outcome_is used_is cached_is delay_is is =
      is ∙ line_made h (with_cache h cached) line (place.Access p) (place.Access q) (next_line h) v used h.slots (Goes (place.Access q)) delay
      (steps_counted delay (counted h.state.place h.state.steps)) (delays_counted delay (counted h.state.place h.state.delays)) h.answers
      (sym outcome_is ∙ of_line (λ c. outcome_at (place.Access p) c h v))
      (used_is ∙ of_line (λ c. (loads_at (place.Access p) c h v).used))
      (delay_is ∙ of_line (λ c. is_delay (place.Access p) c h (Goes (place.Access q)) v)) refl refl refl
      (ap (with_cache h) (cached_is ∙ of_line (λ c. caches_at (place.Access p) c (with_slots h h.slots) v))) refl refl (sym next_is) refl
      ∙ ap (λ (l : Line). line_after l (place.Access p) h v) next_is

-- A step of a fault that goes on doesn't begin anew, so it is a delay where it waits.
not_anew : (p : FaultPlace) (z : Sizes) (gfn : ℕ) (write : Bool) (t : Topics) (v : ℕ) (q : FaultPlace) → fault_next p z gfn write t v ≡ next_of.Goes q
    → begins_anew (place.Access (Fault p)) ≡ false
not_anew (fault.End e) z gfn write t v q is = absurd (cc is)
not_anew _ z gfn write t v q is = refl

or_none : (w : Bool) → w ≡ (w || (false || (false && false)))
or_none true = refl
or_none false = refl

pub fault_delay : (p : FaultPlace) (command : Command) (h : Held) (gfn : ℕ) (write : Bool) (v : ℕ) (q : FaultPlace) (o : Outcome) (waits : Bool)
    → waits ≡ line_waits (place.Access (Fault p)) command h v → fault_next p h.state.sizes gfn write h.topics v ≡ next_of.Goes q
    → waits ≡ is_delay (place.Access (Fault p)) command h o v
fault_delay p command h gfn write v q o waits waits_is is =
    or_none waits ∙ ap (λ (w : Bool). w || (false || (false && false))) waits_is
    ∙ ap (λ (b : Bool). line_waits (place.Access (Fault p)) command h v || (b || (false && leaves_to_fault o)))
    (sym (not_anew p h.state.sizes gfn write h.topics v q is))

-- A line that is no access stands at no place of one.
pub no_access : (h : Held) → Rests h → ((gfn word : ℕ) (op : Op) → (line_at h.state.place h).command ≢ Access gfn word op)
    → (p : AccessPlace) → place_at h.state.place h ≢ place.Access p
no_access h R none p is = by (line_at h.state.place h).command none (subst (λ q. RestsAt q (line_at h.state.place h).command h) is R.at)
  where
    by : (c : Command) → ((gfn word : ℕ) (op : Op) → c ≢ Access gfn word op) → RestsAt (place.Access p) c h → ⊥
    by (Access gfn word op) none N = none gfn word op refl
    by _ none N = N
