-- A step of a line that reads a dirty log alone: what it has read after it is dirty, what it has taken out is clear, and what is dirty is due.
use Rattle.std.proofs.Common.{◌≡◌, ◌++◌, ◌∷◌, [], List, ℕ, refl, sym, subst, ap, ◌∙◌}
use Rattle.std.specs.Prelude.{Bool, true, false, not, ◌==◌, ◌&&◌, ◌||◌, nat_lt, if◌then◌else◌, Option, Some, None, is_some}
use Rattle.core_views.specs.declared.actor.Actor.{Actor}
use Rattle.core_views.specs.declared.event.Event.{Event}
use Rattle.core_views.specs.declared.event.EventKind.{EventKind}
use Rattle.core_views.specs.declared.event.EventKind.TheVariants.{Taken}
use Rattle.core_views.specs.declared.place.LogPlace.{LogPlace}
use Rattle.core_views.specs.declared.place.LogPlace.TheVariants.{AtOnce, Exclude, Take, Root, Await, Peek}
use Rattle.core_views.specs.declared.place.Place.{Place}
use Rattle.core_views.specs.declared.sizes.Sizes.{Sizes}
use Rattle.core_views.specs.declared.trace.Command.{Command}
use Rattle.core_views.specs.declared.trace.Line.{Line}
use Rattle.core_views.specs.Events.{after_all}
use Rattle.core_views.specs.Flat.{Flat}
use Rattle.core_views.specs.Held.{Held}
use Rattle.core_views.specs.Lawful.{IsLawful}
use Rattle.core_views.specs.LogCommands.{log_read, words_asked}
use Rattle.core_views.specs.Past.{FrameSet}
use Rattle.part_steps.specs.ControlBits.{has_to_flush}
use Rattle.mmu_core.specs.declared.log_next.LogNext.{LogNext}
use Rattle.mmu_core.specs.declared.log_next.LogNext.TheVariants as next
use Rattle.mmu_core.specs.lines.Delays.{leaves_to_fault, walks_again}
use Rattle.mmu_core.specs.lines.Forms.{outcome_at}
use Rattle.mmu_core.specs.forms.log.LogSteps.{awaits_last, frames_read, log_next, read_more, reads_last, slot_asked}
use Rattle.mmu_core.specs.forms.log.LogTells.{harvested, log_tells, shown, taken}
use Rattle.mmu_core.specs.machine.Outcomes.{answering}
use Rattle.mmu_core.specs.machine.Steps.{beginning, task_at}
use Rattle.mmu_core.specs.machine.View.{View, answer_in}
use Rattle.mmu_core.proofs.machine.Stepping.{IsStep}
use Rattle.mmu_laws.specs.forms.log.ReadingsAlone.{LogsAreExact}
use Rattle.mmu_core.specs.forms.log.Readings.{has_begun}
use Rattle.mmu_laws.proofs.alone.ArmedLogs.{LogsAreArmed}
use Rattle.mmu_laws.proofs.forms.log.ReadingDue.{NoneElse, taken_due}
use Rattle.mmu_laws.proofs.alone.ToldFlat.{begin_due, begin_pending, lawful_more, told_more}
use Rattle.mmu_laws.proofs.flat.FlatKept.{told_events}
use Rattle.mmu_laws.proofs.flat.LogsKept.{ReadyLogs}
use Rattle.mmu_laws.proofs.flat.Told.{told}
use Rattle.mmu_core.proofs.forms.log.ReadingPlaces.{GoesOnReading, reading_goes}
use Rattle.mmu_core.specs.declared.outcome.Outcome.{Outcome}
use Rattle.mmu_core.specs.forms.log.Readings.{Reading, reading_at}

-- A step of a line that is alone, of a view and the flat state that it stands for.
pub record StepsAlone (z : Sizes) (v : View) (f : Flat) (a : ℕ) (line : Line) (p : Place) : Type 0 where
  pub step : IsStep z v a line line.command p
  pub ready : ReadyLogs z v f
  pub idle : NoneElse z v a
  pub exact : LogsAreExact z v f
  pub armed : LogsAreArmed f
  pub lawful : IsLawful z f (told_events v a line line.command p)
  pub finds : (walks_again p && leaves_to_fault (outcome_at p line.command (v.hand a) (answer_in (task_at p line.command (v.hand a)) v.words))) ≡ false

-- ---- what such a step tells

-- Where the line goes on, the step tells nothing, and the line had begun to read if it has so then; or it tells that the line begins.
data GoesBy (p q : LogPlace) (command : Command) (kinds : List EventKind) : Type 0 where
  Silent : kinds ≡ [] → (has_begun q ≡ true → has_begun p ≡ true) → GoesBy p q command kinds
  Begins : (id : ℕ) → log_read command ≡ Some id → kinds ≡ Taken id ∷ [] → GoesBy p q command kinds

abbrev GoesTo : LogPlace → Command → List EventKind → LogNext → LogPlace → Type 0
GoesTo p command kinds n q = n ≡ next.Goes q → GoesBy p q command kinds

begins : (p q : LogPlace) (command : Command) (o : Option ℕ) → log_read command ≡ o → is_some o ≡ true → GoesBy p q command (taken o)
begins p q command None is reads = absurd (cc reads)
begins p q command (Some id) is reads = Begins id is refl

peek_begins : (q : LogPlace) (command : Command) (o : Option ℕ) → log_read command ≡ o → is_some o ≡ true → GoesBy (Peek false) q command (taken o ++ [])
peek_begins q command None is reads = absurd (cc reads)
peek_begins q command (Some id) is reads = Begins id is refl

goes_by : (p q : LogPlace) (command : Command) (h : Held) (x : ℕ) → is_some (log_read command) ≡ true
    → GoesTo p command (log_tells p command h x) (log_next p command h x) q
goes_by (AtOnce refusal) q command h x reads e = absurd (cc e)
goes_by Exclude q command h x reads e = by (x == 0) e
  where
    by : (b : Bool) → GoesTo Exclude command (if b then taken (log_read command) else [])
        (next.Goes (if b then (if nat_lt 0 (words_asked command (slot_asked h command)) then Take false else Root) else Exclude)) q
    by true e = begins Exclude q command (log_read command) refl reads
    by false e = let same : Exclude ≡ q = cc e in Silent refl (λ b. absurd (cc (b, ap has_begun (sym same))))
goes_by Await q command h x reads e = by (has_to_flush x || not (awaits_last h)) e
  where
    by : (b : Bool) → GoesTo Await command (if b then [] else harvested (log_read command) (frames_read (slot_asked h command) command h.harvest))
        (if b then next.Goes Await else next.Reads) q
    by true e = Silent refl (λ b. refl)
    by false e = absurd (cc e)
goes_by (Peek begun) q command h x reads e = by begun (reads_last begun (slot_asked h command) command h.topics) e
  where
    by : (b last : Bool) → GoesTo (Peek b) command ((if b then [] else taken (log_read command))
        ++ (if last then shown (log_read command) (frames_read (slot_asked h command) command (read_more begun (slot_asked h command) command h x)) else []))
        (if last then next.Reads else next.Goes (Peek true)) q
    by b true e = absurd (cc e)
    by true false e = Silent refl (λ b. refl)
    by false false e = peek_begins q command (log_read command) refl reads
goes_by _ q command h x reads e = Silent refl (λ b. refl)

-- ---- the flat state after it, where the line goes on

module _ (z : Sizes) (v : View) (f : Flat) (a : ℕ) (line : Line) (p : Place) (r : Reading) (X : StepsAlone z v f a line p)
    (at : reading_at p line.command (v.hand a) ≡ Some r) (reads : is_some (log_read r.command) ≡ true) where
  abbrev h : Held
  h = v.hand a

  abbrev x : ℕ
  x = answer_in (task_at p line.command h) v.words

  abbrev actor : Actor
  actor = h.state.actor

  abbrev first : List EventKind
  first = beginning h.state.place line

  abbrev behind : Flat
  behind = after_all (told_events v a line line.command p) f

  -- It has the same dirty frames, and if the line has begun to read, each of them is due.
  pub record GoesStill (q : LogPlace) : Type 0 where
    pub pending : behind.facts.pending ≡ f.facts.pending
    pub due : has_begun q ≡ true → (gfn : ℕ) → behind.facts.pending gfn ≡ true → behind.past.due gfn ≡ true

  abbrev IsTold : LogPlace → Flat → Type 0
  IsTold q g = (g.facts.pending ≡ f.facts.pending) × (has_begun q ≡ true → (gfn : ℕ) → g.facts.pending gfn ≡ true → g.past.due gfn ≡ true)

  abbrev Told : LogPlace → List EventKind → Type 0
  Told q kinds = IsTold q (after_all (told actor (first ++ (kinds ++ []))) f)

  abbrev begun_flat : Flat
  begun_flat = after_all (told actor first) f

  first_pending : begun_flat.facts.pending ≡ f.facts.pending
  first_pending = begin_pending actor h.state.place line f

  silent : (q : LogPlace) → (has_begun q ≡ true → has_begun r.place ≡ true)
      → (has_begun r.place ≡ true → (gfn : ℕ) → f.facts.pending gfn ≡ true → f.past.due gfn ≡ true)
      → Told q []
  silent q back due =
      let dues : (begun_flat.past.due ≡ f.past.due) = begin_due actor h.state.place line f in
      subst (IsTold q) (sym (told_more actor first ([] ++ []) f))
      (first_pending, λ b gfn is. ap (λ (d : FrameSet). d gfn) dues ∙ due (back b) gfn (sym (ap (λ (s : FrameSet). s gfn) first_pending) ∙ is))

  begins_now : (q : LogPlace) (id : ℕ) → IsLawful z f (told actor (first ++ (Taken id ∷ []))) → Told q (Taken id ∷ [])
  begins_now q id lawful =
      let parts = lawful_more z actor first (Taken id ∷ []) f lawful in
      subst (IsTold q) (sym (told_more actor first (Taken id ∷ []) f))
      (first_pending, λ b gfn is. taken_due z v f a X.ready.flat X.exact X.idle first id X.ready.lines parts.0 parts.1.0 gfn is)

  pub goes_still : (q : LogPlace) → log_next r.place r.command h x ≡ next.Goes q
      → (has_begun r.place ≡ true → (gfn : ℕ) → f.facts.pending gfn ≡ true → f.past.due gfn ≡ true) → GoesStill q
  goes_still q is due = by (goes_by r.place q r.command h x reads is)
    where
      kinds : List EventKind
      kinds = log_tells r.place r.command h x

      N : GoesOnReading p line.command h x r q
      N = reading_goes p line.command h x r q at is

      told_is : told_events v a line line.command p ≡ told actor (first ++ (kinds ++ []))
      told_is =
          ap (λ (told_ : List EventKind). told actor (first ++ (told_ ++ answering (outcome_at p line.command h x) line))) N.tells
          ∙ ap (λ (o : Outcome). told actor (first ++ (kinds ++ answering o line))) N.goes

      still : Told q kinds → GoesStill q
      still T =
          let G = subst (λ (es : List Event). IsTold q (after_all es f)) (sym told_is) T in
          record { pending = G.0; due = G.1 }

      by : GoesBy r.place q r.command (log_tells r.place r.command h x) → GoesStill q
      by (Silent none back) = still (subst (Told q) (sym none) (silent q back due))
      by (Begins id reads_it one) =
          still (subst (Told q) (sym one) (begins_now q id
          (subst (λ (ks : List EventKind). IsLawful z f (told actor (first ++ (ks ++ [])))) one (subst (IsLawful z f) told_is X.lawful))))
