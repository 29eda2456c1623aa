-- What a line has read of a dirty log in the end it may read.
use Rattle.std.proofs.Common.{List, ℕ, refl, sym, subst}
use Rattle.core_views.specs.declared.place.LogPlace.{LogPlace}
use Rattle.core_views.specs.declared.place.LogPlace.TheVariants.{Await, Peek}
use Rattle.core_views.specs.declared.place.Place.{Place}
use Rattle.core_views.specs.declared.place.Place.TheVariants as place
use Rattle.core_views.specs.declared.sizes.Sizes.{Sizes}
use Rattle.core_views.specs.declared.trace.Command.{Command}
use Rattle.core_views.specs.declared.trace.Line.{Line}
use Rattle.core_views.specs.declared.trace.Slot.{Slot as SlotOf}
use Rattle.core_views.specs.Flat.{Flat}
use Rattle.core_views.specs.Harvests.{IsHarvest}
use Rattle.core_views.specs.Held.{Held}
use Rattle.spte_words.specs.declared.area.Area.TheVariants as area
use Rattle.mmu_core.specs.forms.log.LogSteps.{frames_read, read_more, slot_asked}
use Rattle.mmu_core.specs.machine.View.{View, answer_in}
use Rattle.mmu_core.proofs.machine.Stepping.{IsStep}
use Rattle.std.specs.Prelude.{true, false}
use Rattle.mmu_laws.proofs.flat.BeginningsKept.{stands_at}
use Rattle.mmu_laws.proofs.flat.FlatKept.{ReadsWellOf}
use Rattle.mmu_laws.proofs.forms.log.LogAnswers.{ReadsWell}
use Rattle.mmu_laws.proofs.flat.LogsKept.{ReadyLogs}
use Rattle.mmu_laws.proofs.forms.log.ReadingBegins.{begun_flat}
use Rattle.mmu_laws.specs.forms.log.ReadSoFar.{HasReadTo}
use Rattle.mmu_laws.proofs.forms.log.ReadingSteps.{all_asked, first_peek, had, knows, last_word, may_read, next_peek, taken_flat}
use Rattle.mmu_core.specs.machine.Steps.{task_at}

module _ (z : Sizes) (v : View) (f : Flat) (a : ℕ) (line : Line) (command : Command) (ready : ReadyLogs z v f) where
  abbrev h : Held
  h = v.hand a

  abbrev slot : SlotOf
  slot = slot_asked h command

  abbrev log : ℕ → ℕ
  log = v.words area.Log

  abbrev IsMade : LogPlace → Type 0
  IsMade p = IsStep z v a line command (place.Log p)

  -- what the step of a place finds, and the flat state once the line has begun
  abbrev found : LogPlace → ℕ
  found p = answer_in (task_at (place.Log p) command h) v.words

  abbrev started : Flat
  started = begun_flat h.state.actor h.state.place line f

  -- What it reads in the end it may read.
  pub reads_well : (p : LogPlace) (S : IsMade p)
      → ReadsWell (place.Log p) h.state.actor command h (found p) started.facts started.past
  reads_well Await S = λ id reads.
      let K = knows z v f a line command (place.Log Await) command ready S Await refl in
      subst (λ q. IsHarvest started.facts (begun_flat h.state.actor q line f).past command id (frames_read slot command h.harvest))
      (sym (stands_at z v a line command (place.Log Await) S refl).at)
      (may_read z v f a line command (place.Log Await) command ready S Await refl K.2.0 true h.harvest f.past id reads K.3.asked (had z v f a line command
      (place.Log Await) command ready S Await refl refl))
  reads_well (Peek true) S = λ id reads last.
      let K = knows z v f a line command (place.Log (Peek true)) command ready S (Peek true) refl in
      let read : List ℕ = read_more true slot command h (found (Peek true)) in
      subst (λ q. IsHarvest started.facts (begun_flat h.state.actor q line f).past command id (frames_read slot command read))
      (sym (stands_at z v a line command (place.Log (Peek true)) S refl).at)
      (may_read z v f a line command (place.Log (Peek true)) command ready S (Peek true) refl K.1 false read f.past id reads (all_asked z v f a line command
      (place.Log (Peek true)) command ready S true refl last)
      (subst (λ n. HasReadTo log slot command false read n f.past) (last_word z v f a line command (place.Log (Peek true)) command ready S true K.3 last)
      (next_peek z v f a line command (place.Log (Peek true)) command ready S refl)))
  reads_well (Peek false) S = λ id reads last.
      let K = knows z v f a line command (place.Log (Peek false)) command ready S (Peek false) refl in
      let read : List ℕ = read_more false slot command h (found (Peek false)) in
      let g : Flat = taken_flat z v f a line command (place.Log (Peek false)) command ready S (Peek false) refl K.1 in
      may_read z v f a line command (place.Log (Peek false)) command ready S (Peek false) refl K.1 false read g.past id reads (all_asked z v f a line command
      (place.Log (Peek false)) command ready S false refl last)
      (subst (λ n. HasReadTo log slot command false read n g.past) (last_word z v f a line command (place.Log (Peek false)) command ready S false K.3 last)
      (first_peek z v f a line command (place.Log (Peek false)) command ready S refl))
  reads_well _ S = tt

-- So it is of a step at any place.
pub reads_well_at : (z : Sizes) (v : View) (f : Flat) (a : ℕ) (line : Line) (command : Command) (p : Place) → IsStep z v a line command p → ReadyLogs z v f
    → ReadsWellOf v a command p (begun_flat (v.hand a).state.actor (v.hand a).state.place line f)
reads_well_at z v f a line command (place.Log p) S ready = reads_well z v f a line command ready p S
reads_well_at z v f a line command _ S ready = tt
