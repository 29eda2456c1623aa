-- Which hands are to begin a log for flat memory: after a step that publishes nothing only those that were so before it, and the manager's alone.
use Rattle.std.proofs.Common.{◌≡◌, inl, inr, ◌<◌, ◌++◌, [], ℕ, List, refl, sym, subst, ap, ◌∙◌}
use Rattle.std.specs.Prelude.{Bool, true, false}
use Rattle.core_views.specs.declared.actor.Actor.TheVariants.{Manager}
use Rattle.core_views.specs.declared.event.EventKind.{EventKind}
use Rattle.core_views.specs.declared.place.Place.{Place}
use Rattle.core_views.specs.declared.place.Place.TheVariants as place
use Rattle.core_views.specs.declared.place.SlotChangePlace.TheVariants as change
use Rattle.core_views.specs.declared.sizes.Sizes.{Sizes}
use Rattle.core_views.specs.declared.trace.Command.{Command}
use Rattle.core_views.specs.declared.trace.Line.{Line}
use Rattle.core_views.specs.Held.{Held}
use Rattle.core_views.specs.LogCommands.{is_all_set}
use Rattle.core_views.specs.Sizes.{actors_of}
use Rattle.core_views.specs.SlotCommands.{slot_armed}
use Rattle.core_views.specs.SlotSets.{MemorySlots}
use Rattle.mmu_core.specs.invariant.Invariant.{Invariant, KnowsPart}
use Rattle.mmu_core.specs.lines.Forms.{is_first, outcome_at, records_at}
use Rattle.mmu_core.proofs.lines.Forms.{begins_first}
use Rattle.mmu_core.specs.lines.Rests.{IsUnderWay}
use Rattle.mmu_core.specs.machine.Outcomes.{place_after}
use Rattle.mmu_core.specs.machine.Steps.{beginning, line_at, place_at, task_at}
use Rattle.mmu_core.specs.machine.View.{View, answer_in, hand_after, stepped}
use Rattle.mmu_core.proofs.lines.LinesKept.{one_manager}
use Rattle.mmu_core.proofs.machine.Columns.{at_upd}
use Rattle.mmu_core.proofs.machine.HandAfter.{loads_same}
use Rattle.mmu_core.proofs.machine.Stepping.{IsStep}
use Rattle.mmu_core.proofs.forms.slot_change.SlotChangeKept.{change_hand}
use Rattle.log_invariant.specs.forms.slot_change.LogBegins.{LogIsUnwatchedAt, begun_at}
use Rattle.core_views.specs.declared.topics.Topics.{Topics}
use Rattle.log_invariant.proofs.StepPlaces.{publishes}
use Rattle.mmu_laws.specs.flat.FlatLogs.{IsBeginning}
use Rattle.mmu_laws.proofs.flat.FlatKept.{told_events, told_kinds}
use Rattle.mmu_laws.proofs.flat.Told.{told}
use Rattle.mmu_laws.proofs.flat.LogBeginnings.{BeginsAt, begins_before, may_begin, none_begins}

-- ---- where a line stands

-- The hand's line is under way, at the place.
pub record StandsAt (h : Held) (line : Line) (command : Command) (p : Place) : Type 0 where
  pub at : h.state.place ≡ p
  pub line_is : h.state.line ≡ line
  pub command_is : h.state.line.command ≡ command

-- So is a line that makes a step at a place where none begins.
pub stands_at : (z : Sizes) (v : View) (a : ℕ) (line : Line) (command : Command) (p : Place) → IsStep z v a line command p → is_first p ≡ false
    → StandsAt (v.hand a) line command p
stands_at z v a line command p S later = by (v.hand a).state.place refl S.place_is S.line_is
  where
    h : Held
    h = v.hand a

    by : (q : Place) → h.state.place ≡ q → place_at q h ≡ p → line ≡ line_at q h → StandsAt h line command p
    by place.Between e is own =
        let first = begins_first h.state.sizes h.slots (line_at place.Between h).command in
        let same : is_first p ≡ true = sym (ap is_first is) ∙ first in absurd (cc (later, same))
    by _ e is own = record { at = e ∙ is; line_is = sym own; command_is = ap (λ (l : Line). l.command) (sym own) ∙ S.command_is }

-- It tells no begin of its line.
no_begin : (p : Place) (line : Line) → IsUnderWay p → beginning p line ≡ []
no_begin place.Between line under = absurd under
no_begin _ line under = refl

pub told_later : (z : Sizes) (v : View) (a : ℕ) (line : Line) (command : Command) (p : Place) → IsStep z v a line command p → is_first p ≡ false
    → told_events v a line command p ≡ told (v.hand a).state.actor (told_kinds v a line command p)
told_later z v a line command p S later =
    ap (λ (kinds : List EventKind). told (v.hand a).state.actor (kinds ++ told_kinds v a line command p))
    (ap (λ q. beginning q line) (stands_at z v a line command p S later).at ∙ no_begin p line S.begun)

-- ---- the hand after a step

records_same : (p : Place) (command : Command) (slots : MemorySlots) → publishes p ≡ false → records_at p command slots ≡ slots
records_same (place.SlotChange change.Publish) command slots never = absurd (cc never)
records_same (place.SlotChange p) command slots never = refl
records_same _ command slots never = refl

opens_same : (q : Place) (c d : Command) (g h : Held) (gfn : ℕ) → c ≡ d → g.slots ≡ h.slots → LogIsUnwatchedAt q c g gfn → LogIsUnwatchedAt q d h gfn
opens_same (place.SlotChange p) c d g h gfn said same o =
    (o.0, o.1, ap (slot_armed h.slots) (sym said) ∙ ap (λ (slots : MemorySlots). slot_armed slots c) (sym same) ∙ o.2, o.3)
opens_same _ c d g h gfn said same o = absurd o

-- Of which frames a log begins doesn't depend on what is held.
begun_same : (q : Place) (t u : Topics) (gfn : ℕ) → (begun_at q t).Has gfn → (begun_at q u).Has gfn
begun_same (place.SlotChange (change.WriteProtect range p)) t u gfn has = has
begun_same _ t u gfn has = absurd has

-- A hand that opens a log, or forbids writes, by its place and what it is said to hold.
pub begins_same : (q : Place) (c d : Command) (g h : Held) (gfn : ℕ) → c ≡ d → g.slots ≡ h.slots → g.state.sizes ≡ h.state.sizes → BeginsAt q c g gfn
    → BeginsAt q d h gfn
begins_same q c d g h gfn said same sizes (inl o) =
    inl (opens_same q c d g h gfn said same o.0, ap (λ (y : Sizes). is_all_set y.mode) (sym sizes) ∙ o.1)
begins_same q c d g h gfn said same sizes (inr has) = inr (begun_same q g.topics h.topics gfn has)

-- A line that is to begin a log stands where none begins.
begins_later : (p : Place) → may_begin p ≡ true → is_first p ≡ false
begins_later (place.SlotChange (change.WriteProtect range p)) may = refl
begins_later (place.SlotChange change.Release) may = refl
begins_later (place.SlotChange (change.End p)) may = refl
begins_later (place.SlotChange change.Watch) may = refl
begins_later (place.SlotChange p) may = absurd (cc may)
begins_later _ may = absurd (cc may)

module _ (z : Sizes) (v : View) (a : ℕ) (line : Line) (command : Command) (p : Place) (S : IsStep z v a line command p) (never : publishes p ≡ false) where
  abbrev h : Held
  h = v.hand a

  abbrev x : ℕ
  x = answer_in (task_at p command h) v.words

  -- The own hand is to begin a log only where it was before.
  own_before : (gfn : ℕ) → IsBeginning (hand_after line command p h x) gfn → IsBeginning h gfn
  own_before gfn B = by (may_begin p) refl
    where
      behind : BeginsAt (place_after (outcome_at p command h x)) command h gfn
      behind =
          begins_same (place_after (outcome_at p command h x)) line.command command (hand_after line command p h x) h gfn S.command_is
          (records_same p command h.slots never) (loads_same p command h x).sizes B

      here : BeginsAt p command h gfn
      here = begins_before command h gfn p x never behind

      by : (b : Bool) → may_begin p ≡ b → IsBeginning h gfn
      by true may =
          let T = stands_at z v a line command p S (begins_later p may) in
          subst (λ c. BeginsAt h.state.place c h gfn) (sym T.command_is) (subst (λ q. BeginsAt q command h gfn) (sym T.at) here)
      by false none = none_begins command h gfn p none here

  -- So it is of each hand.
  pub beginning_before : (j gfn : ℕ) → IsBeginning ((stepped a line command p v).hand j) gfn → IsBeginning (v.hand j) gfn
  beginning_before j gfn = at_upd (λ i (g : Held). IsBeginning g gfn → IsBeginning (v.hand i) gfn) v.hand a (hand_after line command p h x)
      (own_before gfn) (λ i apart B. B) j

-- ---- the manager's alone

-- Whose hand is to begin a log is the manager.
beginning_manager : (z : Sizes) (v : View) (j gfn : ℕ) → Invariant z v → j < actors_of z → IsBeginning (v.hand j) gfn → (v.hand j).state.actor ≡ Manager
beginning_manager z v j gfn I there B = by h.state.place refl (I.knows j there) B
  where
    h : Held
    h = v.hand j

    by : (q : Place) → h.state.place ≡ q → KnowsPart q h.state.line.command h → BeginsAt q h.state.line.command h gfn → h.state.actor ≡ Manager
    by (place.SlotChange p) at K B = change_hand z j h p h.state.line.command (I.lines j there) at refl K.0
    by q at K B = none_begins h.state.line.command h gfn q refl B

-- So it is the hand of this manager.
pub beginning_is : (z : Sizes) (v : View) (a j gfn : ℕ) → Invariant z v → a < actors_of z → (v.hand a).state.actor ≡ Manager → j < actors_of z
    → IsBeginning (v.hand j) gfn → j ≡ a
beginning_is z v a j gfn I a_in manager there B =
    one_manager z j a (v.hand j) (v.hand a) (I.lines j there) (I.lines a a_in) (beginning_manager z v j gfn I there B) manager
