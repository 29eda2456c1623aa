-- A hand's lines are its own after each of its steps.
use Rattle.std.proofs.Common.{◌≡◌, ◌<◌, ℕ, zero, suc, List, [], ◌∷◌, ◌++◌, length, refl, sym, subst, ap, ◌∙◌, arith, length-append, ◌≤◌}
use Rattle.std.specs.Prelude.{All, Bool, true, false, not, map, slice_get, unwrap_or, ◌==◌, if◌then◌else◌, Some}
use Rattle.std.specs.BTreeMap.{insert_entry}
use Rattle.std.specs.Ordering.{match_ordering, nat_cmp}
use Rattle.std.specs.declared.cmp.Ordering.{Ordering}
use Rattle.std.specs.declared.cmp.Ordering.TheVariants.{Less, Equal, Greater}
use Rattle.std.proofs.lemmas.Bool.{eqb-true}
use Rattle.std.proofs.lemmas.Bool.Decides.{nat_tests}
use Rattle.std.proofs.lemmas.Option.{same_Some}
use Rattle.std.specs.List.{Contains}
use Rattle.circular_buffer.specs.Buffer.{Buffer}
use Rattle.std.proofs.lemmas.List.Elements.{All-cons, All-head, All-tail}
use Rattle.core_views.specs.declared.memory_slot.MemorySlot.{MemorySlot}
use Rattle.core_views.specs.declared.actor.Actor.TheVariants.{Manager}
use Rattle.core_views.specs.declared.answer.AnsweredLine.{AnsweredLine}
use Rattle.core_views.specs.declared.cache.Translation.{Translation}
use Rattle.core_views.specs.declared.place.Place.{Place}
use Rattle.core_views.specs.declared.place.Place.TheVariants as place
use Rattle.core_views.specs.declared.sizes.Sizes.{Sizes}
use Rattle.core_views.specs.declared.trace.Line.{Line}
use Rattle.core_views.specs.declared.topics.Topics.{Topics}
use Rattle.core_views.specs.Held.{Held, State}
use Rattle.core_views.specs.Sizes.{index_of}
use Rattle.core_views.specs.declared.trace.Command.TheVariants.{SetSlot}
use Rattle.core_views.specs.declared.trace.Slot.{Slot}
use Rattle.core_views.specs.Flat.{no_line}
use Rattle.core_views.specs.SlotSets.{MemorySlots, slot_of_id, without_slot_at}
use Rattle.mmu_core.specs.declared.outcome.Outcome.{Outcome}
use Rattle.mmu_core.specs.declared.outcome.Outcome.TheVariants.{Goes, Ends}
use Rattle.mmu_core.specs.invariant.Invariant.{IsSetBy, OwnLines, UnderWay}
use Rattle.mmu_core.specs.machine.Steps.{next_line}
use Rattle.mmu_core.specs.machine.Outcomes.{answers_after, place_after}

same_id : (i j : ℕ) → nat_cmp i j ≡ Equal → i ≡ j
same_id i j e = grind (arith, nat_tests)

-- a line that sets this slot, among all
pub line_sets : (n : ℕ) (lines : List Line) (id : ℕ) (slot : Slot) → n < length lines
    → (unwrap_or (slice_get lines n) no_line).command ≡ SetSlot id slot → Contains (map (λ (l : Line). l.command) lines) (SetSlot id slot)
line_sets n [] id slot lt is = absurd (omega arith)
line_sets zero (line ∷ lines) id slot lt is = (0, omega arith, is)
line_sets (suc n) (line ∷ lines) id slot lt is = let rest = line_sets n lines id slot (omega arith) is in (suc rest.0, omega (arith, rest.1), rest.2)

-- So the slot with an ID was.
pub set_by_at : (lines : List Line) (id : ℕ) (slot : MemorySlot) (slots : MemorySlots) → slot_of_id id slots ≡ Some slot → All (IsSetBy lines) slots
    → IsSetBy lines (id, slot)
set_by_at lines id slot [] is all = absurd (cc is)
set_by_at lines id slot (e ∷ es) is all =
    by (e.0 == id) (eqb-true e.0 id) is (λ at. set_by_at lines id slot es at (All-tail (IsSetBy lines) e es all))
  where
    by : (here : Bool) → (here ≡ true → e.0 ≡ id) → (if here then Some e.1 else slot_of_id id es) ≡ Some slot
        → (slot_of_id id es ≡ Some slot → IsSetBy lines (id, slot)) → IsSetBy lines (id, slot)
    by true same is later =
        let own = same_Some e.1 slot is in
        subst (λ i. IsSetBy lines (i, slot)) (same refl) (subst (λ m. IsSetBy lines (e.0, m)) own (All-head (IsSetBy lines) e es all))
    by false same is later = later is

-- Each slot of the list without one of them was set by a line.
pub set_by_without : (lines : List Line) (id : ℕ) (slots : MemorySlots) → All (IsSetBy lines) slots → All (IsSetBy lines) (without_slot_at id slots)
set_by_without lines id [] all = all
set_by_without lines id (e ∷ es) all = by (e.0 == id) (set_by_without lines id es (All-tail (IsSetBy lines) e es all))
  where
    by : (here : Bool) → All (IsSetBy lines) (without_slot_at id es)
        → All (IsSetBy lines) (if not here then e ∷ without_slot_at id es else without_slot_at id es)
    by true rest = rest
    by false rest = All-cons (IsSetBy lines) e (without_slot_at id es) (All-head (IsSetBy lines) e es all) rest

-- What holds of each slot and of one more holds of each where that one is put at its ID.
pub set_by_with : (lines : List Line) (id : ℕ) (slot : MemorySlot) (slots : MemorySlots) → IsSetBy lines (id, slot) → All (IsSetBy lines) slots
    → All (IsSetBy lines) (insert_entry nat_cmp slots id slot)
set_by_with lines id slot [] is all = All-cons (IsSetBy lines) (id, slot) [] is all
set_by_with lines id slot (e ∷ es) is all = by (nat_cmp id e.0) refl (set_by_with lines id slot es is (All-tail (IsSetBy lines) e es all))
  where
    by : (o : Ordering) → nat_cmp id e.0 ≡ o → All (IsSetBy lines) (insert_entry nat_cmp es id slot)
        → All (IsSetBy lines) (match_ordering o ((id, slot) ∷ e ∷ es) ((e.0, slot) ∷ es) (e ∷ insert_entry nat_cmp es id slot))
    by Less order rest = All-cons (IsSetBy lines) (id, slot) (e ∷ es) is all
    by Equal order rest =
        All-cons (IsSetBy lines) (e.0, slot) es (subst (λ i. IsSetBy lines (i, slot)) (same_id id e.0 order) is) (All-tail (IsSetBy lines) e es all)
    by Greater order rest = All-cons (IsSetBy lines) e (insert_entry nat_cmp es id slot) (All-head (IsSetBy lines) e es all) rest

pub answers_length : (answers : List AnsweredLine) (x : AnsweredLine) → length (answers ++ x ∷ []) ≡ suc (length answers)
answers_length answers x = length-append answers (x ∷ []) ∙ omega arith

-- No answer is taken back.
pub answers_more : (o : Outcome) (line : Line) (answers : List AnsweredLine) → length answers ≤ length (answers_after o line answers)
answers_more (Goes p) line answers = omega arith
answers_more (Ends answer) line answers =
    let n = answers_length answers (record { number = line.number; actor = line.actor; answer = answer }) in omega (arith, n)

-- the hand after a step that went so
abbrev pub behind : Held → Line → State → Outcome → Topics → Buffer Translation → MemorySlots → List ℕ → Held
behind h line s o t c slots harvest = record {
  state = record s { line = line; place = place_after o };
  topics = t;
  cached = c;
  slots = slots;
  harvest = harvest;
  lines = h.lines;
  answers = answers_after o line h.answers;
}

under_behind : (h : Held) (line : Line) (s : State) (p : Place) (t : Topics) (c : Buffer Translation) (slots : MemorySlots) (harvest : List ℕ)
    → line ≡ next_line h → length h.answers < length h.lines → UnderWay p (behind h line s (Goes p) t c slots harvest)
under_behind h line s place.Between t c slots harvest is left = tt
under_behind h line s _ t c slots harvest is left = (is, left)

pub lines_behind : (z : Sizes) (a : ℕ) (h : Held) (line : Line) (s : State) (o : Outcome) (t : Topics) (c : Buffer Translation) (slots : MemorySlots)
    (harvest : List ℕ) → OwnLines z a h → line ≡ next_line h → length h.answers < length h.lines
    → s.sizes ≡ z → s.actor ≡ h.state.actor → c.capacity ≡ h.cached.capacity → All (IsSetBy h.lines) slots → OwnLines z a (behind h line s o t c slots harvest)
lines_behind z a h line s (Goes p) t c slots harvest O is left same actor room set = record {
  sizes = same;
  cache = room ∙ O.cache;
  index = ap (index_of z) actor ∙ O.index;
  allowed = O.allowed;
  few = O.few;
  own = subst (λ x. All (λ (l : Line). l.actor ≡ x) h.lines) (sym actor) O.own;
  under = under_behind h line s p t c slots harvest is left;
  set = set;
}
lines_behind z a h line s (Ends answer) t c slots harvest O is left same actor room set = record {
  sizes = same;
  cache = room ∙ O.cache;
  index = ap (index_of z) actor ∙ O.index;
  allowed = O.allowed;
  few = O.few;
  own = subst (λ x. All (λ (l : Line). l.actor ≡ x) h.lines) (sym actor) O.own;
  under = tt;
  set = set;
}

-- One hand alone is the manager's.
pub one_manager : (z : Sizes) (i a : ℕ) (h g : Held) → OwnLines z i h → OwnLines z a g → h.state.actor ≡ Manager → g.state.actor ≡ Manager → i ≡ a
one_manager z i a h g O P is be = sym O.index ∙ (ap (index_of z) (is ∙ sym be) ∙ P.index)
