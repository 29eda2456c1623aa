-- What the lines that read a dirty log ask for, and when a clear is refused for its range.
use Rattle.std.proofs.Common.{◌≡◌, ◌≢◌, ◌⊎◌, inl, inr, ◌+◌, ◌-◌, ◌%◌, ◌<◌, ◌≤◌, ◌==◌, ◌&&◌, ◌||◌, ℕ, refl, ap, ◌∙◌, arith, [], ◌∷◌}
use Rattle.std.proofs.lemmas.Bool.Decides.{nat_tests}
use Rattle.std.specs.Prelude.{Bool, true, false, not, nat_le, nat_lt, Some, None, is_none, if◌then◌else◌}
use Rattle.core_views.specs.declared.answer.Refusal.TheVariants.{BadRange, Missing, NoLog}
use Rattle.core_views.specs.declared.memory_slot.MemorySlot.{MemorySlot}
use Rattle.core_views.specs.declared.trace.Command.TheVariants.{ClearLog}
use Rattle.core_views.specs.LogCommands.{is_bad_range, read_refusal}
use Rattle.core_views.specs.Refusals.{is_logged}
use Rattle.core_views.specs.Slots.{first_of, is_some_and}
use Rattle.core_views.specs.SlotSets.{slot_of_id}
use Rattle.mmu_laws.specs.forms.log.LogCommandLaws.{BadRangesAreRefused, ClearsAskForNamed, GetsAskForAll, ReadingsAreOfLogs, IsBadRange}

pub gets_ask_for_all : GetsAskForAll
gets_ask_for_all id page = refl

named : (first count page bit : ℕ) → (nat_le first page && (nat_lt page (first + count) && (bit == 1))) ≡ true
    → (first ≤ page) × ((page < first + count) × (bit ≡ 1))
named first count page bit asks = (grind (arith, nat_tests), (grind (arith, nat_tests), grind (arith, nat_tests)))

asked : (first count page bit : ℕ) → first ≤ page → page < first + count → bit ≡ 1
    → (nat_le first page && (nat_lt page (first + count) && (bit == 1))) ≡ true
asked first count page bit from to is = grind (arith, nat_tests)

pub clears_ask_for_named : ClearsAskForNamed
clears_ask_for_named id first count words page = (
  λ asks. (
      let n = named first count page _ asks in
      record { from = n.0; to = n.1.0; bit = n.1.1 }
      ),
  λ n. asked first count page _ n.from n.to n.bit,
)

-- ---- a slot without a log

pub readings_are_of_logs : ReadingsAreOfLogs
readings_are_of_logs id first count words slots = record {
  missing = λ is. (rw is refl, rw is refl);
  no_log = λ slot is off. (rw (is, off) refl, rw (is, off) refl);
  accepted = λ slot is on. rw (is, on) refl;
}

-- ---- a range

abbrev is_bad : ℕ → ℕ → ℕ → ℕ → ℕ → Bool
is_bad pages first count first_rest count_rest =
    not (first_rest == 0) || (nat_lt pages (first + count) || (not (count_rest == 0) && not (first + count == pages)))

abbrev IsBad : ℕ → ℕ → ℕ → ℕ → ℕ → Type 0
IsBad pages first count first_rest count_rest =
    (first_rest ≢ 0) ⊎ ((pages < first) ⊎ ((pages - first < count) ⊎ ((count_rest ≢ 0) × (first + count ≢ pages))))

bad_so : (pages first count first_rest count_rest : ℕ) (a b c d e : Bool) → (first_rest == 0) ≡ a → nat_lt pages (first + count) ≡ b
    → (count_rest == 0) ≡ c → (first + count == pages) ≡ d → nat_lt pages first ≡ e → (not a || (b || (not c && not d))) ≡ true
    → IsBad pages first count first_rest count_rest
bad_so pages first count first_rest count_rest false b c d e ra rb rc rd re bad = inl (λ is. apart is)
  where
    apart : first_rest ≡ 0 → ⊥
    apart is = grind (arith, nat_tests)
bad_so pages first count first_rest count_rest true true c d true ra rb rc rd re bad = inr (inl (grind (arith, nat_tests)))
bad_so pages first count first_rest count_rest true true c d false ra rb rc rd re bad =
    let past : pages < first + count = grind (arith, nat_tests) in
    let from : first ≤ pages = grind (arith, nat_tests) in
    inr (inr (inl (omega (arith, past, from))))
bad_so pages first count first_rest count_rest true false false false e ra rb rc rd re bad = inr (inr (inr (λ is. odd is, λ is. other is)))
  where
    odd : count_rest ≡ 0 → ⊥
    odd is = grind (arith, nat_tests)

    other : first + count ≡ pages → ⊥
    other is = grind (arith, nat_tests)
bad_so pages first count first_rest count_rest true false false true e ra rb rc rd re bad = absurd (cc bad)
bad_so pages first count first_rest count_rest true false true d e ra rb rc rd re bad = absurd (cc bad)

good_so : (pages first count first_rest count_rest : ℕ) → is_bad pages first count first_rest count_rest ≡ false
    → IsBad pages first count first_rest count_rest → ⊥
good_so pages first count first_rest count_rest good (inl odd) = grind (arith, nat_tests, odd)
good_so pages first count first_rest count_rest good (inr (inl past)) = grind (arith, nat_tests, past)
good_so pages first count first_rest count_rest good (inr (inr (inl few))) = grind (arith, nat_tests, few)
good_so pages first count first_rest count_rest good (inr (inr (inr both))) =
    let odd = both.0 in
    let other = both.1 in
    grind (arith, nat_tests, odd, other)

refused_so : (missing logged bad : Bool) → missing ≡ false → logged ≡ true
    → first_of ((missing, Missing) ∷ (not logged, NoLog) ∷ (bad, BadRange) ∷ []) ≡ (if bad then Some BadRange else None)
refused_so missing logged bad m l = rw (m, l) refl

pub bad_ranges_are_refused : BadRangesAreRefused
bad_ranges_are_refused id first count words slots slot is logged = by (is_bad_range slot.slot.pages first count) refl
  where
    pages : ℕ
    pages = slot.slot.pages

    row : is_some_and (λ (s : MemorySlot). is_bad_range s.slot.pages first count) (slot_of_id id slots) ≡ is_bad_range pages first count
    row = ap (is_some_and (λ (s : MemorySlot). is_bad_range s.slot.pages first count)) is

    comes : (bad : Bool) → is_bad_range pages first count ≡ bad
        → read_refusal (ClearLog id first count words) slots ≡ (if bad then Some BadRange else None)
    comes bad known =
        refused_so (is_none (slot_of_id id slots)) (is_logged id slots) _ (ap is_none is) logged
        ∙ ap (λ (b : Bool). if b then Some BadRange else None) (row ∙ known)

    by : (bad : Bool) → is_bad_range pages first count ≡ bad
        → (IsBadRange pages first count × (read_refusal (ClearLog id first count words) slots ≡ Some BadRange))
        ⊎ ((IsBadRange pages first count → ⊥) × (read_refusal (ClearLog id first count words) slots ≡ None))
    by true known = inl (bad_so pages first count (first % 64) (count % 64) _ _ _ _ _ refl refl refl refl refl known, comes true known)
    by false known = inr (good_so pages first count (first % 64) (count % 64) known, comes false known)
