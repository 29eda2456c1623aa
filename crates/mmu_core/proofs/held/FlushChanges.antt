-- What is said of the flush of one virtual processor for one invalidation holds after each change of either.
use Rattle.std.proofs.Common.{◌≡◌, ◌⊎◌, inl, inr, ◌+◌, ◌*◌, ◌/◌, ◌%◌, ◌^◌, ◌<◌, ℕ, refl, sym, ap, ◌∙◌, arith, w64}
use Rattle.std.specs.Int.Bits.{bit_and, bit_or}
use Rattle.std.specs.Prelude.{Bool, true, false, ◌==◌, ◌&&◌, ◌≢◌, not, if◌then◌else◌}
use Rattle.std.proofs.lemmas.Bool.Decides.{nat_tests}
use Rattle.std.proofs.lemmas.Nat.Bits.{and_high_mask, bit_at_clear_other, bit_at_set_other, bit_at_set_same}
use Rattle.core_views.specs.declared.topics.Flush.{Flush}
use Rattle.core_views.specs.declared.topics.Stay.{Stay}
use Rattle.core_views.specs.declared.topics.Stay.TheVariants.{Outside, Guest, Section}
use Rattle.spte_words.specs.Bits.{has_bit}
use Rattle.part_steps.specs.ControlBits.{guest_bits, has_to_flush, request_bit, section_bit}
use Rattle.part_steps.specs.PartTasks.{all_but}
use Rattle.part_steps.specs.StayTopics.{no_flush}
use Rattle.mmu_core.specs.invariant.InvalidatedPart.{IsFlushed, may_use}
use Rattle.mmu_core.specs.invariant.StatesPart.{stay_bits}
use Rattle.mmu_core.specs.forms.access.Cached.{asks_flush}
use Rattle.mmu_core.proofs.machine.Columns.{same_or}

-- ---- Bit 2 of a state word.

-- A word with bit 2 set asks for a flush; bits 0 and 1 have no say in it.
pub asked_word : (w : ℕ) → asks_flush (bit_or w request_bit) ≡ true
asked_word w = ap (λ b. b == 1) (bit_at_set_same w64 w 2 (omega arith))

pub begun_asks : (w : ℕ) → asks_flush (bit_or w section_bit) ≡ asks_flush w
begun_asks w = ap (λ b. b == 1) (bit_at_set_other w64 w 1 (omega arith) 2 (λ e. absurd (omega (arith, e))))

pub ended_asks : (w : ℕ) → asks_flush (bit_and w (all_but section_bit)) ≡ asks_flush w
ended_asks w = ap (λ b. b == 1) (bit_at_clear_other w64 w 1 (omega arith) 2 (omega arith) (λ e. absurd (omega (arith, e))))

pub left_asks : (w : ℕ) → w < 2 ^ 64 → asks_flush (bit_and w (all_but guest_bits)) ≡ asks_flush w
left_asks w lt =
    let e : bit_and w (all_but guest_bits) ≡ w / 2 ^ 2 * 2 ^ 2 = and_high_mask 64 2 (omega arith) w (omega (arith, lt)) in
    let d : bit_and w (all_but guest_bits) / 2 ^ 2 ≡ w / 2 ^ 2 = omega (arith, e) in
    ap (λ n. n % 2 == 1) d

-- ---- Who may use what is cached.

asks_not : (b : Bool) → not b ≡ true → b ≡ false
asks_not true e = absurd (cc e)
asks_not false e = refl

not_asks : (b : Bool) → b ≡ false → not b ≡ true
not_asks true e = absurd (cc e)
not_asks false e = refl

-- Where no flush is asked for it may be used.
pub none_asked : (state : ℕ) (stay : Stay) → asks_flush state ≡ false → may_use state stay ≡ true
none_asked state Guest none = refl
none_asked state Outside none = not_asks (asks_flush state) none
none_asked state Section none = not_asks (asks_flush state) none

asks_none : (state : ℕ) → may_use state Outside ≡ true → asks_flush state ≡ false
asks_none state may = asks_not (asks_flush state) may

-- Where a flush is asked for it may be used in the guest alone, whatever the state word was before.
pub used_asked : (state now : ℕ) (stay : Stay) → asks_flush now ≡ true → may_use now stay ≡ true → may_use state stay ≡ true
used_asked state now Guest asks may = refl
used_asked state now Outside asks may = let none = asks_none now may in absurd (cc (asks, none))
used_asked state now Section asks may = let none = asks_none now may in absurd (cc (asks, none))

-- Where it may be used once the guest or a section was left, or a section begun, it might be used before: each leaves what is asked.
pub used_gone : (state now : ℕ) (stay behind : Stay) → asks_flush now ≡ asks_flush state → may_use now behind ≡ not (asks_flush now)
    → may_use now behind ≡ true → may_use state stay ≡ true
used_gone state now stay behind asks gone may = none_asked state stay (sym asks ∙ asks_not (asks_flush now) (sym gone ∙ may))

-- Where it may be used, and there is no flush to make, none is asked for.
pub used_flushed : (state : ℕ) (stay : Stay) → state % 4 ≡ stay_bits stay → has_to_flush state ≡ false → may_use state stay ≡ true
    → asks_flush state ≡ false
used_flushed state Guest is none may = ap (λ (b : Bool). b && asks_flush state) (sym in_guest) ∙ none
  where
    in_guest : has_bit 0 state ≡ true
    in_guest = grind (arith, nat_tests)
used_flushed state Outside is none may = asks_none state may
used_flushed state Section is none may = asks_none state may

-- ---- A change of the virtual processor: of its state word, of where it is, of what is so once it has made its flush.

module _ {asked awaited v state : ℕ} {stay : Stay} where
  -- Where no flush is asked for, none was, where what is cached may be used, it might be before, and what is so then was so.
  moved : {now : ℕ} {behind : Stay} {Was Is : Type 0} → (asks_flush now ≡ false → asks_flush state ≡ false)
      → (may_use now behind ≡ true → may_use state stay ≡ true) → (v < asked → Was → Is)
      → IsFlushed Was asked awaited v state stay → IsFlushed Is asked awaited v now behind
  moved asks uses keeps F = record {
    order = F.order;
    asks = λ lt none. keeps lt (F.asks lt (asks none));
    awaits = λ lt waits may. keeps lt (F.awaits lt waits (uses may));
  }

  -- What is so then, alone.
  pub flushed_more : {Was Is : Type 0} → (v < asked → Was → Is) → IsFlushed Was asked awaited v state stay → IsFlushed Is asked awaited v state stay
  flushed_more = moved (λ none. none) (λ may. may)

  -- And two such things.
  pub flushed_both : {Was More : Type 0} → IsFlushed Was asked awaited v state stay → IsFlushed More asked awaited v state stay
      → IsFlushed (Was × More) asked awaited v state stay
  flushed_both F G = record {
    order = F.order;
    asks = λ lt none. (F.asks lt none, G.asks lt none);
    awaits = λ lt waits may. (F.awaits lt waits may, G.awaits lt waits may);
  }

  -- A flush is asked of it.
  pub requested : {now : ℕ} {Was : Type 0} → asks_flush now ≡ true → IsFlushed Was asked awaited v state stay → IsFlushed Was asked awaited v now stay
  requested {now} asks = moved (λ none. absurd (cc (asks, none))) (λ may. used_asked state now stay asks may) (λ lt was. was)

  -- It enters the guest, and makes the flush that was asked for.
  pub entered : {Was Is : Type 0} → (asks_flush state ≡ true → Is) → (v < asked → Was → Is) → IsFlushed Was asked awaited v state stay
      → IsFlushed Is asked awaited v guest_bits Guest
  entered {Is = Is} flushes keeps F = record { order = F.order; asks = λ lt none. done lt; awaits = λ lt waits may. done lt }
    where
      done : v < asked → Is
      done lt = by (asks_flush state) refl
        where
          by : (b : Bool) → asks_flush state ≡ b → Is
          by true is = flushes is
          by false is = keeps lt (F.asks lt is)

  -- It leaves the guest, or a section; or begins one.
  pub goes : {now : ℕ} {behind : Stay} {Was Is : Type 0} → asks_flush now ≡ asks_flush state → may_use now behind ≡ not (asks_flush now)
      → (v < asked → Was → Is) → IsFlushed Was asked awaited v state stay → IsFlushed Is asked awaited v now behind
  goes {now} {behind} asks gone = moved (λ none. sym asks ∙ none) (used_gone state now stay behind asks gone)

-- ---- A change of the invalidation: of how many were asked, and of how many were awaited.

module _ {IsDone : Type 0} {v state : ℕ} {stay : Stay} where
  -- None was asked yet.
  pub unasked : (flush : Flush) → flush ≡ no_flush → IsFlushed IsDone flush.asked flush.awaited v state stay
  unasked flush none =
      let asked : flush.asked ≡ 0 = ap (λ (f : Flush). f.asked) none in
      let awaited : flush.awaited ≡ 0 = ap (λ (f : Flush). f.awaited) none in
      record {
        order = omega (arith, asked, awaited);
        asks = λ lt. absurd (omega (arith, lt, asked));
        awaits = λ lt. absurd (omega (arith, lt, asked));
      }

  -- The next one was asked.
  pub asked_on : {asked awaited : ℕ} (index : ℕ) → index ≡ asked → (v ≡ index → asks_flush state ≡ true)
      → IsFlushed IsDone asked awaited v state stay → IsFlushed IsDone (index + 1) awaited v state stay
  asked_on {asked} {awaited} index next asks F = record {
    order = omega (arith, F.order, next);
    asks = λ lt none. by lt none (same_or v index);
    awaits = λ lt waits may. F.awaits (omega (arith, waits, F.order)) waits may;
  }
    where
      by : v < index + 1 → asks_flush state ≡ false → (v ≡ index) ⊎ (v ≢ index) → IsDone
      by lt none (inl e) = let is = asks e in absurd (cc (is, none))
      by lt none (inr ne) = F.asks (omega (arith, lt, ne, next)) none

  -- The next one was awaited, if it has no flush to make.
  pub awaited_on : {asked awaited : ℕ} (index word : ℕ) → index < asked → index ≡ awaited
      → (v ≡ index → (state ≡ word) × (state % 4 ≡ stay_bits stay)) → IsFlushed IsDone asked awaited v state stay
      → IsFlushed IsDone asked (index + (if has_to_flush word then 0 else 1)) v state stay
  awaited_on {asked} {awaited} index word low next sees F = by (has_to_flush word) refl
    where
      done : has_to_flush word ≡ false → v < asked → v < index + 1 → may_use state stay ≡ true → (v ≡ index) ⊎ (v ≢ index) → IsDone
      done none lt waits may (inl e) =
          let S = sees e in
          F.asks lt (used_flushed state stay S.1 (ap has_to_flush S.0 ∙ none) may)
      done none lt waits may (inr ne) = F.awaits lt (omega (arith, waits, ne, next)) may

      by : (b : Bool) → has_to_flush word ≡ b → IsFlushed IsDone asked (index + (if b then 0 else 1)) v state stay
      by true has = record { order = omega (arith, low); asks = F.asks; awaits = λ lt waits may. F.awaits lt (omega (arith, waits, next)) may }
      by false none = record { order = omega (arith, low); asks = F.asks; awaits = λ lt waits may. done none lt waits may (same_or v index) }
