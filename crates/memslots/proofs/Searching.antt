-- A search that agrees with the words of the pool agrees with them after its next word, or has found the slot there that has what is sought.
use Rattle.std.proofs.Common.{◌≡◌, ◌≢◌, ◌≤◌, ◌+◌, ◌⊎◌, inl, inr, ℕ, refl, sym, subst, ap, ◌∙◌, arith}
use Rattle.std.specs.Prelude.{Bool, true, false, if◌then◌else◌, Option, Some, None, is_some}
use Rattle.core_views.specs.declared.place.SlotField.{SlotField}
use Rattle.core_views.specs.declared.place.SlotField.TheVariants.{Base, Pages, Host, Flags}
use Rattle.core_views.specs.declared.topics.SlotSearch.{SlotSearch}
use Rattle.core_views.specs.declared.trace.Slot.{Slot}
use Rattle.spte_words.specs.Flags.{flags_live, flags_logged, flags_read_only}
use Rattle.part_steps.specs.PartTasks.{set_held}
use Rattle.part_steps.specs.SlotWords.{live_at, slot_at, slot_index}
use Rattle.part_steps.specs.PageTopics.{searched, searched_at}
use Rattle.mmu_core.proofs.machine.Columns.{same_or}
use Rattle.step_seats.specs.declared.turn.Turn.{Turn}
use Rattle.step_seats.specs.declared.turn.Turn.TheVariants.{More, Wait, Retry, Done}
use Rattle.memslots.specs.declared.find.FoundSlot.{FoundSlot}
use Rattle.memslots.specs.Finding.{FindsIn, HasLoaded, Hits, IsFirst, IsSearchFor, NoneBefore, Searches}
use Rattle.memslots.proofs.FirstSlot.{first_of, none_of}

-- the word that is next
abbrev pub next_word : (ℕ → ℕ) → SlotField → SlotSearch → ℕ
next_word pool f s = pool (slot_index (set_held s.set) s.id f)

no_more : (test : Slot → Bool) (pool : ℕ → ℕ) (set id : ℕ) → NoneBefore test pool set id
    → (live_at pool set id ≡ true → test (slot_at pool set id) ≡ false) → NoneBefore test pool set (id + 1)
no_more test pool set id none this i lt live = by (same_or i id)
  where
    by : (i ≡ id) ⊎ (i ≢ id) → test (slot_at pool set i) ≡ false
    by (inl e) = subst (λ j. test (slot_at pool set j) ≡ false) (sym e) (this (subst (λ j. live_at pool set j ≡ true) e live))
    by (inr ne) = none i (omega arith) live

not_true : (b : Bool) → (b ≡ true → ⊥) → b ≡ false
not_true true no_ = absurd (no_ refl)
not_true false no_ = refl

-- after the flags
flags_then : (test : Slot → Bool) (pool : ℕ → ℕ) (s : SlotSearch) (live : Bool) → is_some s.set ≡ true → live_at pool (set_held s.set) s.id ≡ live
    → NoneBefore test pool (set_held s.set) s.id
    → IsSearchFor test pool (record s {
      id = if live then s.id else s.id + 1;
      next = if live then Base else Flags;
      slot = record s.slot { read_only = flags_read_only (next_word pool Flags s) };
      logged = flags_logged (next_word pool Flags s);
      whole = false;
    })
flags_then test pool s true held is none = record { held = held; loaded = (is, refl, refl); before = none }
flags_then test pool s false held is none =
    record { held = held; loaded = tt; before = no_more test pool (set_held s.set) s.id none (λ live. absurd (cc (is, live))) }

-- the slot whose last word was loaded
whole_slot : (pool : ℕ → ℕ) (s : SlotSearch) → HasLoaded Host pool (set_held s.set) s
    → ◌≡◌ {A = Slot} (slot_at pool (set_held s.set) s.id) (record s.slot { host = next_word pool Host s })
whole_slot pool s loaded =
    let read_only = sym loaded.0.1 in
    let base = sym loaded.1 in
    let pages = sym loaded.2 in
    λ i. record { base = base i; pages = pages i; host = next_word pool Host s; read_only = read_only i }

goes_on : (f : SlotField) (test : Slot → Bool) (pool : ℕ → ℕ) (s : SlotSearch) → is_some s.set ≡ true → HasLoaded f pool (set_held s.set) s
    → NoneBefore test pool (set_held s.set) s.id
    → (f ≡ Host → test (searched_at f s (next_word pool f s)).slot ≡ true → ⊥) → IsSearchFor test pool (searched_at f s (next_word pool f s))
goes_on Flags test pool s held loaded none misses = flags_then test pool s (flags_live (next_word pool Flags s)) held refl none
goes_on Base test pool s held loaded none misses = record { held = held; loaded = (loaded, refl); before = none }
goes_on Pages test pool s held loaded none misses = record { held = held; loaded = (loaded.0, loaded.1, refl); before = none }
goes_on Host test pool s held loaded none misses =
    let whole = whole_slot pool s loaded in
    record {
      held = held;
      loaded = tt;
      before =
          no_more test pool (set_held s.set) s.id none
          (λ live. ap test whole ∙ not_true (test (record s.slot { host = next_word pool Host s })) (misses refl));
    }

-- a word that isn't the last one of a slot, or is one of a slot that doesn't have what is sought
pub search_goes_on : (test : Slot → Bool) (pool : ℕ → ℕ) (s : SlotSearch) → IsSearchFor test pool s → (Hits test s (searched s (next_word pool s.next s)) → ⊥)
    → IsSearchFor test pool (searched s (next_word pool s.next s))
search_goes_on test pool s I misses = goes_on s.next test pool s I.held I.loaded I.before (λ last holds. misses (last, holds))

hit : (f : SlotField) (test : Slot → Bool) (pool : ℕ → ℕ) (s : SlotSearch) → f ≡ Host → s.id ≤ 31 → HasLoaded f pool (set_held s.set) s
    → NoneBefore test pool (set_held s.set) s.id → test (searched_at f s (next_word pool f s)).slot ≡ true
    → IsFirst test pool (set_held s.set)
    (record { id = s.id; slot = (searched_at f s (next_word pool f s)).slot; logged = (searched_at f s (next_word pool f s)).logged })
hit Flags test pool s last low loaded none holds = absurd (cc last)
hit Base test pool s last low loaded none holds = absurd (cc last)
hit Pages test pool s last low loaded none holds = absurd (cc last)
hit Host test pool s last low loaded none holds =
    let whole = whole_slot pool s loaded in
    record {
      low = low;
      live = loaded.0.0;
      slot = whole;
      logged = sym loaded.0.2;
      before = none;
      first = first_of test pool (set_held s.set) s.id 32 (omega arith) loaded.0.0 (ap test whole ∙ holds) none ∙ ap Some whole;
    }

pub search_hits : (test : Slot → Bool) (pool : ℕ → ℕ) (s : SlotSearch) → IsSearchFor test pool s → s.id ≤ 31
    → Hits test s (searched s (next_word pool s.next s))
    → IsFirst test pool (set_held s.set)
    (record { id = s.id; slot = (searched s (next_word pool s.next s)).slot; logged = (searched s (next_word pool s.next s)).logged })
search_hits test pool s I low hits = hit s.next test pool s hits.0 low I.loaded I.before hits.1

same_set : (f : SlotField) (s : SlotSearch) (v : ℕ) → (searched_at f s v).set ≡ s.set
same_set Flags s v = refl
same_set Base s v = refl
same_set Pages s v = refl
same_set Host s v = refl

-- what a turn finds in the words that it was made over
finds : (test : Slot → Bool) (pool : ℕ → ℕ) (s : SlotSearch) (result : Turn (Option FoundSlot)) → IsSearchFor test pool s → s.id ≤ 31
    → Searches test result s (searched s (next_word pool s.next s)) → FindsIn test pool (searched s (next_word pool s.next s)) result
finds test pool s More I low found = search_goes_on test pool s I found.0
finds test pool s (Done (Some x)) I low found =
    let first = search_hits test pool s I low found.0 in
    let set : set_held (searched s (next_word pool s.next s)).set ≡ set_held s.set = ap set_held (same_set s.next s (next_word pool s.next s)) in
    subst (λ k. IsFirst test pool k x) (sym set) (subst (λ (y : FoundSlot). IsFirst test pool (set_held s.set) y) (sym found.1) first)
finds test pool s (Done None) I low found =
    let behind = search_goes_on test pool s I found.0 in
    let after : SlotSearch = searched s (next_word pool s.next s) in
    none_of test pool (set_held after.set) 32 (subst (λ k. NoneBefore test pool (set_held after.set) k) found.1 behind.before)
finds test pool s (Wait seen) I low found = absurd found
finds test pool s (Retry cause) I low found = absurd found

pub finds_by : (test : Slot → Bool) (pool : ℕ → ℕ) (s after : SlotSearch) (v : ℕ) (result : Turn (Option FoundSlot)) → IsSearchFor test pool s → s.id ≤ 31
    → v ≡ next_word pool s.next s → after ≡ searched s v → Searches test result s after → FindsIn test pool after result
finds_by test pool s after v result I low is made found =
    let e : after ≡ searched s (next_word pool s.next s) = made ∙ ap (searched s) is in
    subst (λ (x : SlotSearch). FindsIn test pool x result) (sym e)
    (finds test pool s result I low (subst (λ (x : SlotSearch). Searches test result s x) e found))

-- After the last word of a slot each of them was loaded.
pub whole_behind : (before after : SlotSearch) (v : ℕ) → after ≡ searched before v → before.next ≡ Host → after.whole ≡ true
whole_behind before after v is last = ap (λ (s : SlotSearch). s.whole) is ∙ ap (λ f. (searched_at f before v).whole) last
