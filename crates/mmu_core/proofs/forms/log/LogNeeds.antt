-- A line that reads a dirty log has what each of its steps needs: its slot has a log, of which the words are the machine's.
use Rattle.std.proofs.lemmas.Bool.{or_parts}
use Rattle.std.proofs.lemmas.Bool.Decides.{nat_tests}
use Rattle.std.proofs.lemmas.Nat.{and_le_r}
use Rattle.std.proofs.Math.Nat.{pow-le-pow_right}
use Rattle.std.proofs.Common.{◌≡◌, ◌+◌, ◌-◌, ◌*◌, ◌%◌, ◌^◌, ◌<◌, ◌≤◌, ℕ, Bool, true, false, refl, subst, sym, ap, ◌∙◌, arith, length}
use Rattle.std.specs.Prelude.{◌||◌, ◌==◌, ◌∷◌, [], not, nat_le, nat_lt, if◌then◌else◌, Option, Some, None, is_none, is_some, option_map}
use Rattle.core_views.specs.declared.actor.Actor.TheVariants.{Manager}
use Rattle.core_views.specs.declared.answer.Refusal.TheVariants.{BadRange, Missing, NoLog}
use Rattle.core_views.specs.declared.place.LogPlace.{LogPlace}
use Rattle.core_views.specs.declared.place.LogPlace.TheVariants.{Exclude, Take, Walk, Protect, Release, Ask, Await, Peek}
use Rattle.core_views.specs.declared.memory_slot.MemorySlot.{MemorySlot}
use Rattle.core_views.specs.declared.topics.Topics.{Topics}
use Rattle.core_views.specs.declared.trace.Command.{Command}
use Rattle.core_views.specs.declared.trace.Command.TheVariants.{ClearLog, GetLog}
use Rattle.core_views.specs.declared.trace.Slot.{Slot}
use Rattle.core_views.specs.Harvests.{slot_read}
use Rattle.core_views.specs.Held.{Held}
use Rattle.core_views.specs.LogCommands.{IsReadOf, count_asked, first_asked, is_bad_range, low_bits, mask_asked, word_given, words_asked}
use Rattle.core_views.specs.Slots.{first_of, is_some_and}
use Rattle.core_views.specs.SlotSets.{slot_of_id}
use Rattle.spte_words.specs.Areas.{words_of_bits}
use Rattle.part_steps.specs.declared.part_step.PartStep.TheVariants as part
use Rattle.part_steps.specs.PartSteps.{PartNeeds}
use Rattle.part_steps.specs.SweepTopics.{has_entry}
use Rattle.mmu_core.proofs.lines.ReleaseNeeds.{release_closed}
use Rattle.mmu_core.specs.invariant.SlotSetPart.{Fits}
use Rattle.mmu_core.specs.forms.log.LogKnows.{HasRoomFor, IsReading, LogKnows, LogRests, Reads}
use Rattle.mmu_core.specs.forms.log.LogSteps.{frame_asked, log_part, slot_asked, word_end, word_read}
use Rattle.mmu_core.specs.forms.slot_change.SlotTargets.{slot_or_none}
use Rattle.mmu_core.proofs.lines.EitherPlace.{one_place}
use Rattle.mmu_core.proofs.words.PartTopics.{begins_anew, sweeps_not}

-- ---- the slot that it reads

-- The slot is there and has a log; the line asks for pages of it, from the first one of a word on.
pub record ReadsSlot (found : Option MemorySlot) (first count : ℕ) : Type 0 where
  pub slot : MemorySlot
  pub is : found ≡ Some slot
  pub logged : slot.logged ≡ true
  pub whole : first % 64 ≡ 0
  pub inside : first + count ≤ slot.slot.pages

good_range : (pages first count : ℕ) → is_bad_range pages first count ≡ false → (first % 64 ≡ 0) × (first + count ≤ pages)
good_range pages first count e =
    let N = or_parts (not (first % 64 == 0)) _ e in
    let M = or_parts (nat_lt pages (first + count)) _ N.1 in
    (by (first % 64 == 0) refl N.0, grind (arith, nat_tests))
  where
    by : (b : Bool) → (first % 64 == 0) ≡ b → not b ≡ false → first % 64 ≡ 0
    by true is e = grind (arith, nat_tests)
    by false is e = absurd (cc e)

get_reads : (found : Option MemorySlot)
    → first_of ((is_none found, Missing) ∷ (not (is_some_and (λ slot. slot.logged) found), NoLog) ∷ []) ≡ None
    → ReadsSlot found 0 (slot_or_none (option_map (λ m. m.slot) found)).pages
get_reads None e = absurd (cc e)
get_reads (Some m) e = by m.logged refl e
  where
    by : (logged : Bool) → m.logged ≡ logged → first_of ((not logged, NoLog) ∷ []) ≡ None → ReadsSlot (Some m) 0 m.slot.pages
    by true is e = record { slot = m; is = refl; logged = is; whole = refl; inside = omega arith }
    by false is e = absurd (cc e)

clear_reads : (found : Option MemorySlot) (first count : ℕ)
    → first_of (
    (is_none found, Missing)
    ∷ (not (is_some_and (λ slot. slot.logged) found), NoLog)
    ∷ (is_some_and (λ slot. is_bad_range slot.slot.pages first count) found, BadRange)
    ∷ []) ≡ None
    → ReadsSlot found first count
clear_reads None first count e = absurd (cc e)
clear_reads (Some m) first count e = by m.logged (is_bad_range m.slot.pages first count) refl refl e
  where
    by : (logged bad : Bool) → m.logged ≡ logged → is_bad_range m.slot.pages first count ≡ bad → first_of ((not logged, NoLog) ∷ (bad, BadRange) ∷ []) ≡ None
        → ReadsSlot (Some m) first count
    by true false is good e =
        let G = good_range m.slot.pages first count good in record { slot = m; is = refl; logged = is; whole = G.0; inside = G.1 }
    by true true is good e = absurd (cc e)
    by false bad is good e = absurd (cc e)

-- A line that isn't refused reads a slot that has a log.
pub reads_slot : (command : Command) (h : Held) → Reads command h
    → ReadsSlot (slot_read h.slots command) (first_asked command) (count_asked command (slot_asked h command))
reads_slot (GetLog id) h K = get_reads (slot_of_id id h.slots) K.accepted
reads_slot (ClearLog id first count words) h K = clear_reads (slot_of_id id h.slots) first count K.accepted
reads_slot _ h K = absurd (let reads = K.reads in cc reads)

asked_is : (command : Command) (h : Held) (slot : MemorySlot) → slot_read h.slots command ≡ Some slot → slot_asked h command ≡ slot.slot
asked_is command h slot is = ap (λ (o : Option MemorySlot). slot_or_none (option_map (λ m. m.slot) o)) is

-- What it asks for is of the slot, and of the machine.
pub read_is_of : (command : Command) (h : Held) → Fits h.state.sizes (slot_asked h command) → Reads command h → IsReadOf command (slot_asked h command)
read_is_of command h F K =
    let S = reads_slot command h K in
    record {
      inside =
          subst (λ (slot : Slot). first_asked command + count_asked command (slot_asked h command) ≤ slot.pages) (sym (asked_is command h S.slot S.is))
          S.inside;
      below = F.frames;
    }

-- ---- its words and its frames

-- The words that it reads are those of the machine's log.
pub word_end_low : (command : Command) (h : Held) → Fits h.state.sizes (slot_asked h command) → Reads command h
    → word_end (slot_asked h command) command ≤ words_of_bits h.state.sizes.pages
word_end_low command h F K =
    let inside = (read_is_of command h F K).inside in
    let pages = F.pages in
    omega (arith, inside, pages)

-- So is the one that comes next.
pub word_read_low : (begun : Bool) (command : Command) (h : Held) → Fits h.state.sizes (slot_asked h command) → Reads command h
    → IsReading begun (slot_asked h command) command h
    → word_read begun (slot_asked h command) command h.topics < words_of_bits h.state.sizes.pages
word_read_low begun command h F K R = let left = R.left in let end_ = word_end_low command h F K in omega (arith, left, end_)

low_small : (n : ℕ) → low_bits n < 2 ^ 64
low_small n = by (nat_le 64 n) refl
  where
    by : (b : Bool) → nat_le 64 n ≡ b → (if b then 2 ^ 64 - 1 else 2 ^ n - 1) < 2 ^ 64
    by true is = omega arith
    by false is =
        let few : n ≤ 63 = grind (arith, nat_tests) in
        let most : 2 ^ n ≤ 2 ^ 63 = pow-le-pow_right (omega arith) few in
        omega (arith, most)

-- The bits for which it asks are of 64 bits.
pub mask_small : (command : Command) (slot : Slot) (word : ℕ) → mask_asked command slot word < 2 ^ 64
mask_small command slot word =
    let few = and_le_r (word_given command word) (low_bits (count_asked command slot - 64 * word)) in
    let small = low_small (count_asked command slot - 64 * word) in
    omega (arith, few, small)

-- The guest frame of a page for which it asks is below 2 ^ 36.
pub frame_small : (command : Command) (h : Held) (page : ℕ) → Fits h.state.sizes (slot_asked h command) → Reads command h
    → page < count_asked command (slot_asked h command) → frame_asked (slot_asked h command) command page < 2 ^ 36
frame_small command h page F K low =
    let I = read_is_of command h F K in
    let inside = I.inside in
    let below = I.below in
    omega (arith, inside, below, low)

-- It asks for no more pages than the machine has.
pub count_low : (command : Command) (h : Held) → Fits h.state.sizes (slot_asked h command) → Reads command h
    → count_asked command (slot_asked h command) ≤ h.state.sizes.pages
count_low command h F K =
    let inside = (read_is_of command h F K).inside in
    let pages = F.pages in
    omega (arith, inside, pages)

-- ---- what each step needs

-- There is room for each word but the first, of which there are as many as pages have.
few_words : (command : Command) (h : Held) → Fits h.state.sizes (slot_asked h command) → Reads command h
    → length h.harvest < words_asked command (slot_asked h command) → HasRoomFor command h
few_words (GetLog id) h F K less = let pages = F.pages in omega (arith, less, pages)
few_words (ClearLog id first count words) h F K less = omega (arith, less)
few_words _ h F K less = absurd (let reads = K.reads in cc reads)

room : (command : Command) (h : Held) → Fits h.state.sizes (slot_asked h command) → Reads command h → IsReading true (slot_asked h command) command h
    → HasRoomFor command h
room command h F K R =
    let left = R.left in
    let from = R.from refl in
    let read = R.read refl in
    few_words command h F K (omega (arith, left, from, read))

has_room : (begun : Bool) (command : Command) (h : Held) → Fits h.state.sizes (slot_asked h command) → Reads command h
    → IsReading begun (slot_asked h command) command h → begun ≡ true → HasRoomFor command h
has_room true command h F K R is = room command h F K R
has_room false command h F K R is = absurd (cc is)

-- Who reads a log holds no own invalidation and no retired page: it sweeps nothing.
pub sweeps_neither : (t : Topics) → t.retired ≡ None → t.invalidations.opened ≡ false → (t.invalidations.opened || is_some t.retired) ≡ false
sweeps_neither t none closed = ap (λ (b : Bool). b || is_some t.retired) closed ∙ ap (λ (o : Option ℕ). is_some o) none

walk_needs : (page : ℕ) (h : Held) (command : Command) → h.topics.retired ≡ None → h.topics.invalidations.opened ≡ false
    → Fits h.state.sizes (slot_asked h command) → LogKnows (Walk page) command h → PartNeeds (log_part (Walk page) h command) h
walk_needs page h command none closed F K =
    let neither = sweeps_neither h.topics none closed in
    one_place (λ step. PartNeeds step h) (has_entry h.topics.walk) (part.WalkAnew gfn) (part.Walk gfn)
    (λ has. record {
      alone = K.0.alone;
      outside = K.0.outside;
      sweeps_not = neither;
      there = K.0.there;
      loaded = has;
      small = frame_small command h page F K.2.0 K.4.low;
    })
    (λ has. (K.5 has, sweeps_not h.topics neither, begins_anew h.topics K.0.outside K.0.alone neither ∙ has))
  where
    gfn : ℕ
    gfn = frame_asked (slot_asked h command) command page

-- A line that reads a log has what each of its steps needs, and room for what it reads.
pub log_needs : (p : LogPlace) (h : Held) (command : Command) → h.state.actor ≡ Manager → h.topics.retired ≡ None
    → h.topics.invalidations.opened ≡ false → Fits h.state.sizes (slot_asked h command) → LogKnows p command h
    → PartNeeds (log_part p h command) h × LogRests p command h
log_needs Exclude h command manager none closed F K = (K.0.loose, tt)
log_needs (Take begun) h command manager none closed F K = (
  record {
    reads = record { manager = manager; there = word_read_low begun command h F K.2.0 K.3 };
    alone = K.0.holds;
    small = mask_small command (slot_asked h command) _;
  },
  has_room begun command h F K.2.0 K.3,
)
log_needs (Walk page) h command manager none closed F K = (walk_needs page h command none closed F K, tt)
log_needs (Protect page) h command manager none closed F K = (
  record { alone = K.0.alone; outside = K.0.outside; none_open = closed; saw = K.5; leaf = K.6; writes = K.7 },
  tt,
)
log_needs Release h command manager none closed F K = (release_closed h K.0.alone closed K.0.no_set K.4, tt)
log_needs Ask h command manager none closed F K = (
  record {
    low = K.4;
    next = refl;
    outside = K.0.outside;
    alone = λ opened. absurd (cc (opened, closed));
    swept = λ opened. absurd (cc (opened, closed));
    loose = λ is. K.0.loose;
  },
  tt,
)
log_needs Await h command manager none closed F K = ((let asked = K.4 in let lt = K.5 in omega (arith, asked, lt), refl, K.0.outside), tt)
log_needs (Peek begun) h command manager none closed F K =
    (record { manager = manager; there = word_read_low begun command h F K.1 K.3 }, has_room begun command h F K.1 K.3)
log_needs _ h command manager none closed F K = (tt, tt)
