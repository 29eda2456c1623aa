-- What a line excuses that has taken pages out of a dirty log, it excuses after its step; but for the page that it passes, as it comes to its leaf.
use Rattle.std.proofs.Common.{◌+◌, ◌-◌, ◌<◌, ◌≡◌, ◌≢◌, ◌≤◌, ◌⊎◌, ◌∙◌, ap, arith, inl, inr, refl, subst, suc, sym, zero, ℕ}
use Rattle.std.proofs.lemmas.Bool.Decides.{nat_tests}
use Rattle.std.specs.Int.Bits.{bit_and}
use Rattle.std.specs.List.{range_with_len}
use Rattle.std.specs.Prelude.{◌&&◌, ◌||◌, Bool, List, None, Option, Some, cond, false, find, if◌then◌else◌, not, true}
use Rattle.core_views.specs.Held.{Held}
use Rattle.core_views.specs.LogCommands.{count_asked, has_bit}
use Rattle.core_views.specs.SlotSets.{MemorySlots}
use Rattle.core_views.specs.declared.place.LogPlace.{LogPlace}
use Rattle.core_views.specs.declared.place.LogPlace.TheVariants as log
use Rattle.core_views.specs.declared.topics.Flush.{Flush}
use Rattle.core_views.specs.declared.topics.TableWalk.{TableWalk}
use Rattle.core_views.specs.declared.trace.Command.{Command}
use Rattle.core_views.specs.declared.trace.Slot.{Slot as SlotOf}
use Rattle.spte_words.proofs.ProtectedEntries.{protected_denies, protected_kind}
use Rattle.spte_words.specs.Entries.{can_write, kind_of, without_write}
use Rattle.spte_words.specs.declared.spte_kind.SpteKind.{SpteKind}
use Rattle.spte_words.specs.declared.spte_kind.SpteKind.TheVariants as entry_kind
use Rattle.part_steps.specs.PartTasks.{entry_index}
use Rattle.part_steps.specs.PartTopics.{part_topics}
use Rattle.part_steps.specs.SweepTopics.{at_top, has_done, has_entry, is_done, walk_on}
use Rattle.part_steps.specs.WalkTopics.{gone_down, linked_page, walked}
use Rattle.part_steps.specs.declared.part_step.PartStep.TheVariants as part
use Rattle.mmu_core.proofs.lines.EitherPlace.{either_place, one_place}
use Rattle.mmu_core.proofs.forms.log.LogFalls.{walks_on}
use Rattle.mmu_core.proofs.forms.log.ReadingPlaces.{AfterReading}
use Rattle.mmu_core.proofs.machine.Columns.{same_or}
use Rattle.mmu_core.specs.declared.log_next.LogNext.{LogNext}
use Rattle.mmu_core.specs.declared.log_next.LogNext.TheVariants as next
use Rattle.mmu_core.specs.forms.log.LogKnows.{LogKnows}
use Rattle.mmu_core.specs.forms.log.LogSteps.{after_entry, after_page, frame_asked, log_next, log_part, mask_read, next_page, read_more, reads_last}
use Rattle.mmu_core.specs.forms.log.LogSteps.{slot_asked}
use Rattle.log_invariant.proofs.forms.log.ReadFrames.{read_still}
use Rattle.log_invariant.specs.Forbidding.{ForbidsLater, Forbidding, IsUnpassed, no_forbidding}
use Rattle.log_invariant.specs.forms.log.LogReads.{IsRead, has_taken, read_so_far, taken_by}

-- The guest frame's page is the one to whose leaf the line walks, and there is nothing left to do at the entry that was loaded last, or changed.
abbrev pub IsPassedBy : LogPlace → SlotOf → Command → TableWalk → ℕ → Type 0
IsPassedBy (log.Walk page) slot command after gfn = (gfn ≡ frame_asked slot command page) × ((has_entry after && is_done false after) ≡ true)
IsPassedBy (log.Protect page) slot command after gfn = (gfn ≡ frame_asked slot command page) × ((has_entry after && is_done false after) ≡ true)
IsPassedBy _ slot command after gfn = ⊥

-- what a reading has taken after its step, where the order comes to this
abbrev pub taken_next : LogNext → Command → Held → Forbidding
taken_next (next.Goes q) command h = taken_by q command h
taken_next _ command h = no_forbidding

-- ---- the next page

-- A search of a range finds a number that passes, and none after one that does.
found_by : (a n : ℕ) (test : ℕ → Bool) (x : ℕ) → a ≤ x → x < a + n → test x ≡ true → (m : ℕ) × (find test (range_with_len a n) ≡ Some m) × (m ≤ x)
found_by a zero test x low high is = absurd (omega arith)
found_by a (suc n) test x low high is = by (test a) refl (λ more. found_by (a + 1) n test x more (omega (arith, high)) is)
  where
    by : (b : Bool) → test a ≡ b → (a + 1 ≤ x → (m : ℕ) × (find test (range_with_len (a + 1) n) ≡ Some m) × (m ≤ x))
        → (m : ℕ) × (cond b (Some a) (find test (range_with_len (a + 1) n)) ≡ Some m) × (m ≤ x)
    by true here later = (a, refl, low)
    by false here later = later (by_other (same_or x a))
      where
        by_other : (x ≡ a) ⊎ (x ≢ a) → a + 1 ≤ x
        by_other (inl e) = let passes = ap test (sym e) ∙ is in absurd (cc (passes, here))
        by_other (inr ne) = omega (arith, ne, low)

page_taken : (o : Option ℕ) → has_taken (after_page o) ≡ true
page_taken None = refl
page_taken (Some page) = refl

-- Of the pages from this one on the line goes on to the first that it took.
goes_to_page : (slot : SlotOf) (command : Command) (words : List ℕ) (from gfn : ℕ) → IsRead slot command words gfn → frame_asked slot command from ≤ gfn
    → (flush : Flush) → IsUnpassed (read_so_far (after_page (next_page slot command words from)) slot command flush) gfn
goes_to_page slot command words from gfn R later flush =
    subst (λ (o : Option ℕ). IsUnpassed (read_so_far (after_page o) slot command flush) gfn) (sym found.1) (omega (arith, least, start))
  where
    start : frame_asked slot command 0 ≤ gfn
    start = R.from

    found : (m : ℕ) × (next_page slot command words from ≡ Some m) × (m ≤ gfn - frame_asked slot command 0)
    found =
        let below = R.below in
        found_by from (count_asked command slot - from) (λ page. has_bit words page) (gfn - frame_asked slot command 0) (omega (arith, later))
        (omega (arith, start, below)) R.bit

    least : found.0 ≤ gfn - frame_asked slot command 0
    least = found.2

-- An entry that was loaded, and leads no further, is one of the table.
entry_loaded : (gfn x : ℕ) (w : TableWalk) → has_entry (gone_down None w (entry_index gfn w.level) x) ≡ true
entry_loaded gfn x w = let low : entry_index gfn w.level < 512 = omega arith in grind (arith, nat_tests)

-- What is so of a hand with these slots and these words that were read is so of the hand.
pub at_hand : (g : Held) (slots : MemorySlots) (words : List ℕ) → g.slots ≡ slots → g.harvest ≡ words → (P : Held → Type 0)
    → P (record g { slots = slots; harvest = words }) → P g
at_hand g slots words same read P so =
    subst (λ (s : MemorySlots). P (record g { slots = s; harvest = g.harvest })) (sym same)
    (subst (λ (w : List ℕ). P (record g { slots = slots; harvest = w })) (sym read) so)

-- ---- after a step

module _ (command : Command) (h : Held) (x : ℕ) (g : Held) (gfn : ℕ) where
  abbrev slot : SlotOf
  slot = slot_asked h command

  -- The line excuses the guest frame where it stands there after the step; or it has passed the frame.
  abbrev Forbids : LogPlace → Type 0
  Forbids q = ForbidsLater (taken_by q command g) gfn

  abbrev Passes : ℕ → Type 0
  Passes page = (gfn ≡ frame_asked slot command page) × ((has_entry g.topics.walk && is_done false g.topics.walk) ≡ true)

  -- It stands at a page that isn't after the guest frame's, or is to come to it.
  stands_at : (q : LogPlace) → g.slots ≡ h.slots → g.harvest ≡ h.harvest → has_taken q ≡ true → IsRead slot command h.harvest gfn
      → IsUnpassed (read_so_far q slot command g.topics.flush) gfn → Forbids q
  stands_at q slots words taken R left =
      at_hand g h.slots h.harvest slots words (λ k. ForbidsLater (taken_by q command k) gfn) ((taken, R), left)

  goes_later : (from : ℕ) → g.slots ≡ h.slots → g.harvest ≡ h.harvest → IsRead slot command h.harvest gfn → frame_asked slot command from ≤ gfn
      → Forbids (after_page (next_page slot command h.harvest from))
  goes_later from slots words R later =
      stands_at (after_page (next_page slot command h.harvest from)) slots words (page_taken (next_page slot command h.harvest from)) R
      (goes_to_page slot command h.harvest from gfn R later g.topics.flush)

  -- It goes on after a page, where there is nothing left to do at the entry w.
  goes_past : (page : ℕ) (walk : TableWalk) (w : ℕ) → g.slots ≡ h.slots → g.harvest ≡ h.harvest
      → g.topics.walk ≡ gone_down None walk (entry_index (frame_asked slot command page) walk.level) w
      → has_done false (can_write w) (kind_of walk.level w) ≡ true → IsRead slot command h.harvest gfn → frame_asked slot command page ≤ gfn
      → Forbids (after_page (next_page slot command h.harvest (page + 1))) ⊎ Passes page
  goes_past page walk w slots words is done R left = by (same_or gfn (frame_asked slot command page))
    where
      on : TableWalk
      on = gone_down None walk (entry_index (frame_asked slot command page) walk.level) w

      by : (gfn ≡ frame_asked slot command page) ⊎ (gfn ≢ frame_asked slot command page)
          → Forbids (after_page (next_page slot command h.harvest (page + 1))) ⊎ Passes page
      by (inl e) =
          inr (
            e,
            subst (λ (k : TableWalk). (has_entry k && is_done false k) ≡ true) (sym is)
                (ap (λ (b : Bool). b && is_done false on) (entry_loaded (frame_asked slot command page) w walk) ∙ done),
          )
      by (inr ne) = inl (goes_later (page + 1) slots words R (omega (arith, left, ne)))

  -- It loads an entry on the way to the leaf of a page.
  loads_entry : (page : ℕ) (walk : TableWalk) → walk_on h.topics ≡ walk → g.slots ≡ h.slots → g.harvest ≡ h.harvest
      → g.topics.walk ≡ walked walk (entry_index (frame_asked slot command page) walk.level) x → IsRead slot command h.harvest gfn
      → frame_asked slot command page ≤ gfn
      → Forbids (after_entry (kind_of (walk_on h.topics).level x) page (after_page (next_page slot command h.harvest (page + 1))) x) ⊎ Passes page
  loads_entry page walk on slots words is R left =
      subst (λ (w : TableWalk). Forbids (after_entry (kind_of w.level x) page next x) ⊎ Passes page) (sym on) (by (kind_of walk.level x) refl is)
    where
      next : LogPlace
      next = after_page (next_page slot command h.harvest (page + 1))

      past : has_done false (can_write x) (kind_of walk.level x) ≡ true
          → g.topics.walk ≡ gone_down None walk (entry_index (frame_asked slot command page) walk.level) x → Forbids next ⊎ Passes page
      past done is = goes_past page walk x slots words is done R left

      by : (k : SpteKind) → kind_of walk.level x ≡ k
          → g.topics.walk ≡ gone_down (linked_page k) walk (entry_index (frame_asked slot command page) walk.level) x
          → Forbids (after_entry k page next x) ⊎ Passes page
      by (entry_kind.Table below) kind is = inl (stands_at (log.Walk page) slots words refl R left)
      by entry_kind.Leaf kind is =
          one_place (λ q. Forbids q ⊎ Passes page) (can_write x) (log.Protect page) next (λ allows. inl (stands_at (log.Protect page) slots words refl R left))
          (λ denies. past (ap (has_done false (can_write x)) kind ∙ ap (λ (b : Bool). not (false || b)) denies) is)
      by entry_kind.Absent kind is = past (ap (has_done false (can_write x)) kind) is
      by entry_kind.Frozen kind is = past (ap (has_done false (can_write x)) kind) is

  walk_excuse : (page : ℕ) → AfterReading (log.Walk page) command h x g
      → g.topics.walk ≡ (part_topics (log_part (log.Walk page) h command) h.topics x).walk → LogKnows (log.Walk page) command h → h.topics.retired ≡ None
      → h.topics.invalidations.opened ≡ false → ForbidsLater (taken_by (log.Walk page) command h) gfn
      → Forbids (after_entry (kind_of (walk_on h.topics).level x) page (after_page (next_page slot command h.harvest (page + 1))) x) ⊎ Passes page
  walk_excuse page A walks K none closed W = by (has_entry h.topics.walk) (walks_on h.topics none closed K.0) walks
    where
      frame : ℕ
      frame = frame_asked slot command page

      by : (has : Bool) → walk_on h.topics ≡ (if has then at_top h.topics.walk else h.topics.walk)
          → g.topics.walk ≡ (part_topics (if has then part.WalkAnew frame else part.Walk frame) h.topics x).walk
          → Forbids (after_entry (kind_of (walk_on h.topics).level x) page (after_page (next_page slot command h.harvest (page + 1))) x) ⊎ Passes page
      by true on is = loads_entry page (at_top h.topics.walk) on A.slots (A.words _ refl) is W.0.1 W.1
      by false on is = loads_entry page h.topics.walk on A.slots (A.words _ refl) is W.0.1 W.1

  protect_excuse : (page : ℕ) → AfterReading (log.Protect page) command h x g
      → g.topics.walk ≡ (part_topics (log_part (log.Protect page) h command) h.topics x).walk → LogKnows (log.Protect page) command h
      → ForbidsLater (taken_by (log.Protect page) command h) gfn → Forbids (after_page (next_page slot command h.harvest (page + 1))) ⊎ Passes page
  protect_excuse page A walks K W =
      let leaf = protected_kind h.topics.walk.level h.topics.walk.entry K.6 in
      let denies = protected_denies h.topics.walk.entry in
      goes_past page h.topics.walk (without_write h.topics.walk.entry) A.slots (A.words _ refl) walks
      (ap (has_done false (can_write (without_write h.topics.walk.entry))) leaf ∙ ap (λ (b : Bool). not (false || b)) denies) W.0.1 W.1

  take_excuse : AfterReading (log.Take true) command h x g → ForbidsLater (taken_by (log.Take true) command h) gfn
      → Forbids (if reads_last true slot command h.topics then log.Root else log.Take true)
  take_excuse A W =
      at_hand g h.slots words A.slots (A.words _ refl)
      (λ k. ForbidsLater (taken_by (if reads_last true slot command h.topics then log.Root else log.Take true) command k) gfn)
      (either_place (λ q. ForbidsLater (taken_by q command (record g { slots = h.slots; harvest = words })) gfn) (reads_last true slot command h.topics)
      log.Root (log.Take true) ((refl, still), omega arith) ((refl, still), omega arith))
    where
      words : List ℕ
      words = read_more true slot command h x

      still : IsRead slot command words gfn
      still = read_still slot command h.harvest (bit_and x (mask_read slot command h.topics.next_log_word)) gfn W.0.1

  -- What it excuses it excuses after its step, or passes it.
  pub log_excuse : (q : LogPlace) → AfterReading q command h x g → g.topics.walk ≡ (part_topics (log_part q h command) h.topics x).walk → LogKnows q command h
      → h.topics.retired ≡ None → h.topics.invalidations.opened ≡ false
      → ForbidsLater (taken_by q command h) gfn
      → ForbidsLater (taken_next (log_next q command h x) command g) gfn ⊎ IsPassedBy q (slot_asked h command) command g.topics.walk gfn
  log_excuse (log.Take true) A walks K none closed W = inl (take_excuse A W)
  log_excuse (log.Take false) A walks K none closed W = absurd (let no = W.0.0 in cc no)
  log_excuse log.Root A walks K none closed W = inl (goes_later 0 A.slots (A.words _ refl) W.0.1 (W.0.1).from)
  log_excuse (log.Walk page) A walks K none closed W = walk_excuse page A walks K none closed W
  log_excuse (log.Protect page) A walks K none closed W = protect_excuse page A walks K W
  log_excuse log.Release A walks K none closed W = absurd W.1
  log_excuse log.Ask A walks K none closed W = absurd W.1
  log_excuse log.Await A walks K none closed W = absurd W.1
  log_excuse _ A walks K none closed W = absurd (let no = W.0.0 in cc no)
