-- After each step of the walks of a line that reads a dirty log it knows what its next place asks.
use Rattle.std.proofs.lemmas.Bool.Decides.{nat_tests}
use Rattle.std.proofs.Common.{◌≡◌, ◌+◌, ◌<◌, ◌≤◌, ℕ, Bool, true, false, refl, ap, ◌∙◌, arith, subst, sym}
use Rattle.std.specs.Prelude.{◌||◌, not, is_some, if◌then◌else◌, List, Option, Some, None}
use Rattle.core_views.specs.declared.place.LogPlace.{LogPlace}
use Rattle.core_views.specs.declared.place.LogPlace.TheVariants.{Root, Walk, Protect}
use Rattle.core_views.specs.declared.sizes.Sizes.{Sizes}
use Rattle.core_views.specs.declared.topics.TableWalk.{TableWalk}
use Rattle.core_views.specs.declared.topics.Topics.{Topics}
use Rattle.core_views.specs.declared.trace.Command.{Command}
use Rattle.core_views.specs.declared.trace.Slot.{Slot}
use Rattle.core_views.specs.Held.{Held}
use Rattle.core_views.specs.LogCommands.{IsReadOf}
use Rattle.core_views.specs.SlotSets.{MemorySlots}
use Rattle.spte_words.specs.declared.spte_kind.SpteKind.{SpteKind}
use Rattle.spte_words.specs.declared.spte_kind.SpteKind.TheVariants as entry_kind
use Rattle.spte_words.specs.Entries.{can_write, kind_of}
use Rattle.part_steps.specs.declared.part_step.PartStep.TheVariants as part
use Rattle.part_steps.specs.ControlTopics.{at_root}
use Rattle.part_steps.specs.PartBounds.{PartRests}
use Rattle.part_steps.specs.PartHoldings.{IsOver}
use Rattle.part_steps.specs.PartSteps.{IsAtRest}
use Rattle.part_steps.specs.PartTasks.{entry_index}
use Rattle.part_steps.specs.PartTopics.{part_topics}
use Rattle.part_steps.specs.SweepTopics.{at_top, gone_up, has_done, has_entry, is_clear, walk_on, walks_anew}
use Rattle.part_steps.specs.WalkTopics.{gone_down, linked_page, walked}
use Rattle.mmu_core.specs.declared.log_next.LogNext.{LogNext}
use Rattle.mmu_core.specs.declared.log_next.LogNext.TheVariants as next
use Rattle.mmu_core.specs.forms.log.LogKnows.{HasRead, HasTaken, LogKnows, Reads, ReadsOut, WalksAlone}
use Rattle.mmu_core.specs.forms.log.LogSteps.{after_entry, after_page, frame_asked, log_next, log_part, next_page, slot_asked}
use Rattle.mmu_core.proofs.held.WalkSpans.{over_top}
use Rattle.mmu_core.proofs.lines.EitherPlace.{one_place}
use Rattle.mmu_core.proofs.forms.log.LogKnownWords.{frame_small, next_taken}
use Rattle.mmu_core.proofs.forms.access.WalkKnown.{above_lowest, gone_over, root_over, saw_it}
use Rattle.mmu_core.proofs.words.PartTopics.{begins_anew, sweeps_not}

-- where the line goes on to, and what is so where it is over
abbrev pub LogComes : LogNext → Command → Held → Type 0
LogComes (next.Goes p) command g = LogKnows p command g
LogComes (next.Refused refusal) command g = IsAtRest g.topics
LogComes next.Reads command g = IsAtRest g.topics × HasRead (slot_asked g command) command g

-- a hand with these sizes and slots, and what it holds and has read
abbrev pub with_words : Held → Sizes → MemorySlots → Topics → List ℕ → Held
with_words g z slots t words = record {
  state = record g.state { sizes = z };
  topics = t;
  cached = g.cached;
  slots = slots;
  harvest = words;
  lines = g.lines;
  answers = g.answers;
}

-- Who has the lock alone and sweeps nothing loads the next entry from its walk, or from its root.
walks_on : (t : Topics) → WalksAlone t → (t.invalidations.opened || is_some t.retired) ≡ false
    → walk_on t ≡ (if has_entry t.walk then at_top t.walk else t.walk)
walks_on t A neither =
    ap (λ (b : Bool). if b then gone_up t.walk else if walks_anew t then at_top t.walk else t.walk) (sweeps_not t neither)
    ∙ ap (λ (b : Bool). if b then at_top t.walk else t.walk) (begins_anew t A.outside A.alone neither)

-- An entry that was loaded, and leads no further, is one of the table.
entry_loaded : (gfn x : ℕ) (w : TableWalk) → has_entry (gone_down None w (entry_index gfn w.level) x) ≡ true
entry_loaded gfn x w = let low : entry_index gfn w.level < 512 = omega arith in grind (arith, nat_tests)

or_done : (a : Bool) {b : Bool} → b ≡ true → (a || b) ≡ true
or_done true is = refl
or_done false is = is

module _ (h g : Held) (command : Command) (v : ℕ) where
  -- the hand after the step
  abbrev behind : Topics → List ℕ → Held
  behind t words = with_words g h.state.sizes h.slots t words

  abbrev slot : Slot
  slot = slot_asked h command

  -- where a step leaves what it has read
  abbrev Knows : LogPlace → Topics → Type 0
  Knows q t = LogKnows q command (behind t h.harvest)

  -- What is known of the command, of the words and of the pages stays.
  pub reads_still : (t : Topics) (words : List ℕ) → Reads command h → Reads command (behind t words)
  reads_still t words R = record { reads = R.reads; accepted = R.accepted }

  pub outs_still : (t : Topics) (words : List ℕ) → ReadsOut command h → ReadsOut command (behind t words)
  outs_still t words R = (reads_still t words R.0, R.1)

  pub has_still : (t : Topics) → HasRead slot command h → HasRead slot command (behind t h.harvest)
  has_still t K = record { read = K.read; asked = K.asked }

  taken_still : (t : Topics) (page : ℕ) → HasTaken slot command page h → HasTaken slot command page (behind t h.harvest)
  taken_still t page T = record { low = T.low; taken = T.taken }

  walks_still : (w : TableWalk) → 1 ≤ w.level → WalksAlone h.topics → WalksAlone (record h.topics { walk = w })
  walks_still w there A =
      record { outside = A.outside; alone = A.alone; no_set = A.no_set; there = there; unasked = A.unasked; unawaited = A.unawaited }

  -- ---- the walks

  -- From a page on.
  page_known : (t : Topics) (o : Option ℕ) → WalksAlone t → is_clear false t.walk ≡ true → t.owned ≡ None → ReadsOut command h → HasRead slot command h
      → ((page : ℕ) → o ≡ Some page → HasTaken slot command page h)
      → ((page : ℕ) → o ≡ Some page → has_entry t.walk ≡ false → IsOver (frame_asked slot command page) t.walk) → Knows (after_page o) t
  page_known t None A clear none R K taken over = (A, none, outs_still t h.harvest R, has_still t K, clear)
  page_known t (Some page) A clear none R K taken over =
      (A, none, outs_still t h.harvest R, has_still t K, taken_still t page (taken page refl), over page refl)

  -- From the page after this one on, where an entry was loaded or changed.
  pub past_known : (page x : ℕ) (w : TableWalk) → 1 ≤ w.level → WalksAlone h.topics → h.topics.owned ≡ None → ReadsOut command h → HasRead slot command h
      → HasTaken slot command page h → has_done false (can_write x) (kind_of w.level x) ≡ true
      → Knows (after_page (next_page slot command h.harvest (page + 1)))
      (record h.topics { walk = gone_down None w (entry_index (frame_asked slot command page) w.level) x })
  past_known page x w there A none R K T done =
      page_known _ _ (walks_still (gone_down None w (entry_index (frame_asked slot command page) w.level) x) there A)
      (or_done (not (has_entry (gone_down None w (entry_index (frame_asked slot command page) w.level) x))) done) none R K
      (λ p is. let low = T.low in next_taken slot command h (page + 1) p (omega (arith, low)) is)
      (λ p is left. absurd (let loaded = entry_loaded (frame_asked slot command page) x w in cc (left, loaded)))

  -- After an entry on the way to the leaf.
  entry_known : (page : ℕ) (w : TableWalk) → w.level ≤ 4 → IsOver (frame_asked slot command page) w → WalksAlone h.topics → h.topics.owned ≡ None
      → ReadsOut command h → HasRead slot command h → HasTaken slot command page h
      → Knows (after_entry (kind_of w.level v) page (after_page (next_page slot command h.harvest (page + 1))) v)
      (record h.topics { walk = walked w (entry_index (frame_asked slot command page) w.level) v })
  entry_known page w low over A none R K T = by (kind_of w.level v) refl
    where
      index : ℕ
      index = entry_index (frame_asked slot command page) w.level

      by : (k : SpteKind) → kind_of w.level v ≡ k
          → Knows (after_entry k page (after_page (next_page slot command h.harvest (page + 1))) v)
          (record h.topics { walk = gone_down (linked_page k) w index v })
      by (entry_kind.Table below) is =
          let high = above_lowest w.level v below over.there is in
          let t : Topics = record h.topics { walk = gone_down (Some below) w index v } in (
            walks_still (gone_down (Some below) w index v) (omega (arith, high)) A,
            none,
            outs_still t h.harvest R,
            has_still t K,
            taken_still t page T,
            λ left. gone_over (frame_asked slot command page) below v w high low over,
          )
      by entry_kind.Leaf is =
          let t : Topics = record h.topics { walk = gone_down None w index v } in
          one_place (λ q. Knows q t) (can_write v) (Protect page) (after_page (next_page slot command h.harvest (page + 1)))
          (λ writes. (
            walks_still (gone_down None w index v) over.there A,
            none,
            outs_still t h.harvest R,
            has_still t K,
            taken_still t page T,
            saw_it (frame_asked slot command page) v w over,
            is,
            writes,
          ))
          (λ forbids. past_known page v w over.there A none R K T (ap (has_done false (can_write v)) is ∙ ap (λ (b : Bool). not b) forbids))
      by _ is = past_known page v w over.there A none R K T (ap (has_done false (can_write v)) is)

  -- After the next entry of the walk, which begins anew where the last one led no further.
  pub walk_known : (page : ℕ) → PartRests h → IsReadOf command slot → (h.topics.invalidations.opened || is_some h.topics.retired) ≡ false
      → LogKnows (Walk page) command h
      → LogComes (log_next (Walk page) command h v) command (behind (part_topics (log_part (Walk page) h command) h.topics v) h.harvest)
  walk_known page R F neither K =
      subst (λ (w : TableWalk). Knows (after_entry (kind_of w.level v) page (after_page (next_page slot command h.harvest (page + 1))) v)
      (part_topics (log_part (Walk page) h command) h.topics v)) (sym (walks_on h.topics K.0 neither)) (by (has_entry h.topics.walk) refl)
    where
      gfn : ℕ
      gfn = frame_asked slot command page

      by : (b : Bool) → has_entry h.topics.walk ≡ b
          → Knows
          (after_entry (kind_of (if b then at_top h.topics.walk else h.topics.walk).level v) page
          (after_page (next_page slot command h.harvest (page + 1))) v)
          (part_topics (if b then part.WalkAnew gfn else part.Walk gfn) h.topics v)
      by true is =
          entry_known page (at_top h.topics.walk) (omega arith) (over_top gfn h.topics.walk (frame_small slot command page F K.4.low)) K.0 K.1 K.2 K.3 K.4
      by false is = entry_known page h.topics.walk R.level (K.5 is) K.0 K.1 K.2 K.3 K.4

  -- At the root.
  pub root_known : (b : Bool) → b ≡ true → IsReadOf command slot → LogKnows Root command h
      → Knows (after_page (next_page slot command h.harvest 0)) (record h.topics { walk = at_root b h.topics.walk v })
  root_known false is F K = absurd (cc is)
  root_known true is F K =
      page_known (record h.topics { walk = at_root true h.topics.walk v }) _
      (record { outside = K.0.outside; alone = K.0.holds; no_set = K.0.no_set; there = omega arith; unasked = K.4; unawaited = K.5 })
      refl K.1 K.2 K.3 (λ page found. taken page found)
      (λ page found left. root_over (frame_asked slot command page) v h.topics.walk (frame_small slot command page F (taken page found).low))
    where
      taken : (page : ℕ) → next_page slot command h.harvest 0 ≡ Some page → HasTaken slot command page h
      taken page found = next_taken slot command h 0 page (omega arith) found
