-- After a run from the start the words show guest memory: they are all words of the machine, the manager's record has the slots, and both say what flat memory
-- says.
use Rattle.std.proofs.Common.{◌≡◌, ◌<◌, ◌≤◌, ◌+◌, ◌∙◌, ℕ, zero, suc, List, [], ◌∷◌, Bool, true, false, ap, arith, refl, subst, sym}
use Rattle.std.proofs.lemmas.Bool.Decides.{nat_tests}
use Rattle.std.proofs.lemmas.List.Elements.{All-append, All-cons, All-nil}
use Rattle.std.specs.Prelude.{All, if◌then◌else◌, nat_lt, slice_index}
use Rattle.core_views.specs.declared.actor.Actor.TheVariants.{Manager}
use Rattle.core_views.specs.declared.kind.Kind.{Kind}
use Rattle.core_views.specs.declared.sizes.Sizes.{Sizes}
use Rattle.core_views.specs.declared.trace.Command.TheVariants.{GetLog}
use Rattle.core_views.specs.declared.trace.Line.{Line}
use Rattle.core_views.specs.Events.{after_all}
use Rattle.core_views.specs.Flat.{Facts, first_flat}
use Rattle.core_views.specs.Held.{Held}
use Rattle.core_views.specs.Migrations.{image_words}
use Rattle.core_views.specs.Sizes.{actors_of, index_of}
use Rattle.spte_words.specs.Areas.{content_index, place, size_of}
use Rattle.spte_words.specs.HostWords.{host_frame}
use Rattle.spte_words.specs.declared.area.Area.{Area}
use Rattle.spte_words.specs.declared.area.Area.TheVariants as area
use Rattle.spte_words.proofs.Indices.{content_within}
use Rattle.part_steps.specs.SlotWords.{live_at, live_below, memory_slot_at}
use Rattle.part_steps.specs.Tasks.{map_of}
use Rattle.mmu_core.specs.invariant.Laws.{IsSound}
use Rattle.mmu_core.specs.machine.Enabled.{mmu}
use Rattle.mmu_core.specs.machine.Machine.{Legal, Step, World, hand_in, run}
use Rattle.mmu_core.specs.machine.View.{view, word_in}
use Rattle.mmu_core.specs.machine.Worlds.{IsStart, history}
use Rattle.mmu_core.proofs.machine.Worlds.{good_run}
use Rattle.mmu_core.proofs.start.Starts.{start_good}
use Rattle.mmu_laws.specs.flat.FlatInvariant.{FlatInvariant}
use Rattle.mmu_laws.proofs.flat.EveryAnswer.{start_follows}
use Rattle.mmu_laws.proofs.flat.EveryHistory.{every_flat}
use Rattle.turn_loops.proofs.FileOrder.{maker_is, maker_there}
use Rattle.closing_text.specs.MemoryText.{AreAllWords, HaveHostPages, frame_in, memory_in}
use Rattle.live_engine.proofs.SameMemory.{same_memory}

-- A word of an area, where it is inside.
inside : (size i word : ℕ) → i < size → (if nat_lt i size then word else 0) ≡ word
inside size i word lt = let e : nat_lt i size ≡ true = grind (arith, nat_tests) in rw e refl

pub word_inside : (z : Sizes) (w : World Held) (a : Area) (i : ℕ) → i < size_of (map_of z) a → word_in z w a i ≡ slice_index w.words (place (map_of z) a i)
word_inside z w a i lt = inside (size_of (map_of z) a) i (slice_index w.words (place (map_of z) a i)) lt

-- What holds of each live one holds of all of them.
all_live : {X : Type 0} (P : ℕ × X → Type 0) (live : ℕ → Bool) (at : ℕ → X) (n : ℕ) → ((i : ℕ) → i < n → live i ≡ true → P (i, at i))
    → All P (live_below live at n)
all_live P live at zero each = All-nil P
all_live P live at (suc n) each =
    All-append P (live_below live at n) (if live n then (n, at n) ∷ [] else []) (all_live P live at n (λ i lt. each i (omega (arith, lt))))
    (by (live n) (each n (omega arith)))
  where
    by : (b : Bool) → (b ≡ true → P (n, at n)) → All P (if b then (n, at n) ∷ [] else [])
    by true is = All-cons P (n, at n) [] (is refl) (All-nil P)
    by false is = All-nil P

module _ (z : Sizes) (lines : List Line) (start : World Held) (steps : List (Step Kind)) (is_start : IsStart z lines start) (legal : Legal mmu start steps)
  where
    abbrev w : World Held
    w = run mmu start steps

    abbrev facts : Facts
    facts = (after_all (history start steps) first_flat).facts

    abbrev manager : ℕ
    manager = index_of z Manager

    sound : IsSound z w
    sound = good_run z start steps (start_good z lines start is_start) legal

    flat : FlatInvariant z (view z w) (after_all (history start steps) first_flat)
    flat = every_flat z lines start steps is_start legal

    -- the frame of a host page
    frame_is : (page : ℕ) → page < z.pages → frame_in z w.words page ≡ host_frame (word_in z w area.Host page)
    frame_is page lt = ap host_frame (sym (word_inside z w area.Host page lt))

    pub all_words : AreAllWords z w.words
    all_words = record {
      sizes = is_start.sizes;
      count = sound.words;
      frames = λ page lt. subst (λ (n : ℕ). n < z.frames) (sym (frame_is page lt)) (sound.topics.hosts page lt).1;
    }

    pub manager_there : manager < actors_of z
    manager_there = maker_there z Manager (GetLog 0) tt

    is_manager : (hand_in mmu w manager).state.actor ≡ Manager
    is_manager = (start_follows z lines start steps manager is_start legal manager_there).actor ∙ maker_is z Manager (GetLog 0) tt

    pub slots_are : (hand_in mmu w manager).slots ≡ facts.slots
    slots_are = (sound.holds.recorded manager manager_there is_manager).same ∙ sym flat.refines.slots

    pub host_pages : HaveHostPages z (hand_in mmu w manager).slots
    host_pages =
        subst (HaveHostPages z) (sym (sound.holds.recorded manager manager_there is_manager).same)
        (all_live (λ entry. entry.1.slot.host + entry.1.slot.pages ≤ z.pages) (live_at (word_in z w area.Pool) (word_in z w area.Slots 0))
        (memory_slot_at (word_in z w area.Pool) (word_in z w area.Slots 0)) 32
        (λ id low live. (sound.holds.set_part.slots.fits id (omega (arith, low)) live).pages))

    memory_is : (page word : ℕ) → page < z.pages → word < z.words → memory_in z w.words page word ≡ facts.memory page word
    memory_is page word lt few =
        let frame : ℕ = host_frame (word_in z w area.Host page) in
        let within : content_index (map_of z) frame word < size_of (map_of z) area.Content =
        content_within (map_of z) frame word (sound.topics.hosts page lt).1 few in
        ap (λ (n : ℕ). slice_index w.words (place (map_of z) area.Content (content_index (map_of z) n word))) (frame_is page lt)
        ∙ (sym (word_inside z w area.Content (content_index (map_of z) frame word) within) ∙ sym (flat.refines.memory page word lt few))

    -- The words show what flat memory holds.
    pub image_is : image_words z.words (memory_in z w.words) (hand_in mmu w manager).slots ≡ image_words z.words facts.memory facts.slots
    image_is =
        same_memory z.pages z.words (memory_in z w.words) facts.memory memory_is (hand_in mmu w manager).slots host_pages
        ∙ ap (image_words z.words facts.memory) slots_are
