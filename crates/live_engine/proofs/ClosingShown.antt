-- The words that a live run leaves, and the manager's record of the slots, show guest memory after what the run tells.
use Rattle.std.proofs.Common.{◌≡◌, ◌<◌, ◌++◌, ◌∙◌, ℕ, List, ap, get_or, length, refl, subst, sym}
use Rattle.std.proofs.lemmas.List.{get_or_read_under}
use Rattle.core_views.specs.declared.actor.Actor.TheVariants.{Manager}
use Rattle.core_views.specs.declared.sizes.Sizes.{Sizes}
use Rattle.core_views.specs.declared.trace.Trace.{Trace}
use Rattle.core_views.specs.Events.{after_all}
use Rattle.core_views.specs.Flat.{Facts, first_flat}
use Rattle.core_views.specs.Held.{Handful, Held}
use Rattle.core_views.specs.Migrations.{image_words}
use Rattle.core_views.specs.SlotSets.{MemorySlots}
use Rattle.core_views.specs.Sizes.{actors_of, index_of, sizes_of}
use Rattle.closing_text.specs.MemoryText.{AreAllWords, HaveHostPages, memory_in}
use Rattle.mmu_core.specs.machine.Enabled.{mmu}
use Rattle.mmu_core.specs.machine.Machine.{World, hand_in}
use Rattle.step_seats.specs.Moves.{no_hand, world_of}
use Rattle.step_seats.proofs.Worlds.{core_at}
use Rattle.live_engine.specs.Lives.{Lives, told_by}
use Rattle.live_engine.proofs.MemoryShown.{all_words, host_pages, image_is, manager_there}

module _ (trace : Trace) (words : List ℕ) (hands : List Handful) (L : Lives trace (world_of words hands)) where
  abbrev z : Sizes
  z = sizes_of trace.header

  abbrev manager : ℕ
  manager = index_of z Manager

  abbrev facts : Facts
  facts = (after_all (told_by trace (world_of words hands) L) first_flat).facts

  pub there : manager < actors_of z
  there = manager_there z trace.lines L.start (L.alone.steps ++ L.beside) L.is_start L.legal

  pub closing_words : AreAllWords z words
  closing_words =
      subst (λ (w : World Held). AreAllWords z w.words) L.ends (all_words z trace.lines L.start (L.alone.steps ++ L.beside) L.is_start L.legal)

  -- The hand that was read at the manager's place is the manager's.
  pub manager_slots : (i : ℕ) (h : Handful) → i ≡ manager → i < length hands → h ≡ get_or hands i h
      → h.core.slots ≡ (hand_in mmu (world_of words hands) manager).slots
  manager_slots i h is lt read =
      ap (λ (x : Handful). x.core.slots) (get_or_read_under hands i (length hands) h no_hand read lt refl)
      ∙ (ap (λ (x : Held). x.slots) (core_at words hands i) ∙ ap (λ (n : ℕ). (hand_in mmu (world_of words hands) n).slots) is)

  pub closing_pages : (slots : MemorySlots) → slots ≡ (hand_in mmu (world_of words hands) manager).slots → HaveHostPages z slots
  closing_pages slots is =
      subst (HaveHostPages z) (sym is)
      (subst (λ (w : World Held). HaveHostPages z (hand_in mmu w manager).slots) L.ends
      (host_pages z trace.lines L.start (L.alone.steps ++ L.beside) L.is_start L.legal))

  pub closing_image : (slots : MemorySlots) → slots ≡ (hand_in mmu (world_of words hands) manager).slots
      → image_words z.words (memory_in z words) slots ≡ image_words z.words facts.memory facts.slots
  closing_image slots is =
      ap (image_words z.words (memory_in z words)) is
      ∙ subst (λ (w : World Held). image_words z.words (memory_in z w.words) (hand_in mmu w manager).slots ≡ image_words z.words facts.memory facts.slots)
      L.ends (image_is z trace.lines L.start (L.alone.steps ++ L.beside) L.is_start L.legal)
