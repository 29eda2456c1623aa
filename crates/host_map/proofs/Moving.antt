-- What the steps of a move say of the words where they were made.
use Rattle.std.proofs.Common.{◌≡◌, ◌≢◌, ◌+◌, ◌*◌, ◌/◌, ◌%◌, ◌^◌, ℕ, refl, sym, subst, ap, ◌∙◌, arith, bit_or}
use Rattle.std.specs.Prelude.{Bool, true, false, ◌==◌, if◌then◌else◌, IfSome}
use Rattle.std.proofs.lemmas.Bool.Decides.{nat_tests}
use Rattle.core_views.specs.declared.sizes.Sizes.{Sizes}
use Rattle.core_views.specs.declared.topics.Topics.{Topics}
use Rattle.core_views.specs.Held.{Held}
use Rattle.spte_words.specs.declared.area.Area.{Area}
use Rattle.spte_words.specs.declared.area.Area.TheVariants as area
use Rattle.spte_words.specs.Areas.{content_index, number_of}
use Rattle.spte_words.proofs.Places.{same_number}
use Rattle.part_steps.specs.declared.part_step.PartStep.TheVariants as part
use Rattle.part_steps.specs.FrameTopics.{frame_owned, word_held, words_moved}
use Rattle.part_steps.specs.PartTasks.{own_index, part_task}
use Rattle.part_steps.specs.PartSteps.{PartNeeds}
use Rattle.mmu_core.specs.invariant.PoolPart.{is_free}
use Rattle.mmu_core.specs.machine.Machine.{World}
use Rattle.mmu_core.specs.machine.View.{upd, word_in}
use Rattle.mmu_core.proofs.machine.Columns.{upd_other, upd_same}
use Rattle.mmu_core.proofs.words.PoolBits.{free_set}
use Rattle.step_seats.specs.Seats.{Seat}
use Rattle.step_seats.specs.PartTurns.{MadePart}
use Rattle.step_seats.proofs.ToldWords.{StepsTo, told_before, told_both}
use Rattle.step_seats.proofs.Where.{ToldBoth}
use Rattle.host_map.specs.Moving.{FreesFrame, StoresCopy, frame_of_look}
use Rattle.host_map.specs.Touching.{content_in}

-- A content word, by its index.
content_at : (z : Sizes) (frame word index : ℕ) (w : World Held) → index ≡ z.words * frame + word → word_in z w area.Content index ≡ content_in z frame word w
unfolding content_index
content_at z frame word index w is = ap (word_in z w area.Content) is

-- A copy answers the next word of the page.
pub copies_word : (index note found : ℕ) (before after : Seat) → PartNeeds (part.Copy index) before.hand
    → MadePart (part.Copy index) note found before after
    → IfSome before.tells.world
    (λ w. found ≡ content_in before.hand.state.sizes (frame_of_look before.hand.topics) (words_moved before.hand.topics.frames.owned) w)
copies_word index note found before after N M =
    told_before before.tells.world after.tells.world before.actor note found (part.Copy index) before.hand
    (λ w. found ≡ content_in z (frame_of_look t) (words_moved t.frames.owned) w) N M.has M.world
    (λ w finds. finds ∙ content_at z (frame_of_look t) (words_moved t.frames.owned) index w N.is)
  where
    z : Sizes
    z = before.hand.state.sizes

    t : Topics
    t = before.hand.topics

-- what a store leaves of another word
left_there : (words : Area → ℕ → ℕ) (at : Area) (i x : ℕ) (b : Area) (j : ℕ) → (b ≡ at → j ≢ i)
    → (if number_of b == number_of at then upd (words b) i x else words b) j ≡ words b j
left_there words at i x b j apart = by (number_of b == number_of at) (λ e. grind (arith, nat_tests))
  where
    by : (c : Bool) → (c ≡ true → number_of b ≡ number_of at) → (if c then upd (words b) i x else words b) j ≡ words b j
    by true same = upd_other (words b) i j x (apart (same_number b at (same refl)))
    by false same = refl

-- A store leaves the copied word in the next one of the frame.
pub stores_word : (index note found : ℕ) (before after : Seat) → PartNeeds (part.Store index) before.hand
    → MadePart (part.Store index) note found before after
    → ToldBoth before.tells.world after.tells.world (StoresCopy before.hand.state.sizes before.hand.topics index)
stores_word index note found before after N M =
    told_both before.tells.world after.tells.world before.actor note found (part.Store index) before.hand (StoresCopy z t index) N M.has M.world each
  where
    z : Sizes
    z = before.hand.state.sizes

    t : Topics
    t = before.hand.topics

    value : ℕ
    value = word_held t.frames.owned

    each : (w u : World Held) → StepsTo z (part_task (part.Store index) (own_index before.hand) t note) found w u → StoresCopy z t index w u
    each w u moved = record {
      holds =
          sym (content_at z (frame_owned t.frames.owned) (words_moved t.frames.owned) index u N.is)
          ∙ moved.leaves area.Content index ∙ upd_same (word_in z w area.Content) index value;
      others = λ b j apart. moved.leaves b j ∙ left_there (word_in z w) area.Content index value b j apart;
    }

-- A frame that is given back is free.
pub frees_frame : (note found : ℕ) (before after : Seat) → PartNeeds part.GiveFrame before.hand → MadePart part.GiveFrame note found before after
    → ToldBoth before.tells.world after.tells.world (FreesFrame before.hand.state.sizes (frame_owned before.hand.topics.frames.owned))
frees_frame note found before after N M =
    told_both before.tells.world after.tells.world before.actor note found part.GiveFrame before.hand (FreesFrame z own) N M.has M.world each
  where
    z : Sizes
    z = before.hand.state.sizes

    own : ℕ
    own = frame_owned before.hand.topics.frames.owned

    place_ : 64 * (own / 64) + own % 64 ≡ own
    place_ = omega arith

    each : (w u : World Held) → StepsTo z (part_task part.GiveFrame (own_index before.hand) before.hand.topics note) found w u → FreesFrame z own w u
    each w u moved = record {
      free = behind own ∙ upd_same (is_free map) own true;
      others = λ k apart. behind k ∙ upd_other (is_free map) own k true apart;
    }
      where
        map : ℕ → ℕ
        map = word_in z w area.FrameMap

        behind : (k : ℕ) → is_free (word_in z u area.FrameMap) k ≡ upd (is_free map) own true k
        behind k =
            let bits = free_set map (own / 64) (own % 64) (omega arith) k in
            ap (λ n. n / 2 ^ (k % 64) % 2 == 1) (moved.leaves area.FrameMap (k / 64))
            ∙ subst (λ p. is_free (upd map (own / 64) (bit_or (map (own / 64)) (2 ^ (own % 64)))) k ≡ upd (is_free map) p true k) place_ bits
