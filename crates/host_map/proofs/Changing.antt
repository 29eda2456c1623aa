-- The host word of a page that is exchanged.
use Rattle.std.proofs.Common.{◌≡◌, ℕ, Option, Some, refl, sym, ap, ◌∙◌, arith}
use Rattle.std.specs.Prelude.{◌==◌, Bool, true, false, if◌then◌else◌}
use Rattle.std.proofs.lemmas.Bool.Decides.{nat_tests}
use Rattle.core_views.specs.declared.sizes.Sizes.{Sizes}
use Rattle.core_views.specs.declared.topics.OwnedFrame.{OwnedFrame}
use Rattle.core_views.specs.declared.topics.Topics.{Topics}
use Rattle.core_views.specs.Held.{Held}
use Rattle.spte_words.specs.declared.area.Area.{Area}
use Rattle.spte_words.specs.declared.area.Area.TheVariants as area
use Rattle.spte_words.specs.HostWords.{host_frame, with_presence}
use Rattle.part_steps.specs.FrameTopics.{frame_after}
use Rattle.part_steps.specs.PageRuns.{one_look}
use Rattle.part_steps.specs.PartSteps.{PartNeeds}
use Rattle.part_steps.specs.PartTasks.{own_index, page_looked, part_task, word_looked}
use Rattle.part_steps.specs.PartTopics.{changed_host, exchanged_host, part_topics}
use Rattle.part_steps.specs.declared.part_step.PartStep.{PartStep}
use Rattle.part_steps.specs.declared.part_step.PartStep.TheVariants as part
use Rattle.mmu_core.specs.machine.Machine.{World}
use Rattle.mmu_core.specs.machine.View.{answer_in, word_in, words_after}
use Rattle.mmu_core.proofs.machine.Columns.{upd_same}
use Rattle.step_seats.specs.PartTurns.{MadePart}
use Rattle.step_seats.specs.Seats.{Seat}
use Rattle.step_seats.proofs.ToldWords.{StepsTo, told_both}
use Rattle.step_seats.proofs.Where.{ToldBoth}
use Rattle.host_map.specs.declared.host.Changed.{Changed}
use Rattle.host_map.specs.declared.host.Changed.TheVariants.{Set, Lost}
use Rattle.host_map.specs.Touching.{IsExchange, WasAnother, change_found, frame_held, after_exchange, holding_changed, holding_word, host_in, word_exchanged}
use Rattle.host_map.specs.Touching.{word_after_exchange}

-- what the exchange leaves of a word, by its answer
leaves_so : (was new_ : ℕ) (answer : Changed) → WasAnother was answer
    → (if change_found was answer == was then new_ else change_found was answer) ≡ word_after_exchange new_ answer
leaves_so was new_ Set other = let same : (was == was) ≡ true = grind (arith, nat_tests) in ap (λ (b : Bool). if b then new_ else was) same
leaves_so was new_ (Lost seen) other = let apart : (seen == was) ≡ false = grind (arith, nat_tests) in ap (λ (b : Bool). if b then new_ else seen) apart

-- what it leaves of what is held
brings_so : (new_ found : ℕ) (answer : Changed) (t : Topics) → found ≡ change_found (word_looked t.host) answer → WasAnother (word_looked t.host) answer
    → exchanged_host new_ t found ≡ holding_word new_ answer t
brings_so new_ found answer t is other =
    ap (λ v. exchanged_host new_ t v) is
    ∙ ap (λ n. record t { host = Some (record { page = page_looked t.host; word = n }); row = one_look }) (leaves_so (word_looked t.host) new_ answer other)

-- the frame that is owned after a change, by its answer
frame_so : (was old_ : ℕ) (answer : Changed) (owned : Option OwnedFrame) → WasAnother was answer
    → frame_after (change_found was answer == was) old_ owned ≡ frame_held answer old_ owned
frame_so was old_ Set owned other = let same : (was == was) ≡ true = grind (arith, nat_tests) in ap (λ (b : Bool). frame_after b old_ owned) same
frame_so was old_ (Lost seen) owned other = let apart : (seen == was) ≡ false = grind (arith, nat_tests) in ap (λ (b : Bool). frame_after b old_ owned) apart

changes_so : (new_ found : ℕ) (answer : Changed) (t : Topics) → found ≡ change_found (word_looked t.host) answer → WasAnother (word_looked t.host) answer
    → changed_host new_ t found ≡ holding_changed new_ answer t
changes_so new_ found answer t is other =
    ap (λ v. changed_host new_ t v) is
    ∙ ap (λ n. record t {
      host = Some (record { page = page_looked t.host; word = n });
      row = one_look;
      watched = 0;
      frames = record t.frames { owned = frame_after (change_found was answer == was) (host_frame was) t.frames.owned };
    }) (leaves_so was new_ answer other)
    ∙ ap (λ o. record t {
      host = Some (record { page = page_looked t.host; word = word_after_exchange new_ answer });
      row = one_look;
      watched = 0;
      frames = record t.frames { owned = o };
    }) (frame_so was (host_frame was) answer t.frames.owned other)
  where
    was : ℕ
    was = word_looked t.host

pub holding : (step : PartStep) (found : ℕ) (answer : Changed) (t : Topics) → IsExchange step → found ≡ change_found (word_looked t.host) answer
    → WasAnother (word_looked t.host) answer → part_topics step t found ≡ after_exchange step answer t
holding part.Bring found answer t exchange is other = brings_so (with_presence true (word_looked t.host)) found answer t is other
holding (part.Change new_) found answer t exchange is other = changes_so new_ found answer t is other
holding _ found answer t exchange is other = absurd exchange

-- It answers the word of its page.
answers_word : (step : PartStep) (own note : ℕ) (t : Topics) (words : Area → ℕ → ℕ) → IsExchange step
    → answer_in (part_task step own t note) words ≡ words area.Host (page_looked t.host)
answers_word part.Bring own note t words exchange = refl
answers_word (part.Change new_) own note t words exchange = refl
answers_word _ own note t words exchange = absurd exchange

-- It puts the new word there, where the word is the one that was looked up.
leaves_word : (step : PartStep) (own note : ℕ) (t : Topics) (words : Area → ℕ → ℕ) → IsExchange step
    → words_after (part_task step own t note) words area.Host (page_looked t.host)
    ≡ (if words area.Host (page_looked t.host) == word_looked t.host then word_exchanged step t else words area.Host (page_looked t.host))
leaves_word part.Bring own note t words exchange = upd_same (words area.Host) (page_looked t.host) _
leaves_word (part.Change new_) own note t words exchange = upd_same (words area.Host) (page_looked t.host) _
leaves_word _ own note t words exchange = absurd exchange

pub changed_word : (step : PartStep) (note found : ℕ) (answer : Changed) (before after : Seat) → IsExchange step → PartNeeds step before.hand
    → MadePart step note found before after → found ≡ change_found (word_looked before.hand.topics.host) answer
    → WasAnother (word_looked before.hand.topics.host) answer
    → ToldBoth before.tells.world after.tells.world
    (λ w v. (host_in before.hand.state.sizes (page_looked before.hand.topics.host) w ≡ change_found (word_looked before.hand.topics.host) answer)
    × (host_in before.hand.state.sizes (page_looked before.hand.topics.host) v ≡ word_after_exchange (word_exchanged step before.hand.topics) answer))
changed_word step note found answer before after exchange needs made is other =
    told_both before.tells.world after.tells.world before.actor note found step before.hand
    (λ w v. (host_in z page w ≡ change_found was answer) × (host_in z page v ≡ word_after_exchange new_ answer)) needs made.has made.world each
  where
    was : ℕ
    was = word_looked before.hand.topics.host

    page : ℕ
    page = page_looked before.hand.topics.host

    new_ : ℕ
    new_ = word_exchanged step before.hand.topics

    z : Sizes
    z = before.hand.state.sizes

    each : (w u : World Held) → StepsTo z (part_task step (own_index before.hand) before.hand.topics note) found w u
        → (host_in z page w ≡ change_found was answer) × (host_in z page u ≡ word_after_exchange new_ answer)
    each w u S =
        let here : host_in z page w ≡ change_found was answer =
        sym (S.finds ∙ answers_word step (own_index before.hand) note before.hand.topics (word_in z w) exchange) ∙ is in
        let leaves = S.leaves area.Host page ∙ leaves_word step (own_index before.hand) note before.hand.topics (word_in z w) exchange in
        (here, leaves ∙ ap (λ n. if n == was then new_ else n) here ∙ leaves_so was new_ answer other)
