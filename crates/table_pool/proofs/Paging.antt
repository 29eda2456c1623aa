-- What a fill and a give leave in the words of the worlds that are told.
use Rattle.std.proofs.Common.{Option, None, ◌≡◌, ◌≢◌, ◌+◌, ◌*◌, ◌/◌, ◌%◌, ◌^◌, ℕ, Some, refl, sym, subst, ap, ◌∙◌, arith, bit_or}
use Rattle.std.specs.Prelude.{Bool, true, false, ◌==◌, if◌then◌else◌}
use Rattle.std.proofs.lemmas.Bool.Decides.{nat_tests}
use Rattle.core_views.specs.Held.{Held}
use Rattle.spte_words.specs.declared.area.Area.{Area}
use Rattle.spte_words.specs.declared.area.Area.TheVariants as area
use Rattle.spte_words.specs.Areas.{number_of, pool_index}
use Rattle.spte_words.proofs.Places.{same_number}
use Rattle.part_steps.specs.declared.part_step.PartStep.TheVariants as part
use Rattle.mmu_core.specs.machine.Enabled.{mmu}
use Rattle.mmu_core.specs.machine.Machine.{World, answered}
use Rattle.core_views.specs.declared.kind.Kind.{Kind}
use Rattle.part_steps.specs.PartTasks.{own_index, page_owned, part_kind, part_task, words_filled}
use Rattle.part_steps.specs.PartSteps.{PartNeeds}
use Rattle.mmu_core.specs.invariant.PoolPart.{is_free}
use Rattle.core_views.specs.declared.topics.Topics.{Topics}
use Rattle.std.proofs.Math.Logic.{∥∥₁_elim}
use Rattle.std.proofs.Props.{props}
use Rattle.mmu_core.specs.machine.View.{upd, word_in, words_after, answer_in}
use Rattle.mmu_core.proofs.machine.Columns.{upd_other, upd_same}
use Rattle.mmu_core.proofs.words.PoolBits.{free_set}
use Rattle.step_seats.specs.Seats.{Seat}
use Rattle.step_seats.specs.PartTurns.{MadePart}
use Rattle.step_seats.specs.Where.{AnsweredThere, IsMadeIn, OfWorld}
use Rattle.table_pool.specs.Pages.{FreesPage, StoresNext, next_area, next_index, fill_step}
use Rattle.step_seats.proofs.ToldWords.{StepsTo, found_in, told_both}
use Rattle.step_seats.proofs.Where.{ToldBoth}
use Rattle.part_steps.specs.declared.part_step.PartStep.{PartStep}

-- what a store leaves in the words: its value in its word
stored : (words : Area → ℕ → ℕ) (stored_ : Area) (i x : ℕ) (b : Area) (j : ℕ) → (b ≡ stored_ → j ≢ i)
    → (if number_of b == number_of stored_ then upd (words b) i x else words b) j ≡ words b j
stored words at i x b j apart = by (number_of b == number_of at) (λ e. grind (arith, nat_tests))
  where
    by : (c : Bool) → (c ≡ true → number_of b ≡ number_of at) → (if c then upd (words b) i x else words b) j ≡ words b j
    by true same = upd_other (words b) i j x (apart (same_number b at (same refl)))
    by false same = refl

-- The step of a fill stores its value in the next word, and answers it.
module _ (value own note : ℕ) (t : Topics) (words : Area → ℕ → ℕ) where
  abbrev step_if : Bool → PartStep
  step_if full = if full then part.Role value else part.Fill value

  filled_here : (full : Bool)
      → words_after (part_task (step_if full) own t note) words (if full then area.Role else area.Pool)
      (if full then page_owned t.owned else pool_index (page_owned t.owned) (words_filled t.owned)) ≡ value
  filled_here true = upd_same (words area.Role) (page_owned t.owned) value
  filled_here false = upd_same (words area.Pool) (pool_index (page_owned t.owned) (words_filled t.owned)) value

  filled_there : (full : Bool) (b : Area) (j : ℕ)
      → (b ≡ (if full then area.Role else area.Pool) → j ≢ (if full then page_owned t.owned else pool_index (page_owned t.owned) (words_filled t.owned)))
      → words_after (part_task (step_if full) own t note) words b j ≡ words b j
  filled_there true b j apart = stored words area.Role (page_owned t.owned) value b j apart
  filled_there false b j apart = stored words area.Pool (pool_index (page_owned t.owned) (words_filled t.owned)) value b j apart

  filled_answers : (full : Bool) → answer_in (part_task (step_if full) own t note) words ≡ value
  filled_answers true = refl
  filled_answers false = refl

pub fill_writes : (value page note found : ℕ) (before after : Seat) → PartNeeds (fill_step (words_filled before.hand.topics.owned) value) before.hand
    → page_owned before.hand.topics.owned ≡ page
    → MadePart (fill_step (words_filled before.hand.topics.owned) value) note found before after
    → ToldBoth before.tells.world after.tells.world (StoresNext before.hand.state.sizes page (words_filled before.hand.topics.owned) value)
fill_writes value page note found before after N is M =
    subst (λ k. ToldBoth before.tells.world after.tells.world (StoresNext before.hand.state.sizes k (words_filled before.hand.topics.owned) value)) is
    (told_both before.tells.world after.tells.world before.actor note found (fill_step filled value) before.hand
    (StoresNext before.hand.state.sizes own filled value) N M.has M.world each)
  where
    own : ℕ
    own = page_owned before.hand.topics.owned

    filled : ℕ
    filled = words_filled before.hand.topics.owned

    each : (w u : World Held) → StepsTo before.hand.state.sizes (part_task (fill_step filled value) (own_index before.hand) before.hand.topics note) found w u
        → StoresNext before.hand.state.sizes own filled value w u
    each w u moved = record {
      holds = moved.leaves (next_area filled) (next_index own filled)
          ∙ filled_here value (own_index before.hand) note before.hand.topics (word_in before.hand.state.sizes w) (filled == 512);
      others = λ b j apart. moved.leaves b j
          ∙ filled_there value (own_index before.hand) note before.hand.topics (word_in before.hand.state.sizes w) (filled == 512) b j apart;
    }

pub give_frees : (page note found : ℕ) (before after : Seat) → PartNeeds part.Give before.hand → page_owned before.hand.topics.owned ≡ page
    → MadePart part.Give note found before after
    → ToldBoth before.tells.world after.tells.world (FreesPage before.hand.state.sizes page)
give_frees page note found before after N is M =
    subst (λ k. ToldBoth before.tells.world after.tells.world (FreesPage before.hand.state.sizes k)) is
    (told_both before.tells.world after.tells.world before.actor note found part.Give before.hand (FreesPage before.hand.state.sizes own) N M.has M.world each)
  where
    own : ℕ
    own = page_owned before.hand.topics.owned

    place_ : 64 * (own / 64) + own % 64 ≡ own
    place_ = omega arith

    each : (w u : World Held) → StepsTo before.hand.state.sizes (part_task part.Give (own_index before.hand) before.hand.topics note) found w u
        → FreesPage before.hand.state.sizes own w u
    each w u moved = record {
      free = behind own ∙ upd_same (is_free map) own true;
      others = λ k apart. behind k ∙ upd_other (is_free map) own k true apart;
    }
      where
        map : ℕ → ℕ
        map = word_in before.hand.state.sizes w area.PoolMap

        behind : (k : ℕ) → is_free (word_in before.hand.state.sizes u area.PoolMap) k ≡ upd (is_free map) own true k
        behind k =
            let bits = free_set map (own / 64) (own % 64) (omega arith) k in
            ap (λ n. n / 2 ^ (k % 64) % 2 == 1) (moved.leaves area.PoolMap (k / 64))
            ∙ subst (λ p. is_free (upd map (own / 64) (bit_or (map (own / 64)) (2 ^ (own % 64)))) k ≡ upd (is_free map) p true k) place_ bits

-- A fill answers what it wrote.
pub fill_answers_value : (value note found : ℕ) (before after : Seat) → PartNeeds (fill_step (words_filled before.hand.topics.owned) value) before.hand
    → AnsweredThere (part_kind before.hand (fill_step (words_filled before.hand.topics.owned) value) note) found before after → found ≡ value
fill_answers_value value note found before after N there = by before.tells.world there
  where
    h : Held
    h = before.hand

    step : PartStep
    step = fill_step (words_filled h.topics.owned) value

    k : Kind
    k = part_kind h step note

    answered_in : (w : World Held) → IsMadeIn k before.actor h after.hand w → answered mmu w k ≡ found → found ≡ value
    answered_in w M is =
        sym is ∙ found_in w before.actor note step h M.has N
        ∙ filled_answers value (own_index h) note h.topics (word_in h.state.sizes w) (words_filled h.topics.owned == 512)

    by : (x : Option (World Held)) → OfWorld x (λ w. IsMadeIn k before.actor h after.hand w × (answered mmu w k ≡ found)) → found ≡ value
    by (Some w) p = answered_in w p.0 p.1
    by None p = ∥∥₁_elim p (hlevel props) (λ x. answered_in x.0 x.1.0 x.1.1)
