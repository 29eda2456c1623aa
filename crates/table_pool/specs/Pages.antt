-- Fills and gives of the page that an actor owns.
use Rattle.std.specs.Prelude.{◌≡◌, ◌≢◌, ◌+◌, ◌-◌, ◌<◌, ℕ, true, ◌==◌, ◌&&◌, ◌||◌, if◌then◌else◌, Some, None}
use Rattle.core_views.specs.declared.sizes.Sizes.{Sizes}
use Rattle.core_views.specs.declared.topics.OwnedPage.{OwnedPage}
use Rattle.core_views.specs.declared.topics.Topics.{Topics}
use Rattle.core_views.specs.Held.{Held}
use Rattle.spte_words.specs.declared.area.Area.{Area}
use Rattle.spte_words.specs.declared.area.Area.TheVariants as area
use Rattle.spte_words.specs.Areas.{pool_index}
use Rattle.spte_words.specs.Entries.{word_below}
use Rattle.mmu_core.specs.machine.Machine.{World}
use Rattle.part_steps.specs.declared.part_step.PartStep.{PartStep}
use Rattle.part_steps.specs.declared.part_step.PartStep.TheVariants as part
use Rattle.part_steps.specs.PartTasks.{words_filled}
use Rattle.part_steps.specs.PageTopics.{unseen}
use Rattle.mmu_core.specs.invariant.PoolPart.{is_free}
use Rattle.mmu_core.specs.machine.View.{word_in}
use Rattle.step_seats.specs.declared.turn.Turn.{Turn}
use Rattle.step_seats.specs.declared.turn.Turn.TheVariants.{More, Wait, Retry, Done}
use Rattle.step_seats.specs.PartTurns.{WherePartMade}
use Rattle.step_seats.specs.Seats.{Seat}

-- The step of a fill of a page of which so many words are filled: the next word, and the role where all 512 are.
abbrev pub fill_step : ℕ → ℕ → PartStep
fill_step filled value = if filled == 512 then part.Role value else part.Fill value

-- The page, which is owned, has one more of its words filled, or its role after the last of them. It is filled for the same entry still; it still counts as a
-- table for this entry where all words so far hold what is to stand in one that is linked in its place, and its role is remembered. Nothing else that the actor
-- holds has changed.
pub record FillsNext (page value : ℕ) (was : OwnedPage) (before after : Topics) : Type 0 where
  pub owned : before.owned ≡ Some was
  pub page_is : was.page ≡ page
  pub behind : after ≡ record before {
    owned = Some (record {
      page = page;
      filled = was.filled + 1;
      entry = was.entry;
      level = was.level;
      below = was.below && (was.filled == 512 || value == word_below was.level was.entry was.filled);
      role = if was.filled == 512 then value else was.role;
    });
  }

-- A fill goes on while one of the 512 words was written, and is done where the role was.
abbrev pub FillTurn : ℕ → ℕ → Turn (Unit {0}) → Topics → Topics → Type 0
FillTurn page value More before after = (was : OwnedPage) × (was.filled < 512) × FillsNext page value was before after
FillTurn page value (Done _) before after = (was : OwnedPage) × (was.filled ≡ 512) × FillsNext page value was before after
FillTurn page value (Wait seen) before after = ⊥
FillTurn page value (Retry cause) before after = ⊥

-- the word that is filled next: that of the page, and its role where all 512 are filled
abbrev pub next_area : ℕ → Area
next_area filled = if filled == 512 then area.Role else area.Pool

abbrev pub next_index : ℕ → ℕ → ℕ
next_index page filled = if filled == 512 then page else pool_index page filled

-- The word that was next holds the value, and every other word of the machine what it held before.
pub record StoresNext (z : Sizes) (page filled value : ℕ) (w t : World Held) : Type 0 where
  pub holds : word_in z t (next_area filled) (next_index page filled) ≡ value
  pub others : (a : Area) (i : ℕ) → (a ≡ next_area filled → i ≢ next_index page filled) → word_in z t a i ≡ word_in z w a i

-- how many words of the owned page are yet to be filled, with its role
abbrev pub words_left : Topics → ℕ
words_left t = 513 - words_filled t.owned

-- The page is given back: the actor owns none, and its claim has yet to see again what is free. Nothing else that it holds has changed.
abbrev pub GivesPage : Turn (Unit {0}) → Topics → Topics → Type 0
GivesPage (Done _) before after = after ≡ record before { owned = None; claim = unseen before.claim }
GivesPage More before after = ⊥
GivesPage (Wait seen) before after = ⊥
GivesPage (Retry cause) before after = ⊥

-- The page is free, and every other page is free where it was free before.
pub record FreesPage (z : Sizes) (page : ℕ) (w t : World Held) : Type 0 where
  pub free : is_free (word_in z t area.PoolMap) page ≡ true
  pub others : (k : ℕ) → k ≢ page → is_free (word_in z t area.PoolMap) k ≡ is_free (word_in z w area.PoolMap) k

-- Where the next word of the page was filled, or its role, it holds the value then, and nothing else has changed.
abbrev pub FillsWhereMade : ℕ → ℕ → ℕ → Seat → Seat → Type 0
FillsWhereMade page value note before after =
    WherePartMade (fill_step (words_filled before.hand.topics.owned) value) note before after
    (StoresNext before.hand.state.sizes page (words_filled before.hand.topics.owned) value)
