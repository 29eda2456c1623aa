-- The order of steps of a claim, by which a line gets a page of the pool, or a frame of the host: it loads the words of the map of what is free from the
-- first one on, and tries the lowest page or frame that it saw free in the last one.
use Rattle.std.specs.Prelude.{◌+◌, ◌-◌, ℕ, Bool, ◌==◌, ◌&&◌, not, nat_lt, if◌then◌else◌}
use Rattle.core_views.specs.declared.answer.Answer.{Answer}
use Rattle.core_views.specs.declared.place.Place.{Place}
use Rattle.core_views.specs.declared.sizes.Sizes.{Sizes}
use Rattle.core_views.specs.declared.topics.MapClaim.{MapClaim}
use Rattle.core_views.specs.declared.topics.Topics.{Topics}
use Rattle.spte_words.specs.declared.area.Area.{Area}
use Rattle.spte_words.specs.declared.area.Area.TheVariants as area
use Rattle.spte_words.specs.Areas.{words_of_bits}
use Rattle.part_steps.specs.declared.part_step.PartStep.{PartStep}
use Rattle.part_steps.specs.declared.part_step.PartStep.TheVariants as part
use Rattle.part_steps.specs.PageTopics.{is_won}
use Rattle.mmu_core.specs.declared.claim.ClaimNext.{ClaimNext}
use Rattle.mmu_core.specs.declared.claim.ClaimNext.TheVariants.{Goes, Got, Empty}
pub use Rattle.mmu_core.specs.declared.claim.FreeMap.{FreeMap}
pub use Rattle.mmu_core.specs.declared.claim.FreeMap.TheVariants.{Pages, Frames}
use Rattle.mmu_core.specs.declared.outcome.Outcome.{Outcome}
use Rattle.mmu_core.specs.declared.outcome.Outcome.TheVariants as outcome

-- ---- the two maps

abbrev pub map_area : FreeMap → Area
map_area Pages = area.PoolMap
map_area Frames = area.FrameMap

-- how many words it has
abbrev pub map_words : FreeMap → Sizes → ℕ
map_words Pages z = words_of_bits z.pool
map_words Frames z = words_of_bits z.frames

-- what an actor holds of its claim in this map
abbrev pub claim_over : FreeMap → Topics → MapClaim
claim_over Pages t = t.claim
claim_over Frames t = t.frames.claim

-- the load of a word of it, and the try
abbrev pub load_part : FreeMap → ℕ → PartStep
load_part Pages word = part.Map word
load_part Frames word = part.FrameMap word

abbrev pub try_part : FreeMap → PartStep
try_part Pages = part.Claim
try_part Frames = part.Frame

-- ---- the order

-- the word of the map that the claim has come to: the first one where it begins
abbrev pub map_word : Bool → MapClaim → ℕ
map_word begun claim = if begun then claim.at else 0

-- The claim tries the lowest of those that it saw in its word, and else loads the word.
abbrev pub tries_one : Bool → MapClaim → Bool
tries_one begun claim = begun && nat_lt 0 claim.seen

abbrev pub claim_part : FreeMap → Bool → MapClaim → PartStep
claim_part map begun claim = if tries_one begun claim then try_part map else load_part map (map_word begun claim)

-- The step loads the last word of the map: where nothing is free there either, the claim ends with it.
abbrev pub loads_last_word : FreeMap → Bool → Sizes → MapClaim → Bool
loads_last_word map begun z claim = not (tries_one begun claim) && (map_word begun claim + 1 == map_words map z)

-- the word that it has come to after a load that found v: the next one where nothing is free in this one
abbrev pub word_after_load : Bool → MapClaim → ℕ → ℕ
word_after_load begun claim v = map_word begun claim + (if v == 0 then 1 else 0)

-- after a step that found v: it has got what it tried, each word of the map was seen 0, or it goes on
abbrev pub claim_next : FreeMap → Bool → Sizes → MapClaim → ℕ → ClaimNext
claim_next map begun z claim v =
    if tries_one begun claim then (if is_won claim v then Got else Goes) else
    if nat_lt (word_after_load begun claim v) (map_words map z) then Goes else
    Empty

-- the most steps that a claim has left, where no other actor is in its way: the words from this one on, and a try
abbrev pub claim_left : FreeMap → Bool → Sizes → MapClaim → ℕ
claim_left map begun z claim = if tries_one begun claim then 1 else map_words map z - map_word begun claim + 1

-- where a line stands after a step of a claim that it answers so for want of a page or frame: where it goes on with the claim, or with what it got
abbrev pub claim_outcome : Place → Place → Answer → ClaimNext → Outcome
claim_outcome on got lacking Goes = outcome.Goes on
claim_outcome on got lacking Got = outcome.Goes got
claim_outcome on got lacking Empty = outcome.Ends lacking
