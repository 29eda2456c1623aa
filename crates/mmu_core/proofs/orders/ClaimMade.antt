-- What a step of a claim comes to, in each of its cases: the step, the exit, and what is held after it. It is said of a claim of a page of the pool and
-- of one of a frame of the host at once.
use Rattle.std.proofs.Common.{◌≡◌, inl, inr, ◌+◌, ◌-◌, ◌*◌, ◌^◌, ◌<◌, ◌≤◌, ℕ, refl, ap, arith, w64, sym, ◌∙◌, not}
use Rattle.std.specs.Prelude.{Bool, true, false, ◌==◌, nat_lt, if◌then◌else◌, Some, None}
use Rattle.std.proofs.lemmas.Bool.Decides.{nat_tests}
use Rattle.std.proofs.lemmas.Nat.Bits.{bit_at-trailing_zeros}
use Rattle.core_views.specs.declared.answer.Answer.{Answer}
use Rattle.core_views.specs.declared.place.Place.{Place}
use Rattle.core_views.specs.declared.sizes.Sizes.{Sizes}
use Rattle.core_views.specs.declared.topics.MapClaim.{MapClaim}
use Rattle.core_views.specs.declared.topics.OwnedFrame.{OwnedFrame}
use Rattle.core_views.specs.declared.topics.OwnedPage.{OwnedPage}
use Rattle.core_views.specs.declared.topics.TableWalk.{TableWalk}
use Rattle.core_views.specs.declared.topics.Topics.{Topics}
use Rattle.core_views.specs.Held.{Held}
use Rattle.core_views.specs.Sizes.{AreSizes}
use Rattle.mmu_core.specs.invariant.Scans.{OwnsNone}
use Rattle.mmu_core.specs.lines.PartWaits.{part_waits}
use Rattle.part_steps.specs.declared.part_step.PartStep.{PartStep}
use Rattle.part_steps.specs.declared.part_step.PartStep.TheVariants as part
use Rattle.part_steps.specs.PartSteps.{PartNeeds}
use Rattle.part_steps.specs.PartTopics.{part_topics}
use Rattle.part_steps.specs.PageTopics.{is_won, tried_bit}
use Rattle.mmu_core.specs.declared.claim.ClaimNext.{ClaimNext}
use Rattle.mmu_core.specs.declared.claim.ClaimNext.TheVariants as claims
use Rattle.mmu_core.specs.declared.outcome.Outcome.TheVariants.{Ends}
use Rattle.mmu_core.specs.orders.ClaimSteps.{FreeMap, Pages, Frames, claim_left, claim_next, claim_outcome, claim_over, claim_part, load_part, map_word}
use Rattle.mmu_core.specs.orders.ClaimSteps.{map_words, tries_one, try_part, word_after_load}
use Rattle.mmu_core.proofs.orders.RunsAimed.{LeavesLooks, same_looks}
use Rattle.mmu_core.proofs.forms.access.FaultSame.{both}
use Rattle.mmu_core.proofs.lines.EitherPlace.{either_place}

-- ---- what is held after a step

-- the page, or the frame, that a claim tries, of which nothing is filled
abbrev pub page_won : TableWalk → MapClaim → OwnedPage
page_won walk claim =
    record { page = 64 * claim.at + tried_bit claim; filled = 0; entry = walk.entry; level = walk.level; below = true; role = 0 }

abbrev pub frame_won : MapClaim → OwnedFrame
frame_won claim = record { frame = 64 * claim.at + tried_bit claim; filled = 0; copied = None }

-- where the try is won; where it is lost, and v was seen; and where a load saw v, after which the claim has come to this word
abbrev pub won_over : FreeMap → Topics → Topics
won_over Pages t = record t { owned = Some (page_won t.walk t.claim); claim = record { at = 0; seen = 0 } }
won_over Frames t = record t { frames = record { claim = record { at = 0; seen = 0 }; owned = Some (frame_won t.frames.claim) } }

abbrev pub lost_over : FreeMap → Topics → ℕ → Topics
lost_over Pages t v = record t { owned = None; claim = record { at = t.claim.at; seen = v } }
lost_over Frames t v = record t { frames = record { claim = record { at = t.frames.claim.at; seen = v }; owned = None } }

abbrev pub seen_over : FreeMap → Topics → ℕ → ℕ → Topics
seen_over Pages t at v = record t { claim = record { at = at; seen = v } }
seen_over Frames t at v = record t { frames = record t.frames { claim = record { at = at; seen = v } } }

-- So the claim is.
pub claim_lost : (map : FreeMap) (t : Topics) (v : ℕ) → claim_over map (lost_over map t v) ≡ record { at = (claim_over map t).at; seen = v }
claim_lost Pages t v = refl
claim_lost Frames t v = refl

pub claim_seen : (map : FreeMap) (t : Topics) (at v : ℕ) → claim_over map (seen_over map t at v) ≡ record { at = at; seen = v }
claim_seen Pages t at v = refl
claim_seen Frames t at v = refl

-- ---- the cases

pub data ClaimMade (z : Sizes) (map : FreeMap) (begun : Bool) (t : Topics) (v : ℕ) : PartStep → ClaimNext → Topics → Type 0 where
  Won : tries_one begun (claim_over map t) ≡ true → begun ≡ true → 0 < (claim_over map t).seen → is_won (claim_over map t) v ≡ true
      → ClaimMade z map begun t v (try_part map) claims.Got (won_over map t)
  Lost : tries_one begun (claim_over map t) ≡ true → begun ≡ true → 0 < (claim_over map t).seen → is_won (claim_over map t) v ≡ false
      → ClaimMade z map begun t v (try_part map) claims.Goes (lost_over map t v)
  Saw : tries_one begun (claim_over map t) ≡ false → word_after_load begun (claim_over map t) v < map_words map z
      → ClaimMade z map begun t v (load_part map (map_word begun (claim_over map t))) claims.Goes
      (seen_over map t (word_after_load begun (claim_over map t) v) v)
  SawNone : tries_one begun (claim_over map t) ≡ false → map_words map z ≤ word_after_load begun (claim_over map t) v
      → ClaimMade z map begun t v (load_part map (map_word begun (claim_over map t))) claims.Empty
      (seen_over map t (word_after_load begun (claim_over map t) v) v)

module _ (z : Sizes) (begun : Bool) (t : Topics) (v : ℕ) where
  won : (map : FreeMap) → tries_one begun (claim_over map t) ≡ true → is_won (claim_over map t) v ≡ true
      → ClaimMade z map begun t v (try_part map) claims.Got (won_over map t)
  won map tries is =
      let B = both begun (nat_lt 0 (claim_over map t).seen) tries in
      let some = B.1 in
      Won tries B.0 (grind (arith, nat_tests)) is

  lost : (map : FreeMap) → tries_one begun (claim_over map t) ≡ true → is_won (claim_over map t) v ≡ false
      → ClaimMade z map begun t v (try_part map) claims.Goes (lost_over map t v)
  lost map tries is =
      let B = both begun (nat_lt 0 (claim_over map t).seen) tries in
      let some = B.1 in
      Lost tries B.0 (grind (arith, nat_tests)) is

  page_tried : (b : Bool) → tries_one begun t.claim ≡ true → is_won t.claim v ≡ b
      → ClaimMade z Pages begun t v part.Claim (if b then claims.Got else claims.Goes)
      (record t { owned = if b then Some (page_won t.walk t.claim) else None; claim = record { at = if b then 0 else t.claim.at; seen = if b then 0 else v } })
  page_tried true tries is = won Pages tries is
  page_tried false tries is = lost Pages tries is

  frame_tried : (b : Bool) → tries_one begun t.frames.claim ≡ true → is_won t.frames.claim v ≡ b
      → ClaimMade z Frames begun t v part.Frame (if b then claims.Got else claims.Goes)
      (record t {
        frames = record {
          claim = record { at = if b then 0 else t.frames.claim.at; seen = if b then 0 else v };
          owned = if b then Some (frame_won t.frames.claim) else None;
        };
      })
  frame_tried true tries is = won Frames tries is
  frame_tried false tries is = lost Frames tries is

  loaded : (map : FreeMap) (more : Bool) → tries_one begun (claim_over map t) ≡ false
      → nat_lt (word_after_load begun (claim_over map t) v) (map_words map z) ≡ more
      → ClaimMade z map begun t v (load_part map (map_word begun (claim_over map t))) (if more then claims.Goes else claims.Empty)
      (seen_over map t (word_after_load begun (claim_over map t) v) v)
  loaded map true not_ is = Saw not_ (grind (arith, nat_tests))
  loaded map false not_ is = SawNone not_ (grind (arith, nat_tests))

  page_made : (tries : Bool) → tries_one begun t.claim ≡ tries
      → ClaimMade z Pages begun t v (if tries then part.Claim else part.Map (map_word begun t.claim))
      (if tries then (if is_won t.claim v then claims.Got else claims.Goes)
      else if nat_lt (word_after_load begun t.claim v) (map_words Pages z) then claims.Goes else claims.Empty)
      (part_topics (if tries then part.Claim else part.Map (map_word begun t.claim)) t v)
  page_made true tries = page_tried (is_won t.claim v) tries refl
  page_made false not_ = loaded Pages (nat_lt (word_after_load begun t.claim v) (map_words Pages z)) not_ refl

  frame_made : (tries : Bool) → tries_one begun t.frames.claim ≡ tries
      → ClaimMade z Frames begun t v (if tries then part.Frame else part.FrameMap (map_word begun t.frames.claim))
      (if tries then (if is_won t.frames.claim v then claims.Got else claims.Goes)
      else if nat_lt (word_after_load begun t.frames.claim v) (map_words Frames z) then claims.Goes else claims.Empty)
      (part_topics (if tries then part.Frame else part.FrameMap (map_word begun t.frames.claim)) t v)
  frame_made true tries = frame_tried (is_won t.frames.claim v) tries refl
  frame_made false not_ = loaded Frames (nat_lt (word_after_load begun t.frames.claim v) (map_words Frames z)) not_ refl

pub claim_made : (z : Sizes) (map : FreeMap) (begun : Bool) (t : Topics) (v : ℕ)
    → ClaimMade z map begun t v (claim_part map begun (claim_over map t)) (claim_next map begun z (claim_over map t) v)
    (part_topics (claim_part map begun (claim_over map t)) t v)
claim_made z Pages begun t v = page_made z begun t v (tries_one begun t.claim) refl
claim_made z Frames begun t v = frame_made z begun t v (tries_one begun t.frames.claim) refl

-- ---- what its step needs

-- A map has words.
pub words_there : (map : FreeMap) (z : Sizes) → AreSizes z → 0 < map_words map z
words_there Pages z S = let four = S.pool.0 in omega (arith, four)
words_there Frames z S = let pages = S.pages.0 in let frames = S.frames.0 in omega (arith, pages, frames)

-- The word of the map is there.
pub word_there : (map : FreeMap) (begun : Bool) (z : Sizes) (claim : MapClaim) → AreSizes z → (begun ≡ true → claim.at < map_words map z)
    → map_word begun claim < map_words map z
word_there map true z claim S low = low refl
word_there map false z claim S low = words_there map z S

-- Its step needs no page or frame owned, and a word of the map to come to.
pub claim_needs : (map : FreeMap) (begun : Bool) (h : Held) → AreSizes h.state.sizes → OwnsNone map h.topics
    → (begun ≡ true → (claim_over map h.topics).at < map_words map h.state.sizes) → PartNeeds (claim_part map begun (claim_over map h.topics)) h
claim_needs Pages begun h S none low = by (tries_one begun h.topics.claim) refl
  where
    loads : (b : Bool) → tries_one b h.topics.claim ≡ false → (b ≡ true → h.topics.claim.at < map_words Pages h.state.sizes)
        → PartNeeds (part.Map (map_word b h.topics.claim)) h
    loads true is low = (none, low refl, inr (refl, grind (arith, nat_tests)))
    loads false is low = (none, word_there Pages false h.state.sizes h.topics.claim S low, inl refl)

    by : (tries : Bool) → tries_one begun h.topics.claim ≡ tries → PartNeeds (if tries then part.Claim else part.Map (map_word begun h.topics.claim)) h
    by true is = let B = both begun (nat_lt 0 h.topics.claim.seen) is in (none, grind (arith, nat_tests), low B.0)
    by false is = loads begun is low
claim_needs Frames begun h S none low = by (tries_one begun h.topics.frames.claim) refl
  where
    loads : (b : Bool) → tries_one b h.topics.frames.claim ≡ false → (b ≡ true → h.topics.frames.claim.at < map_words Frames h.state.sizes)
        → PartNeeds (part.FrameMap (map_word b h.topics.frames.claim)) h
    loads true is low = (none, low refl, inr (refl, grind (arith, nat_tests)))
    loads false is low = (none, word_there Frames false h.state.sizes h.topics.frames.claim S low, inl refl)

    by : (tries : Bool) → tries_one begun h.topics.frames.claim ≡ tries
        → PartNeeds (if tries then part.Frame else part.FrameMap (map_word begun h.topics.frames.claim)) h
    by true is = let B = both begun (nat_lt 0 h.topics.frames.claim.seen) is in (none, grind (arith, nat_tests), low B.0)
    by false is = loads begun is low

-- It tries a page or a frame, or loads a word of the map.
pub claim_is : (IsSo : PartStep → Type 0) (map : FreeMap) (begun : Bool) (claim : MapClaim) → IsSo (try_part map)
    → ((word : ℕ) → IsSo (load_part map word)) → IsSo (claim_part map begun claim)
claim_is IsSo map begun claim tries loads =
    either_place IsSo (tries_one begun claim) (try_part map) (load_part map (map_word begun claim)) tries (loads _)

-- The bit that a claim tries is one of those that it saw.
pub saw_bit : (claim : MapClaim) → 0 < claim.seen → claim.seen < 2 ^ 64 → is_won claim claim.seen ≡ true
saw_bit claim some small = ap (λ b. b == 1) (bit_at-trailing_zeros w64 claim.seen some small).1

-- ---- what it leaves

-- A claim of a page changes what is owned of the pool, and its own claim; one of a frame changes what is held of frames. All else stays.
abbrev pub ChangesClaim : FreeMap → Topics → Topics → Type 0
ChangesClaim Pages t u = u ≡ record t { owned = u.owned; claim = u.claim }
ChangesClaim Frames t u = u ≡ record t { frames = u.frames }

pub claim_changes : (z : Sizes) (map : FreeMap) (begun : Bool) (t : Topics) (v : ℕ) (step : PartStep) (next : ClaimNext) (u : Topics)
    → ClaimMade z map begun t v step next u → ChangesClaim map t u
claim_changes z Pages begun t v _ _ _ (Won tries b some is) = refl
claim_changes z Pages begun t v _ _ _ _ = refl
claim_changes z Frames begun t v _ _ _ (Won tries b some is) = refl
claim_changes z Frames begun t v _ _ _ _ = refl

-- Which page is retired stays.
pub claim_leaves : (z : Sizes) (map : FreeMap) (begun : Bool) (t : Topics) (v : ℕ) (step : PartStep) (next : ClaimNext) (u : Topics)
    → ClaimMade z map begun t v step next u → u.retired ≡ t.retired
claim_leaves z Pages begun t v _ _ _ M = ap (λ (x : Topics). x.retired) (claim_changes z Pages begun t v _ _ _ M)
claim_leaves z Frames begun t v _ _ _ M = ap (λ (x : Topics). x.retired) (claim_changes z Frames begun t v _ _ _ M)

-- The walk stays.
pub claim_walk : (z : Sizes) (map : FreeMap) (begun : Bool) (t : Topics) (v : ℕ) (step : PartStep) (next : ClaimNext) (u : Topics)
    → ClaimMade z map begun t v step next u → u.walk ≡ t.walk
claim_walk z Pages begun t v _ _ _ M = ap (λ (x : Topics). x.walk) (claim_changes z Pages begun t v _ _ _ M)
claim_walk z Frames begun t v _ _ _ M = ap (λ (x : Topics). x.walk) (claim_changes z Frames begun t v _ _ _ M)

-- So does the host word that was looked up, with what was seen of pages in a row with it, and what is held of invalidations.
pub claim_looks : (z : Sizes) (map : FreeMap) (begun : Bool) (t : Topics) (v : ℕ) (step : PartStep) (next : ClaimNext) (u : Topics)
    → ClaimMade z map begun t v step next u → LeavesLooks t u
claim_looks z Pages begun t v _ _ _ M = let same = claim_changes z Pages begun t v _ _ _ M in
    same_looks t _ (ap (λ (x : Topics). x.host) same) (ap (λ (x : Topics). x.row) same)
claim_looks z Frames begun t v _ _ _ M = let same = claim_changes z Frames begun t v _ _ _ M in
    same_looks t _ (ap (λ (x : Topics). x.host) same) (ap (λ (x : Topics). x.row) same)

pub claim_opens : (z : Sizes) (map : FreeMap) (begun : Bool) (t : Topics) (v : ℕ) (step : PartStep) (next : ClaimNext) (u : Topics)
    → ClaimMade z map begun t v step next u → u.invalidations ≡ t.invalidations
claim_opens z Pages begun t v _ _ _ M = ap (λ (x : Topics). x.invalidations) (claim_changes z Pages begun t v _ _ _ M)
claim_opens z Frames begun t v _ _ _ M = ap (λ (x : Topics). x.invalidations) (claim_changes z Frames begun t v _ _ _ M)

-- A claim of a page leaves what is held of frames, and one of a frame what is owned of the pool, and its claim.
pub page_claim_frames : (z : Sizes) (begun : Bool) (t : Topics) (v : ℕ) (step : PartStep) (next : ClaimNext) (u : Topics)
    → ClaimMade z Pages begun t v step next u → u.frames ≡ t.frames
page_claim_frames z begun t v _ _ _ M = ap (λ (x : Topics). x.frames) (claim_changes z Pages begun t v _ _ _ M)

pub frame_claim_owned : (z : Sizes) (begun : Bool) (t : Topics) (v : ℕ) (step : PartStep) (next : ClaimNext) (u : Topics)
    → ClaimMade z Frames begun t v step next u → u.owned ≡ t.owned
frame_claim_owned z begun t v _ _ _ M = ap (λ (x : Topics). x.owned) (claim_changes z Frames begun t v _ _ _ M)

pub frame_claim_pages : (z : Sizes) (begun : Bool) (t : Topics) (v : ℕ) (step : PartStep) (next : ClaimNext) (u : Topics)
    → ClaimMade z Frames begun t v step next u → u.claim ≡ t.claim
frame_claim_pages z begun t v _ _ _ M = ap (λ (x : Topics). x.claim) (claim_changes z Frames begun t v _ _ _ M)

-- ---- how it waits, and how it comes to an end

-- A try waits where it is lost, and a load never.
pub try_waits : (map : FreeMap) (t : Topics) (v : ℕ) → part_waits (try_part map) t v ≡ not (is_won (claim_over map t) v)
try_waits Pages t v = refl
try_waits Frames t v = refl

pub load_waits_not : (map : FreeMap) (word : ℕ) (t : Topics) (v : ℕ) → part_waits (load_part map word) t v ≡ false
load_waits_not Pages word t v = refl
load_waits_not Frames word t v = refl

-- The step with which a line is answered for want of a page or a frame doesn't wait.
pub claim_free : (z : Sizes) (map : FreeMap) (begun : Bool) (t : Topics) (v : ℕ) (step : PartStep) (next : ClaimNext) (u : Topics)
    → ClaimMade z map begun t v step next u
    → (on got : Place) (without answer : Answer) → claim_outcome on got without next ≡ Ends answer → part_waits step t v ≡ false
claim_free z map begun t v _ _ _ (SawNone not_ le) on got without answer e = load_waits_not map (map_word begun (claim_over map t)) t v
claim_free z map begun t v _ _ _ _ on got without answer e = absurd (cc e)

-- the most steps that are left of the claim after it
abbrev pub claim_left_after : FreeMap → ClaimNext → Sizes → MapClaim → ℕ
claim_left_after map claims.Goes z claim = claim_left map true z claim
claim_left_after map _ z claim = 0

seen_falls : (zero_ : Bool) (words word v : ℕ) → (v == 0) ≡ zero_ → word < words
    → (if nat_lt 0 v then 1 else words - (word + (if zero_ then 1 else 0)) + 1) < words - word + 1
seen_falls true words word v is low = let none : nat_lt 0 v ≡ false = grind (arith, nat_tests) in rw none (omega arith)
seen_falls false words word v is low = let some : nat_lt 0 v ≡ true = grind (arith, nat_tests) in rw some (omega arith)

-- It has no more left than the words of its map, and a try.
pub claim_few : (map : FreeMap) (begun : Bool) (z : Sizes) (claim : MapClaim) → claim_left map begun z claim ≤ map_words map z + 1
claim_few map begun z claim = by (tries_one begun claim)
  where
    by : (tries : Bool) → (if tries then 1 else map_words map z - map_word begun claim + 1) ≤ map_words map z + 1
    by true = omega arith
    by false = omega arith

-- A step that doesn't wait leaves it fewer.
pub claim_falls : (z : Sizes) (map : FreeMap) (begun : Bool) (t : Topics) (v : ℕ) (step : PartStep) (next : ClaimNext) (u : Topics)
    → ClaimMade z map begun t v step next u → part_waits step t v ≡ false
    → map_word begun (claim_over map t) < map_words map z → claim_left_after map next z (claim_over map u) < claim_left map begun z (claim_over map t)
claim_falls z map begun t v _ _ _ (Won tries b some is) goes low = rw tries (omega arith)
claim_falls z map begun t v _ _ _ (Lost tries b some is) goes low = let waits = try_waits map t v in absurd (cc (sym goes ∙ waits ∙ ap not is))
claim_falls z map begun t v _ _ _ (Saw not_ lt) goes low =
    rw (not_, claim_seen map t (word_after_load begun (claim_over map t) v) v)
    (seen_falls (v == 0) (map_words map z) (map_word begun (claim_over map t)) v refl low)
claim_falls z map begun t v _ _ _ (SawNone not_ le) goes low = rw not_ (omega arith)
