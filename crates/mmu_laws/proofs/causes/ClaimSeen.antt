-- What a claim has seen of the word of the map that it has come to, and why its try for a page or a frame is lost.
use Rattle.std.proofs.Common.{◌≡◌, ◌≢◌, ◌<◌, ◌+◌, ◌-◌, ◌*◌, ◌^◌, ℕ, List, [], ◌∷◌, ◌++◌, refl, sym, subst, ap, ◌∙◌, arith, bit_and, w64}
use Rattle.std.specs.Prelude.{Bool, true, false, ◌==◌, not, if◌then◌else◌, slice_index}
use Rattle.std.specs.Int.{bit_at}
use Rattle.std.proofs.Math.Pow.{pow-lt}
use Rattle.std.proofs.lemmas.Bool.Decides.{nat_tests}
use Rattle.std.proofs.lemmas.Nat.{and-not, and_comm}
use Rattle.std.proofs.lemmas.Nat.Bits.{and_pow, bit_at-lt, bit_at-trailing_zeros}
use Rattle.core_views.specs.declared.kind.Kind.{Kind}
use Rattle.core_views.specs.declared.sizes.Sizes.{Sizes}
use Rattle.core_views.specs.declared.topics.MapClaim.{MapClaim}
use Rattle.core_views.specs.declared.topics.Topics.{Topics}
use Rattle.core_views.specs.Held.{Held}
use Rattle.core_views.specs.Kinds.{after}
use Rattle.spte_words.specs.Areas.{size_of}
use Rattle.spte_words.specs.Bits.{has_bit}
use Rattle.part_steps.specs.declared.part_step.PartStep.{PartStep}
use Rattle.part_steps.specs.declared.part_step.PartStep.TheVariants as part
use Rattle.mmu_core.specs.machine.Enabled.{mmu}
use Rattle.mmu_core.specs.invariant.Laws.{IsSound}
use Rattle.mmu_core.specs.machine.Machine.{May, Step, World, answered, effect, found, hand_in, run}
use Rattle.part_steps.specs.PartTasks.{all_but, part_kind}
use Rattle.part_steps.specs.Tasks.{map_of}
use Rattle.mmu_core.specs.declared.claim.FreeMap.{FreeMap}
use Rattle.mmu_core.specs.declared.claim.FreeMap.TheVariants.{Frames, Pages}
use Rattle.mmu_core.specs.orders.ClaimSteps.{claim_over, load_part, map_area, map_words, try_part}
use Rattle.mmu_laws.specs.causes.Waits.{IsOffWord, IsTaken, word_of_map}
use Rattle.part_steps.specs.PageTopics.{is_won, tried_bit}
use Rattle.mmu_laws.proofs.causes.Changes.{Knows, knows_now, was_changed}
use Rattle.mmu_core.proofs.orders.ClaimMade.{saw_bit}
use Rattle.mmu_core.proofs.forms.access.FaultSame.{is_not}
use Rattle.mmu_laws.proofs.causes.CauseSteps.{IsExchange, IsLoad}
use Rattle.mmu_laws.proofs.causes.MadeSteps.{Makes, exchange_finds, load_keeps, own_rests, own_sizes, word_on}

-- A bit that is clear is cleared: the word stays.
left_alone : (n j : ℕ) → j < 64 → n < 2 ^ 64 → has_bit j n ≡ false → bit_and n (all_but (2 ^ j)) ≡ n
left_alone n j low small clear =
    let few = bit_at-lt n j in
    let none : bit_at n j ≡ 0 = clear_bit (bit_at n j) few clear in
    let nothing : bit_and n (2 ^ j) ≡ 0 = and_pow n j ∙ ap (λ b. b * 2 ^ j) none ∙ nil (2 ^ j) in
    let whole : bit_and (2 ^ 64 - 1 - 2 ^ j) n + bit_and (2 ^ j) n ≡ n = and-not 64 (2 ^ j) n (pow-lt low) small in
    and_comm n (all_but (2 ^ j)) ∙ omega (arith, whole, nothing, and_comm n (2 ^ j))
  where
    clear_bit : (b : ℕ) → b < 2 → (b == 1) ≡ false → b ≡ 0
    clear_bit b few is = grind (arith, nat_tests)

    nil : (x : ℕ) → 0 * x ≡ 0
    nil x = omega arith

try_leaves : (map : FreeMap) (h : Held) (note n : ℕ)
    → after (part_kind h (try_part map) note) n ≡ bit_and n (all_but (2 ^ tried_bit (claim_over map h.topics)))
unfolding after
try_leaves Pages h note n = refl
try_leaves Frames h note n = refl

try_exchanges : (map : FreeMap) → IsExchange (try_part map)
try_exchanges Pages = tt
try_exchanges Frames = tt

load_loads : (map : FreeMap) (word : ℕ) → IsLoad (load_part map word)
load_loads Pages word = tt
load_loads Frames word = tt

-- The words of the map are those of its area.
pub word_inside : (z : Sizes) (map : FreeMap) (i : ℕ) → i < map_words map z → i < size_of (map_of z) (map_area map)
word_inside z Pages i low = low
word_inside z Frames i low = low

-- What the actor knows of a word of the map, since its last step there.
abbrev pub KnowsWord : Sizes → World Held → ℕ → FreeMap → ℕ → ℕ → List (Step Kind) → World Held → Type 0
KnowsWord z w actor map at seen ss u = Knows (IsOffWord actor (word_of_map z map at)) actor (word_of_map z map at) seen w ss u

module _ (z : Sizes) (w : World Held) (ss : List (Step Kind)) (s : Step Kind) (G : IsSound z (run mmu w ss)) (may : May mmu (run mmu w ss) s) where
  abbrev a : ℕ
  a = s.actor

  abbrev u : World Held
  u = run mmu w ss

  abbrev t : Topics
  t = (hand_in mmu u s.actor).topics

  abbrev v : ℕ
  v = answered mmu u s.kind

  abbrev n : ℕ
  n = found mmu u s.kind

  abbrev Made : PartStep → Type 0
  Made step = Makes (hand_in mmu u s.actor) s step

  abbrev SawNow : FreeMap → ℕ → ℕ → Type 0
  SawNow map at seen = KnowsWord z w a map at seen (ss ++ s ∷ []) (effect mmu u s)

  abbrev claim : FreeMap → MapClaim
  claim map = claim_over map t

  -- the word that a try is on, and that of a load; and what a try needs
  try_on : (map : FreeMap) → Made (try_part map) → s.kind.word ≡ word_of_map z map (claim map).at
  try_on Pages M = word_on z u s G may part.Claim M
  try_on Frames M = word_on z u s G may part.Frame M

  load_on : (map : FreeMap) (word : ℕ) → Made (load_part map word) → s.kind.word ≡ word_of_map z map word
  load_on Pages word M = word_on z u s G may (part.Map word) M
  load_on Frames word M = word_on z u s G may (part.FrameMap word) M

  pub try_saw : (map : FreeMap) → Made (try_part map) → 0 < (claim map).seen
  try_saw Pages M = M.needs.1
  try_saw Frames M = M.needs.1

  seen_small : (map : FreeMap) → (claim map).seen < 2 ^ 64
  seen_small Pages = (own_rests z u s G may).counters.seen
  seen_small Frames = (own_rests z u s G may).counters.frames.seen

  -- what a claim has seen after its own step
  pub tried_saw : (map : FreeMap) (won : Bool) → is_won (claim map) v ≡ won → Made (try_part map) → 0 < (if won then 0 else v)
      → SawNow map (if won then 0 else (claim map).at) (if won then 0 else v)
  tried_saw map true is M some = absurd (omega (arith, some))
  tried_saw map false lost M some =
      knows_now (IsOffWord a (word_of_map z map (claim map).at)) a (word_of_map z map (claim map).at) v w ss s may
      (record { by_actor = refl; on = try_on map M; leaves = leaves })
    where
      bit : tried_bit (claim map) < 64
      bit = (bit_at-trailing_zeros w64 (claim map).seen (try_saw map M) (seen_small map)).0

      leaves : after s.kind n ≡ v
      leaves =
          let finds : n ≡ v = exchange_finds z u s G may (try_part map) M (try_exchanges map) in
          ap (λ k. after k n) M.is ∙ try_leaves map (hand_in mmu u s.actor) M.note n
          ∙ left_alone n (tried_bit (claim map)) bit (G.small s.kind.word) (ap (has_bit (tried_bit (claim map))) finds ∙ lost) ∙ finds

  pub mapped_saw : (map : FreeMap) (none : Bool) (word : ℕ) → (v == 0) ≡ none → Made (load_part map word) → 0 < v
      → SawNow map (word + (if none then 1 else 0)) v
  mapped_saw map true word is M some = absurd (let zero_ : v ≡ 0 = grind (arith, nat_tests) in omega (arith, some, zero_))
  mapped_saw map false word is M some =
      subst (λ i. SawNow map i v) (omega arith)
      (knows_now (IsOffWord a (word_of_map z map word)) a (word_of_map z map word) v w ss s may
      (record { by_actor = refl; on = load_on map word M; leaves = load_keeps z u s G may (load_part map word) M (load_loads map word) }))

  -- It has come to a word of the map, where it has seen something free there.
  in_machine : (map : FreeMap) (n : ℕ) → n < map_words map (hand_in mmu u s.actor).state.sizes → n < map_words map z
  in_machine map n low = subst (λ (y : Sizes). n < map_words map y) (own_sizes z u s G may) low

  load_low : (map : FreeMap) (word : ℕ) → Made (load_part map word) → word < map_words map z
  load_low Pages word M = in_machine Pages word M.needs.1
  load_low Frames word M = in_machine Frames word M.needs.1

  try_low : (map : FreeMap) → Made (try_part map) → (claim map).at < map_words map z
  try_low Pages M = in_machine Pages t.claim.at M.needs.2
  try_low Frames M = in_machine Frames t.frames.claim.at M.needs.2

  pub mapped_low : (map : FreeMap) (none : Bool) (word : ℕ) → (v == 0) ≡ none → Made (load_part map word) → 0 < v
      → word + (if none then 1 else 0) < map_words map z
  mapped_low map true word is M some = let none : v ≡ 0 = grind (arith, nat_tests) in absurd (omega (arith, some, none))
  mapped_low map false word is M some = let low = load_low map word M in omega (arith, low)

  pub tried_low : (map : FreeMap) (won : Bool) → Made (try_part map) → 0 < (if won then 0 else v)
      → (if won then 0 else (claim map).at) < map_words map z
  tried_low map true M some = absurd (omega (arith, some))
  tried_low map false M some = try_low map M

  -- A try is lost where another actor took the page or the frame.
  pub is_taken : (map : FreeMap) → not (is_won (claim map) v) ≡ true → Made (try_part map) → KnowsWord z w a map (claim map).at (claim map).seen ss u
      → IsTaken z map a (claim map) v w ss
  is_taken map lost M K =
      let gone : has_bit (tried_bit (claim map)) v ≡ false = is_not (is_won (claim map) v) lost in
      let saw : has_bit (tried_bit (claim map)) (claim map).seen ≡ true = saw_bit (claim map) (try_saw map M) (seen_small map) in
      let here : slice_index u.words (word_of_map z map (claim map).at) ≡ v =
      ap (slice_index u.words) (sym (try_on map M)) ∙ exchange_finds z u s G may (try_part map) M (try_exchanges map) in
      let differs : slice_index u.words (word_of_map z map (claim map).at) ≢ (claim map).seen =
      λ same. let apart : has_bit (tried_bit (claim map)) (claim map).seen ≡ false = ap (has_bit (tried_bit (claim map))) (sym same ∙ here) ∙ gone in
      cc (saw, apart) in (
        was_changed (IsOffWord a (word_of_map z map (claim map).at)) a (word_of_map z map (claim map).at) (claim map).seen w ss u K differs,
        saw,
        gone,
      )
