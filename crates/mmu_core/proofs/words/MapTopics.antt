-- What an actor holds after a load of a control word, or of a word of a map, and after a fill.
use Rattle.std.proofs.Common.{◌≡◌, ◌+◌, ◌-◌, ◌<◌, ◌≤◌, ℕ, refl, ap, ◌∙◌, arith}
use Rattle.std.specs.Prelude.{Bool, true, false, ◌==◌, ◌&&◌, nat_le, nat_lt, not, if◌then◌else◌, Some, None}
use Rattle.std.proofs.lemmas.Bool.Decides.{nat_tests}
use Rattle.core_views.specs.declared.sizes.Sizes.{Sizes}
use Rattle.core_views.specs.declared.topics.MapClaim.{MapClaim}
use Rattle.core_views.specs.declared.topics.Topics.{Topics}
use Rattle.spte_words.specs.declared.area.Area.{Area}
use Rattle.spte_words.specs.declared.area.Area.TheVariants as area
use Rattle.spte_words.specs.Areas.{number_of, place, size_of, words_of_bits}
use Rattle.spte_words.proofs.Places.{areas_apart, next_place, place_at}
use Rattle.part_steps.specs.declared.part_step.PartStep.TheVariants as part
use Rattle.part_steps.specs.PartTasks.{part_task}
use Rattle.part_steps.specs.PartTopics.{part_topics}
use Rattle.part_steps.specs.Tasks.{kind_of_task, map_of}
use Rattle.part_steps.specs.StayTopics.{is_loose, kept_search, may_search, may_walk, has_lock}
use Rattle.part_steps.specs.FrameTopics.{word_stored}
use Rattle.part_steps.specs.PageTopics.{filled_more}
use Rattle.part_steps.specs.ControlTopics.{at_root, at_set, at_word, controlled, count_checked, range_checked, seq_checked, start_checked, uncovered}
use Rattle.part_steps.specs.ControlBits.{frames_begin, frames_end, is_content, is_frame_map, is_pool_map, map_begins, map_ends}
use Rattle.part_steps.specs.TopicSteps.{topics_after, word_filled}

-- The lone words stand before the map.
lone_begin : (z : Sizes) → 8 ≤ map_begins z
unfolding place
lone_begin z = omega arith

-- the places of the maps' words
pub map_word_at : (z : Sizes) (i : ℕ) → place (map_of z) area.PoolMap i ≡ map_begins z + i
map_word_at z i = place_at (map_of z) area.PoolMap i

pub map_end : (z : Sizes) → map_ends z ≡ map_begins z + words_of_bits z.pool
map_end z = next_place (map_of z) area.PoolMap area.FrameMap refl ∙ place_at (map_of z) area.PoolMap (words_of_bits z.pool)

pub frame_word_at : (z : Sizes) (i : ℕ) → place (map_of z) area.FrameMap i ≡ frames_begin z + i
frame_word_at z i = place_at (map_of z) area.FrameMap i

pub frame_map_end : (z : Sizes) → frames_end z ≡ frames_begin z + words_of_bits z.frames
frame_map_end z = next_place (map_of z) area.FrameMap area.Log refl ∙ place_at (map_of z) area.FrameMap (words_of_bits z.frames)

before_map : (begins ends word : ℕ) → word < begins → (nat_le begins word && nat_lt word ends) ≡ false
before_map begins ends word lt = grind (arith, nat_tests)

behind_map : (begins ends word : ℕ) → ends ≤ word → (nat_le begins word && nat_lt word ends) ≡ false
behind_map begins ends word le = grind (arith, nat_tests)

in_map : (begins ends word : ℕ) → begins ≤ word → word < ends → (nat_le begins word && nat_lt word ends) ≡ true
in_map begins ends word le lt = grind (arith, nat_tests)

-- a load of a word outside of a map leaves a claim in it
at_other : (begins ends word : ℕ) (claim : MapClaim) (v : ℕ) → (nat_le begins word && nat_lt word ends) ≡ false
    → at_word (nat_le begins word && nat_lt word ends) begins word claim v ≡ claim
at_other begins ends word claim v outside = ap (λ (b : Bool). at_word b begins word claim v) outside

-- the claims of a page and of a frame after a load
abbrev page_claim : Sizes → ℕ → Topics → ℕ → MapClaim
page_claim z word t v = at_word (is_pool_map z word) (map_begins z) word t.claim v

abbrev frame_claim : Sizes → ℕ → Topics → ℕ → MapClaim
frame_claim z word t v = at_word (is_frame_map z word) (frames_begin z) word t.frames.claim v

-- a load of a lone word leaves the claims
pub lone_is : (z : Sizes) (word : ℕ) (t : Topics) (v : ℕ) → word < 8
    → controlled z word t v ≡ record (controlled z word t v) { claim = t.claim; frames = t.frames }
lone_is z word t v lt =
    ap (λ (c : MapClaim). record (controlled z word t v) { claim = c })
    (at_other (map_begins z) (map_ends z) word t.claim v (before_map (map_begins z) (map_ends z) word (omega (arith, lone_begin z))))
    ∙ ap (λ (c : MapClaim). record (controlled z word t v) { claim = t.claim; frames = record t.frames { claim = c } })
    (at_other (frames_begin z) (frames_end z) word t.frames.claim v
    (before_map (frames_begin z) (frames_end z) word (omega (arith, lone_begin z, map_end z))))

test_false : (word n : ℕ) → n < word → (word == n) ≡ false
test_false word n lt = grind (arith, nat_tests)

-- what a load of a control word makes, where each test went so
abbrev told_so : Bool → Bool → Bool → Bool → Bool → Bool → Bool → MapClaim → MapClaim → Topics → ℕ → Topics
told_so root slots seq count start end_ pause claim of_frame t v = record t {
  walk = if root then at_root (may_walk t.stay t.hold) t.walk v else t.walk;
  search = if slots then at_set (may_search t.stay t.hold) t.search v else if seq && is_loose t.hold then kept_search false t.search else t.search;
  host = if seq && is_loose t.hold then None else t.host;
  row = if slots then uncovered t.row else t.row;
  invalidations = record t.invalidations {
    snapshot = if seq && is_loose t.hold then Some v else t.invalidations.snapshot;
    count = if count then v else t.invalidations.count;
    start = if start then v else t.invalidations.start;
    end = if end_ then v else t.invalidations.end;
    seq = if seq && not (is_loose t.hold) then v else t.invalidations.seq;
    checked =
        if count then count_checked t.hold else
        if start then start_checked t.invalidations.checked else
        if end_ then range_checked t.invalidations.checked else
        if seq then seq_checked (has_lock t.hold) t.invalidations.count t.invalidations.checked else
        t.invalidations.checked;
  };
  claim = claim;
  frames = record t.frames { claim = of_frame };
  pause = if pause then v else t.pause;
}

-- a claim after a load of a word of its map
at_map : (begins ends size i : ℕ) (claim : MapClaim) (v : ℕ) → ends ≡ begins + size → i < size
    → at_word (nat_le begins (begins + i) && nat_lt (begins + i) ends) begins (begins + i) claim v ≡ record { at = i + (if v == 0 then 1 else 0); seen = v }
at_map begins ends size i claim v is lt =
    ap (λ (b : Bool). at_word b begins (begins + i) claim v) (in_map begins ends (begins + i) (omega arith) (omega (arith, is, lt)))
    ∙ ap (λ n. record { at = n + (if v == 0 then 1 else 0); seen = v }) (taken begins)
  where
    taken : (m : ℕ) → m + i - m ≡ i
    taken m = omega arith

mapped : (z : Sizes) (word : ℕ) (claim of_frame : MapClaim) (t : Topics) (v : ℕ) → 8 ≤ word → page_claim z word t v ≡ claim → frame_claim z word t v ≡ of_frame
    → controlled z word t v ≡ record t { claim = claim; frames = record t.frames { claim = of_frame } }
mapped z word claim of_frame t v le is frame_is =
    ap (λ (b : Bool). told_so b (word == 1) (word == 2) (word == 3) (word == 4) (word == 5) (word == 7) c f t v) (test_false word 0 (omega arith))
    ∙ ap (λ (b : Bool). told_so false b (word == 2) (word == 3) (word == 4) (word == 5) (word == 7) c f t v) (test_false word 1 (omega arith))
    ∙ ap (λ (b : Bool). told_so false false b (word == 3) (word == 4) (word == 5) (word == 7) c f t v) (test_false word 2 (omega arith))
    ∙ ap (λ (b : Bool). told_so false false false b (word == 4) (word == 5) (word == 7) c f t v) (test_false word 3 (omega arith))
    ∙ ap (λ (b : Bool). told_so false false false false b (word == 5) (word == 7) c f t v) (test_false word 4 (omega arith))
    ∙ ap (λ (b : Bool). told_so false false false false false b (word == 7) c f t v) (test_false word 5 (omega arith))
    ∙ ap (λ (b : Bool). told_so false false false false false false b c f t v) (test_false word 7 (omega arith))
    ∙ ap (λ (x : MapClaim). record t { claim = x; frames = record t.frames { claim = f } }) is
    ∙ ap (λ (x : MapClaim). record t { claim = claim; frames = record t.frames { claim = x } }) frame_is
  where
    c : MapClaim
    c = page_claim z word t v

    f : MapClaim
    f = frame_claim z word t v

pub map_topics : (z : Sizes) (own i : ℕ) (t : Topics) (note v : ℕ) → i < words_of_bits z.pool
    → topics_after z (kind_of_task z (part_task (part.Map i) own t note)) t v ≡ part_topics (part.Map i) t v
unfolding topics_after
map_topics z own i t note v lt =
    ap (λ word. controlled z word t v) (map_word_at z i)
    ∙ mapped z (map_begins z + i) _ t.frames.claim t v (omega (arith, lone_begin z))
    (at_map (map_begins z) (map_ends z) (words_of_bits z.pool) i t.claim v (map_end z) lt)
    (at_other (frames_begin z) (frames_end z) (map_begins z + i) t.frames.claim v
    (before_map (frames_begin z) (frames_end z) (map_begins z + i) (omega (arith, map_end z, lt))))

pub frame_map_topics : (z : Sizes) (own i : ℕ) (t : Topics) (note v : ℕ) → i < words_of_bits z.frames
    → topics_after z (kind_of_task z (part_task (part.FrameMap i) own t note)) t v ≡ part_topics (part.FrameMap i) t v
unfolding topics_after
frame_map_topics z own i t note v lt =
    ap (λ word. controlled z word t v) (frame_word_at z i)
    ∙ mapped z (frames_begin z + i) t.claim _ t v (omega (arith, lone_begin z, map_end z))
    (at_other (map_begins z) (map_ends z) (frames_begin z + i) t.claim v (behind_map (map_begins z) (map_ends z) (frames_begin z + i) (omega arith)))
    (at_map (frames_begin z) (frames_end z) (words_of_bits z.frames) i t.frames.claim v (frame_map_end z) lt)

-- A word of an area before the frames' own is none of theirs; each of theirs is.
pub before_content : (z : Sizes) (a : Area) (i : ℕ) → number_of a < 15 → i < size_of (map_of z) a → is_content z (place (map_of z) a i) ≡ false
before_content z a i before lt =
    below (place (map_of z) area.Content 0) (place (map_of z) a i)
    (omega (arith, lt, place_at (map_of z) a i, place_at (map_of z) a (size_of (map_of z) a), areas_apart (map_of z) a area.Content before))
  where
    below : (begins word : ℕ) → word < begins → nat_le begins word ≡ false
    below begins word under = grind (arith, nat_tests)

pub in_content : (z : Sizes) (i : ℕ) → is_content z (place (map_of z) area.Content i) ≡ true
in_content z i =
    from (place (map_of z) area.Content 0) (place (map_of z) area.Content i) (omega (arith, place_at (map_of z) area.Content i))
  where
    from : (begins word : ℕ) → begins ≤ word → nat_le begins word ≡ true
    from begins word over = grind (arith, nat_tests)

-- a page's word is filled, or its role
pub filled_topics : (z : Sizes) (a : Area) (i : ℕ) (t : Topics) (v : ℕ) → number_of a < 15 → i < size_of (map_of z) a
    → word_filled (is_content z (place (map_of z) a i)) t v ≡ record t { owned = filled_more t.owned v }
filled_topics z a i t v before lt = ap (λ (b : Bool). word_filled b t v) (before_content z a i before lt)

pub stored_topics : (z : Sizes) (i : ℕ) (t : Topics) (v : ℕ)
    → word_filled (is_content z (place (map_of z) area.Content i)) t v ≡ record t { frames = record t.frames { owned = word_stored t.frames.owned } }
stored_topics z i t v = ap (λ (b : Bool). word_filled b t v) (in_content z i)
