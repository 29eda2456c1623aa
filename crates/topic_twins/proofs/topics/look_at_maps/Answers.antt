use Rattle.std.proofs.Common.{◌≡◌, ◌<◌, ◌≤◌, ℕ, sym, ap, ◌∙◌, arith}
use Rattle.std.specs.Prelude.{Bool, false, ◌&&◌, nat_le, nat_lt}
use Rattle.std.proofs.lemmas.Bool.Decides.{nat_tests}
use Rattle.core_views.specs.declared.sizes.Sizes.{Sizes}
use Rattle.core_views.specs.declared.topics.Topics.{Topics}
use Rattle.spte_words.specs.Areas.{place}
use Rattle.part_steps.specs.ControlBits.{frames_begin, frames_end, is_frame_map, is_pool_map, map_begins, map_ends}
use Rattle.part_steps.specs.ControlTopics.{at_word}
use Rattle.topic_twins.proofs.topics.look_at_maps.Goals as goal

-- The lone words stand before both maps.
map_later : (z : Sizes) → 8 ≤ map_begins z
unfolding place
map_later z = omega arith

frames_later : (z : Sizes) → 8 ≤ frames_begin z
unfolding place
frames_later z = omega arith

before : (begins ends word : ℕ) → 8 ≤ begins → word < 8 → (nat_le begins word && nat_lt word ends) ≡ false
before begins ends word later lone = grind (arith, nat_tests)

-- So the load of one leaves the claims.
claims_kept : (z : Sizes) (word : ℕ) (t : Topics) (v : ℕ) → word < 8 → t ≡ record t {
  claim = at_word (is_pool_map z word) (map_begins z) word t.claim v;
  frames = record t.frames { claim = at_word (is_frame_map z word) (frames_begin z) word t.frames.claim v };
}
claims_kept z word t v lone =
    sym (ap (λ (b : Bool). record t {
      claim = at_word b (map_begins z) word t.claim v;
      frames = record t.frames { claim = at_word (is_frame_map z word) (frames_begin z) word t.frames.claim v };
    }) (before (map_begins z) (map_ends z) word (map_later z) lone)
    ∙ ap (λ (b : Bool). record t { frames = record t.frames { claim = at_word b (frames_begin z) word t.frames.claim v } })
    (before (frames_begin z) (frames_end z) word (frames_later z) lone))

pub returns-then-word-number : goal.returns-then-word-number
returns-then-word-number c = claims_kept c.args.sizes.now c.args.word c.args.topics.now c.args.found (omega arith)
