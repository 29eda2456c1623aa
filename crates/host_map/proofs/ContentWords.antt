-- The host word and the content word of a told world, before and after a step on them.
use Rattle.std.proofs.Common.{◌≡◌, ◌<◌, ℕ, List, Option, Some, None, length, refl, sym, subst, ap, ◌∙◌, arith}
use Rattle.std.specs.Prelude.{true, IfSome, nat_lt, unwrap_or, slice_index, slice_set}
use Rattle.std.proofs.lemmas.Bool.Decides.{nat_tests}
use Rattle.std.proofs.lemmas.List.{get_or-set_other, get_or-set_same, set-get_or}
use Rattle.core_views.specs.declared.kind.StepKind.TheVariants as kind
use Rattle.core_views.specs.declared.sizes.Sizes.{Sizes}
use Rattle.core_views.specs.declared.trace.Op.{Op}
use Rattle.core_views.specs.declared.trace.Op.TheVariants.{Read, Write, Add}
use Rattle.core_views.specs.Held.{Held}
use Rattle.core_views.specs.Kinds.{after}
use Rattle.core_views.specs.Memory.{word_after_op}
use Rattle.spte_words.specs.declared.area.Area.TheVariants as area
use Rattle.spte_words.specs.Areas.{content_index, size_of}
use Rattle.spte_words.proofs.Indices.{content_within}
use Rattle.mmu_core.specs.machine.Enabled.{mmu}
use Rattle.mmu_core.specs.machine.Machine.{World, answered, effect}
use Rattle.part_steps.specs.Tasks.{kind_of_task, loads, map_of}
use Rattle.mmu_core.proofs.machine.Views.{answered_is}
use Rattle.step_seats.specs.Moves.{ToldBy, step_by}
use Rattle.host_map.specs.Touching.{Touched, content_in, content_place, host_in, touch_kind}

-- What a load of a host word finds is that word.
pub host_found : (z : Sizes) (page note : ℕ) (told tells : Option (World Held)) (actor found : ℕ) → page < z.pages
    → ToldBy told actor (kind_of_task z (loads kind.Host area.Host page note)) found tells → IfSome told (λ w. found ≡ host_in z page w)
host_found z page note None tells actor found there moves = tt
host_found z page note (Some w) tells actor found there moves = sym moves.1 ∙ answered_is z w (loads kind.Host area.Host page note) there

module _ (z : Sizes) (frame word : ℕ) (frame_in : frame < z.frames) (word_below : word < z.words) where
  within : content_index (map_of z) frame word < size_of (map_of z) area.Content
  within = content_within (map_of z) frame word frame_in word_below

  -- What the operation answers is what the word holds.
  answer_is : (op : Op) (note : ℕ) (w : World Held) → answered mmu w (touch_kind z frame word op note) ≡ content_in z frame word w
  answer_is Read note w = answered_is z w (loads kind.Read area.Content (content_index (map_of z) frame word) note) within
  answer_is (Write x) note w =
      answered_is z w
      (record { kind = kind.Write; area = area.Content; index = content_index (map_of z) frame word; expected = 0; written = x; may_end = note })
      within
  answer_is (Add x) note w =
      answered_is z w
      (record { kind = kind.Add; area = area.Content; index = content_index (map_of z) frame word; expected = 0; written = x; may_end = note }) within

  pub content_found : (op : Op) (note : ℕ) (told tells : Option (World Held)) (actor found : ℕ)
      → ToldBy told actor (touch_kind z frame word op note) found tells → IfSome told (λ w. found ≡ content_in z frame word w)
  content_found op note None tells actor found moves = tt
  content_found op note (Some w) tells actor found moves = sym moves.1 ∙ answer_is op note w

  -- what the operation stores
  after_is : (op : Op) (note n : ℕ) → after (touch_kind z frame word op note) n ≡ word_after_op op n
  unfolding after
  after_is Read note n = refl
  after_is (Write x) note n = refl
  after_is (Add x) note n = refl

  place_is : (op : Op) (note : ℕ) → (touch_kind z frame word op note).word ≡ content_place z frame word
  place_is Read note = refl
  place_is (Write x) note = refl
  place_is (Add x) note = refl

  -- the content word as one of all words
  content_at : (w : World Held) → content_in z frame word w ≡ slice_index w.words (content_place z frame word)
  content_at w = let e : nat_lt (content_index (map_of z) frame word) (size_of (map_of z) area.Content) ≡ true = grind (arith, nat_tests, within) in rw e refl

  -- the words after the operation
  words_behind : (op : Op) (note actor : ℕ) (w : World Held) → (effect mmu w (step_by actor (touch_kind z frame word op note))).words
      ≡ slice_set w.words (content_place z frame word) (word_after_op op (slice_index w.words (content_place z frame word)))
  unfolding effect
  words_behind Read note actor w = ap (slice_set w.words (content_place z frame word)) (after_is Read note _)
  words_behind (Write x) note actor w = ap (slice_set w.words (content_place z frame word)) (after_is (Write x) note _)
  words_behind (Add x) note actor w = ap (slice_set w.words (content_place z frame word)) (after_is (Add x) note _)

  touched : (op : Op) (w v : World Held) → content_place z frame word < length w.words → v.words
      ≡ slice_set w.words (content_place z frame word) (word_after_op op (slice_index w.words (content_place z frame word))) → Touched z frame word op w v
  touched op w v inside is = record {
    stores =
        content_at v ∙ ap (λ (ws : List ℕ). slice_index ws (content_place z frame word)) is
        ∙ get_or-set_same w.words (content_place z frame word) _ 0 inside ∙ ap (word_after_op op) (sym (content_at w));
    others = λ i ne. ap (λ (ws : List ℕ). slice_index ws i) is ∙ get_or-set_other w.words (content_place z frame word) i _ 0 ne;
  }

  pub content_behind : (op : Op) (note : ℕ) (told tells : Option (World Held)) (actor found : ℕ)
      → ToldBy told actor (touch_kind z frame word op note) found tells → IfSome told (λ w. IfSome tells (λ v. Touched z frame word op w v))
  content_behind op note None tells actor found moves = tt
  content_behind op note (Some w) None actor found moves = tt
  content_behind op note (Some w) (Some v) actor found moves =
      touched op w v (subst (λ n. n < length w.words) (place_is op note) moves.0.inside)
      (ap (λ (o : Option (World Held)). (unwrap_or o v).words) moves.2 ∙ words_behind op note actor w)

  -- A load changes no word.
  pub words_stay : (note : ℕ) (told tells : Option (World Held)) (actor found : ℕ) → ToldBy told actor (touch_kind z frame word Read note) found tells
      → IfSome told (λ w. IfSome tells (λ v. v.words ≡ w.words))
  words_stay note None tells actor found moves = tt
  words_stay note (Some w) None actor found moves = tt
  words_stay note (Some w) (Some v) actor found moves =
      ap (λ (o : Option (World Held)). (unwrap_or o v).words) moves.2 ∙ words_behind Read note actor w ∙ set-get_or w.words (content_place z frame word) 0
