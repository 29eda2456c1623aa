-- The steps of a line that splits a large leaf: what each needs, what none of them is, what they leave, and how many are left.
use Rattle.std.proofs.Common.{◌≡◌, ◌+◌, ◌<◌, ◌≤◌, ℕ, Bool, true, false, refl, ap, ◌∙◌, arith}
use Rattle.std.specs.Prelude.{if◌then◌else◌, Option, None, Some}
use Rattle.core_views.specs.declared.place.Place.TheVariants as place
use Rattle.core_views.specs.declared.place.SplitPlace.{SplitPlace}
use Rattle.core_views.specs.declared.place.SplitPlace.TheVariants.{Begin, Share, Walk, Claim, Fill, Role, Link, Give, Unshare, End}
use Rattle.core_views.specs.declared.sizes.Sizes.{Sizes}
use Rattle.core_views.specs.declared.topics.Hold.{Hold}
use Rattle.core_views.specs.declared.topics.Hold.TheVariants.{Exclusive, Loose, Owing, Shared}
use Rattle.core_views.specs.declared.topics.OwnedPage.{OwnedPage}
use Rattle.core_views.specs.declared.topics.Topics.{Topics}
use Rattle.core_views.specs.Held.{Held}
use Rattle.spte_words.proofs.ChildEntries.{below_fits}
use Rattle.spte_words.specs.Areas.{words_of_bits}
use Rattle.part_steps.specs.declared.part_step.PartStep.TheVariants as part
use Rattle.part_steps.specs.PageTopics.{still_retired}
use Rattle.part_steps.specs.PartBounds.{PartRests}
use Rattle.part_steps.specs.PartHoldings.{MayLink, takes_table}
use Rattle.part_steps.specs.PartSteps.{PartNeeds, counts}
use Rattle.part_steps.specs.PartTasks.{words_filled}
use Rattle.part_steps.specs.PartTopics.{part_topics}
use Rattle.part_steps.specs.StayTopics.{is_alone}
use Rattle.mmu_core.specs.orders.ClaimSteps.{FreeMap, Pages}
use Rattle.mmu_core.specs.forms.split.SplitKnows.{SplitKnows, Splits}
use Rattle.mmu_core.specs.forms.split.SplitLeft.{split_left}
use Rattle.mmu_core.specs.forms.split.SplitSteps.{split_outcome, split_part}
use Rattle.mmu_core.specs.orders.ShareSteps.{share_left}
use Rattle.mmu_core.proofs.forms.access.FaultNeeds.{full_owns, owned_below}
use Rattle.mmu_core.proofs.forms.access.FaultScans.{maps, one_maps_not, share_maps_not}
use Rattle.mmu_core.proofs.lines.EitherPlace.{either_place}
use Rattle.mmu_core.proofs.machine.GoesOn.{GoesUnderWay, GoesWithin}
use Rattle.mmu_core.proofs.machine.PartStepping.{brings, changes_word, is_told, quiet_told}
use Rattle.mmu_core.proofs.orders.ClaimMade.{claim_few, claim_is, claim_leaves, claim_made, claim_needs}
use Rattle.mmu_core.proofs.orders.ShareMade.{share_is, share_needs}
use Rattle.mmu_core.proofs.words.PartTopics.{no_anew, no_sweep}

-- ---- what each needs

-- In place of a large leaf a table may be linked.
may_link : (gfn : ℕ) (t : Topics) → Splits gfn t → MayLink gfn t
may_link gfn t S = record {
  shares = S.shares;
  section = S.section;
  saw = S.large.saw;
  owes_none = S.owes_none;
  upper = S.large.upper;
  takes = ap takes_table S.large.leaf;
  enters = λ none. let leaf = S.large.leaf in absurd (cc (none, leaf));
}

pub split_needs : (p : SplitPlace) (h : Held) (gfn : ℕ) → PartRests h → SplitKnows p h.state.sizes gfn h.topics → PartNeeds (split_part p gfn h.topics) h
split_needs Begin h gfn R K = K.outside
split_needs Share h gfn R K = share_needs h.topics.hold h refl K.1
split_needs (Walk true) h gfn R K = (K.2 refl, no_sweep h.topics K.0.section refl, no_anew h.topics K.0.section refl)
split_needs (Walk false) h gfn R K = tt
split_needs (Claim begun) h gfn R K = claim_needs Pages begun h R.sizes K.1 K.2
split_needs Fill h gfn R K =
    (K.1, below_fits h.topics.walk.level h.topics.walk.entry (words_filled h.topics.owned) R.level K.1.1, owned_below h R K.1.0)
split_needs Role h gfn R K = (K.1, omega (arith, R.level), owned_below h R (full_owns h.topics.owned K.1))
split_needs Link h gfn R K = (may_link gfn h.topics K.0, K.1)
split_needs (Give e) h gfn R K = (K.2, ap is_alone K.1)
split_needs (Unshare e) h gfn R K = ap (λ (x : Hold). counts x) K.1
split_needs (End e) h gfn R K = (K.0.section, K.0.owes_none)

-- ---- where it goes on to

pub split_goes : (p : SplitPlace) (z : Sizes) (t : Topics) (v : ℕ) → GoesUnderWay (split_outcome p z t v) × GoesWithin (place.Split p) (split_outcome p z t v)
split_goes (End e) z t v = (tt, tt)
split_goes _ z t v = (tt, λ c. refl)

-- ---- what it isn't

-- It publishes nothing, opens and ends no invalidation, and owns no frame; and it changes no host word.
pub split_untold : (p : SplitPlace) (gfn : ℕ) (t : Topics) → is_told (split_part p gfn t) ≡ false
split_untold Share gfn t = share_is (λ s. is_told s ≡ false) t.hold refl refl
split_untold (Walk rooted) gfn t = either_place (λ s. is_told s ≡ false) rooted (part.Walk gfn) part.Root refl refl
split_untold (Claim begun) gfn t = claim_is (λ s. is_told s ≡ false) Pages begun t.claim refl (λ word. refl)
split_untold _ gfn t = refl

brings_none : (p : SplitPlace) (gfn : ℕ) (t : Topics) → brings (split_part p gfn t) ≡ false
brings_none Share gfn t = share_is (λ s. brings s ≡ false) t.hold refl refl
brings_none (Walk rooted) gfn t = either_place (λ s. brings s ≡ false) rooted (part.Walk gfn) part.Root refl refl
brings_none (Claim begun) gfn t = claim_is (λ s. brings s ≡ false) Pages begun t.claim refl (λ word. refl)
brings_none _ gfn t = refl

pub split_quiet : (p : SplitPlace) (gfn : ℕ) (t : Topics) → changes_word (split_part p gfn t) ≡ false
split_quiet p gfn t = quiet_told (split_part p gfn t) (split_untold p gfn t) (brings_none p gfn t)

-- Whether it stands at its claim; another step claims nothing.
abbrev pub is_claim : SplitPlace → Bool
is_claim (Claim begun) = true
is_claim _ = false

pub split_maps_not : (map : FreeMap) (p : SplitPlace) (gfn : ℕ) (t : Topics) → is_claim p ≡ false → maps map (split_part p gfn t) ≡ false
split_maps_not map (Claim begun) gfn t other = absurd (cc other)
split_maps_not map Share gfn t other = share_maps_not map t.hold
split_maps_not map (Walk rooted) gfn t other = one_maps_not map rooted (part.Walk gfn) part.Root refl refl
split_maps_not map _ gfn t other = refl

-- ---- what it leaves

-- No page is retired after it, where none was before.
gives_none : (owned : Option OwnedPage) (retired : Option ℕ) → retired ≡ None → still_retired owned retired ≡ None
gives_none None retired none = refl
gives_none (Some o) retired none = none

pub split_retires : (p : SplitPlace) (z : Sizes) (gfn : ℕ) (t : Topics) (v : ℕ) → t.retired ≡ None → (part_topics (split_part p gfn t) t v).retired ≡ None
split_retires Share z gfn t v none = share_is (λ s. (part_topics s t v).retired ≡ None) t.hold none none
split_retires (Walk rooted) z gfn t v none = either_place (λ s. (part_topics s t v).retired ≡ None) rooted (part.Walk gfn) part.Root none none
split_retires (Claim begun) z gfn t v none = claim_leaves z Pages begun t v _ _ _ (claim_made z Pages begun t v) ∙ none
split_retires (Give e) z gfn t v none = gives_none t.owned t.retired none
split_retires _ z gfn t v none = none

-- ---- how many steps it has left

share_few : (k : Hold) → share_left k ≤ 2
share_few (Owing word) = omega arith
share_few Loose = omega arith
share_few Shared = omega arith
share_few Exclusive = omega arith

walk_few : (rooted : Bool) (level : ℕ) → level ≤ 4 → (if rooted then level else 5) ≤ 5
walk_few true level most = omega (arith, most)
walk_few false level most = omega arith

-- Few beside those of the claim.
pub split_few : (p : SplitPlace) (z : Sizes) (t : Topics) → t.walk.level ≤ 4 → split_left p z t ≤ 526 + words_of_bits z.pool
split_few Share z t most = let few = share_few t.hold in omega (arith, few)
split_few (Walk rooted) z t most = let few = walk_few rooted t.walk.level most in omega (arith, few)
split_few (Claim begun) z t most = let few = claim_few Pages begun z t.claim in omega (arith, few)
split_few _ z t most = omega arith

-- At each place it has one.
pub some_split_left : (p : SplitPlace) (z : Sizes) (t : Topics) → 0 < split_left p z t
some_split_left (End e) z t = omega arith
some_split_left _ z t = omega arith
