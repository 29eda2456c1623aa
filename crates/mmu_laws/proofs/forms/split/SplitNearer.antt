-- Each step of a line that splits a large leaf, and doesn't wait, leaves it fewer steps.
use Rattle.std.proofs.Common.{◌≡◌, ◌+◌, ◌-◌, ◌<◌, ◌≤◌, ℕ, refl, ap, arith}
use Rattle.std.specs.Prelude.{Bool, true, false, ◌==◌, nat_le, nat_lt, if◌then◌else◌}
use Rattle.core_views.specs.declared.place.SplitEnd.TheVariants as end_of
use Rattle.core_views.specs.declared.place.SplitPlace.{SplitPlace}
use Rattle.core_views.specs.declared.place.SplitPlace.TheVariants.{Begin, Share, Walk, Claim, Fill, Role, Link, Give, Unshare, End}
use Rattle.core_views.specs.declared.sizes.Sizes.{Sizes}
use Rattle.core_views.specs.declared.topics.Hold.{Hold}
use Rattle.core_views.specs.declared.topics.Topics.{Topics}
use Rattle.core_views.specs.declared.trace.Command.TheVariants as command
use Rattle.core_views.specs.Held.{Held}
use Rattle.spte_words.specs.declared.spte_kind.SpteKind.{SpteKind}
use Rattle.spte_words.specs.declared.spte_kind.SpteKind.TheVariants as entry_kind
use Rattle.spte_words.specs.Entries.{kind_of}
use Rattle.part_steps.specs.declared.part_step.PartStep.{PartStep}
use Rattle.part_steps.specs.PageTopics.{filled_more}
use Rattle.part_steps.specs.PartBounds.{PartRests}
use Rattle.part_steps.specs.PartHoldings.{HasToFill}
use Rattle.part_steps.specs.PartTasks.{entry_index, words_filled}
use Rattle.part_steps.specs.PartTopics.{part_topics}
use Rattle.part_steps.specs.StayTopics.{may_walk}
use Rattle.part_steps.specs.WalkTopics.{gone_down, linked_page}
use Rattle.mmu_core.specs.declared.claim.ClaimNext.{ClaimNext}
use Rattle.mmu_core.specs.declared.share.ShareNext.{ShareNext}
use Rattle.mmu_core.specs.declared.share.ShareNext.TheVariants as shares
use Rattle.mmu_core.specs.forms.split.SplitKnows.{SplitKnows}
use Rattle.mmu_core.specs.forms.split.SplitLeft.{large_left, split_left}
use Rattle.mmu_core.specs.forms.split.SplitSteps.{after_claim, after_share, entry_next, split_outcome, split_part}
use Rattle.mmu_core.specs.lines.PartWaits.{part_waits}
use Rattle.mmu_core.specs.declared.claim.FreeMap.TheVariants.{Pages}
use Rattle.mmu_core.specs.orders.ClaimSteps.{claim_left}
use Rattle.mmu_core.specs.orders.ShareSteps.{share_left, share_next, share_part}
use Rattle.mmu_core.proofs.lines.EitherPlace.{either_place}
use Rattle.mmu_core.proofs.orders.ClaimMade.{ClaimMade, claim_falls, claim_left_after, claim_made, word_there}
use Rattle.mmu_core.proofs.orders.ClaimMade as made
use Rattle.mmu_core.proofs.orders.ShareMade.{share_falls, share_left_after, share_made}
use Rattle.mmu_core.proofs.pages.Owned.{more_filled}
use Rattle.mmu_laws.proofs.turns.Nearer.{Nearer}

share_nearer : (next : ShareNext) (z : Sizes) (u : Topics) (n : ℕ) → share_left_after next u.hold < n
    → split_left (after_share next) z u < large_left z + 5 + n
share_nearer shares.Tries z u n less = omega (arith, less)
share_nearer shares.Shares z u n less = omega (arith, less)

-- the walk: a table down leaves an entry fewer
root_nearer : (b : Bool) → (if b then 4 else 0) < 5
root_nearer true = omega arith
root_nearer false = omega arith

leaf_nearer : (upper : Bool) (z : Sizes) (u : Topics) (level v : ℕ) → 1 ≤ level
    → split_left (if upper then Claim false else Unshare (end_of.Nothing v)) z u < large_left z + level
leaf_nearer true z u level v from = omega (arith, from)
leaf_nearer false z u level v from = omega arith

entry_nearer : (k : SpteKind) (z : Sizes) (gfn : ℕ) (t : Topics) (v : ℕ) → 1 ≤ t.walk.level
    → split_left (entry_next k t.walk.level v) z (record t { walk = gone_down (linked_page k) t.walk (entry_index gfn t.walk.level) v })
    < large_left z + t.walk.level
entry_nearer (entry_kind.Table page) z gfn t v from = omega (arith, from)
entry_nearer entry_kind.Leaf z gfn t v from = leaf_nearer (nat_le 2 t.walk.level) z _ t.walk.level v from
entry_nearer entry_kind.Absent z gfn t v from = omega arith
entry_nearer entry_kind.Frozen z gfn t v from = omega arith

-- the claim
claim_nearer : (z : Sizes) (begun : Bool) (t : Topics) (v : ℕ) (step : PartStep) (next : ClaimNext) (u : Topics) → ClaimMade z Pages begun t v step next u
    → claim_left_after Pages next z u.claim < claim_left Pages begun z t.claim → split_left (after_claim next) z u < 517 + claim_left Pages begun z t.claim
claim_nearer z begun t v _ _ _ (made.Won tries b some is) less = omega (arith, less)
claim_nearer z begun t v _ _ _ _ less = omega (arith, less)

-- the page's words
fill_nearer : (more : Bool) (z : Sizes) (t : Topics) (v : ℕ) → HasToFill t
    → split_left (if more then Fill else Role) z (record t { owned = filled_more t.owned v }) < 4 + (513 - words_filled t.owned)
fill_nearer true z t v F = omega (arith, F.1, more_filled t.owned v F.0)
fill_nearer false z t v F = omega (arith, F.1)

pub split_nearer : (p : SplitPlace) (gfn : ℕ) (h : Held) (v : ℕ) → PartRests h → SplitKnows p h.state.sizes gfn h.topics
    → part_waits (split_part p gfn h.topics) h.topics v ≡ false
    → Nearer (split_outcome p h.state.sizes h.topics v) (command.Split gfn) h.state.sizes (part_topics (split_part p gfn h.topics) h.topics v)
    (split_left p h.state.sizes h.topics)
split_nearer Begin gfn h v R K goes = let two : share_left h.topics.hold ≡ 2 = ap (λ (x : Hold). share_left x) K.loose in omega (arith, two)
split_nearer Share gfn h v R K goes =
    share_nearer (share_next h.topics.hold v) h.state.sizes (part_topics (share_part h.topics.hold) h.topics v) (share_left h.topics.hold)
    (share_falls h.topics v _ _ _ (share_made h.topics v K.1) goes)
split_nearer (Walk true) gfn h v R K goes =
    let over = K.2 refl in entry_nearer (kind_of h.topics.walk.level v) h.state.sizes gfn h.topics v over.there
split_nearer (Walk false) gfn h v R K goes = let less = root_nearer (may_walk h.topics.stay h.topics.hold) in omega (arith, less)
split_nearer (Claim begun) gfn h v R K goes =
    let M = claim_made h.state.sizes Pages begun h.topics v in
    claim_nearer h.state.sizes begun h.topics v _ _ _ M
    (claim_falls h.state.sizes Pages begun h.topics v _ _ _ M goes (word_there Pages begun h.state.sizes h.topics.claim R.sizes K.2))
split_nearer Fill gfn h v R K goes = fill_nearer (nat_lt (words_filled h.topics.owned + 1) 512) h.state.sizes h.topics v K.1
split_nearer Link gfn h v R K goes =
    either_place (λ q. split_left q h.state.sizes (part_topics (split_part Link gfn h.topics) h.topics v) < 4) (v == h.topics.walk.entry)
    (Unshare end_of.Split) (Give (end_of.Changed v)) (omega arith) (omega arith)
split_nearer (End e) gfn h v R K goes = tt
split_nearer _ gfn h v R K goes = omega arith
