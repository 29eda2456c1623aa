-- Behind each of its steps a line that splits a large leaf knows what its next place asks.
use Rattle.std.proofs.Common.{◌≡◌, inl, inr, ◌+◌, ◌-◌, ◌^◌, ◌<◌, ◌≤◌, ℕ, refl, sym, subst, ap, ◌∙◌, arith}
use Rattle.std.specs.Prelude.{Bool, true, false, ◌==◌, nat_le, nat_lt, if◌then◌else◌, Option, Some, None, is_some}
use Rattle.std.proofs.lemmas.Bool.Decides.{nat_tests}
use Rattle.circular_buffer.specs.Buffer.{Buffer}
use Rattle.core_views.specs.declared.cache.Translation.{Translation}
use Rattle.core_views.specs.declared.place.Place.TheVariants as place
use Rattle.core_views.specs.declared.place.SplitEnd.{SplitEnd}
use Rattle.core_views.specs.declared.place.SplitEnd.TheVariants as end_of
use Rattle.core_views.specs.declared.place.SplitPlace.{SplitPlace}
use Rattle.core_views.specs.declared.place.SplitPlace.TheVariants.{Begin, Share, Walk, Claim, Fill, Role, Link, Give, Unshare, End}
use Rattle.core_views.specs.declared.sizes.Sizes.{Sizes}
use Rattle.core_views.specs.declared.topics.Hold.{Hold}
use Rattle.core_views.specs.declared.topics.OwnedPage.{OwnedPage}
use Rattle.core_views.specs.declared.topics.Stay.{Stay}
use Rattle.core_views.specs.declared.topics.Topics.{Topics}
use Rattle.core_views.specs.declared.trace.Command.TheVariants as command
use Rattle.core_views.specs.declared.trace.Line.{Line}
use Rattle.core_views.specs.Held.{Held}
use Rattle.spte_words.specs.declared.spte_kind.SpteKind.{SpteKind}
use Rattle.spte_words.specs.declared.spte_kind.SpteKind.TheVariants as entry_kind
use Rattle.spte_words.specs.Areas.{words_of_bits}
use Rattle.spte_words.specs.Entries.{kind_of, table_word, word_below}
use Rattle.spte_words.proofs.ReadsEntries.{kind_of_table}
use Rattle.part_steps.specs.declared.part_step.PartStep.{PartStep}
use Rattle.part_steps.specs.PartBounds.{PartRests}
use Rattle.part_steps.specs.PartHoldings.{IsOver}
use Rattle.part_steps.specs.PartTasks.{entry_index, link_written, page_owned, words_filled}
use Rattle.part_steps.specs.PartTopics.{exchanged, part_topics}
use Rattle.part_steps.specs.StayTopics.{let_go, may_walk}
use Rattle.part_steps.specs.WalkTopics.{gone_down, linked_page, owed_after, unless_linked}
use Rattle.part_steps.specs.PageTopics.{filled_more}
use Rattle.part_steps.specs.ControlTopics.{at_root}
use Rattle.mmu_core.specs.declared.claim.ClaimNext.{ClaimNext}
use Rattle.mmu_core.specs.declared.share.ShareNext.{ShareNext}
use Rattle.mmu_core.specs.forms.access.FaultHolds.{InSection}
use Rattle.mmu_core.specs.forms.access.FaultLaws.{CanAnswer}
use Rattle.mmu_core.specs.forms.split.SplitKnows.{SawChanged, SawLarge, SawNothing, SplitEndKnows, SplitKnows, Splits, ends_walk}
use Rattle.mmu_core.specs.forms.split.SplitSteps.{after_claim, after_share, entry_next, split_outcome, split_part}
use Rattle.mmu_core.specs.orders.ClaimSteps.{Pages}
use Rattle.mmu_core.specs.orders.ShareSteps.{is_trying}
use Rattle.mmu_core.proofs.forms.access.FaultKnown.{same_walk}
use Rattle.mmu_core.proofs.forms.access.FaultSame.{same_inside}
use Rattle.mmu_core.proofs.forms.access.LeafPut.{upper_owes_none}
use Rattle.mmu_core.proofs.forms.access.LookKnown.{kept_table}
use Rattle.mmu_core.proofs.forms.access.WalkKnown.{above_lowest, gone_over, root_over, saw_it}
use Rattle.mmu_core.proofs.lines.KnowsKept.{KnowsBehind}
use Rattle.mmu_core.proofs.machine.HandWith.{hand_with}
use Rattle.mmu_core.proofs.orders.ClaimMade.{ClaimMade, claim_made}
use Rattle.mmu_core.proofs.orders.ClaimMade as made
use Rattle.mmu_core.proofs.orders.FillMade.{fill_ends, fill_goes, whole_filled}
use Rattle.mmu_core.proofs.orders.ShareMade.{ShareMade, share_made}
use Rattle.mmu_core.proofs.orders.ShareMade as share
use Rattle.mmu_core.proofs.pages.Owned.{more_below, more_role, table_owned}

-- The line has come to the same leaf where section, lock, mark and walk are the same.
same_splits : (gfn : ℕ) (t u : Topics) → u.stay ≡ t.stay → u.hold ≡ t.hold → u.owed ≡ t.owed → u.walk ≡ t.walk → Splits gfn t → Splits gfn u
same_splits gfn t u stay hold owed walk S = record {
  section = stay ∙ S.section;
  shares = hold ∙ S.shares;
  owes_none = owed ∙ S.owes_none;
  large = subst (SawLarge gfn) (sym walk) S.large;
}

-- What its end rests on is of the walk and of the claim.
ends_same : (e : SplitEnd) (z : Sizes) (gfn : ℕ) (t u : Topics) → u.walk ≡ t.walk → u.claim.at ≡ t.claim.at → SplitEndKnows e z gfn t → SplitEndKnows e z gfn u
ends_same end_of.Split z gfn t u walk claim K = subst (IsOver gfn) (sym walk) K
ends_same (end_of.Nothing word) z gfn t u walk claim K = subst (SawNothing word gfn) (sym walk) K
ends_same (end_of.Changed seen) z gfn t u walk claim K = subst (SawChanged seen gfn) (sym walk) K
ends_same end_of.Starved z gfn t u walk claim K = subst (λ n. words_of_bits z.pool ≤ n) (sym claim) K

-- the lock
share_known : (z : Sizes) (gfn : ℕ) (t : Topics) (v : ℕ) (step : PartStep) (next : ShareNext) (u : Topics) → ShareMade t v step next u → InSection t
    → SplitKnows (after_share next) z gfn u
share_known z gfn t v _ _ _ (share.Got loose is) I = (same_inside t _ refl refl refl I, refl, λ e. absurd (cc e))
share_known z gfn t v _ _ _ (share.SawWriter loose is) I = (same_inside t _ refl refl refl I, refl)
share_known z gfn t v _ _ _ (share.TakesBack word is) I = (same_inside t _ refl refl refl I, refl)

-- the walk
root_known : (b : Bool) (z : Sizes) (gfn : ℕ) (t : Topics) (v : ℕ) → b ≡ true → gfn < 2 ^ 36 → SplitKnows (Walk false) z gfn t
    → SplitKnows (Walk true) z gfn (record t { walk = at_root b t.walk v })
root_known true z gfn t v is small K = (same_inside t _ refl refl refl K.0, K.1, λ _. root_over gfn v t.walk small)
root_known false z gfn t v is small K = absurd (cc is)

nothing_known : (k : SpteKind) (z : Sizes) (gfn : ℕ) (t : Topics) (v : ℕ) → kind_of t.walk.level v ≡ k → ends_walk k t.walk.level ≡ true
    → SplitKnows (Walk true) z gfn t
    → SplitKnows (Unshare (end_of.Nothing v)) z gfn (record t { walk = gone_down None t.walk (entry_index gfn t.walk.level) v })
nothing_known k z gfn t v is ends K = (
  same_inside t _ refl refl refl K.0,
  K.1,
  record { saw = saw_it gfn v t.walk (K.2 refl); is = refl; ends = ap (λ x. ends_walk x t.walk.level) is ∙ ends },
)

leaf_known : (upper : Bool) (z : Sizes) (gfn : ℕ) (t : Topics) (v : ℕ) → nat_le 2 t.walk.level ≡ upper → kind_of t.walk.level v ≡ entry_kind.Leaf
    → SplitKnows (Walk true) z gfn t
    → SplitKnows (if upper then Claim false else Unshare (end_of.Nothing v)) z gfn (record t { walk = gone_down None t.walk (entry_index gfn t.walk.level) v })
leaf_known true z gfn t v upper is K = (
  record {
    section = K.0.section;
    shares = K.1;
    owes_none = K.0.owes_none;
    large = record { saw = saw_it gfn v t.walk (K.2 refl); upper = grind (arith, nat_tests); leaf = is };
  },
  K.0.owns_none,
  λ e. absurd (cc e),
)
leaf_known false z gfn t v lowest is K = nothing_known entry_kind.Leaf z gfn t v is (grind (arith, nat_tests)) K

walk_known : (k : SpteKind) (z : Sizes) (gfn : ℕ) (t : Topics) (v : ℕ) → kind_of t.walk.level v ≡ k → t.walk.level ≤ 4 → SplitKnows (Walk true) z gfn t
    → SplitKnows (entry_next k t.walk.level v) z gfn (record t { walk = gone_down (linked_page k) t.walk (entry_index gfn t.walk.level) v })
walk_known (entry_kind.Table page) z gfn t v is most K =
    let O = K.2 refl in
    (same_inside t _ refl refl refl K.0, K.1, λ _. gone_over gfn page v t.walk (above_lowest t.walk.level v page O.there is) most O)
walk_known entry_kind.Leaf z gfn t v is most K = leaf_known (nat_le 2 t.walk.level) z gfn t v refl is K
walk_known entry_kind.Absent z gfn t v is most K = nothing_known entry_kind.Absent z gfn t v is refl K
walk_known entry_kind.Frozen z gfn t v is most K = nothing_known entry_kind.Frozen z gfn t v is refl K

-- the claim
claim_known : (z : Sizes) (gfn : ℕ) (begun : Bool) (t : Topics) (v : ℕ) (step : PartStep) (next : ClaimNext) (u : Topics)
    → ClaimMade z Pages begun t v step next u → SplitKnows (Claim begun) z gfn t → SplitKnows (after_claim next) z gfn u
claim_known z gfn begun t v _ _ _ (made.Won tries b some is) K = (same_splits gfn t _ refl refl refl refl K.0, (refl, omega arith), same_walk t.walk)
claim_known z gfn begun t v _ _ _ (made.Lost tries b some is) K = (same_splits gfn t _ refl refl refl refl K.0, refl, λ _. K.2 b)
claim_known z gfn begun t v _ _ _ (made.Saw not_ lt) K = (same_splits gfn t _ refl refl refl refl K.0, K.1, λ _. lt)
claim_known z gfn begun t v _ _ _ (made.SawNone not_ le) K =
    (record { section = K.0.section; owns_none = K.1; owes_none = K.0.owes_none }, K.0.shares, le)

-- the page's words, and its role
fill_known : (more : Bool) (z : Sizes) (gfn : ℕ) (t : Topics) (v : ℕ) → nat_lt (words_filled t.owned + 1) 512 ≡ more
    → v ≡ word_below t.walk.level t.walk.entry (words_filled t.owned) → SplitKnows Fill z gfn t
    → SplitKnows (if more then Fill else Role) z gfn (record t { owned = filled_more t.owned v })
fill_known true z gfn t v is word K =
    (same_splits gfn t _ refl refl refl refl K.0, fill_goes t v K.1 is, more_below t.walk t.owned v K.2 (inl word))
fill_known false z gfn t v is word K =
    (same_splits gfn t _ refl refl refl refl K.0, fill_ends t v K.1 is, more_below t.walk t.owned v K.2 (inl word))

role_known : (z : Sizes) (gfn : ℕ) (t : Topics) (v : ℕ) → v ≡ t.walk.level - 1 → SplitKnows Role z gfn t
    → SplitKnows Link z gfn (record t { owned = filled_more t.owned v })
role_known z gfn t v value K = (
  same_splits gfn t _ refl refl refl refl K.0,
  record {
    whole = whole_filled t v K.1;
    below = more_below t.walk t.owned v K.2 (inr K.1);
    role = more_role t.owned v K.1 ∙ value;
  },
)

-- the link
link_won : (z : Sizes) (gfn : ℕ) (t : Topics) (v : ℕ) → t.walk.level ≤ 4 → Splits gfn t → (o : OwnedPage) → t.owned ≡ Some o → o.page < 2 ^ 32
    → SplitKnows (Unshare end_of.Split) z gfn (exchanged true (entry_index gfn t.walk.level) (link_written t) t v)
link_won z gfn t v most S o is small =
    subst (λ (k : SpteKind). SplitKnows (Unshare end_of.Split) z gfn (record t {
      walk = gone_down (linked_page k) t.walk (entry_index gfn t.walk.level) (link_written t);
      owned = unless_linked (linked_page k) t.owned;
      owed = owed_after true t.search.logged t.walk (entry_index gfn t.walk.level) (link_written t) t.owed;
    })) (sym linked) (
      record {
        section = S.section;
        owns_none = refl;
        owes_none = upper_owes_none true t (entry_index gfn t.walk.level) (link_written t) S.large.upper ∙ S.owes_none;
      },
      S.shares,
      gone_over gfn o.page (link_written t) t.walk S.large.upper most S.large.saw.over,
    )
  where
    linked : kind_of t.walk.level (link_written t) ≡ entry_kind.Table o.page
    linked = ap (λ (x : Option OwnedPage). kind_of t.walk.level (table_word (page_owned x))) is ∙ kind_of_table t.walk.level o.page S.large.upper small

link_known : (b : Bool) (z : Sizes) (gfn : ℕ) (t : Topics) (v : ℕ) → t.walk.level ≤ 4 → Splits gfn t → (o : OwnedPage) → t.owned ≡ Some o → o.page < 2 ^ 32
    → SplitKnows (if b then Unshare end_of.Split else Give (end_of.Changed v)) z gfn (exchanged b (entry_index gfn t.walk.level) (link_written t) t v)
link_known true z gfn t v most S o owned small = link_won z gfn t v most S o owned small
link_known false z gfn t v most S o owned small = (
  S.section,
  S.shares,
  ap (λ (x : Option OwnedPage). is_some x) owned,
  S.owes_none,
  record { saw = saw_it gfn v t.walk S.large.saw.over; is = refl; upper = S.large.upper },
  tt,
)

-- the lock given back
unshare_known : (e : SplitEnd) (z : Sizes) (gfn : ℕ) (t : Topics) → SplitKnows (Unshare e) z gfn t → SplitKnows (End e) z gfn (let_go t)
unshare_known e z gfn t K = (same_inside t _ refl refl refl K.0, refl, ends_same e z gfn t _ (kept_table t K.0.section) refl K.2)

pub split_known : (p : SplitPlace) (line : Line) (h : Held) (gfn : ℕ) (cached : Buffer Translation) (v : ℕ) → gfn < 2 ^ 36 → PartRests h
    → SplitKnows p h.state.sizes gfn h.topics → CanAnswer (split_part p gfn h.topics) v
    → KnowsBehind (split_outcome p h.state.sizes h.topics v) (command.Split gfn)
    (hand_with line (command.Split gfn) (place.Split p) h (part_topics (split_part p gfn h.topics) h.topics v) cached v)
split_known Begin line h gfn cached v small R K A =
    (record { section = refl; owns_none = K.owns_none; owes_none = K.owes_none }, ap (λ (x : Hold). is_trying x) K.loose)
split_known Share line h gfn cached v small R K A = share_known h.state.sizes gfn h.topics v _ _ _ (share_made h.topics v K.1) K.0
split_known (Walk true) line h gfn cached v small R K A = walk_known (kind_of h.topics.walk.level v) h.state.sizes gfn h.topics v refl R.level K
split_known (Walk false) line h gfn cached v small R K A =
    root_known (may_walk h.topics.stay h.topics.hold) h.state.sizes gfn h.topics v (ap (λ (s : Stay). may_walk s h.topics.hold) K.0.section) small K
split_known (Claim begun) line h gfn cached v small R K A =
    claim_known h.state.sizes gfn begun h.topics v _ _ _ (claim_made h.state.sizes Pages begun h.topics v) K
split_known Fill line h gfn cached v small R K A = fill_known (nat_lt (words_filled h.topics.owned + 1) 512) h.state.sizes gfn h.topics v refl A K
split_known Role line h gfn cached v small R K A = role_known h.state.sizes gfn h.topics v A K
split_known Link line h gfn cached v small R K A =
    let O = table_owned h.topics K.1 in
    let low : O.owned.page < 2 ^ 32 = let page = R.page O.owned O.is in let most = R.sizes.pool.1 in omega (arith, page, most) in
    link_known (v == h.topics.walk.entry) h.state.sizes gfn h.topics v R.level K.0 O.owned O.is low
split_known (Give e) line h gfn cached v small R K A =
    (record { section = K.0; owns_none = refl; owes_none = K.3 }, K.1, ends_same e h.state.sizes gfn h.topics _ refl refl K.4)
split_known (Unshare e) line h gfn cached v small R K A = unshare_known e h.state.sizes gfn h.topics K
split_known (End e) line h gfn cached v small R K A =
    record { outside = refl; loose = K.1; owns_none = K.0.owns_none; owes_none = K.0.owes_none; no_table = refl; no_set = refl }
