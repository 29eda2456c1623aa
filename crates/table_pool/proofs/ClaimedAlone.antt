-- A page or frame that an actor owns, as after a claim that was won, is its own alone.
use Rattle.std.proofs.Common.{◌≡◌, ◌<◌, ℕ, Option, Some, None, length, refl, sym, subst, ap, ◌∙◌}
use Rattle.std.proofs.Math.Logic.{∥∥₁_elim}
use Rattle.std.proofs.Props.{props}
use Rattle.std.specs.Prelude.{IfSome}
use Rattle.core_views.specs.declared.sizes.Sizes.{Sizes}
use Rattle.core_views.specs.declared.topics.OwnedFrame.{OwnedFrame}
use Rattle.core_views.specs.declared.topics.OwnedPage.{OwnedPage}
use Rattle.core_views.specs.Held.{Held}
use Rattle.core_views.specs.Sizes.{actors_of}
use Rattle.spte_words.specs.declared.area.Area.TheVariants as area
use Rattle.mmu_core.specs.machine.Enabled.{mmu}
use Rattle.mmu_core.specs.invariant.Laws.{IsSound}
use Rattle.mmu_core.specs.machine.Machine.{World, hand_in}
use Rattle.part_steps.specs.PartTasks.{part_kind}
use Rattle.mmu_core.specs.declared.claim.FreeMap.{FreeMap}
use Rattle.mmu_core.specs.declared.claim.FreeMap.TheVariants.{Pages, Frames}
use Rattle.mmu_core.specs.invariant.FramesPart.{FrameUse, FramesPart, is_frame_of}
use Rattle.mmu_core.specs.invariant.PoolPart.{UsePart, is_retired, is_owned, is_use, page_told}
use Rattle.part_steps.specs.declared.part_step.PartStep.{PartStep}
use Rattle.mmu_core.proofs.pages.FrameUses.{frame_use_is, owned_frame_not_free, owned_frame_there, owned_frame_use, owned_of_no_page}
use Rattle.mmu_core.specs.invariant.TreePart.{Use, at, stands}
use Rattle.mmu_core.specs.invariant.TreePart.Use.{OldSet, Owned}
use Rattle.mmu_core.specs.machine.View.{word_in}
use Rattle.mmu_core.specs.machine.Worlds.{Reachable}
use Rattle.mmu_core.proofs.machine.ColumnsTell.{at_place, itself, other}
use Rattle.mmu_core.proofs.pages.PoolPages.{owned_no_table, owned_not_free, owned_not_slots, owned_there, owned_use, use_is}
use Rattle.mmu_core.proofs.pages.Uses.{told_so}
use Rattle.mmu_core.proofs.pages.TreePlaces.{root_stands}
use Rattle.mmu_core.proofs.start.Starts.{reached_good}
use Rattle.step_seats.specs.Seats.{Seat}
use Rattle.step_seats.specs.PartTurns.{MadePart}
use Rattle.step_seats.specs.Where.{HasHand}
use Rattle.table_pool.specs.ClaimedAlone.{IsClaimersAlone, IsFrameAlone, IsPageAlone}
use Rattle.table_pool.specs.Maps.{frame_got, got_in, page_got}
use Rattle.mmu_core.proofs.machine.Sized.{next_keeps_sizes}

-- A page that an actor owns in a world that steps lead to is its own alone.
sole_page : (w : World Held) (a : ℕ) (o : OwnedPage) (r : Reachable w) → a < length w.hands → (hand_in mmu w a).topics.owned ≡ Some o
    → IsPageAlone (hand_in mmu w a).state.sizes a o.page w
sole_page w a o r there mine = subst (λ (y : Sizes). IsPageAlone y a o.page w) (sym (G.holds.lines a lt).sizes) alone
  where
    z : Sizes
    z = r.sizes

    G : IsSound z w
    G = reached_good w r

    lt : a < actors_of z
    lt = subst (λ n. a < n) G.hands there

    owned : ℕ → Option OwnedPage
    owned i = (hand_in mmu w i).topics.owned

    retired : ℕ → Option ℕ
    retired i = (hand_in mmu w i).topics.retired

    P : UsePart (actors_of z) z.pool (word_in z w area.Slots 0) (word_in z w area.PoolMap) owned retired G.topics.up
    P = G.topics.uses

    -- What is told of the page: that this actor owns it.
    told : (u : Use)
        → page_told (actors_of z) z.pool (word_in z w area.Slots 0) (word_in z w area.PoolMap) owned retired G.topics.up u o.page ≡ is_use u (Owned a)
    told = told_so use_is P.told o.page (Owned a) (owned_use P a o lt mine)

    alone : IsPageAlone z a o.page w
    alone = record {
      there = owned_there P a o lt mine;
      owned = ap (λ x. is_owned x o.page) mine ∙ itself o.page;
      others = λ i i_in apart.
          sym (at_place is_owned (actors_of z) owned i o.page (subst (λ n. i < n) G.hands i_in) refl) ∙ told (Owned i) ∙ other i a apart;
      not_free = owned_not_free P a o lt mine;
      not_root = λ e. owned_no_table P G.topics.spot a o (at 4 0) lt mine (sym (ap (stands G.topics.up G.topics.spot) e) ∙ root_stands G.topics.tree);
      not_slots = λ e. owned_not_slots P a o lt mine (sym e);
      not_retired = λ i i_in. sym (at_place is_retired (actors_of z) retired i o.page (subst (λ n. i < n) G.hands i_in) refl) ∙ told (OldSet i);
    }

-- So is a frame.
sole_frame : (w : World Held) (a : ℕ) (o : OwnedFrame) (r : Reachable w) → a < length w.hands → (hand_in mmu w a).topics.frames.owned ≡ Some o
    → IsFrameAlone (hand_in mmu w a).state.sizes a o.frame w
sole_frame w a o r there mine = subst (λ (y : Sizes). IsFrameAlone y a o.frame w) (sym (G.holds.lines a lt).sizes) alone
  where
    z : Sizes
    z = r.sizes

    G : IsSound z w
    G = reached_good w r

    lt : a < actors_of z
    lt = subst (λ n. a < n) G.hands there

    owned : ℕ → Option OwnedFrame
    owned i = (hand_in mmu w i).topics.frames.owned

    P : FramesPart z (actors_of z) (word_in z w area.FrameMap) (word_in z w area.Host) owned G.topics.use_of
    P = G.topics.frames

    alone : IsFrameAlone z a o.frame w
    alone = record {
      there = owned_frame_there P a o lt mine;
      owned = ap (λ x. is_frame_of x o.frame) mine ∙ itself o.frame;
      others = λ i i_in apart.
          sym (at_place is_frame_of (actors_of z) owned i o.frame (subst (λ n. i < n) G.hands i_in) refl)
          ∙ told_so frame_use_is P.told o.frame (FrameUse.Owned a) (owned_frame_use P a o lt mine) (FrameUse.Owned i) ∙ other i a apart;
      not_free = owned_frame_not_free P a o lt mine;
      of_no_page = λ page in_pages. owned_of_no_page P a o page lt mine in_pages;
    }

-- What an actor has got is its own alone.
page_by : (w : World Held) (a one : ℕ) (x : Option OwnedPage) (r : Reachable w) → a < length w.hands → (hand_in mmu w a).topics.owned ≡ x
    → page_got x ≡ Some one → IsPageAlone (hand_in mmu w a).state.sizes a one w
page_by w a one None r there is got = absurd (cc got)
page_by w a one (Some o) r there is got =
    let same : o.page ≡ one = cc got in subst (λ k. IsPageAlone (hand_in mmu w a).state.sizes a k w) same (sole_page w a o r there is)

frame_by : (w : World Held) (a one : ℕ) (x : Option OwnedFrame) (r : Reachable w) → a < length w.hands → (hand_in mmu w a).topics.frames.owned ≡ x
    → frame_got x ≡ Some one → IsFrameAlone (hand_in mmu w a).state.sizes a one w
frame_by w a one None r there is got = absurd (cc got)
frame_by w a one (Some o) r there is got =
    let same : o.frame ≡ one = cc got in subst (λ k. IsFrameAlone (hand_in mmu w a).state.sizes a k w) same (sole_frame w a o r there is)

sole_in : (map : FreeMap) (w : World Held) (a one : ℕ) (r : Reachable w) → a < length w.hands → got_in map (hand_in mmu w a).topics ≡ Some one
    → IsClaimersAlone map (hand_in mmu w a).state.sizes a one w
sole_in Pages w a one r there got = page_by w a one (hand_in mmu w a).topics.owned r there refl got
sole_in Frames w a one r there got = frame_by w a one (hand_in mmu w a).topics.frames.owned r there refl got

sole_prop : (map : FreeMap) (z : Sizes) (a one : ℕ) (w : World Held) → IsProp (IsClaimersAlone map z a one w)
sole_prop Pages z a one w = hlevel props
sole_prop Frames z a one w = hlevel props

alone_in : (map : FreeMap) (told : Option (World Held)) (a : ℕ) (h : Held) (one : ℕ) → IfSome told (HasHand a h) → got_in map h.topics ≡ Some one
    → IfSome told (IsClaimersAlone map h.state.sizes a one)
alone_in map None a h one has got = tt
alone_in map (Some w) a h one has got =
    subst (λ (x : Held). IsClaimersAlone map x.state.sizes a one w) has.is
    (∥∥₁_elim has.reached (sole_prop map (hand_in mmu w a).state.sizes a one w)
    (λ r. sole_in map w a one r has.there (subst (λ (x : Held). got_in map x.topics ≡ Some one) (sym has.is) got)))

-- What was claimed is the claimer's alone.
pub claimed_alone : (map : FreeMap) (step : PartStep) (note found : ℕ) (before after : Seat) (actor one : ℕ) → MadePart step note found before after
    → IfSome after.tells.world (HasHand actor after.hand) → got_in map after.hand.topics ≡ Some one
    → IfSome after.tells.world (IsClaimersAlone map before.hand.state.sizes actor one)
claimed_alone map step note found before after actor one M has got =
    let same : after.hand.state.sizes ≡ before.hand.state.sizes =
    ap (λ (h : Held). h.state.sizes) M.hand ∙ next_keeps_sizes before.hand (part_kind before.hand step note) found in
    subst (λ (y : Sizes). IfSome after.tells.world (IsClaimersAlone map y actor one)) same (alone_in map after.tells.world actor after.hand one has got)
