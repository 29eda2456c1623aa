-- A line that changes a host page has what each of its steps needs.
use Rattle.std.proofs.Common.{◌≡◌, ◌+◌, ◌<◌, ℕ, Bool, true, false, refl, inr, subst, ap, ◌∙◌, arith, sym}
use Rattle.std.specs.Prelude.{◌&&◌, if◌then◌else◌, nat_lt, None, Some}
use Rattle.core_views.specs.declared.actor.Actor.{Actor}
use Rattle.core_views.specs.declared.actor.Actor.TheVariants.{Host}
use Rattle.core_views.specs.declared.place.EndPlace.{EndPlace}
use Rattle.core_views.specs.declared.place.EndPlace.TheVariants as ends
use Rattle.core_views.specs.declared.place.HostPlace.{HostPlace}
use Rattle.core_views.specs.declared.place.HostPlace.TheVariants.{Look, Claim, Begin, Copy, Store, Change, End, Watch, Free}
use Rattle.core_views.specs.declared.sizes.Sizes.{Sizes}
use Rattle.core_views.specs.declared.topics.Checked.{Checked}
use Rattle.core_views.specs.declared.topics.Hold.TheVariants.{Loose}
use Rattle.core_views.specs.declared.trace.HostChange.{HostChange}
use Rattle.core_views.specs.Held.{Held}
use Rattle.core_views.specs.HostChanges.{is_own}
use Rattle.core_views.specs.Sizes.{AreSizes, first_page_in}
use Rattle.part_steps.specs.declared.invalidations.Target.TheVariants as aim
use Rattle.part_steps.specs.declared.part_step.PartStep.TheVariants as part
use Rattle.part_steps.specs.InvalidationHoldings.{MayChange, OpensOnOwnPages}
use Rattle.part_steps.specs.InvalidationRange.{IsAimed, IsOnRun, run_of}
use Rattle.part_steps.specs.PartBounds.{PartRests}
use Rattle.part_steps.specs.PartSteps.{PartNeeds}
use Rattle.part_steps.specs.PartTasks.{own_index, word_looked}
use Rattle.part_steps.specs.StayTopics.{is_alone}
use Rattle.mmu_core.specs.orders.ClaimSteps.{Frames}
use Rattle.mmu_core.specs.forms.host.HostKnows.{HasFlushed, HostKnows, HostRests, LooksAt, SawSmall}
use Rattle.mmu_core.specs.forms.host.HostSteps.{host_part}
use Rattle.mmu_core.specs.orders.InvalidateKnows.{EndKnows}
use Rattle.mmu_core.specs.lines.PartWaits.{own_open, was_counted}
use Rattle.mmu_core.proofs.orders.ClaimMade.{claim_needs}
use Rattle.mmu_core.proofs.forms.access.FaultSame.{over_it}
use Rattle.mmu_core.proofs.forms.host.HostMoves.{revises_it}
use Rattle.mmu_core.proofs.orders.InvalidateNeeds.{begin_needs, end_needs}
use Rattle.mmu_core.proofs.orders.RunsAimed.{one_aimed}
use Rattle.mmu_core.proofs.held.OwnPages.{first_within}
use Rattle.mmu_core.proofs.held.PageRuns.{this_page}
use Rattle.mmu_core.proofs.orders.WatchMade.{never_own}

-- A page of a host thread's own is one of the machine's.
pub own_low : (z : Sizes) (actor : Actor) (page : ℕ) → AreSizes z → is_own z actor page ≡ true → page < z.pages
own_low z (Host n) page S is =
    let O = over_it (first_page_in z.first_pages z.pages n) page (first_page_in z.first_pages z.pages (n + 1)) is in
    let low = first_within z (n + 1) S in
    omega (arith, O.1, low)
own_low z _ page S is = absurd (cc is)

pub look_needs : (b : Bool) (page : ℕ) (h : Held) → (b ≡ true → page < h.state.sizes.pages) → h.topics.hold ≡ Loose
    → PartNeeds (if b then part.Host page else part.Seq) h
look_needs true page h low loose = (low refl, ap is_alone loose)
look_needs false page h low loose = tt

ends_rest : (p : EndPlace) (h : Held) → EndKnows p h.topics → HostRests (End p) h
ends_rest ends.Release h K = ap (λ (c : Checked). was_counted c && nat_lt (own_open h.topics.invalidations) h.topics.invalidations.count) K.1
ends_rest _ h K = tt

-- It invalidates the page that it looked at, and saw that this is a small one: it owns no page of the pool.
pub looks_aimed : (page : ℕ) (h : Held) → LooksAt page h → h.topics.owned ≡ None → SawSmall h → IsAimed (aim.Page page) h.topics
looks_aimed page h L none small = (one_aimed page h.topics none L.looked L.at L.alone small, tt)

-- That page is its own.
opens_own : (page : ℕ) (h : Held) → LooksAt page h → h.topics.owned ≡ None → SawSmall h → OpensOnOwnPages h
opens_own page h L none small closed run other aimed on =
    let both : Some run ≡ Some (run_of page) = sym aimed ∙ one_aimed page h.topics none L.looked L.at L.alone small in
    let same = this_page other page (subst (IsOnRun other) both on) in
    subst (λ p. is_own h.state.sizes h.state.actor p ≡ true) (sym same) L.own_

-- Its page may be changed once it has flushed.
pub may_change : (page : ℕ) (h : Held) → LooksAt page h → HasFlushed page h → MayChange h
may_change page h L F = record {
  looked = L.looked;
  own_ = ap (is_own h.state.sizes h.state.actor) L.at ∙ L.own_;
  opened = F.opened.opened;
  unraised = F.opened.unraised;
  invalid = subst (λ p. h.topics.invalidations.own.pages ≡ Some (run_of p)) (sym L.at) F.invalid;
  asked = F.asked;
  awaited = F.awaited;
  unlocked = ap is_alone F.opened.rests.loose;
}

pub host_needs : (p : HostPlace) (h : Held) (page : ℕ) (change : HostChange) → PartRests h → HostKnows p page change h
    → PartNeeds (host_part p page change h) h × HostRests p h
host_needs (Look moving) h page change R K =
    (look_needs (is_own h.state.sizes h.state.actor page) page h (λ e. own_low h.state.sizes h.state.actor page R.sizes e) K.0.loose, tt)
host_needs (Claim begun) h page change R K = (claim_needs Frames begun h R.sizes K.2.owns_none K.2.within, tt)
host_needs (Begin p) h page change R K =
    (begin_needs p h (aim.Page page) R tt (looks_aimed page h K.0 K.3 K.4) (opens_own page h K.0 K.3 K.4) K.2.uncopied K.1, tt)
host_needs Copy h page change R K = (record { change = may_change page h K.0 K.1; owns = K.2.owns; left = K.2.left; is = refl }, tt)
host_needs Store h page change R K =
    (record { change = may_change page h K.0 K.1; copied = K.3; left = K.2.left; is = refl; no_page = K.1.owns_none }, tt)
host_needs Change h page change R K =
    ((may_change page h K.0 K.1, revises_it change h.state.sizes.words h.topics.frames.owned (word_looked h.topics.host) K.2), tt)
host_needs (End p) h page change R K = (end_needs p h K.1, ends_rest p h K.1)
host_needs Watch h page change R K = ((K.3, never_own (own_index h) h.topics.watched, inr refl), tt)
host_needs Free h page change R K = (K.3, tt)
