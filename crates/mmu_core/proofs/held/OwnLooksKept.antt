-- Each step of a part keeps what an actor has looked up of host pages of its own: it is their word still.
use Rattle.std.proofs.Common.{◌≡◌, ◌<◌, ℕ, refl, sym, subst}
use Rattle.std.specs.Prelude.{Bool, true, false, Some}
use Rattle.core_views.specs.declared.sizes.Sizes.{Sizes}
use Rattle.core_views.specs.declared.topics.HostLook.{HostLook}
use Rattle.core_views.specs.Held.{Held}
use Rattle.core_views.specs.Sizes.{actors_of}
use Rattle.spte_words.specs.declared.area.Area.TheVariants as area
use Rattle.part_steps.specs.declared.part_step.PartStep.{PartStep}
use Rattle.part_steps.specs.declared.part_step.PartStep.TheVariants as part
use Rattle.part_steps.specs.PartTasks.{page_looked}
use Rattle.part_steps.specs.PartTopics.{sequenced}
use Rattle.part_steps.specs.StayTopics.{is_loose}
use Rattle.mmu_core.specs.invariant.HostWordsPart.{IsStill, OwnLooksPart, owns_page}
use Rattle.mmu_core.specs.invariant.TopicsInvariant.{TopicsInvariant}
use Rattle.mmu_core.specs.machine.View.{View, part_stepped}
use Rattle.mmu_core.proofs.machine.Columns.{at_upd, upd_other, upd_same}
use Rattle.mmu_core.proofs.machine.PartStepping.{IsPart}
use Rattle.mmu_core.proofs.words.PartTopics.{behind_step, part_behind}
use Rattle.mmu_core.proofs.held.OwnPages.{changes_own, one_place_owns}
use Rattle.mmu_core.proofs.held.Invalidating.{topics_now}
use Rattle.mmu_core.proofs.held.LooksKept.{host_now, others_now, own_now}
use Rattle.mmu_core.proofs.held.NextPages.{next_owned, next_page, next_words_behind}

abbrev OwnLooksAt : Sizes → (ℕ → ℕ) → View → Type 0
OwnLooksAt z host v = OwnLooksPart z (actors_of z) host (λ i. (v.hand i).topics)

-- The words stay, and what the actor itself has looked up of its own pages is so.
owned_still : (z : Sizes) (v : View) (a note : ℕ) (step : PartStep) → IsPart z v a step → TopicsInvariant z v → host_now v a note step ≡ v.words area.Host
    → ((look : HostLook) → (topics_now v a note step).host ≡ Some look → owns_page z a look.page ≡ true → IsStill look.word (v.words area.Host look.page))
    → OwnLooksAt z (host_now v a note step) (part_behind a step note v)
owned_still z v a note step S I host own i look lt at owner =
    subst (λ (h : ℕ → ℕ). IsStill look.word (h look.page)) (sym host)
    (at_upd (λ j (k : Held). j < actors_of z → k.topics.host ≡ Some look → owns_page z j look.page ≡ true
    → IsStill look.word (v.words area.Host look.page)) v.hand a _ (λ there. own look) (λ j ne there. I.own_looks j look there) i lt at owner)

own_looks_behind : (z : Sizes) (v : View) (a note : ℕ) (step : PartStep) → IsPart z v a step → TopicsInvariant z v
    → OwnLooksAt z (host_now v a note step) (part_behind a step note v)
own_looks_behind z v a note part.Bring S I = λ i look lt.
    at_upd (λ j (k : Held). j < actors_of z → k.topics.host ≡ Some look → owns_page z j look.page ≡ true
    → IsStill look.word (host_now v a note part.Bring look.page)) v.hand a _
    (λ there at own_. own_now v a note (page_looked (v.hand a).topics.host) _ part.Bring look at (upd_same (v.words area.Host) _ _))
    (λ j ne there at own_. others_now z v a note S look (I.own_looks j look there at own_)) i lt
own_looks_behind z v a note (part.Change new_) S I = λ i look lt.
    at_upd (λ j (k : Held). j < actors_of z → k.topics.host ≡ Some look → owns_page z j look.page ≡ true
    → IsStill look.word (host_now v a note (part.Change new_) look.page)) v.hand a _
    (λ there at own_. own_now v a note page _ (part.Change new_) look at (upd_same (v.words area.Host) page _))
    (λ j ne there at own_. subst (IsStill look.word) (sym (upd_other (v.words area.Host) page look.page _
    (λ e. ne (one_place_owns z S.is_sizes j a page (subst (λ p. owns_page z j p ≡ true) e own_) (changes_own z v a new_ S)))))
    (I.own_looks j look there at own_)) i lt
  where
    page : ℕ
    page = page_looked (v.hand a).topics.host
own_looks_behind z v a note part.ChangeNext S I = λ i look lt.
    at_upd (λ j (k : Held). j < actors_of z → k.topics.host ≡ Some look → owns_page z j look.page ≡ true
    → IsStill look.word (host_now v a note part.ChangeNext look.page)) v.hand a _
    (λ there at own_. absurd (cc at))
    (λ j ne there at own_. subst (λ (h : ℕ → ℕ). IsStill look.word (h look.page)) (sym (next_words_behind z v a S I note))
    (subst (IsStill look.word) (sym (upd_other (v.words area.Host) page look.page _
    (λ e. ne (one_place_owns z S.is_sizes j a page (subst (λ p. owns_page z j p ≡ true) e own_) (next_owned z v a S I)))))
    (I.own_looks j look there at own_))) i lt
  where
    page : ℕ
    page = next_page z v a S I
own_looks_behind z v a note part.Enter S I = owned_still z v a note part.Enter S I refl (λ look at. absurd (cc at))
own_looks_behind z v a note part.Leave S I = owned_still z v a note part.Leave S I refl (λ look at. absurd (cc at))
own_looks_behind z v a note part.Begin S I = owned_still z v a note part.Begin S I refl (λ look at. absurd (cc at))
own_looks_behind z v a note part.End S I = owned_still z v a note part.End S I refl (λ look at. absurd (cc at))
own_looks_behind z v a note part.Seq S I = owned_still z v a note part.Seq S I refl (λ look at own_. by look (is_loose (v.hand a).topics.hold) at own_)
  where
    by : (look : HostLook) (loose : Bool) → (sequenced loose (v.hand a).topics (v.words area.Seq 0)).host ≡ Some look → owns_page z a look.page ≡ true
        → IsStill look.word (v.words area.Host look.page)
    by look true at own_ = absurd (cc at)
    by look false at own_ = I.own_looks a look S.there at own_
own_looks_behind z v a note (part.Host page) S I =
    owned_still z v a note (part.Host page) S I refl
    (λ look at own_. own_now v a note page (v.words area.Host page) (part.Host page) look at refl)
own_looks_behind z v a note step S I = owned_still z v a note step S I refl (λ look at own_. I.own_looks a look S.there at own_)

pub own_looks_kept : (z : Sizes) (v : View) (a : ℕ) (step : PartStep) (note : ℕ) → IsPart z v a step → TopicsInvariant z v
    → OwnLooksAt z ((part_stepped a step note v).words area.Host) (part_stepped a step note v)
own_looks_kept z v a step note S I =
    behind_step (λ (w : View). OwnLooksAt z (w.words area.Host) w) z v a step note S (own_looks_behind z v a note step S I)
