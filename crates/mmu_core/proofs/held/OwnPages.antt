-- Whose host page it is: its owner alone changes it, so what its owner has looked up of it is its word.
use Rattle.std.proofs.Common.{◌≡◌, ◌+◌, ◌-◌, ◌<◌, ◌≤◌, ℕ, refl, sym, subst, ap, ◌∙◌, arith}
use Rattle.std.specs.Prelude.{Bool, true, ◌&&◌, nat_le, Option, Some, None, slice_get, unwrap_or}
use Rattle.std.proofs.lemmas.Option.{get_or_from_slice_get, slice_get_within}
use Rattle.std.proofs.lemmas.Bool.Decides.{nat_tests}
use Rattle.core_views.specs.declared.actor.Actor.{Actor}
use Rattle.core_views.specs.declared.actor.Actor.TheVariants.{Host}
use Rattle.core_views.specs.declared.sizes.Sizes.{Sizes}
use Rattle.core_views.specs.declared.topics.HostLook.{HostLook}
use Rattle.core_views.specs.Held.{Held}
use Rattle.core_views.specs.HostChanges.{is_own}
use Rattle.core_views.specs.Sizes.{AreSizes, actors_of, first_page_in, index_of, is_threads}
use Rattle.core_views.proofs.HostOwners.{one_owner}
use Rattle.spte_words.specs.declared.area.Area.TheVariants as area
use Rattle.part_steps.specs.declared.part_step.PartStep.TheVariants as part
use Rattle.part_steps.specs.PartTasks.{page_looked}
use Rattle.mmu_core.specs.invariant.HostWordsPart.{IsStill, owns_page}
use Rattle.mmu_core.specs.invariant.TopicsInvariant.{TopicsInvariant}
use Rattle.mmu_core.specs.machine.View.{View}
use Rattle.mmu_core.proofs.forms.access.FaultSame.{both, over_it}
use Rattle.mmu_core.proofs.machine.PartStepping.{IsPart}

-- A page that is an actor's own is owned at the actor's place.
pub own_page : (z : Sizes) (a page : ℕ) (actor : Actor) → is_own z actor page ≡ true → index_of z actor ≡ a → owns_page z a page ≡ true
own_page z a page (Host n) own_ at = subst (λ i. owns_page z i page ≡ true) at (thread n own_)
  where
    thread : (m : ℕ) → is_own z (Host m) page ≡ true → owns_page z (z.vcpus + m) page ≡ true
    thread m own_ =
        let past : nat_le z.vcpus (z.vcpus + m) ≡ true = grind (arith, nat_tests) in
        let same : z.vcpus + m - z.vcpus ≡ m = omega arith in
        ap (λ (b : Bool). b && is_threads z (z.vcpus + m - z.vcpus) page) past ∙ (ap (λ k. is_threads z k page) same ∙ own_)
own_page z a page _ own_ at = absurd (cc own_)

-- And back: a page that is owned at a host thread's place is the thread's own.
pub thread_owns : (z : Sizes) (a page thread : ℕ) → index_of z (Host thread) ≡ a → owns_page z a page ≡ true → is_own z (Host thread) page ≡ true
thread_owns z a page thread at owns = by (subst (λ i. owns_page z i page ≡ true) (sym at) owns)
  where
    by : owns_page z (z.vcpus + thread) page ≡ true → is_own z (Host thread) page ≡ true
    by owns =
        let back : z.vcpus + thread - z.vcpus ≡ thread = omega arith in
        ap (λ k. is_threads z k page) (sym back)
        ∙ (both (nat_le z.vcpus (z.vcpus + thread)) (is_threads z (z.vcpus + thread - z.vcpus) page) owns).1

-- Who has a page of its own is a host thread.
pub own_of : (z : Sizes) (a page other : ℕ) (actor : Actor) → is_own z actor page ≡ true → index_of z actor ≡ a → owns_page z a other ≡ true
    → is_own z actor other ≡ true
own_of z a page other (Host n) own_ at owns = thread_owns z a other n at owns
own_of z a page other _ own_ at owns = absurd (cc own_)

-- A page that is somebody's own is one of the machine's.
pub first_within : (z : Sizes) (host : ℕ) → AreSizes z → first_page_in z.first_pages z.pages host ≤ z.pages
first_within z host S = by (slice_get z.first_pages host) refl
  where
    by : (o : Option ℕ) → slice_get z.first_pages host ≡ o → unwrap_or o z.pages ≤ z.pages
    by None e = omega arith
    by (Some page) e =
        subst (λ (x : ℕ). x ≤ z.pages) (get_or_from_slice_get z.first_pages host page 0 e)
        (S.firsts host 0 (slice_get_within z.first_pages host page e))

pub owner_within : (z : Sizes) → AreSizes z → (i page : ℕ) → owns_page z i page ≡ true → page < z.pages
owner_within z S i page owns =
    let of_it = (both (nat_le z.vcpus i) (is_threads z (i - z.vcpus) page) owns).1 in
    let B = over_it (first_page_in z.first_pages z.pages (i - z.vcpus)) page (first_page_in z.first_pages z.pages (i - z.vcpus + 1)) of_it in
    let low = first_within z (i - z.vcpus + 1) S in
    omega (arith, B.1, low)

-- Who changes a page is its owner.
pub changes_own : (z : Sizes) (v : View) (a new_ : ℕ) → IsPart z v a (part.Change new_) → owns_page z a (page_looked (v.hand a).topics.host) ≡ true
changes_own z v a new_ S =
    let page : ℕ = page_looked (v.hand a).topics.host in
    own_page z a page (v.hand a).state.actor (subst (λ (y : Sizes). is_own y (v.hand a).state.actor page ≡ true) S.sizes S.needs.0.own_)
    (subst (λ (y : Sizes). index_of y (v.hand a).state.actor ≡ a) S.sizes S.own_place)

-- The owner of a page is at one place.
pub one_place_owns : (z : Sizes) → AreSizes z → (i j page : ℕ) → owns_page z i page ≡ true → owns_page z j page ≡ true → i ≡ j
one_place_owns z sizes i j page one other =
    let A = both (nat_le z.vcpus i) (is_threads z (i - z.vcpus) page) one in
    let B = both (nat_le z.vcpus j) (is_threads z (j - z.vcpus) page) other in
    let low : z.vcpus ≤ i = let e = A.0 in grind (arith, nat_tests) in
    let low_too : z.vcpus ≤ j = let e = B.0 in grind (arith, nat_tests) in
    let same = one_owner z sizes page (i - z.vcpus) (j - z.vcpus) A.1 B.1 in
    omega (arith, same, low, low_too)

-- What a hand has looked up of its actor's own pages is their words still.
abbrev pub OwnWords : Held → (ℕ → ℕ) → Type 0
OwnWords h host = (look : HostLook) → h.topics.host ≡ Some look → is_own h.state.sizes h.state.actor look.page ≡ true
    → IsStill look.word (host look.page)

pub own_words : (z : Sizes) (v : View) (a : ℕ) → TopicsInvariant z v → a < actors_of z → (v.hand a).state.sizes ≡ z → index_of z (v.hand a).state.actor ≡ a
    → OwnWords (v.hand a) (v.words area.Host)
own_words z v a P there sizes at look is own_ =
    P.own_looks a look there is
    (own_page z a look.page (v.hand a).state.actor (subst (λ (y : Sizes). is_own y (v.hand a).state.actor look.page ≡ true) sizes own_) at)
