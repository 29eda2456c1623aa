-- Each step of a part keeps the lock's part of the invariant.
use Rattle.std.proofs.Common.{◌≡◌, ◌≢◌, ◌⊎◌, inl, inr, ◌+◌, ◌-◌, ◌%◌, ◌^◌, ◌<◌, ◌≤◌, ℕ, refl, sym, subst, ap, arith, eqb}
use Rattle.std.specs.Prelude.{Bool, true, false, nat_le, if◌then◌else◌}
use Rattle.std.proofs.lemmas.Bool.Decides.{eqb_tells, leb_tells}
use Rattle.std.proofs.lemmas.Nat.{and_mask}
use Rattle.core_views.specs.declared.sizes.Sizes.{Sizes}
use Rattle.core_views.specs.declared.topics.Hold.{Hold}
use Rattle.core_views.specs.declared.topics.Hold.TheVariants.{Loose, Shared, Owing, Exclusive}
use Rattle.core_views.specs.Held.{Held}
use Rattle.core_views.specs.Sizes.{AreSizes, actors_of}
use Rattle.spte_words.specs.declared.area.Area.TheVariants as area
use Rattle.part_steps.specs.declared.part_step.PartStep.{PartStep}
use Rattle.part_steps.specs.declared.part_step.PartStep.TheVariants as part
use Rattle.mmu_core.specs.invariant.LockPart.{LockPart, is_shared, readers, sharers, writers}
use Rattle.part_steps.specs.PartSteps.{counts}
use Rattle.mmu_core.specs.machine.Sums.{one_if, sum_below}
use Rattle.mmu_core.specs.invariant.TopicsInvariant.{TopicsInvariant}
use Rattle.part_steps.specs.StayTopics.{is_alone}
use Rattle.mmu_core.specs.machine.View.{View, part_stepped, upd}
use Rattle.mmu_core.proofs.machine.PartStepping.{IsPart}
use Rattle.mmu_core.proofs.words.PartTopics.{behind_step, part_behind}
use Rattle.mmu_core.proofs.machine.SumsBelow.{framed, one_small, sum_le, sum_mono, sum_upd}

-- the lock's part, of a view
abbrev pub LockAt : Sizes → View → Type 0
LockAt z v = LockPart (actors_of z) (v.words area.Lock 0) (λ i. (v.hand i).topics.hold)

-- there are few actors
pub few_actors : (z : Sizes) → AreSizes z → actors_of z ≤ 25
few_actors z sizes = omega (arith, sizes.actors.vcpus, sizes.actors.hosts, sizes.actors.workers)

shared_counts : (h : Hold) → one_if (is_shared h) ≤ one_if (counts h)
shared_counts Loose = omega arith
shared_counts _ = omega arith

-- the three sums where one hand's hold went from x to y
record Moved (n : ℕ) (hold next : ℕ → Hold) (x y : Hold) : Type 0 where
  few_actors : n ≤ 25
  read : readers n next + one_if (counts x) ≡ readers n hold + one_if (counts y)
  wrote : writers n next + one_if (is_alone x) ≡ writers n hold + one_if (is_alone y)
  shared : sharers n next + one_if (is_shared x) ≡ sharers n hold + one_if (is_shared y)
  few : readers n hold ≤ n
  few_next : readers n next ≤ n
  fewer : sharers n hold ≤ readers n hold

-- a sum over the holds
sum_moved : (g : Hold → ℕ) (n : ℕ) (hand : ℕ → Held) (a : ℕ) (h : Held) (x y : Hold) → a < n → (hand a).topics.hold ≡ x → h.topics.hold ≡ y
    → sum_below n (λ i. g (upd hand a h i).topics.hold) + g x ≡ sum_below n (λ i. g (hand i).topics.hold) + g y
sum_moved g n hand a h x y lt is next =
    let e : g (hand a).topics.hold ≡ g x = ap g is in
    let d : g h.topics.hold ≡ g y = ap g next in
    omega (arith, e, d, sum_upd (λ (k : Held). g k.topics.hold) n hand a h lt)

moved : (z : Sizes) (hand : ℕ → Held) (a : ℕ) (h : Held) (x y : Hold) → AreSizes z → a < actors_of z → (hand a).topics.hold ≡ x → h.topics.hold ≡ y
    → Moved (actors_of z) (λ i. (hand i).topics.hold) (λ i. (upd hand a h i).topics.hold) x y
moved z hand a h x y sizes lt is next = record {
  few_actors = few_actors z sizes;
  read = sum_moved (λ k. one_if (counts k)) (actors_of z) hand a h x y lt is next;
  wrote = sum_moved (λ k. one_if (is_alone k)) (actors_of z) hand a h x y lt is next;
  shared = sum_moved (λ k. one_if (is_shared k)) (actors_of z) hand a h x y lt is next;
  few = sum_le (actors_of z) (λ i. one_if (counts (hand i).topics.hold)) (λ i. one_small (counts (hand i).topics.hold));
  few_next = sum_le (actors_of z) (λ i. one_if (counts (upd hand a h i).topics.hold)) (λ i. one_small (counts (upd hand a h i).topics.hold));
  fewer =
      sum_mono (actors_of z) (λ i. one_if (is_shared (hand i).topics.hold)) (λ i. one_if (counts (hand i).topics.hold))
      (λ i. shared_counts (hand i).topics.hold);
}

-- the lock after each step on it, over plain numbers and columns
share_free : (n w : ℕ) (hold next : ℕ → Hold) → LockPart n w hold → Moved n hold next Loose Shared → w < 2 ^ 63 → LockPart n ((w + 1) % 2 ^ 64) next
share_free n w hold next I m lt = record { word = omega arith; one = omega arith; alone = omega arith }

share_late : (n w seen : ℕ) (hold next : ℕ → Hold) → LockPart n w hold → Moved n hold next Loose (Owing seen) → 2 ^ 63 ≤ w → LockPart n ((w + 1) % 2 ^ 64) next
share_late n w seen hold next I m le = record { word = omega arith; one = omega arith; alone = omega arith }

unshare : (n w : ℕ) (hold next : ℕ → Hold) → LockPart n w hold → Moved n hold next Shared Loose → LockPart n ((w + (2 ^ 64 - 1)) % 2 ^ 64) next
unshare n w hold next I m = record { word = omega arith; one = omega arith; alone = omega arith }

take_back : (n w seen : ℕ) (hold next : ℕ → Hold) → LockPart n w hold → Moved n hold next (Owing seen) Loose → LockPart n ((w + (2 ^ 64 - 1)) % 2 ^ 64) next
take_back n w seen hold next I m = record { word = omega arith; one = omega arith; alone = omega arith }

exclude : (n : ℕ) (hold next : ℕ → Hold) → LockPart n 0 hold → Moved n hold next Loose Exclusive → LockPart n (2 ^ 63) next
exclude n hold next I m = record { word = omega arith; one = omega arith; alone = omega arith }

release : (n w : ℕ) (hold next : ℕ → Hold) → LockPart n w hold → Moved n hold next Exclusive Loose → LockPart n (w % 2 ^ 63) next
release n w hold next I m = record { word = omega arith; one = omega arith; alone = omega arith }

-- a hold that is kept
pub lock_frame : (n lock : ℕ) (hand : ℕ → Held) (a : ℕ) (h : Held) → h.topics.hold ≡ (hand a).topics.hold
    → LockPart n lock (λ i. (hand i).topics.hold) → LockPart n lock (λ i. (upd hand a h i).topics.hold)
lock_frame n lock hand a h e I = framed (λ (c : ℕ → Hold). LockPart n lock c) (λ (k : Held). k.topics.hold) hand a h e I

abbrev LockBehind : Sizes → View → ℕ → ℕ → PartStep → Type 0
LockBehind z v a note step = IsPart z v a step → TopicsInvariant z v → LockAt z (part_behind a step note v)

share_kept : (z : Sizes) (v : View) (a note : ℕ) → LockBehind z v a note part.Share
share_kept z v a note S I = here (leb_tells (2 ^ 63) (v.words area.Lock 0))
  where
    here : ((nat_le (2 ^ 63) (v.words area.Lock 0) ≡ true) × (2 ^ 63 ≤ v.words area.Lock 0))
        ⊎ ((nat_le (2 ^ 63) (v.words area.Lock 0) ≡ false) × (v.words area.Lock 0 < 2 ^ 63)) → LockAt z (part_behind a part.Share note v)
    here (inl p) =
        share_late (actors_of z) (v.words area.Lock 0) (v.words area.Lock 0) _ _ I.lock_part (moved z v.hand a _ Loose (Owing (v.words area.Lock 0))
        S.is_sizes S.there S.needs (ap (λ (b : Bool). if b then Owing (v.words area.Lock 0) else Shared) p.0)) p.1
    here (inr p) =
        share_free (actors_of z) (v.words area.Lock 0) _ _ I.lock_part
        (moved z v.hand a _ Loose Shared S.is_sizes S.there S.needs (ap (λ (b : Bool). if b then Owing (v.words area.Lock 0) else Shared) p.0)) p.1

unshare_kept : (z : Sizes) (v : View) (a note : ℕ) → LockBehind z v a note part.Unshare
unshare_kept z v a note S I = here (v.hand a).topics.hold refl S.needs
  where
    here : (x : Hold) → (v.hand a).topics.hold ≡ x → counts x ≡ true → LockAt z (part_behind a part.Unshare note v)
    here Shared is has = unshare (actors_of z) (v.words area.Lock 0) _ _ I.lock_part (moved z v.hand a _ Shared Loose S.is_sizes S.there is refl)
    here (Owing seen) is has =
        take_back (actors_of z) (v.words area.Lock 0) seen _ _ I.lock_part (moved z v.hand a _ (Owing seen) Loose S.is_sizes S.there is refl)
    here _ is has = absurd (cc)

exclude_kept : (z : Sizes) (v : View) (a note : ℕ) → LockBehind z v a note part.Exclude
exclude_kept z v a note S I = here (eqb_tells (v.words area.Lock 0) 0)
  where
    here : ((eqb (v.words area.Lock 0) 0 ≡ true) × (v.words area.Lock 0 ≡ 0)) ⊎ ((eqb (v.words area.Lock 0) 0 ≡ false) × (v.words area.Lock 0 ≢ 0))
        → LockAt z (part_behind a part.Exclude note v)
    here (inl p) =
        rw (ap (λ (b : Bool). if b then 2 ^ 63 else v.words area.Lock 0) p.0) (exclude (actors_of z) _ _ (rw p.1 at I.lock_part)
        (moved z v.hand a _ Loose Exclusive S.is_sizes S.there S.needs (ap (λ (b : Bool). if b then Exclusive else (v.hand a).topics.hold) p.0)))
    here (inr p) =
        rw (ap (λ (b : Bool). if b then 2 ^ 63 else v.words area.Lock 0) p.0) (lock_frame (actors_of z) (v.words area.Lock 0) v.hand a _
        (ap (λ (b : Bool). if b then Exclusive else (v.hand a).topics.hold) p.0) I.lock_part)

release_kept : (z : Sizes) (v : View) (a note : ℕ) → LockBehind z v a note part.Release
release_kept z v a note S I =
    subst (λ w. LockPart (actors_of z) w (λ i. ((part_behind a part.Release note v).hand i).topics.hold)) (sym (and_mask (v.words area.Lock 0) 63))
    (release (actors_of z) (v.words area.Lock 0) _ _ I.lock_part (moved z v.hand a _ Exclusive Loose S.is_sizes S.there S.needs.alone refl))

lock_behind : (z : Sizes) (v : View) (a note : ℕ) (step : PartStep) → LockBehind z v a note step
lock_behind z v a note part.Share = share_kept z v a note
lock_behind z v a note part.Unshare = unshare_kept z v a note
lock_behind z v a note part.Exclude = exclude_kept z v a note
lock_behind z v a note part.Release = release_kept z v a note
lock_behind z v a note _ = λ S I. lock_frame (actors_of z) (v.words area.Lock 0) v.hand a _ refl I.lock_part

pub lock_kept : (z : Sizes) (v : View) (a : ℕ) (step : PartStep) (note : ℕ) → IsPart z v a step → TopicsInvariant z v → LockAt z (part_stepped a step note v)
lock_kept z v a step note S I = behind_step (LockAt z) z v a step note S (lock_behind z v a note step S I)
