-- A fast fault, and a stay that ends with one, is of an access that writes: each step keeps it.
use Rattle.std.proofs.Common.{◌≡◌, ◌<◌, ◌&&◌, ◌||◌, ◌==◌, not, ℕ, refl, sym, subst, ◌+◌}
use Rattle.std.specs.Prelude.{Bool, true, false, Option, Some, None, if◌then◌else◌, nat_lt, nat_le}
use Rattle.core_views.specs.declared.cache.Translation.{Translation}
use Rattle.core_views.specs.declared.place.AccessPlace.{AccessPlace}
use Rattle.core_views.specs.declared.place.AccessPlace.TheVariants as access
use Rattle.core_views.specs.declared.place.CheckStage.TheVariants as stage
use Rattle.core_views.specs.declared.place.FaultEnd.TheVariants as end_of
use Rattle.core_views.specs.declared.place.FaultNext.{FaultNext}
use Rattle.core_views.specs.declared.place.FaultNext.TheVariants as next_of
use Rattle.core_views.specs.declared.place.FaultPlace.{FaultPlace}
use Rattle.core_views.specs.declared.place.FaultPlace.TheVariants as fault
use Rattle.core_views.specs.declared.place.Leaving.TheVariants as leaving
use Rattle.core_views.specs.declared.place.Place.{Place}
use Rattle.core_views.specs.declared.place.Place.TheVariants as place
use Rattle.core_views.specs.declared.sizes.Sizes.{Sizes}
use Rattle.core_views.specs.declared.topics.Topics.{Topics}
use Rattle.core_views.specs.declared.trace.Command.{Command}
use Rattle.core_views.specs.declared.trace.Command.TheVariants.{Access}
use Rattle.core_views.specs.declared.trace.Line.{Line}
use Rattle.core_views.specs.declared.trace.Op.{Op}
use Rattle.core_views.specs.Held.{Held}
use Rattle.core_views.specs.Sizes.{actors_of}
use Rattle.core_views.specs.Slots.{is_write, contains}
use Rattle.core_views.specs.SlotSets.{MemorySlots}
use Rattle.spte_words.specs.declared.spte_kind.SpteKind.{SpteKind}
use Rattle.spte_words.specs.declared.spte_kind.SpteKind.TheVariants as entry_kind
use Rattle.spte_words.specs.Entries.{can_write, kind_of}
use Rattle.part_steps.specs.declared.part_step.PartStep.{PartStep}
use Rattle.mmu_core.specs.declared.claim.ClaimNext.{ClaimNext}
use Rattle.mmu_core.specs.declared.claim.ClaimNext.TheVariants as claims
use Rattle.mmu_core.specs.declared.outcome.Outcome.{Outcome}
use Rattle.mmu_core.specs.declared.outcome.Outcome.TheVariants.{Goes}
use Rattle.mmu_core.specs.declared.share.ShareNext.{ShareNext}
use Rattle.mmu_core.specs.declared.share.ShareNext.TheVariants as shares
use Rattle.mmu_core.specs.forms.access.AccessSteps.{access_outcome, behind_fault, pause_next, stay_next}
use Rattle.mmu_core.specs.forms.access.Cached.{first_usable}
use Rattle.part_steps.specs.RunHoldings.{maps_run}
use Rattle.mmu_core.specs.forms.access.FaultSteps.{after_claim, after_share, allows_access, end_next, fault_next, walk_next, found_next}
use Rattle.mmu_core.specs.lines.Forms.{first_place, outcome_at}
use Rattle.mmu_core.proofs.lines.Forms.{outcome_apart}
use Rattle.mmu_core.specs.machine.Outcomes.{place_after}
use Rattle.mmu_core.specs.machine.View.{View, part_stepped, stepped, answer_in}
use Rattle.mmu_core.proofs.lines.EitherPlace.{either_place}
use Rattle.mmu_core.proofs.machine.Columns.{at_upd}
use Rattle.mmu_core.proofs.machine.GoesOn.{GoesToNoAccess}
use Rattle.mmu_core.proofs.machine.Stepping.{IsStep}
use Rattle.log_invariant.specs.LogInvariant.{FastWritesAt, is_within_fast}
use Rattle.log_invariant.proofs.StepPlaces.{of_hand}
use Rattle.core_views.specs.declared.topics.SlotSearch.{SlotSearch}
use Rattle.spte_words.specs.HostWords.{host_allows_write, host_present}
use Rattle.part_steps.specs.PageTopics.{searched}
use Rattle.part_steps.specs.PartTasks.{word_looked, words_filled}
use Rattle.mmu_core.specs.forms.access.CheckSteps.{snapshot_taken}
use Rattle.mmu_core.specs.orders.ClaimSteps.{claim_next}
use Rattle.mmu_core.specs.forms.access.FastSteps.{is_last_word}
use Rattle.mmu_core.specs.orders.ShareSteps.{share_next}
use Rattle.mmu_core.specs.lines.PartAt.{task_at}
use Rattle.mmu_core.specs.declared.claim.FreeMap.TheVariants.{Pages}

-- The part of the invariant, of a view.
abbrev pub FastAt : Sizes → View → Type 0
FastAt z v = (i : ℕ) → i < actors_of z → FastWritesAt (v.hand i).state.place (v.hand i).state.line.command

-- So it is where the line stands.
pub fast_here : (z : Sizes) (v : View) (a : ℕ) (line : Line) (command : Command) (p : Place) → IsStep z v a line command p
    → FastWritesAt (v.hand a).state.place (v.hand a).state.line.command → FastWritesAt p command
fast_here z v a line command p S F = of_hand z v a line command p S FastWritesAt (λ sizes slots c e. first sizes slots c) F
  where
    first : (sizes : Sizes) (slots : MemorySlots) (c : Command) → FastWritesAt (first_place sizes slots c) c
    first sizes slots (Access gfn word op) = tt
    first sizes slots _ = tt

-- ---- a fault that isn't fast

abbrev is_fast_next : FaultNext → Bool
is_fast_next (next_of.Goes p) = is_within_fast p
is_fast_next (next_of.Ends e) = false

abbrev IsSlow : FaultPlace → Type 0
IsSlow p = is_within_fast p ≡ false

-- one of two places, and one of three
slow_one : (b : Bool) (p q : FaultPlace) → IsSlow p → IsSlow q → IsSlow (if b then p else q)
slow_one b p q x y = either_place IsSlow b p q x y

slow_two : (b c : Bool) (p q r : FaultPlace) → IsSlow p → IsSlow q → IsSlow r → IsSlow (if b then p else if c then q else r)
slow_two b c p q r x y w = slow_one b p (if c then q else r) x (slow_one c q r y w)

slow_share : (n : ShareNext) → IsSlow (after_share n)
slow_share shares.Tries = refl
slow_share shares.Shares = refl

slow_claim : (n : ClaimNext) → IsSlow (after_claim n)
slow_claim claims.Goes = refl
slow_claim claims.Got = refl
slow_claim claims.Empty = refl

slow_end : (gfn : ℕ) (write : Bool) (t : Topics) → IsSlow (end_next gfn write t)
slow_end gfn write t = slow_one (maps_run t.walk.level gfn t) (fault.Leaf write) (fault.Claim false) refl refl

slow_walk : (k : SpteKind) (z : Sizes) (gfn : ℕ) (write : Bool) (t : Topics) (v : ℕ) → IsSlow (walk_next k z gfn write t v)
slow_walk (entry_kind.Table page) z gfn write t v = refl
slow_walk entry_kind.Leaf z gfn write t v =
    slow_one (allows_access write v) (fault.Unshare end_of.Installed) (end_next gfn write t) refl (slow_end gfn write t)
slow_walk entry_kind.Absent z gfn write t v = slow_end gfn write t
slow_walk entry_kind.Frozen z gfn write t v = refl

-- It goes on to no place of a fast one.
slow_stays : (p : FaultPlace) (z : Sizes) (gfn : ℕ) (write : Bool) (t : Topics) (v : ℕ) → IsSlow p → is_fast_next (fault_next p z gfn write t v) ≡ false
slow_stays (fault.Find begun) z gfn write t v slow =
    let found : SlotSearch = searched t.search v in
    slow_one begun _ (fault.Find true)
    (slow_two (is_last_word t.search.next && contains gfn found.slot) (found.id == 32) (found_next write found) (fault.End end_of.Mmio) (fault.Find true)
    (slow_one (write && found.slot.read_only) (fault.End end_of.Mmio) fault.Host refl refl) refl refl) refl
slow_stays fault.Host z gfn write t v slow =
    slow_two (write && not (host_allows_write v)) (host_present v) (fault.End end_of.HostFault) fault.Share fault.Bring refl refl refl
slow_stays fault.Bring z gfn write t v slow = slow_one (v == word_looked t.host) fault.Share _ refl refl
slow_stays fault.Share z gfn write t v slow = slow_share (share_next t.hold v)
slow_stays (fault.Check stage.Count) z gfn write t v slow = slow_one (v == 0) (fault.Check stage.Seq) (fault.Check stage.Start) refl refl
slow_stays (fault.Check stage.Start) z gfn write t v slow = refl
slow_stays (fault.Check stage.End) z gfn write t v slow =
    slow_one (nat_le t.invalidations.start gfn && nat_lt gfn v) _ (fault.Check stage.Seq) refl refl
slow_stays (fault.Check stage.Seq) z gfn write t v slow =
    slow_one (v == snapshot_taken t.invalidations.snapshot) (fault.Walk false) _ refl refl
slow_stays (fault.Walk rooted) z gfn write t v slow =
    slow_one rooted _ (fault.Walk true) (slow_walk (kind_of t.walk.level v) z gfn write t v) refl
slow_stays (fault.Claim begun) z gfn write t v slow = slow_claim (claim_next Pages begun z t.claim v)
slow_stays fault.Fill z gfn write t v slow = slow_one (nat_lt (words_filled t.owned + 1) 512) fault.Fill fault.Role refl refl
slow_stays fault.Link z gfn write t v slow = slow_one (v == t.walk.entry) (fault.Walk true) _ refl refl
slow_stays (fault.Leaf writes) z gfn write t v slow =
    slow_one (v == t.walk.entry) _ _ (slow_one (writes && t.search.logged) (fault.Mark false) (fault.Unshare end_of.Installed) refl refl) refl
slow_stays fault.FastBegin z gfn write t v slow = absurd (cc slow)
slow_stays (fault.FastFind begun) z gfn write t v slow = absurd (cc slow)
slow_stays (fault.FastWalk rooted) z gfn write t v slow = absurd (cc slow)
slow_stays fault.Fix z gfn write t v slow = absurd (cc slow)
slow_stays (fault.Mark true) z gfn write t v slow = absurd (cc slow)
slow_stays (fault.Mark false) z gfn write t v slow = refl
slow_stays _ z gfn write t v slow = refl

-- ---- an access

behind_writes : (n : FaultNext) (gfn word : ℕ) (op : Op) → (is_fast_next n ≡ true → is_write op ≡ true)
    → FastWritesAt (place_after (behind_fault n)) (Access gfn word op)
behind_writes (next_of.Goes p) gfn word op writes = writes
behind_writes (next_of.Ends (end_of.NotFast seen)) gfn word op writes = λ e. absurd (cc e)
behind_writes (next_of.Ends end_of.Installed) gfn word op writes = tt
behind_writes (next_of.Ends end_of.Mmio) gfn word op writes = tt
behind_writes (next_of.Ends end_of.HostFault) gfn word op writes = tt
behind_writes (next_of.Ends end_of.Starved) gfn word op writes = tt
behind_writes (next_of.Ends (end_of.Fixed marked)) gfn word op writes = tt
behind_writes (next_of.Ends (end_of.Retry fast cause)) gfn word op writes = tt

fault_writes : (p : FaultPlace) (z : Sizes) (gfn : ℕ) (op : Op) (t : Topics) (v : ℕ) → (is_within_fast p ≡ true → is_write op ≡ true)
    → is_fast_next (fault_next p z gfn (is_write op) t v) ≡ true → is_write op ≡ true
fault_writes p z gfn op t v writes fast = by (is_within_fast p) refl
  where
    by : (b : Bool) → is_within_fast p ≡ b → is_write op ≡ true
    by true is = writes is
    by false is = absurd (let slow = slow_stays p z gfn (is_write op) t v is in cc (slow, fast))

denied : (write c : Bool) → (not write || c) ≡ false → write ≡ true
denied true c e = refl
denied false c e = absurd (cc e)

stay_writes : (k : SpteKind) (allowed again : Bool) (gfn word v : ℕ) (op : Op) → allows_access (is_write op) v ≡ allowed
    → FastWritesAt (place.Access (stay_next again k allowed)) (Access gfn word op)
stay_writes (entry_kind.Table page) allowed again gfn word v op is = tt
stay_writes entry_kind.Leaf true again gfn word v op is = tt
stay_writes entry_kind.Leaf false again gfn word v op is = λ e. denied (is_write op) (can_write v) is
stay_writes entry_kind.Absent allowed again gfn word v op is = λ e. absurd (cc e)
stay_writes entry_kind.Frozen allowed again gfn word v op is = λ e. absurd (cc e)

pause_writes : (found : Option Translation) (again : Bool) (gfn word : ℕ) (op : Op)
    → FastWritesAt (place.Access (pause_next again found)) (Access gfn word op)
pause_writes None again gfn word op = tt
pause_writes (Some t) again gfn word op = tt

access_writes : (p : AccessPlace) (h : Held) (gfn word : ℕ) (op : Op) (v : ℕ) → FastWritesAt (place.Access p) (Access gfn word op)
    → FastWritesAt (place_after (access_outcome p h gfn op v)) (Access gfn word op)
access_writes (access.Pause again) h gfn word op v F = pause_writes (first_usable gfn (is_write op) h.cached.items) again gfn word op
access_writes (access.Walk again) h gfn word op v F =
    stay_writes (kind_of h.topics.walk.level v) (allows_access (is_write op) v) again gfn word v op refl
access_writes (access.Leave (leaving.Reached frame value)) h gfn word op v F = tt
access_writes (access.Leave (leaving.Faults true)) h gfn word op v F = λ e. F refl
access_writes (access.Leave (leaving.Faults false)) h gfn word op v F = λ e. absurd (cc e)
access_writes (access.Fault p) h gfn word op v F =
    behind_writes (fault_next p h.state.sizes gfn (is_write op) h.topics v) gfn word op (fault_writes p h.state.sizes gfn op h.topics v F)
access_writes _ h gfn word op v F = tt

-- ---- each step

no_access : (o : Outcome) (command : Command) → GoesToNoAccess o → FastWritesAt (place_after o) command
no_access (Goes (place.Access p)) command none = absurd none
no_access _ command none = tt

fast_after : (p : Place) (command : Command) (h : Held) (v : ℕ) → FastWritesAt p command → FastWritesAt (place_after (outcome_at p command h v)) command
fast_after (place.Access p) (Access gfn word op) h v F = access_writes p h gfn word op v F
fast_after (place.Access p) _ h v F = F
fast_after p command h v F = no_access (outcome_at p command h v) command (outcome_apart p command h v tt)

pub fast_kept : (z : Sizes) (v : View) (a : ℕ) (line : Line) (command : Command) (p : Place) → IsStep z v a line command p → FastAt z v
    → FastAt z (stepped a line command p v)
fast_kept z v a line command p S F =
    at_upd (λ j (k : Held). j < actors_of z → FastWritesAt k.state.place k.state.line.command) v.hand a _
    (λ lt. subst (FastWritesAt (place_after (outcome_at p command (v.hand a) x))) (sym S.command_is)
    (fast_after p command (v.hand a) x (fast_here z v a line command p S (F a lt)))) (λ j ne. F j)
  where
    x : ℕ
    x = answer_in (task_at p command (v.hand a)) v.words

pub idle_fast_kept : (z : Sizes) (v : View) (a : ℕ) (step : PartStep) (note : ℕ) → FastAt z v → FastAt z (part_stepped a step note v)
idle_fast_kept z v a step note F = at_upd (λ j (k : Held). j < actors_of z → FastWritesAt k.state.place k.state.line.command) v.hand a _ (F a) (λ j ne. F j)
