-- How a fault comes to the places at which it has a scan of the pool's map: by a step of its claim alone; and which of its steps claim.
use Rattle.std.proofs.Common.{◌≡◌, ℕ, refl, ap}
use Rattle.std.specs.Prelude.{◌+◌, Bool, true, false, ◌==◌, ◌&&◌, nat_le, nat_lt, not, if◌then◌else◌}
use Rattle.core_views.specs.declared.place.CheckStage.{CheckStage}
use Rattle.core_views.specs.declared.place.CheckStage.TheVariants as stage
use Rattle.core_views.specs.declared.place.FaultEnd.TheVariants.{Installed, Mmio, HostFault, Retry, NotFast}
use Rattle.core_views.specs.declared.place.FaultPlace.{FaultPlace}
use Rattle.core_views.specs.declared.place.FaultPlace.TheVariants.{Find, Host, Bring, Share, Check, Walk, Claim, Fill, Role, Link, Give, Leaf, Unshare, End}
use Rattle.core_views.specs.declared.place.FaultPlace.TheVariants.{FastFind, FastWalk, Fix, Mark}
use Rattle.core_views.specs.declared.place.SlotField.{SlotField}
use Rattle.core_views.specs.declared.sizes.Sizes.{Sizes}
use Rattle.core_views.specs.declared.topics.SlotSearch.{SlotSearch}
use Rattle.core_views.specs.declared.topics.Topics.{Topics}
use Rattle.core_views.specs.Slots.{contains}
use Rattle.spte_words.specs.declared.spte_kind.SpteKind.{SpteKind}
use Rattle.spte_words.specs.declared.spte_kind.SpteKind.TheVariants as entry_kind
use Rattle.spte_words.specs.Entries.{kind_of}
use Rattle.spte_words.specs.HostWords.{host_allows_write, host_present}
use Rattle.mmu_core.specs.declared.share.ShareNext.{ShareNext}
use Rattle.mmu_core.specs.declared.share.ShareNext.TheVariants as shares
use Rattle.part_steps.specs.RunHoldings.{maps_run}
use Rattle.mmu_core.specs.forms.access.FaultSteps.{after_share, allows_access, check_next, check_part, fault_next, fault_part, find_next, found_next}
use Rattle.mmu_core.specs.forms.access.FaultSteps.{end_next, is_last_word, share_next, share_part, snapshot_taken, walk_next}
use Rattle.mmu_core.specs.forms.access.FaultSteps.{search_next, fast_find_next, fast_walk_next, over_next, put_next}
use Rattle.mmu_core.specs.orders.ClaimSteps.{FreeMap, Pages, Frames, claim_part, load_part, map_word, tries_one, try_part}
use Rattle.mmu_core.specs.lines.ScanPlaces.{BegunNext, HasBegun, IsStarvedEnd}
use Rattle.mmu_core.specs.forms.access.FaultKnows.{FaultKnows, IsRetry}
use Rattle.core_views.specs.declared.place.FaultEnd.{FaultEnd}
use Rattle.mmu_core.proofs.orders.ClaimMade.{claim_is}
use Rattle.mmu_core.proofs.lines.EitherPlace.{either_place}
use Rattle.mmu_core.proofs.forms.access.FaultSame.{both}
use Rattle.core_views.specs.declared.topics.Hold.{Hold}
use Rattle.core_views.specs.declared.topics.Hold.TheVariants.{Owing}
use Rattle.core_views.specs.declared.topics.MapClaim.{MapClaim}
use Rattle.part_steps.specs.declared.part_step.PartStep.{PartStep}
use Rattle.part_steps.specs.declared.part_step.PartStep.TheVariants as part
use Rattle.part_steps.specs.PartTasks.{word_looked, words_filled}
use Rattle.part_steps.specs.PageTopics.{searched}
use Rattle.part_steps.specs.PartHoldings.{is_fixable, one_mark_tells}

-- The fault is at a step of its claim, or is to be starved.
abbrev pub ClaimsOrStarves : FaultPlace → Type 0
ClaimsOrStarves (Claim begun) = Unit {0}
ClaimsOrStarves p = HasBegun p

-- ---- which places lead to one of them

abbrev NotBegun : FaultPlace → Type 0
NotBegun p = HasBegun p → ⊥

-- No other place leads to one of them.
not_found : (write : Bool) (found : SlotSearch) → NotBegun (found_next write found)
not_found write found = either_place NotBegun (write && found.slot.read_only) (End Mmio) Host (λ e. e) (λ e. e)

not_by_search : (has none more : FaultPlace) (gfn : ℕ) (loaded : SlotField) (found : SlotSearch) → NotBegun has → NotBegun none → NotBegun more
    → NotBegun (search_next has none more gfn loaded found)
not_by_search has none more gfn loaded found at_found at_end on =
    either_place NotBegun (is_last_word loaded && contains gfn found.slot) has (if found.id == 32 then none else more) at_found
    (either_place NotBegun (found.id == 32) none more at_end on)

not_by_find : (gfn : ℕ) (write : Bool) (loaded : SlotField) (found : SlotSearch) → NotBegun (find_next gfn write loaded found)
not_by_find gfn write loaded found = not_by_search (found_next write found) (End Mmio) (Find true) gfn loaded found (not_found write found) (λ e. e) (λ e. e)

not_by_share : (next : ShareNext) → NotBegun (after_share next)
not_by_share shares.Tries = λ e. e
not_by_share _ = λ e. e

not_by_check : (at : CheckStage) (gfn : ℕ) (t : Topics) (v : ℕ) → NotBegun (check_next at gfn t v)
not_by_check stage.Count gfn t v = either_place NotBegun (v == 0) (Check stage.Seq) (Check stage.Start) (λ e. e) (λ e. e)
not_by_check stage.Start gfn t v = λ e. e
not_by_check stage.End gfn t v = either_place NotBegun (nat_le t.invalidations.start gfn && nat_lt gfn v) (Unshare (Retry false _)) (Check stage.Seq) (λ e. e)
    (λ e. e)
not_by_check stage.Seq gfn t v = either_place NotBegun (v == snapshot_taken t.invalidations.snapshot) (Walk false) (Unshare (Retry false _)) (λ e. e) (λ e. e)

not_by_end : (gfn : ℕ) (write : Bool) (t : Topics) → NotBegun (end_next gfn write t)
not_by_end gfn write t = either_place NotBegun (maps_run t.walk.level gfn t) (Leaf write) (Claim false) (λ e. e) (λ e. absurd (cc e))

not_by_walk : (k : SpteKind) (z : Sizes) (gfn : ℕ) (write : Bool) (t : Topics) (v : ℕ) → NotBegun (walk_next k z gfn write t v)
not_by_walk entry_kind.Leaf z gfn write t v =
    either_place NotBegun (allows_access write v) (Unshare Installed) (end_next gfn write t) (λ e. e) (not_by_end gfn write t)
not_by_walk entry_kind.Absent z gfn write t v = not_by_end gfn write t
not_by_walk _ z gfn write t v = λ e. e

not_by_fast_walk : (k : SpteKind) (level : ℕ) (logged : Bool) (v : ℕ) → NotBegun (fast_walk_next k level logged v)
not_by_fast_walk entry_kind.Leaf level logged v = either_place NotBegun (one_mark_tells level logged && is_fixable v) Fix (End (NotFast v)) (λ e. e) (λ e. e)
not_by_fast_walk entry_kind.Absent level logged v = λ e. e
not_by_fast_walk entry_kind.Frozen level logged v = λ e. e
not_by_fast_walk (entry_kind.Table page) level logged v = λ e. e

not_by_over : (fast marked : Bool) → NotBegun (over_next fast marked)
not_by_over true marked = λ e. e
not_by_over false marked = λ e. e

not_by_put : (fast marks : Bool) → NotBegun (put_next fast marks)
not_by_put fast true = λ e. e
not_by_put fast false = not_by_over fast false

retry_starves_not : (e : FaultEnd) → IsRetry e → IsStarvedEnd e → ⊥
retry_starves_not (Retry fast cause) retry starved = starved
retry_starves_not _ retry starved = retry

pub fault_claims : (p : FaultPlace) (z : Sizes) (gfn : ℕ) (write : Bool) (t : Topics) (v : ℕ) → FaultKnows p z gfn write t
    → BegunNext (fault_next p z gfn write t v) → ClaimsOrStarves p
fault_claims (Find begun) z gfn write t v K e =
    either_place NotBegun begun (find_next gfn write t.search.next (searched t.search v)) (Find true)
    (not_by_find gfn write t.search.next (searched t.search v)) (λ x. x) e
fault_claims Host z gfn write t v K e =
    either_place NotBegun (write && not (host_allows_write v)) (End HostFault) (if host_present v then Share else Bring) (λ x. x)
    (either_place NotBegun (host_present v) Share Bring (λ x. x) (λ x. x)) e
fault_claims Bring z gfn write t v K e = either_place NotBegun (v == word_looked t.host) Share (End (Retry false _)) (λ x. x) (λ x. x) e
fault_claims Share z gfn write t v K e = not_by_share (share_next t.hold v) e
fault_claims (Check at) z gfn write t v K e = not_by_check at gfn t v e
fault_claims (Walk rooted) z gfn write t v K e =
    either_place NotBegun rooted (walk_next (kind_of t.walk.level v) z gfn write t v) (Walk true)
    (not_by_walk (kind_of t.walk.level v) z gfn write t v) (λ x. x) e
fault_claims (Claim begun) z gfn write t v K e = tt
fault_claims Fill z gfn write t v K e = either_place NotBegun (nat_lt (words_filled t.owned + 1) 512) Fill Role (λ x. x) (λ x. x) e
fault_claims Link z gfn write t v K e = either_place NotBegun (v == t.walk.entry) (Walk true) (Give (Retry false _)) (λ x. x) (λ x. x) e
fault_claims (Leaf writes) z gfn write t v K e =
    either_place NotBegun (v == t.walk.entry) (put_next false (writes && t.search.logged)) (Unshare (Retry false _)) (not_by_put false _) (λ x. x) e
fault_claims (Give end) z gfn write t v K e = absurd (retry_starves_not end K.5 e)
fault_claims (FastFind begun) z gfn write t v K e =
    either_place NotBegun begun (fast_find_next gfn t.search.next (searched t.search v)) (FastFind true)
    (not_by_search (FastWalk false) (End (NotFast 0)) (FastFind true) gfn t.search.next (searched t.search v) (λ x. x) (λ x. x) (λ x. x)) (λ x. x) e
fault_claims (FastWalk rooted) z gfn write t v K e =
    either_place NotBegun rooted (fast_walk_next (kind_of t.walk.level v) t.walk.level t.search.logged v) (FastWalk true)
    (not_by_fast_walk (kind_of t.walk.level v) t.walk.level t.search.logged v) (λ x. x) e
fault_claims Fix z gfn write t v K e =
    either_place NotBegun (v == t.walk.entry) (put_next true t.search.logged) (End (Retry true _)) (not_by_put true _) (λ x. x) e
fault_claims (Mark fast) z gfn write t v K e = not_by_over fast true e
fault_claims _ z gfn write t v K e = e

-- ---- which steps claim

-- The map is that of the pool's pages.
abbrev pub is_pages : FreeMap → Bool
is_pages Pages = true
is_pages Frames = false

-- The step loads a word of the map, or tries for a page or a frame there; and it gives one back.
abbrev pub maps : FreeMap → PartStep → Bool
maps map (part.Map word) = is_pages map
maps map part.Claim = is_pages map
maps map (part.FrameMap word) = not (is_pages map)
maps map part.Frame = not (is_pages map)
maps map _ = false

abbrev pub gives : FreeMap → PartStep → Bool
gives map part.Give = is_pages map
gives map part.GiveOld = is_pages map
gives map part.GiveFrame = not (is_pages map)
gives map _ = false

pub try_maps : (map : FreeMap) → maps map (try_part map) ≡ true
try_maps Pages = refl
try_maps Frames = refl

-- A claim tries a page or frame only after it has begun, and one of its own map; and it gives none back.
not_try : (map other : FreeMap) (word : ℕ) → load_part map word ≡ try_part other → ⊥
not_try Pages Pages word e = cc e
not_try Pages Frames word e = cc e
not_try Frames Pages word e = cc e
not_try Frames Frames word e = cc e

one_try : (map other : FreeMap) → try_part map ≡ try_part other → map ≡ other
one_try Pages Pages e = refl
one_try Pages Frames e = absurd (cc e)
one_try Frames Pages e = absurd (cc e)
one_try Frames Frames e = refl

pub claim_tries : (map other : FreeMap) (begun : Bool) (claim : MapClaim) → claim_part map begun claim ≡ try_part other → (map ≡ other) × (begun ≡ true)
claim_tries map other begun claim is = by (tries_one begun claim) refl is
  where
    by : (tries : Bool) → tries_one begun claim ≡ tries → (if tries then try_part map else load_part map (map_word begun claim)) ≡ try_part other
        → (map ≡ other) × (begun ≡ true)
    by true tries e = (one_try map other e, (both begun (nat_lt 0 claim.seen) tries).0)
    by false not_ e = absurd (not_try map other (map_word begun claim) e)

try_gives_none : (map : FreeMap) → gives map (try_part map) ≡ false
try_gives_none Pages = refl
try_gives_none Frames = refl

load_gives_none : (map : FreeMap) (word : ℕ) → gives map (load_part map word) ≡ false
load_gives_none Pages word = refl
load_gives_none Frames word = refl

pub claim_gives_none : (map : FreeMap) (begun : Bool) (claim : MapClaim) → gives map (claim_part map begun claim) ≡ false
claim_gives_none map begun claim = claim_is (λ s. gives map s ≡ false) map begun claim (try_gives_none map) (load_gives_none map)

-- A claim of a frame makes no step on the map of the pool's pages, nor does one of a page on that of frames.
pub page_maps_not : (begun : Bool) (claim : MapClaim) → maps Frames (claim_part Pages begun claim) ≡ false
page_maps_not begun claim = claim_is (λ s. maps Frames s ≡ false) Pages begun claim refl (λ word. refl)

pub frame_maps_not : (begun : Bool) (claim : MapClaim) → maps Pages (claim_part Frames begun claim) ≡ false
frame_maps_not begun claim = claim_is (λ s. maps Pages s ≡ false) Frames begun claim refl (λ word. refl)

-- A step that gives none back keeps the scan; the load of the map's first word begins one.
pub data KeepsScan (map : FreeMap) (scan : Type 0) : PartStep → Type 0 where
  Keeps : (step : PartStep) → scan → gives map step ≡ false → KeepsScan map scan step
  Begins : KeepsScan map scan (load_part map 0)

-- A claim goes on with its scan, or begins one.
pub claim_keeps : (map : FreeMap) (begun : Bool) (claim : MapClaim) (scan : Type 0) → (begun ≡ true → scan) → KeepsScan map scan (claim_part map begun claim)
claim_keeps map true claim scan S = Keeps (claim_part map true claim) (S refl) (claim_gives_none map true claim)
claim_keeps map false claim scan S = Begins

pub one_maps_not : (map : FreeMap) (b : Bool) (p q : PartStep) → maps map p ≡ false → maps map q ≡ false → maps map (if b then p else q) ≡ false
one_maps_not map true p q one other = one
one_maps_not map false p q one other = other

pub share_maps_not : (map : FreeMap) (hold : Hold) → maps map (share_part hold) ≡ false
share_maps_not map (Owing word) = refl
share_maps_not map _ = refl

check_maps_not : (map : FreeMap) (at : CheckStage) → maps map (check_part at) ≡ false
check_maps_not map stage.Count = refl
check_maps_not map _ = refl

-- Whether the fault stands at its claim.
abbrev pub is_claim : FaultPlace → Bool
is_claim (Claim begun) = true
is_claim _ = false

pub fault_maps_not : (map : FreeMap) (p : FaultPlace) (gfn : ℕ) (t : Topics) → is_claim p ≡ false → maps map (fault_part p gfn t) ≡ false
fault_maps_not map (Claim begun) gfn t is = absurd (cc is)
fault_maps_not map (Find begun) gfn t is = one_maps_not map begun part.Slot part.Slots refl refl
fault_maps_not map Share gfn t is = share_maps_not map t.hold
fault_maps_not map (Check at) gfn t is = check_maps_not map at
fault_maps_not map (Walk rooted) gfn t is = one_maps_not map rooted (part.Walk gfn) part.Root refl refl
fault_maps_not map (FastFind begun) gfn t is = one_maps_not map begun part.Slot part.Slots refl refl
fault_maps_not map (FastWalk rooted) gfn t is = one_maps_not map rooted (part.Walk gfn) part.Root refl refl
fault_maps_not map _ gfn t is = refl

-- A fault tries a page only with a scan.
pub fault_tries : (p : FaultPlace) (gfn : ℕ) (t : Topics) → fault_part p gfn t ≡ part.Claim → HasBegun p
fault_tries (Claim begun) gfn t is = (claim_tries Pages Pages begun t.claim is).1
fault_tries p gfn t is = let maps_one = ap (maps Pages) is in absurd (cc (fault_maps_not Pages p gfn t refl, maps_one))

-- A step to a place with a scan keeps the scan, or begins it.
pub fault_keeps : (p : FaultPlace) (z : Sizes) (gfn : ℕ) (write : Bool) (t : Topics) (v : ℕ) → FaultKnows p z gfn write t
    → BegunNext (fault_next p z gfn write t v) → KeepsScan Pages (HasBegun p) (fault_part p gfn t)
fault_keeps (Claim begun) z gfn write t v K e = claim_keeps Pages begun t.claim (begun ≡ true) (λ b. b)
fault_keeps (Unshare end) z gfn write t v K e = Keeps part.Unshare e refl
fault_keeps (End end) z gfn write t v K e = Keeps part.End e refl
fault_keeps p z gfn write t v K e = absurd (fault_claims p z gfn write t v K e)
