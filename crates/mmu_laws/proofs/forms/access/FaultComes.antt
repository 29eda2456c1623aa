-- What each place of a fault comes to that runs while all other actors rest, by what it finds there.
use Rattle.std.proofs.Common.{◌≡◌, ◌≢◌, ◌≤◌, ℕ, refl, sym, subst, ap, arith}
use Rattle.std.specs.Prelude.{Bool, true, false, ◌==◌, if◌then◌else◌, Option, Some, None, is_some, ◌&&◌}
use Rattle.std.proofs.lemmas.Bool.Decides.{nat_tests}
use Rattle.core_views.specs.declared.place.CheckStage.TheVariants as stage
use Rattle.core_views.specs.declared.place.FaultEnd.TheVariants.{Installed, HostFault, NotFast}
use Rattle.core_views.specs.declared.place.FaultPlace.{FaultPlace}
use Rattle.core_views.specs.declared.place.FaultPlace.TheVariants.{Bring, Share, Check, Walk, Claim, Fill, Role, Leaf, Unshare, End, FastFind, FastWalk, Fix}
use Rattle.core_views.specs.declared.sizes.Sizes.{Sizes}
use Rattle.core_views.specs.declared.topics.Hold.{Hold}
use Rattle.core_views.specs.declared.topics.Hold.TheVariants.{Loose, Owing}
use Rattle.core_views.specs.declared.topics.Topics.{Topics}
use Rattle.spte_words.specs.declared.spte_kind.SpteKind.{SpteKind}
use Rattle.spte_words.specs.declared.spte_kind.SpteKind.TheVariants as entry_kind
use Rattle.spte_words.specs.Areas.{pool_index}
use Rattle.spte_words.specs.Entries.{kind_of}
use Rattle.mmu_core.specs.declared.claim.ClaimNext.{ClaimNext}
use Rattle.mmu_core.specs.declared.claim.ClaimNext.TheVariants as claims
use Rattle.mmu_core.specs.declared.share.ShareNext.{ShareNext}
use Rattle.mmu_core.specs.declared.share.ShareNext.TheVariants as shares
use Rattle.mmu_core.specs.alone.FaultAlone.{EntryStands, FaultAlone, HostForbidsPage, LeadsTo, LeadsToLeaf}
use Rattle.mmu_core.specs.declared.claim.FreeMap.{FreeMap}
use Rattle.mmu_core.specs.declared.claim.FreeMap.TheVariants.{Frames, Pages}
use Rattle.mmu_core.specs.orders.ClaimSteps.{try_part}
use Rattle.mmu_core.specs.forms.access.FaultKnows.{FaultKnows}
use Rattle.mmu_core.specs.forms.access.FaultSteps.{allows_access, fault_next, fault_part, is_owing, snapshot_taken, walk_next, after_claim, after_share}
use Rattle.mmu_core.specs.forms.access.FaultSteps.{fast_walk_next, over_next, put_next, end_next}
use Rattle.mmu_core.specs.lines.ScanPlaces.{BegunNext, HasBegun, OfPages}
use Rattle.mmu_core.specs.orders.ShareSteps.{is_trying}
use Rattle.part_steps.specs.PartTasks.{entry_index, page_looked, table_page, word_looked, part_task}
use Rattle.part_steps.specs.WalkTopics.{gone_down, linked_page}
use Rattle.mmu_core.specs.invariant.TreePart.{stands}
use Rattle.mmu_core.proofs.forms.access.FaultScans.{KeepsScan, fault_keeps, fault_maps_not, fault_tries, maps, page_maps_not}
use Rattle.part_steps.specs.PartHoldings.{is_fixable, one_mark_tells}
use Rattle.spte_words.specs.declared.area.Area.{Area}
use Rattle.mmu_laws.proofs.leaves.LeadsDown.{leads_at}
use Rattle.mmu_core.proofs.orders.ClaimMade.{ClaimMade}
use Rattle.mmu_core.specs.machine.View.{words_after}
use Rattle.part_steps.specs.declared.part_step.PartStep.{PartStep}
use Rattle.mmu_core.proofs.orders.ClaimMade as made
use Rattle.spte_words.specs.declared.area.Area.TheVariants as area
use Rattle.part_steps.specs.RunHoldings.{maps_run}

-- ---- tests

pub is_it : (v n : ℕ) → v ≡ n → (v == n) ≡ true
is_it v n e = grind (arith, nat_tests)

pub trying_loose : (hold : Hold) → is_trying hold ≡ true → is_owing hold ≡ false → hold ≡ Loose
trying_loose Loose try_ owes = refl
trying_loose (Owing word) try_ owes = absurd (cc owes)
trying_loose _ try_ owes = absurd (cc try_)

-- ---- its scan of the map of pages

-- A fault tries a page only with a scan, and never a frame.
maps_no_frame : (p : FaultPlace) (gfn : ℕ) (t : Topics) → maps Frames (fault_part p gfn t) ≡ false
maps_no_frame (Claim begun) gfn t = page_maps_not begun t.claim
maps_no_frame p gfn t = fault_maps_not Frames p gfn t refl

pub tries_pages : (p : FaultPlace) (gfn : ℕ) (t : Topics) (map : FreeMap) → fault_part p gfn t ≡ try_part map → OfPages (HasBegun p) map
tries_pages p gfn t Pages is = fault_tries p gfn t is
tries_pages p gfn t Frames is =
    let tries : maps Frames (fault_part p gfn t) ≡ true = ap (maps Frames) is in let none = maps_no_frame p gfn t in absurd (cc (tries, none))

-- To a place with a scan it comes with a step that keeps it, or begins it.
pub keeps_pages : (p : FaultPlace) (z : Sizes) (gfn : ℕ) (write : Bool) (t : Topics) (v : ℕ) → FaultKnows p z gfn write t → (map : FreeMap)
    → OfPages (BegunNext (fault_next p z gfn write t v)) map → KeepsScan map (OfPages (HasBegun p) map) (fault_part p gfn t)
keeps_pages p z gfn write t v K Pages e = fault_keeps p z gfn write t v K e
keeps_pages p z gfn write t v K Frames e = absurd e

module _ (root set : ℕ) (pool host : ℕ → ℕ) (gfn : ℕ) (write : Bool) where
  -- ---- the host word, the lock and the check

  pub host_alone : (denied here : Bool) (u : Topics) → (denied ≡ true → HostForbidsPage set pool host gfn write)
      → word_looked u.host ≡ host (page_looked u.host)
      → FaultAlone (if denied then End HostFault else if here then Share else Bring) root set pool host gfn write u
  host_alone true here u forbids is = forbids refl
  host_alone false true u forbids is = tt
  host_alone false false u forbids is = is

  pub bring_alone : (won : Bool) (end_ : FaultPlace) (u : Topics) → won ≡ true → FaultAlone (if won then Share else end_) root set pool host gfn write u
  bring_alone true end_ u is = tt
  bring_alone false end_ u is = absurd (cc is)

  pub share_alone : (next : ShareNext) (u : Topics) → next ≡ shares.Shares → FaultAlone (after_share next) root set pool host gfn write u
  share_alone shares.Shares u is = tt
  share_alone shares.Tries u is = absurd (cc is)

  pub count_alone : (v : ℕ) (u : Topics) → v ≡ 0 → FaultAlone (if v == 0 then Check stage.Seq else Check stage.Start) root set pool host gfn write u
  count_alone v u none = subst (λ b. FaultAlone (if b then Check stage.Seq else Check stage.Start) root set pool host gfn write u) (sym (is_it v 0 none)) tt

  pub seq_alone : (snapshot : Option ℕ) (v : ℕ) (end_ : FaultPlace) (u : Topics) → is_some snapshot ≡ true → ((s : ℕ) → snapshot ≡ Some s → s ≡ v)
      → FaultAlone (if v == snapshot_taken snapshot then Walk false else end_) root set pool host gfn write u
  seq_alone None v end_ u some still = absurd (cc some)
  seq_alone (Some s) v end_ u some still =
      subst (λ b. FaultAlone (if b then Walk false else end_) root set pool host gfn write u) (sym (is_it v s (sym (still s refl)))) tt

  -- ---- the walk

  -- links lead to a leaf in the walk's table
  pub installed : (page level e : ℕ) → 1 ≤ level → (LeadsTo pool level page gfn level e → LeadsTo pool 4 root gfn level e)
      → pool (pool_index page (entry_index gfn level)) ≡ e → kind_of level e ≡ entry_kind.Leaf → allows_access write e ≡ true
      → LeadsToLeaf pool 4 root gfn write
  installed page level e from above is leaf allows =
      record { at = level; entry = e; leads = above (leads_at pool level page gfn e from is leaf); leaf = leaf; allows = allows }

  pub walk_end : (maps : Bool) (t : Topics) (v : ℕ) → pool (pool_index (table_page t.walk) (entry_index gfn t.walk.level)) ≡ v
      → FaultAlone (if maps then Leaf write else Claim false) root set pool host gfn write
      (record t { walk = gone_down None t.walk (entry_index gfn t.walk.level) v })
  walk_end true t v is = is
  walk_end false t v is = is

  pub walk_leaf : (allows : Bool) (t : Topics) (v : ℕ) → 1 ≤ t.walk.level → allows_access write v ≡ allows → kind_of t.walk.level v ≡ entry_kind.Leaf
      → pool (pool_index (table_page t.walk) (entry_index gfn t.walk.level)) ≡ v
      → (LeadsTo pool t.walk.level (table_page t.walk) gfn t.walk.level v → LeadsTo pool 4 root gfn t.walk.level v)
      → FaultAlone (if allows then Unshare Installed else end_next gfn write t) root set pool host gfn write
      (record t { walk = gone_down None t.walk (entry_index gfn t.walk.level) v })
  walk_leaf true t v from may leaf is above = installed (table_page t.walk) t.walk.level v from above is leaf may
  walk_leaf false t v from may leaf is above = walk_end (maps_run t.walk.level gfn t) t v is

  pub walk_alone : (k : SpteKind) (z : Sizes) (t : Topics) (v : ℕ) → 1 ≤ t.walk.level → kind_of t.walk.level v ≡ k
      → pool (pool_index (table_page t.walk) (entry_index gfn t.walk.level)) ≡ v
      → (LeadsTo pool t.walk.level (table_page t.walk) gfn t.walk.level v → LeadsTo pool 4 root gfn t.walk.level v)
      → (kind_of t.walk.level v ≢ entry_kind.Frozen) → FaultAlone (walk_next k z gfn write t v) root set pool host gfn write
      (record t { walk = gone_down (linked_page k) t.walk (entry_index gfn t.walk.level) v })
  walk_alone (entry_kind.Table page) z t v from is here above never = tt
  walk_alone entry_kind.Leaf z t v from is here above never = walk_leaf (allows_access write v) t v from refl is here above
  walk_alone entry_kind.Absent z t v from is here above never = walk_end (maps_run t.walk.level gfn t) t v here
  walk_alone entry_kind.Frozen z t v from is here above never = absurd (never is)

  -- ---- the claim

  pub claim_alone : (next : ClaimNext) (u : Topics) → EntryStands pool gfn u → FaultAlone (after_claim next) root set pool host gfn write u
  claim_alone claims.Goes u still = still
  claim_alone claims.Got u still = still
  claim_alone claims.Empty u still = tt

  -- ---- the stores

  pub fill_alone : (few : Bool) (u : Topics) → EntryStands pool gfn u → FaultAlone (if few then Fill else Role) root set pool host gfn write u
  fill_alone true u stands = stands
  fill_alone false u stands = stands

  pub link_alone : (won : Bool) (end_ : FaultPlace) (u : Topics) → won ≡ true → FaultAlone (if won then Walk true else end_) root set pool host gfn write u
  link_alone true end_ u is = tt
  link_alone false end_ u is = absurd (cc is)

  pub over_alone : (fast marked : Bool) (u : Topics) → LeadsToLeaf pool 4 root gfn write → FaultAlone (over_next fast marked) root set pool host gfn write u
  over_alone true marked u leads = leads
  over_alone false marked u leads = leads

  pub put_alone : (fast marks : Bool) (u : Topics) → LeadsToLeaf pool 4 root gfn write → FaultAlone (put_next fast marks) root set pool host gfn write u
  put_alone fast true u leads = leads
  put_alone fast false u leads = over_alone fast false u leads

  pub leaf_alone : (won fast marks : Bool) (end_ : FaultPlace) (u : Topics) → won ≡ true → LeadsToLeaf pool 4 root gfn write
      → FaultAlone (if won then put_next fast marks else end_) root set pool host gfn write u
  leaf_alone true fast marks end_ u is leads = put_alone fast marks u leads
  leaf_alone false fast marks end_ u is leads = absurd (cc is)

  -- ---- a fast fault

  fast_leaf : (b : Bool) (t : Topics) (v : ℕ) → EntryStands pool gfn t → FaultAlone (if b then Fix else End (NotFast v)) root set pool host gfn write t
  fast_leaf true t v stands = stands
  fast_leaf false t v stands = tt

  pub fast_walk_alone : (k : SpteKind) (t : Topics) (v : ℕ) → pool (pool_index (table_page t.walk) (entry_index gfn t.walk.level)) ≡ v
      → FaultAlone (fast_walk_next k t.walk.level t.search.logged v) root set pool host gfn write
      (record t { walk = gone_down (linked_page k) t.walk (entry_index gfn t.walk.level) v })
  fast_walk_alone (entry_kind.Table page) t v here = tt
  fast_walk_alone entry_kind.Leaf t v here = fast_leaf (one_mark_tells t.walk.level t.search.logged && is_fixable v) _ v here
  fast_walk_alone entry_kind.Absent t v here = tt
  fast_walk_alone entry_kind.Frozen t v here = tt

  pub fast_find_alone : (found none : Bool) (t : Topics)
      → FaultAlone (if found then FastWalk false else if none then End (NotFast 0) else FastFind true) root set pool host gfn write t
  fast_find_alone true none t = tt
  fast_find_alone false true t = tt
  fast_find_alone false false t = tt

-- A step of the claim leaves the entry.
pub entry_still : (z : Sizes) (gfn : ℕ) (begun : Bool) (t : Topics) (v : ℕ) (words : Area → ℕ → ℕ) (a note : ℕ) (step : PartStep) (next : ClaimNext)
    (u : Topics) → ClaimMade z Pages begun t v step next u
    → EntryStands (words area.Pool) gfn t → EntryStands (words_after (part_task step a t note) words area.Pool) gfn u
entry_still z gfn begun t v words a note _ _ _ (made.Won tries b some is) stands = stands
entry_still z gfn begun t v words a note _ _ _ _ stands = stands
