-- What an actor holds of tables and slot sets after each step, over plain topics.
use Rattle.std.proofs.Common.{◌≡◌, ◌-◌, ◌≤◌, ℕ, zero, suc, refl, sym, subst, ap, ◌∙◌, arith}
use Rattle.std.specs.Prelude.{Bool, true, false, ◌==◌, ◌||◌, if◌then◌else◌, Option, Some, None}
use Rattle.core_views.specs.declared.place.SlotField.{SlotField}
use Rattle.core_views.specs.declared.place.SlotField.TheVariants as field
use Rattle.core_views.specs.declared.topics.Flush.{Flush}
use Rattle.core_views.specs.declared.topics.Hold.{Hold}
use Rattle.core_views.specs.declared.topics.Hold.TheVariants.{Loose, Shared, Owing, Exclusive}
use Rattle.core_views.specs.declared.topics.SlotSearch.{SlotSearch}
use Rattle.core_views.specs.declared.topics.Stay.{Stay}
use Rattle.core_views.specs.declared.topics.Stay.TheVariants.{Outside, Guest, Section}
use Rattle.core_views.specs.declared.topics.TableWalk.{TableWalk}
use Rattle.core_views.specs.declared.topics.Topics.{Topics}
use Rattle.mmu_core.specs.invariant.HeldPart.{HeldPart}
use Rattle.part_steps.specs.PartTasks.{table_page}
use Rattle.part_steps.specs.StayTopics.{begun, kept_search, let_go, may_search, may_walk, unchecked}
use Rattle.part_steps.specs.WalkTopics.{gone_down}
use Rattle.part_steps.specs.PageTopics.{searched, searched_at}
use Rattle.part_steps.specs.ControlTopics.{at_root, at_set}
use Rattle.mmu_core.specs.invariant.TreePart.{Position, at, stands}
use Rattle.mmu_core.proofs.pages.UsesStay.{StaysStanding}
use Rattle.mmu_core.proofs.held.LeadsDown.{LeadsDown}
use Rattle.core_views.specs.declared.topics.HostRow.{HostRow}

pub never_or : (b : Bool) → (b || true) ≡ false → ⊥
never_or true e = cc
never_or false e = cc

pub begun_held : (stands : ℕ → Option Position) (stay : Stay) (t : Topics) → HeldPart stands (begun stay t)
begun_held stands stay t = record { table = λ from. absurd (omega (arith, from)); no_table = λ f. refl; no_set = λ f. refl }

pub shared_held : (stands : ℕ → Option Position) (t : Topics) (b : Bool) (w : ℕ) → t.hold ≡ Loose → HeldPart stands t
    → HeldPart stands (record t { hold = if b then Owing w else Shared; invalidations = unchecked t.invalidations })
shared_held stands t true w is H = record {
  table = H.table;
  no_table = λ f. H.no_table (ap (λ (h : Hold). may_walk t.stay h) is ∙ f);
  no_set = λ f. H.no_set (ap (λ (h : Hold). may_search t.stay h) is ∙ f);
}
shared_held stands t false w is H = record {
  table = H.table;
  no_table = λ f. absurd (never_or _ f);
  no_set = λ f. H.no_set (ap (λ (h : Hold). may_search t.stay h) is ∙ f);
}

pub excluded_held : (stands : ℕ → Option Position) (t : Topics) (b : Bool) (f : Flush) → HeldPart stands t
    → HeldPart stands (record t { hold = if b then Exclusive else t.hold; invalidations = unchecked t.invalidations; flush = f })
excluded_held stands t true f H = record { table = H.table; no_table = λ f. absurd (never_or _ f); no_set = λ f. absurd (never_or _ f) }
excluded_held stands t false f H = record { table = H.table; no_table = H.no_table; no_set = H.no_set }

pub let_go_held : (stands : ℕ → Option Position) (t : Topics) (stay : Stay) → HeldPart stands t → HeldPart stands (let_go (record t { stay = stay }))
let_go_held stands t Outside H = record { table = λ from. absurd (omega (arith, from)); no_table = λ f. refl; no_set = λ f. refl }
let_go_held stands t Guest H = record { table = H.table; no_table = λ f. absurd (cc f); no_set = λ f. refl }
let_go_held stands t Section H = record { table = H.table; no_table = λ f. absurd (cc f); no_set = λ f. absurd (cc f) }

pub root_held : (root : ℕ) (stands : ℕ → Option Position) (t : Topics) → stands root ≡ Some (at 4 0) → HeldPart stands t
    → HeldPart stands (record t { walk = at_root (may_walk t.stay t.hold) t.walk root })
root_held root stands t is H =
    record { table = by (may_walk t.stay t.hold); no_table = λ f. ap (λ (b : Bool). (at_root b t.walk root).level) f; no_set = H.no_set }
  where
    by : (b : Bool) → 1 ≤ (at_root b t.walk root).level
        → stands (table_page (at_root b t.walk root)) ≡ Some (at (at_root b t.walk root).level (at_root b t.walk root).prefix)
    by true from = is
    by false from = absurd (omega (arith, from))

pub slots_held : (slots : ℕ) (stands : ℕ → Option Position) (t : Topics) (row : HostRow) → HeldPart stands t
    → HeldPart stands (record t { search = at_set (may_search t.stay t.hold) t.search slots; row = row })
slots_held slots stands t row H = record { table = H.table; no_table = H.no_table; no_set = λ f. ap (λ (b : Bool). (at_set b t.search slots).set) f }

-- a search goes on in the same slot set
pub searched_set : (f : SlotField) (s : SlotSearch) (v : ℕ) → (searched_at f s v).set ≡ s.set
searched_set field.Flags s v = refl
searched_set _ s v = refl

pub set_kept : (b : Bool) (s : SlotSearch) (v : ℕ) → (if b then searched s v else s).set ≡ s.set
set_kept true s v = searched_set s.next s v
set_kept false s v = refl

pub slot_held : (stands : ℕ → Option Position) (t : Topics) (b : Bool) (row : HostRow) (v : ℕ) → HeldPart stands t
    → HeldPart stands (record t { search = if b then searched t.search v else t.search; row = row })
slot_held stands t b row v H = record { table = H.table; no_table = H.no_table; no_set = λ f. set_kept b t.search v ∙ H.no_set f }

-- a snapshot lets the search go, or leaves it
pub snapshot_held : (stands : ℕ → Option Position) (t s : Topics) (b : Bool) → s.stay ≡ t.stay → s.hold ≡ t.hold → s.walk ≡ t.walk
    → s.search ≡ (if b then kept_search false t.search else t.search) → HeldPart stands t → HeldPart stands s
snapshot_held stands t s true stay hold walk search H = record {
  table = subst (λ (y : TableWalk). 1 ≤ y.level → stands (table_page y) ≡ Some (at y.level y.prefix)) (sym walk) H.table;
  no_table =
      λ f. ap (λ (y : TableWalk). y.level) walk ∙ H.no_table (sym (ap (λ (y : Stay). may_walk y s.hold) stay ∙ ap (λ (y : Hold). may_walk t.stay y) hold) ∙ f);
  no_set = λ f. ap (λ (y : SlotSearch). y.set) search;
}
snapshot_held stands t s false stay hold walk search H = record {
  table = subst (λ (y : TableWalk). 1 ≤ y.level → stands (table_page y) ≡ Some (at y.level y.prefix)) (sym walk) H.table;
  no_table =
      λ f. ap (λ (y : TableWalk). y.level) walk ∙ H.no_table (sym (ap (λ (y : Stay). may_walk y s.hold) stay ∙ ap (λ (y : Hold). may_walk t.stay y) hold) ∙ f);
  no_set = λ f. ap (λ (y : SlotSearch). y.set) search
      ∙ H.no_set (sym (ap (λ (y : Stay). may_search y s.hold) stay ∙ ap (λ (y : Hold). may_search t.stay y) hold) ∙ f);
}

-- a hand that keeps what it holds
pub same_held : (stands : ℕ → Option Position) (t s : Topics) → s.stay ≡ t.stay → s.hold ≡ t.hold → s.walk ≡ t.walk → s.search ≡ t.search → HeldPart stands t
    → HeldPart stands s
same_held stands t s stay hold walk search H = snapshot_held stands t s false stay hold walk search H

-- the tables stand where they stood
pub held_stays : (before after : ℕ → Option Position) (t : Topics) → StaysStanding before after → HeldPart before t → HeldPart after t
held_stays before after t stays H = record { table = λ from. stays _ _ (H.table from); no_table = H.no_table; no_set = H.no_set }

-- The page that a walk goes down to is its table there.
pub page_below : (level root third second first page : ℕ) → 2 ≤ level → level ≤ 4
    → (if level - 1 == 4 then root else if level - 1 == 3 then (if level == 4 then page else third) else if level - 1
    == 2 then (if level == 3 then page else second) else (if level == 2 then page else first)) ≡ page
page_below zero root third second first page from to = absurd (omega arith)
page_below (suc zero) root third second first page from to = absurd (omega arith)
page_below (suc (suc zero)) root third second first page from to = refl
page_below (suc (suc (suc zero))) root third second first page from to = refl
page_below (suc (suc (suc (suc zero)))) root third second first page from to = refl
page_below (suc (suc (suc (suc (suc level))))) root third second first page from to = absurd (omega arith)

-- An entry was loaded, or exchanged: the walk goes down where it is a link, and else stays.
pub gone_held : (stands : ℕ → Option Position) (t s : Topics) (j v : ℕ) (o : Option ℕ) → s.stay ≡ t.stay → s.hold ≡ t.hold → s.search ≡ t.search
    → s.walk ≡ gone_down o t.walk j v → t.walk.level ≤ 4 → LeadsDown stands (at t.walk.level t.walk.prefix) j o → HeldPart stands t → HeldPart stands s
gone_held stands t s j v None stay hold search walk to leads H = record {
  table = subst (λ (y : TableWalk). 1 ≤ y.level → stands (table_page y) ≡ Some (at y.level y.prefix)) (sym walk) H.table;
  no_table =
      λ f. ap (λ (y : TableWalk). y.level) walk ∙ H.no_table (sym (ap (λ (y : Stay). may_walk y s.hold) stay ∙ ap (λ (y : Hold). may_walk t.stay y) hold) ∙ f);
  no_set = λ f. ap (λ (y : SlotSearch). y.set) search
      ∙ H.no_set (sym (ap (λ (y : Stay). may_search y s.hold) stay ∙ ap (λ (y : Hold). may_search t.stay y) hold) ∙ f);
}
gone_held stands t s j v (Some page) stay hold search walk to leads H = record {
  table = subst (λ (y : TableWalk). 1 ≤ y.level → stands (table_page y) ≡ Some (at y.level y.prefix)) (sym walk)
      (λ from. ap stands (page_below t.walk.level t.walk.root t.walk.third t.walk.second t.walk.first page leads.0 to) ∙ leads.1);
  no_table = λ f. ap (λ (y : TableWalk). y.level) walk
      ∙ (let none = H.no_table (sym (ap (λ (y : Stay). may_walk y s.hold) stay ∙ ap (λ (y : Hold). may_walk t.stay y) hold) ∙ f) in omega (arith, none));
  no_set = λ f. ap (λ (y : SlotSearch). y.set) search
      ∙ H.no_set (sym (ap (λ (y : Stay). may_search y s.hold) stay ∙ ap (λ (y : Hold). may_search t.stay y) hold) ∙ f);
}
