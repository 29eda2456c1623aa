-- The words that a step of a part leaves: whole areas, and of the pool all pages but the actor's own.
use Rattle.std.proofs.Common.{◌≡◌, ◌≢◌, ◌<◌, ◌≤◌, ℕ, refl, sym, ap, ◌∙◌, arith, is_some, Option}
use Rattle.std.specs.Prelude.{Bool, true, false, ◌==◌, if◌then◌else◌, Some, Option, None, is_some}
use Rattle.core_views.specs.declared.sizes.Sizes.{Sizes}
use Rattle.core_views.specs.declared.topics.OwnedPage.{OwnedPage}
use Rattle.core_views.specs.declared.topics.TableWalk.{TableWalk}
use Rattle.core_views.specs.declared.topics.Topics.{Topics}
use Rattle.core_views.specs.Sizes.{actors_of}
use Rattle.spte_words.specs.declared.area.Area.{Area}
use Rattle.spte_words.specs.declared.area.Area.TheVariants as area
use Rattle.spte_words.specs.Areas.{number_of, pool_index}
use Rattle.spte_words.proofs.Indices.{same_pool_word}
use Rattle.part_steps.specs.declared.part_step.PartStep.{PartStep}
use Rattle.part_steps.specs.declared.part_step.PartStep.TheVariants as part
use Rattle.part_steps.specs.PartTasks.{entry_index, entry_task, leaf_written, link_written, own_index, page_owned, part_task, table_page}
use Rattle.part_steps.specs.PartTasks.{words_filled, page_retired, leaf_fixed}
use Rattle.mmu_core.specs.invariant.TopicsInvariant.{TopicsInvariant}
use Rattle.mmu_core.specs.machine.View.{View, part_stepped, put, upd, words_after}
use Rattle.mmu_core.proofs.machine.Columns.{upd_other}
use Rattle.mmu_core.proofs.pages.Owned.{owned_some, some_filled}
use Rattle.mmu_core.proofs.machine.PartStepping.{IsPart, is_publish}
use Rattle.mmu_core.proofs.pages.PoolPages.{owned_not_slots, table_not_owned, table_not_slots, retired_not_slots}

-- No step of a part stores in the area.
abbrev pub stays : Area → Bool
stays area.Lock = false
stays area.State = false
stays area.PoolMap = false
stays area.Role = false
stays area.Slots = false
stays area.Pool = false
stays area.Seq = false
stays area.Count = false
stays area.RangeStart = false
stays area.RangeEnd = false
stays area.Host = false
stays area.FrameMap = false
stays area.Content = false
stays area.Log = false
stays _ = true

-- The area is none of those that a step of a part stores in.
record IsApart (b : Area) : Type 0 where
  lock : (number_of b == number_of area.Lock) ≡ false
  state : (number_of b == number_of area.State) ≡ false
  map : (number_of b == number_of area.PoolMap) ≡ false
  role : (number_of b == number_of area.Role) ≡ false
  slots : (number_of b == number_of area.Slots) ≡ false
  pool : (number_of b == number_of area.Pool) ≡ false
  seq : (number_of b == number_of area.Seq) ≡ false
  count : (number_of b == number_of area.Count) ≡ false
  start : (number_of b == number_of area.RangeStart) ≡ false
  end_ : (number_of b == number_of area.RangeEnd) ≡ false
  host : (number_of b == number_of area.Host) ≡ false
  frames : (number_of b == number_of area.FrameMap) ≡ false
  content : (number_of b == number_of area.Content) ≡ false
  log : (number_of b == number_of area.Log) ≡ false

apart : (b : Area) → stays b ≡ true → IsApart b
apart area.Lock is = absurd (cc is)
apart area.State is = absurd (cc is)
apart area.PoolMap is = absurd (cc is)
apart area.Role is = absurd (cc is)
apart area.Slots is = absurd (cc is)
apart area.Pool is = absurd (cc is)
apart area.Seq is = absurd (cc is)
apart area.Count is = absurd (cc is)
apart area.RangeStart is = absurd (cc is)
apart area.RangeEnd is = absurd (cc is)
apart area.Host is = absurd (cc is)
apart area.FrameMap is = absurd (cc is)
apart area.Content is = absurd (cc is)
apart area.Log is = absurd (cc is)
apart _ is = record {
  lock = refl;
  state = refl;
  map = refl;
  role = refl;
  slots = refl;
  pool = refl;
  seq = refl;
  count = refl;
  start = refl;
  end_ = refl;
  host = refl;
  frames = refl;
  content = refl;
  log = refl;
}

put_elsewhere : (words : Area → ℕ → ℕ) (stored b : Area) (i x : ℕ) → (number_of b == number_of stored) ≡ false → put words stored i x b ≡ words b
put_elsewhere words stored b i x is = ap (λ (t : Bool). if t then upd (words b) i x else words b) is

words_stay : (step : PartStep) (own : ℕ) (t : Topics) (note : ℕ) (words : Area → ℕ → ℕ) (b : Area) → IsApart b
    → words_after (part_task step own t note) words b ≡ words b
words_stay part.Enter own t note words b A = put_elsewhere words area.State b own _ A.state
words_stay part.Leave own t note words b A = put_elsewhere words area.State b own _ A.state
words_stay part.Begin own t note words b A = put_elsewhere words area.State b own _ A.state
words_stay part.End own t note words b A = put_elsewhere words area.State b own _ A.state
words_stay part.Share own t note words b A = put_elsewhere words area.Lock b 0 _ A.lock
words_stay part.Unshare own t note words b A = put_elsewhere words area.Lock b 0 _ A.lock
words_stay part.Exclude own t note words b A = put_elsewhere words area.Lock b 0 _ A.lock
words_stay part.Release own t note words b A = put_elsewhere words area.Lock b 0 _ A.lock
words_stay part.Claim own t note words b A = put_elsewhere words area.PoolMap b t.claim.at _ A.map
words_stay part.Give own t note words b A = put_elsewhere words area.PoolMap b _ _ A.map
words_stay part.GiveOld own t note words b A = put_elsewhere words area.PoolMap b _ _ A.map
words_stay part.Publish own t note words b A = put_elsewhere words area.Slots b 0 _ A.slots
words_stay part.Clear own t note words b A = put_elsewhere words area.Role b _ _ A.role
words_stay (part.Link gfn) own t note words b A = put_elsewhere words area.Pool b _ _ A.pool
words_stay (part.Leaf gfn write) own t note words b A = put_elsewhere words area.Pool b _ _ A.pool
words_stay (part.Fix gfn) own t note words b A = put_elsewhere words area.Pool b _ _ A.pool
words_stay part.Mark own t note words b A = put_elsewhere words area.Log b _ _ A.log
words_stay (part.Fill value) own t note words b A = put_elsewhere words area.Pool b _ _ A.pool
words_stay (part.Role value) own t note words b A = put_elsewhere words area.Role b _ _ A.role
words_stay (part.SetStart first gfn) own t note words b A = put_elsewhere words area.RangeStart b 0 _ A.start
words_stay (part.SetEnd last gfn) own t note words b A = put_elsewhere words area.RangeEnd b 0 _ A.end_
words_stay (part.SetCount count) own t note words b A = put_elsewhere words area.Count b 0 _ A.count
words_stay (part.SetSeq seq) own t note words b A = put_elsewhere words area.Seq b 0 _ A.seq
words_stay (part.Zap gfn) own t note words b A = put_elsewhere words area.Pool b _ _ A.pool
words_stay (part.Ask index) own t note words b A = put_elsewhere words area.State b index _ A.state
words_stay part.Bring own t note words b A = put_elsewhere words area.Host b _ _ A.host
words_stay (part.Change new_) own t note words b A = put_elsewhere words area.Host b _ _ A.host
words_stay part.ChangeNext own t note words b A = put_elsewhere words area.Host b _ _ A.host
words_stay part.Frame own t note words b A = put_elsewhere words area.FrameMap b _ _ A.frames
words_stay part.GiveFrame own t note words b A = put_elsewhere words area.FrameMap b _ _ A.frames
words_stay (part.Store index) own t note words b A = put_elsewhere words area.Content b index _ A.content
words_stay (part.Take word mask) own t note words b A = put_elsewhere words area.Log b word _ A.log
words_stay (part.Protect gfn) own t note words b A = put_elsewhere words area.Pool b _ _ A.pool
words_stay (part.Arm word bits) own t note words b A = put_elsewhere words area.Log b word _ A.log
words_stay _ own t note words b A = refl

-- Whole areas stay: the root and the pause.
pub areas_stay : (v : View) (a : ℕ) (step : PartStep) (note : ℕ) (b : Area) → stays b ≡ true → (part_stepped a step note v).words b ≡ v.words b
areas_stay v a step note b is = words_stay step (own_index (v.hand a)) (v.hand a).topics note v.words b (apart b is)

-- the page of the published slot set after a step
abbrev pub slots_behind : PartStep → Topics → ℕ → ℕ
slots_behind part.Publish t slots = page_owned t.owned
slots_behind _ t slots = slots

slots_after : (step : PartStep) (own : ℕ) (t : Topics) (note : ℕ) (words : Area → ℕ → ℕ)
    → words_after (part_task step own t note) words area.Slots 0 ≡ slots_behind step t (words area.Slots 0)
slots_after part.Publish own t note words = refl
slots_after _ own t note words = refl

pub slots_same : (step : PartStep) (t : Topics) (slots : ℕ) → is_publish step ≡ false → slots_behind step t slots ≡ slots
slots_same part.Publish t slots never = absurd (cc never)
slots_same _ t slots never = refl

pub slots_are : (v : View) (a : ℕ) (step : PartStep) (note : ℕ)
    → (part_stepped a step note v).words area.Slots 0 ≡ slots_behind step (v.hand a).topics (v.words area.Slots 0)
slots_are v a step note = slots_after step (own_index (v.hand a)) (v.hand a).topics note v.words

-- ---- a page that the step doesn't store in

-- The step stores in no word of the page: in none of the page that the actor owns, where it fills that, and in none of the table that
-- its walk has come to, where it exchanges or zaps an entry, or forbids writes in it.
abbrev pub IsElsewhere : PartStep → Topics → ℕ → Type 0
IsElsewhere (part.Fill value) t k = (o : OwnedPage) → t.owned ≡ Some o → o.page ≢ k
IsElsewhere (part.Link gfn) t k = table_page t.walk ≢ k
IsElsewhere (part.Leaf gfn write) t k = table_page t.walk ≢ k
IsElsewhere (part.Fix gfn) t k = table_page t.walk ≢ k
IsElsewhere (part.Zap gfn) t k = table_page t.walk ≢ k
IsElsewhere (part.Protect gfn) t k = table_page t.walk ≢ k
IsElsewhere _ t k = Unit {0}

-- Nor in its role: it isn't the page whose role is stored, or taken.
abbrev pub HasOtherRole : PartStep → Topics → ℕ → Type 0
HasOtherRole (part.Role value) t k = (o : OwnedPage) → t.owned ≡ Some o → o.page ≢ k
HasOtherRole part.Clear t k = page_retired t.retired ≢ k
HasOtherRole _ t k = Unit {0}

-- the page that is owned is another one
owned_elsewhere : (t : Topics) → is_some t.owned ≡ true → (k : ℕ) → ((o : OwnedPage) → t.owned ≡ Some o → o.page ≢ k) → page_owned t.owned ≢ k
owned_elsewhere t some k each e = let o = owned_some t some in each o.0 o.1 (sym (ap page_owned o.1) ∙ e)

-- A fill leaves each other word of the pool.
pub fill_leaves : (page filled value : ℕ) (pool : ℕ → ℕ) (k j : ℕ) → filled < 512 → j < 512 → (page ≡ k → filled ≡ j → ⊥)
    → upd pool (pool_index page filled) value (pool_index k j) ≡ pool (pool_index k j)
fill_leaves page filled value pool k j low in_page differs =
    upd_other pool (pool_index page filled) (pool_index k j) value (λ e. let s = same_pool_word k page j filled in_page low e in differs (sym s.0) (sym s.1))

-- An exchange of an entry leaves each other page, and so does what zaps one, or forbids writes in it.
entry_apart : (gfn x : ℕ) (walk : TableWalk) (pool : ℕ → ℕ) (k j : ℕ) → j < 512 → table_page walk ≢ k
    → upd pool (pool_index (table_page walk) (entry_index gfn walk.level)) x (pool_index k j) ≡ pool (pool_index k j)
entry_apart gfn x walk pool k j low apart =
    upd_other pool (pool_index (table_page walk) (entry_index gfn walk.level)) (pool_index k j) x
    (λ e. let s = same_pool_word k (table_page walk) j (entry_index gfn walk.level) low (omega arith) e in apart (sym s.0))

pub entry_leaves : (gfn new_ note : ℕ) (walk : TableWalk) (words : Area → ℕ → ℕ) (k j : ℕ) → j < 512 → table_page walk ≢ k
    → words_after (entry_task gfn new_ walk note) words area.Pool (pool_index k j) ≡ words area.Pool (pool_index k j)
entry_leaves gfn new_ note walk words k j low apart = entry_apart gfn _ walk (words area.Pool) k j low apart

pub page_stays : (z : Sizes) (v : View) (a : ℕ) (step : PartStep) (note : ℕ) → IsPart z v a step → (k : ℕ) → IsElsewhere step (v.hand a).topics k
    → (j : ℕ) → j < 512 → (part_stepped a step note v).words area.Pool (pool_index k j) ≡ v.words area.Pool (pool_index k j)
page_stays z v a (part.Fill value) note S k differs j low =
    let t : Topics = (v.hand a).topics in
    fill_leaves (page_owned t.owned) (words_filled t.owned) value (v.words area.Pool) k j S.needs.0.1 low (λ e d. owned_elsewhere t S.needs.0.0 k differs e)
page_stays z v a (part.Link gfn) note S k differs j low = entry_leaves gfn (link_written (v.hand a).topics) note (v.hand a).topics.walk v.words k j low differs
page_stays z v a (part.Leaf gfn write) note S k differs j low =
    entry_leaves gfn (leaf_written gfn write (v.hand a).topics) note (v.hand a).topics.walk v.words k j low differs
page_stays z v a (part.Fix gfn) note S k differs j low = entry_leaves gfn (leaf_fixed (v.hand a).topics) note (v.hand a).topics.walk v.words k j low differs
page_stays z v a (part.Zap gfn) note S k differs j low = entry_apart gfn 0 (v.hand a).topics.walk (v.words area.Pool) k j low differs
page_stays z v a (part.Protect gfn) note S k differs j low = entry_apart gfn _ (v.hand a).topics.walk (v.words area.Pool) k j low differs
page_stays z v a _ note S k differs j low = refl

pub role_stays : (z : Sizes) (v : View) (a : ℕ) (step : PartStep) (note : ℕ) → IsPart z v a step → (k : ℕ) → HasOtherRole step (v.hand a).topics k
    → (part_stepped a step note v).words area.Role k ≡ v.words area.Role k
role_stays z v a (part.Role value) note S k differs =
    let t : Topics = (v.hand a).topics in
    upd_other (v.words area.Role) (page_owned t.owned) k value (λ e. owned_elsewhere t (some_filled t.owned 512 S.needs.0 (omega arith)) k differs (sym e))
role_stays z v a part.Clear note S k differs = upd_other (v.words area.Role) (page_retired (v.hand a).topics.retired) k 0 (λ e. differs (sym e))
role_stays z v a _ note S k differs = refl

-- The table that an entry is exchanged in is no page of the published slot set, and nobody owns it.
pub walks_elsewhere : (z : Sizes) (v : View) (a : ℕ) → a < actors_of z → TopicsInvariant z v → 1 ≤ (v.hand a).topics.walk.level
    → table_page (v.hand a).topics.walk ≢ v.words area.Slots 0
walks_elsewhere z v a lt I from =
    let at = (I.held a lt).table from in
    table_not_slots I.uses I.spot (table_page (v.hand a).topics.walk) _ at

pub walks_unowned : (z : Sizes) (v : View) (a : ℕ) → a < actors_of z → TopicsInvariant z v → 1 ≤ (v.hand a).topics.walk.level
    → (i : ℕ) (o : OwnedPage) → i < actors_of z → (v.hand i).topics.owned ≡ Some o → o.page ≢ table_page (v.hand a).topics.walk
walks_unowned z v a lt I from =
    table_not_owned I.uses I.spot (table_page (v.hand a).topics.walk) _ ((I.held a lt).table from)

-- the page that is retired is another one
pub retired_elsewhere : (t : Topics) → is_some t.retired ≡ true → (k : ℕ) → ((l : ℕ) → t.retired ≡ Some l → l ≢ k) → page_retired t.retired ≢ k
retired_elsewhere t some k each = by t.retired refl some
  where
    by : (x : Option ℕ) → t.retired ≡ x → is_some x ≡ true → page_retired t.retired ≢ k
    by None is some e = absurd (cc some)
    by (Some l) is some e = each l is (sym (ap page_retired is) ∙ e)

-- A step leaves the page of the published slot set.
pub slots_elsewhere : (z : Sizes) (v : View) (a : ℕ) (step : PartStep) → IsPart z v a step → TopicsInvariant z v
    → IsElsewhere step (v.hand a).topics (v.words area.Slots 0)
slots_elsewhere z v a (part.Fill value) S I = λ o is. owned_not_slots I.uses a o S.there is
slots_elsewhere z v a (part.Link gfn) S I = walks_elsewhere z v a S.there I S.needs.0.saw.over.there
slots_elsewhere z v a (part.Leaf gfn write) S I = walks_elsewhere z v a S.there I S.needs.0.saw.over.there
slots_elsewhere z v a (part.Fix gfn) S I = walks_elsewhere z v a S.there I S.needs.saw.over.there
slots_elsewhere z v a (part.Zap gfn) S I = walks_elsewhere z v a S.there I S.needs.saw.over.there
slots_elsewhere z v a (part.Protect gfn) S I = walks_elsewhere z v a S.there I S.needs.saw.over.there
slots_elsewhere z v a _ S I = tt

-- And its role.
pub slots_other_role : (z : Sizes) (v : View) (a : ℕ) (step : PartStep) → IsPart z v a step → TopicsInvariant z v
    → HasOtherRole step (v.hand a).topics (v.words area.Slots 0)
slots_other_role z v a (part.Role value) S I = λ o is. owned_not_slots I.uses a o S.there is
slots_other_role z v a part.Clear S I = retired_elsewhere (v.hand a).topics S.needs.leaves (v.words area.Slots 0)
    (λ k is. retired_not_slots I.uses a k S.there is)
slots_other_role z v a _ S I = tt

pub fill_elsewhere : (z : Sizes) (v : View) (a : ℕ) (step : PartStep) (note : ℕ) → IsPart z v a step → TopicsInvariant z v → (j : ℕ) → j < 512
    → (part_stepped a step note v).words area.Pool (pool_index (v.words area.Slots 0) j) ≡ v.words area.Pool (pool_index (v.words area.Slots 0) j)
fill_elsewhere z v a step note S I = page_stays z v a step note S (v.words area.Slots 0) (slots_elsewhere z v a step S I)
