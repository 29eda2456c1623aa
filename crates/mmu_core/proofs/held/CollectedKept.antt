-- Each step of a part keeps that a search for a run of several pages has collected the guest frames of the slots that it has passed, which lie below 2 ^ 36.
use Rattle.std.proofs.Common.{◌≡◌, ◌-◌, ◌<◌, ◌≤◌, ℕ, refl, sym, subst, ap, ◌∙◌, arith}
use Rattle.std.specs.Prelude.{Bool, true, false, if◌then◌else◌, nat_lt, Option, Some, None, is_some}
use Rattle.core_views.specs.declared.sizes.Sizes.{Sizes}
use Rattle.core_views.specs.declared.topics.Hold.{Hold}
use Rattle.core_views.specs.declared.topics.HostLook.{HostLook}
use Rattle.core_views.specs.declared.topics.HostRow.{HostRow}
use Rattle.core_views.specs.declared.topics.PageRun.{PageRun}
use Rattle.core_views.specs.declared.topics.SlotSearch.{SlotSearch}
use Rattle.core_views.specs.declared.topics.Topics.{Topics}
use Rattle.core_views.specs.declared.trace.Slot.{Slot as SlotOf}
use Rattle.core_views.specs.Held.{Held}
use Rattle.core_views.specs.Sizes.{actors_of}
use Rattle.spte_words.specs.declared.area.Area.TheVariants as area
use Rattle.part_steps.specs.declared.part_step.PartStep.{PartStep}
use Rattle.part_steps.specs.declared.part_step.PartStep.TheVariants as part
use Rattle.part_steps.specs.InvalidationRange.{run_aimed, run_of_look, run_searched}
use Rattle.part_steps.specs.PageRuns.{covering, level_looked, run_of}
use Rattle.part_steps.specs.PageTopics.{searched}
use Rattle.part_steps.specs.PartTasks.{set_held}
use Rattle.part_steps.specs.SlotWords.{slot_index}
use Rattle.part_steps.specs.StayTopics.{is_alone}
use Rattle.mmu_core.specs.invariant.InvalidatedPart.{CollectedPart, GivesOne, HasCollected}
use Rattle.mmu_core.specs.invariant.SearchPart.{SearchPart}
use Rattle.mmu_core.specs.invariant.SlotSetPart.{AreSlots, IsLiveIn}
use Rattle.mmu_core.specs.invariant.TopicsInvariant.{TopicsInvariant}
use Rattle.mmu_core.specs.machine.View.{View, part_stepped}
use Rattle.mmu_core.proofs.held.AimedStays.{aimed_stays, searches_slots}
use Rattle.mmu_core.proofs.held.HeldTopics.{searched_set}
use Rattle.mmu_core.proofs.held.Invalidating.{topics_now}
use Rattle.mmu_core.proofs.held.OldSets.{held_are_slots, held_words_stay}
use Rattle.mmu_core.proofs.held.PassedKept.{slot_aim}
use Rattle.mmu_core.proofs.held.RowRuns.{aimed_look, level_bounds, level_told}
use Rattle.mmu_core.proofs.machine.Columns.{at_upd}
use Rattle.mmu_core.proofs.machine.PartStepping.{IsPart}
use Rattle.mmu_core.proofs.slots.LiveStays.{LiveStays, live_in_stays, words_live}
use Rattle.mmu_core.proofs.slots.SlotsStay.{is_live_was}
use Rattle.mmu_core.proofs.words.PartTopics.{behind_step}
use Rattle.mmu_core.proofs.held.CollectedNext.{loaded_next}

abbrev CollectedIn : Sizes → (ℕ → ℕ) → View → Type 0
CollectedIn z pool v = (i : ℕ) → i < actors_of z → CollectedPart pool (v.hand i).topics

-- What may be changed is no larger than the largest run.
pub aimed_level : (t : Topics) (run : PageRun) → run_aimed t ≡ Some run → run.level ≤ 3
aimed_level t run is =
    let F = aimed_look (is_some t.owned) t.host t.row run is in
    by F.0 (nat_lt 1 (level_looked F.0 t.row)) F.2
  where
    by : (look : HostLook) (b : Bool)
        → run ≡ (if b then record { first = look.page; level = level_looked look t.row; word = look.word; changed = 0 } else run_of look.page) → run.level ≤ 3
    by look true e =
        let same : run.level ≡ level_looked look t.row = ap (λ (r : PageRun). r.level) e in
        let most = (level_bounds look t.row (level_told look t.row)).1 in
        omega (arith, same, most)
    by look false e = let same : run.level ≡ 1 = ap (λ (r : PageRun). r.level) e in omega (arith, same)

slot_collected : (z : Sizes) (pool : ℕ → ℕ) (t : Topics) → is_some t.search.set ≡ true → t.search.id ≤ 31 → SearchPart pool t.search
    → ((set : ℕ) → t.search.set ≡ Some set → AreSlots z pool set) → CollectedPart pool t
    → CollectedPart pool (record t {
      search = if is_some t.search.set then searched t.search (pool (slot_index (set_held t.search.set) t.search.id t.search.next)) else t.search;
      row =
          if is_some t.search.set
          then covering (run_searched t) (searched t.search (pool (slot_index (set_held t.search.set) t.search.id t.search.next))) t.row
          else t.row;
    })
slot_collected z pool t some low P A C alone out run aimed several set held = by (is_some t.search.set) some aimed held
  where
    by : (b : Bool) → b ≡ true
        → (if is_some t.owned then None else run_of_look t.host (if b then covering (run_searched t)
        (searched t.search (pool (slot_index (set_held t.search.set) t.search.id t.search.next))) t.row else t.row)) ≡ Some run
        → (if b then searched t.search (pool (slot_index (set_held t.search.set) t.search.id t.search.next)) else t.search).set ≡ Some set
        → HasCollected pool set
        (if b then searched t.search (pool (slot_index (set_held t.search.set) t.search.id t.search.next)) else t.search).id run
        (if b then covering (run_searched t) (searched t.search (pool (slot_index (set_held t.search.set) t.search.id t.search.next))) t.row else t.row)
    by false is aim e = absurd (cc is)
    by true is aim e =
        let own : t.search.set ≡ Some set = sym (searched_set t.search.next t.search _) ∙ e in
        let was : run_aimed t ≡ Some run =
        sym (ap (λ (r : Option PageRun). if is_some t.owned then None else r)
        (slot_aim true (run_searched t) (searched t.search (pool (slot_index (set_held t.search.set) t.search.id t.search.next))) t.row t.host)) ∙ aim in
        let at : run_searched t ≡ Some run = ap (λ (k : Hold). if is_alone k then run_aimed t else None) alone ∙ was in
        subst (λ (r : Option PageRun). HasCollected pool set (searched t.search (pool (slot_index (set_held t.search.set) t.search.id t.search.next))).id run
        (covering r (searched t.search (pool (slot_index (set_held t.search.set) t.search.id t.search.next))) t.row)) (sym at)
        (subst (λ n. HasCollected pool set (searched t.search (pool (slot_index n t.search.id t.search.next))).id run
        (covering (Some run) (searched t.search (pool (slot_index n t.search.id t.search.next))) t.row)) (sym (ap set_held own))
        (loaded_next z pool set run several (aimed_level t run was) t.row t.search.next t.search refl own low P (A set own)
        (C alone out run was several set own)))

-- Where nothing was loaded of the slots.
collected_before : (z : Sizes) (v : View) (a note : ℕ) (step : PartStep) → searches_slots step ≡ false → IsPart z v a step → TopicsInvariant z v
    → CollectedPart (v.words area.Pool) (topics_now v a note step)
collected_before z v a note step other S I alone out run aimed several set held =
    let W = aimed_stays z v a note step other S I alone out run aimed set held in
    let was = I.collected a S.there W.alone W.out run W.aimed several set (sym (ap (λ (s : SlotSearch). s.set) W.search) ∙ held) in
    subst (λ (s : SlotSearch). HasCollected (v.words area.Pool) set s.id run (topics_now v a note step).row) (sym W.search)
    (subst (λ (r : HostRow). HasCollected (v.words area.Pool) set (v.hand a).topics.search.id run r) (sym W.row) was)

own_collected : (z : Sizes) (v : View) (a note : ℕ) (step : PartStep) → IsPart z v a step → TopicsInvariant z v
    → CollectedPart (v.words area.Pool) (topics_now v a note step)
own_collected z v a note part.Slots S I = λ alone out run aimed several set held. record {
  covers = λ i page slot L lt. absurd (omega (arith, lt));
  first = λ some. absurd (omega (arith, some));
  last = λ some. absurd (omega (arith, some));
}
own_collected z v a note part.Slot S I =
    slot_collected z (v.words area.Pool) (v.hand a).topics S.needs.0 S.needs.1 (I.searches a S.there)
    (λ set held. held_are_slots z v a set S.there I S.slots held) (I.collected a S.there)
own_collected z v a note step S I = collected_before z v a note step refl S I

-- What is so of the words of a slot set that is held is so of them after the step.
given_on : (pool after : ℕ → ℕ) (set gfn : ℕ) (run : Option PageRun) → LiveStays set pool after → GivesOne pool set run gfn → GivesOne after set run gfn
given_on pool after set gfn run stays G = (
  G.0,
  G.1,
  record {
    id = G.2.id;
    slot = G.2.slot;
    live = live_in_stays set pool after G.2.id G.2.slot stays G.2.live;
    has = G.2.has;
    is = G.2.is;
  },
)

collected_on : (pool after : ℕ → ℕ) (set id : ℕ) (run : PageRun) (row : HostRow) → LiveStays set pool after
    → ((i : ℕ) (slot : SlotOf) → IsLiveIn after set i slot → IsLiveIn pool set i slot) → HasCollected pool set id run row → HasCollected after set id run row
collected_on pool after set id run row stays back C = record {
  covers = λ i page slot L lt on has. C.covers i page slot (back i slot L) lt on has;
  first = λ some. given_on pool after set row.start (Some run) stays (C.first some);
  last = λ some. given_on pool after set (row.end - 1) (Some run) stays (C.last some);
}

pub collected_kept : (z : Sizes) (v : View) (a : ℕ) (step : PartStep) (note : ℕ) → IsPart z v a step → TopicsInvariant z v
    → (i : ℕ) → i < actors_of z → CollectedPart ((part_stepped a step note v).words area.Pool) ((part_stepped a step note v).hand i).topics
collected_kept z v a step note S I i lt alone out run aimed several set held =
    let in_old : CollectedIn z (v.words area.Pool) (part_stepped a step note v) =
    behind_step (CollectedIn z (v.words area.Pool)) z v a step note S
    (at_upd (λ j (k : Held). j < actors_of z → CollectedPart (v.words area.Pool) k.topics) v.hand a _ (λ there. own_collected z v a note step S I)
    (λ j ne. I.collected j)) in
    let stays = held_words_stay z v a step note S I i set lt held in
    collected_on (v.words area.Pool) ((part_stepped a step note v).words area.Pool) set _ run _
    (words_live set (v.words area.Pool) ((part_stepped a step note v).words area.Pool) stays)
    (is_live_was set (v.words area.Pool) ((part_stepped a step note v).words area.Pool) stays)
    (in_old i lt alone out run aimed several set held)
