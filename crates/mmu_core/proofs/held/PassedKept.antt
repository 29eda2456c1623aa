-- Each step of a part keeps that a search under the lock alone has passed no slot with the host page that the actor may change but the one that it has found.
use Rattle.std.proofs.Common.{◌≡◌, ◌⊎◌, inl, inr, ◌+◌, ◌-◌, ◌<◌, ◌≤◌, ℕ, refl, sym, subst, ap, ◌∙◌, arith}
use Rattle.std.specs.Prelude.{Bool, true, false, ◌&&◌, if◌then◌else◌, Option, Some, None, is_some}
use Rattle.core_views.specs.declared.place.SlotField.{SlotField}
use Rattle.core_views.specs.declared.place.SlotField.TheVariants as field
use Rattle.core_views.specs.declared.sizes.Sizes.{Sizes}
use Rattle.core_views.specs.declared.topics.Hold.{Hold}
use Rattle.core_views.specs.declared.topics.HostLook.{HostLook}
use Rattle.core_views.specs.declared.topics.SlotSearch.{SlotSearch}
use Rattle.core_views.specs.declared.topics.Topics.{Topics}
use Rattle.core_views.specs.declared.trace.Slot.{Slot as SlotOf}
use Rattle.core_views.specs.Held.{Held}
use Rattle.core_views.specs.Sizes.{actors_of}
use Rattle.core_views.specs.Slots.{has_host_page}
use Rattle.spte_words.specs.declared.area.Area.TheVariants as area
use Rattle.spte_words.specs.Flags.{flags_live}
use Rattle.part_steps.specs.declared.part_step.PartStep.{PartStep}
use Rattle.part_steps.specs.declared.part_step.PartStep.TheVariants as part
use Rattle.part_steps.specs.InvalidationRange.{has_found, has_found_looked, page_looked, run_aimed, run_of_look, run_searched}
use Rattle.part_steps.specs.PageRuns.{covering, is_single, run_looked}
use Rattle.part_steps.specs.PageTopics.{searched, searched_at}
use Rattle.mmu_core.proofs.held.AimedStays.{aimed_stays, searches_slots}
use Rattle.mmu_core.proofs.held.Invalidating.{topics_now}
use Rattle.core_views.specs.declared.topics.HostRow.{HostRow}
use Rattle.core_views.specs.declared.topics.PageRun.{PageRun}
use Rattle.part_steps.specs.PartTasks.{set_held, part_task}
use Rattle.part_steps.specs.SlotWords.{slot_at, slot_index}
use Rattle.part_steps.specs.StayTopics.{is_alone}
use Rattle.mmu_core.specs.invariant.InvalidatedPart.{PassedPart}
use Rattle.mmu_core.specs.invariant.SearchPart.{SearchPart}
use Rattle.mmu_core.specs.invariant.SlotSetPart.{IsLiveIn}
use Rattle.mmu_core.specs.invariant.TopicsInvariant.{TopicsInvariant}
use Rattle.mmu_core.specs.machine.View.{View, part_stepped, answer_in}
use Rattle.std.proofs.lemmas.Bool.{cases_lt}
use Rattle.mmu_core.proofs.held.HeldTopics.{searched_set}
use Rattle.mmu_core.proofs.held.OldSets.{held_words_stay}
use Rattle.mmu_core.proofs.held.SearchKept.{searched_part}
use Rattle.mmu_core.proofs.machine.Columns.{at_upd}
use Rattle.mmu_core.proofs.machine.PartStepping.{IsPart}
use Rattle.mmu_core.proofs.slots.SlotsStay.{is_live_was}
use Rattle.mmu_core.proofs.words.PartTopics.{behind_step}

-- It is so at each slot below this ID, where it is searched like this.
abbrev PassedBelow : (ℕ → ℕ) → ℕ → ℕ → SlotSearch → Type 0
PassedBelow pool set page s =
    (id : ℕ) (slot : SlotOf) → IsLiveIn pool set id slot → id < s.id → has_host_page page slot ≡ true → (s.whole ≡ true) × (slot ≡ s.slot)

-- The word that is next was loaded, where the slot wasn't found yet.
searched_passed : (f : SlotField) (pool : ℕ → ℕ) (set page : ℕ) (s : SlotSearch) → s.next ≡ f → s.set ≡ Some set → s.id ≤ 31 → SearchPart pool s
    → has_found page s ≡ false → PassedBelow pool set page s → PassedBelow pool set page (searched s (pool (slot_index set s.id f)))
searched_passed f pool set page s at own low P unfound passed = by f at
  where
    -- Those before it have another page.
    before : (id : ℕ) (slot : SlotOf) → IsLiveIn pool set id slot → id < s.id → has_host_page page slot ≡ true → ⊥
    before id slot L lt has =
        let B = passed id slot L lt has in
        let found : has_found page s ≡ true = ap (λ (b : Bool). b && has_host_page page s.slot) B.0 ∙ (ap (has_host_page page) (sym B.1) ∙ has) in
        cc (found, unfound)

    -- The next one is this one, or one before it.
    one_more : (id : ℕ) → id < s.id + 1 → (id < s.id) ⊎ (id ≡ s.id)
    one_more id lt = by_order id s.id (cases_lt id s.id) lt
      where
        by_order : (x n : ℕ) → (x < n) ⊎ (n ≤ x) → x < n + 1 → (x < n) ⊎ (x ≡ n)
        by_order x n (inl less) most = inl less
        by_order x n (inr more) most = inr (omega (arith, more, most))

    by : (g : SlotField) → s.next ≡ g → PassedBelow pool set page (searched s (pool (slot_index set s.id f)))
    by field.Base is =
        subst (λ (h : SlotField). PassedBelow pool set page (searched_at h s (pool (slot_index set s.id f)))) (sym is)
        (λ id slot L lt has. absurd (before id slot L lt has))
    by field.Pages is =
        subst (λ (h : SlotField). PassedBelow pool set page (searched_at h s (pool (slot_index set s.id f)))) (sym is)
        (λ id slot L lt has. absurd (before id slot L lt has))
    by field.Flags is =
        subst (λ (h : SlotField). PassedBelow pool set page (searched_at h s (pool (slot_index set s.id f)))) (sym is)
        (λ id slot L lt has. absurd (flagged (flags_live (pool (slot_index set s.id f))) refl id slot L lt has))
      where
        flagged : (live : Bool) → flags_live (pool (slot_index set s.id f)) ≡ live → (id : ℕ) (slot : SlotOf) → IsLiveIn pool set id slot
            → id < (if live then s.id else s.id + 1) → has_host_page page slot ≡ true → ⊥
        flagged true e id slot L lt has = before id slot L lt has
        flagged false e id slot L lt has = each (one_more id lt)
          where
            each : (id < s.id) ⊎ (id ≡ s.id) → ⊥
            each (inl less) = before id slot L less has
            each (inr same) =
                let live : flags_live (pool (slot_index set s.id field.Flags)) ≡ true =
                ap (λ n. flags_live (pool (slot_index set n field.Flags))) (sym same) ∙ L.live in
                let dead : flags_live (pool (slot_index set s.id field.Flags)) ≡ false =
                ap (λ (g : SlotField). flags_live (pool (slot_index set s.id g))) (sym (sym at ∙ is)) ∙ e in
                cc (live, dead)
    by field.Host is =
        subst (λ (h : SlotField). PassedBelow pool set page (searched_at h s (pool (slot_index set s.id f)))) (sym is)
        (subst (λ (g : SlotField). PassedBelow pool set page (searched_at field.Host s (pool (slot_index set s.id g)))) (sym (sym at ∙ is)) found)
      where
        found : PassedBelow pool set page (searched_at field.Host s (pool (slot_index set s.id field.Host)))
        found id slot L lt has = each (one_more id lt)
          where
            W : IsLiveIn pool set (s.id + 1 - 1) (searched_at field.Host s (pool (slot_index set s.id field.Host))).slot
            W = ((searched_part field.Host pool set s is own low P).whole set own refl).1

            each : (id < s.id) ⊎ (id ≡ s.id) → (true ≡ true) × (slot ≡ (searched_at field.Host s (pool (slot_index set s.id field.Host))).slot)
            each (inl less) = absurd (before id slot L less has)
            each (inr same) = (refl, sym L.is ∙ (ap (slot_at pool set) (omega (arith, same)) ∙ W.is))

-- ---- after each step

abbrev PassedIn : Sizes → (ℕ → ℕ) → View → Type 0
PassedIn z pool v = (i : ℕ) → i < actors_of z → PassedPart pool (v.hand i).topics

-- What was loaded of a slot leaves what the actor aims at.
pub covering_aim : (run : Option PageRun) (s : SlotSearch) (row : HostRow) (look : HostLook) → run_looked look (covering run s row) ≡ run_looked look row
covering_aim None s row look = refl
covering_aim (Some run) s row look = refl

pub slot_aim : (b : Bool) (run : Option PageRun) (s : SlotSearch) (row : HostRow) (host : Option HostLook)
    → run_of_look host (if b then covering run s row else row) ≡ run_of_look host row
slot_aim false run s row host = refl
slot_aim true run s row None = refl
slot_aim true run s row (Some look) = ap Some (covering_aim run s row look)

slot_passed : (pool : ℕ → ℕ) (t : Topics) (row : HostRow) → run_of_look t.host row ≡ run_of_look t.host t.row → is_some t.search.set ≡ true
    → t.search.id ≤ 31 → (is_alone t.hold && has_found_looked t) ≡ false → SearchPart pool t.search → PassedPart pool t
    → PassedPart pool (record t {
      search = if is_some t.search.set then searched t.search (pool (slot_index (set_held t.search.set) t.search.id t.search.next)) else t.search;
      row = row;
    })
slot_passed pool t row same some low unfound P passed alone out single set held = by (is_some t.search.set) some held
  where
    aimed : is_single (run_aimed t) ≡ true
    aimed = ap (λ (r : Option PageRun). is_single (if is_some t.owned then None else r)) (sym same) ∙ single

    -- where a set is held, it is this one
    by : (b : Bool) → b ≡ true
        → (if b then searched t.search (pool (slot_index (set_held t.search.set) t.search.id t.search.next)) else t.search).set ≡ Some set
        → PassedBelow pool set (page_looked t.host)
        (if b then searched t.search (pool (slot_index (set_held t.search.set) t.search.id t.search.next)) else t.search)
    by false is e = absurd (cc is)
    by true is e =
        let own : t.search.set ≡ Some set = sym (searched_set t.search.next t.search _) ∙ e in
        let none : has_found (page_looked t.host) t.search ≡ false =
        ap (λ (b : Bool). b && has_found (page_looked t.host) t.search) (sym aimed) ∙ ap (λ (k : Hold). is_alone k && has_found_looked t) (sym alone)
        ∙ unfound in
        subst (λ n. PassedBelow pool set (page_looked t.host) (searched t.search (pool (slot_index n t.search.id t.search.next)))) (sym (ap set_held own))
        (searched_passed t.search.next pool set (page_looked t.host) t.search refl own low P none (passed alone out aimed set own))

some_single : (run : Option PageRun) → is_single run ≡ true → (r : PageRun) × (run ≡ Some r)
some_single None single = absurd (cc single)
some_single (Some r) single = (r, refl)

-- Where nothing was loaded of the slots.
passed_before : (z : Sizes) (v : View) (a note : ℕ) (step : PartStep) → searches_slots step ≡ false → IsPart z v a step → TopicsInvariant z v
    → PassedPart (v.words area.Pool) (topics_now v a note step)
passed_before z v a note step other S I alone out single set held =
    let R = some_single (run_aimed (topics_now v a note step)) single in
    let W = aimed_stays z v a note step other S I alone out R.0 R.1 set held in
    let was = I.passed a S.there W.alone W.out (ap is_single W.aimed ∙ (ap is_single (sym R.1) ∙ single)) set
    (sym (ap (λ (s : SlotSearch). s.set) W.search) ∙ held) in
    subst (λ (s : SlotSearch). PassedBelow (v.words area.Pool) set (page_looked (topics_now v a note step).host) s) (sym W.search)
    (subst (λ p. PassedBelow (v.words area.Pool) set p (v.hand a).topics.search) (sym W.looked) was)

own_passed : (z : Sizes) (v : View) (a note : ℕ) (step : PartStep) → IsPart z v a step → TopicsInvariant z v
    → PassedPart (v.words area.Pool) (topics_now v a note step)
own_passed z v a note part.Slots S I = λ alone out single set held id slot L lt. absurd (omega (arith, lt))
own_passed z v a note part.Slot S I =
    slot_passed (v.words area.Pool) (v.hand a).topics (topics_now v a note part.Slot).row
    (slot_aim (is_some (v.hand a).topics.search.set) (run_searched (v.hand a).topics)
    (searched (v.hand a).topics.search (answer_in (part_task part.Slot a (v.hand a).topics note) v.words))
    (v.hand a).topics.row (v.hand a).topics.host)
    S.needs.0 S.needs.1 S.needs.2 (I.searches a S.there) (I.passed a S.there)
own_passed z v a note step S I = passed_before z v a note step refl S I

pub passed_kept : (z : Sizes) (v : View) (a : ℕ) (step : PartStep) (note : ℕ) → IsPart z v a step → TopicsInvariant z v
    → (i : ℕ) → i < actors_of z → PassedPart ((part_stepped a step note v).words area.Pool) ((part_stepped a step note v).hand i).topics
passed_kept z v a step note S I i lt alone out looked set held id slot L =
    let in_old : PassedIn z (v.words area.Pool) (part_stepped a step note v) =
    behind_step (PassedIn z (v.words area.Pool)) z v a step note S
    (at_upd (λ j (k : Held). j < actors_of z → PassedPart (v.words area.Pool) k.topics) v.hand a _ (λ there. own_passed z v a note step S I)
    (λ j ne. I.passed j)) in
    in_old i lt alone out looked set held id slot
    (is_live_was set (v.words area.Pool) ((part_stepped a step note v).words area.Pool) (held_words_stay z v a step note S I i set lt held) id slot L)
