-- Each step of a part keeps what is said of what actors have loaded of slot sets, of the host and of the invalidations.
use Rattle.std.proofs.Common.{◌≡◌, ◌+◌, ◌-◌, ◌<◌, ◌≤◌, ℕ, refl, sym, subst, ap, ◌∙◌, arith}
use Rattle.std.specs.Prelude.{Bool, true, false, if◌then◌else◌, Option, Some, None, is_some}
use Rattle.core_views.specs.declared.place.SlotField.{SlotField}
use Rattle.core_views.specs.declared.place.SlotField.TheVariants as field
use Rattle.core_views.specs.declared.sizes.Sizes.{Sizes}
use Rattle.core_views.specs.declared.topics.SlotSearch.{SlotSearch}
use Rattle.core_views.specs.declared.trace.Slot.{Slot as SlotOf}
use Rattle.core_views.specs.Held.{Held}
use Rattle.core_views.specs.Sizes.{actors_of}
use Rattle.spte_words.specs.declared.area.Area.TheVariants as area
use Rattle.spte_words.specs.Flags.{flags_live, flags_logged, flags_read_only}
use Rattle.part_steps.specs.declared.part_step.PartStep.{PartStep}
use Rattle.part_steps.specs.declared.part_step.PartStep.TheVariants as part
use Rattle.part_steps.specs.PartTasks.{set_held}
use Rattle.mmu_core.specs.invariant.SearchPart.{HasFlags, HasLoaded, IsOnList, SearchPart}
use Rattle.part_steps.specs.SlotWords.{slot_at, slot_index}
use Rattle.mmu_core.specs.invariant.TopicsInvariant.{TopicsInvariant}
use Rattle.part_steps.specs.StayTopics.{is_loose, is_section, kept_search, may_search}
use Rattle.part_steps.specs.PageTopics.{searched, searched_at}
use Rattle.part_steps.specs.ControlTopics.{at_set}
use Rattle.mmu_core.specs.invariant.SlotSetPart.{IsLiveIn}
use Rattle.mmu_core.specs.machine.View.{View, part_stepped, upd}
use Rattle.mmu_core.proofs.words.SlotFields.{same_slot}
use Rattle.mmu_core.proofs.machine.Columns.{at_upd}
use Rattle.mmu_core.proofs.slots.LiveStays.{LiveStays, live_in_stays, slot_stays, still_live, words_live}
use Rattle.mmu_core.proofs.machine.PartStepping.{IsPart}
use Rattle.mmu_core.proofs.words.PartTopics.{behind_step, part_behind}
use Rattle.mmu_core.proofs.held.OldSets.{held_words_stay}

-- what is said of each hand's search and look-up, of a view
abbrev pub SearchesAt : Sizes → View → Type 0
SearchesAt z v = (i : ℕ) → i < actors_of z → SearchPart (v.words area.Pool) (v.hand i).topics.search

-- ---- What was loaded of a slot stays what its words hold, where the words of live slots stay.

module _ (set : ℕ) (before after : ℕ → ℕ) (stays : LiveStays set before after) where
  flags_stay : (s : SlotSearch) → s.id ≤ 31 → HasFlags before set s → HasFlags after set s
  flags_stay s low e = (
    still_live set before after s.id stays low e.0,
    e.1 ∙ ap (λ (x : SlotOf). x.read_only) (sym (slot_stays set before after s.id stays low e.0)),
    e.2 ∙ ap flags_logged (sym (stays.each s.id field.Flags low e.0)),
  )

  loaded_stays : (f : SlotField) (s : SlotSearch) → IsOnList f s.id → HasLoaded f before set s → HasLoaded f after set s
  loaded_stays field.Flags s low e = tt
  loaded_stays field.Base s low e = flags_stay s low e
  loaded_stays field.Pages s low e = (flags_stay s low e.0, e.1 ∙ ap (λ (x : SlotOf). x.base) (sym (slot_stays set before after s.id stays low e.0.0)))
  loaded_stays field.Host s low e = (
    flags_stay s low e.0,
    e.1 ∙ ap (λ (x : SlotOf). x.base) (sym (slot_stays set before after s.id stays low e.0.0)),
    e.2 ∙ ap (λ (x : SlotOf). x.pages) (sym (slot_stays set before after s.id stays low e.0.0)),
  )

-- What was loaded of the slot set that is held stays, where its live slots do.
pub search_stays : (before after : ℕ → ℕ) (s : SlotSearch) → ((k : ℕ) → s.set ≡ Some k → LiveStays k before after) → SearchPart before s → SearchPart after s
search_stays before after s stays P = record {
  listed = P.listed;
  loaded = λ k is. loaded_stays k before after (stays k is) s.next s P.listed (P.loaded k is);
  whole = λ k is whole. let W = P.whole k is whole in (W.0, live_in_stays k before after (s.id - 1) s.slot (stays k is) W.1);
  held = P.held;
  before_flags = P.before_flags;
  flags =
      λ k is whole. let W = P.whole k is whole in
      P.flags k is whole ∙ ap flags_logged (sym ((stays k is).each (s.id - 1) field.Flags W.1.low W.1.live));
}

-- ---- The search after each step.

-- A search without a slot set has loaded nothing of one.
pub let_go_search : (pool : ℕ → ℕ) (keeps : Bool) (s : SlotSearch) → SearchPart pool s → SearchPart pool (kept_search keeps s)
let_go_search pool true s P = P
let_go_search pool false s P = record {
  listed = P.listed;
  loaded = λ k is. absurd (cc is);
  whole = λ k is. absurd (cc is);
  held = λ whole. absurd (cc whole);
  before_flags = λ whole. absurd (cc whole);
  flags = λ k e whole. absurd (cc whole);
}

-- A search that begins has loaded nothing yet.
pub at_set_search : (pool : ℕ → ℕ) (holds : Bool) (s : SlotSearch) (v : ℕ) → SearchPart pool (at_set holds s v)
at_set_search pool holds s v = record {
  listed = tt;
  loaded = λ k is. tt;
  whole = λ k is whole. absurd (cc whole);
  held = λ whole. absurd (cc whole);
  before_flags = λ whole. absurd (cc whole);
  flags = λ k e whole. absurd (cc whole);
}

-- The search after a load of its next word.
pub searched_part : (f : SlotField) (pool : ℕ → ℕ) (set : ℕ) (s : SlotSearch) → s.next ≡ f → s.set ≡ Some set → s.id ≤ 31 → SearchPart pool s
    → SearchPart pool (searched_at f s (pool (slot_index set s.id f)))
searched_part field.Flags pool set s at own low P = by (flags_live (pool (slot_index set s.id field.Flags))) refl
  where
    found : ℕ
    found = pool (slot_index set s.id field.Flags)

    by : (live : Bool) → flags_live found ≡ live
        → SearchPart pool (record s {
          id = if live then s.id else s.id + 1;
          next = if live then field.Base else field.Flags;
          slot = record s.slot { read_only = flags_read_only found };
          logged = flags_logged found;
          whole = false;
        })
    by true is = record {
      listed = low;
      loaded = λ k e. let same : set ≡ k = cc (own, e) in
          subst (λ n. HasFlags pool n (record s {
            id = s.id;
            next = field.Base;
            slot = record s.slot { read_only = flags_read_only found };
            logged = flags_logged found;
            whole = false;
          })) same (is, refl, refl);
      whole = λ k e whole. absurd (cc whole);
      held = λ whole. absurd (cc whole);
      before_flags = λ whole. absurd (cc whole);
      flags = λ k e whole. absurd (cc whole);
    }
    by false is = record {
      listed = tt;
      loaded = λ k e. tt;
      whole = λ k e whole. absurd (cc whole);
      held = λ whole. absurd (cc whole);
      before_flags = λ whole. absurd (cc whole);
      flags = λ k e whole. absurd (cc whole);
    }
searched_part field.Base pool set s at own low P = record {
  listed = low;
  loaded = λ k e. let same : set ≡ k = cc (own, e) in
      subst (λ n. HasLoaded field.Pages pool n (searched_at field.Base s (pool (slot_index set s.id field.Base)))) same
      (subst (λ f. HasLoaded f pool set s) at (P.loaded set own), refl);
  whole = λ k e whole. absurd (let flags = P.before_flags whole in cc (at, flags));
  held = λ whole. absurd (let flags = P.before_flags whole in cc (at, flags));
  before_flags = λ whole. absurd (let flags = P.before_flags whole in cc (at, flags));
  flags = λ k e whole. absurd (let flags = P.before_flags whole in cc (at, flags));
}
searched_part field.Pages pool set s at own low P = record {
  listed = low;
  loaded = λ k e. let same : set ≡ k = cc (own, e) in let L = subst (λ f. HasLoaded f pool set s) at (P.loaded set own) in
      subst (λ n. HasLoaded field.Host pool n (searched_at field.Pages s (pool (slot_index set s.id field.Pages)))) same (L.0, L.1, refl);
  whole = λ k e whole. absurd (let flags = P.before_flags whole in cc (at, flags));
  held = λ whole. absurd (let flags = P.before_flags whole in cc (at, flags));
  before_flags = λ whole. absurd (let flags = P.before_flags whole in cc (at, flags));
  flags = λ k e whole. absurd (let flags = P.before_flags whole in cc (at, flags));
}
searched_part field.Host pool set s at own low P = record {
  listed = tt;
  loaded = λ k e. tt;
  whole =
      λ k e whole. let same : set ≡ k = cc (own, e) in
      (omega arith, subst (λ n. IsLiveIn pool n (s.id + 1 - 1) behind.slot) same (subst (λ n. IsLiveIn pool set n behind.slot) (omega arith) live));
  held = λ whole. (set, own);
  before_flags = λ whole. refl;
  flags = λ k e whole. let same : set ≡ k = cc (own, e) in
      loaded.0.2 ∙ ap (λ n. flags_logged (pool (slot_index set n field.Flags))) (sub_one s.id)
      ∙ ap (λ n. flags_logged (pool (slot_index n (s.id + 1 - 1) field.Flags))) same;
}
  where
    sub_one : (n : ℕ) → n ≡ n + 1 - 1
    sub_one n = omega arith

    behind : SlotSearch
    behind = searched_at field.Host s (pool (slot_index set s.id field.Host))

    loaded : HasLoaded field.Host pool set s
    loaded = subst (λ f. HasLoaded f pool set s) at (P.loaded set own)

    live : IsLiveIn pool set s.id behind.slot
    live = record { low = low; live = loaded.0.0; is = same_slot (slot_at pool set s.id) behind.slot (sym loaded.1) (sym loaded.2) refl (sym loaded.0.1) }

slot_search : (pool : ℕ → ℕ) (s : SlotSearch) → is_some s.set ≡ true → s.id ≤ 31 → SearchPart pool s
    → SearchPart pool (if is_some s.set then searched s (pool (slot_index (set_held s.set) s.id s.next)) else s)
slot_search pool s some low P = by s.set refl some
  where
    by : (o : Option ℕ) → s.set ≡ o → is_some o ≡ true
        → SearchPart pool (if is_some s.set then searched s (pool (slot_index (set_held s.set) s.id s.next)) else s)
    by None is some = absurd (cc some)
    by (Some k) is some =
        subst (λ (o : Option ℕ). SearchPart pool (if is_some o then searched s (pool (slot_index (set_held o) s.id s.next)) else s)) (sym is)
        (searched_part s.next pool k s refl is low P)

-- A snapshot lets the search go, or leaves it.
pub snapshot_search : (pool : ℕ → ℕ) (without_lock : Bool) (s : SlotSearch) → SearchPart pool s
    → SearchPart pool (if without_lock then kept_search false s else s)
snapshot_search pool true s P = let_go_search pool false s P
snapshot_search pool false s P = P

-- what was loaded of the words as they were, whoever did
abbrev SearchesIn : Sizes → (ℕ → ℕ) → View → Type 0
SearchesIn z pool v = (i : ℕ) → i < actors_of z → SearchPart pool (v.hand i).topics.search

pub all_search : (z : Sizes) (v : View) (a : ℕ) (h : Held) → TopicsInvariant z v → SearchPart (v.words area.Pool) h.topics.search → (i : ℕ)
    → i < actors_of z → SearchPart (v.words area.Pool) (upd v.hand a h i).topics.search
all_search z v a h I here =
    at_upd (λ i (k : Held). i < actors_of z → SearchPart (v.words area.Pool) k.topics.search) v.hand a h (λ lt. here) (λ i ne. I.searches i)

searches_behind : (z : Sizes) (v : View) (a note : ℕ) (step : PartStep) → IsPart z v a step → TopicsInvariant z v
    → SearchesIn z (v.words area.Pool) (part_behind a step note v)
searches_behind z v a note part.Enter S I = all_search z v a _ I (let_go_search (v.words area.Pool) false (v.hand a).topics.search (I.searches a S.there))
searches_behind z v a note part.Leave S I = all_search z v a _ I (let_go_search (v.words area.Pool) false (v.hand a).topics.search (I.searches a S.there))
searches_behind z v a note part.Begin S I = all_search z v a _ I (let_go_search (v.words area.Pool) false (v.hand a).topics.search (I.searches a S.there))
searches_behind z v a note part.End S I = all_search z v a _ I (let_go_search (v.words area.Pool) false (v.hand a).topics.search (I.searches a S.there))
searches_behind z v a note part.Unshare S I =
    all_search z v a _ I (let_go_search (v.words area.Pool) (is_section (v.hand a).topics.stay) (v.hand a).topics.search (I.searches a S.there))
searches_behind z v a note part.Release S I =
    all_search z v a _ I (let_go_search (v.words area.Pool) (is_section (v.hand a).topics.stay) (v.hand a).topics.search (I.searches a S.there))
searches_behind z v a note part.Publish S I = all_search z v a _ I (let_go_search (v.words area.Pool) false (v.hand a).topics.search (I.searches a S.there))
searches_behind z v a note part.Slots S I =
    all_search z v a _ I (at_set_search (v.words area.Pool) (may_search (v.hand a).topics.stay (v.hand a).topics.hold) (v.hand a).topics.search _)
searches_behind z v a note part.Slot S I =
    all_search z v a _ I (slot_search (v.words area.Pool) (v.hand a).topics.search S.needs.0 S.needs.1 (I.searches a S.there))
searches_behind z v a note part.Seq S I =
    all_search z v a _ I (snapshot_search (v.words area.Pool) (is_loose (v.hand a).topics.hold) (v.hand a).topics.search (I.searches a S.there))
searches_behind z v a note _ S I = all_search z v a _ I (I.searches a S.there)

pub searches_kept : (z : Sizes) (v : View) (a : ℕ) (step : PartStep) (note : ℕ) → IsPart z v a step → TopicsInvariant z v
    → SearchesAt z (part_stepped a step note v)
searches_kept z v a step note S I i lt =
    let in_old : SearchesIn z (v.words area.Pool) (part_stepped a step note v) =
    behind_step (SearchesIn z (v.words area.Pool)) z v a step note S (searches_behind z v a note step S I) in
    search_stays (v.words area.Pool) ((part_stepped a step note v).words area.Pool) ((part_stepped a step note v).hand i).topics.search
    (λ k is. words_live k (v.words area.Pool) ((part_stepped a step note v).words area.Pool) (held_words_stay z v a step note S I i k lt is)) (in_old i lt)
