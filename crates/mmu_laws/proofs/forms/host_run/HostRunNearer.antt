-- Each step of a line that maps a run of host pages as one, or its pages by themselves, and doesn't wait, leaves it fewer steps, beside other actors too.
-- Since the run is its actor's own, it wins the exchange of each word of several pages; and that of one page, but where an access has brought this in.
use Rattle.part_steps.specs.declared.part_step.PartStep.TheVariants as part
use Rattle.core_views.specs.declared.answer.Answer.TheVariants.{Refused}
use Rattle.core_views.specs.declared.answer.Refusal.TheVariants.{OutOfRange}
use Rattle.core_views.specs.declared.place.BeginPlace.TheVariants as begins
use Rattle.core_views.specs.declared.place.EndPlace.TheVariants as ends
use Rattle.core_views.specs.declared.place.Place.TheVariants as place
use Rattle.mmu_core.specs.declared.invalidate.BeginNext.TheVariants as begins_next
use Rattle.mmu_core.specs.declared.invalidate.EndNext.TheVariants as ends_next
use Rattle.std.proofs.Common.{◌≡◌, inl, inr, ◌+◌, ◌-◌, ◌<◌, ◌≤◌, ℕ, refl, sym, subst, ap, ◌∙◌, arith}
use Rattle.std.specs.Option.{IfSome}
use Rattle.std.specs.Prelude.{Bool, true, false, ◌==◌, nat_lt, is_some, if◌then◌else◌, Option, Some, None}
use Rattle.std.proofs.lemmas.Bool.Decides.{nat_tests}
use Rattle.core_views.specs.declared.place.BeginPlace.{BeginPlace}
use Rattle.core_views.specs.declared.place.HostRunPlace.{HostRunPlace}
use Rattle.core_views.specs.declared.place.HostRunPlace.TheVariants.{Look, LookOn, Begin, Change, End}
use Rattle.core_views.specs.declared.sizes.Sizes.{Sizes}
use Rattle.core_views.specs.declared.topics.HostLook.{HostLook}
use Rattle.core_views.specs.declared.topics.HostRow.{HostRow}
use Rattle.core_views.specs.declared.topics.PageRun.{PageRun}
use Rattle.core_views.specs.declared.topics.Topics.{Topics}
use Rattle.core_views.specs.declared.trace.Command.{Command}
use Rattle.core_views.specs.declared.trace.Command.TheVariants.{ChangeRun}
use Rattle.core_views.specs.declared.trace.RunChange.{RunChange}
use Rattle.core_views.specs.Held.{Held}
use Rattle.core_views.specs.HostRuns.{owns_run}
use Rattle.spte_words.specs.Entries.{level_span}
use Rattle.spte_words.specs.HostWords.{host_allows_write, host_frame, host_level, host_present}
use Rattle.spte_words.proofs.ReadsHost.{host_is_present}
use Rattle.spte_words.proofs.Spans.{span_3}
use Rattle.part_steps.specs.PageRuns.{changed_more, is_several, looked_on, one_look}
use Rattle.part_steps.specs.PartBounds.{PartRests}
use Rattle.part_steps.specs.PartTasks.{word_looked, word_next}
use Rattle.part_steps.specs.PartTopics.{part_topics}
use Rattle.mmu_core.specs.declared.invalidate.BeginNext.{BeginNext}
use Rattle.mmu_core.specs.declared.invalidate.EndNext.{EndNext}
use Rattle.mmu_core.specs.declared.outcome.Outcome.TheVariants.{Goes, Ends}
use Rattle.mmu_core.specs.forms.host_run.HostRunKnows.{ChangesPages, ChangesRun, HostRunKnows}
use Rattle.mmu_core.specs.forms.host_run.HostRunLeft.{changes_left, host_run_left, most_frames, pages_left}
use Rattle.mmu_core.specs.forms.host_run.HostRunSteps.{after_page, after_run_begin, after_run_end, after_run_look, as_it_is}
use Rattle.mmu_core.specs.forms.host_run.HostRunSteps.{host_run_outcome, host_run_part, page_after, run_target}
use Rattle.mmu_core.specs.invariant.HostWordsPart.{IsStill}
use Rattle.mmu_core.specs.lines.PartWaits.{part_waits}
use Rattle.mmu_core.specs.orders.InvalidateLeft.{begin_left, end_left}
use Rattle.mmu_core.specs.orders.InvalidateSteps.{begin_next, begin_part, end_next}
use Rattle.mmu_core.proofs.forms.host_run.HostRunPlaces.{changes_few, each_look, each_next_look}
use Rattle.mmu_core.proofs.forms.host_run.RunChanges.{pages_to_change}
use Rattle.mmu_core.proofs.forms.host_run.RunLooks.{few_count}
use Rattle.mmu_core.proofs.forms.host_run.RunTargets.{each_target}
use Rattle.mmu_core.proofs.lines.EitherPlace.{one_place}
use Rattle.mmu_laws.proofs.forms.host.HostNearer.{FindsStill, end_left_after, end_less, fewer_tries}
use Rattle.mmu_laws.proofs.turns.BeginNearer.{HasFew, begin_falls, begin_left_after}
use Rattle.mmu_laws.proofs.turns.Nearer.{Nearer}

module _ (c : Command) (z : Sizes) where
  abbrev At : HostRunPlace → Topics → ℕ → Type 0
  At p u n = Nearer (Goes (place.HostRun p)) c z u n

  -- ---- the invalidation

  begin_nearer : (next : BeginNext) (u : Topics) (n : ℕ) → begin_left_after next z most_frames u < n
      → (next ≡ begins_next.Begun → changes_left u ≤ 262144) → At (after_run_begin next) u (n + 262144 + 8)
  begin_nearer (begins_next.Goes p) u n less few = omega (arith, less)
  begin_nearer begins_next.Begun u n less few = let most = few refl in omega (arith, less, most)

  end_nearer : (next : EndNext) (u : Topics) (n : ℕ) → end_left_after next < n → Nearer (after_run_end next) c z u n
  end_nearer (ends_next.Goes q) u n less = less
  end_nearer ends_next.Ended u n less = tt

  -- ---- the changes

  -- the topics after an exchange of the next page of a run
  abbrev run_behind : Topics → Option PageRun → Bool → Topics
  run_behind t o won = record t {
    host = None;
    invalidations = record t.invalidations { own = record t.invalidations.own { pages = changed_more won o } };
  }

  -- Several pages: the exchange is won, so one page less is left.
  page_nearer : (page : ℕ) (change : RunChange) (t : Topics) (o : Option PageRun) → is_several o ≡ true → IfSome o (ChangesRun page change)
      → At (after_page o) (run_behind t o true) (pages_left o + 6)
  page_nearer page change t None several C = absurd (cc several)
  page_nearer page change t (Some run) several C =
      let left = C.left in
      one_place (λ q. At q (run_behind t (Some run) true) (level_span run.level - run.changed + 6)) (nat_lt (run.changed + 1) (level_span run.level)) Change
      (End ends.Exclude)
      (λ more. by (nat_lt 1 run.level) several left)
      (λ last. omega (arith, left))
    where
      by : (b : Bool) → b ≡ true → run.changed < level_span run.level
          → (if b then level_span run.level - (run.changed + 1) else 1 + (if host_present 0 then 0 else 1)) + 6 < level_span run.level - run.changed + 6
      by true is left = omega (arith, left)
      by false is left = absurd (cc is)

  -- One page: where the exchange is lost, the page was seen absent, and found present.
  one_nearer : (won : Bool) (t : Topics) (v : ℕ) → (v == word_looked t.host) ≡ won → is_several t.invalidations.own.pages ≡ false
      → IsStill (word_looked t.host) v
      → At (if won then End ends.Exclude else Change) (part_topics (part.Change (as_it_is (word_looked t.host))) t v)
      (1 + (if host_present (word_looked t.host) then 0 else 1) + 6)
  one_nearer true t v is one still = omega arith
  one_nearer false t v is one (inl same) = absurd (grind (arith, nat_tests))
  one_nearer false t v is one (inr brought) =
      let seen : ℕ = word_looked t.host in
      let found : ℕ = if v == seen then as_it_is seen else v in
      let found_is : found ≡ v = ap (λ (b : Bool). if b then as_it_is seen else v) is in
      let less = fewer_tries (host_present v) (host_present seen) 0
      (ap host_present brought.1 ∙ host_is_present (host_frame seen) true (host_allows_write seen) (host_level seen)) brought.0 in
      let next : changes_left (part_topics (part.Change (as_it_is seen)) t v) ≡ 1 + (if host_present v then 0 else 1) =
      ap (λ (b : Bool). if b then pages_left t.invalidations.own.pages else 1 + (if host_present found then 0 else 1)) one
      ∙ ap (λ w. 1 + (if host_present w then 0 else 1)) found_is in
      omega (arith, less, next)

  change_nearer : (b : Bool) (page : ℕ) (change : RunChange) (h : Held) (v : ℕ) → is_several h.topics.invalidations.own.pages ≡ b
      → ChangesPages b page change h
      → FindsStill (Some (if b then part.ChangeNext else part.Change (as_it_is (word_looked h.topics.host)))) h.topics v
      → At (if b then (if v == word_next h.topics.invalidations.own.pages then after_page h.topics.invalidations.own.pages else Change) else
      if v == word_looked h.topics.host then End ends.Exclude else
      Change)
      (part_topics (if b then part.ChangeNext else part.Change (as_it_is (word_looked h.topics.host))) h.topics v)
      ((if b then pages_left h.topics.invalidations.own.pages else 1 + (if host_present (word_looked h.topics.host) then 0 else 1)) + 6)
  change_nearer true page change h v several C finds =
      let pages : Option PageRun = h.topics.invalidations.own.pages in
      let won : (v == word_next pages) ≡ true = grind (arith, nat_tests) in
      subst (λ (b : Bool). At (if b then after_page pages else Change) (run_behind h.topics pages b) (pages_left pages + 6)) (sym won)
      (page_nearer page change h.topics pages several C)
  change_nearer false page change h v one C finds = one_nearer (v == word_looked h.topics.host) h.topics v refl one finds

-- ---- the looks

-- One more page was looked at.
one_more_look : (o : Option HostLook) (row : HostRow) (page v : ℕ) → is_some o ≡ true → row.looked < 262144
    → (looked_on o row page v).looked ≡ row.looked + 1
one_more_look None row page v some few = absurd (cc some)
one_more_look (Some look) row page v some few =
    let room : nat_lt row.looked (level_span 3) ≡ true = grind (arith, nat_tests, span_3) in
    ap (λ (b : Bool). if b then row.looked + 1 else row.looked) room

-- ---- each place

few_targets : (page : ℕ) (t : Topics) → HasFew (run_target page t) most_frames
few_targets page t = each_target (λ target. HasFew target most_frames) page t (λ run. omega arith) (omega arith)

not_begun : (q : BeginPlace) → begins_next.Goes q ≡ begins_next.Begun → ⊥
not_begun q e = cc e

-- Where the invalidation has begun, the pages to change are few.
begun_few : (p : BeginPlace) (page : ℕ) (change : RunChange) (h : Held) (v : ℕ) → HostRunKnows (Begin p) page change h
    → begin_next p h.state.sizes (run_target page h.topics) h.topics v ≡ begins_next.Begun
    → changes_left (part_topics (begin_part p (run_target page h.topics) h.topics) h.topics v) ≤ 262144
begun_few begins.Release page change h v K e =
    changes_few (is_several h.topics.invalidations.own.pages) page change h (pages_to_change page h change K.0 K.2 K.1.1.of_pages)
begun_few (begins.Walk true) page change h v K e = absurd (not_begun _ e)
begun_few (begins.Walk false) page change h v K e = absurd (not_begun _ e)
begun_few _ page change h v K e = absurd (not_begun _ e)

pub host_run_nearer : (p : HostRunPlace) (page : ℕ) (change : RunChange) (h : Held) (v : ℕ) → PartRests h → HostRunKnows p page change h
    → FindsStill (Some (host_run_part p page change h)) h.topics v → part_waits (host_run_part p page change h) h.topics v ≡ false
    → Nearer (host_run_outcome p page change h v) (ChangeRun page change) h.state.sizes (part_topics (host_run_part p page change h) h.topics v)
    (host_run_left p h.state.sizes h.topics)
host_run_nearer Look page change h v R K finds goes = by (owns_run h.state.sizes h.state.actor page change)
  where
    by : (own_ : Bool)
        → Nearer (if own_ then after_run_look change (record { page = page; word = v }) one_look v else Ends (Refused OutOfRange)) (ChangeRun page change)
        h.state.sizes (part_topics (if own_ then part.Host page else part.Seq) h.topics v) (host_run_left Look h.state.sizes h.topics)
    by false = tt
    by true =
        each_look (λ o. Nearer o (ChangeRun page change) h.state.sizes (part_topics (part.Host page) h.topics v) (host_run_left Look h.state.sizes h.topics))
        change (record { page = page; word = v }) one_look v tt (omega arith) (omega arith) tt
host_run_nearer LookOn page change h v R K finds goes =
    let row : HostRow = h.topics.row in
    let few = few_count change (word_looked h.topics.host) in
    let left = K.3 in
    let next : ℕ = page_after page change h.topics in
    let more = one_more_look h.topics.host row next v K.2.looked (omega (arith, few, left)) in
    each_next_look
    (λ o. Nearer o (ChangeRun page change) h.state.sizes (part_topics (part.HostOn next) h.topics v) (host_run_left LookOn h.state.sizes h.topics)) change
    h.topics.host row next v tt tt (omega (arith, more, few, left)) (omega arith) tt
host_run_nearer (Begin p) page change h v R K finds goes =
    begin_nearer (ChangeRun page change) h.state.sizes (begin_next p h.state.sizes (run_target page h.topics) h.topics v) _
    (begin_left p h.state.sizes most_frames h.topics)
    (begin_falls p h.state.sizes most_frames (run_target page h.topics) h.topics v (few_targets page h.topics) R.row R.level K.1 goes)
    (begun_few p page change h v K)
host_run_nearer Change page change h v R K finds goes =
    change_nearer (ChangeRun page change) h.state.sizes (is_several h.topics.invalidations.own.pages) page change h v refl K.2 finds
host_run_nearer (End p) page change h v R K finds goes =
    end_nearer (ChangeRun page change) h.state.sizes (end_next p v) _ (end_left p) (end_less p h.topics v goes)
