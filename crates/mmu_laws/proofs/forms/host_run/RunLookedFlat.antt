-- The looks of a line at its own page, and at the others of its run: what it finds of them, and what it owes flat memory.
use Rattle.std.proofs.Common.{◌≡◌, ◌+◌, ◌-◌, ◌*◌, ◌/◌, ◌<◌, ◌≤◌, ℕ, [], ◌∷◌, ◌++◌, refl, sym, subst, ap, ◌∙◌, arith}
use Rattle.std.specs.Prelude.{Bool, true, false, ◌&&◌, if◌then◌else◌, nat_lt, Option, Some}
use Rattle.std.proofs.lemmas.Bool.Decides.{nat_tests}
use Rattle.core_views.specs.declared.answer.Answer.TheVariants.{Refused}
use Rattle.core_views.specs.declared.answer.Refusal.TheVariants.{OutOfRange}
use Rattle.core_views.specs.declared.event.EventKind.TheVariants.{LookedAtHost}
use Rattle.core_views.specs.declared.host.HostEntry.{HostEntry}
use Rattle.core_views.specs.declared.place.HostRunPlace.{HostRunPlace}
use Rattle.core_views.specs.declared.place.HostRunPlace.TheVariants.{Look, LookOn}
use Rattle.core_views.specs.declared.place.Place.TheVariants as place
use Rattle.core_views.specs.declared.sizes.Sizes.{Sizes}
use Rattle.core_views.specs.declared.topics.HostLook.{HostLook}
use Rattle.core_views.specs.declared.topics.HostRow.{HostRow}
use Rattle.core_views.specs.declared.topics.Topics.{Topics}
use Rattle.core_views.specs.declared.trace.Command.{Command}
use Rattle.core_views.specs.declared.trace.Command.TheVariants.{ChangeRun}
use Rattle.core_views.specs.declared.trace.Line.{Line}
use Rattle.core_views.specs.declared.trace.RunChange.{RunChange}
use Rattle.core_views.specs.declared.trace.RunChange.TheVariants.{Huge, Small}
use Rattle.core_views.specs.Flat.{Facts, LineUnderWay, Notes}
use Rattle.core_views.specs.Held.{Held}
use Rattle.core_views.specs.HostChanges.{is_own}
use Rattle.core_views.specs.HostRuns.{owns_run, run_count, run_first, run_pages}
use Rattle.core_views.specs.Lawful.{HasWork, Tells}
use Rattle.core_views.specs.Past.{Past}
use Rattle.core_views.specs.SeenRuns.{SawHugeOne}
use Rattle.core_views.specs.Sizes.{actors_of}
use Rattle.core_views.proofs.RunStages.{some_pages}
use Rattle.spte_words.specs.Entries.{level_span}
use Rattle.spte_words.specs.HostWords.{host_level}
use Rattle.part_steps.specs.declared.part_step.PartStep.TheVariants as part
use Rattle.part_steps.specs.declared.task.Task.{Task}
use Rattle.part_steps.specs.PageRuns.{looked_on, one_look, word_in_row}
use Rattle.part_steps.specs.PartTasks.{own_index, part_task, word_looked}
use Rattle.part_steps.specs.PartTopics.{part_topics}
use Rattle.mmu_core.specs.declared.outcome.Outcome.TheVariants.{Ends}
use Rattle.mmu_core.specs.forms.access.AccessSteps.{exiting}
use Rattle.mmu_core.specs.forms.host.HostSteps.{entry_of, maps_large}
use Rattle.mmu_core.specs.forms.host_run.HostRunKnows.{HostRunKnows}
use Rattle.mmu_core.specs.forms.host_run.HostRunSteps.{after_next_look, after_run_look, host_run_part, other_page, page_after, wants_small}
use Rattle.mmu_core.specs.invariant.HostWordsPart.{owns_page}
use Rattle.mmu_core.specs.invariant.Invariant.{Invariant}
use Rattle.mmu_core.specs.invariant.TopicsInvariant.{TopicsInvariant}
use Rattle.mmu_core.specs.machine.Outcomes.{answering, place_after}
use Rattle.mmu_core.specs.machine.View.{View, answer_in}
use Rattle.mmu_core.proofs.forms.access.FaultSame.{not_then}
use Rattle.mmu_core.proofs.forms.host_run.HostRunLooks.{looked_more}
use Rattle.mmu_core.proofs.forms.host_run.RunLooks.{few_count, huge_own, large_count, level_most, look_of, page_own, small_count, some_count}
use Rattle.mmu_core.proofs.lines.EitherPlace.{one_place}
use Rattle.mmu_core.proofs.lines.KnowsKept.{step_leaves}
use Rattle.mmu_core.proofs.held.LargeRows.{IsInLarge, in_large}
use Rattle.mmu_core.proofs.held.OwnPages.{own_page, owner_within}
use Rattle.mmu_core.proofs.machine.PartStepping.{IsPart}
use Rattle.mmu_core.proofs.machine.Stepping.{IsStep}
use Rattle.mmu_laws.specs.forms.host_run.HostRunStages.{SeenBy, in_order}
use Rattle.mmu_laws.proofs.flat.FlatSteps.{GoesBy, StepGoes, answers_by}
use Rattle.mmu_laws.proofs.forms.access.FaultNotes.{entry_noted}
use Rattle.mmu_laws.proofs.forms.host_run.HostRunReady.{ReadyRun, RunTask, run_after, run_after_is, run_at_once, run_page_low, run_still}
use Rattle.mmu_laws.proofs.forms.host_run.RunLooksFlat.{look_owes, noted_then}
use Rattle.mmu_laws.proofs.forms.host_run.RunNotes.{each_pages, first_seen, further_on, next_row, next_small, own_among}

module _ (z : Sizes) (v : View) (a : ℕ) (line : Line) (page : ℕ) (change : RunChange) (facts : Facts) (past : Past) (u : LineUnderWay) where
  abbrev command : Command
  command = ChangeRun page change

  abbrev h : Held
  h = v.hand a

  abbrev task : HostRunPlace → Task
  task p = RunTask z v a line page change facts past u p

  abbrev found : HostRunPlace → ℕ
  found p = answer_in (RunTask z v a line page change facts past u p) v.words

  abbrev noted_at : ℕ → Notes
  noted_at at = noted_then z v a line page change facts past u at

  abbrev ReadyAt : HostRunPlace → Type 0
  ReadyAt p = ReadyRun z v a line page change facts past u p

  abbrev Made : HostRunPlace → Type 0
  Made p = IsPart z v a (host_run_part p page change h)

  own_command : (p : HostRunPlace) → IsStep z v a line command (place.HostRun p) → u.line ≡ line → u.line.command ≡ command
  own_command p S under = ap (λ (l : Line). l.command) under ∙ S.command_is

  -- A large page that it sees is refused, of a run that is to be large.
  huge_seen : (at word : ℕ) → facts.host at ≡ entry_of word → ((level : ℕ) → change ≡ Huge level → (page ≤ at) × (at < page + run_pages level))
      → (wants_small change && maps_large word) ≡ true → SawHugeOne (noted_at at) page change
  huge_seen at word is among large = by change refl among large
    where
      by : (c : RunChange) → change ≡ c → ((level : ℕ) → c ≡ Huge level → (page ≤ at) × (at < page + run_pages level))
          → (wants_small c && maps_large word) ≡ true → SawHugeOne (noted_at at) page c
      by (Huge level) e on big = (
        at,
        on level refl,
        record { entry = facts.host at; looked = entry_noted at (facts.host at) u.notes.host; huge = ap (λ (e : HostEntry). nat_lt 1 e.level) is ∙ big },
      )
      by Small e on big = absurd (cc big)

  -- ---- the look at its own page

  some_among : (level : ℕ) → (page ≤ page) × (page < page + run_pages level)
  some_among level = let some = some_pages level in let is = some.1 in (omega arith, omega (arith, is))

  entry_found : Invariant z v → a < actors_of z → owns_run h.state.sizes h.state.actor page change ≡ true → ReadyAt Look
      → facts.host page ≡ entry_of (found Look)
  entry_found I there own_ R =
      R.refines.host page (run_page_low z v a line page change facts past u page I there (page_own h.state.sizes h.state.actor page change own_))
      ∙ ap entry_of (sym (ap (λ (b : Bool). answer_in (part_task (if b then part.Host page else part.Seq) (own_index h) h.topics 1) v.words) own_))

  look_goes : (own : Bool) → owns_run h.state.sizes h.state.actor page change ≡ own → HostRunKnows Look page change h
      → IsStep z v a line command (place.HostRun Look) → Invariant z v → TopicsInvariant z v → Made Look → ReadyAt Look
      → GoesBy z v a line command (task Look)
      (place_after (if own then after_run_look change (record { page = page; word = found Look }) one_look (found Look) else Ends (Refused OutOfRange)))
      ((if own then LookedAtHost page
      ∷ exiting (if own then after_run_look change (record { page = page; word = found Look }) one_look (found Look) else Ends (Refused OutOfRange))
      else [])
      ++ answering (if own then after_run_look change (record { page = page; word = found Look }) one_look (found Look) else Ends (Refused OutOfRange)) line)
      facts past u
  look_goes true is K S I P M R =
      look_owes z v a line page change facts past u Look page R.under.0 R.under.1 (own_command Look S R.under.0)
      (run_still z v a line page change facts past u Look refl M P R) (found Look) (found Look) one_look
      (subst (HasWork z facts h.state.actor) (own_command Look S R.under.0) (run_at_once z v a line page change facts past u Look true S I R.under.0 is)) K.2
      (ap (λ (t : Topics). word_looked t.host) after_is ∙ ap (λ (b : Bool). word_looked (by_own b).host) is)
      (ap (λ (t : Topics). t.row) after_is ∙ ap (λ (b : Bool). (by_own b).row) is) (some_count change (found Look))
      (λ other wants. not_then (wants_small change) (maps_large (found Look)) other wants)
      (huge_seen page (found Look) (entry_found I S.there is R) (λ level e. some_among level))
      (λ other. first_seen u.notes page (facts.host page) change page (found Look) refl (entry_found I S.there is R))
    where
      by_own : Bool → Topics
      by_own b = part_topics (if b then part.Host page else part.Seq) h.topics (found Look)

      after_is : run_after z v a line page change facts past u Look ≡ part_topics (host_run_part Look page change h) h.topics (found Look)
      after_is = run_after_is z v a line page change facts past u Look M
  look_goes false is K S I P M R =
      answers_by z v a line command (task Look) facts past u (run_still z v a line page change facts past u Look refl M P R) (Refused OutOfRange) R.under.0
      (subst (λ s. Tells z facts h.state.actor u.line.command s (Refused OutOfRange)) (sym R.under.1)
      (run_at_once z v a line page change facts past u Look false S I R.under.0 is))

  pub look_flat : HostRunKnows Look page change h → IsStep z v a line command (place.HostRun Look) → Invariant z v → TopicsInvariant z v → Made Look
      → ReadyAt Look → StepGoes z v a line command (place.HostRun Look) facts past u
  look_flat K S I P M R = look_goes (owns_run h.state.sizes h.state.actor page change) refl K S I P M R

  -- ---- a look at another page of the run

  -- The next page is one of the run's.
  next_among : (first count looked : ℕ) → first ≤ page → page < first + count → 1 ≤ looked → looked < count
      → (first ≤ other_page first page looked) × (other_page first page looked < first + count)
  next_among first count looked low high some few =
      one_place (λ p. (first ≤ p) × (p < first + count)) (nat_lt (first + (looked - 1)) page) (first + (looked - 1)) (first + looked)
      (λ e. (omega arith, omega (arith, few))) (λ e. (omega arith, omega (arith, few)))

  -- So it is of the span of a large page.
  of_span : (level other : ℕ) → 2 ≤ level → level ≤ 3 → page / run_pages level * run_pages level ≤ other
      → other < page / run_pages level * run_pages level + run_pages level → other / level_span level ≡ page / level_span level
  of_span level other from most low high =
      subst (λ s. other / s ≡ page / s) (large_count level from most)
      (each_pages (λ n. page / n * n ≤ other → other < page / n * n + n → other / n ≡ page / n) (λ l g. omega (arith, l, g)) (λ l g. omega (arith, l, g))
      (λ l g. omega (arith, l, g)) level low high)

  module _ (K : HostRunKnows LookOn page change h) (S : IsStep z v a line command (place.HostRun LookOn)) (I : Invariant z v) (P : TopicsInvariant z v)
      (M : Made LookOn) (R : ReadyAt LookOn) where
    abbrev O : (look : HostLook) × (h.topics.host ≡ Some look) × (look.page ≡ page)
    O = look_of page h K.2.looked K.2.at

    abbrev word : ℕ
    word = O.0.word

    abbrev row : HostRow
    row = h.topics.row

    abbrev at : ℕ
    at = page_after page change h.topics

    abbrev found_now : ℕ
    found_now = found LookOn

    word_is : word_looked h.topics.host ≡ word
    word_is = ap word_looked O.1

    few : row.looked < run_count change (entry_of word)
    few = subst (λ w. row.looked < run_count change (entry_of w)) word_is K.3

    at_is : at ≡ other_page (run_first change page (entry_of word)) page row.looked
    at_is = ap (λ w. other_page (run_first change page (entry_of w)) page row.looked) word_is

    among : (run_first change page (entry_of word) ≤ at) × (at < run_first change page (entry_of word) + run_count change (entry_of word))
    among =
        let B = own_among change page (entry_of word) in
        subst (λ p. (run_first change page (entry_of word) ≤ p) × (p < run_first change page (entry_of word) + run_count change (entry_of word))) (sym at_is)
        (next_among (run_first change page (entry_of word)) (run_count change (entry_of word)) row.looked B.0 B.1 K.2.some few)

    same_sizes : h.state.sizes ≡ z
    same_sizes = (I.lines a S.there).sizes

    own_here : is_own h.state.sizes h.state.actor page ≡ true
    own_here = page_own h.state.sizes h.state.actor page change K.2.own_

    owner : owns_page z a O.0.page ≡ true
    owner =
        subst (λ p. owns_page z a p ≡ true) (sym O.2)
        (own_page z a page h.state.actor (subst (λ (y : Sizes). is_own y h.state.actor page ≡ true) same_sizes own_here) (I.lines a S.there).index)

    -- What is so of the page, where it is mapped as one with the line's own.
    module _ (asked : change ≡ Small) where
      large : 2 ≤ host_level word
      large = by (maps_large word) refl
        where
          by : (b : Bool) → maps_large word ≡ b → 2 ≤ host_level word
          by true is = let e : nat_lt 1 (host_level word) ≡ true = is in grind (arith, nat_tests)
          by false is =
              absurd (let one : run_count Small (entry_of word) ≡ 1 = small_count (host_level word) is in
              let less : row.looked < run_count Small (entry_of word) = subst (λ (c : RunChange). row.looked < run_count c (entry_of word)) asked few in
              let some = K.2.some in omega (arith, one, less, some))

      on_span : at / level_span (host_level word) ≡ O.0.page / level_span (host_level word)
      on_span =
          let most = level_most word in
          let A = subst (λ (c : RunChange). (run_first c page (entry_of word) ≤ at)
          × (at < run_first c page (entry_of word) + run_count c (entry_of word))) asked among in
          subst (λ p. at / level_span (host_level word) ≡ p / level_span (host_level word)) (sym O.2) (of_span (host_level word) at large most A.0 A.1)

      L : IsInLarge z v a I.sizes P S.there ((step_leaves z v a line command (place.HostRun LookOn) S I).opens refl) O.0 at
      L = in_large z v a I.sizes P S.there ((step_leaves z v a line command (place.HostRun LookOn) S I).opens refl) O.0 O.1 owner large at on_span

    at_low : at < z.pages
    at_low = by change refl
      where
        by : (c : RunChange) → change ≡ c → at < z.pages
        by Small asked = owner_within z I.sizes a at (L asked).owns
        by (Huge level) asked =
            let own_ : owns_run h.state.sizes h.state.actor page (Huge level) ≡ true =
            subst (λ (c : RunChange). owns_run h.state.sizes h.state.actor page c ≡ true) asked K.2.own_ in
            let A = subst (λ (c : RunChange). (run_first c page (entry_of word) ≤ at)
            × (at < run_first c page (entry_of word) + run_count c (entry_of word))) asked among in
            let low = A.0 in
            let high = A.1 in
            run_page_low z v a line page change facts past u at I S.there
            (huge_own h.state.sizes h.state.actor page level at own_ low (omega (arith, high)))

    entry_at : facts.host at ≡ entry_of found_now
    entry_at = R.refines.host at at_low

    -- what was seen of the run with it
    abbrev row_then : HostRow
    row_then = looked_on (Some (record { page = page; word = word })) row at found_now

    one_more : row_then.looked ≡ row.looked + 1
    one_more = looked_more change (record { page = page; word = word }) row at found_now few

    seen_now : SeenBy (in_order change row) change page row.looked word u.notes
    seen_now = subst (λ w. SeenBy (in_order change row) change page row.looked w u.notes) word_is R.under.1.1

    seen_next : (wants_small change && maps_large found_now) ≡ false → SeenBy (in_order change row_then) change page (row.looked + 1) word (noted_at at)
    seen_next other = by change refl other seen_now
      where
        by : (c : RunChange) → change ≡ c → (wants_small c && maps_large found_now) ≡ false → SeenBy (in_order c row) c page row.looked word u.notes
            → SeenBy (in_order c row_then) c page (row.looked + 1) word (noted_at at)
        by Small asked none seen =
            next_row u.notes at (facts.host at) Small page row.looked word K.2.some
            (subst (λ (c : RunChange). at ≡ other_page (run_first c page (entry_of word)) page row.looked) asked at_is)
            (entry_at ∙ ap entry_of ((L asked).word ∙ ap (λ p. word_in_row word p at) O.2)) seen
        by (Huge level) asked none seen =
            let most = few_count change word in
            let below = few in
            let at_huge = subst (λ (c : RunChange). at ≡ other_page (run_first c page (entry_of word)) page row.looked) asked at_is in
            next_small u.notes at (facts.host at) z.frames level page word found_now row K.2.some (omega (arith, most, below))
            (at_huge ∙ further_on page row.looked K.2.some) entry_at ((P.looks a S.there).is_word O.0 O.1) (P.hosts at at_low)
            (ap maps_large (sym word_is) ∙ K.2.small (ap wants_small asked)) none seen

    huge_then : (wants_small change && maps_large found_now) ≡ true → SawHugeOne (noted_at at) page change
    huge_then =
        huge_seen at found_now entry_at
        (λ level asked. subst (λ (c : RunChange). (run_first c page (entry_of word) ≤ at)
        × (at < run_first c page (entry_of word) + run_count c (entry_of word))) asked among)

    after_is : run_after z v a line page change facts past u LookOn ≡ part_topics (part.HostOn at) h.topics found_now
    after_is = run_after_is z v a line page change facts past u LookOn M

    -- what the look owes, of this look-up of the line's own page
    abbrev Owed : Option HostLook → Type 0
    Owed o =
        GoesBy z v a line command (task LookOn) (place_after (after_next_look change o row at found_now))
        (LookedAtHost at ∷ (exiting (after_next_look change o row at found_now) ++ answering (after_next_look change o row at found_now) line)) facts past u

    pub look_on_flat : StepGoes z v a line command (place.HostRun LookOn) facts past u
    look_on_flat =
        subst Owed (sym (O.1 ∙ ap (λ p. Some (record { page = p; word = word })) O.2))
        (look_owes z v a line page change facts past u LookOn at R.under.0 R.under.1.0 (own_command LookOn S R.under.0)
        (run_still z v a line page change facts past u LookOn refl M P R) word found_now row_then
        (subst (HasWork z facts h.state.actor) (own_command LookOn S R.under.0)
        (run_at_once z v a line page change facts past u LookOn true S I R.under.0 K.2.own_)) K.2.in_range
        (ap (λ (t : Topics). word_looked t.host) after_is ∙ word_is)
        (ap (λ (t : Topics). t.row) after_is ∙ ap (λ (o : Option HostLook). looked_on o row at found_now)
        (O.1 ∙ ap (λ p. Some (record { page = p; word = word })) O.2))
        (subst (λ n. n ≤ run_count change (entry_of word)) (sym one_more) (let below = few in omega (arith, below)))
        (λ other wants. ap maps_large (sym word_is) ∙ K.2.small wants) huge_then
        (λ other. subst (λ n. SeenBy (in_order change row_then) change page n word (noted_at at)) (sym one_more) (seen_next other)))
