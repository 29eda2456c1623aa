-- What the steps of a line that maps a run of host pages as one, or its pages by themselves, owe flat memory.
use Rattle.std.proofs.Common.{◌≡◌, ◌⊎◌, inl, inr, ◌<◌, ◌≤◌, ℕ, [], ◌∷◌, ◌++◌, refl, sym, subst, ap, ◌∙◌, arith, eqb-true}
use Rattle.std.specs.Option.{IfSome}
use Rattle.std.specs.Prelude.{Bool, true, false, ◌==◌, if◌then◌else◌, nat_lt, Option, Some}
use Rattle.std.proofs.lemmas.Bool.Decides.{nat_tests}
use Rattle.core_views.specs.declared.answer.Answer.TheVariants.{Done}
use Rattle.core_views.specs.declared.event.EventKind.TheVariants.{HostChanged}
use Rattle.core_views.specs.declared.place.BeginPlace.{BeginPlace}
use Rattle.core_views.specs.declared.place.EndPlace.{EndPlace}
use Rattle.core_views.specs.declared.place.EndPlace.TheVariants as ends
use Rattle.core_views.specs.declared.place.HostRunPlace.{HostRunPlace}
use Rattle.core_views.specs.declared.place.HostRunPlace.TheVariants.{Look, LookOn, Begin, Change, End}
use Rattle.core_views.specs.declared.place.Place.TheVariants as place
use Rattle.core_views.specs.declared.sizes.Sizes.{Sizes}
use Rattle.core_views.specs.declared.topics.HostLook.{HostLook}
use Rattle.core_views.specs.declared.topics.HostRow.{HostRow}
use Rattle.core_views.specs.declared.topics.PageRun.{PageRun}
use Rattle.core_views.specs.declared.topics.Topics.{Topics}
use Rattle.core_views.specs.declared.trace.Command.{Command}
use Rattle.core_views.specs.declared.trace.Command.TheVariants.{ChangeRun}
use Rattle.core_views.specs.declared.trace.Line.{Line}
use Rattle.core_views.specs.declared.trace.RunChange.{RunChange}
use Rattle.core_views.specs.declared.trace.RunChange.TheVariants.{Small}
use Rattle.core_views.specs.Flat.{Facts, Fresh, LineUnderWay}
use Rattle.core_views.specs.Held.{Held}
use Rattle.core_views.specs.HostRuns.{level_set}
use Rattle.core_views.specs.Lawful.{HasWork, Tells}
use Rattle.core_views.specs.Past.{Past}
use Rattle.core_views.specs.Sizes.{actors_of}
use Rattle.spte_words.specs.declared.area.Area.TheVariants as area
use Rattle.spte_words.specs.HostWords.{host_level}
use Rattle.part_steps.specs.declared.invalidations.Target.{Target}
use Rattle.part_steps.specs.declared.part_step.PartStep.TheVariants as part
use Rattle.part_steps.specs.declared.task.Task.{Task}
use Rattle.part_steps.specs.PageRuns.{is_several, level_looked, level_put, run_looked, run_of}
use Rattle.part_steps.specs.PartTasks.{own_index, page_looked, part_task, word_looked, word_next}
use Rattle.part_steps.specs.PartTopics.{part_topics}
use Rattle.mmu_core.specs.declared.invalidate.BeginNext.{BeginNext}
use Rattle.mmu_core.specs.declared.invalidate.BeginNext.TheVariants as begins_next
use Rattle.mmu_core.specs.declared.invalidate.EndNext.{EndNext}
use Rattle.mmu_core.specs.declared.invalidate.EndNext.TheVariants as ends_next
use Rattle.mmu_core.specs.forms.host.HostSteps.{entry_of, maps_large}
use Rattle.mmu_core.specs.forms.host_run.HostRunKnows.{ChangesPage, ChangesPages, ChangesRun, HostRunKnows}
use Rattle.mmu_core.specs.forms.host_run.HostRunSteps.{after_page, after_run_begin, after_run_end, as_it_is, host_run_part, page_changed, run_target}
use Rattle.mmu_core.specs.invariant.Invariant.{Invariant}
use Rattle.mmu_core.specs.invariant.TopicsInvariant.{TopicsInvariant}
use Rattle.mmu_core.specs.machine.Outcomes.{answering, place_after}
use Rattle.mmu_core.specs.machine.View.{View, answer_in}
use Rattle.mmu_core.specs.orders.InvalidateSteps.{begin_next, begin_part, end_next}
use Rattle.mmu_core.proofs.forms.host_run.RunLooks.{RunSeen, large_looked, look_of, page_own, run_seen_at}
use Rattle.mmu_core.proofs.forms.host_run.RunLooks.RunSeen.{Large, One, Several}
use Rattle.mmu_core.proofs.forms.host_run.RunTargets.{aimed_looked, run_is_aimed, target_is_small}
use Rattle.mmu_core.proofs.held.NextPages.{next_is_won}
use Rattle.mmu_core.proofs.invariant.PartBounded.{part_rests_at}
use Rattle.mmu_core.proofs.machine.PartStepping.{IsPart}
use Rattle.mmu_core.proofs.machine.Stepping.{IsStep}
use Rattle.mmu_core.proofs.orders.InvalidateKnown.{BeginComes, begin_known}
use Rattle.mmu_core.proofs.orders.RunsAimed.{begin_leaves_looks, lowest_looked}
use Rattle.mmu_core.proofs.forms.access.FaultKnown.{parts_answer}
use Rattle.mmu_laws.specs.flat.FlatInvariant.{HasNoted, HostRunUnder}
use Rattle.mmu_laws.specs.forms.host_run.HostRunStages.{ChangesUnder, HasSeenRun, RunUnder}
use Rattle.mmu_laws.proofs.flat.FlatSteps.{GoesBy, Ready, StepGoes, answers_by}
use Rattle.mmu_laws.proofs.forms.host.HostEntries.{same_agree}
use Rattle.mmu_laws.proofs.forms.host_run.HostRunReady.{ReadyRun, RunTask, run_after, run_after_is, run_at_once, run_page_low, run_still, run_tells_none}
use Rattle.mmu_laws.proofs.forms.host_run.RunChangesFlat.{next_flat}
use Rattle.mmu_laws.proofs.forms.host_run.RunLookedFlat.{look_flat, look_on_flat}
use Rattle.mmu_laws.proofs.forms.host_run.RunPageFlat.{page_lost, page_won}
use Rattle.mmu_laws.proofs.forms.host_run.SeenRows.{seen_own}

-- ---- the invalidation is open: of which pages

-- A small page has level 1.
small_level : (word : ℕ) → maps_large word ≡ false → 1 ≤ host_level word → host_level word ≡ 1
small_level word small least = let e : nat_lt 1 (host_level word) ≡ false = small in grind (arith, nat_tests)

-- The pages of a run of several are given the level for which the line asks.
put_level : (page : ℕ) (change : RunChange) (look : HostLook) (row : HostRow) → RunSeen look row change → 1 ≤ host_level look.word
    → (level_put (record { first = look.page; level = level_looked look row; word = look.word; changed = 0 }) ≡ level_set change)
    ⊎ ((change ≡ Small) × (maps_large look.word ≡ false) × (level_looked look row ≡ 1))
put_level page change look row (Large large) least =
    let not_one : (host_level look.word == 1) ≡ false = (let e : nat_lt 1 (host_level look.word) ≡ true = large in grind (arith, nat_tests)) in
    inl (ap (λ (b : Bool). if b then level_looked look row else 1) not_one)
put_level page change look row (Several level from most is small begins) least =
    let one = small_level look.word small least in
    inl (ap (λ n. if n == 1 then level_looked look row else 1) one ∙ is)
put_level page change look row (One small alone) least = inr (refl, small, lowest_looked look row alone small)

module _ (page : ℕ) (change : RunChange) (u : LineUnderWay) (fresh : u.stage ≡ Fresh) (t : Topics) (look : HostLook) (at : look.page ≡ page)
    (host : t.host ≡ Some look) (row : HostRow) (seen : RunSeen look row change) (least : 1 ≤ host_level look.word)
    (saw : HasSeenRun page change look.word u.notes) (is : t.invalidations.own.pages ≡ Some (run_looked look row)) where
  abbrev run : PageRun
  run = record { first = look.page; level = level_looked look row; word = look.word; changed = 0 }

  by_level : (b : Bool) → nat_lt 1 (level_looked look row) ≡ b → t.invalidations.own.pages ≡ Some (if b then run else run_of look.page)
      → ChangesUnder (is_several t.invalidations.own.pages) page change t u
  by_level true more pages =
      subst (λ b. ChangesUnder b page change t u) (sym (ap is_several pages ∙ more))
      (subst (λ (o : Option PageRun). IfSome o (RunUnder page change u)) (sym pages)
      (level_is (put_level page change look row seen least), inl (refl, fresh, saw)))
    where
      level_is : (level_put run ≡ level_set change) ⊎ ((change ≡ Small) × (maps_large look.word ≡ false) × (level_looked look row ≡ 1))
          → level_put run ≡ level_set change
      level_is (inl put) = put
      level_is (inr one) = absurd (let lowest = one.2 in let more_ : 1 < level_looked look row = grind (arith, nat_tests) in omega (arith, lowest, more_))
  by_level false few pages =
      subst (λ b. ChangesUnder b page change t u) (sym (ap is_several pages)) (fresh, noted (maps_large look.word) refl)
    where
      own_noted : u.notes.host page ≡ Some (entry_of look.word)
      own_noted = saw.row page (inl refl) ∙ ap Some (seen_own look.word page)

      looked_is : word_looked t.host ≡ look.word
      looked_is = ap word_looked host

      noted : (b : Bool) → maps_large look.word ≡ b → HasNoted page t u.notes
      noted false small = (
        entry_of look.word,
        own_noted,
        same_agree (entry_of look.word) (entry_of (word_looked t.host)) (ap entry_of (sym looked_is)),
        small_level look.word small least,
      )
      noted true large =
          absurd (let level = large_looked look row large in
          let more : nat_lt 1 (host_level look.word) ≡ true = large in
          let not_ : nat_lt 1 (level_looked look row) ≡ false = few in
          cc (ap (nat_lt 1) level ∙ more, not_))

  pub begun_under : ChangesUnder (is_several t.invalidations.own.pages) page change t u
  begun_under = by_level (nat_lt 1 (level_looked look row)) refl is

module _ (z : Sizes) (v : View) (a : ℕ) (line : Line) (page : ℕ) (change : RunChange) (facts : Facts) (past : Past) (u : LineUnderWay) where
  abbrev command : Command
  command = ChangeRun page change

  abbrev h : Held
  h = v.hand a

  abbrev task : HostRunPlace → Task
  task p = RunTask z v a line page change facts past u p

  abbrev found : HostRunPlace → ℕ
  found p = answer_in (RunTask z v a line page change facts past u p) v.words

  abbrev after : HostRunPlace → Topics
  after p = run_after z v a line page change facts past u p

  abbrev ReadyAt : HostRunPlace → Type 0
  ReadyAt p = ReadyRun z v a line page change facts past u p

  abbrev Made : HostRunPlace → Type 0
  Made p = IsPart z v a (host_run_part p page change h)

  own_command : (p : HostRunPlace) → IsStep z v a line command (place.HostRun p) → u.line ≡ line → u.line.command ≡ command
  own_command p S under = ap (λ (l : Line). l.command) under ∙ S.command_is

  -- ---- the invalidation

  -- what it has looked up of its own page
  module _ (p : BeginPlace) (K : HostRunKnows (Begin p) page change h) (there : a < actors_of z) (P : TopicsInvariant z v) (R : ReadyAt (Begin p)) where
    abbrev O : (look : HostLook) × (h.topics.host ≡ Some look) × (look.page ≡ page)
    O = look_of page h K.0.looks.looked K.0.looks.at

    abbrev target : Target
    target = run_target page h.topics

    abbrev looks_then : Topics
    looks_then = part_topics (begin_part p target h.topics) h.topics (found (Begin p))

    begin_comes : (next : BeginNext) → BeginComes next h.state.sizes target looks_then → HostRunUnder (after_run_begin next) page change looks_then u
    begin_comes (begins_next.Goes q) C = (
      R.under.1.0,
      subst (λ w. HasSeenRun page change w u.notes)
          (ap word_looked (sym (begin_leaves_looks p target h.topics (found (Begin p))).host)) R.under.1.1,
    )
    begin_comes begins_next.Begun C =
        begun_under page change u R.under.1.0 looks_then O.0 O.2 ((begin_leaves_looks p target h.topics (found (Begin p))).host ∙ O.1) h.topics.row
        (run_seen_at page change h O.0 O.1 K.0) ((P.looks a there).is_word O.0 O.1).2
        (subst (λ w. HasSeenRun page change w u.notes) (ap word_looked O.1) R.under.1.1)
        (C.1 ∙ (sym (run_is_aimed page h K.0.looks.looked K.0.looks.at K.2).0 ∙ aimed_looked h O.0 K.2 O.1))

  begin_flat : (p : BeginPlace) → HostRunKnows (Begin p) page change h → IsStep z v a line command (place.HostRun (Begin p)) → Invariant z v
      → TopicsInvariant z v → Made (Begin p) → ReadyAt (Begin p) → StepGoes z v a line command (place.HostRun (Begin p)) facts past u
  begin_flat p K S I P M R =
      let target : Target = run_target page h.topics in
      let next : BeginNext = begin_next p h.state.sizes target h.topics (found (Begin p)) in
      let rests = part_rests_at z v a I P S.there in
      run_tells_none z v a line page change facts past u (Begin p) (after_run_begin next) refl M P R (
        R.under.0,
        subst (λ (x : Topics). HostRunUnder (after_run_begin next) page change x u) (sym (run_after_is z v a line page change facts past u (Begin p) M))
            (begin_comes p K S.there P R next (begin_known p h.state.sizes target h.topics (found (Begin p)) rests.sizes (target_is_small page h.topics)
            (run_is_aimed page h K.0.looks.looked K.0.looks.at K.2) rests.frames rests.row rests.level K.1
            (parts_answer (begin_part p target h.topics) (own_index h) h.topics 0 v.words))),
      )

  end_flat : (p : EndPlace) (next : EndNext) → IsStep z v a line command (place.HostRun (End p)) → TopicsInvariant z v → Made (End p) → ReadyAt (End p)
      → GoesBy z v a line command (task (End p)) (place_after (after_run_end next)) (answering (after_run_end next) line) facts past u
  end_flat p (ends_next.Goes q) S P M R = run_tells_none z v a line page change facts past u (End p) (End q) refl M P R (R.under.0, R.under.1)
  end_flat p ends_next.Ended S P M R =
      answers_by z v a line command (task (End p)) facts past u (run_still z v a line page change facts past u (End p) refl M P R) Done R.under.0
      (subst (λ s. Tells z facts h.state.actor u.line.command s Done) (sym R.under.1.2) (refl, refl))

  -- ---- the changes

  -- what a change owes, by whether the run has several pages
  abbrev change_task : Bool → Task
  change_task b = part_task (if b then part.ChangeNext else part.Change (as_it_is (word_looked h.topics.host))) (own_index h) h.topics 0

  abbrev pages : Option PageRun
  pages = h.topics.invalidations.own.pages

  abbrev ChangeOwes : Bool → Type 0
  ChangeOwes b =
      GoesBy z v a line command (change_task b)
      (place.HostRun (if b then (if answer_in (change_task b) v.words == word_next pages then after_page pages else Change)
      else if answer_in (change_task b) v.words == word_looked h.topics.host then End ends.Exclude
      else Change)) ((if b then (if answer_in (change_task b) v.words == word_next pages then page_changed pages else [])
      else if answer_in (change_task b) v.words == word_looked h.topics.host then HostChanged page (entry_of (as_it_is (word_looked h.topics.host))) ∷ []
      else [])
      ++ []) facts past u

  several_owes : IsPart z v a part.ChangeNext → TopicsInvariant z v → ReadyAt Change → HasWork z facts h.state.actor u.line.command → u.line.command ≡ command
      → IfSome pages (ChangesRun page change) → IfSome pages (RunUnder page change u) → ChangeOwes true
  several_owes M P R works asked C under =
      subst (λ w. GoesBy z v a line command (change_task true)
      (place.HostRun (if w then after_page pages else Change)) ((if w then page_changed pages else []) ++ [])
      facts past u) (sym (next_is_won z v a M P))
      (subst (λ (o : Option PageRun). GoesBy z v a line command (change_task true)
      (place.HostRun (after_page o)) (page_changed o ++ []) facts past u) (sym M.needs.is)
      (next_flat z v a line page change facts past u M P R R.under.0 asked works
      (subst (λ (o : Option PageRun). IfSome o (ChangesRun page change)) M.needs.is C)
      (subst (λ (o : Option PageRun). IfSome o (RunUnder page change u)) M.needs.is under)))

  -- Of one page: it is one of the machine's.
  module _ (small : change ≡ Small) (M : IsPart z v a (part.Change (as_it_is (word_looked h.topics.host)))) (P : TopicsInvariant z v) (R : ReadyAt Change)
      (works : HasWork z facts h.state.actor u.line.command) (asked : u.line.command ≡ command) (low : page < z.pages)
      (C : ChangesPage page change h) (fresh : u.stage ≡ Fresh) (N : HasNoted page h.topics u.notes) where
    abbrev looked : ℕ
    looked = word_looked h.topics.host

    abbrev at_page : ℕ
    at_page = page_looked h.topics.host

    -- what it owes, for this change
    abbrev Owed : RunChange → Bool → Type 0
    Owed c won =
        GoesBy z v a line (ChangeRun page c) (change_task false) (place.HostRun (if won then End ends.Exclude else Change))
        ((if won then HostChanged page (entry_of (as_it_is looked)) ∷ [] else []) ++ []) facts past u

    by_won : Ready z v line (ChangeRun page Small) (place.HostRun Change) h.topics facts u → (won : Bool) → (v.words area.Host at_page == looked) ≡ won
        → Owed Small won
    by_won now_ true is =
        page_won z v a line page facts past u M P now_ R.under.0 (asked ∙ ap (ChangeRun page) small) works low C.looks.at C.is fresh N
        (eqb-true (v.words area.Host at_page) looked is)
    by_won now_ false is =
        page_lost z v a line page facts past u M P now_ R.under.0 (asked ∙ ap (ChangeRun page) small) works low C.looks.at C.is fresh N is

    page_owes : ChangeOwes false
    page_owes =
        subst (λ (c : RunChange). Owed c (v.words area.Host at_page == looked)) (sym small)
        (by_won (subst (λ (c : RunChange). Ready z v line (ChangeRun page c) (place.HostRun Change) h.topics facts u) small R)
        (v.words area.Host at_page == looked) refl)

  change_owes : (b : Bool) → IsPart z v a (if b then part.ChangeNext else part.Change (as_it_is (word_looked h.topics.host))) → TopicsInvariant z v
      → ReadyAt Change → HasWork z facts h.state.actor u.line.command → u.line.command ≡ command → page < z.pages → ChangesPages b page change h
      → ChangesUnder b page change h.topics u → ChangeOwes b
  change_owes true M P R works asked low C under = several_owes M P R works asked C under
  change_owes false M P R works asked low C under = page_owes C.asked M P R works asked low C under.0 under.1

  -- ---- each place

  pub host_run_goes_on : (p : HostRunPlace) → HostRunKnows p page change h → IsStep z v a line command (place.HostRun p) → Invariant z v → TopicsInvariant z v
      → Made p → ReadyAt p → StepGoes z v a line command (place.HostRun p) facts past u
  host_run_goes_on Look K S I P M R = look_flat z v a line page change facts past u K S I P M R
  host_run_goes_on LookOn K S I P M R = look_on_flat z v a line page change facts past u K S I P M R
  host_run_goes_on (Begin p) K S I P M R = begin_flat p K S I P M R
  host_run_goes_on Change K S I P M R =
      change_owes (is_several pages) M P R (run_at_once z v a line page change facts past u Change true S I R.under.0 K.3) (own_command Change S R.under.0)
      (run_page_low z v a line page change facts past u page I S.there (page_own h.state.sizes h.state.actor page change K.3)) K.2 R.under.1
  host_run_goes_on (End p) K S I P M R = end_flat p (end_next p (found (End p))) S P M R
