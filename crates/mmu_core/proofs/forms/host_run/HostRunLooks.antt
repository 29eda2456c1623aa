-- What a line knows that maps a run of host pages as one, or its pages by themselves, after each look at one of them.
use Rattle.std.proofs.lemmas.Bool.Decides.{nat_tests}
use Rattle.std.proofs.Common.{◌≡◌, ◌+◌, ◌<◌, ◌≤◌, ℕ, Bool, true, false, refl, sym, subst, ap, ◌∙◌, arith}
use Rattle.std.specs.Prelude.{◌&&◌, if◌then◌else◌, nat_lt, Option, Some, None, is_some}
use Rattle.circular_buffer.specs.Buffer.{Buffer}
use Rattle.core_views.specs.declared.answer.Answer.TheVariants.{Refused}
use Rattle.core_views.specs.declared.answer.Refusal.TheVariants.{IsHuge, NotAligned, OutOfRange}
use Rattle.core_views.specs.declared.cache.Translation.{Translation}
use Rattle.core_views.specs.declared.place.BeginPlace.TheVariants as begins
use Rattle.core_views.specs.declared.place.HostRunPlace.{HostRunPlace}
use Rattle.core_views.specs.declared.place.HostRunPlace.TheVariants.{Look, LookOn, Begin}
use Rattle.core_views.specs.declared.place.Place.TheVariants as place
use Rattle.core_views.specs.declared.topics.HostLook.{HostLook}
use Rattle.core_views.specs.declared.topics.HostRow.{HostRow}
use Rattle.core_views.specs.declared.topics.Topics.{Topics}
use Rattle.core_views.specs.declared.trace.Command.TheVariants.{ChangeRun}
use Rattle.core_views.specs.declared.trace.Line.{Line}
use Rattle.core_views.specs.declared.trace.RunChange.{RunChange}
use Rattle.core_views.specs.Held.{Held}
use Rattle.core_views.specs.HostRuns.{owns_run, run_count}
use Rattle.core_views.specs.Traces.{IsRunChange}
use Rattle.spte_words.proofs.Spans.{span_3}
use Rattle.part_steps.specs.declared.part_step.PartStep.TheVariants as part
use Rattle.part_steps.specs.PageRuns.{looked_on, one_look}
use Rattle.part_steps.specs.PartSteps.{IsAtRest}
use Rattle.part_steps.specs.PartTasks.{page_looked, word_looked}
use Rattle.part_steps.specs.PartTopics.{part_topics}
use Rattle.mmu_core.specs.declared.outcome.Outcome.{Outcome}
use Rattle.mmu_core.specs.declared.outcome.Outcome.TheVariants.{Goes, Ends}
use Rattle.mmu_core.specs.forms.host.HostSteps.{entry_of, maps_large}
use Rattle.mmu_core.specs.forms.host_run.HostRunKnows.{HostRunKnows, LooksAtRun, fits_looked, looks_wanted}
use Rattle.mmu_core.specs.forms.host_run.HostRunSteps.{after_next_look, after_run_look, fits, host_run_outcome, host_run_part, page_after, wants_small}
use Rattle.mmu_core.proofs.forms.access.FaultSame.{not_then}
use Rattle.mmu_core.proofs.forms.host.HostMoves.{rests_free, rests_still}
use Rattle.mmu_core.proofs.forms.host_run.RunLooks.{few_count, look_of, some_count}
use Rattle.mmu_core.proofs.lines.EitherPlace.{one_place}
use Rattle.mmu_core.proofs.lines.KnowsKept.{KnowsBehind}
use Rattle.mmu_core.proofs.lines.LockHeld.{rests_by_seq}
use Rattle.mmu_core.proofs.machine.HandWith.{hand_with}

-- One more page was looked at, where these are fewer than the run has.
pub looked_more : (change : RunChange) (look : HostLook) (row : HostRow) (page v : ℕ) → row.looked < run_count change (entry_of look.word)
    → (looked_on (Some look) row page v).looked ≡ row.looked + 1
looked_more change look row page v few =
    let most = few_count change look.word in
    let below : nat_lt row.looked 262144 ≡ true = grind (arith, nat_tests) in
    ap (λ s. if nat_lt row.looked s then row.looked + 1 else row.looked) span_3 ∙ ap (λ (b : Bool). if b then row.looked + 1 else row.looked) below

module _ (line : Line) (h : Held) (page : ℕ) (change : RunChange) (cached : Buffer Translation) (v : ℕ) where
  -- the hand after the step of a place, with these topics
  abbrev behind : HostRunPlace → Topics → Held
  behind p t = hand_with line (ChangeRun page change) (place.HostRun p) h t cached v

  -- what is known of it
  abbrev Comes : HostRunPlace → Topics → Outcome → Type 0
  Comes p u o = KnowsBehind o (ChangeRun page change) (behind p u)

  -- A look at a page goes on to the next one, or to the invalidation, or the line is refused.
  look_comes : (p : HostRunPlace) (look : HostLook) (row : HostRow) (u : Topics) → u.host ≡ Some look → look.page ≡ page → u.row ≡ row
      → IsRunChange change → owns_run h.state.sizes h.state.actor page change ≡ true → 1 ≤ row.looked → row.looked ≤ run_count change (entry_of look.word)
      → ((wants_small change && maps_large v) ≡ false → wants_small change ≡ true → maps_large look.word ≡ false) → IsAtRest u → u.frames.owned ≡ None
      → u.invalidations.opened ≡ false → Comes p u (after_run_look change look row v)
  look_comes p look row u host at is in_range own_ some most small rests none closed =
      one_place (Comes p u) (wants_small change && maps_large v) (Ends (Refused IsHuge)) _ (λ huge. rests)
      (λ other. one_place (Comes p u) (nat_lt row.looked (run_count change (entry_of look.word))) (Goes (place.HostRun LookOn)) _
      (λ more. (rests, none, looks other, subst (λ n. n < looks_wanted change u) (sym looked_is) (subst (λ n. row.looked < n) (sym wanted_is) (below more))))
      (λ last. one_place (Comes p u) (fits change look row) (Goes (place.HostRun (Begin begins.Exclude))) (Ends (Refused NotAligned))
      (λ fit. (
        record { looks = looks other; all = looked_is ∙ (same_count last ∙ sym wanted_is); fit = fit_is ∙ fit },
        (rests_free u rests, closed),
        rests.owns_none,
        none,
      )) (λ unfit. rests)))
    where
      looked_is : u.row.looked ≡ row.looked
      looked_is = ap (λ (r : HostRow). r.looked) is

      wanted_is : looks_wanted change u ≡ run_count change (entry_of look.word)
      wanted_is = ap (λ (o : Option HostLook). run_count change (entry_of (word_looked o))) host

      fit_is : fits_looked change u.host u.row ≡ fits change look row
      fit_is = ap (λ (o : Option HostLook). fits_looked change o u.row) host ∙ ap (λ (r : HostRow). fits change look r) is

      below : nat_lt row.looked (run_count change (entry_of look.word)) ≡ true → row.looked < run_count change (entry_of look.word)
      below more = grind (arith, nat_tests)

      same_count : nat_lt row.looked (run_count change (entry_of look.word)) ≡ false → row.looked ≡ run_count change (entry_of look.word)
      same_count last = grind (arith, nat_tests)

      looks : (wants_small change && maps_large v) ≡ false → LooksAtRun page change (behind p u)
      looks other = record {
        in_range = in_range;
        own_ = own_;
        looked = ap is_some host;
        at = ap page_looked host ∙ at;
        some = subst (λ n. 1 ≤ n) (sym looked_is) some;
        most = subst (λ n. n ≤ looks_wanted change u) (sym looked_is) (subst (λ n. row.looked ≤ n) (sym wanted_is) most);
        small = λ wants. ap (λ (o : Option HostLook). maps_large (word_looked o)) host ∙ small other wants;
      }

  pub look_known : HostRunKnows Look page change h → h.topics.invalidations.opened ≡ false
      → KnowsBehind (host_run_outcome Look page change h v) (ChangeRun page change) (behind Look (part_topics (host_run_part Look page change h) h.topics v))
  look_known K closed = by (owns_run h.state.sizes h.state.actor page change) refl
    where
      by : (own_ : Bool) → owns_run h.state.sizes h.state.actor page change ≡ own_
          → Comes Look (part_topics (if own_ then part.Host page else part.Seq) h.topics v)
          (if own_ then after_run_look change (record { page = page; word = v }) one_look v else Ends (Refused OutOfRange))
      by false is = rests_by_seq h.topics v K.0
      by true is =
          let u : Topics = part_topics (part.Host page) h.topics v in
          look_comes Look (record { page = page; word = v }) one_look u refl refl refl K.2 is (omega arith) (some_count change v)
          (λ other wants. not_then (wants_small change) (maps_large v) other wants) (rests_still h.topics u refl refl refl refl refl refl K.0) K.1 closed

  pub look_on_known : HostRunKnows LookOn page change h → h.topics.invalidations.opened ≡ false
      → KnowsBehind (host_run_outcome LookOn page change h v) (ChangeRun page change)
      (behind LookOn (part_topics (host_run_part LookOn page change h) h.topics v))
  look_on_known K closed =
      let O = look_of page h K.2.looked K.2.at in
      let p : ℕ = page_after page change h.topics in
      let row : HostRow = looked_on (Some O.0) h.topics.row p v in
      let u : Topics = part_topics (part.HostOn p) h.topics v in
      let few = subst (λ (o : Option HostLook). h.topics.row.looked < run_count change (entry_of (word_looked o))) O.1 K.3 in
      let more = looked_more change O.0 h.topics.row p v few in
      subst (λ (o : Option HostLook). Comes LookOn u (after_next_look change o h.topics.row p v)) (sym O.1)
      (look_comes LookOn O.0 row u O.1 O.2 (ap (λ (o : Option HostLook). looked_on o h.topics.row p v) O.1) K.2.in_range K.2.own_
      (subst (λ n. 1 ≤ n) (sym more) (omega arith)) (subst (λ n. n ≤ run_count change (entry_of O.0.word)) (sym more) (omega (arith, few)))
      (λ other wants. subst (λ (o : Option HostLook). maps_large (word_looked o) ≡ false) O.1 (K.2.small wants))
      (rests_still h.topics u refl refl refl refl refl refl K.0) K.1 closed)
