use Rattle.std.proofs.Common.{arith, ◌≡◌, ◌+◌, ◌-◌, ◌<◌, ℕ, sym, subst, ap, ◌∙◌, Some}
use Rattle.std.specs.Prelude.{true, false, if◌then◌else◌}
use Rattle.core_views.specs.declared.topics.Topics.{Topics}
use Rattle.core_views.specs.declared.progress.Progress.{Progress}
use Rattle.core_views.specs.Held.{Held}
use Rattle.part_steps.specs.declared.part_step.PartStep.TheVariants as part
use Rattle.core_views.specs.Sizes.{actors_of, index_of}
use Rattle.part_steps.specs.PartTasks.{own_index, part_kind}
use Rattle.part_steps.specs.PartHoldings.{next_watched}
use Rattle.part_steps.specs.PartSteps.{PartNeeds}
use Rattle.part_steps.specs.ControlBits.{in_section}
use Rattle.grace_period.specs.Watches.{watched_next}
use Rattle.grace_period.proofs.Looks.{fewer_left, look_free, more_needs, not_done, wait_needs}
use Rattle.step_seats.proofs.Where.{where_made}
use Rattle.step_seats.specs.PartTurns.{MadePart, waits}
use Rattle.grace_period.proofs.watch.Watch.turn.Goals as goal
use Rattle.grace_period.proofs.watch.Watch.turn.Goals.{then-next_watched-actors, else-next_watched-actors}

pub returns-then-in_section-clause-alone : goal.returns-then-in_section-clause-alone
returns-then-in_section-clause-alone g c =
    let s = c.args.s.now in
    let h = (g.S.Stepper.seat s).hand in
    let at : c.next_look-index.result ≡ watched_next c.args.self.now h =
    c.next_look-index.ensures ∙ ap (λ (x : Held). watched_next c.args.self.now x) c.hand-hand.ensures.hand in
    let looks = subst (λ i. MadePart (part.Watch i) c.args.note c.make_part-value.result (g.S.Stepper.seat s) (g.S.Stepper.seat c.make_part-value.new.s))
    at c.make_part-value.ensures.made in
    where_made looks (λ w made has others. sym c.if-in_section.true ∙ c.in_section.ensures
    ∙ look_free (Some _) (Some _) _ _ _ _ _ made.has made.world c.requires.may.needs others)

pub returns-clause-nearer : goal.returns-clause-nearer
returns-clause-nearer g c = λ more.
    let s = c.args.s.now in
    let h = (g.S.Stepper.seat s).hand in
    let g_ = (g.S.Stepper.seat c.make_part-value.new.s).hand in
    let made = c.make_part-value.ensures.made in
    let at : c.next_look-index.result ≡ watched_next c.args.self.now h =
    c.next_look-index.ensures ∙ ap (λ (x : Held). watched_next c.args.self.now x) c.hand-hand.ensures.hand in
    let found : in_section c.make_part-value.result ≡ false = sym c.in_section.ensures ∙ c.if-in_section.false in
    let watched = ap (λ (t : Topics). t.watched) made.topics ∙ ap (λ b. c.next_look-index.result + (if b then 0 else 1)) found in
    subst (λ (i : ℕ). actors_of g_.state.sizes - next_watched (own_index g_) g_.topics.watched < actors_of h.state.sizes - i) at
    (fewer_left h g_ (part_kind h (part.Watch c.next_look-index.result) c.args.note) c.next_look-index.result c.make_part-value.result
    (subst (λ i. i < actors_of h.state.sizes) (sym at) c.requires.may.needs.0) made.hand watched)

pub returns-then-in_section-clause-goes_on : goal.returns-then-in_section-clause-goes_on
returns-then-in_section-clause-goes_on g c = λ again.
    let s = c.args.s.now in
    let h = (g.S.Stepper.seat s).hand in
    let g_ = (g.S.Stepper.seat c.make_part-value.new.s).hand in
    let made = c.make_part-value.ensures.made in
    let at : c.next_look-index.result ≡ watched_next c.args.self.now h =
    c.next_look-index.ensures ∙ ap (λ (x : Held). watched_next c.args.self.now x) c.hand-hand.ensures.hand in
    let found : in_section c.make_part-value.result ≡ true = sym c.in_section.ensures ∙ c.if-in_section.true in
    let watched = ap (λ (t : Topics). t.watched) made.topics ∙ ap (λ b. c.next_look-index.result + (if b then 0 else 1)) found in
    wait_needs h g_ (part_kind h (part.Watch c.next_look-index.result) c.args.note) c.next_look-index.result c.make_part-value.result made.hand
    (omega (arith, watched)) (subst (λ i. PartNeeds (part.Watch i) h) (sym at) c.requires.may.needs)

pub returns-clause-goes_on : goal.returns-clause-goes_on
returns-clause-goes_on g c = λ again.
    let s = c.args.s.now in
    let h = (g.S.Stepper.seat s).hand in
    let g_ = (g.S.Stepper.seat c.make_part-value.new.s).hand in
    let made = c.make_part-value.ensures.made in
    let found : in_section c.make_part-value.result ≡ false = sym c.in_section.ensures ∙ c.if-in_section.false in
    let watched = ap (λ (t : Topics). t.watched) made.topics ∙ ap (λ b. c.next_look-index.result + (if b then 0 else 1)) found in
    let own : c.index_of-own.result ≡ own_index h =
    c.index_of-own.ensures ∙ ap (λ (x : Progress). index_of x.sizes c.progress-2.result.now.actor) c.progress.ensures
    ∙ ap (λ (x : Progress). index_of c.hand-hand.result.now.core.state.sizes x.actor) c.progress-2.ensures
    ∙ ap (λ (x : Held). own_index x) c.hand-hand.ensures.hand in
    let actors : c.actors.result ≡ actors_of h.state.sizes =
    c.actors.ensures ∙ ap (λ (x : Progress). actors_of x.sizes) c.progress.ensures ∙ ap (λ (x : Held). actors_of x.state.sizes) c.hand-hand.ensures.hand in
    let next_ : c.next_watched.result ≡ next_watched (own_index h) (c.next_look-index.result + 1) =
    c.next_watched.ensures ∙ ap (λ n. next_watched n (c.next_look-index.result + 1)) own in
    let left : next_watched (own_index h) (c.next_look-index.result + 1) < actors_of h.state.sizes =
    elim c.if-next_watched-actors.branch [
      | then-next_watched-actors w ↦ omega (arith, w.if-next_watched-actors, next_, actors)
      | else-next_watched-actors w ↦ absurd (not_done c.if-next_watched-actors.result tt w.result-is again)
    ] in
    more_needs h g_ (part_kind h (part.Watch c.next_look-index.result) c.args.note) c.next_look-index.result c.make_part-value.result made.hand watched left

pub returns-clause-alone : goal.returns-clause-alone
returns-clause-alone g c =
    let s = c.args.s.now in
    let h = (g.S.Stepper.seat s).hand in
    let at : c.next_look-index.result ≡ watched_next c.args.self.now h =
    c.next_look-index.ensures ∙ ap (λ (x : Held). watched_next c.args.self.now x) c.hand-hand.ensures.hand in
    let looks = subst (λ i. MadePart (part.Watch i) c.args.note c.make_part-value.result (g.S.Stepper.seat s) (g.S.Stepper.seat c.make_part-value.new.s))
    at c.make_part-value.ensures.made in
    let goes_on : waits c.if-next_watched-actors.result ≡ false =
    elim c.if-next_watched-actors.branch [ then-next_watched-actors w ↦ ap waits w.result-is | else-next_watched-actors w ↦ ap waits w.result-is ] in
    where_made looks (λ w made has others. goes_on)
