-- What a line has counted since it began or since its last delay, and what it has left, are together no more than its command allows.
use Rattle.std.proofs.Common.{◌≡◌, ◌⊎◌, inl, inr, ◌+◌, ◌<◌, ◌≤◌, ℕ, List, [], ◌∷◌, length, refl, sym, subst, ap, ◌∙◌, arith}
use Rattle.std.specs.Prelude.{Bool, true, false, ◌-◌, ◌^◌, nat_lt, if◌then◌else◌}
use Rattle.std.proofs.lemmas.Bool.Decides.{nat_tests}
use Rattle.core_views.specs.declared.kind.Kind.{Kind}
use Rattle.core_views.specs.declared.place.Place.{Place}
use Rattle.core_views.specs.declared.place.Place.TheVariants as place
use Rattle.core_views.specs.declared.sizes.Sizes.{Sizes}
use Rattle.core_views.specs.declared.topics.Topics.{Topics}
use Rattle.core_views.specs.declared.trace.Command.{Command}
use Rattle.core_views.specs.declared.trace.Line.{Line}
use Rattle.core_views.specs.Held.{Held}
use Rattle.core_views.specs.Sizes.{AreSizes, actors_of}
use Rattle.spte_words.specs.declared.area.Area.TheVariants as area
use Rattle.mmu_core.specs.declared.outcome.Outcome.{Outcome}
use Rattle.mmu_core.specs.declared.outcome.Outcome.TheVariants.{Goes, Ends}
use Rattle.mmu_core.specs.lines.Bounds.{most_steps}
use Rattle.mmu_core.specs.lines.Forms.{KnowsPart, steps_left, outcome_at}
use Rattle.mmu_core.specs.lines.Delays.{counted, delays_counted, one_more, steps_counted}
use Rattle.mmu_core.specs.machine.Enabled.{mmu}
use Rattle.mmu_core.specs.invariant.Invariant.{Holds, UnderWay}
use Rattle.mmu_core.specs.invariant.Laws.{IsSound}
use Rattle.mmu_core.specs.alone.LineAlone.{hand_left}
use Rattle.mmu_core.specs.machine.Machine.{answered, Legal, May, Step, World, effect, hand_in, run}
use Rattle.part_steps.specs.PartBounds.{PartRests}
use Rattle.mmu_core.specs.lines.Rests.{IsUnderWay}
use Rattle.mmu_core.specs.machine.Steps.{delays_at, has_line, line_at, place_at, task_at}
use Rattle.mmu_core.specs.machine.Outcomes.{place_after}
use Rattle.mmu_laws.specs.turns.TurnLaws.{CountFits, CountsOn}
use Rattle.mmu_core.specs.machine.Turns.{line_of}
use Rattle.mmu_core.specs.machine.View.{View, answer_in, hand_after, view, word_in}
use Rattle.mmu_core.specs.machine.Worlds.{IsStart, Reachable}
use Rattle.mmu_core.proofs.invariant.HandLeft.{hand_few, hand_some, left_of}
use Rattle.mmu_core.proofs.lines.StepsFew.{most_small, place_few}
use Rattle.mmu_core.proofs.machine.Columns.{at_upd}
use Rattle.mmu_core.proofs.invariant.PartBounded.{part_rests_at}
use Rattle.mmu_core.proofs.start.StartWords.{hand_is}
use Rattle.mmu_core.proofs.start.Starts.{reached_good, start_good}
use Rattle.mmu_laws.proofs.forms.access.StayNearer.{Nearer}
use Rattle.mmu_laws.proofs.turns.TurnsNearer.{hand_behind, nearer_here, same_sizes}
use Rattle.mmu_core.proofs.machine.Which.{has_line_is, is_next}
use Rattle.mmu_core.proofs.machine.Worlds.{Takes, TakesPart, good_run, good_step, takes, takes_line}

-- ---- the hand after a step

one_more_few : (n : ℕ) → one_more n ≤ n + 1
one_more_few n = by (nat_lt n (2 ^ 64 - 1))
  where
    by : (b : Bool) → (if b then n + 1 else n) ≤ n + 1
    by true = omega arith
    by false = omega arith

-- What was counted where a line's step comes fits with what it has left there.
stood_fits : (q : Place) (h : Held) (n left : ℕ) → left ≤ most_steps h.state.sizes (line_at q h).command
    → (IsUnderWay q → n + left ≤ most_steps h.state.sizes h.state.line.command) → counted q n + left ≤ most_steps h.state.sizes (line_at q h).command
stood_fits place.Between h n left bounded under = omega (arith, bounded)
stood_fits _ h n left bounded under = under tt

-- Behind a delay nothing is counted, and else one step more, of which there was one left.
delay_fits : (delay : Bool) (o : Outcome) (c : Command) (y : Sizes) (u : Topics) (n left most : ℕ) → n + left ≤ most → 0 < left
    → (delay ≡ false → Nearer o c y u left)
    → (IsUnderWay (place_after o) → steps_left (place_after o) c y u ≤ most)
    → (steps_counted delay n ≤ most) × (IsUnderWay (place_after o) → steps_counted delay n + steps_left (place_after o) c y u ≤ most)
delay_fits true o c y u n left most fits some nearer bounded = (omega (arith, fits), λ under. let few = bounded under in omega (arith, few))
delay_fits false (Goes p) c y u n left most fits some nearer bounded =
    let less : steps_left p c y u < left = nearer refl in
    let more = one_more_few n in
    (omega (arith, fits, some, more), λ under. omega (arith, fits, less, more))
delay_fits false (Ends answer) c y u n left most fits some nearer bounded =
    let more = one_more_few n in (omega (arith, fits, some, more), λ under. absurd under)

fits_by : (g : Held) (q : Place) (y : Sizes) (command : Command) (n : ℕ) → g.state.place ≡ q → g.state.sizes ≡ y → g.state.line.command ≡ command
    → g.state.steps ≡ n
    → (n ≤ most_steps y command) × (IsUnderWay q → n + steps_left q command y g.topics ≤ most_steps y command) → CountFits g
fits_by g q y command n stands sizes is steps fits =
    let most : most_steps g.state.sizes g.state.line.command ≡ most_steps y command =
    ap (λ x. most_steps x g.state.line.command) sizes ∙ ap (most_steps y) is in
    record {
      few = let few = fits.0 in omega (arith, few, most, steps);
      with_left = λ under.
          let there : IsUnderWay q = subst IsUnderWay stands under in
          let both = fits.1 there in
          let left : hand_left g ≡ steps_left q command y g.topics =
          left_of q g command stands there is ∙ ap (λ (x : Sizes). steps_left q command x g.topics) sizes in
          omega (arith, both, most, left, steps);
    }

-- The count is below the last number of 64 bits, so it goes on.
goes_one_more : (n : ℕ) (y : Sizes) (command : Command) → AreSizes y → n < most_steps y command → one_more n ≡ n + 1
goes_one_more n y command S few =
    let most = most_small y command in
    let low : n < 2 ^ 64 - 1 = omega (arith, few, most, S.pool.1, S.frames.1, S.pages.1) in
    let small : nat_lt n (2 ^ 64 - 1) ≡ true = grind (arith, nat_tests) in
    ap (λ b. if b then n + 1 else n) small

counts_by : (delay : Bool) (h g : Held) (left : ℕ) → AreSizes h.state.sizes
    → counted h.state.place h.state.steps + left ≤ most_steps h.state.sizes (line_of h).command → 0 < left
    → g.state.steps ≡ steps_counted delay (counted h.state.place h.state.steps)
    → g.state.delays ≡ delays_counted delay (counted h.state.place h.state.delays) → CountsOn delay h g
counts_by false h g left S fits some steps delays =
    (steps ∙ goes_one_more (counted h.state.place h.state.steps) h.state.sizes (line_of h).command S (omega (arith, fits, some)), delays)
counts_by true h g left S fits some steps delays = (omega (arith, fits, some), steps, delays)

-- A hand with no line left has none under way.
idle_under : (q : Place) (h : Held) → has_line h ≡ false → UnderWay q h → IsUnderWay q → ⊥
idle_under place.Between h none under is = is
idle_under _ h none under is = let has = has_line_is h under.1 in cc (none, has)

-- ---- from world to world

abbrev AllFit : Sizes → World Held → Type 0
AllFit z w = (i : ℕ) → i < actors_of z → CountFits (hand_in mmu w i)

module _ (z : Sizes) (w : World Held) (s : Step Kind) (G : IsSound z w) (may : May mmu w s) (A : AllFit z w) where
  abbrev a : ℕ
  a = s.actor

  abbrev h : Held
  h = hand_in mmu w a

  abbrev line : Line
  line = line_at h.state.place h

  abbrev stood : Place
  stood = place_at h.state.place h

  abbrev x : ℕ
  x = answer_in (task_at stood line.command h) (word_in z w)

  abbrev after : Held
  after = hand_after line line.command stood h x

  module _ (T : Takes z w s h) where
    there : a < actors_of z
    there = T.is_step.there

    R : PartRests h
    R = part_rests_at z (view z w) a G.holds G.topics there

    -- what the line has counted fits with what it has left where it stands
    pub here_fits : counted h.state.place h.state.steps + hand_left h ≤ most_steps h.state.sizes line.command
    here_fits = stood_fits h.state.place h h.state.steps (hand_left h) (hand_few z (view z w) a G.holds G.topics there T.is_step.left) (A a there).with_left

    -- where it goes on to, it has no more left than its command allows
    next_few : IsUnderWay (place_after (outcome_at stood line.command h x))
        → steps_left (place_after (outcome_at stood line.command h x)) line.command h.state.sizes after.topics ≤ most_steps h.state.sizes line.command
    next_few under =
        let next = good_step z w s G may in
        let u : View = view z (effect mmu w s) in
        let here : u.hand a ≡ after = hand_behind z w s G may T.has in
        let level : after.topics.walk.level ≤ 4 = subst (λ (g : Held). g.topics.walk.level ≤ 4) here (part_rests_at z u a next.holds next.topics there).level in
        let sizes : after.state.sizes ≡ h.state.sizes = same_sizes z w s G may T.has in
        subst (λ (y : Sizes). steps_left (place_after (outcome_at stood line.command h x)) line.command y after.topics ≤ most_steps y line.command) sizes
        (place_few (place_after (outcome_at stood line.command h x)) line.command z (u.words area.Pool) (u.words area.Slots 0) after
        (subst (λ (g : Held). Holds z (u.words area.Pool) (u.words area.Slots 0) g.state.place g.state.line.command g) here (next.holds.loads a there))
        (subst (λ (g : Held). KnowsPart g.state.place g.state.line.command g) here (next.holds.knows a there)) (subst AreSizes (sym sizes) R.sizes) level)

    own_fits : CountFits after
    own_fits =
        fits_by after (place_after (outcome_at stood line.command h x)) h.state.sizes line.command
        (steps_counted (delays_at stood line.command h x) (counted h.state.place h.state.steps))
        refl (same_sizes z w s G may T.has) refl refl
        (delay_fits (delays_at stood line.command h x) (outcome_at stood line.command h x) line.command h.state.sizes after.topics
        (counted h.state.place h.state.steps)
        (hand_left h)
        (most_steps h.state.sizes line.command) here_fits (hand_some h) (nearer_here z w s G may T.has) next_few)

    own_counts : CountsOn (delays_at stood line.command h (answered mmu w s.kind)) h (hand_in mmu (effect mmu w s) a)
    own_counts =
        subst (λ n. CountsOn (delays_at stood line.command h n) h (hand_in mmu (effect mmu w s) a)) (sym T.answers)
        (subst (λ (g : Held). CountsOn (delays_at stood line.command h x) h g) (sym (hand_behind z w s G may T.has))
        (counts_by (delays_at stood line.command h x) h after (hand_left h) R.sizes here_fits (hand_some h) refl refl))

    line_fits : AllFit z (effect mmu w s)
    line_fits =
        subst (λ (v : View). (i : ℕ) → i < actors_of z → CountFits (v.hand i)) (sym T.leads)
        (at_upd (λ i (g : Held). i < actors_of z → CountFits g) (hand_in mmu w) a after (λ lt. own_fits) (λ i ne. A i))

  part_fits : TakesPart z w s h → AllFit z (effect mmu w s)
  part_fits T =
      subst (λ (v : View). (i : ℕ) → i < actors_of z → CountFits (v.hand i)) (sym T.leads)
      (at_upd (λ i (g : Held). i < actors_of z → CountFits g) (hand_in mmu w) a _
      (λ there. record { few = (A a there).few; with_left = λ under. absurd (idle_under h.state.place h T.none_left (G.holds.lines a there).under under) })
      (λ i ne. A i))

  fits_step : AllFit z (effect mmu w s)
  fits_step = by (takes z w s G may)
    where
      by : Takes z w s h ⊎ TakesPart z w s h → AllFit z (effect mmu w s)
      by (inl T) = line_fits T
      by (inr T) = part_fits T

fits_run : (z : Sizes) (w : World Held) (ss : List (Step Kind)) → IsSound z w → Legal mmu w ss → AllFit z w → AllFit z (run mmu w ss)
fits_run z w [] G legal A = A
fits_run z w (s ∷ ss) G legal A = fits_run z (effect mmu w s) ss (good_step z w s G legal.0) legal.1 (fits_step z w s G legal.0 A)

start_fits : (z : Sizes) (lines : List Line) (w : World Held) → IsStart z lines w → AllFit z w
start_fits z lines w start i lt = subst CountFits (sym (hand_is z lines w i start lt)) (record { few = omega arith; with_left = λ under. absurd under })

pub counts_fit : (w : World Held) (a : ℕ) → Reachable w → a < length w.hands → CountFits (hand_in mmu w a)
counts_fit w a r there =
    let G = good_run r.sizes r.start r.leads.steps (start_good r.sizes r.lines r.start r.is_start) r.leads.legal in
    let all : AllFit r.sizes w =
    subst (AllFit r.sizes) r.leads.ends (fits_run r.sizes r.start r.leads.steps (start_good r.sizes r.lines r.start r.is_start) r.leads.legal
    (start_fits r.sizes r.lines r.start r.is_start)) in
    let hands : length w.hands ≡ actors_of r.sizes = ap (λ (u : World Held). length u.hands) (sym r.leads.ends) ∙ G.hands in
    all a (omega (arith, there, hands))

pub steps_counted_on : (w : World Held) (s : Step Kind) → Reachable w → May mmu w s → has_line (hand_in mmu w s.actor) ≡ true
    → CountsOn (delays_at (place_at (hand_in mmu w s.actor).state.place (hand_in mmu w s.actor)) (line_of (hand_in mmu w s.actor)).command
    (hand_in mmu w s.actor) (answered mmu w s.kind)) (hand_in mmu w s.actor) (hand_in mmu (effect mmu w s) s.actor)
steps_counted_on w s r may has =
    let G = reached_good w r in
    let fits : AllFit r.sizes w = λ i lt. counts_fit w i r (omega (arith, lt, G.hands)) in
    own_counts r.sizes w s G may fits (takes_line r.sizes w s G may (is_next (hand_in mmu w s.actor) s.kind may.enabled has))

-- Where a line makes a step, it has counted fewer than its command allows.
pub counts_have_room : (w : World Held) (s : Step Kind) → Reachable w → May mmu w s → has_line (hand_in mmu w s.actor) ≡ true
    → counted (hand_in mmu w s.actor).state.place (hand_in mmu w s.actor).state.steps + 1
    ≤ most_steps (hand_in mmu w s.actor).state.sizes (line_of (hand_in mmu w s.actor)).command
counts_have_room w s r may has =
    let h : Held = hand_in mmu w s.actor in
    let G = reached_good w r in
    let fits : AllFit r.sizes w = λ i lt. counts_fit w i r (omega (arith, lt, G.hands)) in
    let room = here_fits r.sizes w s G may fits (takes_line r.sizes w s G may (is_next h s.kind may.enabled has)) in
    let some = hand_some h in
    omega (arith, room, some)
