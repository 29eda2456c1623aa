-- What the steps of lines come to: what each hand has counted, a step longer; and the sum over all hands.
use Rattle.std.proofs.Common.{◌≡◌, ◌⊎◌, inl, inr, ◌+◌, ◌<◌, ◌≤◌, ℕ, List, [], ◌∷◌, length, length-append, refl, sym, subst, ap, ◌∙◌, arith}
use Rattle.std.proofs.lemmas.Bool.{cases_Bool}
use Rattle.std.proofs.lemmas.Bool.Decides.{nat_tests}
use Rattle.std.specs.Prelude.{Bool, true, false, not, ◌&&◌, if◌then◌else◌}
use Rattle.core_views.specs.declared.answer.AnsweredLine.{AnsweredLine}
use Rattle.core_views.specs.declared.kind.Kind.{Kind}
use Rattle.core_views.specs.declared.place.Place.{Place}
use Rattle.core_views.specs.declared.place.Place.TheVariants as place
use Rattle.core_views.specs.declared.sizes.Sizes.{Sizes}
use Rattle.core_views.specs.declared.trace.Line.{Line}
use Rattle.core_views.specs.Held.{Held}
use Rattle.core_views.specs.Sizes.{actors_of}
use Rattle.mmu_core.specs.declared.outcome.Outcome.{Outcome}
use Rattle.mmu_core.specs.declared.outcome.Outcome.TheVariants.{Goes, Ends}
use Rattle.mmu_core.specs.lines.Bounds.{most_steps}
use Rattle.mmu_core.specs.lines.Delays.{counted}
use Rattle.mmu_core.specs.machine.Enabled.{mmu}
use Rattle.mmu_core.specs.invariant.Laws.{IsSound}
use Rattle.mmu_core.specs.machine.Machine.{Legal, May, Step, World, answered, effect, hand_in, run}
use Rattle.mmu_core.specs.lines.Rests.{IsUnderWay}
use Rattle.mmu_core.specs.machine.Steps.{has_line, idle_after, line_at}
use Rattle.mmu_core.specs.machine.Sums.{one_if}
use Rattle.mmu_laws.specs.turns.TurnLaws.{CountsOn}
use Rattle.mmu_core.specs.machine.Turns.{Comes, line_of, outcome_of}
use Rattle.mmu_core.specs.machine.Worlds.{Reachable}
use Rattle.mmu_core.proofs.machine.Extend.{goes_on, leads_to_end}
use Rattle.mmu_core.proofs.machine.HandAfter.{next_comes}
use Rattle.mmu_core.proofs.machine.LineRuns.{own_hand}
use Rattle.mmu_core.proofs.start.Starts.{reached_good}
use Rattle.mmu_laws.proofs.causes.StarvedScan.{legal_parts}
use Rattle.mmu_laws.proofs.turns.StepsCounted.{counts_fit, counts_have_room, steps_counted_on}
use Rattle.mmu_core.proofs.machine.Which.{next_of_part}
use Rattle.core_theorem.specs.Runs.{IsRun}
use Rattle.core_theorem.proofs.ActorSums.{sum_few, sum_moves, sum_of}
use Rattle.core_theorem.specs.Turns.{CountsAreFew, StepsAreFew, begins_line, bound_of, bound_under_way, bounds_in, bounds_of, delays_line}
use Rattle.core_theorem.specs.Turns.{hand_delays, how_many, is_of_line, is_under_way}

-- ---- worlds that are reached

-- The world is reached by a run of a machine of these sizes.
pub record IsReached (z : Sizes) (u : World Held) : Type 0 where
  pub reached : Reachable u
  pub sizes : reached.sizes ≡ z

pub reached_sound : (z : Sizes) (u : World Held) → IsReached z u → IsSound z u
reached_sound z u R = subst (λ (y : Sizes). IsSound y u) R.sizes (reached_good u R.reached)

pub reached_more : (z : Sizes) (u : World Held) (s : Step Kind) → IsReached z u → May mmu u s → IsReached z (effect mmu u s)
reached_more z u s R may = record {
  reached = record {
    sizes = R.reached.sizes;
    lines = R.reached.lines;
    start = R.reached.start;
    is_start = R.reached.is_start;
    leads = goes_on mmu R.reached.start u s R.reached.leads may;
  };
  sizes = R.sizes;
}

pub reached_behind : (z : Sizes) (lines : List Line) (w : World Held) (ss : List (Step Kind)) → IsRun z lines w ss → IsReached z (run mmu w ss)
reached_behind z lines w ss R =
    record { reached = record { sizes = z; lines = lines; start = w; is_start = R.start; leads = leads_to_end mmu w ss R.legal }; sizes = refl }

-- A hand has counted no more than its line's command allows.
pub count_few : (z : Sizes) (u : World Held) (i : ℕ) → IsReached z u → i < actors_of z
    → (hand_in mmu u i).state.steps ≤ most_steps z (hand_in mmu u i).state.line.command
count_few z u i R there =
    let G = reached_sound z u R in
    let same : (hand_in mmu u i).state.sizes ≡ z = (G.holds.lines i there).sizes in
    let few = (counts_fit u i R.reached (omega (arith, there, G.hands))).few in
    subst (λ (y : Sizes). (hand_in mmu u i).state.steps ≤ most_steps y (hand_in mmu u i).state.line.command) same few

pub counts_are_few : CountsAreFew
counts_are_few z lines w ss R actor there = count_few z (run mmu w ss) actor (reached_behind z lines w ss R) there

-- ---- one step of a line

-- what the hand has counted where its line's next step comes, and 1 where a line is under way
abbrev pub counted_in : Held → ℕ
counted_in h = counted h.state.place h.state.steps

abbrev pub open_in : Held → ℕ
open_in h = one_if (is_under_way h.state.place)

-- The line goes on: no delay is counted. Or it is answered: nothing is counted after it.
pub record CountsGoing (delay : Bool) (h g : Held) : Type 0 where
  pub line_is : line_of g ≡ line_of h
  pub answers : length g.answers ≡ length h.answers
  pub is_open : open_in g ≡ 1
  pub one_more : delay ≡ false → counted_in g ≡ counted_in h + 1

pub record CountsEnding (h g : Held) : Type 0 where
  pub answers : length g.answers ≡ length h.answers + 1
  pub is_open : open_in g ≡ 0
  pub none : counted_in g ≡ 0

-- There was room for the step, and the line goes on or is answered.
pub record Counts (most : ℕ) (delay : Bool) (h g : Held) : Type 0 where
  pub room : counted_in h + 1 ≤ most
  pub behind : CountsGoing delay h g ⊎ CountsEnding h g

under_open : (p : Place) → IsUnderWay p → one_if (is_under_way p) ≡ 1
under_open place.Between under = absurd under
under_open _ under = refl

under_line : (p : Place) (h : Held) → IsUnderWay p → line_at p h ≡ h.state.line
under_line place.Between h under = absurd under
under_line _ h under = refl

under_counted : (p : Place) (n : ℕ) → IsUnderWay p → counted p n ≡ n
under_counted place.Between n under = absurd under
under_counted _ n under = refl

-- what was counted is at most what the command of the line under way allows, and nothing where none is under way
counted_few : (z : Sizes) (p : Place) (h : Held) → h.state.steps ≤ most_steps z h.state.line.command
    → counted p h.state.steps ≤ (if is_under_way p then most_steps z (line_at p h).command else 0)
counted_few z place.Between h few = omega arith
counted_few z _ h few = few

going : (delay : Bool) (h g : Held) → CountsOn delay h g → IsUnderWay g.state.place → delay ≡ false → counted_in g ≡ counted_in h + 1
going false h g C under no_ = under_counted g.state.place g.state.steps under ∙ C.0
going true h g C under no_ = absurd (cc no_)

behind_by : (o : Outcome) (delay : Bool) (h g : Held) → Comes o (line_of h) h g → CountsOn delay h g → CountsGoing delay h g ⊎ CountsEnding h g
behind_by (Goes p) delay h g M C =
    inl (record {
      line_is = under_line g.state.place g M.under_way ∙ M.line_is;
      answers = ap (λ (xs : List AnsweredLine). length xs) M.answers;
      is_open = under_open g.state.place M.under_way;
      one_more = going delay h g C M.under_way;
    })
behind_by (Ends answer) delay h g M C = inr (record {
  answers = ap (λ (xs : List AnsweredLine). length xs) M.answers ∙ length-append h.answers _;
  is_open = ap (λ p. one_if (is_under_way p)) M.between;
  none = ap (λ p. counted p g.state.steps) M.between;
})

module _ (z : Sizes) (u : World Held) (s : Step Kind) (R : IsReached z u) (may : May mmu u s) where
  there : s.actor < actors_of z
  there = let hands = (reached_sound z u R).hands in let at = may.there in omega (arith, at, hands)

  -- A step of a line.
  pub step_counts : has_line (hand_in mmu u s.actor) ≡ true
      → Counts (bound_of z (hand_in mmu u s.actor)) (hand_delays (hand_in mmu u s.actor) (answered mmu u s.kind)) (hand_in mmu u s.actor)
      (hand_in mmu (effect mmu u s) s.actor)
  step_counts has =
      let h : Held = hand_in mmu u s.actor in
      let v : ℕ = answered mmu u s.kind in
      let g : Held = hand_in mmu (effect mmu u s) s.actor in
      let C : CountsOn (hand_delays h v) h g = steps_counted_on u s R.reached may has in
      let left : length h.answers < length h.lines = grind (arith, nat_tests) in
      let comes : Comes (outcome_of h v) (line_of h) h g =
      subst (Comes (outcome_of h v) (line_of h) h) (sym (own_hand u s may.there)) (next_comes h s.kind v left) in
      record {
        room =
            subst (λ (y : Sizes). counted_in h + 1 ≤ bound_of y h) ((reached_sound z u R).holds.lines s.actor there).sizes
            (counts_have_room u s R.reached may has);
        behind = behind_by (outcome_of h v) (hand_delays h v) h g comes C;
      }

  -- A step of a part leaves what is counted.
  pub part_still : has_line (hand_in mmu u s.actor) ≡ false
      → hand_in mmu (effect mmu u s) s.actor ≡ idle_after (hand_in mmu u s.actor) s.kind (answered mmu u s.kind)
  part_still none = own_hand u s may.there ∙ next_of_part (hand_in mmu u s.actor) s.kind (answered mmu u s.kind) none

-- ---- all lines together

pub one_begins : (has under : Bool) → has ≡ true → one_if (has && not under) + one_if under ≡ 1
one_begins true true is = refl
one_begins true false is = refl
one_begins false under is = absurd (cc is)

-- What a line that is under way or begins comes to, and what a delay does.
open_one : (under : Bool) (n : ℕ) → one_if under ≡ 1 → (if under then n else 0) ≡ n
open_one true n one = refl
open_one false n one = absurd (omega (arith, one))

open_none : (under : Bool) (n : ℕ) → one_if under ≡ 0 → (if under then n else 0) ≡ 0
open_none true n none = absurd (omega (arith, none))
open_none false n none = refl

begins_once : (has under : Bool) (n : ℕ) → has ≡ true → (if has && not under then n else 0) + (if under then n else 0) ≡ n
begins_once true true n is = omega arith
begins_once true false n is = omega arith
begins_once false under n is = absurd (cc is)

also : (has b : Bool) (n : ℕ) → has ≡ true → (if has && b then n else 0) ≡ (if b then n else 0)
also true b n is = refl
also false b n is = absurd (cc is)

-- What one step of a line takes, of what its command allows: once for a delay, and once for the line.
step_takes : (z : Sizes) (delay : Bool) (h g : Held) → Counts (bound_of z h) delay h g
    → 1 + counted_in h + bound_under_way z g ≤ counted_in g + ((if delay then bound_of z h else 0) + bound_of z h)
step_takes z delay h g C = by delay C.behind
  where
    by : (d : Bool) → CountsGoing d h g ⊎ CountsEnding h g
        → 1 + counted_in h + bound_under_way z g ≤ counted_in g + ((if d then bound_of z h else 0) + bound_of z h)
    by d (inl G) = going_on d (open_one (is_under_way g.state.place) (bound_of z g) G.is_open ∙ ap (λ (l : Line). most_steps z l.command) G.line_is) G.one_more
      where
        going_on : (d : Bool) → bound_under_way z g ≡ bound_of z h → (d ≡ false → counted_in g ≡ counted_in h + 1)
            → 1 + counted_in h + bound_under_way z g ≤ counted_in g + ((if d then bound_of z h else 0) + bound_of z h)
        going_on false is more = let one = more refl in omega (arith, is, one)
        going_on true is more = let room = C.room in omega (arith, is, room)
    by d (inr E) =
        let none = open_none (is_under_way g.state.place) (bound_of z g) E.is_open in
        let room = C.room in
        omega (arith, none, room)

all_more : (steps delays begun costs_before costs open_before open_ one delay begins counted_h counted_g open_h open_g : ℕ)
    → steps + costs ≤ delays + (begun + open_) → costs + counted_h ≡ costs_before + counted_g → open_ + open_h ≡ open_before + open_g
    → one + counted_h + open_g ≤ counted_g + (delay + (begins + open_h)) → (one + steps) + costs_before ≤ (delay + delays) + ((begins + begun) + open_before)
all_more steps delays begun costs_before costs open_before open_ one delay begins counted_h counted_g open_h open_g fits moved moved_open takes_ =
    omega (arith, fits, moved, moved_open, takes_)

-- A step of a part leaves the line that is under way.
open_still : (z : Sizes) (p : Place) (h : Held) (k : Kind) (v : ℕ)
    → (if is_under_way p then most_steps z (line_at p (idle_after h k v)).command else 0) ≡ (if is_under_way p then most_steps z (line_at p h).command else 0)
open_still z place.Between h k v = refl
open_still z _ h k v = refl

-- The steps of lines, with what the hands have counted before, are within the bound.
abbrev pub Fit : Sizes → World Held → List (Step Kind) → Type 0
Fit z u ss = how_many is_of_line u ss + sum_of z counted_in u ≤ bounds_of delays_line z u ss + bounds_in z u ss

pub all_fit : (z : Sizes) (u : World Held) (ss : List (Step Kind)) → IsReached z u → Legal mmu u ss → Fit z u ss
all_fit z u [] R legal =
    let few =
    sum_few (actors_of z) (λ i. counted_in (hand_in mmu u i)) (λ i. bound_under_way z (hand_in mmu u i))
    (λ i lt. counted_few z (hand_in mmu u i).state.place (hand_in mmu u i) (count_few z u i R lt)) in
    omega (arith, few)
all_fit z u (s ∷ ss) R legal = by (cases_Bool (has_line h)) (all_fit z (effect mmu u s) ss (reached_more z u s R legal.0) legal.1)
  where
    h : Held
    h = hand_in mmu u s.actor

    g : Held
    g = hand_in mmu (effect mmu u s) s.actor

    delay : Bool
    delay = hand_delays h (answered mmu u s.kind)

    at : s.actor < actors_of z
    at = there z u s R legal.0

    delayed : ℕ
    delayed = if delays_line u s then bound_of z h else 0

    begun : ℕ
    begun = if begins_line u s then bound_of z h else 0

    takes_ : (has_line h ≡ true) ⊎ (has_line h ≡ false)
        → one_if (has_line h) + counted_in h + bound_under_way z g ≤ counted_in g + (delayed + (begun + bound_under_way z h))
    takes_ (inl has) =
        takes_by (one_if (has_line h)) (counted_in h) (bound_under_way z g) (counted_in g) (if delay then bound_of z h else 0) (bound_of z h) delayed begun
        (bound_under_way z h)
        (ap one_if has) (also (has_line h) delay (bound_of z h) has) (begins_once (has_line h) (is_under_way h.state.place) (bound_of z h) has)
        (step_takes z delay h g (step_counts z u s R legal.0 has))
      where
        takes_by : (one ch og cg d most delayed begun oh : ℕ) → one ≡ 1 → delayed ≡ d → begun + oh ≡ most → 1 + ch + og ≤ cg + (d + most)
            → one + ch + og ≤ cg + (delayed + (begun + oh))
        takes_by one ch og cg d most delayed begun oh is delays once few = omega (arith, is, delays, once, few)
    takes_ (inr none) =
        let same = part_still z u s R legal.0 none in
        still (one_if (has_line h)) (counted_in h) (counted_in g) (bound_under_way z h) (bound_under_way z g) delayed begun (ap one_if none)
        (ap counted_in same)
        (ap (bound_under_way z) same ∙ open_still z h.state.place h s.kind (answered mmu u s.kind))
      where
        still : (one ch cg oh og d b : ℕ) → one ≡ 0 → cg ≡ ch → og ≡ oh → one + ch + og ≤ cg + (d + (b + oh))
        still one ch cg oh og d b none same_count same_open = omega (arith, none, same_count, same_open)

    by : (has_line h ≡ true) ⊎ (has_line h ≡ false) → Fit z (effect mmu u s) ss → Fit z u (s ∷ ss)
    by has fits =
        all_more (how_many is_of_line (effect mmu u s) ss) (bounds_of delays_line z (effect mmu u s) ss) (bounds_of begins_line z (effect mmu u s) ss)
        (sum_of z counted_in u) (sum_of z counted_in (effect mmu u s))
        (sum_of z (bound_under_way z) u) (sum_of z (bound_under_way z) (effect mmu u s)) (one_if (has_line h)) delayed begun (counted_in h) (counted_in g)
        (bound_under_way z h) (bound_under_way z g)
        fits (sum_moves z counted_in u s at) (sum_moves z (bound_under_way z) u s at) (takes_ has)

pub steps_are_few : StepsAreFew
steps_are_few z lines w ss ts R =
    let parts = legal_parts w ss ts R.legal in
    let fits = all_fit z (run mmu w ss) ts (reached_behind z lines w ss (record { start = R.start; legal = parts.0 })) parts.1 in
    omega (arith, fits)
