-- A turn with which a line goes on leaves it fewer steps, where those count once more that its command allows, as long as its stay may miss an entry that was
-- taken away: no own step takes one away, so it misses one at most before it ends, waits or begins anew.
use Rattle.std.proofs.Common.{◌≡◌, ◌⊎◌, inl, inr, ◌+◌, ◌<◌, ◌≤◌, ℕ, refl, sym, subst, ap, ◌∙◌, arith}
use Rattle.std.specs.Prelude.{Bool, true, false, ◌&&◌, if◌then◌else◌}
use Rattle.core_views.specs.declared.kind.Kind.{Kind}
use Rattle.core_views.specs.declared.place.AccessPlace.TheVariants.{Leave}
use Rattle.core_views.specs.declared.place.Leaving.TheVariants as leaving
use Rattle.core_views.specs.declared.place.Place.{Place}
use Rattle.core_views.specs.declared.place.Place.TheVariants as place
use Rattle.core_views.specs.declared.sizes.Sizes.{Sizes}
use Rattle.core_views.specs.declared.trace.Line.{Line}
use Rattle.core_views.specs.Held.{Held}
use Rattle.core_views.specs.Traces.{IsCommandFor}
use Rattle.spte_words.specs.declared.area.Area.{Area}
use Rattle.mmu_core.specs.declared.outcome.Outcome.{Outcome}
use Rattle.mmu_core.specs.declared.outcome.Outcome.TheVariants.{Goes}
use Rattle.mmu_core.specs.alone.LineAlone.{hand_left, line_waits}
use Rattle.mmu_core.specs.invariant.Invariant.{UnderWay}
use Rattle.mmu_core.specs.invariant.Laws.{IsSound}
use Rattle.mmu_core.specs.lines.Bounds.{most_steps}
use Rattle.mmu_core.specs.lines.Delays.{leaves_to_fault, walks_again}
use Rattle.mmu_core.specs.lines.Forms.{outcome_at}
use Rattle.mmu_core.specs.machine.Enabled.{mmu}
use Rattle.mmu_core.specs.machine.Machine.{May, Step, World, answered, effect, hand_in}
use Rattle.mmu_core.specs.machine.Outcomes.{place_after}
use Rattle.mmu_core.specs.machine.Steps.{has_line, line_at, place_at, task_at}
use Rattle.mmu_core.specs.machine.Turns.{line_of, outcome_of}
use Rattle.mmu_core.specs.machine.View.{answer_in, hand_after, view, word_in}
use Rattle.mmu_core.specs.machine.Worlds.{Reachable}
use Rattle.mmu_core.proofs.invariant.HandLeft.{hand_few, hand_some}
use Rattle.mmu_core.proofs.invariant.PartBounded.{part_rests_at}
use Rattle.mmu_core.proofs.lines.KnowsKept.{knows_at}
use Rattle.mmu_core.proofs.machine.Worlds.{Takes, good_step}
use Rattle.mmu_core.proofs.start.Starts.{reached_good}
use Rattle.mmu_laws.specs.turns.Breaking.{Breaks}
use Rattle.mmu_laws.specs.turns.Removal.{StandsInstalled, is_installed}
use Rattle.mmu_laws.specs.turns.TurnLaws.{begins_anew, stands_at}
use Rattle.mmu_laws.proofs.turns.DelayCases.{Misses, misses_at}
use Rattle.mmu_laws.proofs.turns.EntriesTaken.{leaf_stays_or_breaks}
use Rattle.mmu_laws.proofs.forms.access.EntryLeads.{Leads, makes_leads}
use Rattle.mmu_laws.proofs.forms.access.OwnServed.{Served, own_served, served_on, standing_served}
use Rattle.mmu_laws.proofs.forms.access.OwnTakesNone.{own_takes_none}
use Rattle.mmu_laws.proofs.turns.TurnsNearer.{finds_nearer, hand_behind, no_miss, same_sizes, taken}
use Rattle.mmu_laws.proofs.forms.access.EntryLost.{faults_lost, is_lost, lost_line, none_lost, served_of, standing_walk, walks_served}

-- ---- how many steps a line has left, where only its own actor makes steps

abbrev more_left : Bool → ℕ → ℕ
more_left lost most = if lost then most else 0

abbrev left_in : Sizes → World Held → ℕ → ℕ
left_in z w a =
    let h : Held = hand_in mmu w a in
    hand_left h + more_left (is_lost h.state.place h.state.line.command (word_in z w)) (most_steps h.state.sizes h.state.line.command)

abbrev pub turns_left : World Held → ℕ → ℕ
turns_left w a = left_in (hand_in mmu w a).state.sizes w a

-- A step of a line that may be made.
module _ (z : Sizes) (w : World Held) (s : Step Kind) (G : IsSound z w) (may : May mmu w s) (has : has_line (hand_in mmu w s.actor) ≡ true) where
  abbrev a : ℕ
  a = s.actor

  abbrev h : Held
  h = hand_in mmu w a

  abbrev line : Line
  line = line_at h.state.place h

  abbrev stood : Place
  stood = place_at h.state.place h

  abbrev words : Area → ℕ → ℕ
  words = word_in z w

  abbrev next_ : World Held
  next_ = effect mmu w s

  abbrev g : Held
  g = hand_in mmu next_ a

  abbrev v : ℕ
  v = answered mmu w s.kind

  abbrev x : ℕ
  x = answer_in (task_at stood line.command h) words

  abbrev after : Held
  after = hand_after line line.command stood h x

  abbrev ServedIn : World Held → Held → Type 0
  ServedIn u k = Served k.state.place k.state.line.command (Leads (word_in z u))

  T : Takes z w s h
  T = taken z w s G may has

  N : IsSound z next_
  N = good_step z w s G may

  behind : g ≡ after
  behind = hand_behind z w s G may has

  -- links that lead to the leaf lead to it after the line's own step
  still_leads : (gfn : ℕ) (write : Bool) → StandsInstalled a gfn write w × Leads words gfn write → Leads (word_in z next_) gfn write
  still_leads gfn write B = by (leaf_stays_or_breaks z w s gfn write G may B.1)
    where
      by : Leads (word_in z next_) gfn write ⊎ Breaks z gfn write w s → Leads (word_in z next_) gfn write
      by (inl leads) = leads
      by (inr breaks) = absurd (own_takes_none is_installed gfn write z w s gfn G may B.0 breaks)

  still_served : ServedIn w h → ServedIn next_ g
  still_served S =
      let I = T.is_step in
      let X : ℕ → Bool → Type 0 = λ gfn write. StandsInstalled a gfn write w × Leads words gfn write in
      subst (λ (k : Held). ServedIn next_ k) (sym behind)
      (own_served stood line.command z h words X (Leads (word_in z next_)) I.begun (subst (λ y. IsCommandFor z y line.command) I.own I.allowed)
      (part_rests_at z (view z w) a G.holds G.topics I.there) (knows_at z (view z w) a G.holds I.there I.left)
      (standing_served h.state.place h.state.sizes h.slots h X
      (served_on h.state.place h.state.line.command (Leads words) X (λ gfn write there leads. (there, leads)) S)) still_leads (makes_leads z w s G may T))

  -- The stay misses only where the entry is lost.
  abbrev misses : ℕ → Bool
  misses n = walks_again stood && leaves_to_fault (outcome_at stood line.command h n)

  abbrev lost : Bool
  lost = is_lost h.state.place h.state.line.command words

  serves : lost ≡ false → misses v ≡ false
  serves none =
      let W = walks_served z w a G T.is_step.there h.state.place h.state.line.command (G.holds.knows a T.is_step.there)
      (served_of h.state.place h.state.line.command words none) in
      ap misses T.answers ∙ no_miss stood line.command h words (standing_walk h.state.place h words W)

  -- ---- what it has left

  abbrev most : ℕ
  most = most_steps h.state.sizes line.command

  same_most : most_steps g.state.sizes g.state.line.command ≡ most
  same_most = ap (λ (k : Held). most_steps k.state.sizes k.state.line.command) behind ∙ ap (λ y. most_steps y line.command) (same_sizes z w s G may has)

  abbrev lost_then : Bool
  lost_then = is_lost g.state.place g.state.line.command (word_in z next_)

  never_more : lost ≡ false → lost_then ≡ false
  never_more none = none_lost g.state.place g.state.line.command (word_in z next_) (still_served (served_of h.state.place h.state.line.command words none))

  own_most : lost ≡ true → most_steps h.state.sizes h.state.line.command ≡ most
  own_most is = ap (λ (l : Line). most_steps h.state.sizes l.command) (sym (lost_line h.state.place h h.state.line.command words is))

  abbrev LeavesFewer : Type 0
  LeavesFewer = left_in z next_ a < left_in z w a

  -- where no stay misses
  finds_fewer : (before then_ : Bool) → lost ≡ before → lost_then ≡ then_ → hand_left g < hand_left h → LeavesFewer
  finds_fewer true then_ is is_then less =
      let own = own_most is in
      let more : more_left then_ (most_steps g.state.sizes g.state.line.command) ≤ most = most_more then_ in
      rw (is, is_then) (omega (arith, less, own, more))
    where
      most_more : (b : Bool) → more_left b (most_steps g.state.sizes g.state.line.command) ≤ most
      most_more true = omega (arith, same_most)
      most_more false = omega arith
  finds_fewer false true is is_then less = let never = never_more is in absurd (cc (never, is_then))
  finds_fewer false false is is_then less = rw (is, is_then) (omega (arith, less))

  -- where it misses, the line begins a fault, and the entry was lost
  misses_fewer : lost ≡ true → lost_then ≡ false → hand_left g ≤ most → LeavesFewer
  misses_fewer is is_then few =
      let own = own_most is in
      let some = hand_some h in
      rw (is, is_then) (omega (arith, own, some, few))

  miss_is_lost : misses v ≡ true → lost ≡ true
  miss_is_lost is = by lost refl
    where
      by : (b : Bool) → lost ≡ b → lost ≡ true
      by true e = e
      by false e = let found = serves e in absurd (cc (found, is))

  -- Behind a miss it stands where it leaves the guest for its fault.
  module _ (is : misses v ≡ true) where
    M : Misses stood line.command (outcome_at stood line.command h v)
    M = misses_at stood line.command h (outcome_at stood line.command h v) (knows_at z (view z w) a G.holds T.is_step.there T.is_step.left) is

    leaves_at : g.state.place ≡ place.Access (Leave (leaving.Faults M.fast))
    leaves_at =
        ap (λ (k : Held). k.state.place) behind ∙ ap (λ n. place_after (outcome_at stood line.command h n)) (sym T.answers)
        ∙ ap (λ (o : Outcome). place_after o) M.leaves

    few_left : hand_left g ≤ most
    few_left =
        let under : UnderWay (place.Access (Leave (leaving.Faults M.fast))) g =
        subst (λ (q : Place). UnderWay q g) leaves_at (N.holds.lines a T.is_step.there).under in
        let line_is : line_of g ≡ g.state.line = ap (λ (q : Place). line_at q g) leaves_at in
        let bound = hand_few z (view z next_) a N.holds N.topics T.is_step.there under.1 in
        let same : most_steps g.state.sizes (line_of g).command ≡ most = ap (λ (l : Line). most_steps g.state.sizes l.command) line_is ∙ same_most in
        omega (arith, bound, same)

    after_miss : LeavesFewer
    after_miss =
        misses_fewer (miss_is_lost is) (ap (λ (q : Place). is_lost q g.state.line.command (word_in z next_)) leaves_at
        ∙ faults_lost M.fast g.state.line.command (word_in z next_)) few_left

  goes_on : line_waits stood line.command h v ≡ false → begins_anew stood ≡ false → (p : Place) → outcome_of h v ≡ Goes p → LeavesFewer
  goes_on goes on p out = by (misses v) refl
    where
      by : (b : Bool) → misses v ≡ b → LeavesFewer
      by true is = after_miss is
      by false is = finds_fewer lost lost_then refl refl (finds_nearer z w s G may has goes on is p out)

  own_left : h.state.sizes ≡ z → g.state.sizes ≡ z → LeavesFewer → turns_left next_ a < turns_left w a
  own_left before then_ less = let one = ap (λ y. left_in y w a) before in let two = ap (λ y. left_in y next_ a) then_ in omega (arith, one, two, less)

  pub turn_falls : line_waits stood line.command h v ≡ false → begins_anew stood ≡ false → (p : Place) → outcome_of h v ≡ Goes p
      → turns_left next_ a < turns_left w a
  turn_falls goes on p out = own_left (G.holds.lines a T.is_step.there).sizes (N.holds.lines a T.is_step.there).sizes (goes_on goes on p out)

-- So in each reachable world: a step of a line that neither waits, begins anew nor answers it leaves fewer of these.
pub own_turns_fall : (w : World Held) (s : Step Kind) → Reachable w → May mmu w s → has_line (hand_in mmu w s.actor) ≡ true
    → line_waits (stands_at w s) (line_of (hand_in mmu w s.actor)).command (hand_in mmu w s.actor) (answered mmu w s.kind) ≡ false
    → begins_anew (stands_at w s) ≡ false → (p : Place) → outcome_of (hand_in mmu w s.actor) (answered mmu w s.kind) ≡ Goes p
    → turns_left (effect mmu w s) s.actor < turns_left w s.actor
own_turns_fall w s r may has goes on p out = turn_falls r.sizes w s (reached_good w r) may has goes on p out
