-- What a step of a line leaves it, beside other actors too: fewer steps, where it is no delay. And which steps are delays.
use Rattle.std.proofs.Common.{◌≡◌, ◌⊎◌, inl, inr, ◌<◌, ℕ, length, refl, sym, subst, ap, ◌∙◌, arith}
use Rattle.std.specs.Prelude.{Bool, true, false, ◌&&◌, ◌||◌}
use Rattle.std.proofs.lemmas.Bool.Decides.{nat_tests}
use Rattle.core_views.specs.declared.kind.Kind.{Kind}
use Rattle.core_views.specs.declared.place.AccessPlace.TheVariants.{Enter, Pause, Root, Walk, Touch, Leave, Fault}
use Rattle.core_views.specs.declared.place.Place.{Place}
use Rattle.core_views.specs.declared.place.Place.TheVariants as place
use Rattle.core_views.specs.declared.sizes.Sizes.{Sizes}
use Rattle.core_views.specs.declared.trace.Command.{Command}
use Rattle.core_views.specs.declared.trace.Command.TheVariants.{Access}
use Rattle.core_views.specs.declared.trace.Line.{Line}
use Rattle.core_views.specs.Held.{Held}
use Rattle.core_views.specs.Sizes.{actors_of}
use Rattle.core_views.specs.SlotSets.{MemorySlots}
use Rattle.core_views.specs.Slots.{is_write}
use Rattle.core_views.specs.Traces.{IsCommandFor}
use Rattle.spte_words.specs.declared.area.Area.{Area}
use Rattle.spte_words.specs.declared.area.Area.TheVariants as area
use Rattle.spte_words.specs.declared.spte_kind.SpteKind.{SpteKind}
use Rattle.spte_words.specs.declared.spte_kind.SpteKind.TheVariants as entry_kind
use Rattle.spte_words.specs.Areas.{pool_index}
use Rattle.spte_words.specs.Entries.{kind_of}
use Rattle.mmu_core.specs.declared.outcome.Outcome.{Outcome}
use Rattle.mmu_core.specs.declared.outcome.Outcome.TheVariants.{Goes}
use Rattle.mmu_core.specs.forms.access.AccessSteps.{stay_next}
use Rattle.mmu_core.specs.lines.Forms.{KnowsPart, RestsAt, RetiresPart, steps_left, outcome_at}
use Rattle.mmu_core.specs.lines.Delays.{leaves_to_fault, walks_again}
use Rattle.mmu_core.specs.alone.FaultAlone.{LeadsToLeaf}
use Rattle.mmu_core.specs.machine.Enabled.{mmu}
use Rattle.mmu_core.specs.forms.access.FaultSteps.{allows_access}
use Rattle.mmu_core.specs.invariant.Laws.{IsSound}
use Rattle.mmu_core.specs.alone.LineAlone.{hand_left, line_waits}
use Rattle.mmu_core.specs.machine.Machine.{May, Step, World, answered, effect, hand_in}
use Rattle.part_steps.specs.PartTasks.{entry_index, table_page}
use Rattle.mmu_core.specs.machine.Steps.{delays_at, has_line, line_at, place_at, standing, task_at}
use Rattle.mmu_core.specs.machine.Outcomes.{place_after}
use Rattle.mmu_laws.specs.turns.Removal.{WalksInstalled}
use Rattle.mmu_laws.specs.turns.TurnLaws.{begins_anew}
use Rattle.mmu_core.specs.machine.Turns.{outcome_of}
use Rattle.mmu_core.specs.machine.View.{View, answer_in, hand_after, view, word_in}
use Rattle.mmu_laws.proofs.leaves.LeadsDown.{is_leaf_here}
use Rattle.mmu_core.proofs.machine.Columns.{upd_same}
use Rattle.mmu_core.proofs.invariant.HandLeft.{left_of}
use Rattle.mmu_core.proofs.lines.Forms.{first_no_end, outcome_goes}
use Rattle.mmu_core.proofs.machine.GoesOn.{GoesUnderWay}
use Rattle.mmu_core.proofs.lines.KnowsKept.{knows_at, step_leaves}
use Rattle.mmu_core.proofs.invariant.PartBounded.{part_rests_at}
use Rattle.mmu_laws.proofs.forms.access.StayNearer.{Nearer}
use Rattle.mmu_laws.proofs.EachForm.{SlotFits, form_nearer, slot_fits}
use Rattle.mmu_laws.proofs.forms.host.HostNearer.{finds_at}
use Rattle.mmu_laws.proofs.alone.GoesAlone.{topics_at}
use Rattle.mmu_core.proofs.lines.StepIn.{topics_of_step}
use Rattle.mmu_core.specs.lines.Rests.{IsUnderWay}
use Rattle.part_steps.specs.PartBounds.{PartRests}
use Rattle.core_views.specs.declared.topics.Topics.{Topics}
use Rattle.mmu_core.proofs.machine.Which.{is_next}
use Rattle.mmu_core.proofs.machine.Worlds.{Takes, good_step, takes_line}
use Rattle.mmu_core.proofs.held.NextSeen.{SeesOwn, sees_own}

-- ---- a stay after an installed entry finds it

misses_never : (k : SpteKind) (allowed again : Bool) (pool : ℕ → ℕ) (level page gfn : ℕ) (write : Bool) (v : ℕ)
    → pool (pool_index page (entry_index gfn level)) ≡ v → kind_of level v ≡ k → allows_access write v ≡ allowed
    → (again ≡ true → LeadsToLeaf pool level page gfn write) → (again && leaves_to_fault (Goes (place.Access (stay_next again k allowed)))) ≡ false
misses_never k allowed false pool level page gfn write v here is may leads = refl
misses_never (entry_kind.Table below) allowed true pool level page gfn write v here is may leads = refl
misses_never entry_kind.Leaf true true pool level page gfn write v here is may leads = refl
misses_never entry_kind.Leaf false true pool level page gfn write v here is may leads =
    let allows = (is_leaf_here pool level page gfn v write entry_kind.Leaf here is refl (leads refl)).1 in absurd (cc (may, allows))
misses_never entry_kind.Absent allowed true pool level page gfn write v here is may leads =
    let leaf = (is_leaf_here pool level page gfn v write entry_kind.Absent here is refl (leads refl)).0 in absurd (cc leaf)
misses_never entry_kind.Frozen allowed true pool level page gfn write v here is may leads =
    let leaf = (is_leaf_here pool level page gfn v write entry_kind.Frozen here is refl (leads refl)).0 in absurd (cc leaf)

-- So a step is a delay only where it waits or begins anew.
pub no_miss : (p : Place) (c : Command) (h : Held) (words : Area → ℕ → ℕ) → WalksInstalled p c words h.topics
    → (walks_again p && leaves_to_fault (outcome_at p c h (answer_in (task_at p c h) words))) ≡ false
no_miss (place.Access (Walk again)) (Access gfn word op) h words walks =
    let v : ℕ = words area.Pool (pool_index (table_page h.topics.walk) (entry_index gfn h.topics.walk.level)) in
    misses_never (kind_of h.topics.walk.level v) (allows_access (is_write op) v) again (words area.Pool) h.topics.walk.level (table_page h.topics.walk) gfn
    (is_write op) v refl refl refl walks
no_miss (place.Access (Walk true)) _ h words walks = refl
no_miss (place.Access (Walk false)) _ h words walks = refl
no_miss (place.Access (Enter again)) c h words walks = refl
no_miss (place.Access (Pause again)) c h words walks = refl
no_miss (place.Access (Root again)) c h words walks = refl
no_miss (place.Access Touch) c h words walks = refl
no_miss (place.Access (Leave how)) c h words walks = refl
no_miss (place.Access (Fault p)) c h words walks = refl
no_miss _ c h words walks = refl

pub none_of : (a b c : Bool) → a ≡ false → b ≡ false → c ≡ false → (a || (b || c)) ≡ false
none_of true b c first second third = absurd (cc first)
none_of false true c first second third = absurd (cc second)
none_of false false c first second third = third

pub one_of : (a b c : Bool) → (a || (b || c)) ≡ true → (a ≡ true) ⊎ (b ≡ true) ⊎ (c ≡ true)
one_of true b c is = inl refl
one_of false true c is = inr (inl refl)
one_of false false c is = inr (inr is)

-- No line begins with the end of a fault that begins anew: what begins anew has begun.
pub anew_where_it_stands : (q : Place) (y : Sizes) (slots : MemorySlots) (c : Command) → begins_anew (standing q y slots c) ≡ true → begins_anew q ≡ true
anew_where_it_stands place.Between y slots c anew = absurd (first_no_end y slots c anew)
anew_where_it_stands _ y slots c anew = anew

-- ---- nearer

-- So each step comes nearer that is no delay, where what its hand has seen of its actor's own pages is their words, as in every sound world.
pub place_nearer : (p : Place) (c : Command) (z : Sizes) (h : Held) (words : Area → ℕ → ℕ) → IsUnderWay p → IsCommandFor z h.state.actor c
    → PartRests h → RestsAt p c h → KnowsPart p c h → RetiresPart p h.topics → SlotFits p c h → SeesOwn h (words area.Host)
    → delays_at p c h (answer_in (task_at p c h) words) ≡ false
    → Nearer (outcome_at p c h (answer_in (task_at p c h) words)) c h.state.sizes (topics_at p c h words) (steps_left p c h.state.sizes h.topics)
place_nearer p c z h words begun may rests R K left fits looks on =
    let v : ℕ = answer_in (task_at p c h) words in
    subst (λ (t : Topics). Nearer (outcome_at p c h v) c h.state.sizes t (steps_left p c h.state.sizes h.topics)) (sym (topics_of_step p c h v R))
    (form_nearer p c z h v begun may rests K left fits (finds_at p c h words R looks) on)

-- ---- from world to world

pub has_left : (h : Held) → has_line h ≡ true → length h.answers < length h.lines
has_left h has = grind (arith, nat_tests)

-- The hand after a step stands there, with these topics.
pub nearer_hand : (g : Held) (o : Outcome) (p : Place) (line : Line) (y : Sizes) (n : ℕ) → o ≡ Goes p → GoesUnderWay o → g.state.place ≡ place_after o
    → g.state.line ≡ line → g.state.sizes ≡ y → Nearer o line.command y g.topics n → hand_left g < n
nearer_hand g o p line y n is under stands line_is sizes N =
    let less : steps_left p line.command y g.topics < n = subst (λ (q : Outcome). Nearer q line.command y g.topics n) is N in
    let left : hand_left g ≡ steps_left p line.command y g.topics =
    left_of p g line.command (stands ∙ ap place_after is) (subst GoesUnderWay is under) (ap (λ (l : Line). l.command) line_is)
    ∙ ap (λ (x : Sizes). steps_left p line.command x g.topics) sizes in
    omega (arith, less, left)

-- A step of a line that may be made, and the hand after it.
module _ (z : Sizes) (w : World Held) (s : Step Kind) (G : IsSound z w) (may : May mmu w s) (has : has_line (hand_in mmu w s.actor) ≡ true) where
  abbrev a : ℕ
  a = s.actor

  abbrev h : Held
  h = hand_in mmu w a

  abbrev line : Line
  line = line_at h.state.place h

  abbrev stood : Place
  stood = place_at h.state.place h

  abbrev words : Area → ℕ → ℕ
  words = word_in z w

  abbrev x : ℕ
  x = answer_in (task_at stood line.command h) words

  abbrev after : Held
  after = hand_after line line.command stood h x

  pub taken : Takes z w s h
  taken = takes_line z w s G may (is_next h s.kind may.enabled has)

  pub there : a < actors_of z
  there = taken.is_step.there

  sizes : h.state.sizes ≡ z
  sizes = (G.holds.lines a there).sizes

  pub hand_behind : hand_in mmu (effect mmu w s) a ≡ after
  hand_behind = ap (λ (v : View). v.hand a) taken.leads ∙ upd_same (hand_in mmu w) a after

  pub same_sizes : after.state.sizes ≡ h.state.sizes
  same_sizes = sym (ap (λ (g : Held). g.state.sizes) hand_behind) ∙ ((good_step z w s G may).holds.lines a there).sizes ∙ sym sizes

  -- What is no delay leaves fewer steps.
  pub nearer_here : delays_at stood line.command h x ≡ false → Nearer (outcome_at stood line.command h x) line.command h.state.sizes after.topics (hand_left h)
  nearer_here on =
      let S = taken.is_step in
      place_nearer stood line.command z h words S.begun (subst (λ y. IsCommandFor z y line.command) S.own S.allowed)
      (part_rests_at z (view z w) a G.holds G.topics there)
      (is_next h s.kind may.enabled has).rests.at (knows_at z (view z w) a G.holds there S.left)
      (step_leaves z (view z w) a line line.command stood S G.holds) (slot_fits z (view z w) a line stood S G.holds)
      (sees_own z (view z w) a G.topics there sizes (G.holds.lines a there).index) on

  -- Where it neither waits nor begins anew, and no stay misses with it, its line has fewer steps left after it.
  pub finds_nearer : line_waits stood line.command h (answered mmu w s.kind) ≡ false → begins_anew stood ≡ false
      → (walks_again stood && leaves_to_fault (outcome_of h (answered mmu w s.kind))) ≡ false → (p : Place) → outcome_of h (answered mmu w s.kind) ≡ Goes p
      → hand_left (hand_in mmu (effect mmu w s) a) < hand_left h
  finds_nearer goes on finds p out =
      let misses : ℕ → Bool = λ n. walks_again stood && leaves_to_fault (outcome_at stood line.command h n) in
      let none : delays_at stood line.command h x ≡ false = none_of (line_waits stood line.command h x) (begins_anew stood) (misses x)
      (ap (line_waits stood line.command h) (sym taken.answers) ∙ goes) on (ap misses (sym taken.answers) ∙ finds) in
      subst (λ (g : Held). hand_left g < hand_left h) (sym hand_behind)
      (nearer_hand after (outcome_at stood line.command h x) p line h.state.sizes (hand_left h) (ap (outcome_at stood line.command h) (sym taken.answers) ∙ out)
      (outcome_goes stood line.command h x taken.is_step.begun) refl refl same_sizes (nearer_here none))
