-- A step of a line that neither waits nor begins anew leaves it fewer steps, or its stay misses; and a delay is one of these three.
use Rattle.std.proofs.Common.{◌≡◌, ◌⊎◌, inl, inr, ◌<◌, ℕ, List, [], ◌∷◌, ◌++◌, refl, sym, subst, ap, ◌∙◌}
use Rattle.std.specs.Prelude.{Bool, true, false, ◌&&◌}
use Rattle.core_views.specs.declared.kind.Kind.{Kind}
use Rattle.core_views.specs.declared.place.AccessPlace.TheVariants.{Walk, Leave}
use Rattle.core_views.specs.declared.place.Leaving.TheVariants as leaving
use Rattle.core_views.specs.declared.place.Place.{Place}
use Rattle.core_views.specs.declared.place.Place.TheVariants as place
use Rattle.core_views.specs.declared.sizes.Sizes.{Sizes}
use Rattle.core_views.specs.declared.trace.Command.{Command}
use Rattle.core_views.specs.declared.trace.Command.TheVariants.{Access}
use Rattle.core_views.specs.declared.trace.Line.{Line}
use Rattle.core_views.specs.declared.trace.Op.{Op}
use Rattle.core_views.specs.Held.{Held}
use Rattle.core_views.specs.SlotSets.{MemorySlots}
use Rattle.core_views.specs.Slots.{is_write}
use Rattle.spte_words.specs.declared.area.Area.{Area}
use Rattle.mmu_core.specs.declared.outcome.Outcome.{Outcome}
use Rattle.mmu_core.specs.declared.outcome.Outcome.TheVariants.{Goes}
use Rattle.mmu_core.specs.lines.Forms.{KnowsPart, outcome_at}
use Rattle.mmu_core.specs.lines.Delays.{leaves_to_fault, walks_again}
use Rattle.mmu_core.specs.machine.Enabled.{mmu}
use Rattle.mmu_core.specs.invariant.Laws.{IsSound}
use Rattle.mmu_core.specs.alone.LineAlone.{hand_left, line_waits}
use Rattle.mmu_core.specs.machine.Machine.{Legal, May, Step, World, answered, effect, hand_in, run}
use Rattle.mmu_laws.specs.turns.Removal.{LeadsFromRoot, LostEntry, StandsAt, StayMisses, WalksInstalled, is_installed}
use Rattle.mmu_core.specs.machine.Steps.{has_line, line_at, place_at, standing, task_at}
use Rattle.mmu_laws.specs.turns.TurnLaws.{DelaysWaitBeginAnewOrMiss, TurnsComeNearer, begins_anew, counts_as_delay, stands_at}
use Rattle.mmu_core.specs.machine.Turns.{line_of, outcome_of}
use Rattle.mmu_core.specs.machine.View.{answer_in, view, word_in}
use Rattle.mmu_core.specs.machine.Worlds.{IsStart}
use Rattle.mmu_laws.proofs.forms.access.InstalledEntries.{installed_since}
use Rattle.mmu_core.proofs.lines.KnowsKept.{knows_at}
use Rattle.mmu_laws.proofs.causes.StarvedScan.{legal_parts}
use Rattle.core_views.specs.Sizes.{actors_of}
use Rattle.mmu_core.proofs.start.StartWords.{hand_is}
use Rattle.mmu_core.proofs.start.Starts.{start_good}
use Rattle.mmu_laws.proofs.turns.TurnsNearer.{anew_where_it_stands, finds_nearer, no_miss, one_of, taken}
use Rattle.mmu_core.proofs.machine.Worlds.{Takes, good_run}

-- ---- a stay that misses

-- It stands at the walk after an installed entry, and leaves for a fault.
pub record Misses (p : Place) (c : Command) (o : Outcome) : Type 0 where
  pub gfn : ℕ
  pub word : ℕ
  pub op : Op
  pub fast : Bool
  pub at : p ≡ place.Access (Walk true)
  pub access_is : c ≡ Access gfn word op
  pub leaves : o ≡ Goes (place.Access (Leave (leaving.Faults fast)))

leaves_is : (o : Outcome) → leaves_to_fault o ≡ true → (fast : Bool) × (o ≡ Goes (place.Access (Leave (leaving.Faults fast))))
leaves_is (Goes (place.Access (Leave (leaving.Faults fast)))) is = (fast, refl)
leaves_is _ is = absurd (cc is)

pub misses_at : (p : Place) (c : Command) (h : Held) (o : Outcome) → KnowsPart p c h → (walks_again p && leaves_to_fault o) ≡ true → Misses p c o
misses_at (place.Access (Walk true)) (Access gfn word op) h o K is =
    let L = leaves_is o is in record { gfn = gfn; word = word; op = op; fast = L.0; at = refl; access_is = refl; leaves = L.1 }
misses_at (place.Access (Walk true)) _ h o K is = absurd K
misses_at _ c h o K is = absurd (cc is)

pub standing_walks : (q : Place) (y : Sizes) (slots : MemorySlots) (c : Command) → standing q y slots c ≡ place.Access (Walk true)
    → q ≡ place.Access (Walk true)
standing_walks place.Between y slots (Access gfn word op) is = absurd (cc is)
standing_walks place.Between y slots _ is = absurd (cc is)
standing_walks _ y slots c is = is

pub walk_command : (q : Place) (h : Held) (c : Command) → q ≡ place.Access (Walk true) → (line_at q h).command ≡ c → h.state.line.command ≡ c
walk_command place.Between h c at is = absurd (cc at)
walk_command _ h c at is = is

-- ---- at a start no line is under way

has_actor : (z : Sizes) (lines : List Line) (start : World Held) (ss : List (Step Kind)) (s : Step Kind) → IsStart z lines start
    → Legal mmu start (ss ++ s ∷ []) → s.actor < actors_of z
has_actor z lines start ss s is legal =
    let P = legal_parts start ss (s ∷ []) legal in
    subst (λ n. s.actor < n) (good_run z start ss (start_good z lines start is) P.0).hands P.1.0.there

starts_idle : (z : Sizes) (lines : List Line) (start : World Held) (s : Step Kind) → IsStart z lines start → s.actor < actors_of z
    → (hand_in mmu start s.actor).state.place ≡ place.Between
starts_idle z lines start s is there = ap (λ (h : Held). h.state.place) (hand_is z lines start s.actor is there)

-- ---- a step after some others, from a moment on at which no line of its actor is under way

module _ (z : Sizes) (start : World Held) (ss : List (Step Kind)) (s : Step Kind) (sound : IsSound z start)
    (idle : (hand_in mmu start s.actor).state.place ≡ place.Between) (legal : Legal mmu start (ss ++ s ∷ []))
    (has : has_line (hand_in mmu (run mmu start ss) s.actor) ≡ true) where
  abbrev w : World Held
  w = run mmu start ss

  abbrev h : Held
  h = hand_in mmu w s.actor

  abbrev line : Line
  line = line_at h.state.place h

  abbrev stood : Place
  stood = place_at h.state.place h

  abbrev words : Area → ℕ → ℕ
  words = word_in z w

  abbrev v : ℕ
  v = answered mmu w s.kind

  abbrev x : ℕ
  x = answer_in (task_at stood line.command h) words

  parts : Legal mmu start ss × Legal mmu w (s ∷ [])
  parts = legal_parts start ss (s ∷ []) legal

  may : May mmu w s
  may = parts.1.0

  G : IsSound z w
  G = good_run z start ss sound parts.0

  T : Takes z w s h
  T = taken z w s G may has

  abbrev misses : ℕ → Bool
  misses n = walks_again stood && leaves_to_fault (outcome_at stood line.command h n)

  miss_is : misses v ≡ true → StayMisses z start ss s
  miss_is is = by (installed_since z start ss s.actor M.gfn (is_write M.op) sound idle parts.0 T.is_step.there stands)
    where
      M : Misses stood line.command (outcome_at stood line.command h v)
      M = misses_at stood line.command h (outcome_at stood line.command h v) (knows_at z (view z w) s.actor G.holds T.is_step.there T.is_step.left) is

      at : h.state.place ≡ place.Access (Walk true)
      at = standing_walks h.state.place h.state.sizes h.slots line.command M.at

      command : h.state.line.command ≡ Access M.gfn M.word M.op
      command = walk_command h.state.place h (Access M.gfn M.word M.op) at M.access_is

      stands : StandsAt is_installed h.state.place h.state.line.command M.gfn (is_write M.op)
      stands =
          subst (λ (q : Place). StandsAt is_installed q h.state.line.command M.gfn (is_write M.op)) (sym at)
          (subst (λ (c : Command). StandsAt is_installed (place.Access (Walk true)) c M.gfn (is_write M.op)) (sym command) (refl, refl, refl))

      finds : WalksInstalled h.state.place h.state.line.command words h.topics → misses x ≡ false
      finds walks =
          let there = subst (λ (q : Place). WalksInstalled q h.state.line.command words h.topics) at walks in
          let of_access = subst (λ (c : Command). WalksInstalled (place.Access (Walk true)) c words h.topics) (command ∙ sym M.access_is) there in
          no_miss stood line.command h words (subst (λ (q : Place). WalksInstalled q line.command words h.topics) (sym M.at) of_access)

      by : (LeadsFromRoot z w M.gfn (is_write M.op) × WalksInstalled h.state.place h.state.line.command words h.topics)
          ⊎ LostEntry z s.actor M.gfn (is_write M.op) start ss
          → StayMisses z start ss s
      by (inl L) = let found = ap misses T.answers ∙ finds L.1 in absurd (cc (is, found))
      by (inr lost) = record { gfn = M.gfn; word = M.word; op = M.op; fast = M.fast; at = at; access_is = command; misses = M.leaves; lost = lost }

  turn : line_waits stood line.command h v ≡ false → begins_anew stood ≡ false → (p : Place) → outcome_of h v ≡ Goes p
      → (hand_left (hand_in mmu (effect mmu w s) s.actor) < hand_left h) ⊎ StayMisses z start ss s
  turn goes on p out = by (misses v) refl
    where
      by : (b : Bool) → misses v ≡ b → (hand_left (hand_in mmu (effect mmu w s) s.actor) < hand_left h) ⊎ StayMisses z start ss s
      by true is = inr (miss_is is)
      by false is = inl (finds_nearer z w s G may has goes on is p out)

  delay : counts_as_delay w s ≡ true → (line_waits stood line.command h v ≡ true) ⊎ (begins_anew h.state.place ≡ true) ⊎ StayMisses z start ss s
  delay counts = by (one_of (line_waits stood line.command h v) (begins_anew stood) (misses v) counts)
    where
      by : (line_waits stood line.command h v ≡ true) ⊎ (begins_anew stood ≡ true) ⊎ (misses v ≡ true)
          → (line_waits stood line.command h v ≡ true) ⊎ (begins_anew h.state.place ≡ true) ⊎ StayMisses z start ss s
      by (inl waits) = inl waits
      by (inr (inl anew)) = inr (inl (anew_where_it_stands h.state.place h.state.sizes h.slots line.command anew))
      by (inr (inr is)) = inr (inr (miss_is is))

pub turns_come_nearer : TurnsComeNearer
turns_come_nearer z lines start ss s is_start legal has goes on p out =
    turn z start ss s (start_good z lines start is_start) (starts_idle z lines start s is_start (has_actor z lines start ss s is_start legal)) legal has goes on
    p out

-- From any moment on at which no line of an actor is under way.
pub delays_since : (z : Sizes) (w : World Held) (ss : List (Step Kind)) (s : Step Kind) → IsSound z w → (hand_in mmu w s.actor).state.place ≡ place.Between
    → Legal mmu w (ss ++ s ∷ []) → has_line (hand_in mmu (run mmu w ss) s.actor) ≡ true → counts_as_delay (run mmu w ss) s ≡ true
    → (line_waits (stands_at (run mmu w ss) s) (line_of (hand_in mmu (run mmu w ss) s.actor)).command (hand_in mmu (run mmu w ss) s.actor)
    (answered mmu (run mmu w ss) s.kind) ≡ true)
    ⊎ (begins_anew (hand_in mmu (run mmu w ss) s.actor).state.place ≡ true) ⊎ StayMisses z w ss s
delays_since z w ss s sound idle legal has counts = delay z w ss s sound idle legal has counts

pub delays_wait_begin_anew_or_miss : DelaysWaitBeginAnewOrMiss
delays_wait_begin_anew_or_miss z lines start ss s is_start legal has counts =
    delays_since z start ss s (start_good z lines start is_start)
    (starts_idle z lines start s is_start (has_actor z lines start ss s is_start legal)) legal has counts
