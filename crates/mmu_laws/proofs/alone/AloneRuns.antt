-- A line that runs while all other actors rest, from world to world: each step of it that may be made comes nearer to its answer.
use Rattle.std.proofs.Common.{◌≡◌, ◌≢◌, ◌⊎◌, inl, inr, ◌<◌, ◌≤◌, ℕ, length, refl, sym, subst, ap, ◌∙◌}
use Rattle.std.specs.Prelude.{false}
use Rattle.core_views.specs.declared.kind.Kind.{Kind}
use Rattle.core_views.specs.declared.place.Place.{Place}
use Rattle.core_views.specs.declared.place.Place.TheVariants as place
use Rattle.core_views.specs.declared.sizes.Sizes.{Sizes}
use Rattle.core_views.specs.declared.topics.Topics.{Topics}
use Rattle.core_views.specs.declared.trace.Command.{Command}
use Rattle.core_views.specs.declared.trace.Line.{Line}
use Rattle.core_views.specs.Held.{Held}
use Rattle.core_views.specs.Sizes.{actors_of}
use Rattle.core_views.specs.SlotSets.{MemorySlots}
use Rattle.core_views.specs.Traces.{IsCommandFor}
use Rattle.spte_words.specs.declared.area.Area.{Area}
use Rattle.mmu_core.specs.declared.outcome.Outcome.{Outcome}
use Rattle.mmu_core.specs.declared.outcome.Outcome.TheVariants.{Goes, Ends}
use Rattle.mmu_core.specs.alone.AloneKnows.{AloneKnows}
use Rattle.mmu_core.specs.lines.Forms.{RetiresPart, may_retire, may_open, may_own_frame, steps_left, outcome_at, KnowsPart}
use Rattle.mmu_core.specs.lines.Bounds.{most_steps}
use Rattle.mmu_core.specs.machine.Enabled.{mmu}
use Rattle.mmu_core.specs.invariant.Laws.{IsSound}
use Rattle.mmu_core.specs.alone.LineAlone.{AllRest, ComesNearer, LineAlone, StarvedOnlyWithout, StepsAlone, hand_left, line_waits}
use Rattle.mmu_core.specs.machine.Machine.{May, Step, World, answered, effect, hand_in}
use Rattle.mmu_core.specs.alone.OthersRest.{HoldsNothing, OthersRest}
use Rattle.part_steps.specs.PartSteps.{IsAtRest}
use Rattle.mmu_core.specs.lines.Rests.{IsUnderWay}
use Rattle.mmu_core.specs.machine.Steps.{line_at, place_at, standing, task_at}
use Rattle.mmu_core.specs.machine.Outcomes.{answers_after, place_after}
use Rattle.mmu_core.specs.machine.Turns.{line_of, outcome_of}
use Rattle.mmu_core.specs.machine.View.{View, answer_in, hand_after, view, word_in, words_after}
use Rattle.mmu_laws.proofs.EachForm.{slot_fits}
use Rattle.mmu_laws.proofs.alone.AloneStep.{alone_step}
use Rattle.mmu_laws.proofs.alone.GoesAlone.{GoesAlone, GoesOnAlone, topics_at}
use Rattle.mmu_core.proofs.lines.Forms.{begins_without}
use Rattle.mmu_core.proofs.lines.LineClaims.{no_scan_between}
use Rattle.mmu_core.specs.lines.PartWaits.{is_owing}
use Rattle.part_steps.specs.StayTopics.{has_lock}
use Rattle.mmu_core.proofs.machine.Columns.{same_or, upd_other, upd_same}
use Rattle.mmu_core.proofs.machine.Extend.{hands_of_effect}
use Rattle.mmu_core.proofs.invariant.HandLeft.{hand_few, left_of}
use Rattle.mmu_core.proofs.lines.Forms.{first_alone}
use Rattle.mmu_core.proofs.lines.KnowsKept.{KnowsBehind, knows_at, step_leaves}
use Rattle.mmu_core.proofs.invariant.Kept.{line_knows}
use Rattle.mmu_core.proofs.invariant.PartBounded.{part_rests_at}
use Rattle.mmu_core.proofs.machine.Which.{has_line_is, is_next}
use Rattle.mmu_core.proofs.machine.Worlds.{Takes, good_step, takes_line}

-- Where a line is about to begin it knows what its first place asks.
pub standing_alone : (q : Place) (y : Sizes) (slots : MemorySlots) (command : Command) (words : Area → ℕ → ℕ) (t : Topics) → AloneKnows q command words t
    → AloneKnows (standing q y slots command) command words t
standing_alone place.Between y slots command words t K = record {
  seen = record {
    owes_none = K.seen.owes_none;
    saw_closed = K.seen.saw_closed;
    scan = λ map has. absurd (begins_without y slots command map has);
    snapshot = K.seen.snapshot;
  };
  form = first_alone y slots command words t;
}
standing_alone _ y slots command words t K = K

-- Between lines the actor holds nothing, and so it has seen nothing that others could change.
between_alone : (command : Command) (words : Area → ℕ → ℕ) (t : Topics) → IsAtRest t → AloneKnows place.Between command words t
between_alone command words t rests = record {
  seen = record {
    owes_none = ap is_owing rests.loose;
    saw_closed = λ has. let loose = ap has_lock rests.loose in absurd (cc (loose, has));
    scan = λ map has. absurd (no_scan_between map has);
    snapshot = λ inside s is. let outside = rests.outside in absurd (cc (outside, inside));
  };
  form = tt;
}

under_line : (q : Place) (g : Held) → IsUnderWay q → line_at q g ≡ g.state.line
under_line place.Between g under = absurd under
under_line _ g under = refl

-- The world after a step, where the actor's hand is g.
record Behind (z : Sizes) (a : ℕ) (after : World Held) (g : Held) (words : Area → ℕ → ℕ) : Type 0 where
  sound : IsSound z after
  others : OthersRest a after
  there : a < actors_of z
  hand : hand_in mmu after a ≡ g
  words_are : word_in z after ≡ words

-- The hand after a step of this line, by its outcome.
record HandBy (o : Outcome) (line : Line) (h g : Held) : Type 0 where
  stands : g.state.place ≡ place_after o
  line_is : g.state.line ≡ line
  lines : g.lines ≡ h.lines
  answers : g.answers ≡ answers_after o line h.answers
  left : length h.answers < length h.lines

knows_on : (q : Place) (line : Line) (g : Held) (words : Area → ℕ → ℕ) → g.state.place ≡ q → g.state.line ≡ line → IsUnderWay q
    → AloneKnows q line.command words g.topics → AloneKnows g.state.place (line_of g).command words g.topics
knows_on q line g words stands line_is under K =
    let own : line_of g ≡ line = ap (λ y. line_at y g) stands ∙ under_line q g under ∙ line_is in
    subst (λ (l : Line). AloneKnows g.state.place l.command words g.topics) (sym own) (subst (λ y. AloneKnows y line.command words g.topics) (sym stands) K)

goes_on : (q : Place) (z : Sizes) (w after : World Held) (a : ℕ) (line : Line) (g : Held) (words : Area → ℕ → ℕ) → (hand_in mmu w a).state.sizes ≡ z
    → Behind z a after g words → HandBy (Goes q) line (hand_in mmu w a) g
    → GoesAlone (Goes q) line.command (hand_in mmu w a).state.sizes words g.topics (hand_left (hand_in mmu w a)) → ComesNearer (Goes q) z a w after
goes_on q z w after a line g words sizes B H G =
    let knows : AloneKnows g.state.place (line_of g).command (word_in z after) g.topics =
    subst (λ (ws : Area → ℕ → ℕ). AloneKnows g.state.place (line_of g).command ws g.topics) (sym B.words_are)
    (knows_on q line g words H.stands H.line_is G.0 G.1) in
    let left : length g.answers < length g.lines = rw (H.answers, H.lines) H.left in
    let same : g.state.sizes ≡ (hand_in mmu w a).state.sizes =
    sym (ap (λ (x : Held). x.state.sizes) B.hand) ∙ (B.sound.holds.lines a B.there).sizes ∙ sym sizes in
    let left_now : hand_left g ≡ steps_left q line.command (hand_in mmu w a).state.sizes g.topics =
    left_of q g line.command H.stands G.0 (ap (λ (l : Line). l.command) H.line_is) ∙ ap (λ y. steps_left q line.command y g.topics) same in
    let nearer : hand_left g < hand_left (hand_in mmu w a) = subst (λ n. n < hand_left (hand_in mmu w a)) (sym left_now) G.2 in (
      record {
        sound = B.sound;
        others = B.others;
        there = B.there;
        left = subst (λ (x : Held). length x.answers < length x.lines) (sym B.hand) left;
        knows = subst (λ (x : Held). AloneKnows x.state.place (line_of x).command (word_in z after) x.topics) (sym B.hand) knows;
      },
      subst (λ (x : Held). hand_left x < hand_left (hand_in mmu w a)) (sym B.hand) nearer,
    )

comes_nearer : (o : Outcome) (z : Sizes) (w after : World Held) (a : ℕ) (line : Line) (g : Held) (words : Area → ℕ → ℕ)
    → (hand_in mmu w a).state.sizes ≡ z → Behind z a after g words → HandBy o line (hand_in mmu w a) g
    → GoesAlone o line.command (hand_in mmu w a).state.sizes words g.topics (hand_left (hand_in mmu w a)) → KnowsBehind o line.command g
    → ComesNearer o z a w after
comes_nearer (Goes q) z w after a line g words sizes B H G rests = goes_on q z w after a line g words sizes B H G
comes_nearer (Ends answer) z w after a line g words sizes B H G rests = (
  B.sound,
  all,
  subst (StarvedOnlyWithout answer z) (sym B.words_are) (subst (λ y. StarvedOnlyWithout answer y words) sizes G),
)
  where
    -- its line is over
    placed : (hand_in mmu after a).state.place ≡ place.Between
    placed = ap (λ (x : Held). x.state.place) B.hand ∙ H.stands

    -- So no page is retired, no invalidation is open, and no frame is owned.
    left : RetiresPart (hand_in mmu after a).state.place (hand_in mmu after a).topics
    left = B.sound.holds.leaves a B.there

    own : HoldsNothing (hand_in mmu after a).topics
    own = record {
      rests = subst (λ (x : Held). IsAtRest x.topics) (sym B.hand) rests;
      retires_none = left.leaves (ap may_retire placed);
      opens_none = left.opens (ap may_open placed);
      owns_no_frame = left.frames (ap may_own_frame placed);
    }

    all : AllRest after
    all i lt = by (same_or i a)
      where
        by : (i ≡ a) ⊎ (i ≢ a) → HoldsNothing (hand_in mmu after i).topics
        by (inl e) = subst (λ j. HoldsNothing (hand_in mmu after j).topics) (sym e) own
        by (inr ne) = B.others i lt ne

module _ (z : Sizes) (w : World Held) (s : Step Kind) (L : LineAlone z w s.actor) (may : May mmu w s) where
  abbrev a : ℕ
  a = s.actor

  abbrev h : Held
  h = hand_in mmu w a

  abbrev line : Line
  line = line_at h.state.place h

  abbrev stood : Place
  stood = place_at h.state.place h

  abbrev words : Area → ℕ → ℕ
  words = word_in z w

  abbrev x : ℕ
  x = answer_in (task_at stood line.command h) words

  sizes : h.state.sizes ≡ z
  sizes = (L.sound.holds.lines a L.there).sizes

  taken : Takes z w s h
  taken = takes_line z w s L.sound may (is_next h s.kind may.enabled (has_line_is h L.left))

  stepped_alone : GoesOnAlone stood line.command h words (topics_at stood line.command h words)
  stepped_alone =
      let S = taken.is_step in
      alone_step z w a L.sound L.others L.there stood line.command S.begun (subst (λ c. IsCommandFor z c line.command) S.own S.allowed)
      (part_rests_at z (view z w) a L.sound.holds L.sound.topics L.there)
      (step_leaves z (view z w) a line line.command stood S L.sound.holds) (slot_fits z (view z w) a line stood S L.sound.holds)
      (is_next h s.kind may.enabled (has_line_is h L.left)).rests.at
      (knows_at z (view z w) a L.sound.holds L.there L.left)
      (standing_alone h.state.place h.state.sizes h.slots line.command words h.topics L.knows)

  behind : Behind z a (effect mmu w s) (hand_after line line.command stood h x) (words_after (task_at stood line.command h) words)
  behind = record {
    sound = good_step z w s L.sound may;
    others =
        λ i lt ne. subst (λ (g : Held). HoldsNothing g.topics)
        (sym (ap (λ (v : View). v.hand i) taken.leads ∙ upd_other (hand_in mmu w) a i (hand_after line line.command stood h x) ne))
        (L.others i (subst (λ n. i < n) (hands_of_effect mmu w s) lt) ne);
    there = L.there;
    hand = ap (λ (v : View). v.hand a) taken.leads ∙ upd_same (hand_in mmu w) a (hand_after line line.command stood h x);
    words_are = ap (λ (v : View). v.words) taken.leads;
  }

  nearer : ComesNearer (outcome_at stood line.command h x) z a w (effect mmu w s)
  nearer =
      comes_nearer (outcome_at stood line.command h x) z w (effect mmu w s) a line (hand_after line line.command stood h x)
      (words_after (task_at stood line.command h) words) sizes behind
      (record { stands = refl; line_is = refl; lines = refl; answers = refl; left = L.left })
      stepped_alone.next
      (line_knows z (view z w) a line line.command stood taken.is_step L.sound.holds L.sound.topics L.there)

  steps_alone_here : StepsAlone z w s
  steps_alone_here = record {
    goes = ap (line_waits stood line.command h) taken.answers ∙ stepped_alone.goes;
    nearer = subst (λ n. ComesNearer (outcome_at stood line.command h n) z a w (effect mmu w s)) (sym taken.answers) nearer;
  }

pub steps_alone : (z : Sizes) (w : World Held) (s : Step Kind) → LineAlone z w s.actor → May mmu w s → StepsAlone z w s
steps_alone z w s L may = steps_alone_here z w s L may

pub begins_alone : (z : Sizes) (w : World Held) (a : ℕ) → IsSound z w → OthersRest a w → a < actors_of z
    → length (hand_in mmu w a).answers < length (hand_in mmu w a).lines → (hand_in mmu w a).state.place ≡ place.Between
    → LineAlone z w a × (hand_left (hand_in mmu w a) ≤ most_steps z (line_of (hand_in mmu w a)).command)
begins_alone z w a sound others there left idle =
    let h : Held = hand_in mmu w a in
    let few : hand_left h ≤ most_steps h.state.sizes (line_of h).command = hand_few z (view z w) a sound.holds sound.topics there left in
    let rests : IsAtRest h.topics = subst (λ q. KnowsPart q h.state.line.command h) idle (sound.holds.knows a there) (has_line_is h left) in
    let knows : AloneKnows place.Between (line_of h).command (word_in z w) h.topics = between_alone (line_of h).command (word_in z w) h.topics rests in
    let stands : AloneKnows h.state.place (line_of h).command (word_in z w) h.topics =
    subst (λ q. AloneKnows q (line_of h).command (word_in z w) h.topics) (sym idle) knows in (
      record { sound = sound; others = others; there = there; left = left; knows = stands },
      subst (λ y. hand_left h ≤ most_steps y (line_of h).command) (sound.holds.lines a there).sizes few,
    )

-- What is told of a step of a line alone: of the hands before and after it, and the world after it.
abbrev pub ToldAlone : Outcome → Sizes → ℕ → Held → Held → World Held → Type 0
ToldAlone (Goes p) z a h g after = LineAlone z after a × (hand_left g < hand_left h)
ToldAlone (Ends answer) z a h g after = IsSound z after × AllRest after × StarvedOnlyWithout answer z (word_in z after)

nearer_told : (o : Outcome) (z : Sizes) (a : ℕ) (w after : World Held) → ComesNearer o z a w after
    → ToldAlone o z a (hand_in mmu w a) (hand_in mmu after a) after
nearer_told (Goes p) z a w after N = N
nearer_told (Ends answer) z a w after N = N

-- a step of a line alone, where the hands, its answer and the world after it are told
pub told_alone : (z : Sizes) (w after : World Held) (a v : ℕ) (k : Kind) (h g : Held) → LineAlone z w a → hand_in mmu w a ≡ h
    → hand_in mmu after a ≡ g → May mmu w (record { actor = a; kind = k }) → answered mmu w k ≡ v
    → after ≡ effect mmu w (record { actor = a; kind = k })
    → (line_waits (place_at h.state.place h) (line_of h).command h v ≡ false) × ToldAlone (outcome_of h v) z a h g after
told_alone z w after a v k h g L has then_ may found is =
    let N = steps_alone z w (record { actor = a; kind = k }) L may in
    let o : Outcome = outcome_of (hand_in mmu w a) (answered mmu w k) in
    let told : ToldAlone o z a (hand_in mmu w a) (hand_in mmu after a) after =
    nearer_told o z a w after (subst (λ (u : World Held). ComesNearer o z a w u) (sym is) N.nearer) in (
      subst (λ n. line_waits (place_at h.state.place h) (line_of h).command h n ≡ false) found
          (subst (λ (x : Held). line_waits (place_at x.state.place x) (line_of x).command x (answered mmu w k) ≡ false) has N.goes),
      subst (λ (y : Held). ToldAlone (outcome_of h v) z a h y after) then_
          (subst (λ n. ToldAlone (outcome_of h n) z a h (hand_in mmu after a) after) found
          (subst (λ (x : Held). ToldAlone (outcome_of x (answered mmu w k)) z a x (hand_in mmu after a) after) has told)),
    )
