-- The sequence number stays no more than the lines that may have raised it: each step keeps it, so the next number is far below 2 ^ 64.
use Rattle.std.proofs.Common.{◌≡◌, ◌+◌, ◌*◌, ◌^◌, ◌<◌, ◌≤◌, ℕ, zero, suc, length, refl, sym, subst, ap, ◌∙◌, arith}
use Rattle.std.specs.Prelude.{false, Option, Some, None}
use Rattle.core_views.specs.declared.place.Place.{Place}
use Rattle.core_views.specs.declared.place.Place.TheVariants as place
use Rattle.core_views.specs.declared.sizes.Sizes.{Sizes}
use Rattle.core_views.specs.declared.trace.Command.{Command}
use Rattle.core_views.specs.declared.trace.Line.{Line}
use Rattle.core_views.specs.declared.trace.Op.{Op}
use Rattle.core_views.specs.declared.trace.Op.TheVariants.{Read}
use Rattle.core_views.specs.Held.{Held}
use Rattle.core_views.specs.Sizes.{AreSizes, actors_of}
use Rattle.spte_words.specs.declared.area.Area.{Area}
use Rattle.spte_words.specs.declared.area.Area.TheVariants as area
use Rattle.part_steps.specs.declared.part_step.PartStep.{PartStep}
use Rattle.part_steps.specs.declared.part_step.PartStep.TheVariants as part
use Rattle.part_steps.specs.declared.task.Task.{Task}
use Rattle.part_steps.specs.PartSteps.{needs_line}
use Rattle.part_steps.specs.StayTopics.{has_lock}
use Rattle.mmu_core.specs.declared.outcome.Outcome.{Outcome}
use Rattle.mmu_core.specs.declared.outcome.Outcome.TheVariants.{Goes, Ends}
use Rattle.mmu_core.specs.invariant.Invariant.{Invariant, OwnLines, UnderWay}
use Rattle.mmu_core.specs.invariant.InvalidationsPart.{EndsPart, has_raised, knows_seq, lines_raised}
use Rattle.mmu_core.specs.invariant.TopicsInvariant.{TopicsInvariant}
use Rattle.mmu_core.specs.forms.access.AccessSteps.{task_by, touch_of}
use Rattle.mmu_core.specs.lines.Forms.{note_at, outcome_at, part_at}
use Rattle.mmu_core.specs.lines.PartAt.{task_at, touch_at}
use Rattle.mmu_core.specs.machine.Outcomes.{answers_after}
use Rattle.mmu_core.specs.machine.Sums.{one_if, sum_below}
use Rattle.mmu_core.specs.machine.View.{View, answer_in, hand_after, part_stepped, stepped, words_after}
use Rattle.mmu_core.proofs.invariant.Kept.{makes_at}
use Rattle.mmu_core.proofs.invariant.QuietKept.{touched}
use Rattle.mmu_core.proofs.forms.access.AccessParts.{AreSmall}
use Rattle.mmu_core.proofs.lines.LinesKept.{answers_length}
use Rattle.mmu_core.proofs.lines.Raised.{raised_before, raised_on}
use Rattle.mmu_core.proofs.machine.PartStepping.{raises, rises}
use Rattle.mmu_core.proofs.machine.Columns.{at_upd}
use Rattle.mmu_core.proofs.machine.PartStepping.{IsPart}
use Rattle.mmu_core.proofs.machine.Stepping.{IsStep}
use Rattle.mmu_core.proofs.machine.SumsBelow.{column, one_small, sum_upd}

-- ---- The number after each step.

part_rises : (z : Sizes) (v : View) (a : ℕ) (step : PartStep) (note : ℕ) → IsPart z v a step → TopicsInvariant z v
    → (part_stepped a step note v).words area.Seq 0 ≤ v.words area.Seq 0 + rises step
part_rises z v a (part.SetSeq seq) note S I =
    let is = S.needs.1 in
    let loaded = (I.checks a S.there).numbered (ap has_lock S.needs.0.alone) (ap knows_seq S.needs.0.loaded) in
    omega (arith, is, loaded)
part_rises z v a _ note S I = omega arith

touch_leaves_seq : (words : Area → ℕ → ℕ) (op : Op) (index : ℕ) → words_after (touch_of op index) words area.Seq 0 ≡ words area.Seq 0
touch_leaves_seq words Read index = refl
touch_leaves_seq words _ index = refl

seq_by : (z : Sizes) (v : View) (a : ℕ) (o : Option PartStep) (note : ℕ) (touch : Task) → TopicsInvariant z v
    → ((step : PartStep) → o ≡ Some step → IsPart z v a step) → (o ≡ None → (op : Op) × (index : ℕ) × (touch ≡ touch_of op index))
    → words_after (task_by o (v.hand a) note touch) v.words area.Seq 0 ≤ v.words area.Seq 0 + raises o
seq_by z v a None note touch I makes touches =
    let T = touches refl in
    let same : words_after touch v.words area.Seq 0 ≡ v.words area.Seq 0 = ap (λ (t : Task). words_after t v.words area.Seq 0) T.2
    ∙ touch_leaves_seq v.words T.0 T.1 in
    omega (arith, same)
seq_by z v a (Some step) note touch I makes touches = part_rises z v a step note (makes step refl) I

-- ---- Each step keeps it.

answers_few : (o : Outcome) (line : Line) (h : Held) → length h.answers < length h.lines → length (answers_after o line h.answers) ≤ length h.lines
answers_few (Goes p) line h left = omega (arith, left)
answers_few (Ends answer) line h left = let more = answers_length h.answers (record { number = line.number; actor = line.actor; answer = answer }) in
    omega (arith, left, more)

pub line_ends_kept : (z : Sizes) (v : View) (a : ℕ) (line : Line) (command : Command) (p : Place) → AreSmall v → IsStep z v a line command p
    → Invariant z v → TopicsInvariant z v → EndsPart z (v.words area.Seq 0) v.hand
    → EndsPart z ((stepped a line command p v).words area.Seq 0) (stepped a line command p v).hand
line_ends_kept z v a line command p small S I P E = record {
  raised =
      let seq = seq_by z v a (part_at p command h) (note_at p command h) (touch_at command h) P (makes_at z v a line command p small S I P)
      (touched p command h) in
      let on = raised_on p command h (answer_in (task_at p command h) v.words) line S.begun in
      let before = raised_before h.state.place h.state.sizes h.slots _ p S.place_is in
      let sum = sum_upd lines_raised (actors_of z) v.hand a after S.there in
      let was = E.raised in
      omega (arith, seq, on, before, sum, was);
  answered =
      at_upd (λ i (k : Held). i < actors_of z → length k.answers ≤ length k.lines) v.hand a after
      (λ lt. answers_few (outcome_at p command h (answer_in (task_at p command h) v.words)) line h S.left) (λ i ne. E.answered i);
}
  where
    h : Held
    h = v.hand a

    after : Held
    after = hand_after line command p h (answer_in (task_at p command h) v.words)

seq_free : (v : View) (a : ℕ) (step : PartStep) (note : ℕ) → needs_line step ≡ false → (part_stepped a step note v).words area.Seq 0 ≡ v.words area.Seq 0
seq_free v a (part.SetSeq seq) note free = absurd (cc free)
seq_free v a _ note free = refl

-- A step of a part without a line leaves the lines, their answers and the number.
pub part_ends_kept : (z : Sizes) (v : View) (a : ℕ) (step : PartStep) (note : ℕ) → needs_line step ≡ false → EndsPart z (v.words area.Seq 0) v.hand
    → EndsPart z ((part_stepped a step note v).words area.Seq 0) (part_stepped a step note v).hand
part_ends_kept z v a step note free E = subst (λ n. EndsPart z n (part_stepped a step note v).hand) (sym (seq_free v a step note free)) (record {
  raised = subst (λ (c : ℕ → ℕ). v.words area.Seq 0 ≤ sum_below (actors_of z) c) (sym (column lines_raised v.hand a _ refl)) E.raised;
  answered = at_upd (λ i (k : Held). i < actors_of z → length k.answers ≤ length k.lines) v.hand a _ (λ lt. E.answered a lt) (λ i ne. E.answered i);
})

-- ---- The next number.

-- An actor has raised the number no more often than it has lines.
raised_few : (p : Place) (h : Held) → UnderWay p h → length h.answers ≤ length h.lines → length h.answers + one_if (has_raised p) ≤ length h.lines
raised_few place.Between h under few = omega (arith, few)
raised_few p h under few = let left = under.1 in omega (arith, left, one_small (has_raised p))

sum_most : (n : ℕ) (f : ℕ → ℕ) → ((i : ℕ) → i < n → f i ≤ 1000000) → sum_below n f ≤ n * 1000000
sum_most zero f each = omega arith
sum_most (suc n) f each = omega (arith, sum_most n f (λ i lt. each i (omega arith)), each n (omega arith))

pub next_few : (z : Sizes) (seq : ℕ) (hand : ℕ → Held) → AreSizes z → ((i : ℕ) → i < actors_of z → OwnLines z i (hand i)) → EndsPart z seq hand
    → seq + 1 < 2 ^ 40
next_few z seq hand sizes lines E =
    let few : actors_of z ≤ 25 = omega (arith, sizes.actors.vcpus, sizes.actors.hosts, sizes.actors.workers) in
    let was = E.raised in
    let most = sum_most (actors_of z) (λ i. lines_raised (hand i)) (λ i lt. let O = lines i lt in
    let own = raised_few (hand i).state.place (hand i) O.under (E.answered i lt) in omega (arith, own, O.few)) in
    omega (arith, few, was, most)
