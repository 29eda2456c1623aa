-- What the steps of an invalidation's begin and end leave in the words, and in what the actor holds.
use Rattle.std.proofs.Common.{◌≡◌, ◌+◌, ◌-◌, ℕ, Option, Some, None, refl, sym, ap, ◌∙◌, arith}
use Rattle.std.specs.Prelude.{Bool, true, false, nat_lt}
use Rattle.std.proofs.Math.Logic.{∥∥₁_elim}
use Rattle.std.proofs.Props.{props}
use Rattle.std.proofs.lemmas.Bool.Decides.{nat_tests}
use Rattle.core_views.specs.declared.kind.Kind.{Kind}
use Rattle.core_views.specs.declared.place.CheckStage.TheVariants as word_of
use Rattle.core_views.specs.declared.sizes.Sizes.{Sizes}
use Rattle.core_views.specs.declared.topics.Hold.{Hold}
use Rattle.core_views.specs.declared.topics.Hold.TheVariants.{Exclusive}
use Rattle.core_views.specs.declared.topics.Topics.{Topics}
use Rattle.core_views.specs.Held.{Held}
use Rattle.spte_words.specs.declared.area.Area.{Area}
use Rattle.spte_words.specs.declared.area.Area.TheVariants as area
use Rattle.part_steps.specs.declared.part_step.PartStep.{PartStep}
use Rattle.part_steps.specs.declared.part_step.PartStep.TheVariants as part
use Rattle.part_steps.specs.PartSteps.{PartNeeds}
use Rattle.part_steps.specs.PartTasks.{own_index, part_kind, part_task}
use Rattle.part_steps.specs.PartTopics.{part_topics}
use Rattle.part_steps.specs.StayTopics.{has_lock}
use Rattle.mmu_core.specs.machine.Enabled.{mmu}
use Rattle.mmu_core.specs.machine.Machine.{World, answered}
use Rattle.mmu_core.specs.machine.View.{answer_in, word_in}
use Rattle.step_seats.specs.PartTurns.{MadePart}
use Rattle.step_seats.specs.Seats.{Seat}
use Rattle.step_seats.specs.Where.{AnsweredThere, IsMadeIn, OfWorld}
use Rattle.step_seats.proofs.ToldWords.{StepsTo, found_in, told_both}
use Rattle.invalidate_seq.specs.Checks.{area_of, loaded}
use Rattle.invalidate_seq.specs.Invalidating.{Opens, Shuts, open_at, open_word, shut_at, shut_word}
use Rattle.invalidate_seq.specs.Stored.{count_stored, ended, raised, started}
use Rattle.invalidate_seq.specs.declared.open.OpenStage.{OpenStage}
use Rattle.invalidate_seq.specs.declared.open.OpenStage.TheVariants as opens
use Rattle.invalidate_seq.specs.declared.shut.ShutStage.{ShutStage}
use Rattle.invalidate_seq.specs.declared.shut.ShutStage.TheVariants as shuts
use Rattle.invalidate_seq.proofs.Loading.{loads_only, seq_loaded}

-- A step that answers the same number whatever stands in the words answered this one.
answered_so : (step : PartStep) (note found x : ℕ) (before after : Seat) → PartNeeds step before.hand
    → ((words : Area → ℕ → ℕ) → answer_in (part_task step (own_index before.hand) before.hand.topics note) words ≡ x)
    → AnsweredThere (part_kind before.hand step note) found before after → found ≡ x
answered_so step note found x before after needs so there = by before.tells.world there
  where
    h : Held
    h = before.hand

    k : Kind
    k = part_kind h step note

    answered_in : (w : World Held) → IsMadeIn k before.actor h after.hand w → answered mmu w k ≡ found → found ≡ x
    answered_in w M is = sym is ∙ found_in w before.actor note step h M.has needs ∙ so (word_in h.state.sizes w)

    by : (o : Option (World Held)) → OfWorld o (λ w. IsMadeIn k before.actor h after.hand w × (answered mmu w k ≡ found)) → found ≡ x
    by (Some w) p = answered_in w p.0 p.1
    by None p = ∥∥₁_elim p (hlevel props) (λ y. answered_in y.0 y.1.0 y.1.1)

-- A store answers what it wrote.
abbrev pub Wrote : PartStep → ℕ → Type 0
Wrote (part.SetStart first x) found = found ≡ x
Wrote (part.SetEnd end_ x) found = found ≡ x
Wrote (part.SetCount x) found = found ≡ x
Wrote (part.SetSeq x) found = found ≡ x
Wrote _ found = Unit {0}

pub wrote : (step : PartStep) (note found : ℕ) (before after : Seat) → PartNeeds step before.hand → MadePart step note found before after → Wrote step found
wrote (part.SetStart first x) note found before after needs made =
    answered_so (part.SetStart first x) note found x before after needs (λ words. refl) made.answers
wrote (part.SetEnd end_ x) note found before after needs made =
    answered_so (part.SetEnd end_ x) note found x before after needs (λ words. refl) made.answers
wrote (part.SetCount x) note found before after needs made = answered_so (part.SetCount x) note found x before after needs (λ words. refl) made.answers
wrote (part.SetSeq x) note found before after needs made = answered_so (part.SetSeq x) note found x before after needs (λ words. refl) made.answers
wrote _ note found before after needs made = tt

-- One more is more, and one less isn't.
rises : (n : ℕ) → nat_lt n (n + 1) ≡ true
rises n = grind (arith, nat_tests)

falls : (n : ℕ) → nat_lt n (n - 1) ≡ false
falls n = grind (arith, nat_tests)

has_the_lock : (h : Hold) → h ≡ Exclusive → has_lock h ≡ true
has_the_lock h alone = ap has_lock alone

pub opened_behind : (stage : OpenStage) (first end_ : ℕ) (before after : Topics) (v : ℕ) → before.hold ≡ Exclusive
    → Wrote (open_at stage first end_ before.invalidations) v
    → after ≡ part_topics (open_at stage first end_ before.invalidations) before v → Opens stage first end_ before after
opened_behind opens.Count first end_ before after v alone is made = loads_only word_of.Count before after v (has_the_lock _ alone) made
opened_behind opens.RangeStart first end_ before after v alone is made = loads_only word_of.Start before after v (has_the_lock _ alone) made
opened_behind opens.RangeEnd first end_ before after v alone is made = loads_only word_of.End before after v (has_the_lock _ alone) made
opened_behind opens.SetStart first end_ before after v alone is made = made ∙ ap (λ n. started first n before) is
opened_behind opens.SetEnd first end_ before after v alone is made = made ∙ ap (λ n. ended end_ n before) is
opened_behind opens.SetCount first end_ before after v alone is made =
    made
    ∙ ap (λ n. count_stored n (nat_lt before.invalidations.count n) before) is
    ∙ ap (λ (b : Bool). count_stored (before.invalidations.count + 1) b before) (rises before.invalidations.count)

pub shut_behind : (stage : ShutStage) (before after : Topics) (v : ℕ) → before.hold ≡ Exclusive → Wrote (shut_at stage before.invalidations) v
    → after ≡ part_topics (shut_at stage before.invalidations) before v → Shuts stage before after
shut_behind shuts.Seq before after v alone is made = loads_only word_of.Seq before after v (has_the_lock _ alone) made
shut_behind shuts.SetSeq before after v alone is made = made ∙ ap (λ n. raised n before) is
shut_behind shuts.Count before after v alone is made = loads_only word_of.Count before after v (has_the_lock _ alone) made
shut_behind shuts.SetCount before after v alone is made =
    made
    ∙ ap (λ n. count_stored n (nat_lt before.invalidations.count n) before) is
    ∙ ap (λ (b : Bool). count_stored (before.invalidations.count - 1) b before) (falls before.invalidations.count)

-- What is kept of a stage's word is what stands there after its step.
module _ (z : Sizes) (own note v : ℕ) (before after : Topics) (w u : World Held) where
  open_kept : (stage : OpenStage) (first end_ : ℕ) → after ≡ part_topics (open_at stage first end_ before.invalidations) before v
      → StepsTo z (part_task (open_at stage first end_ before.invalidations) own before note) v w u
      → loaded (open_word stage) after.invalidations ≡ word_in z u (area_of (open_word stage)) 0
  open_kept opens.Count first end_ made S = ap (λ (t : Topics). t.invalidations.count) made ∙ S.finds ∙ sym (S.leaves area.Count 0)
  open_kept opens.RangeStart first end_ made S = ap (λ (t : Topics). t.invalidations.start) made ∙ S.finds ∙ sym (S.leaves area.RangeStart 0)
  open_kept opens.RangeEnd first end_ made S = ap (λ (t : Topics). t.invalidations.end) made ∙ S.finds ∙ sym (S.leaves area.RangeEnd 0)
  open_kept opens.SetStart first end_ made S = ap (λ (t : Topics). t.invalidations.start) made ∙ S.finds ∙ sym (S.leaves area.RangeStart 0)
  open_kept opens.SetEnd first end_ made S = ap (λ (t : Topics). t.invalidations.end) made ∙ S.finds ∙ sym (S.leaves area.RangeEnd 0)
  open_kept opens.SetCount first end_ made S = ap (λ (t : Topics). t.invalidations.count) made ∙ S.finds ∙ sym (S.leaves area.Count 0)

  shut_kept : (stage : ShutStage) → before.hold ≡ Exclusive → after ≡ part_topics (shut_at stage before.invalidations) before v
      → StepsTo z (part_task (shut_at stage before.invalidations) own before note) v w u
      → loaded (shut_word stage) after.invalidations ≡ word_in z u (area_of (shut_word stage)) 0
  shut_kept shuts.Seq alone made S =
      ap (λ (t : Topics). t.invalidations.seq) (seq_loaded before after v (has_the_lock _ alone) made) ∙ S.finds ∙ sym (S.leaves area.Seq 0)
  shut_kept shuts.SetSeq alone made S = ap (λ (t : Topics). t.invalidations.seq) made ∙ S.finds ∙ sym (S.leaves area.Seq 0)
  shut_kept shuts.Count alone made S = ap (λ (t : Topics). t.invalidations.count) made ∙ S.finds ∙ sym (S.leaves area.Count 0)
  shut_kept shuts.SetCount alone made S = ap (λ (t : Topics). t.invalidations.count) made ∙ S.finds ∙ sym (S.leaves area.Count 0)

module _ (note found : ℕ) (before after : Seat) (w u : World Held) where
  pub open_keeps : (stage : OpenStage) (first end_ : ℕ) → PartNeeds (open_at stage first end_ before.hand.topics.invalidations) before.hand
      → before.tells.world ≡ Some w → after.tells.world ≡ Some u
      → MadePart (open_at stage first end_ before.hand.topics.invalidations) note found before after
      → loaded (open_word stage) after.hand.topics.invalidations ≡ word_in before.hand.state.sizes u (area_of (open_word stage)) 0
  open_keeps stage first end_ needs is was made =
      rw (is, was) at (told_both before.tells.world after.tells.world before.actor note found
      (open_at stage first end_ before.hand.topics.invalidations) before.hand
      (λ x y. loaded (open_word stage) after.hand.topics.invalidations ≡ word_in before.hand.state.sizes y (area_of (open_word stage)) 0)
      needs made.has made.world
      (λ x y S. open_kept before.hand.state.sizes (own_index before.hand) note found before.hand.topics after.hand.topics x y stage first end_ made.topics S))

  pub shut_keeps : (stage : ShutStage) → before.hand.topics.hold ≡ Exclusive → PartNeeds (shut_at stage before.hand.topics.invalidations) before.hand
      → before.tells.world ≡ Some w → after.tells.world ≡ Some u
      → MadePart (shut_at stage before.hand.topics.invalidations) note found before after
      → loaded (shut_word stage) after.hand.topics.invalidations ≡ word_in before.hand.state.sizes u (area_of (shut_word stage)) 0
  shut_keeps stage alone needs is was made =
      rw (is, was) at (told_both before.tells.world after.tells.world before.actor note found (shut_at stage before.hand.topics.invalidations) before.hand
      (λ x y. loaded (shut_word stage) after.hand.topics.invalidations ≡ word_in before.hand.state.sizes y (area_of (shut_word stage)) 0)
      needs made.has made.world
      (λ x y S. shut_kept before.hand.state.sizes (own_index before.hand) note found before.hand.topics after.hand.topics x y stage alone made.topics S))
