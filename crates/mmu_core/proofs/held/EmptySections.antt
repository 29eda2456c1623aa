-- Who comes from outside holds nothing that was loaded before.
use Rattle.std.proofs.Common.{◌≡◌, ◌≢◌, ◌⊎◌, inl, inr, ◌<◌, ℕ, [], ◌∷◌, refl, sym, subst, ap, ◌∙◌}
use Rattle.std.specs.Prelude.{false, None}
use Rattle.std.proofs.Math.Logic.{∥∥₁_map}
use Rattle.core_views.specs.declared.kind.Kind.{Kind}
use Rattle.core_views.specs.declared.topics.Stay.TheVariants.{Outside}
use Rattle.core_views.specs.declared.topics.Topics.{Topics}
use Rattle.core_views.specs.Held.{Held}
use Rattle.part_steps.specs.declared.part_step.PartStep.{PartStep}
use Rattle.part_steps.specs.declared.part_step.PartStep.TheVariants as part
use Rattle.mmu_core.specs.machine.Enabled.{mmu}
use Rattle.mmu_core.specs.invariant.Grace.{BeganEmpty, SectionsBeginEmpty, topics_in}
use Rattle.mmu_core.specs.machine.Machine.{May, Step, World, answered, effect, hand_in}
use Rattle.part_steps.specs.PartTopics.{part_topics}
use Rattle.mmu_core.specs.machine.Steps.{next}
use Rattle.part_steps.specs.StayTopics.{is_outside}
use Rattle.mmu_core.specs.machine.Worlds.{Reachable}
use Rattle.mmu_core.proofs.machine.Columns.{same_or}
use Rattle.mmu_core.proofs.machine.Extend.{goes_on, hands_of_effect}
use Rattle.mmu_core.proofs.machine.LineParts.{IsPartKind, IsQuiet, step_kind}
use Rattle.mmu_core.proofs.machine.NextTopics.{next_topics, topics_behind}
use Rattle.mmu_core.proofs.held.Grace.{hand_here, hand_there}

-- The actor comes from outside, and holds nothing.
record IsEmptyInside (t : Topics) : Type 0 where
  inside : is_outside t.stay ≡ false
  no_table : t.walk.level ≡ 0
  no_set : t.search.set ≡ None

part_comes : (step : PartStep) (t : Topics) (v : ℕ) → t.stay ≡ Outside → ((part_topics step t v).stay ≡ Outside) ⊎ IsEmptyInside (part_topics step t v)
part_comes part.Enter t v out = inr (record { inside = refl; no_table = refl; no_set = refl })
part_comes part.Begin t v out = inr (record { inside = refl; no_table = refl; no_set = refl })
part_comes part.Leave t v out = inl refl
part_comes part.End t v out = inl refl
part_comes _ t v out = inl out

own_comes : (w : World Held) (s : Step Kind) → May mmu w s → (topics_in w s.actor).stay ≡ Outside
    → ((topics_in (effect mmu w s) s.actor).stay ≡ Outside) ⊎ IsEmptyInside (topics_in (effect mmu w s) s.actor)
own_comes w s may out = by (step_kind h s.kind may.enabled)
  where
    h : Held
    h = hand_in mmu w s.actor

    v : ℕ
    v = answered mmu w s.kind

    by : IsPartKind h s.kind ⊎ IsQuiet h.state.sizes h.topics s.kind
        → ((topics_in (effect mmu w s) s.actor).stay ≡ Outside) ⊎ IsEmptyInside (topics_in (effect mmu w s) s.actor)
    by (inl N) =
        let topics : (topics_in (effect mmu w s) s.actor) ≡ part_topics N.step h.topics v =
        ap (λ (x : Held). x.topics) (hand_here w s may.there) ∙ ap (λ (k : Kind). (next h k v).topics) N.is ∙ topics_behind h N.step N.note v N.needs in
        subst (λ t. (t.stay ≡ Outside) ⊎ IsEmptyInside t) (sym topics) (part_comes N.step h.topics v out)
    by (inr Q) = inl (ap (λ (x : Held). x.topics.stay) (hand_here w s may.there) ∙ ap (λ (t : Topics). t.stay) (next_topics h s.kind v)
        ∙ ap (λ (t : Topics). t.stay) (Q.topics v) ∙ out)

-- An actor that was outside is so after a step, or this step is its own, and it holds nothing inside.
abbrev Comes : World Held → Step Kind → ℕ → Type 0
Comes w s i = (topics_in w i).stay ≡ Outside → ((topics_in (effect mmu w s) i).stay ≡ Outside) ⊎ ((s.actor ≡ i) × IsEmptyInside (topics_in (effect mmu w s) i))

comes : (w : World Held) (s : Step Kind) (i : ℕ) → May mmu w s → Comes w s i
comes w s i may = by (same_or i s.actor)
  where
    own : Comes w s s.actor
    own out = or (own_comes w s may out)
      where
        or : ((topics_in (effect mmu w s) s.actor).stay ≡ Outside) ⊎ IsEmptyInside (topics_in (effect mmu w s) s.actor)
            → ((topics_in (effect mmu w s) s.actor).stay ≡ Outside) ⊎ ((s.actor ≡ s.actor) × IsEmptyInside (topics_in (effect mmu w s) s.actor))
        or (inl still) = inl still
        or (inr empty) = inr (refl, empty)

    by : (i ≡ s.actor) ⊎ (i ≢ s.actor) → Comes w s i
    by (inl e) = subst (λ x. Comes w s x) (sym e) own
    by (inr other) = λ out. inl (ap (λ (x : Held). x.topics.stay) (hand_there w s i other) ∙ out)

reached_behind : (w : World Held) (s : Step Kind) → May mmu w s → ∥ Reachable w ∥₁ → ∥ Reachable (effect mmu w s) ∥₁
reached_behind w s may reached =
    ∥∥₁_map reached (λ r. record { sizes = r.sizes; lines = r.lines; start = r.start; is_start = r.is_start; leads = goes_on mmu r.start w s r.leads may })

pub sections_begin_empty : SectionsBeginEmpty
sections_begin_empty w [] i reached legal there out inside = absurd (inside out)
sections_begin_empty w (s ∷ ss) i reached legal there out inside =
    by (λ still. sections_begin_empty (effect mmu w s) ss i (reached_behind w s legal.0 reached) legal.1
    (subst (λ n. i < n) (sym (hands_of_effect mmu w s)) there) still inside) (comes w s i legal.0 out)
  where
    by : ((topics_in (effect mmu w s) i).stay ≡ Outside → BeganEmpty (effect mmu w s) i ss)
        → ((topics_in (effect mmu w s) i).stay ≡ Outside) ⊎ ((s.actor ≡ i) × IsEmptyInside (topics_in (effect mmu w s) i)) → BeganEmpty w i (s ∷ ss)
    by later (inl still) =
        let B = later still in
        record {
          before = s ∷ B.before;
          begin = B.begin;
          later = B.later;
          split = ap (λ ts. s ∷ ts) B.split;
          by = B.by;
          outside = B.outside;
          inside = B.inside;
          no_table = B.no_table;
          no_set = B.no_set;
        }
    by later (inr came) = record {
      before = [];
      begin = s;
      later = ss;
      split = refl;
      by = came.0;
      outside = out;
      inside = came.1.inside;
      no_table = came.1.no_table;
      no_set = came.1.no_set;
    }
