-- Where a frame is claimed, and where it is given back, it is nobody else's.
use Rattle.std.proofs.Common.{◌≡◌, ◌≢◌, ◌⊎◌, inl, inr, ◌<◌, ℕ, refl, sym, subst, ap, ◌∙◌, arith}
use Rattle.std.specs.Prelude.{Bool, true, false, if◌then◌else◌, nat_lt}
use Rattle.core_views.specs.declared.kind.Kind.{Kind}
use Rattle.core_views.specs.declared.kind.StepKind.{StepKind}
use Rattle.core_views.specs.declared.kind.StepKind.TheVariants as kind
use Rattle.core_views.specs.declared.sizes.Sizes.{Sizes}
use Rattle.core_views.specs.declared.topics.Topics.{Topics}
use Rattle.core_views.specs.declared.trace.Op.TheVariants.{Add, Read, Write}
use Rattle.core_views.specs.Held.{Held}
use Rattle.core_views.specs.Kinds.{code_of, kind_named}
use Rattle.core_views.specs.Sizes.{actors_of}
use Rattle.spte_words.specs.declared.area.Area.TheVariants as area
use Rattle.spte_words.specs.Areas.{place}
use Rattle.spte_words.specs.HostWords.{host_frame}
use Rattle.spte_words.proofs.Places.{places_apart}
use Rattle.part_steps.specs.declared.part_step.PartStep.{PartStep}
use Rattle.part_steps.specs.declared.part_step.PartStep.TheVariants as part
use Rattle.part_steps.specs.declared.task.Task.{Task}
use Rattle.part_steps.specs.PartSteps.{needs_line}
use Rattle.part_steps.specs.PartTasks.{own_index, part_task}
use Rattle.part_steps.specs.Tasks.{map_of}
use Rattle.mmu_core.specs.invariant.FramesPart.{IsNamed}
use Rattle.mmu_core.specs.invariant.Laws.{IsSound}
use Rattle.mmu_core.specs.machine.Enabled.{mmu}
use Rattle.mmu_core.specs.machine.Machine.{May, Step, World, effect, hand_in, run}
use Rattle.mmu_core.specs.machine.Steps.{has_line, line_at, place_at, task_of}
use Rattle.mmu_core.specs.machine.View.{View, view, word_in}
use Rattle.mmu_core.proofs.held.ClaimGoes.{others_hand}
use Rattle.mmu_core.proofs.held.InSection.{all_passed}
use Rattle.mmu_core.proofs.lines.StepIn.{StepIn, Makes, Touches, step_in}
use Rattle.mmu_core.proofs.machine.Columns.{same_or}
use Rattle.mmu_core.proofs.machine.PartStepping.{IsPart}
use Rattle.mmu_core.proofs.machine.Which.{is_next, is_part}
use Rattle.mmu_core.proofs.machine.Worlds.{are_small, good_step, takes_line}
use Rattle.mmu_core.proofs.pages.FrameUses.{one_frame_owner}
use Rattle.mmu_core.proofs.pages.FrameUses.{owned_of_no_page}
use Rattle.core_theorem.specs.Frames.{FramesAreReusedAlone, GivesFrame, IsNobodyElses}
use Rattle.core_theorem.specs.Frames.{LooksAtFrame, OwnsFrame, WinsFrame}
use Rattle.mmu_laws.specs.steps.StepLaws.{IsOn, IsOnItsArea}
use Rattle.mmu_laws.proofs.causes.Changes.{word_stays}
use Rattle.mmu_laws.specs.leaves.LoadedLeaves.{HasLeafTo, IsKeptFor}
use Rattle.mmu_laws.proofs.steps.StepLaws.{steps_are_on_their_areas}
use Rattle.core_theorem.proofs.Runs.{before, last_actor, may_last, sound}
use Rattle.core_theorem.proofs.Frames.{IsHeldStill, LoadedIn, held_look, loaded_leaves_kept, owns_number, unused_frame, unwatched_leaf, unwatched_look}

-- A step of this kind is that of a part, one of lines.
record IsOnly (kind_ : StepKind) (made : PartStep) : Type 0 where
  made_so : (step : PartStep) (own_ : ℕ) (t : Topics) (note : ℕ) → code_of (part_task step own_ t note).kind ≡ code_of kind_ → step ≡ made
  no_touch : code_of kind.Add < code_of kind_
  of_lines : needs_line made ≡ true

only_claim : IsOnly kind.Frame part.Frame
only_claim = record { made_so = by; no_touch = omega arith; of_lines = refl }
  where
    by : (step : PartStep) (own_ : ℕ) (t : Topics) (note : ℕ) → code_of (part_task step own_ t note).kind ≡ code_of kind.Frame → step ≡ part.Frame
    by part.Frame own_ t note e = refl
    by _ own_ t note e = absurd (omega (arith, e))

only_gift : IsOnly kind.Unframe part.GiveFrame
only_gift = record { made_so = by; no_touch = omega arith; of_lines = refl }
  where
    by : (step : PartStep) (own_ : ℕ) (t : Topics) (note : ℕ) → code_of (part_task step own_ t note).kind ≡ code_of kind.Unframe → step ≡ part.GiveFrame
    by part.GiveFrame own_ t note e = refl
    by _ own_ t note e = absurd (omega (arith, e))

line_makes : (z : Sizes) (v : View) (a : ℕ) (kind_ : StepKind) (made : PartStep) (task : Task) → IsOnly kind_ made → StepIn z v a task
    → code_of task.kind ≡ code_of kind_ → IsPart z v a made
line_makes z v a kind_ made _ O (Makes step note S) e = subst (IsPart z v a) (O.made_so step (own_index (v.hand a)) (v.hand a).topics note e) S
line_makes z v a kind_ made _ O (Touches Read index) e = absurd (omega (arith, e, O.no_touch))
line_makes z v a kind_ made _ O (Touches (Write x) index) e = absurd (omega (arith, e, O.no_touch))
line_makes z v a kind_ made _ O (Touches (Add x) index) e = absurd (omega (arith, e, O.no_touch))

-- Who makes a step of the kind makes it for its line: who has no line left makes none of lines.
makes_part : (z : Sizes) (u : World Held) (s : Step Kind) → IsSound z u → May mmu u s → (kind_ : StepKind) (made : PartStep) → IsOnly kind_ made
    → s.kind.code ≡ code_of kind_ → IsPart z (view z u) s.actor made
makes_part z u s G may kind_ made O e = by (has_line h) refl
  where
    h : Held
    h = hand_in mmu u s.actor

    by : (b : Bool) → has_line h ≡ b → IsPart z (view z u) s.actor made
    by true has =
        let N = is_next h s.kind may.enabled has in
        line_makes z (view z u) s.actor kind_ made (task_of h) O
        (step_in z (view z u) s.actor (line_at h.state.place h) (line_at h.state.place h).command (place_at h.state.place h) (are_small z u G)
        (takes_line z u s G may N).is_step G.holds G.topics) (sym (ap (λ (k : Kind). k.code) N.is) ∙ e)
    by false none =
        let N = is_part h s.kind may.enabled none in
        let free = N.free in
        let same = ap needs_line (O.made_so N.step (own_index h) h.topics N.note (sym (ap (λ (k : Kind). k.code) N.is) ∙ e)) ∙ O.of_lines in
        absurd (cc (free, same))

-- A frame that is given back is nobody else's: each other actor was watched since its page was moved out of it.
given_nobody_elses : (z : Sizes) (u : World Held) (s : Step Kind) → IsSound z u → LoadedIn z u → May mmu u s → (frame : ℕ)
    → s.actor < actors_of z → GivesFrame frame u s → IsNobodyElses z s.actor frame u
given_nobody_elses z u s G L may frame there W = record {
  others = λ other among apart O.
      apart (one_frame_owner G.topics.frames other s.actor O.owned W.had.owned among there O.is W.had.is (W.had.of_frame ∙ sym O.of_frame));
  looks = λ other among apart look.
      all_passed z (hand_in mmu u s.actor) s.actor other S.sizes S.own_place S.needs.watched among apart
      (unwatched_look z u G s.actor frame other there among W.had look);
  loads = λ other among apart H.
      all_passed z (hand_in mmu u s.actor) s.actor other S.sizes S.own_place S.needs.watched among apart
      (unwatched_leaf z u G L s.actor frame other there among W.had H);
  unused = unused_frame z u G frame pages;
  pages = pages;
}
  where
    S : IsPart z (view z u) s.actor part.GiveFrame
    S = makes_part z u s G may kind.Unframe part.GiveFrame only_gift W.gives

    pages : (page : ℕ) → page < z.pages → host_frame (word_in z u area.Host page) ≢ frame
    pages page low e = owned_of_no_page G.topics.frames s.actor W.had.owned page there W.had.is low (e ∙ sym W.had.of_frame)

-- A claim of a frame leaves each host word.
host_stays : (z : Sizes) (u : World Held) (s : Step Kind) → IsSound z u → May mmu u s → s.kind.code ≡ code_of kind.Frame → (page : ℕ) → page < z.pages
    → word_in z (effect mmu u s) area.Host page ≡ word_in z u area.Host page
host_stays z u s G may claims page low =
    ap (λ x. if nat_lt page z.pages then x else 0) (word_stays u s (place (map_of z) area.Host page) apart)
  where
    there : s.actor < actors_of z
    there = subst (λ n. s.actor < n) G.hands may.there

    on : IsOnItsArea z s.kind
    on =
        subst (λ (y : Sizes). IsOnItsArea y s.kind) (G.holds.lines s.actor there).sizes
        (steps_are_on_their_areas (hand_in mmu u s.actor) s.kind may.enabled)

    of_map : on.area ≡ area.FrameMap
    of_map = subst (λ c. IsOn (kind_named c) on.area) claims on.of_kind

    apart : place (map_of z) area.Host page ≢ s.kind.word
    apart e =
        let same : area.Host ≡ on.area = (places_apart (map_of z) area.Host on.area page on.index low on.there (e ∙ on.at)).0 in
        let map = of_map in
        absurd (cc (same, map))

-- A frame that a claim wins was nobody else's before it.
won_nobody_elses : (z : Sizes) (u : World Held) (s : Step Kind) → IsSound z u → LoadedIn z u → May mmu u s → (frame : ℕ)
    → s.actor < actors_of z → WinsFrame frame u s → IsNobodyElses z s.actor frame u
won_nobody_elses z u s G L may frame there W =
    record { others = others; looks = looks; loads = loads; unused = unused_frame z u G frame pages; pages = pages }
  where
    v : World Held
    v = effect mmu u s

    after : IsSound z v
    after = good_step z u s G may

    S : IsPart z (view z u) s.actor part.Frame
    S = makes_part z u s G may kind.Frame part.Frame only_claim W.claims

    pages : (page : ℕ) → page < z.pages → host_frame (word_in z u area.Host page) ≢ frame
    pages page low e =
        owned_of_no_page after.topics.frames s.actor W.owns.owned page there W.owns.is low
        (ap host_frame (host_stays z u s G may W.claims page low) ∙ (e ∙ sym W.owns.of_frame))

    others : (other : ℕ) → other < actors_of z → other ≢ s.actor → OwnsFrame frame (hand_in mmu u other) → ⊥
    others other among apart O =
        let O_after = subst (OwnsFrame frame) (sym (others_hand u s other apart)) O in
        apart (one_frame_owner after.topics.frames other s.actor O_after.owned W.owns.owned among there O_after.is W.owns.is
        (W.owns.of_frame ∙ sym O_after.of_frame))

    -- Nobody owns it.
    no_owner : (by : ℕ) → by < actors_of z → OwnsFrame frame (hand_in mmu u by) → ⊥
    no_owner by low O = either (same_or by s.actor)
      where
        either : (by ≡ s.actor) ⊎ (by ≢ s.actor) → ⊥
        either (inl e) =
            let none = S.needs.0 in let some = ap (λ j. (hand_in mmu u j).topics.frames.owned) (sym e) ∙ O.is in absurd (cc (none, some))
        either (inr ne) = others by low ne O

    looks : (other : ℕ) → other < actors_of z → other ≢ s.actor → LooksAtFrame frame (hand_in mmu u other).topics → ⊥
    looks other among apart look = by (held_look z u G other frame among look)
      where
        by : IsHeldStill z u other frame → ⊥
        by (inl named) = pages named.0 named.1 named.2
        by (inr H) = no_owner H.by H.there (owns_number frame (hand_in mmu u H.by) H.leaves)

    loads : (other : ℕ) → other < actors_of z → other ≢ s.actor → HasLeafTo frame (hand_in mmu u other).topics.walk → ⊥
    loads other among apart leaf = by (L other frame among leaf)
      where
        by : IsNamed z.pages (word_in z u area.Host) frame ⊎ IsKeptFor (actors_of z) (λ i. (hand_in mmu u i).topics) other frame → ⊥
        by (inl named) = pages named.0 named.1 named.2
        by (inr K) = no_owner K.by K.there (owns_number frame (hand_in mmu u K.by) K.owns)

pub frames_are_reused_alone : FramesAreReusedAlone
frames_are_reused_alone z lines w ss s R frame =
    let earlier = before z lines w ss s R in
    let G = sound z lines w ss earlier in
    let L = loaded_leaves_kept z lines w ss earlier in
    let may = may_last z lines w ss s R in
    let there = last_actor z lines w ss s R in
    (λ W. won_nobody_elses z (run mmu w ss) s G L may frame there W, λ W. given_nobody_elses z (run mmu w ss) s G L may frame there W)
