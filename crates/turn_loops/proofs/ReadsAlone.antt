-- A line that runs alone reads just what is dirty, while no other actor has a line under way; and lines that run one after another leave it so.
use Rattle.std.proofs.Common.{◌≡◌, ◌≢◌, ◌⊎◌, inl, inr, ◌<◌, ℕ, suc, List, [], ◌∷◌, ◌++◌, length, get_or, refl, sym, subst, ap, ◌∙◌, append_assoc, arith}
use Rattle.std.specs.Prelude.{All}
use Rattle.std.proofs.lemmas.List.{append-nil}
use Rattle.core_views.specs.declared.answer.Answer.{Answer}
use Rattle.core_views.specs.declared.kind.Kind.{Kind}
use Rattle.core_views.specs.declared.place.Place.TheVariants.{Between}
use Rattle.core_views.specs.declared.sizes.Sizes.{Sizes}
use Rattle.core_views.specs.declared.trace.Line.{Line}
use Rattle.core_views.specs.Held.{Held}
use Rattle.core_views.specs.Sizes.{index_of}
use Rattle.mmu_core.specs.alone.LineAlone.{LineAlone}
use Rattle.mmu_core.specs.declared.outcome.Outcome.{Outcome}
use Rattle.mmu_core.specs.declared.outcome.Outcome.TheVariants.{Ends}
use Rattle.mmu_core.specs.invariant.Laws.{IsSound}
use Rattle.mmu_core.specs.machine.Enabled.{mmu}
use Rattle.mmu_core.specs.machine.Machine.{Legal, May, Step, World, answered, effect, hand_in, run}
use Rattle.mmu_core.specs.machine.Steps.{next, nobody}
use Rattle.mmu_core.specs.machine.Turns.{Comes, line_of, outcome_of}
use Rattle.mmu_core.specs.machine.Worlds.{IsStart}
use Rattle.mmu_core.proofs.held.ClaimGoes.{others_hand}
use Rattle.mmu_core.proofs.machine.Columns.{same_or}
use Rattle.mmu_core.proofs.machine.Extend.{legal-append, run-append}
use Rattle.mmu_core.proofs.machine.HandAfter.{next_comes}
use Rattle.mmu_core.proofs.machine.LineRuns.{own_hand}
use Rattle.mmu_core.proofs.machine.Worlds.{good_run}
use Rattle.mmu_core.proofs.start.Starts.{hand_is, start_good}
use Rattle.mmu_laws.specs.forms.log.ReadingsAlone.{OthersIdle, ReadsExactly}
use Rattle.mmu_laws.proofs.forms.log.ReadingsAlone.{readings_alone_are_exact}
use Rattle.turn_loops.specs.Replays.{EachRunsAlone, ReadExactlyFrom}

-- Steps of one actor leave the hands of the others.
pub other_hands : (w : World Held) (ss : List (Step Kind)) (a b : ℕ) → b ≢ a → All (λ s. s.actor ≡ a) ss
    → hand_in mmu (run mmu w ss) b ≡ hand_in mmu w b
other_hands w [] a b ne all = refl
other_hands w (s ∷ ss) a b ne all =
    let here : s.actor ≡ a = all 0 s (omega arith) in
    other_hands (effect mmu w s) ss a b ne (λ k d lt. all (suc k) d (omega arith)) ∙ others_hand w s b (λ e. ne (e ∙ here))

-- A line that is answered is under way no more.
pub answered_idle : (w : World Held) (s : Step Kind) (answer : Answer) → s.actor < length w.hands
    → length (hand_in mmu w s.actor).answers < length (hand_in mmu w s.actor).lines
    → outcome_of (hand_in mmu w s.actor) (answered mmu w s.kind) ≡ Ends answer → (hand_in mmu (effect mmu w s) s.actor).state.place ≡ Between
answered_idle w s answer there left is =
    let h : Held = hand_in mmu w s.actor in
    ap (λ (g : Held). g.state.place) (own_hand w s there)
    ∙ (subst (λ (o : Outcome). Comes o (line_of h) h (next h s.kind (answered mmu w s.kind))) is (next_comes h s.kind (answered mmu w s.kind) left)).between

-- One step more of a line that runs alone.
pub exact_more : (z : Sizes) (before : World Held) (steps : List (Step Kind)) (s : Step Kind) → IsSound z before → All (λ x. x.actor ≡ s.actor) steps
    → Legal mmu before steps → LineAlone z (run mmu before steps) s.actor → May mmu (run mmu before steps) s → ReadExactlyFrom z s.actor before steps
    → ReadExactlyFrom z s.actor before (steps ++ s ∷ [])
exact_more z before steps s sound own legal_on alone may exact lines w ss is legal ends idle reads =
    let same : run mmu w (ss ++ steps) ≡ run mmu before steps = run-append mmu w ss steps ∙ ap (λ (x : World Held). run mmu x steps) ends in
    subst (ReadsExactly z w) (append_assoc ss steps (s ∷ []))
    (readings_alone_are_exact.goes_on z lines w (ss ++ steps) s is
    (legal-append mmu w ss steps legal (subst (λ (x : World Held). Legal mmu x steps) (sym ends) legal_on))
    (subst (λ (x : World Held). LineAlone z x s.actor) (sym same) alone)
    (subst (λ (x : World Held). OthersIdle s.actor x) (sym same) still_idle)
    (subst (λ (x : World Held). May mmu x s) (sym same) may)
    (exact lines w ss is legal ends idle reads))
  where
    still_idle : OthersIdle s.actor (run mmu before steps)
    still_idle i lt ne =
        ap (λ (h : Held). h.state.place) (other_hands before steps s.actor i ne own)
        ∙ idle i (subst (λ n. i < n) (alone.sound.hands ∙ sym sound.hands) lt) ne

-- ---- lines one after another

-- No line is under way.
abbrev AllIdle : World Held → Type 0
AllIdle w = (i : ℕ) → i < length w.hands → (hand_in mmu w i).state.place ≡ Between

idle_at_start : (z : Sizes) (lines : List Line) (w : World Held) → IsStart z lines w → AllIdle w
idle_at_start z lines w start i lt =
    ap (λ (h : Held). h.state.place) (hand_is z lines w i start (subst (λ n. i < n) (start_good z lines w start).hands lt))

each_exact : (z : Sizes) (all : List Line) (start : World Held) → IsStart z all start → (done : List (Step Kind)) (lines : List Line) (ss : List (Step Kind))
    → Legal mmu start done → AllIdle (run mmu start done) → ReadsExactly z start done → EachRunsAlone z (run mmu start done) lines ss
    → ReadsExactly z start (done ++ ss)
each_exact z all start is_start done [] ss legal idle reads none =
    subst (ReadsExactly z start) (sym (ap (λ (l : List (Step Kind)). done ++ l) none ∙ append-nil done)) reads
each_exact z all start is_start done (line ∷ lines) ss legal idle reads (own, rest, answer, are, ran, each) =
    subst (ReadsExactly z start) (append_assoc done own rest ∙ ap (λ (l : List (Step Kind)). done ++ l) (sym are))
    (each_exact z all start is_start (done ++ own) lines rest legal_on still_idle
    (ran.exact all start done is_start legal refl (λ i lt ne. idle i lt) reads)
    (subst (λ (x : World Held). EachRunsAlone z x lines rest) (sym both) each))
  where
    actor : ℕ
    actor = index_of z line.actor

    both : run mmu start (done ++ own) ≡ run mmu (run mmu start done) own
    both = run-append mmu start done own

    legal_on : Legal mmu start (done ++ own)
    legal_on = legal-append mmu start done own legal ran.runs.legal

    sound : (steps : List (Step Kind)) → Legal mmu start steps → IsSound z (run mmu start steps)
    sound steps may = good_run z start steps (start_good z all start is_start) may

    still_idle : AllIdle (run mmu start (done ++ own))
    still_idle i lt = subst (λ (x : World Held). (hand_in mmu x i).state.place ≡ Between) (sym both) (by (same_or i actor))
      where
        by : (i ≡ actor) ⊎ (i ≢ actor) → (hand_in mmu (run mmu (run mmu start done) own) i).state.place ≡ Between
        by (inl e) = ap (λ k. (hand_in mmu (run mmu (run mmu start done) own) k).state.place) e ∙ ran.idle
        by (inr ne) =
            ap (λ (h : Held). h.state.place) (other_hands (run mmu start done) own actor i ne ran.own)
            ∙ idle i (subst (λ n. i < n) ((sound (done ++ own) legal_on).hands ∙ sym (sound done legal).hands) lt)

-- So lines that run one after another from a start read just what is dirty.
pub lines_read_exactly : (z : Sizes) (all : List Line) (start : World Held) → IsStart z all start → (lines : List Line) (ss : List (Step Kind))
    → EachRunsAlone z start lines ss → ReadsExactly z start ss
lines_read_exactly z all start is_start lines ss each =
    each_exact z all start is_start [] lines ss tt (idle_at_start z all start is_start) (readings_alone_are_exact.starts z all start is_start) each
