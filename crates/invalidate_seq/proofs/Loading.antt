-- Which word each stage of a check loads, and where it is kept.
use Rattle.std.proofs.Common.{◌≡◌, ℕ, Some, refl, sym, ap, ◌∙◌}
use Rattle.std.specs.Prelude.{Bool, true, false, IfSome}
use Rattle.core_views.specs.declared.place.CheckStage.{CheckStage}
use Rattle.core_views.specs.declared.place.CheckStage.TheVariants.{Count, Start, End, Seq}
use Rattle.core_views.specs.declared.topics.Hold.{Hold}
use Rattle.core_views.specs.declared.topics.Hold.TheVariants.{Loose, Shared, Owing, Exclusive}
use Rattle.core_views.specs.declared.topics.Invalidations.{Invalidations}
use Rattle.core_views.specs.declared.topics.Topics.{Topics}
use Rattle.core_views.specs.Held.{Held}
use Rattle.spte_words.specs.declared.area.Area.TheVariants as area
use Rattle.part_steps.specs.declared.part_step.PartStep.TheVariants as part
use Rattle.mmu_core.specs.machine.Machine.{World}
use Rattle.part_steps.specs.PartSteps.{PartNeeds}
use Rattle.part_steps.specs.PartTopics.{part_topics, sequenced}
use Rattle.part_steps.specs.StayTopics.{has_lock, is_loose}
use Rattle.part_steps.specs.ControlTopics.{seq_checked}
use Rattle.mmu_core.specs.machine.View.{word_in}
use Rattle.step_seats.specs.Seats.{Seat}
use Rattle.step_seats.specs.PartTurns.{MadePart}
use Rattle.invalidate_seq.specs.Checks.{LoadsOnly, area_of, loaded, load_of}
use Rattle.step_seats.proofs.AloneTold.{if_some}
use Rattle.step_seats.proofs.Found.{Answers, found_told}

locked : (h : Hold) → has_lock h ≡ true → is_loose h ≡ false
locked Loose is = absurd (cc is)
locked Shared is = refl
locked (Owing word) is = refl
locked Exclusive is = refl

-- Under the lock the sequence number is no snapshot, and the look-up goes on.
pub seq_loaded : (before after : Topics) (v : ℕ) → has_lock before.hold ≡ true → after ≡ part_topics part.Seq before v
    → after ≡ record before {
      invalidations = record before.invalidations {
        seq = v;
        checked = seq_checked (has_lock before.hold) before.invalidations.count before.invalidations.checked;
      };
    }
seq_loaded before after v lock made = made ∙ ap (λ (b : Bool). sequenced b before v) (locked before.hold lock)

pub loads_only : (stage : CheckStage) (before after : Topics) (v : ℕ) → has_lock before.hold ≡ true → after ≡ part_topics (load_of stage) before v
    → LoadsOnly stage before after
loads_only Count before after v lock made =
    made ∙ ap (λ (n : Invalidations). record before { invalidations = record before.invalidations { count = n.count; checked = n.checked } })
    (sym (ap (λ (t : Topics). t.invalidations) made))
loads_only Start before after v lock made =
    made ∙ ap (λ (n : Invalidations). record before { invalidations = record before.invalidations { start = n.start; checked = n.checked } })
    (sym (ap (λ (t : Topics). t.invalidations) made))
loads_only End before after v lock made =
    made ∙ ap (λ (n : Invalidations). record before { invalidations = record before.invalidations { end = n.end; checked = n.checked } })
    (sym (ap (λ (t : Topics). t.invalidations) made))
loads_only Seq before after v lock made =
    let is = seq_loaded before after v lock made in
    is ∙ ap (λ (n : Invalidations). record before { invalidations = record before.invalidations { seq = n.seq; checked = n.checked } })
    (sym (ap (λ (t : Topics). t.invalidations) is))

loaded_is : (stage : CheckStage) (before after : Topics) (v : ℕ) → has_lock before.hold ≡ true → after ≡ part_topics (load_of stage) before v
    → loaded stage after.invalidations ≡ v
loaded_is Count before after v lock made = ap (λ (t : Topics). t.invalidations.count) made
loaded_is Start before after v lock made = ap (λ (t : Topics). t.invalidations.start) made
loaded_is End before after v lock made = ap (λ (t : Topics). t.invalidations.end) made
loaded_is Seq before after v lock made = ap (λ (t : Topics). t.invalidations.seq) (seq_loaded before after v lock made)

needs_nothing : (stage : CheckStage) (h : Held) → PartNeeds (load_of stage) h
needs_nothing Count h = tt
needs_nothing Start h = tt
needs_nothing End h = tt
needs_nothing Seq h = tt

stage_word : (stage : CheckStage) (note found : ℕ) (h : Held) (w : World Held) → Answers (load_of stage) note found h w
    → found ≡ word_in h.state.sizes w (area_of stage) 0
stage_word Count note found h w is = is
stage_word Start note found h w is = is
stage_word End note found h w is = is
stage_word Seq note found h w is = is

pub word_told : (stage : CheckStage) (note found : ℕ) (before after : Seat) → has_lock before.hand.topics.hold ≡ true
    → MadePart (load_of stage) note found before after
    → IfSome before.tells.world (λ w. loaded stage after.hand.topics.invalidations ≡ word_in before.hand.state.sizes w (area_of stage) 0)
word_told stage note found before after lock made =
    if_some before.tells.world (Answers (load_of stage) note found before.hand)
    (λ w. loaded stage after.hand.topics.invalidations ≡ word_in before.hand.state.sizes w (area_of stage) 0)
    (λ w is. loaded_is stage before.hand.topics after.hand.topics found lock made.topics ∙ stage_word stage note found before.hand w is)
    (found_told (load_of stage) note found before after made (needs_nothing stage before.hand))

-- The sequence number is the snapshot where the lock isn't held.
snapshot_taken : (before after : Topics) (v : ℕ) → before.hold ≡ Loose → after ≡ part_topics part.Seq before v → after ≡ sequenced true before v
snapshot_taken before after v loose made = made ∙ ap (λ (h : Hold). sequenced (is_loose h) before v) loose

pub snapshot_told : (note found : ℕ) (before after : Seat) → before.hand.topics.hold ≡ Loose → MadePart part.Seq note found before after
    → IfSome before.tells.world (λ w. after.hand.topics.invalidations.snapshot ≡ Some (word_in before.hand.state.sizes w area.Seq 0))
snapshot_told note found before after loose made =
    if_some before.tells.world (Answers part.Seq note found before.hand)
    (λ w. after.hand.topics.invalidations.snapshot ≡ Some (word_in before.hand.state.sizes w area.Seq 0))
    (λ w is. ap (λ (t : Topics). t.invalidations.snapshot) (snapshot_taken before.hand.topics after.hand.topics found loose made.topics) ∙ ap Some is)
    (found_told part.Seq note found before after made tt)
