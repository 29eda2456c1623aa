-- The own state word and the pause word of a told world, before and after a step of a part.
use Rattle.std.proofs.Common.{◌≡◌, ◌<◌, ◌%◌, ◌*◌, ◌/◌, ◌^◌, ℕ, Option, Some, None, refl, sym, subst, ap, ◌∙◌, arith, length}
use Rattle.std.specs.Prelude.{◌==◌, Bool, true, false, IfSome, unwrap_or, if◌then◌else◌}
use Rattle.std.specs.Int.Bits.{bit_and}
use Rattle.std.proofs.Math.Logic.{∥∥₁_elim}
use Rattle.std.proofs.Props.{props}
use Rattle.std.proofs.lemmas.Nat.Bits.{and_high_mask}
use Rattle.core_views.specs.declared.kind.StepKind.{StepKind}
use Rattle.core_views.specs.declared.kind.StepKind.TheVariants as kind
use Rattle.core_views.specs.declared.sizes.Sizes.{Sizes}
use Rattle.core_views.specs.declared.topics.Stay.TheVariants.{Outside}
use Rattle.core_views.specs.declared.topics.Topics.{Topics}
use Rattle.core_views.specs.Held.{Held}
use Rattle.core_views.specs.Sizes.{index_of}
use Rattle.spte_words.specs.declared.area.Area.{Area}
use Rattle.spte_words.specs.declared.area.Area.TheVariants as area
use Rattle.part_steps.specs.declared.task.Task.{Task}
use Rattle.part_steps.specs.declared.part_step.PartStep.{PartStep}
use Rattle.part_steps.specs.declared.part_step.PartStep.TheVariants as part
use Rattle.mmu_core.specs.machine.Enabled.{mmu}
use Rattle.mmu_core.specs.invariant.Laws.{IsSound}
use Rattle.mmu_core.specs.machine.Machine.{World, effect, hand_in}
use Rattle.part_steps.specs.PartTasks.{all_but, own_index, part_kind, part_task, works}
use Rattle.mmu_core.specs.invariant.StatesPart.{stay_bits}
use Rattle.part_steps.specs.Tasks.{kind_of_task}
use Rattle.mmu_core.specs.machine.View.{View, upd, word_in, words_after}
use Rattle.mmu_core.specs.machine.Worlds.{Reachable}
use Rattle.mmu_core.proofs.machine.Columns.{upd_same}
use Rattle.mmu_core.proofs.start.Starts.{reached_good}
use Rattle.mmu_core.proofs.machine.Views.{view_behind}
use Rattle.mmu_core.proofs.machine.Worlds.{good_step}
use Rattle.step_seats.specs.Moves.{ToldBy, step_by}
use Rattle.step_seats.specs.Where.{HasHand}
use Rattle.vcpu_tlb.specs.declared.guest.Entered.TheVariants.{In, Flushed}
use Rattle.mmu_core.specs.forms.access.Cached.{asks_flush}
use Rattle.vcpu_tlb.specs.Entering.{answer_to, state_in}

-- The state word of an actor's hand is the one at its place.
state_is : (z : Sizes) (w : World Held) (a : ℕ) (h : Held) → IsSound z w → a < length w.hands → hand_in mmu w a ≡ h → state_in h w ≡ word_in z w area.State a
state_is z w a h G there is =
    let O = G.holds.lines a (subst (λ n. a < n) G.hands there) in
    let same : h.state.sizes ≡ z = sym (ap (λ (x : Held). x.state.sizes) is) ∙ O.sizes in
    let own : own_index h ≡ a = ap (λ y. index_of y h.state.actor) same ∙ ap (λ (x : Held). index_of z x.state.actor) (sym is) ∙ O.index in
    ap (λ y. word_in y w area.State (own_index h)) same ∙ ap (word_in z w area.State) own

-- The step works on the own state word, by this operation and number.
abbrev WorksOnState : PartStep → StepKind → ℕ → ℕ → Type 0
WorksOnState step k x note = (own : ℕ) (t : Topics) → part_task step own t note ≡ works k area.State own x note

-- the own state word behind it
stored_in : (z : Sizes) (w : World Held) (a note : ℕ) (step : PartStep) (k : StepKind) (x : ℕ) (h : Held) → IsSound z w → a < length w.hands
    → hand_in mmu w a ≡ h → WorksOnState step k x note
    → word_in z (effect mmu w (step_by a (part_kind h step note))) area.State a ≡ words_after (works k area.State a x note) (word_in z w) area.State a
stored_in z w a note step k x h G there is on =
    let lt = subst (λ n. a < n) G.hands there in
    let O = G.holds.lines a lt in
    let same : h.state.sizes ≡ z = sym (ap (λ (y : Held). y.state.sizes) is) ∙ O.sizes in
    let own : own_index h ≡ a = ap (λ y. index_of y h.state.actor) same ∙ ap (λ (y : Held). index_of z y.state.actor) (sym is) ∙ O.index in
    let t : Task = works k area.State a x note in
    let kind_is : part_kind h step note ≡ kind_of_task z t =
    ap (kind_of_task h.state.sizes) (on (own_index h) h.topics) ∙ ap (λ i. kind_of_task h.state.sizes (works k area.State i x note)) own
    ∙ ap (λ y. kind_of_task y t) same in
    ap (λ c. word_in z (effect mmu w (step_by a c)) area.State a) kind_is ∙ ap (λ (v : View). v.words area.State a) (view_behind z w a t lt G.words there)

-- What a step makes of its actor's state word, in worlds that are told before and after it: f of the word before.
pub state_behind : (step : PartStep) (k : StepKind) (x : ℕ) (f : ℕ → ℕ) (told tells : Option (World Held)) (actor note found : ℕ) (h g : Held)
    → IfSome told (HasHand actor h) → ToldBy told actor (part_kind h step note) found tells → IfSome tells (HasHand actor g)
    → WorksOnState step k x note
    → ((words : Area → ℕ → ℕ) (i : ℕ) → words_after (works k area.State i x note) words area.State ≡ upd (words area.State) i (f (words area.State i)))
    → IfSome told (λ w. IfSome tells (λ v. state_in g v ≡ f (state_in h w)))
state_behind step k x f None tells actor note found h g has moves behind on stores = tt
state_behind step k x f (Some w) None actor note found h g has moves behind on stores = tt
state_behind step k x f (Some w) (Some v) actor note found h g has moves behind on stores = ∥∥₁_elim has.reached (hlevel props) inside
  where
    inside : Reachable w → state_in g v ≡ f (state_in h w)
    inside r =
        let z : Sizes = r.sizes in
        let G = reached_good w r in
        let v_is : v ≡ effect mmu w (step_by actor (part_kind h step note)) = ap (λ o. unwrap_or o v) moves.2 in
        state_is z v actor g (subst (IsSound z) (sym v_is) (good_step z w (step_by actor (part_kind h step note)) G moves.0)) behind.there behind.is
        ∙ ap (λ u. word_in z u area.State actor) v_is
        ∙ stored_in z w actor note step k x h G has.there has.is on
        ∙ ap (λ (c : ℕ → ℕ). c actor) (stores (word_in z w) actor)
        ∙ upd_same (word_in z w area.State) actor (f (word_in z w area.State actor))
        ∙ ap f (sym (state_is z w actor h G has.there has.is))

-- What a state word tells of where its actor is.
tells_stay : (w : World Held) (actor : ℕ) (h : Held) → HasHand actor h w → (state_in h w < 8) × (state_in h w % 4 ≡ stay_bits h.topics.stay)
tells_stay w actor h has = ∥∥₁_elim has.reached (hlevel props) inside
  where
    inside : Reachable w → (state_in h w < 8) × (state_in h w % 4 ≡ stay_bits h.topics.stay)
    inside r =
        let G = reached_good w r in
        let lt = subst (λ n. actor < n) G.hands has.there in
        let told = G.topics.states_part actor lt in
        let is = state_is r.sizes w actor h G has.there has.is in
        (subst (λ n. n < 8) (sym is) told.0, ap (λ n. n % 4) is ∙ told.1 ∙ ap (λ (x : Held). stay_bits x.topics.stay) has.is)

-- Who is outside has a state word that says so.
pub outside_told : (told : Option (World Held)) (actor : ℕ) (h : Held) → IfSome told (HasHand actor h) → h.topics.stay ≡ Outside
    → IfSome told (λ w. state_in h w % 4 ≡ 0)
outside_told None actor h has is = tt
outside_told (Some w) actor h has is = (tells_stay w actor h has).1 ∙ ap stay_bits is

-- Clearing bits 0 and 1 keeps bit 2.
keeps_flush : (s : ℕ) → s < 8 → asks_flush (bit_and s (all_but 3)) ≡ asks_flush s
keeps_flush s lt =
    let e : bit_and s (all_but 3) ≡ s / 2 ^ 2 * 2 ^ 2 = and_high_mask 64 2 (omega arith) s (omega (arith, lt)) in
    let d : bit_and s (all_but 3) / 2 ^ 2 ≡ s / 2 ^ 2 = omega (arith, e) in
    ap (λ n. n % 2 == 1) d

pub flush_kept : (told tells : Option (World Held)) (actor note found : ℕ) (h g : Held) → IfSome told (HasHand actor h)
    → ToldBy told actor (part_kind h part.Leave note) found tells → IfSome tells (HasHand actor g)
    → IfSome told (λ w. IfSome tells (λ v. asks_flush (state_in g v) ≡ asks_flush (state_in h w)))
flush_kept None tells actor note found h g has moves behind = tt
flush_kept (Some w) None actor note found h g has moves behind = tt
flush_kept (Some w) (Some v) actor note found h g has moves behind =
    ap asks_flush (state_behind part.Leave kind.Leave (all_but 3) (λ n. bit_and n (all_but 3)) (Some w) (Some v) actor note found h g has moves behind
    (λ own t. refl) (λ words i. refl))
    ∙ keeps_flush (state_in h w) (tells_stay w actor h has).0

pub entered_word : (told tells : Option (World Held)) (actor note found : ℕ) (h g : Held) → IfSome told (HasHand actor h)
    → ToldBy told actor (part_kind h part.Enter note) found tells → IfSome tells (HasHand actor g)
    → IfSome told (λ w. IfSome tells (λ v. state_in g v ≡ 3))
entered_word told tells actor note found h g has moves behind =
    state_behind part.Enter kind.Enter 3 (λ n. 3) told tells actor note found h g has moves behind (λ own t. refl) (λ words i. refl)

-- the answer to what was found
pub found_flush : (n : ℕ) → asks_flush n ≡ true → answer_to n ≡ Flushed
found_flush n is = ap (λ (b : Bool). if b then Flushed else In) is

pub found_none : (n : ℕ) → asks_flush n ≡ false → answer_to n ≡ In
found_none n is = ap (λ (b : Bool). if b then Flushed else In) is
