-- A step of an actor, with what the invariant says of its hand.
use Rattle.std.proofs.Common.{◌≡◌, ◌<◌, ℕ, zero, suc, List, [], ◌∷◌, length, refl, sym, subst, arith}
use Rattle.std.specs.Prelude.{All, slice_get, unwrap_or}
use Rattle.core_views.specs.declared.place.Place.{Place}
use Rattle.core_views.specs.declared.place.Place.TheVariants as place
use Rattle.core_views.specs.declared.sizes.Sizes.{Sizes}
use Rattle.core_views.specs.declared.trace.Command.{Command}
use Rattle.core_views.specs.declared.trace.Command.TheVariants.{Access}
use Rattle.core_views.specs.declared.trace.Line.{Line}
use Rattle.core_views.specs.Flat.{no_line}
use Rattle.core_views.specs.Held.{Held}
use Rattle.core_views.specs.Sizes.{actors_of}
use Rattle.core_views.specs.SlotSets.{MemorySlots}
use Rattle.core_views.specs.Traces.{IsCommandFor}
use Rattle.spte_words.specs.declared.area.Area.TheVariants as area
use Rattle.mmu_core.specs.invariant.Invariant.{Holds, Invariant, OwnLines, UnderWay}
use Rattle.mmu_core.specs.lines.Rests.{IsUnderWay}
use Rattle.mmu_core.specs.lines.Forms.{first_place}
use Rattle.mmu_core.specs.machine.Steps.{line_at, next_line, place_at, standing}
use Rattle.mmu_core.specs.machine.View.{View}
use Rattle.mmu_core.proofs.lines.Forms.{first_holds}

-- The actor makes the step of this place for this line, whose command it is.
pub record IsStep (z : Sizes) (v : View) (a : ℕ) (line : Line) (command : Command) (p : Place) : Type 0 where
  pub there : a < actors_of z
  pub left : length (v.hand a).answers < length (v.hand a).lines
  pub next : line ≡ next_line (v.hand a)
  pub line_is : line ≡ line_at (v.hand a).state.place (v.hand a)
  pub command_is : line.command ≡ command
  pub place_is : place_at (v.hand a).state.place (v.hand a) ≡ p
  pub begun : IsUnderWay p
  pub allowed : IsCommandFor z line.actor command
  pub own : line.actor ≡ (v.hand a).state.actor
  pub holds : Holds z (v.words area.Pool) (v.words area.Slots 0) p command (v.hand a)

pub line_is_next : (p : Place) (h : Held) → UnderWay p h → h.state.place ≡ p → line_at p h ≡ next_line h
line_is_next place.Between h under is = refl
line_is_next _ h under is = under.0

first_is_begun : (z : Sizes) (slots : MemorySlots) (command : Command) → IsUnderWay (first_place z slots command)
first_is_begun z slots (Access gfn word op) = tt
first_is_begun z slots _ = tt

pub is_begun : (p : Place) (z : Sizes) (slots : MemorySlots) (command : Command) → IsUnderWay (standing p z slots command)
is_begun place.Between z slots command = first_is_begun z slots command
is_begun _ z slots command = tt

standing_holds : (z : Sizes) (pool : ℕ → ℕ) (set : ℕ) (q : Place) (h : Held) → h.state.place ≡ q → Holds z pool set q h.state.line.command h
    → Holds z pool set (standing q z h.slots (line_at q h).command) (line_at q h).command h
standing_holds z pool set place.Between h is holds = first_holds z pool set (next_line h).command h
standing_holds z pool set _ h is holds = holds

-- what holds of all lines of a hand holds of its next one
pub next_has : (P : Line → Type 0) (h : Held) → All P h.lines → length h.answers < length h.lines → P (next_line h)
next_has P h all left = in_list h.lines (length h.answers) all left
  where
    in_list : (lines : List Line) (n : ℕ) → All P lines → n < length lines → P (unwrap_or (slice_get lines n) no_line)
    in_list [] n all lt = absurd (omega arith)
    in_list (line ∷ lines) zero all lt = all 0 line (omega arith)
    in_list (line ∷ lines) (suc n) all lt = in_list lines n (λ k d h. all (suc k) d (omega arith)) (omega arith)

-- A line under way is one that its actor may have.
pub line_allowed : (z : Sizes) (i : ℕ) (h : Held) (p : Place) → OwnLines z i h → h.state.place ≡ p → IsUnderWay p
    → IsCommandFor z h.state.actor h.state.line.command
line_allowed z i h place.Between O is begun = absurd begun
line_allowed z i h p O is begun =
    let under = subst (λ q. UnderWay q h) is O.under in
    let allowed : IsCommandFor z (next_line h).actor (next_line h).command = next_has (λ l. IsCommandFor z l.actor l.command) h O.allowed under.1 in
    let own : (next_line h).actor ≡ h.state.actor = next_has (λ l. l.actor ≡ h.state.actor) h O.own under.1 in
    subst (λ x. IsCommandFor z x h.state.line.command) own (subst (λ (l : Line). IsCommandFor z (next_line h).actor l.command) (sym under.0) allowed)

-- the step that a hand is about to make
pub is_step : (z : Sizes) (v : View) (a : ℕ) → Invariant z v → a < actors_of z → length (v.hand a).answers < length (v.hand a).lines
    → IsStep z v a (line_at (v.hand a).state.place (v.hand a)) (line_at (v.hand a).state.place (v.hand a)).command (place_at (v.hand a).state.place (v.hand a))
is_step z v a I there left =
    let h : Held = v.hand a in
    let O = I.lines a there in
    let next : line_at h.state.place h ≡ next_line h = line_is_next h.state.place h O.under refl in
    record {
      there = there;
      left = left;
      next = next;
      line_is = refl;
      command_is = refl;
      place_is = refl;
      begun = is_begun h.state.place h.state.sizes h.slots (line_at h.state.place h).command;
      allowed = subst (λ l. IsCommandFor z l.actor l.command) (sym next) (next_has (λ l. IsCommandFor z l.actor l.command) h O.allowed left);
      own = subst (λ (l : Line). l.actor ≡ h.state.actor) (sym next) (next_has (λ l. l.actor ≡ h.state.actor) h O.own left);
      holds =
          subst (λ y. Holds z (v.words area.Pool) (v.words area.Slots 0) (standing h.state.place y h.slots (line_at h.state.place h).command)
          (line_at h.state.place h).command h) (sym O.sizes)
          (standing_holds z (v.words area.Pool) (v.words area.Slots 0) h.state.place h refl (I.loads a there));
    }
