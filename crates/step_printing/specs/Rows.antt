-- A turn as it is shown: its word, what the step found there and left, and how the turn ended.
use Rattle.std.specs.Prelude.{◌-◌, ◌/◌, ℕ, Bool, List, [], ◌∷◌, ◌==◌, ◌&&◌, ◌||◌, nat_lt, if◌then◌else◌, slice_index}
use Rattle.core_views.specs.declared.answer.Answer.{Answer}
use Rattle.core_views.specs.declared.kind.Kind.{Kind}
use Rattle.core_views.specs.declared.kind.StepKind.TheVariants.{Walk, Swap, Zap, Protect}
use Rattle.core_views.specs.declared.place.Cause.{Cause}
use Rattle.core_views.specs.declared.place.Cause.TheVariants.{Open, Moved, Entry}
use Rattle.core_views.specs.declared.sizes.Sizes.{Sizes}
use Rattle.core_views.specs.Held.{Held}
use Rattle.core_views.specs.Kinds.{after, code_of}
use Rattle.spte_words.specs.declared.area.Area.{Area}
use Rattle.spte_words.specs.declared.area.Area.TheVariants.{Root, Role, Pool, Content}
use Rattle.spte_words.specs.declared.word_map.WordMap.{WordMap}
use Rattle.spte_words.specs.Areas.{areas, number_of, place, size_of, total}
use Rattle.part_steps.specs.Tasks.{map_of}
use Rattle.mmu_core.specs.alone.LineAlone.{line_waits}
use Rattle.mmu_core.specs.machine.Enabled.{mmu}
use Rattle.mmu_core.specs.machine.Machine.{Step, World, answered, found, hand_in}
use Rattle.mmu_core.specs.machine.Steps.{place_at}
use Rattle.mmu_core.specs.machine.Turns.{line_of}
use Rattle.step_seats.specs.declared.turn.Turn.{Turn}
use Rattle.step_seats.specs.declared.turn.Turn.TheVariants.{Wait}
use Rattle.step_seats.specs.LineTurns.{line_seen, line_turn}
use Rattle.step_text.specs.declared.row.Row.{Row}
use Rattle.step_text.specs.declared.word_place.WordPlace.{WordPlace}
use Rattle.step_text.specs.Endings.{lost_text, moved_text, open_text}

-- which word of these areas it is, so many words after the first area begins
abbrev pub place_among : WordMap → List Area → ℕ → WordPlace
place_among m [] word = record { area = Content; index = word }
place_among m (a ∷ more) word = if nat_lt word (size_of m a) then record { area = a; index = word } else place_among m more (word - size_of m a)

-- the place of a word of the machine
abbrev pub place_in : WordMap → ℕ → WordPlace
place_in m word = if nat_lt word (total m) then place_among m areas word else record { area = Root; index = 0 }

-- The step is on an entry of a table.
abbrev pub is_on_entry : ℕ → Bool
is_on_entry code = (code == code_of Walk) || ((code == code_of Swap) || ((code == code_of Zap) || (code == code_of Protect)))

-- the role of the pool page that this word is in, and 0 where it is in none
abbrev pub role_of : Sizes → World Held → WordPlace → ℕ
role_of z w at =
    if (number_of at.area == number_of Pool) && nat_lt (at.index / 512) z.pool
    then slice_index w.words (place (map_of z) Role (at.index / 512))
    else 0

-- the role that says what an entry's words mean, where the step is on an entry
abbrev pub role_shown : Sizes → World Held → ℕ → WordPlace → ℕ
role_shown z w code at = if is_on_entry code then role_of z w at else 0

-- the turn with this number: its actor makes this step in this world
abbrev pub row_of : Sizes → ℕ → World Held → Step Kind → Row
row_of z number w s = record {
  first = number;
  count = 1;
  actor = (hand_in mmu w s.actor).state.actor;
  code = s.kind.code;
  place = place_in (map_of z) s.kind.word;
  role = role_shown z w s.kind.code (place_in (map_of z) s.kind.word);
  found = found mmu w s.kind;
  left = after s.kind (found mmu w s.kind);
}

-- how the turn of a hand ends whose step found v
abbrev pub hand_turn : Held → ℕ → Turn Answer
hand_turn h v =
    if line_waits (place_at h.state.place h) (line_of h).command h v
    then Wait (line_seen (place_at h.state.place h) (line_of h).command h v)
    else line_turn (place_at h.state.place h) (line_of h).command h v

abbrev pub turn_in : World Held → Step Kind → Turn Answer
turn_in w s = hand_turn (hand_in mmu w s.actor) (answered mmu w s.kind)

abbrev pub cause_text : Sizes → Cause → List ℕ
cause_text z (Open count start end gfn) = open_text count start end
cause_text z (Moved old now) = moved_text old now
cause_text z (Entry word read seen) = lost_text z (place_in (map_of z) word) read seen
