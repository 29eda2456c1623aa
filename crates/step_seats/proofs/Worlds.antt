-- The world of a machine before and after one step.
use Rattle.std.proofs.Common.{◌≡◌, ◌<◌, ℕ, zero, suc, List, [], ◌∷◌, length, map, refl, ◌∙◌, ap, arith, subst, sym, slice_index, slice_index_or, slice_set}
use Rattle.std.proofs.Common.{Some, None}
use Rattle.std.proofs.Math.ListN.{length-map, length-set, get_or-map}
use Rattle.std.proofs.lemmas.List.{get_or-set_same, get_or_read}
use Rattle.std.proofs.Math.Seq.{map-set_same}
use Rattle.core_views.specs.declared.kind.Kind.{Kind}
use Rattle.core_views.specs.declared.sizes.Sizes.{Sizes}
use Rattle.core_views.specs.Held.{Held, Handful}
use Rattle.core_views.specs.Sizes.{actors_of}
use Rattle.core_views.specs.Kinds.{after, answer}
use Rattle.mmu_core.specs.machine.Enabled.{Enabled, mmu}
use Rattle.mmu_core.specs.machine.Machine.{Leads, May, World, effect, answered, hand_in}
use Rattle.mmu_core.specs.machine.Steps.{next}
use Rattle.mmu_core.specs.machine.Worlds.{HandReached}
use Rattle.mmu_core.proofs.machine.Extend.{goes_on}
use Rattle.mmu_core.proofs.machine.Sized.{as_many_as_actors, enabled_inside}
use Rattle.step_seats.specs.Acts.{Acts}
use Rattle.step_seats.specs.Machines.{IsMachine, Machine, seat_in, world_in}
use Rattle.std.proofs.lemmas.Grind.{merely}
use Rattle.step_seats.specs.Frames.{frame_of, other_rooms, room_of}
use Rattle.step_seats.specs.Where.{HasHand, IsMadeIn}
use Rattle.step_seats.specs.Moves.{HasItsRoom, core_of, handful_in, no_hand, step_by, world_of}
use Rattle.step_seats.proofs.Rooms.{set_has_room}

pub core_at : (words : List ℕ) (hands : List Handful) (i : ℕ) → core_of (handful_in hands i) ≡ hand_in mmu (world_of words hands) i
core_at words hands i = sym (get_or-map core_of hands i no_hand)

pub there_too : (hands : List Handful) (i : ℕ) → i < length hands → i < length (map core_of hands)
there_too hands i there = simp length-map there

cores_set : (hands : List Handful) (i : ℕ) (h : Handful) → map core_of (slice_set hands i h) ≡ slice_set (map core_of hands) i (core_of h)
cores_set [] i h = refl
cores_set (x ∷ hands) zero h = refl
cores_set (x ∷ hands) (suc i) h = ap (λ t. core_of x ∷ t) (cores_set hands i h)

may_step : (z : Sizes) (words : List ℕ) (hands : List Handful) (i : ℕ) (k : Kind) → IsMachine z words hands → i < length hands
    → Enabled (core_of (handful_in hands i)) k → May mmu (world_of words hands) (step_by i k)
may_step z words hands i k machine there enabled =
    let can : Enabled (hand_in mmu (world_of words hands) i) k = subst (λ h. Enabled h k) (core_at words hands i) enabled in
    record { there = there_too hands i there; enabled = can; inside = enabled_inside (world_of words hands) machine.reached i k (there_too hands i there) can }

world_after : (words : List ℕ) (hands : List Handful) (i : ℕ) (k : Kind) (h : Handful)
    → core_of h ≡ next (hand_in mmu (world_of words hands) i) k (answer k (slice_index words k.word))
    → world_of (slice_set words k.word (after k (slice_index words k.word))) (slice_set hands i h) ≡ effect mmu (world_of words hands) (step_by i k)
unfolding effect
world_after words hands i k h made =
    ap (λ t. record { words = slice_set words k.word (after k (slice_index words k.word)); hands = t })
    (cores_set hands i h ∙ ap (slice_set (map core_of hands) i) made)

-- the value of a machine with these fields
abbrev pub machine_of : Sizes → List ℕ → List Handful → Machine
machine_of z words hands = record { sizes = z; words = words; hands = hands }

-- What one step of the machine did: it might be made, it answered v, and the words and hands with n in its word and h in its place
-- are the world after it.
pub record Stepped (m : Machine) (words : List ℕ) (hands : List Handful) (i : ℕ) (k : Kind) (n v : ℕ) (h : Handful) : Type 0 where
  pub may : May mmu (world_in m) (step_by i k)
  pub answers : answered mmu (world_in m) k ≡ v
  pub leaves : world_of (slice_set words k.word n) (slice_set hands i h) ≡ effect mmu (world_in m) (step_by i k)
  pub made : IsMadeIn k i (core_of (handful_in m.hands i)) (core_of h) (world_in m)

stepped_inside : (z : Sizes) (words : List ℕ) (hands : List Handful) (i : ℕ) (k : Kind) (was n v : ℕ) (before h : Handful)
    → IsMachine z words hands
    → i < length hands
    → Enabled (core_of (handful_in hands i)) k
    → was ≡ slice_index words k.word
    → before ≡ handful_in hands i
    → n ≡ after k was
    → v ≡ answer k was
    → core_of h ≡ next (core_of before) k v
    → Stepped (machine_of z words hands) words hands i k n v h
stepped_inside z words hands i k was n v before h machine there enabled read hand stored told made =
    let at = core_at words hands i in
    let tells : answer k (slice_index words k.word) ≡ v = sym (told ∙ ap (answer k) read) in
    let makes : core_of h ≡ next (hand_in mmu (world_of words hands) i) k (answer k (slice_index words k.word)) =
    made ∙ (ap (λ x. next x k v) (ap core_of hand ∙ at) ∙ ap (next (hand_in mmu (world_of words hands) i) k) (sym tells)) in
    let may = may_step z words hands i k machine there enabled in
    record {
      may = may;
      answers = tells;
      leaves = ap (λ x. world_of (slice_set words k.word x) (slice_set hands i h)) (stored ∙ ap (after k) read) ∙ world_after words hands i k h makes;
      made = record {
        has = record { reached = merely machine.reached; there = there_too hands i there; is = sym at };
        may = may;
        hand = made ∙ (ap (λ (x : Handful). next (core_of x) k v) hand ∙ ap (next (core_of (handful_in hands i)) k) (sym tells));
      };
    }

pub there_inside : (z : Sizes) (words : List ℕ) (hands : List Handful) (m : Machine) (i : ℕ) → machine_of z words hands ≡ m → i < length m.hands
    → i < length hands
there_inside z words hands m i view there = subst (λ (x : Machine). i < length x.hands) (sym view) there

enabled_in : (z : Sizes) (words : List ℕ) (hands : List Handful) (m : Machine) (i : ℕ) (k : Kind) → machine_of z words hands ≡ m
    → Enabled (core_of (handful_in m.hands i)) k → Enabled (core_of (handful_in hands i)) k
enabled_in z words hands m i k view enabled = subst (λ (x : Machine). Enabled (core_of (handful_in x.hands i)) k) (sym view) enabled

-- The step that a hand of the machine m allows is at one of its words.
pub word_inside : (z : Sizes) (words : List ℕ) (hands : List Handful) (m : Machine) (i : ℕ) (k : Kind) → IsMachine z words hands
    → machine_of z words hands ≡ m → i < length m.hands → Enabled (core_of (handful_in m.hands i)) k → k.word < length words
word_inside z words hands m i k machine view there enabled =
    let may = may_step z words hands i k machine (there_inside z words hands m i view there) (enabled_in z words hands m i k view enabled) in
    may.inside

-- The machine m has these words and hands. What was found in the step's word is `was`, n is stored there, and the hand `before`
-- becomes h.
pub step_made : (z : Sizes) (words : List ℕ) (hands : List Handful) (m : Machine) (i : ℕ) (k : Kind) (was n v : ℕ) (before h : Handful)
    → IsMachine z words hands
    → machine_of z words hands ≡ m
    → i < length m.hands
    → Enabled (core_of (handful_in m.hands i)) k
    → was ≡ slice_index_or words k.word was
    → before ≡ slice_index_or hands i before
    → n ≡ after k was
    → v ≡ answer k was
    → core_of h ≡ next (core_of before) k v
    → Stepped m words hands i k n v h
step_made z words hands m i k was n v before h machine view there enabled read hand stored told made =
    let lt = there_inside z words hands m i view there in
    let word = get_or_read words k.word was (word_inside z words hands m i k machine view there enabled) read 0 in
    let old_ = get_or_read hands i before lt hand no_hand in
    subst (λ x. Stepped x words hands i k n v h) view
    (stepped_inside z words hands i k was n v before h machine lt (enabled_in z words hands m i k view enabled) word old_ stored told made)

-- A step leaves a machine.
pub machine_after : (z : Sizes) (words : List ℕ) (hands : List Handful) (m : Machine) (i : ℕ) (k : Kind) (n v : ℕ) (h : Handful) → IsMachine z words hands
    → machine_of z words hands ≡ m
    → i < length m.hands → HasItsRoom h.core h.room → Stepped m words hands i k n v h → IsMachine z (slice_set words k.word n) (slice_set hands i h)
machine_after z words hands m i k n v h machine view there room s =
    let r = machine.reached in
    let before : Leads mmu r.start (world_in m) = subst (λ (x : Machine). Leads mmu r.start (world_in x)) view r.leads in
    let further = goes_on mmu r.start (world_in m) (step_by i k) before s.may in
    record {
      reached = record {
        sizes = r.sizes;
        lines = r.lines;
        start = r.start;
        is_start = r.is_start;
        leads = subst (λ w. Leads mmu r.start w) (sym s.leaves) further;
      };
      sizes = machine.sizes;
      room = set_has_room hands i h (there_inside z words hands m i view there) machine.room room;
    }

-- A hand of a machine is reached.
pub hand_reached : (z : Sizes) (words : List ℕ) (hands : List Handful) (m : Machine) (i : ℕ) → IsMachine z words hands → machine_of z words hands ≡ m
    → i < length m.hands → HandReached (core_of (handful_in m.hands i))
hand_reached z words hands m i machine view there =
    let inside : HandReached (core_of (handful_in hands i)) =
    record {
      world = world_of words hands;
      actor = i;
      reached = machine.reached;
      there = there_too hands i (there_inside z words hands m i view there);
      has = sym (core_at words hands i);
    } in
    subst (λ (x : Machine). HandReached (core_of (handful_in x.hands i))) view inside

-- What the hand at a place has under way has its room.
pub has_room : (z : Sizes) (words : List ℕ) (hands : List Handful) (m : Machine) (i : ℕ) → IsMachine z words hands → machine_of z words hands ≡ m
    → i < length m.hands
    → HasItsRoom (handful_in m.hands i).core (handful_in m.hands i).room
has_room z words hands m i machine view there =
    subst (λ (x : Machine). HasItsRoom (handful_in x.hands i).core (handful_in x.hands i).room) view
    (machine.room i (there_inside z words hands m i view there))

-- The machine's world is reached, and has this hand.
pub has_hand : (z : Sizes) (words : List ℕ) (hands : List Handful) (m : Machine) (i : ℕ) → IsMachine z words hands → machine_of z words hands ≡ m
    → i < length m.hands → HasHand i (core_of (handful_in m.hands i)) (world_in m)
has_hand z words hands m i machine view there =
    let inside : HasHand i (core_of (handful_in hands i)) (world_of words hands) =
    record {
      reached = merely machine.reached;
      there = there_too hands i (there_inside z words hands m i view there);
      is = sym (core_at words hands i);
    } in
    subst (λ (x : Machine). HasHand i (core_of (handful_in x.hands i)) (world_in x)) view inside

-- The step is an act of the actor's seat.
pub acts_by : (z : Sizes) (words : List ℕ) (hands : List Handful) (m : Machine) (i : ℕ) (k : Kind) (n v : ℕ) (h : Handful) → machine_of z words hands ≡ m
    → i < length m.hands → Stepped m words hands i k n v h → IsMachine z (slice_set words k.word n) (slice_set hands i h)
    → Acts k v (seat_in m None i) (seat_in (machine_of z (slice_set words k.word n) (slice_set hands i h)) None i)
acts_by z words hands m i k n v h view there s machine =
    let inside = there_inside z words hands m i view there in
    let own : h ≡ handful_in (slice_set hands i h) i = sym (get_or-set_same hands i h no_hand inside) in
    record {
      hand = ap core_of (sym own) ∙ (s.made.hand ∙ ap (λ (x : ℕ). next (core_of (handful_in m.hands i)) k x) s.answers);
      world = (s.may, s.answers, ap (λ (w : World Held). Some w) s.leaves);
      steps = refl;
      answers = (subst (λ (x : Handful). IsMadeIn k i (core_of (handful_in m.hands i)) (core_of x) (world_in m)) own s.made, s.answers);
      has = has_hand _ _ _ _ i machine refl (omega (arith, length-set hands i h, inside));
    }

-- The world is as it was where a hand takes the place of one that holds the same.
pub world_same : (z : Sizes) (words : List ℕ) (hands : List Handful) (m : Machine) (i : ℕ) (before h : Handful) → machine_of z words hands ≡ m
    → i < length m.hands → before ≡ slice_index_or hands i before → core_of h ≡ core_of before → world_of words (slice_set hands i h) ≡ world_in m
world_same z words hands m i before h view there hand same =
    let old_ : before ≡ handful_in hands i = get_or_read hands i before (there_inside z words hands m i view there) hand no_hand in
    ap (λ t. record { words = words; hands = t }) (map-set_same core_of hands i h no_hand (same ∙ ap core_of old_)) ∙ ap world_in view

pub machine_same : (z : Sizes) (words : List ℕ) (hands : List Handful) (m : Machine) (i : ℕ) (h : Handful) → IsMachine z words hands
    → machine_of z words hands ≡ m
    → i < length m.hands → HasItsRoom h.core h.room → world_of words (slice_set hands i h) ≡ world_in m → IsMachine z words (slice_set hands i h)
machine_same z words hands m i h machine view there room same =
    let r = machine.reached in
    let before : Leads mmu r.start (world_in m) = subst (λ (x : Machine). Leads mmu r.start (world_in x)) view r.leads in
    record {
      reached = record { sizes = r.sizes; lines = r.lines; start = r.start; is_start = r.is_start; leads = subst (λ w. Leads mmu r.start w) (sym same) before };
      sizes = machine.sizes;
      room = set_has_room hands i h (there_inside z words hands m i view there) machine.room room;
    }

-- A machine has a hand for each of its actors.
pub count_of_hands : (z : Sizes) (words : List ℕ) (hands : List Handful) (m : Machine) → IsMachine z words hands → machine_of z words hands ≡ m
    → length m.hands ≡ actors_of m.sizes
count_of_hands z words hands m machine view =
    let r = machine.reached in
    let count = as_many_as_actors r.sizes r.lines r.start (world_of words hands) r.is_start r.leads in
    let inside : length hands ≡ actors_of z = sym (length-map hands core_of) ∙ (count ∙ ap actors_of machine.sizes) in
    subst (λ (x : Machine). length x.hands ≡ actors_of x.sizes) view inside

-- The room in the other hands doesn't hang on the own one.
pub other_rooms_same : (hands behind : List Handful) (i : ℕ) (h : Handful) → behind ≡ slice_set hands i h → other_rooms behind i ≡ other_rooms hands i
other_rooms_same hands behind i h is = ap (λ (hs : List Handful). other_rooms hs i) is ∙ set_again hands i
  where
    set_again : (hs : List Handful) (k : ℕ) → other_rooms (slice_set hs k h) k ≡ other_rooms hs k
    set_again [] k = refl
    set_again (x ∷ hs) zero = refl
    set_again (x ∷ hs) (suc k) = ap (λ t. room_of x ∷ t) (set_again hs k)

pub frame_same : (name : ℕ) (before behind : Machine) (i : ℕ) (h : Handful) → behind.sizes ≡ before.sizes → behind.hands ≡ slice_set before.hands i h
    → frame_of name behind i ≡ frame_of name before i
frame_same name before behind i h sizes hands = λ t. record { borrowed = name; sizes = sizes t; rooms = other_rooms_same before.hands behind.hands i h hands t }

-- the invariant, of the machine as it is seen
pub machine_reached : (z : Sizes) (words : List ℕ) (hands : List Handful) (m : Machine) → IsMachine z words hands → machine_of z words hands ≡ m
    → IsMachine m.sizes m.words m.hands
machine_reached z words hands m machine view = subst (λ (x : Machine). IsMachine x.sizes x.words x.hands) view machine
