-- A board with its first pass is a machine.
use Rattle.std.proofs.Common.{◌≡◌, ◌<◌, ◌∙◌, ℕ, true, Bool, List, Option, Some, None, ap, length, length-set, map, refl, set, subst, sym}
use Rattle.std.specs.Prelude.{IfSome, if◌then◌else◌}
use Rattle.std.proofs.Math.ListN.{length-map, get_or-map}
use Rattle.std.proofs.lemmas.List.{map-set}
use Rattle.atomic_table.proofs.Lists.{at_map}
use Rattle.core_views.specs.Held.{Held, Handful}
use Rattle.core_views.specs.declared.trace.Trace.{Trace}
use Rattle.core_views.specs.Sizes.{AreSizes, actors_of, sizes_of}
use Rattle.mmu_core.specs.machine.Worlds.{IsStart}
use Rattle.mmu_core.specs.machine.Enabled.{mmu}
use Rattle.mmu_core.specs.machine.Machine.{Leads, World}
use Rattle.mmu_core.proofs.machine.Extend.{as_many_hands, leads_to_end, stays, then}
use Rattle.step_seats.specs.Machines.{IsMachine, seat_in, world_in}
use Rattle.step_seats.specs.Moves.{cores_of, core_of, handful_in, no_hand}
use Rattle.step_seats.specs.Where.{HasHand}
use Rattle.step_seats.proofs.Worlds.{count_of_hands}
use Rattle.table_seats.specs.Boards.{IsFirst, begun}
use Rattle.table_seats.specs.Owners.{OwnerView, OwnsAll, ReachedFrom, machine_of}
use Rattle.table_seats.specs.Passes.{IsPass, Keeps, Known, PassView, PutsHand, core_in, hand_at, hand_in_place, seat_of, steps_told, world_after, world_told}
use Rattle.table_seats.specs.Rule.{Holds}
use Rattle.table_seats.proofs.Closes.{same_hands}
use Rattle.table_seats.proofs.Passes.{put_fits}
use Rattle.table_seats.proofs.Runs.{or_at}
use Rattle.table_seats.proofs.Places.{cores-all, keeps_held, places-are}

-- The hand of the machine at a place is the pass's.
pub handful_is : (hands : List (Option Handful)) (i : ℕ) → handful_in (map hand_in_place hands) i ≡ hand_at hands i
handful_is hands i = get_or-map hand_in_place hands i None

module _ (m : OwnerView) (o : OwnsAll m) where
  abbrev t : PassView
  t = m.pass

  abbrev hs : List Handful
  hs = (machine_of m).hands

  abbrev ended : World Held
  ended = world_after t.knows

  leads : Leads mmu t.knows.start ended
  leads = leads_to_end mmu t.knows.start t.knows.past (o.is.sits.legal o.alone)

  as_wide : length ended.hands ≡ length (cores_of hs)
  as_wide =
      as_many_hands mmu t.knows.start ended leads
      ∙ (ap (λ (w : World Held). length w.hands) o.fits.start
      ∙ (length-map m.board.start.hands core_of
      ∙ (sym o.fits.wide ∙ (ap (λ (l : List (Option Handful)). length l) o.all ∙ (length-map hs Some ∙ sym (length-map hs core_of))))))

  held-is : t.knows.held ≡ map Some (cores_of hs)
  held-is = sym o.is.cores ∙ (ap (map core_in) o.all ∙ cores-all hs)

  hands-are : ended.hands ≡ cores_of hs
  hands-are =
      same_hands ended.hands (cores_of hs) as_wide
      (λ a h hold. o.is.sits.told o.alone a h (subst (λ (l : List (Option Held)). Holds l a h) (sym held-is) hold))

  -- The world of the machine is the one to which the steps so far lead.
  pub world_is : ended ≡ world_in (machine_of m)
  world_is = λ i. record { words = ended.words; hands = hands-are i }

  held_each : (i : ℕ) → i < length hs → Holds t.hands i (handful_in hs i)
  held_each i lt =
      subst (λ (l : List (Option Handful)). Holds l i (handful_in hs i)) (sym o.all) (at_map Some hs i (handful_in hs i) (or_at hs i no_hand lt))

  pub keeps_each : (i : ℕ) → i < length hs → Keeps t i
  keeps_each i lt = keeps_held t.hands i (handful_in hs i) (held_each i lt)

  abbrev by_alone : Bool → Option (World Held)
  by_alone alone = if alone then Some ended else None

  told_is : world_told t.knows ≡ Some (world_in (machine_of m))
  told_is = ap by_alone o.alone ∙ ap (λ (w : World Held). Some w) world_is

  -- The seat of an actor at the board is its seat at the machine.
  pub seat_is : (i : ℕ) → seat_of t i ≡ seat_in (machine_of m) (steps_told t.knows) i
  seat_is i = λ j.
      record {
        actor = i;
        hand = (sym (handful_is t.hands i) j).core;
        room = (sym (handful_is t.hands i) j).room;
        tells = record { world = told_is j; steps = steps_told t.knows };
      }

  pub is_machine : IsMachine m.sizes (machine_of m).words hs
  is_machine =
      let r = o.began.reached in
      record {
        reached = record {
          sizes = r.sizes;
          lines = r.lines;
          start = r.start;
          is_start = r.is_start;
          leads = subst (λ (w : World Held). Leads mmu r.start w) world_is ((then) mmu r.start t.knows.start ended r.leads leads);
        };
        sizes = o.began.sizes;
        room = λ i lt. o.is.rooms i (handful_in hs i) (held_each i lt);
      }

  pub are_sizes : AreSizes m.sizes
  are_sizes = subst AreSizes o.began.sizes o.began.reached.is_start.sizes

  pub counted : length hs ≡ actors_of m.sizes
  counted = count_of_hands m.sizes (machine_of m).words hs (machine_of m) is_machine refl

  -- The machine's world has the hand that the pass keeps.
  pub has_each : (i : ℕ) → IfSome (world_told t.knows) (HasHand i (hand_at t.hands i).core)
      → HasHand i (handful_in hs i).core (world_in (machine_of m))
  has_each i has =
      subst (λ (h : Handful). HasHand i h.core (world_in (machine_of m))) (sym (handful_is t.hands i))
      (subst (λ (w : Option (World Held)). IfSome w (HasHand i (hand_at t.hands i).core)) told_is has)

  -- ## With a hand put into its place

  module _ (after : PassView) (i : ℕ) (put : PutsHand t after i) where
    abbrev hand : Handful
    hand = hand_at after.hands i

    abbrev pub owner_after : OwnerView
    owner_after = record { sizes = m.sizes; board = m.board; pass = after }

    as_put : map hand_in_place after.hands ≡ set hs i hand
    as_put = ap (map hand_in_place) put.hands ∙ map-set hand_in_place t.hands i (Some hand)

    pub owns_after : after.knows.alone ≡ true → IsPass after.knows after.hands → OwnsAll owner_after
    owns_after alone is = record {
      fits = put_fits t after i put m.board o.fits;
      alone = alone;
      all = put.hands
          ∙ (ap (λ (l : List (Option Handful)). set l i (Some hand)) o.all
          ∙ (sym (map-set Some hs i hand) ∙ ap (λ (l : List Handful). map Some l) (sym as_put)));
      is = is;
      began = subst (λ (w : World Held). ReachedFrom m.sizes w) (sym put.start) o.began;
    }

    pub others_stay : (machine_of owner_after).hands ≡ set hs i (handful_in (machine_of owner_after).hands i)
    others_stay = as_put ∙ ap (λ (h : Handful). set hs i h) (sym (handful_is after.hands i))

    pub as_many : length (machine_of owner_after).hands ≡ length hs
    as_many = ap (λ (l : List Handful). length l) others_stay ∙ length-set hs i (handful_in (machine_of owner_after).hands i)

-- ## The first pass of a trace's board

module _ (trace : Trace) (m : OwnerView) (sizes : m.sizes ≡ sizes_of trace.header)
    (start : IsStart (sizes_of trace.header) trace.lines (begun m.board.start)) (first : IsFirst m.board m.pass) (is : IsPass m.pass.knows m.pass.hands) where
  pub owns_first : OwnsAll m
  owns_first = record {
    fits = first.fits;
    alone = ap (λ (v : Known). v.alone) first.knows;
    all = first.hands
        ∙ ap (λ (l : List Handful). map Some l) (sym (ap (map hand_in_place) first.hands ∙ places-are m.board.start.hands));
    is = is;
    began = subst (λ (v : Known). ReachedFrom m.sizes v.start) (sym first.knows)
        (record {
          reached = record {
            sizes = sizes_of trace.header;
            lines = trace.lines;
            start = begun m.board.start;
            is_start = start;
            leads = stays mmu (begun m.board.start);
          };
          sizes = sym sizes;
        });
  }

  pub starts : IsStart (sizes_of trace.header) trace.lines (world_in (machine_of m))
  starts = subst (IsStart (sizes_of trace.header) trace.lines) (sym (ap world_after first.knows) ∙ world_is m owns_first) start
