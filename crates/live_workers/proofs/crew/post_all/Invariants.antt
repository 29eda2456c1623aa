use Rattle.std.proofs.Common.{◌≡◌, ◌<◌, ◌≤◌, ℕ, length}
use Rattle.std.specs.Prelude.{false}
use Rattle.core_views.specs.Held.{Handful}
use Rattle.table_seats.specs.Boards.{Fits}
use Rattle.table_seats.specs.Rule.{Holds}
use Rattle.live_workers.specs.Posts.{AllAsSplit, AllPosted}
use Rattle.live_workers.proofs.crew.post_all.Given as goal

abbrev pub invariant-loop-actor : goal.invariant-loop-actor
invariant-loop-actor l = record {
  fits : Fits l.board l.pass;
  past : l.pass.knows.past ≡ l.initial.pass.knows.past;
  parted : 0 < l.actor → l.pass.knows.alone ≡ false;
  count : length l.workers.items ≡ l.actor;
  posted : AllPosted l.board l.initial.pass.knows.past l.workers.items;
  left : (a : ℕ) → l.actor ≤ a → a < l.actors → (h : Handful) × Holds l.pass.hands a h;
  kept : (a : ℕ) (h : Handful) → Holds l.pass.hands a h → Holds l.initial.pass.hands a h;
  as_split : AllAsSplit l.board l.initial.pass.knows.past l.workers.items;
  gone : (a : ℕ) (h : Handful) → Holds l.pass.hands a h → l.actor ≤ a;
}
