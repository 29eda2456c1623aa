-- A pass, after a hand went out of it or another pass's hands came to it.
use Rattle.std.proofs.Common.{◌≡◌, ◌∙◌, ⊎_elim, ℕ, List, None, Option, ap, set}
use Rattle.std.proofs.lemmas.List.{map-set}
use Rattle.core_views.specs.Held.{Held, Handful}
use Rattle.mmu_core.specs.machine.Enabled.{mmu}
use Rattle.table_seats.specs.Rule.{joined, only, overlay, with_only, without}
use Rattle.table_seats.specs.Passes.{IsPass, Known, core_in}
use Rattle.table_seats.proofs.HandLists.{cut_held, only_held, overlay_held}
use Rattle.table_seats.proofs.Sits.{sits_joined, sits_only, sits_without}
use Rattle.table_seats.proofs.Places.{cores-only, cores-overlay}

pub pass_only : (v : Known) (hands : List (Option Handful)) → IsPass v hands → (a : ℕ) → IsPass (with_only a v) (only hands a)
pass_only v hands p a = record {
  live = p.live;
  cores = cores-only hands a ∙ ap (λ (l : List (Option Held)). only l a) p.cores;
  sits = sits_only mmu v a p.sits;
  start = p.start;
  rooms = λ b h hold. let o = only_held hands a b h hold in p.rooms a h o.1;
}

pub pass_without : (v : Known) (hands : List (Option Handful)) → IsPass v hands → (a : ℕ) → IsPass (without a v) (set hands a None)
pass_without v hands p a =
    let none : Option Held = None in
    record {
      live = p.live;
      cores = map-set core_in hands a None ∙ ap (λ (l : List (Option Held)). set l a none) p.cores;
      sits = sits_without mmu v a p.sits;
      start = p.start;
      rooms = λ b h hold. p.rooms b h (cut_held hands a b h hold).1;
    }

pub pass_joined : (v w : Known) (hands others : List (Option Handful)) → w.start ≡ v.start → IsPass v hands → IsPass w others
    → IsPass (joined v w) (overlay hands others)
pass_joined v w hands others same p q = record {
  live = p.live;
  cores = cores-overlay hands others ∙ (λ i. overlay (p.cores i) (q.cores i));
  sits = sits_joined mmu v w same p.sits q.sits;
  start = p.start;
  rooms = λ b h hold. ⊎_elim (p.rooms b h) (q.rooms b h) (overlay_held hands others b h hold);
}
