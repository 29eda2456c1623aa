-- What an invalidation that has begun is of, however many of its host pages are changed.
use Rattle.std.proofs.Common.{◌≡◌, ℕ, refl}
use Rattle.std.specs.Prelude.{Bool, Option, Some, None, is_some}
use Rattle.core_views.specs.declared.topics.Invalidated.{Invalidated}
use Rattle.core_views.specs.declared.topics.PageRun.{PageRun}
use Rattle.part_steps.specs.declared.invalidations.Target.{Target}
use Rattle.part_steps.specs.declared.invalidations.Target.TheVariants as aim
use Rattle.part_steps.specs.PageRuns.{IsOnRun, changed_more}
use Rattle.mmu_core.specs.orders.InvalidateKnows.{FramesAre}

-- the same, with none of them changed
abbrev pub unchanged : Option PageRun → Option PageRun
unchanged None = None
unchanged (Some run) = Some (record run { changed = 0 })

abbrev pub as_begun : Invalidated → Invalidated
as_begun own_ = record own_ { pages = unchanged own_.pages }

pub unchanged_more : (won : Bool) (o : Option PageRun) → unchanged (changed_more won o) ≡ unchanged o
unchanged_more won None = refl
unchanged_more won (Some run) = refl

pub on_begun : (page : ℕ) (o : Option PageRun) → IsOnRun page (unchanged o) → IsOnRun page o
on_begun page None on = on
on_begun page (Some run) on = on

pub some_begun : (o : Option PageRun) → is_some o ≡ is_some (unchanged o)
some_begun None = refl
some_begun (Some run) = refl

pub frames_begun : (target : Target) (own_ : Invalidated) → FramesAre target own_ → FramesAre target (as_begun own_)
frames_begun (aim.Page page) own_ few = few
frames_begun (aim.Run run) own_ few = few
frames_begun (aim.Slot slot) own_ few = few

pub frames_then : (target : Target) (own_ : Invalidated) → FramesAre target (as_begun own_) → FramesAre target own_
frames_then (aim.Page page) own_ few = few
frames_then (aim.Run run) own_ few = few
frames_then (aim.Slot slot) own_ few = few
