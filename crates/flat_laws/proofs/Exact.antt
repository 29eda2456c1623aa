-- What a line that runs alone has noted is so now, and what is left of it begins with its next event.
use Rattle.std.proofs.Common.{◌≡◌, ◌∷◌, ℕ, Bool, true, false, refl, sym, ap, ◌∙◌}
use Rattle.std.specs.Prelude.{Some, nat_lt}
use Rattle.core_views.specs.declared.event.EventKind.{EventKind}
use Rattle.core_views.specs.declared.host.HostEntry.{HostEntry}
use Rattle.core_views.specs.declared.sizes.Sizes.{Sizes}
use Rattle.core_views.specs.declared.trace.Command.{Command}
use Rattle.core_views.specs.declared.trace.Command.TheVariants.{Access}
use Rattle.core_views.specs.Events.{facts_after, under_after}
use Rattle.core_views.specs.declared.trace.Line.{Line}
use Rattle.core_views.specs.Flat.{Facts, Flat, Fresh, LineUnderWay, Notes, Stage}
use Rattle.core_views.specs.FlatHistory.{by, rest_of}
use Rattle.core_views.specs.Host.{is_huge}
use Rattle.core_views.specs.Lawful.{BringsIn}
use Rattle.core_views.specs.Migrations.{is_paused}
use Rattle.core_views.specs.Slots.{Slots}
use Rattle.core_views.specs.SlotSets.{flat_slots}
use Rattle.core_views.proofs.HostLines.{IsAlike}
use Rattle.flat_laws.proofs.AloneSteps.{IsAt}

-- The line is one that may bring a host page in.
abbrev pub brings : Command → Bool
brings (Access gfn word op) = true
brings _ = false

pub only_brings : (f : Facts) (command : Command) (notes : Notes) (page : ℕ) → BringsIn f command notes page → brings command ≡ true
only_brings f (Access gfn word op) notes page may = refl
only_brings f _ notes page may = absurd may

-- What the line noted is so now: the pause, the slots, and of the host what it allows and how much it maps as one. A page may have been brought in since by the
-- line itself; where it is one that brings none in, each entry is as it was noted.
pub record AreExact (f : Facts) (command : Command) (notes : Notes) : Type 0 where
  pub pause : (paused : Bool) → notes.paused ≡ Some paused → is_paused f.migration ≡ paused
  pub slots : (slots : Slots) → notes.slots ≡ Some slots → slots ≡ flat_slots f.slots
  pub host : (page : ℕ) (entry : HostEntry) → notes.host page ≡ Some entry → IsAlike entry (f.host page)
  pub whole : (page : ℕ) (entry : HostEntry) → notes.host page ≡ Some entry → brings command ≡ false → entry ≡ f.host page

abbrev pub under_way : Line → Stage → Notes → LineUnderWay
under_way line stage notes = record { line = line; stage = stage; notes = notes }

-- The line is under way alone, and until it has done something its notes are so now.
pub record IsAlone (line : Line) (stage : Stage) (notes : Notes) (f : Flat) : Type 0 where
  pub at : IsAt line.actor f.facts (under_way line stage notes) f
  pub exact : stage ≡ Fresh → AreExact f.facts line.command notes

-- What is left of the line begins with this event.
abbrev pub IsNext : Sizes → Facts → LineUnderWay → EventKind → Type 0
IsNext z f u kind = rest_of z u.line u.stage f ≡ by u.line kind ∷ rest_of z u.line (under_after kind f u).stage (facts_after kind f)

-- a host page is as much of a large one as it was noted
pub size_noted : (f : Facts) (command : Command) (notes : Notes) (page : ℕ) (entry : HostEntry) (huge : Bool) → AreExact f command notes
    → notes.host page ≡ Some entry → is_huge entry ≡ huge → is_huge (f.host page) ≡ huge
size_noted f command notes page entry huge exact looked is = ap (nat_lt 1) (sym (exact.host page entry looked).1) ∙ is
