-- Which line is refused, and for which reason.
use Rattle.std.specs.Prelude.{◌≡◌, ◌⊎◌, ℕ, Bool, List, Err}
use Rattle.core_views.specs.Traces.{IsHeader}
use Rattle.core_views.specs.declared.actor.Actor.{Actor}
use Rattle.core_views.specs.declared.trace.Header.{Header}
use Rattle.trace_reader.specs.declared.reason.Reason.{Reason}
use Rattle.trace_reader.specs.declared.reason.Reason.TheVariants as reason
use Rattle.trace_reader.specs.declared.saying.Saying.{Saying}
use Rattle.trace_reader.specs.Sayings.{said}
use Rattle.trace_reader.specs.Grammar.{IsDeclared}
use Rattle.trace_reader.specs.LineGrammar.{SaysLine, IsOfForm, IsFirstGo}

-- Why a line says nothing: it is of no form of any actor, and no first `go`; or of a form of an actor that the header
-- doesn't declare; or of a form of one that it does, and yet says nothing.
abbrev pub SaysNothingFor : Header → Bool → List ℕ → Reason → Type 0
SaysNothingFor h go_seen bytes reason.Word = ((actor : Actor) → IsOfForm bytes actor → ⊥) × (IsFirstGo go_seen bytes → ⊥)
SaysNothingFor h go_seen bytes reason.Actor = (actor : Actor) × IsOfForm bytes actor × (IsDeclared h actor → ⊥)
SaysNothingFor h go_seen bytes reason.Number = (actor : Actor) × IsOfForm bytes actor × IsDeclared h actor × ((s : Saying) → SaysLine h go_seen bytes s → ⊥)
SaysNothingFor h go_seen bytes _ = ⊥

-- A line that says nothing for a reason is refused for this one.
abbrev pub RefusesForTheReason : Type 0
RefusesForTheReason = (h : Header) (go_seen : Bool) (bytes : List ℕ) (r : Reason) → IsHeader h → SaysNothingFor h go_seen bytes r → said h go_seen bytes ≡ Err r

-- A line is refused only for the reason for which it says nothing.
abbrev pub RefusesForNoOther : Type 0
RefusesForNoOther = (h : Header) (go_seen : Bool) (bytes : List ℕ) (r : Reason) → IsHeader h → said h go_seen bytes ≡ Err r → SaysNothingFor h go_seen bytes r

-- The reason is one of a line that says nothing.
abbrev pub IsLineReason : Reason → Type 0
IsLineReason r = (r ≡ reason.Word) ⊎ (r ≡ reason.Actor) ⊎ (r ≡ reason.Number)

-- A line that says nothing is refused.
abbrev pub RefusesTheRest : Type 0
RefusesTheRest =
    (h : Header) (go_seen : Bool) (bytes : List ℕ) → ((s : Saying) → SaysLine h go_seen bytes s → ⊥)
    → (r : Reason) × (said h go_seen bytes ≡ Err r) × IsLineReason r
