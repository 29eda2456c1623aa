-- What the words of a host thread's line say: their rows of the table by the command's word, and a function for each form.
use Rattle.std.specs.Prelude.{ℕ, List, [], ◌∷◌, if◌then◌else◌, codes, Ok, Err}
use Rattle.std.specs.Str.{bytes_eq}
use Rattle.core_views.specs.declared.actor.Actor.TheVariants.{Host}
use Rattle.core_views.specs.declared.trace.Command.{Command}
use Rattle.core_views.specs.declared.trace.Command.TheVariants.{ChangeHost, ChangeRun}
use Rattle.core_views.specs.declared.trace.Header.{Header}
use Rattle.core_views.specs.declared.trace.HostChange.{HostChange}
use Rattle.core_views.specs.declared.trace.HostChange.TheVariants.{Allow, Evict, Move, Protect}
use Rattle.core_views.specs.declared.trace.RunChange.TheVariants.{Huge, Small}
use Rattle.trace_reader.specs.declared.reason.Reason.TheVariants as reason
use Rattle.trace_reader.specs.Operands.{◌>>=◌, Said, host_thread, large_level, number}

-- `hN WORD P`, where the command's word tells what is made of the page
unfoldable pub page_form : Header → (ℕ → Command) → List ℕ → List (List ℕ) → Said
page_form h make who (x ∷ []) = host_thread h who >>= λ n. number x >>= λ page. Ok (Host n, make page)
page_form h make who _ = Err reason.Word

-- `hN evict P` and the others that change one page, where the command's word tells the change
abbrev pub change_form : Header → HostChange → List ℕ → List (List ℕ) → Said
change_form h change who rest = page_form h (λ page. ChangeHost page change) who rest

-- `hN small P`
abbrev pub small_form : Header → List ℕ → List (List ℕ) → Said
small_form h who rest = page_form h (λ page. ChangeRun page Small) who rest

-- `hN huge P L`
unfoldable pub huge_form : Header → List ℕ → List (List ℕ) → Said
huge_form h who (x ∷ y ∷ []) = host_thread h who >>= λ n. number x >>= λ page. large_level y >>= λ level. Ok (Host n, ChangeRun page (Huge level))
huge_form h who _ = Err reason.Word

-- what the words after the command's word of a host thread say: one row for each form
unfoldable pub by_host : Header → List ℕ → List ℕ → List (List ℕ) → Said
by_host h who command rest =
    if bytes_eq command (codes "move") then change_form h Move who rest else
    if bytes_eq command (codes "evict") then change_form h Evict who rest else
    if bytes_eq command (codes "protect") then change_form h Protect who rest else
    if bytes_eq command (codes "allow") then change_form h Allow who rest else
    if bytes_eq command (codes "huge") then huge_form h who rest else
    if bytes_eq command (codes "small") then small_form h who rest else
    Err reason.Word
