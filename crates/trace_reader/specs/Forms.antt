-- What the words of an actor's line say: a table by the command's word, one row and one function for each form.
use Rattle.std.specs.Prelude.{◌%◌, ◌^◌, ℕ, List, [], ◌∷◌, Bool, true, false, ◌&&◌, nat_lt, ◌==◌, if◌then◌else◌, codes, length, Result, Ok, Err}
use Rattle.std.specs.List.{slice_split}
use Rattle.std.specs.Str.{bytes_eq}
use Rattle.core_views.specs.declared.actor.Actor.TheVariants.{Vcpu, Manager, Worker}
use Rattle.core_views.specs.declared.trace.Command.{Command}
use Rattle.core_views.specs.declared.trace.Command.TheVariants.{Access, ClearLog, DeleteSlot, GetLog, SetLog, SetSlot, Split}
use Rattle.core_views.specs.declared.trace.Op.TheVariants.{Read, Write, Add}
use Rattle.core_views.specs.declared.trace.Slot.{Slot}
use Rattle.core_views.specs.declared.trace.Header.{Header}
use Rattle.trace_reader.specs.declared.reason.Reason.{Reason}
use Rattle.trace_reader.specs.declared.reason.Reason.TheVariants as reason
use Rattle.trace_reader.specs.Numbers.{spelled_number}
use Rattle.trace_reader.specs.Operands.{◌>>=◌, Said, address, are_counted, guest_frame, number, numbers, vcpu, worker}
use Rattle.trace_reader.specs.HostForms.{by_host}

-- `vN read A`
unfoldable pub read_form : Header → List ℕ → List (List ℕ) → Said
read_form h who (x ∷ []) = vcpu h who >>= λ n. address h x >>= λ a. Ok (Vcpu n, Access a.0 a.1 Read)
read_form h who _ = Err reason.Word

-- `vN write A X`
unfoldable pub write_form : Header → List ℕ → List (List ℕ) → Said
write_form h who (x ∷ y ∷ []) = vcpu h who >>= λ n. address h x >>= λ a. number y >>= λ v. Ok (Vcpu n, Access a.0 a.1 (Write v))
write_form h who _ = Err reason.Word

-- `vN add A X`
unfoldable pub add_form : Header → List ℕ → List (List ℕ) → Said
add_form h who (x ∷ y ∷ []) = vcpu h who >>= λ n. address h x >>= λ a. number y >>= λ v. Ok (Vcpu n, Access a.0 a.1 (Add v))
add_form h who _ = Err reason.Word

-- the ranges of a slot line's numbers
abbrev pub is_slot : ℕ → ℕ → ℕ → Bool
is_slot base pages host = nat_lt base (2 ^ 36) && nat_lt pages (2 ^ 36) && nat_lt host (2 ^ 36) && (host % 64 == 0)

-- the slot of `BASE PAGES HOST`, where PAGES may be 0
unfoldable pub slot : List ℕ → List ℕ → List ℕ → Bool → Result Slot Reason
slot base pages host read_only = do
  b ← number base
  p ← number pages
  k ← number host
  if is_slot b p k then Ok (record { base = b; pages = p; host = k; read_only = read_only }) else Err reason.Number

-- what a line with these numbers asks for: with no pages the slot is deleted
abbrev pub slot_command : ℕ → Slot → Command
slot_command id slot = if slot.pages == 0 then DeleteSlot id else SetSlot id slot

-- `ID BASE PAGES HOST`, after `vm slot`
unfoldable pub setting : List ℕ → List ℕ → List ℕ → List ℕ → Bool → Said
setting id base pages host read_only = number id >>= λ n. slot base pages host read_only >>= λ s. Ok (Manager, slot_command n s)

-- `ID BASE PAGES HOST` and `ID BASE PAGES HOST ro`, after `vm slot`
abbrev pub setting_form : List (List ℕ) → Said
setting_form (id ∷ base ∷ pages ∷ host ∷ []) = setting id base pages host false
setting_form (id ∷ base ∷ pages ∷ host ∷ last ∷ []) = if bytes_eq last (codes "ro") then setting id base pages host true else Err reason.Word
setting_form _ = Err reason.Word

-- `vm slot ID BASE PAGES HOST [ro]`
unfoldable pub slot_form : List ℕ → List (List ℕ) → Said
slot_form who rest = if bytes_eq who (codes "vm") then setting_form rest else Err reason.Word

-- `ID`, after `vm` and a command's word
unfoldable pub id_form : List ℕ → List (List ℕ) → Result ℕ Reason
id_form who (x ∷ []) = if bytes_eq who (codes "vm") then number x else Err reason.Word
id_form who _ = Err reason.Word

-- `vm logon ID` and `vm logoff ID`, where the command's word tells which
unfoldable pub log_form : Bool → List ℕ → List (List ℕ) → Said
log_form on who rest = id_form who rest >>= λ id. Ok (Manager, SetLog id on)

-- `vm get ID`
unfoldable pub get_form : List ℕ → List (List ℕ) → Said
get_form who rest = id_form who rest >>= λ id. Ok (Manager, GetLog id)

-- `ID FIRST COUNT`
unfoldable pub pages_named : List ℕ → List ℕ → List ℕ → Result (ℕ × ℕ × ℕ) Reason
pages_named id first count = number id >>= λ i. number first >>= λ f. number count >>= λ c. Ok (i, f, c)

-- `ID FIRST COUNT WORD ..`, after `vm clear`
unfoldable pub clearing : List ℕ → List ℕ → List ℕ → List (List ℕ) → Said
clearing id first count words = pages_named id first count >>= λ x. numbers words >>= λ bits. Ok (Manager, ClearLog x.0 x.1 x.2 bits)

-- `vm clear ID FIRST COUNT WORD ..`; where COUNT is a number, there is a word for each 64 pages
unfoldable pub clear_form : List ℕ → List (List ℕ) → Said
clear_form who (id ∷ first ∷ count ∷ words) =
    if bytes_eq who (codes "vm") && are_counted (spelled_number count) words then clearing id first count words else Err reason.Word
clear_form who _ = Err reason.Word

-- `wN split GFN`
unfoldable pub split_form : Header → List ℕ → List (List ℕ) → Said
split_form h who (x ∷ []) = worker h who >>= λ n. guest_frame x >>= λ gfn. Ok (Worker n, Split gfn)
split_form h who _ = Err reason.Word

-- what the words after a command's word say: one row for each form but that of a clear, and one for all of host threads
unfoldable pub by_command : Header → List ℕ → List ℕ → List (List ℕ) → Said
by_command h who command rest =
    if bytes_eq command (codes "read") then read_form h who rest else
    if bytes_eq command (codes "write") then write_form h who rest else
    if bytes_eq command (codes "add") then add_form h who rest else
    if bytes_eq command (codes "slot") then slot_form who rest else
    if bytes_eq command (codes "logon") then log_form true who rest else
    if bytes_eq command (codes "logoff") then log_form false who rest else
    if bytes_eq command (codes "get") then get_form who rest else
    if bytes_eq command (codes "split") then split_form h who rest else
    by_host h who command rest

-- what the words of an actor's line say: its name, the command's word, and the words after it
unfoldable pub by_form : Header → List (List ℕ) → Said
by_form h (who ∷ command ∷ rest) = if bytes_eq command (codes "clear") then clear_form who rest else by_command h who command rest
by_form h _ = Err reason.Word

-- It has no bytes.
abbrev pub is_empty : List ℕ → Bool
is_empty w = length w == 0

-- the words of a line: what stands between its spaces
abbrev pub words_of : List ℕ → List (List ℕ)
words_of bytes = slice_split (λ b. b == 32) bytes
