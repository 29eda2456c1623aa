-- Lemmas on a prefix of a text, and on what is after it.
use Rattle.std.proofs.Common.{arith, ◌≡◌, ◌≤◌, ◌+◌, ◌-◌, ℕ, List, ◌++◌, length, take, drop, sym, ◌∙◌, ap, subst}
use Rattle.std.specs.Io.KnownBytes.{Consumes, Appends}
use Rattle.std.proofs.KnownBytes.{Consumes-trans, Appends-trans}
use Rattle.std.proofs.Math.Seq.{take-add}
use Rattle.std.specs.declared.option.Option.{Option}
use Rattle.tdp_io.specs.Steps.{StillTakesSome}
use Rattle.std.proofs.lemmas.List.{length-append, take_at, length-take-le, take-append-drop, drop-drop, take_rest}

-- What is copied from the start of the rest to the start of a buffer, and what stays, is the rest.
pub prefix_given : (given buffer bytes : List ℕ) (n at : ℕ) → given ≡ take n (drop at bytes) → n ≤ length (drop at bytes)
    → drop at bytes ≡ take n (given ++ drop n buffer) ++ drop (at + n) bytes
prefix_given given buffer bytes n at copied fits =
    let exact : length given ≡ n = ap length copied ∙ length-take-le n (drop at bytes) fits in
    rw (take_at given (drop n buffer) n exact, copied, ← drop-drop n at bytes) (sym (take-append-drop n (drop at bytes)))

-- What was written so far, and what one more write took.
pub wrote_more : (start before after : Option (List ℕ)) (text : List ℕ) (at n : ℕ) → Appends start before (take at text)
    → Appends before after (take n (take (length text - at) (drop at text))) → Appends start after (take (at + n) text)
wrote_more start before after text at n so_far added =
    subst (Appends start after) (sym (take-add at n text))
    (Appends-trans start before after (take at text) (take n (drop at text)) so_far (rw take_rest at added))

-- Whoever took some bytes, and then at most so many more, took at most that many more.
pub still_takes_some : (before after : Option (List ℕ)) (old taken : List ℕ) (room : ℕ) → Consumes before after taken → length taken ≤ room
    → StillTakesSome before after old room
still_takes_some before after old taken room more fits start so_far =
    (old ++ taken, Consumes-trans start before after old taken so_far more, rw (length-append old taken) (omega (arith, fits)))
