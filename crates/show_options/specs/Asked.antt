-- What the words of a call ask for: forms, runs and options in any order. An option that is given again counts as it is given last.
use Rattle.std.specs.Prelude.{ℕ, true, false, List, [], ◌∷◌, ◌+◌, codes, if◌then◌else◌, Option, Some, None, Result, Ok, Err}
use Rattle.std.specs.Str.{bytes_eq}
use Rattle.core_views.specs.declared.actor.Actor.{Actor as Who}
use Rattle.trace_reader.specs.Items.{kind_number}
use Rattle.trace_reader.specs.Numbers.{decimal_number}
use Rattle.show_options.specs.Names.{actor_named, bound_named, line_numbered}
use Rattle.show_options.specs.declared.asked.Asked.{Asked}
use Rattle.show_options.specs.declared.asked.Bound.{Bound}
use Rattle.show_options.specs.declared.asked.Command.{Command}
use Rattle.show_options.specs.declared.asked.Command.TheVariants.{Weave, Replay}
use Rattle.show_options.specs.declared.asked.Form.{Form}
use Rattle.show_options.specs.declared.asked.Form.TheVariants.{Steps}
use Rattle.show_options.specs.declared.fault.Fault.{Fault}
use Rattle.show_options.specs.declared.fault.Wrong.{Wrong}
use Rattle.show_options.specs.declared.fault.Wrong.TheVariants.{NoText, Unknown, Second, NoValue, NoBound, NoActor, NoKind}
use Rattle.show_options.specs.declared.reading.Reading.{Reading}
use Rattle.show_options.specs.declared.reading.Wants.{Wants}
use Rattle.show_options.specs.declared.reading.Wants.TheVariants.{Nothing, From, FromLine, To, ToLine, Actor, Kind, Word}

abbrev pub asked_for : Asked → Result Reading Wrong
asked_for a = Ok (record { asked = a; wants = Nothing })

-- whose value the next word is
abbrev pub wanting : Wants → Asked → Result Reading Wrong
wanting wants a = Ok (record { asked = a; wants = wants })

abbrev pub wanted_after : List ℕ → Option Wants
wanted_after w =
    if bytes_eq w (codes "--from") then Some From else
    if bytes_eq w (codes "--to") then Some To else
    if bytes_eq w (codes "--actor") then Some Actor else
    if bytes_eq w (codes "--kind") then Some Kind else
    if bytes_eq w (codes "--word") then Some Word else None

abbrev pub wants_by : Option Wants → Asked → Result Reading Wrong
wants_by None a = Err Unknown
wants_by (Some wants) a = wanting wants a

-- A form, or a run, is named once.
abbrev pub form_by : Option Form → Asked → Form → Result Reading Wrong
form_by None a form = asked_for (record a { form = Some form })
form_by (Some earlier) a form = Err Second

abbrev pub with_form : Asked → Form → Result Reading Wrong
with_form a form = form_by a.form a form

abbrev pub run_by : Option Command → Asked → Command → Result Reading Wrong
run_by None a command = asked_for (record a { command = Some command })
run_by (Some earlier) a command = Err Second

abbrev pub with_run : Asked → Command → Result Reading Wrong
with_run a command = run_by a.command a command

-- a word that is no option's value
abbrev pub named : List ℕ → Asked → Result Reading Wrong
named w a =
    if bytes_eq w (codes "steps") then with_form a Steps else
    if bytes_eq w (codes "weave") then with_run a Weave else
    if bytes_eq w (codes "replay") then with_run a Replay else
    if bytes_eq w (codes "--changes") then asked_for (record a { changes = true }) else
    if bytes_eq w (codes "--help") then asked_for (record a { help = true }) else
    wants_by (wanted_after w) a

abbrev pub bound_by : Option Bound → Result Bound Wrong
bound_by None = Err NoBound
bound_by (Some bound) = Ok bound

abbrev pub bound_read : List ℕ → Result Bound Wrong
bound_read w = bound_by (bound_named w)

abbrev pub line_read : List ℕ → Result Bound Wrong
line_read w = bound_by (line_numbered (decimal_number w))

abbrev pub from_read : Asked → Result Bound Wrong → Result Reading Wrong
from_read a (Ok bound) = asked_for (record a { from = Some bound })
from_read a (Err wrong) = Err wrong

abbrev pub to_read : Asked → Result Bound Wrong → Result Reading Wrong
to_read a (Ok bound) = asked_for (record a { to = Some bound })
to_read a (Err wrong) = Err wrong

abbrev pub actor_by : Option Who → Asked → Result Reading Wrong
actor_by None a = Err NoActor
actor_by (Some who) a = asked_for (record a { actor = Some who })

abbrev pub actor_read : List ℕ → Asked → Result Reading Wrong
actor_read w a = actor_by (actor_named w) a

abbrev pub kind_by : Option ℕ → Asked → Result Reading Wrong
kind_by None a = Err NoKind
kind_by (Some code) a = asked_for (record a { kind = Some code })

abbrev pub kind_read : List ℕ → Asked → Result Reading Wrong
kind_read w a = kind_by (kind_number w) a

-- what the words up to this one ask for, which has this number among all
abbrev pub read_by : Wants → ℕ → List ℕ → Asked → Result Reading Wrong
read_by Nothing at w a = named w a
read_by From at w a = if bytes_eq w (codes "line") then wanting FromLine a else from_read a (bound_read w)
read_by FromLine at w a = from_read a (line_read w)
read_by To at w a = if bytes_eq w (codes "line") then wanting ToLine a else to_read a (bound_read w)
read_by ToLine at w a = to_read a (line_read w)
read_by Actor at w a = actor_read w a
read_by Kind at w a = kind_read w a
read_by Word at w a = asked_for (record a { word = Some at })

abbrev pub word_read : ℕ → List ℕ → Reading → Result Reading Wrong
word_read at w r = read_by r.wants at w r.asked

-- No word is left: each option has its value.
abbrev pub ended_by : Wants → ℕ → Asked → Result Asked Fault
ended_by Nothing last a = Ok a
ended_by _ last a = Err (record { at = last; wrong = NoValue })

abbrev pub ended : ℕ → Reading → Result Asked Fault
ended last r = ended_by r.wants last r.asked

abbrev pub nothing_asked : Asked
nothing_asked = record {
  help = false;
  form = None;
  command = None;
  from = None;
  to = None;
  actor = None;
  kind = None;
  word = None;
  changes = false;
}

abbrev pub first_reading : Reading
first_reading = record { asked = nothing_asked; wants = Nothing }

-- the first word that is wrong decides
abbrev pub then_read : ℕ → Result Reading Wrong → (Reading → Result Asked Fault) → Result Asked Fault
then_read at (Ok next) rest = rest next
then_read at (Err wrong) rest = Err (record { at = at; wrong = wrong })

-- what words ask for, of which the one before them has this number
abbrev pub read_on : ℕ → List (List ℕ) → Reading → Result Asked Fault
read_on last [] r = ended last r
read_on last (w ∷ ws) r = then_read (last + 1) (word_read (last + 1) w r) (λ next. read_on (last + 1) ws next)

-- what the words of a call ask for, of which the first is the program's name
abbrev pub asked_by : List (List ℕ) → Result Asked Fault
asked_by [] = Err (record { at = 0; wrong = NoText })
asked_by (name ∷ options) = read_on 0 options first_reading
