-- What is printed: the answered lines of a history, in its order.
use Rattle.std.specs.Prelude.{ℕ, List, [], ◌∷◌, ◌++◌, false, codes}
use Rattle.std.specs.Fmt.{decimal, digits}
use Rattle.core_views.specs.declared.actor.Actor.{Actor}
use Rattle.core_views.specs.declared.actor.Actor.TheVariants.{Vcpu, Host, Manager, Worker}
use Rattle.core_views.specs.declared.answer.Answer.{Answer}
use Rattle.core_views.specs.declared.answer.AnsweredLine.{AnsweredLine}
use Rattle.core_views.specs.declared.answer.Answer.TheVariants.{Reached, Mmio, HostFault, Starved, Paused, Done, Moved, Bits, Copied, Image, Refused}
use Rattle.core_views.specs.declared.answer.Refusal.{Refusal}
use Rattle.core_views.specs.declared.answer.Refusal.TheVariants.{BadId, TooLarge, Missing, Logged, NoLog, Resize, Fixed, Overlap, HostOverlap, OutOfRange}
use Rattle.core_views.specs.declared.answer.Refusal.TheVariants.{IsHuge, NotAligned, NoFrame, BadRange, Migrating, NotLogged, NotStarted}
use Rattle.core_views.specs.declared.migration.ImageWord.{ImageWord}
use Rattle.core_views.specs.declared.event.Event.{Event}
use Rattle.core_views.specs.declared.event.EventKind.{EventKind}
use Rattle.core_views.specs.declared.event.EventKind.TheVariants.{Answered}

abbrev pub actor_name : Actor → List ℕ
actor_name (Vcpu n) = codes "v" ++ decimal n
actor_name (Host n) = codes "h" ++ decimal n
actor_name Manager = codes "vm"
actor_name (Worker n) = codes "w" ++ decimal n

abbrev pub refusal_name : Refusal → List ℕ
refusal_name BadId = codes "bad-id"
refusal_name TooLarge = codes "too-large"
refusal_name Missing = codes "missing"
refusal_name Logged = codes "logged"
refusal_name NoLog = codes "no-log"
refusal_name Resize = codes "resize"
refusal_name Fixed = codes "fixed"
refusal_name Overlap = codes "overlap"
refusal_name HostOverlap = codes "host-overlap"
refusal_name OutOfRange = codes "out-of-range"
refusal_name IsHuge = codes "is-huge"
refusal_name NotAligned = codes "not-aligned"
refusal_name NoFrame = codes "no-frame"
refusal_name BadRange = codes "bad-range"
refusal_name Migrating = codes "migrating"
refusal_name NotLogged = codes "not-logged"
refusal_name NotStarted = codes "not-started"

-- words of a dirty log, each after a space, in hexadecimal digits
abbrev pub bits_text : List ℕ → List ℕ
bits_text [] = []
bits_text (word ∷ words) = codes " 0x" ++ (digits 16 false word ++ bits_text words)

-- a word of an image, and words of one, each after a space
abbrev pub image_word_text : ImageWord → List ℕ
image_word_text at =
    decimal at.id ++ (codes ":" ++ (decimal at.page ++ (codes ":" ++ (decimal at.word ++ (codes "=" ++ decimal at.value)))))

abbrev pub image_text : List ImageWord → List ℕ
image_text [] = []
image_text (word ∷ words) = codes " " ++ (image_word_text word ++ image_text words)

abbrev pub answer_text : Answer → List ℕ
answer_text (Reached frame value) = codes "frame " ++ (decimal frame ++ (codes " value " ++ decimal value))
answer_text Mmio = codes "mmio"
answer_text HostFault = codes "hostfault"
answer_text Starved = codes "starved"
answer_text Paused = codes "paused"
answer_text Done = codes "done"
answer_text (Moved frame) = codes "frame " ++ decimal frame
answer_text (Bits words) = codes "bits" ++ bits_text words
answer_text (Copied pages) = codes "copied " ++ decimal pages
answer_text (Image words) = codes "image" ++ image_text words
answer_text (Refused refusal) = codes "refused " ++ refusal_name refusal

-- a line's number, its actor, its answer, and LF
unfoldable pub line_text : ℕ → Actor → Answer → List ℕ
line_text number actor answer = decimal number ++ (codes " " ++ (actor_name actor ++ (codes " " ++ (answer_text answer ++ 10 ∷ []))))

abbrev pub or_answered : Actor → EventKind → List AnsweredLine → List AnsweredLine
or_answered actor (Answered line answer) rest = record { number = line; actor = actor; answer = answer } ∷ rest
or_answered actor _ rest = rest

-- the lines that the history answers, in its order
abbrev pub answers_of : List Event → List AnsweredLine
answers_of [] = []
answers_of (e ∷ es) = or_answered e.actor e.kind (answers_of es)

abbrev pub lines_text : List AnsweredLine → List ℕ
lines_text [] = []
lines_text (x ∷ xs) = line_text x.number x.actor x.answer ++ lines_text xs

abbrev pub text : List Event → List ℕ
text history = lines_text (answers_of history)
