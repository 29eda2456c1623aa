-- How turns end: nothing is told of one after which the actor goes on.
use Rattle.std.specs.Prelude.{ℕ, List, [], ◌++◌, codes}
use Rattle.std.specs.Fmt.{decimal}
use Rattle.core_views.specs.Text.{answer_text}
use Rattle.core_views.specs.declared.answer.Answer.{Answer}
use Rattle.core_views.specs.declared.sizes.Sizes.{Sizes}
use Rattle.step_text.specs.Names.{word_text}
use Rattle.step_text.specs.Values.{hexadecimal}
use Rattle.step_text.specs.declared.ending.Ending.{Ending}
use Rattle.step_text.specs.declared.word_place.WordPlace.{WordPlace}
use Rattle.step_text.specs.declared.ending.Ending.TheVariants.{GoesOn, Waits, Open, Moved, Lost, Answers}

-- The line begins anew, since the word held one value and holds another.
abbrev pub lost_text : Sizes → WordPlace → ℕ → ℕ → List ℕ
lost_text z place read seen =
    codes " begins anew (" ++ (word_text z place ++ (codes " held " ++ (hexadecimal read ++ (codes ", holds " ++ (hexadecimal seen ++ codes ")")))))

-- So many invalidations are open, over guest frames from the first up to the one before the last number.
abbrev pub open_text : ℕ → ℕ → ℕ → List ℕ
open_text count start end =
    codes " begins anew (" ++ (decimal count ++ (codes " open over " ++ (decimal start ++ (codes " to " ++ (decimal end ++ codes ")")))))

-- The sequence number was one and is another.
abbrev pub moved_text : ℕ → ℕ → List ℕ
moved_text old now = codes " begins anew (moved " ++ (decimal old ++ (codes " to " ++ (decimal now ++ codes ")")))

abbrev pub waits_text : List ℕ
waits_text = codes " waits"

abbrev pub answers_text : Answer → List ℕ
answers_text answer = codes " answers " ++ answer_text answer

-- what is told after a step's values; a line that begins anew says why
abbrev pub ending_text : Sizes → Ending → List ℕ
ending_text z GoesOn = []
ending_text z Waits = waits_text
ending_text z (Open count start end) = open_text count start end
ending_text z (Moved old now) = moved_text old now
ending_text z (Lost place read seen) = lost_text z place read seen
ending_text z (Answers answer) = answers_text answer.now
