-- The kinds of step by their numbers, which are those of their names in a schedule.
use Rattle.std.specs.Prelude.{ℕ, ◌==◌, if◌then◌else◌}
use Rattle.core_views.specs.declared.kind.StepKind.{StepKind}
use Rattle.core_views.specs.declared.kind.StepKind.TheVariants.{Enter, Leave, Walk, Read, Write, Add, Begin, End, Control, Slot, Host, Bring, Swap, Mark, Share}
use Rattle.core_views.specs.declared.kind.StepKind.TheVariants.{Unshare, Exclude, Release, Claim, Fill, Give, Set, Zap, Ask, Await, Change}
use Rattle.core_views.specs.declared.kind.StepKind.TheVariants.{Copy, Frame, Unframe, Publish, Watch, Take, Protect, Peek, Arm}

-- the number of a kind
abbrev pub code_of : StepKind → ℕ
code_of Enter = 1
code_of Leave = 2
code_of Walk = 3
code_of Read = 4
code_of Write = 5
code_of Add = 6
code_of Begin = 7
code_of End = 8
code_of Control = 9
code_of Slot = 10
code_of Host = 11
code_of Bring = 12
code_of Swap = 13
code_of Mark = 14
code_of Share = 15
code_of Unshare = 16
code_of Exclude = 17
code_of Release = 18
code_of Claim = 19
code_of Fill = 20
code_of Give = 21
code_of Set = 22
code_of Zap = 23
code_of Ask = 24
code_of Await = 25
code_of Change = 26
code_of Copy = 27
code_of Frame = 28
code_of Unframe = 29
code_of Publish = 30
code_of Watch = 31
code_of Take = 36
code_of Protect = 37
code_of Peek = 40
code_of Arm = 41

-- the kind with this number, a load where it is of none
abbrev pub kind_named : ℕ → StepKind
kind_named code =
    if code == code_of Enter then Enter else
    if code == code_of Leave then Leave else
    if code == code_of Walk then Walk else
    if code == code_of Read then Read else
    if code == code_of Write then Write else
    if code == code_of Add then Add else
    if code == code_of Begin then Begin else
    if code == code_of End then End else
    if code == code_of Slot then Slot else
    if code == code_of Host then Host else
    if code == code_of Bring then Bring else
    if code == code_of Swap then Swap else
    if code == code_of Mark then Mark else
    if code == code_of Share then Share else
    if code == code_of Unshare then Unshare else
    if code == code_of Exclude then Exclude else
    if code == code_of Release then Release else
    if code == code_of Claim then Claim else
    if code == code_of Fill then Fill else
    if code == code_of Give then Give else
    if code == code_of Set then Set else
    if code == code_of Zap then Zap else
    if code == code_of Ask then Ask else
    if code == code_of Await then Await else
    if code == code_of Change then Change else
    if code == code_of Copy then Copy else
    if code == code_of Frame then Frame else
    if code == code_of Unframe then Unframe else
    if code == code_of Publish then Publish else
    if code == code_of Watch then Watch else
    if code == code_of Take then Take else
    if code == code_of Protect then Protect else
    if code == code_of Peek then Peek else
    if code == code_of Arm then Arm else
    Control
