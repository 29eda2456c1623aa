-- What the run of a trace wrote is what the program owes its words and its input.
use Rattle.std.proofs.Common.{◌≡◌, inl, inr, ℕ, List, Ok, Err, take, subst, sym}
use Rattle.std.specs.Prelude.{Bool, IfSome, Result, true, false}
use Rattle.std.specs.declared.option.Option.{Option}
use Rattle.std.specs.declared.option.Option.TheVariants.{Some, None}
use Rattle.core_views.specs.declared.trace.Trace.{Trace}
use Rattle.core_views.specs.Sizes.{sizes_of}
use Rattle.run_status.specs.Statuses.{WritesUsage}
use Rattle.run_status.specs.declared.status.Status.{Status}
use Rattle.run_status.specs.declared.status.Status.TheVariants.{Done, Usage, Refused, ReadFault, WriteFault, Unfinished, NoMemory}
use Rattle.show_options.specs.Asked.{asked_by}
use Rattle.show_options.specs.Faults.{fault_text}
use Rattle.show_options.specs.declared.asked.Asked.{Asked}
use Rattle.show_options.specs.declared.fault.Fault.{Fault}
use Rattle.trace_reader.specs.Reading.{reading}
use Rattle.step_printing.specs.Prints.{Prints, PrintsAsked, PrintsHelping, PrintsRun, WritesHelp, WritesPartOf, WritesTrace, WritesTracePart, command_of}
use Rattle.step_printing.specs.Naming.{IsViewOf, LacksWord}
use Rattle.step_printing.specs.Run.{WritesSteps}
use Rattle.step_printing.specs.declared.view.View.{View}

module _ (words : List (List ℕ)) (a : Asked) (limit : ℕ) (trace : Trace) (before after : Option (List ℕ)) where
  part : (input : List ℕ) → reading input ≡ Ok trace → WritesTracePart words a trace limit before after
      → WritesPartOf words a limit (reading input) before after
  part input says writes = rw says writes

  prints : (input : List ℕ) (status : Status) → reading input ≡ Ok trace → WritesTrace words a trace limit before after status
      → PrintsRun words a limit input before after status
  prints input Done says writes = (trace, says, writes)
  prints input Usage says writes = (trace, says, writes)
  prints input (Unfinished actor line) says writes = (trace, says, writes)
  prints input WriteFault says writes = part input says writes
  prints input NoMemory says (inl none) = inl none
  prints input NoMemory says (inr writes) = inr (part input says writes)
  prints input (Refused line reason) says writes = absurd writes
  prints input ReadFault says writes = absurd writes

  pub trace_prints : (left : Option (List ℕ)) (status : Status) → IfSome left (λ input. reading (take 16777217 input) ≡ Ok trace)
      → WritesTrace words a trace limit before after status
      → IfSome left (λ input. PrintsRun words a limit (take 16777217 input) before after status)
  trace_prints None status says writes = tt
  trace_prints (Some input) status says writes = prints (take 16777217 input) status says writes

-- By what the words ask for.
module _ (words : List (List ℕ)) (limit : ℕ) (before after : Option (List ℕ)) (status : Status) where
  pub fault_prints : (left : Option (List ℕ)) (fault : Fault) → asked_by words ≡ Err fault → WritesUsage (fault_text words fault) before after status
      → IfSome left (λ input. Prints words limit (take 16777217 input) before after status)
  fault_prints None fault is writes = tt
  fault_prints (Some input) fault is writes = rw is writes

  pub help_prints : (left : Option (List ℕ)) (a : Asked) → asked_by words ≡ Ok a → a.help ≡ true → WritesHelp before after status
      → IfSome left (λ input. Prints words limit (take 16777217 input) before after status)
  help_prints None a is helps writes = tt
  help_prints (Some input) a is helps writes = rw (is, helps) writes

  pub run_prints : (left : Option (List ℕ)) (a : Asked) → asked_by words ≡ Ok a → a.help ≡ false
      → IfSome left (λ input. PrintsRun words a limit (take 16777217 input) before after status)
      → IfSome left (λ input. Prints words limit (take 16777217 input) before after status)
  run_prints None a is runs writes = tt
  run_prints (Some input) a is runs writes =
      let i = take 16777217 input in
      subst (λ (r : Result Asked Fault). PrintsAsked r words limit i before after status) (sym is)
      (subst (λ (h : Bool). PrintsHelping h words a limit i before after status) (sym runs) writes)

-- What is written of the steps is what is asked for.
module _ (words : List (List ℕ)) (a : Asked) (trace : Trace) (limit : ℕ) (before after : Option (List ℕ)) where
  pub steps_written : (v : View) (status : Status) → IsViewOf (sizes_of trace.header) words a v
      → WritesSteps (command_of a) v trace limit before after status → WritesTrace words a trace limit before after status
  steps_written v Done view writes = (v, view, writes)
  steps_written v (Unfinished actor line) view writes = (v, view, writes)
  steps_written v WriteFault view writes = inl (v, view, writes)
  steps_written v NoMemory view writes = inr (inl (v, view, writes))
  steps_written v Usage view writes = absurd writes
  steps_written v (Refused line reason) view writes = absurd writes
  steps_written v ReadFault view writes = absurd writes

  pub lack_written : (fault : Fault) (status : Status) → LacksWord (sizes_of trace.header) words a fault
      → WritesUsage (fault_text words fault) before after status → WritesTrace words a trace limit before after status
  lack_written fault Usage lacks writes = (fault, lacks, writes)
  lack_written fault WriteFault lacks writes = inr (fault, lacks, writes)
  lack_written fault NoMemory lacks writes = inr (inr (fault, lacks, writes))
  lack_written fault Done lacks writes = absurd writes
  lack_written fault (Unfinished actor line) lacks writes = absurd writes
  lack_written fault (Refused line reason) lacks writes = absurd writes
  lack_written fault ReadFault lacks writes = absurd writes
