use Rattle.std.proofs.Common.{refl, string_bytes}
use Rattle.std.specs.Option.{option_copied}
use Rattle.turn_loops.specs.Marks.{Over}
use Rattle.turn_loops.specs.Weaves.{open_text}
use Rattle.step_printing.proofs.Putting.{shown_mark}
use Rattle.step_printing.proofs.lines.Lines.put_open.Goals as goal

pub returns : goal.returns
returns c =
    let l = c.args.self.now in (
      shown_mark l (string_bytes c.args.text.now) (Over (option_copied c.args.first)) l.reach (string_bytes c.flush.new.text)
          (string_bytes c.push_open.new.text) (open_text (option_copied c.args.first)) (λ more. refl) c.in_ok-flush.ensures c.in_ok-push_open.ensures,
      refl,
    )
