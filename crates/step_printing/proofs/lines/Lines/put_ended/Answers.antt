use Rattle.std.proofs.Common.{string_bytes}
use Rattle.step_text.specs.Endings.{ending_text}
use Rattle.step_printing.proofs.Sharing.{ended_puts}
use Rattle.step_printing.proofs.lines.Lines.put_ended.Goals as goal

pub returns : goal.returns
returns c =
    let l = c.args.self.now in
    ended_puts l.view l.sizes l.kept (string_bytes c.args.text.now) (string_bytes c.flush.new.text) (string_bytes c.push_row.new.text) c.args.row.now
    (ending_text l.sizes c.args.ending.now) c.in_ok-flush.ensures c.in_ok-push_row.ensures
