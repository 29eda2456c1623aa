use Rattle.std.proofs.Common.{◌∙◌, rules}
use Rattle.flat_model.proofs.SameFacts.{same_kept}
use Rattle.flat_model.proofs.Words.{written}
use Rattle.flat_model.proofs.plain.Plain.write.Goals as goal
use Rattle.flat_model.proofs.plain.Plain.write.Goals.{then-newly_dirty, else-newly_dirty}

pub returns-in-Ok-clause-words : goal.returns-in-Ok-clause-words
returns-in-Ok-clause-words c =
    rw (← c.self.view_is) (written c.args.page c.args.word c.args.value c.self.inside.memory.entries c.insert.new.self.entries c.in-Ok.ensures.updates.0)

pub returns-after-newly_dirty-clause-kept : goal.returns-after-newly_dirty-clause-kept
returns-after-newly_dirty-clause-kept c =
    let inside = c.self.inside in
    elim c.if-newly_dirty.branch [
      | then-newly_dirty w ↦ w.self-is
          ∙ same_kept inside.host.sizes inside.slots inside.host.changed _ _ _ _ inside.copies c.in-Err.ensures.err (w.remove.ensures ∙ search rules)
          ∙ c.self.view_is
      | else-newly_dirty w ↦ w.self-is
          ∙ same_kept inside.host.sizes inside.slots inside.host.changed _ _ _ _ inside.copies c.in-Err.ensures.err (search rules) ∙ c.self.view_is
    ]
