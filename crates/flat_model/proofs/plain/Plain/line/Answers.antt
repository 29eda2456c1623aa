use Rattle.std.proofs.Common.{◌≡◌, true, refl, rules}
use Rattle.std.proofs.lemmas.Result.{IfOk-weaker}
use Rattle.std.specs.Prelude.{is_some}
use Rattle.core_views.specs.HostChanges.{is_own}
use Rattle.core_views.specs.HostRuns.{owns_run}
use Rattle.core_views.specs.LogCommands.{log_read, read_refusal}
use Rattle.core_views.specs.SlotCommands.{change_at_once, changes_slot}
use Rattle.flat_model.specs.Kept.{GivesLine, facts_of}
use Rattle.flat_model.specs.LogSteps.{ReadsLog}
use Rattle.flat_model.specs.Steps.{Accesses, ChangesHost, ChangesRun, ChangesSlots}
use Rattle.flat_model.proofs.HostChangeLines.{host_line}
use Rattle.flat_model.proofs.HostRunLines.{host_run_line}
use Rattle.flat_model.proofs.FreeLines.{IsFree, split_line}
use Rattle.flat_model.proofs.LogLines.{some_log_line}
use Rattle.core_views.specs.Migrations.{call_answer}
use Rattle.flat_model.specs.Copying.{Migrates}
use Rattle.flat_model.proofs.MigrationLines.{migration_line}
use Rattle.flat_model.proofs.SlotLines.{slot_line}
use Rattle.flat_model.proofs.AccessLines.{access_line}
use Rattle.flat_model.proofs.plain.Plain.line.Goals as goal

pub returns-in-ChangeHost-clause-gives : goal.returns-in-ChangeHost-clause-gives
returns-in-ChangeHost-clause-gives c =
    let line = c.args.line.now in
    let page = c.in-ChangeHost.page in
    let change = c.in-ChangeHost.change in
    let before = c.args.self.now in
    let after = c.change_host.new.self in
    IfOk-weaker c.change_host.result (λ answer. ChangesHost page change before after answer (is_own before.sizes line.actor page))
    (GivesLine before.sizes line (facts_of before) (facts_of after))
    (λ answer changes. host_line line page change before after answer c.in-ChangeHost.is changes) c.change_host.ensures.changes

pub returns-in-ChangeRun-clause-gives : goal.returns-in-ChangeRun-clause-gives
returns-in-ChangeRun-clause-gives c =
    let line = c.args.line.now in
    let page = c.in-ChangeRun.page in
    let change = c.in-ChangeRun.change in
    let before = c.args.self.now in
    let after = c.change_run.new.self in
    IfOk-weaker c.change_run.result (λ answer. ChangesRun page change before after answer (owns_run before.sizes line.actor page change))
    (GivesLine before.sizes line (facts_of before) (facts_of after))
    (λ answer sets. host_run_line line page change before after answer c.in-ChangeRun.is sets) c.change_run.ensures.sets

pub returns-in-SetSlot-clause-gives : goal.returns-in-SetSlot-clause-gives
returns-in-SetSlot-clause-gives c =
    let line = c.args.line.now in
    let before = c.args.self.now in
    let after = c.change_slots-in-SetSlot.new.self in
    let changing : changes_slot line.command ≡ true = search rules in
    let free : IsFree line.command before = search rules in
    IfOk-weaker c.change_slots-in-SetSlot.result
    (λ answer. ChangesSlots line.command before after answer (change_at_once before.sizes line.command before.slots))
    (GivesLine before.sizes line (facts_of before) (facts_of after))
    (λ answer changes. slot_line line before after answer line.command refl changing free changes) c.change_slots-in-SetSlot.ensures.changes

pub returns-in-SetLog-clause-gives : goal.returns-in-SetLog-clause-gives
returns-in-SetLog-clause-gives c =
    let line = c.args.line.now in
    let before = c.args.self.now in
    let after = c.change_slots.new.self in
    let changing : changes_slot line.command ≡ true = search rules in
    let free : IsFree line.command before = search rules in
    IfOk-weaker c.change_slots.result (λ answer. ChangesSlots line.command before after answer (change_at_once before.sizes line.command before.slots))
    (GivesLine before.sizes line (facts_of before) (facts_of after))
    (λ answer changes. slot_line line before after answer line.command refl changing free changes) c.change_slots.ensures.changes

pub returns-in-GetLog-clause-gives : goal.returns-in-GetLog-clause-gives
returns-in-GetLog-clause-gives c =
    let line = c.args.line.now in
    let before = c.args.self.now in
    let after = c.read_log.new.self in
    let reading : is_some (log_read line.command) ≡ true = search rules in
    let free : IsFree line.command before = search rules in
    IfOk-weaker c.read_log.result (λ answer. ReadsLog line.command before after answer (read_refusal line.command before.slots))
    (GivesLine before.sizes line (facts_of before) (facts_of after))
    (λ answer reads. some_log_line line before after answer reading free reads) c.read_log.ensures.reads

pub returns-in-Access-clause-gives : goal.returns-in-Access-clause-gives
returns-in-Access-clause-gives c =
    let line = c.args.line.now in
    let gfn = c.in-Access.gfn in
    let word = c.in-Access.word in
    let op = c.in-Access.op in
    let before = c.args.self.now in
    let after = c.access.new.self in
    IfOk-weaker c.access.result (Accesses gfn word op before after) (GivesLine before.sizes line (facts_of before) (facts_of after))
    (λ answer reaches. access_line line gfn word op before after answer c.in-Access.is reaches) c.access.ensures.reached

pub returns-in-Migrate-clause-gives : goal.returns-in-Migrate-clause-gives
returns-in-Migrate-clause-gives c =
    let line = c.args.line.now in
    let call = c.in-Migrate.call in
    let before = c.args.self.now in
    let after = c.migrate.new.self in
    let free : IsFree line.command before = search rules in
    IfOk-weaker c.migrate.result (λ answer. Migrates call before after answer (call_answer before.slots before.copies.state call))
    (GivesLine before.sizes line (facts_of before) (facts_of after))
    (λ answer made. migration_line line before after answer call c.in-Migrate.is free made) c.migrate.ensures.migrates

pub returns-in-Split-clause-gives : goal.returns-in-Split-clause-gives
returns-in-Split-clause-gives c = split_line c.args.line.now c.args.self.now c.in-Split.gfn c.in-Split.is
