use Rattle.ground_core.proofs.NameLemmas.{found_there, found_nowhere}
use Rattle.ground_core.proofs.names.NameTable.find_action.Goals as goal

pub returns-in-Ok : goal.returns-in-Ok
returns-in-Ok c = found_there c.deref.result.now c.args.self.now.actions.items c.deref.ensures.value c.args.name.now c.in-Ok.place c.in-Ok.ensures.bound c.in-Ok.ensures.ok

pub returns-in-Err : goal.returns-in-Err
returns-in-Err c = found_nowhere c.deref.result.now c.args.self.now.actions.items c.deref.ensures.value c.args.name.now c.args.self.now.sound.actions_ascend c.in-Err.field-0 c.in-Err.ensures.position
