use Rattle.std.proofs.Common.{Err, Some, refl, ap, ◌∙◌, inr}
use Rattle.std.specs.List.{concat}
use Rattle.mre_top.specs.Calls.{shelf_change}
use Rattle.mre_top.proofs.Served.{served_unwritten, served_memory, asked_of, answered_of}
use Rattle.mre_top.proofs.top.serve.Goals as goal

pub returns-in-Ok-write_lines-clause-ok : goal.returns-in-Ok-write_lines-clause-ok
returns-in-Ok-write_lines-clause-ok g c =
    let made = c.in-Ok-answer_contents.made in record {
      told = made.told;
      text = concat made.lines;
      answered = answered_of c.args.request.now c.files.result.now c.files.ensures (g.H.Shelf.held c.args.shelf.now) _ c.in-Ok.ensures.contents made.told (concat made.lines) c.in-Ok-answer_contents.ensures.ok;
      answer_is = refl;
      asked = asked_of c.args.request.now c.files.result.now c.files.ensures _ _ c.in-Ok.ensures.asked;
      written = c.in-Ok-write_lines.ensures.ok;
    }

pub returns-in-Err-Failed-clause-err : goal.returns-in-Err-Failed-clause-err
returns-in-Err-Failed-clause-err g c =
    let made = c.in-Ok-answer_contents.made in
    served_unwritten (Some c.args.request.now) (shelf_change g.H.Shelf c.args.shelf.now c.read_files.new.shelf)
    (asked_of c.args.request.now c.files.result.now c.files.ensures _ _ c.in-Ok.ensures.asked)
    made.told (concat made.lines)
    (answered_of c.args.request.now c.files.result.now c.files.ensures (g.H.Shelf.held c.args.shelf.now) _ c.in-Ok.ensures.contents made.told (concat made.lines) c.in-Ok-answer_contents.ensures.ok)

pub returns-in-Err-Failed-clause-leaves : goal.returns-in-Err-Failed-clause-leaves
returns-in-Err-Failed-clause-leaves g c =
    let made = c.in-Ok-answer_contents.made in
    let failed = c.in-Err-Failed.is ∙ ap Err c.in-Err-Failed.field-0-is in record {
      unsound = λ sound. c.write_lines.ensures.sound sound failed;
      rose = c.write_lines.ensures.failed failed;
      cut = record {
        told = made.told;
        text = concat made.lines;
        answered = answered_of c.args.request.now c.files.result.now c.files.ensures (g.H.Shelf.held c.args.shelf.now) _ c.in-Ok.ensures.contents made.told (concat made.lines) c.in-Ok-answer_contents.ensures.ok;
        written = c.in-Err-Failed.ensures.err;
      };
    }

pub returns-in-Ok-answer_contents-clause-err : goal.returns-in-Ok-answer_contents-clause-err
returns-in-Ok-answer_contents-clause-err g c =
    served_memory (Some c.args.request.now) (shelf_change g.H.Shelf c.args.shelf.now c.read_files.new.shelf)
    (asked_of c.args.request.now c.files.result.now c.files.ensures _ _ c.in-Ok.ensures.asked)

pub returns-in-Ok-answer_contents-clause-leaves : goal.returns-in-Ok-answer_contents-clause-leaves
returns-in-Ok-answer_contents-clause-leaves g c =
    let made = c.in-Ok-answer_contents.made in
    let cut = c.write_lines.ensures.no_memory (c.in-Err-NoMemory.is ∙ ap Err c.in-Err-NoMemory.field-0-is) in
    inr (record {
      told = made.told;
      lines = made.lines;
      answered = answered_of c.args.request.now c.files.result.now c.files.ensures (g.H.Shelf.held c.args.shelf.now) _ c.in-Ok.ensures.contents made.told (concat made.lines) c.in-Ok-answer_contents.ensures.ok;
      whole = c.in-Ok-answer_contents.ensures.whole;
      count = cut.0;
      fewer = cut.1;
      written = cut.2;
    })
