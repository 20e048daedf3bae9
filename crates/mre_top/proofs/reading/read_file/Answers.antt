use Rattle.std.proofs.Common.{[], ◌∷◌, ◌++◌, Err, option_map, false, refl, ap, subst, ◌∙◌}
use Rattle.mre_outside.specs.Shelves.{read_entry}
use Rattle.mre_top.specs.Reads.{IsMissing, IsTooLong, asked_then, read_of}
use Rattle.mre_top.proofs.Names.{name_is}
use Rattle.mre_top.proofs.reading.read_file.Goals as goal

pub returns-in-Err-Failed-clause-sound : goal.returns-in-Err-Failed-clause-sound
returns-in-Err-Failed-clause-sound g c sound =
    subst (IsMissing (g.H.Shelf.held c.args.shelf.now)) (name_is c.args.files.now c.args.file c.item.result.now c.as_str.result.now c.item.ensures c.as_str.ensures)
    (c.read.ensures.sound sound (c.in-Err-Failed.is ∙ ap Err c.in-Err-Failed.field-0-is))

pub returns-in-Err-TooLong-clause-asked : goal.returns-in-Err-TooLong-clause-asked
returns-in-Err-TooLong-clause-asked g c =
    c.read.ensures.asked
    ∙ ap (λ r. option_map (λ calls. calls ++ read_entry c.as_str.result.now r) (g.H.Shelf.asked c.args.shelf.now)) (c.in-Err-TooLong.is ∙ ap Err c.in-Err-TooLong.field-0-is)
    ∙ ap (λ name. asked_then (g.H.Shelf.asked c.args.shelf.now) (read_of false name ∷ [])) (name_is c.args.files.now c.args.file c.item.result.now c.as_str.result.now c.item.ensures c.as_str.ensures)

pub returns-in-Err-TooLong-clause-err : goal.returns-in-Err-TooLong-clause-err
returns-in-Err-TooLong-clause-err g c = (
  refl,
  subst (IsTooLong (g.H.Shelf.held c.args.shelf.now)) (name_is c.args.files.now c.args.file c.item.result.now c.as_str.result.now c.item.ensures c.as_str.ensures)
      (c.read.ensures.too_long (c.in-Err-TooLong.is ∙ ap Err c.in-Err-TooLong.field-0-is)),
)
