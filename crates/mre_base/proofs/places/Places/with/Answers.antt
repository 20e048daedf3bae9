use Rattle.std.proofs.Common.{◌∙◌, ap}
use Rattle.std.specs.FinSet as set
use Rattle.mre_base.proofs.PlaceWords.{places_in-put}
use Rattle.mre_base.proofs.places.Places.with.Goals as goal

pub returns : goal.returns
returns c = places_in-put c.self.inside.words c.put.new.words c.args.place c.requires.low c.requires.high c.put.ensures ∙ ap (λ members. set.insert members c.args.place) c.self.view_is
