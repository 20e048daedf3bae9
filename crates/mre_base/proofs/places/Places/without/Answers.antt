use Rattle.std.proofs.Common.{◌∙◌, ap}
use Rattle.std.specs.FinSet as set
use Rattle.mre_base.proofs.PlaceWords.{places_in-take_out}
use Rattle.mre_base.proofs.places.Places.without.Goals as goal

pub returns : goal.returns
returns c = places_in-take_out c.self.inside.words c.take_out.new.words c.args.place c.requires.low c.take_out.ensures ∙ ap (λ members. set.remove members c.args.place) c.self.view_is
