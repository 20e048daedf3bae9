use Rattle.std.proofs.Common.{◌∙◌, sym, ap}
use Rattle.std.specs.FinSet as set
use Rattle.mre_base.proofs.PlaceWords.{contains-places_in}
use Rattle.mre_base.proofs.places.Places.has.Goals as goal

pub returns : goal.returns
returns c = c.has.ensures ∙ sym (contains-places_in c.self.inside.words c.args.place c.requires.low c.requires.high) ∙ ap (λ members. set.contains members c.args.place) c.self.view_is
