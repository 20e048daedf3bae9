use Rattle.std.proofs.Common.{◌∙◌}
use Rattle.std.specs.FinSet as set
use Rattle.mre_base.proofs.PlaceWords.{places_in-is_subset}
use Rattle.mre_base.proofs.places.Places.inside.Goals as goal

pub returns : goal.returns
returns c = places_in-is_subset c.self.inside.words c.other.inside.words c.is_subset.result c.self.told c.is_subset.ensures ∙ (λ i. set.is_subset (c.self.view_is i) (c.other.view_is i))
