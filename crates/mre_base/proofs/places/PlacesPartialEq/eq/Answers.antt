use Rattle.std.proofs.Common.{◌∙◌}
use Rattle.mre_base.specs.Sets.{is_same_set}
use Rattle.mre_base.proofs.PlaceWords.{places_in-eq}
use Rattle.mre_base.proofs.places.PlacesPartialEq.eq.Goals as goal

pub returns : goal.returns
returns c = places_in-eq c.self.inside.words c.other.inside.words c.is_same.result c.self.told c.other.told c.is_same.ensures.one c.is_same.ensures.two c.is_same.ensures.same.0 c.is_same.ensures.same.1 ∙ (λ i. is_same_set (c.self.view_is i) (c.other.view_is i))
