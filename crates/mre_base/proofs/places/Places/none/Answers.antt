use Rattle.mre_base.proofs.PlaceWords.{places_in-none}
use Rattle.mre_base.proofs.places.Places.none.Goals as goal

pub returns : goal.returns
returns c = places_in-none
