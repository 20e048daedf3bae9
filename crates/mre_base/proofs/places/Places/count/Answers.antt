use Rattle.std.proofs.Common.{◌∙◌, ◌*◌, ap, subst, length, filter}
use Rattle.std.specs.List.{range_with_len}
use Rattle.mre_base.specs.Words.{has_bit}
use Rattle.mre_base.specs.Before.{count_of}
use Rattle.mre_base.specs.Sets.{ArePlaces}
use Rattle.mre_base.proofs.PlaceWords.{places_in-count_of, places_in-ArePlaces}
use Rattle.mre_base.proofs.places.Places.count.Goals as goal

pub returns-clause-count : goal.returns-clause-count
returns-clause-count c = c.count.ensures ∙ ap (λ words. length (filter (has_bit c.self.inside.words) (range_with_len 0 (64 * words)))) c.self.told ∙ places_in-count_of c.self.inside.words ∙ ap count_of c.self.view_is

pub returns-clause-numbers : goal.returns-clause-numbers
returns-clause-numbers c = subst ArePlaces c.self.view_is (places_in-ArePlaces c.self.inside.words)
