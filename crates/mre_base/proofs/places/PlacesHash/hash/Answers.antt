use Rattle.std.proofs.Common.{◌∙◌, ◌+◌, sym, ap, fold}
use Rattle.std.specs.FinSet as set
use Rattle.std.specs.Hash as fed
use Rattle.mre_base.specs.Words.{words_from}
use Rattle.mre_base.proofs.PlaceWords.{words_from-places_in}
use Rattle.mre_base.proofs.places.PlacesHash.hash.Goals as goal

pub returns : goal.returns
returns g c =
    let back = words_from-places_in c.self.inside.words c.self.told c.hash.ensures.words in
    let same = ap (λ members. words_from (λ k. set.contains members (k + 1)) 0 4) c.self.view_is in
    c.hash.ensures.writes ∙ ap (λ words. fold g.H.Hasher.write c.args.state.now (fed.slice fed.u64 words)) (sym back ∙ same)
