use Rattle.std.proofs.Common.{◌≡◌, ap, ◌∙◌, sym, length, None, Some}
use Rattle.std.specs.Option.{option_copied, unwrap_or}
use Rattle.std.specs.BTreeMap.{get_by_text}
use Rattle.joint_models.proofs.listed.Listed.number.Goals as goal

pub returns-in-Some : goal.returns-in-Some
returns-in-Some c =
    let found : Some c.in-Some.place.now ≡ get_by_text c.args.self.now.places c.args.name.now =
    ap option_copied (sym c.in-Some.is) ∙ c.get.ensures.value ∙ ap (get_by_text c.args.self.now.places) c.as_str.ensures in
    ap (λ o. unwrap_or o (length c.args.self.now.entries)) found ∙ c.args.self.now.found c.args.name.now

pub returns-in-None : goal.returns-in-None
returns-in-None c =
    let found : None ≡ get_by_text c.args.self.now.places c.args.name.now =
    ap option_copied (sym c.in-None.is) ∙ c.get.ensures.value ∙ ap (get_by_text c.args.self.now.places) c.as_str.ensures in
    c.len.ensures ∙ ap (λ o. unwrap_or o (length c.args.self.now.entries)) found ∙ c.args.self.now.found c.args.name.now
