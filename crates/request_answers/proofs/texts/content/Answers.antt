use Rattle.std.proofs.Common.{◌≡◌, ◌≤◌, ℕ, Vec, List, Some, length, map, sym, ap, ◌∙◌, subst}
use Rattle.std.specs.Option.{option_map}
use Rattle.std.specs.Prelude.{slice_get}
use Rattle.std.specs.declared.alloc.Global.{Global}
use Rattle.std.proofs.lemmas.Option.{slice_get-map}
use Rattle.mre_base.proofs.Loops.{All_item}
use Rattle.request_answers.proofs.texts.content.Goals as goal

pub returns-clause-short : goal.returns-clause-short
returns-clause-short c =
    let f : Vec ℕ Global → List ℕ = λ bytes. bytes.items in
    let at : slice_get (map f c.args.contents.now) c.args.place ≡ Some c.item.result.now.items = slice_get-map f c.args.contents.now c.args.place ∙ ap (option_map f) c.item.ensures in
    subst (λ s. length s ≤ 4194304) (sym c.as_slice.ensures.value)
    (All_item (map f c.args.contents.now) c.args.place c.item.result.now.items at (λ bytes. length bytes ≤ 4194304) c.requires.short)
