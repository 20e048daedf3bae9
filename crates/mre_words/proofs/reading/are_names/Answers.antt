use Rattle.std.proofs.Common.{◌≡◌, length, map, nat_eq, true, ◌&&◌, sym, ap, ◌∙◌}
use Rattle.std.proofs.lemmas.Bool.{eq-eqb}
use Rattle.std.proofs.lemmas.List.{length-map}
use Rattle.std.proofs.lemmas.List.Folds.{list_all-map}
use Rattle.std.specs.List.{list_all}
use Rattle.std.specs.String.{string_bytes}
use Rattle.mre_words.specs.Requests.{is_name}
use Rattle.mre_words.proofs.reading.are_names.Goals as goal

pub returns-then-words-count : goal.returns-then-words-count
returns-then-words-count c =
    let counted : nat_eq (length (map string_bytes c.args.words.now)) c.args.count ≡ true = eq-eqb _ _ (length-map c.args.words.now string_bytes ∙ c.if-words-count.true) in
    c.are_all_names.ensures ∙ sym (list_all-map is_name string_bytes c.args.words.now) ∙ sym (ap (λ b. b && list_all is_name (map string_bytes c.args.words.now)) counted)
