use Rattle.std.proofs.Common.{ℕ, ◌≡◌, ◌+◌, ◌<◌, length, take, drop, ap, ◌∙◌, arith}
use Rattle.std.specs.Prelude.{◌==◌, false, not, slice_get, unwrap_or}
use Rattle.std.specs.Map.{lookup}
use Rattle.std.specs.Option.{option_and_then}
use Rattle.mre_base.proofs.Listed.{item_at}
use Rattle.mre_base.proofs.Options.{at_some}
use Rattle.pddl_form.specs.Numbers.{number}
use Rattle.pddl_names.specs.declared.role.Role.TheVariants as role
use Rattle.pddl_names.specs.declared.role.Word.{Word}
use Rattle.pddl_names.specs.Listings.{terms_behind, number_behind, values_in}
use Rattle.pddl_names.specs.Naming.{is_other_number, same_call}
use Rattle.pddl_names.proofs.CallLemmas.{count_told, none_given, other_given}
use Rattle.pddl_names.proofs.ScanLemmas.{index_read}
use Rattle.pddl_names.proofs.name_tables.Tables.is_other_value.Goals as goal

pub returns-then-first-place : goal.returns-then-first-place
returns-then-first-place c = λ known are.
    let words = c.args.words.now in
    let place = c.args.place in
    let w = item_at words place c.requires.place in
    let values = c.args.self.now.values.items in
    let inside : place < length values = omega (arith, c.requires.place, c.requires.sizes.values) in
    let told = c.index.ensures ∙ index_read values place c.index.result.now inside in
    at_some (slice_get words place) w.0
    (λ (v : Word). v.role ≡ role.Value → false ≡ is_other_number (lookup (same_call (v.text, terms_behind (drop (place + 1) words))) (values_in (take place words))) (number_behind (drop (place + 1) words))) w.1
    (λ is. none_given words place w.0 w.1 is values are.values c.index.result.now told c.if-first-place.true)

pub returns : goal.returns
returns c = λ known are.
    let words = c.args.words.now in
    let place = c.args.place in
    let w = item_at words place c.requires.place in
    let values = c.args.self.now.values.items in
    let inside : place < length values = omega (arith, c.requires.place, c.requires.sizes.values) in
    let told = c.index.ensures ∙ index_read values place c.index.result.now inside in
    let first = c.index.result.now in
    let early : first < place = omega (arith, c.if-first-place.false) in
    let v = item_at words first (omega (arith, early, c.requires.place)) in
    let terms = are.heads.terms in
    let there = ap (λ (n : ℕ). first + 1 + n) (count_told words c.args.self.now.heads.terms.items terms first v.0 v.1 c.index-2.result.now c.index-2.ensures) in
    let here = ap (λ (n : ℕ). place + 1 + n) (count_told words c.args.self.now.heads.terms.items terms place w.0 w.1 c.index-3.result.now c.index-3.ensures) in
    let two = c.number_at-2.ensures
    ∙ ap (λ (n : ℕ). unwrap_or (option_and_then (λ (u : Word). number u.text) (slice_get (take n words) (place + 1 + c.index-3.result.now))) 0) c.len.ensures in
    at_some (slice_get words place) w.0
    (λ (u : Word). u.role ≡ role.Value → not (c.number_at.result == c.number_at-2.result) ≡ is_other_number (lookup (same_call (u.text, terms_behind (drop (place + 1) words))) (values_in (take place words))) (number_behind (drop (place + 1) words))) w.1
    (λ is. other_given words place w.0 w.1 is values are.values first c.number_at.result c.number_at-2.result (place + 1 + c.index-3.result.now) (first + 1 + c.index-2.result.now) told early there here c.number_at.ensures two)
