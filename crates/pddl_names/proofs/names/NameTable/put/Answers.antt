use Rattle.std.proofs.Common.{Some, ap, ◌∙◌}
use Rattle.std.specs.Prelude.{if◌then◌else◌}
use Rattle.std.specs.Str.{bytes_eq}
use Rattle.std.proofs.lemmas.Map.Text.{is_eq-slice_cmp}
use Rattle.mre_base.specs.declared.text.Text.{Text}
use Rattle.pddl_names.specs.Numbers.{number_in}
use Rattle.pddl_names.proofs.names.NameTable.put.Goals as goal

pub returns : goal.returns
returns c = record {
  ok = λ other.
      let key = c.in_ok-copy.field-0 in
      c.in_ok-insert.ensures.updates.0 other
      ∙ (λ i. if is_eq-slice_cmp key other i then Some c.args.number else number_in c.args.self.now other)
      ∙ ap (λ (bytes : Text). if bytes_eq bytes other then Some c.args.number else number_in c.args.self.now other) c.in_ok-copy.ensures.ok;
}
