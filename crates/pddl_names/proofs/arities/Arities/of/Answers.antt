use Rattle.std.proofs.Common.{Result, Ok, Err, ℕ, List, ◌≡◌, ◌++◌, sym, ap, ◌∙◌}
use Rattle.std.specs.Prelude.{IfOk}
use Rattle.std.specs.Option.{option_or}
use Rattle.mre_base.specs.declared.no_memory.NoMemory.{NoMemory}
use Rattle.mre_base.specs.declared.text.Text.{Text}
use Rattle.model_kit.specs.declared.vocabulary.Signature.{Signature}
use Rattle.pddl_names.specs.declared.arities.Arities.{Arities}
use Rattle.pddl_names.specs.Arities.{signed_in, signed_before, arity_of, count_in, AreArities}
use Rattle.pddl_names.specs.Listings.{Signed}
use Rattle.pddl_names.proofs.ArityLemmas.{arity-append}
use Rattle.pddl_names.proofs.arities.Arities.of.Goals as goal

both : (base : List Signature) (said : List Signed) (self : Arities) (r : Result Arities NoMemory) → AreArities said self
    → IfOk r (λ made. (types : List (Text × ℕ)) (name : Text) → count_in made name ≡ option_or (arity_of (signed_before types base) name) (count_in self name))
    → IfOk r (λ made. (types : List (Text × ℕ)) → AreArities (signed_before types base ++ said) made)
both base said self (Ok made) known has = λ types name.
    has types name ∙ ap (λ o. option_or (arity_of (signed_before types base) name) o) (known name) ∙ sym (arity-append (signed_before types base) said name)
both base said self (Err stop) known has = tt

pub returns : goal.returns
returns c = record {
  ok = both c.args.base.now (signed_in c.args.kind c.args.words.now) c.in_ok-of_words.field-0 c.with_base.result c.in_ok-of_words.ensures.ok c.with_base.ensures.ok;
}
