use Rattle.std.proofs.Common.{[], Err, Option, sym, subst, refl, arith, ap, ◌∙◌, inl, inr}
use Rattle.mre_outside.specs.Failures.{Rose}
use Rattle.mre_words.specs.declared.request.Request.{Request}
use Rattle.mre_top.specs.declared.refusal.Refusal.TheVariants.{Usage, NoMemory}
use Rattle.mre_top.specs.Calls.{call_of}
use Rattle.mre_top.specs.Promise.{Ended}
use Rattle.mre_top.proofs.Calls.{asked_then-nothing}
use Rattle.mre_top.proofs.top.run.Goals as goal

pub returns-in-Ok-clause-ended : goal.returns-in-Ok-clause-ended
returns-in-Ok-clause-ended g c =
    let EndedFor : Option Request → Type 0 = λ asks.
    Ended (call_of g.H.Shelf g.S.Sink g.E.Sink asks c.args.shelf.now c.answer_request.new.shelf c.args.out.now c.answer_request.new.out c.args.faults.now c.answer_request.new.faults) c.answer_request.result in
    subst EndedFor (sym c.in-Ok.ensures.ok) c.answer_request.ensures.ended

pub returns-in-Err-NoRequest-clause-ended : goal.returns-in-Err-NoRequest-clause-ended
returns-in-Err-NoRequest-clause-ended g c =
    let none = c.read_words.ensures.no_request.0 (c.in-Err-NoRequest.is ∙ ap Err c.in-Err-NoRequest.field-0-is) in
    inr (record {
      answer = c.refuse.ensures.answer;
      refusal = Usage;
      by = record {
        refused = record { calls = []; cause = (none, refl); asked = asked_then-nothing (g.H.Shelf.asked c.args.shelf.now) };
        rose = λ read. absurd {A = Rose (g.H.Shelf.failures c.args.shelf.now) (g.H.Shelf.failures c.args.shelf.now)} read;
        missing = λ sound. tt;
        leaves = refl {a = c.args.out.now};
      };
      reported = c.refuse.ensures.reported;
    })

pub returns-in-Err-NoMemory-clause-ended : goal.returns-in-Err-NoMemory-clause-ended
returns-in-Err-NoMemory-clause-ended g c =
    inr (record {
      answer = c.refuse-in-Err-NoMemory.ensures.answer;
      refusal = NoMemory;
      by = record {
        refused = record { calls = []; cause = (0, omega arith, refl); asked = asked_then-nothing (g.H.Shelf.asked c.args.shelf.now) };
        rose = λ read. absurd {A = Rose (g.H.Shelf.failures c.args.shelf.now) (g.H.Shelf.failures c.args.shelf.now)} read;
        missing = λ sound. tt;
        leaves = inl refl;
      };
      reported = c.refuse-in-Err-NoMemory.ensures.reported;
    })
