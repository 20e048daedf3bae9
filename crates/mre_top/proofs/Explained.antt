-- From an answer that was printed to the first complete set of the differences.
use Rattle.std.proofs.Common.{◌≡◌, ℕ, List, replicate, Some, refl, sym, ap, ◌∙◌, subst}
use Rattle.std.specs.Prelude.{codes}
use Rattle.std.specs.Io.KnownBytes.{Appends}
use Rattle.std.specs.Ordering.{nat_cmp}
use Rattle.std.specs.FinSet as set
use Rattle.std.proofs.lemmas.List.{length-map}
use Rattle.mre_base.specs.declared.kind.Kind.TheVariants.{Mce}
use Rattle.model_kit.specs.Explanations.{Task}
use Rattle.model_kit.specs.Sentences.{explanation}
use Rattle.mre_words.specs.declared.request.Request.{Request}
use Rattle.mre_words.specs.declared.request.Request.TheVariants.{Explain}
use Rattle.mre_words.specs.Requests.{names_in}
use Rattle.request_answers.specs.Outputs.{IsAnswer, IsExplained}
use Rattle.mre_top.specs.declared.top.Outcome.{Outcome}
use Rattle.mre_top.specs.Calls.{Call}
use Rattle.mre_top.specs.CarriedOut.{IsCarriedOut, answer_in}
use Rattle.mre_top.specs.Headline.{IsTaskOf, AreExplained}
use Rattle.mre_top.specs.Reads.{AreRead}

module _ (names contents : List (List ℕ)) (told : set.FinSet nat_cmp) (task : Task) (is : IsExplained (Explain Mce names) contents Mce task told) where
  -- the task of the answer is posed by the models of the texts
  posed : IsTaskOf is.counted.pose.planner_read is.counted.pose.user_read is.plan task
  posed =
      let Posed : Task → Type 0 = IsTaskOf is.counted.pose.planner_read is.counted.pose.user_read is.plan in
      subst Posed (sym is.task_is) (record {
        joint_planner = is.planner;
        joint_user = is.user;
        agree = is.counted.pose.paired;
        planner_is = refl;
        user_is = refl;
        plan_is = refl;
        differences = is.counted.limits.all.all;
        weights = ap (λ n. replicate n 1) (sym (length-map is.differences _));
        cheapest = is.cheapest;
      })

  pub explained : (call : Call) (text : List ℕ) → AreRead call.shelf.held.old names contents
      → text ≡ explanation (codes "mce") task told → Appends call.out.written.old call.out.written.new text → AreExplained names call told
  explained call text read text_is written = record {
    contents = contents;
    read = read;
    planner = is.counted.pose.planner_read;
    user = is.counted.pose.user_read;
    plan = is.plan;
    spelled = record { models = is.counted.pose.models; plan_text = is.counted.pose.planned };
    task = task;
    posed = posed;
    first = is.first;
    printed = subst (Appends call.out.written.old call.out.written.new) text_is written;
  }

-- what was carried out is an explanation, where one was asked for
pub explained_by : (call : Call) (outcome : Outcome) (names : List (List ℕ)) → call.request ≡ Some (Explain Mce names)
    → IsCarriedOut call.request call.shelf call.out outcome.answer
    → (told : set.FinSet nat_cmp) × (outcome.answer ≡ Some (record { kind = Mce; told = told })) × AreExplained names call told
explained_by call outcome names e done =
    let request : Request = Explain Mce names in
    let same : done.answered.request ≡ request = (let both : Some done.answered.request ≡ Some request = sym done.answered.asked ∙ e in cc) in
    let said : IsAnswer request done.answered.contents done.told done.text = subst (λ r. IsAnswer r done.answered.contents done.told done.text) same done.answered.answer in (
      done.told,
      done.answer_is ∙ ap (λ a. answer_in a done.told) e,
      explained names done.answered.contents done.told said.0 said.1 call done.text
          (subst (λ a. AreRead call.shelf.held.old (names_in a) done.answered.contents) e done.answered.read) said.2 done.written,
    )
