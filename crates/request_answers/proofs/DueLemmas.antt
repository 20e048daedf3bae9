-- The answer to a question is the answer to the request about the contents, and the contents are the cause of a stop on the way.
use Rattle.std.proofs.Common.{◌≡◌, ℕ, ◌<◌, ◌≤◌, true, List, length, refl, sym, arith}
use Rattle.std.specs.Prelude.{IsTrue}
use Rattle.std.specs.Ordering.{nat_cmp}
use Rattle.std.specs.FinSet as set
use Rattle.std.proofs.lemmas.Bool.{true≢false}
use Rattle.pddl_text.specs.declared.fault.TextFault.{TextFault}
use Rattle.model_kit.specs.Places.{meaning}
use Rattle.feature_diff.specs.declared.difference.Difference.{Difference}
use Rattle.ground_core.specs.Grounds.{IsFull}
use Rattle.mre_base.specs.declared.kind.Kind.{Kind}
use Rattle.mre_words.specs.declared.request.Request.{Request}
use Rattle.mre_words.specs.declared.request.Request.TheVariants.{Explain, Diff, Patch, PlanPatch}
use Rattle.mre_words.specs.Requests.{count_of}
use Rattle.request_answers.specs.declared.question.Question.{Question}
use Rattle.request_answers.specs.declared.stop.AnswerStop.{AnswerStop}
use Rattle.request_answers.specs.declared.stop.AnswerStop.TheVariants.{Misread, Disagree, TooManyParameters, TooManyObjects, TooManyDifferences, TooManySteps, TooManyActions, TooManyAtoms, NotValid, Unbuilt, NotCheapest, NoMemory}
use Rattle.request_answers.specs.declared.stop.PlanFault.{PlanFault}
use Rattle.request_answers.specs.Lines.{IsOfFile}
use Rattle.request_answers.specs.Counts.{AreWithinLimits}
use Rattle.request_answers.specs.Texts.{IsMisread, IsMisreadModel, planner_domain, planner_problem, user_domain, user_problem, of_model, of_plan, has_plan}
use Rattle.request_answers.specs.Questions.{AreCounted, IsFault, IsToExplain, FitsTable}
use Rattle.request_answers.specs.Posing.{IsQuestion}
use Rattle.request_answers.specs.Steps.{IsOfQuestion, IsOfCounts, IsOfPlan, IsOfGround, IsOfSearch, IsOfExplaining, full, searched}
use Rattle.request_answers.specs.Making.{task_in, IsMadeOf, IsOfMaking, IsOfAnswering, counted, made}
use Rattle.request_answers.specs.Outputs.{IsAnswer}
use Rattle.request_answers.specs.Causes.{IsDue}

module _ (request : Request) (contents : List (List ℕ)) (question : Question) (is : IsQuestion request contents question) where
  abbrev counted_of : (differences : List Difference) → AreWithinLimits question.pair.planner question.pair.user question.plan.steps differences
      → AreCounted request contents question.pair.planner question.pair.user question.plan.steps differences
  counted_of differences limits = record { pose = is.pose; limits = limits }

  -- a count is past its limit
  pub due_counts : (stop : AnswerStop) → IsOfCounts question.pair.planner question.pair.user question.plan.steps stop → IsDue request contents stop
  due_counts (TooManyParameters found) of = record { planner = question.pair.planner; user = question.pair.user; plan = question.plan.steps; pose = is.pose; past = of }
  due_counts (TooManyObjects found) of = record { planner = question.pair.planner; user = question.pair.user; plan = question.plan.steps; pose = is.pose; past = of }
  due_counts (TooManyDifferences found) of = record { planner = question.pair.planner; user = question.pair.user; plan = question.plan.steps; pose = is.pose; past = of }
  due_counts (TooManySteps found) of = record { planner = question.pair.planner; user = question.pair.user; plan = question.plan.steps; pose = is.pose; past = of }
  due_counts NoMemory of = tt
  due_counts _ of = absurd of

-- the plan has a fault
due_fault : (request : Request) (contents : List (List ℕ)) (question : Question) → IsQuestion request contents question → IsTrue (has_plan request) → (differences : List Difference)
    → AreWithinLimits question.pair.planner question.pair.user question.plan.steps differences → FitsTable request question.pair.planner question.pair.user differences
    → (fault : PlanFault) → IsFault question.pair.planner.words (meaning question.pair.planner) question.plan.steps fault → IsDue request contents (NotValid fault)
due_fault request contents question is asked differences limits table fault of = record {
  planner = question.pair.planner;
  user = question.pair.user;
  plan = question.plan.steps;
  differences = differences;
  counted = counted_of request contents question is differences limits;
  planned = asked;
  table = table;
  is = of;
}

due_plan : (request : Request) (contents : List (List ℕ)) (question : Question) → IsQuestion request contents question → IsTrue (has_plan request) → (differences : List Difference)
    → AreWithinLimits question.pair.planner question.pair.user question.plan.steps differences → FitsTable request question.pair.planner question.pair.user differences
    → (stop : AnswerStop) → IsOfPlan question.pair.planner.words (meaning question.pair.planner) question.plan.steps stop → IsDue request contents stop
due_plan request contents question is asked differences limits table (NotValid fault) of = due_fault request contents question is asked differences limits table fault of
due_plan request contents question is asked differences limits table NoMemory of = tt
due_plan request contents question is asked differences limits table _ of = absurd of

-- ---- an explanation

module _ (kind : Kind) (files : List (List ℕ)) (contents : List (List ℕ)) (question : Question) (is : IsQuestion (Explain kind files) contents question)
    (differences : List Difference) (limits : AreWithinLimits question.pair.planner question.pair.user question.plan.steps differences) where
  abbrev to_explain : Request
  to_explain = Explain kind files

  due_full : (stop : AnswerStop) → IsOfGround question.pair.planner question.pair.user differences stop → IsDue to_explain contents stop
  due_full TooManyActions of = record {
    planner = question.pair.planner;
    user = question.pair.user;
    plan = question.plan.steps;
    differences = differences;
    counted = counted_of to_explain contents question is differences limits;
    asked = tt;
    many = of;
  }
  due_full TooManyAtoms of = record {
    planner = question.pair.planner;
    user = question.pair.user;
    plan = question.plan.steps;
    differences = differences;
    counted = counted_of to_explain contents question is differences limits;
    asked = tt;
    many = of;
  }
  due_full NoMemory of = tt
  due_full _ of = absurd of

  due_search : ¬ IsFull question.pair.planner question.pair.user differences → (stop : AnswerStop) → IsOfSearch question.pair.planner question.plan.steps (length differences) stop → IsDue to_explain contents stop
  due_search table (NotValid fault) of = due_fault to_explain contents question is refl differences limits table fault of
  due_search table (NotCheapest cost other steps) of = record {
    planner = question.pair.planner;
    user = question.pair.user;
    plan = question.plan.steps;
    differences = differences;
    counted = counted_of to_explain contents question is differences limits;
    asked = tt;
    table = table;
    undercut = of;
  }
  due_search table Unbuilt of = record {
    planner = question.pair.planner;
    user = question.pair.user;
    plan = question.plan.steps;
    differences = differences;
    counted = counted_of to_explain contents question is differences limits;
    asked = tt;
    table = table;
    cheapest = of.0;
    many = of.1;
  }
  due_search table NoMemory of = tt
  due_search table _ of = absurd of

  due_explaining : (stop : AnswerStop) → IsOfExplaining question.pair.planner question.pair.user question.plan.steps differences stop → IsDue to_explain contents stop
  due_explaining stop (full of) = due_full stop of
  due_explaining stop (searched table of) = due_search table stop of

due_making : (request : Request) (contents : List (List ℕ)) (question : Question) → IsQuestion request contents question → (differences : List Difference)
    → AreWithinLimits question.pair.planner question.pair.user question.plan.steps differences
    → (stop : AnswerStop) → IsOfMaking request question differences stop → IsDue request contents stop
due_making (Explain kind files) contents question is differences limits stop of = due_explaining kind files contents question is differences limits stop of
due_making (Diff files) contents question is differences limits NoMemory of = tt
due_making (Diff files) contents question is differences limits _ of = absurd of
due_making (Patch files) contents question is differences limits stop of = due_plan (Patch files) contents question is refl differences limits tt stop of
due_making (PlanPatch files) contents question is differences limits stop of = due_plan (PlanPatch files) contents question is refl differences limits tt stop of

pub due_answering : (request : Request) (contents : List (List ℕ)) (question : Question) → IsQuestion request contents question → (stop : AnswerStop)
    → IsOfAnswering request question stop → IsDue request contents stop
due_answering request contents question is stop (counted of) = due_counts request contents question is stop of
due_answering request contents question is stop (made differences limits of) = due_making request contents question is differences limits stop of

pub due_question : (request : Request) (contents : List (List ℕ)) (stop : AnswerStop) → IsOfQuestion request contents stop → IsDue request contents stop
due_question request contents (Misread file fault) of = of
due_question request contents (Disagree fault) of = of
due_question request contents NoMemory of = tt
due_question request contents _ of = absurd of

-- the answer to the question is the answer to the request
pub made_answer : (request : Request) (contents : List (List ℕ)) (question : Question) → IsQuestion request contents question → (told : set.FinSet nat_cmp) (text : List ℕ)
    → IsMadeOf request question told text → IsAnswer request contents told text
made_answer (Explain kind files) contents question is told text of =
    let request : Request = Explain kind files in (
      task_in question of.differences,
      record {
        planner = question.pair.planner;
        user = question.pair.user;
        plan = question.plan.steps;
        differences = of.differences;
        counted = counted_of request contents question is of.differences of.limits;
        table = of.made.table;
        few = of.made.few;
        cheapest = of.made.cheapest;
        task_is = refl;
        first = of.made.first;
      },
      of.made.text_is,
    )
made_answer (Diff files) contents question is told text of = record {
  planner = question.pair.planner;
  user = question.pair.user;
  plan = question.plan.steps;
  differences = of.differences;
  counted = counted_of (Diff files) contents question is of.differences of.limits;
  choice = of.made.choice;
  text_is = of.made.text_is;
}
made_answer (Patch files) contents question is told text of = record {
  planner = question.pair.planner;
  user = question.pair.user;
  plan = question.plan.steps;
  differences = of.differences;
  counted = counted_of (Patch files) contents question is of.differences of.limits;
  choice = of.made.choice;
  text_is = of.made.text_is;
}
made_answer (PlanPatch files) contents question is told text of = record {
  planner = question.pair.planner;
  user = question.pair.user;
  plan = question.plan.steps;
  differences = of.differences;
  counted = counted_of (PlanPatch files) contents question is of.differences of.limits;
  choice = of.made.choice;
  text_is = of.made.text_is;
}

-- ---- the file that a stop names is one of the request's

four : (request : Request) → 4 ≤ count_of request
four (Explain kind files) = omega arith
four (Diff files) = omega arith
four (Patch files) = omega arith
four (PlanPatch files) = omega arith

five : (request : Request) → has_plan request ≡ true → 4 < count_of request
five (Explain kind files) has = omega arith
five (Diff files) has = absurd (true≢false (sym has))
five (Patch files) has = omega arith
five (PlanPatch files) has = omega arith

misread_model_file : (contents : List (List ℕ)) (fault : TextFault) (file : ℕ) → IsMisreadModel contents fault file → file < 4
misread_model_file contents fault _ (planner_domain is) = omega arith
misread_model_file contents fault _ (planner_problem domain pd is) = omega arith
misread_model_file contents fault _ (user_domain domain planner pd pp is) = omega arith
misread_model_file contents fault _ (user_problem domain other planner pd pp ud is) = omega arith

misread_file : (request : Request) (contents : List (List ℕ)) (fault : TextFault) (file : ℕ) → IsMisread request contents fault file → file < count_of request
misread_file request contents fault file (of_model is) = omega (arith, misread_model_file contents fault file is, four request)
misread_file request contents fault file (of_plan planner user models is) = omega (arith, is.here, five request is.asked)

five_explained : (request : Request) → IsToExplain request → count_of request ≡ 5
five_explained (Explain kind files) is = refl
five_explained (Diff files) is = absurd is
five_explained (Patch files) is = absurd is
five_explained (PlanPatch files) is = absurd is

pub due_file : (request : Request) (contents : List (List ℕ)) (stop : AnswerStop) → IsDue request contents stop → IsOfFile (count_of request) stop
due_file request contents (Misread file fault) due = misread_file request contents fault file due
due_file request contents Unbuilt due = omega (arith, five_explained request due.asked)
due_file request contents _ due = tt
