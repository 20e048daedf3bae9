-- Contents that are the cause of a stop, or that have an answer, end with that status.
use Rattle.std.proofs.Common.{◌≡◌, ◌⊎◌, ℕ, List, length, refl, sym, inl, inr, arith}
use Rattle.std.specs.Prelude.{◌≢◌, IsTrue}
use Rattle.std.specs.Ordering.{nat_cmp}
use Rattle.std.specs.FinSet as set
use Rattle.std.proofs.lemmas.List.{length-map}
use Rattle.std.proofs.lemmas.Bool.{true≢false}
use Rattle.model_kit.specs.declared.model.Model.{Model}
use Rattle.model_kit.specs.declared.action.GroundAction.{GroundAction}
use Rattle.model_kit.specs.Places.{meaning}
use Rattle.model_kit.specs.Runs.{IsValid}
use Rattle.feature_diff.specs.declared.difference.Difference.{Difference}
use Rattle.feature_diff.specs.Differing.{place_of, places_of}
use Rattle.ground_core.specs.Grounds.{IsFull}
use Rattle.mre_words.specs.declared.request.Request.{Request}
use Rattle.mre_words.specs.declared.request.Request.TheVariants.{Explain, Diff, Patch, PlanPatch}
use Rattle.request_answers.specs.declared.stop.AnswerStop.{AnswerStop}
use Rattle.request_answers.specs.declared.stop.AnswerStop.TheVariants.{Misread, Disagree, TooManyParameters, TooManyObjects, TooManyDifferences, TooManySteps, TooManyActions, TooManyAtoms, NotValid, Unbuilt, NotCheapest, NoMemory}
use Rattle.request_answers.specs.declared.stop.PlanFault.{PlanFault}
use Rattle.request_answers.specs.Lines.{status_of}
use Rattle.request_answers.specs.Texts.{has_plan}
use Rattle.request_answers.specs.Questions.{Pose, AreCounted, IsFault, IsToExplain, FitsTable}
use Rattle.request_answers.specs.Causes.{IsDue}
use Rattle.request_answers.specs.Outputs.{IsAnswer, IsChoice, IsListed}
use Rattle.request_answers.specs.Counts.{AreSmall}
use Rattle.request_answers.specs.Ends.{AtSearch, AtQuestion, IsLarge, AreDiffering, EndsAt, misread, read}

module _ (request : Request) (contents : List (List ℕ)) where
  -- a question ends as its counts and the rest say
  at_joined : (planner user : Model) (plan : List GroundAction) (pose : Pose request contents planner user plan) (status : ℕ)
      → ((status ≡ 7) × IsLarge planner.words) ⊎ (AreSmall planner.words × AreDiffering request planner user plan status)
      → EndsAt request contents status
  at_joined planner user plan pose status rest =
      read (record {
        planner_read = pose.planner_read;
        user_read = pose.user_read;
        plan = plan;
        models = pose.models;
        planned = pose.planned;
        rest = inr (record { planner = planner; user = user; paired = pose.paired; rest = rest });
      })

  -- a question whose counts are within their limits ends as the rest says
  at_question : (planner user : Model) (plan : List GroundAction) (differences : List Difference) (counted : AreCounted request contents planner user plan differences) (status : ℕ)
      → AtQuestion request planner user plan differences status → EndsAt request contents status
  at_question planner user plan differences counted status rest =
      let count : length differences ≡ length (places_of differences) = sym (length-map differences place_of) in
      let pose = counted.pose in
      let limits = counted.limits in
      at_joined planner user plan pose status
      (inr (
        limits.small,
        record {
          places = places_of differences;
          all = limits.all.all;
          rest = inr (record { differences = differences; at_places = refl; few = omega (arith, count, limits.few); short = limits.short; rest = rest });
        },
      ))

  -- the request asks about a plan
  asks_plan : (asked : Request) → IsTrue (has_plan asked) → (planner user : Model) (plan : List GroundAction) (differences : List Difference) (fault : PlanFault)
      → FitsTable asked planner user differences → IsFault planner.words (meaning planner) plan fault → AtQuestion asked planner user plan differences 10
  asks_plan (Explain kind files) has planner user plan differences fault table is = inr (table, inl (refl, fault, is))
  asks_plan (Diff files) has planner user plan differences fault table is = absurd (true≢false (sym has))
  asks_plan (Patch files) has planner user plan differences fault table is = inl (refl, fault, is)
  asks_plan (PlanPatch files) has planner user plan differences fault table is = inl (refl, fault, is)

  -- the request asks for an explanation
  asks_table : (asked : Request) → IsToExplain asked → (planner user : Model) (plan : List GroundAction) (differences : List Difference) → IsFull planner user differences → AtQuestion asked planner user plan differences 7
  asks_table (Explain kind files) is planner user plan differences many = inl (refl, many)
  asks_table (Diff files) is planner user plan differences many = absurd is
  asks_table (Patch files) is planner user plan differences many = absurd is
  asks_table (PlanPatch files) is planner user plan differences many = absurd is

  asks_search : (asked : Request) → IsToExplain asked → (planner user : Model) (plan : List GroundAction) (differences : List Difference) (status : ℕ)
      → ¬ IsFull planner user differences → IsValid (meaning planner) plan → AtSearch planner plan differences status → AtQuestion asked planner user plan differences status
  asks_search (Explain kind files) is planner user plan differences status table valid rest = inr (table, inr (valid, rest))
  asks_search (Diff files) is planner user plan differences status table valid rest = absurd is
  asks_search (Patch files) is planner user plan differences status table valid rest = absurd is
  asks_search (PlanPatch files) is planner user plan differences status table valid rest = absurd is

  -- the contents end with the status of a stop that is due
  pub due_ends : (stop : AnswerStop) → stop ≢ NoMemory → IsDue request contents stop → EndsAt request contents (status_of stop)
  due_ends (Misread file fault) some is = misread file fault refl is
  due_ends (Disagree fault) some is =
      read (record { planner_read = is.planner_read; user_read = is.user_read; plan = is.plan; models = is.models; planned = is.planned; rest = inl (refl, is.apart) })
  due_ends (TooManyParameters found) some is =
      at_joined is.planner is.user is.plan is.pose 7 (inl (refl, inl (omega (arith, is.past.counted, is.past.many))))
  due_ends (TooManyObjects found) some is =
      at_joined is.planner is.user is.plan is.pose 7 (inl (refl, inr (omega (arith, is.past.counted, is.past.many))))
  due_ends (TooManyDifferences found) some is =
      at_joined is.planner is.user is.plan is.pose 7
      (inr (is.past.small, record { places = is.past.many.places; all = is.past.many.all; rest = inl (refl, inl (omega (arith, is.past.many.counted, is.past.many.many))) }))
  due_ends (TooManySteps found) some is =
      at_joined is.planner is.user is.plan is.pose 7
      (inr (is.past.small, record { places = places_of is.past.differences; all = is.past.all.all; rest = inl (refl, inr (omega (arith, is.past.counted, is.past.many))) }))
  due_ends TooManyActions some is = at_question is.planner is.user is.plan is.differences is.counted 7 (asks_table request is.asked is.planner is.user is.plan is.differences (inr is.many))
  due_ends TooManyAtoms some is = at_question is.planner is.user is.plan is.differences is.counted 7 (asks_table request is.asked is.planner is.user is.plan is.differences (inl is.many))
  due_ends (NotValid fault) some is = at_question is.planner is.user is.plan is.differences is.counted 10 (asks_plan request is.planned is.planner is.user is.plan is.differences fault is.table is.is)
  due_ends (NotCheapest costs other steps) some is =
      at_question is.planner is.user is.plan is.differences is.counted 11
      (asks_search request is.asked is.planner is.user is.plan is.differences 11 is.table is.undercut.valid (inl (refl, costs, other, steps, is.undercut)))
  due_ends Unbuilt some is =
      at_question is.planner is.user is.plan is.differences is.counted 5
      (asks_search request is.asked is.planner is.user is.plan is.differences 5 is.table is.cheapest.valid (inr (is.cheapest, inl (refl, is.many))))
  due_ends NoMemory some is = absurd (some refl)

  -- a list of differences ends with 0
  listed_ends : (asked : Request) (planner user : Model) (plan : List GroundAction) (differences : List Difference) (chosen : set.FinSet nat_cmp)
      → IsChoice asked planner plan differences chosen → AtQuestion asked planner user plan differences 0
  listed_ends (Explain kind files) planner user plan differences chosen choice = absurd choice
  listed_ends (Diff files) planner user plan differences chosen choice = refl
  listed_ends (Patch files) planner user plan differences chosen choice = inr (choice.0, refl)
  listed_ends (PlanPatch files) planner user plan differences chosen choice = inr (choice.0, refl)

  pub list_ends : (chosen : set.FinSet nat_cmp) (text : List ℕ) → IsListed request contents chosen text → EndsAt request contents 0
  list_ends chosen text is = at_question is.planner is.user is.plan is.differences is.counted 0 (listed_ends request is.planner is.user is.plan is.differences chosen is.choice)

-- the contents of a request that is answered end with 0
pub answer_ends : (request : Request) (contents : List (List ℕ)) (told : set.FinSet nat_cmp) (text : List ℕ) → IsAnswer request contents told text → EndsAt request contents 0
answer_ends (Explain kind files) contents told text is =
    let made = is.1 in
    at_question (Explain kind files) contents made.planner made.user made.plan made.differences made.counted 0
    (inr (made.table, inr (made.cheapest.valid, inr (made.cheapest, inr (refl, made.few)))))
answer_ends (Diff files) contents told text is = list_ends (Diff files) contents told text is
answer_ends (Patch files) contents told text is = list_ends (Patch files) contents told text is
answer_ends (PlanPatch files) contents told text is = list_ends (PlanPatch files) contents told text is
