-- All that the top call promises, from its clauses.
use Rattle.std.proofs.Common.{refl}
use Rattle.mre_top.specs.declared.top.Outcome.{Outcome}
use Rattle.mre_top.specs.Calls.{Call}
use Rattle.mre_top.specs.Exits.{EndsAs}
use Rattle.mre_top.specs.Headline.{Headline}
use Rattle.mre_top.specs.Promise.{OnSuccess, OnRefusal, OnContents, OnTraces, Stays}

pub ends_as : {call : Call} (outcome : Outcome) → Headline call outcome → OnSuccess call outcome → OnRefusal call outcome → OnContents call outcome → OnTraces call outcome → Stays call outcome
    → EndsAs call outcome.status
ends_as outcome headline success refusal contents traces stays =
    (outcome, refl, record { headline = headline; success = success; refusal = refusal; contents = contents; traces = traces; stays = stays })
