use Rattle.std.proofs.Common.{◌≡◌, ℕ, List, drop}
use Rattle.std.specs.BTreeMap.{get_by_text}
use Rattle.joint_models.proofs.Entries.{place_from}
use Rattle.joint_models.proofs.listed.Listed.of.Given as goal

abbrev pub invariant-loop-place : goal.invariant-loop-place
invariant-loop-place l = (name : List ℕ) → get_by_text l.places name ≡ place_from l.place (drop l.place l.fn.entries) name
