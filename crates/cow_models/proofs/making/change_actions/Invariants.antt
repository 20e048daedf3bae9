use Rattle.std.proofs.Common.{◌≡◌, ◌<◌, ◌≤◌, ℕ, length}
use Rattle.std.specs.Prelude.{slice_get}
use Rattle.cow_models.specs.Changed.{IsChangedAt}
use Rattle.cow_models.proofs.making.change_actions.Given as goal

abbrev pub invariant-loop-at : goal.invariant-loop-at
invariant-loop-at l = record {
  same_length : length l.actions ≡ length l.fn.actions;
  before : (k : ℕ) → k < l.at → IsChangedAt l.table l.cube l.way l.place l.first l.fn.actions l.actions k;
  after : (k : ℕ) → l.at ≤ k → slice_get l.actions k ≡ slice_get l.fn.actions k;
}
