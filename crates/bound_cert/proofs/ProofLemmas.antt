-- A bound proof shows its bound: a pruned state is far from the goal by the law of cuts.
use Rattle.std.proofs.Common.{ℕ, ◌+◌, ◌≤◌, ◌<◌, inl, inr, ◌⊎◌, List, map, All, subst, arith}
use Rattle.std.proofs.lemmas.List.Elements.{All-contains, All-map}
use Rattle.task_kit.specs.Tasks.{Numbers, TaskMeaning, cost_of}
use Rattle.task_kit.specs.Bounds.{IsExpanded, IsFar, NumberedState, Shows}
use Rattle.task_kit.specs.Cuts.{CutMeaning, weights}
use Rattle.task_kit.proofs.BoundLemmas.{bound_law}
use Rattle.task_kit.proofs.CutLemmas.{cut_law}
use Rattle.bound_cert.specs.declared.proof.BoundState.{BoundState}
use Rattle.bound_cert.specs.declared.proof.How.{How}
use Rattle.bound_cert.specs.declared.proof.How.TheVariants as hows
use Rattle.bound_cert.specs.Proven.{numbered, IsThere, IsPruned, IsLeft, IsBoundProof, BoundProofLaw}

far_sum : (k number weight cost : ℕ) → k ≤ number + weight → weight ≤ cost → k ≤ number + cost
far_sum k number weight cost enough within = omega arith

pruned_far : (task : TaskMeaning) (k : ℕ) (state : Numbers) (number : ℕ) (cuts : List CutMeaning) → IsPruned task k state number cuts → IsFar task k state number
pruned_far task k state number cuts pruned list valid =
    far_sum k number (weights cuts) (cost_of task list) pruned.enough (cut_law task state cuts pruned.lawful list valid)

-- a state of a bound proof is expanded or far, as the law of bounds asks
left_shows : (task : TaskMeaning) (k : ℕ) (known : Numbers → ℕ → Type 0) (state : Numbers) (number : ℕ) (how : How) → IsLeft task k known state number how
    → IsExpanded task k known state number ⊎ IsFar task k state number ⊎ ((smaller : ℕ) × known state smaller × (smaller < number))
left_shows task k known state number hows.Expanded left = inl left
left_shows task k known state number (hows.Pruned cuts) left = inr (inl (pruned_far task k state number _ left))

pub shows : (task : TaskMeaning) (k : ℕ) (states : List BoundState) → IsBoundProof task k states → Shows task k (IsThere states)
shows task k states proof =
    record {
      start = proof.start;
      each = λ state number there.
          let P : NumberedState → Type 0 = λ s. IsExpanded task k (IsThere states) s.state s.number ⊎ IsFar task k s.state s.number ⊎ ((smaller : ℕ) × IsThere states s.state smaller × (smaller < s.number)) in
          let each : All (λ s. P (numbered s)) states = λ place d lt. left_shows task k (IsThere states) _ _ _ (proof.each place d lt) in
          let found : P there.0 = All-contains P (map numbered states) there.0 (All-map P numbered states each) there.1 in
          subst (λ n. IsExpanded task k (IsThere states) state n ⊎ IsFar task k state n ⊎ ((smaller : ℕ) × IsThere states state smaller × (smaller < n))) there.3
          (subst (λ s. IsExpanded task k (IsThere states) s there.0.number ⊎ IsFar task k s there.0.number ⊎ ((smaller : ℕ) × IsThere states s smaller × (smaller < there.0.number))) there.2 found);
    }

pub bound_proof_law : BoundProofLaw
bound_proof_law task k states proof = bound_law task k (map numbered states) (shows task k states proof)
