-- Lines that are pushed after others, one for each step.
use Rattle.std.proofs.Common.{◌≡◌, ℕ, ◌+◌, List, [], ◌∷◌, ◌++◌, map, take, Some, sym, ap, ◌∙◌, append_assoc}
use Rattle.std.specs.List.{slice_get}
use Rattle.std.proofs.lemmas.List.{map_more}
use Rattle.std.proofs.lemmas.Option.{slice_get_within, get_or_from_slice_get}
use Rattle.request_answers.specs.Lines.{line}

-- one more line was pushed
pub pushed : (before steps : List (List ℕ)) (k : ℕ) (step : List ℕ) → slice_get steps k ≡ Some step → (old new : List (List ℕ)) (text : List ℕ)
    → old ≡ before ++ map line (take k steps) → text ≡ line step → new ≡ old ++ text ∷ [] → new ≡ before ++ map line (take (k + 1) steps)
pushed before steps k step at old new text so_far is now =
    now ∙ (λ i. so_far i ++ is i ∷ []) ∙ append_assoc before (map line (take k steps)) (line step ∷ [])
    ∙ ap (λ l. before ++ l) (sym (map_more line steps k [] (slice_get_within steps k step at) ∙ ap (λ x. map line (take k steps) ++ line x ∷ []) (get_or_from_slice_get steps k step [] at)))
