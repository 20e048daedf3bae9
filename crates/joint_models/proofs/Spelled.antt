-- How the names of types are joined by blanks.
use Rattle.std.proofs.Common.{◌≡◌, ℕ, ◌+◌, ◌<◌, List, [], ◌∷◌, ◌++◌, length, take, map, Some, refl, sym, ap, ◌∙◌, arith, append_assoc}
use Rattle.std.specs.Prelude.{slice_get}
use Rattle.std.specs.List.{join_with_byte}
use Rattle.std.proofs.lemmas.List.{map-append, append-nil, length-take-le, length-map}
use Rattle.std.proofs.lemmas.Option.{slice_get_within}
use Rattle.mre_base.proofs.Loops.{take_item}

joined_more : (t : List ℕ) (ts : List (List ℕ)) (u : List ℕ) → join_with_byte 32 ((t ∷ ts) ++ u ∷ []) ≡ join_with_byte 32 (t ∷ ts) ++ (32 ∷ u)
joined_more t [] u = refl
joined_more t (s ∷ ts) u = ap (λ rest. t ++ (32 ∷ rest)) (joined_more s ts u) ∙ sym (append_assoc t (32 ∷ join_with_byte 32 (s ∷ ts)) (32 ∷ u))

module _ (name : ℕ → List ℕ) (types : List ℕ) (i type : ℕ) (at : slice_get types i ≡ Some type) where
  names_more : map name (take (i + 1) types) ≡ map name (take i types) ++ name type ∷ []
  names_more = ap (map name) (take_item types i type at) ∙ map-append name (take i types) (type ∷ [])

  pub joined_first : (start old new : List ℕ) → i ≡ 0 → old ≡ start ++ join_with_byte 32 (map name (take i types)) → new ≡ old ++ name type → new ≡ start ++ join_with_byte 32 (map name (take (i + 1) types))
  joined_first start old new first before pushed =
      pushed ∙ ap (λ bs. bs ++ name type) (before ∙ ap (λ k. start ++ join_with_byte 32 (map name (take k types))) first ∙ append-nil start)
      ∙ ap (λ ts. start ++ join_with_byte 32 (ts ++ name type ∷ [])) (ap (λ k. map name (take k types)) (sym first))
      ∙ ap (λ ts. start ++ join_with_byte 32 ts) (sym names_more)

  pub joined_next : (start old blank new : List ℕ) → 0 < i → old ≡ start ++ join_with_byte 32 (map name (take i types)) → blank ≡ old ++ 32 ∷ [] → new ≡ blank ++ name type → new ≡ start ++ join_with_byte 32 (map name (take (i + 1) types))
  joined_next start old blank new later before put pushed =
      pushed ∙ ap (λ bs. bs ++ name type) (put ∙ ap (λ bs. bs ++ 32 ∷ []) before)
      ∙ append_assoc (start ++ join_with_byte 32 (map name (take i types))) (32 ∷ []) (name type)
      ∙ append_assoc start (join_with_byte 32 (map name (take i types))) (32 ∷ name type)
      ∙ ap (λ bs. start ++ bs) (sym (by (map name (take i types)) some))
      ∙ ap (λ ts. start ++ join_with_byte 32 ts) (sym names_more)
    where
      some : 0 < length (map name (take i types))
      some = let lt = slice_get_within types i type at in omega (arith, length-map (take i types) name, length-take-le i types (omega arith))

      by : (ts : List (List ℕ)) → 0 < length ts → join_with_byte 32 (ts ++ name type ∷ []) ≡ join_with_byte 32 ts ++ (32 ∷ name type)
      by [] none = absurd (omega arith)
      by (t ∷ ts) more = joined_more t ts (name type)
