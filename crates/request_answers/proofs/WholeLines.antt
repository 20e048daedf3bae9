-- The printed lines of an explanation and of a list are whole lines.
use Rattle.std.proofs.Common.{◌≡◌, ℕ, ◌+◌, ◌-◌, ◌<◌, List, [], ◌++◌, length, map, get_or, refl, sym, ap, subst, inl, inr, arith}
use Rattle.std.specs.Prelude.{All, codes, decimal}
use Rattle.std.specs.List.{range_with_len}
use Rattle.std.specs.Option.{option_map_or}
use Rattle.std.specs.Ordering.{nat_cmp}
use Rattle.std.specs.FinSet as set
use Rattle.std.proofs.lemmas.List.Elements.{All-cons, All-push, All-map, All-weaker, All-filter, All-from_get_or}
use Rattle.std.proofs.lemmas.List.FromFn.{get_or-range_with_len, length-range_with_len}
use Rattle.std.proofs.lemmas.Option.{slice_get_cases}
use Rattle.mre_base.specs.Before.{numbers}
use Rattle.mre_base.specs.declared.kind.Kind.{Kind}
use Rattle.model_kit.specs.declared.vocabulary.Vocabulary.{Vocabulary}
use Rattle.model_kit.specs.Sentences.{line}
use Rattle.feature_diff.specs.declared.difference.Difference.{Difference}
use Rattle.explain_text.specs.Lines.{kind_name, sentence_of, numbered_line, list_lines, lines_of}
use Rattle.request_answers.specs.Lines.{IsLine}

-- the number is that of one of this many differences
abbrev IsOneOf : ℕ → ℕ → Type 0
IsOneOf count n = n - 1 < count

-- the numbers from 1 to the count are those of differences
in_range : (count : ℕ) → All (IsOneOf count) (range_with_len 1 count)
in_range count = All-from_get_or (IsOneOf count) (range_with_len 1 count) 0 at
  where
    at : (i : ℕ) → i < length (range_with_len 1 count) → IsOneOf count (get_or (range_with_len 1 count) i 0)
    at i lt =
        let short : i < count = subst (λ n. i < n) (length-range_with_len 1 count) lt in
        let is : get_or (range_with_len 1 count) i 0 ≡ 1 + i = get_or-range_with_len 1 count i 0 short in
        subst (IsOneOf count) (sym is) (omega arith)

module _ (words : Vocabulary) (differences : List Difference) where
  numbered : (n : ℕ) → IsOneOf (length differences) n → IsLine (numbered_line words differences n)
  numbered n one =
      elim (slice_get_cases differences (n - 1)).1 [
        | inl there ↦ (
          decimal n ++ codes " " ++ sentence_of words there.0,
          ap (λ o. option_map_or (λ d. line (decimal n ++ codes " " ++ sentence_of words d)) o []) there.2,
        )
        | inr past ↦ absurd (let beyond = past.0 in omega arith)
      ]

  -- the lines of a list are whole
  pub whole_list : (head : List ℕ) (chosen : set.FinSet nat_cmp) → All IsLine (list_lines head words differences (numbers (length differences) chosen))
  whole_list head chosen =
      let ns = numbers (length differences) chosen in
      let middle = map (numbered_line words differences) ns in
      let listed : All (IsOneOf (length differences)) ns = All-filter (set.contains chosen) (IsOneOf (length differences)) (range_with_len 1 (length differences)) (in_range (length differences)) in
      let each : All IsLine middle =
      All-map IsLine (numbered_line words differences) ns (All-weaker (IsOneOf (length differences)) (λ n. IsLine (numbered_line words differences n)) numbered ns listed) in
      All-cons IsLine (line head) middle (head, refl) each

  -- the lines of an explanation are whole
  pub whole_lines : (kind : Kind) (told : set.FinSet nat_cmp) (price : ℕ) → All IsLine (lines_of kind words differences (numbers (length differences) told) price)
  whole_lines kind told price =
      let ns = numbers (length differences) told in
      let head = kind_name kind ++ codes " " ++ decimal (length ns) ++ codes " of " ++ decimal (length differences) in
      All-push IsLine (list_lines head words differences ns) (line (codes "cost " ++ decimal price)) (whole_list head told) (codes "cost " ++ decimal price, refl)
