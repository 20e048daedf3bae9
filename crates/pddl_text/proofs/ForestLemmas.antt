-- A text spells exactly the forest that it is read as, and has exactly the first fault at which its reading fails.
use Rattle.std.proofs.Common.{◌≡◌, ℕ, ◌+◌, ◌≤◌, List, [], length, Some, Result, Ok, Err, sym, ap, subst, ◌∙◌, arith}
use Rattle.std.specs.List.{AllByRecursion}
use Rattle.pddl_text.specs.declared.fault.TextFault.{TextFault}
use Rattle.pddl_text.specs.declared.place.Place.{Place}
use Rattle.pddl_text.specs.declared.tree.Forest.{Forest}
use Rattle.pddl_text.specs.declared.tree.Tree.{Tree}
use Rattle.pddl_text.specs.Forests.{Spells, IsFirstFault, tokens_of_all}
use Rattle.pddl_text.specs.Places.{start, past_of}
use Rattle.pddl_text.specs.Reading.{Nothing, tokens_from, trees_from, with_past, trees_of, forest_of}
use Rattle.pddl_text.specs.Spans.{IsTokenIn, SpansAscend}
use Rattle.pddl_text.specs.Tokens.{Token, HasTokens}
use Rattle.pddl_text.proofs.ExactLemmas.{IsExact}
use Rattle.pddl_text.proofs.SpanLemmas.{words_are_in, spans_ascend, tokens_few}
use Rattle.pddl_text.proofs.TokenLemmas.{tokens_are, has_tokens}
use Rattle.pddl_text.proofs.TreeLemmas.{made, read_back, read_tokens, read_low, fault_in, reads_fault}

-- what is read, with the end of the text
abbrev grown : Forest → Result Forest TextFault
grown forest = Ok forest

abbrev stopped : TextFault → Result Forest TextFault
stopped fault = Err fault

spelled_is_read : (bytes : List ℕ) (forest : Forest) → Spells bytes forest → forest_of bytes ≡ grown forest
spelled_is_read bytes forest spells =
    ap (λ (tokens : List Token). with_past (past_of bytes) (trees_from [] [] (past_of bytes) tokens)) (tokens_are spells.tokens)
    ∙ ap (with_past (past_of bytes)) (read_back forest.trees (past_of bytes) spells.shallow)
    ∙ ap (λ (past : Place). grown (record { trees = forest.trees; past = past })) (sym spells.past)

trees-is : (past : Place) (read : Result (List Tree) TextFault) (forest : Forest) → with_past past read ≡ grown forest → (read ≡ made forest.trees) × (forest.past ≡ past)
trees-is past (Ok trees) forest e =
    let same : record { trees = trees; past = past } ≡ forest = cc in
    (ap (λ (f : Forest). made f.trees) same, ap (λ (f : Forest). f.past) (sym same))
trees-is past (Err fault) forest e = absurd cc

read_is_spelled : (bytes : List ℕ) (forest : Forest) → forest_of bytes ≡ grown forest → Spells bytes forest
read_is_spelled bytes forest e =
    let read = trees-is (past_of bytes) (trees_of bytes) forest e in
    record {
      tokens = subst (HasTokens start bytes) (read_tokens [] [] (past_of bytes) (tokens_from Nothing start bytes) forest.trees read.0) (has_tokens start bytes);
      shallow = read_low [] [] (past_of bytes) (tokens_from Nothing start bytes) forest.trees read.0 (omega arith);
      past = read.1;
    }

fault-is : (past : Place) (read : Result (List Tree) TextFault) (fault : TextFault) → fault_in read ≡ Some fault → with_past past read ≡ stopped fault
fault-is past (Ok trees) fault e = absurd cc
fault-is past (Err found) fault e = let same : found ≡ fault = cc in ap stopped same

is-fault : (past : Place) (read : Result (List Tree) TextFault) (fault : TextFault) → with_past past read ≡ stopped fault → fault_in read ≡ Some fault
is-fault past (Ok trees) fault e = absurd cc
is-fault past (Err found) fault e = let same : found ≡ fault = cc in ap Some same

broken_is_failed : (bytes : List ℕ) (fault : TextFault) → IsFirstFault bytes fault → forest_of bytes ≡ stopped fault
broken_is_failed bytes fault breaks =
    ap (λ (tokens : List Token). with_past (past_of bytes) (trees_from [] [] (past_of bytes) tokens)) (tokens_are breaks.has)
    ∙ fault-is (past_of bytes) (trees_from [] [] (past_of bytes) breaks.tokens) fault (sym (reads_fault [] [] (past_of bytes) breaks.tokens) ∙ breaks.first)

failed_is_broken : (bytes : List ℕ) (fault : TextFault) → forest_of bytes ≡ stopped fault → IsFirstFault bytes fault
failed_is_broken bytes fault e = record {
  tokens = tokens_from Nothing start bytes;
  has = has_tokens start bytes;
  first = reads_fault [] [] (past_of bytes) (tokens_from Nothing start bytes) ∙ is-fault (past_of bytes) (trees_of bytes) fault e;
}

pub forest_exact : (bytes : List ℕ) → IsExact (forest_of bytes) (Spells bytes) (IsFirstFault bytes)
forest_exact bytes = record {
  spelled = spelled_is_read bytes;
  is_spelled = read_is_spelled bytes;
  broken = broken_is_failed bytes;
  is_broken = failed_is_broken bytes;
}

pub spelled_words : (bytes : List ℕ) (forest : Forest) → Spells bytes forest → AllByRecursion (IsTokenIn bytes) (tokens_of_all forest.trees)
spelled_words bytes forest spells = words_are_in bytes (tokens_of_all forest.trees) spells.tokens

pub spelled_spans : (bytes : List ℕ) (forest : Forest) → Spells bytes forest → SpansAscend 0 (length bytes) (tokens_of_all forest.trees)
spelled_spans bytes forest spells =
    let to-is : 0 + length bytes ≡ length bytes = omega arith in
    subst (λ (n : ℕ). SpansAscend 0 n (tokens_of_all forest.trees)) to-is (spans_ascend spells.tokens)

pub spelled_few : (bytes : List ℕ) (forest : Forest) → Spells bytes forest → length (tokens_of_all forest.trees) ≤ length bytes
spelled_few bytes forest spells = omega (arith, tokens_few 0 (length bytes) (tokens_of_all forest.trees) (spelled_spans bytes forest spells))
