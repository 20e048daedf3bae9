use Rattle.pddl_text.specs.Forests.{Spells, IsFirstFault}
use Rattle.pddl_text.specs.Reading.{forest_of}
use Rattle.pddl_text.proofs.ExactLemmas.{gives_ok, gives_fault, gives_spelled, gives_broken, gives_also}
use Rattle.pddl_text.proofs.ForestLemmas.{forest_exact, spelled_words, spelled_spans, spelled_few}
use Rattle.pddl_text.proofs.reading.read_forest.Goals as goal

pub returns : goal.returns
returns c =
    let bytes = c.args.bytes.now in
    let read = forest_of bytes in
    let exact = forest_exact bytes in
    let result = c.answer.result in
    let gives = c.answer.ensures in
    record {
      ok = gives_ok read (Spells bytes) (IsFirstFault bytes) exact result gives;
      fault = gives_fault read (Spells bytes) (IsFirstFault bytes) exact result gives;
      succeeds = gives_spelled read (Spells bytes) (IsFirstFault bytes) exact result gives;
      refuses = gives_broken read (Spells bytes) (IsFirstFault bytes) exact result gives;
      words = gives_also read (Spells bytes) (IsFirstFault bytes) exact _ (spelled_words bytes) result gives;
      spans = gives_also read (Spells bytes) (IsFirstFault bytes) exact _ (spelled_spans bytes) result gives;
      few = gives_also read (Spells bytes) (IsFirstFault bytes) exact _ (spelled_few bytes) result gives;
    }
