use Rattle.std.proofs.Common.{◌≡◌, ◌+◌, ◌≤◌, drop}
use Rattle.pddl_text.specs.Places.{start, after_all, past_of}
use Rattle.pddl_text.specs.Reading.{left, trees_of}
use Rattle.pddl_text.proofs.reading.read_whole.Given as goal

abbrev pub invariant-loop-byte : goal.invariant-loop-byte
invariant-loop-byte l = record {
  trees : left l.reader (past_of l.bytes) l.spot (drop l.byte-index l.bytes) ≡ trees_of l.bytes;
  past : after_all l.spot (drop l.byte-index l.bytes) ≡ after_all start l.bytes;
  position : l.spot.position ≡ l.byte-index;
  line : l.spot.place.line ≤ l.byte-index + 1;
  column : l.spot.place.column ≤ l.byte-index + 1;
}
