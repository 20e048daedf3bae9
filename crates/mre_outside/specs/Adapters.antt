-- What a clause reads of a sink over a writer, and of a shelf over the files of a runtime.
use Rattle.std.specs.Prelude.{ℕ}
use Rattle.mre_outside.specs.declared.std_sink.StdSink.{StdSink}
use Rattle.mre_outside.specs.declared.file_shelf.FileShelf.{FileShelf}

-- the writer that the bytes go to
abbrev pub writer_of : {W : Type 0} → StdSink W → W
writer_of sink = sink.writer

-- how often the writer has failed
abbrev pub sink_failures : {W : Type 0} → StdSink W → ℕ
sink_failures sink = sink.failures

-- how often a file has failed
abbrev pub shelf_failures : {R : Type 0} → FileShelf R → ℕ
shelf_failures shelf = shelf.failures
