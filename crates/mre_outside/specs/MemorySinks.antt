-- A sink in memory, and what a write on it does.
use Rattle.std.specs.Prelude.{ℕ, List, [], ◌++◌}
use Rattle.mre_outside.specs.Failures.{one_more}
use Rattle.mre_outside.specs.Failing.{Fails, first_half}
use Rattle.mre_outside.specs.declared.failing.FailingCalls.{FailingCalls}

-- the bytes that it holds, the number of writes that it answered and of those that failed, and which
-- writes fail
pub record SinkInMemory : Type 0 where
  pub written : List ℕ
  pub writes : ℕ
  pub failures : ℕ
  pub failing : FailingCalls

-- the sink before any write
abbrev pub made_empty : FailingCalls → SinkInMemory
made_empty failing = record { written = []; writes = 0; failures = 0; failing = failing }

-- the next write will fail
abbrev pub NextWriteFails : SinkInMemory → Type 0
NextWriteFails sink = Fails sink.failing (one_more sink.writes)

-- the sink after a write that didn't fail
abbrev pub after_write : SinkInMemory → List ℕ → SinkInMemory
after_write sink bytes = record sink {
  written = sink.written ++ bytes;
  writes = one_more sink.writes;
}

-- the sink after a write that failed: it took the first half
abbrev pub after_failure : SinkInMemory → List ℕ → SinkInMemory
after_failure sink bytes = record sink {
  written = sink.written ++ first_half bytes;
  writes = one_more sink.writes;
  failures = one_more sink.failures;
}
