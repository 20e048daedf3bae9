-- What writes leave on a sink, after what it held, whatever they answer.
use Rattle.std.proofs.Common.{◌≡◌, ◌⊎◌, ◌≤◌, ℕ, ◌+◌, List, ◌++◌, length, take, Option, Result, Ok, Err, OnOk, refl, sym, subst, arith, inl, inr}
use Rattle.std.proofs.Math.Seq.{take-append-add}
use Rattle.std.specs.Io.KnownBytes.{Appends}
use Rattle.mre_outside.specs.Failures.{Rose}
use Rattle.mre_outside.specs.Sinks.{AppendsPrefix}
use Rattle.mre_outside.specs.declared.sink.SinkStop.{SinkStop}
use Rattle.mre_outside.specs.declared.sink.SinkStop.TheVariants.{Failed, NoMemory}
use Rattle.mre_outside.proofs.Streams.{Appends-twice}

-- the bytes were written, or a write failed and a prefix of them was
abbrev pub Wrote : Type 0 → List ℕ → Option (List ℕ) → Option (List ℕ) → ℕ → ℕ → Type 0
Wrote sound bytes old new before now = Appends old new bytes ⊎ (¬ sound × Rose before now × AppendsPrefix old new bytes)

-- the bytes were written, or nothing was, whatever the write answered
pub by_answer : (sound : Type 0) (bytes : List ℕ) (old new : Option (List ℕ)) (before now : ℕ) (r : Result (Unit {0}) SinkStop)
    → OnOk r (Appends old new bytes) → (r ≡ Err Failed → AppendsPrefix old new bytes) → (r ≡ Err NoMemory → new ≡ old)
    → (r ≡ Err Failed → Rose before now) → (sound → ¬ (r ≡ Err Failed)) → (new ≡ old) ⊎ Wrote sound bytes old new before now
by_answer sound bytes old new before now (Ok u) whole part none rose steady = inr (inl whole)
by_answer sound bytes old new before now (Err Failed) whole part none rose steady = inr (inr (λ s. steady s refl, rose refl, part refl))
by_answer sound bytes old new before now (Err NoMemory) whole part none rose steady = inl (none refl)

-- a later count rose, so an earlier one did
rose_before : (before between now : ℕ) → before ≤ between → Rose between now → Rose before now
rose_before before between now low rose = omega (arith, low, rose)

-- some bytes were written first, and after them a line, or nothing
pub written_after : (sound later : Type 0) → (sound → later) → (first line : List ℕ) (old mid new : Option (List ℕ)) (before between now : ℕ)
    → before ≤ between → Appends old mid first → (new ≡ mid) ⊎ Wrote later line mid new between now
    → Appends old new first ⊎ Wrote sound (first ++ line) old new before now
written_after sound later keeps first line old mid new before between now low start (inl same) = inl (subst (λ known. Appends old known first) (sym same) start)
written_after sound later keeps first line old mid new before between now low start (inr (inl whole)) = inr (inl (Appends-twice old mid new first line start whole))
written_after sound later keeps first line old mid new before between now low start (inr (inr part)) =
    inr (inr (
      λ s. part.0 (keeps s),
      rose_before before between now low part.1,
      (length first + part.2.0, subst (Appends old new) (sym (take-append-add first line part.2.0)) (Appends-twice old mid new first (take part.2.0 line) start part.2.1)),
    ))
