-- One more state of a list.
use Rattle.std.proofs.Common.{◌≡◌, ℕ, ◌+◌, List, take, Some, ap, arith, slice_get, length}
use Rattle.std.proofs.lemmas.List.{length-append}
use Rattle.bound_cert.specs.declared.proof.BoundState.{BoundState}
use Rattle.bound_cert.specs.Formed.{cuts_of}
use Rattle.bound_cert.specs.Lines.{lines, state_lines}
use Rattle.bound_cert.proofs.LineLemmas.{lines_next, length-state_lines}

pub counted_next : (atoms : ℕ) (states : List BoundState) (i : ℕ) (s : BoundState) (count : ℕ) → slice_get states i ≡ Some s → length (lines atoms (take i states)) ≡ count
    → length (lines atoms (take (i + 1) states)) ≡ count + (length (cuts_of s.how) + 1)
counted_next atoms states i s count at e =
    omega (arith, e, ap length (lines_next atoms states i s at), length-append (lines atoms (take i states)) (state_lines atoms s), length-state_lines atoms s)
