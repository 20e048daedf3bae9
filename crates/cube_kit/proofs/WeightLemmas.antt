-- Lists of weights: all of them 1, and one of them changed.
use Rattle.std.proofs.Common.{◌≡◌, ℕ, ◌-◌, ◌≤◌, replicate, ◌∙◌, arith}
use Rattle.std.proofs.lemmas.List.{get_or-replicate, length-replicate}
use Rattle.cube_kit.specs.Weighing.{IsWeighing}

one_weight : (x : ℕ) → x ≡ 1 → (1 ≤ x) × (x ≤ 1000000)
one_weight x e = (omega arith, omega arith)

pub ones_weigh : (n : ℕ) → n ≡ 256 → IsWeighing (replicate n 1)
ones_weigh n e =
    record {
      whole = length-replicate n 1 ∙ e;
      each = λ place low high. one_weight _ (get_or-replicate n (place - 1) 1 0 (omega (arith, length-replicate {A = ℕ} n 1)));
    }
