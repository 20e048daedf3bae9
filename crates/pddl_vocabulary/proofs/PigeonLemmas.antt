-- More numbers than there is room for: two of them are the same.
use Rattle.std.proofs.Common.{◌≡◌, ◌≢◌, ℕ, ◌-◌, ◌<◌, ◌≤◌, zero, suc, Bool, true, false, cond, refl, sym, ap, ◌∙◌, arith, ⊎_elim, inl, inr}
use Rattle.std.specs.Prelude.{◌⊎◌, ◌==◌, nat_lt}
use Rattle.std.specs.List.{list_any, range_with_len}
use Rattle.std.proofs.lemmas.Bool.{true≢false, cases_Bool, cases_lt, eqb-true, eq-eqb}
use Rattle.std.proofs.lemmas.Bool.Decides.{Decides-ltb}
use Rattle.model_kit.proofs.TypeLemmas.{some_below, any_below}

-- two numbers up to a bound that have the same value
pub record Meet (f : ℕ → ℕ) (bound : ℕ) : Type 0 where
  pub first : ℕ
  pub second : ℕ
  pub order : first < second
  pub within : second ≤ bound
  pub same : f first ≡ f second

-- a value without the one that is taken out
abbrev without : ℕ → ℕ → ℕ
without v n = cond (nat_lt n v) n (n - 1)

without_by : (v n : ℕ) (b : Bool) → nat_lt n v ≡ b → n ≢ v → ((n < v) × (without v n ≡ n)) ⊎ ((v < n) × (without v n ≡ n - 1))
without_by v n true is apart = inl ((Decides-ltb n v).0 is, ap (λ c. cond c n (n - 1)) is)
without_by v n false is apart =
    inr (⊎_elim (λ lt. absurd (true≢false (sym ((Decides-ltb n v).1 lt) ∙ is))) (λ le. omega arith) (cases_lt n v), ap (λ c. cond c n (n - 1)) is)

without_small : (v n b : ℕ) → n ≢ v → n < suc b → v < suc b → without v n < b
without_small v n b apart lt within =
    ⊎_elim (λ less. omega (arith, less.0, less.1)) (λ more. omega (arith, more.0, more.1)) (without_by v n (nat_lt n v) refl apart)

without_same : (v m n : ℕ) → m ≢ v → n ≢ v → without v m ≡ without v n → m ≡ n
without_same v m n apart other same =
    ⊎_elim
    (λ less. ⊎_elim (λ low. omega (arith, less.1, low.1, same)) (λ high. omega (arith, less.0, less.1, high.0, high.1, same)) (without_by v n (nat_lt n v) refl other))
    (λ more. ⊎_elim (λ low. omega (arith, more.0, more.1, low.0, low.1, same)) (λ high. omega (arith, more.0, more.1, high.0, high.1, same)) (without_by v n (nat_lt n v) refl other))
    (without_by v m (nat_lt m v) refl apart)

module _ (f : ℕ → ℕ) (b : ℕ) (small : (k : ℕ) → k ≤ suc b → f k < suc b) where
  taken : list_any (λ k. f k == f (suc b)) (range_with_len 0 (suc b)) ≡ true → Meet f (suc b)
  taken e =
      let at = some_below (λ k. f k == f (suc b)) (suc b) e in
      record { first = at.0; second = suc b; order = at.1; within = omega arith; same = eqb-true (f at.0) (f (suc b)) at.2 }

  free : list_any (λ k. f k == f (suc b)) (range_with_len 0 (suc b)) ≡ false → (k : ℕ) → k ≤ b → f k ≢ f (suc b)
  free e k le same = true≢false (sym (any_below (λ j. f j == f (suc b)) (suc b) k (omega arith) (eq-eqb (f k) (f (suc b)) same)) ∙ e)

  lifted : ((k : ℕ) → k ≤ b → f k ≢ f (suc b)) → Meet (λ k. without (f (suc b)) (f k)) b → Meet f (suc b)
  lifted apart meet = record {
    first = meet.first;
    second = meet.second;
    order = meet.order;
    within = let le = meet.within in omega (arith, le);
    same =
        let le = meet.within in
        let lt = meet.order in
        without_same (f (suc b)) (f meet.first) (f meet.second) (apart meet.first (omega (arith, le, lt))) (apart meet.second le) meet.same;
  }

pub meeting : (b : ℕ) (f : ℕ → ℕ) → ((k : ℕ) → k ≤ b → f k < b) → Meet f b
meeting zero f small = let none = small 0 (omega arith) in absurd (omega (arith, none))
meeting (suc b) f small =
    ⊎_elim (taken f b small)
    (λ e.
    let apart = free f b small e in
    lifted f b small apart
    (meeting b (λ k. without (f (suc b)) (f k)) (λ k le. without_small (f (suc b)) (f k) b (apart k le) (small k (omega arith)) (small (suc b) (omega arith)))))
    (cases_Bool (list_any (λ k. f k == f (suc b)) (range_with_len 0 (suc b))))
