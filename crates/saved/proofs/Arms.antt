-- The steps of the numbers 26 to 45, which read and write a modify. Assumes nothing.
use Rattle.std.specs.Prelude.{ℕ, zero, suc, ◌≡◌, ◌+◌, ◌-◌, ◌<◌, ◌≤◌, option_map, refl}
use Rattle.std.proofs.Common.{arith}
use Rattle.calls.specs.declared.Step.TheVariants.{ModifyRead, ModifyWrite}
use Rattle.saved.specs.Saved.{modify_at, step_at}

-- a number below ten is one of the ten
by_ten : (P : ℕ → Type 0) → P 0 → P 1 → P 2 → P 3 → P 4 → P 5 → P 6 → P 7 → P 8 → P 9 → (k : ℕ) → k < 10 → P k
by_ten P a b c d e f g h i j zero l = a
by_ten P a b c d e f g h i j (suc zero) l = b
by_ten P a b c d e f g h i j (suc (suc zero)) l = c
by_ten P a b c d e f g h i j (suc (suc (suc zero))) l = d
by_ten P a b c d e f g h i j (suc (suc (suc (suc zero)))) l = e
by_ten P a b c d e f g h i j (suc (suc (suc (suc (suc zero))))) l = f
by_ten P a b c d e f g h i j (suc (suc (suc (suc (suc (suc zero)))))) l = g
by_ten P a b c d e f g h i j (suc (suc (suc (suc (suc (suc (suc zero))))))) l = h
by_ten P a b c d e f g h i j (suc (suc (suc (suc (suc (suc (suc (suc zero)))))))) l = i
by_ten P a b c d e f g h i j (suc (suc (suc (suc (suc (suc (suc (suc (suc zero))))))))) l = j
by_ten P a b c d e f g h i j (suc (suc (suc (suc (suc (suc (suc (suc (suc (suc k)))))))))) l = absurd (omega arith)

pub read_at : (n : ℕ) → 26 ≤ n → n ≤ 35 → step_at n ≡ option_map ModifyRead (modify_at (n - 26))
unfolding step_at modify_at
read_at n l h =
    let k : n ≡ 26 + (n - 26) = omega arith in
    let P : ℕ → Type 0 = λ i. step_at (26 + i) ≡ option_map ModifyRead (modify_at i) in
    let e : P (n - 26) = by_ten P refl refl refl refl refl refl refl refl refl refl (n - 26) (omega arith) in
    cc (k, e)

pub write_at : (n : ℕ) → 36 ≤ n → n ≤ 45 → step_at n ≡ option_map ModifyWrite (modify_at (n - 36))
unfolding step_at modify_at
write_at n l h =
    let k : n ≡ 36 + (n - 36) = omega arith in
    let P : ℕ → Type 0 = λ i. step_at (36 + i) ≡ option_map ModifyWrite (modify_at i) in
    let e : P (n - 36) = by_ten P refl refl refl refl refl refl refl refl refl refl (n - 36) (omega arith) in
    cc (k, e)
