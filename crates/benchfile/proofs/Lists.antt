-- A loop over a list: what the elements so far say, and those that are left. Assumes nothing.
use Prim.Native.Nat.{ℕ, ◌+◌, ◌-◌, ◌≤◌, ◌<◌}
use native.Mathlib.Numerals.{add-one}
use native.Mathlib.Omega.{arith}
use mathlib.Core.Path.{◌≡◌, refl, sym}
use mathlib.Core.Bool.{Bool, true, false}
use mathlib.Core.List.{List}
use lib.Dec.{eqb}
use lib.ListN.{length, get_or, drop, drop_of_length-le}
use lib.Seq.{drop-cons}
use borrow.Author.Tests.{lt-ltb, le-ltb, eq-eqb, ne_eqb, eqb-true, eqb-false}
use Rattle.benchfile.specs.Calls.{any_wide, write_size, write_bytes}

-- no word before i is wide
module _ (ws : List ℕ) (i : ℕ) (none : any_wide ws ≡ any_wide (drop i ws)) where
  pub no_wide : length ws ≤ i → false ≡ any_wide ws
  no_wide h = rw (none, drop_of_length-le ws h)

  pub wide : i < length ws → 255 < get_or ws i 0 → true ≡ any_wide ws
  wide h l = rw (none, drop-cons ws i 0 h, lt-ltb 255 (get_or ws i 0) l)

  pub narrow : i < length ws → get_or ws i 0 ≤ 255 → any_wide ws ≡ any_wide (drop (i + 1) ws)
  narrow h l = rw (none, add-one, drop-cons ws i 0 h, le-ltb 255 (get_or ws i 0) l)

pub ruleset wides = (no_wide, wide, narrow)

-- two tests that say the same
same_test : (a b c d : ℕ) → (a ≡ b → c ≡ d) → (c ≡ d → a ≡ b) → eqb a b ≡ eqb c d
same_test a b c d f g = go (eqb a b) refl
  where
    go : (t : Bool) → eqb a b ≡ t → t ≡ eqb c d
    go true e = sym (eq-eqb c d (f (eqb-true a b e)))
    go false e = sym (ne_eqb c d (λ q. eqb-false a b e (g q)))

-- the operations before i have taken what is not left of n
module _ (ops : List ℕ) (n left i : ℕ) (taken : n + write_bytes (drop i ops) ≡ left + write_bytes ops) where
  pub all_taken : length ops ≤ i → eqb left 0 ≡ eqb n (write_bytes ops)
  all_taken h =
      let z : n ≡ left + write_bytes ops = omega (arith, rw (drop_of_length-le ops h) at taken) in
      same_test left 0 n (write_bytes ops) (λ e. omega arith) (λ e. omega arith)

  module _ (size : ℕ) (some : i < length ops) (is : size ≡ write_size (get_or ops i 0)) where
    pub too_few : left < size → false ≡ eqb n (write_bytes ops)
    too_few h = sym (ne_eqb n (write_bytes ops) (λ e. omega (arith, rw (drop-cons ops i 0 some) at taken)))

    pub next_taken : size ≤ left → n + write_bytes (drop (i + 1) ops) ≡ left - size + write_bytes ops
    next_taken h = rw add-one (omega (arith, rw (drop-cons ops i 0 some) at taken))

pub ruleset takes = (all_taken, too_few, next_taken)
