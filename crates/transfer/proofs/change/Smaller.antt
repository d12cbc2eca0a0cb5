-- The smaller of two numbers is at most either. Assumes nothing.
use Prim.Native.Nat.{ℕ, ◌≤◌, min}
use native.Mathlib.Omega.{arith}

pub min-left : (a b : ℕ) → min a b ≤ a
min-left a b = omega arith

pub min-right : (a b : ℕ) → min a b ≤ b
min-right a b = omega arith
