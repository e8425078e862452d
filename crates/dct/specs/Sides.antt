-- The lengths that are transformed: 1, 2, 4, .. 256.
use Rattle.std.specs.Prelude.{◌≡◌, ℕ, ◌^◌, ◌≤◌}

abbrev pub Sided : ℕ → Type 0
Sided n = (k : ℕ) × (k ≤ 8) × (n ≡ 2 ^ k)

-- 8, 16, .. 256
abbrev pub Long : ℕ → Type 0
Long n = (k : ℕ) × (3 ≤ k) × (k ≤ 8) × (n ≡ 2 ^ k)
