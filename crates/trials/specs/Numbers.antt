-- The states of the generator of made-up numbers, and what is made of them.
use Rattle.std.specs.Prelude.{ℕ, ◌+◌, ◌*◌, ◌%◌, ◌^◌}

-- the state after s
abbrev pub following : ℕ → ℕ
following s = (s * 1664525 % 2 ^ 32 + 1013904223) % 2 ^ 32

-- the bits of a 32-bit float
abbrev pub pattern : (sign exponent fraction : ℕ) → ℕ
pattern sign exponent fraction = sign * 2 ^ 31 + exponent * 2 ^ 23 + fraction
