-- How many cells of a map are not empty.
use Rattle.std.specs.Prelude.{ℕ, zero, suc, ◌+◌, cond}
use Rattle.varmap.specs.declared.cells.Record.{Record}
use Rattle.varmap.specs.Cells.{is_empty}

-- f 0 + f 1 + .. + f (n - 1)
unfoldable pub sum_to : ℕ → (ℕ → ℕ) → ℕ
sum_to zero f = 0
sum_to (suc n) f = sum_to n f + f n

abbrev pub taken : Record → ℕ
taken r = cond (is_empty r) 0 1

unfoldable pub filled : ℕ → ℕ → (ℕ → ℕ → Record) → ℕ
filled w h m = sum_to h (λ y. sum_to w (λ x. taken (m x y)))
