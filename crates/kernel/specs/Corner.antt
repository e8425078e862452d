-- The corner that rebuild makes of a varblock's LF samples: the first bw × bh numbers of its block.
use Rattle.std.specs.Prelude.{ℕ, ◌-◌, ◌*◌, cond, ◌&&◌, ◌==◌, nat_lt, Float}
use Rattle.floats.specs.Arith.{times, over}
use Rattle.kinds.specs.Kinds.{wide, high}
use Rattle.dct_2d.specs.Plane.{Patch}
use Rattle.dct.specs.Scale.{scale}
use Rattle.kernel.specs.Maps.{Maps}

-- the exponent of a power of two up to 256
unfoldable pub log2 : ℕ → ℕ
log2 n =
    cond (n == 2) 1
    (cond (n == 4) 2
    (cond (n == 8) 3 (cond (n == 16) 4 (cond (n == 32) 5 (cond (n == 64) 6 (cond (n == 128) 7 (cond (n == 256) 8 0)))))))

-- what the number (i, j) of the corner of w × h is divided by
abbrev pub divisor : ℕ → ℕ → ℕ → ℕ → Float
divisor w h i j = times (scale j (5 - log2 h)) (scale i (5 - log2 w))

-- the forward map, where there is more than one cell
abbrev pub gathered : (ℕ → ℕ → Patch → Patch) → ℕ → ℕ → Patch → Patch
gathered fwd w h lf i j = cond (nat_lt 1 (w * h)) (fwd w h lf i j) (lf i j)

-- the corner, from the LF samples of the varblock's cells
unfoldable pub corner : (ℕ → ℕ → Patch → Patch) → ℕ → Patch → Patch
corner fwd kind lf i j = over (gathered fwd (wide kind) (high kind) lf i j) (divisor (wide kind) (high kind) i j)

-- a block with that corner
unfoldable pub cornered : (ℕ → ℕ → Patch → Patch) → ℕ → Patch → Patch → Patch
cornered fwd kind lf block i j = cond (nat_lt i (wide kind) && nat_lt j (high kind)) (corner fwd kind lf i j) (block i j)

-- what rebuild makes of a block
unfoldable pub block_image : Maps → ℕ → Patch → Patch → Patch
block_image m kind lf block = m.inv kind (cornered m.fwd kind lf block)
