-- The maps of the two kernels.
use Rattle.std.specs.Prelude.{ℕ, ◌*◌, Bool, cond, ◌&&◌, ◌||◌, ◌==◌, nat_le, Float}
use Rattle.kinds.specs.Kinds.{wide, high}
use Rattle.dct.specs.declared.dct_common.DctDirection.TheVariants.{Forward, Inverse}
use Rattle.dct_2d.specs.Plane.{Patch, plane}
use Rattle.kernel.specs.Corner.{log2}
use Rattle.cells.specs.Cells.{dct2, hornuss, dct4, dct4x8, dct8x4, dct8}

-- the forward map of both, from the sides
abbrev pub forward : ℕ → ℕ → Patch → Patch
forward w h p = plane Forward (log2 w) (log2 h) p

-- ---- the mean kernel

-- one number throughout
abbrev pub level : Float → Patch
level c x y = c

-- every sample gets the corner's first number
abbrev pub mean : ℕ → Patch → Patch
mean kind p = level (p 0 0)

-- ---- the crate kernel

-- the kinds of one cell
abbrev pub single : ℕ → Bool
single kind = nat_le kind 3 || (nat_le 12 kind && nat_le kind 13)

-- Hornuss, Dct2, Dct4, Dct4x8, Dct8x4, Dct8
abbrev pub cell_inverse : ℕ → Patch → Patch
cell_inverse kind p =
    cond (kind == 1) (hornuss p)
    (cond (kind == 2) (dct2 p) (cond (kind == 3) (dct4 p) (cond (kind == 12) (dct4x8 p) (cond (kind == 13) (dct8x4 p) (dct8 p)))))

-- all other kinds are plain DCTs
unfoldable pub inverse : ℕ → Patch → Patch
inverse kind p =
    cond (single kind) (cell_inverse kind p) (plane Inverse (log2 (8 * wide kind)) (log2 (8 * high kind)) p)
