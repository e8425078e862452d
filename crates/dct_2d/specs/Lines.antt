-- Rows and columns of a patch as numbered lines: where the number k of the line i lies, and what becomes of it.
use Rattle.std.specs.Prelude.{ℕ, ◌+◌, cond, ◌&&◌, List, ◌==◌, nat_lt, Float}
use Rattle.dct.specs.declared.dct_common.DctDirection.{DctDirection}
use Rattle.dct_2d.specs.declared.lines.Axis.{Axis}
use Rattle.dct_2d.specs.declared.lines.Axis.TheVariants.{Rows, Columns}
use Rattle.grid.specs.declared.Shape.{Shape}
use Rattle.grid.specs.Index.{index}
use Rattle.dct_2d.specs.Plane.{Patch, across, down}
use Rattle.dct.specs.Transform.{at}

-- the place k of the line i lies at (fore i k, back i k); the place (x, y) is the place `back x y` of the line `fore x y`
abbrev pub fore : Axis → ℕ → ℕ → ℕ
fore Rows i k = k
fore Columns i k = i

abbrev pub back : Axis → ℕ → ℕ → ℕ
back Rows i k = i
back Columns i k = k

-- the number k of the line i in a list
abbrev pub read_line : Shape → Axis → ℕ → List Float → ℕ → Float
read_line s ax i xs k = at xs (index s (fore ax i k) (back ax i k))

-- the number j from (x, y) on
abbrev pub read_row : Shape → ℕ → ℕ → List Float → ℕ → Float
read_row s x y xs j = read_line s Columns (x + j) xs y

-- each line transformed
abbrev pub lined : DctDirection → Axis → ℕ → Patch → Patch
lined d Rows k p = across d k p
lined d Columns k p = down d k p

-- the line i becomes a list's numbers, up to the place k
abbrev pub drawn : Axis → ℕ → ℕ → List Float → ℕ → ℕ → Float → Float
drawn ax i k c x y old = cond (fore ax x y == i && nat_lt (back ax x y) k) (at c (back ax x y)) old

-- the lines below i become those of a patch
abbrev pub lined_to : Axis → ℕ → Patch → ℕ → ℕ → Float → Float
lined_to ax i p x y old = cond (nat_lt (fore ax x y) i) (p x y) old
