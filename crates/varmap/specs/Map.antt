-- When a map is lawful. A map is w cells wide and h cells high; m x y is the record in column x and row y.
use Rattle.std.specs.Prelude.{◌≡◌, ℕ, zero, suc, ◌+◌, ◌-◌, ◌<◌, Bool, true, false, ◌&&◌, ◌||◌, Some, None, Option, ◌==◌, nat_le, nat_lt}
use Rattle.kinds.specs.declared.Size.{Size}
use Rattle.varmap.specs.declared.cells.Record.{Record}
use Rattle.varmap.specs.declared.cells.Record.TheVariants.{Empty, Lead, Covered}
use Rattle.refusal.specs.declared.Reason.TheVariants as reason
use Rattle.kinds.specs.Kinds.{size_of}
use Rattle.refusal.specs.Verdicts.{Verdict, refusal, checked_cells}

-- a test of every cell of w × h
unfoldable pub all_below : (ℕ → Bool) → ℕ → Bool
all_below p zero = true
all_below p (suc n) = all_below p n && p n

unfoldable pub all_cells : ℕ → ℕ → (ℕ → ℕ → Bool) → Bool
all_cells w h p = all_below (λ y. all_below (λ x. p x y) w) h

-- the record, (i, j) from a lead, is that lead itself or points back to it
abbrev pub points_back : Record → ℕ → ℕ → Bool
points_back Empty i j = i == 0 && j == 0
points_back (Lead kind mul) i j = i == 0 && j == 0
points_back (Covered dx dy) i j = (i == 0 && j == 0) || (dx == i && dy == j)

-- what the multiplier of a lead may be: the one place that says it
abbrev pub in_range : ℕ → Bool
in_range mul = nat_le 1 mul && nat_le mul 255

-- the cell (i, j) of the rectangle at (x, y) is its lead or points back to it
abbrev pub back_at : (ℕ → ℕ → Record) → ℕ → ℕ → ℕ → ℕ → Bool
back_at m x y i j = points_back (m (x + i) (y + j)) i j

-- each other cell of the rectangle points back to the lead at (x, y)
unfoldable pub all_back : (ℕ → ℕ → Record) → ℕ → ℕ → Size → Bool
all_back m x y z = all_cells z.width z.height (back_at m x y)

-- the kind is carried, the multiplier in range, the rectangle lies in the map, and its cells point back
abbrev pub lead_of : ℕ → ℕ → (ℕ → ℕ → Record) → ℕ → ℕ → ℕ → Option Size → Bool
lead_of w h m x y mul None = false
lead_of w h m x y mul (Some z) = in_range mul && (nat_le (x + z.width) w && (nat_le (y + z.height) h && all_back m x y z))

-- a covered cell points at a lead whose rectangle reaches it
abbrev pub within : ℕ → ℕ → Option Size → Bool
within dx dy None = false
within dx dy (Some z) = nat_lt dx z.width && nat_lt dy z.height

abbrev pub reaches : ℕ → ℕ → Record → Bool
reaches dx dy Empty = false
reaches dx dy (Lead kind mul) = within dx dy (size_of kind)
reaches dx dy (Covered i j) = false

abbrev pub covered_ok : (ℕ → ℕ → Record) → ℕ → ℕ → ℕ → ℕ → Bool
covered_ok m x y dx dy = nat_le dx x && (nat_le dy y && reaches dx dy (m (x - dx) (y - dy)))

abbrev pub cell_as : ℕ → ℕ → (ℕ → ℕ → Record) → ℕ → ℕ → Record → Bool
cell_as w h m x y Empty = true
cell_as w h m x y (Lead kind mul) = lead_of w h m x y mul (size_of kind)
cell_as w h m x y (Covered dx dy) = covered_ok m x y dx dy

-- the cell (x, y) is lawful
unfoldable pub cell_ok : ℕ → ℕ → (ℕ → ℕ → Record) → ℕ → ℕ → Bool
cell_ok w h m x y = cell_as w h m x y (m x y)

-- the first unlawful cell in row order
unfoldable pub map_checked : ℕ → ℕ → (ℕ → ℕ → Record) → Verdict
map_checked w h m = checked_cells w h (cell_ok w h m) (refusal reason.Map 0)

abbrev pub LawfulMap : ℕ → ℕ → (ℕ → ℕ → Record) → Type 0
LawfulMap w h m = (x y : ℕ) → x < w → y < h → cell_ok w h m x y ≡ true
