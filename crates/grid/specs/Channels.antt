-- Three grids by value, one for each channel.
use Rattle.std.specs.Prelude.{◌≡◌, ℕ, Bool, true, false, ◌&&◌, Option, MatchOption}
use Rattle.grid.specs.declared.Grid.{Grid}
use Rattle.grid.specs.declared.View.{View}
use Rattle.grid.specs.declared.canvas.Raster.{Raster}
use Rattle.grid.specs.declared.xyb.Xyb.{Xyb}
use Rattle.grid.specs.Plane.{Plane, lent, viewed, seen, fitting}

abbrev pub planes : {A : Type 0} → (x y b : Plane A) → Xyb (Plane A)
planes x y b = record { x = x; y = y; b = b }

abbrev pub all_lent : {A : Type 0} → Xyb (Grid A) → Xyb (Plane A)
all_lent g = planes (lent g.x) (lent g.y) (lent g.b)

abbrev pub all_viewed : {A : Type 0} → Xyb (View A) → Xyb (Plane A)
all_viewed g = planes (viewed g.x) (viewed g.y) (viewed g.b)

abbrev pub all_seen : {A : Type 0} → Xyb (Raster A) → Xyb (Plane A)
all_seen g = planes (seen g.x) (seen g.y) (seen g.b)

-- each is a lawful grid of w × h
abbrev pub all_fit : {A : Type 0} → ℕ → ℕ → Xyb (Plane A) → Bool
all_fit w h p = fitting w h p.x && fitting w h p.y && fitting w h p.b

-- the three as lawful grids of w × h, where they are that
abbrev pub AreRasters : {A : Type 0} → ℕ → ℕ → Xyb (Plane A) → Option (Xyb (Raster A)) → Type 0
AreRasters w h p o = MatchOption o (all_fit w h p ≡ false) (λ r. (all_fit w h p ≡ true) × (all_seen r ≡ p))
