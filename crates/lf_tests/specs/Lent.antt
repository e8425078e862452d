-- Lists that a host lends, as grids of one shape.
use Rattle.std.specs.Prelude.{List, Float}
use Rattle.grid.specs.declared.Shape.{Shape}
use Rattle.grid.specs.declared.xyb.Xyb.{Xyb}
use Rattle.grid.specs.Plane.{Plane}
use Rattle.grid.specs.Channels.{planes}

abbrev pub over : Shape → List Float → Plane Float
over s xs = record { shape = s; list = xs }

abbrev pub all_over : Shape → (x y b : List Float) → Xyb (Plane Float)
all_over s x y b = planes (over s x) (over s y) (over s b)
