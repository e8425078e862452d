-- The weights of a channel, with a start for each kind number.
use Rattle.std.specs.Prelude.{◌≡◌, true, false, Option, MatchOption}
use Rattle.grid.specs.declared.xyb.Xyb.{Xyb}
use Rattle.weights.specs.declared.by_kind.ByKind.{ByKind}
use Rattle.weights.specs.Weights.{Table, is_full}

abbrev pub by_kind : ByKind → Table
by_kind w = record { list = w.list.now; starts = w.starts.now }

abbrev pub all_by_kind : Xyb ByKind → Xyb Table
all_by_kind w = record { x = by_kind w.x; y = by_kind w.y; b = by_kind w.b }

-- the weights t by kind, exactly where each kind number has its start
abbrev pub IsByKind : Table → Option ByKind → Type 0
IsByKind t o = MatchOption o (is_full t ≡ false) (λ w. (is_full t ≡ true) × (by_kind w ≡ t))
