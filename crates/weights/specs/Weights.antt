-- The weights of a channel: a list, and where each kind's weights start in it.
use Rattle.std.specs.Prelude.{ℕ, ◌+◌, ◌*◌, Bool, true, not, cond, ◌&&◌, List, length, Some, None, Option, ◌==◌, nat_le, slice_index, slice_index_or, slice_range, Float}
use Rattle.std.specs.Float.{float_is_finite, nan}
use Rattle.grid.specs.declared.xyb.Xyb.{Xyb}
use Rattle.kinds.specs.Kinds.{wide, high}
use Rattle.refusal.specs.declared.Refusal.{Refusal}
use Rattle.refusal.specs.declared.Reason.TheVariants as reason
use Rattle.refusal.specs.Verdicts.{Verdict, refusal, checked_from, checked_cells}
use Rattle.varmap.specs.declared.cells.Record.{Record}
use Rattle.varmap.specs.declared.cells.Record.TheVariants.{Empty, Lead, Covered}
use Rattle.weights.specs.declared.Weights.{Weights}

-- the weights of a channel by value
pub record Table : Type 0 where
  pub list : List Float
  pub starts : List ℕ

abbrev pub table : Weights → Table
table w = record { list = w.list.now; starts = w.starts.now }

abbrev pub tables : Xyb Weights → Xyb Table
tables w = record { x = table w.x; y = table w.y; b = table w.b }

abbrev pub start : Table → ℕ → ℕ
start t kind = slice_index t.starts kind

-- a start for each of the 27 kind numbers
abbrev pub is_full : Table → Bool
is_full t = length t.starts == 27

-- where the weights of a kind start, if it has any
abbrev pub start_of : Table → ℕ → Option ℕ
start_of t kind = cond (start t kind == 4294967295) None (Some (start t kind))

-- the weights of a kind, one for each sample of its block, row by row
abbrev pub weights_of : Table → ℕ → List Float
weights_of t kind = slice_range t.list (start t kind) (start t kind + 64 * (wide kind * high kind))

-- the weight of the sample (i, j) of a block of this kind
unfoldable pub weight : Table → ℕ → ℕ → ℕ → Float
weight t kind i j = slice_index_or t.list (start t kind + j * (8 * wide kind) + i) nan

-- ---- the first weight that is not finite

abbrev pub finite_at : List Float → ℕ → Bool
finite_at ws k = float_is_finite (slice_index_or ws k nan)

abbrev pub not_finite : ℕ → ℕ → Refusal
not_finite channel k = refusal reason.Float channel k 0

unfoldable pub weights_finite : ℕ → List Float → Verdict
weights_finite channel ws = checked_from (finite_at ws) (not_finite channel) (length ws) 0

-- ---- the first lead that has no weights

-- a start is given, and `count` weights from there on do not pass the end of a list of `len`
abbrev pub are_there : ℕ → ℕ → ℕ → Bool
are_there start count len = not (start == 4294967295) && nat_le (start + count) len

-- the kind has its weights
unfoldable pub weighs : Table → ℕ → Bool
weighs t kind = are_there (start t kind) (64 * (wide kind * high kind)) (length t.list)

-- a lead's kind has its weights; a cell that is no lead needs none
abbrev pub weighed : Table → Record → Bool
weighed t Empty = true
weighed t (Lead kind mul) = weighs t kind
weighed t (Covered dx dy) = true

abbrev pub weighed_at : Table → (ℕ → ℕ → Record) → ℕ → ℕ → Bool
weighed_at t m x y = weighed t (m x y)

unfoldable pub placed_weighed : ℕ → ℕ → (ℕ → ℕ → Record) → ℕ → Table → Verdict
placed_weighed w h m channel t = checked_cells w h (weighed_at t m) (refusal reason.Weight channel)
