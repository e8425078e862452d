-- The rows before y are read.
use Rattle.std.proofs.Common.{◌≡◌, ℕ, ◌+◌, ◌*◌, ◌<◌, length}
use Rattle.grid.specs.Index.{index}
use Rattle.dct.specs.Transform.{at}
use Rattle.cells.proofs.cell.load.Given as goal

abbrev pub invariant-loop-y : goal.invariant-loop-y
invariant-loop-y l =
    record {
      len : length l.block ≡ 64;
      rows : (p q : ℕ) → p < 8 → q < l.y → at l.block (q * 8 + p) ≡ at l.raster.list.now (index l.raster.shape p q);
    }
