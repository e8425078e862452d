-- Where a block lies in a grid of samples.
use Rattle.std.specs.Prelude.{◌*◌}
use Rattle.grid.specs.declared.brush.Area.{Area}
use Rattle.blocks.specs.declared.block.Block.{Block}

-- its samples
abbrev pub area_of : Block → Area
area_of b = record { x = 8 * b.varblock.x; y = 8 * b.varblock.y; width = 8 * b.size.width; height = 8 * b.size.height }

-- its corner
abbrev pub corner_of : Block → Area
corner_of b = record { x = 8 * b.varblock.x; y = 8 * b.varblock.y; width = b.size.width; height = b.size.height }
