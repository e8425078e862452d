-- When the calls of a kernel work.
use Rattle.std.specs.Prelude.{ℕ, ◌*◌, Bool, ◌&&◌, nat_le}
use Rattle.grid.specs.declared.Shape.{Shape}
use Rattle.grid.specs.Index.{lawful, sized}
use Rattle.kinds.specs.Kinds.{wide, high}
use Rattle.kernel.specs.Maps.{side}

-- a grid in a list of n numbers, with so many numbers of scratch
abbrev pub forwards : Shape → ℕ → ℕ → Bool
forwards s n room = (lawful s n && (side s.width && side s.height)) && nat_le 512 room

-- a block of its kind
abbrev pub inverts : ℕ → Shape → ℕ → ℕ → Bool
inverts kind s n room = sized (8 * wide kind) (8 * high kind) s n && nat_le 512 room
