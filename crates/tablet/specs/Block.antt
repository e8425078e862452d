-- What the host's calls answer, and what they write.
use Rattle.std.specs.Prelude.{ℕ, ◌*◌, Bool, cond, ◌&&◌, List, length, ◌==◌, nat_le, nat_lt}
use Rattle.grid.specs.declared.Shape.{Shape}
use Rattle.kinds.specs.Kinds.{wide, high}
use Rattle.dct_2d.specs.Replaced.{replaced}
use Rattle.transform.specs.Maps.{inverse}
use Rattle.tablet.specs.Bytes.{decoded, encoded}

-- the kinds whose blocks a host may hand over: those that are carried, of at most 16,384 samples
abbrev pub accepted : ℕ → Bool
accepted kind = nat_lt kind 24 && nat_le 1 (wide kind)

-- the bytes of a block, none for a kind that is not accepted
abbrev pub block_bytes : ℕ → ℕ
block_bytes kind = cond (nat_lt kind 24) (256 * (wide kind * high kind)) 0

-- the numbers of reasons
abbrev pub shape_reason : ℕ
shape_reason = 2

abbrev pub kind_reason : ℕ
kind_reason = 5

-- 0 where the block is transformed
abbrev pub answer : ℕ → ℕ → ℕ
answer kind n = cond (accepted kind) (cond (n == block_bytes kind) 0 shape_reason) kind_reason

-- the block in row order
abbrev pub rows : ℕ → Shape
rows kind = record { width = 8 * wide kind; height = 8 * high kind; stride = 8 * wide kind }

-- the bytes of the inverse of the block
abbrev pub image : ℕ → List ℕ → List ℕ
image kind bs = encoded (replaced (inverse kind) (rows kind) (decoded bs))

-- what the call leaves: all bytes as they were where it refuses
abbrev pub written : ℕ → List ℕ → List ℕ
written kind bs = cond (accepted kind && length bs == block_bytes kind) (image kind bs) bs
