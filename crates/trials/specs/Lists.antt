-- The lists of three channels.
use Rattle.std.specs.Prelude.{◌≡◌, ℕ, vec_len}
use Rattle.std.specs.declared.vec.Vec.{Vec}
use Rattle.grid.specs.declared.xyb.Xyb.{Xyb}

-- each of the three has n elements
abbrev pub EachLong : {T A : Type 0} → Xyb (Vec T A) → ℕ → Type 0
EachLong lists n = (vec_len lists.x ≡ n) × (vec_len lists.y ≡ n) × (vec_len lists.b ≡ n)
