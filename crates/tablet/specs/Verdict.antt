-- What the inverse of a block answers: done, or a reason.
use Rattle.std.specs.Prelude.{ℕ, cond, Ok, Err, Result, ◌==◌}
use Rattle.refusal.specs.declared.Reason.{Reason}
use Rattle.refusal.specs.declared.Reason.TheVariants.{Shape, Kind}
use Rattle.tablet.specs.Block.{accepted, block_bytes}

abbrev pub verdict : ℕ → ℕ → Result (Unit {0}) Reason
verdict kind n = cond (accepted kind) (cond (n == block_bytes kind) (Ok tt) (Err Shape)) (Err Kind)
