-- The rule of a list of half secants: each is finite and above one half, and each is below the next.
use Rattle.std.specs.Prelude.{ℕ, ◌+◌, ◌<◌, T, List, length, slice_index_or, Float}
use Rattle.std.specs.Float.Ieee.{lt}
use Rattle.std.specs.Float.Ieee.Scale.{finite}
use Rattle.floats.specs.Arith.{half}

pub record Rising (s : List Float) : Type 0 where
  pub whole : (i : ℕ) → i < length s → T (finite (slice_index_or s i half))
  pub above : (i : ℕ) → i < length s → T (lt half (slice_index_or s i half))
  pub rises : (i : ℕ) → i + 1 < length s → T (lt (slice_index_or s i half) (slice_index_or s (i + 1) half))
