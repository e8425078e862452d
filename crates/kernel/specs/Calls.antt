-- What a call on a patch may do.
use Rattle.std.specs.Prelude.{◌≡◌, ℕ, List, length, Float}
use Rattle.std.specs.Borrow.{MutBor}
use Rattle.grid.specs.declared.Shape.{Shape}
use Rattle.grid.specs.Index.{Lawful}
use Rattle.dct_2d.specs.Plane.{Patch}
use Rattle.dct_2d.specs.Replaced.{replaced}

-- which lists a call may leave, from the list of a patch, its shape and the scratch
abbrev pub Outcome : Type 1
Outcome = MutBor (List Float) → Shape → MutBor (List Float) → Unit {0} → MutBor (List Float) → MutBor (List Float) → Type 0

-- each call on a lawful patch of the shape s, with so many numbers of scratch, replaces the patch by its image
abbrev pub Replaces : Outcome → Shape → ℕ → (Patch → Patch) → Type 0
Replaces outcome s room image =
    (list scratch list' scratch' : MutBor (List Float)) → Lawful s (length list.now) → length scratch.now ≡ room
    → outcome list s scratch tt list' scratch' → list'.now ≡ replaced image s list.now
