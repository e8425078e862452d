-- A list after each element inside a grid was replaced, and no other.
use Rattle.std.specs.Prelude.{ℕ, ◌+◌, ◌-◌, Bool, cond, ◌&&◌, List, [], ◌∷◌, ◌==◌, nat_le, nat_lt}
use Rattle.grid.specs.declared.Shape.{Shape}
use Rattle.grid.specs.Index.{index, column, row}

-- each element x at a place i becomes f i x
unfoldable pub each : {X : Type 0} → (ℕ → X → X) → ℕ → List X → List X
each f i [] = []
each f i (x ∷ xs) = f i x ∷ each f (i + 1) xs

-- the test whether an element inside lies at the place i
unfoldable pub held : Shape → ℕ → Bool
held s i =
    (nat_lt (column s i) s.width && nat_lt (row s i) s.height) && index s (column s i) (row s i) == i

-- what an element at the place i becomes
unfoldable pub repaint : {X : Type 0} → Shape → (ℕ → ℕ → X → X) → ℕ → X → X
repaint s f i old = cond (held s i) (f (column s i) (row s i) old) old

-- the element old at (x, y) inside becomes f x y old, and every other element stays
unfoldable pub painted : {X : Type 0} → Shape → (ℕ → ℕ → X → X) → List X → List X
painted s f xs = each (repaint s f) 0 xs

-- only the w columns from x on and the h rows from y on change; the function takes the place in that patch
abbrev pub patch : {X : Type 0} → ℕ → ℕ → ℕ → ℕ → (ℕ → ℕ → X → X) → ℕ → ℕ → X → X
patch x y w h f p q old =
    cond ((nat_le x p && nat_lt p (x + w)) && (nat_le y q && nat_lt q (y + h))) (f (p - x) (q - y) old) old

-- every element becomes v
abbrev pub solid : {X : Type 0} → X → ℕ → ℕ → X → X
solid v x y old = v
