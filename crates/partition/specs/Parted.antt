-- A map that varblocks part: each cell is in exactly one of them and holds what its placing wrote, or is in none and empty.
use Rattle.std.specs.Prelude.{◌≡◌, ℕ, ◌+◌, ◌-◌, ◌*◌, ◌<◌, ◌≤◌, Bool, cond, ◌&&◌, ◌⊎◌, List, [], ◌∷◌, nat_le, nat_lt}
use Rattle.kinds.specs.Kinds.{wide, high}
use Rattle.varmap.specs.declared.cells.Record.{Record}
use Rattle.varmap.specs.declared.cells.Record.TheVariants.{Empty}
use Rattle.varmap.specs.Cells.{cell}
use Rattle.frame.specs.Placing.{stamp}
use Rattle.frame.specs.Counts.{filled}
use Rattle.blocks.specs.declared.leads.Varblock.{Varblock}

-- the cell (x, y) lies in the varblock's rectangle
abbrev pub covers : Varblock → ℕ → ℕ → Bool
covers v x y = (nat_le v.x x && nat_lt x (v.x + wide v.kind)) && (nat_le v.y y && nat_lt y (v.y + high v.kind))

-- what the placing of the varblock wrote at (x, y)
abbrev pub written : Varblock → ℕ → ℕ → Record
written v x y = (stamp v.kind v.hf_mul (x - v.x) (y - v.y) (cell Empty)).holds

-- the varblocks that the cell (x, y) lies in
unfoldable pub around : ℕ → ℕ → List Varblock → List Varblock
around x y [] = []
around x y (v ∷ vs) = cond (covers v x y) (v ∷ around x y vs) (around x y vs)

-- the cells of all varblocks, added up
unfoldable pub cells_of : List Varblock → ℕ
cells_of [] = 0
cells_of (v ∷ vs) = wide v.kind * high v.kind + cells_of vs

-- a record that is what the varblocks make it
abbrev pub Held : List Varblock → ℕ → ℕ → Record → Type 0
Held vs x y r = ((around x y vs ≡ []) × (r ≡ Empty)) ⊎ ((v : Varblock) × (around x y vs ≡ v ∷ []) × (r ≡ written v x y))

-- the varblock has cells, all of them in a map of w × h
pub record Within (w h : ℕ) (v : Varblock) : Type 0 where
  pub wide_enough : 1 ≤ wide v.kind
  pub high_enough : 1 ≤ high v.kind
  pub across : v.x + wide v.kind ≤ w
  pub down : v.y + high v.kind ≤ h

abbrev pub Each : {X : Type 0} → (X → Type 0) → List X → Type 0
Each P [] = Unit {0}
Each P (x ∷ xs) = P x × Each P xs

-- v is one of vs
abbrev pub Among : Varblock → List Varblock → Type 0
Among v [] = ⊥
Among v (u ∷ us) = (v ≡ u) ⊎ (Among v us)

pub record Parted (w h : ℕ) (vs : List Varblock) (m : ℕ → ℕ → Record) : Type 0 where
  -- varblocks lie inside the map
  pub inside : Each (Within w h) vs
  -- each cell is in exactly one and holds what its placing wrote, or is in none and empty
  pub held : (x y : ℕ) → x < w → y < h → Held vs x y (m x y)
  -- as many cells are not empty as the varblocks have
  pub sum : filled w h m ≡ cells_of vs
