-- The leads of a map, and the varblock that a cell belongs to.
use Rattle.std.specs.Prelude.{◌≡◌, ℕ, zero, suc, ◌+◌, ◌-◌, ◌*◌, ◌/◌, ◌%◌, ◌<◌, ◌≤◌, List, [], ◌∷◌, ◌++◌, Some, None, Option}
use Rattle.varmap.specs.declared.cells.Record.{Record}
use Rattle.varmap.specs.declared.cells.Record.TheVariants.{Empty, Lead, Covered}
use Rattle.blocks.specs.declared.leads.Varblock.{Varblock}

abbrev pub varblock : ℕ → ℕ → ℕ → ℕ → Varblock
varblock x y kind mul = record { x = x; y = y; kind = kind; hf_mul = mul }

-- the varblock that a cell at (x, y) leads
abbrev pub leads_to : ℕ → ℕ → Record → Option Varblock
leads_to x y Empty = None
leads_to x y (Lead kind mul) = Some (varblock x y kind mul)
leads_to x y (Covered dx dy) = None

-- the varblock that the cell with this number leads; cells are numbered in row order
abbrev pub lead_at : ℕ → (ℕ → ℕ → Record) → ℕ → Option Varblock
lead_at w m k = leads_to (k % w) (k / w) (m (k % w) (k / w))

-- the number of a varblock's lead
abbrev pub number : ℕ → Varblock → ℕ
number w v = v.y * w + v.x

-- no cell from number a on and before b is a lead
abbrev pub NoLeads : ℕ → (ℕ → ℕ → Record) → ℕ → ℕ → Type 0
NoLeads w m a b = (k : ℕ) → a ≤ k → k < b → lead_at w m k ≡ None

-- v is the first lead from number a on, of n cells
pub record FirstLead (w n : ℕ) (m : ℕ → ℕ → Record) (a : ℕ) (v : Varblock) : Type 0 where
  pub from : a ≤ number w v
  pub below : number w v < n
  pub across : v.x < w
  pub lead : m v.x v.y ≡ Lead v.kind v.hf_mul
  pub first : NoLeads w m a (number w v)

-- v is a varblock of the map
pub record OfMap (w h : ℕ) (m : ℕ → ℕ → Record) (v : Varblock) : Type 0 where
  pub across : v.x < w
  pub down : v.y < h
  pub lead : m v.x v.y ≡ Lead v.kind v.hf_mul

-- what the leaf answers
abbrev pub NextLead : ℕ → ℕ → (ℕ → ℕ → Record) → ℕ → Option Varblock → Type 0
NextLead w h m a None = NoLeads w m a (w * h)
NextLead w h m a (Some v) = FirstLead w (w * h) m a v

-- the leads among the first n cells, in row order
abbrev pub one_or_none : Option Varblock → List Varblock
one_or_none None = []
one_or_none (Some v) = v ∷ []

unfoldable pub leads_among : ℕ → (ℕ → ℕ → Record) → ℕ → List Varblock
leads_among w m zero = []
leads_among w m (suc n) = leads_among w m n ++ one_or_none (lead_at w m n)

-- the leads of a map
unfoldable pub leads : ℕ → ℕ → (ℕ → ℕ → Record) → List Varblock
leads w h m = leads_among w m (w * h)

-- the varblock that a cell belongs to: the one that it leads, or that the cell leads which it points at
abbrev pub held_by : (ℕ → ℕ → Record) → ℕ → ℕ → Record → Option Varblock
held_by m x y Empty = None
held_by m x y (Lead kind mul) = Some (varblock x y kind mul)
held_by m x y (Covered dx dy) = leads_to (x - dx) (y - dy) (m (x - dx) (y - dy))

unfoldable pub holder : (ℕ → ℕ → Record) → ℕ → ℕ → Option Varblock
holder m x y = held_by m x y (m x y)
