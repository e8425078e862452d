-- Strips: eight lines side by side in a list, the number k of the line x at 8k + x.
use Rattle.std.specs.Prelude.{◌≡◌, ℕ, zero, suc, ◌+◌, ◌*◌, ◌<◌, ◌≤◌, List, [], ◌∷◌, map, length, Float}
use Rattle.std.specs.List.{range_with_len}
use Rattle.floats.specs.Arith.{plus, minus, times}
use Rattle.dct.specs.Secants.{root_two}
use Rattle.dct.specs.Sides.{Long}
use Rattle.dct.specs.Transform.{at}

-- the number k of the line x
abbrev pub lane : List Float → ℕ → ℕ → Float
lane v x k = at v (k * 8 + x)

-- the n numbers of the line x
abbrev pub lanes : ℕ → List Float → ℕ → List Float
lanes n v x = map (lane v x) (range_with_len 0 n)

-- the first m numbers of the row k became f, and all others are as they were
pub record Rowed (k m : ℕ) (f : ℕ → Float) (v v' : List Float) : Type 0 where
  pub len : length v' ≡ length v
  pub here : (x : ℕ) → x < m → lane v' x k ≡ f x
  pub there : (x j : ℕ) → x < 8 → (j ≡ k → m ≤ x) → lane v' x j ≡ lane v x j

-- the same of two rows
pub record Paired (i k m : ℕ) (f g : ℕ → Float) (v v' : List Float) : Type 0 where
  pub len : length v' ≡ length v
  pub first : (x : ℕ) → x < m → lane v' x i ≡ f x
  pub second : (x : ℕ) → x < m → lane v' x k ≡ g x
  pub there : (x j : ℕ) → x < 8 → (j ≡ i → m ≤ x) → (j ≡ k → m ≤ x) → lane v' x j ≡ lane v x j

-- the first m numbers of the line x became f, and all others are as they were
pub record Laned (x m : ℕ) (f : ℕ → Float) (v v' : List Float) : Type 0 where
  pub len : length v' ≡ length v
  pub here : (k : ℕ) → k < m → lane v' x k ≡ f k
  pub there : (y j : ℕ) → y < 8 → (y ≡ x → m ≤ j) → lane v' y j ≡ lane v y j

-- the odd places of a line, each plus the odd before it, the first times √2
abbrev pub odd_lane : List Float → ℕ → ℕ → Float
odd_lane v x zero = times (lane v x 1) root_two
odd_lane v x (suc i) = plus (lane v x (2 * suc i + 1)) (lane v x (2 * i + 1))

-- what a row's numbers become in the end
abbrev pub sum_lane : Float → List Float → List Float → ℕ → ℕ → Float
sum_lane q e o i x = plus (lane e x i) (times (lane o x i) q)

abbrev pub difference_lane : Float → List Float → List Float → ℕ → ℕ → Float
difference_lane q e o i x = minus (lane e x i) (times (lane o x i) q)

-- ---- eight numbers

abbrev pub eight : (ℕ → Float) → List Float
eight f = f 0 ∷ f 1 ∷ f 2 ∷ f 3 ∷ f 4 ∷ f 5 ∷ f 6 ∷ f 7 ∷ []

abbrev pub sums : List Float → List Float → List Float
sums a b = eight (λ x. plus (at a x) (at b x))

abbrev pub differences : List Float → List Float → List Float
differences a b = eight (λ x. minus (at a x) (at b x))

abbrev pub scaled : List Float → Float → List Float
scaled a q = eight (λ x. times (at a x) q)

-- a strip of `len` numbers with eight lines of n, and scratch that is as long
pub record Striped (n len scratch : ℕ) : Type 0 where
  pub long : Long n
  pub whole : len ≡ n * 8
  pub room : len ≤ scratch
