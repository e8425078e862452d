-- LF smooth: each cell within the border, from the old samples around it in all three channels.
use Rattle.std.specs.Prelude.{◌≡◌, ℕ, ◌+◌, ◌-◌, ◌*◌, ◌^◌, ◌<◌, ◌≤◌, Bool, true, false, cond, ◌&&◌, ◌||◌, List, length, Ok, ◌==◌, nat_le, nat_lt, refl, Float}
use Rattle.std.specs.Float.Ieee.{add, sub, mul, div, lt, of_bits, round}
use Rattle.std.specs.Float.{float_is_finite, float_with_sign, float_max, binary32}
use Rattle.grid.specs.declared.Shape.{Shape}
use Rattle.grid.specs.declared.xyb.Xyb.{Xyb}
use Rattle.grid.specs.Index.{Lawful}
use Rattle.grid.specs.Painted.{painted}
use Rattle.grid.specs.Plane.{Plane, sample}
use Rattle.refusal.specs.declared.Reason.TheVariants as reason
use Rattle.refusal.specs.Verdicts.{Answer, demand, and_then}
use Rattle.frame.specs.declared.stages.Stage.{Stage}
use Rattle.frame.specs.Stages.{stage_number}
use Rattle.grid.specs.Channels.{all_fit}

-- ---- what is answered

abbrev pub lf_smooth_turn : Stage → Bool
lf_smooth_turn st = stage_number st == 1 || stage_number st == 2

-- finite and above 0
abbrev pub step_ok : Float → Bool
step_ok step = float_is_finite step && lt (of_bits binary32 0) step

abbrev pub steps_ok : Xyb Float → Bool
steps_ok steps = step_ok steps.x && step_ok steps.y && step_ok steps.b

-- the rows of the table in their order, from whether the LF grids fit; scratch has `room` numbers
abbrev pub lf_smooth_judged : ℕ → ℕ → Stage → Bool → Xyb Float → ℕ → Answer
lf_smooth_judged w8 h8 st fit steps room =
    and_then (demand (lf_smooth_turn st) reason.Turn)
    (and_then (demand fit reason.Shape)
    (and_then (demand (nat_le (3 * (w8 * h8)) room) reason.Scratch) (and_then (demand (steps_ok steps) reason.Float) (Ok 0))))

-- what LF smooth answers
abbrev pub lf_smooth_answer : ℕ → ℕ → Stage → Xyb (Plane Float) → Xyb Float → ℕ → Answer
lf_smooth_answer w8 h8 st lf steps room = lf_smooth_judged w8 h8 st (all_fit w8 h8 lf) steps room

-- ---- what is written

-- the weights of a cell, of the four at its sides and of the four at its corners
abbrev pub scale_self : Float
scale_self = of_bits binary32 0x3d56_1173

abbrev pub scale_side : Float
scale_side = of_bits binary32 0x3e50_5590

abbrev pub scale_diag : Float
scale_diag = of_bits binary32 0x3d09_2563

pub scales_are : (scale_self ≡ round binary32 false 52262735 (10 ^ 9)) × (scale_side ≡ round binary32 false 2034514 (10 ^ 7)) × (scale_diag ≡ round binary32 false 3348292 (10 ^ 8))
unfolding of_bits round
scales_are = (refl, refl, refl)

abbrev pub half : Float
half = of_bits binary32 0x3f00_0000

abbrev pub three : Float
three = of_bits binary32 0x4040_0000

abbrev pub four : Float
four = of_bits binary32 0x4080_0000

pub numbers_are : (half ≡ round binary32 false 1 2) × (three ≡ round binary32 false 3 1) × (four ≡ round binary32 false 4 1)
unfolding of_bits round
numbers_are = (refl, refl, refl)

-- above and below (x, y)
abbrev pub up_down : Plane Float → ℕ → ℕ → Float
up_down p x y = add binary32 (sample p x (y - 1)) (sample p x (y + 1))

-- the weighted average of (x, y) and the eight around it
abbrev pub average : Plane Float → ℕ → ℕ → Float
average p x y =
    let side = add binary32 (add binary32 (sample p (x - 1) y) (sample p (x + 1) y)) (up_down p x y) in
    let diag = add binary32 (up_down p (x - 1) y) (up_down p (x + 1) y) in
    add binary32 (add binary32 (mul binary32 (sample p x y) scale_self) (mul binary32 side scale_side)) (mul binary32 diag scale_diag)

-- from the sample to the average
abbrev pub change : Plane Float → ℕ → ℕ → Float
change p x y = sub binary32 (average p x y) (sample p x y)

-- a change in steps
abbrev pub gap : Float → Float → Float
gap step d = div binary32 (float_with_sign false d) step

-- how much of its change a cell makes, from the changes of its three samples: none where one of them is large
abbrev pub share_of : Xyb Float → (x y b : Float) → Float
share_of steps x y b =
    let most_gap = float_max (float_max (float_max half (gap steps.x x)) (gap steps.y y)) (gap steps.b b) in
    float_max (sub binary32 three (mul binary32 four most_gap)) (of_bits binary32 0)

unfoldable pub share : Xyb (Plane Float) → Xyb Float → ℕ → ℕ → Float
share lf steps x y = share_of steps (change lf.x x y) (change lf.y x y) (change lf.b x y)

-- the sample at (x, y) of the channel p, smoothed
unfoldable pub smoothed : Xyb (Plane Float) → Xyb Float → Plane Float → ℕ → ℕ → Float → Float
smoothed lf steps p x y old = add binary32 (mul binary32 (change p x y) (share lf steps x y)) (sample p x y)

-- (x, y) lies within the border of w × h cells: so none does where w or h is at most 2
abbrev pub inner : ℕ → ℕ → ℕ → ℕ → Bool
inner w h x y = (nat_le 1 x && nat_lt (x + 1) w) && (nat_le 1 y && nat_lt (y + 1) h)

-- f within the border, which stays
abbrev pub within_border : ℕ → ℕ → (ℕ → ℕ → Float → Float) → ℕ → ℕ → Float → Float
within_border w h f x y old = cond (inner w h x y) (f x y old) old

-- a channel's list after an accepted LF smooth
abbrev pub lf_smoothed : ℕ → ℕ → Xyb (Plane Float) → Xyb Float → Plane Float → List Float
lf_smoothed w8 h8 lf steps p = painted p.shape (within_border w8 h8 (smoothed lf steps p)) p.list

-- ---- on the way, in scratch

-- grids of one size
pub record SameSize (s t : Shape) : Type 0 where
  pub width : s.width ≡ t.width
  pub height : s.height ≡ t.height

-- p is lawful, and as large as s
pub record Fits (p : Plane Float) (s : Shape) : Type 0 where
  pub lawful : Lawful p.shape (length p.list)
  pub width : p.shape.width ≡ s.width
  pub height : p.shape.height ≡ s.height

pub record AllFit (p : Xyb (Plane Float)) (s : Shape) : Type 0 where
  pub x : Fits p.x s
  pub y : Fits p.y s
  pub b : Fits p.b s

-- p has f at each place within the border
unfoldable pub Holds : ℕ → ℕ → Plane Float → (ℕ → ℕ → Float) → Type 0
Holds w h p f = (x y : ℕ) → inner w h x y ≡ true → sample p x y ≡ f x y

-- how much of its change a cell makes, where the changes of X and Y lie in grids of their own
abbrev pub shared : Xyb Float → (x y b : Plane Float) → ℕ → ℕ → Float
shared steps x y b i j = share_of steps (sample x i j) (sample y i j) (change b i j)

-- the part `share` of the change is added
abbrev pub moved : (changes shares : Plane Float) → ℕ → ℕ → Float → Float
moved changes shares x y old = add binary32 (mul binary32 (sample changes x y) (sample shares x y)) old

-- (x, y) lies in a grid of the shape, with a columns on either side and b rows above and below
pub record Around (s : Shape) (a b x y : ℕ) : Type 0 where
  pub left : a ≤ x
  pub right : x + a < s.width
  pub top : b ≤ y
  pub bottom : y + b < s.height
