-- The flat law in two dimensions, from the one-dimensional one.
use Rattle.std.proofs.Common.{ℕ, zero, suc, ◌+◌, ◌^◌, ◌<◌, ◌≤◌, map, sym, subst, zero-lt-suc, arith, pow_pos}
use lib.Ieee.{Float}
use Rattle.std.specs.List.{range_with_len}
use Rattle.dct.specs.declared.dct_common.DctDirection.TheVariants.{Forward, Inverse}
use Rattle.dct_2d.specs.Flat.{Peak, Even}
use Rattle.floats.specs.Arith.{one}
use Rattle.dct_2d.specs.Plane.{Line, Patch, line, across, down, square, plane}
use Rattle.floats.specs.Same.{Zero, Same, Number, Room}
use Rattle.floats.specs.Arith.{half}
use Rattle.floats.specs.Arith.{plus, minus, times, nought}
use Rattle.dct.specs.Transform.{dct_of}
use Rattle.floats.proofs.Wholes.{zero_of, same_nought, nought_number, nought_room}
use Rattle.dct.proofs.Flat.{at_map, idct_level, fdct_pulse}
use Rattle.floats.proofs.Exact.{zero_times, plus_zero, minus_zero, minus_same, plus_same, twice, room_less, number_twice}
use Rattle.floats.proofs.Factors.{half_finite, times_half, times_one, zero_first, minus_twice, opposite}
use Rattle.floats.proofs.FourTimes.{plus_four_times}

-- a line of n numbers: c first and zeros; c throughout
record Start (n : ℕ) (v : Line) (c : Float) : Type 0 where
  first : Same (v 0) c
  others : (x : ℕ) → 0 < x → x < n → Zero (v x)

abbrev AllSame : ℕ → Line → Float → Type 0
AllSame n v c = (x : ℕ) → x < n → Same (v x) c

zero_at : (n : ℕ) (v : Line) → Start n v nought → (x : ℕ) → x < n → Zero (v x)
zero_at n v s zero l = zero_of (v 0) s.first
zero_at n v s (suc x) l = s.others (suc x) (zero-lt-suc x) l

line_forward : (a : ℕ) (v : Line) (c : Float) → a ≤ 8 → Number c → Room 4 c → AllSame (2 ^ a) v c → Start (2 ^ a) (line Forward a v) c
unfolding line dct_of
line_forward zero v c u n r h = record { first = h 0 (omega arith); others = λ x l m. absurd (omega arith) }
line_forward (suc zero) v c u n r h = record {
  first = times_half (plus (v 0) (v 1)) c n (plus_same (v 0) (v 1) c n (room_less c r) (h 0 (omega arith)) (h 1 (omega arith)));
  others = go;
}
  where
    go : (x : ℕ) → 0 < x → x < 2 → Zero (line Forward 1 v x)
    go zero l m = absurd (omega arith)
    go (suc x) l m = zero_times (minus (v 0) (v 1)) half (minus_same (v 0) (v 1) c n.0 (h 0 (omega arith)) (h 1 (omega arith))) half_finite
line_forward (suc (suc a)) v c u n r h =
    let w = 2 ^ suc (suc a) in
    let s = fdct_pulse (suc (suc a)) (map v (range_with_len 0 w)) c u n r (λ i l. subst (λ (x : Float). Same x c) (sym (at_map v w i l)) (h i l)) in
    record { first = s.first; others = s.others }

line_inverse : (a : ℕ) (v : Line) (c : Float) → a ≤ 8 → Number c → Start (2 ^ a) v c → AllSame (2 ^ a) (line Inverse a v) c
unfolding line dct_of
line_inverse zero v c u n s x l = subst (λ (i : ℕ). Same (v i) c) (omega arith) s.first
line_inverse (suc zero) v c u n s zero l = times_one (plus (v 0) (v 1)) c n (plus_zero (v 0) (v 1) c n s.first (s.others 1 (omega arith) (omega arith)))
line_inverse (suc zero) v c u n s (suc x) l = times_one (minus (v 0) (v 1)) c n (minus_zero (v 0) (v 1) c n s.first (s.others 1 (omega arith) (omega arith)))
line_inverse (suc (suc a)) v c u n s x l =
    let w = 2 ^ suc (suc a) in
    idct_level (suc (suc a)) (map v (range_with_len 0 w)) c u n (record {
      first = subst (λ (x : Float). Same x c) (sym (at_map v w 0 (pow_pos (suc (suc a))))) s.first;
      others = λ i o m. subst Zero (sym (at_map v w i m)) (s.others i o m);
    }) x l

-- ---- rows, then columns; and columns, then rows

-- c in the first column, zeros in the others; c in the first row, zeros in the others
record Column (w h : ℕ) (p : Patch) (c : Float) : Type 0 where
  first : (y : ℕ) → y < h → Same (p 0 y) c
  others : (x y : ℕ) → 0 < x → x < w → y < h → Zero (p x y)

record Row (w h : ℕ) (p : Patch) (c : Float) : Type 0 where
  first : (x : ℕ) → x < w → Same (p x 0) c
  others : (x y : ℕ) → x < w → 0 < y → y < h → Zero (p x y)

across_even : (a h : ℕ) (p : Patch) (c : Float) → a ≤ 8 → Number c → Room 4 c → Even (2 ^ a) h p c → Column (2 ^ a) h (across Forward a p) c
across_even a h p c u n r e = record {
  first = λ y l. (line_forward a (λ i. p i y) c u n r (λ i m. e i y m l)).first;
  others = λ x y o m l. (line_forward a (λ i. p i y) c u n r (λ i k. e i y k l)).others x o m;
}

down_even : (b w : ℕ) (p : Patch) (c : Float) → b ≤ 8 → Number c → Room 4 c → Even w (2 ^ b) p c → Row w (2 ^ b) (down Forward b p) c
down_even b w p c u n r e = record {
  first = λ x l. (line_forward b (λ j. p x j) c u n r (λ j m. e x j l m)).first;
  others = λ x y l o m. (line_forward b (λ j. p x j) c u n r (λ j k. e x j l k)).others y o m;
}

down_column : (b w : ℕ) (p : Patch) (c : Float) → b ≤ 8 → 0 < w → Number c → Room 4 c → Column w (2 ^ b) p c → Peak w (2 ^ b) (down Forward b p) c
down_column b w p c u W n r s = record { first = head.first; others = go }
  where
    head : Start (2 ^ b) (line Forward b (λ j. p 0 j)) c
    head = line_forward b (λ j. p 0 j) c u n r (λ j m. s.first j m)

    go : (x y : ℕ) → x < w → y < 2 ^ b → 0 < x + y → Zero (down Forward b p x y)
    go zero y l m o = head.others y (omega arith) m
    go (suc x) y l m o =
        zero_at (2 ^ b) (line Forward b (λ j. p (suc x) j)) (line_forward b (λ j. p (suc x) j) nought u nought_number nought_room (λ j k. same_nought (p (suc x) j) (s.others (suc x) j (zero-lt-suc x) l k))) y m

across_row : (a h : ℕ) (p : Patch) (c : Float) → a ≤ 8 → Number c → Room 4 c → Row (2 ^ a) h p c → Peak (2 ^ a) h (across Forward a p) c
across_row a h p c u n r s = record { first = head.first; others = go }
  where
    head : Start (2 ^ a) (line Forward a (λ i. p i 0)) c
    head = line_forward a (λ i. p i 0) c u n r (λ i m. s.first i m)

    go : (x y : ℕ) → x < 2 ^ a → y < h → 0 < x + y → Zero (across Forward a p x y)
    go x zero l m o = head.others x (omega arith) l
    go x (suc y) l m o =
        zero_at (2 ^ a) (line Forward a (λ i. p i (suc y))) (line_forward a (λ i. p i (suc y)) nought u nought_number nought_room (λ i k. same_nought (p i (suc y)) (s.others i (suc y) k (zero-lt-suc y) m))) x l

-- the inverse, from a peak to a row or a column, and from there to all
across_peak : (a h : ℕ) (p : Patch) (c : Float) → a ≤ 8 → 0 < h → Number c → Peak (2 ^ a) h p c → Row (2 ^ a) h (across Inverse a p) c
across_peak a h p c u H n s = record { first = λ x l. line_inverse a (λ i. p i 0) c u n (record { first = s.first; others = λ i o m. s.others i 0 m H (omega arith) }) x l; others = go }
  where
    go : (x y : ℕ) → x < 2 ^ a → 0 < y → y < h → Zero (across Inverse a p x y)
    go x y l o m =
        zero_of (across Inverse a p x y) (line_inverse a (λ i. p i y) nought u nought_number (record { first = same_nought (p 0 y) (s.others 0 y (pow_pos a) m (omega arith)); others = λ i q k. s.others i y k m (omega arith) }) x l)

down_peak : (b w : ℕ) (p : Patch) (c : Float) → b ≤ 8 → 0 < w → Number c → Peak w (2 ^ b) p c → Column w (2 ^ b) (down Inverse b p) c
down_peak b w p c u W n s = record { first = λ y l. line_inverse b (λ j. p 0 j) c u n (record { first = s.first; others = λ j o m. s.others 0 j W m (omega arith) }) y l; others = go }
  where
    go : (x y : ℕ) → 0 < x → x < w → y < 2 ^ b → Zero (down Inverse b p x y)
    go x y o l m =
        zero_of (down Inverse b p x y) (line_inverse b (λ j. p x j) nought u nought_number (record { first = same_nought (p x 0) (s.others x 0 l (pow_pos b) (omega arith)); others = λ j q k. s.others x j l k (omega arith) }) y m)

down_row : (b w : ℕ) (p : Patch) (c : Float) → b ≤ 8 → Number c → Row w (2 ^ b) p c → Even w (2 ^ b) (down Inverse b p) c
down_row b w p c u n s x y l m = line_inverse b (λ j. p x j) c u n (record { first = s.first x l; others = λ j o k. s.others x j l o k }) y m

across_column : (a h : ℕ) (p : Patch) (c : Float) → a ≤ 8 → Number c → Column (2 ^ a) h p c → Even (2 ^ a) h (across Inverse a p) c
across_column a h p c u n s x y l m = line_inverse a (λ i. p i y) c u n (record { first = s.first y m; others = λ i o k. s.others i y o k m }) x l

-- ---- two rows of two

square_forward : (p : Patch) (c : Float) → Number c → Room 4 c → Even 2 2 p c → Peak 2 2 (square Forward p) c
square_forward p c n r e = record {
  first = times_half (times (plus (plus (plus (p 0 0) (p 1 0)) (p 0 1)) (p 1 1)) half) c n
      (times_half (plus (plus (plus (p 0 0) (p 1 0)) (p 0 1)) (p 1 1)) (twice c) (number_twice c n (room_less c r)) (plus_four_times (p 0 0) (p 1 0) (p 0 1) (p 1 1) c n r e00 e10 e01 e11));
  others = go;
}
  where
    e00 : Same (p 0 0) c
    e00 = e 0 0 (omega arith) (omega arith)

    e10 : Same (p 1 0) c
    e10 = e 1 0 (omega arith) (omega arith)

    e01 : Same (p 0 1) c
    e01 = e 0 1 (omega arith) (omega arith)

    e11 : Same (p 1 1) c
    e11 = e 1 1 (omega arith) (omega arith)

    z : Zero (minus (p 0 0) (p 1 0))
    z = minus_same (p 0 0) (p 1 0) c n.0 e00 e10

    halves : (x : Float) → Zero x → Zero (times (times x half) half)
    halves x h = zero_times (times x half) half (zero_times x half h half_finite) half_finite

    go : (x y : ℕ) → x < 2 → y < 2 → 0 < x + y → Zero (square Forward p x y)
    go zero zero l m o = absurd (omega arith)
    go (suc x) zero l m o = halves (minus (plus (minus (p 0 0) (p 1 0)) (p 0 1)) (p 1 1)) (minus_same (plus (minus (p 0 0) (p 1 0)) (p 0 1)) (p 1 1) c n.0 (zero_first (minus (p 0 0) (p 1 0)) (p 0 1) c n z e01) e11)
    go zero (suc y) l m o = halves (minus (minus (plus (p 0 0) (p 1 0)) (p 0 1)) (p 1 1)) (minus_same (minus (plus (p 0 0) (p 1 0)) (p 0 1)) (p 1 1) c n.0 (minus_twice (plus (p 0 0) (p 1 0)) (p 0 1) c n (plus_same (p 0 0) (p 1 0) c n (room_less c r) e00 e10) e01) e11)
    go (suc x) (suc y) l m o = halves (plus (minus (minus (p 0 0) (p 1 0)) (p 0 1)) (p 1 1)) (opposite (minus (p 0 0) (p 1 0)) (p 0 1) (p 1 1) c n z e01 e11)

square_inverse : (p : Patch) (c : Float) → Number c → Peak 2 2 p c → Even 2 2 (square Inverse p) c
square_inverse p c n s = go
  where
    z10 : Zero (p 1 0)
    z10 = s.others 1 0 (omega arith) (omega arith) (omega arith)

    z01 : Zero (p 0 1)
    z01 = s.others 0 1 (omega arith) (omega arith) (omega arith)

    z11 : Zero (p 1 1)
    z11 = s.others 1 1 (omega arith) (omega arith) (omega arith)

    ones : (x : Float) → Same x c → Same (times (times x one) one) c
    ones x h = times_one (times x one) c n (times_one x c n h)

    sum : Same (plus (p 0 0) (p 1 0)) c
    sum = plus_zero (p 0 0) (p 1 0) c n s.first z10

    less : Same (minus (p 0 0) (p 1 0)) c
    less = minus_zero (p 0 0) (p 1 0) c n s.first z10

    go : (x y : ℕ) → x < 2 → y < 2 → Same (square Inverse p x y) c
    go zero zero l m = ones (plus (plus (plus (p 0 0) (p 1 0)) (p 0 1)) (p 1 1)) (plus_zero (plus (plus (p 0 0) (p 1 0)) (p 0 1)) (p 1 1) c n (plus_zero (plus (p 0 0) (p 1 0)) (p 0 1) c n sum z01) z11)
    go (suc x) zero l m = ones (minus (plus (minus (p 0 0) (p 1 0)) (p 0 1)) (p 1 1)) (minus_zero (plus (minus (p 0 0) (p 1 0)) (p 0 1)) (p 1 1) c n (plus_zero (minus (p 0 0) (p 1 0)) (p 0 1) c n less z01) z11)
    go zero (suc y) l m = ones (minus (minus (plus (p 0 0) (p 1 0)) (p 0 1)) (p 1 1)) (minus_zero (minus (plus (p 0 0) (p 1 0)) (p 0 1)) (p 1 1) c n (minus_zero (plus (p 0 0) (p 1 0)) (p 0 1) c n sum z01) z11)
    go (suc x) (suc y) l m = ones (plus (minus (minus (p 0 0) (p 1 0)) (p 0 1)) (p 1 1)) (plus_zero (minus (minus (p 0 0) (p 1 0)) (p 0 1)) (p 1 1) c n (minus_zero (minus (p 0 0) (p 1 0)) (p 0 1) c n less z01) z11)

-- ---- the law

rows_first_forward : (a b : ℕ) (p : Patch) (c : Float) → a ≤ 8 → b ≤ 8 → Number c → Room 4 c → Even (2 ^ a) (2 ^ b) p c → Peak (2 ^ a) (2 ^ b) (down Forward b (across Forward a p)) c
rows_first_forward a b p c u w n r e = down_column b (2 ^ a) (across Forward a p) c w (pow_pos a) n r (across_even a (2 ^ b) p c u n r e)

rows_first_inverse : (a b : ℕ) (p : Patch) (c : Float) → a ≤ 8 → b ≤ 8 → Number c → Peak (2 ^ a) (2 ^ b) p c → Even (2 ^ a) (2 ^ b) (down Inverse b (across Inverse a p)) c
rows_first_inverse a b p c u w n e = down_row b (2 ^ a) (across Inverse a p) c w n (across_peak a (2 ^ b) p c u (pow_pos b) n e)

-- one number throughout goes to that number and zeros, for every finite number of which four are below the format's end
pub plane_forward : (a b : ℕ) (p : Patch) (c : Float) → a ≤ 8 → b ≤ 8 → Number c → Room 4 c → Even (2 ^ a) (2 ^ b) p c → Peak (2 ^ a) (2 ^ b) (plane Forward a b p) c
unfolding plane
plane_forward zero b p c u w n r e = rows_first_forward zero b p c u w n r e
plane_forward (suc zero) zero p c u w n r e = rows_first_forward 1 zero p c u w n r e
plane_forward (suc zero) (suc zero) p c u w n r e = square_forward p c n r e
plane_forward (suc zero) (suc (suc b)) p c u w n r e = rows_first_forward 1 (suc (suc b)) p c u w n r e
plane_forward (suc (suc a)) zero p c u w n r e = rows_first_forward (suc (suc a)) zero p c u w n r e
plane_forward (suc (suc a)) (suc zero) p c u w n r e = across_row (suc (suc a)) 2 (down Forward 1 p) c u n r (down_even 1 (2 ^ suc (suc a)) p c w n r e)
plane_forward (suc (suc a)) (suc (suc b)) p c u w n r e = rows_first_forward (suc (suc a)) (suc (suc b)) p c u w n r e

-- and a number with zeros goes to that number throughout, for every finite number
pub plane_inverse : (a b : ℕ) (p : Patch) (c : Float) → a ≤ 8 → b ≤ 8 → Number c → Peak (2 ^ a) (2 ^ b) p c → Even (2 ^ a) (2 ^ b) (plane Inverse a b p) c
unfolding plane
plane_inverse zero b p c u w n e = rows_first_inverse zero b p c u w n e
plane_inverse (suc zero) zero p c u w n e = rows_first_inverse 1 zero p c u w n e
plane_inverse (suc zero) (suc zero) p c u w n e = square_inverse p c n e
plane_inverse (suc zero) (suc (suc b)) p c u w n e = rows_first_inverse 1 (suc (suc b)) p c u w n e
plane_inverse (suc (suc a)) zero p c u w n e = rows_first_inverse (suc (suc a)) zero p c u w n e
plane_inverse (suc (suc a)) (suc zero) p c u w n e = across_column (suc (suc a)) 2 (down Inverse 1 p) c u n (down_peak 1 (2 ^ suc (suc a)) p c w (pow_pos (suc (suc a))) n e)
plane_inverse (suc (suc a)) (suc (suc b)) p c u w n e = rows_first_inverse (suc (suc a)) (suc (suc b)) p c u w n e
