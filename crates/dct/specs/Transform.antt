-- The one-dimensional transforms of a list of 2 ^ k floats, operation by operation.
use Rattle.std.specs.Prelude.{ℕ, zero, suc, ◌+◌, ◌-◌, ◌*◌, ◌/◌, ◌%◌, ◌^◌, cond, List, [], ◌∷◌, map, ◌==◌, nat_lt, slice_index_or, Float}
use Rattle.std.specs.Float.{nan}
use Rattle.std.specs.List.{range_with_len}
use Rattle.floats.specs.Arith.{float, plus, minus, times, over, two, four}
use Rattle.dct.specs.Secants.{root_two, secants}
use Rattle.dct.specs.declared.dct_common.DctDirection.{DctDirection}
use Rattle.dct.specs.declared.dct_common.DctDirection.TheVariants.{Forward, Inverse}

abbrev pub sec0 : Float
sec0 = float 1057655764

abbrev pub sec1 : Float
sec1 = float 1067924853

-- the number at a place, as the check has what the code reads there
abbrev pub at : List Float → ℕ → Float
at v i = slice_index_or v i nan

-- ---- length 4

abbrev pub inverse4 : Float → Float → Float → Float → List Float
inverse4 a b c d =
    let t0 = times b root_two in
    let t1 = plus b d in
    let o0 = times (plus t0 t1) sec0 in
    let o1 = times (minus t0 t1) sec1 in
    let p = plus a c in
    let q = minus a c in
    plus p o0 ∷ plus q o1 ∷ minus q o1 ∷ minus p o0 ∷ []

abbrev pub forward4 : Float → Float → Float → Float → List Float
forward4 a b c d =
    let p = plus a d in
    let q = plus b c in
    let t0 = times (minus a d) sec0 in
    let t1 = times (minus b c) sec1 in
    let o0 = over (plus t0 t1) four in
    let o1 = over (minus t0 t1) four in
    over (plus p q) four ∷ plus (times o0 root_two) o1 ∷ over (minus p q) four ∷ o1 ∷ []

-- ---- the inverse, from its halves of length h

-- the even places
abbrev pub evens : ℕ → List Float → List Float
evens h v = map (λ i. at v (2 * i)) (range_with_len 0 h)

-- the odd places, each plus the odd before it, the first times √2
abbrev pub odd_sum : List Float → ℕ → Float
odd_sum v zero = times (at v 1) root_two
odd_sum v (suc i) = plus (at v (2 * suc i + 1)) (at v (2 * i + 1))

abbrev pub odd_sums : ℕ → List Float → List Float
odd_sums h v = map (odd_sum v) (range_with_len 0 h)

-- the sum at k, and the difference at 2h - 1 - k
abbrev pub sum_at : List Float → List Float → List Float → ℕ → Float
sum_at s e o i = plus (at e i) (times (at o i) (at s i))

abbrev pub difference_at : List Float → List Float → List Float → ℕ → Float
difference_at s e o i = minus (at e i) (times (at o i) (at s i))

abbrev pub butterfly : ℕ → List Float → List Float → List Float → ℕ → Float
butterfly h s e o i = cond (nat_lt i h) (sum_at s e o i) (difference_at s e o (h + h - 1 - i))

abbrev pub joined : ℕ → List Float → List Float → List Float → List Float
joined h s e o = map (butterfly h s e o) (range_with_len 0 (h + h))

unfoldable pub idct : ℕ → List Float → List Float
idct zero v = v
idct (suc zero) v = plus (at v 0) (at v 1) ∷ minus (at v 0) (at v 1) ∷ []
idct (suc (suc zero)) v = inverse4 (at v 0) (at v 1) (at v 2) (at v 3)
idct (suc (suc (suc k))) v =
    let h = 2 ^ suc (suc k) in
    joined h (secants (suc (suc (suc k)))) (idct (suc (suc k)) (evens h v)) (idct (suc (suc k)) (odd_sums h v))

-- ---- forward

abbrev pub mean_at : ℕ → List Float → ℕ → Float
mean_at h v i = over (plus (at v i) (at v (h + h - i - 1))) two

-- at the length 8 the secant comes before the halving
abbrev pub slope : ℕ → Float → Float → Float
slope h d s = cond (h == 4) (over (times d s) two) (times (over d two) s)

abbrev pub slope_at : ℕ → List Float → List Float → ℕ → Float
slope_at h s v i = slope h (minus (at v i) (at v (h + h - i - 1))) (at s i)

abbrev pub means : ℕ → List Float → List Float
means h v = map (mean_at h v) (range_with_len 0 h)

abbrev pub slopes : ℕ → List Float → List Float → List Float
slopes h s v = map (slope_at h s v) (range_with_len 0 h)

-- each plus the one after it, the first times √2 before that, the last as it is
abbrev pub first_scaled : List Float → ℕ → Float
first_scaled o zero = times (at o 0) root_two
first_scaled o (suc i) = at o (suc i)

abbrev pub gathered : ℕ → List Float → ℕ → Float
gathered h o i = cond (nat_lt (i + 1) h) (plus (first_scaled o i) (at o (i + 1))) (first_scaled o i)

abbrev pub woven : ℕ → List Float → List Float → ℕ → Float
woven h e o i = cond (i % 2 == 0) (at e (i / 2)) (gathered h o (i / 2))

abbrev pub interleaved : ℕ → List Float → List Float → List Float
interleaved h e o = map (woven h e o) (range_with_len 0 (h + h))

unfoldable pub fdct : ℕ → List Float → List Float
fdct zero v = v
fdct (suc zero) v = over (plus (at v 0) (at v 1)) two ∷ over (minus (at v 0) (at v 1)) two ∷ []
fdct (suc (suc zero)) v = forward4 (at v 0) (at v 1) (at v 2) (at v 3)
fdct (suc (suc (suc k))) v =
    let h = 2 ^ suc (suc k) in
    interleaved h (fdct (suc (suc k)) (means h v)) (fdct (suc (suc k)) (slopes h (secants (suc (suc (suc k)))) v))

-- ---- by direction

abbrev pub dct4_of : DctDirection → Float → Float → Float → Float → List Float
dct4_of Forward a b c d = forward4 a b c d
dct4_of Inverse a b c d = inverse4 a b c d

unfoldable pub dct_of : DctDirection → ℕ → List Float → List Float
unfolding fdct idct
dct_of Forward k v = fdct k v
dct_of Inverse k v = idct k v
