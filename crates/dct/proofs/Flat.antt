-- The flat law of the one-dimensional transforms: the inverse of c and zeros is c throughout, and the forward transform of c throughout is c and zeros.
use Rattle.std.proofs.Common.{◌≡◌, ℕ, zero, suc, ◌+◌, ◌-◌, ◌*◌, ◌/◌, ◌%◌, ◌^◌, ◌<◌, ◌≤◌, Bool, true, false, cond, T, eqb, ltb, List, map, sym, refl, ◌∙◌, subst, inl, inr, zero-lt-suc, zero-add, arith, eqb→eq, ltb→lt, lt→ltb, pow_pos}
use native.Mathlib.Nat.{pow-succ'}
use lib.Ieee.{Float, nan, of_bits}
use Rattle.std.specs.List.{range_with_len}
use Rattle.std.proofs.lemmas.List.FromFn.{get_or-map-range_with_len}
use Rattle.std.proofs.lemmas.Bool.{cases_lt}
use Rattle.dct.specs.Flat.{Pulse, Level}
use Rattle.floats.specs.Same.{Zero, Same, Finite, Number, Room}
use Rattle.dct.specs.Secants.{root_two, secants}
use Rattle.floats.specs.Arith.{plus, minus, times, over, two, four, nought}
use Rattle.dct.specs.Transform.{sec0, sec1, at, inverse4, forward4, idct, fdct, evens, odd_sum, odd_sums, sum_at, difference_at, butterfly, joined, mean_at, slope_at, means, slopes, first_scaled, gathered, woven, interleaved}
use Rattle.floats.proofs.Exact.{zero_plus, zero_minus, zero_times, zero_over, plus_zero, minus_zero, minus_same, plus_same, over_two, over_four, two_divides, four_divides, twice, room_twice, room_less, number_twice}
use Rattle.floats.proofs.Wholes.{nought_number, nought_room, zero_of, same_nought}
use Rattle.dct.proofs.Table.{secant_finite}

-- ---- the constants are finite

root_finite : Finite root_two
unfolding of_bits
root_finite = tt

sec0_finite : Finite sec0
unfolding of_bits
sec0_finite = tt

sec1_finite : Finite sec1
unfolding of_bits
sec1_finite = tt

-- ---- lists that are made from a function

pub at_map : (f : ℕ → Float) (n i : ℕ) → i < n → at (map f (range_with_len 0 n)) i ≡ f i
at_map f n i h = get_or-map-range_with_len f 0 n i i nan h (zero-add i)

double : (k : ℕ) → 2 ^ suc k ≡ 2 ^ k + 2 ^ k
double k = pow-succ' 2 k ∙ twofold (2 ^ k)
  where
    twofold : (n : ℕ) → 2 * n ≡ n + n
    twofold n = omega arith

-- ---- the inverse

evens_pulse : (h : ℕ) (v : List Float) (c : Float) → 0 < h → Pulse (h + h) v c → Pulse h (evens h v) c
evens_pulse h v c p q = record {
  first = subst (λ (x : Float). Same x c) (sym (at_map (λ i. at v (2 * i)) h 0 p)) q.first;
  others = λ i l m. subst Zero (sym (at_map (λ i. at v (2 * i)) h i m)) (q.others (2 * i) (omega arith) (omega arith));
}

odd_sum_zero : (h : ℕ) (v : List Float) (c : Float) → Pulse (h + h) v c → (i : ℕ) → i < h → Zero (odd_sum v i)
odd_sum_zero h v c q zero l = zero_times (at v 1) root_two (q.others 1 (omega arith) (omega arith)) root_finite
odd_sum_zero h v c q (suc i) l = zero_plus (at v (2 * suc i + 1)) (at v (2 * i + 1)) (q.others (2 * suc i + 1) (omega arith) (omega arith)) (q.others (2 * i + 1) (omega arith) (omega arith))

odd_sums_pulse : (h : ℕ) (v : List Float) (c : Float) → 0 < h → Pulse (h + h) v c → Pulse h (odd_sums h v) nought
odd_sums_pulse h v c p q = record {
  first = same_nought (at (odd_sums h v) 0) (subst Zero (sym (at_map (odd_sum v) h 0 p)) (odd_sum_zero h v c q 0 p));
  others = λ i l m. subst Zero (sym (at_map (odd_sum v) h i m)) (odd_sum_zero h v c q i m);
}

joined_level : (k : ℕ) (e o : List Float) (c : Float) → suc (suc (suc k)) ≤ 8 → Number c → Level (2 ^ suc (suc k)) e c → Level (2 ^ suc (suc k)) o nought
    → Level (2 ^ suc (suc k) + 2 ^ suc (suc k)) (joined (2 ^ suc (suc k)) (secants (suc (suc (suc k)))) e o) c
joined_level k e o c u n p q i l = subst (λ (x : Float). Same x c) (sym (at_map (butterfly h s e o) (h + h) i l)) (go (ltb i h) refl)
  where
    h : ℕ
    h = 2 ^ suc (suc k)

    s : List Float
    s = secants (suc (suc (suc k)))

    part : (j : ℕ) → j < h → Zero (times (at o j) (at s j))
    part j m = zero_times (at o j) (at s j) (zero_of (at o j) (q j m)) (secant_finite k j u m)

    go : (b : Bool) → ltb i h ≡ b → Same (cond b (sum_at s e o i) (difference_at s e o (h + h - 1 - i))) c
    go true t = let m : i < h = ltb→lt i h (subst T (sym t) tt) in plus_zero (at e i) (times (at o i) (at s i)) c n (p i m) (part i m)
    go false t =
        let j = h + h - 1 - i in
        let m : j < h = elim (cases_lt i h) [ inl a ↦ absurd (subst T t (lt→ltb i h a)) | inr g ↦ omega arith ] in
        minus_zero (at e j) (times (at o j) (at s j)) c n (p j m) (part j m)

inverse4_level : (a b c d x : Float) → Number x → Same a x → Zero b → Zero c → Zero d → Level 4 (inverse4 a b c d) x
inverse4_level a b c d x n p q r s i l = go i l
  where
    z0 : Zero (times b root_two)
    z0 = zero_times b root_two q root_finite

    z1 : Zero (plus b d)
    z1 = zero_plus b d q s

    o0 : Zero (times (plus (times b root_two) (plus b d)) sec0)
    o0 = zero_times (plus (times b root_two) (plus b d)) sec0 (zero_plus (times b root_two) (plus b d) z0 z1) sec0_finite

    o1 : Zero (times (minus (times b root_two) (plus b d)) sec1)
    o1 = zero_times (minus (times b root_two) (plus b d)) sec1 (zero_minus (times b root_two) (plus b d) z0 z1) sec1_finite

    go : (i : ℕ) → i < 4 → Same (at (inverse4 a b c d) i) x
    go zero l = plus_zero (plus a c) (times (plus (times b root_two) (plus b d)) sec0) x n (plus_zero a c x n p r) o0
    go (suc zero) l = plus_zero (minus a c) (times (minus (times b root_two) (plus b d)) sec1) x n (minus_zero a c x n p r) o1
    go (suc (suc zero)) l = minus_zero (minus a c) (times (minus (times b root_two) (plus b d)) sec1) x n (minus_zero a c x n p r) o1
    go (suc (suc (suc zero))) l = minus_zero (plus a c) (times (plus (times b root_two) (plus b d)) sec0) x n (plus_zero a c x n p r) o0
    go (suc (suc (suc (suc i)))) l = absurd (omega arith)

pub idct_level : (k : ℕ) (v : List Float) (c : Float) → k ≤ 8 → Number c → Pulse (2 ^ k) v c → Level (2 ^ k) (idct k v) c
unfolding idct
idct_level zero v c u n p i l = subst (λ (j : ℕ). Same (at v j) c) (omega arith) p.first
idct_level (suc zero) v c u n p zero l = plus_zero (at v 0) (at v 1) c n p.first (p.others 1 (omega arith) (omega arith))
idct_level (suc zero) v c u n p (suc zero) l = minus_zero (at v 0) (at v 1) c n p.first (p.others 1 (omega arith) (omega arith))
idct_level (suc zero) v c u n p (suc (suc i)) l = absurd (omega arith)
idct_level (suc (suc zero)) v c u n p i l = inverse4_level (at v 0) (at v 1) (at v 2) (at v 3) c n p.first (p.others 1 (omega arith) (omega arith)) (p.others 2 (omega arith) (omega arith)) (p.others 3 (omega arith) (omega arith)) i l
idct_level (suc (suc (suc k))) v c u n p i l =
    let h = 2 ^ suc (suc k) in
    let q : Pulse (h + h) v c = subst (λ (m : ℕ). Pulse m v c) (double (suc (suc k))) p in
    joined_level k (idct (suc (suc k)) (evens h v)) (idct (suc (suc k)) (odd_sums h v)) c u n
    (idct_level (suc (suc k)) (evens h v) c (omega arith) n (evens_pulse h v c (pow_pos (suc (suc k))) q))
    (idct_level (suc (suc k)) (odd_sums h v) nought (omega arith) nought_number (odd_sums_pulse h v c (pow_pos (suc (suc k))) q))
    i (subst (λ (m : ℕ). i < m) (double (suc (suc k))) l)

-- ---- forward

means_level : (h : ℕ) (v : List Float) (c : Float) → Number c → Room 4 c → Level (h + h) v c → Level h (means h v) c
means_level h v c n r p i l =
    subst (λ (x : Float). Same x c) (sym (at_map (mean_at h v) h i l))
    (over_two (plus (at v i) (at v (h + h - i - 1))) c n (plus_same (at v i) (at v (h + h - i - 1)) c n (room_less c r) (p i (omega arith)) (p (h + h - i - 1) (omega arith))))

slopes_level : (k : ℕ) (v : List Float) (c : Float) → suc (suc (suc k)) ≤ 8 → Number c → Level (2 ^ suc (suc k) + 2 ^ suc (suc k)) v c
    → Level (2 ^ suc (suc k)) (slopes (2 ^ suc (suc k)) (secants (suc (suc (suc k)))) v) nought
slopes_level k v c u n p i l = same_nought (at (slopes h s v) i) (subst Zero (sym (at_map (slope_at h s v) h i l)) (go (eqb h 4)))
  where
    h : ℕ
    h = 2 ^ suc (suc k)

    s : List Float
    s = secants (suc (suc (suc k)))

    d : Float
    d = minus (at v i) (at v (h + h - i - 1))

    z : Zero d
    z = minus_same (at v i) (at v (h + h - i - 1)) c n.0 (p i (omega arith)) (p (h + h - i - 1) (omega arith))

    go : (b : Bool) → Zero (cond b (over (times d (at s i)) two) (times (over d two) (at s i)))
    go true = zero_over (times d (at s i)) two (zero_times d (at s i) z (secant_finite k i u l)) two_divides
    go false = zero_times (over d two) (at s i) (zero_over d two z two_divides) (secant_finite k i u l)

zeros_of : (h : ℕ) (o : List Float) → Pulse h o nought → (i : ℕ) → i < h → Zero (at o i)
zeros_of h o p zero l = zero_of (at o 0) p.first
zeros_of h o p (suc i) l = p.others (suc i) (zero-lt-suc i) l

scaled_zero : (h : ℕ) (o : List Float) → Pulse h o nought → (i : ℕ) → i < h → Zero (first_scaled o i)
scaled_zero h o p zero l = zero_times (at o 0) root_two (zero_of (at o 0) p.first) root_finite
scaled_zero h o p (suc i) l = zeros_of h o p (suc i) l

gathered_zero : (h : ℕ) (o : List Float) → Pulse h o nought → (i : ℕ) → i < h → Zero (gathered h o i)
gathered_zero h o p i l = go (ltb (i + 1) h) refl
  where
    go : (b : Bool) → ltb (i + 1) h ≡ b → Zero (cond b (plus (first_scaled o i) (at o (i + 1))) (first_scaled o i))
    go true t = zero_plus (first_scaled o i) (at o (i + 1)) (scaled_zero h o p i l) (zeros_of h o p (i + 1) (ltb→lt (i + 1) h (subst T (sym t) tt)))
    go false t = scaled_zero h o p i l

woven_zero : (h : ℕ) (e o : List Float) (c : Float) → Pulse h e c → Pulse h o nought → (i : ℕ) → 0 < i → i < h + h → Zero (woven h e o i)
woven_zero h e o c p q i a l = go (eqb (i % 2) 0) refl
  where
    go : (b : Bool) → eqb (i % 2) 0 ≡ b → Zero (cond b (at e (i / 2)) (gathered h o (i / 2)))
    go true t = let even : i % 2 ≡ 0 = eqb→eq (i % 2) 0 (subst T (sym t) tt) in p.others (i / 2) (omega arith) (omega arith)
    go false t = gathered_zero h o q (i / 2) (omega arith)

interleaved_pulse : (h : ℕ) (e o : List Float) (c : Float) → 0 < h → Pulse h e c → Pulse h o nought → Pulse (h + h) (interleaved h e o) c
interleaved_pulse h e o c a p q = record {
  first = subst (λ (x : Float). Same x c) (sym (at_map (woven h e o) (h + h) 0 (omega arith))) p.first;
  others = λ i m l. subst Zero (sym (at_map (woven h e o) (h + h) i l)) (woven_zero h e o c p q i m l);
}

forward4_pulse : (a b c d x : Float) → Number x → Room 4 x → Same a x → Same b x → Same c x → Same d x → Pulse 4 (forward4 a b c d) x
forward4_pulse a b c d x n r p q s t = record {
  first = over_four (plus (plus a d) (plus b c)) x n (plus_same (plus a d) (plus b c) (twice x) (number_twice x n (room_less x r)) (room_twice 2 x r) ad bc);
  others = go;
}
  where
    ad : Same (plus a d) (twice x)
    ad = plus_same a d x n (room_less x r) p t

    bc : Same (plus b c) (twice x)
    bc = plus_same b c x n (room_less x r) q s

    z0 : Zero (times (minus a d) sec0)
    z0 = zero_times (minus a d) sec0 (minus_same a d x n.0 p t) sec0_finite

    z1 : Zero (times (minus b c) sec1)
    z1 = zero_times (minus b c) sec1 (minus_same b c x n.0 q s) sec1_finite

    o0 : Zero (over (plus (times (minus a d) sec0) (times (minus b c) sec1)) four)
    o0 = zero_over (plus (times (minus a d) sec0) (times (minus b c) sec1)) four (zero_plus (times (minus a d) sec0) (times (minus b c) sec1) z0 z1) four_divides

    o1 : Zero (over (minus (times (minus a d) sec0) (times (minus b c) sec1)) four)
    o1 = zero_over (minus (times (minus a d) sec0) (times (minus b c) sec1)) four (zero_minus (times (minus a d) sec0) (times (minus b c) sec1) z0 z1) four_divides

    go : (i : ℕ) → 0 < i → i < 4 → Zero (at (forward4 a b c d) i)
    go zero m l = absurd (omega arith)
    go (suc zero) m l =
        let x0 = over (plus (times (minus a d) sec0) (times (minus b c) sec1)) four in
        let x1 = over (minus (times (minus a d) sec0) (times (minus b c) sec1)) four in
        zero_plus (times x0 root_two) x1 (zero_times x0 root_two o0 root_finite) o1
    go (suc (suc zero)) m l = zero_over (minus (plus a d) (plus b c)) four (minus_same (plus a d) (plus b c) (twice x) (number_twice x n (room_less x r)).0 ad bc) four_divides
    go (suc (suc (suc zero))) m l = o1
    go (suc (suc (suc (suc i)))) m l = absurd (omega arith)

pub fdct_pulse : (k : ℕ) (v : List Float) (c : Float) → k ≤ 8 → Number c → Room 4 c → Level (2 ^ k) v c → Pulse (2 ^ k) (fdct k v) c
unfolding fdct
fdct_pulse zero v c u n r p = record { first = p 0 (omega arith); others = λ i m l. absurd (omega arith) }
fdct_pulse (suc zero) v c u n r p = record {
  first = over_two (plus (at v 0) (at v 1)) c n (plus_same (at v 0) (at v 1) c n (room_less c r) (p 0 (omega arith)) (p 1 (omega arith)));
  others = go;
}
  where
    go : (i : ℕ) → 0 < i → i < 2 → Zero (at (fdct 1 v) i)
    go zero m l = absurd (omega arith)
    go (suc zero) m l = zero_over (minus (at v 0) (at v 1)) two (minus_same (at v 0) (at v 1) c n.0 (p 0 (omega arith)) (p 1 (omega arith))) two_divides
    go (suc (suc i)) m l = absurd (omega arith)
fdct_pulse (suc (suc zero)) v c u n r p = forward4_pulse (at v 0) (at v 1) (at v 2) (at v 3) c n r (p 0 (omega arith)) (p 1 (omega arith)) (p 2 (omega arith)) (p 3 (omega arith))
fdct_pulse (suc (suc (suc k))) v c u n r p =
    let h = 2 ^ suc (suc k) in
    let q : Level (h + h) v c = subst (λ (m : ℕ). Level m v c) (double (suc (suc k))) p in
    subst (λ (m : ℕ). Pulse m (interleaved h (fdct (suc (suc k)) (means h v)) (fdct (suc (suc k)) (slopes h (secants (suc (suc (suc k)))) v))) c) (sym (double (suc (suc k))))
    (interleaved_pulse h (fdct (suc (suc k)) (means h v)) (fdct (suc (suc k)) (slopes h (secants (suc (suc (suc k)))) v)) c (pow_pos (suc (suc k)))
    (fdct_pulse (suc (suc k)) (means h v) c (omega arith) n r (means_level h v c n r q))
    (fdct_pulse (suc (suc k)) (slopes h (secants (suc (suc (suc k)))) v) nought (omega arith) nought_number nought_room (slopes_level k v c u n q)))
