-- The bits of a float by its parts.
use Rattle.std.proofs.Common.{◌≡◌, ℕ, ◌+◌, ◌*◌, ◌/◌, ◌%◌, ◌^◌, ◌<◌, ◌≤◌, bit_and, bit_or, sym, ◌∙◌, ap, arith}
use Rattle.std.proofs.lemmas.Nat.{or_shifted, shl_below, shl_whole}
use Rattle.std.proofs.lemmas.Nat.Bits.{and_pow}
use Rattle.trials.specs.Numbers.{pattern}

-- three parts that do not meet
pub pattern_from_parts : (s e f : ℕ) → e < 2 ^ 8 → f < 2 ^ 23 → bit_or (bit_or (s * 2 ^ 31) (e * 2 ^ 23)) f ≡ pattern s e f
pattern_from_parts s e f small short =
    let above : s * 2 ^ 31 + e * 2 ^ 23 ≡ (s * 2 ^ 8 + e) * 2 ^ 23 = omega arith in
    ap (λ n. bit_or n f) (or_shifted s 31 (e * 2 ^ 23) (shl_below e 8 23 small) ∙ above)
    ∙ or_shifted (s * 2 ^ 8 + e) 23 f short ∙ ap (λ n. n + f) (sym above)

-- the highest of 32 bits, where it stands
pub and_sign : (a : ℕ) → a < 2 ^ 32 → bit_and a (2 ^ 31) ≡ a / 2 ^ 31 * 2 ^ 31
and_sign a below = and_pow a 31 ∙ ap (λ n. n * 2 ^ 31) (let e : a / 2 ^ 31 % 2 ≡ a / 2 ^ 31 = omega arith in e)

-- the sign of a, an exponent from `least` on by bits of a, and the fraction of b
pub pattern_from_states : (a b least : ℕ) → a < 2 ^ 32 → b < 2 ^ 32 → least ≤ 215
    → bit_or (bit_or (bit_and a (2 ^ 31)) ((a / 256 % 41 + least) % 2 ^ 32 * 2 ^ 23 % 2 ^ 32)) (b / 2 ^ 9) ≡ pattern (a / 2 ^ 31) (a / 256 % 41 + least) (b / 2 ^ 9)
pattern_from_states a b least first second low =
    let e = a / 256 % 41 + least in
    let small : e < 2 ^ 8 = omega arith in
    let whole : e % 2 ^ 32 ≡ e = omega (arith, small) in
    let exponent : e % 2 ^ 32 * 2 ^ 23 % 2 ^ 32 ≡ e * 2 ^ 23 = ap (λ n. n * 2 ^ 23 % 2 ^ 32) whole ∙ shl_whole e 8 23 32 small (omega arith) in
    (λ i. bit_or (bit_or (and_sign a first i) (exponent i)) (b / 2 ^ 9)) ∙ pattern_from_parts (a / 2 ^ 31) e (b / 2 ^ 9) small (omega arith)
