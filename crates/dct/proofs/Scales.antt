-- The places of the scale factors.
use Rattle.std.proofs.Common.{◌≡◌, ℕ, ◌*◌, ◌%◌, ◌^◌, ◌<◌, ◌≤◌, sym, refl, ap, ◌∙◌, mod-eq_of_lt, arith, pow_pos, pow_mono}
use lib.Ieee.{Float, nan, of_bits}
use Rattle.std.proofs.lemmas.Nat.{mul-le}
use Rattle.std.proofs.lemmas.List.{get_or_past}
use Rattle.floats.specs.Arith.{float}
use Rattle.dct.specs.Scale.{scales, scale}
use Rattle.dct.specs.Transform.{at}

-- the place is not cut off at the word's end
place : (c k : ℕ) → c < 32 → k < 6 → c * 2 ^ k % 18446744073709551616 ≡ c * 2 ^ k
place c k hc hk =
    let h : k ≤ 5 = omega arith in
    let p : 2 ^ k ≤ 2 ^ 5 = pow_mono h in
    let m : c * 2 ^ k ≤ 31 * 32 = mul-le c (2 ^ k) 31 32 (omega arith) p in
    mod-eq_of_lt (omega arith)

past : (i : ℕ) → 32 ≤ i → float 2143289344 ≡ at scales i
unfolding of_bits
past i h = sym (get_or_past scales i nan h)

pub no_scale : float 2143289344 ≡ nan
unfolding of_bits
no_scale = refl

pub scale_found : (c k : ℕ) (r : Float) → c < 32 → k < 6 → r ≡ at scales (c * 2 ^ k % 18446744073709551616) → r ≡ scale c k
unfolding scale
scale_found c k r hc hk e = e ∙ ap (at scales) (place c k hc hk)

pub scale_past : (c k : ℕ) → c < 32 → k < 6 → 32 ≤ c * 2 ^ k % 18446744073709551616 → float 2143289344 ≡ scale c k
unfolding scale
scale_past c k hc hk h = let e = place c k hc hk in past (c * 2 ^ k) (omega arith)

pub scale_beyond : (c k : ℕ) → 32 ≤ c → float 2143289344 ≡ scale c k
unfolding scale
scale_beyond c k h =
    let p = pow_pos k in
    past (c * 2 ^ k) (mul-le 32 1 c (2 ^ k) h p)
