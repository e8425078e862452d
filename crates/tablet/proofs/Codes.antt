-- Lists of numbers as bytes, and the blocks that cross.
use Rattle.std.proofs.Common.{◌≡◌, ℕ, ◌*◌, ◌/◌, ◌%◌, ◌<◌, List, length, get_or, arith}
use lib.Ieee.{Float, nan}
use Rattle.std.proofs.lemmas.List.FromFn.{fill_by_all}
use Rattle.dct.specs.Transform.{at}
use Rattle.tablet.specs.Bytes.{number, decoded, byte, encoded}

pub decoded_is : (bs : List ℕ) (v : List Float) → length bs ≡ 4 * length v → ((k : ℕ) → k < length v → at v k ≡ number bs k) → v ≡ decoded bs
unfolding decoded
decoded_is bs v e h =
    let n : length v ≡ length bs / 4 = omega arith in
    fill_by_all (number bs) v (length bs / 4) nan n (λ k l. h k (omega arith))

pub encoded_is : (v : List Float) (bs : List ℕ) → length bs ≡ 4 * length v
    → ((k : ℕ) → k < 4 * length v → get_or bs k 0 ≡ byte (at v (k / 4)) (k % 4)) → bs ≡ encoded v
unfolding encoded
encoded_is v bs e h = fill_by_all (λ k. byte (at v (k / 4)) (k % 4)) bs (4 * length v) 0 e h
