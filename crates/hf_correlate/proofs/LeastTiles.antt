-- The number of tiles.
use Rattle.std.proofs.Common.{◌≡◌, ℕ, ◌+◌, ◌*◌, ◌<◌, sym, subst, inl, inr, arith}
use Rattle.std.proofs.lemmas.Bool.{cases_lt}
use Rattle.std.proofs.lemmas.Nat.{div-add-mod', mod_below}
use Rattle.hf_correlate.specs.Tiles.{LeastTiles, tiles_of}

pub tiles_least : (n : ℕ) → LeastTiles n (tiles_of n)
unfolding tiles_of
tiles_least n =
    let d = div-add-mod' (n + 63) 64 in
    let m = mod_below (n + 63) 64 (omega arith) in
    record { reach = omega arith; least = λ k h. omega arith }

-- no other number is least
pub least_is : (n r : ℕ) → LeastTiles n r → r ≡ tiles_of n
least_is n r l =
    let t = tiles_least n in
    omega (arith, l.least (tiles_of n) t.reach, t.least r l.reach)

pub least_at : (n m r : ℕ) → m ≡ n → r ≡ tiles_of n → LeastTiles m r
least_at n m r e f = subst (λ k. LeastTiles k r) (sym e) (subst (LeastTiles n) (sym f) (tiles_least n))

-- a tile begins before the end
pub begins : (n r k : ℕ) → LeastTiles n r → k < r → 64 * k < n
begins n r k l h =
    elim (cases_lt (64 * k) n) [
      | inl a ↦ a
      | inr b ↦ absurd (omega (arith, l.least k b))
    ]
