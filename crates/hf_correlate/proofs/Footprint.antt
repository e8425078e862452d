-- The footprint of HF correlate in one channel: a sample depends on itself, on Y at its own place, and on the number of its tile.
use Rattle.std.proofs.Common.{◌≡◌, ℕ, ◌*◌, ◌/◌, ◌<◌, true, ℤ, sym, ap, ◌∙◌}
use lib.Ieee.{Float, binary32, add, mul, nan}
use Rattle.grid.specs.Plane.{Plane, fitting, sample, numeral}
use Rattle.grid.proofs.Laws.{painted_in}
use Rattle.channels.specs.Correlated.{gain}
use Rattle.channels.proofs.Fitting.{fits_lawful, fits_inside}
use Rattle.hf_correlate.specs.Correlated.{hf_correlated_at, hf_correlated}

-- a channel after the call
abbrev pub after : (luma : Plane Float) → (tiles : Plane ℤ) → Float → ℕ → Plane Float → Plane Float
after luma tiles base colour p = record { shape = p.shape; list = hf_correlated luma tiles base colour p }

pub hf_correlate_footprint : (w8 h8 : ℕ) (luma luma' : Plane Float) (tiles tiles' : Plane ℤ) (base : Float) (colour : ℕ) (p q : Plane Float)
    → fitting (8 * w8) (8 * h8) p ≡ true → fitting (8 * w8) (8 * h8) q ≡ true
    → (x y : ℕ) → x < 8 * w8 → y < 8 * h8
    → sample p x y ≡ sample q x y → sample luma x y ≡ sample luma' x y → numeral tiles (x / 64) (y / 64) ≡ numeral tiles' (x / 64) (y / 64)
    → sample (after luma tiles base colour p) x y ≡ sample (after luma' tiles' base colour q) x y
hf_correlate_footprint w8 h8 luma luma' tiles tiles' base colour p q fp fq x y a b own same tile =
    painted_in p.shape (hf_correlated_at luma tiles base colour) p.list x y nan (fits_lawful _ _ p fp) (fits_inside _ _ p fp x y a b)
    ∙ ap (hf_correlated_at luma tiles base colour x y) own
    ∙ ap (λ v. add binary32 (sample q x y) (mul binary32 (gain base colour (numeral tiles (x / 64) (y / 64))) v)) same
    ∙ ap (λ n. add binary32 (sample q x y) (mul binary32 (gain base colour n) (sample luma' x y))) tile
    ∙ sym
    (painted_in q.shape (hf_correlated_at luma' tiles' base colour) q.list x y nan (fits_lawful _ _ q fq) (fits_inside _ _ q fq x y a b))
