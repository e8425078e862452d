-- The footprint of HF dequantise in one channel: a sample depends on the coefficient at its own place, or on itself where no varblock lies.
use Rattle.std.proofs.Common.{◌≡◌, ℕ, ◌+◌, ◌-◌, ◌*◌, ◌/◌, ◌<◌, true, ℤ, Some, None, Option, sym, refl, ap, ◌∙◌, arith}
use lib.Ieee.{Float, nan}
use Rattle.grid.specs.Plane.{Plane, fitting, sample, numeral}
use Rattle.grid.proofs.Laws.{painted_in}
use Rattle.kinds.specs.Kinds.{wide, high}
use Rattle.varmap.specs.declared.cells.Cell.{Cell}
use Rattle.varmap.specs.declared.cells.Record.{Record}
use Rattle.varmap.specs.Cells.{cells}
use Rattle.varmap.specs.Map.{LawfulMap}
use Rattle.blocks.specs.declared.leads.Varblock.{Varblock}
use Rattle.blocks.specs.Leads.{holder}
use Rattle.blocks.specs.Blocks.{of_block, imaged, by_blocks}
use Rattle.blocks.proofs.Holders.{held}
use Rattle.blocks.proofs.ByBlocks.{sample_of, cell_below}
use Rattle.channels.proofs.Fitting.{fits_lawful, fits_inside}
use Rattle.weights.specs.Weights.{Table, weight}
use Rattle.hf_block.specs.declared.work.Scales.{Scales}
use Rattle.hf_block.specs.Sample.{dequantised, multiplier}
use Rattle.hf_block.specs.Dequantised.{dequantising, hf_dequantised}

-- a channel after the call
abbrev pub after : Plane Cell → Plane ℤ → Table → Scales → Plane Float → Plane Float
after map n t by p = record { shape = p.shape; list = hf_dequantised map n t by p }

pub hf_footprint : (w8 h8 : ℕ) (map : Plane Cell) (n n' : Plane ℤ) (t : Table) (by : Scales) (p q : Plane Float)
    → LawfulMap w8 h8 (cells map.shape map.list)
    → fitting (8 * w8) (8 * h8) p ≡ true → fitting (8 * w8) (8 * h8) q ≡ true
    → (x y : ℕ) → x < 8 * w8 → y < 8 * h8
    → (holder (cells map.shape map.list) (x / 8) (y / 8) ≡ None → sample p x y ≡ sample q x y)
    → ((v : Varblock) → holder (cells map.shape map.list) (x / 8) (y / 8) ≡ Some v → numeral n x y ≡ numeral n' x y)
    → sample (after map n t by p) x y ≡ sample (after map n' t by q) x y
unfolding by_blocks dequantising
hf_footprint w8 h8 map n n' t by p q lawful fp fq x y a b out in' =
    painted_in p.shape (imaged p.shape m (dequantising n t by) p.list) p.list x y nan (fits_lawful _ _ p fp) (fits_inside _ _ p fp x y a b)
    ∙ go (holder m (x / 8) (y / 8)) refl
    ∙ sym
    (painted_in q.shape (imaged q.shape m (dequantising n' t by) q.list) q.list x y nan (fits_lawful _ _ q fq) (fits_inside _ _ q fq x y a b))
  where
    m : ℕ → ℕ → Record
    m = cells map.shape map.list

    go : (o : Option Varblock) → holder m (x / 8) (y / 8) ≡ o
        → of_block p.shape (dequantising n t by) p.list x y (sample p x y) o
        ≡ of_block q.shape (dequantising n' t by) q.list x y (sample q x y) o
    go None e = out e
    go (Some v) e =
        let k = held w8 h8 m lawful (x / 8) (y / 8) v (cell_below w8 x a) (cell_below h8 y b) e in
        let sx = (sample_of v.x (wide v.kind) x k.left k.right).0 in
        let sy = (sample_of v.y (high v.kind) y k.top k.bottom).0 in
        let i : 8 * v.x + (x - 8 * v.x) ≡ x = omega arith in
        let j : 8 * v.y + (y - 8 * v.y) ≡ y = omega arith in
        let same : numeral n (8 * v.x + (x - 8 * v.x)) (8 * v.y + (y - 8 * v.y)) ≡ numeral n' (8 * v.x + (x - 8 * v.x)) (8 * v.y + (y - 8 * v.y)) =
        ap (λ u. numeral n u (8 * v.y + (y - 8 * v.y))) i
        ∙ ap (numeral n x) j
        ∙ in' v e
        ∙ sym (ap (λ u. numeral n' u (8 * v.y + (y - 8 * v.y))) i ∙ ap (numeral n' x) j) in
        ap
        (dequantised by.quant_bias by.quant_bias_numerator (weight t v.kind (x - 8 * v.x) (y - 8 * v.y))
        (multiplier by.global_scale v.hf_mul by.qm_scale))
        same
