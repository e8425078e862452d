-- One varblock's samples.
use Rattle.std.proofs.Common.{◌≡◌, ℕ, ◌+◌, ◌-◌, ◌*◌, ◌<◌, ◌≤◌, List, length, get_or, take, drop, ℤ, sym, ap, ◌∙◌, mul_assoc, mul_comm, mul_left_comm, arith}
use lib.Ieee.{Float, nan}
use Rattle.std.proofs.lemmas.Nat.{mul-add-lt}
use Rattle.std.proofs.lemmas.List.{get_or-take, get_or-drop, length-take-le, length-drop}
use Rattle.grid.specs.declared.Shape.{Shape}
use Rattle.grid.specs.declared.brush.Area.{Area}
use Rattle.grid.specs.Index.{Lawful, Inside}
use Rattle.grid.specs.Painted.{painted, patch}
use Rattle.grid.specs.Plane.{Plane, numeral}
use Rattle.kinds.specs.Kinds.{wide, high}
use Rattle.kinds.proofs.Sizes.{wide_is, high_is}
use Rattle.blocks.specs.declared.leads.Varblock.{Varblock}
use Rattle.blocks.specs.declared.block.Block.{Block}
use Rattle.blocks.specs.Areas.{area_of}
use Rattle.blocks.specs.Blocks.{one_block}
use Rattle.blocks.proofs.Patches.{patch_alike}
use Rattle.weights.specs.Weights.{Table, start, weight, weights_of}
use Rattle.hf_block.specs.declared.work.Scales.{Scales}
use Rattle.hf_block.specs.Sample.{dequantised, multiplier}
use Rattle.hf_block.specs.Dequantised.{sample_at, dequantising, Ready}

-- the coefficients of a varblock and the weights of its kind are there
pub record Supplied (n : Plane ℤ) (t : Table) (v : Varblock) : Type 0 where
  pub across : 8 * v.x + 8 * wide v.kind ≤ n.shape.width
  pub down : 8 * v.y + 8 * high v.kind ≤ n.shape.height
  pub weights : start t v.kind + 64 * (wide v.kind * high v.kind) ≤ length t.list

-- as they are where it can be dequantised
pub supplied : (n : Plane ℤ) (t : Table) (by : Scales) (v : Varblock) → Ready n t by v → Supplied n t v
supplied n t by v r = record { across = r.across; down = r.down; weights = r.weights }

module _ (n : Plane ℤ) (t : Table) (by : Scales) (b : Block) (can : Supplied n t b.varblock) where
  pub inside_block : (i j : ℕ) → i < 8 * b.size.width → j < 8 * b.size.height → Inside n.shape (8 * b.varblock.x + i) (8 * b.varblock.y + j)
  inside_block i j p q =
      let w = wide_is b.varblock.kind b.size b.carried in
      let h = high_is b.varblock.kind b.size b.carried in
      record { across = omega (arith, can.across); down = omega (arith, can.down) }

  abbrev K : ℕ
  K = start t b.varblock.kind

  -- how many weights the kind has
  abbrev M : ℕ
  M = 64 * (wide b.varblock.kind * high b.varblock.kind)

  index_below : (i j : ℕ) → i < 8 * b.size.width → j < 8 * b.size.height → j * (8 * b.size.width) + i < M
  index_below i j p q =
      let w = wide_is b.varblock.kind b.size b.carried in
      let h = high_is b.varblock.kind b.size b.carried in
      let e : (8 * b.size.height) * (8 * b.size.width) ≡ M =
      area b.size.height b.size.width ∙ ap (λ e. 64 * (e * b.size.height)) (sym w) ∙ ap (λ e. 64 * (wide b.varblock.kind * e)) (sym h) in
      omega (arith, e, mul-add-lt j (8 * b.size.width) i (8 * b.size.height) q p)
    where
      area : (h w : ℕ) → (8 * h) * (8 * w) ≡ 64 * (w * h)
      area h w =
          let a : (8 * h) * (8 * w) ≡ 8 * (8 * (h * w)) = simp (mul_assoc, mul_left_comm) in
          let b : 8 * (8 * (h * w)) ≡ 64 * (h * w) = omega arith in
          a ∙ b ∙ ap (λ k. 64 * k) (mul_comm h w)

  pub weight_below : (i j : ℕ) → i < 8 * b.size.width → j < 8 * b.size.height
      → j * (8 * b.size.width) + i < length (weights_of t b.varblock.kind)
  weight_below i j p q =
      let d : K + M - K ≡ M = omega arith in
      let long : length (weights_of t b.varblock.kind) ≡ M =
      ap (λ e. length (take e (drop K t.list))) d ∙ length-take-le M (drop K t.list) (omega (arith, length-drop K t.list, can.weights)) in
      omega (arith, long, index_below i j p q)

  -- a weight of the block
  weight_is : (i j : ℕ) → i < 8 * b.size.width → j < 8 * b.size.height
      → get_or (weights_of t b.varblock.kind) (j * (8 * b.size.width) + i) nan ≡ weight t b.varblock.kind i j
  unfolding weight
  weight_is i j p q =
      let w = wide_is b.varblock.kind b.size b.carried in
      let e : K + (j * (8 * b.size.width) + i) ≡ K + j * (8 * wide b.varblock.kind) + i = omega (arith, ap (λ n. j * (8 * n)) w) in
      get_or-take (K + M - K) (drop K t.list) (j * (8 * b.size.width) + i) nan (omega (arith, index_below i j p q))
      ∙ get_or-drop K t.list (j * (8 * b.size.width) + i) nan
      ∙ ap (λ k. get_or t.list k nan) e

  -- what the brush leaves is the block's image
  pub block_done : (s : Shape) (xs ws : List Float) (area : Area) (mul : Float) → Lawful s (length xs)
      → ws ≡ weights_of t b.varblock.kind → area ≡ area_of b → mul ≡ multiplier by.global_scale b.varblock.hf_mul by.qm_scale
      → painted s (patch area.x area.y area.width area.height (sample_at n ws area by mul)) xs ≡ one_block s (dequantising n t by) b.varblock xs
  unfolding one_block dequantising
  block_done s xs ws area mul l e f g =
      let v = b.varblock in
      let exact = multiplier by.global_scale v.hf_mul by.qm_scale in
      let made : ℕ → ℕ → Float =
      λ i j. dequantised by.quant_bias by.quant_bias_numerator (weight t v.kind i j) exact (numeral n (8 * v.x + i) (8 * v.y + j)) in
      ap (λ (a : Area). painted s (patch a.x a.y a.width a.height (sample_at n ws a by mul)) xs) f
      ∙ ap (λ ws. painted s (patch (8 * v.x) (8 * v.y) (8 * b.size.width) (8 * b.size.height) (sample_at n ws (area_of b) by mul)) xs) e
      ∙ ap
      (λ m. painted s (patch (8 * v.x) (8 * v.y) (8 * b.size.width) (8 * b.size.height) (sample_at n (weights_of t v.kind) (area_of b) by m)) xs) g
      ∙ patch_alike s (8 * v.x) (8 * v.y) xs l (8 * b.size.width) (8 * b.size.height)
      (λ i j. sample_at n (weights_of t v.kind) (area_of b) by exact i j nan) made
      (λ i j p q.
      ap (λ w. dequantised by.quant_bias by.quant_bias_numerator w exact (numeral n (8 * v.x + i) (8 * v.y + j))) (weight_is i j p q))
      ∙ ap (λ w. painted s (patch (8 * v.x) (8 * v.y) (8 * w) (8 * b.size.height) (λ i j _. made i j)) xs)
      (sym (wide_is v.kind b.size b.carried))
      ∙ ap (λ h. painted s (patch (8 * v.x) (8 * v.y) (8 * wide v.kind) (8 * h) (λ i j _. made i j)) xs)
      (sym (high_is v.kind b.size b.carried))
