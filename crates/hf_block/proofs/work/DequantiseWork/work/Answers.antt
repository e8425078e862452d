use Rattle.std.proofs.Common.{ℕ, ◌+◌, ◌*◌, ◌<◌, length, sym, ◌∙◌, subst}
use Rattle.grid.specs.declared.brush.Area.{Area}
use Rattle.grid.specs.Index.{Inside}
use Rattle.grid.specs.Plane.{viewed}
use Rattle.weights.specs.Weights.{table}
use Rattle.hf_block.proofs.Block.{supplied, inside_block, weight_below, block_done}
use Rattle.hf_block.proofs.work.DequantiseWork.work.Goals as goal

pub paint-requires-clause-can : goal.paint-requires-clause-can
paint-requires-clause-can c =
    let n = viewed c.args.self.now.coefficients in
    let t = table c.args.self.now.weights in
    let by = c.args.self.now.scales in
    let can = supplied n t by c.args.block.varblock c.requires.can in
    subst
    (λ (a : Area). (i j : ℕ) → i < a.width → j < a.height → Inside n.shape (a.x + i) (a.y + j) × (j * a.width + i < length c.from_start.result.now))
    (sym c.area-area.ensures)
    (λ i j p q. (
      inside_block n t by c.args.block can i j p q,
      subst (λ ws. j * (8 * c.args.block.size.width) + i < length ws) (sym c.from_start.ensures) (weight_below n t by c.args.block can i j p q),
    ))

pub returns : goal.returns
returns c =
    record {
      same = c.paint.ensures.same;
      shape = c.paint.ensures.shape;
      list =
          c.paint.ensures.list
          ∙ block_done (viewed c.args.self.now.coefficients) (table c.args.self.now.weights) c.args.self.now.scales
          c.args.block (supplied _ _ _ _ c.requires.can) c.args.canvas.now.shape _ _ _ _ c.args.canvas.now.lawful c.from_start.ensures c.area-area.ensures c.multiplier.ensures;
    }
