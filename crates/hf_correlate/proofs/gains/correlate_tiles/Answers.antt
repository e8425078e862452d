use Rattle.std.proofs.Common.{refl, ap, ◌∙◌, arith}
use Rattle.grid.specs.declared.Shape.{Shape}
use Rattle.grid.specs.Plane.{seen}
use Rattle.hf_correlate.proofs.LeastTiles.{begins}
use Rattle.hf_correlate.proofs.Tilewise.{upto_none, upto_row, upto_all, tile_done, area_across, area_down}
use Rattle.hf_correlate.proofs.gains.correlate_tiles.Goals as goal

pub loop-ty-init : goal.loop-ty-init
loop-ty-init c =
    record {
      same = refl;
      shape = refl;
      list = upto_none _ (seen c.args.luma) (seen c.args.gains.tiles.grid) _ _ _ c.args.out.now.lawful;
    }

pub tile_area-area-requires : goal.tile_area-area-requires
tile_area-area-requires c =
    let shape = c.loop-tx.invariant.shape in
    record {
      across = omega (arith, begins _ _ _ c.requires.across c.loop-tx-test.true, ap (λ (s : Shape). s.width) shape);
      down = omega (arith, begins _ _ _ c.requires.down c.loop-ty-test.true, ap (λ (s : Shape). s.height) shape);
    }

pub paint-requires-clause-across : goal.paint-requires-clause-across
paint-requires-clause-across c =
    area_across c.loop-tx.out.shape _ _ _ c.tile_area-area.ensures
    (omega (arith, begins _ _ _ c.requires.across c.loop-tx-test.true, ap (λ (s : Shape). s.width) c.loop-tx.invariant.shape))

pub paint-requires-clause-down : goal.paint-requires-clause-down
paint-requires-clause-down c =
    area_down c.loop-tx.out.shape _ _ _ c.tile_area-area.ensures
    (omega (arith, begins _ _ _ c.requires.down c.loop-ty-test.true, ap (λ (s : Shape). s.height) c.loop-tx.invariant.shape))

pub loop-tx-preserved : goal.loop-tx-preserved
loop-tx-preserved c =
    let was = c.loop-tx.invariant in
    record {
      same = c.paint.ensures.same ∙ was.same;
      shape = c.paint.ensures.shape ∙ was.shape;
      list =
          tile_done _ (seen c.args.luma) (seen c.args.gains.tiles.grid) _ _ _ c.args.out.now.lawful _ _ _ _ _ _ _ was.shape
          c.tile_area-area.ensures c.at.ensures was.list c.paint.ensures.list;
    }

pub loop-ty-preserved : goal.loop-ty-preserved
loop-ty-preserved c =
    let was = c.loop-tx.invariant in
    record {
      same = was.same;
      shape = was.shape;
      list =
          was.list
          ∙ upto_row _ (seen c.args.luma) (seen c.args.gains.tiles.grid) _ _ _ c.args.out.now.lawful
          c.args.gains.tiles.grid.shape.width c.loop-tx.tx c.loop-ty.ty (omega arith) c.requires.across.reach;
    }

pub returns : goal.returns
returns c =
    let was = c.loop-ty.invariant in
    record {
      same = was.same;
      shape = was.shape;
      list =
          was.list
          ∙ upto_all _ (seen c.args.luma) (seen c.args.gains.tiles.grid) _ _ _ c.args.out.now.lawful
          c.args.gains.tiles.grid.shape.height c.loop-ty.ty (omega arith) c.requires.down.reach;
    }
