use Rattle.std.proofs.Common.{sym, ◌∙◌, arith}
use Rattle.std.proofs.lemmas.Bool.{and_parts, leb-true}
use Rattle.kinds.proofs.Sizes.{size_bounded}
use Rattle.refusal.proofs.Rows.{demand_ok}
use Rattle.frame.proofs.frame.Frame.judge_block.Goals as goal

pub check_free-requires : goal.check_free-requires
check_free-requires c =
    let p = and_parts _ _ (demand_ok _ _ (sym (c.in_ok-require.ensures))) in
    let a = leb-true _ _ (sym c.reaches.ensures ∙ p.0) in
    let b = leb-true _ _ (sym c.reaches-2.ensures ∙ p.1) in
    record {
      wide = (size_bounded _ _ (sym c.kind_size.ensures ∙ c.in_ok-size.ensures.ok_part)).wide;
      across = omega (arith, a, c.requires.width);
      down = omega (arith, b, c.requires.height);
    }
