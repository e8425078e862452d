use Rattle.std.proofs.Common.{◌-◌, ◌/◌, arith}
use Rattle.std.proofs.lemmas.Bool.{leb-true, le-leb}
use Rattle.std.proofs.lemmas.Nat.{le-div, mul-le, div-add-mod'}
use Rattle.grid.proofs.Shape.ends_by.Goals as goal

pub returns-then-self-len : goal.returns-then-self-len
returns-then-self-len c =
    let w = c.args.self.width in
    let h = c.args.self.height - 1 in
    let s = c.args.self.stride in
    let q = (c.args.len - w) / s in (
      (λ e. omega (arith, div-add-mod' (c.args.len - w) s, mul-le h s q s (leb-true h q e) (omega arith))),
      (λ l. le-leb _ _ (le-div _ _ _ (omega arith) (omega arith))),
    )
