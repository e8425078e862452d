use Rattle.std.proofs.Common.{◌≡◌, ◌-◌, ◌*◌, ◌∷◌, length, sym, refl, ap, ◌∙◌, subst, arith}
use Rattle.std.specs.Option.{IsSome}
use Rattle.blocks.specs.Walk.{records, leads_from, rest}
use Rattle.blocks.proofs.Numbering.{found_of}
use Rattle.blocks.proofs.Holders.{whole}
use Rattle.blocks.proofs.Steps.{none_left, first_left}
use Rattle.blocks.proofs.walk.WalkIterator.next.Goals as goal
use Rattle.blocks.proofs.walk.WalkIterator.next.Goals.{After-unwrap-size}

pub returns-in_err-varblock-clause-steps : goal.returns-in_err-varblock-clause-steps
returns-in_err-varblock-clause-steps c =
    let s = c.args.self.now in
    let none = none_left s.map.grid.shape.width (records s.map) (s.map.grid.shape.width * s.map.grid.shape.height) s.from c.in_err-varblock.ensures in
    rw c.from_residual.ensures (none, none)

pub number_after-self-requires : goal.number_after-self-requires
number_after-self-requires c =
    let f = found_of _ _ _ _ _ c.in_ok-varblock.ensures in
    record { across = f.across; down = f.down }

pub unwrap-size-requires : goal.unwrap-size-requires
unwrap-size-requires c =
    let s = c.args.self.now in
    let k =
    whole s.map.grid.shape.width s.map.grid.shape.height (records s.map) s.map.lawful c.in_ok-varblock.varblock
    (found_of _ _ _ _ _ c.in_ok-varblock.ensures) in
    subst IsSome (sym (c.kind_size.ensures ∙ k.carried)) refl

step : (c : After-unwrap-size) → rest c.args.self.now ≡ c.in_ok-varblock.varblock ∷ rest (record { map = c.args.self.now.map; from = c.number_after-self.result })
step c =
    let s = c.args.self.now in
    let w = s.map.grid.shape.width in
    let n = w * s.map.grid.shape.height in
    let v = c.in_ok-varblock.varblock in
    first_left w (records s.map) n s.from v c.in_ok-varblock.ensures
    ∙ ap (λ k. v ∷ leads_from w (records s.map) (n - k) k) (sym c.number_after-self.ensures)

pub returns-clause-steps : goal.returns-clause-steps
returns-clause-steps c = step (goal.at.returns-clause-steps c).After-unwrap-size

pub returns-clause-goes : goal.returns-clause-goes
returns-clause-goes c =
    let e = ap length (step (goal.at.returns-clause-goes c).After-unwrap-size) in
    record { on = λ _. (tt, tt, omega (arith, e)); keeps = tt; rests = λ _. tt }
