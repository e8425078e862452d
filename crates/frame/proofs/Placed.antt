-- The laws of an accepted place.
use Rattle.std.proofs.Common.{◌≡◌, ℕ, ◌+◌, ◌-◌, ◌<◌, List, ap, ◌∙◌, subst, mul_comm, arith}
use Rattle.grid.specs.declared.Shape.{Shape}
use Rattle.grid.specs.Index.{Inside}
use Rattle.grid.specs.Painted.{painted, patch}
use Rattle.grid.proofs.Laws.{painted_in}
use Rattle.kinds.specs.declared.Size.{Size}
use Rattle.varmap.specs.declared.cells.Cell.{Cell}
use Rattle.varmap.specs.declared.cells.Record.TheVariants.{Empty}
use Rattle.frame.specs.declared.stages.Stage.{Stage}
use Rattle.varmap.specs.Cells.{cell, cells}
use Rattle.frame.specs.Placing.{stamp, stamped, placed}
use Rattle.frame.specs.Counts.{filled}
use Rattle.frame.specs.Laws.{KeepsLawful, AddsCells}
use Rattle.frame.proofs.Accepted.{Accepted, accepted}
use Rattle.frame.proofs.Rectangle.{In, in_patch, out_patch}
use Rattle.frame.proofs.Stays.{stays_lawful}
use Rattle.frame.proofs.Counting.{more_filled}

module _ (w8 h8 : ℕ) (st : Stage) (s : Shape) (xs : List Cell) (kind x y mul : ℕ) (z : Size)
    (ok : Accepted w8 h8 st s xs kind x y mul z) where
  abbrev after : List Cell
  after = placed s kind x y mul xs

  pub placed_is : after ≡ painted s (patch x y z.width z.height (stamp kind mul)) xs
  placed_is = ap (λ o. stamped s kind x y mul o xs) ok.carried

  cell_after : (p q : ℕ) → p < w8 → q < h8
      → cells s after p q ≡ (patch x y z.width z.height (stamp kind mul) p q (cell (cells s xs p q))).holds
  cell_after p q a b =
      let inside : Inside s p q = record { across = omega (arith, ok.sized.width); down = omega (arith, ok.sized.height) } in
      ap (λ ys. cells s ys p q) placed_is
      ∙ ap (λ (c : Cell). c.holds)
      (painted_in s (patch x y z.width z.height (stamp kind mul)) xs p q (cell Empty) ok.sized.lawful inside)

  -- inside the rectangle, what its placing wrote
  pub inside_at : (p q : ℕ) → In x y z p q → cells s after p q ≡ (stamp kind mul (p - x) (q - y) (cell Empty)).holds
  inside_at p q k =
      cell_after p q (omega (arith, k.right, ok.across)) (omega (arith, k.bottom, ok.down))
      ∙ ap (λ (c : Cell). c.holds) (in_patch x y z (stamp kind mul) p q (cell (cells s xs p q)) k)

  -- and elsewhere what was there
  pub outside_at : (p q : ℕ) → p < w8 → q < h8 → (In x y z p q → ⊥) → cells s after p q ≡ cells s xs p q
  outside_at p q a b k =
      cell_after p q a b ∙ ap (λ (c : Cell). c.holds) (out_patch x y z (stamp kind mul) p q (cell (cells s xs p q)) k)

  -- the rectangle was empty
  pub free_in : (p q : ℕ) → In x y z p q → cells s xs p q ≡ Empty
  free_in p q k =
      let l = k.left in
      let t = k.top in
      let r = k.right in
      let o = k.bottom in
      let a : x + (p - x) ≡ p = omega arith in
      let b : y + (q - y) ≡ q = omega arith in
      subst (λ v. cells s xs v q ≡ Empty) a
      (subst (λ u. cells s xs (x + (p - x)) u ≡ Empty) b (ok.free (p - x) (q - y) (omega arith) (omega arith)))

pub keeps_lawful : KeepsLawful
keeps_lawful w8 h8 st s xs kind x y mul z e =
    let ok = accepted w8 h8 st s xs kind x y mul z e in
    stays_lawful w8 h8 (cells s xs) (cells s (placed s kind x y mul xs)) kind mul x y z ok.carried ok.range ok.across ok.down
    (free_in w8 h8 st s xs kind x y mul z ok) (inside_at w8 h8 st s xs kind x y mul z ok) (outside_at w8 h8 st s xs kind x y mul z ok)
    ok.lawful

pub adds_cells : AddsCells
adds_cells w8 h8 st s xs kind x y mul z e =
    let ok = accepted w8 h8 st s xs kind x y mul z e in
    more_filled w8 h8 (cells s xs) (cells s (placed s kind x y mul xs)) kind mul x y z ok.across ok.down
    (free_in w8 h8 st s xs kind x y mul z ok) (inside_at w8 h8 st s xs kind x y mul z ok) (outside_at w8 h8 st s xs kind x y mul z ok)
    ∙ ap (λ n. filled w8 h8 (cells s xs) + n) (mul_comm z.height z.width)
