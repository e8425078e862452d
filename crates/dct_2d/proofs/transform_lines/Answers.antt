use Rattle.std.proofs.Common.{◌≡◌, ℕ, ◌^◌, ◌<◌, List, refl, sym, ap, ◌∙◌, ap₂, arith}
use lib.Ieee.{Float}
use Rattle.grid.specs.declared.Shape.{Shape}
use Rattle.grid.specs.Window.{elements}
use Rattle.floats.proofs.Powers.{pow_inj}
use Rattle.dct_2d.specs.Plane.{across, down, plane}
use Rattle.dct_2d.specs.Replaced.{poured, replaced}
use Rattle.dct_2d.proofs.Drawings.{drawn_like, drawn_next}
use Rattle.dct_2d.proofs.Passes.{rows_columns, columns_rows, plane_square, long_side, short_side}
use Rattle.dct_2d.proofs.transform_lines.Goals as goal

pub returns-then-shape-eq2-2 : goal.returns-then-shape-eq2-2
returns-then-shape-eq2-2 c a b q =
    let grid = c.args.canvas.now in
    let s = grid.shape in
    let xs = grid.list.now in
    let d = c.args.direction in
    let ea : 1 ≡ a = pow_inj 1 a (let z : 2 ≡ 2 ^ a = omega (arith, q.width) in z) in
    let eb : 1 ≡ b = pow_inj 1 b (let z : 2 ≡ 2 ^ b = omega (arith, q.height) in z) in
    drawn_like _ _ _ c.dct_square.ensures _
    (ap (λ p. poured p s xs) (plane_square d (elements s xs)) ∙ ap₂ (λ (i j : ℕ). replaced (plane d i j) s xs) ea eb)

pub returns-then-shape-gt2 : goal.returns-then-shape-gt2
returns-then-shape-gt2 c a b q =
    let grid = c.args.canvas.now in
    let d = c.args.direction in
    let eb : 1 ≡ b = pow_inj 1 b (let z : 2 ≡ 2 ^ b = omega (arith, q.height) in z) in
    let columns = c.dct_lines.ensures b q.height in
    let rows = c.dct_lines-then-shape-gt2.ensures a (ap (λ (t : Shape). t.width) columns.shape ∙ q.width) in
    drawn_like _ _ _ (drawn_next _ _ _ columns _ (λ (t : Shape) (v : List Float). replaced (across d a) t v) rows) _
    (columns_rows grid.shape d a b grid.list.now _ _ q.lawful q.width q.height
    (long_side a (let z : 2 < 2 ^ a = omega (arith, q.width) in z)) (sym eb) refl refl)

pub returns-else-shape-eq2-3 : goal.returns-else-shape-eq2-3
returns-else-shape-eq2-3 c a b q =
    let grid = c.args.canvas.now in
    let d = c.args.direction in
    let rows = c.dct_lines-else-shape-eq2-3.ensures a q.width in
    let columns = c.dct_lines-else-shape-eq2-3-2.ensures b (ap (λ (t : Shape). t.height) rows.shape ∙ q.height) in
    drawn_like _ _ _ (drawn_next _ _ _ rows _ (λ (t : Shape) (v : List Float). replaced (down d b) t v) columns) _
    (rows_columns grid.shape d a b grid.list.now _ _ q.lawful q.width q.height
    (λ e. short_side a (omega (arith, ap (λ (i : ℕ). 2 ^ i) e, q.width, q.height, c.else-shape-eq2.either, c.else-shape-eq2-3.either)))
    refl refl)
