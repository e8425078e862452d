-- A cell's 64 numbers as a grid in row order.
use Rattle.std.proofs.Common.{◌≡◌, ℕ, ◌+◌, ◌*◌, ◌/◌, ◌%◌, ◌≤◌, true, List, length, get_or, sym, refl, ap, ◌∙◌, ap₂, inl, inr, arith, lit≤}
use lib.Ieee.{Float, nan}
use Rattle.std.proofs.lemmas.List.{get_or_default, get_or_past}
use Rattle.std.proofs.lemmas.Bool.{cases_lt}
use Rattle.grid.specs.declared.Shape.{Shape}
use Rattle.grid.specs.Index.{index, Lawful}
use Rattle.grid.specs.Window.{elements}
use Rattle.grid.proofs.Laws.{is_painted}
use Rattle.dct_2d.specs.Plane.{Patch}
use Rattle.dct_2d.specs.Replaced.{poured, replaced}
use Rattle.cells.specs.Cells.{cell}
use Rattle.cells.proofs.Framing.{cell_in}
use Rattle.transform.specs.Maps.{single, cell_inverse, inverse}
use Rattle.transform.specs.KindFlats.{single_wide, single_high, inverse_single}
use Rattle.tablet.specs.Block.{rows}

abbrev eight : Shape
eight = record { width = 8; height = 8; stride = 8 }

-- where its elements lie
index_eight : (x y : ℕ) → index eight x y ≡ y * 8 + x
unfolding index
index_eight x y = refl

cell_elements : (v : List Float) → cell v ≡ elements eight v
unfolding cell elements index
cell_elements v = refl

lawful_eight : (n : ℕ) → 64 ≤ n → Lawful eight n
lawful_eight n l = record { wide = lit≤ tt; tall = lit≤ tt; within = lit≤ tt; small = lit≤ tt; long = l }

-- 64 numbers written over 64
whole_cell : (v w : List Float) → length v ≡ 64 → length w ≡ 64 → w ≡ poured (cell w) eight v
unfolding poured
whole_cell v w lv lw =
    is_painted eight (λ x y _. cell w x y) v w (lawful_eight (length v) (omega arith)) (lw ∙ sym lv)
    (λ x y d k.
    let a = k.across in
    let b = k.down in
    ap (λ (i : ℕ). get_or w i d) (index_eight x y)
    ∙ get_or_default w (y * 8 + x) d nan (omega arith)
    ∙ sym (cell_in w x y (omega arith) (omega arith)))
    (λ i d none.
    elim (cases_lt i 64) [
      | inl h ↦ absurd (none (i % 8) (i / 8) (record { across = omega arith; down = omega arith }) (index_eight (i % 8) (i / 8) ∙ omega arith))
      | inr h ↦ get_or_past w i d (omega arith) ∙ sym (get_or_past v i d (omega arith))
    ])

pub cell_rows : (kind : ℕ) (v w : List Float) → single kind ≡ true → length v ≡ 64 → length w ≡ 64 → cell w ≡ cell_inverse kind (cell v)
    → w ≡ replaced (inverse kind) (rows kind) v
cell_rows kind v w e lv lw q =
    whole_cell v w lv lw
    ∙ ap (λ (p : Patch). poured p eight v) (q ∙ ap (cell_inverse kind) (cell_elements v) ∙ inverse_single kind (elements eight v) e)
    ∙ ap (λ (s : Shape). replaced (inverse kind) s v) (sym shape)
  where
    F : ℕ → ℕ → Shape
    F = λ i j. record { width = 8 * i; height = 8 * j; stride = 8 * i }

    shape : rows kind ≡ eight
    shape = ap₂ (λ (i j : ℕ). record { width = 8 * i; height = 8 * j; stride = 8 * i }) (single_wide kind e) (single_high kind e)
