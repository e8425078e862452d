-- A map of one cell, which leads a varblock of kind 0, with weights that have a start for kind 0 alone.
use Rattle.std.proofs.Common.{◌≡◌, ◌*◌, ◌≤◌, true, length, [], ◌∷◌, ℤ, sym, refl, ap, ◌∙◌, subst, arith}
use Rattle.std.specs.List.{slice_index}
use lib.Ieee.{Float}
use Rattle.grid.specs.Index.{Lawful, dense, index}
use Rattle.grid.specs.Plane.{Plane, fitting, seen}
use Rattle.grid.proofs.Sized.{sized_true}
use Rattle.kinds.specs.Kinds.{wide, high, size_of, found}
use Rattle.channels.specs.Ranges.{AllInRange}
use Rattle.varmap.specs.declared.cells.Cell.{Cell}
use Rattle.varmap.specs.declared.cells.Record.TheVariants.{Lead}
use Rattle.varmap.specs.declared.map.Map.{Map}
use Rattle.varmap.specs.Cells.{cell, cells}
use Rattle.blocks.specs.declared.leads.Varblock.{Varblock}
use Rattle.blocks.specs.Leads.{varblock, OfMap}
use Rattle.weights.specs.Weights.{Table}
use Rattle.hf_block.specs.declared.work.Scales.{Scales}
use Rattle.hf_block.specs.Dequantised.{Ready, Writable}

abbrev pub one_cell : Plane Cell
one_cell = record { shape = dense 1 1; list = cell (Lead 0 1) ∷ [] }

-- its varblock
abbrev first : Varblock
first = varblock 0 0 0 1

-- there is no other
only : (v : Varblock) → OfMap 1 1 (cells one_cell.shape one_cell.list) v → first ≡ v
unfolding index
only v of =
    let a : v.x ≡ 0 = omega (arith, of.across) in
    let b : v.y ≡ 0 = omega (arith, of.down) in
    let lead : Lead 0 1 ≡ Lead v.kind v.hf_mul =
    sym (ap (λ x. cells one_cell.shape one_cell.list x v.y) a ∙ ap (cells one_cell.shape one_cell.list 0) b) ∙ of.lead in
    let k : 0 ≡ v.kind = cc in
    let m : 1 ≡ v.hf_mul = cc in
    ap (λ x. varblock x 0 0 1) (sym a)
    ∙ ap (λ y. varblock v.x y 0 1) (sym b)
    ∙ ap (λ k. varblock v.x v.y k 1) k
    ∙ ap (λ m. varblock v.x v.y v.kind m) m

one_wide : wide 0 ≡ 1
unfolding wide size_of found
one_wide = refl

one_high : high 0 ≡ 1
unfolding high size_of found
one_high = refl

pub one_writable : (map : Map) (n : Plane ℤ) (t : Table) (by : Scales) (p : Plane Float)
    → seen map.grid ≡ one_cell → fitting 8 8 n ≡ true → AllInRange n → t.starts ≡ 0 ∷ [] → 64 ≤ length t.list → by.global_scale ≤ 73728
    → Lawful p.shape (length p.list) → p.shape.width ≡ 8 → p.shape.height ≡ 8 → Writable map n t by p
one_writable map n t by p here fits range starts long small lawful w h =
    record {
      samples_lawful = lawful;
      width = w ∙ ap (λ (c : Plane Cell). 8 * c.shape.width) (sym here);
      height = h ∙ ap (λ (c : Plane Cell). 8 * c.shape.height) (sym here);
      ready = λ v of.
          subst (Ready n t by) (only v (subst (λ (c : Plane Cell). OfMap c.shape.width c.shape.height (cells c.shape c.list) v) here of)) ready;
    }
  where
    ready : Ready n t by first
    ready =
        let z = sized_true 8 8 n.shape (length n.list) fits in
        let k = ap (λ xs. length xs) starts in
        let s : slice_index t.starts 0 ≡ 0 = ap (λ xs. slice_index xs 0) starts in
        let a : wide 0 * high 0 ≡ 1 = ap (λ n. n * high 0) one_wide ∙ ap (λ n. 1 * n) one_high in
        record {
          lawful = z.lawful;
          across = omega (arith, z.width, one_wide);
          down = omega (arith, z.height, one_high);
          range = λ x y i. range x y i.across i.down;
          starts = omega (arith, k);
          weights = omega (arith, s, a, long);
          small = small;
          mul = omega arith;
        }
