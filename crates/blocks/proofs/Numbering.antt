-- Cells by number, in row order.
use Rattle.std.proofs.Common.{◌≡◌, ℕ, ◌+◌, ◌-◌, ◌*◌, ◌/◌, ◌<◌, ◌≤◌, Some, sym, ap, ◌∙◌, ⊎_elim, mul_comm, mul-one, mul-add, arith}
use Rattle.std.proofs.lemmas.Nat.{div-mul-add, mod-mul-add, mul-le}
use Rattle.grid.specs.declared.Shape.{Shape}
use Rattle.grid.specs.Index.{Lawful}
use Rattle.std.proofs.lemmas.Bool.{cases_lt}
use Rattle.varmap.specs.declared.cells.Record.{Record}
use Rattle.varmap.specs.declared.cells.Record.TheVariants.{Lead}
use Rattle.blocks.specs.declared.leads.Varblock.{Varblock}
use Rattle.blocks.specs.Leads.{leads_to, lead_at, number, FirstLead, OfMap}

-- a lawful grid has no more elements than its list
pub area_le : (s : Shape) (n : ℕ) → Lawful s n → s.width * s.height ≤ n
area_le s n l =
    let tall = l.tall in
    let within = l.within in
    let e : s.height - 1 + 1 ≡ s.height = omega arith in
    let p : s.width * s.height ≡ s.width * (s.height - 1) + s.width =
    ap (λ h. s.width * h) (sym e) ∙ mul-add s.width (s.height - 1) 1 ∙ ap (λ k. s.width * (s.height - 1) + k) (mul-one s.width) in
    omega (arith, l.long, p, mul_comm s.width (s.height - 1), mul-le (s.height - 1) s.width (s.height - 1) s.stride (omega arith) (omega arith))

-- the number of a lead leads back to it
pub lead_back : (w : ℕ) (m : ℕ → ℕ → Record) (v : Varblock) → v.x < w → m v.x v.y ≡ Lead v.kind v.hf_mul
    → lead_at w m (number w v) ≡ Some v
lead_back w m v a e =
    ap (λ x. leads_to x (number w v / w) (m x (number w v / w))) (mod-mul-add v.y w v.x a)
    ∙ ap (λ y. leads_to v.x y (m v.x y)) (div-mul-add v.y w v.x a)
    ∙ ap (leads_to v.x v.y) e

-- a number below all cells' is in a row of the map
row_below : (w h x y : ℕ) → y * w + x < w * h → y < h
row_below w h x y l =
    ⊎_elim (λ (a : y < h). a) (λ b. absurd (omega (arith, mul-le h w y w b (omega arith), mul_comm w h))) (cases_lt y h)

-- what the search finds is a varblock of the map
pub found_of : (w h : ℕ) (m : ℕ → ℕ → Record) (a : ℕ) (v : Varblock) → FirstLead w (w * h) m a v → OfMap w h m v
found_of w h m a v f = record { across = f.across; down = row_below w h _ _ f.below; lead = f.lead }
