-- The list of leads.
use Rattle.std.proofs.Common.{◌≡◌, ℕ, zero, suc, ◌+◌, ◌-◌, ◌*◌, ◌≤◌, ◌++◌, length, Some, None, Option, sym, ap, ◌∙◌, append_assoc, arith}
use Rattle.std.proofs.lemmas.List.{append-nil, length-append}
use Rattle.std.proofs.lemmas.Nat.{mul-le}
use Rattle.grid.specs.declared.Shape.{Shape}
use Rattle.grid.specs.Index.{Lawful}
use Rattle.varmap.specs.declared.cells.Record.{Record}
use Rattle.varmap.specs.declared.map.Map.{Map}
use Rattle.blocks.specs.declared.leads.Varblock.{Varblock}
use Rattle.blocks.specs.Leads.{lead_at, one_or_none, leads_among, leads}
use Rattle.blocks.specs.Walk.{records, leads_of, leads_from, rest}
use Rattle.blocks.proofs.Numbering.{area_le}

module _ (w : ℕ) (m : ℕ → ℕ → Record) where
  -- there are no more leads than cells
  pub count_below : (n : ℕ) → length (leads_among w m n) ≤ n
  unfolding leads_among
  count_below zero = omega arith
  count_below (suc n) =
      let ih = count_below n in
      let k = one (lead_at w m n) in
      omega (arith, length-append (leads_among w m n) (one_or_none (lead_at w m n)))
    where
      one : (o : Option Varblock) → length (one_or_none o) ≤ 1
      one None = omega arith
      one (Some v) = omega arith

  -- the leads among the first cells, and those from there on
  pub among_from : (n k : ℕ) → leads_among w m k ++ leads_from w m n k ≡ leads_among w m (k + n)
  unfolding leads_among leads_from
  among_from zero k =
      let e : k ≡ k + 0 = omega arith in
      append-nil (leads_among w m k) ∙ ap (leads_among w m) e
  among_from (suc n) k =
      let e : suc k + n ≡ k + suc n = omega arith in
      sym (append_assoc (leads_among w m k) (one_or_none (lead_at w m k)) (leads_from w m n (suc k)))
      ∙ among_from n (suc k)
      ∙ ap (leads_among w m) e

-- from the first cell on, they are all
pub from_first : (w h : ℕ) (m : ℕ → ℕ → Record) → leads_from w m (w * h) 0 ≡ leads w h m
unfolding leads leads_among
from_first w h m =
    let e : 0 + w * h ≡ w * h = omega arith in
    among_from w m (w * h) 0 ∙ ap (leads_among w m) e

-- there are no more leads than samples
pub leads_below : (w h : ℕ) (m : ℕ → ℕ → Record) (s : Shape) (n : ℕ) → Lawful s n → s.width ≡ 8 * w → s.height ≡ 8 * h → length (leads w h m) ≤ n
unfolding leads
leads_below w h m s n l width height =
    omega (arith, count_below w m (w * h), mul-le w h s.width s.height (omega arith) (omega arith), area_le s n l)

-- the walk begins with all of them
pub rest_all : (map : Map) → rest (record { map = map; from = 0 }) ≡ leads_of map
rest_all map =
    let w = map.grid.shape.width in
    let h = map.grid.shape.height in
    let e : w * h - 0 ≡ w * h = omega arith in
    ap (λ n. leads_from w (records map) n 0) e ∙ from_first w h (records map)
