-- The work on the varblocks of a map, one after the other.
use Rattle.std.proofs.Common.{◌≡◌, ℕ, ◌+◌, ◌*◌, ◌≤◌, List, [], ◌∷◌, length, sym, refl, ap, ◌∙◌, subst, arith}
use Rattle.std.specs.List.{All}
use Rattle.std.proofs.lemmas.List.Elements.{All-head, All-same, All-rest}
use lib.Ieee.{Float}
use Rattle.grid.specs.declared.Shape.{Shape}
use Rattle.grid.specs.declared.canvas.Canvas.{Canvas}
use Rattle.grid.specs.Drawn.{Drawn}
use Rattle.kinds.specs.declared.Size.{Size}
use Rattle.kinds.proofs.Sizes.{same_size}
use Rattle.varmap.specs.declared.map.Map.{Map}
use Rattle.blocks.specs.declared.leads.Varblock.{Varblock}
use Rattle.blocks.specs.declared.block.Block.{Block}
use Rattle.blocks.specs.Leads.{OfMap}
use Rattle.blocks.specs.Blocks.{Image, one_block, by_blocks}
use Rattle.blocks.specs.Walk.{records, leads_of}
use Rattle.blocks.proofs.Holders.{whole}
use Rattle.blocks.proofs.Counting.{leads_below}
use Rattle.blocks.proofs.Steps.{leads_of_map}
use Rattle.blocks.proofs.ByBlocks.{each_done, by_each}

-- the varblocks are of the map
abbrev pub AllOfMap : Map → List Varblock → Type 0
AllOfMap map vs = All (OfMap map.grid.shape.width map.grid.shape.height (records map)) vs

-- what is known of the first of them
pub record First (map : Map) (b : Block) : Type 0 where
  pub of_map : OfMap map.grid.shape.width map.grid.shape.height (records map) b.varblock
  pub across : b.varblock.x + b.size.width ≤ map.grid.shape.width
  pub down : b.varblock.y + b.size.height ≤ map.grid.shape.height

pub first : (map : Map) (b : Block) (vs others : List Varblock) → vs ≡ b.varblock ∷ others → AllOfMap map vs → First map b
first map b vs others e all =
    let P = OfMap map.grid.shape.width map.grid.shape.height (records map) in
    let of = All-head P b.varblock others (subst (All P) e all) in
    let k = whole _ _ _ map.lawful b.varblock of in
    let z = same_size b.varblock.kind k.size b.size k.carried b.carried in
    let w = ap (λ (s : Size). s.width) z in
    let h = ap (λ (s : Size). s.height) z in
    record { of_map = of; across = omega (arith, k.across); down = omega (arith, k.down) }

-- the varblocks `left` are still to come, `count` are done, and the grid, `a` before, is now `b`
pub record Left (map : Map) (image : Image) (left : List Varblock) (count : ℕ) (a b : Canvas Float) : Type 0 where
  pub of_map : AllOfMap map left
  pub drawn : Drawn a b b.list.now
  pub done : each_done a.shape image left b.list.now ≡ by_blocks a.shape (records map) image a.list.now
  pub counted : count + length left ≡ length (leads_of map)

module _ (map : Map) (image : Image) (a : Canvas Float) where
  pub left_all : (left : List Varblock) → left ≡ leads_of map → a.shape.width ≡ 8 * map.grid.shape.width
      → a.shape.height ≡ 8 * map.grid.shape.height → Left map image left 0 a a
  left_all left e width height =
      let w = map.grid.shape.width in
      let h = map.grid.shape.height in
      record {
        of_map = All-same (OfMap w h (records map)) left _ e (leads_of_map w h (records map) map.grid.lawful.wide);
        drawn = record { same = refl; shape = refl; list = refl };
        done =
            ap (λ vs. each_done a.shape image vs a.list.now) e
            ∙ by_each a.shape w h (records map) image a.list.now a.lawful width height map.lawful;
        counted = omega (arith, ap length e);
      }

  pub left_more : (v : Varblock) (left others : List Varblock) (count : ℕ) (b c : Canvas Float) → left ≡ v ∷ others
      → Left map image left count a b → Drawn b c (one_block b.shape image v b.list.now) → Left map image others (count + 1) a c
  left_more v left others count b c e l w =
      let n = l.counted in
      let s = l.drawn.shape in
      record {
        of_map = All-rest (OfMap map.grid.shape.width map.grid.shape.height (records map)) v others left e l.of_map;
        drawn = record { same = w.same ∙ l.drawn.same; shape = w.shape ∙ s; list = refl };
        done =
            ap (each_done a.shape image others) (w.list ∙ ap (λ (s : Shape). one_block s image v b.list.now) s)
            ∙ ap (λ vs. each_done a.shape image vs b.list.now) (sym e)
            ∙ l.done;
        counted = omega (arith, ap length e);
      }

  pub left_none : (left : List Varblock) (count : ℕ) (b : Canvas Float) → left ≡ [] → Left map image left count a b
      → Drawn a b (by_blocks a.shape (records map) image a.list.now) × (count ≡ length (leads_of map))
  left_none left count b e l =
      let n = l.counted in (
        record { same = l.drawn.same; shape = l.drawn.shape; list = ap (λ vs. each_done a.shape image vs b.list.now) (sym e) ∙ l.done },
        omega (arith, ap length e),
      )

  -- there are no more varblocks than samples
  pub left_few : (left : List Varblock) (count : ℕ) (b : Canvas Float) → a.shape.width ≡ 8 * map.grid.shape.width
      → a.shape.height ≡ 8 * map.grid.shape.height → Left map image left count a b → count + length left ≤ length a.list.now
  left_few left count b width height l =
      let n = l.counted in
      omega (arith, leads_below _ _ (records map) a.shape (length a.list.now) a.lawful width height)
