-- The four steps on a block leave the block's image.
use Rattle.std.proofs.Common.{◌≡◌, ℕ, ◌+◌, ◌-◌, ◌*◌, ◌<◌, ◌≤◌, Bool, true, false, cond, ◌&&◌, ltb, ◌⊎◌, List, length, get_or, sym, ap, ◌∙◌, subst, inl, inr, arith}
use mathlib.Core.Path.{fun_ext}
use lib.Ieee.{Float, nan}
use Rattle.std.proofs.lemmas.Bool.{cases_Bool, and_parts, ltb-true, lt-ltb, and_from, cond-true, cond-false}
use Rattle.std.proofs.lemmas.Bool.Decides.{nat_tests}
use Rattle.grid.specs.declared.Shape.{Shape}
use Rattle.grid.specs.declared.brush.Area.{Area}
use Rattle.grid.specs.declared.canvas.Canvas.{Canvas}
use Rattle.grid.specs.Drawn.{Drawn}
use Rattle.grid.specs.Index.{index, Lawful}
use Rattle.grid.specs.Painted.{painted, patch}
use Rattle.grid.specs.Window.{window}
use Rattle.grid.specs.Plane.{Plane, sample}
use Rattle.grid.proofs.Laws.{painted_in, painted_twice}
use Rattle.kinds.specs.Kinds.{wide, high}
use Rattle.kinds.proofs.Sizes.{wide_is, high_is}
use Rattle.dct_2d.specs.Plane.{Patch}
use Rattle.blocks.specs.declared.leads.Varblock.{Varblock}
use Rattle.blocks.specs.declared.block.Block.{Block}
use Rattle.blocks.specs.Areas.{area_of, corner_of}
use Rattle.blocks.specs.Blocks.{block, one_block}
use Rattle.blocks.proofs.Patches.{patch_alike}
use Rattle.kernel.specs.Maps.{Maps, imaged}
use Rattle.kernel.specs.Corner.{corner, cornered, block_image}
use Rattle.rebuild.specs.Rebuilt.{lf_at, divided, lf_patch, rebuilding}

module _ (s : Shape) (x y : ℕ) (xs : List Float) (l : Lawful s (length xs)) where
  -- a patch painted over
  pub painted_over : (w h W H : ℕ) (f : ℕ → ℕ → Float → Float) (g : Patch) → w ≤ W → h ≤ H
      → painted s (patch x y W H (λ i j _. g i j)) (painted s (patch x y w h f) xs) ≡ painted s (patch x y W H (λ i j _. g i j)) xs
  painted_over w h W H f g a b =
      painted_twice s (patch x y w h f) (patch x y W H (λ i j _. g i j)) (patch x y W H (λ i j _. g i j)) xs l
      (λ p q old k. grind (arith, nat_tests))

  -- a patch worked on once more
  pub painted_on : (w h : ℕ) (f : Patch) (g : ℕ → ℕ → Float → Float)
      → painted s (patch x y w h g) (painted s (patch x y w h (λ i j _. f i j)) xs) ≡ painted s (patch x y w h (λ i j _. g i j (f i j))) xs
  painted_on w h f g =
      painted_twice s (patch x y w h (λ i j _. f i j)) (patch x y w h g) (patch x y w h (λ i j _. g i j (f i j))) xs l
      (λ p q old k. grind (arith, nat_tests))

  -- what a larger window shows of a painted patch
  pub window_over : (w h W H : ℕ) (f : Patch) → x + W ≤ s.width → y + H ≤ s.height → w ≤ W → h ≤ H
      → window s x y W H (painted s (patch x y w h (λ i j _. f i j)) xs) ≡ (λ i j. cond (ltb i w && ltb j h) (f i j) (window s x y W H xs i j))
  unfolding window
  window_over w h W H f across down a b = fun_ext (λ i. fun_ext (λ j. at i j (cases_Bool (ltb i W && ltb j H))))
    where
      inner : (i j : ℕ) (old : Float) → patch x y w h (λ i j _. f i j) (x + i) (y + j) old ≡ cond (ltb i w && ltb j h) (f i j) old
      inner i j old =
          let k : x + i - x ≡ i = omega arith in
          let n : y + j - y ≡ j = omega arith in
          rw (k, n) (grind (arith, nat_tests))

      at : (i j : ℕ) → ((ltb i W && ltb j H) ≡ true) ⊎ ((ltb i W && ltb j H) ≡ false)
          → cond (ltb i W && ltb j H) (get_or (painted s (patch x y w h (λ i j _. f i j)) xs) (index s (x + i) (y + j)) nan) nan
          ≡ cond (ltb i w && ltb j h) (f i j) (cond (ltb i W && ltb j H) (get_or xs (index s (x + i) (y + j)) nan) nan)
      at i j (inl e) =
          let p = and_parts (ltb i W) (ltb j H) e in
          let p0 = ltb-true _ _ p.0 in
          let p1 = ltb-true _ _ p.1 in
          cond-true (ltb i W && ltb j H) _ nan e
          ∙ painted_in s (patch x y w h (λ i j _. f i j)) xs (x + i) (y + j) nan l (record { across = omega arith; down = omega arith })
          ∙ inner i j (get_or xs (index s (x + i) (y + j)) nan)
          ∙ ap (cond (ltb i w && ltb j h) (f i j)) (sym (cond-true (ltb i W && ltb j H) (get_or xs (index s (x + i) (y + j)) nan) nan e))
      at i j (inr e) =
          let f0 : (ltb i w && ltb j h) ≡ false = grind (arith, nat_tests) in
          cond-false (ltb i W && ltb j H) _ nan e
          ∙ sym
          (cond-false (ltb i w && ltb j h) (f i j) _ f0
          ∙ cond-false (ltb i W && ltb j H) (get_or xs (index s (x + i) (y + j)) nan) nan e)

abbrev area : ℕ → ℕ → ℕ → ℕ → Area
area x y w h = record { x = x; y = y; width = w; height = h }

module _ (m : Maps) (lf : Plane Float) (v : Varblock) (s : Shape) (xs : List Float) (l : Lawful s (length xs)) where
  abbrev X : ℕ
  X = 8 * v.x

  abbrev Y : ℕ
  Y = 8 * v.y

  -- the LF samples into the corner, forward, the division, the inverse
  abbrev Stated : ℕ → ℕ → Type 0
  Stated w h = X + 8 * w ≤ s.width → Y + 8 * h ≤ s.height → (c1 c2 c3 c4 : List Float)
      → c1 ≡ painted s (patch X Y w h (lf_at lf v.x v.y)) xs
      → c2 ≡ cond (ltb 1 (w * h)) (imaged s (area X Y w h) (m.fwd w h) c1) c1
      → c3 ≡ painted s (patch X Y w h (divided w h)) c2
      → c4 ≡ imaged s (area X Y (8 * w) (8 * h)) (m.inv v.kind) c3
      → c4 ≡ one_block s (rebuilding m lf) v xs

  abbrev W : ℕ
  W = wide v.kind

  abbrev H : ℕ
  H = high v.kind

  abbrev lfs : Patch
  lfs = lf_patch lf v

  abbrev pre : Bool → Patch
  pre t i j = cond t (m.fwd W H lfs i j) (lfs i j)

  lf_shown : (i j : ℕ) → cond (ltb i W && ltb j H) (sample lf (v.x + i) (v.y + j)) (window s X Y W H xs i j) ≡ lf_patch lf v i j
  unfolding lf_patch window
  lf_shown i j = grind (arith, nat_tests)

  lf_inside : (i j : ℕ) → i < W → j < H → lf_patch lf v i j ≡ sample lf (v.x + i) (v.y + j)
  unfolding lf_patch window
  lf_inside i j p q = cond-true (ltb i W && ltb j H) _ nan (and_from _ _ (lt-ltb _ _ p) (lt-ltb _ _ q))

  lf_window : X + W ≤ s.width → Y + H ≤ s.height → (c1 : List Float) → c1 ≡ painted s (patch X Y W H (lf_at lf v.x v.y)) xs
      → window s X Y W H c1 ≡ lfs
  lf_window a b c1 e =
      ap (window s X Y W H) e
      ∙ window_over s X Y xs l W H W H (λ i j. sample lf (v.x + i) (v.y + j)) a b (omega arith) (omega arith)
      ∙ fun_ext (λ i. fun_ext (λ j. lf_shown i j))

  forwards : X + W ≤ s.width → Y + H ≤ s.height → (c1 c2 : List Float) → c1 ≡ painted s (patch X Y W H (lf_at lf v.x v.y)) xs
      → (t : Bool) → c2 ≡ cond t (imaged s (area X Y W H) (m.fwd W H) c1) c1
      → c2 ≡ painted s (patch X Y W H (λ i j _. pre t i j)) xs
  unfolding imaged
  forwards a b c1 c2 e true f =
      f
      ∙ ap (λ p. painted s (patch X Y W H (λ i j _. m.fwd W H p i j)) c1) (lf_window a b c1 e)
      ∙ ap (painted s (patch X Y W H (λ i j _. m.fwd W H lfs i j))) e
      ∙ painted_over s X Y xs l W H W H (lf_at lf v.x v.y) (m.fwd W H lfs) (omega arith) (omega arith)
  forwards a b c1 c2 e false f =
      f ∙ e ∙ patch_alike s X Y xs l W H (λ i j. sample lf (v.x + i) (v.y + j)) lfs (λ i j p q. sym (lf_inside i j p q))

  made_corner : X + W ≤ s.width → Y + H ≤ s.height → (c1 c2 c3 : List Float)
      → c1 ≡ painted s (patch X Y W H (lf_at lf v.x v.y)) xs
      → c2 ≡ cond (ltb 1 (W * H)) (imaged s (area X Y W H) (m.fwd W H) c1) c1
      → c3 ≡ painted s (patch X Y W H (divided W H)) c2
      → c3 ≡ painted s (patch X Y W H (λ i j _. corner m.fwd v.kind lfs i j)) xs
  unfolding corner
  made_corner a b c1 c2 c3 e1 e2 e3 =
      e3
      ∙ ap (painted s (patch X Y W H (divided W H))) (forwards a b c1 c2 e1 (ltb 1 (W * H)) e2)
      ∙ painted_on s X Y xs l W H (pre (ltb 1 (W * H))) (divided W H)

  block_now : X + 8 * W ≤ s.width → Y + 8 * H ≤ s.height → (c3 : List Float)
      → c3 ≡ painted s (patch X Y W H (λ i j _. corner m.fwd v.kind lfs i j)) xs
      → window s X Y (8 * W) (8 * H) c3 ≡ cornered m.fwd v.kind lfs (block s v xs)
  unfolding cornered block
  block_now a b c3 e =
      ap (window s X Y (8 * W) (8 * H)) e
      ∙ window_over s X Y xs l W H (8 * W) (8 * H) (corner m.fwd v.kind lfs) a b (omega arith) (omega arith)

  rest : Stated W H
  unfolding imaged one_block rebuilding block_image
  rest a b c1 c2 c3 c4 e1 e2 e3 e4 =
      let made = made_corner (omega arith) (omega arith) c1 c2 c3 e1 e2 e3 in
      e4
      ∙ ap (λ p. painted s (patch X Y (8 * W) (8 * H) (λ i j _. m.inv v.kind p i j)) c3) (block_now a b c3 made)
      ∙ ap (painted s (patch X Y (8 * W) (8 * H) (λ i j _. m.inv v.kind (cornered m.fwd v.kind lfs (block s v xs)) i j))) made
      ∙ painted_over s X Y xs l W H (8 * W) (8 * H) (λ i j _. corner m.fwd v.kind lfs i j)
      (m.inv v.kind (cornered m.fwd v.kind lfs (block s v xs))) (omega arith) (omega arith)

  pub rebuilt_done : (w h : ℕ) → w ≡ W → h ≡ H → Stated w h
  rebuilt_done w h p q = subst (λ w. Stated w h) (sym p) (subst (λ h. Stated W h) (sym q) rest)

-- the same of a grid that the four steps were done on
pub work_done : (m : Maps) (lf : Plane Float) (b : Block) (a : Area) (c0 c1 c2 c3 c4 : Canvas Float) → a ≡ corner_of b
    → 8 * b.varblock.x + 8 * b.size.width ≤ c0.shape.width → 8 * b.varblock.y + 8 * b.size.height ≤ c0.shape.height
    → Drawn c0 c1 (painted c0.shape (patch a.x a.y a.width a.height (lf_at lf b.varblock.x b.varblock.y)) c0.list.now)
    → Drawn c1 c2
    (cond (ltb 1 (b.size.width * b.size.height)) (imaged c1.shape (corner_of b) (m.fwd b.size.width b.size.height) c1.list.now) c1.list.now)
    → Drawn c2 c3 (painted c2.shape (patch a.x a.y a.width a.height (divided b.size.width b.size.height)) c2.list.now)
    → Drawn c3 c4 (imaged c3.shape (area_of b) (m.inv b.varblock.kind) c3.list.now)
    → Drawn c0 c4 (one_block c0.shape (rebuilding m lf) b.varblock c0.list.now)
work_done m lf b a c0 c1 c2 c3 c4 e across down d1 d2 d3 d4 =
    let w = b.size.width in
    let h = b.size.height in
    let two = d2.shape ∙ d1.shape in
    let three = d3.shape ∙ two in
    record {
      same = d4.same ∙ d3.same ∙ d2.same ∙ d1.same;
      shape = d4.shape ∙ three;
      list =
          rebuilt_done m lf b.varblock c0.shape c0.list.now c0.lawful w h
          (sym (wide_is b.varblock.kind b.size b.carried)) (sym (high_is b.varblock.kind b.size b.carried)) across down
          c1.list.now c2.list.now c3.list.now c4.list.now
          (d1.list
          ∙ ap (λ (a : Area). painted c0.shape (patch a.x a.y a.width a.height (lf_at lf b.varblock.x b.varblock.y)) c0.list.now) e)
          (d2.list ∙ ap (λ s. cond (ltb 1 (w * h)) (imaged s (corner_of b) (m.fwd w h) c1.list.now) c1.list.now) d1.shape)
          (d3.list
          ∙ ap (λ (a : Area). painted c2.shape (patch a.x a.y a.width a.height (divided w h)) c2.list.now) e
          ∙ ap (λ s. painted s (patch (8 * b.varblock.x) (8 * b.varblock.y) w h (divided w h)) c2.list.now) two)
          (d4.list ∙ ap (λ s. imaged s (area_of b) (m.inv b.varblock.kind) c3.list.now) three);
    }
