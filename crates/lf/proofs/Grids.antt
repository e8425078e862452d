-- Laws of grids that stand beside those of the crate grid.
use Rattle.std.proofs.Common.{◌≡◌, ℕ, zero, suc, ◌+◌, ◌-◌, ◌*◌, ◌≤◌, List, length, get_or, sym, ap, ◌∙◌, suc-mul, mul_comm, arith}
use lib.Ieee.{Float}
use Rattle.std.proofs.lemmas.List.{get_or_default}
use Rattle.grid.specs.declared.Shape.{Shape}
use Rattle.grid.specs.declared.Grid.{Grid}
use Rattle.grid.specs.declared.View.{View}
use Rattle.grid.specs.Index.{index, Inside, Lawful}
use Rattle.grid.specs.Painted.{painted}
use Rattle.grid.specs.Plane.{Plane, lent, viewed}
use Rattle.grid.specs.Channels.{planes}
use Rattle.grid.proofs.Laws.{index_below, length_painted, painted_in, painted_out, is_painted}

-- functions that agree on what the list holds paint alike
pub painted_own : {X : Type 0} (s : Shape) (f g : ℕ → ℕ → X → X) (xs : List X) (v : X) → Lawful s (length xs)
    → ((x y : ℕ) → Inside s x y → f x y (get_or xs (index s x y) v) ≡ g x y (get_or xs (index s x y) v))
    → painted s f xs ≡ painted s g xs
painted_own s f g xs v l h =
    is_painted s g xs (painted s f xs) l (length_painted s f xs)
    (λ x y d k.
    let same = get_or_default xs (index s x y) d v (index_below s (length xs) x y l k) in
    painted_in s f xs x y d l k ∙ ap (f x y) same ∙ h x y k ∙ ap (g x y) (sym same))
    (λ i d k. painted_out s f xs i d k)

-- a grid with no gap between its rows has w × h elements
pub rows : (w h : ℕ) → 1 ≤ h → (h - 1) * w + w ≡ w * h
rows w zero p = absurd (omega arith)
rows w (suc h) p = let e : suc h - 1 ≡ h = omega arith in rw e (omega (arith, suc-mul h w, mul_comm w (suc h)))

-- a grid by its list and its shape
pub same_plane : (s t : Shape) (xs ys : List Float) → xs ≡ ys → s ≡ t → ◌≡◌ {A = Plane Float} (record { shape = s; list = xs }) (record { shape = t; list = ys })
same_plane s t xs ys e f = cc

-- a view of a grid is the same grid
pub viewed_lent : (v : View Float) (g : Grid Float) → v.list.now ≡ g.list.now → v.shape ≡ g.shape → viewed v ≡ lent g
viewed_lent v g e f = cc

-- so are three views
pub same_planes : (x y b u v w : Plane Float) → x ≡ u → y ≡ v → b ≡ w → planes x y b ≡ planes u v w
same_planes x y b u v w e f g = cc
