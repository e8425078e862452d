-- Grids after a call, and after one call more.
use Rattle.std.proofs.Common.{◌≡◌, List, ap, ◌∙◌, subst, sym}
use lib.Ieee.{Float}
use Rattle.grid.specs.declared.Shape.{Shape}
use Rattle.grid.specs.declared.canvas.Canvas.{Canvas}
use Rattle.grid.specs.Drawn.{Drawn}

module _ (a b : Canvas Float) (xs : List Float) (d : Drawn a b xs) where
  -- what holds of the shape holds of it still
  pub shape_kept : (P : Shape → Type 0) → P a.shape → P b.shape
  shape_kept P h = subst P (sym d.shape) h

  pub drawn_like : (ys : List Float) → xs ≡ ys → Drawn a b ys
  drawn_like ys e = record { same = d.same; shape = d.shape; list = d.list ∙ e }

  -- what a call makes of a shape and a list
  pub drawn_next : (c : Canvas Float) (f : Shape → List Float → List Float) → Drawn b c (f b.shape b.list.now) → Drawn a c (f a.shape xs)
  drawn_next c f e =
      record {
        same = e.same ∙ d.same;
        shape = e.shape ∙ d.shape;
        list = e.list ∙ ap (λ (s : Shape). f s b.list.now) d.shape ∙ ap (f a.shape) d.list;
      }
