-- Framed patches, and the patch that 64 numbers are.
use Rattle.std.proofs.Common.{◌≡◌, ℕ, zero, suc, ◌+◌, ◌*◌, ◌<◌, true, false, cond, ◌&&◌, ltb, ◌⊎◌, List, sym, ap, ◌∙◌, subst, inl, inr, ⊎_elim, arith}
use mathlib.Core.Path.{fun_ext}
use lib.Ieee.{Float, nan}
use Rattle.std.proofs.lemmas.Bool.{cases_eq, cases_Bool, and_parts, and_from, ltb-true, lt-ltb, cond-true, cond-false}
use Rattle.dct_2d.specs.Plane.{Patch}
use Rattle.dct.specs.Transform.{at}
use Rattle.cells.specs.Framed.{framed}
use Rattle.cells.specs.Cells.{cell}

-- P holds of each number below n
abbrev pub Each : (ℕ → Type 0) → ℕ → Type 0
Each P zero = Unit {0}
Each P (suc n) = P n × Each P n

pub each_below : (P : ℕ → Type 0) (n : ℕ) → Each P n → (k : ℕ) → k < n → P k
each_below P zero e k h = absurd (omega arith)
each_below P (suc n) e k h =
    ⊎_elim (λ (same : k ≡ n). subst P (sym same) e.0) (λ ne. each_below P n e.1 k (omega arith)) (cases_eq k n)

-- two framed patches are equal if they agree inside
pub framed_same : (w h : ℕ) (f g : Patch) → ((x y : ℕ) → x < w → y < h → f x y ≡ g x y) → framed w h f ≡ framed w h g
framed_same w h f g e = fun_ext (λ x. fun_ext (λ y. go x y (cases_Bool (ltb x w && ltb y h))))
  where
    go : (x y : ℕ) → ((ltb x w && ltb y h) ≡ true) ⊎ ((ltb x w && ltb y h) ≡ false) → framed w h f x y ≡ framed w h g x y
    go x y (inl t) =
        let p = and_parts (ltb x w) (ltb y h) t in
        ap (λ (v : Float). cond (ltb x w && ltb y h) v nan) (e x y (ltb-true x w p.0) (ltb-true y h p.1))
    go x y (inr t) = cond-false (ltb x w && ltb y h) (f x y) nan t ∙ sym (cond-false (ltb x w && ltb y h) (g x y) nan t)

pub framed_in : (w h : ℕ) (f : Patch) (x y : ℕ) → x < w → y < h → framed w h f x y ≡ f x y
framed_in w h f x y a b =
    cond-true (ltb x w && ltb y h) (f x y) nan (and_from _ _ (lt-ltb x w a) (lt-ltb y h b))

pub cell_in : (v : List Float) (x y : ℕ) → x < 8 → y < 8 → cell v x y ≡ at v (y * 8 + x)
unfolding cell
cell_in v x y a b = framed_in 8 8 (λ x y. at v (y * 8 + x)) x y a b

pub cell_is : (v : List Float) (f : Patch) → ((x y : ℕ) → x < 8 → y < 8 → at v (y * 8 + x) ≡ f x y) → cell v ≡ framed 8 8 f
unfolding cell
cell_is v f e = framed_same 8 8 (λ x y. at v (y * 8 + x)) f e
