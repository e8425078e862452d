-- An accepted place adds its varblock to the partition; `open` begins with none.
use Rattle.std.proofs.Common.{◌≡◌, ℕ, zero, suc, ◌+◌, ◌-◌, ◌*◌, ◌<◌, Bool, true, false, cond, ◌&&◌, eqb, List, [], ◌∷◌, ◌++◌, length, Ok, sym, refl, ap, ◌∙◌, subst, inl, inr, ⊎_elim, arith}
use Rattle.std.proofs.lemmas.List.{append-nil}
use Rattle.std.proofs.lemmas.Bool.{cases_Bool, true≢false}
use Rattle.grid.specs.declared.Shape.{Shape}
use Rattle.grid.specs.Index.{Lawful}
use Rattle.grid.specs.Painted.{solid}
use Rattle.grid.proofs.Laws.{painted_in}
use Rattle.kinds.specs.declared.Size.{Size}
use Rattle.kinds.specs.Kinds.{wide, high}
use Rattle.kinds.proofs.Sizes.{size_bounded, wide_is, high_is}
use Rattle.varmap.specs.declared.cells.Cell.{Cell}
use Rattle.varmap.specs.declared.cells.Record.TheVariants.{Empty, Lead, Covered}
use Rattle.varmap.specs.Cells.{cell, cells}
use Rattle.frame.specs.declared.stages.Stage.{Stage}
use Rattle.frame.specs.Placing.{stamp, place_judged, placed, emptied}
use Rattle.frame.specs.Counts.{sum_to, taken, filled}
use Rattle.frame.proofs.Accepted.{Accepted, accepted}
use Rattle.frame.proofs.Rectangle.{In}
use Rattle.frame.proofs.Placed.{inside_at, outside_at, free_in, adds_cells}
use Rattle.blocks.specs.declared.leads.Varblock.{Varblock}
use Rattle.blocks.specs.Leads.{varblock}
use Rattle.partition.specs.Parted.{covers, around, cells_of, Held, Within, Parted}
use Rattle.partition.proofs.Lists.{each_add, around_add, around_one, around_none, cells_add, covers_sides, sides_covers}

-- what a placing writes is not empty
pub stamp_taken : (kind mul i j : ℕ) → (stamp kind mul i j (cell Empty)).holds ≡ Empty → ⊥
stamp_taken kind mul i j e = go (eqb i 0 && eqb j 0) e
  where
    go : (b : Bool) → cond b (Lead kind mul) (Covered i j) ≡ Empty → ⊥
    go true q = let bad : ◌≡◌ {A = ℕ} 0 1 = cc in omega arith
    go false q = let bad : ◌≡◌ {A = ℕ} 0 1 = cc in omega arith

module _ (w8 h8 : ℕ) (st : Stage) (s : Shape) (xs : List Cell) (kind x y mul : ℕ) (z : Size)
    (e : place_judged w8 h8 st s xs kind x y mul ≡ Ok z) (vs : List Varblock) (parted : Parted w8 h8 vs (cells s xs)) where
  abbrev v : Varblock
  v = varblock x y kind mul

  ok : Accepted w8 h8 st s xs kind x y mul z
  ok = accepted w8 h8 st s xs kind x y mul z e

  ww : wide kind ≡ z.width
  ww = wide_is kind z ok.carried

  hh : high kind ≡ z.height
  hh = high_is kind z ok.carried

  in_rectangle : (p q : ℕ) → covers v p q ≡ true → In x y z p q
  in_rectangle p q c =
      let k = covers_sides v p q c in
      let r = k.right in
      let b = k.bottom in
      record { left = k.left; right = omega (arith, ww); top = k.top; bottom = omega (arith, hh) }

  rectangle_in : (p q : ℕ) → In x y z p q → covers v p q ≡ true
  rectangle_in p q k =
      let r = k.right in
      let b = k.bottom in
      sides_covers v p q (record { left = k.left; right = omega (arith, ww); top = k.top; bottom = omega (arith, hh) })

  free : (p q : ℕ) → Held vs p q Empty → around p q vs ≡ []
  free p q (inl h) = h.0
  free p q (inr (u, a, b)) = absurd (stamp_taken u.kind u.hf_mul (p - u.x) (q - u.y) (sym b))

  cell_held : (p q : ℕ) → p < w8 → q < h8 → Held (vs ++ (v ∷ [])) p q (cells s (placed s kind x y mul xs) p q)
  cell_held p q a b =
      ⊎_elim
      (λ (c : covers v p q ≡ true).
      let k = in_rectangle p q c in
      let none = free p q (subst (Held vs p q) (free_in w8 h8 st s xs kind x y mul z ok p q k) (parted.held p q a b)) in
      inr (v, around_add p q vs v ∙ ap (λ t. t ++ around p q (v ∷ [])) none ∙ around_one p q v c, inside_at w8 h8 st s xs kind x y mul z ok p q k))
      (λ c.
      let same : around p q (vs ++ (v ∷ [])) ≡ around p q vs =
      around_add p q vs v ∙ ap (λ t. around p q vs ++ t) (around_none p q v c) ∙ append-nil (around p q vs) in
      let kept = outside_at w8 h8 st s xs kind x y mul z ok p q a b (λ k. true≢false (sym (rectangle_in p q k) ∙ c)) in
      still p q same kept (parted.held p q a b))
      (cases_Bool (covers v p q))
    where
      still : (p q : ℕ) → around p q (vs ++ (v ∷ [])) ≡ around p q vs → cells s (placed s kind x y mul xs) p q ≡ cells s xs p q
          → Held vs p q (cells s xs p q) → Held (vs ++ (v ∷ [])) p q (cells s (placed s kind x y mul xs) p q)
      still p q same kept (inl h) = inl (same ∙ h.0, kept ∙ h.1)
      still p q same kept (inr (u, c, d)) = inr (u, same ∙ c, kept ∙ d)

  pub place_parts : Parted w8 h8 (vs ++ (v ∷ [])) (cells s (placed s kind x y mul xs))
  place_parts =
      let bounds = size_bounded kind z ok.carried in
      let b0 = bounds.wide in
      let b1 = bounds.high in
      record {
        inside =
            each_add (Within w8 h8) vs v parted.inside
            (record {
              wide_enough = omega (arith, ww);
              high_enough = omega (arith, hh);
              across = omega (arith, ww, ok.across);
              down = omega (arith, hh, ok.down);
            });
        held = cell_held;
        sum =
            adds_cells w8 h8 st s xs kind x y mul z e
            ∙ ap (λ n. n + z.width * z.height) parted.sum
            ∙ ap (λ n. cells_of vs + n * z.height) (sym ww)
            ∙ ap (λ n. cells_of vs + wide kind * n) (sym hh)
            ∙ sym (cells_add vs v);
      }

-- an emptied map
sum_nought : (n : ℕ) (f : ℕ → ℕ) → ((k : ℕ) → k < n → f k ≡ 0) → sum_to n f ≡ 0
unfolding sum_to
sum_nought zero f h = refl
sum_nought (suc n) f h = let i = sum_nought n f (λ k l. h k (omega arith)) in let j = h n (omega arith) in omega arith

pub opened_parts : (w h : ℕ) (s : Shape) (xs : List Cell) → Lawful s (length xs) → s.width ≡ w → s.height ≡ h
    → Parted w h [] (cells s (emptied s xs))
unfolding around cells_of filled
opened_parts w h s xs l a b =
    record {
      inside = tt;
      held = λ x y p q. inl (refl, empty x y p q);
      sum = sum_nought h _ (λ y q. sum_nought w _ (λ x p. ap taken (empty x y p q)));
    }
  where
    empty : (x y : ℕ) → x < w → y < h → cells s (emptied s xs) x y ≡ Empty
    empty x y p q =
        ap (λ (c : Cell). c.holds)
        (painted_in s (solid (cell Empty)) xs x y (cell Empty) l (record { across = omega (arith, a); down = omega (arith, b) }))
