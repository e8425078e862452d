-- In a lawful map each cell of a varblock knows its varblock, and no other cell does.
use Rattle.std.proofs.Common.{◌≡◌, ℕ, ◌+◌, ◌-◌, ◌<◌, ◌≤◌, true, ◌&&◌, eqb, ltb, leb, Some, None, Option, sym, refl, ap, ◌∙◌, subst, ⊎_elim, arith}
use Rattle.std.proofs.lemmas.Bool.{cases_eq, and_parts, or_cases, leb-true, ltb-true, eqb-true, true≢false}
use Rattle.kinds.specs.declared.Size.{Size}
use Rattle.varmap.specs.declared.cells.Record.{Record}
use Rattle.varmap.specs.declared.cells.Record.TheVariants.{Empty, Lead, Covered}
use Rattle.blocks.specs.declared.leads.Varblock.{Varblock}
use Rattle.kinds.specs.Kinds.{size_of, wide, high}
use Rattle.varmap.specs.Map.{points_back, in_range, back_at, all_back, lead_of, within, reaches, cell_as, cell_ok, LawfulMap}
use Rattle.blocks.specs.Leads.{varblock, leads_to, held_by, holder, OfMap}
use Rattle.varmap.proofs.AllCells.{true_cells}
use Rattle.kinds.proofs.Sizes.{size_bounded, wide_is, high_is}

-- what a varblock of a lawful map is
pub record Whole (w h : ℕ) (m : ℕ → ℕ → Record) (v : Varblock) : Type 0 where
  pub lead : m v.x v.y ≡ Lead v.kind v.hf_mul
  pub size : Size
  pub carried : size_of v.kind ≡ Some size
  pub least : 1 ≤ v.hf_mul
  pub most : v.hf_mul ≤ 255
  pub across : v.x + size.width ≤ w
  pub down : v.y + size.height ≤ h
  pub back : all_back m v.x v.y size ≡ true

module _ (w h : ℕ) (m : ℕ → ℕ → Record) (lawful : LawfulMap w h m) where
  ok_as : (x y : ℕ) (cell : Record) → x < w → y < h → m x y ≡ cell → cell_as w h m x y cell ≡ true
  unfolding cell_ok
  ok_as x y cell a b e = ap (cell_as w h m x y) (sym e) ∙ lawful x y a b

  pub whole : (v : Varblock) → OfMap w h m v → Whole w h m v
  whole v of = go (size_of v.kind) refl (ok_as v.x v.y _ of.across of.down of.lead)
    where
      go : (o : Option Size) → size_of v.kind ≡ o → lead_of w h m v.x v.y v.hf_mul o ≡ true → Whole w h m v
      go None q t = absurd (true≢false (sym t))
      go (Some z) q t =
          let p = and_parts (in_range v.hf_mul) _ t in
          let r = and_parts (leb 1 v.hf_mul) (leb v.hf_mul 255) p.0 in
          let s = and_parts (leb (v.x + z.width) w) _ p.1 in
          let u = and_parts (leb (v.y + z.height) h) _ s.1 in
          record {
            lead = of.lead;
            size = z;
            carried = q;
            least = leb-true _ _ r.0;
            most = leb-true _ _ r.1;
            across = leb-true _ _ s.0;
            down = leb-true _ _ u.0;
            back = u.1;
          }

  -- the cells of a varblock's rectangle are the varblock's
  pub holds : (v : Varblock) (k : Whole w h m v) (i j : ℕ) → i < k.size.width → j < k.size.height
      → holder m (v.x + i) (v.y + j) ≡ Some v
  unfolding holder all_back
  holds v k i j a b =
      ⊎_elim
      (λ (none : i + j ≡ 0).
      let p : v.x + i ≡ v.x = omega arith in
      let q : v.y + j ≡ v.y = omega arith in
      ap (λ t. held_by m t (v.y + j) (m t (v.y + j))) p
      ∙ ap (λ t. held_by m v.x t (m v.x t)) q
      ∙ ap (held_by m v.x v.y) k.lead)
      (λ some.
      go some (m (v.x + i) (v.y + j))
      (true_cells k.size.width k.size.height (back_at m v.x v.y) i j k.back a b))
      (cases_eq (i + j) 0)
    where
      nought : (i + j ≡ 0 → ⊥) → (eqb i 0 && eqb j 0) ≡ true → ⊥
      nought some t =
          let p = and_parts (eqb i 0) (eqb j 0) t in
          some (omega (arith, eqb-true i 0 p.0, eqb-true j 0 p.1))

      go : (i + j ≡ 0 → ⊥) → (cell : Record) → points_back cell i j ≡ true → held_by m (v.x + i) (v.y + j) cell ≡ Some v
      go some Empty t = absurd (nought some t)
      go some (Lead kind mul) t = absurd (nought some t)
      go some (Covered dx dy) t =
          ⊎_elim (λ (n : (eqb i 0 && eqb j 0) ≡ true). absurd (nought some n))
          (λ s.
          let p = and_parts (eqb dx i) (eqb dy j) s in
          let q : v.x + i - dx ≡ v.x = omega (arith, eqb-true dx i p.0) in
          let r : v.y + j - dy ≡ v.y = omega (arith, eqb-true dy j p.1) in
          ap (λ t. leads_to t (v.y + j - dy) (m t (v.y + j - dy))) q
          ∙ ap (λ t. leads_to v.x t (m v.x t)) r
          ∙ ap (leads_to v.x v.y) k.lead)
          (or_cases (eqb i 0 && eqb j 0) (eqb dx i && eqb dy j) t)

  -- the varblock that a cell belongs to reaches it
  pub record Held (x y : ℕ) (v : Varblock) : Type 0 where
    pub lead : m v.x v.y ≡ Lead v.kind v.hf_mul
    pub left : v.x ≤ x
    pub right : x < v.x + wide v.kind
    pub top : v.y ≤ y
    pub bottom : y < v.y + high v.kind

  by_size : (x y i j kind mul : ℕ) (o : Option Size) → i ≤ x → j ≤ y → m (x - i) (y - j) ≡ Lead kind mul → size_of kind ≡ o → within i j o ≡ true
      → Held x y (varblock (x - i) (y - j) kind mul)
  by_size x y i j kind mul None a b e q t = absurd (true≢false (sym t))
  by_size x y i j kind mul (Some z) a b e q t =
      let p = and_parts (ltb i z.width) (ltb j z.height) t in
      let s = wide_is kind z q in
      let r = high_is kind z q in
      let u = ltb-true _ _ p.0 in
      let v = ltb-true _ _ p.1 in
      record { lead = e; left = omega arith; right = omega arith; top = omega arith; bottom = omega arith }

  pub held : (x y : ℕ) (v : Varblock) → x < w → y < h → holder m x y ≡ Some v → Held x y v
  unfolding holder
  held x y v a b e = go (m x y) refl (ok_as x y (m x y) a b refl) e
    where
      in_cell : (i j : ℕ) (cell : Record) → i ≤ x → j ≤ y → m (x - i) (y - j) ≡ cell → reaches i j cell ≡ true
          → leads_to (x - i) (y - j) cell ≡ Some v → Held x y v
      in_cell i j Empty p q c t s = absurd (true≢false (sym t))
      in_cell i j (Covered dx dy) p q c t s = absurd (true≢false (sym t))
      in_cell i j (Lead kind mul) p q c t s =
          let same : varblock (x - i) (y - j) kind mul ≡ v = cc in
          subst (Held x y) same (by_size x y i j kind mul (size_of kind) p q c refl t)

      go : (cell : Record) → m x y ≡ cell → cell_as w h m x y cell ≡ true → held_by m x y cell ≡ Some v → Held x y v
      go Empty c t s = let bad : ◌≡◌ {A = ℕ} 0 1 = cc in absurd (omega arith)
      go (Lead kind mul) c t s =
          let same : varblock x y kind mul ≡ v = cc in
          subst (Held x y) same (alone (size_of kind) refl t)
        where
          alone : (o : Option Size) → size_of kind ≡ o → lead_of w h m x y mul o ≡ true → Held x y (varblock x y kind mul)
          alone None q u = absurd (true≢false (sym u))
          alone (Some z) q u =
              let n = size_bounded kind z q in
              let k = wide_is kind z q in
              let l = high_is kind z q in
              let n0 = n.wide in
              let n1 = n.high in
              record { lead = c; left = omega arith; right = omega arith; top = omega arith; bottom = omega arith }
      go (Covered dx dy) c t s =
          let p = and_parts (leb dx x) _ t in
          let q = and_parts (leb dy y) _ p.1 in
          in_cell dx dy (m (x - dx) (y - dy)) (leb-true _ _ p.0) (leb-true _ _ q.0) refl q.1 s
