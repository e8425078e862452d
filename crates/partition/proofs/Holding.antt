-- In a parted map the varblock of a cell, read off the map, is the one varblock around it.
use Rattle.std.proofs.Common.{◌≡◌, ℕ, ◌-◌, ◌<◌, true, cond, ◌&&◌, eqb, List, [], ◌∷◌, Some, sym, refl, ap, ◌∙◌, subst, inl, inr, ⊎_elim, arith}
use Rattle.std.proofs.lemmas.Bool.{cases_Bool, cond-true, cond-false, and_parts, eqb-true}
use Rattle.varmap.specs.declared.cells.Record.{Record}
use Rattle.varmap.specs.declared.cells.Record.TheVariants.{Empty, Lead, Covered}
use Rattle.blocks.specs.declared.leads.Varblock.{Varblock}
use Rattle.blocks.specs.Leads.{varblock, leads_to, held_by, holder}
use Rattle.partition.specs.Parted.{covers, written, around, Held, Within, Among, Parted}
use Rattle.partition.proofs.Lists.{each_among, around_among, among_around, covers_sides, sides_covers}

module _ (w h : ℕ) (vs : List Varblock) (m : ℕ → ℕ → Record) (parted : Parted w h vs m) where
  -- the only one around a cell
  pub only : (x y : ℕ) (u v : Varblock) → around x y vs ≡ u ∷ [] → Among v vs → covers v x y ≡ true → v ≡ u
  only x y u v e a c = go (subst (Among v) e (among_around x y vs v a c))
    where
      go : Among v (u ∷ []) → v ≡ u
      go (inl q) = q
      go (inr q) = absurd q

  within : (v : Varblock) → Among v vs → Within w h v
  within v a = each_among (Within w h) vs v parted.inside a

  -- a varblock's own lead is in the map
  lead_of : (v : Varblock) → Among v vs → m v.x v.y ≡ Lead v.kind v.hf_mul
  lead_of v a =
      let k = within v a in
      let ww = k.wide_enough in
      let hh = k.high_enough in
      let c = sides_covers v v.x v.y (record { left = omega arith; right = omega arith; top = omega arith; bottom = omega arith }) in
      go c (parted.held v.x v.y (omega (arith, k.across)) (omega (arith, k.down)))
    where
      go : covers v v.x v.y ≡ true → Held vs v.x v.y (m v.x v.y) → m v.x v.y ≡ Lead v.kind v.hf_mul
      go c (inl q) = absurd (subst (Among v) q.0 (among_around v.x v.y vs v a c))
      go c (inr (u, q, r)) =
          let same = only v.x v.y u v q a c in
          let i : v.x - v.x ≡ 0 = omega arith in
          let j : v.y - v.y ≡ 0 = omega arith in
          r
          ∙ ap (λ t. written t v.x v.y) (sym same)
          ∙ ap (λ n. cond (eqb n 0 && eqb (v.y - v.y) 0) (Lead v.kind v.hf_mul) (Covered n (v.y - v.y))) i
          ∙ ap (λ n. cond (eqb 0 0 && eqb n 0) (Lead v.kind v.hf_mul) (Covered 0 n)) j

  pub holder_of : (x y : ℕ) (v : Varblock) → x < w → y < h → around x y vs ≡ v ∷ [] → m x y ≡ written v x y → holder m x y ≡ Some v
  unfolding holder
  holder_of x y v a b e r =
      let g = around_among x y vs v (subst (Among v) (sym e) (inl refl)) in
      let k = covers_sides v x y g.1 in
      let left = k.left in
      let top = k.top in
      ap (held_by m x y) r
      ∙ ⊎_elim
      (λ (t : (eqb (x - v.x) 0 && eqb (y - v.y) 0) ≡ true).
      let p = and_parts (eqb (x - v.x) 0) (eqb (y - v.y) 0) t in
      let px = eqb-true _ _ p.0 in
      let py = eqb-true _ _ p.1 in
      let i : x ≡ v.x = omega arith in
      let j : y ≡ v.y = omega arith in
      ap (held_by m x y) (cond-true (eqb (x - v.x) 0 && eqb (y - v.y) 0) (Lead v.kind v.hf_mul) (Covered (x - v.x) (y - v.y)) t)
      ∙ ap (λ n. Some (varblock n y v.kind v.hf_mul)) i
      ∙ ap (λ n. Some (varblock v.x n v.kind v.hf_mul)) j)
      (λ t.
      let i : x - (x - v.x) ≡ v.x = omega arith in
      let j : y - (y - v.y) ≡ v.y = omega arith in
      ap (held_by m x y) (cond-false (eqb (x - v.x) 0 && eqb (y - v.y) 0) (Lead v.kind v.hf_mul) (Covered (x - v.x) (y - v.y)) t)
      ∙ ap (λ n. leads_to n (y - (y - v.y)) (m n (y - (y - v.y)))) i
      ∙ ap (λ n. leads_to v.x n (m v.x n)) j
      ∙ ap (leads_to v.x v.y) (lead_of v g.0))
      (cases_Bool (eqb (x - v.x) 0 && eqb (y - v.y) 0))

  -- a cell of a varblock has it as its holder
  pub holder_covered : (x y : ℕ) (v : Varblock) → x < w → y < h → Among v vs → covers v x y ≡ true → holder m x y ≡ Some v
  holder_covered x y v a b g c = go (parted.held x y a b)
    where
      go : Held vs x y (m x y) → holder m x y ≡ Some v
      go (inl q) = absurd (subst (Among v) q.0 (among_around x y vs v g c))
      go (inr (u, q, r)) = let same = only x y u v q g c in holder_of x y u a b q r ∙ ap Some (sym same)

  -- and what holds a cell is the varblock around it
  pub holder_around : (x y : ℕ) (v : Varblock) → x < w → y < h → holder m x y ≡ Some v → Among v vs × (covers v x y ≡ true)
  unfolding holder
  holder_around x y v a b e = go (parted.held x y a b)
    where
      go : Held vs x y (m x y) → Among v vs × (covers v x y ≡ true)
      go (inl q) = let t : held_by m x y Empty ≡ Some v = ap (held_by m x y) (sym q.1) ∙ e in let bad : ◌≡◌ {A = ℕ} 0 1 = cc in absurd (omega arith)
      go (inr (u, q, r)) =
          let same : u ≡ v = let t = sym (holder_of x y u a b q r) ∙ e in cc in
          subst (λ t. Among t vs × (covers t x y ≡ true)) same (around_among x y vs u (subst (Among u) (sym q) (inl refl)))
