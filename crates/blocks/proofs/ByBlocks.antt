-- The walk: the samples of the varblocks whose lead has a number below n are done.
use Rattle.std.proofs.Common.{◌≡◌, ℕ, zero, suc, ◌+◌, ◌-◌, ◌*◌, ◌/◌, ◌%◌, ◌<◌, ◌≤◌, Bool, true, false, cond, ◌&&◌, ltb, leb, ◌⊎◌, List, [], ◌∷◌, ◌++◌, length, get_or, Some, None, Option, sym, refl, ap, ◌∙◌, subst, inl, inr, ⊎_elim, mul_comm, arith}
use mathlib.Core.Path.{fun_ext}
use lib.Ieee.{Float, nan}
use Rattle.std.proofs.lemmas.Bool.{cases_lt, cases_eq, cases_Bool, and_parts, leb-true, ltb-true, lt-ltb, le-ltb, cond-true, cond-false}
use Rattle.std.proofs.lemmas.Bool.Decides.{nat_tests}
use Rattle.std.proofs.lemmas.Nat.{div-add-mod', mod_below, mul-add-lt, div-mul-add, mod-mul-add}
use Rattle.grid.specs.declared.Shape.{Shape}
use Rattle.grid.specs.Index.{index, Inside, Lawful}
use Rattle.grid.specs.Painted.{painted, patch}
use Rattle.grid.specs.Window.{window}
use Rattle.grid.proofs.Laws.{painted_in, painted_none, painted_alike, painted_twice}
use Rattle.kinds.specs.Kinds.{wide, high}
use Rattle.kinds.proofs.Sizes.{wide_is, high_is}
use Rattle.varmap.specs.declared.cells.Record.{Record}
use Rattle.blocks.specs.declared.leads.Varblock.{Varblock}
use Rattle.varmap.specs.Map.{LawfulMap}
use Rattle.blocks.specs.Leads.{lead_at, number, NoLeads, one_or_none, leads, holder}
use Rattle.blocks.specs.Walk.{leads_from}
use Rattle.blocks.proofs.Numbering.{lead_back}
use Rattle.blocks.proofs.Counting.{from_first}
use Rattle.blocks.proofs.Steps.{at_number}
use Rattle.blocks.proofs.Holders.{Whole, whole, holds, held}
use Rattle.blocks.specs.Blocks.{Image, block, renewed, one_block, of_block, imaged, by_blocks}

same_number : (w : ℕ) (u v : Varblock) → u.x < w → v.x < w → number w u ≡ number w v → (u.x ≡ v.x) × (u.y ≡ v.y)
same_number w u v a b e = (
  sym (mod-mul-add u.y w u.x a) ∙ ap (λ k. k % w) e ∙ mod-mul-add v.y w v.x b,
  sym (div-mul-add u.y w u.x a) ∙ ap (λ k. k / w) e ∙ div-mul-add v.y w v.x b,
)

-- a sample of a block lies in a cell of the varblock, and the other way round
pub cell_of : (x n p : ℕ) → 8 * x ≤ p → p < 8 * x + 8 * n → (x ≤ p / 8) × (p / 8 < x + n)
cell_of x n p a b =
    let d = div-add-mod' p 8 in
    let m = mod_below p 8 (omega arith) in
    (omega arith, omega arith)

pub sample_of : (x n p : ℕ) → x ≤ p / 8 → p / 8 < x + n → (8 * x ≤ p) × (p < 8 * x + 8 * n)
sample_of x n p a b =
    let d = div-add-mod' p 8 in
    let m = mod_below p 8 (omega arith) in
    (omega arith, omega arith)

pub cell_below : (n p : ℕ) → p < 8 * n → p / 8 < n
cell_below n p b = let d = div-add-mod' p 8 in omega arith

-- a varblock whose lead has a number below n
abbrev pub earlier : ℕ → ℕ → Option Varblock → Option Varblock
earlier w n None = None
earlier w n (Some v) = cond (ltb (number w v) n) (Some v) None

module _ (s : Shape) (w h : ℕ) (m : ℕ → ℕ → Record) (image : Image) (xs : List Float) where
  -- the samples of those varblocks are done
  abbrev pub upto : ℕ → ℕ → ℕ → Float → Float
  upto n p q old = of_block s image xs p q old (earlier w n (holder m (p / 8) (q / 8)))

  module _ (l : Lawful s (length xs)) (width : s.width ≡ 8 * w) (height : s.height ≡ 8 * h) (lawful : LawfulMap w h m) where
    pub upto_none : xs ≡ painted s (upto 0) xs
    upto_none = painted_none s (upto 0) xs l (λ p q old k. go p q old (holder m (p / 8) (q / 8)))
      where
        go : (p q : ℕ) (old : Float) (o : Option Varblock) → of_block s image xs p q old (earlier w 0 o) ≡ old
        go p q old None = refl
        go p q old (Some v) = ap (of_block s image xs p q old) (cond-false (ltb (number w v) 0) (Some v) None (le-ltb _ _ (omega arith)))

    in_map : (p q : ℕ) → Inside s p q → (p / 8 < w) × (q / 8 < h)
    in_map p q k =
        let a = k.across in
        let b = k.down in
        (cell_below w p (omega arith), cell_below h q (omega arith))

    -- between leads nothing is done
    pub upto_skip : (a b : ℕ) → a ≤ b → NoLeads w m a b → painted s (upto a) xs ≡ painted s (upto b) xs
    upto_skip a b le none =
        painted_alike s (upto a) (upto b) xs l
        (λ p q old k. ap (of_block s image xs p q old) (go (p / 8) (q / 8) (in_map p q k).0 (in_map p q k).1 (holder m (p / 8) (q / 8)) refl))
      where
        go : (x y : ℕ) → x < w → y < h → (o : Option Varblock) → holder m x y ≡ o → earlier w a o ≡ earlier w b o
        go x y c d None e = refl
        go x y c d (Some v) e =
            let k = held w h m lawful x y v c d e in
            let left = k.left in
            ⊎_elim
            (λ (less : number w v < a).
            cond-true (ltb (number w v) a) (Some v) None (lt-ltb _ _ less)
            ∙ sym (cond-true (ltb (number w v) b) (Some v) None (lt-ltb _ _ (omega arith))))
            (λ most.
            cond-false (ltb (number w v) a) (Some v) None (le-ltb _ _ most)
            ∙ sym
            (cond-false (ltb (number w v) b) (Some v) None
            (le-ltb _ _
            (⊎_elim
            (λ (in' : number w v < b).
            let t = lead_back w m v (omega arith) k.lead in
            let f = none (number w v) most in' in
            let bad : ◌≡◌ {A = ℕ} 0 1 = cc in
            absurd (omega arith))
            (λ out. out)
            (cases_lt (number w v) b)))))
            (cases_lt (number w v) a)

    -- when the last lead is behind, all is done
    pub upto_all : (n : ℕ) → n ≤ w * h → NoLeads w m n (w * h) → painted s (upto n) xs ≡ by_blocks s m image xs
    unfolding by_blocks
    upto_all n le none =
        upto_skip n (w * h) le none
        ∙ painted_alike s (upto (w * h)) (imaged s m image xs) xs l
        (λ p q old k. ap (of_block s image xs p q old) (go (p / 8) (q / 8) (in_map p q k).0 (in_map p q k).1 (holder m (p / 8) (q / 8)) refl))
      where
        go : (x y : ℕ) → x < w → y < h → (o : Option Varblock) → holder m x y ≡ o → earlier w (w * h) o ≡ o
        go x y c d None e = refl
        go x y c d (Some v) e =
            let k = held w h m lawful x y v c d e in
            let left = k.left in
            let top = k.top in
            cond-true (ltb (number w v) (w * h)) (Some v) None
            (lt-ltb _ _ (omega (arith, mul-add-lt v.y w v.x h (omega arith) (omega arith), mul_comm w h)))

    module _ (v : Varblock) (k : Whole w h m v) (a : v.x < w) where
      n : ℕ
      n = number w v

      ww : wide v.kind ≡ k.size.width
      ww = wide_is v.kind k.size k.carried

      hh : high v.kind ≡ k.size.height
      hh = high_is v.kind k.size k.carried

      -- the cell of a sample of the block is the varblock's
      pub holder_in : (p q : ℕ) → 8 * v.x ≤ p → p < 8 * v.x + 8 * wide v.kind → 8 * v.y ≤ q → q < 8 * v.y + 8 * high v.kind
          → holder m (p / 8) (q / 8) ≡ Some v
      holder_in p q c d e f =
          let x = cell_of v.x (wide v.kind) p c d in
          let y = cell_of v.y (high v.kind) q e f in
          let x0 = x.0 in
          let x1 = x.1 in
          let y0 = y.0 in
          let y1 = y.1 in
          let i : v.x + (p / 8 - v.x) ≡ p / 8 = omega arith in
          let j : v.y + (q / 8 - v.y) ≡ q / 8 = omega arith in
          subst (λ t. holder m t (q / 8) ≡ Some v) i
          (subst (λ t. holder m (v.x + (p / 8 - v.x)) t ≡ Some v) j
          (holds w h m lawful v k (p / 8 - v.x) (q / 8 - v.y) (omega (arith, ww)) (omega (arith, hh))))

      fits_across : 8 * v.x + 8 * wide v.kind ≤ s.width
      fits_across = omega (arith, ww, k.across, width)

      fits_down : 8 * v.y + 8 * high v.kind ≤ s.height
      fits_down = omega (arith, hh, k.down, height)

      -- the block is as it was
      block_same : block s v (painted s (upto (number w v)) xs) ≡ block s v xs
      unfolding block window
      block_same = fun_ext (λ i. fun_ext (λ j. at i j (cases_Bool (ltb i (8 * wide v.kind) && ltb j (8 * high v.kind)))))
        where
          at : (i j : ℕ)
              → ((ltb i (8 * wide v.kind) && ltb j (8 * high v.kind)) ≡ true) ⊎ ((ltb i (8 * wide v.kind) && ltb j (8 * high v.kind)) ≡ false)
              → cond (ltb i (8 * wide v.kind) && ltb j (8 * high v.kind)) (get_or (painted s (upto (number w v)) xs) (index s (8 * v.x + i) (8 * v.y + j)) nan) nan
              ≡ cond (ltb i (8 * wide v.kind) && ltb j (8 * high v.kind)) (get_or xs (index s (8 * v.x + i) (8 * v.y + j)) nan) nan
          at i j (inl e) =
              let p = and_parts (ltb i (8 * wide v.kind)) (ltb j (8 * high v.kind)) e in
              let p0 = ltb-true _ _ p.0 in
              let p1 = ltb-true _ _ p.1 in
              let fa = fits_across in
              let fd = fits_down in
              ap (λ t. cond (ltb i (8 * wide v.kind) && ltb j (8 * high v.kind)) t nan)
              (painted_in s (upto (number w v)) xs (8 * v.x + i) (8 * v.y + j) nan l (record { across = omega arith; down = omega arith })
              ∙ ap
              (λ o. of_block s image xs (8 * v.x + i) (8 * v.y + j) (get_or xs (index s (8 * v.x + i) (8 * v.y + j)) nan) (earlier w (number w v) o))
              (holder_in (8 * v.x + i) (8 * v.y + j) (omega arith) (omega arith) (omega arith) (omega arith))
              ∙ ap (of_block s image xs (8 * v.x + i) (8 * v.y + j) (get_or xs (index s (8 * v.x + i) (8 * v.y + j)) nan))
              (cond-false (ltb (number w v) (number w v)) (Some v) None (le-ltb _ _ (omega arith))))
          at i j (inr e) =
              cond-false (ltb i (8 * wide v.kind) && ltb j (8 * high v.kind)) _ nan e
              ∙ sym (cond-false (ltb i (8 * wide v.kind) && ltb j (8 * high v.kind)) _ nan e)

      abbrev inside_block : ℕ → ℕ → Bool
      inside_block p q =
          (leb (8 * v.x) p && ltb p (8 * v.x + 8 * wide v.kind)) && (leb (8 * v.y) q && ltb q (8 * v.y + 8 * high v.kind))

      pub upto_more : one_block s image v (painted s (upto (number w v)) xs) ≡ painted s (upto (number w v + 1)) xs
      unfolding one_block
      upto_more =
          ap
          (λ f. painted s (patch (8 * v.x) (8 * v.y) (8 * wide v.kind) (8 * high v.kind) (renewed image v f)) (painted s (upto (number w v)) xs))
          block_same
          ∙ painted_twice s (upto (number w v))
          (patch (8 * v.x) (8 * v.y) (8 * wide v.kind) (8 * high v.kind) (renewed image v (block s v xs)))
          (upto (number w v + 1)) xs l
          (λ p q old t. at p q old t (cases_Bool (inside_block p q)))
        where
          other : (x y : ℕ) → x < w → y < h → (v.x ≤ x → x < v.x + wide v.kind → v.y ≤ y → y < v.y + high v.kind → ⊥)
              → (o : Option Varblock) → holder m x y ≡ o → earlier w (number w v) o ≡ earlier w (number w v + 1) o
          other x y c d far None e = refl
          other x y c d far (Some u) e =
              let t = held w h m lawful x y u c d e in
              let left = t.left in
              let right = t.right in
              let top = t.top in
              let bottom = t.bottom in
              let diff : number w u ≡ number w v → ⊥ = λ z.
              let y = same_number w u v (omega arith) a z in
              let z0 = y.0 in
              let z1 = y.1 in
              let f = ap (λ i. m i u.y) z0 ∙ ap (m v.x) z1 in
              let g = t.lead in
              let e = k.lead in
              let kk : u.kind ≡ v.kind = cc in
              let ks = ap wide kk in
              let kh = ap high kk in
              far (omega arith) (omega arith) (omega arith) (omega arith) in
              ⊎_elim
              (λ (less : number w u < number w v).
              cond-true (ltb (number w u) (number w v)) (Some u) None (lt-ltb _ _ less)
              ∙ sym (cond-true (ltb (number w u) (number w v + 1)) (Some u) None (lt-ltb _ _ (omega arith))))
              (λ most.
              cond-false (ltb (number w u) (number w v)) (Some u) None (le-ltb _ _ most)
              ∙ sym (cond-false (ltb (number w u) (number w v + 1)) (Some u) None (le-ltb _ _ (more (number w u) (number w v) most diff))))
              (cases_lt (number w u) (number w v))
            where
              more : (c d : ℕ) → d ≤ c → (c ≡ d → ⊥) → d + 1 ≤ c
              more c d p q = ⊎_elim (λ (e : c ≡ d). absurd (q e)) (λ ne. omega arith) (cases_eq c d)

          at : (p q : ℕ) (old : Float) → Inside s p q → (inside_block p q ≡ true) ⊎ (inside_block p q ≡ false)
              → patch (8 * v.x) (8 * v.y) (8 * wide v.kind) (8 * high v.kind) (renewed image v (block s v xs)) p q (upto (number w v) p q old)
              ≡ upto (number w v + 1) p q old
          at p q old t (inl e) =
              let r = and_parts (leb (8 * v.x) p && ltb p (8 * v.x + 8 * wide v.kind)) (leb (8 * v.y) q && ltb q (8 * v.y + 8 * high v.kind)) e in
              let b = and_parts (leb (8 * v.x) p) (ltb p (8 * v.x + 8 * wide v.kind)) r.0 in
              let c = and_parts (leb (8 * v.y) q) (ltb q (8 * v.y + 8 * high v.kind)) r.1 in
              cond-true (inside_block p q) _ _ e
              ∙ sym
              (ap (λ o. of_block s image xs p q old (earlier w (number w v + 1) o))
              (holder_in p q (leb-true _ _ b.0) (ltb-true _ _ b.1) (leb-true _ _ c.0) (ltb-true _ _ c.1))
              ∙ ap (of_block s image xs p q old)
              (cond-true (ltb (number w v) (number w v + 1)) (Some v) None (lt-ltb _ _ (omega arith))))
          at p q old t (inr e) =
              cond-false (inside_block p q) _ _ e
              ∙ ap (of_block s image xs p q old)
              (other (p / 8) (q / 8) (in_map p q t).0 (in_map p q t).1
              (λ c d f g.
              let x = sample_of v.x (wide v.kind) p c d in
              let y = sample_of v.y (high v.kind) q f g in
              let x0 = x.0 in
              let x1 = x.1 in
              let y0 = y.0 in
              let y1 = y.1 in
              let bad : ◌≡◌ {A = ℕ} 0 1 = grind (arith, nat_tests) in
              omega arith)
              (holder m (p / 8) (q / 8)) refl)

-- the blocks of these varblocks are replaced by their images, one after the other
abbrev pub each_done : Shape → Image → List Varblock → List Float → List Float
each_done s image [] xs = xs
each_done s image (v ∷ vs) xs = each_done s image vs (one_block s image v xs)

module _ (s : Shape) (w h : ℕ) (m : ℕ → ℕ → Record) (image : Image) (xs : List Float)
    (l : Lawful s (length xs)) (width : s.width ≡ 8 * w) (height : s.height ≡ 8 * h) (lawful : LawfulMap w h m) where
  abbrev done : ℕ → List Float
  done n = painted s (upto s w h m image xs n) xs

  -- the cells from number k on
  done_from : (d k : ℕ) → k + d ≤ w * h → each_done s image (leads_from w m d k) (done k) ≡ done (k + d)
  unfolding leads_from
  done_from zero k le = ap done (omega arith)
  done_from (suc d) k le =
      let there : suc k + d ≡ k + suc d = omega arith in
      go (lead_at w m k) refl ∙ done_from d (suc k) (omega arith) ∙ ap done there
    where
      go : (o : Option Varblock) → lead_at w m k ≡ o
          → each_done s image (one_or_none o ++ leads_from w m d (suc k)) (done k) ≡ each_done s image (leads_from w m d (suc k)) (done (suc k))
      go None e =
          ap (each_done s image (leads_from w m d (suc k)))
          (upto_skip s w h m image xs l width height lawful k (suc k) (omega arith)
          (λ i p q. let same : i ≡ k = omega arith in subst (λ j. lead_at w m j ≡ None) (sym same) e))
      go (Some v) e =
          let tall = l.wide in
          let here = at_number w h m (omega arith) k v (omega arith) e in
          let next : number w v + 1 ≡ suc k = omega (arith, here.0) in
          ap (λ i. each_done s image (leads_from w m d (suc k)) (one_block s image v (done i))) (sym here.0)
          ∙ ap (each_done s image (leads_from w m d (suc k)))
          (upto_more s w h m image xs l width height lawful v (whole w h m lawful v here.1) here.1.across ∙ ap done next)

  -- all varblocks of the map, one after the other
  pub by_each : each_done s image (leads w h m) xs ≡ by_blocks s m image xs
  by_each =
      ap (λ vs. each_done s image vs xs) (sym (from_first w h m))
      ∙ ap (each_done s image (leads_from w m (w * h) 0)) (upto_none s w h m image xs l width height lawful)
      ∙ done_from (w * h) 0 (omega arith)
      ∙ ap done (omega arith)
      ∙ upto_all s w h m image xs l width height lawful (w * h) (omega arith) (λ i p q. absurd (omega arith))
