-- Strips written over eight lines of a patch: one number more, one row more, one strip more.
use Rattle.std.proofs.Common.{◌≡◌, ℕ, zero, suc, ◌+◌, ◌-◌, ◌*◌, ◌%◌, ◌^◌, ◌<◌, ◌≤◌, cond, ◌&&◌, ltb, leb, ◌⊎◌, List, map, length, set, sym, refl, ap, ◌∙◌, subst, inl, inr, arith, pow_mono}
use native.Mathlib.Nat.{pow-succ'}
use lib.Ieee.{Float}
use Rattle.std.specs.List.{range_with_len}
use Rattle.std.proofs.lemmas.Bool.{cases_lt, cases_eq}
use Rattle.std.proofs.lemmas.Bool.Decides.{nat_tests}
use Rattle.grid.specs.declared.Shape.{Shape}
use Rattle.grid.specs.Index.{index, Inside, Lawful}
use Rattle.grid.specs.Painted.{painted}
use Rattle.grid.specs.Window.{elements}
use Rattle.dct.specs.declared.dct_common.DctDirection.TheVariants.{Inverse}
use Rattle.dct_2d.specs.declared.lines.Axis.{Axis}
use Rattle.dct_2d.specs.declared.lines.Axis.TheVariants.{Rows, Columns}
use Rattle.dct_2d.specs.Lines.{fore, back, read_line, drawn, lined, lined_to}
use Rattle.dct_2d.specs.Plane.{Patch, line}
use Rattle.dct.specs.Sides.{Long}
use Rattle.dct.specs.Strips.{lane, lanes}
use Rattle.dct_2d.specs.Drawn.{eight_drawn, strip_drawn}
use Rattle.dct.specs.Transform.{at, dct_of, idct}
use Rattle.floats.proofs.Powers.{pow_inj}
use Rattle.dct.proofs.Flat.{at_map}
use Rattle.dct.proofs.Lanes.{maps_same}
use Rattle.grid.proofs.Laws.{painted_more, painted_none, painted_twice}
use Rattle.dct_2d.proofs.Passes.{line_kept, lined_at}

-- numbers side by side
module _ (s : Shape) (x y : ℕ) (c xs : List Float) (l : Lawful s (length xs)) where
  pub eight_none : xs ≡ painted s (eight_drawn x y 0 c) xs
  eight_none = painted_none s (eight_drawn x y 0 c) xs l (λ p q old h. grind (arith, nat_tests))

  pub eight_more : (m : ℕ) → Inside s (x + m) y
      → set (painted s (eight_drawn x y m c) xs) (index s (x + m) y) (at c m) ≡ painted s (eight_drawn x y (m + 1) c) xs
  eight_more m h =
      painted_more s (eight_drawn x y m c) (eight_drawn x y (m + 1) c) xs (x + m) y (at c m) l h
      (λ d. rw e (grind (arith, nat_tests))) (λ p q old t ne. grind (arith, nat_tests))
    where
      e : x + m - x ≡ m
      e = omega arith

-- eight numbers more of a row
pub drawn_eight : (s : Shape) (y m : ℕ) (c r xs : List Float) (l : Lawful s (length xs)) → ((j : ℕ) → j < 8 → at r j ≡ at c (m + j))
    → painted s (eight_drawn m y 8 r) (painted s (drawn Rows y m c) xs) ≡ painted s (drawn Rows y (m + 8) c) xs
drawn_eight s y m c r xs l e =
    painted_twice s (drawn Rows y m c) (eight_drawn m y 8 r) (drawn Rows y (m + 8) c) xs l
    (λ p q old h. step p q old (cases_eq q y) (cases_lt p m) (cases_lt p (m + 8)))
  where
    step : (p q : ℕ) (old : Float) → (q ≡ y) ⊎ (q ≡ y → ⊥) → (p < m) ⊎ (m ≤ p) → (p < m + 8) ⊎ (m + 8 ≤ p)
        → eight_drawn m y 8 r p q (drawn Rows y m c p q old) ≡ drawn Rows y (m + 8) c p q old
    step p q old (inl t) (inr u) (inl v) =
        let z : m + (p - m) ≡ p = omega arith in
        let w : at r (p - m) ≡ at c p = e (p - m) (omega arith) ∙ ap (at c) z in
        grind (arith, nat_tests)
    step p q old (inl t) (inl u) v = grind (arith, nat_tests)
    step p q old (inl t) (inr u) (inr v) = grind (arith, nat_tests)
    step p q old (inr t) u v = grind (arith, nat_tests)

-- strips, by their lines
module _ (s : Shape) (i n : ℕ) (c xs : List Float) (l : Lawful s (length xs)) where
  pub lines_none : xs ≡ painted s (strip_drawn Rows i 0 n c) xs
  lines_none = painted_none s (strip_drawn Rows i 0 n c) xs l (λ p q old h. grind (arith, nat_tests))

  pub lines_more : (m : ℕ) → painted s (drawn Rows (i + m) n (lanes n c m)) (painted s (strip_drawn Rows i m n c) xs) ≡ painted s (strip_drawn Rows i (m + 1) n c) xs
  lines_more m =
      painted_twice s (strip_drawn Rows i m n c) (drawn Rows (i + m) n (lanes n c m)) (strip_drawn Rows i (m + 1) n c) xs l
      (λ x y old h. step x y old (cases_eq y (i + m)) (cases_lt x n))
    where
      e : i + m - i ≡ m
      e = omega arith

      step : (x y : ℕ) (old : Float) → (y ≡ i + m) ⊎ (y ≡ i + m → ⊥) → (x < n) ⊎ (n ≤ x)
          → drawn Rows (i + m) n (lanes n c m) x y (strip_drawn Rows i m n c x y old) ≡ strip_drawn Rows i (m + 1) n c x y old
      step x y old (inl t) (inl u) =
          let r : at (lanes n c m) x ≡ lane c m x = at_map (lane c m) n x u in
          let v : y - i ≡ m = omega arith in
          rw v (grind (arith, nat_tests))
      step x y old (inl t) (inr u) = grind (arith, nat_tests)
      step x y old (inr t) u = grind (arith, nat_tests)

-- strips, by their rows
module _ (s : Shape) (i : ℕ) (c xs : List Float) (l : Lawful s (length xs)) where
  pub strip_none : xs ≡ painted s (strip_drawn Columns i 8 0 c) xs
  strip_none = painted_none s (strip_drawn Columns i 8 0 c) xs l (λ p q old h. grind (arith, nat_tests))

  pub strip_more : (k : ℕ) (r : List Float) → ((j : ℕ) → j < 8 → at r j ≡ lane c j k)
      → painted s (eight_drawn i k 8 r) (painted s (strip_drawn Columns i 8 k c) xs) ≡ painted s (strip_drawn Columns i 8 (k + 1) c) xs
  strip_more k r e =
      painted_twice s (strip_drawn Columns i 8 k c) (eight_drawn i k 8 r) (strip_drawn Columns i 8 (k + 1) c) xs l
      (λ x y old h. step x y old (cases_eq y k) (cases_lt x i) (cases_lt x (i + 8)))
    where
      step : (x y : ℕ) (old : Float) → (y ≡ k) ⊎ (y ≡ k → ⊥) → (x < i) ⊎ (i ≤ x) → (x < i + 8) ⊎ (i + 8 ≤ x)
          → eight_drawn i k 8 r x y (strip_drawn Columns i 8 k c x y old) ≡ strip_drawn Columns i 8 (k + 1) c x y old
      step x y old (inl t) (inr u) (inl v) = let z = e (x - i) (omega arith) in rw t (grind (arith, nat_tests))
      step x y old (inl t) (inl u) v = grind (arith, nat_tests)
      step x y old (inl t) (inr u) (inr v) = grind (arith, nat_tests)
      step x y old (inr t) u v = grind (arith, nat_tests)

module _ (s : Shape) (ax : Axis) (i : ℕ) (c xs : List Float) (l : Lawful s (length xs)) where
  -- the eight lines from i on
  pub strip_lined : (p : Patch) → ((x k : ℕ) → x < 8 → k < back ax s.width s.height → lane c x k ≡ p (fore ax (i + x) k) (back ax (i + x) k))
      → painted s (strip_drawn ax i 8 (back ax s.width s.height) c) (painted s (lined_to ax i p) xs) ≡ painted s (lined_to ax (i + 8) p) xs
  strip_lined p e = go ax e
    where
      step : (n f b : ℕ) (new old : Float) → b < n → (i ≤ f → f < i + 8 → lane c (f - i) b ≡ new)
          → cond (ltb b n && (leb i f && ltb f (i + 8))) (lane c (f - i) b) (cond (ltb f i) new old) ≡ cond (ltb f (i + 8)) new old
      step n f b new old hb t = elim (cases_lt f i) [
        | inl u ↦ grind (arith, nat_tests)
        | inr u ↦ elim (cases_lt f (i + 8)) [
          | inl v ↦ let r = t u v in grind (arith, nat_tests)
          | inr v ↦ grind (arith, nat_tests)
        ]
      ]

      go : (ax : Axis) → ((x k : ℕ) → x < 8 → k < back ax s.width s.height → lane c x k ≡ p (fore ax (i + x) k) (back ax (i + x) k))
          → painted s (strip_drawn ax i 8 (back ax s.width s.height) c) (painted s (lined_to ax i p) xs) ≡ painted s (lined_to ax (i + 8) p) xs
      go Rows e =
          painted_twice s (lined_to Rows i p) (strip_drawn Rows i 8 s.width c) (lined_to Rows (i + 8) p) xs l
          (λ x y old h.
          step s.width y x (p x y) old h.across
          (λ u v. let r : i + (y - i) ≡ y = omega arith in e (y - i) x (omega arith) h.across ∙ ap (p x) r))
      go Columns e =
          painted_twice s (lined_to Columns i p) (strip_drawn Columns i 8 s.height c) (lined_to Columns (i + 8) p) xs l
          (λ x y old h.
          step s.height x y (p x y) old h.down
          (λ u v. let r : i + (x - i) ≡ x = omega arith in e (x - i) y (omega arith) h.down ∙ ap (λ (t : ℕ). p t y) r))

line_idct : (k : ℕ) (v : ℕ → Float) (j : ℕ) → 2 ≤ k → at (idct k (map v (range_with_len 0 (2 ^ k)))) j ≡ line Inverse k v j
unfolding line dct_of
line_idct zero v j h = absurd (omega arith)
line_idct (suc zero) v j h = absurd (omega arith)
line_idct (suc (suc k)) v j h = refl

-- what is read, transformed and written in one turn
pub strip_made : (s : Shape) (ax : Axis) (a i n : ℕ) (xs r r' : List Float) (l : Lawful s (length xs)) → i + 8 ≤ fore ax s.width s.height
    → n ≡ back ax s.width s.height → n ≡ 2 ^ a → 2 ≤ a
    → ((x k : ℕ) → x < 8 → k < back ax s.width s.height → lane r x k ≡ read_line s ax (i + x) (painted s (lined_to ax i (lined Inverse ax a (elements s xs))) xs) k)
    → ((x : ℕ) → x < 8 → lanes n r' x ≡ idct a (lanes n r x))
    → (x k : ℕ) → x < 8 → k < back ax s.width s.height → lane r' x k ≡ lined Inverse ax a (elements s xs) (fore ax (i + x) k) (back ax (i + x) k)
strip_made s ax a i n xs r r' l hi en ea ha er er' x k hx hk =
    let p = lined Inverse ax a (elements s xs) in
    let hn : k < n = subst (λ (t : ℕ). k < t) (sym en) hk in
    sym (at_map (lane r' x) n k hn)
    ∙ ap (λ (v : List Float). at v k)
    (er' x hx
    ∙ ap (idct a)
    (maps_same (lane r x) (λ j. elements s xs (fore ax (i + x) j) (back ax (i + x) j)) n
    (λ j hj.
    let hb : j < back ax s.width s.height = subst (λ (t : ℕ). j < t) en hj in
    er x j hx hb ∙ line_kept s ax p xs l i (i + x) j (omega arith) (omega arith) hb))
    ∙ ap (λ (m : ℕ). idct a (map (λ j. elements s xs (fore ax (i + x) j) (back ax (i + x) j)) (range_with_len 0 m))) ea)
    ∙ line_idct a (λ j. elements s xs (fore ax (i + x) j) (back ax (i + x) j)) k ha
    ∙ lined_at Inverse ax a (elements s xs) (i + x) k

-- ---- sides from 8 to 256

pub long_least : (n k : ℕ) → Long n → n ≡ 2 ^ k → 3 ≤ k
long_least n k s e = subst (λ (t : ℕ). 3 ≤ t) (pow_inj s.0 k (sym s.3 ∙ e)) s.1

pub long_eights : (n : ℕ) → Long n → n % 8 ≡ 0
long_eights n s = go s.0 s.1 s.3
  where
    go : (k : ℕ) → 3 ≤ k → n ≡ 2 ^ k → n % 8 ≡ 0
    go zero l e = absurd (omega arith)
    go (suc zero) l e = absurd (omega arith)
    go (suc (suc zero)) l e = absurd (omega arith)
    go (suc (suc (suc k))) l e =
        let a : n ≡ 2 * 2 ^ suc (suc k) = e ∙ pow-succ' 2 (suc (suc k)) in
        let b : 2 ^ suc (suc k) ≡ 2 * 2 ^ suc k = pow-succ' 2 (suc k) in
        let c : 2 ^ suc k ≡ 2 * 2 ^ k = pow-succ' 2 k in
        omega arith

pub long_most : (n : ℕ) → Long n → n ≤ 256
long_most n s = let u : s.0 ≤ 8 = s.2 in let p : 2 ^ s.0 ≤ 2 ^ 8 = pow_mono u in omega (arith, s.3)
