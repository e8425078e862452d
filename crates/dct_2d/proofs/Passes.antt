-- Lines of a patch: one number more of a line, one line more of a patch, and rows and columns after one another.
use Rattle.std.proofs.Common.{◌≡◌, ℕ, zero, suc, ◌+◌, ◌^◌, ◌<◌, ◌≤◌, cond, ltb, List, [], ◌∷◌, map, length, set, sym, refl, ap, ◌∙◌, subst, ap₂, inl, inr, le_refl, zero-add, arith, pow_mono}
use lib.Ieee.{Float, nan}
use Rattle.std.specs.List.{range_with_len}
use Rattle.std.proofs.lemmas.List.FromFn.{fill_by_all, get_or-map-range_with_len, length-map-range_with_len}
use Rattle.std.proofs.lemmas.Bool.{cases_eq}
use Rattle.std.proofs.lemmas.Bool.Decides.{nat_tests}
use Rattle.grid.specs.declared.Shape.{Shape}
use Rattle.grid.specs.Index.{index, Inside, Lawful}
use Rattle.grid.specs.Painted.{painted}
use Rattle.grid.specs.Window.{elements}
use Rattle.grid.proofs.Laws.{painted_in}
use Rattle.floats.specs.Arith.{plus, minus, times}
use Rattle.dct.specs.declared.dct_common.DctDirection.{DctDirection}
use Rattle.dct.specs.declared.dct_common.DctDirection.TheVariants.{Forward, Inverse}
use Rattle.dct_2d.specs.declared.lines.Axis.{Axis}
use Rattle.dct_2d.specs.declared.lines.Axis.TheVariants.{Rows, Columns}
use Rattle.dct_2d.specs.Lines.{fore, back, read_line, lined, drawn, lined_to}
use Rattle.dct_2d.specs.Plane.{Line, Patch, factor, line, across, down, square, plane}
use Rattle.dct_2d.specs.Replaced.{poured, replaced}
use Rattle.dct.specs.Sides.{Sided}
use Rattle.dct.specs.Transform.{at, dct_of}
use Rattle.floats.proofs.Powers.{pow_inj}
use Rattle.dct.proofs.Flat.{at_map}
use Rattle.dct.proofs.Halves.{two_list}
use Rattle.grid.proofs.Laws.{painted_more, painted_alike, painted_none, painted_twice}
use Rattle.dct_2d.proofs.Paintings.{poured_alike, poured_twice, element_in, element_poured}

-- ---- places

pub inside_line : (s : Shape) (ax : Axis) (i k : ℕ) → i < fore ax s.width s.height → k < back ax s.width s.height
    → Inside s (fore ax i k) (back ax i k)
inside_line s Rows i k a b = record { across = b; down = a }
inside_line s Columns i k a b = record { across = a; down = b }

-- ---- a line depends on its numbers alone

pub line_same : (d : DctDirection) (b : ℕ) (v v' : Line) → ((j : ℕ) → j < 2 ^ b → v j ≡ v' j) → (y : ℕ) → y < 2 ^ b → line d b v y ≡ line d b v' y
unfolding line
line_same d zero v v' e y l = e y l
line_same d (suc zero) v v' e zero l = ap₂ (λ (x y : Float). times (plus x y) (factor d)) (e 0 (omega arith)) (e 1 (omega arith))
line_same d (suc zero) v v' e (suc y) l = ap₂ (λ (x y : Float). times (minus x y) (factor d)) (e 0 (omega arith)) (e 1 (omega arith))
line_same d (suc (suc b)) v v' e y l =
    let n = 2 ^ suc (suc b) in
    ap (λ (u : List Float). at (dct_of d (suc (suc b)) u) y)
    (fill_by_all v' (map v (range_with_len 0 n)) n nan (length-map-range_with_len v 0 n) (λ j m. get_or-map-range_with_len v 0 n j j nan m (zero-add j) ∙ e j m))

-- a list as its numbers
list_is : (v : List Float) (n : ℕ) → length v ≡ n → v ≡ map (at v) (range_with_len 0 n)
list_is v n e = fill_by_all (at v) v n nan e (λ k l. refl)

pub sided_exponent : (v : List Float) (k : ℕ) → Sided (length v) → length v ≡ 2 ^ k → k ≤ 8
sided_exponent v k s e = subst (λ (t : ℕ). t ≤ 8) (pow_inj s.0 k (sym s.2 ∙ e)) s.1

pub line_of_two : (d : DctDirection) (k : ℕ) (v : List Float) (m : Float) → m ≡ factor d → length v ≡ 2 → length v ≡ 2 ^ k
    → set (set v 0 (times (plus (at v 0) (at v 1)) m)) 1 (times (minus (at v 0) (at v 1)) m) ≡ map (line d k (at v)) (range_with_len 0 (length v))
unfolding line
line_of_two d k v m e l f =
    two_list v (times (plus (at v 0) (at v 1)) m) (times (minus (at v 0) (at v 1)) m) l
    ∙ ap (λ (t : Float). times (plus (at v 0) (at v 1)) t ∷ times (minus (at v 0) (at v 1)) t ∷ []) e
    ∙ ap (λ (i : ℕ). map (line d i (at v)) (range_with_len 0 2)) (pow_inj 1 k (sym l ∙ f))
    ∙ ap (λ (n : ℕ). map (line d k (at v)) (range_with_len 0 n)) (sym l)

pub line_of_dct : (d : DctDirection) (k : ℕ) (v r : List Float) → r ≡ dct_of d k v → length r ≡ length v → length v ≡ 2 ^ k → (length v ≡ 2 → ⊥)
    → r ≡ map (line d k (at v)) (range_with_len 0 (length v))
unfolding line dct_of
line_of_dct d zero v r e l f o = e ∙ whole d ∙ list_is v (length v) refl
  where
    whole : (d : DctDirection) → dct_of d 0 v ≡ v
    whole Forward = refl
    whole Inverse = refl
line_of_dct d (suc zero) v r e l f o = absurd (o f)
line_of_dct d (suc (suc k)) v r e l f o =
    fill_by_all (line d (suc (suc k)) (at v)) r (length v) nan l
    (λ i h. ap (λ (t : List Float). at t i) (e ∙ ap (dct_of d (suc (suc k))) (list_is v (2 ^ suc (suc k)) f)))

-- ---- a line is written

module _ (s : Shape) (ax : Axis) (i : ℕ) (c xs : List Float) (l : Lawful s (length xs)) where
  pub drawn_none : xs ≡ painted s (drawn ax i 0 c) xs
  drawn_none = painted_none s (drawn ax i 0 c) xs l (λ p q old h. grind (arith, nat_tests))

  pub drawn_more : (k : ℕ) → Inside s (fore ax i k) (back ax i k)
      → set (painted s (drawn ax i k c) xs) (index s (fore ax i k) (back ax i k)) (at c k) ≡ painted s (drawn ax i (k + 1) c) xs
  drawn_more k h = go ax h
    where
      go : (ax : Axis) → Inside s (fore ax i k) (back ax i k)
          → set (painted s (drawn ax i k c) xs) (index s (fore ax i k) (back ax i k)) (at c k) ≡ painted s (drawn ax i (k + 1) c) xs
      go Rows h =
          painted_more s (drawn Rows i k c) (drawn Rows i (k + 1) c) xs k i (at c k) l h (λ d. grind (arith, nat_tests)) (λ p q old m ne. grind (arith, nat_tests))
      go Columns h =
          painted_more s (drawn Columns i k c) (drawn Columns i (k + 1) c) xs i k (at c k) l h (λ d. grind (arith, nat_tests)) (λ p q old m ne. grind (arith, nat_tests))

-- ---- line by line

module _ (s : Shape) (ax : Axis) (p : Patch) (xs : List Float) (l : Lawful s (length xs)) where
  pub lined_none : xs ≡ painted s (lined_to ax 0 p) xs
  lined_none = painted_none s (lined_to ax 0 p) xs l (λ v w old h. grind (arith, nat_tests))

  pub lined_more : (i n : ℕ) (c : List Float) → n ≡ back ax s.width s.height → ((k : ℕ) → k < n → at c k ≡ p (fore ax i k) (back ax i k))
      → painted s (drawn ax i n c) (painted s (lined_to ax i p) xs) ≡ painted s (lined_to ax (i + 1) p) xs
  lined_more i n c e h = go ax e h
    where
      go : (ax : Axis) → n ≡ back ax s.width s.height → ((k : ℕ) → k < n → at c k ≡ p (fore ax i k) (back ax i k))
          → painted s (drawn ax i n c) (painted s (lined_to ax i p) xs) ≡ painted s (lined_to ax (i + 1) p) xs
      go Rows e h =
          painted_twice s (lined_to Rows i p) (drawn Rows i n c) (lined_to Rows (i + 1) p) xs l
          (λ x y old m. let a = m.across in let t = h x (omega arith) in step x y old (omega arith) t)
        where
          step : (x y : ℕ) (old : Float) → x < n → at c x ≡ p x i → drawn Rows i n c x y (lined_to Rows i p x y old) ≡ lined_to Rows (i + 1) p x y old
          step x y old a t = grind (arith, nat_tests)
      go Columns e h =
          painted_twice s (lined_to Columns i p) (drawn Columns i n c) (lined_to Columns (i + 1) p) xs l
          (λ x y old m. let a = m.down in let t = h y (omega arith) in step x y old (omega arith) t)
        where
          step : (x y : ℕ) (old : Float) → y < n → at c y ≡ p i y → drawn Columns i n c x y (lined_to Columns i p x y old) ≡ lined_to Columns (i + 1) p x y old
          step x y old a t = grind (arith, nat_tests)

  pub lined_all : (i : ℕ) → fore ax s.width s.height ≤ i → painted s (lined_to ax i p) xs ≡ poured p s xs
  unfolding poured
  lined_all i e = go ax e
    where
      go : (ax : Axis) → fore ax s.width s.height ≤ i → painted s (lined_to ax i p) xs ≡ painted s (λ x y _. p x y) xs
      go Rows e = painted_alike s (lined_to Rows i p) (λ x y _. p x y) xs l (λ x y old m. let a = m.down in grind (arith, nat_tests))
      go Columns e = painted_alike s (lined_to Columns i p) (λ x y _. p x y) xs l (λ x y old m. let a = m.across in grind (arith, nat_tests))

  -- a line that is not yet reached is as it was
  pub line_kept : (i j k : ℕ) → i ≤ j → j < fore ax s.width s.height → k < back ax s.width s.height
      → read_line s ax j (painted s (lined_to ax i p) xs) k ≡ elements s xs (fore ax j k) (back ax j k)
  line_kept i j k g a b =
      let m = inside_line s ax j k a b in
      painted_in s (lined_to ax i p) xs (fore ax j k) (back ax j k) nan l m
      ∙ go ax
      ∙ sym (element_in s xs l xs (fore ax j k) (back ax j k) m)
    where
      go : (ax : Axis) → lined_to ax i p (fore ax j k) (back ax j k) (at xs (index s (fore ax j k) (back ax j k))) ≡ at xs (index s (fore ax j k) (back ax j k))
      go Rows = grind (arith, nat_tests)
      go Columns = grind (arith, nat_tests)

pub lined_at : (d : DctDirection) (ax : Axis) (a : ℕ) (p : Patch) (i k : ℕ)
    → line d a (λ j. p (fore ax i j) (back ax i j)) k ≡ lined d ax a p (fore ax i k) (back ax i k)
lined_at d Rows a p i k = refl
lined_at d Columns a p i k = refl

-- what is read, transformed and written in one turn
pub line_made : (s : Shape) (ax : Axis) (d : DctDirection) (a i n : ℕ) (xs r r' : List Float) (l : Lawful s (length xs))
    → i < fore ax s.width s.height → n ≡ back ax s.width s.height → n ≡ 2 ^ a
    → r ≡ map (read_line s ax i (painted s (lined_to ax i (lined d ax a (elements s xs))) xs)) (range_with_len 0 n)
    → r' ≡ map (line d a (at r)) (range_with_len 0 n)
    → (k : ℕ) → k < n → at r' k ≡ lined d ax a (elements s xs) (fore ax i k) (back ax i k)
line_made s ax d a i n xs r r' l hi en ea er er' k hk =
    let p = lined d ax a (elements s xs) in
    let now = painted s (lined_to ax i p) xs in
    ap (λ (v : List Float). at v k) er'
    ∙ at_map (line d a (at r)) n k hk
    ∙ line_same d a (at r) (λ j. elements s xs (fore ax i j) (back ax i j))
    (λ j hj.
    let hn : j < n = omega arith in
    ap (λ (v : List Float). at v j) er ∙ at_map (read_line s ax i now) n j hn
    ∙ line_kept s ax p xs l i i j (le_refl i) hi (subst (λ (t : ℕ). j < t) en hn))
    k (subst (λ (t : ℕ). k < t) ea hk)
    ∙ lined_at d ax a (elements s xs) i k

-- ---- rows and columns

-- rows, then columns: but at two rows of two, and at two rows of more
plane_rows : (d : DctDirection) (a b : ℕ) (p : Patch) (x y : ℕ) → (b ≡ 1 → a ≡ 0) → down d b (across d a p) x y ≡ plane d a b p x y
unfolding plane
plane_rows d zero b p x y l = refl
plane_rows d (suc zero) zero p x y l = refl
plane_rows d (suc zero) (suc zero) p x y l = absurd (omega (arith, l refl))
plane_rows d (suc zero) (suc (suc b)) p x y l = refl
plane_rows d (suc (suc a)) zero p x y l = refl
plane_rows d (suc (suc a)) (suc zero) p x y l = absurd (omega (arith, l refl))
plane_rows d (suc (suc a)) (suc (suc b)) p x y l = refl

plane_two : (d : DctDirection) (a : ℕ) (p : Patch) (x y : ℕ) → 2 ≤ a → across d a (down d 1 p) x y ≡ plane d a 1 p x y
unfolding plane
plane_two d zero p x y l = absurd (omega arith)
plane_two d (suc zero) p x y l = absurd (omega arith)
plane_two d (suc (suc a)) p x y l = refl

rows_first : (d : DctDirection) (a b : ℕ) (p q : Patch) → ((x y : ℕ) → x < 2 ^ a → y < 2 ^ b → p x y ≡ q x y)
    → (x y : ℕ) → x < 2 ^ a → y < 2 ^ b → down d b (across d a p) x y ≡ down d b (across d a q) x y
rows_first d a b p q e x y l m =
    line_same d b (λ j. across d a p x j) (λ j. across d a q x j)
    (λ j h. line_same d a (λ i. p i j) (λ i. q i j) (λ i k. e i j k h) x l) y m

-- the transform of a patch depends on its numbers alone
pub plane_same : (d : DctDirection) (a b : ℕ) (p q : Patch) → ((x y : ℕ) → x < 2 ^ a → y < 2 ^ b → p x y ≡ q x y)
    → (x y : ℕ) → x < 2 ^ a → y < 2 ^ b → plane d a b p x y ≡ plane d a b q x y
unfolding plane
plane_same d zero b p q e x y l m = rows_first d zero b p q e x y l m
plane_same d (suc zero) zero p q e x y l m = rows_first d 1 0 p q e x y l m
plane_same d (suc zero) (suc zero) p q e x y l m =
    square_same x y (e 0 0 (omega arith) (omega arith)) (e 1 0 (omega arith) (omega arith)) (e 0 1 (omega arith) (omega arith)) (e 1 1 (omega arith) (omega arith))
  where
    square_same : (x y : ℕ) → p 0 0 ≡ q 0 0 → p 1 0 ≡ q 1 0 → p 0 1 ≡ q 0 1 → p 1 1 ≡ q 1 1 → square d p x y ≡ square d q x y
    square_same zero zero e0 e1 e2 e3 = cc
    square_same (suc x) zero e0 e1 e2 e3 = cc
    square_same zero (suc y) e0 e1 e2 e3 = cc
    square_same (suc x) (suc y) e0 e1 e2 e3 = cc
plane_same d (suc zero) (suc (suc b)) p q e x y l m = rows_first d 1 (suc (suc b)) p q e x y l m
plane_same d (suc (suc a)) zero p q e x y l m = rows_first d (suc (suc a)) 0 p q e x y l m
plane_same d (suc (suc a)) (suc zero) p q e x y l m =
    line_same d (suc (suc a)) (λ i. down d 1 p i y) (λ i. down d 1 q i y)
    (λ i h. line_same d 1 (λ j. p i j) (λ j. q i j) (λ j k. e i j h k) y m) x l
plane_same d (suc (suc a)) (suc (suc b)) p q e x y l m = rows_first d (suc (suc a)) (suc (suc b)) p q e x y l m

pub long_side : (a : ℕ) → 2 < 2 ^ a → 2 ≤ a
long_side zero h = absurd (omega arith)
long_side (suc zero) h = absurd (omega arith)
long_side (suc (suc a)) h = omega arith

pub short_side : (a : ℕ) → 2 ^ a < 2 → a ≡ 0
short_side zero h = refl
short_side (suc a) h = let q : 1 ≤ suc a = omega arith in let p : 2 ^ 1 ≤ 2 ^ suc a = pow_mono q in absurd (omega arith)

module _ (s : Shape) (d : DctDirection) (a b : ℕ) (xs ys zs : List Float) (l : Lawful s (length xs)) (ew : s.width ≡ 2 ^ a) (eh : s.height ≡ 2 ^ b) where
  -- rows, then columns
  pub rows_columns : (b ≡ 1 → a ≡ 0) → ys ≡ replaced (across d a) s xs → zs ≡ replaced (down d b) s ys → zs ≡ replaced (plane d a b) s xs
  rows_columns c ey ez =
      let p = across d a (elements s xs) in
      ez
      ∙ ap (λ (v : List Float). replaced (down d b) s v) ey
      ∙ poured_twice s xs l p (down d b (elements s (poured p s xs)))
      ∙ poured_alike s xs l (down d b (elements s (poured p s xs))) (plane d a b (elements s xs))
      (λ x y h.
      line_same d b (λ j. elements s (poured p s xs) x j) (λ j. p x j)
      (λ j hj. element_poured s xs l p x j (record { across = h.across; down = subst (λ (t : ℕ). j < t) (sym eh) hj }))
      y (subst (λ (t : ℕ). y < t) eh h.down)
      ∙ plane_rows d a b (elements s xs) x y c)

  -- two rows: columns, then rows
  pub columns_rows : 2 ≤ a → b ≡ 1 → ys ≡ replaced (down d b) s xs → zs ≡ replaced (across d a) s ys → zs ≡ replaced (plane d a b) s xs
  columns_rows c e ey ez =
      let p = down d b (elements s xs) in
      ez
      ∙ ap (λ (v : List Float). replaced (across d a) s v) ey
      ∙ poured_twice s xs l p (across d a (elements s (poured p s xs)))
      ∙ poured_alike s xs l (across d a (elements s (poured p s xs))) (plane d a b (elements s xs))
      (λ x y h.
      line_same d a (λ j. elements s (poured p s xs) j y) (λ j. p j y)
      (λ j hj. element_poured s xs l p j y (record { across = subst (λ (t : ℕ). j < t) (sym ew) hj; down = h.down }))
      x (subst (λ (t : ℕ). x < t) ew h.across)
      ∙ subst (λ (t : ℕ). across d a (down d t (elements s xs)) x y ≡ plane d a t (elements s xs) x y) (sym e) (plane_two d a (elements s xs) x y c))

pub plane_square : (d : DctDirection) (p : Patch) → square d p ≡ plane d 1 1 p
unfolding plane
plane_square d p = refl

-- ---- two rows of two

module _ (s : Shape) (p : Patch) (xs : List Float) (l : Lawful s (length xs)) (wide : s.width ≡ 2) (high : s.height ≡ 2) where
  -- the first n numbers in row order
  abbrev some : ℕ → ℕ → ℕ → Float → Float
  some n x y old = cond (ltb (y + y + x) n) (p x y) old

  some_more : (n x y : ℕ) → x < 2 → y < 2 → y + y + x ≡ n
      → set (painted s (some n) xs) (index s x y) (p x y) ≡ painted s (some (n + 1)) xs
  some_more n x y hx hy e =
      painted_more s (some n) (some (n + 1)) xs x y (p x y) l (record { across = omega arith; down = omega arith })
      (λ d. grind (arith, nat_tests))
      (λ u v old m ne. let a = m.across in let b = m.down in other u v old (omega arith) (omega arith) ne)
    where
      other : (u v : ℕ) (old : Float) → u < 2 → v < 2 → (u ≡ x → v ≡ y → ⊥) → some (n + 1) u v old ≡ some n u v old
      other u v old a b ne = elim (cases_eq (v + v + u) n) [
        | inl t ↦ absurd (ne (omega arith) (omega arith))
        | inr t ↦ grind (arith, nat_tests)
      ]

  pub squared : (A B C D : Float) → A ≡ p 0 0 → B ≡ p 1 0 → C ≡ p 0 1 → D ≡ p 1 1
      → set (set (set (set xs (index s 0 0) A) (index s 1 0) B) (index s 0 1) C) (index s 1 1) D ≡ poured p s xs
  unfolding poured
  squared A B C D a b c d =
      ap₂ (λ (t u : Float). set (set (set (set xs (index s 0 0) t) (index s 1 0) u) (index s 0 1) C) (index s 1 1) D) a b
      ∙ ap₂ (λ (t u : Float). set (set (set (set xs (index s 0 0) (p 0 0)) (index s 1 0) (p 1 0)) (index s 0 1) t) (index s 1 1) u) c d
      ∙ ap (λ (v : List Float). set (set (set (set v (index s 0 0) (p 0 0)) (index s 1 0) (p 1 0)) (index s 0 1) (p 0 1)) (index s 1 1) (p 1 1))
      (painted_none s (some 0) xs l (λ x y old h. grind (arith, nat_tests)))
      ∙ ap (λ (v : List Float). set (set (set v (index s 1 0) (p 1 0)) (index s 0 1) (p 0 1)) (index s 1 1) (p 1 1)) (some_more 0 0 0 (omega arith) (omega arith) refl)
      ∙ ap (λ (v : List Float). set (set v (index s 0 1) (p 0 1)) (index s 1 1) (p 1 1)) (some_more 1 1 0 (omega arith) (omega arith) refl)
      ∙ ap (λ (v : List Float). set v (index s 1 1) (p 1 1)) (some_more 2 0 1 (omega arith) (omega arith) refl)
      ∙ some_more 3 1 1 (omega arith) (omega arith) refl
      ∙ painted_alike s (some 4) (λ x y _. p x y) xs l (λ x y old h. let a = h.across in let b = h.down in grind (arith, nat_tests))
