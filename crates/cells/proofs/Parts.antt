-- Quarters and halves of a cell, as lists.
use Rattle.std.proofs.Common.{◌≡◌, ℕ, zero, suc, ◌+◌, ◌*◌, ◌/◌, ◌%◌, ◌<◌, ◌≤◌, Bool, true, false, cond, ◌&&◌, eqb, ltb, ◌≢◌, ◌⊎◌, List, [], ◌∷◌, length, get_or, set, sym, refl, ap, ◌∙◌, ap₂, inl, inr, arith, lit<, lit≤, add-one, length-set, get_or-set_other, get_or-set_same, below_more}
use lib.Ieee.{Float, nan}
use Rattle.std.proofs.lemmas.Nat.{mod-mul-add, div-mul-add}
use Rattle.std.proofs.lemmas.Bool.{cases_eq, lt-ltb, eq-eqb, ne_eqb, cond-true, cond-false}
use Rattle.std.proofs.lemmas.Bool.Decides.{nat_tests}
use Rattle.floats.specs.Arith.{plus, minus, over}
use Rattle.dct_2d.specs.Plane.{Patch}
use Rattle.dct.specs.Transform.{at}
use Rattle.dct.proofs.Flat.{at_map}
use Rattle.cells.specs.Cells.{cell, quarter, quartered, residual_sum, average, sixteen, residual, hornuss_quarter, paired, flipped}
use Rattle.cells.specs.Passes.{Quarter, four_by_four, taken, average_of, raised, swapped}
use Rattle.cells.proofs.Framing.{each_below, cell_in, cell_is}

-- one more number written
pub fill_more : (f : ℕ → Float) (v : List Float) (i n : ℕ) (a : Float) → length v ≡ n → i < n
    → ((k : ℕ) → k < i → at v k ≡ f k) → a ≡ f i
    → (length (set v i a) ≡ n) × ((k : ℕ) → k < i + 1 → at (set v i a) k ≡ f k)
fill_more f v i n a e l h s = (
  length-set v i a ∙ e,
  below_more (λ k. at (set v i a) k ≡ f k) i
      (λ k m. get_or-set_other v i k a nan (λ z. omega arith) ∙ h k m)
      (get_or-set_same v i a nan (omega arith) ∙ s),
)

-- ---- a quarter written over a cell

pub place_more : (q v old : List Float) (x y i : ℕ) → x < 2 → y < 2 → i < 16 → length v ≡ 64
    → ((p r : ℕ) → p < 8 → r < 8 → at v (r * 8 + p) ≡ cond ((eqb (p / 4) x && eqb (r / 4) y) && ltb (r % 4 * 4 + p % 4) i) (at q (r % 4 * 4 + p % 4)) (at old (r * 8 + p)))
    → (p r : ℕ) → p < 8 → r < 8
    → at (set v ((y * 4 + i / 4) * 8 + (x * 4 + i % 4)) (at q i)) (r * 8 + p)
    ≡ cond ((eqb (p / 4) x && eqb (r / 4) y) && ltb (r % 4 * 4 + p % 4) (i + 1)) (at q (r % 4 * 4 + p % 4)) (at old (r * 8 + p))
place_more q v old x y i hx hy hi len h p r hp hr = go (cases_eq (r * 8 + p) ((y * 4 + i / 4) * 8 + (x * 4 + i % 4)))
  where
    k : ℕ
    k = (y * 4 + i / 4) * 8 + (x * 4 + i % 4)

    go : (r * 8 + p ≡ (y * 4 + i / 4) * 8 + (x * 4 + i % 4)) ⊎ (r * 8 + p ≢ (y * 4 + i / 4) * 8 + (x * 4 + i % 4))
        → at (set v ((y * 4 + i / 4) * 8 + (x * 4 + i % 4)) (at q i)) (r * 8 + p)
        ≡ cond ((eqb (p / 4) x && eqb (r / 4) y) && ltb (r % 4 * 4 + p % 4) (i + 1)) (at q (r % 4 * 4 + p % 4)) (at old (r * 8 + p))
    go (inl e) =
        let m : i / 4 < 4 = omega arith in
        let n : i % 4 < 4 = omega arith in
        let ey : r ≡ y * 4 + i / 4 = omega arith in
        let ex : p ≡ x * 4 + i % 4 = omega arith in
        let a : p / 4 ≡ x = ap (λ t. t / 4) ex ∙ div-mul-add x 4 (i % 4) n in
        let b : p % 4 ≡ i % 4 = ap (λ t. t % 4) ex ∙ mod-mul-add x 4 (i % 4) n in
        let c : r / 4 ≡ y = ap (λ t. t / 4) ey ∙ div-mul-add y 4 (i / 4) m in
        let d : r % 4 ≡ i / 4 = ap (λ t. t % 4) ey ∙ mod-mul-add y 4 (i / 4) m in
        let s : r % 4 * 4 + p % 4 ≡ i = omega arith in
        ap (at (set v ((y * 4 + i / 4) * 8 + (x * 4 + i % 4)) (at q i))) e
        ∙ get_or-set_same v ((y * 4 + i / 4) * 8 + (x * 4 + i % 4)) (at q i) nan (omega arith)
        ∙ ap (at q) (sym s)
        ∙ sym (cond-true ((eqb (p / 4) x && eqb (r / 4) y) && ltb (r % 4 * 4 + p % 4) (i + 1)) (at q (r % 4 * 4 + p % 4)) (at old (r * 8 + p))
        (ap₂ ◌&&◌ (ap₂ ◌&&◌ (eq-eqb (p / 4) x a) (eq-eqb (r / 4) y c)) (lt-ltb (r % 4 * 4 + p % 4) (i + 1) (omega arith))))
    go (inr ne) =
        let other : p / 4 ≡ x → r / 4 ≡ y → r % 4 * 4 + p % 4 ≡ i → ⊥ = λ a b c. ne (omega arith) in
        get_or-set_other v ((y * 4 + i / 4) * 8 + (x * 4 + i % 4)) (r * 8 + p) (at q i) nan ne
        ∙ h p r hp hr
        ∙ same (p / 4) (r / 4) (r % 4 * 4 + p % 4) (at q (r % 4 * 4 + p % 4)) (at old (r * 8 + p)) other
      where
        same : (u w t : ℕ) (s o : Float) → (u ≡ x → w ≡ y → t ≡ i → ⊥)
            → cond ((eqb u x && eqb w y) && ltb t i) s o ≡ cond ((eqb u x && eqb w y) && ltb t (i + 1)) s o
        same u w t s o never = elim (cases_eq u x) [
          | inr nx ↦ let z : eqb u x ≡ false = ne_eqb u x nx in grind (arith, nat_tests)
          | inl ex ↦ elim (cases_eq w y) [
            | inr ny ↦ let z : eqb w y ≡ false = ne_eqb w y ny in grind (arith, nat_tests)
            | inl ey ↦ let z : t ≢ i = never ex ey in grind (arith, nat_tests)
          ]
        ]

pub placed_all : (q v old : List Float) (x y i : ℕ) → 16 ≤ i
    → ((p r : ℕ) → p < 8 → r < 8 → at v (r * 8 + p) ≡ cond ((eqb (p / 4) x && eqb (r / 4) y) && ltb (r % 4 * 4 + p % 4) i) (at q (r % 4 * 4 + p % 4)) (at old (r * 8 + p)))
    → (p r : ℕ) → p < 8 → r < 8
    → at v (r * 8 + p) ≡ cond (eqb (p / 4) x && eqb (r / 4) y) (at q (r % 4 * 4 + p % 4)) (at old (r * 8 + p))
placed_all q v old x y i l h p r hp hr =
    let t : r % 4 * 4 + p % 4 < i = omega arith in
    h p r hp hr ∙ drop_test (eqb (p / 4) x && eqb (r / 4) y) (ltb (r % 4 * 4 + p % 4) i) (at q (r % 4 * 4 + p % 4)) (at old (r * 8 + p)) (lt-ltb (r % 4 * 4 + p % 4) i t)
  where
    drop_test : (b t : Bool) (s o : Float) → t ≡ true → cond (b && t) s o ≡ cond b s o
    drop_test true t s o e = cond-true t s o e
    drop_test false t s o e = refl

pick : (u w : ℕ) (a b c d e : Float) (f : ℕ → ℕ → Float) → u < 2 → w < 2 → a ≡ f 0 0 → b ≡ f 1 0 → c ≡ f 0 1 → d ≡ f 1 1
    → cond (eqb u 1 && eqb w 1) d (cond (eqb u 0 && eqb w 1) c (cond (eqb u 1 && eqb w 0) b (cond (eqb u 0 && eqb w 0) a e))) ≡ f u w
pick zero zero a b c d e f l m ea eb ec ed = ea
pick (suc zero) zero a b c d e f l m ea eb ec ed = eb
pick zero (suc zero) a b c d e f l m ea eb ec ed = ec
pick (suc zero) (suc zero) a b c d e f l m ea eb ec ed = ed
pick zero (suc (suc w)) a b c d e f l m ea eb ec ed = absurd (omega arith)
pick (suc zero) (suc (suc w)) a b c d e f l m ea eb ec ed = absurd (omega arith)
pick (suc (suc u)) zero a b c d e f l m ea eb ec ed = absurd (omega arith)
pick (suc (suc u)) (suc zero) a b c d e f l m ea eb ec ed = absurd (omega arith)
pick (suc (suc u)) (suc (suc w)) a b c d e f l m ea eb ec ed = absurd (omega arith)

-- what placing the quarter (x, y) makes
abbrev pub Placed : List Float → List Float → List Float → ℕ → ℕ → Type 0
Placed q old new x y =
    (p r : ℕ) → p < 8 → r < 8
    → at new (r * 8 + p) ≡ cond (eqb (p / 4) x && eqb (r / 4) y) (at q (r % 4 * 4 + p % 4)) (at old (r * 8 + p))

pub assembled : (a b c d v₀ v₁ v₂ v₃ v₄ : List Float) (f : ℕ → ℕ → Patch)
    → Placed a v₀ v₁ 0 0 → Placed b v₁ v₂ 1 0 → Placed c v₂ v₃ 0 1 → Placed d v₃ v₄ 1 1
    → Quarter a (f 0 0) → Quarter b (f 1 0) → Quarter c (f 0 1) → Quarter d (f 1 1) → cell v₄ ≡ quartered f
assembled a b c d v₀ v₁ v₂ v₃ v₄ f pa pb pc pd qa qb qc qd =
    cell_is v₄ (λ x y. f (x / 4) (y / 4) (x % 4) (y % 4))
    (λ x y hx hy.
    let u : x % 4 < 4 = omega arith in
    let w : y % 4 < 4 = omega arith in
    let k = y % 4 * 4 + x % 4 in
    pd x y hx hy
    ∙ ap (λ (z : Float). cond (eqb (x / 4) 1 && eqb (y / 4) 1) (at d k) z)
    (pc x y hx hy
    ∙ ap (λ (z : Float). cond (eqb (x / 4) 0 && eqb (y / 4) 1) (at c k) z)
    (pb x y hx hy
    ∙ ap (λ (z : Float). cond (eqb (x / 4) 1 && eqb (y / 4) 0) (at b k) z) (pa x y hx hy)))
    ∙ pick (x / 4) (y / 4) (at a k) (at b k) (at c k) (at d k) (at v₀ (y * 8 + x)) (λ i j. f i j (x % 4) (y % 4)) (omega arith) (omega arith)
    (qa (x % 4) (y % 4) u w) (qb (x % 4) (y % 4) u w) (qc (x % 4) (y % 4) u w) (qd (x % 4) (y % 4) u w))

pub four_quarters : (a b c d : List Float) (f : ℕ → ℕ → Patch) → Quarter a (f 0 0) → Quarter b (f 1 0) → Quarter c (f 0 1) → Quarter d (f 1 1)
    → (x y : ℕ) → x < 2 → y < 2 → Quarter (get_or (a ∷ b ∷ c ∷ d ∷ []) (y * 2 + x) []) (f x y)
four_quarters a b c d f qa qb qc qd zero zero hx hy = qa
four_quarters a b c d f qa qb qc qd (suc zero) zero hx hy = qb
four_quarters a b c d f qa qb qc qd zero (suc zero) hx hy = qc
four_quarters a b c d f qa qb qc qd (suc zero) (suc zero) hx hy = qd
four_quarters a b c d f qa qb qc qd (suc (suc x)) y hx hy = absurd (omega arith)
four_quarters a b c d f qa qb qc qd x (suc (suc y)) hx hy = absurd (omega arith)

-- ---- Hornuss

-- the 16 numbers that are read are the quarter
pub taken_is : (v : List Float) (x y : ℕ) → x < 2 → y < 2 → Quarter (taken v x y) (quarter x y (cell v))
taken_is v x y hx hy i j hi hj =
    let k = j * 4 + i in
    at_map (λ k. at v ((y + 2 * (k / 4)) * 8 + (x + 2 * (k % 4)))) 16 k (omega arith)
    ∙ ap₂ (λ (r c : ℕ). at v ((y + 2 * r) * 8 + (x + 2 * c))) (div-mul-add j 4 i hi) (mod-mul-add j 4 i hi)
    ∙ sym (cell_in v (x + 2 * i) (y + 2 * j) (omega arith) (omega arith))

-- the sum with one number more
pub residual_more : (q : List Float) (n : ℕ) (s a : Float) → s ≡ residual_sum (four_by_four q) n → a ≡ at q (n + 1) → plus s a ≡ residual_sum (four_by_four q) (n + 1)
residual_more q n s a e h =
    let p : n + 1 ≡ suc n / 4 * 4 + suc n % 4 = omega arith in
    ap₂ plus e (h ∙ ap (at q) p) ∙ ap (residual_sum (four_by_four q)) (sym (add-one n))

residual_sum_same : (s t : Patch) → ((i j : ℕ) → i < 4 → j < 4 → s i j ≡ t i j) → (n : ℕ) → n ≤ 15 → residual_sum s n ≡ residual_sum t n
residual_sum_same s t e zero l = refl
residual_sum_same s t e (suc n) l =
    ap₂ plus (residual_sum_same s t e n (omega arith)) (e (suc n % 4) (suc n / 4) (omega arith) (omega arith))

-- the average of 16 numbers is that of the quarter that they hold
average_is : (q : List Float) (s : Patch) → Quarter q s → average_of q ≡ average s
average_is q s h =
    ap₂ (λ (u t : Float). minus u (over t sixteen)) (h 0 0 (lit< tt) (lit< tt))
    (residual_sum_same (four_by_four q) s (λ i j hi hj. h i j hi hj) 15 (lit≤ tt))

raised_is : (q : List Float) (s : Patch) (a : Float) → Quarter q s → Quarter (raised q a) (λ i j. plus (residual s i j) a)
raised_is q s a h i j hi hj =
    each_below (λ j. (i : ℕ) → i < 4 → at (raised q a) (j * 4 + i) ≡ plus (residual s i j) a) 4 (row_3, (row_2, (row_1, (row_0, tt)))) j hj i hi
  where
    stays : (i j : ℕ) → i < 4 → j < 4 → plus (at q (j * 4 + i)) a ≡ plus (s i j) a
    stays i j hi hj = ap (λ (t : Float). plus t a) (h i j hi hj)

    row_0 : (i : ℕ) → i < 4 → at (raised q a) (0 * 4 + i) ≡ plus (residual s i 0) a
    row_0 i h =
        each_below (λ i. at (raised q a) (0 * 4 + i) ≡ plus (residual s i 0) a) 4
        (stays 3 0 (lit< tt) (lit< tt), (stays 2 0 (lit< tt) (lit< tt), (stays 1 0 (lit< tt) (lit< tt), (stays 1 1 (lit< tt) (lit< tt), tt)))) i h

    row_1 : (i : ℕ) → i < 4 → at (raised q a) (1 * 4 + i) ≡ plus (residual s i 1) a
    row_1 i h =
        each_below (λ i. at (raised q a) (1 * 4 + i) ≡ plus (residual s i 1) a) 4
        (stays 3 1 (lit< tt) (lit< tt), (stays 2 1 (lit< tt) (lit< tt), (refl, (stays 0 1 (lit< tt) (lit< tt), tt)))) i h

    row_2 : (i : ℕ) → i < 4 → at (raised q a) (2 * 4 + i) ≡ plus (residual s i 2) a
    row_2 i h =
        each_below (λ i. at (raised q a) (2 * 4 + i) ≡ plus (residual s i 2) a) 4
        (stays 3 2 (lit< tt) (lit< tt), (stays 2 2 (lit< tt) (lit< tt), (stays 1 2 (lit< tt) (lit< tt), (stays 0 2 (lit< tt) (lit< tt), tt)))) i h

    row_3 : (i : ℕ) → i < 4 → at (raised q a) (3 * 4 + i) ≡ plus (residual s i 3) a
    row_3 i h =
        each_below (λ i. at (raised q a) (3 * 4 + i) ≡ plus (residual s i 3) a) 4
        (stays 3 3 (lit< tt) (lit< tt), (stays 2 3 (lit< tt) (lit< tt), (stays 1 3 (lit< tt) (lit< tt), (stays 0 3 (lit< tt) (lit< tt), tt)))) i h

pub hornuss_is : (v : List Float) (x y : ℕ) (r : List Float) → x < 2 → y < 2 → r ≡ raised (taken v x y) (average_of (taken v x y))
    → Quarter r (hornuss_quarter (cell v) x y)
hornuss_is v x y r hx hy e i j hi hj =
    let h = taken_is v x y hx hy in
    ap (λ (t : List Float). at t (j * 4 + i)) e
    ∙ raised_is (taken v x y) (quarter x y (cell v)) (average_of (taken v x y)) h i j hi hj
    ∙ ap (plus (residual (quarter x y (cell v)) i j)) (average_is (taken v x y) (quarter x y (cell v)) h)

-- ---- halves, and places changed

pub paired_is : (v : List Float) → length v ≡ 64 → cell (set (set v 0 (plus (at v 0) (at v 8))) 8 (minus (at v 0) (at v 8))) ≡ paired (cell v)
unfolding paired
paired_is v len =
    cell_is (set (set v 0 (plus (at v 0) (at v 8))) 8 (minus (at v 0) (at v 8)))
    (λ x y. cond (eqb x 0 && eqb y 0) (plus (cell v 0 0) (cell v 0 1)) (cond (eqb x 0 && eqb y 1) (minus (cell v 0 0) (cell v 0 1)) (cell v x y)))
    (λ x y hx hy. go x y hx hy (cases_eq (y * 8 + x) 0) (cases_eq (y * 8 + x) 8))
  where
    e0 : cell v 0 0 ≡ at v 0
    e0 = cell_in v 0 0 (omega arith) (omega arith)

    e1 : cell v 0 1 ≡ at v 8
    e1 = cell_in v 0 1 (omega arith) (omega arith)

    go : (x y : ℕ) → x < 8 → y < 8 → (y * 8 + x ≡ 0) ⊎ (y * 8 + x ≢ 0) → (y * 8 + x ≡ 8) ⊎ (y * 8 + x ≢ 8)
        → at (set (set v 0 (plus (at v 0) (at v 8))) 8 (minus (at v 0) (at v 8))) (y * 8 + x)
        ≡ cond (eqb x 0 && eqb y 0) (plus (cell v 0 0) (cell v 0 1)) (cond (eqb x 0 && eqb y 1) (minus (cell v 0 0) (cell v 0 1)) (cell v x y))
    go x y hx hy (inl z) q =
        let ex : x ≡ 0 = omega arith in
        let ey : y ≡ 0 = omega arith in
        ap (at (set (set v 0 (plus (at v 0) (at v 8))) 8 (minus (at v 0) (at v 8)))) z
        ∙ get_or-set_other (set v 0 (plus (at v 0) (at v 8))) 8 0 (minus (at v 0) (at v 8)) nan (λ w. omega arith)
        ∙ get_or-set_same v 0 (plus (at v 0) (at v 8)) nan (omega arith)
        ∙ ap₂ plus (sym e0) (sym e1)
        ∙ sym (cond-true (eqb x 0 && eqb y 0) _ _ (ap₂ ◌&&◌ (eq-eqb x 0 ex) (eq-eqb y 0 ey)))
    go x y hx hy (inr nz) (inl z) =
        let ex : x ≡ 0 = omega arith in
        let ey : y ≡ 1 = omega arith in
        let f : (eqb x 0 && eqb y 0) ≡ false = grind (arith, nat_tests) in
        ap (at (set (set v 0 (plus (at v 0) (at v 8))) 8 (minus (at v 0) (at v 8)))) z
        ∙ get_or-set_same (set v 0 (plus (at v 0) (at v 8))) 8 (minus (at v 0) (at v 8)) nan (omega (arith, length-set v 0 (plus (at v 0) (at v 8))))
        ∙ ap₂ minus (sym e0) (sym e1)
        ∙ sym (cond-false (eqb x 0 && eqb y 0) _ _ f ∙ cond-true (eqb x 0 && eqb y 1) _ _ (ap₂ ◌&&◌ (eq-eqb x 0 ex) (eq-eqb y 1 ey)))
    go x y hx hy (inr nz) (inr ne) =
        let f : (eqb x 0 && eqb y 0) ≡ false = grind (arith, nat_tests) in
        let g : (eqb x 0 && eqb y 1) ≡ false = grind (arith, nat_tests) in
        get_or-set_other (set v 0 (plus (at v 0) (at v 8))) 8 (y * 8 + x) (minus (at v 0) (at v 8)) nan ne
        ∙ get_or-set_other v 0 (y * 8 + x) (plus (at v 0) (at v 8)) nan nz
        ∙ sym (cell_in v x y hx hy)
        ∙ sym (cond-false (eqb x 0 && eqb y 0) _ _ f ∙ cond-false (eqb x 0 && eqb y 1) _ _ g)

pub flipped_is : (v out : List Float) → ((k : ℕ) → k < 64 → at out k ≡ at v (k % 8 * 8 + k / 8)) → cell out ≡ flipped (cell v)
unfolding flipped
flipped_is v out h =
    cell_is out (λ x y. cell v y x)
    (λ x y hx hy.
    h (y * 8 + x) (omega arith)
    ∙ ap₂ (λ (c r : ℕ). at v (c * 8 + r)) (mod-mul-add y 8 x hx) (div-mul-add y 8 x hx)
    ∙ sym (cell_in v y x hy hx))

pub swapped_is : (v out : List Float)
    → ((k : ℕ) → k < 64 → at out k ≡ at v ((4 * (k % 8 / 4) + k / 8 % 4) * 8 + (4 * (k / 8 / 4) + k % 8 % 4))) → cell out ≡ swapped (cell v)
unfolding swapped
swapped_is v out h =
    cell_is out (λ x y. cell v (4 * (y / 4) + x % 4) (4 * (x / 4) + y % 4))
    (λ x y hx hy.
    h (y * 8 + x) (omega arith)
    ∙ ap₂ (λ (c r : ℕ). at v ((4 * (c / 4) + r % 4) * 8 + (4 * (r / 4) + c % 4))) (mod-mul-add y 8 x hx) (div-mul-add y 8 x hx)
    ∙ sym (cell_in v (4 * (y / 4) + x % 4) (4 * (x / 4) + y % 4) (omega arith) (omega arith)))
