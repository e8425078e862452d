-- The transforms of a cell that are made of DCTs, in passes over rows and columns.
use Rattle.std.proofs.Common.{◌≡◌, ℕ, ◌+◌, ◌*◌, ◌/◌, ◌%◌, ◌<◌, ◌≤◌, true, cond, ◌&&◌, eqb, ltb, ◌≢◌, ◌⊎◌, List, length, set, sym, refl, ap, ◌∙◌, subst, ap₂, inl, inr, add_comm, arith, get_or-set_other, get_or-set_same}
use lib.Ieee.{Float, nan}
use Rattle.std.proofs.lemmas.Bool.{cases_eq, lt-ltb, eq-eqb, ne_eqb, cond-true, cond-false}
use Rattle.std.proofs.lemmas.Bool.Decides.{nat_tests}
use Rattle.dct.specs.declared.dct_common.DctDirection.TheVariants.{Inverse}
use Rattle.dct_2d.specs.Plane.{Patch, line, across, down, plane}
use Rattle.dct.specs.Transform.{at, idct, dct_of}
use Rattle.dct_2d.proofs.Passes.{line_same}
use Rattle.cells.specs.Framed.{framed, turned}
use Rattle.cells.specs.Cells.{cell, butterflies, flipped, half_rows, paired, dct4x8, dct4, dct4_quarter, dct8}
use Rattle.cells.specs.Passes.{row, column, downs, halves, half_downs, swapped}
use Rattle.cells.proofs.Framing.{each_below, framed_same, framed_in, cell_in, cell_is}

pub put_more : (v o old : List Float) (x j : ℕ) → x < 8 → j < 8 → length o ≡ 64
    → ((p q : ℕ) → p < 8 → q < 8 → at o (q * 8 + p) ≡ cond (eqb p x && ltb q j) (at v q) (at old (q * 8 + p)))
    → (p q : ℕ) → p < 8 → q < 8
    → at (set o (j * 8 + x) (at v j)) (q * 8 + p) ≡ cond (eqb p x && ltb q (j + 1)) (at v q) (at old (q * 8 + p))
put_more v o old x j hx hj len h p q hp hq = go (cases_eq p x) (cases_eq q j)
  where
    miss : q * 8 + p ≢ j * 8 + x → cond (eqb p x && ltb q j) (at v q) (at old (q * 8 + p)) ≡ cond (eqb p x && ltb q (j + 1)) (at v q) (at old (q * 8 + p))
        → at (set o (j * 8 + x) (at v j)) (q * 8 + p) ≡ cond (eqb p x && ltb q (j + 1)) (at v q) (at old (q * 8 + p))
    miss ne e = get_or-set_other o (j * 8 + x) (q * 8 + p) (at v j) nan ne ∙ h p q hp hq ∙ e

    go : (p ≡ x) ⊎ (p ≢ x) → (q ≡ j) ⊎ (q ≢ j)
        → at (set o (j * 8 + x) (at v j)) (q * 8 + p) ≡ cond (eqb p x && ltb q (j + 1)) (at v q) (at old (q * 8 + p))
    go (inl a) (inl b) =
        let k : q * 8 + p ≡ j * 8 + x = omega arith in
        ap (at (set o (j * 8 + x) (at v j))) k
        ∙ get_or-set_same o (j * 8 + x) (at v j) nan (omega arith)
        ∙ ap (at v) (sym b)
        ∙ sym (cond-true (eqb p x && ltb q (j + 1)) (at v q) (at old (q * 8 + p)) (ap₂ ◌&&◌ (eq-eqb p x a) (lt-ltb q (j + 1) (omega arith))))
    go (inl a) (inr b) = miss (λ z. b (omega arith)) (grind (arith, nat_tests))
    go (inr a) b = miss (λ z. a (omega arith)) (grind (arith, nat_tests))

pub put_all : (v o old : List Float) (x j : ℕ) → 8 ≤ j
    → ((p q : ℕ) → p < 8 → q < 8 → at o (q * 8 + p) ≡ cond (eqb p x && ltb q j) (at v q) (at old (q * 8 + p)))
    → (p q : ℕ) → p < 8 → q < 8 → at o (q * 8 + p) ≡ cond (eqb p x) (at v q) (at old (q * 8 + p))
put_all v o old x j l h p q hp hq =
    let t : ltb q j ≡ true = lt-ltb q j (omega arith) in
    h p q hp hq ∙ grind (arith, nat_tests)

-- a number of the turned cell
flipped_at : (v : List Float) (x y : ℕ) → x < 8 → y < 8 → at v (x * 8 + y) ≡ flipped (cell v) x y
unfolding flipped
flipped_at v x y hx hy = sym (framed_in 8 8 (turned (cell v)) x y hx hy ∙ cell_in v y x hy hx)

pub row_down : (v : List Float) (y q : ℕ) → y < 8 → q < 8 → at (idct 3 (row v y)) q ≡ down Inverse 3 (flipped (cell v)) y q
unfolding line dct_of
row_down v y q hy hq =
    line_same Inverse 3 (λ j. at v (y * 8 + j)) (λ j. flipped (cell v) y j) (λ j hj. flipped_at v y j hy hj) q hq

pub columns_more : (g : Patch) (o o' r : List Float) (x : ℕ) → x < 8 → ((q : ℕ) → q < 8 → at r q ≡ g x q)
    → ((p q : ℕ) → p < x → q < 8 → at o (q * 8 + p) ≡ g p q)
    → ((p q : ℕ) → p < 8 → q < 8 → at o' (q * 8 + p) ≡ cond (eqb p x) (at r q) (at o (q * 8 + p)))
    → (p q : ℕ) → p < x + 1 → q < 8 → at o' (q * 8 + p) ≡ g p q
columns_more g o o' r x hx e h k p q hp hq = go (cases_eq p x)
  where
    go : (p ≡ x) ⊎ (p ≢ x) → at o' (q * 8 + p) ≡ g p q
    go (inl a) =
        k p q (omega arith) hq ∙ cond-true (eqb p x) (at r q) (at o (q * 8 + p)) (eq-eqb p x a)
        ∙ e q hq ∙ ap (λ (t : ℕ). g t q) (sym a)
    go (inr a) =
        k p q (omega arith) hq ∙ cond-false (eqb p x) (at r q) (at o (q * 8 + p)) (ne_eqb p x a) ∙ h p q (omega arith) hq

-- one column more, each of which some list with P is
pub column_written : (P : ℕ → List Float → Type 0) (o o' r : List Float) (x : ℕ) → x < 8 → P x r
    → ((p q : ℕ) → p < x → q < 8 → (v : List Float) × P p v × (at o (q * 8 + p) ≡ at v q))
    → ((p q : ℕ) → p < 8 → q < 8 → at o' (q * 8 + p) ≡ cond (eqb p x) (at r q) (at o (q * 8 + p)))
    → (p q : ℕ) → p < x + 1 → q < 8 → (v : List Float) × P p v × (at o' (q * 8 + p) ≡ at v q)
column_written P o o' r x hx e h k p q hp hq = go (cases_eq p x)
  where
    go : (p ≡ x) ⊎ (p ≢ x) → (v : List Float) × P p v × (at o' (q * 8 + p) ≡ at v q)
    go (inl a) = (r, subst (λ (t : ℕ). P t r) (sym a) e, k p q (omega arith) hq ∙ cond-true (eqb p x) (at r q) (at o (q * 8 + p)) (eq-eqb p x a))
    go (inr a) =
        let i = h p q (omega arith) hq in
        (i.0, i.1, k p q (omega arith) hq ∙ cond-false (eqb p x) (at r q) (at o (q * 8 + p)) (ne_eqb p x a) ∙ i.2)

pub columns_all : (p : Patch) (o : List Float) → ((x y : ℕ) → x < 8 → y < 8 → at o (y * 8 + x) ≡ down Inverse 3 p x y) → cell o ≡ downs p
unfolding downs
columns_all p o h = cell_is o (down Inverse 3 p) h

-- columns of the turned, turned back: rows
across_is : (p : Patch) (x y : ℕ) → x < 8 → y < 8 → flipped (downs (flipped p)) x y ≡ across Inverse 3 p x y
unfolding flipped downs
across_is p x y hx hy =
    framed_in 8 8 (λ x y. framed 8 8 (down Inverse 3 (flipped p)) y x) x y hx hy
    ∙ framed_in 8 8 (down Inverse 3 (flipped p)) y x hy hx
    ∙ line_same Inverse 3 (λ j. flipped p y j) (λ j. p j y) (λ j hj. framed_in 8 8 (λ x y. p y x) y j hy hj) x hx

pub dct8_steps : (p : Patch) → downs (flipped (downs (flipped p))) ≡ dct8 p
unfolding downs plane dct8
dct8_steps p =
    framed_same 8 8 (down Inverse 3 (flipped (downs (flipped p)))) (down Inverse 3 (across Inverse 3 p))
    (λ x y hx hy.
    line_same Inverse 3 (λ j. flipped (downs (flipped p)) x j) (λ j. across Inverse 3 p x j) (λ j hj. across_is p x j hx hj) y hy)

-- ---- halves

-- of a column, and of a row
column_halves_at : (v : List Float) (x q : ℕ) → q < 8 → at (halves (column v x)) q ≡ line Inverse 2 (λ j. at v ((2 * j + q / 4) * 8 + x)) (q % 4)
unfolding line dct_of idct
column_halves_at v x =
    each_below (λ q. at (halves (column v x)) q ≡ line Inverse 2 (λ j. at v ((2 * j + q / 4) * 8 + x)) (q % 4)) 8
    (refl, (refl, (refl, (refl, (refl, (refl, (refl, (refl, tt))))))))

row_halves_at : (v : List Float) (y q : ℕ) → q < 8 → at (halves (row v y)) q ≡ line Inverse 2 (λ j. at v (y * 8 + (2 * j + q / 4))) (q % 4)
unfolding line dct_of idct
row_halves_at v y =
    each_below (λ q. at (halves (row v y)) q ≡ line Inverse 2 (λ j. at v (y * 8 + (2 * j + q / 4))) (q % 4)) 8
    (refl, (refl, (refl, (refl, (refl, (refl, (refl, (refl, tt))))))))

pub column_halves : (v : List Float) (x q : ℕ) → x < 8 → q < 8 → at (halves (column v x)) q ≡ line Inverse 2 (λ j. cell v x (2 * j + q / 4)) (q % 4)
column_halves v x q hx hq =
    let h : q / 4 < 2 = omega arith in
    column_halves_at v x q hq
    ∙ line_same Inverse 2 (λ j. at v ((2 * j + q / 4) * 8 + x)) (λ j. cell v x (2 * j + q / 4))
    (λ j hj. sym (cell_in v x (2 * j + q / 4) hx (omega arith))) (q % 4) (omega arith)

pub row_halves : (v : List Float) (y q : ℕ) → y < 8 → q < 8 → at (halves (row v y)) q ≡ line Inverse 2 (λ j. flipped (cell v) y (2 * j + q / 4)) (q % 4)
row_halves v y q hy hq =
    let h : q / 4 < 2 = omega arith in
    row_halves_at v y q hq
    ∙ line_same Inverse 2 (λ j. at v (y * 8 + (2 * j + q / 4))) (λ j. flipped (cell v) y (2 * j + q / 4))
    (λ j hj. flipped_at v y (2 * j + q / 4) hy (omega arith)) (q % 4) (omega arith)

pub halves_all : (p : Patch) (o : List Float) → ((x y : ℕ) → x < 8 → y < 8 → at o (y * 8 + x) ≡ line Inverse 2 (λ j. p x (2 * j + y / 4)) (y % 4))
    → cell o ≡ half_downs p
unfolding half_downs
halves_all p o h = cell_is o (λ x y. line Inverse 2 (λ j. p x (2 * j + y / 4)) (y % 4)) h

pub dct4x8_steps : (p : Patch) → half_downs (flipped (downs (flipped (paired p)))) ≡ dct4x8 p
unfolding half_downs dct4x8 plane
dct4x8_steps p =
    framed_same 8 8 (λ x y. line Inverse 2 (λ j. flipped (downs (flipped (paired p))) x (2 * j + y / 4)) (y % 4))
    (λ x y. plane Inverse 3 2 (half_rows (y / 4) (paired p)) x (y % 4))
    (λ x y hx hy.
    let h : y / 4 < 2 = omega arith in
    line_same Inverse 2 (λ j. flipped (downs (flipped (paired p))) x (2 * j + y / 4)) (λ j. across Inverse 3 (half_rows (y / 4) (paired p)) x j)
    (λ j hj. across_is (paired p) x (2 * j + y / 4) hx (omega arith)) (y % 4) (omega arith))

-- ---- quarters

-- two passes of halves, the second over what was turned
two_passes : (q : Patch) (x y : ℕ) → x < 8 → y < 8
    → half_downs (flipped (half_downs q)) x y ≡ line Inverse 2 (λ v. line Inverse 2 (λ u. q (2 * v + y / 4) (2 * u + x / 4)) (x % 4)) (y % 4)
unfolding half_downs flipped
two_passes q x y hx hy =
    let h : y / 4 < 2 = omega arith in
    framed_in 8 8 (λ x y. line Inverse 2 (λ j. flipped (half_downs q) x (2 * j + y / 4)) (y % 4)) x y hx hy
    ∙ line_same Inverse 2 (λ v. flipped (half_downs q) x (2 * v + y / 4)) (λ v. line Inverse 2 (λ u. q (2 * v + y / 4) (2 * u + x / 4)) (x % 4))
    (λ v hv.
    framed_in 8 8 (λ x y. half_downs q y x) x (2 * v + y / 4) hx (omega arith)
    ∙ framed_in 8 8 (λ x y. line Inverse 2 (λ j. q x (2 * j + y / 4)) (y % 4)) (2 * v + y / 4) x (omega arith) hx)
    (y % 4) (omega arith)

pub dct4_steps : (p : Patch) → swapped (half_downs (flipped (half_downs (butterflies 1 p)))) ≡ dct4 p
unfolding swapped dct4 plane
dct4_steps p =
    framed_same 8 8 (λ x y. half_downs (flipped (half_downs (butterflies 1 p))) (4 * (y / 4) + x % 4) (4 * (x / 4) + y % 4))
    (λ x y. dct4_quarter (butterflies 1 p) (x / 4) (y / 4) (x % 4) (y % 4))
    (λ x y hx hy.
    let q = butterflies 1 p in
    let a : (4 * (y / 4) + x % 4) / 4 ≡ y / 4 = omega arith in
    let b : (4 * (y / 4) + x % 4) % 4 ≡ x % 4 = omega arith in
    let c : (4 * (x / 4) + y % 4) / 4 ≡ x / 4 = omega arith in
    let d : (4 * (x / 4) + y % 4) % 4 ≡ y % 4 = omega arith in
    two_passes q (4 * (y / 4) + x % 4) (4 * (x / 4) + y % 4) (omega arith) (omega arith)
    ∙ ap₂ (λ (i j : ℕ). line Inverse 2 (λ v. line Inverse 2 (λ u. q (2 * v + (4 * (x / 4) + y % 4) / 4) (2 * u + i)) j) ((4 * (x / 4) + y % 4) % 4)) a b
    ∙ ap₂ (λ (i j : ℕ). line Inverse 2 (λ v. line Inverse 2 (λ u. q (2 * v + i) (2 * u + y / 4)) (x % 4)) j) c d
    ∙ line_same Inverse 2 (λ v. line Inverse 2 (λ u. q (2 * v + x / 4) (2 * u + y / 4)) (x % 4)) (λ v. line Inverse 2 (λ u. q (x / 4 + 2 * v) (y / 4 + 2 * u)) (x % 4))
    (λ v hv. line_same Inverse 2 (λ u. q (2 * v + x / 4) (2 * u + y / 4)) (λ u. q (x / 4 + 2 * v) (y / 4 + 2 * u))
    (λ u hu. ap₂ q (add_comm (2 * v) (x / 4)) (add_comm (2 * u) (y / 4))) (x % 4) (omega arith))
    (y % 4) (omega arith))
