-- The cells that an accepted place adds.
use Rattle.std.proofs.Common.{◌≡◌, ℕ, zero, suc, ◌+◌, ◌-◌, ◌*◌, ◌<◌, ◌≤◌, Bool, true, cond, ◌&&◌, eqb, ltb, leb, sym, refl, ap, ◌∙◌, subst, ⊎_elim, suc-mul, mul_comm, zero-mul, mul-one, arith}
use Rattle.std.proofs.lemmas.Bool.{cases_lt, cond-true, cond-false, cases_Bool}
use Rattle.std.proofs.lemmas.Bool.Decides.{nat_tests}
use Rattle.kinds.specs.declared.Size.{Size}
use Rattle.varmap.specs.declared.cells.Record.{Record}
use Rattle.varmap.specs.declared.cells.Record.TheVariants.{Empty, Lead, Covered}
use Rattle.frame.specs.Counts.{sum_to, taken, filled}
use Rattle.varmap.specs.Cells.{cell}
use Rattle.frame.specs.Placing.{stamp}
use Rattle.frame.proofs.Rectangle.{In, cases_in}

sum_alike : (n : ℕ) (f g : ℕ → ℕ) → ((k : ℕ) → k < n → f k ≡ g k) → sum_to n f ≡ sum_to n g
unfolding sum_to
sum_alike zero f g e = refl
sum_alike (suc n) f g e =
    let a = sum_alike n f g (λ k h. e k (omega arith)) in
    let b = e n (omega arith) in
    omega arith

sum_add : (n : ℕ) (f g : ℕ → ℕ) → sum_to n (λ k. f k + g k) ≡ sum_to n f + sum_to n g
unfolding sum_to
sum_add zero f g = refl
sum_add (suc n) f g = let a = sum_add n f g in omega arith

-- c at each of the b places from a on
abbrev window : ℕ → ℕ → ℕ → ℕ → ℕ
window a b c k = cond (leb a k && ltb k (a + b)) c 0

before_window : (a b c n : ℕ) → n ≤ a → sum_to n (window a b c) ≡ 0
unfolding sum_to
before_window a b c zero h = refl
before_window a b c (suc n) h =
    let e = before_window a b c n (omega arith) in
    let t : window a b c n ≡ 0 = grind (arith, nat_tests) in
    omega arith

in_window : (a b c j : ℕ) → j ≤ b → sum_to (a + j) (window a b c) ≡ j * c
unfolding sum_to
in_window a b c zero h =
    let e : a + zero ≡ a = omega arith in
    rw e (before_window a b c a (omega arith) ∙ sym (zero-mul c))
in_window a b c (suc j) h =
    let i = in_window a b c j (omega arith) in
    let e : a + suc j ≡ suc (a + j) = omega arith in
    let t : window a b c (a + j) ≡ c = grind (arith, nat_tests) in
    let s = suc-mul j c in
    rw e (omega arith)

past_window : (a b c r : ℕ) → sum_to (a + b + r) (window a b c) ≡ b * c
unfolding sum_to
past_window a b c zero =
    let e : a + b + zero ≡ a + b = omega arith in
    rw e (in_window a b c b (omega arith))
past_window a b c (suc r) =
    let i = past_window a b c r in
    let e : a + b + suc r ≡ suc (a + b + r) = omega arith in
    let t : window a b c (a + b + r) ≡ 0 = grind (arith, nat_tests) in
    rw e (omega arith)

sum_window : (n a b c : ℕ) → a + b ≤ n → sum_to n (window a b c) ≡ b * c
sum_window n a b c h =
    let e : a + b + (n - (a + b)) ≡ n = omega arith in
    subst (λ k. sum_to k (window a b c) ≡ b * c) e (past_window a b c (n - (a + b)))

-- m is the map before, n the map after
module _
    (w h : ℕ) (m n : ℕ → ℕ → Record) (kind mul x y : ℕ) (z : Size)
    (across : x + z.width ≤ w)
    (down : y + z.height ≤ h)
    (free : (p q : ℕ) → In x y z p q → m p q ≡ Empty)
    (inside : (p q : ℕ) → In x y z p q → n p q ≡ (stamp kind mul (p - x) (q - y) (cell Empty)).holds)
    (outside : (p q : ℕ) → p < w → q < h → (In x y z p q → ⊥) → n p q ≡ m p q)
  where
    one_stamp : (i j : ℕ) → taken (stamp kind mul i j (cell Empty)).holds ≡ 1
    one_stamp i j =
        ⊎_elim
        (λ (e : (eqb i 0 && eqb j 0) ≡ true). ap taken (cond-true (eqb i 0 && eqb j 0) (Lead kind mul) (Covered i j) e))
        (λ e. ap taken (cond-false (eqb i 0 && eqb j 0) (Lead kind mul) (Covered i j) e))
        (cases_Bool (eqb i 0 && eqb j 0))

    abbrev in_y : ℕ → Bool
    in_y q = leb y q && ltb q (y + z.height)

    -- one cell
    at_cell : (p q : ℕ) → p < w → q < h
        → taken (n p q) ≡ taken (m p q) + window x z.width (cond (in_y q) 1 0) p
    at_cell p q a b =
        ⊎_elim
        (λ (k : In x y z p q).
        let u = ap taken (inside p q k) ∙ one_stamp (p - x) (q - y) in
        let v = ap taken (free p q k) in
        let l = k.left in
        let r = k.right in
        let t = k.top in
        let o = k.bottom in
        let c : window x z.width (cond (in_y q) 1 0) p ≡ 1 = grind (arith, nat_tests) in
        omega arith)
        (λ k.
        let u = ap taken (outside p q a b k) in
        let c : window x z.width (cond (in_y q) 1 0) p ≡ 0 = no_window p q k in
        omega arith)
        (cases_in x y z p q)
      where
        no_window : (p q : ℕ) → (In x y z p q → ⊥) → window x z.width (cond (in_y q) 1 0) p ≡ 0
        no_window p q k =
            ⊎_elim
            (λ (s : p < x). grind (arith, nat_tests))
            (λ s.
            ⊎_elim
            (λ (t : p < x + z.width).
            ⊎_elim
            (λ (u : q < y). grind (arith, nat_tests))
            (λ u.
            ⊎_elim
            (λ (v : q < y + z.height).
            absurd (k (record { left = s; right = t; top = u; bottom = v })))
            (λ v. grind (arith, nat_tests))
            (cases_lt q (y + z.height)))
            (cases_lt q y))
            (λ t. grind (arith, nat_tests))
            (cases_lt p (x + z.width)))
            (cases_lt p x)

    -- one row
    at_row : (q : ℕ) → q < h
        → sum_to w (λ p. taken (n p q)) ≡ sum_to w (λ p. taken (m p q)) + window y z.height z.width q
    at_row q b =
        sum_alike w (λ p. taken (n p q)) (λ p. taken (m p q) + window x z.width (cond (in_y q) 1 0) p) (λ p a. at_cell p q a b)
        ∙ sum_add w (λ p. taken (m p q)) (window x z.width (cond (in_y q) 1 0))
        ∙ ap (λ k. sum_to w (λ p. taken (m p q)) + k)
        (sum_window w x z.width (cond (in_y q) 1 0) across ∙ last)
      where
        last : z.width * cond (in_y q) 1 0 ≡ window y z.height z.width q
        last =
            ⊎_elim
            (λ (e : in_y q ≡ true).
            ap (λ k. z.width * k) (cond-true (in_y q) 1 0 e) ∙ mul-one z.width ∙ sym (cond-true (in_y q) z.width 0 e))
            (λ e.
            ap (λ k. z.width * k) (cond-false (in_y q) 1 0 e) ∙ mul_comm z.width 0 ∙ zero-mul z.width
            ∙ sym (cond-false (in_y q) z.width 0 e))
            (cases_Bool (in_y q))

    pub more_filled : filled w h n ≡ filled w h m + z.height * z.width
    unfolding filled
    more_filled =
        sum_alike h (λ q. sum_to w (λ p. taken (n p q)))
        (λ q. sum_to w (λ p. taken (m p q)) + window y z.height z.width q) at_row
        ∙ sum_add h (λ q. sum_to w (λ p. taken (m p q))) (window y z.height z.width)
        ∙ ap (λ k. sum_to h (λ q. sum_to w (λ p. taken (m p q))) + k) (sum_window h y z.height z.width down)
