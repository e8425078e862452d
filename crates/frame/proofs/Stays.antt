-- A varblock that is placed where all was empty leaves a lawful map lawful.
use Rattle.std.proofs.Common.{◌≡◌, ℕ, ◌+◌, ◌-◌, ◌<◌, ◌≤◌, true, false, cond, ◌&&◌, eqb, leb, Some, None, Option, sym, refl, ap, ◌∙◌, subst, ⊎_elim, arith}
use Rattle.std.proofs.lemmas.Bool.{cases_eq, cases_Bool, and_from, and_parts, le-leb, lt-ltb, leb-true, eqb-true, eq-eqb, cond-true, cond-false, true≢false}
use Rattle.std.proofs.lemmas.Bool.Decides.{nat_tests}
use Rattle.kinds.specs.declared.Size.{Size}
use Rattle.kinds.specs.Kinds.{size_of}
use Rattle.kinds.proofs.Sizes.{size_bounded}
use Rattle.varmap.specs.declared.cells.Record.{Record}
use Rattle.varmap.specs.declared.cells.Record.TheVariants.{Empty, Lead, Covered}
use Rattle.varmap.specs.Cells.{cell}
use Rattle.varmap.specs.Map.{points_back, in_range, back_at, all_back, lead_of, within, reaches, cell_as, cell_ok, LawfulMap}
use Rattle.frame.specs.Placing.{stamp}
use Rattle.varmap.proofs.AllCells.{cells_true, true_cells}
use Rattle.frame.proofs.Rectangle.{In, cases_in}

covered_not_empty : (c : Record) (i j : ℕ) → c ≡ Covered i j → c ≡ Empty → ⊥
covered_not_empty c i j a b = let t : ◌≡◌ {A = ℕ} 0 1 = cc in omega arith

lead_not_empty : (c : Record) (k f : ℕ) → c ≡ Lead k f → c ≡ Empty → ⊥
lead_not_empty c k f a b = let t : ◌≡◌ {A = ℕ} 0 1 = cc in omega arith

-- a record that points back from a place other than the lead's is not empty
back_not_empty : (c : Record) (i j : ℕ) → (i + j ≡ 0 → ⊥) → points_back c i j ≡ true → c ≡ Empty → ⊥
back_not_empty c i j some t e =
    let p = and_parts (eqb i 0) (eqb j 0) (ap (λ r. points_back r i j) (sym e) ∙ t) in
    some (omega (arith, eqb-true i 0 p.0, eqb-true j 0 p.1))

-- a record that reaches is a lead
reaches_not_empty : (c : Record) (i j : ℕ) → reaches i j c ≡ true → c ≡ Empty → ⊥
reaches_not_empty c i j t e = true≢false (sym t ∙ ap (reaches i j) e)

-- m is the map before, n the map after
module _
    (w h : ℕ) (m n : ℕ → ℕ → Record) (kind mul x y : ℕ) (z : Size)
    (carried : size_of kind ≡ Some z)
    (range : in_range mul ≡ true)
    (across : x + z.width ≤ w)
    (down : y + z.height ≤ h)
    (free : (p q : ℕ) → In x y z p q → m p q ≡ Empty)
    (inside : (p q : ℕ) → In x y z p q → n p q ≡ (stamp kind mul (p - x) (q - y) (cell Empty)).holds)
    (outside : (p q : ℕ) → p < w → q < h → (In x y z p q → ⊥) → n p q ≡ m p q)
  where
    -- what was not empty stays
    kept : (p q : ℕ) → p < w → q < h → (m p q ≡ Empty → ⊥) → n p q ≡ m p q
    kept p q a b ne = outside p q a b (λ k. ne (free p q k))

    stamped : (i j : ℕ) → i < z.width → j < z.height → n (x + i) (y + j) ≡ cond (eqb i 0 && eqb j 0) (Lead kind mul) (Covered i j)
    stamped i j a b =
        let c : x + i - x ≡ i = omega arith in
        let d : y + j - y ≡ j = omega arith in
        inside (x + i) (y + j) (record { left = omega arith; right = omega arith; top = omega arith; bottom = omega arith })
        ∙ ap (λ v. cond (eqb v 0 && eqb (y + j - y) 0) (Lead kind mul) (Covered v (y + j - y))) c
        ∙ ap (λ v. cond (eqb i 0 && eqb v 0) (Lead kind mul) (Covered i v)) d

    lead_there : n x y ≡ Lead kind mul
    lead_there =
        let bounds = size_bounded kind z carried in
        let a : x + 0 ≡ x = omega arith in
        let b : y + 0 ≡ y = omega arith in
        ap (λ v. n v y) (sym a) ∙ ap (λ u. n (x + 0) u) (sym b)
        ∙ stamped 0 0 (omega (arith, bounds.wide)) (omega (arith, bounds.high))

    points : (i j : ℕ) → points_back (cond (eqb i 0 && eqb j 0) (Lead kind mul) (Covered i j)) i j ≡ true
    points i j =
        ⊎_elim
        (λ (e : (eqb i 0 && eqb j 0) ≡ true). ap (λ r. points_back r i j) (cond-true (eqb i 0 && eqb j 0) _ _ e) ∙ e)
        (λ e.
        let p = eq-eqb i i refl in
        let q = eq-eqb j j refl in
        ap (λ r. points_back r i j) (cond-false (eqb i 0 && eqb j 0) _ _ e) ∙ grind (arith, nat_tests))
        (cases_Bool (eqb i 0 && eqb j 0))

    -- the new lead
    lead_stays : cell_ok w h n x y ≡ true
    unfolding cell_ok all_back
    lead_stays =
        ap (cell_as w h n x y) lead_there
        ∙ ap (lead_of w h n x y mul) carried
        ∙ and_from (in_range mul) _ range
        (and_from _ _ (le-leb _ _ across)
        (and_from _ _ (le-leb _ _ down)
        (cells_true z.width z.height (back_at n x y)
        (λ i j a b. ap (λ r. points_back r i j) (stamped i j a b) ∙ points i j))))

    -- a new cell that points back
    covered_stays : (i j : ℕ) → i < z.width → j < z.height → (eqb i 0 && eqb j 0) ≡ false → cell_ok w h n (x + i) (y + j) ≡ true
    unfolding cell_ok
    covered_stays i j a b e =
        let p : x + i - i ≡ x = omega arith in
        let q : y + j - j ≡ y = omega arith in
        ap (cell_as w h n (x + i) (y + j)) (stamped i j a b ∙ cond-false (eqb i 0 && eqb j 0) _ _ e)
        ∙ and_from _ _ (le-leb i (x + i) (omega arith))
        (and_from _ _ (le-leb j (y + j) (omega arith))
        (ap (λ v. reaches i j (n v (y + j - j))) p
        ∙ ap (λ u. reaches i j (n x u)) q
        ∙ ap (reaches i j) lead_there
        ∙ ap (within i j) carried
        ∙ and_from _ _ (lt-ltb _ _ a) (lt-ltb _ _ b)))

    at_rectangle : (i j : ℕ) → i < z.width → j < z.height → cell_ok w h n (x + i) (y + j) ≡ true
    at_rectangle i j a b =
        ⊎_elim
        (λ (e : (eqb i 0 && eqb j 0) ≡ true).
        let p = and_parts (eqb i 0) (eqb j 0) e in
        let c : x + i ≡ x = omega (arith, eqb-true i 0 p.0) in
        let d : y + j ≡ y = omega (arith, eqb-true j 0 p.1) in
        rw (c, d) lead_stays)
        (λ e. covered_stays i j a b e)
        (cases_Bool (eqb i 0 && eqb j 0))

    -- a cell outside the rectangle
    still : (p q : ℕ) → p < w → q < h → (c : Record) → m p q ≡ c → cell_as w h m p q c ≡ true → cell_as w h n p q c ≡ true
    unfolding all_back
    still p q a b Empty e t = refl
    still p q a b (Lead k f) e t = go (size_of k) t
      where
        go : (o : Option Size) → lead_of w h m p q f o ≡ true → lead_of w h n p q f o ≡ true
        go None u = u
        go (Some v) u =
            let r = and_parts (in_range f) _ u in
            let s = and_parts (leb (p + v.width) w) _ r.1 in
            let o = and_parts (leb (q + v.height) h) _ s.1 in
            let wide = leb-true _ _ s.0 in
            let high = leb-true _ _ o.0 in
            and_from (in_range f) _ r.0
            (and_from _ _ s.0
            (and_from _ _ o.0
            (cells_true v.width v.height (back_at n p q)
            (λ i j c d. back i j c d wide high (true_cells v.width v.height (back_at m p q) i j o.1 c d)))))
          where
            back : (i j : ℕ) → i < v.width → j < v.height → p + v.width ≤ w → q + v.height ≤ h → back_at m p q i j ≡ true
                → back_at n p q i j ≡ true
            back i j c d wide high was =
                ⊎_elim
                (λ (none : i + j ≡ 0).
                let i0 : i ≡ 0 = omega arith in
                let j0 : j ≡ 0 = omega arith in
                let pi : p + i ≡ p = omega arith in
                let qj : q + j ≡ q = omega arith in
                ap (λ r. points_back r i j)
                (kept (p + i) (q + j) (omega arith) (omega arith)
                (λ empty. lead_not_empty (m p q) k f e (ap (λ t. m t q) (sym pi) ∙ ap (λ t. m (p + i) t) (sym qj) ∙ empty)))
                ∙ was)
                (λ some.
                ap (λ r. points_back r i j)
                (kept (p + i) (q + j) (omega arith) (omega arith) (back_not_empty (m (p + i) (q + j)) i j some was))
                ∙ was)
                (cases_eq (i + j) 0)
    still p q a b (Covered dx dy) e t =
        let r = and_parts (leb dx p) _ t in
        let s = and_parts (leb dy q) _ r.1 in
        and_from _ _ r.0
        (and_from _ _ s.0
        (ap (reaches dx dy)
        (kept (p - dx) (q - dy) (omega arith) (omega arith) (reaches_not_empty (m (p - dx) (q - dy)) dx dy s.1))
        ∙ s.1))

    pub stays_lawful : LawfulMap w h m → LawfulMap w h n
    unfolding cell_ok
    stays_lawful lawful p q a b =
        ⊎_elim
        (λ (k : In x y z p q).
        let l = k.left in
        let r = k.right in
        let t = k.top in
        let o = k.bottom in
        let c : x + (p - x) ≡ p = omega arith in
        let d : y + (q - y) ≡ q = omega arith in
        subst (λ v. cell_ok w h n v q ≡ true) c
        (subst (λ u. cell_ok w h n (x + (p - x)) u ≡ true) d (at_rectangle (p - x) (q - y) (omega arith) (omega arith))))
        (λ k. ap (cell_as w h n p q) (outside p q a b k) ∙ still p q a b (m p q) refl (lawful p q a b))
        (cases_in x y z p q)
