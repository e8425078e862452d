-- Facts on the table of kinds.
use Rattle.std.proofs.Common.{◌≡◌, ℕ, zero, suc, ◌+◌, ◌-◌, ◌*◌, ◌/◌, ◌%◌, ◌^◌, ◌<◌, ◌≤◌, Bool, true, cond, ◌&&◌, eqb, leb, ◌⊎◌, List, [], ◌∷◌, Some, None, Option, sym, refl, ap, ◌∙◌, subst, inl, inr, ⊎_elim, arith}
use Rattle.std.proofs.lemmas.Bool.{cases_lt, cases_eq, cases_Bool, and_parts, leb-true, ne_eqb, cond-false, cond-true}
use Rattle.kinds.specs.declared.Size.{Size}
use Rattle.kinds.specs.Kinds.{Kind, kinds, found, size_of, wide, high, width_of, height_of}

-- P holds of each number below n
abbrev Each : (ℕ → Type 0) → ℕ → Type 0
Each P zero = Unit {0}
Each P (suc n) = P n × Each P n

each_below : (P : ℕ → Type 0) (n : ℕ) → Each P n → (k : ℕ) → k < n → P k
each_below P zero e k h = absurd (omega arith)
each_below P (suc n) e k h =
    ⊎_elim (λ (same : k ≡ n). subst P (sym same) e.0) (λ ne. each_below P n e.1 k (omega arith)) (cases_eq k n)

abbrev pub size : ℕ → ℕ → Size
size w h = record { width = w; height = h }

pub one_cell : (k : ℕ) → k < 14 → (k < 4) ⊎ (11 < k) → Some (size 1 1) ≡ size_of k
unfolding size_of found
one_cell k h (inl l) = each_below (λ n. Some (size 1 1) ≡ size_of n) 4 (refl, (refl, (refl, (refl, tt)))) k l
one_cell k h (inr l) =
    let e : 12 + (k - 12) ≡ k = omega arith in
    subst (λ n. Some (size 1 1) ≡ size_of n) e
    (each_below (λ n. Some (size 1 1) ≡ size_of (12 + n)) 2 (refl, (refl, tt)) (k - 12) (omega arith))

abbrev pub side : ℕ → ℕ
side k = 8 * 2 ^ ((k - 18) / 3)

abbrev pub large : ℕ → Option Size
large k =
    cond (eqb (k % 3) 0) (Some (size (side k) (side k)))
    (cond (eqb (k % 3) 1) (Some (size (side k / 2) (side k))) (Some (size (side k) (side k / 2))))

pub large_size : (k : ℕ) → 18 ≤ k → k ≤ 26 → large k ≡ size_of k
unfolding size_of found
large_size k l h =
    let e : 18 + (k - 18) ≡ k = omega arith in
    subst (λ n. large n ≡ size_of n) e
    (each_below (λ n. large (18 + n) ≡ size_of (18 + n)) 9
    (refl, (refl, (refl, (refl, (refl, (refl, (refl, (refl, (refl, tt))))))))) (k - 18) (omega arith))

pub size_at : (k n : ℕ) → k ≡ n → size_of n ≡ size_of k
size_at k n e = ap size_of (sym e)

-- a test of each kind of the table
abbrev all : (Kind → Bool) → List Kind → Bool
all p [] = true
all p (e ∷ es) = p e && all p es

none_past : (k : ℕ) (es : List Kind) → all (λ e. leb e.kind 26) es ≡ true → 26 < k → None ≡ found k es
unfolding found
none_past k [] t h = refl
none_past k (e ∷ es) t h =
    let p = and_parts (leb e.kind 26) (all (λ e. leb e.kind 26) es) t in
    none_past k es p.1 h
    ∙ sym (cond-false (eqb k e.kind) (Some (size e.width e.height)) (found k es)
    (ne_eqb k e.kind (λ q. omega (arith, leb-true e.kind 26 p.0))))

pub not_carried : (k : ℕ) → (26 < k) ⊎ ((13 < k) × (k < 18)) → None ≡ size_of k
unfolding size_of found
not_carried k (inl h) = none_past k kinds refl h
not_carried k (inr h) =
    let e : 14 + (k - 14) ≡ k = omega (arith, h.0) in
    subst (λ n. None ≡ size_of n) e
    (each_below (λ n. None ≡ size_of (14 + n)) 4 (refl, (refl, (refl, (refl, tt)))) (k - 14) (omega (arith, h.0, h.1)))

-- no kind is larger than 32 × 32, and none is without cells
pub record Bounded (z : Size) : Type 0 where
  pub wide : 1 ≤ z.width
  pub narrow : z.width ≤ 32
  pub high : 1 ≤ z.height
  pub low : z.height ≤ 32

abbrev bounded : Kind → Bool
bounded e = (leb 1 e.width && leb e.width 32) && (leb 1 e.height && leb e.height 32)

found_bounded : (k : ℕ) (es : List Kind) (z : Size) → all bounded es ≡ true → found k es ≡ Some z → Bounded z
unfolding found
found_bounded k [] z t e = absurd (let n : ◌≡◌ {A = ℕ} 0 1 = cc in omega arith)
found_bounded k (d ∷ es) z t e =
    let p = and_parts (bounded d) (all bounded es) t in
    let q = and_parts (leb 1 d.width && leb d.width 32) (leb 1 d.height && leb d.height 32) p.0 in
    let horizontal = and_parts (leb 1 d.width) (leb d.width 32) q.0 in
    let vertical = and_parts (leb 1 d.height) (leb d.height 32) q.1 in
    ⊎_elim
    (λ (h : eqb k d.kind ≡ true).
    let s : Some (size d.width d.height) ≡ Some z =
    sym (cond-true (eqb k d.kind) (Some (size d.width d.height)) (found k es) h) ∙ e in
    let r : size d.width d.height ≡ z = cc in
    subst Bounded r
    (record {
      wide = leb-true 1 d.width horizontal.0;
      narrow = leb-true d.width 32 horizontal.1;
      high = leb-true 1 d.height vertical.0;
      low = leb-true d.height 32 vertical.1;
    }))
    (λ h.
    found_bounded k es z p.1
    (sym (cond-false (eqb k d.kind) (Some (size d.width d.height)) (found k es) h) ∙ e))
    (cases_Bool (eqb k d.kind))

pub size_bounded : (k : ℕ) (z : Size) → size_of k ≡ Some z → Bounded z
unfolding size_of
size_bounded k z e = found_bounded k kinds z refl e

pub same_size : (k : ℕ) (y z : Size) → size_of k ≡ Some y → size_of k ≡ Some z → y ≡ z
same_size k y z p q = cc

pub some_not_none : (k : ℕ) (z : Size) → size_of k ≡ Some z → size_of k ≡ None → ⊥
some_not_none k z p q = let n : ◌≡◌ {A = ℕ} 0 1 = cc in omega arith

-- every kind that is carried has one of the 27 numbers
pub carried_below : (k : ℕ) (z : Size) → size_of k ≡ Some z → k < 27
carried_below k z e =
    ⊎_elim (λ (a : k < 27). a) (λ b. absurd (some_not_none k z e (sym (not_carried k (inl (omega arith)))))) (cases_lt k 27)

-- the sides as numbers
pub wide_is : (kind : ℕ) (z : Size) → size_of kind ≡ Some z → wide kind ≡ z.width
unfolding wide
wide_is kind z e = ap width_of e

pub high_is : (kind : ℕ) (z : Size) → size_of kind ≡ Some z → high kind ≡ z.height
unfolding high
high_is kind z e = ap height_of e
