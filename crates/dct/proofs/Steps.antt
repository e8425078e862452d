-- Steps of the loops that write a list at two places a turn, and what the places say of the list.
use Rattle.std.proofs.Common.{◌≡◌, ℕ, zero, suc, ◌+◌, ◌-◌, ◌*◌, ◌/◌, ◌%◌, ◌<◌, ◌≤◌, Bool, true, false, cond, T, eqb, ltb, ◌≢◌, List, length, set, sym, refl, ap, ◌∙◌, subst, inl, inr, arith, eqb→eq, ltb→lt, lt→ltb, length-set, get_or-set_other, get_or-set_same, below_more}
use lib.Ieee.{Float, nan}
use lib.Ieee.Fits.{eq→eqb}
use Rattle.std.proofs.lemmas.List.FromFn.{fill_by_all}
use Rattle.std.proofs.lemmas.Bool.{cases_lt}
use Rattle.floats.specs.Arith.{plus, minus, times, over, two}
use Rattle.dct.specs.Secants.{root_two}
use Rattle.dct.specs.Transform.{at, odd_sum, slope, sum_at, difference_at, butterfly, joined, gathered, woven, interleaved}

-- ---- two writes

module _ (xs : List Float) (i j : ℕ) (a b : Float) where
  -- at neither place
  pub set_neither : (k : ℕ) → k ≢ i → k ≢ j → at (set (set xs i a) j b) k ≡ at xs k
  set_neither k p q = get_or-set_other (set xs i a) j k b nan q ∙ get_or-set_other xs i k a nan p

  pub set_first : i < length xs → i ≢ j → at (set (set xs i a) j b) i ≡ a
  set_first h q = get_or-set_other (set xs i a) j i b nan q ∙ get_or-set_same xs i a nan h

  pub set_second : j < length xs → at (set (set xs i a) j b) j ≡ b
  set_second h = get_or-set_same (set xs i a) j b nan (subst (λ (n : ℕ). j < n) (sym (length-set xs i a)) h)

-- a turn that writes f i at the place p i and g i at q i, where the places of a turn are its own
module _ (p q : ℕ → ℕ) (f g : ℕ → Float) (xs : List Float) (i : ℕ) (a b : Float) (ea : a ≡ f i) (eb : b ≡ g i) where
  pub first_more : p i < length xs → p i ≢ q i → ((k : ℕ) → k < i → (p k ≢ p i) × (p k ≢ q i)) → ((k : ℕ) → k < i → at xs (p k) ≡ f k)
      → (k : ℕ) → k < i + 1 → at (set (set xs (p i) a) (q i) b) (p k) ≡ f k
  first_more l d apart inv =
      below_more (λ k. at (set (set xs (p i) a) (q i) b) (p k) ≡ f k) i
      (λ k h. set_neither xs (p i) (q i) a b (p k) (apart k h).0 (apart k h).1 ∙ inv k h)
      (set_first xs (p i) (q i) a b l d ∙ ea)

  pub second_more : q i < length xs → ((k : ℕ) → k < i → (q k ≢ p i) × (q k ≢ q i)) → ((k : ℕ) → k < i → at xs (q k) ≡ g k)
      → (k : ℕ) → k < i + 1 → at (set (set xs (p i) a) (q i) b) (q k) ≡ g k
  second_more l apart inv =
      below_more (λ k. at (set (set xs (p i) a) (q i) b) (q k) ≡ g k) i
      (λ k h. set_neither xs (p i) (q i) a b (q k) (apart k h).0 (apart k h).1 ∙ inv k h)
      (set_second xs (p i) (q i) a b l ∙ eb)

-- a turn that writes one place
pub fill_more : (f : ℕ → Float) (xs : List Float) (i : ℕ) (a : Float) → a ≡ f i → i < length xs
    → ((k : ℕ) → k < i → at xs k ≡ f k) → (k : ℕ) → k < i + 1 → at (set xs i a) k ≡ f k
fill_more f xs i a e l h =
    below_more (λ k. at (set xs i a) k ≡ f k) i
    (λ k m. get_or-set_other xs i k a nan (omega arith) ∙ h k m)
    (get_or-set_same xs i a nan l ∙ e)

-- ---- the inverse

pub odd_sum_is : (v : List Float) (i : ℕ) (r : Float) → (i ≡ 0 → r ≡ times (at v 1) root_two)
    → ((i ≡ 0 → ⊥) → r ≡ plus (at v (2 * i + 1)) (at v (2 * i - 1))) → r ≡ odd_sum v i
odd_sum_is v zero r p q = p refl
odd_sum_is v (suc i) r p q = q (λ z. omega arith) ∙ ap (λ (j : ℕ). plus (at v (2 * suc i + 1)) (at v j)) (before i)
  where
    before : (i : ℕ) → 2 * suc i - 1 ≡ 2 * i + 1
    before i = omega arith

pub joined_all : (h : ℕ) (s e o xs : List Float) → length xs ≡ h + h → ((k : ℕ) → k < h → at xs k ≡ sum_at s e o k)
    → ((k : ℕ) → k < h → at xs (h + h - 1 - k) ≡ difference_at s e o k) → xs ≡ joined h s e o
joined_all h s e o xs l p q = fill_by_all (butterfly h s e o) xs (h + h) nan l (λ k m. go k m (ltb k h) refl)
  where
    mirror : (k : ℕ) → k < h + h → h + h - 1 - (h + h - 1 - k) ≡ k
    mirror k m = omega arith

    below : (k : ℕ) → k < h + h → h ≤ k → h + h - 1 - k < h
    below k m g = omega arith

    past : (k : ℕ) → ltb k h ≡ false → h ≤ k
    past k t = elim (cases_lt k h) [ inl a ↦ absurd (subst T t (lt→ltb k h a)) | inr g ↦ g ]

    go : (k : ℕ) → k < h + h → (b : Bool) → ltb k h ≡ b → at xs k ≡ cond b (sum_at s e o k) (difference_at s e o (h + h - 1 - k))
    go k m true t = p k (ltb→lt k h (subst T (sym t) tt))
    go k m false t = ap (λ (j : ℕ). at xs j) (sym (mirror k m)) ∙ q (h + h - 1 - k) (below k m (past k t))

-- ---- forward

pub interleaved_all : (h : ℕ) (e o xs : List Float) → length xs ≡ h + h → ((k : ℕ) → k < h → at xs (2 * k) ≡ at e k)
    → ((k : ℕ) → k < h → at xs (2 * k + 1) ≡ gathered h o k) → xs ≡ interleaved h e o
interleaved_all h e o xs l p q = fill_by_all (woven h e o) xs (h + h) nan l (λ k m. go k m (eqb (k % 2) 0) refl)
  where
    half_of : (k : ℕ) → k < h + h → k / 2 < h
    half_of k m = omega arith

    even : (k : ℕ) → k % 2 ≡ 0 → k ≡ 2 * (k / 2)
    even k r = omega arith

    odd : (k : ℕ) → k % 2 ≢ 0 → k ≡ 2 * (k / 2) + 1
    odd k r = omega arith

    go : (k : ℕ) → k < h + h → (b : Bool) → eqb (k % 2) 0 ≡ b → at xs k ≡ cond b (at e (k / 2)) (gathered h o (k / 2))
    go k m true t = ap (λ (j : ℕ). at xs j) (even k (eqb→eq (k % 2) 0 (subst T (sym t) tt))) ∙ p (k / 2) (half_of k m)
    go k m false t = ap (λ (j : ℕ). at xs j) (odd k (λ z. subst T t (eq→eqb z))) ∙ q (k / 2) (half_of k m)

pub slope_is : (h : ℕ) (a b s r : Float) → (h ≡ 4 → r ≡ over (times (minus a b) s) two)
    → ((h ≡ 4 → ⊥) → r ≡ times (over (minus a b) two) s) → r ≡ slope h (minus a b) s
slope_is h a b s r p q = go (eqb h 4) refl
  where
    go : (t : Bool) → eqb h 4 ≡ t → r ≡ cond t (over (times (minus a b) s) two) (times (over (minus a b) two) s)
    go true e = p (eqb→eq h 4 (subst T (sym e) tt))
    go false e = q (λ z. subst T e (eq→eqb z))
