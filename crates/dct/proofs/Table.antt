-- The rule of the half secants, proved at all of their numbers by one test that antt computes.
use Rattle.std.proofs.Common.{◌≡◌, ℕ, zero, suc, ◌^◌, ◌<◌, ◌≤◌, Bool, true, false, T, List, [], ◌∷◌, length, get_or, sym, subst, le_of_suc-le-suc, not-suc-le-zero, ◌≢◌, add-one, arith, lit≤, inl, inr}
use lib.Ieee.{Float, nan, inf, fin, lt, of_bits}
use lib.Ieee.Scale.{finite}
use Rattle.std.proofs.lemmas.Bool.{cases_eq}
use Rattle.floats.specs.Same.{Finite}
use Rattle.dct.specs.Secants.{secants}
use Rattle.dct.specs.Transform.{at}
use Rattle.floats.specs.Arith.{half}
use Rattle.dct.specs.Table.{Rising}

abbrev both : Bool → Bool → Bool
both true b = b
both false b = false

both_left : (a b : Bool) → T (both a b) → T a
both_left true b t = tt
both_left false b t = t

both_right : (a b : Bool) → T (both a b) → T b
both_right true b t = t
both_right false b t = absurd t

abbrev below_first : Float → List Float → Bool
below_first x [] = true
below_first x (y ∷ ys) = lt x y

abbrev rising : List Float → Bool
rising [] = true
rising (x ∷ xs) = both (finite x) (both (lt half x) (both (below_first x xs) (rising xs)))

module _ (x : Float) (xs : List Float) (t : T (rising (x ∷ xs))) where
  first_whole : T (finite x)
  first_whole = both_left (finite x) (both (lt half x) (both (below_first x xs) (rising xs))) t

  rest₁ : T (both (lt half x) (both (below_first x xs) (rising xs)))
  rest₁ = both_right (finite x) (both (lt half x) (both (below_first x xs) (rising xs))) t

  first_above : T (lt half x)
  first_above = both_left (lt half x) (both (below_first x xs) (rising xs)) rest₁

  rest₂ : T (both (below_first x xs) (rising xs))
  rest₂ = both_right (lt half x) (both (below_first x xs) (rising xs)) rest₁

  first_below : T (below_first x xs)
  first_below = both_left (below_first x xs) (rising xs) rest₂

  rest : T (rising xs)
  rest = both_right (below_first x xs) (rising xs) rest₂

whole_at : (xs : List Float) → T (rising xs) → (i : ℕ) → i < length xs → T (finite (get_or xs i half))
whole_at [] t i h = absurd (not-suc-le-zero h)
whole_at (x ∷ xs) t zero h = first_whole x xs t
whole_at (x ∷ xs) t (suc i) h = whole_at xs (rest x xs t) i (le_of_suc-le-suc h)

above_at : (xs : List Float) → T (rising xs) → (i : ℕ) → i < length xs → T (lt half (get_or xs i half))
above_at [] t i h = absurd (not-suc-le-zero h)
above_at (x ∷ xs) t zero h = first_above x xs t
above_at (x ∷ xs) t (suc i) h = above_at xs (rest x xs t) i (le_of_suc-le-suc h)

rises_at : (xs : List Float) → T (rising xs) → (i : ℕ) → suc i < length xs → T (lt (get_or xs i half) (get_or xs (suc i) half))
rises_at [] t i h = absurd (not-suc-le-zero h)
rises_at (x ∷ []) t i h = absurd (not-suc-le-zero (le_of_suc-le-suc h))
rises_at (x ∷ y ∷ ys) t zero h = first_below x (y ∷ ys) t
rises_at (x ∷ y ∷ ys) t (suc i) h = rises_at (y ∷ ys) (rest x (y ∷ ys) t) i (le_of_suc-le-suc h)

pub from_test : (xs : List Float) → T (rising xs) → Rising xs
from_test xs t = record {
  whole = whole_at xs t;
  above = above_at xs t;
  rises = λ i h. subst (λ (k : ℕ). T (lt (get_or xs i half) (get_or xs k half))) (sym (add-one i)) (rises_at xs t i (subst (λ (k : ℕ). k < length xs) (add-one i) h));
}

-- the one test, over every list of the table
abbrev every_one : List (List Float) → Bool
every_one [] = true
every_one (s ∷ ss) = both (rising s) (every_one ss)

one_of : (ss : List (List Float)) → T (every_one ss) → (i : ℕ) → T (rising (get_or ss i []))
one_of [] t i = tt
one_of (s ∷ ss) t zero = both_left (rising s) (every_one ss) t
one_of (s ∷ ss) t (suc i) = one_of ss (both_right (rising s) (every_one ss) t) i

abbrev tables : List (List Float)
tables = secants 2 ∷ secants 3 ∷ secants 4 ∷ secants 5 ∷ secants 6 ∷ secants 7 ∷ secants 8 ∷ []

test : T (every_one tables)
unfolding secants lt of_bits
test = tt

-- the rule, at each length
pub secants_rise : (k : ℕ) → 2 ≤ k → k ≤ 8 → Rising (secants k)
secants_rise zero l u = absurd (omega arith)
secants_rise (suc zero) l u = absurd (omega arith)
secants_rise (suc (suc zero)) l u = from_test (secants 2) (one_of tables test 0)
secants_rise (suc (suc (suc zero))) l u = from_test (secants 3) (one_of tables test 1)
secants_rise (suc (suc (suc (suc zero)))) l u = from_test (secants 4) (one_of tables test 2)
secants_rise (suc (suc (suc (suc (suc zero))))) l u = from_test (secants 5) (one_of tables test 3)
secants_rise (suc (suc (suc (suc (suc (suc zero)))))) l u = from_test (secants 6) (one_of tables test 4)
secants_rise (suc (suc (suc (suc (suc (suc (suc zero))))))) l u = from_test (secants 7) (one_of tables test 5)
secants_rise (suc (suc (suc (suc (suc (suc (suc (suc zero)))))))) l u = from_test (secants 8) (one_of tables test 6)
secants_rise (suc (suc (suc (suc (suc (suc (suc (suc (suc k))))))))) l u = absurd (omega arith)

-- ---- what the code's table says of a length

module _ (n : ℕ) (r : List Float) (e₂ : n ≡ 4 → r ≡ secants 2) (e₃ : n ≡ 8 → r ≡ secants 3) (e₄ : n ≡ 16 → r ≡ secants 4) (e₅ : n ≡ 32 → r ≡ secants 5)
    (e₆ : n ≡ 64 → r ≡ secants 6) (e₇ : n ≡ 128 → r ≡ secants 7) (e₈ : n ≡ 256 → r ≡ secants 8)
    (other : n ≢ 4 → n ≢ 8 → n ≢ 16 → n ≢ 32 → n ≢ 64 → n ≢ 128 → n ≢ 256 → r ≡ []) where
  pub table_at : (k : ℕ) → 2 ≤ k → k ≤ 8 → n ≡ 2 ^ k → r ≡ secants k
  table_at zero l u e = absurd (omega arith)
  table_at (suc zero) l u e = absurd (omega arith)
  table_at (suc (suc zero)) l u e = e₂ e
  table_at (suc (suc (suc zero))) l u e = e₃ e
  table_at (suc (suc (suc (suc zero)))) l u e = e₄ e
  table_at (suc (suc (suc (suc (suc zero))))) l u e = e₅ e
  table_at (suc (suc (suc (suc (suc (suc zero)))))) l u e = e₆ e
  table_at (suc (suc (suc (suc (suc (suc (suc zero))))))) l u e = e₇ e
  table_at (suc (suc (suc (suc (suc (suc (suc (suc zero)))))))) l u e = e₈ e
  table_at (suc (suc (suc (suc (suc (suc (suc (suc (suc k))))))))) l u e = absurd (omega arith)

  pub table_none : ((k : ℕ) → 2 ≤ k → k ≤ 8 → n ≢ 2 ^ k) → r ≡ []
  table_none f =
      other (f 2 (lit≤ tt) (lit≤ tt)) (f 3 (lit≤ tt) (lit≤ tt)) (f 4 (lit≤ tt) (lit≤ tt)) (f 5 (lit≤ tt) (lit≤ tt))
      (f 6 (lit≤ tt) (lit≤ tt)) (f 7 (lit≤ tt) (lit≤ tt)) (f 8 (lit≤ tt) (lit≤ tt))

  rises_from : (k : ℕ) → 2 ≤ k → k ≤ 8 → r ≡ secants k → Rising r
  rises_from k l u e = subst Rising (sym e) (secants_rise k l u)

  pub table_rule : Rising r
  table_rule = elim (cases_eq n 4) [
    | inl e ↦ rises_from 2 (lit≤ tt) (lit≤ tt) (e₂ e)
    | inr a ↦ elim (cases_eq n 8) [
      | inl e ↦ rises_from 3 (lit≤ tt) (lit≤ tt) (e₃ e)
      | inr b ↦ elim (cases_eq n 16) [
        | inl e ↦ rises_from 4 (lit≤ tt) (lit≤ tt) (e₄ e)
        | inr c ↦ elim (cases_eq n 32) [
          | inl e ↦ rises_from 5 (lit≤ tt) (lit≤ tt) (e₅ e)
          | inr d ↦ elim (cases_eq n 64) [
            | inl e ↦ rises_from 6 (lit≤ tt) (lit≤ tt) (e₆ e)
            | inr f ↦ elim (cases_eq n 128) [
              | inl e ↦ rises_from 7 (lit≤ tt) (lit≤ tt) (e₇ e)
              | inr g ↦ elim (cases_eq n 256) [
                | inl e ↦ rises_from 8 (lit≤ tt) (lit≤ tt) (e₈ e)
                | inr h ↦ subst Rising (sym (other a b c d f g h)) (from_test [] tt)
              ]
            ]
          ]
        ]
      ]
    ]
  ]

-- ---- what the transforms need: no secant is infinite or a NaN

finite_is : (x : Float) → T (finite x) → Finite x
finite_is nan t = t
finite_is (inf s) t = t
finite_is (fin s m e) t = tt

finite_at : (xs : List Float) → T (rising xs) → (i : ℕ) → i < length xs → Finite (at xs i)
finite_at [] t i l = absurd (not-suc-le-zero l)
finite_at (x ∷ xs) t zero l = finite_is x (first_whole x xs t)
finite_at (x ∷ xs) t (suc i) l = finite_at xs (rest x xs t) i (le_of_suc-le-suc l)

-- at the length 8 and from there to 256
pub secant_finite : (k i : ℕ) → suc (suc (suc k)) ≤ 8 → i < 2 ^ suc (suc k) → Finite (at (secants (suc (suc (suc k)))) i)
unfolding secants
secant_finite zero i u l = finite_at (secants 3) (one_of tables test 1) i l
secant_finite (suc zero) i u l = finite_at (secants 4) (one_of tables test 2) i l
secant_finite (suc (suc zero)) i u l = finite_at (secants 5) (one_of tables test 3) i l
secant_finite (suc (suc (suc zero))) i u l = finite_at (secants 6) (one_of tables test 4) i l
secant_finite (suc (suc (suc (suc zero)))) i u l = finite_at (secants 7) (one_of tables test 5) i l
secant_finite (suc (suc (suc (suc (suc zero))))) i u l = finite_at (secants 8) (one_of tables test 6) i l
secant_finite (suc (suc (suc (suc (suc (suc k)))))) i u l = absurd (omega arith)
