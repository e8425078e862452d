-- A list cut into rows, the last of which may be short.
use Rattle.std.proofs.Common.{◌≡◌, ℕ, zero, suc, ◌+◌, ◌-◌, ◌*◌, ◌%◌, ◌<◌, ◌≤◌, min, Bool, true, List, [], ◌∷◌, ◌++◌, length, get_or, take, drop, sym, ◌∙◌, ap, subst, refl, ⊎_elim, arith, length-append, length-take, length-drop, get_or-take, get_or-drop}
use Rattle.std.proofs.Math.ListN.{get_or-append, drop_of_length-le}
use Rattle.std.proofs.Math.Nat.{zero-mul, suc-mul, mod-eq_of_lt, add-mod_left}
use Rattle.std.proofs.lemmas.List.{get_or-append_right, take_at, drop_at, take_all, append-nil}
use Rattle.std.proofs.lemmas.Iterator.{YieldsList}
use Rattle.std.proofs.lemmas.Bool.{and_parts, and_from, cases_lt}
use Rattle.std.specs.List.{flat_map, list_all}
use Rattle.std.specs.Iterator.{AlwaysYields}
use Rattle.std.specs.Slice.Iter.{chunks_rest, chunks_size, chunks_steps}

-- the first n rows of s elements each
abbrev pub rows : {A : Type 0} → ℕ → ℕ → List A → List (List A)
rows s n [] = []
rows s zero (x ∷ xs) = []
rows s (suc n) (x ∷ xs) = take s (x ∷ xs) ∷ rows s n (drop s (x ∷ xs))

-- x is cut off a list, as far as n elements go
parts : {A : Type 0} (n : ℕ) (x t : List A) → length x ≡ min n (length (x ++ t)) → (x ≡ take n (x ++ t)) × (t ≡ drop n (x ++ t))
parts n x [] e = (
  sym (take_all n (x ++ []) (omega (arith, length-append x [])) ∙ append-nil x),
  sym (drop_of_length-le (x ++ []) {i = n} (omega (arith, length-append x []))),
)
parts n x (y ∷ t) e =
    let whole : length x ≡ n = omega (arith, length-append x (y ∷ t)) in
    (sym (take_at x (y ∷ t) n whole), sym (drop_at x (y ∷ t) n whole))

parts_of : {A : Type 0} (n : ℕ) (xs x t : List A) → xs ≡ x ++ t → length x ≡ min n (length xs) → (x ≡ take n xs) × (t ≡ drop n xs)
parts_of n xs x t e len = subst (λ z. (x ≡ take n z) × (t ≡ drop n z)) (sym e) (parts n x t (len ∙ ap (λ z. min n (length z)) e))

-- ---- what a slice's `chunks` gives

gives : {A : Type 0} (s : ℕ) → 1 ≤ s → (n : ℕ) (xs : List A) (it : _) → chunks_rest it ≡ xs → chunks_size it ≡ s → length xs ≤ n → AlwaysYields chunks_steps (λ y. y.now) it (rows s n xs)
gives s some n [] it left size room = λ x j h. absurd (omega (arith, h.1.2, ap length left))
gives s some zero (x ∷ xs) it left size room = absurd (omega arith)
gives s some (suc n) (x ∷ xs) it left size room = (
  (λ j h. absurd (omega (arith, h.1.0, ap length left))),
  λ y j h.
      let cut = parts_of s (x ∷ xs) y.now (chunks_rest j) (sym left ∙ h.1.0) (h.1.1 ∙ (λ i. min (size i) (length (left i)))) in
      (cut.0, gives s some n (drop s (x ∷ xs)) j cut.1 (h.0 ∙ size) (omega (arith, length-drop s (x ∷ xs)))),
)

pub YieldsList-from_chunks : {A : Type 0} (s : ℕ) (xs : List A) {it : _} → 1 ≤ s → chunks_rest it ≡ xs → chunks_size it ≡ s → YieldsList chunks_steps (λ y. y.now) it (rows s (length xs) xs)
YieldsList-from_chunks s xs {it} some left size = record { runs = gives s some (length xs) xs it left size (omega arith) }

-- ---- the elements of each row from w on

each_true : {A : Type 0} (p : A → Bool) (xs : List A) → list_all p xs ≡ true → (k : ℕ) → k < length xs → (d : A) → p (get_or xs k d) ≡ true
each_true p [] h k below d = absurd (omega arith)
each_true p (x ∷ xs) h zero below d = (and_parts (p x) (list_all p xs) h).0
each_true p (x ∷ xs) h (suc k) below d = each_true p xs (and_parts (p x) (list_all p xs) h).1 k (omega arith) d

all_true : {A : Type 0} (p : A → Bool) (xs : List A) (d : A) → ((k : ℕ) → k < length xs → p (get_or xs k d) ≡ true) → list_all p xs ≡ true
all_true p [] d h = refl
all_true p (x ∷ xs) d h = and_from (p x) (list_all p xs) (h zero (omega arith)) (all_true p xs d (λ k below. h (suc k) (omega arith)))

-- whether p holds of each
abbrev pub all_beyond : {A : Type 0} → (A → Bool) → ℕ → ℕ → ℕ → List A → Bool
all_beyond p s w n xs = list_all (λ row. list_all p (drop w row)) (rows s n xs)

module _ {A : Type 0} (p : A → Bool) (s w : ℕ) (some : 1 ≤ s) (d : A) where
  -- the element w + j of the first row
  in_row : (xs : List A) (j : ℕ) → w + j < s → get_or (drop w (take s xs)) j d ≡ get_or xs (w + j) d
  in_row xs j below = get_or-drop w (take s xs) j d ∙ get_or-take s xs (w + j) d below

  pub true_beyond : (n : ℕ) (xs : List A) → length xs ≤ n → all_beyond p s w n xs ≡ true → (k : ℕ) → k < length xs → w ≤ k % s → p (get_or xs k d) ≡ true
  true_beyond n [] room h k below at = absurd (omega arith)
  true_beyond zero (x ∷ xs) room h k below at = absurd (omega arith)
  true_beyond (suc n) (x ∷ xs) room h k below at =
      let row = drop w (take s (x ∷ xs)) in
      let both = and_parts (list_all p row) (all_beyond p s w n (drop s (x ∷ xs))) h in
      ⊎_elim (λ first.
      let place : w ≤ k = omega (arith, mod-eq_of_lt first, at) in
      let long : length row ≡ min s (length (x ∷ xs)) - w = length-drop w (take s (x ∷ xs)) ∙ ap (λ i. i - w) (length-take s (x ∷ xs)) in
      let same : w + (k - w) ≡ k = omega (arith, place) in
      subst (λ v. p v ≡ true) (in_row (x ∷ xs) (k - w) (omega (arith, same, first)) ∙ ap (λ i. get_or (x ∷ xs) i d) same)
      (each_true p row both.0 (k - w) (omega (arith, long, place)) d))
      (λ later.
      let same : s + (k - s) ≡ k = omega (arith, later) in
      let column : (k - s) % s ≡ k % s = sym (add-mod_left s (k - s)) ∙ ap (λ i. i % s) same in
      let left : length (drop s (x ∷ xs)) ≡ length (x ∷ xs) - s = length-drop s (x ∷ xs) in
      subst (λ v. p v ≡ true) (get_or-drop s (x ∷ xs) (k - s) d ∙ ap (λ i. get_or (x ∷ xs) i d) same)
      (true_beyond n (drop s (x ∷ xs)) (omega (arith, left)) both.1 (k - s) (omega (arith, left, later)) (omega (arith, column, at))))
      (cases_lt k s)

  pub beyond_true : (n : ℕ) (xs : List A) → length xs ≤ n → ((k : ℕ) → k < length xs → w ≤ k % s → p (get_or xs k d) ≡ true) → all_beyond p s w n xs ≡ true
  beyond_true n [] room h = refl
  beyond_true zero (x ∷ xs) room h = absurd (omega arith)
  beyond_true (suc n) (x ∷ xs) room h =
      let row = drop w (take s (x ∷ xs)) in
      let long : length row ≡ min s (length (x ∷ xs)) - w = length-drop w (take s (x ∷ xs)) ∙ ap (λ i. i - w) (length-take s (x ∷ xs)) in
      let left : length (drop s (x ∷ xs)) ≡ length (x ∷ xs) - s = length-drop s (x ∷ xs) in
      and_from (list_all p row) (all_beyond p s w n (drop s (x ∷ xs)))
      (all_true p row d (λ j below.
      let inside : w + j < s = omega (arith, long, below) in
      subst (λ v. p v ≡ true) (sym (in_row (x ∷ xs) j inside)) (h (w + j) (omega (arith, long, below)) (omega (arith, mod-eq_of_lt inside)))))
      (beyond_true n (drop s (x ∷ xs)) (omega (arith, left)) (λ k below at.
      subst (λ v. p v ≡ true) (sym (get_or-drop s (x ∷ xs) k d)) (h (s + k) (omega (arith, left, below)) (omega (arith, add-mod_left s k, at)))))

-- ---- the first w elements of each row

-- row by row, in one list
abbrev pub fronts : {A : Type 0} → ℕ → ℕ → ℕ → List A → List A
fronts s w n xs = flat_map (take w) (rows s n xs)

module _ {A : Type 0} (s w : ℕ) (within : w ≤ s) where
  front_length : (xs : List A) → length (take w (take s xs)) ≡ min w (min s (length xs))
  front_length xs = length-take w (take s xs) ∙ ap (min w) (length-take s xs)

  -- in h rows, the last of which has w elements or more, h * w
  pub length-fronts : 1 ≤ w → (n : ℕ) (xs : List A) → length xs ≤ n → (h : ℕ) → h * s + w ≤ length xs + s → length xs ≤ h * s → length (fronts s w n xs) ≡ h * w
  length-fronts some n [] room zero long short = sym (zero-mul w)
  length-fronts some n [] room (suc h) long short = absurd (omega (arith, suc-mul h s))
  length-fronts some zero (x ∷ xs) room h long short = absurd (omega arith)
  length-fronts some (suc n) (x ∷ xs) room zero long short = absurd (omega (arith, zero-mul s))
  length-fronts some (suc n) (x ∷ xs) room (suc h) long short =
      let left : length (drop s (x ∷ xs)) ≡ length (x ∷ xs) - s = length-drop s (x ∷ xs) in
      let after : length (fronts s w n (drop s (x ∷ xs))) ≡ h * w = length-fronts some n (drop s (x ∷ xs)) (omega (arith, left, within, some)) h (omega (arith, left, suc-mul h s, long)) (omega (arith, left, suc-mul h s)) in
      omega (arith, after, suc-mul h s, suc-mul h w, length-append (take w (take s (x ∷ xs))) (fronts s w n (drop s (x ∷ xs))), front_length (x ∷ xs))

  pub get_or-fronts : (n : ℕ) (xs : List A) → length xs ≤ n → (y x : ℕ) → x < w → y * s + x < length xs → (d : A) → get_or (fronts s w n xs) (y * w + x) d ≡ get_or xs (y * s + x) d
  get_or-fronts n [] room y x inside there d = absurd (omega arith)
  get_or-fronts zero (a ∷ xs) room y x inside there d = absurd (omega arith)
  get_or-fronts (suc n) (a ∷ xs) room zero x inside there d =
      let front = take w (take s (a ∷ xs)) in
      let first : zero * w + x ≡ x = omega (arith, zero-mul w) in
      let same : zero * s + x ≡ x = omega (arith, zero-mul s) in
      let below : x < length front = omega (arith, front_length (a ∷ xs), same, there, inside, within) in
      ap (λ i. get_or (front ++ fronts s w n (drop s (a ∷ xs))) i d) first ∙ get_or-append front (fronts s w n (drop s (a ∷ xs))) d x below
      ∙ get_or-take w (take s (a ∷ xs)) x d inside ∙ get_or-take s (a ∷ xs) x d (omega (arith, inside, within)) ∙ ap (λ i. get_or (a ∷ xs) i d) (sym same)
  get_or-fronts (suc n) (a ∷ xs) room (suc y) x inside there d =
      let front = take w (take s (a ∷ xs)) in
      let rest = drop s (a ∷ xs) in
      let left : length rest ≡ length (a ∷ xs) - s = length-drop s (a ∷ xs) in
      let whole : length front ≡ w = omega (arith, front_length (a ∷ xs), suc-mul y s, there, within) in
      let back : suc y * w + x - w ≡ y * w + x = omega (arith, suc-mul y w) in
      let same : s + (y * s + x) ≡ suc y * s + x = omega (arith, suc-mul y s) in
      get_or-append_right front (fronts s w n rest) w (suc y * w + x) d whole (omega (arith, suc-mul y w)) ∙ ap (λ i. get_or (fronts s w n rest) i d) back
      ∙ get_or-fronts n rest (omega (arith, left, inside, within)) y x inside (omega (arith, left, same, there)) d
      ∙ get_or-drop s (a ∷ xs) (y * s + x) d ∙ ap (λ i. get_or (a ∷ xs) i d) same
