-- Strips: one number more of a row or of a line, one row more, and the transform of each line from its halves.
use Rattle.std.proofs.Common.{◌≡◌, ℕ, zero, suc, ◌+◌, ◌-◌, ◌*◌, ◌/◌, ◌^◌, ◌<◌, ◌≤◌, ◌≢◌, ◌⊎◌, List, [], ◌∷◌, map, length, set, sym, refl, ap, ◌∙◌, ap₂, inl, inr, add-zero, arith, length-set, get_or-set_other, get_or-set_same, pow_pos, pow_mono, below_more}
use native.Mathlib.Nat.{pow-succ'}
use lib.Ieee.{Float, nan}
use Rattle.std.specs.List.{range_with_len}
use Rattle.std.proofs.lemmas.List.FromFn.{fill_by_all, length-map-range_with_len}
use Rattle.std.proofs.lemmas.Bool.{cases_eq}
use Rattle.floats.specs.Arith.{plus, minus, times}
use Rattle.dct.specs.Secants.{root_two, secants}
use Rattle.dct.specs.Sides.{Long}
use Rattle.dct.specs.Strips.{lane, lanes, odd_lane, sum_lane, difference_lane, eight, sums, differences, scaled, Rowed, Paired, Laned}
use Rattle.dct.specs.Transform.{at, evens, odd_sum, odd_sums, joined, idct}
use Rattle.dct.proofs.Flat.{at_map}
use Rattle.dct.proofs.Steps.{joined_all}

-- places of two rows or lines differ
row_apart : (x m j k : ℕ) → x < 8 → m < 8 → (j ≡ k → m + 1 ≤ x) → j * 8 + x ≢ k * 8 + m
row_apart x m j k hx hm h e = let t : j ≡ k = omega arith in let g = h t in omega arith

pub maps_same : (f g : ℕ → Float) (n : ℕ) → ((k : ℕ) → k < n → f k ≡ g k) → map f (range_with_len 0 n) ≡ map g (range_with_len 0 n)
maps_same f g n e = fill_by_all g (map f (range_with_len 0 n)) n nan (length-map-range_with_len f 0 n) (λ k h. at_map f n k h ∙ e k h)

-- ---- rows

pub rowed_none : (k : ℕ) (f : ℕ → Float) (v : List Float) → Rowed k 0 f v v
rowed_none k f v = record { len = refl; here = λ x h. absurd (omega arith); there = λ x j h g. refl }

pub rowed_more : (k m : ℕ) (f : ℕ → Float) (v v₁ : List Float) (a : Float) → m < 8 → k * 8 + m < length v₁ → a ≡ f m
    → Rowed k m f v v₁ → Rowed k (m + 1) f v (set v₁ (k * 8 + m) a)
rowed_more k m f v v₁ a hm hl e r = record {
  len = length-set v₁ (k * 8 + m) a ∙ r.len;
  here = below_more (λ x. lane (set v₁ (k * 8 + m) a) x k ≡ f x) m
      (λ x h. get_or-set_other v₁ (k * 8 + m) (k * 8 + x) a nan (omega arith) ∙ r.here x h)
      (get_or-set_same v₁ (k * 8 + m) a nan hl ∙ e);
  there = λ x j h g.
      get_or-set_other v₁ (k * 8 + m) (j * 8 + x) a nan (row_apart x m j k h hm g)
      ∙ r.there x j h (λ t. let u = g t in omega arith);
}

pub rowed_alike : (k m : ℕ) (f g : ℕ → Float) (v v₁ : List Float) → m ≡ 8 → ((x : ℕ) → x < 8 → f x ≡ g x) → Rowed k m f v v₁ → Rowed k 8 g v v₁
rowed_alike k m f g v v₁ e h r = record {
  len = r.len;
  here = λ x l. r.here x (omega arith) ∙ h x l;
  there = λ x j l o. r.there x j l (λ t. let u = o t in omega arith);
}

-- a row as its eight numbers
pub row_literal : (v : List Float) (k x : ℕ) → x < 8
    → at (at v (k * 8) ∷ at v (k * 8 + 1) ∷ at v (k * 8 + 2) ∷ at v (k * 8 + 3) ∷ at v (k * 8 + 4) ∷ at v (k * 8 + 5) ∷ at v (k * 8 + 6) ∷ at v (k * 8 + 7) ∷ []) x ≡ lane v x k
row_literal v k zero h = ap (at v) (sym (add-zero (k * 8)))
row_literal v k (suc zero) h = refl
row_literal v k (suc (suc zero)) h = refl
row_literal v k (suc (suc (suc zero))) h = refl
row_literal v k (suc (suc (suc (suc zero)))) h = refl
row_literal v k (suc (suc (suc (suc (suc zero))))) h = refl
row_literal v k (suc (suc (suc (suc (suc (suc zero)))))) h = refl
row_literal v k (suc (suc (suc (suc (suc (suc (suc zero))))))) h = refl
row_literal v k (suc (suc (suc (suc (suc (suc (suc (suc x)))))))) h = absurd (omega arith)

pub rows_more : (f : ℕ → ℕ → Float) (g : ℕ → Float) (i : ℕ) (v v₁ : List Float) → Rowed i 8 g v v₁ → ((x : ℕ) → x < 8 → g x ≡ f x i)
    → ((x k : ℕ) → x < 8 → k < i → lane v x k ≡ f x k) → (x k : ℕ) → x < 8 → k < i + 1 → lane v₁ x k ≡ f x k
rows_more f g i v v₁ r e h x k hx hk = go (cases_eq k i)
  where
    go : (k ≡ i) ⊎ (k ≢ i) → lane v₁ x k ≡ f x k
    go (inl t) = ap (λ (n : ℕ). lane v₁ x n) t ∙ r.here x hx ∙ e x hx ∙ ap (f x) (sym t)
    go (inr t) = r.there x k hx (λ z. absurd (t z)) ∙ h x k hx (omega arith)

-- ---- the halves

pub evens_from : (h : ℕ) (v w : List Float) (x : ℕ) → ((k : ℕ) → k < h → lane w x k ≡ lane v x (2 * k))
    → lanes h w x ≡ evens h (lanes (h + h) v x)
evens_from h v w x e =
    maps_same (lane w x) (λ i. at (lanes (h + h) v x) (2 * i)) h
    (λ k l. e k l ∙ sym (at_map (lane v x) (h + h) (2 * k) (omega arith)))

pub odd_lane_later : (v : List Float) (x i : ℕ) → 0 < i → plus (lane v x (2 * i + 1)) (lane v x (2 * i - 1)) ≡ odd_lane v x i
odd_lane_later v x zero h = absurd (omega arith)
odd_lane_later v x (suc i) h = ap (λ (j : ℕ). plus (lane v x (2 * suc i + 1)) (lane v x j)) (before i)
  where
    before : (i : ℕ) → 2 * suc i - 1 ≡ 2 * i + 1
    before i = omega arith

odd_lane_is : (h : ℕ) (v : List Float) (x k : ℕ) → k < h → odd_lane v x k ≡ odd_sum (lanes (h + h) v x) k
odd_lane_is h v x zero l = ap (λ (t : Float). times t root_two) (sym (at_map (lane v x) (h + h) 1 (omega arith)))
odd_lane_is h v x (suc i) l =
    ap₂ plus (sym (at_map (lane v x) (h + h) (2 * suc i + 1) (omega arith))) (sym (at_map (lane v x) (h + h) (2 * i + 1) (omega arith)))

pub odds_from : (h : ℕ) (v w : List Float) (x : ℕ) → ((k : ℕ) → k < h → lane w x k ≡ odd_lane v x k)
    → lanes h w x ≡ odd_sums h (lanes (h + h) v x)
odds_from h v w x e = maps_same (lane w x) (odd_sum (lanes (h + h) v x)) h (λ k l. e k l ∙ odd_lane_is h v x k l)

-- ---- two rows

-- one row after another
pub paired_of : (i k : ℕ) (f g f' g' : ℕ → Float) (v v₁ v₂ : List Float) → i < k → Rowed i 8 f v v₁ → Rowed k 8 g v₁ v₂
    → ((x : ℕ) → x < 8 → f x ≡ f' x) → ((x : ℕ) → x < 8 → g x ≡ g' x) → Paired i k 8 f' g' v v₂
paired_of i k f g f' g' v v₁ v₂ l r t ef eg = record {
  len = t.len ∙ r.len;
  first = λ x h. t.there x i h (λ e. absurd (omega arith)) ∙ r.here x h ∙ ef x h;
  second = λ x h. t.here x h ∙ eg x h;
  there = λ x j h p q. t.there x j h q ∙ r.there x j h p;
}

module _ (h : ℕ) (s e o : List Float) where
  abbrev sum : ℕ → ℕ → Float
  sum x k = sum_lane (at s k) e o k x

  abbrev difference : ℕ → ℕ → Float
  difference x k = difference_lane (at s k) e o k x

  pub sums_more : (i : ℕ) (v v₁ : List Float) → i < h → Paired i (2 * h - 1 - i) 8 (λ x. sum x i) (λ x. difference x i) v v₁
      → ((x k : ℕ) → x < 8 → k < i → lane v x k ≡ sum x k) → (x k : ℕ) → x < 8 → k < i + 1 → lane v₁ x k ≡ sum x k
  sums_more i v v₁ hi r inv x k hx hk = go (cases_eq k i)
    where
      go : (k ≡ i) ⊎ (k ≢ i) → lane v₁ x k ≡ sum x k
      go (inl t) = ap (λ (n : ℕ). lane v₁ x n) t ∙ r.first x hx ∙ ap (sum x) (sym t)
      go (inr t) = r.there x k hx (λ z. absurd (t z)) (λ z. absurd (omega arith)) ∙ inv x k hx (omega arith)

  pub differences_more : (i : ℕ) (v v₁ : List Float) → i < h → Paired i (2 * h - 1 - i) 8 (λ x. sum x i) (λ x. difference x i) v v₁
      → ((x k : ℕ) → x < 8 → k < i → lane v x (2 * h - 1 - k) ≡ difference x k)
      → (x k : ℕ) → x < 8 → k < i + 1 → lane v₁ x (2 * h - 1 - k) ≡ difference x k
  differences_more i v v₁ hi r inv x k hx hk = go (cases_eq k i)
    where
      go : (k ≡ i) ⊎ (k ≢ i) → lane v₁ x (2 * h - 1 - k) ≡ difference x k
      go (inl t) = ap (λ (n : ℕ). lane v₁ x (2 * h - 1 - n)) t ∙ r.second x hx ∙ ap (difference x) (sym t)
      go (inr t) = r.there x (2 * h - 1 - k) hx (λ z. absurd (omega arith)) (λ z. absurd (omega arith)) ∙ inv x k hx (omega arith)

  pub joined_from : (v : List Float) (x : ℕ) → ((k : ℕ) → k < h → lane v x k ≡ sum x k)
      → ((k : ℕ) → k < h → lane v x (2 * h - 1 - k) ≡ difference x k)
      → lanes (h + h) v x ≡ joined h s (lanes h e x) (lanes h o x)
  joined_from v x p q =
      joined_all h s (lanes h e x) (lanes h o x) (lanes (h + h) v x) (length-map-range_with_len (lane v x) 0 (h + h))
      (λ k l.
      at_map (lane v x) (h + h) k (omega arith) ∙ p k l
      ∙ ap₂ (λ (t u : Float). plus t (times u (at s k))) (sym (at_map (lane e x) h k l)) (sym (at_map (lane o x) h k l)))
      (λ k l.
      let z : h + h - 1 - k ≡ 2 * h - 1 - k = omega arith in
      at_map (lane v x) (h + h) (h + h - 1 - k) (omega arith) ∙ ap (lane v x) z ∙ q k l
      ∙ ap₂ (λ (t u : Float). minus t (times u (at s k))) (sym (at_map (lane e x) h k l)) (sym (at_map (lane o x) h k l)))

-- ---- eight numbers

pub at_eight : (f : ℕ → Float) (x : ℕ) → x < 8 → at (eight f) x ≡ f x
at_eight f zero h = refl
at_eight f (suc zero) h = refl
at_eight f (suc (suc zero)) h = refl
at_eight f (suc (suc (suc zero))) h = refl
at_eight f (suc (suc (suc (suc zero)))) h = refl
at_eight f (suc (suc (suc (suc (suc zero))))) h = refl
at_eight f (suc (suc (suc (suc (suc (suc zero)))))) h = refl
at_eight f (suc (suc (suc (suc (suc (suc (suc zero))))))) h = refl
at_eight f (suc (suc (suc (suc (suc (suc (suc (suc x)))))))) h = absurd (omega arith)

pub sums_at : (a b r : List Float) (x : ℕ) → x < 8 → r ≡ sums a b → at r x ≡ plus (at a x) (at b x)
sums_at a b r x h e = ap (λ (v : List Float). at v x) e ∙ at_eight (λ y. plus (at a y) (at b y)) x h

pub differences_at : (a b r : List Float) (x : ℕ) → x < 8 → r ≡ differences a b → at r x ≡ minus (at a x) (at b x)
differences_at a b r x h e = ap (λ (v : List Float). at v x) e ∙ at_eight (λ y. minus (at a y) (at b y)) x h

pub scaled_at : (a r : List Float) (q : Float) (x : ℕ) → x < 8 → r ≡ scaled a q → at r x ≡ times (at a x) q
scaled_at a r q x h e = ap (λ (v : List Float). at v x) e ∙ at_eight (λ y. times (at a y) q) x h

-- ---- lines

pub laned_none : (x : ℕ) (f : ℕ → Float) (v : List Float) → Laned x 0 f v v
laned_none x f v = record { len = refl; here = λ k h. absurd (omega arith); there = λ y j h g. refl }

pub laned_more : (x m : ℕ) (f : ℕ → Float) (v v₁ : List Float) (a : Float) → x < 8 → m * 8 + x < length v₁ → a ≡ f m → Laned x m f v v₁
    → Laned x (m + 1) f v (set v₁ (m * 8 + x) a)
laned_more x m f v v₁ a hx hl e r = record {
  len = length-set v₁ (m * 8 + x) a ∙ r.len;
  here = below_more (λ k. lane (set v₁ (m * 8 + x) a) x k ≡ f k) m
      (λ k h. get_or-set_other v₁ (m * 8 + x) (k * 8 + x) a nan (omega arith) ∙ r.here k h)
      (get_or-set_same v₁ (m * 8 + x) a nan hl ∙ e);
  there = λ y j h g.
      get_or-set_other v₁ (m * 8 + x) (j * 8 + y) a nan (apart y j h g) ∙ r.there y j h (λ t. let u = g t in omega arith);
}
  where
    apart : (y j : ℕ) → y < 8 → (y ≡ x → m + 1 ≤ j) → j * 8 + y ≢ m * 8 + x
    apart y j h g e = let t : y ≡ x = omega arith in let u = g t in omega arith

-- one line more, of n numbers
pub lines_done : (n : ℕ) (f : ℕ → ℕ → Float) (x : ℕ) (g : ℕ → Float) (v v₁ : List Float) → ((k : ℕ) → k < n → g k ≡ f x k) → Laned x n g v v₁ → x < 8
    → ((y k : ℕ) → y < x → k < n → lane v y k ≡ f y k) → (y k : ℕ) → y < x + 1 → k < n → lane v₁ y k ≡ f y k
lines_done n f x g v v₁ e l hx h y k hy hk = go (cases_eq y x)
  where
    go : (y ≡ x) ⊎ (y ≢ x) → lane v₁ y k ≡ f y k
    go (inl t) = ap (λ (z : ℕ). lane v₁ z k) t ∙ l.here k hk ∙ e k hk ∙ ap (λ (z : ℕ). f z k) (sym t)
    go (inr t) = l.there y k (omega arith) (λ z. absurd (t z)) ∙ h y k (omega arith) hk

pub lines_kept : {n : ℕ} (x : ℕ) (g : ℕ → Float) (v v₁ v₂ : List Float) → Laned x n g v₁ v₂ → ((y k : ℕ) → y < 8 → x ≤ y → lane v₁ y k ≡ lane v y k)
    → (y k : ℕ) → y < 8 → x + 1 ≤ y → lane v₂ y k ≡ lane v y k
lines_kept x g v v₁ v₂ l h y k hy hx = l.there y k hy (λ z. absurd (omega arith)) ∙ h y k hy (omega arith)

pub length_idct : (k : ℕ) (v : List Float) → length (idct (suc k) v) ≡ 2 ^ suc k
unfolding idct
length_idct zero v = refl
length_idct (suc zero) v = refl
length_idct (suc (suc k)) v =
    length-map-range_with_len _ 0 (2 ^ suc (suc k) + 2 ^ suc (suc k)) ∙ double (2 ^ suc (suc k)) ∙ sym (pow-succ' 2 (suc (suc k)))
  where
    double : (n : ℕ) → n + n ≡ 2 * n
    double n = omega arith

-- a line that holds a transform, number by number
pub lanes_are : (k n : ℕ) (v u : List Float) (x : ℕ) → n ≡ 2 ^ suc k → ((j : ℕ) → j < n → lane v x j ≡ at (idct (suc k) u) j) → lanes n v x ≡ idct (suc k) u
lanes_are k n v u x e h =
    maps_same (lane v x) (at (idct (suc k) u)) n h
    ∙ sym (fill_by_all (at (idct (suc k) u)) (idct (suc k) u) n nan (length_idct k u ∙ sym e) (λ j l. refl))

-- ---- the whole from its halves

pub idct_step : (j m : ℕ) (v s f b f' b' io : List Float) → m ≡ 2 ^ suc (suc j) → s ≡ secants (suc (suc (suc j)))
    → f ≡ evens m v → b ≡ odd_sums m v → f' ≡ idct (suc (suc j)) f → b' ≡ idct (suc (suc j)) b → io ≡ joined m s f' b' → io ≡ idct (suc (suc (suc j))) v
unfolding idct
idct_step j m v s f b f' b' io em es ef eb ef' eb' e =
    let k = suc (suc j) in
    e
    ∙ ap₂ (joined m s) (ef' ∙ ap (idct k) ef) (eb' ∙ ap (idct k) eb)
    ∙ ap₂ (λ (n : ℕ) (t : List Float). joined n t (idct k (evens n v)) (idct k (odd_sums n v))) em es

-- a length from 16 on
pub record Halved (n : ℕ) : Type 0 where
  pub j : ℕ
  pub bound : suc (suc (suc j)) ≤ 8
  pub whole : n ≡ 2 ^ suc (suc (suc j))
  pub half : n / 2 ≡ 2 ^ suc (suc j)
  pub twice : n ≡ n / 2 + n / 2
  pub some : 0 < n / 2
  pub long : Long (n / 2)

pub halved : (n : ℕ) → Long n → n ≢ 8 → Halved n
halved n s o = go s.0 s.1 s.2 s.3
  where
    go : (k : ℕ) → 3 ≤ k → k ≤ 8 → n ≡ 2 ^ k → Halved n
    go zero l u e = absurd (omega arith)
    go (suc zero) l u e = absurd (omega arith)
    go (suc (suc zero)) l u e = absurd (omega arith)
    go (suc (suc (suc zero))) l u e = absurd (o e)
    go (suc (suc (suc (suc i)))) l u e =
        let w : n ≡ 2 * 2 ^ suc (suc (suc i)) = e ∙ pow-succ' 2 (suc (suc (suc i))) in
        let p = pow_pos (suc (suc (suc i))) in
        let hf : n / 2 ≡ 2 ^ suc (suc (suc i)) = omega arith in
        record {
          j = suc i;
          bound = u;
          whole = e;
          half = hf;
          twice = omega arith;
          some = omega arith;
          long = (suc (suc (suc i)), omega arith, omega arith, hf);
        }

pub long_from : (n k : ℕ) → k ≤ 8 → n ≡ 2 ^ k → 8 ≤ n → Long n
long_from n zero u e h = absurd (omega arith)
long_from n (suc zero) u e h = absurd (omega arith)
long_from n (suc (suc zero)) u e h = absurd (omega arith)
long_from n (suc (suc (suc k))) u e h = (suc (suc (suc k)), omega arith, u, e)

pub long_eight : (n : ℕ) → Long n → 8 ≤ n
long_eight n s = let u : 3 ≤ s.0 = s.1 in let p : 2 ^ 3 ≤ 2 ^ s.0 = pow_mono u in omega (arith, s.3)
