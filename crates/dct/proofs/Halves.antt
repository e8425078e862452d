-- From the halves to the whole: what the parts of `dct` say of its list, at each length.
use Rattle.std.proofs.Common.{◌≡◌, ℕ, zero, suc, ◌+◌, ◌*◌, ◌/◌, ◌^◌, ◌<◌, ◌≤◌, ◌≢◌, List, [], ◌∷◌, length, set, sym, refl, ap, ◌∙◌, subst, arith, pow_pos}
use native.Mathlib.Nat.{pow-succ'}
use lib.Ieee.{Float}
use Rattle.dct.specs.declared.dct_common.DctDirection.{DctDirection}
use Rattle.dct.specs.declared.dct_common.DctDirection.TheVariants.{Forward, Inverse}
use Rattle.dct.specs.Secants.{secants}
use Rattle.dct.specs.Sides.{Sided}
use Rattle.floats.specs.Arith.{plus, minus, over, two}
use Rattle.dct.specs.Transform.{at, dct4_of, dct_of, evens, odd_sums, joined, means, slopes, interleaved}
use Rattle.floats.proofs.Powers.{pow_inj}

-- ---- a length from 8 on

pub record Large (n : ℕ) : Type 0 where
  pub j : ℕ
  pub bound : suc (suc (suc j)) ≤ 8
  pub whole : n ≡ 2 ^ suc (suc (suc j))
  pub halves : n ≡ 2 ^ suc (suc j) + 2 ^ suc (suc j)

twofold : (n : ℕ) → 2 * n ≡ n + n
twofold n = omega arith

pub large : (n : ℕ) → Sided n → n ≢ 1 → n ≢ 2 → n ≢ 4 → Large n
large n s a b c = go s.0 s.1 s.2
  where
    go : (k : ℕ) → k ≤ 8 → n ≡ 2 ^ k → Large n
    go zero u e = absurd (a e)
    go (suc zero) u e = absurd (b e)
    go (suc (suc zero)) u e = absurd (c e)
    go (suc (suc (suc j))) u e = record { j = j; bound = u; whole = e; halves = e ∙ pow-succ' 2 (suc (suc j)) ∙ twofold (2 ^ suc (suc j)) }

secants_length : (j : ℕ) → suc (suc (suc j)) ≤ 8 → length (secants (suc (suc (suc j)))) ≡ 2 ^ suc (suc j)
unfolding secants
secants_length zero u = refl
secants_length (suc zero) u = refl
secants_length (suc (suc zero)) u = refl
secants_length (suc (suc (suc zero))) u = refl
secants_length (suc (suc (suc (suc zero)))) u = refl
secants_length (suc (suc (suc (suc (suc zero))))) u = refl
secants_length (suc (suc (suc (suc (suc (suc j)))))) u = absurd (omega arith)

-- the factors of a length are half as many as it
pub factor_count : (j n : ℕ) (s : List Float) → suc (suc (suc j)) ≤ 8 → n ≡ 2 ^ suc (suc (suc j))
    → ((k : ℕ) → 2 ≤ k → k ≤ 8 → n ≡ 2 ^ k → s ≡ secants k) → length s ≡ n / 2
factor_count j n s u e t =
    ap length (t (suc (suc (suc j))) (omega arith) u e) ∙ secants_length j u
    ∙ omega (arith, e ∙ pow-succ' 2 (suc (suc j)) ∙ twofold (2 ^ suc (suc j)))

pub apart : (d : DctDirection) → d ≡ Forward → d ≡ Inverse → ⊥
apart d p q = let z : ◌≡◌ {A = ℕ} 0 1 = cc in omega arith

-- ---- lengths below 8

big_pow : (k : ℕ) → 1 < 2 ^ suc k
big_pow k = subst (λ (x : ℕ). 1 < x) (sym (pow-succ' 2 k)) (go (2 ^ k) (pow_pos k))
  where
    go : (x : ℕ) → 0 < x → 1 < 2 * x
    go x h = omega arith

pub one_of : (d : DctDirection) (v : List Float) (k : ℕ) → length v < 2 → length v ≡ 2 ^ k → v ≡ dct_of d k v
unfolding dct_of
one_of Forward v zero l e = refl
one_of Inverse v zero l e = refl
one_of d v (suc k) l e = absurd (clash (length v) (2 ^ suc k) l e (big_pow k))
  where
    clash : (a b : ℕ) → a < 2 → a ≡ b → 1 < b → ⊥
    clash a b p q r = omega arith

pub two_list : (v : List Float) (x y : Float) → length v ≡ 2 → set (set v 0 x) 1 y ≡ x ∷ y ∷ []
two_list [] x y e = absurd (omega arith)
two_list (a ∷ []) x y e = absurd (omega arith)
two_list (a ∷ b ∷ []) x y e = refl
two_list (a ∷ b ∷ c ∷ v) x y e = absurd (omega arith)

pub two_forward : (d : DctDirection) (v : List Float) (k : ℕ) → d ≡ Forward → length v ≡ 2 → length v ≡ 2 ^ k
    → set (set v 0 (over (plus (at v 0) (at v 1)) two)) 1 (over (minus (at v 0) (at v 1)) two) ≡ dct_of d k v
unfolding dct_of
two_forward d v k q l e =
    two_list v (over (plus (at v 0) (at v 1)) two) (over (minus (at v 0) (at v 1)) two) l
    ∙ ap (λ (i : ℕ). dct_of Forward i v) (pow_inj 1 k (sym l ∙ e)) ∙ ap (λ (x : DctDirection). dct_of x k v) (sym q)

pub two_inverse : (d : DctDirection) (v : List Float) (k : ℕ) → d ≡ Inverse → length v ≡ 2 → length v ≡ 2 ^ k
    → set (set v 0 (plus (at v 0) (at v 1))) 1 (minus (at v 0) (at v 1)) ≡ dct_of d k v
unfolding dct_of
two_inverse d v k q l e =
    two_list v (plus (at v 0) (at v 1)) (minus (at v 0) (at v 1)) l
    ∙ ap (λ (i : ℕ). dct_of Inverse i v) (pow_inj 1 k (sym l ∙ e)) ∙ ap (λ (x : DctDirection). dct_of x k v) (sym q)

pub four_of : (d : DctDirection) (v : List Float) (k : ℕ) → length v ≡ 4 → length v ≡ 2 ^ k → dct4_of d (at v 0) (at v 1) (at v 2) (at v 3) ≡ dct_of d k v
unfolding dct_of
four_of d v k l e = at_two d ∙ ap (λ (i : ℕ). dct_of d i v) (pow_inj 2 k (sym l ∙ e))
  where
    at_two : (d : DctDirection) → dct4_of d (at v 0) (at v 1) (at v 2) (at v 3) ≡ dct_of d 2 v
    at_two Forward = refl
    at_two Inverse = refl

-- ---- the whole from its halves, m numbers each

step_forward : (j : ℕ) (v : List Float) → interleaved (2 ^ suc (suc j)) (dct_of Forward (suc (suc j)) (means (2 ^ suc (suc j)) v)) (dct_of Forward (suc (suc j)) (slopes (2 ^ suc (suc j)) (secants (suc (suc (suc j)))) v)) ≡ dct_of Forward (suc (suc (suc j))) v
unfolding dct_of
step_forward j v = refl

step_inverse : (j : ℕ) (v : List Float) → joined (2 ^ suc (suc j)) (secants (suc (suc (suc j)))) (dct_of Inverse (suc (suc j)) (evens (2 ^ suc (suc j)) v)) (dct_of Inverse (suc (suc j)) (odd_sums (2 ^ suc (suc j)) v)) ≡ dct_of Inverse (suc (suc (suc j))) v
unfolding dct_of
step_inverse j v = refl

module _ (j m : ℕ) (d : DctDirection) (v s f b f' b' io : List Float)
    (size : m ≡ 2 ^ suc (suc j)) (sec : s ≡ secants (suc (suc (suc j)))) (front : f' ≡ dct_of d (suc (suc j)) f) (back : b' ≡ dct_of d (suc (suc j)) b) where
  pub from_forward : d ≡ Forward → f ≡ means m v → b ≡ slopes m s v → io ≡ interleaved m f' b' → io ≡ dct_of d (suc (suc (suc j))) v
  from_forward q p r e =
      let k = suc (suc j) in
      e
      ∙ ap (λ (x : List Float). interleaved m x b') (front ∙ ap (dct_of d k) p)
      ∙ ap (λ (x : List Float). interleaved m (dct_of d k (means m v)) x) (back ∙ ap (dct_of d k) r)
      ∙ ap (λ (n : ℕ). interleaved n (dct_of d k (means n v)) (dct_of d k (slopes n s v))) size
      ∙ ap (λ (x : List Float). interleaved (2 ^ k) (dct_of d k (means (2 ^ k) v)) (dct_of d k (slopes (2 ^ k) x v))) sec
      ∙ ap (λ (x : DctDirection). interleaved (2 ^ k) (dct_of x k (means (2 ^ k) v)) (dct_of x k (slopes (2 ^ k) (secants (suc k)) v))) q
      ∙ step_forward j v
      ∙ ap (λ (x : DctDirection). dct_of x (suc k) v) (sym q)

  pub from_inverse : d ≡ Inverse → f ≡ evens m v → b ≡ odd_sums m v → io ≡ joined m s f' b' → io ≡ dct_of d (suc (suc (suc j))) v
  from_inverse q p r e =
      let k = suc (suc j) in
      e
      ∙ ap (λ (x : List Float). joined m s x b') (front ∙ ap (dct_of d k) p)
      ∙ ap (λ (x : List Float). joined m s (dct_of d k (evens m v)) x) (back ∙ ap (dct_of d k) r)
      ∙ ap (λ (n : ℕ). joined n s (dct_of d k (evens n v)) (dct_of d k (odd_sums n v))) size
      ∙ ap (λ (x : List Float). joined (2 ^ k) x (dct_of d k (evens (2 ^ k) v)) (dct_of d k (odd_sums (2 ^ k) v))) sec
      ∙ ap (λ (x : DctDirection). joined (2 ^ k) (secants (suc k)) (dct_of x k (evens (2 ^ k) v)) (dct_of x k (odd_sums (2 ^ k) v))) q
      ∙ step_inverse j v
      ∙ ap (λ (x : DctDirection). dct_of x (suc k) v) (sym q)
