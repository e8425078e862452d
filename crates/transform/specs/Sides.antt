-- The sides of patches and blocks as powers of two, by one computed test.
use Rattle.std.specs.Prelude.{◌≡◌, ℕ, zero, suc, ◌+◌, ◌*◌, ◌^◌, ◌<◌, ◌≤◌, Bool, true, false, cond, ◌&&◌, Some, ◌==◌, nat_eq, nat_le, refl}
use Rattle.std.proofs.Common.{sym, subst, ⊎_elim, arith}
use Rattle.std.proofs.lemmas.Bool.{cases_eq, cases_lt, and_parts, eqb-true, leb-true}
use Rattle.std.proofs.lemmas.Bool.Decides.{nat_tests}
use Rattle.kinds.specs.declared.Size.{Size}
use Rattle.kinds.specs.Kinds.{size_of, found, wide, high}
use Rattle.kinds.proofs.Sizes.{size_bounded, carried_below, wide_is, high_is}
use Rattle.kernel.specs.Corner.{log2}
use Rattle.kernel.specs.Maps.{side}

-- a test of each number below n
abbrev pub all_below : (ℕ → Bool) → ℕ → Bool
all_below p zero = true
all_below p (suc n) = p n && all_below p n

pub by_test : (p : ℕ → Bool) (n : ℕ) → all_below p n ≡ true → (k : ℕ) → k < n → p k ≡ true
by_test p zero t k h = absurd (omega arith)
by_test p (suc n) t k h =
    let q = and_parts (p n) (all_below p n) t in
    ⊎_elim (λ (same : k ≡ n). subst (λ (m : ℕ). p m ≡ true) (sym same) q.0) (λ ne. by_test p n q.1 k (omega arith)) (cases_eq k n)

-- a side of up to 32, and that of its block
pub record Side (n : ℕ) : Type 0 where
  pub low : log2 n ≤ 5
  pub power : n ≡ 2 ^ log2 n
  pub more : log2 (8 * n) ≡ log2 n + 3
  pub block : 8 * n ≡ 2 ^ (log2 n + 3)

abbrev sound : ℕ → Bool
sound n =
    (nat_le (log2 n) 5 && n == 2 ^ log2 n) && (log2 (8 * n) == log2 n + 3 && 8 * n == 2 ^ (log2 n + 3))

sound_side : (n : ℕ) → sound n ≡ true → Side n
sound_side n t =
    let outer = and_parts (nat_le (log2 n) 5 && n == 2 ^ log2 n) (log2 (8 * n) == log2 n + 3 && 8 * n == 2 ^ (log2 n + 3)) t in
    let b = and_parts (nat_le (log2 n) 5) (n == 2 ^ log2 n) outer.0 in
    let c = and_parts (log2 (8 * n) == log2 n + 3) (8 * n == 2 ^ (log2 n + 3)) outer.1 in
    record { low = leb-true _ _ b.0; power = eqb-true _ _ b.1; more = eqb-true _ _ c.0; block = eqb-true _ _ c.1 }

-- ---- the sides that a forward call takes

sides_stand : all_below (λ n. cond (side n) (sound n) true) 33 ≡ true
unfolding log2
sides_stand = refl

side_below : (n : ℕ) → side n ≡ true → n < 33
side_below n e =
    ⊎_elim (λ (a : n < 33). a) (λ b. let z : ◌≡◌ {A = ℕ} 0 1 = grind (arith, nat_tests) in absurd (omega arith)) (cases_lt n 33)

pub side_is : (n : ℕ) → side n ≡ true → Side n
side_is n e =
    sound_side n
    (subst (λ (b : Bool). cond b (sound n) true ≡ true) e (by_test (λ n. cond (side n) (sound n) true) 33 sides_stand n (side_below n e)))

-- ---- the sides of the kinds

kinds_stand : all_below (λ k. cond (wide k == 0) true (sound (wide k) && sound (high k))) 27 ≡ true
unfolding log2 wide high size_of found
kinds_stand = refl

pub record Sides (kind : ℕ) : Type 0 where
  pub wide_side : Side (wide kind)
  pub high_side : Side (high kind)
  pub wide_some : 1 ≤ wide kind
  pub high_some : 1 ≤ high kind

pub carried_sides : (kind : ℕ) (z : Size) → size_of kind ≡ Some z → Sides kind
carried_sides kind z e =
    let b = size_bounded kind z e in
    let w : 1 ≤ wide kind = subst (λ (n : ℕ). 1 ≤ n) (sym (wide_is kind z e)) b.wide in
    let h : 1 ≤ high kind = subst (λ (n : ℕ). 1 ≤ n) (sym (high_is kind z e)) b.high in
    let t = by_test (λ k. cond (wide k == 0) true (sound (wide k) && sound (high k))) 27 kinds_stand kind (carried_below kind z e) in
    let f : nat_eq (wide kind) 0 ≡ false = grind (arith, nat_tests) in
    let p = and_parts (sound (wide kind)) (sound (high kind)) (subst (λ (b : Bool). cond b true (sound (wide kind) && sound (high kind)) ≡ true) f t) in
    record { wide_side = sound_side _ p.0; high_side = sound_side _ p.1; wide_some = w; high_some = h }
