-- The blocks that are accepted, by computed tests of each kind below 24.
use Rattle.std.proofs.Common.{◌≡◌, ℕ, ◌*◌, ◌<◌, ◌≤◌, Bool, true, false, cond, ◌&&◌, ◌||◌, eqb, ltb, leb, ◌≢◌, ◌⊎◌, Some, None, sym, refl, ap, ◌∙◌, subst, ap₂, inl, inr, arith}
use Rattle.std.proofs.lemmas.Bool.{cases_eq, cases_Bool, and_parts, and_from, eqb-true, leb-true, le-leb, ltb-true, lt-ltb, cond-true, cond-false}
use Rattle.std.proofs.lemmas.Bool.Decides.{nat_tests}
use Rattle.grid.specs.declared.Shape.{Shape}
use Rattle.grid.specs.Index.{sized, lawful}
use Rattle.kinds.specs.declared.Size.{Size}
use Rattle.kinds.specs.Kinds.{size_of, found, wide, high, width_of}
use Rattle.kinds.proofs.Sizes.{wide_is, high_is}
use Rattle.transform.specs.Maps.{single}
use Rattle.transform.specs.Tests.{inverts}
use Rattle.transform.specs.Sides.{all_below, by_test, carried_sides}
use Rattle.tablet.specs.Block.{accepted, block_bytes, rows}

-- how many numbers a block has
abbrev numbers : ℕ → ℕ
numbers k = 8 * wide k * (8 * high k)

abbrev listed : ℕ → Bool
listed n = eqb n 256 || (eqb n 512 || (eqb n 1024 || (eqb n 2048 || (eqb n 4096 || (eqb n 8192 || (eqb n 16384 || (eqb n 32768 || eqb n 65536)))))))

-- of each kind: its numbers, and the tests of its block
abbrev stands : ℕ → Bool
stands k =
    (eqb (4 * numbers k) (block_bytes k) && leb (numbers k) 16384)
    && cond (leb 1 (wide k))
    (listed (block_bytes k) && (inverts k (rows k) (64 * (wide k * high k)) 512 && cond (eqb (block_bytes k) 256) (single k) true)) true

all_stand : all_below stands 24 ≡ true
unfolding wide high size_of found sized lawful
all_stand = refl

accepted_parts : (k : ℕ) → accepted k ≡ true → (k < 24) × (leb 1 (wide k) ≡ true)
accepted_parts k e = let p = and_parts (ltb k 24) (leb 1 (wide k)) e in (ltb-true k 24 p.0, p.1)

sizes : (k : ℕ) → k < 24 → (4 * numbers k ≡ block_bytes k) × (numbers k ≤ 16384)
sizes k l =
    let t = and_parts (eqb (4 * numbers k) (block_bytes k) && leb (numbers k) 16384) _ (by_test stands 24 all_stand k l) in
    let both = and_parts (eqb (4 * numbers k) (block_bytes k)) (leb (numbers k) 16384) t.0 in
    (eqb-true (4 * numbers k) (block_bytes k) both.0, leb-true (numbers k) 16384 both.1)

pub record Sound (k : ℕ) : Type 0 where
  pub lengths : listed (block_bytes k) ≡ true
  pub block : inverts k (rows k) (64 * (wide k * high k)) 512 ≡ true
  pub one : block_bytes k ≡ 256 → single k ≡ true
  pub bytes : block_bytes k ≡ 256 * (wide k * high k)

pub sound : (k : ℕ) → accepted k ≡ true → Sound k
sound k e =
    let p = accepted_parts k e in
    let t = and_parts (eqb (4 * numbers k) (block_bytes k) && leb (numbers k) 16384) _ (by_test stands 24 all_stand k p.0) in
    let rest = listed (block_bytes k) && (inverts k (rows k) (64 * (wide k * high k)) 512 && cond (eqb (block_bytes k) 256) (single k) true) in
    let b = and_parts (listed (block_bytes k)) (inverts k (rows k) (64 * (wide k * high k)) 512 && cond (eqb (block_bytes k) 256) (single k) true)
    (subst (λ (b : Bool). cond b rest true ≡ true) p.1 t.1) in
    let d = and_parts (inverts k (rows k) (64 * (wide k * high k)) 512) (cond (eqb (block_bytes k) 256) (single k) true) b.1 in
    record {
      lengths = b.0;
      block = d.0;
      one = λ q. subst (λ (b : Bool). cond b (single k) true ≡ true) (Rattle.std.proofs.lemmas.Bool.eq-eqb (block_bytes k) 256 q) d.1;
      bytes = cond-true (ltb k 24) (256 * (wide k * high k)) 0 (lt-ltb k 24 p.0);
    }

-- a block of m numbers
pub block_of : (k n m : ℕ) → accepted k ≡ true → n ≡ block_bytes k → n ≡ 4 * m → inverts k (rows k) m 512 ≡ true
block_of k n m e q f =
    let s = sound k e in
    let b = s.bytes in
    let a : 64 * (wide k * high k) ≡ m = count (wide k * high k) (sym f ∙ q ∙ b) in
    subst (λ (i : ℕ). inverts k (rows k) i 512 ≡ true) a s.block
  where
    count : (c : ℕ) → 4 * m ≡ 256 * c → 64 * c ≡ m
    count c h = omega arith

pub last_length : (k n : ℕ) → accepted k ≡ true → n ≡ block_bytes k → n ≢ 256 → n ≢ 512 → n ≢ 1024 → n ≢ 2048 → n ≢ 4096 → n ≢ 8192 → n ≢ 16384 → n ≢ 32768 → n ≡ 65536
last_length k n e q a b c d f g i j =
    let t : listed n ≡ true = subst (λ (z : ℕ). listed z ≡ true) (sym q) (sound k e).lengths in
    go (cases_eq n 65536) t
  where
    go : (n ≡ 65536) ⊎ (n ≢ 65536) → listed n ≡ true → n ≡ 65536
    go (inl z) t = z
    go (inr z) t = let bad : ◌≡◌ {A = ℕ} 0 1 = grind (arith, nat_tests) in absurd (omega arith)

-- ---- which blocks are accepted

abbrev pub shape : ℕ → ℕ → Shape
shape w h = record { width = 8 * w; height = 8 * h; stride = 8 * w }

pub small_accepted : (k : ℕ) (z : Size) → size_of k ≡ Some z → ltb k 24 ≡ true → accepted k ≡ true
small_accepted k z e l =
    let a : 1 ≤ wide k = omega (arith, (carried_sides k z e).wide_some) in
    and_from _ _ l (le-leb _ _ a)

pub rows_are : (k : ℕ) (z : Size) → size_of k ≡ Some z → shape z.width z.height ≡ rows k
rows_are k z e = sym (ap₂ shape (wide_is k z e) (high_is k z e))

pub none_accepted : (k : ℕ) → size_of k ≡ None → accepted k ≡ false
unfolding wide
none_accepted k e = let w : wide k ≡ 0 = ap width_of e in grind (arith, nat_tests)

-- how many numbers and bytes it has
pub few_numbers : (k : ℕ) (s : Shape) → accepted k ≡ true → s ≡ rows k → s.width * s.height ≤ 16384
few_numbers k s e q = subst (λ (t : Shape). t.width * t.height ≤ 16384) (sym q) (sizes k (accepted_parts k e).0).1

pub all_bytes : (k : ℕ) (s : Shape) → accepted k ≡ true → s ≡ rows k → 4 * (s.width * s.height) ≡ block_bytes k
all_bytes k s e q = ap (λ (t : Shape). 4 * (t.width * t.height)) q ∙ (sizes k (accepted_parts k e).0).0

-- without a block there are no bytes
pub refused_bytes : (k : ℕ) → accepted k ≡ false → block_bytes k ≡ 0
refused_bytes k f =
    elim (cases_Bool (ltb k 24)) [
      | inr a ↦ cond-false (ltb k 24) _ 0 a
      | inl a ↦
          let w : wide k ≡ 0 = grind (arith, nat_tests) in
          cond-true (ltb k 24) (256 * (wide k * high k)) 0 a ∙ ap (λ (n : ℕ). 256 * (n * high k)) w ∙ ap (λ (n : ℕ). 256 * n) (native.Mathlib.Nat.zero-mul (high k))
    ]
