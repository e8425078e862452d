-- The sides of every kind are powers of two.
use Rattle.std.proofs.Common.{◌≡◌, ℕ, ◌*◌, ◌≤◌, Bool, true, ◌&&◌, ◌||◌, eqb, w64, List, [], ◌∷◌, Some, sym, refl, ap, ◌∙◌, subst, ⊎_elim, lit≤, arith}
use lib.Count.{count_trailing_zeros}
use Rattle.std.specs.Int.{trailing_zeros}
use Rattle.std.proofs.lemmas.Bool.{and_parts, or_cases, eqb-true, cases_Bool, cond-true, cond-false}
use Rattle.std.proofs.lemmas.Nat.{mul-le}
use Rattle.grid.specs.declared.brush.Area.{Area}
use Rattle.kinds.specs.declared.Size.{Size}
use Rattle.kinds.specs.Kinds.{Kind, kinds, found, size_of}
use Rattle.kinds.proofs.Sizes.{size_bounded, wide_is, high_is}
use Rattle.blocks.specs.declared.block.Block.{Block}
use Rattle.kernel.specs.Maps.{side, BlockOf}
use Rattle.kernel.specs.Corner.{log2}
use Rattle.blocks.specs.Areas.{area_of, corner_of}

abbrev all : (Kind → Bool) → List Kind → Bool
all p [] = true
all p (e ∷ es) = p e && all p es

abbrev sides : Kind → Bool
sides e = side e.width && side e.height

found_sides : (k : ℕ) (es : List Kind) (z : Size) → all sides es ≡ true → found k es ≡ Some z → (side z.width && side z.height) ≡ true
unfolding found
found_sides k [] z t e = absurd (let n : ◌≡◌ {A = ℕ} 0 1 = cc in omega arith)
found_sides k (d ∷ es) z t e =
    let p = and_parts (sides d) (all sides es) t in
    ⊎_elim
    (λ (h : eqb k d.kind ≡ true).
    let s : Some (record { width = d.width; height = d.height }) ≡ Some z =
    sym (cond-true (eqb k d.kind) (Some (record { width = d.width; height = d.height })) (found k es) h) ∙ e in
    let r : record { width = d.width; height = d.height } ≡ z = cc in
    subst (λ (z : Size). (side z.width && side z.height) ≡ true) r p.0)
    (λ h.
    found_sides k es z p.1
    (sym (cond-false (eqb k d.kind) (Some (record { width = d.width; height = d.height })) (found k es) h) ∙ e))
    (cases_Bool (eqb k d.kind))

pub size_sides : (k : ℕ) (z : Size) → size_of k ≡ Some z → (side z.width ≡ true) × (side z.height ≡ true)
unfolding size_of
size_sides k z e = and_parts (side z.width) (side z.height) (found_sides k kinds z refl e)

-- what holds of the six sides holds of each
each_side : (P : ℕ → Type 0) → P 1 → P 2 → P 4 → P 8 → P 16 → P 32 → (n : ℕ) → side n ≡ true → P n
each_side P a b c d e f n t =
    let at : (k : ℕ) → P k → eqb n k ≡ true → P n = λ k p q. subst P (sym (eqb-true n k q)) p in
    ⊎_elim
    (λ u.
    ⊎_elim
    (λ v.
    ⊎_elim
    (λ w.
    ⊎_elim (λ x. ⊎_elim (at 1 a) (at 2 b) (or_cases (eqb n 1) (eqb n 2) x)) (at 4 c) (or_cases (eqb n 1 || eqb n 2) (eqb n 4) w))
    (at 8 d) (or_cases ((eqb n 1 || eqb n 2) || eqb n 4) (eqb n 8) v))
    (at 16 e) (or_cases (((eqb n 1 || eqb n 2) || eqb n 4) || eqb n 8) (eqb n 16) u))
    (at 32 f) (or_cases ((((eqb n 1 || eqb n 2) || eqb n 4) || eqb n 8) || eqb n 16) (eqb n 32) t)

-- its exponent is the number of its trailing zeros
pub exponent_of : (n : ℕ) → side n ≡ true → (trailing_zeros w64 n ≡ log2 n) × (log2 n ≤ 5)
unfolding log2 count_trailing_zeros
exponent_of =
    each_side (λ n. (trailing_zeros w64 n ≡ log2 n) × (log2 n ≤ 5))
    (refl, lit≤ tt) (refl, lit≤ tt) (refl, lit≤ tt) (refl, lit≤ tt) (refl, lit≤ tt) (refl, lit≤ tt)

-- the corner of a varblock is a patch of the forward map
pub corner_sides : (b : Block) (a : Area) → a ≡ corner_of b → (side a.width ≡ true) × (side a.height ≡ true)
corner_sides b a e =
    let s = size_sides b.varblock.kind b.size b.carried in
    rw e s

-- no varblock has more than 1,024 cells
pub few_cells : (b : Block) → b.size.width * b.size.height ≤ 1024
few_cells b =
    let z = size_bounded b.varblock.kind b.size b.carried in
    mul-le b.size.width b.size.height 32 32 z.narrow z.low

-- the samples of a varblock are a block of its kind
pub area_block : (b : Block) (a : Area) → a ≡ area_of b → BlockOf b.varblock.kind a × (1 ≤ a.width) × (1 ≤ a.height)
area_block b a e =
    let w = wide_is b.varblock.kind b.size b.carried in
    let h = high_is b.varblock.kind b.size b.carried in
    let z = size_bounded b.varblock.kind b.size b.carried in
    let z0 = z.wide in
    let z1 = z.high in
    subst (λ (a : Area). BlockOf b.varblock.kind a × (1 ≤ a.width) × (1 ≤ a.height)) (sym e)
    (record { across = ap (λ n. 8 * n) (sym w); down = ap (λ n. 8 * n) (sym h) }, omega arith, omega arith)
