-- Lists of varblocks.
use Rattle.std.proofs.Common.{◌≡◌, ℕ, ◌+◌, ◌*◌, ◌<◌, ◌≤◌, Bool, true, false, cond, ◌&&◌, ltb, leb, List, [], ◌∷◌, ◌++◌, sym, refl, ap, ◌∙◌, subst, inl, inr, arith}
use Rattle.std.proofs.lemmas.Bool.{cond-true, cond-false, and_parts, and_from, leb-true, ltb-true, le-leb, lt-ltb}
use Rattle.kinds.specs.Kinds.{wide, high}
use Rattle.blocks.specs.declared.leads.Varblock.{Varblock}
use Rattle.partition.specs.Parted.{covers, around, cells_of, Each, Among}

pub each_add : {X : Type 0} (P : X → Type 0) (xs : List X) (y : X) → Each P xs → P y → Each P (xs ++ (y ∷ []))
each_add P [] y e p = (p, tt)
each_add P (x ∷ xs) y e p = (e.0, each_add P xs y e.1 p)

pub each_among : (P : Varblock → Type 0) (vs : List Varblock) (v : Varblock) → Each P vs → Among v vs → P v
each_among P [] v e a = absurd a
each_among P (u ∷ vs) v e (inl q) = subst P (sym q) e.0
each_among P (u ∷ vs) v e (inr q) = each_among P vs v e.1 q

pub around_add : (x y : ℕ) (vs : List Varblock) (v : Varblock) → around x y (vs ++ (v ∷ [])) ≡ around x y vs ++ around x y (v ∷ [])
unfolding around
around_add x y [] v = refl
around_add x y (u ∷ vs) v = go (around_add x y vs v) (covers u x y)
  where
    go : around x y (vs ++ (v ∷ [])) ≡ around x y vs ++ around x y (v ∷ []) → (b : Bool) → cond b (u ∷ around x y (vs ++ (v ∷ []))) (around x y (vs ++ (v ∷ []))) ≡ cond b (u ∷ around x y vs) (around x y vs) ++ around x y (v ∷ [])
    go i true = ap (λ t. u ∷ t) i
    go i false = i

pub around_one : (x y : ℕ) (v : Varblock) → covers v x y ≡ true → around x y (v ∷ []) ≡ v ∷ []
unfolding around
around_one x y v e = cond-true (covers v x y) (v ∷ []) [] e

pub around_none : (x y : ℕ) (v : Varblock) → covers v x y ≡ false → around x y (v ∷ []) ≡ []
unfolding around
around_none x y v e = cond-false (covers v x y) (v ∷ []) [] e

pub cells_add : (vs : List Varblock) (v : Varblock) → cells_of (vs ++ (v ∷ [])) ≡ cells_of vs + wide v.kind * high v.kind
unfolding cells_of
cells_add [] v = omega arith
cells_add (u ∷ vs) v = let i = cells_add vs v in omega arith

-- what is around a cell covers it and is one of the varblocks
pub around_among : (x y : ℕ) (vs : List Varblock) (v : Varblock) → Among v (around x y vs) → Among v vs × (covers v x y ≡ true)
unfolding around
around_among x y [] v h = absurd h
around_among x y (u ∷ vs) v h = go (around_among x y vs v) (covers u x y) refl h
  where
    go : (Among v (around x y vs) → Among v vs × (covers v x y ≡ true)) → (b : Bool) → covers u x y ≡ b → Among v (cond b (u ∷ around x y vs) (around x y vs)) → Among v (u ∷ vs) × (covers v x y ≡ true)
    go i true e (inl q) = (inl q, ap (λ t. covers t x y) q ∙ e)
    go i true e (inr q) = let r = i q in (inr r.0, r.1)
    go i false e q = let r = i q in (inr r.0, r.1)

pub among_around : (x y : ℕ) (vs : List Varblock) (v : Varblock) → Among v vs → covers v x y ≡ true → Among v (around x y vs)
unfolding around
among_around x y [] v a c = absurd a
among_around x y (u ∷ vs) v (inl q) c = subst (λ b. Among v (cond b (u ∷ around x y vs) (around x y vs))) (sym (ap (λ t. covers t x y) (sym q) ∙ c)) (inl q)
among_around x y (u ∷ vs) v (inr q) c = go (among_around x y vs v q c) (covers u x y)
  where
    go : Among v (around x y vs) → (b : Bool) → Among v (cond b (u ∷ around x y vs) (around x y vs))
    go i true = inr i
    go i false = i

-- where it lies
pub record Sides (v : Varblock) (x y : ℕ) : Type 0 where
  pub left : v.x ≤ x
  pub right : x < v.x + wide v.kind
  pub top : v.y ≤ y
  pub bottom : y < v.y + high v.kind

pub covers_sides : (v : Varblock) (x y : ℕ) → covers v x y ≡ true → Sides v x y
covers_sides v x y e =
    let p = and_parts (leb v.x x && ltb x (v.x + wide v.kind)) (leb v.y y && ltb y (v.y + high v.kind)) e in
    let horizontal = and_parts (leb v.x x) (ltb x (v.x + wide v.kind)) p.0 in
    let vertical = and_parts (leb v.y y) (ltb y (v.y + high v.kind)) p.1 in
    record { left = leb-true _ _ horizontal.0; right = ltb-true _ _ horizontal.1; top = leb-true _ _ vertical.0; bottom = ltb-true _ _ vertical.1 }

pub sides_covers : (v : Varblock) (x y : ℕ) → Sides v x y → covers v x y ≡ true
sides_covers v x y s =
    and_from _ _ (and_from _ _ (le-leb _ _ s.left) (lt-ltb _ _ s.right)) (and_from _ _ (le-leb _ _ s.top) (lt-ltb _ _ s.bottom))
