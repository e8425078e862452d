-- What one step of the walk gives, and what it leaves to come.
use Rattle.std.proofs.Common.{◌≡◌, ℕ, zero, suc, ◌+◌, ◌-◌, ◌*◌, ◌/◌, ◌%◌, ◌<◌, ◌≤◌, [], ◌∷◌, ◌++◌, Some, None, Option, sym, refl, ap, ◌∙◌, subst, mul_comm, arith}
use Rattle.std.specs.List.{All}
use Rattle.std.proofs.lemmas.List.Elements.{All-nil, All-cons}
use Rattle.std.proofs.lemmas.Nat.{div-add-mod', mod_below, div_below}
use Rattle.varmap.specs.declared.cells.Record.{Record}
use Rattle.varmap.specs.declared.cells.Record.TheVariants.{Empty, Lead, Covered}
use Rattle.blocks.specs.declared.leads.Varblock.{Varblock}
use Rattle.blocks.specs.Leads.{varblock, leads_to, lead_at, number, NoLeads, FirstLead, OfMap, one_or_none, leads}
use Rattle.blocks.specs.Walk.{leads_from}
use Rattle.blocks.proofs.Numbering.{lead_back}
use Rattle.blocks.proofs.Counting.{from_first}

-- the varblock that a cell leads lies at the cell
record Leading (x y : ℕ) (cell : Record) (v : Varblock) : Type 0 where
  column : v.x ≡ x
  row : v.y ≡ y
  lead : cell ≡ Lead v.kind v.hf_mul

leading : (x y : ℕ) (cell : Record) (v : Varblock) → leads_to x y cell ≡ Some v → Leading x y cell v
leading x y Empty v e = let bad : ◌≡◌ {A = ℕ} 0 1 = cc in absurd (omega arith)
leading x y (Lead kind mul) v e =
    let same : varblock x y kind mul ≡ v = cc in
    subst (Leading x y (Lead kind mul)) same (record { column = refl; row = refl; lead = refl })
leading x y (Covered dx dy) v e = let bad : ◌≡◌ {A = ℕ} 0 1 = cc in absurd (omega arith)

module _ (w : ℕ) (m : ℕ → ℕ → Record) where
  -- cells that are no leads give none
  skip : (d n k : ℕ) → NoLeads w m k (k + d) → leads_from w m (d + n) k ≡ leads_from w m n (k + d)
  unfolding leads_from
  skip zero n k none =
      let d : 0 + n ≡ n = omega arith in
      let e : k ≡ k + 0 = omega arith in
      ap (λ i. leads_from w m i k) d ∙ ap (leads_from w m n) e
  skip (suc d) n k none =
      let e : suc k + d ≡ k + suc d = omega arith in
      let t : suc d + n ≡ suc (d + n) = omega arith in
      ap (λ i. leads_from w m i k) t
      ∙ ap (λ o. one_or_none o ++ leads_from w m (d + n) (suc k)) (none k (omega arith) (omega arith))
      ∙ skip d n (suc k) (λ i p q. none i (omega arith) (omega arith))
      ∙ ap (leads_from w m n) e

  -- where no lead is left, none comes
  pub none_left : (n k : ℕ) → NoLeads w m k n → leads_from w m (n - k) k ≡ []
  unfolding leads_from
  none_left n k none =
      let e : n - k + 0 ≡ n - k = omega arith in
      ap (λ d. leads_from w m d k) (sym e) ∙ skip (n - k) 0 k (λ i p q. none i p (omega arith))

  -- the first lead comes, and then those after it
  pub first_left : (n k : ℕ) (v : Varblock) → FirstLead w n m k v
      → leads_from w m (n - k) k ≡ v ∷ leads_from w m (n - (number w v + 1)) (number w v + 1)
  unfolding leads_from
  first_left n k v f =
      let from = f.from in
      let below = f.below in
      let there : k + (number w v - k) ≡ number w v = omega arith in
      let left : n - k ≡ number w v - k + suc (n - (number w v + 1)) = omega arith in
      let next : suc (number w v) ≡ number w v + 1 = omega arith in
      ap (λ d. leads_from w m d k) left
      ∙ skip (number w v - k) (suc (n - (number w v + 1))) k (λ i p q. f.first i p (omega arith))
      ∙ ap (leads_from w m (suc (n - (number w v + 1)))) there
      ∙ ap (λ o. one_or_none o ++ leads_from w m (n - (number w v + 1)) (suc (number w v))) (lead_back w m v f.across f.lead)
      ∙ ap (λ i. v ∷ leads_from w m (n - (number w v + 1)) i) next

-- the varblock that the cell with this number leads
pub at_number : (w h : ℕ) (m : ℕ → ℕ → Record) → 0 < w → (k : ℕ) (v : Varblock) → k < w * h → lead_at w m k ≡ Some v
    → (number w v ≡ k) × OfMap w h m v
at_number w h m wide k v below e =
    let l = leading (k % w) (k / w) (m (k % w) (k / w)) v e in
    let d = div-add-mod' k w in (
      ap (λ x. v.y * w + x) l.column ∙ ap (λ y. y * w + k % w) l.row ∙ d,
      record {
        across = subst (λ x. x < w) (sym l.column) (mod_below k w wide);
        down = subst (λ y. y < h) (sym l.row) (div_below k w h wide (omega (arith, mul_comm w h)));
        lead = ap (λ x. m x v.y) l.column ∙ ap (m (k % w)) l.row ∙ l.lead;
      },
    )

-- each that comes is a varblock of the map
all_of_map : (w h : ℕ) (m : ℕ → ℕ → Record) → 0 < w → (n k : ℕ) → k + n ≤ w * h → All (OfMap w h m) (leads_from w m n k)
unfolding leads_from
all_of_map w h m wide zero k le = All-nil (OfMap w h m)
all_of_map w h m wide (suc n) k le = go (all_of_map w h m wide n (suc k) (omega arith)) (lead_at w m k) refl
  where
    go : All (OfMap w h m) (leads_from w m n (suc k)) → (o : Option Varblock) → lead_at w m k ≡ o
        → All (OfMap w h m) (one_or_none o ++ leads_from w m n (suc k))
    go others None e = others
    go others (Some v) e = All-cons (OfMap w h m) v (leads_from w m n (suc k)) (at_number w h m wide k v (omega arith) e).1 others

pub leads_of_map : (w h : ℕ) (m : ℕ → ℕ → Record) → 0 < w → All (OfMap w h m) (leads w h m)
leads_of_map w h m wide = subst (All (OfMap w h m)) (from_first w h m) (all_of_map w h m wide (w * h) 0 (omega arith))
