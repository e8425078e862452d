-- Which leads of a map have their weights.
use Rattle.std.proofs.Common.{◌≡◌, ℕ, zero, suc, ◌+◌, ◌*◌, ◌/◌, ◌%◌, ◌≤◌, Bool, true, false, cond, not, ◌&&◌, ◌==◌, leb, List, length, Bor, [], ◌∷◌, ◌++◌, Some, None, Option, Ok, Err, sym, refl, ap, ◌∙◌, subst, arith}
use Rattle.std.specs.List.{slice_range}
use Rattle.std.specs.Option.{MatchOption}
use lib.Ieee.{Float}
use Rattle.std.proofs.lemmas.Bool.{and_parts, leb-true}
use Rattle.kinds.specs.Kinds.{wide, high}
use Rattle.refusal.specs.declared.Reason.TheVariants as reason
use Rattle.refusal.specs.Verdicts.{Verdict, refusal, checked_from, checked_cells}
use Rattle.refusal.proofs.Checked.{checked_passed}
use Rattle.varmap.specs.declared.cells.Record.{Record}
use Rattle.varmap.specs.declared.cells.Record.TheVariants.{Empty, Lead, Covered}
use Rattle.blocks.specs.declared.leads.Varblock.{Varblock}
use Rattle.blocks.specs.Leads.{leads_to, one_or_none, leads, OfMap}
use Rattle.blocks.specs.Walk.{leads_from}
use Rattle.blocks.proofs.Counting.{from_first}
use Rattle.weights.specs.Weights.{Table, start, start_of, weights_of, weighs, weighed, weighed_at, placed_weighed}

-- a kind with no start has no weights
pub no_start : (t : Table) (kind : ℕ) → start_of t kind ≡ None → weighs t kind ≡ false
unfolding weighs
no_start t kind e = go (start t kind == 4294967295) e
  where
    go : (b : Bool) → cond b None (Some (start t kind)) ≡ None → (not b && leb (start t kind + 64 * (wide kind * high kind)) (length t.list)) ≡ false
    go true e = refl
    go false e = let bad : ◌≡◌ {A = ℕ} 0 1 = cc in absurd (omega arith)

-- a kind with a start has its weights exactly where they do not pass the list's end
pub started : (t : Table) (kind s : ℕ) → start_of t kind ≡ Some s
    → (start t kind ≡ s) × (weighs t kind ≡ leb (start t kind + 64 * (wide kind * high kind)) (length t.list))
unfolding weighs
started t kind s e = go (start t kind == 4294967295) e
  where
    go : (b : Bool) → cond b None (Some (start t kind)) ≡ Some s
        → (start t kind ≡ s) × ((not b && leb (start t kind + 64 * (wide kind * high kind)) (length t.list)) ≡ leb (start t kind + 64 * (wide kind * high kind)) (length t.list))
    go true e = let bad : ◌≡◌ {A = ℕ} 0 1 = cc in absurd (omega arith)
    go false e = (cc, refl)

-- a kind that has its weights has them in the list
pub enough : (t : Table) (kind : ℕ) → weighs t kind ≡ true → start t kind + 64 * (wide kind * high kind) ≤ length t.list
unfolding weighs
enough t kind e = leb-true _ _ (and_parts _ _ e).1

-- the part of the list that was found
pub part_of : (t : Table) (kind s n : ℕ) (o : Option (Bor (List Float))) → start_of t kind ≡ Some s → n ≡ 64 * (wide kind * high kind)
    → MatchOption o (leb (s + n) (length t.list) ≡ false) (λ r. (leb (s + n) (length t.list) ≡ true) × (r.now ≡ slice_range t.list s (s + n)))
    → MatchOption o (weighs t kind ≡ false) (λ r. (weighs t kind ≡ true) × (r.now ≡ weights_of t kind))
part_of t kind s n o e f found =
    let k = started t kind s e in
    let at : ℕ → ℕ → Type 0 =
    λ s n. MatchOption o (leb (s + n) (length t.list) ≡ false) (λ r. (leb (s + n) (length t.list) ≡ true) × (r.now ≡ slice_range t.list s (s + n))) in
    subst (λ b. MatchOption o (b ≡ false) (λ r. (b ≡ true) × (r.now ≡ weights_of t kind))) (sym k.1)
    (subst (λ n. at (start t kind) n) f (subst (λ s. at s n) (sym k.0) found))

-- the first of these varblocks that has no weights is refused
abbrev pub judged : ℕ → Table → List Varblock → Verdict
judged channel t [] = Ok tt
judged channel t (v ∷ vs) = cond (weighs t v.kind) (judged channel t vs) (Err (refusal reason.Weight channel v.x v.y))

module _ (w h : ℕ) (m : ℕ → ℕ → Record) (channel : ℕ) (t : Table) where
  -- a cell passes as its varblock does, and one that leads none passes
  one : (x y : ℕ) (r : Record) (vs : List Varblock)
      → cond (weighed t r) (judged channel t vs) (Err (refusal reason.Weight channel x y)) ≡ judged channel t (one_or_none (leads_to x y r) ++ vs)
  one x y Empty vs = refl
  one x y (Lead kind mul) vs = refl
  one x y (Covered dx dy) vs = refl

  judged_from : (n k : ℕ)
      → checked_from (λ k. weighed_at t m (k % w) (k / w)) (λ k. refusal reason.Weight channel (k % w) (k / w)) n k ≡ judged channel t (leads_from w m n k)
  unfolding checked_from leads_from
  judged_from zero k = refl
  judged_from (suc n) k =
      ap (λ r. cond (weighed_at t m (k % w) (k / w)) r (Err (refusal reason.Weight channel (k % w) (k / w)))) (judged_from n (suc k))
      ∙ one (k % w) (k / w) (m (k % w) (k / w)) (leads_from w m n (suc k))

  -- the check goes from lead to lead
  pub judged_leads : placed_weighed w h m channel t ≡ judged channel t (leads w h m)
  unfolding placed_weighed checked_cells
  judged_leads = judged_from (w * h) 0 ∙ ap (judged channel t) (from_first w h m)

  -- each varblock of a channel that passed has its weights
  pub lead_weighs : 1 ≤ w → placed_weighed w h m channel t ≡ Ok tt → (v : Varblock) → OfMap w h m v → weighs t v.kind ≡ true
  unfolding placed_weighed
  lead_weighs p e v of =
      ap (weighed t) (sym of.lead)
      ∙ checked_passed w h (weighed_at t m) (refusal reason.Weight channel) p e v.x v.y of.across of.down
