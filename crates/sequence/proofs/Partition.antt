-- What each call does to the partition of the map: an accepted place adds its varblock, and every other call keeps it.
use Rattle.std.proofs.Common.{◌≡◌, ℕ, List, [], ◌∷◌, ◌++◌, Ok, Err, Result, sym, refl, subst}
use Rattle.std.proofs.lemmas.List.{append-nil, append_assoc}
use Rattle.kinds.specs.declared.Size.{Size}
use Rattle.refusal.specs.declared.Refusal.{Refusal}
use Rattle.refusal.specs.Verdicts.{Answer}
use Rattle.varmap.specs.Cells.{cells}
use Rattle.frame.specs.Placing.{place_judged, answered}
use Rattle.blocks.specs.declared.leads.Varblock.{Varblock}
use Rattle.kernel.specs.Maps.{Maps}
use Rattle.partition.specs.Parted.{Parted}
use Rattle.partition.proofs.Placing.{place_parts}
use Rattle.sequence.specs.Calls.{Deed, place, lf_dequantise, lf_correlate, lf_smooth, hf_dequantise, hf_correlate, rebuild, State}
use Rattle.sequence.specs.Runs.{answer, settled, next, runs, answers, placing, placings}

-- the varblocks part the state's map
abbrev pub Parts : List Varblock → State → Type 0
Parts vs s = Parted s.w8 s.h8 vs (cells s.map.shape s.map.list)

keep : (vs : List Varblock) (s : State) → Parts vs s → Parts (vs ++ []) s
keep vs s p = subst (λ us. Parts us s) (sym (append-nil vs)) p

module _ (k : Maps) where
  by_place : (kind x y mul : ℕ) (vs : List Varblock) (s : State) → Parts vs s → (r : Result Size Refusal)
      → place_judged s.w8 s.h8 s.stage s.map.shape s.map.list kind x y mul ≡ r
      → Parts (vs ++ placing (place kind x y mul) (answered r)) (settled k (place kind x y mul) s (answered r))
  by_place kind x y mul vs s p (Ok z) e = place_parts s.w8 s.h8 s.stage s.map.shape s.map.list kind x y mul z e vs p
  by_place kind x y mul vs s p (Err f) e = keep vs s p

  -- one call
  pub call_parts : (d : Deed) (vs : List Varblock) (s : State) → Parts vs s → Parts (vs ++ placing d (answer d s)) (next k d s)
  call_parts (place kind x y mul) vs s p =
      by_place kind x y mul vs s p (place_judged s.w8 s.h8 s.stage s.map.shape s.map.list kind x y mul) refl
  call_parts (lf_dequantise numbers scales) vs s p = go (answer (lf_dequantise numbers scales) s)
    where
      go : (a : Answer) → Parts (vs ++ []) (settled k (lf_dequantise numbers scales) s a)
      go (Ok n) = keep vs s p
      go (Err e) = keep vs s p
  call_parts (lf_correlate by) vs s p = go (answer (lf_correlate by) s)
    where
      go : (a : Answer) → Parts (vs ++ []) (settled k (lf_correlate by) s a)
      go (Ok n) = keep vs s p
      go (Err e) = keep vs s p
  call_parts (lf_smooth steps room) vs s p = go (answer (lf_smooth steps room) s)
    where
      go : (a : Answer) → Parts (vs ++ []) (settled k (lf_smooth steps room) s a)
      go (Ok n) = keep vs s p
      go (Err e) = keep vs s p
  call_parts (hf_dequantise numbers tables by) vs s p = go (answer (hf_dequantise numbers tables by) s)
    where
      go : (a : Answer) → Parts (vs ++ []) (settled k (hf_dequantise numbers tables by) s a)
      go (Ok n) = keep vs s p
      go (Err e) = keep vs s p
  call_parts (hf_correlate tx tb by) vs s p = go (answer (hf_correlate tx tb by) s)
    where
      go : (a : Answer) → Parts (vs ++ []) (settled k (hf_correlate tx tb by) s a)
      go (Ok n) = keep vs s p
      go (Err e) = keep vs s p
  call_parts (rebuild room) vs s p = go (answer (rebuild room) s)
    where
      go : (a : Answer) → Parts (vs ++ []) (settled k (rebuild room) s a)
      go (Ok n) = keep vs s p
      go (Err e) = keep vs s p

  -- a sequence of calls
  pub runs_parts : (ds : List Deed) (vs : List Varblock) (s : State) → Parts vs s
      → Parts (vs ++ placings ds (answers k ds s)) (runs k ds s)
  unfolding runs answers placings
  runs_parts [] vs s p = keep vs s p
  runs_parts (d ∷ ds) vs s p =
      subst (λ us. Parts us (runs k ds (next k d s)))
      (append_assoc vs (placing d (answer d s)) (placings ds (answers k ds (next k d s))))
      (runs_parts ds (vs ++ placing d (answer d s)) (next k d s) (call_parts d vs s p))
