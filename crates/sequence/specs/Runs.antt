-- What calls answer and leave, one after the other.
use Rattle.std.specs.Prelude.{List, [], ◌∷◌, ◌++◌, Ok, Err, Float}
use Rattle.grid.specs.declared.xyb.Xyb.{Xyb}
use Rattle.grid.specs.Plane.{Plane}
use Rattle.refusal.specs.Verdicts.{Answer}
use Rattle.varmap.specs.declared.cells.Cell.{Cell}
use Rattle.frame.specs.declared.stages.Stage.{Stage}
use Rattle.frame.specs.declared.stages.Stage.TheVariants as stage
use Rattle.frame.specs.Placing.{place_answer, placed}
use Rattle.lf.specs.Dequantise.{lf_dequantise_answer, lf_dequantised}
use Rattle.lf.specs.Correlate.{lf_correlate_answer, lf_correlated, gain_x, gain_b}
use Rattle.lf.specs.Smooth.{lf_smooth_answer, lf_smoothed}
use Rattle.blocks.specs.declared.leads.Varblock.{Varblock}
use Rattle.blocks.specs.Leads.{varblock}
use Rattle.hf_block.specs.Dequantised.{hf_dequantised}
use Rattle.hf.specs.Answer.{hf_dequantise_answer, scales_x, scales_y, scales_b}
use Rattle.hf_correlate.specs.Answer.{hf_correlate_answer}
use Rattle.hf_correlate.specs.Correlated.{hf_correlated}
use Rattle.kernel.specs.Maps.{Maps}
use Rattle.rebuild.specs.Answer.{rebuild_answer}
use Rattle.rebuild.specs.Rebuilt.{rebuilt}
use Rattle.sequence.specs.Calls.{Deed, place, lf_dequantise, lf_correlate, lf_smooth, hf_dequantise, hf_correlate, rebuild, State}

-- what a call answers: it reads the stage, shapes, the map and what the call is given, never a sample and never the kernel
abbrev pub answer : Deed → State → Answer
answer (place kind x y mul) s = place_answer s.w8 s.h8 s.stage s.map.shape s.map.list kind x y mul
answer (lf_dequantise numbers scales) s = lf_dequantise_answer s.w8 s.h8 s.stage s.lf numbers scales
answer (lf_correlate by) s = lf_correlate_answer s.w8 s.h8 s.stage s.lf by
answer (lf_smooth steps room) s = lf_smooth_answer s.w8 s.h8 s.stage s.lf steps room
answer (hf_dequantise numbers tables by) s = hf_dequantise_answer s.w8 s.h8 s.stage s.samples s.map numbers tables by
answer (hf_correlate tx tb by) s = hf_correlate_answer s.w8 s.h8 s.stage s.samples tx tb by
answer (rebuild room) s = rebuild_answer s.w8 s.h8 s.stage s.map s.lf s.samples room

-- a grid that holds another list
abbrev pub holding : {A : Type 0} → Plane A → List A → Plane A
holding p xs = record { shape = p.shape; list = xs }

-- a state with other LF samples, other samples, another map
abbrev pub with_lf : State → Stage → Xyb (Plane Float) → State
with_lf s st lf = record { w8 = s.w8; h8 = s.h8; stage = st; map = s.map; lf = lf; samples = s.samples }

abbrev pub with_samples : State → Stage → Xyb (Plane Float) → State
with_samples s st p = record { w8 = s.w8; h8 = s.h8; stage = st; map = s.map; lf = s.lf; samples = p }

abbrev pub with_map : State → Plane Cell → State
with_map s m = record { w8 = s.w8; h8 = s.h8; stage = s.stage; map = m; lf = s.lf; samples = s.samples }

-- what an accepted call leaves, over a kernel's maps
abbrev pub done : Maps → Deed → State → State
done k (place kind x y mul) s = with_map s (holding s.map (placed s.map.shape kind x y mul s.map.list))
done k (lf_dequantise numbers scales) s =
    with_lf s stage.LfDequantised
    (record {
      x = holding s.lf.x (lf_dequantised numbers.x scales.x s.lf.x);
      y = holding s.lf.y (lf_dequantised numbers.y scales.y s.lf.y);
      b = holding s.lf.b (lf_dequantised numbers.b scales.b s.lf.b);
    })
done k (lf_correlate by) s =
    with_lf s stage.LfCorrelated
    (record {
      x = holding s.lf.x (lf_correlated (gain_x by) s.lf.y s.lf.x);
      y = s.lf.y;
      b = holding s.lf.b (lf_correlated (gain_b by) s.lf.y s.lf.b);
    })
done k (lf_smooth steps room) s =
    with_lf s stage.LfSmoothed
    (record {
      x = holding s.lf.x (lf_smoothed s.w8 s.h8 s.lf steps s.lf.x);
      y = holding s.lf.y (lf_smoothed s.w8 s.h8 s.lf steps s.lf.y);
      b = holding s.lf.b (lf_smoothed s.w8 s.h8 s.lf steps s.lf.b);
    })
done k (hf_dequantise numbers tables by) s =
    with_samples s stage.HfDequantised
    (record {
      x = holding s.samples.x (hf_dequantised s.map numbers.x tables.x (scales_x by) s.samples.x);
      y = holding s.samples.y (hf_dequantised s.map numbers.y tables.y (scales_y by) s.samples.y);
      b = holding s.samples.b (hf_dequantised s.map numbers.b tables.b (scales_b by) s.samples.b);
    })
done k (hf_correlate tx tb by) s =
    with_samples s stage.HfCorrelated
    (record {
      x = holding s.samples.x (hf_correlated s.samples.y tx by.base_correlation_x by.colour_factor s.samples.x);
      y = s.samples.y;
      b = holding s.samples.b (hf_correlated s.samples.y tb by.base_correlation_b by.colour_factor s.samples.b);
    })
done k (rebuild room) s =
    with_samples s stage.Rebuilt
    (record {
      x = holding s.samples.x (rebuilt k s.map s.lf.x s.samples.x);
      y = holding s.samples.y (rebuilt k s.map s.lf.y s.samples.y);
      b = holding s.samples.b (rebuilt k s.map s.lf.b s.samples.b);
    })

-- what a call with this answer leaves: all as it was, if it was refused
abbrev pub settled : Maps → Deed → State → Answer → State
settled k d s (Ok n) = done k d s
settled k d s (Err e) = s

abbrev pub next : Maps → Deed → State → State
next k d s = settled k d s (answer d s)

-- what the calls leave
unfoldable pub runs : Maps → List Deed → State → State
runs k [] s = s
runs k (d ∷ ds) s = runs k ds (next k d s)

-- what they answer
unfoldable pub answers : Maps → List Deed → State → List Answer
answers k [] s = []
answers k (d ∷ ds) s = answer d s ∷ answers k ds (next k d s)

-- the varblock of a call with its answer, if it is an accepted placing
abbrev pub placing : Deed → Answer → List Varblock
placing (place kind x y mul) (Ok n) = varblock x y kind mul ∷ []
placing (place kind x y mul) (Err e) = []
placing (lf_dequantise numbers scales) a = []
placing (lf_correlate by) a = []
placing (lf_smooth steps room) a = []
placing (hf_dequantise numbers tables by) a = []
placing (hf_correlate tx tb by) a = []
placing (rebuild room) a = []

-- the accepted placings of a sequence, by its calls and their answers
unfoldable pub placings : List Deed → List Answer → List Varblock
placings [] ts = []
placings (d ∷ ds) [] = []
placings (d ∷ ds) (a ∷ ts) = placing d a ++ placings ds ts
