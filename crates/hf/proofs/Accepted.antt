-- What HF dequantise answers, from what it checks, and what an accepted call has found.
use Rattle.std.proofs.Common.{◌≡◌, ℕ, ◌*◌, ◌≤◌, true, ◌&&◌, leb, length, ℤ, Ok, Result, sym, ap, ◌∙◌, subst, arith}
use lib.Ieee.{Float}
use Rattle.std.proofs.lemmas.Bool.{and_parts, and_from, leb-true, eqb-true}
use Rattle.grid.specs.declared.xyb.Xyb.{Xyb}
use Rattle.grid.specs.Plane.{Plane, fitting, seen}
use Rattle.grid.specs.Channels.{all_fit}
use Rattle.grid.proofs.Sized.{sized_true, wide_enough}
use Rattle.kinds.proofs.Sizes.{carried_below, wide_is, high_is}
use Rattle.refusal.specs.declared.Refusal.{Refusal}
use Rattle.refusal.specs.declared.Reason.TheVariants as reason
use Rattle.refusal.specs.Verdicts.{Verdict, Answer, demand, and_then}
use Rattle.refusal.proofs.Rows.{and_ok, demand_ok}
use Rattle.varmap.specs.declared.cells.Cell.{Cell}
use Rattle.varmap.specs.declared.map.Map.{Map}
use Rattle.varmap.specs.Cells.{cells}
use Rattle.varmap.specs.Map.{map_checked}
use Rattle.frame.specs.declared.stages.Stage.{Stage}
use Rattle.blocks.specs.declared.leads.Varblock.{Varblock}
use Rattle.blocks.specs.Leads.{OfMap}
use Rattle.blocks.specs.Walk.{records}
use Rattle.blocks.proofs.Holders.{whole}
use Rattle.channels.specs.Ranges.{range_checked}
use Rattle.channels.specs.Checked.{judged, Judged}
use Rattle.channels.proofs.Fitting.{fits_three, range_passed}
use Rattle.weights.specs.Weights.{Table, weighs, placed_weighed}
use Rattle.weights.proofs.Weighed.{lead_weighs, enough}
use Rattle.hf_block.specs.declared.work.Scales.{Scales}
use Rattle.hf_block.specs.Dequantised.{Ready, Writable}
use Rattle.hf.specs.declared.quantiser.Quantiser.{Quantiser}
use Rattle.hf.specs.Answer.{hf_dequantise_turn, starts_ok, starts_full, scale_ok, floats_judged, weights_judged, values_judged, hf_dequantise_answer, scales_x, scales_y, scales_b}

-- a check by a grid's own sides
own_sides : (w h channel : ℕ) (n : Plane ℤ) → fitting w h n ≡ true → range_checked w h channel n ≡ judged channel n
own_sides w h channel n e =
    let z = sized_true w h n.shape (length n.list) e in
    ap (λ w. range_checked w h channel n) (sym z.width) ∙ ap (λ h. range_checked n.shape.width h channel n) (sym z.height)

module _ (w8 h8 : ℕ) (st : Stage) (p : Xyb (Plane Float)) (map : Plane Cell) (n : Xyb (Plane ℤ)) (t : Xyb Table) (by : Quantiser) where
  abbrev w : ℕ
  w = 8 * w8

  abbrev h : ℕ
  h = 8 * h8

  -- the rows after SHAPE, from the sides of the map and what the checks of the coefficients say
  abbrev after_shape : ℕ → ℕ → Verdict → Verdict → Verdict → Answer
  after_shape w h x y b =
      and_then (map_checked w h (cells map.shape map.list))
      (and_then (and_then (demand (scale_ok by.global_scale) reason.Range) (and_then x (and_then y b)))
      (and_then (floats_judged t by) (and_then (weights_judged w h (cells map.shape map.list) t) (Ok 0))))

  -- where stage and shapes pass, the values count
  pub by_values : hf_dequantise_turn st ≡ true → all_fit w h p ≡ true → fitting w8 h8 map ≡ true → all_fit w h n ≡ true
      → starts_full t ≡ true → hf_dequantise_answer w8 h8 st p map n t by ≡ values_judged map n t by
  by_values turn outs sized numbers starts =
      let m = sized_true w8 h8 map.shape (length map.list) sized in
      let f = fits_three w h n numbers in
      let rest = after_shape w8 h8 (range_checked w h 0 n.x) (range_checked w h 1 n.y) (range_checked w h 2 n.b) in
      let shape : (((all_fit w h p && fitting w8 h8 map) && all_fit w h n) && starts_full t) ≡ true =
      and_from _ _ (and_from _ _ (and_from _ _ outs sized) numbers) starts in
      ap
      (λ v. and_then (demand v reason.Turn)
      (and_then (demand (((all_fit w h p && fitting w8 h8 map) && all_fit w h n) && starts_full t) reason.Shape) rest)) turn
      ∙ ap (λ v. and_then (demand v reason.Shape) rest) shape
      ∙ ap (λ v. after_shape w8 h8 v (range_checked w h 1 n.y) (range_checked w h 2 n.b)) (own_sides w h 0 n.x f.0)
      ∙ ap (λ v. after_shape w8 h8 (judged 0 n.x) v (range_checked w h 2 n.b)) (own_sides w h 1 n.y f.1)
      ∙ ap (λ v. after_shape w8 h8 (judged 0 n.x) (judged 1 n.y) v) (own_sides w h 2 n.b f.2)
      ∙ ap (λ v. after_shape v h8 (judged 0 n.x) (judged 1 n.y) (judged 2 n.b)) (sym m.width)
      ∙ ap (λ v. after_shape map.shape.width v (judged 0 n.x) (judged 1 n.y) (judged 2 n.b)) (sym m.height)

-- where stage and shapes pass, what was checked is what was given
pub checked_as : (w8 h8 a b : ℕ) (st s : Stage) (p : Xyb (Plane Float)) (map k : Plane Cell) (n m : Xyb (Plane ℤ)) (t u : Xyb Table) (by : Quantiser)
    (r : Result Map Refusal) → a ≡ w8 → b ≡ h8 → s ≡ st → hf_dequantise_turn s ≡ true → all_fit (8 * a) (8 * b) p ≡ true
    → (fitting a b map ≡ true) × (k ≡ map) → (all_fit (8 * a) (8 * b) n ≡ true) × (m ≡ n) → (starts_full t ≡ true) × (u ≡ t)
    → Judged (values_judged k m u by) (λ c. seen c.grid ≡ k) r → Judged (hf_dequantise_answer w8 h8 st p map n t by) (λ c. seen c.grid ≡ map) r
checked_as w8 h8 a b st s p map k n m t u by r sides tall stage turn outs sized numbers starts c =
    let e : hf_dequantise_answer w8 h8 st p map n t by ≡ values_judged map n t by =
    ap (λ v. hf_dequantise_answer v h8 st p map n t by) (sym sides)
    ∙ ap (λ v. hf_dequantise_answer a v st p map n t by) (sym tall)
    ∙ ap (λ v. hf_dequantise_answer a b v p map n t by) (sym stage)
    ∙ by_values a b s p map n t by turn outs sized.0 numbers.0 starts.0 in
    subst (λ v. Judged v (λ c. seen c.grid ≡ map) r) (sym e)
    (subst (λ v. Judged (values_judged map n v by) (λ c. seen c.grid ≡ map) r) starts.1
    (subst (λ v. Judged (values_judged map v u by) (λ c. seen c.grid ≡ map) r) numbers.1
    (subst (λ v. Judged (values_judged v m u by) (λ c. seen c.grid ≡ v) r) sized.1 c)))

-- what is known of one channel of an accepted call
record Channel (w8 h8 : ℕ) (map : Map) (channel : ℕ) (p : Plane Float) (n : Plane ℤ) (t : Table) : Type 0 where
  samples : fitting (8 * w8) (8 * h8) p ≡ true
  numbers : fitting (8 * w8) (8 * h8) n ≡ true
  range : range_checked (8 * w8) (8 * h8) channel n ≡ Ok tt
  starts : length t.starts ≡ 27
  weights : placed_weighed w8 h8 (records map) channel t ≡ Ok tt

-- each varblock's kind has its weights
all_weigh : (w8 h8 : ℕ) (map : Map) (channel : ℕ) (p : Plane Float) (n : Plane ℤ) (t : Table) → fitting w8 h8 (seen map.grid) ≡ true
    → Channel w8 h8 map channel p n t
    → (v : Varblock) → OfMap map.grid.shape.width map.grid.shape.height (records map) v → weighs t v.kind ≡ true
all_weigh w8 h8 map channel p n t sized ch v of =
    let m = sized_true w8 h8 map.grid.shape (length map.grid.list.now) sized in
    lead_weighs w8 h8 (records map) channel t (wide_enough _ _ _ _ m) ch.weights v
    (subst (λ w. OfMap w h8 (records map) v) m.width (subst (λ h. OfMap map.grid.shape.width h (records map) v) m.height of))

module _ (w8 h8 : ℕ) (map : Map) (channel : ℕ) (p : Plane Float) (n : Plane ℤ) (t : Table) (by : Scales)
    (sized : fitting w8 h8 (seen map.grid) ≡ true) (small : by.global_scale ≤ 73728) (ch : Channel w8 h8 map channel p n t) where
  -- each varblock can be dequantised
  all_ready : (v : Varblock) → OfMap map.grid.shape.width map.grid.shape.height (records map) v → Ready n t by v
  all_ready v of =
      let m = sized_true w8 h8 map.grid.shape (length map.grid.list.now) sized in
      let z = sized_true _ _ _ _ ch.numbers in
      let k = whole map.grid.shape.width map.grid.shape.height (records map) map.lawful v of in
      let ww = wide_is v.kind k.size k.carried in
      let hh = high_is v.kind k.size k.carried in
      record {
        lawful = z.lawful;
        across = omega (arith, k.across, z.width, m.width);
        down = omega (arith, k.down, z.height, m.height);
        range = λ x y i.
            range_passed (8 * w8) (8 * h8) channel n ch.numbers ch.range x y
            (omega (arith, i.across, z.width)) (omega (arith, i.down, z.height));
        starts = omega (arith, carried_below _ k.size k.carried, ch.starts);
        weights = enough t v.kind (all_weigh w8 h8 map channel p n t sized ch v of);
        small = small;
        mul = k.most;
      }

  -- so the channel can be written
  writable : Writable map n t by p
  writable =
      let m = sized_true w8 h8 map.grid.shape (length map.grid.list.now) sized in
      let z = sized_true _ _ _ _ ch.samples in
      record {
        samples_lawful = z.lawful;
        width = z.width ∙ ap (λ w. 8 * w) (sym m.width);
        height = z.height ∙ ap (λ h. 8 * h) (sym m.height);
        ready = all_ready;
      }

-- the three channels of an accepted call: each can be written, and has its weights for the kind of each varblock
pub record Written (map : Map) (n : Xyb (Plane ℤ)) (t : Xyb Table) (by : Quantiser) (p : Xyb (Plane Float)) : Type 0 where
  pub x : Writable map n.x t.x (scales_x by) p.x
  pub y : Writable map n.y t.y (scales_y by) p.y
  pub b : Writable map n.b t.b (scales_b by) p.b
  pub weighed : (v : Varblock) → OfMap map.grid.shape.width map.grid.shape.height (records map) v
      → (weighs t.x v.kind ≡ true) × (weighs t.y v.kind ≡ true) × (weighs t.b v.kind ≡ true)

-- as it is read off the very map that was checked
written : (w8 h8 : ℕ) (st : Stage) (p : Xyb (Plane Float)) (map : Map) (n : Xyb (Plane ℤ)) (t : Xyb Table) (by : Quantiser)
    → hf_dequantise_answer w8 h8 st p (seen map.grid) n t by ≡ Ok 0 → Written map n t by p
written w8 h8 st p map n t by e =
    let turn = and_ok _ _ _ e in
    let shape = and_ok _ _ _ turn.1 in
    let lawful = and_ok _ _ _ shape.1 in
    let range = and_ok _ _ _ lawful.1 in
    let float = and_ok _ _ _ range.1 in
    let weight = and_ok _ _ _ float.1 in
    let r0 = and_ok _ _ _ range.0 in
    let r1 = and_ok _ _ _ r0.1 in
    let r2 = and_ok _ _ _ r1.1 in
    let w0 = and_ok _ _ _ weight.0 in
    let w1 = and_ok _ _ _ w0.1 in
    let outer = and_parts _ (starts_full t) (demand_ok _ _ shape.0) in
    let middle = and_parts _ (all_fit (8 * w8) (8 * h8) n) outer.0 in
    let inner = and_parts (all_fit (8 * w8) (8 * h8) p) (fitting w8 h8 (seen map.grid)) middle.0 in
    let s = and_parts (starts_ok t.x && starts_ok t.y) (starts_ok t.b) outer.1 in
    let u = and_parts (starts_ok t.x) (starts_ok t.y) s.0 in
    let f = fits_three (8 * w8) (8 * h8) p inner.0 in
    let g = fits_three (8 * w8) (8 * h8) n middle.1 in
    let scale = and_parts (leb 1 by.global_scale) (leb by.global_scale 73728) (demand_ok _ _ r0.0) in
    let small = leb-true _ _ scale.1 in
    let x : Channel w8 h8 map 0 p.x n.x t.x = record { samples = f.0; numbers = g.0; range = r1.0; starts = eqb-true _ _ u.0; weights = w0.0 } in
    let y : Channel w8 h8 map 1 p.y n.y t.y = record { samples = f.1; numbers = g.1; range = r2.0; starts = eqb-true _ _ u.1; weights = w1.0 } in
    let b : Channel w8 h8 map 2 p.b n.b t.b = record { samples = f.2; numbers = g.2; range = r2.1; starts = eqb-true _ _ s.1; weights = w1.1 } in
    record {
      x = writable w8 h8 map 0 p.x n.x t.x (scales_x by) inner.1 small x;
      y = writable w8 h8 map 1 p.y n.y t.y (scales_y by) inner.1 small y;
      b = writable w8 h8 map 2 p.b n.b t.b (scales_b by) inner.1 small b;
      weighed = λ v of. (
        all_weigh w8 h8 map 0 p.x n.x t.x inner.1 x v of,
        all_weigh w8 h8 map 1 p.y n.y t.y inner.1 y v of,
        all_weigh w8 h8 map 2 p.b n.b t.b inner.1 b v of,
      );
    }

pub accepted : (w8 h8 : ℕ) (st : Stage) (p q : Xyb (Plane Float)) (cells : Plane Cell) (map : Map) (n : Xyb (Plane ℤ)) (t : Xyb Table) (by : Quantiser)
    → q ≡ p → hf_dequantise_answer w8 h8 st q cells n t by ≡ Ok 0 → seen map.grid ≡ cells → Written map n t by p
accepted w8 h8 st p q cells map n t by same e here =
    subst (Written map n t by) same
    (written w8 h8 st q map n t by (subst (λ m. hf_dequantise_answer w8 h8 st q m n t by ≡ Ok 0) (sym here) e))
