-- What rebuild answers, from what it checks, and what an accepted call has found.
use Rattle.std.proofs.Common.{◌≡◌, ℕ, ◌*◌, ◌≤◌, true, ◌&&◌, leb, length, Ok, Result, sym, ap, ◌∙◌, subst, arith}
use lib.Ieee.{Float}
use Rattle.std.proofs.lemmas.Bool.{and_parts, and_from, leb-true}
use Rattle.std.proofs.lemmas.Nat.{mul-le}
use Rattle.grid.specs.declared.xyb.Xyb.{Xyb}
use Rattle.grid.specs.Plane.{Plane, fitting, seen}
use Rattle.grid.specs.Channels.{all_fit, all_seen}
use Rattle.grid.proofs.Sized.{sized_true}
use Rattle.kinds.proofs.Sizes.{wide_is, high_is}
use Rattle.refusal.specs.declared.Refusal.{Refusal}
use Rattle.refusal.specs.declared.Reason.TheVariants as reason
use Rattle.refusal.specs.Verdicts.{demand, and_then}
use Rattle.refusal.proofs.Rows.{and_ok, demand_ok}
use Rattle.varmap.specs.declared.cells.Cell.{Cell}
use Rattle.varmap.specs.declared.cells.Record.{Record}
use Rattle.varmap.specs.declared.map.Map.{Map}
use Rattle.varmap.specs.Cells.{cells}
use Rattle.varmap.specs.Map.{map_checked}
use Rattle.frame.specs.declared.stages.Stage.{Stage}
use Rattle.channels.proofs.Fitting.{fits_three}
use Rattle.blocks.specs.declared.leads.Varblock.{Varblock}
use Rattle.blocks.specs.Leads.{leads, OfMap}
use Rattle.blocks.specs.Walk.{records, leads_of}
use Rattle.blocks.proofs.Counting.{count_below}
use Rattle.blocks.proofs.Holders.{whole}
use Rattle.rebuild.specs.declared.judge.Checked.{Checked}
use Rattle.rebuild.specs.Answer.{rebuild_turn, rebuild_judged, rebuild_answer, lead_count}
use Rattle.rebuild.specs.Checked.{Holds, IsChecked}
use Rattle.rebuild.specs.Rebuilt.{Ready, Rebuildable}

module _ (w8 h8 : ℕ) (st : Stage) (p : Xyb (Plane Float)) (map : Plane Cell) (lf : Xyb (Plane Float)) (room : ℕ) where
  abbrev cs : ℕ → ℕ → Record
  cs = cells map.shape map.list

  -- where all other rows pass, the map counts
  by_map : rebuild_turn st ≡ true → all_fit (8 * w8) (8 * h8) p ≡ true → fitting w8 h8 map ≡ true → all_fit w8 h8 lf ≡ true
      → leb 512 room ≡ true
      → rebuild_judged w8 h8 st (all_fit (8 * w8) (8 * h8) p) map lf room ≡ map_checked map.shape.width map.shape.height cs
  by_map turn outs sized fits enough =
      let m = sized_true w8 h8 map.shape (length map.list) sized in
      let fit = all_fit (8 * w8) (8 * h8) p in
      let rest = and_then (demand (leb 512 room) reason.Scratch) (map_checked w8 h8 cs) in
      let shape : ((fit && fitting w8 h8 map) && all_fit w8 h8 lf) ≡ true = and_from _ _ (and_from _ _ outs sized) fits in
      ap (λ v. and_then (demand v reason.Turn) (and_then (demand ((fit && fitting w8 h8 map) && all_fit w8 h8 lf) reason.Shape) rest)) turn
      ∙ ap (λ v. and_then (demand v reason.Shape) rest) shape
      ∙ ap (λ v. and_then (demand v reason.Scratch) (map_checked w8 h8 cs)) enough
      ∙ ap (λ w. map_checked w h8 cs) (sym m.width)
      ∙ ap (λ h. map_checked map.shape.width h cs) (sym m.height)

-- where all other rows pass, what was checked is what was given
pub checked_as : (w8 h8 a b : ℕ) (st s : Stage) (p : Xyb (Plane Float)) (map k : Plane Cell) (lf m : Xyb (Plane Float)) (room : ℕ)
    (r : Result Checked Refusal) → a ≡ w8 → b ≡ h8 → s ≡ st → rebuild_turn s ≡ true → all_fit (8 * a) (8 * b) p ≡ true
    → (fitting a b map ≡ true) × (k ≡ map) → (all_fit a b lf ≡ true) × (m ≡ lf) → leb 512 room ≡ true
    → IsChecked (map_checked k.shape.width k.shape.height (cells k.shape k.list)) k m r
    → IsChecked (rebuild_judged w8 h8 st (all_fit (8 * w8) (8 * h8) p) map lf room) map lf r
checked_as w8 h8 a b st s p map k lf m room r wide tall stage turn outs sized fits enough c =
    let e : rebuild_judged w8 h8 st (all_fit (8 * w8) (8 * h8) p) map lf room ≡ map_checked map.shape.width map.shape.height (cells map.shape map.list) =
    ap (λ v. rebuild_judged v h8 st (all_fit (8 * v) (8 * h8) p) map lf room) (sym wide)
    ∙ ap (λ v. rebuild_judged a v st (all_fit (8 * a) (8 * v) p) map lf room) (sym tall)
    ∙ ap (λ v. rebuild_judged a b v (all_fit (8 * a) (8 * b) p) map lf room) (sym stage)
    ∙ by_map a b s p map lf room turn outs sized.0 fits.0 enough in
    subst (λ v. IsChecked v map lf r) (sym e)
    (subst (λ v. IsChecked (map_checked map.shape.width map.shape.height (cells map.shape map.list)) map v r) fits.1
    (subst (λ (v : Plane Cell). IsChecked (map_checked v.shape.width v.shape.height (cells v.shape v.list)) v m r) sized.1 c))

pub all_ready : (map : Map) (lf samples : Plane Float) (room : ℕ) → Rebuildable map lf samples room → (v : Varblock)
    → OfMap map.grid.shape.width map.grid.shape.height (records map) v → Ready lf room v
all_ready map lf samples room r v l =
    let k = whole _ _ _ map.lawful v l in
    let ww = wide_is v.kind k.size k.carried in
    let hh = high_is v.kind k.size k.carried in
    record { across = omega (arith, k.across, r.lf_width); down = omega (arith, k.down, r.lf_height); enough = r.enough }

-- one channel of an accepted call
pub rebuildable : (w8 h8 : ℕ) (map : Map) (lf samples : Plane Float) (room : ℕ) → fitting w8 h8 (seen map.grid) ≡ true
    → fitting w8 h8 lf ≡ true → fitting (8 * w8) (8 * h8) samples ≡ true → 512 ≤ room → Rebuildable map lf samples room
rebuildable w8 h8 map lf samples room m l s enough =
    let zm = sized_true _ _ _ _ m in
    let zl = sized_true _ _ _ _ l in
    let zs = sized_true _ _ _ _ s in
    record {
      lawful = zs.lawful;
      width = zs.width ∙ ap (λ w. 8 * w) (sym zm.width);
      height = zs.height ∙ ap (λ h. 8 * h) (sym zm.height);
      lf_width = zl.width ∙ sym zm.width;
      lf_height = zl.height ∙ sym zm.height;
      enough = enough;
    }

-- there are few leads
pub few_leads : (w h : ℕ) (m : ℕ → ℕ → Record) → w ≤ 128 → h ≤ 128 → length (leads w h m) ≤ 16384
unfolding leads
few_leads w h m a b = omega (arith, count_below w m (w * h), mul-le w h 128 128 a b)

-- the three channels of an accepted call, and its count
pub record Found (w8 h8 : ℕ) (c : Checked) (samples : Xyb (Plane Float)) (map : Plane Cell) (room : ℕ) : Type 0 where
  pub x : Rebuildable c.map (seen c.lf.x) samples.x room
  pub y : Rebuildable c.map (seen c.lf.y) samples.y room
  pub b : Rebuildable c.map (seen c.lf.b) samples.b room
  pub count : length (leads_of c.map) ≡ lead_count w8 h8 map
  pub few : w8 ≤ 128 → h8 ≤ 128 → length (leads_of c.map) ≤ 16384

-- as it is read off the very things that were checked
found_of : (w8 h8 : ℕ) (st : Stage) (samples : Xyb (Plane Float)) (room : ℕ) (c : Checked)
    → rebuild_judged w8 h8 st (all_fit (8 * w8) (8 * h8) samples) (seen c.map.grid) (all_seen c.lf) room ≡ Ok tt
    → Found w8 h8 c samples (seen c.map.grid) room
found_of w8 h8 st samples room c e =
    let map = seen c.map.grid in
    let turn = and_ok _ _ _ e in
    let shape = and_ok _ _ _ turn.1 in
    let scratch = and_ok _ _ _ shape.1 in
    let s = and_parts (all_fit (8 * w8) (8 * h8) samples && fitting w8 h8 map) (all_fit w8 h8 (all_seen c.lf)) (demand_ok _ _ shape.0) in
    let t = and_parts (all_fit (8 * w8) (8 * h8) samples) (fitting w8 h8 map) s.0 in
    let u = fits_three w8 h8 (all_seen c.lf) s.1 in
    let v = fits_three (8 * w8) (8 * h8) samples t.0 in
    let enough = leb-true _ _ (demand_ok _ _ scratch.0) in
    let z = sized_true w8 h8 map.shape (length map.list) t.1 in
    let same : length (leads_of c.map) ≡ lead_count w8 h8 map =
    ap (λ w. length (leads w map.shape.height (records c.map))) z.width ∙ ap (λ h. length (leads w8 h (records c.map))) z.height in
    record {
      x = rebuildable w8 h8 c.map (seen c.lf.x) samples.x room t.1 u.0 v.0 enough;
      y = rebuildable w8 h8 c.map (seen c.lf.y) samples.y room t.1 u.1 v.1 enough;
      b = rebuildable w8 h8 c.map (seen c.lf.b) samples.b room t.1 u.2 v.2 enough;
      count = same;
      few = λ a b. subst (λ n. n ≤ 16384) (sym same) (few_leads w8 h8 (records c.map) a b);
    }

pub found : (w8 h8 : ℕ) (st : Stage) (p q : Xyb (Plane Float)) (map : Plane Cell) (lf : Xyb (Plane Float)) (room : ℕ) (c : Checked)
    → q ≡ p → rebuild_judged w8 h8 st (all_fit (8 * w8) (8 * h8) q) map lf room ≡ Ok tt → Holds map lf c → Found w8 h8 c p map room
found w8 h8 st p q map lf room c same e k =
    subst (λ p. Found w8 h8 c p map room) same
    (subst (λ m. Found w8 h8 c q m room) k.map
    (found_of w8 h8 st q room c
    (subst (λ m. rebuild_judged w8 h8 st (all_fit (8 * w8) (8 * h8) q) m (all_seen c.lf) room ≡ Ok tt) (sym k.map)
    (subst (λ l. rebuild_judged w8 h8 st (all_fit (8 * w8) (8 * h8) q) map l room ≡ Ok tt) (sym k.lf) e))))

-- the answer of an accepted call
pub answer_is : (w8 h8 : ℕ) (st : Stage) (p q : Xyb (Plane Float)) (map : Plane Cell) (lf : Xyb (Plane Float)) (room : ℕ) (n : ℕ)
    → q ≡ p → rebuild_judged w8 h8 st (all_fit (8 * w8) (8 * h8) q) map lf room ≡ Ok tt → n ≡ lead_count w8 h8 map
    → Ok n ≡ rebuild_answer w8 h8 st map lf p room
answer_is w8 h8 st p q map lf room n same e k =
    ap Ok k
    ∙ sym
    (ap (λ p. rebuild_answer w8 h8 st map lf p room) (sym same)
    ∙ ap (λ v. and_then v (Ok (lead_count w8 h8 map))) e)
