-- What an accepted place found.
use Rattle.std.proofs.Common.{◌≡◌, ℕ, ◌+◌, ◌<◌, ◌≤◌, true, leb, List, length, Some, None, Ok, Option, Result, refl, subst, arith}
use Rattle.std.proofs.lemmas.Bool.{and_parts, leb-true}
use Rattle.grid.specs.declared.Shape.{Shape}
use Rattle.grid.proofs.Sized.{Sized, sized_true, wide_enough}
use Rattle.kinds.specs.declared.Size.{Size}
use Rattle.kinds.specs.Kinds.{size_of}
use Rattle.kinds.proofs.Sizes.{size_bounded}
use Rattle.refusal.specs.declared.Refusal.{Refusal}
use Rattle.refusal.proofs.Checked.{checked_passed}
use Rattle.refusal.proofs.Rows.{and_ok, demand_ok}
use Rattle.varmap.specs.declared.cells.Cell.{Cell}
use Rattle.varmap.specs.declared.cells.Record.TheVariants.{Empty}
use Rattle.frame.specs.declared.stages.Stage.{Stage}
use Rattle.varmap.specs.Cells.{cells}
use Rattle.frame.specs.Stages.{is_placing}
use Rattle.varmap.specs.Map.{in_range, LawfulMap}
use Rattle.varmap.proofs.Passed.{passed_lawful, empty_true}
use Rattle.frame.specs.Placing.{free_checked, sized_placing, place_judged}

ok_same : (v z : Size) → ◌≡◌ {A = Result Size Refusal} (Ok v) (Ok z) → v ≡ z
ok_same v z e = cc

pub record Accepted (w8 h8 : ℕ) (st : Stage) (s : Shape) (xs : List Cell) (kind x y mul : ℕ) (z : Size) : Type 0 where
  pub turn : is_placing st ≡ true
  pub sized : Sized w8 h8 s (length xs)
  pub lawful : LawfulMap w8 h8 (cells s xs)
  pub carried : size_of kind ≡ Some z
  pub across : x + z.width ≤ w8
  pub down : y + z.height ≤ h8
  pub free : (i j : ℕ) → i < z.width → j < z.height → cells s xs (x + i) (y + j) ≡ Empty
  pub range : in_range mul ≡ true

module _ (w8 h8 : ℕ) (st : Stage) (s : Shape) (xs : List Cell) (kind x y mul : ℕ) (z : Size) where
  from_kind : is_placing st ≡ true → Sized w8 h8 s (length xs) → LawfulMap w8 h8 (cells s xs)
      → (o : Option Size) → size_of kind ≡ o → sized_placing w8 h8 (cells s xs) x y mul o ≡ Ok z
      → Accepted w8 h8 st s xs kind x y mul z
  unfolding free_checked
  from_kind turn fits lawful None q e = let bad : ◌≡◌ {A = ℕ} 0 1 = cc in absurd (omega arith)
  from_kind turn fits lawful (Some v) q e =
      let place_row = and_ok _ _ _ e in
      let b = and_ok _ _ _ place_row.1 in
      let c = and_ok _ _ _ b.1 in
      let same = ok_same v z c.1 in
      let inside = and_parts (leb (x + v.width) w8) (leb (y + v.height) h8) (demand_ok _ _ place_row.0) in
      let bounds = size_bounded kind v q in
      subst (Accepted w8 h8 st s xs kind x y mul) same
      (record {
        turn = turn;
        sized = fits;
        lawful = lawful;
        carried = q;
        across = leb-true _ _ inside.0;
        down = leb-true _ _ inside.1;
        free = λ i j k l. empty_true _ (checked_passed v.width v.height _ _ bounds.wide b.0 i j k l);
        range = demand_ok _ _ c.0;
      })

  pub accepted : place_judged w8 h8 st s xs kind x y mul ≡ Ok z → Accepted w8 h8 st s xs kind x y mul z
  accepted e =
      let turn_row = and_ok _ _ _ e in
      let b = and_ok _ _ _ turn_row.1 in
      let c = and_ok _ _ _ b.1 in
      let fits = sized_true w8 h8 s (length xs) (demand_ok _ _ b.0) in
      from_kind (demand_ok _ _ turn_row.0) fits (passed_lawful w8 h8 _ (wide_enough _ _ _ _ fits) c.0) (size_of kind) refl c.1
