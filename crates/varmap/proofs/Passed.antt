-- What a check that passed tells of the map.
use Rattle.std.proofs.Common.{◌≡◌, ℕ, ◌≤◌, true, Ok, sym, refl}
use Rattle.std.proofs.lemmas.Bool.{true≢false}
use Rattle.refusal.proofs.Checked.{checked_passed}
use Rattle.varmap.specs.declared.cells.Record.{Record}
use Rattle.varmap.specs.declared.cells.Record.TheVariants.{Empty, Lead, Covered}
use Rattle.varmap.specs.Cells.{is_empty}
use Rattle.varmap.specs.Map.{map_checked, LawfulMap}

pub passed_lawful : (w h : ℕ) (m : ℕ → ℕ → Record) → 1 ≤ w → map_checked w h m ≡ Ok tt → LawfulMap w h m
unfolding map_checked
passed_lawful w h m p e = checked_passed w h _ _ p e

pub empty_true : (r : Record) → is_empty r ≡ true → r ≡ Empty
empty_true Empty e = refl
empty_true (Lead kind mul) e = absurd (true≢false (sym e))
empty_true (Covered dx dy) e = absurd (true≢false (sym e))
